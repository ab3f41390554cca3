-- What is read after a write, and what is written after a read.
use Rattle.std.proofs.Common.{◌≡◌, ℕ, ◌+◌, ◌<◌, ◌≤◌, true, eqb, ltb, List, map, length, get_or, take, drop, ℤ, None, Ok, sym, ap, ◌∙◌, subst, inl, inr, arith, lit<}
use mathlib.Core.Path.{subst⁻¹}
use Rattle.std.proofs.lemmas.List.{get_or_past, get_or-take, length-take, length-take-le}
use Rattle.std.proofs.lemmas.Bool.{cases_lt, cond-false, le-ltb}
use Rattle.std.specs.Int.Digits.{number_from_digits}
use Rattle.bits.specs.Bits.{bits_of, part, pasted}
use Rattle.bits.proofs.Pasted.{front_pasted, part_before, pasted_part}
use Rattle.bits.proofs.Symbols.{bits_take, length_bits, under_bits}
use Rattle.layout.specs.Layout.{fields_of, number_of, widths}
use Rattle.layout.specs.Placed.{placed}
use Rattle.layout.specs.Ranges.{held, first_outside}
use Rattle.layout.proofs.Sizes.{fits}
use Rattle.message.specs.Lawful.{number_at}
use Rattle.parity.specs.Code.{SymbolList}
use Rattle.parity.proofs.Codewords.{of_symbols}
use Rattle.blocks.specs.Held.{held_in, placed_of}
use Rattle.blocks.specs.Read.{by_range, is_of, read_as}
use Rattle.blocks.specs.Stands.{Stands}
use Rattle.blocks.specs.Write.{pack, first_unfit, written_over, write_answer}
use Rattle.blocks.specs.declared.place.Place.{Place}
use Rattle.blocks.proofs.Packed.{held_pack, length_pack, outside_held, pack_held}
use Rattle.blocks.proofs.Placing.{room}
use Rattle.blocks.proofs.Reading.{of_type}
use Rattle.blocks.proofs.Signs.{sound}

pub answered : (p : Place) (zs : List ℤ) (n : ℕ) → 81 ≤ n → None ≡ first_unfit (placed_of p) zs → Ok tt ≡ write_answer p zs n
answered p zs n h u = ap (λ o. by_range o tt) u ∙ sym (cond-false (ltb n 81) _ _ (le-ltb n 81 h))

-- ---- read after a write

pub symbols_stay : (ss ts : List ℕ) → length ts ≡ length ss → ((k : ℕ) → get_or ss k 0 < 64 → get_or ts k 0 < 64)
    → SymbolList 81 (take 81 ss) → SymbolList 81 (take 81 ts)
symbols_stay ss ts n f s =
    let long : length (take 81 ts) ≡ 81 = omega (arith, length-take 81 ts, length-take 81 ss, s.long) in
    record {
      long = long;
      small =
          λ k. elim (cases_lt k 81) [
            | inl l ↦ subst⁻¹ (λ (x : ℕ). x < 64) (get_or-take 81 ts k 0 l) (f k (subst (λ (x : ℕ). x < 64) (get_or-take 81 ss k 0 l) (s.small k)))
            | inr l ↦ subst⁻¹ (λ (x : ℕ). x < 64) (get_or_past (take 81 ts) k 0 (omega arith)) (lit< tt)
          ];
    }

-- symbols with a block written over their bits begin with the message with that block written over its bits
pub message_over : (p : Place) (size : ℕ) → Stands p size → (zs : List ℤ) (ss ts : List ℕ) → length zs ≡ size → 81 ≤ length ss
    → bits_of ts ≡ written_over p zs (bits_of ss) → bits_of (take 81 ts) ≡ written_over p zs (bits_of (take 81 ss))
message_over p size s zs ss ts counted long over =
    let fs = fields_of p.part in
    let n = length_pack fs zs (counted ∙ sym s.fields) in
    bits_take 81 ts ∙ ap (take 486) over
    ∙ front_pasted (bits_of ss) (pack fs zs) p.first_bit 486 (omega (arith, (room p size s).1, length_bits ss))
    (omega (arith, n, (fits p.part).0, (room p size s).1))
    ∙ ap (written_over p zs) (sym (bits_take 81 ss))

-- the message v is m with the counts zs written over the block
module _ (p : Place) (size : ℕ) (s : Stands p size) (zs : List ℤ) (m v : List ℕ) (counted : length zs ≡ size) (long : length m ≡ 81)
    (over : bits_of v ≡ written_over p zs (bits_of m)) where
  pub inside : p.first_bit ≤ length (bits_of m)
  inside = omega (arith, (room p size s).1, length_bits m)

  same_size : length zs ≡ length (fields_of p.part)
  same_size = counted ∙ sym s.fields

  -- type and second stay
  pub same_number : (b w : ℕ) → b + w ≤ 26 → number_at v b w ≡ number_at m b w
  unfolding number_at
  same_number b w h =
      ap (λ l. number_from_digits 2 (part l b w)) over
      ∙ ap (number_from_digits 2) (part_before (bits_of m) (pack (fields_of p.part) zs) p.first_bit b w inside (omega (arith, (room p size s).0)))

  module _ (unfit : first_unfit (placed_of p) zs ≡ None) where
    pub held_new : held_in p v ≡ zs
    unfolding held_in
    held_new =
        let b = p.first_bit in
        let fs = fields_of p.part in
        ap (λ l. map (λ q. held q l) (placed b fs)) over
        ∙ held_pack fs zs b (take b (bits_of m)) (drop (b + length (pack fs zs)) (bits_of m)) (length-take-le b (bits_of m) inside) same_size
        (sound p.part) unfit

    pub none_outside : first_outside (placed_of p) (bits_of v) ≡ None
    unfolding held_in
    none_outside = outside_held (placed_of p) (bits_of v) ∙ ap (first_unfit (placed_of p)) held_new ∙ unfit

    pub read_back : {R : Type 0} (made : List ℤ → R) → SymbolList 81 v → is_of p.message_type m ≡ true
        → read_as p made v ≡ Ok (made zs)
    read_back made symbols f =
        of_type p made v (of_symbols 81 v symbols) None
        (ap (λ n. eqb n (number_of p.message_type)) (same_number 0 6 (omega arith)) ∙ f) none_outside
        ∙ ap (λ l. Ok (made l)) held_new

-- ---- written after a read

pub write_back : (p : Place) (size : ℕ) → Stands p size → (m : List ℕ) (zs : List ℤ) → length m ≡ 81 → zs ≡ held_in p m
    → written_over p zs (bits_of m) ≡ bits_of m
unfolding held_in
write_back p size s m zs n e =
    let b = p.first_bit in
    let fs = fields_of p.part in
    let inside : b + widths fs ≤ length (bits_of m) = omega (arith, (fits p.part).0, (room p size s).1, length_bits m) in
    ap (λ l. written_over p l (bits_of m)) e ∙ ap (pasted (bits_of m) b) (pack_held fs b (bits_of m) (under_bits m) inside)
    ∙ pasted_part (bits_of m) b (widths fs) inside
