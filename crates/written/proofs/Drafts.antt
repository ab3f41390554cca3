-- A draft after each step: started, a block put, sealed.
use Rattle.std.proofs.Common.{◌≡◌, ℕ, ◌+◌, ◌<◌, ◌≤◌, Bool, true, false, not, ◌||◌, eqb, ◌≢◌, ◌⊎◌, List, map, length, get_or, take, set, replicate, ℤ, is_some, Some, None, Option, sym, refl, ap, ◌∙◌, subst, inl, inr, arith}
use Rattle.std.proofs.lemmas.List.{get_or-set_other}
use Rattle.std.proofs.lemmas.List.Sums.{sum_by_more, sum_by-take-le}
use Rattle.std.proofs.lemmas.Bool.{both_ways, cases_eq, eq-eqb, eqb-true, not-true, or_cases, or_left, cases_Bool}
use Rattle.std.specs.Int.Digits.{number_from_digits as number}
use Rattle.std.specs.List.{AllByRecursion}
use Rattle.bits.specs.Bits.{bits_of, part, pasted, spelled}
use Rattle.bits.proofs.Pasted.{before_pasted, part_before, part_pasted}
use Rattle.bits.proofs.Spelled.{number_spelled}
use Rattle.bits.proofs.Symbols.{length_bits}
use Rattle.blocks.specs.Held.{held_in, placed_of}
use Rattle.blocks.specs.Numbered.{Numbered, block_of}
use Rattle.blocks.specs.Stands.{Stands}
use Rattle.blocks.specs.Write.{first_unfit, pack, written_over}
use Rattle.blocks.specs.declared.place.Place.{Place}
use Rattle.blocks.proofs.Accepted.{in_spread}
use Rattle.blocks.proofs.Packed.{length_pack, outside_held}
use Rattle.blocks.proofs.Written.{held_new, inside, none_outside, same_number}
use Rattle.computed.proofs.Below.{all_below, each2}
use Rattle.crc.specs.Crc.{crc_of, crc_of_message}
use Rattle.crc.proofs.Steps.{steps_lt}
use Rattle.layout.specs.Laws.{start}
use Rattle.layout.specs.Layout.{fields_of, number_of, parts_of, width_of, widths}
use Rattle.layout.specs.Placed.{Placed, is_reserved, looks_at, parameters_of, placed, reserved_of, spread}
use Rattle.layout.specs.Ranges.{InRange, first_outside, held}
use Rattle.layout.specs.declared.MessageType.{MessageType}
use Rattle.layout.specs.declared.MessageType.TheVariants.{Type10, Type30, Type40}
use Rattle.layout.specs.declared.Part.{Part}
use Rattle.layout.specs.declared.Part.TheVariants.{Opaque}
use Rattle.layout.proofs.Laws.{data_end}
use Rattle.layout.proofs.Ranges.{all_none, none_all}
use Rattle.layout.proofs.Sizes.{fits}
use Rattle.message.specs.Lawful.{Lawful, number_at}
use Rattle.parity.specs.Code.{SymbolList}
use Rattle.written.specs.Drafted.{Drafted, PutInto, SealedAs, is_written, written_in_range}
use Rattle.written.specs.Written.{start_bits}
use Rattle.written.proofs.Apart.{Beside, parts_beside, same_held, spread_all}
use Rattle.written.proofs.Laws.{type_small}

-- the fields of part number j, each with its first bit
abbrev fields_at : List Part → ℕ → List Placed
fields_at ps j = placed (start width_of 26 ps j) (fields_of (get_or ps j Opaque))

-- fields that hold the same counts are in range together
same_range : (ps : List Placed) (bs cs : List ℕ) → map (λ q. held q bs) ps ≡ map (λ q. held q cs) ps → AllByRecursion (InRange cs) ps → AllByRecursion (InRange bs) ps
same_range ps bs cs e a =
    none_all ps bs (outside_held ps bs ∙ ap (first_unfit ps) e ∙ sym (outside_held ps cs) ∙ all_none ps cs a)

-- where a block of the type t stands among its parts
record At (q : Place) (t : MessageType) (i : ℕ) : Type 0 where
  inside : i < length (parts_of t)
  part : get_or (parts_of t) i Opaque ≡ q.part
  fields : fields_at (parts_of t) i ≡ placed_of q

placed_at : (q : Place) (size : ℕ) (k : Stands q size) (t : MessageType) → q.message_type ≡ t → At q t k.index
placed_at q size k t e =
    subst (λ (t : MessageType). At q t k.index) e (record { inside = k.inside; part = k.part; fields = rw (k.first, k.part) })

none_from : (o : Option ℕ) → not (is_some o) ≡ true → o ≡ None
none_from None e = refl
none_from (Some b) e = absurd cc

-- the test of the ranges and what it says
in_range_all : (t : MessageType) (done : List Bool) (m : List ℕ) → written_in_range t done m ≡ true → AllByRecursion (InRange (bits_of m)) (spread (is_written done) 26 (parts_of t))
in_range_all t done m e =
    let ps = spread (is_written done) 26 (parts_of t) in
    none_all ps (bits_of m) (none_from (first_outside ps (bits_of m)) e)

all_in_range : (t : MessageType) (done : List Bool) (m : List ℕ) → AllByRecursion (InRange (bits_of m)) (spread (is_written done) 26 (parts_of t)) → written_in_range t done m ≡ true
all_in_range t done m a = ap (λ (o : Option ℕ). not (is_some o)) (all_none (spread (is_written done) 26 (parts_of t)) (bits_of m) a)

-- ---- a draft is started

none_set : (t : MessageType) (s : ℕ) → t ≢ Type40
    → not (is_some (first_outside (spread (is_written (replicate 12 false)) 26 (parts_of t)) (take 486 (start_bits (number_of t) s)))) ≡ true
unfolding first_outside spread placed parts_of fields_of width_of start_bits
none_set Type10 s n = refl
none_set Type30 s n = refl
none_set Type40 s n = absurd (n refl)

pub started_second : (n s : ℕ) (m : List ℕ) → s ≤ 604799 → bits_of m ≡ take 486 (start_bits n s) → number_at m 6 20 ≡ s
unfolding number_at start_bits
started_second n s m h e = ap (λ l. number 2 (part l 6 20)) e ∙ number_spelled 20 s (omega arith)

pub started : (t : MessageType) (s : ℕ) (m : List ℕ) → t ≢ Type40 → s ≤ 604799 → bits_of m ≡ take 486 (start_bits (number_of t) s)
    → Drafted t (replicate 12 false) m
unfolding number_at start_bits
started t s m n h e =
    record {
      apart = n;
      numbered = ap (λ l. number 2 (part l 0 6)) e ∙ number_spelled 6 (number_of t) (type_small t);
      second = omega (arith, started_second (number_of t) s m h e);
      ranges = ap (λ l. not (is_some (first_outside (spread (is_written (replicate 12 false)) 26 (parts_of t)) l))) e ∙ none_set t s n;
    }

-- ---- a block is put

-- a part is no block, or no other part of its type has its number
abbrev one_block : List Part → ℕ → ℕ → Bool
one_block ps i j = is_reserved (get_or ps i Opaque) || (not (eqb (block_of (get_or ps i Opaque)) (block_of (get_or ps j Opaque))) || eqb i j)

one_block_test : (t : MessageType) → all_below (length (parts_of t)) (λ i. all_below (length (parts_of t)) (one_block (parts_of t) i)) ≡ true
unfolding parts_of
one_block_test Type10 = refl
one_block_test Type30 = refl
one_block_test Type40 = refl

one_block_lem : (t : MessageType) (i j : ℕ) → i < length (parts_of t) → j < length (parts_of t) → is_reserved (get_or (parts_of t) i Opaque) ≡ false
    → block_of (get_or (parts_of t) i Opaque) ≡ block_of (get_or (parts_of t) j Opaque) → i ≡ j
one_block_lem t i j hi hj r e =
    let n : ℕ = length (parts_of t) in
    let same = eqb (block_of (get_or (parts_of t) i Opaque)) (block_of (get_or (parts_of t) j Opaque)) in
    elim (or_cases (is_reserved (get_or (parts_of t) i Opaque)) (not same || eqb i j) (each2 n n (one_block (parts_of t)) (one_block_test t) i j hi hj)) [
      | inl a ↦ absurd (both_ways (is_reserved (get_or (parts_of t) i Opaque)) r a)
      | inr b ↦ elim (or_cases (not same) (eqb i j) b) [
        | inl c ↦ absurd (both_ways same (not-true same c) (eq-eqb (block_of (get_or (parts_of t) i Opaque)) (block_of (get_or (parts_of t) j Opaque)) e))
        | inr d ↦ eqb-true i j d
      ]
    ]

-- v is m with the counts zs written over the block at p
module _ (p : Place) (size : ℕ) (s : Stands p size) (zs : List ℤ) (m v : List ℕ) (counted : length zs ≡ size) (long : length m ≡ 81)
    (over : bits_of v ≡ written_over p zs (bits_of m)) (unfit : first_unfit (placed_of p) zs ≡ None) where
  -- the part number j, where it is another, holds what it held
  other_held : (j : ℕ) → j < length (parts_of p.message_type) → j ≢ s.index
      → map (λ q. held q (bits_of v)) (fields_at (parts_of p.message_type) j) ≡ map (λ q. held q (bits_of m)) (fields_at (parts_of p.message_type) j)
  other_held j h n =
      let fs = fields_of (get_or (parts_of p.message_type) j Opaque) in
      let mine = fields_of p.part in
      let wide = length_pack mine zs (counted ∙ sym s.fields) in
      let beside : Beside p.first_bit (length (pack mine zs)) (start width_of 26 (parts_of p.message_type) j) (widths fs) =
      elim (parts_beside 26 (parts_of p.message_type) j s.index h s.inside n) [
        | inl l ↦ inr (omega (arith, wide, (fits p.part).0, ap width_of s.part))
        | inr l ↦ inl (omega (arith, (fits (get_or (parts_of p.message_type) j Opaque)).0))
      ] in
      ap (λ l. map (λ q. held q l) (fields_at (parts_of p.message_type) j)) over
      ∙ same_held (bits_of m) (pack mine zs) p.first_bit (inside p size s zs m v counted long over) fs (start width_of 26 (parts_of p.message_type) j) beside

  -- the fields of this block are in range
  mine : (j : ℕ) → j ≡ s.index → AllByRecursion (InRange (bits_of v)) (fields_at (parts_of p.message_type) j)
  mine j e = rw (e, s.first, s.part) (none_all (placed_of p) (bits_of v) (none_outside p size s zs m v counted long over unfit))

  -- so are those of a part that was in range before
  ranged : (j : ℕ) → j < length (parts_of p.message_type) → AllByRecursion (InRange (bits_of m)) (fields_at (parts_of p.message_type) j)
      → AllByRecursion (InRange (bits_of v)) (fields_at (parts_of p.message_type) j)
  ranged j h a =
      elim (cases_eq j s.index) [
        | inl e ↦ mine j e
        | inr n ↦ same_range (fields_at (parts_of p.message_type) j) (bits_of v) (bits_of m) (other_held j h n) a
      ]

  -- a part that counts as written once this block is marked is this block, or was written before
  marked : Numbered p → (done : List Bool) (j : ℕ) → j < length (parts_of p.message_type)
      → is_written (set done p.number true) (get_or (parts_of p.message_type) j Opaque) ≡ true
      → (j ≡ s.index) ⊎ (is_written done (get_or (parts_of p.message_type) j Opaque) ≡ true)
  marked n done j h k =
      let x = get_or (parts_of p.message_type) j Opaque in
      elim (cases_eq (block_of x) p.number) [
        | inr d ↦ inr (subst (λ (b : Bool). (is_reserved x || b) ≡ true) (get_or-set_other done p.number (block_of x) true false d) k)
        | inl e ↦ elim (cases_Bool (is_reserved x)) [
          | inl r ↦ inr (or_left (is_reserved x) (get_or done (block_of x) false) r)
          | inr r ↦ inl (one_block_lem p.message_type j s.index h s.inside r (e ∙ sym n ∙ ap block_of (sym s.part)))
        ]
      ]

  pub put_marked : Numbered p → (done : List Bool) → Drafted p.message_type done m → Drafted p.message_type (set done p.number true) v
  put_marked n done d =
      let ps = parts_of p.message_type in
      let number = same_number p size s zs m v counted long over in
      let before = in_range_all p.message_type done m d.ranges in
      record {
        apart = d.apart;
        numbered = number 0 6 (omega arith) ∙ d.numbered;
        second = omega (arith, number 6 20 (omega arith), d.second);
        ranges =
            all_in_range p.message_type (set done p.number true) v
            (spread_all (InRange (bits_of v)) (is_written (set done p.number true)) 26 ps
            (λ j h k. elim (marked n done j h k) [
              | inl e ↦ mine j e
              | inr w ↦ ranged j h (in_spread (InRange (bits_of m)) (is_written done) 26 ps j h w before)
            ]));
      }

  other_block : Numbered p → (q : Place) (n : ℕ) → Stands q n → Numbered q → q.message_type ≡ p.message_type → q.number ≢ p.number → held_in q v ≡ held_in q m
  unfolding held_in
  other_block mine q n k theirs e x =
      let at = placed_at q n k p.message_type e in
      let apart : k.index ≢ s.index =
      λ i. x (sym theirs ∙ ap block_of (sym at.part ∙ ap (λ (j : ℕ). get_or (parts_of p.message_type) j Opaque) i ∙ s.part) ∙ mine) in
      subst (λ (l : List Placed). map (λ y. held y (bits_of v)) l ≡ map (λ y. held y (bits_of m)) l) at.fields
      (other_held k.index at.inside apart)

  pub put_into : Numbered p → PutInto p zs m v
  put_into n = record {
    holds = held_new p size s zs m v counted long over unfit;
    second = same_number p size s zs m v counted long over 6 20 (omega arith);
    others = other_block n;
  }

-- ---- a draft is sealed

-- every part ends within the data
part_room : (t : MessageType) (j : ℕ) → j < length (parts_of t) → start width_of 26 (parts_of t) j + widths (fields_of (get_or (parts_of t) j Opaque)) ≤ 462
part_room t j h =
    omega (
      arith,
      (fits (get_or (parts_of t) j Opaque)).0,
      sum_by_more width_of (parts_of t) j Opaque h,
      sum_by-take-le width_of (parts_of t) (j + 1),
      data_end t,
    )

-- v is the draft m with the CRC written over its last 24 bits
module _ (t : MessageType) (done : List Bool) (m v : List ℕ) (long : length m ≡ 81) (symbols : SymbolList 81 v)
    (over : bits_of v ≡ pasted (bits_of m) 462 (spelled 24 (crc_of_message m))) (d : Drafted t done m) where
  room_for : 462 ≤ length (bits_of m)
  room_for = omega (arith, length_bits m)

  same_held_at : (j : ℕ) → j < length (parts_of t)
      → map (λ q. held q (bits_of v)) (fields_at (parts_of t) j) ≡ map (λ q. held q (bits_of m)) (fields_at (parts_of t) j)
  same_held_at j h =
      ap (λ l. map (λ q. held q l) (fields_at (parts_of t) j)) over
      ∙ same_held (bits_of m) (spelled 24 (crc_of_message m)) 462 room_for (fields_of (get_or (parts_of t) j Opaque)) (start width_of 26 (parts_of t) j) (inl (part_room t j h))

  same_number_at : (b w : ℕ) → b + w ≤ 462 → number_at v b w ≡ number_at m b w
  unfolding number_at
  same_number_at b w h =
      ap (λ l. number 2 (part l b w)) over ∙ ap (number 2) (part_before (bits_of m) (spelled 24 (crc_of_message m)) 462 b w room_for h)

  crc_is : number_at v 462 24 ≡ crc_of_message v
  unfolding number_at crc_of_message crc_of
  crc_is =
      let c : ℕ = crc_of_message m in
      ap (λ l. number 2 (part l 462 24)) over
      ∙ ap (number 2) (part_pasted (bits_of m) (spelled 24 c) 462 room_for)
      ∙ number_spelled 24 c (steps_lt 0 (take 462 (bits_of m)) (omega arith))
      ∙ sym (ap (λ l. crc_of (take 462 l)) over ∙ ap crc_of (before_pasted (bits_of m) (spelled 24 c) 462 room_for))

  module _ (all : (j : ℕ) → j < length (parts_of t) → is_written done (get_or (parts_of t) j Opaque) ≡ true) where
    in_range : (keep : Part → Bool) → AllByRecursion (InRange (bits_of v)) (spread keep 26 (parts_of t))
    in_range keep =
        let before = in_range_all t done m d.ranges in
        spread_all (InRange (bits_of v)) keep 26 (parts_of t)
        (λ j h k. same_range (fields_at (parts_of t) j) (bits_of v) (bits_of m) (same_held_at j h)
        (in_spread (InRange (bits_of m)) (is_written done) 26 (parts_of t) j h (all j h) before))

    law : Lawful v
    unfolding reserved_of parameters_of
    law = record {
      symbols = symbols;
      crc = crc_is;
      type = t;
      numbered = same_number_at 0 6 (omega arith) ∙ d.numbered;
      second = omega (arith, same_number_at 6 20 (omega arith), d.second);
      reserved = in_range (looks_at true);
      fields = in_range (looks_at false);
    }

    block : (q : Place) (size : ℕ) → Stands q size → q.message_type ≡ t → held_in q v ≡ held_in q m
    unfolding held_in
    block q size k e =
        let at = placed_at q size k t e in
        subst (λ (l : List Placed). map (λ y. held y (bits_of v)) l ≡ map (λ y. held y (bits_of m)) l) at.fields (same_held_at k.index at.inside)

    pub sealed : SealedAs t m v
    unfolding law
    sealed = record {
      lawful = record { lawful = law; typed = refl; second = same_number_at 6 20 (omega arith) };
      blocks = block;
    }
