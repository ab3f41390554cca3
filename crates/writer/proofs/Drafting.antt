-- A draft after each step of the writer.
use Rattle.std.proofs.Common.{◌≡◌, ℕ, zero, suc, ◌+◌, ◌<◌, ◌≤◌, Bool, true, false, cond, ◌&&◌, ◌||◌, eqb, ltb, leb, ◌≢◌, ◌⊎◌, List, length, get_or, take, set, replicate, ℤ, Some, None, Ok, Err, Option, Result, sym, refl, ap, ◌∙◌, subst, inl, inr, arith}
use Rattle.std.proofs.lemmas.List.{length-take-le}
use Rattle.std.proofs.lemmas.Bool.{and_parts, cases_eq, eqb-true, leb-true, ltb-true, or_cases, or_left, or_right}
use Rattle.bits.specs.Bits.{bits_of, pasted, spelled}
use Rattle.bits.proofs.Pasted.{front_pasted}
use Rattle.bits.proofs.Symbols.{bits_take, length_bits}
use Rattle.blocks.specs.Held.{placed_of}
use Rattle.blocks.specs.Numbered.{Numbered, block_of}
use Rattle.blocks.specs.Stands.{Stands}
use Rattle.blocks.specs.Write.{first_unfit, written_over}
use Rattle.blocks.specs.declared.place.Place.{Place}
use Rattle.blocks.proofs.Written.{message_over}
use Rattle.computed.proofs.Below.{all_below, each}
use Rattle.crc.specs.Crc.{crc_of_message}
use Rattle.layout.specs.Layout.{number_of, parts_of}
use Rattle.layout.specs.Placed.{is_reserved}
use Rattle.layout.specs.declared.MessageType.{MessageType}
use Rattle.layout.specs.declared.MessageType.TheVariants.{Type10, Type30, Type40}
use Rattle.layout.specs.declared.Part.TheVariants.{Opaque}
use Rattle.message.specs.Examined.{examined}
use Rattle.message.specs.Lawful.{number_at}
use Rattle.message.proofs.Laws.{lawful_examined}
use Rattle.parity.specs.Code.{SymbolList}
use Rattle.parity.proofs.Codewords.{take_symbols}
use Rattle.writer.specs.Answers.{by_field, missing, seal_answer, start_answer}
use Rattle.writer.specs.declared.fault.WriterFault.{WriterFault}
use Rattle.written.specs.Drafted.{Drafted, PutInto, SealedAs, is_written}
use Rattle.written.specs.Written.{start_bits}
use Rattle.written.proofs.Drafts.{put_into, put_marked, sealed, started}

-- where a test leads on to a yes, it was passed
passed : (b : Bool) (r : Result (Unit {0}) WriterFault) (e : WriterFault) → cond b r (Err e) ≡ Ok tt → (b ≡ true) × (r ≡ Ok tt)
passed true r e t = (refl, t)
passed false r e t = absurd cc

-- ---- start

-- what a yes to starting says
pub record Startable (n t s : ℕ) : Type 0 where
  pub number : (t ≡ 10) ⊎ (t ≡ 30)
  pub second : s ≤ 604799

pub startable : (n t s : ℕ) → start_answer n t s ≡ Ok tt → Startable n t s
startable n t s e =
    let a = passed (eqb n 162) _ _ e in
    let b = passed (eqb t 10 || eqb t 30) _ _ a.1 in
    let c = passed (leb s 604799) _ _ b.1 in
    record {
      number = elim (or_cases (eqb t 10) (eqb t 30) b.0) [ inl x ↦ inl (eqb-true t 10 x) | inr x ↦ inr (eqb-true t 30 x) ];
      second = leb-true s 604799 c.0;
    }

pub drafted : (k : MessageType) (n t s : ℕ) (ss : List ℕ) → Startable n t s → number_of k ≡ t → bits_of ss ≡ start_bits t s
    → Drafted k (replicate 12 false) (take 81 ss)
drafted k n t s ss h e bits =
    let apart : k ≢ Type40 = λ x. let f : number_of k ≡ 40 = ap number_of x in elim h.number [ inl a ↦ omega arith | inr a ↦ omega arith ] in
    started k s (take 81 ss) apart h.second
    (bits_take 81 ss ∙ ap (take 486) bits ∙ ap (λ (n : ℕ). take 486 (start_bits n s)) (sym e))

-- ---- put

pub fit : (o : Option ℕ) → Ok tt ≡ by_field o → o ≡ None
fit None e = refl
fit (Some b) e = absurd cc

-- the symbols ts are ss with the counts zs written over the block at p, which is one of the type t
module _ (p : Place) (size : ℕ) (s : Stands p size) (zs : List ℤ) (ss ts : List ℕ) (t : MessageType) (done : List Bool) (counted : length zs ≡ size)
    (long : length ss ≡ 162) (unfit : first_unfit (placed_of p) zs ≡ None) (over : bits_of ts ≡ written_over p zs (bits_of ss)) where
  message : bits_of (take 81 ts) ≡ written_over p zs (bits_of (take 81 ss))
  message = message_over p size s zs ss ts counted (omega arith) over

  short : length (take 81 ss) ≡ 81
  short = length-take-le 81 ss (omega arith)

  pub taken_in : Numbered p → PutInto p zs (take 81 ss) (take 81 ts)
  taken_in = put_into p size s zs (take 81 ss) (take 81 ts) counted short message unfit

  pub taken_on : Numbered p → p.message_type ≡ t → Drafted t done (take 81 ss) → Drafted t (set done p.number true) (take 81 ts)
  taken_on k e d =
      subst (λ (t : MessageType). Drafted t done (take 81 ss) → Drafted t (set done p.number true) (take 81 ts)) e
      (put_marked p size s zs (take 81 ss) (take 81 ts) counted short message unfit k done) d

-- ---- seal

none_missing : (k n : ℕ) (done : List Bool) → missing k n done ≡ Ok tt → (j : ℕ) → k ≤ j → j < k + n → get_or done j false ≡ true
none_missing k zero done e j l h = absurd (omega arith)
none_missing k (suc n) done e j l h =
    let p = passed (get_or done k false) (missing (k + 1) n done) _ e in
    elim (cases_eq k j) [
      | inl q ↦ subst (λ (i : ℕ). get_or done i false ≡ true) q p.0
      | inr q ↦ none_missing (k + 1) n done p.1 j (omega arith) (omega arith)
    ]

-- the number of a block of a type lies among those that sealing asks for
abbrev lies : MessageType → ℕ → ℕ → ℕ → Bool
lies t from end j =
    is_reserved (get_or (parts_of t) j Opaque) || (leb from (block_of (get_or (parts_of t) j Opaque)) && ltb (block_of (get_or (parts_of t) j Opaque)) end)

lie_10 : all_below (length (parts_of Type10)) (lies Type10 1 4) ≡ true
unfolding parts_of
lie_10 = refl

lie_30 : all_below (length (parts_of Type30)) (lies Type30 4 12) ≡ true
unfolding parts_of
lie_30 = refl

written_all : (t : MessageType) (from n : ℕ) (done : List Bool) → missing from n done ≡ Ok tt
    → all_below (length (parts_of t)) (lies t from (from + n)) ≡ true
    → (j : ℕ) → j < length (parts_of t) → is_written done (get_or (parts_of t) j Opaque) ≡ true
written_all t from n done e a j h =
    let x = get_or (parts_of t) j Opaque in
    let low = leb from (block_of x) in
    let high = ltb (block_of x) (from + n) in
    elim (or_cases (is_reserved x) (low && high) (each (length (parts_of t)) (lies t from (from + n)) a j h)) [
      | inl r ↦ or_left (is_reserved x) (get_or done (block_of x) false) r
      | inr b ↦
          let p = and_parts low high b in
          or_right (is_reserved x) (get_or done (block_of x) false)
          (none_missing from n done e (block_of x) (leb-true from (block_of x) p.0) (ltb-true (block_of x) (from + n) p.1))
    ]

all_written : (t : MessageType) (done : List Bool) → t ≢ Type40 → seal_answer t done ≡ Ok tt
    → (j : ℕ) → j < length (parts_of t) → is_written done (get_or (parts_of t) j Opaque) ≡ true
all_written Type10 done n e = written_all Type10 1 3 done e lie_10
all_written Type30 done n e = written_all Type30 4 8 done e lie_30
all_written Type40 done n e = absurd (n refl)

-- the symbols vs are the draft ss with its CRC
pub sealed_draft : (t : MessageType) (done : List Bool) (ss vs : List ℕ) → length ss ≡ 162 → SymbolList 162 vs
    → bits_of vs ≡ pasted (bits_of ss) 462 (spelled 24 (crc_of_message (take 81 ss))) → Drafted t done (take 81 ss) → seal_answer t done ≡ Ok tt
    → SealedAs t (take 81 ss) (take 81 vs)
sealed_draft t done ss vs long symbols over d asked =
    let crc : List ℕ = spelled 24 (crc_of_message (take 81 ss)) in
    let message : bits_of (take 81 vs) ≡ pasted (bits_of (take 81 ss)) 462 crc =
    bits_take 81 vs ∙ ap (take 486) over
    ∙ front_pasted (bits_of ss) crc 462 486 (omega (arith, length_bits ss)) (omega arith)
    ∙ ap (λ l. pasted l 462 crc) (sym (bits_take 81 ss)) in
    sealed t done (take 81 ss) (take 81 vs) (length-take-le 81 ss (omega arith)) (take_symbols vs symbols) message d (all_written t done d.apart asked)

pub sealed_examined : (t : MessageType) (m v : List ℕ) → SealedAs t m v → examined v ≡ Ok (record { message_type = t; second = number_at m 6 20 })
sealed_examined t m v s = rw (lawful_examined v s.lawful.lawful, s.lawful.typed, s.lawful.second)
