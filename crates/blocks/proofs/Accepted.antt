-- In an accepted message every block of its type is read.
use Rattle.std.proofs.Common.{◌≡◌, ℕ, zero, suc, ◌+◌, ◌<◌, Bool, true, false, List, [], ◌∷◌, ◌++◌, length, get_or, take, ℤ, is_ok, None, Ok, sum_by, sym, refl, ap, ◌∙◌, subst, add-zero, arith}
use mathlib.Core.Bool.{beq}
use mathlib.Core.Path.{subst⁻¹}
use Rattle.std.proofs.lemmas.List.Sums.{sum_by-cons}
use Rattle.std.proofs.lemmas.Bool.{cond-true, eq-eqb, eqb-true}
use Rattle.std.specs.List.{AllByRecursion}
use Rattle.bits.specs.Bits.{bits_of}
use Rattle.layout.specs.Layout.{fields_of, number_of, parts_of, width_of}
use Rattle.layout.specs.Placed.{Placed, placed, kept, spread, is_reserved, looks_at, parameters_of}
use Rattle.layout.specs.Ranges.{InRange}
use Rattle.layout.specs.declared.MessageType.{MessageType}
use Rattle.layout.specs.declared.MessageType.TheVariants.{Type10, Type30, Type40}
use Rattle.layout.specs.declared.Part.{Part}
use Rattle.layout.specs.declared.Part.TheVariants.{Opaque}
use Rattle.layout.proofs.Ranges.{all_none}
use Rattle.message.specs.Checked.{checked}
use Rattle.message.specs.Lawful.{Lawful, number_at}
use Rattle.message.proofs.Promises.{checked_carries}
use Rattle.parity.proofs.Codewords.{of_symbols}
use Rattle.blocks.specs.Held.{held_in, placed_of}
use Rattle.blocks.specs.Read.{is_of, read_as}
use Rattle.blocks.specs.Stands.{Stands}
use Rattle.blocks.specs.declared.place.Place.{Place}
use Rattle.blocks.proofs.Reading.{of_type}

all_split : {X : Type 0} (P : X → Type 0) (xs ys : List X) → AllByRecursion P (xs ++ ys) → AllByRecursion P xs × AllByRecursion P ys
all_split P [] ys a = (tt, a)
all_split P (x ∷ xs) ys a = let h = all_split P xs ys a.1 in ((a.0, h.0), h.1)

-- the fields of a part that is kept
pub in_spread : (P : Placed → Type 0) (keep : Part → Bool) (b : ℕ) (ps : List Part) (i : ℕ) → i < length ps → keep (get_or ps i Opaque) ≡ true
    → AllByRecursion P (spread keep b ps) → AllByRecursion P (placed (b + sum_by width_of (take i ps)) (fields_of (get_or ps i Opaque)))
unfolding spread
in_spread P keep b [] i h k a = absurd (omega arith)
in_spread P keep b (p ∷ ps) zero h k a =
    let front = (all_split P (kept keep b p) (spread keep (b + width_of p) ps) a).0 in
    subst⁻¹ (λ (n : ℕ). AllByRecursion P (placed n (fields_of p))) (add-zero b)
    (subst (AllByRecursion P) (cond-true (keep p) (placed b (fields_of p)) [] k) front)
in_spread P keep b (p ∷ ps) (suc i) h k a =
    let next : b + width_of p + sum_by width_of (take i ps) ≡ b + sum_by width_of (p ∷ take i ps) = omega (arith, sum_by-cons width_of p (take i ps)) in
    subst (λ (n : ℕ). AllByRecursion P (placed n (fields_of (get_or ps i Opaque)))) next
    (in_spread P keep (b + width_of p) ps i (omega arith) k (all_split P (kept keep b p) (spread keep (b + width_of p) ps) a).1)

pub same_type : (s t : MessageType) → number_of s ≡ number_of t → s ≡ t
same_type Type10 Type10 e = refl
same_type Type10 Type30 e = absurd (omega arith)
same_type Type10 Type40 e = absurd (omega arith)
same_type Type30 Type10 e = absurd (omega arith)
same_type Type30 Type30 e = refl
same_type Type30 Type40 e = absurd (omega arith)
same_type Type40 Type10 e = absurd (omega arith)
same_type Type40 Type30 e = absurd (omega arith)
same_type Type40 Type40 e = refl

looked_at : (p : Part) → is_reserved p ≡ false → looks_at false p ≡ true
looked_at p e = ap (λ b. beq b false) e

block_fields : (p : Place) (size : ℕ) → Stands p size → (P : Placed → Type 0) → AllByRecursion P (parameters_of p.message_type) → AllByRecursion P (placed_of p)
unfolding parameters_of
block_fields p size s P a =
    let ps = parts_of p.message_type in
    let keeps : looks_at false (get_or ps s.index Opaque) ≡ true = ap (looks_at false) s.part ∙ looked_at p.part s.used in
    subst (λ (x : Part). AllByRecursion P (placed p.first_bit (fields_of x))) s.part
    (subst (λ (n : ℕ). AllByRecursion P (placed n (fields_of (get_or ps s.index Opaque)))) s.first
    (in_spread P (looks_at false) 26 ps s.index s.inside keeps a))

-- a block of a lawful message is read
pub lawful_read : {R : Type 0} (p : Place) (size : ℕ) → Stands p size → (made : List ℤ → R) (m : List ℕ) (l : Lawful m)
    → l.type ≡ p.message_type → read_as p made m ≡ Ok (made (held_in p m))
lawful_read p size s made m l e =
    let fields = subst (λ (x : MessageType). AllByRecursion (InRange (bits_of m)) (parameters_of x)) e l.fields in
    of_type p made m (of_symbols 81 m l.symbols) None
    (eq-eqb (number_at m 0 6) (number_of p.message_type) (l.numbered ∙ ap number_of e))
    (all_none (placed_of p) (bits_of m) (block_fields p size s (InRange (bits_of m)) fields))

pub accepted : {R : Type 0} (p : Place) (size : ℕ) → Stands p size → (made : List ℤ → R) (m w : List ℕ) → is_ok (checked w) ≡ true
    → m ≡ take 81 w → is_of p.message_type m ≡ true → is_ok (read_as p made m) ≡ true
accepted p size s made m w t e f =
    let c = checked_carries w t in
    let l : Lawful m = subst⁻¹ Lawful (e ∙ c.encodes.begins) c.lawful in
    ap is_ok (lawful_read p size s made m l
    (same_type l.type p.message_type (sym l.numbered ∙ eqb-true (number_at m 0 6) (number_of p.message_type) f)))
