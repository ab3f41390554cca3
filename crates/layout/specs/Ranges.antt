-- Which fields of a message hold a count that they may hold.
use Rattle.std.specs.Prelude.{◌≡◌, ℕ, suc, ◌-◌, ◌^◌, ◌≤◌, Bool, true, false, cond, ◌||◌, List, [], ◌∷◌, ◌++◌, ℤ, pos, negsuc, ◌≤ℤ◌, Some, None, Option, int_lt, nat_lt}
use Rattle.std.specs.Int.Digits.{number_from_digits}
use Rattle.std.specs.List.{AllByRecursion}
use Rattle.bits.specs.Bits.{part}
use Rattle.layout.specs.declared.Field.{Field}
use Rattle.layout.specs.Placed.{Placed}

-- the count that w bits stand for: two's complement where the field has a sign
abbrev pub count_of : Bool → ℕ → ℕ → ℤ
count_of false w v = pos v
count_of true w v = cond (nat_lt v (2 ^ (w - 1))) (pos v) (negsuc (2 ^ w - suc v))

-- the count that the bits of a message hold in a field
abbrev pub held : Placed → List ℕ → ℤ
held p bs = count_of p.field.signed p.field.width (number_from_digits 2 (part bs p.bit p.field.width))

-- a field of 1 to 55 bits, which is read at once
pub record Sized (f : Field) : Type 0 where
  pub some : 1 ≤ f.width
  pub few : f.width ≤ 55

-- a count that the field may hold
pub record Within (f : Field) (z : ℤ) : Type 0 where
  pub low : f.least ≤ℤ z
  pub high : z ≤ℤ f.most

-- a field of a message holds such a count
abbrev pub InRange : List ℕ → Placed → Type 0
InRange bs p = Within p.field (held p bs)

-- the same as a test, turned round
abbrev pub outside : Field → ℤ → Bool
outside f z = int_lt z f.least || int_lt f.most z

-- the first bit of the first field that is not in range
unfoldable pub first_outside : List Placed → List ℕ → Option ℕ
first_outside [] bs = None
first_outside (p ∷ ps) bs = cond (outside p.field (held p bs)) (Some p.bit) (first_outside ps bs)

-- some field begins at bit b and is out of range, and every field before it is in range
pub record Breaks (ps : List Placed) (bs : List ℕ) (b : ℕ) : Type 0 where
  pub before : List Placed
  pub here : Placed
  pub after : List Placed
  pub splits : ps ≡ before ++ (here ∷ after)
  pub sound : AllByRecursion (InRange bs) before
  pub out : InRange bs here → ⊥
  pub place : here.bit ≡ b

-- an answer names the first field out of range, and is None exactly where there is none
pub record First (ps : List Placed) (bs : List ℕ) (answer : Option ℕ) : Type 0 where
  pub none : answer ≡ None → AllByRecursion (InRange bs) ps
  pub all : AllByRecursion (InRange bs) ps → answer ≡ None
  pub some : (b : ℕ) → answer ≡ Some b → Breaks ps bs b
  pub found : (b : ℕ) → Breaks ps bs b → answer ≡ Some b
