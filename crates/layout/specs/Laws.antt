-- The layout in numbers of bits: no gap and no overlap, where the parts begin, and which fields have a rule.
use Rattle.std.specs.Prelude.{◌≡◌, ℕ, suc, ◌+◌, ◌-◌, ◌^◌, ◌<◌, ◌≤◌, Bool, true, false, not, ◌&&◌, ◌≢◌, List, [], ◌∷◌, length, take, ℤ, pos, negsuc, sum_by, filter, int_le}
use Rattle.layout.specs.declared.Field.{Field}
use Rattle.layout.specs.declared.MessageType.{MessageType}
use Rattle.layout.specs.declared.MessageType.TheVariants.{Type10, Type30, Type40}
use Rattle.layout.specs.declared.Part.{Part}
use Rattle.layout.specs.declared.Part.TheVariants.{Opaque}
use Rattle.layout.specs.Layout.{fields_of, width_of, parts_of, ranged, reserved}
use Rattle.layout.specs.Placed.{Placed, at, reserved_of, parameters_of}

-- ---- no gap and no overlap

-- the first bit of the piece number i, where pieces of some widths lie one after another from a bit on
abbrev pub start : {X : Type 0} → (X → ℕ) → ℕ → List X → ℕ → ℕ
start width from xs i = from + sum_by width (take i xs)

-- bit b lies in the piece number i
pub record Lies {X : Type 0} (width : X → ℕ) (from : ℕ) (xs : List X) (b i : ℕ) : Type 0 where
  pub exists : i < length xs
  pub low : start width from xs i ≤ b
  pub high : b < start width from xs (suc i)

-- the pieces tile the bits from `from` to the one before `end`
pub record Tiled {X : Type 0} (width : X → ℕ) (from end : ℕ) (xs : List X) : Type 0 where
  pub ends : from + sum_by width xs ≡ end
  pub some : (b : ℕ) → from ≤ b → b < end → (i : ℕ) × Lies width from xs b i
  pub one : (b i j : ℕ) → Lies width from xs b i → Lies width from xs b j → i ≡ j

-- the parts tile the data of each type, and the fields tile each part that has fields, wherever it begins
pub record Tiles : Type 0 where
  pub parts : (t : MessageType) → Tiled width_of 26 462 (parts_of t)
  pub fields : (p : Part) → p ≢ Opaque → (from : ℕ) → Tiled (λ (f : Field). f.width) from (from + width_of p) (fields_of p)

-- ---- where the parts begin

-- the first bits of parts that lie one after another from a bit on
abbrev pub begins : ℕ → List Part → List ℕ
begins b [] = []
begins b (p ∷ ps) = b ∷ begins (b + width_of p) ps

pub record FirstBits : Type 0 where
  pub type10 : begins 26 (parts_of Type10) ≡ 26 ∷ 30 ∷ 233 ∷ 455 ∷ []
  pub type30 : begins 26 (parts_of Type30) ≡ 26 ∷ 39 ∷ 43 ∷ 112 ∷ 124 ∷ 198 ∷ 295 ∷ 433 ∷ 460 ∷ []
  pub type40 : begins 26 (parts_of Type40) ≡ 26 ∷ []

-- ---- which fields have a rule

-- the least and the greatest count of w bits
abbrev pub lowest : Bool → ℕ → ℤ
lowest false w = pos 0
lowest true w = negsuc (2 ^ (w - 1) - 1)

abbrev pub highest : Bool → ℕ → ℤ
highest false w = pos (2 ^ w - 1)
highest true w = pos (2 ^ (w - 1) - 1)

-- the field may hold every count of its width
unfoldable pub full : Field → Bool
full f = int_le f.least (lowest f.signed f.width) && int_le (highest f.signed f.width) f.most

-- the fields that may not
abbrev pub narrow : List Placed → List Placed
narrow ps = filter (λ p. not (full p.field)) ps

-- the ranges that a type has
abbrev pub rules_of : MessageType → List Placed
rules_of Type10 = at 30 (ranged 11 0 2015) ∷ at 41 (ranged 2 1 3) ∷ []
rules_of Type30 = at 43 (ranged 11 0 2015) ∷ at 242 (ranged 16 0 37799) ∷ at 295 (ranged 16 0 37799) ∷ []
rules_of Type40 = []

-- the bits of a type that must be 0
abbrev pub zeros_of : MessageType → List Placed
zeros_of Type10 = at 26 reserved ∷ at 27 reserved ∷ at 28 reserved ∷ at 29 reserved ∷ []
zeros_of Type30 = at 39 reserved ∷ at 40 reserved ∷ at 41 reserved ∷ at 42 reserved ∷ []
zeros_of Type40 = []

-- the rules of each type by the numbers of the bits: every other field may hold what its bits can hold
pub record Ruled : Type 0 where
  pub ranges : (t : MessageType) → narrow (parameters_of t) ≡ rules_of t
  pub zeros : (t : MessageType) → reserved_of t ≡ zeros_of t
