-- Which level is the first that is not legal, and why levels are refused.
use Rattle.std.specs.Prelude.{◌≡◌, ℕ, ◌<◌, Bool, true, false, cond, List, length, Some, None, Option, ◌==◌, slice_index_or, Float}
use Rattle.std.specs.Float.{nan}
use Rattle.std.specs.Option.{option_map}
use Rattle.parity.specs.Bytes.{first}
use Rattle.levels.specs.Levels.{legal}
use Rattle.levels.specs.declared.fault.LevelFault.{LevelFault}
use Rattle.levels.specs.declared.fault.LevelFault.TheVariants.{Length, Illegal}

-- past the end nothing is legal
abbrev pub is_legal : List Float → ℕ → Bool
is_legal xs k = legal (slice_index_or xs k nan)

abbrev pub first_illegal : List Float → Option ℕ
first_illegal xs = first (length xs) (is_legal xs)

-- the length first, then the first illegal level
abbrev pub level_fault : ℕ → List Float → Option LevelFault
level_fault n xs = cond (length xs == n) (option_map Illegal (first_illegal xs)) (Some Length)

-- the first n levels are legal
abbrev pub LegalBelow : List Float → ℕ → Type 0
LegalBelow xs n = (k : ℕ) → k < n → is_legal xs k ≡ true

-- the level i is illegal, and all before it are legal
pub record FirstIllegal (xs : List Float) (i : ℕ) : Type 0 where
  pub inside : i < length xs
  pub here : is_legal xs i ≡ false
  pub before : LegalBelow xs i
