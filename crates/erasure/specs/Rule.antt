-- The rule of the erasure decoder.
use Rattle.std.specs.Prelude.{◌≡◌, ℕ, List, Some, Option, Float}
use Rattle.std.specs.Option.{option_or}
use Rattle.parity.specs.Sound.{Near}
use Rattle.parity.specs.Table.{bcnav3}
use Rattle.levels.specs.Hard.{hard}
use Rattle.correction.specs.Erasures.{filled, Outside}
use Rattle.correction.specs.Search.{Only}
use Rattle.decoders.specs.Asks.{Rule}
use Rattle.single_error.specs.Rule.{single_error_rule}
use Rattle.weakness.specs.Weakness.{weakest_of, weakness, Weakest}

-- what the single-error decoder gives, or else the hard decision with two symbols filled in
abbrev pub erasure : Rule
erasure xs = option_or (single_error_rule xs) (filled (hard xs) (weakest_of xs).0 (weakest_of xs).1)

-- what is given for the levels
pub record Erasure (xs : List Float) (o : Option (List ℕ)) : Type 0 where
  -- the code word near the hard decision
  pub near : (v : List ℕ) → Near bcnav3 (hard xs) v → o ≡ Some v
  -- where there is none, the only one that agrees with the hard decision outside the two weakest places, or nothing
  pub outside : ((v : List ℕ) → Near bcnav3 (hard xs) v → ⊥) → (p q : ℕ) → Weakest (weakness xs) p q → Only (Outside bcnav3 (hard xs) p q) o
