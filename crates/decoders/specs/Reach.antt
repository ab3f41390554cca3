-- Reach: a condition on the rule of a decoder.
use Rattle.std.specs.Prelude.{◌≡◌, ℕ, List, Some, None, Float}
use Rattle.levels.specs.Faults.{level_fault}
use Rattle.levels.specs.Hard.{hard}
pub use Rattle.parity.specs.Sound.{Near}
use Rattle.parity.specs.Table.{bcnav3}
use Rattle.decoders.specs.Asks.{Rule}

-- a code word that differs from the hard decision in at most one symbol is given; elsewhere the rule is free
pub record Reach (f : Rule) : Type 0 where
  pub gives : (xs : List Float) (w : List ℕ) → level_fault 972 xs ≡ None → Near bcnav3 (hard xs) w → f xs ≡ Some w
