-- What it means that bytes are accepted.
use Rattle.std.specs.Prelude.{ℕ, ◌⊎◌, List}
use Rattle.parity.specs.Code.{Encodes, DifferAt}
use Rattle.parity.specs.Table.{bcnav3}
use Rattle.message.specs.Lawful.{Lawful}

-- some lawful message encodes to w
pub record Carries (w : List ℕ) : Type 0 where
  pub message : List ℕ
  pub lawful : Lawful message
  pub encodes : Encodes bcnav3 message w

-- v differs from w at just one place or at just two
abbrev pub Altered : List ℕ → List ℕ → Type 0
Altered w v = DifferAt 1 w v ⊎ DifferAt 2 w v
