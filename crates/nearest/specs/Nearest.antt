-- The rule of the nearest-of-two decoder, built from two rules.
use Rattle.std.specs.Prelude.{ℕ, cond, List, Some, None, Option, Float}
use Rattle.std.specs.Float.Ieee.{lt}
use Rattle.parity.specs.Bytes.{symbol_fault}
use Rattle.parity.specs.declared.SymbolFault.{SymbolFault}
use Rattle.decoders.specs.Asks.{Rule}
use Rattle.scores.specs.Scored.{score_of}

-- w unless there is a fault
abbrev pub unless : Option SymbolFault → List ℕ → Option (List ℕ)
unless None w = Some w
unless (Some e) w = None

-- what a rule gives, where it is 162 symbols
abbrev pub proposed : Option (List ℕ) → Option (List ℕ)
proposed None = None
proposed (Some w) = unless (symbol_fault 162 w) w

-- of two proposals the second only where its sum is strictly smaller
abbrev pub nearer_of : List Float → Option (List ℕ) → Option (List ℕ) → Option (List ℕ)
nearer_of xs None o = o
nearer_of xs (Some v) None = Some v
nearer_of xs (Some v) (Some w) = Some (cond (lt (score_of xs w).sum (score_of xs v).sum) w v)

abbrev pub nearest : Rule → Rule → Rule
nearest f g xs = nearer_of xs (proposed (f xs)) (proposed (g xs))
