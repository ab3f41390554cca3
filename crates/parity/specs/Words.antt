-- Words that may be missing.
use Rattle.std.specs.Prelude.{ℕ, List, Option}
use Rattle.std.specs.Option.{option_map}
use Rattle.parity.specs.declared.Symbols.{Symbols}

-- the bytes of the word, where there is one
abbrev pub bytes_of : Option (Symbols 162) → Option (List ℕ)
bytes_of o = option_map (λ w. w.bytes) o
