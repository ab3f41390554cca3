-- What is answered of the bytes of a message when a block is read.
use Rattle.std.specs.Prelude.{ℕ, Bool, cond, List, ℤ, Some, None, Ok, Err, Option, Result, ◌==◌}
use Rattle.bits.specs.Bits.{bits_of}
use Rattle.layout.specs.Layout.{number_of}
use Rattle.layout.specs.Ranges.{first_outside}
use Rattle.layout.specs.declared.MessageType.{MessageType}
use Rattle.message.specs.Lawful.{number_at}
use Rattle.parity.specs.Bytes.{symbol_fault}
use Rattle.parity.specs.declared.SymbolFault.{SymbolFault}
use Rattle.blocks.specs.Held.{held_in, placed_of}
use Rattle.blocks.specs.declared.fault.BlockFault.{BlockFault}
use Rattle.blocks.specs.declared.fault.BlockFault.TheVariants.{Symbols, OtherType, Field}
use Rattle.blocks.specs.declared.place.Place.{Place}

abbrev pub by_symbols : {R : Type 0} → Option SymbolFault → Result R BlockFault → Result R BlockFault
by_symbols (Some e) r = Err (Symbols e)
by_symbols None r = r

abbrev pub by_range : {R : Type 0} → Option ℕ → R → Result R BlockFault
by_range (Some b) r = Err (Field b)
by_range None r = Ok r

-- the first six bits are the number of the type
abbrev pub is_of : MessageType → List ℕ → Bool
is_of t m = number_at m 0 6 == number_of t

-- the symbols first, then the message's type, then the ranges of the block's fields
abbrev pub read_as : {R : Type 0} → Place → (List ℤ → R) → List ℕ → Result R BlockFault
read_as p made m =
    by_symbols (symbol_fault 81 m)
    (cond (is_of p.message_type m)
    (by_range (first_outside (placed_of p) (bits_of m)) (made (held_in p m)))
    (Err (OtherType p.number)))
