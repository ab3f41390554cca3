-- The bits of counts, and what is answered when a block is written.
use Rattle.std.specs.Prelude.{ℕ, suc, ◌-◌, ◌^◌, cond, List, [], ◌∷◌, ◌++◌, ℤ, pos, negsuc, Some, None, Err, Option, Result, nat_lt}
use Rattle.bits.specs.Bits.{pasted, spelled}
use Rattle.layout.specs.Layout.{fields_of}
use Rattle.layout.specs.Placed.{Placed}
use Rattle.layout.specs.Ranges.{outside}
use Rattle.layout.specs.declared.Field.{Field}
use Rattle.parity.specs.declared.SymbolFault.TheVariants.{Length}
use Rattle.blocks.specs.Held.{placed_of}
use Rattle.blocks.specs.Read.{by_range}
use Rattle.blocks.specs.declared.fault.BlockFault.{BlockFault}
use Rattle.blocks.specs.declared.fault.BlockFault.TheVariants.{Symbols}
use Rattle.blocks.specs.declared.place.Place.{Place}

-- the w bits of a count, as a number
abbrev pub raw_of : ℕ → ℤ → ℕ
raw_of w (pos n) = n
raw_of w (negsuc n) = 2 ^ w - suc n

-- the bits of counts, one field after another
unfoldable pub pack : List Field → List ℤ → List ℕ
pack [] zs = []
pack (f ∷ fs) [] = []
pack (f ∷ fs) (z ∷ zs) = spelled f.width (raw_of f.width z) ++ pack fs zs

-- the bits of a message with a block written over them
abbrev pub written_over : Place → List ℤ → List ℕ → List ℕ
written_over p zs bs = pasted bs p.first_bit (pack (fields_of p.part) zs)

-- the first bit of the first field that may not hold its count
unfoldable pub first_unfit : List Placed → List ℤ → Option ℕ
first_unfit [] zs = None
first_unfit (p ∷ ps) [] = None
first_unfit (p ∷ ps) (z ∷ zs) = cond (outside p.field z) (Some p.bit) (first_unfit ps zs)

-- of n bytes: the length first, then the ranges
abbrev pub write_answer : Place → List ℤ → ℕ → Result (Unit {0}) BlockFault
write_answer p zs n = cond (nat_lt n 81) (Err (Symbols Length)) (by_range (first_unfit (placed_of p) zs) tt)
