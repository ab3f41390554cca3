-- The counts that a message holds in a block.
use Rattle.std.specs.Prelude.{ℕ, List, map, replicate, ℤ, pos}
use Rattle.bits.specs.Bits.{bits_of}
use Rattle.layout.specs.Layout.{fields_of}
use Rattle.layout.specs.Placed.{Placed, placed}
use Rattle.layout.specs.Ranges.{held}
use Rattle.blocks.specs.declared.place.Place.{Place}

-- the fields of a block, each with its first bit
abbrev pub placed_of : Place → List Placed
placed_of p = placed p.first_bit (fields_of p.part)

-- the count that each of them holds
unfoldable pub held_in : Place → List ℕ → List ℤ
held_in p m = map (λ q. held q (bits_of m)) (placed_of p)

abbrev pub zeros : ℕ → List ℤ
zeros n = replicate n (pos 0)
