-- The number of the block that a part of the layout is.
use Rattle.std.specs.Prelude.{◌≡◌, ℕ}
use Rattle.layout.specs.declared.Part.{Part}
use Rattle.layout.specs.declared.Part.TheVariants.{Reserved, Ephemeris1, Ephemeris2, Integrity, Week, Clock, GroupDelay}
use Rattle.layout.specs.declared.Part.TheVariants.{Ionosphere, BdtUtc, EarthOrientation, Accuracy, Health, Opaque}
use Rattle.blocks.specs.declared.place.Place.{Place}

-- the number of the block that a part is; reserved bits and bits that are not taken apart are no block
abbrev pub block_of : Part → ℕ
block_of Reserved = 0
block_of Ephemeris1 = 1
block_of Ephemeris2 = 2
block_of Integrity = 3
block_of Week = 4
block_of Clock = 5
block_of GroupDelay = 6
block_of Ionosphere = 7
block_of BdtUtc = 8
block_of EarthOrientation = 9
block_of Accuracy = 10
block_of Health = 11
block_of Opaque = 0

-- the block at p has the number of its part
abbrev pub Numbered : Place → Type 0
Numbered p = block_of p.part ≡ p.number
