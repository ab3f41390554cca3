-- Place and counts of block 6.
use Rattle.std.specs.Prelude.{List, [], ◌∷◌, ℤ, pos, slice_index_or}
use Rattle.blocks.specs.declared.place.Place.{Place}
use Rattle.layout.specs.declared.MessageType.TheVariants.{Type30}
use Rattle.layout.specs.declared.Part.TheVariants.{GroupDelay}
use Rattle.type30.specs.declared.group_delay.GroupDelayRecord.{GroupDelayRecord}

abbrev pub place_of : Place
place_of = record { number = 6; message_type = Type30; part = GroupDelay; first_bit = 112; width = 12 }

abbrev pub counts_of : GroupDelayRecord → List ℤ
counts_of r = r.tgd ∷ []

abbrev pub record_of : List ℤ → GroupDelayRecord
record_of zs = record { tgd = slice_index_or zs 0 (pos 0) }
