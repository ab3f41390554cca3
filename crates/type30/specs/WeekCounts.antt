-- Place and counts of block 4.
use Rattle.std.specs.Prelude.{List, [], ◌∷◌, ℤ, pos, slice_index_or}
use Rattle.blocks.specs.declared.place.Place.{Place}
use Rattle.layout.specs.declared.MessageType.TheVariants.{Type30}
use Rattle.layout.specs.declared.Part.TheVariants.{Week}
use Rattle.type30.specs.declared.week.WeekRecord.{WeekRecord}

abbrev pub place_of : Place
place_of = record { number = 4; message_type = Type30; part = Week; first_bit = 26; width = 13 }

abbrev pub counts_of : WeekRecord → List ℤ
counts_of r = r.wn ∷ []

abbrev pub record_of : List ℤ → WeekRecord
record_of zs = record { wn = slice_index_or zs 0 (pos 0) }
