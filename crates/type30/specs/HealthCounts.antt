-- Place and counts of block 11.
use Rattle.std.specs.Prelude.{List, [], ◌∷◌, ℤ, pos, slice_index_or}
use Rattle.blocks.specs.declared.place.Place.{Place}
use Rattle.layout.specs.declared.MessageType.TheVariants.{Type30}
use Rattle.layout.specs.declared.Part.TheVariants.{Health}
use Rattle.type30.specs.declared.health.HealthRecord.{HealthRecord}

abbrev pub place_of : Place
place_of = record { number = 11; message_type = Type30; part = Health; first_bit = 460; width = 2 }

abbrev pub counts_of : HealthRecord → List ℤ
counts_of r = r.hs ∷ []

abbrev pub record_of : List ℤ → HealthRecord
record_of zs = record { hs = slice_index_or zs 0 (pos 0) }
