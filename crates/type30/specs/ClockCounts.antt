-- Place and counts of block 5.
use Rattle.std.specs.Prelude.{List, [], ◌∷◌, ℤ, pos, slice_index_or}
use Rattle.blocks.specs.declared.place.Place.{Place}
use Rattle.layout.specs.declared.MessageType.TheVariants.{Type30}
use Rattle.layout.specs.declared.Part.TheVariants.{Clock}
use Rattle.type30.specs.declared.clock.ClockRecord.{ClockRecord}

abbrev pub place_of : Place
place_of = record { number = 5; message_type = Type30; part = Clock; first_bit = 43; width = 69 }

abbrev pub counts_of : ClockRecord → List ℤ
counts_of r = r.t_oc ∷ r.a0 ∷ r.a1 ∷ r.a2 ∷ []

abbrev pub record_of : List ℤ → ClockRecord
record_of zs = record { t_oc = slice_index_or zs 0 (pos 0); a0 = slice_index_or zs 1 (pos 0); a1 = slice_index_or zs 2 (pos 0); a2 = slice_index_or zs 3 (pos 0) }
