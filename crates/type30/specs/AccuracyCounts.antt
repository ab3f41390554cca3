-- Place and counts of block 10.
use Rattle.std.specs.Prelude.{List, [], ◌∷◌, ℤ, pos, slice_index_or}
use Rattle.blocks.specs.declared.place.Place.{Place}
use Rattle.layout.specs.declared.MessageType.TheVariants.{Type30}
use Rattle.layout.specs.declared.Part.TheVariants.{Accuracy}
use Rattle.type30.specs.declared.accuracy.AccuracyRecord.{AccuracyRecord}

abbrev pub place_of : Place
place_of = record { number = 10; message_type = Type30; part = Accuracy; first_bit = 433; width = 27 }

abbrev pub counts_of : AccuracyRecord → List ℤ
counts_of r = r.t_op ∷ r.sisai_ocb ∷ r.sisai_oc1 ∷ r.sisai_oc2 ∷ r.sisai_oe ∷ []

abbrev pub record_of : List ℤ → AccuracyRecord
record_of zs = record { t_op = slice_index_or zs 0 (pos 0); sisai_ocb = slice_index_or zs 1 (pos 0); sisai_oc1 = slice_index_or zs 2 (pos 0); sisai_oc2 = slice_index_or zs 3 (pos 0); sisai_oe = slice_index_or zs 4 (pos 0) }
