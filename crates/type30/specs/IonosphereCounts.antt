-- Place and counts of block 7.
use Rattle.std.specs.Prelude.{List, [], ◌∷◌, ℤ, pos, slice_index_or}
use Rattle.blocks.specs.declared.place.Place.{Place}
use Rattle.layout.specs.declared.MessageType.TheVariants.{Type30}
use Rattle.layout.specs.declared.Part.TheVariants.{Ionosphere}
use Rattle.type30.specs.declared.ionosphere.IonosphereRecord.{IonosphereRecord}

abbrev pub place_of : Place
place_of = record { number = 7; message_type = Type30; part = Ionosphere; first_bit = 124; width = 74 }

abbrev pub counts_of : IonosphereRecord → List ℤ
counts_of r = r.alpha1 ∷ r.alpha2 ∷ r.alpha3 ∷ r.alpha4 ∷ r.alpha5 ∷ r.alpha6 ∷ r.alpha7 ∷ r.alpha8 ∷ r.alpha9 ∷ []

abbrev pub record_of : List ℤ → IonosphereRecord
record_of zs = record { alpha1 = slice_index_or zs 0 (pos 0); alpha2 = slice_index_or zs 1 (pos 0); alpha3 = slice_index_or zs 2 (pos 0); alpha4 = slice_index_or zs 3 (pos 0); alpha5 = slice_index_or zs 4 (pos 0); alpha6 = slice_index_or zs 5 (pos 0); alpha7 = slice_index_or zs 6 (pos 0); alpha8 = slice_index_or zs 7 (pos 0); alpha9 = slice_index_or zs 8 (pos 0) }
