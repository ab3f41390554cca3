-- Place and counts of block 3.
use Rattle.std.specs.Prelude.{List, [], ◌∷◌, ℤ, pos, get_or}
use Rattle.blocks.specs.declared.place.Place.{Place}
use Rattle.layout.specs.declared.MessageType.TheVariants.{Type10}
use Rattle.layout.specs.declared.Part.TheVariants.{Integrity}
use Rattle.type10.specs.declared.integrity.IntegrityRecord.{IntegrityRecord}

abbrev pub place_of : Place
place_of = record { number = 3; message_type = Type10; part = Integrity; first_bit = 455; width = 7 }

abbrev pub counts_of : IntegrityRecord → List ℤ
counts_of r = r.dif ∷ r.sif ∷ r.aif ∷ r.sismai ∷ []

abbrev pub record_of : List ℤ → IntegrityRecord
record_of zs = record { dif = get_or zs 0 (pos 0); sif = get_or zs 1 (pos 0); aif = get_or zs 2 (pos 0); sismai = get_or zs 3 (pos 0) }
