-- Place and counts of block 2.
use Rattle.std.specs.Prelude.{List, [], ◌∷◌, ℤ, pos, get_or}
use Rattle.blocks.specs.declared.place.Place.{Place}
use Rattle.layout.specs.declared.MessageType.TheVariants.{Type10}
use Rattle.layout.specs.declared.Part.TheVariants.{Ephemeris2}
use Rattle.type10.specs.declared.ephemeris2.Ephemeris2Record.{Ephemeris2Record}

abbrev pub place_of : Place
place_of = record { number = 2; message_type = Type10; part = Ephemeris2; first_bit = 233; width = 222 }

abbrev pub counts_of : Ephemeris2Record → List ℤ
counts_of r = r.omega0 ∷ r.i0 ∷ r.omega_dot ∷ r.i0_dot ∷ r.cis ∷ r.cic ∷ r.crs ∷ r.crc ∷ r.cus ∷ r.cuc ∷ []

abbrev pub record_of : List ℤ → Ephemeris2Record
record_of zs = record { omega0 = get_or zs 0 (pos 0); i0 = get_or zs 1 (pos 0); omega_dot = get_or zs 2 (pos 0); i0_dot = get_or zs 3 (pos 0); cis = get_or zs 4 (pos 0); cic = get_or zs 5 (pos 0); crs = get_or zs 6 (pos 0); crc = get_or zs 7 (pos 0); cus = get_or zs 8 (pos 0); cuc = get_or zs 9 (pos 0) }
