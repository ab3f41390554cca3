-- Place and counts of block 1.
use Rattle.std.specs.Prelude.{List, [], ◌∷◌, ℤ, pos, get_or}
use Rattle.blocks.specs.declared.place.Place.{Place}
use Rattle.layout.specs.declared.MessageType.TheVariants.{Type10}
use Rattle.layout.specs.declared.Part.TheVariants.{Ephemeris1}
use Rattle.type10.specs.declared.ephemeris1.Ephemeris1Record.{Ephemeris1Record}

abbrev pub place_of : Place
place_of = record { number = 1; message_type = Type10; part = Ephemeris1; first_bit = 30; width = 203 }

abbrev pub counts_of : Ephemeris1Record → List ℤ
counts_of r = r.t_oe ∷ r.sat_type ∷ r.delta_a ∷ r.a_dot ∷ r.delta_n0 ∷ r.delta_n0_dot ∷ r.m0 ∷ r.e ∷ r.omega ∷ []

abbrev pub record_of : List ℤ → Ephemeris1Record
record_of zs = record { t_oe = get_or zs 0 (pos 0); sat_type = get_or zs 1 (pos 0); delta_a = get_or zs 2 (pos 0); a_dot = get_or zs 3 (pos 0); delta_n0 = get_or zs 4 (pos 0); delta_n0_dot = get_or zs 5 (pos 0); m0 = get_or zs 6 (pos 0); e = get_or zs 7 (pos 0); omega = get_or zs 8 (pos 0) }
