-- Place and counts of block 9.
use Rattle.std.specs.Prelude.{List, [], ◌∷◌, ℤ, pos, slice_index_or}
use Rattle.blocks.specs.declared.place.Place.{Place}
use Rattle.layout.specs.declared.MessageType.TheVariants.{Type30}
use Rattle.layout.specs.declared.Part.TheVariants.{EarthOrientation}
use Rattle.type30.specs.declared.earth_orientation.EarthOrientationRecord.{EarthOrientationRecord}

abbrev pub place_of : Place
place_of = record { number = 9; message_type = Type30; part = EarthOrientation; first_bit = 295; width = 138 }

abbrev pub counts_of : EarthOrientationRecord → List ℤ
counts_of r = r.t_eop ∷ r.pm_x ∷ r.pm_x_dot ∷ r.pm_y ∷ r.pm_y_dot ∷ r.dut1 ∷ r.dut1_dot ∷ []

abbrev pub record_of : List ℤ → EarthOrientationRecord
record_of zs = record { t_eop = slice_index_or zs 0 (pos 0); pm_x = slice_index_or zs 1 (pos 0); pm_x_dot = slice_index_or zs 2 (pos 0); pm_y = slice_index_or zs 3 (pos 0); pm_y_dot = slice_index_or zs 4 (pos 0); dut1 = slice_index_or zs 5 (pos 0); dut1_dot = slice_index_or zs 6 (pos 0) }
