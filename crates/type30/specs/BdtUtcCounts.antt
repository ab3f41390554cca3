-- Place and counts of block 8.
use Rattle.std.specs.Prelude.{List, [], ◌∷◌, ℤ, pos, slice_index_or}
use Rattle.blocks.specs.declared.place.Place.{Place}
use Rattle.layout.specs.declared.MessageType.TheVariants.{Type30}
use Rattle.layout.specs.declared.Part.TheVariants.{BdtUtc}
use Rattle.type30.specs.declared.bdt_utc.BdtUtcRecord.{BdtUtcRecord}

abbrev pub place_of : Place
place_of = record { number = 8; message_type = Type30; part = BdtUtc; first_bit = 198; width = 97 }

abbrev pub counts_of : BdtUtcRecord → List ℤ
counts_of r = r.a0_utc ∷ r.a1_utc ∷ r.a2_utc ∷ r.dt_ls ∷ r.t_ot ∷ r.wn_ot ∷ r.wn_lsf ∷ r.dn ∷ r.dt_lsf ∷ []

abbrev pub record_of : List ℤ → BdtUtcRecord
record_of zs = record { a0_utc = slice_index_or zs 0 (pos 0); a1_utc = slice_index_or zs 1 (pos 0); a2_utc = slice_index_or zs 2 (pos 0); dt_ls = slice_index_or zs 3 (pos 0); t_ot = slice_index_or zs 4 (pos 0); wn_ot = slice_index_or zs 5 (pos 0); wn_lsf = slice_index_or zs 6 (pos 0); dn = slice_index_or zs 7 (pos 0); dt_lsf = slice_index_or zs 8 (pos 0) }
