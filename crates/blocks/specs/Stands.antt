-- Where a block stands: its first bit and its width follow from the layout.
use Rattle.std.specs.Prelude.{◌≡◌, ℕ, ◌<◌, false, ◌≢◌, length, slice_index_or}
use Rattle.layout.specs.Laws.{start}
use Rattle.layout.specs.Layout.{fields_of, parts_of, width_of}
use Rattle.layout.specs.Placed.{is_reserved}
use Rattle.layout.specs.declared.Part.TheVariants.{Opaque}
use Rattle.blocks.specs.declared.place.Place.{Place}

-- a part of the layout with so many fields
pub record Stands (p : Place) (size : ℕ) : Type 0 where
  pub index : ℕ
  pub inside : index < length (parts_of p.message_type)
  pub part : slice_index_or (parts_of p.message_type) index Opaque ≡ p.part
  pub first : start width_of 26 (parts_of p.message_type) index ≡ p.first_bit
  pub width : width_of p.part ≡ p.width
  pub fields : length (fields_of p.part) ≡ size
  -- it is neither reserved bits nor bits that are not taken apart
  pub used : is_reserved p.part ≡ false
  pub apart : p.part ≢ Opaque
