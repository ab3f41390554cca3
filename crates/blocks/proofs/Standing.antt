-- A kind of block stands where the layout has its part.
use Rattle.std.specs.Prelude.{◌≡◌, ℕ, suc, ◌<◌, false, length, slice_index_or, refl}
use Rattle.std.proofs.Common.{sym, ap, ◌∙◌, arith}
use Rattle.layout.specs.Laws.{start}
use Rattle.layout.specs.Layout.{fields_of, parts_of, width_of}
use Rattle.layout.specs.Placed.{is_reserved}
use Rattle.layout.specs.declared.MessageType.{MessageType}
use Rattle.layout.specs.declared.Part.{Part}
use Rattle.layout.specs.declared.Part.TheVariants.{Opaque, Reserved}
use Rattle.blocks.specs.Numbered.{block_of}
use Rattle.blocks.specs.Stands.{Stands}
use Rattle.blocks.specs.declared.place.Place.{Place}

abbrev part_at : MessageType → ℕ → Part
part_at t k = slice_index_or (parts_of t) k Opaque

-- the place of the part number k of a type, as a block with a number
abbrev pub place_at : MessageType → ℕ → ℕ → Place
place_at t k n =
    record {
      number = n;
      message_type = t;
      part = part_at t k;
      first_bit = start width_of 26 (parts_of t) k;
      width = width_of (part_at t k);
    }

-- a part that is a block is neither reserved bits nor bits that are not taken apart
not_reserved : (p : Part) (n : ℕ) → block_of p ≡ suc n → is_reserved p ≡ false
not_reserved Reserved n e = absurd (omega (arith, e))
not_reserved p n e = refl

pub stands_at : (t : MessageType) (k n : ℕ) → k < length (parts_of t) → block_of (part_at t k) ≡ suc n
    → Stands (place_at t k (suc n)) (length (fields_of (part_at t k)))
stands_at t k n h e =
    record {
      index = k;
      inside = h;
      part = refl;
      first = refl;
      width = refl;
      fields = refl;
      used = not_reserved (part_at t k) n e;
      apart = λ o. let z : 0 ≡ suc n = sym (ap block_of o) ∙ e in omega arith;
    }
