-- The laws of the layout, by computing it.
use Rattle.std.proofs.Common.{◌≡◌, ◌+◌, sum_by, refl, ap}
use Rattle.layout.specs.declared.Field.{Field}
use Rattle.layout.specs.declared.MessageType.{MessageType}
use Rattle.layout.specs.declared.MessageType.TheVariants.{Type10, Type30, Type40}
use Rattle.layout.specs.Layout.{fields_of, width_of, parts_of}
use Rattle.layout.specs.Placed.{placed, spread, reserved_of, parameters_of}
use Rattle.layout.specs.Laws.{Tiles, FirstBits, Ruled, full, narrow, rules_of, zeros_of}
use Rattle.layout.proofs.Sizes.{width_fields}
use Rattle.layout.proofs.Tiling.{tiled}

-- the parts of each type end at bit 461
pub data_end : (t : MessageType) → 26 + sum_by width_of (parts_of t) ≡ 462
unfolding parts_of width_of fields_of
data_end Type10 = refl
data_end Type30 = refl
data_end Type40 = refl

pub tiles : Tiles
tiles =
    record {
      parts = λ t. tiled width_of 26 462 (parts_of t) (data_end t);
      fields = λ p n from. tiled (λ (f : Field). f.width) from (from + width_of p) (fields_of p) (ap (◌+◌ from) (width_fields p n));
    }

pub first_bits : FirstBits
unfolding parts_of width_of fields_of
first_bits = record { type10 = refl; type30 = refl; type40 = refl }

ranges : (t : MessageType) → narrow (parameters_of t) ≡ rules_of t
unfolding full parameters_of spread placed parts_of width_of fields_of
ranges Type10 = refl
ranges Type30 = refl
ranges Type40 = refl

zeros : (t : MessageType) → reserved_of t ≡ zeros_of t
unfolding reserved_of spread placed parts_of width_of fields_of
zeros Type10 = refl
zeros Type30 = refl
zeros Type40 = refl

pub ruled : Ruled
ruled = record { ranges = ranges; zeros = zeros }
