-- What holds of each part, by its fields.
use Rattle.std.proofs.Common.{◌≡◌, ◌≤◌, Bool, true, ◌&&◌, leb, ◌≢◌, ◌⊎◌, List, [], ◌∷◌, refl, inl, inr}
use Rattle.std.proofs.lemmas.Bool.{and_parts, leb-true, le-leb, and_from}
use Rattle.std.proofs.ByRecursion.{Decides-by_and}
use Rattle.std.specs.List.{AllByRecursion}
use Rattle.layout.specs.declared.Field.{Field}
use Rattle.layout.specs.declared.Part.{Part}
use Rattle.layout.specs.declared.Part.TheVariants.{Reserved, Ephemeris1, Ephemeris2, Integrity, Week, Clock, GroupDelay}
use Rattle.layout.specs.declared.Part.TheVariants.{Ionosphere, BdtUtc, EarthOrientation, Accuracy, Health, Opaque}
use Rattle.layout.specs.Layout.{fields_of, widths, width_of}
use Rattle.layout.specs.Ranges.{Sized}

-- ---- widths that are read at once

is_sized : Field → Bool
is_sized f = leb 1 f.width && leb f.width 55

are_sized : List Field → Bool
are_sized [] = true
are_sized (f ∷ fs) = is_sized f && are_sized fs

sized_from : (fs : List Field) → are_sized fs ≡ true → AllByRecursion Sized fs
unfolding are_sized is_sized
sized_from fs =
    (Decides-by_and is_sized Sized are_sized
    (λ f. (
      λ t. let h = and_parts (leb 1 f.width) (leb f.width 55) t in
          record { some = leb-true 1 f.width h.0; few = leb-true f.width 55 h.1 },
      λ s. and_from (leb 1 f.width) (leb f.width 55) (le-leb 1 f.width s.some) (le-leb f.width 55 s.few),
    ))
    refl (λ _ _. refl) fs).0

-- ---- of each part

-- the widths are as they are read, and the fields take no more than the part has, nor the part more than the data
fitting : Part → Bool
fitting p = are_sized (fields_of p) && (leb (widths (fields_of p)) (width_of p) && leb (width_of p) 436)

all_fit : (p : Part) → fitting p ≡ true
unfolding fitting are_sized is_sized width_of fields_of
all_fit Reserved = refl
all_fit Ephemeris1 = refl
all_fit Ephemeris2 = refl
all_fit Integrity = refl
all_fit Week = refl
all_fit Clock = refl
all_fit GroupDelay = refl
all_fit Ionosphere = refl
all_fit BdtUtc = refl
all_fit EarthOrientation = refl
all_fit Accuracy = refl
all_fit Health = refl
all_fit Opaque = refl

pub sized : (p : Part) → AllByRecursion Sized (fields_of p)
unfolding fitting
sized p =
    sized_from (fields_of p)
    (and_parts (are_sized (fields_of p)) (leb (widths (fields_of p)) (width_of p) && leb (width_of p) 436) (all_fit p)).0

pub fits : (p : Part) → (widths (fields_of p) ≤ width_of p) × (width_of p ≤ 436)
unfolding fitting
fits p =
    let holds = leb (widths (fields_of p)) (width_of p) in
    let short = leb (width_of p) 436 in
    let h = and_parts holds short (and_parts (are_sized (fields_of p)) (holds && short) (all_fit p)).1 in
    (leb-true (widths (fields_of p)) (width_of p) h.0, leb-true (width_of p) 436 h.1)

width_cases : (p : Part) → (widths (fields_of p) ≡ width_of p) ⊎ (p ≡ Opaque)
unfolding width_of fields_of
width_cases Reserved = inl refl
width_cases Ephemeris1 = inl refl
width_cases Ephemeris2 = inl refl
width_cases Integrity = inl refl
width_cases Week = inl refl
width_cases Clock = inl refl
width_cases GroupDelay = inl refl
width_cases Ionosphere = inl refl
width_cases BdtUtc = inl refl
width_cases EarthOrientation = inl refl
width_cases Accuracy = inl refl
width_cases Health = inl refl
width_cases Opaque = inr refl

-- a part that is taken apart has just the bits of its fields
pub width_fields : (p : Part) → p ≢ Opaque → widths (fields_of p) ≡ width_of p
width_fields p n = elim (width_cases p) [ inl e ↦ e | inr e ↦ absurd (n e) ]
