-- The fields of a block, one after another.
use Rattle.std.proofs.Common.{◌≡◌, ℕ, zero, suc, ◌+◌, ◌<◌, ◌≤◌, false, List, [], ◌∷◌, length, get_or, take, pos, sum_by, sym, refl, ap, ◌∙◌, add-zero, arith}
use mathlib.Core.Path.{subst⁻¹}
use Rattle.std.proofs.lemmas.List.{get_or-map, length-map, take_more}
use Rattle.std.proofs.ByRecursion.{All-get_or}
use Rattle.std.proofs.lemmas.List.Sums.{sum_by-append, sum_by-drop_more, sum_by-take-drop}
use Rattle.bits.specs.Bits.{bits_of}
use Rattle.layout.specs.Layout.{fields_of, parts_of, widths, width_of}
use Rattle.layout.specs.Placed.{Placed, at, placed}
use Rattle.layout.specs.Ranges.{Sized, held}
use Rattle.layout.specs.declared.Field.{Field}
use Rattle.layout.specs.declared.MessageType.{MessageType}
use Rattle.layout.specs.declared.MessageType.TheVariants.{Type10, Type30, Type40}
use Rattle.layout.specs.declared.Part.TheVariants.{Opaque}
use Rattle.layout.proofs.Sizes.{fits, sized}
use Rattle.blocks.specs.Held.{held_in, placed_of}
use Rattle.blocks.specs.Stands.{Stands}
use Rattle.blocks.specs.declared.place.Place.{Place}

abbrev pub no_field : Field
no_field = record { width = 0; signed = false; least = pos 0; most = pos 0 }

pub length_placed : (b : ℕ) (fs : List Field) → length (placed b fs) ≡ length fs
unfolding placed
length_placed b [] = refl
length_placed b (f ∷ fs) = ap suc (length_placed (b + f.width) fs)

-- the field number k, with its first bit
placed_at : (b : ℕ) (fs : List Field) (k : ℕ) (d : Placed) → k < length fs
    → get_or (placed b fs) k d ≡ at (b + widths (take k fs)) (get_or fs k no_field)
unfolding placed
placed_at b [] k d h = absurd (omega arith)
placed_at b (f ∷ fs) zero d h = ap (λ n. at n f) (sym (add-zero b))
placed_at b (f ∷ fs) (suc k) d h =
    placed_at (b + f.width) fs k d (omega arith)
    ∙ ap (λ n. at n (get_or fs k no_field)) (omega (arith, sum_by-append (λ (f : Field). f.width) (f ∷ []) (take k fs)))

pub length_held : (p : Place) (m : List ℕ) → length (held_in p m) ≡ length (fields_of p.part)
unfolding held_in
length_held p m = length-map (placed_of p) (λ q. held q (bits_of m)) ∙ length_placed p.first_bit (fields_of p.part)

pub held_at : (p : Place) (m : List ℕ) (k : ℕ) → k < length (fields_of p.part)
    → get_or (held_in p m) k (pos 0) ≡ held (at (p.first_bit + widths (take k (fields_of p.part))) (get_or (fields_of p.part) k no_field)) (bits_of m)
unfolding held_in
held_at p m k h =
    let d : Placed = at 0 no_field in
    get_or-map (λ q. held q (bits_of m)) (placed_of p) k d (pos 0) (omega (arith, length_placed p.first_bit (fields_of p.part)))
    ∙ ap (λ q. held q (bits_of m)) (placed_at p.first_bit (fields_of p.part) k d h)

-- ---- room

sum_to : {X : Type 0} (w : X → ℕ) (xs : List X) (i : ℕ) (d : X) → i < length xs → sum_by w (take i xs) + w (get_or xs i d) ≤ sum_by w xs
sum_to w xs i d h = omega (arith, sum_by-take-drop w xs i, sum_by-drop_more w xs i d h)

all_data : (t : MessageType) → 26 + sum_by width_of (parts_of t) ≡ 462
unfolding parts_of width_of fields_of
all_data Type10 = refl
all_data Type30 = refl
all_data Type40 = refl

-- a block ends within the data
pub room : (p : Place) (n : ℕ) → Stands p n → (26 ≤ p.first_bit) × (p.first_bit + width_of p.part ≤ 462)
room p n s =
    let t = p.message_type in
    let sum = sum_to width_of (parts_of t) s.index Opaque s.inside in
    (omega (arith, s.first), omega (arith, sum, s.first, ap width_of s.part, all_data t))

-- and each of its fields within it
pub field_room : (p : Place) (n k : ℕ) → Stands p n → k < length (fields_of p.part)
    → p.first_bit + widths (take k (fields_of p.part)) + (get_or (fields_of p.part) k no_field).width ≤ 462
field_room p n k s h =
    omega (arith, (room p n s).1, (fits p.part).0, sum_to (λ (f : Field). f.width) (fields_of p.part) k no_field h)

-- what a turn of a walk over the fields knows, where fs are the fields and n is the bit that it has come to
pub record Turn (p : Place) (size : ℕ) (fs : List Field) (i n : ℕ) : Type 0 where
  pub long : length fs ≡ size
  pub sized : Sized (get_or fs i no_field)
  pub inside : n + (get_or fs i no_field).width ≤ 462
  pub next : n + (get_or fs i no_field).width ≡ p.first_bit + widths (take (i + 1) fs)

-- of the place q that is p
pub turn : (p q : Place) (size : ℕ) → Stands p size → q ≡ p → (fs : List Field) → fs ≡ fields_of q.part → (i n : ℕ) → i < length fs
    → n ≡ q.first_bit + widths (take i fs) → Turn q size fs i n
turn p q size of is fs e i n h at =
    let s = subst⁻¹ (λ (x : Place). Stands x size) is of in
    let l : i < length (fields_of q.part) = omega (arith, ap length e) in
    record {
      long = ap length e ∙ s.fields;
      sized = subst⁻¹ (λ (l : List Field). Sized (get_or l i no_field)) e (All-get_or Sized (fields_of q.part) i no_field l (sized q.part));
      inside = omega (arith, field_room q size i s l, ap (λ (l : List Field). widths (take i l)) e, ap (λ (l : List Field). (get_or l i no_field).width) e);
      next = omega (arith, ap widths (take_more fs i no_field h), sum_by-append (λ (f : Field). f.width) (take i fs) (get_or fs i no_field ∷ []));
    }
