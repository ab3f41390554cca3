-- Counts and their bits, over the fields of a block.
use Rattle.std.proofs.Common.{◌≡◌, ℕ, zero, suc, ◌+◌, ◌-◌, ◌^◌, ◌<◌, ◌≤◌, Bool, cond, List, [], ◌∷◌, ◌++◌, map, length, get_or, take, drop, ℤ, pos, negsuc, ◌≤ℤ◌, Some, None, sym, refl, ap, ◌∙◌, append_assoc, append-nil, arith, length-append, length-drop}
use mathlib.Core.Path.{subst⁻¹}
use Rattle.std.proofs.lemmas.Int.Digits.{number_lt}
use Rattle.std.proofs.ByRecursion.{All-take, All-drop, All-get_or}
use Rattle.std.proofs.lemmas.List.{at_drop_more, at_drop_all, take_at, drop_at, take_more, length-take-le, drop-drop}
use Rattle.std.proofs.lemmas.List.Sums.{sum_by-cons}
use Rattle.std.specs.Int.Digits.{number_from_digits, AllBelowBase}
use Rattle.std.specs.List.{AllByRecursion}
use Rattle.bits.specs.Bits.{spelled, pasted, part}
use Rattle.bits.proofs.Pasted.{pasted_more, take_add}
use Rattle.bits.proofs.Spelled.{length_spelled, number_spelled, spelled_number}
use Rattle.layout.specs.Layout.{fields_of, widths}
use Rattle.layout.specs.Placed.{Placed, at, placed}
use Rattle.layout.specs.Ranges.{Within, count_of, held, outside, first_outside}
use Rattle.layout.specs.declared.Field.{Field}
use Rattle.layout.proofs.Ranges.{none_cons, within}
use Rattle.blocks.specs.Held.{placed_of}
use Rattle.blocks.specs.Write.{raw_of, pack, first_unfit}
use Rattle.blocks.specs.declared.place.Place.{Place}
use Rattle.blocks.proofs.Placing.{no_field}
use Rattle.blocks.proofs.Signs.{Sound, sound, low, raw_lt, count_raw, raw_count}

-- ---- which fields may hold their counts

-- the field at hand may hold its count, or may not
pub unfit_step : (fs : List Field) (zs : List ℤ) (i n : ℕ) (out : Bool) → i < length fs → i < length zs
    → out ≡ outside (get_or fs i no_field) (get_or zs i (pos 0))
    → cond out (Some n) (first_unfit (placed (n + (get_or fs i no_field).width) (drop (i + 1) fs)) (drop (i + 1) zs))
    ≡ first_unfit (placed n (drop i fs)) (drop i zs)
unfolding first_unfit placed
unfit_step fs zs i n out h l t =
    let f = get_or fs i no_field in
    ap (λ (b : Bool). cond b (Some n) (first_unfit (placed (n + f.width) (drop (i + 1) fs)) (drop (i + 1) zs))) t
    ∙ sym (at_drop_more (λ (l : List ℤ). first_unfit (placed n (f ∷ drop (i + 1) fs)) l) zs i (pos 0) l)
    ∙ sym (at_drop_more (λ (l : List Field). first_unfit (placed n l) (drop i zs)) fs i no_field h)

pub unfit_end : (fs : List Field) (zs : List ℤ) (i n : ℕ) → length fs ≤ i → None ≡ first_unfit (placed n (drop i fs)) (drop i zs)
unfolding first_unfit placed
unfit_end fs zs i n h = sym (at_drop_all (λ (l : List Field). first_unfit (placed n l) (drop i zs)) fs i h)

within_at : (b : ℕ) (fs : List Field) (zs : List ℤ) (k : ℕ) → first_unfit (placed b fs) zs ≡ None → k < length fs → k < length zs
    → Within (get_or fs k no_field) (get_or zs k (pos 0))
unfolding first_unfit placed
within_at b [] zs k e h l = absurd (omega arith)
within_at b (f ∷ fs) [] k e h l = absurd (omega arith)
within_at b (f ∷ fs) (z ∷ zs) zero e h l = within f z (none_cons (outside f z) (first_unfit (placed (b + f.width) fs) zs) b e).0
within_at b (f ∷ fs) (z ∷ zs) (suc k) e h l =
    within_at (b + f.width) fs zs k (none_cons (outside f z) (first_unfit (placed (b + f.width) fs) zs) b e).1 (omega arith) (omega arith)

pub outside_held : (ps : List Placed) (bs : List ℕ) → first_outside ps bs ≡ first_unfit ps (map (λ q. held q bs) ps)
unfolding first_unfit first_outside
outside_held [] bs = refl
outside_held (p ∷ ps) bs = ap (λ o. cond (outside p.field (held p bs)) (Some p.bit) o) (outside_held ps bs)

-- of the place q that is p, and its fields fs
pub at_place : (p q : Place) (fs : List Field) (zs : List ℤ) → q ≡ p → fs ≡ fields_of q.part
    → first_unfit (placed q.first_bit fs) zs ≡ first_unfit (placed_of p) zs
at_place p q fs zs e f =
    ap (λ (l : List Field). first_unfit (placed q.first_bit l) zs) f ∙ ap (λ (x : Place). first_unfit (placed_of x) zs) e

pub low_at : (p q : Place) (fs : List Field) (zs : List ℤ) (i : ℕ) → q ≡ p → fs ≡ fields_of q.part → length zs ≡ length fs → i < length fs
    → first_unfit (placed_of p) zs ≡ None → negsuc (2 ^ (get_or fs i no_field).width - 1) ≤ℤ get_or zs i (pos 0)
low_at p q fs zs i e f n h u =
    let l : i < length (fields_of q.part) = omega (arith, ap length f) in
    low (get_or fs i no_field) (get_or zs i (pos 0))
    (subst⁻¹ (λ (l : List Field). Sound (get_or l i no_field)) f (All-get_or Sound (fields_of q.part) i no_field l (sound q.part)))
    (within_at q.first_bit fs zs i (at_place p q fs zs e f ∙ u) h (omega arith))

-- ---- one count more is written

pub length_pack : (fs : List Field) (zs : List ℤ) → length zs ≡ length fs → length (pack fs zs) ≡ widths fs
unfolding pack
length_pack [] zs h = refl
length_pack (f ∷ fs) [] h = absurd (omega arith)
length_pack (f ∷ fs) (z ∷ zs) h =
    simp length-append (omega (
      arith,
      length_spelled f.width (raw_of f.width z),
      length_pack fs zs (omega arith),
      sum_by-cons (λ (f : Field). f.width) f fs,
    ))

pack_append : (fs gs : List Field) (zs ys : List ℤ) → length zs ≡ length fs → pack (fs ++ gs) (zs ++ ys) ≡ pack fs zs ++ pack gs ys
unfolding pack
pack_append [] gs [] ys h = refl
pack_append [] gs (z ∷ zs) ys h = absurd (omega arith)
pack_append (f ∷ fs) gs [] ys h = absurd (omega arith)
pack_append (f ∷ fs) gs (z ∷ zs) ys h =
    ap (λ l. spelled f.width (raw_of f.width z) ++ l) (pack_append fs gs zs ys (omega arith))
    ∙ sym (append_assoc (spelled f.width (raw_of f.width z)) (pack fs zs) (pack gs ys))

pack_one : (f : Field) (z : ℤ) → pack (f ∷ []) (z ∷ []) ≡ spelled f.width (raw_of f.width z)
unfolding pack
pack_one f z = append-nil (spelled f.width (raw_of f.width z))

pub pack_step : (fs : List Field) (zs : List ℤ) (bs now : List ℕ) (first n i : ℕ) → i < length fs → length zs ≡ length fs → first ≤ length bs
    → n ≡ first + widths (take i fs) → now ≡ pasted bs first (pack (take i fs) (take i zs))
    → pasted now n (spelled (get_or fs i no_field).width (raw_of (get_or fs i no_field).width (get_or zs i (pos 0))))
    ≡ pasted bs first (pack (take (i + 1) fs) (take (i + 1) zs))
pack_step fs zs bs now first n i h l far e so =
    let f = get_or fs i no_field in
    let z = get_or zs i (pos 0) in
    let p : List ℕ = pack (take i fs) (take i zs) in
    let s : List ℕ = spelled f.width (raw_of f.width z) in
    let same : length (take i zs) ≡ length (take i fs) =
    length-take-le i zs (omega arith) ∙ sym (length-take-le i fs (omega arith)) in
    let k : n ≡ first + length p = omega (arith, length_pack (take i fs) (take i zs) same) in
    let more : pack (take (i + 1) fs) (take (i + 1) zs) ≡ p ++ s =
    ap (λ (l : List Field). pack l (take (i + 1) zs)) (take_more fs i no_field h)
    ∙ ap (pack (take i fs ++ (f ∷ []))) (take_more zs i (pos 0) (omega arith))
    ∙ pack_append (take i fs) (f ∷ []) (take i zs) (z ∷ []) same
    ∙ ap (λ l. p ++ l) (pack_one f z) in
    ap (λ l. pasted l n s) so ∙ ap (λ m. pasted (pasted bs first p) m s) k
    ∙ pasted_more bs p s first far ∙ ap (pasted bs first) (sym more)

-- ---- the counts come back

pub held_pack : (fs : List Field) (zs : List ℤ) (b : ℕ) (front rest : List ℕ) → length front ≡ b → length zs ≡ length fs → AllByRecursion Sound fs
    → first_unfit (placed b fs) zs ≡ None → map (λ q. held q (front ++ (pack fs zs ++ rest))) (placed b fs) ≡ zs
unfolding pack placed first_unfit
held_pack [] [] b front rest n l s u = refl
held_pack [] (z ∷ zs) b front rest n l s u = absurd (omega arith)
held_pack (f ∷ fs) [] b front rest n l s u = absurd (omega arith)
held_pack (f ∷ fs) (z ∷ zs) b front rest n l s u =
    let w : ℕ = f.width in
    let mine : List ℕ = spelled w (raw_of w z) in
    let whole : List ℕ = front ++ ((mine ++ pack fs zs) ++ rest) in
    let long = length_spelled w (raw_of w z) in
    let h = none_cons (outside f z) (first_unfit (placed (b + w) fs) zs) b u in
    let i = within f z h.0 in
    let bits : part whole b w ≡ mine =
    ap (take w) (drop_at front ((mine ++ pack fs zs) ++ rest) b n ∙ append_assoc mine (pack fs zs) rest)
    ∙ take_at mine (pack fs zs ++ rest) w long in
    let head : held (at b f) whole ≡ z =
    ap (λ l. count_of f.signed w (number_from_digits 2 l)) bits
    ∙ ap (count_of f.signed w) (number_spelled w (raw_of w z) (raw_lt f z s.0 i)) ∙ count_raw f z s.0 i in
    let split : whole ≡ (front ++ mine) ++ (pack fs zs ++ rest) = simp append_assoc in
    let tail : map (λ q. held q whole) (placed (b + w) fs) ≡ zs =
    ap (λ l. map (λ q. held q l) (placed (b + w) fs)) split
    ∙ held_pack fs zs (b + w) (front ++ mine) rest (length-append front mine ∙ omega arith) (omega arith) s.1 h.1 in
    ap (λ y. y ∷ map (λ q. held q whole) (placed (b + w) fs)) head ∙ ap (λ y. z ∷ y) tail

-- ---- the bits come back

pub pack_held : (fs : List Field) (b : ℕ) (bs : List ℕ) → AllBelowBase 2 bs → b + widths fs ≤ length bs
    → pack fs (map (λ q. held q bs) (placed b fs)) ≡ part bs b (widths fs)
unfolding pack placed
pack_held [] b bs u h = refl
pack_held (f ∷ fs) b bs u h =
    let w : ℕ = f.width in
    let all = sum_by-cons (λ (f : Field). f.width) f fs in
    let t : List ℕ = part bs b w in
    let n : length t ≡ w = length-take-le w (drop b bs) (simp length-drop (omega arith)) in
    let ut : AllBelowBase 2 t = All-take (λ b. b < 2) w (drop b bs) (All-drop (λ b. b < 2) b bs u) in
    let small : number_from_digits 2 t < 2 ^ w = omega (arith, number_lt 2 t ut, ap (λ k. 2 ^ k) n) in
    let mine : spelled w (raw_of w (count_of f.signed w (number_from_digits 2 t))) ≡ t =
    ap (spelled w) (raw_count f.signed w (number_from_digits 2 t) small) ∙ ap (λ k. spelled k (number_from_digits 2 t)) (sym n) ∙ spelled_number t 0 ut in
    let rest : pack fs (map (λ q. held q bs) (placed (b + w) fs)) ≡ take (widths fs) (drop w (drop b bs)) =
    pack_held fs (b + w) bs u (omega arith) ∙ ap (take (widths fs)) (sym (drop-drop w b bs)) in
    ap (λ l. l ++ pack fs (map (λ q. held q bs) (placed (b + w) fs))) mine ∙ ap (λ l. t ++ l) rest
    ∙ sym (take_add w (widths fs) (drop b bs)) ∙ ap (λ k. part bs b k) (sym all)
