-- A count and the bits of its field: each gives the other.
use Rattle.std.proofs.Common.{◌≡◌, ℕ, zero, suc, ◌-◌, ◌*◌, ◌^◌, ◌<◌, ◌≤◌, Bool, true, false, ◌&&◌, ltb, leb, List, [], ◌∷◌, ℤ, pos, negsuc, ◌≤ℤ◌, refl, ap, ◌∙◌, arith, pow_pos}
use native.Mathlib.Nat.{pow-succ'}
use lib.Signed.{le_z}
use Rattle.std.proofs.lemmas.Int.{ints}
use Rattle.std.proofs.lemmas.Bool.{and_parts, leb-true, lt-ltb, le-ltb, cond-true, cond-false, cond_both}
use Rattle.std.specs.List.{AllByRecursion}
use Rattle.layout.specs.Laws.{lowest, highest}
use Rattle.layout.specs.Layout.{fields_of}
use Rattle.layout.specs.Ranges.{Within, count_of}
use Rattle.layout.specs.declared.Field.{Field}
use Rattle.layout.specs.declared.Part.{Part}
use Rattle.layout.specs.declared.Part.TheVariants.{Reserved, Ephemeris1, Ephemeris2, Integrity, Week, Clock, GroupDelay}
use Rattle.layout.specs.declared.Part.TheVariants.{Ionosphere, BdtUtc, EarthOrientation, Accuracy, Health, Opaque}
use Rattle.blocks.specs.Write.{raw_of}

-- half of 2^w, doubled
halves : (w : ℕ) → 1 ≤ w → 2 ^ w ≡ 2 * 2 ^ (w - 1)
halves zero h = absurd (omega arith)
halves (suc w) h = pow-succ' 2 w ∙ ap (λ k. 2 * 2 ^ k) (omega arith)

-- z has a place in w bits
record Fitting (s : Bool) (w : ℕ) (z : ℤ) : Type 0 where
  low : lowest s w ≤ℤ z
  high : z ≤ℤ highest s w

raw_below : (s : Bool) (w : ℕ) (z : ℤ) → 1 ≤ w → Fitting s w z → raw_of w z < 2 ^ w
raw_below false w (pos n) h f = let p = pow_pos w in omega (arith, ints, f.high)
raw_below false w (negsuc n) h f = absurd (omega (arith, ints, f.low))
raw_below true w (pos n) h f = let p = pow_pos (w - 1) in omega (arith, ints, f.high, halves w h)
raw_below true w (negsuc n) h f = let p = pow_pos w in omega arith

count_raw_of : (s : Bool) (w : ℕ) (z : ℤ) → 1 ≤ w → Fitting s w z → count_of s w (raw_of w z) ≡ z
count_raw_of false w (pos n) h f = refl
count_raw_of false w (negsuc n) h f = absurd (omega (arith, ints, f.low))
count_raw_of true w (pos n) h f =
    let p = pow_pos (w - 1) in cond-true _ _ _ (lt-ltb n (2 ^ (w - 1)) (omega (arith, ints, f.high)))
count_raw_of true w (negsuc n) h f =
    let p = pow_pos (w - 1) in
    let e = halves w h in
    let l : n < 2 ^ (w - 1) = omega (arith, ints, f.low) in
    cond-false _ _ _ (le-ltb (2 ^ w - suc n) (2 ^ (w - 1)) (omega arith)) ∙ ap negsuc (omega arith)

pub raw_count : (s : Bool) (w v : ℕ) → v < 2 ^ w → raw_of w (count_of s w v) ≡ v
raw_count false w v h = refl
raw_count true w v h =
    cond_both (ltb v (2 ^ (w - 1))) (pos v) (negsuc (2 ^ w - suc v)) (λ z. raw_of w z ≡ v) (λ _. refl) (λ _. omega arith)

-- ---- what a field may hold has a place in its width

pub record Sound (f : Field) : Type 0 where
  pub some : 1 ≤ f.width
  pub low : lowest f.signed f.width ≤ℤ f.least
  pub high : f.most ≤ℤ highest f.signed f.width

fitting : (f : Field) (z : ℤ) → Sound f → Within f z → Fitting f.signed f.width z
fitting f z s i = record { low = omega (arith, ints, s.low, i.low); high = omega (arith, ints, s.high, i.high) }

pub raw_lt : (f : Field) (z : ℤ) → Sound f → Within f z → raw_of f.width z < 2 ^ f.width
raw_lt f z s i = raw_below f.signed f.width z s.some (fitting f z s i)

pub count_raw : (f : Field) (z : ℤ) → Sound f → Within f z → count_of f.signed f.width (raw_of f.width z) ≡ z
count_raw f z s i = count_raw_of f.signed f.width z s.some (fitting f z s i)

low_of : (s : Bool) (w : ℕ) (z : ℤ) → 1 ≤ w → Fitting s w z → negsuc (2 ^ w - 1) ≤ℤ z
low_of false w z h f = omega (arith, ints, f.low)
low_of true w z h f = let p = pow_pos (w - 1) in omega (arith, ints, f.low, halves w h)

pub low : (f : Field) (z : ℤ) → Sound f → Within f z → negsuc (2 ^ f.width - 1) ≤ℤ z
low f z s i = low_of f.signed f.width z s.some (fitting f z s i)

-- ---- of each part

is_sound : Field → Bool
is_sound f = leb 1 f.width && (le_z (lowest f.signed f.width) f.least && le_z f.most (highest f.signed f.width))

are_sound : List Field → Bool
are_sound [] = true
are_sound (f ∷ fs) = is_sound f && are_sound fs

le_z_true : (a b : ℤ) → le_z a b ≡ true → a ≤ℤ b
le_z_true a b e = grind (arith, ints)

sound_one : (f : Field) → is_sound f ≡ true → Sound f
unfolding is_sound
sound_one f e =
    let least = le_z (lowest f.signed f.width) f.least in
    let most = le_z f.most (highest f.signed f.width) in
    let h = and_parts (leb 1 f.width) (least && most) e in
    let r = and_parts least most h.1 in
    record { some = leb-true 1 f.width h.0; low = le_z_true _ _ r.0; high = le_z_true _ _ r.1 }

sound_all : (fs : List Field) → are_sound fs ≡ true → AllByRecursion Sound fs
unfolding are_sound
sound_all [] e = tt
sound_all (f ∷ fs) e = let h = and_parts (is_sound f) (are_sound fs) e in (sound_one f h.0, sound_all fs h.1)

all_sound : (p : Part) → are_sound (fields_of p) ≡ true
unfolding are_sound is_sound fields_of
all_sound Reserved = refl
all_sound Ephemeris1 = refl
all_sound Ephemeris2 = refl
all_sound Integrity = refl
all_sound Week = refl
all_sound Clock = refl
all_sound GroupDelay = refl
all_sound Ionosphere = refl
all_sound BdtUtc = refl
all_sound EarthOrientation = refl
all_sound Accuracy = refl
all_sound Health = refl
all_sound Opaque = refl

pub sound : (p : Part) → AllByRecursion Sound (fields_of p)
sound p = sound_all (fields_of p) (all_sound p)
