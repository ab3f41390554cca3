-- How far a level of k eighths is from a sign: the difference and its square are exact.
use Rattle.std.proofs.Common.{◌≡◌, ℕ, suc, ◌+◌, ◌-◌, ◌*◌, ◌≤◌, Bool, true, false, cond, T, eqb, ℤ, pos, negsuc, ◌+ℤ◌, ◌-ℤ◌, neg_ℤ, nat_abs, sym, refl, subst, inl, inr, lt_of_le_of_lt, mul-le-mul_right, mul-le-mul, le_of_mul-le-mul_right, arith, lit<}
use lib.Ieee.{Float, nan, inf, fin, binary32, down, fits, round, sum, add, sub, neg}
use lib.Ieee.Exact.{HasValue}
use lib.Ieee.Fits.{down_pos, round-fits}
use Rattle.levels.proofs.Means.{legal_within}
use Rattle.levels.specs.Levels.{legal, WithinFour}
use Rattle.std.proofs.lemmas.Int.{ints}
use Rattle.std.proofs.lemmas.Bool.{cases_order}
use Rattle.scores.specs.Scored.{distance, square}
use Rattle.scores.specs.Whole.{apart, signed, Eighth, EveryEighth}
use Rattle.scores.proofs.Values.{add_values, round_eighths, square_exact, sum_less, sum_level, sum_more}

-- ---- the difference

-- x is z eighths, in size
abbrev Sized : Float → ℤ → Type 0
Sized x z = (u : Bool) × HasValue x u (nat_abs z) 8

rounded : (x : Float) (u : Bool) (q : ℕ) (z : ℤ) → x ≡ round binary32 u q 8 → q ≤ 40 → nat_abs z ≡ q → Sized x z
rounded x u q z e l n =
    (u, subst (λ k. HasValue x u k 8) (sym n) (subst (λ y. HasValue y u q 8) (sym e) (round_eighths u q (omega arith))))

-- ±a eighths and ±1
sum_sized : (s t : Bool) (a : ℕ) → a ≤ 32 → Sized (sum binary32 s a t 8 8) (signed s a +ℤ signed t 8)
unfolding sum
sum_sized true true a h = rounded _ true (a + 8) (neg_ℤ (pos a) +ℤ negsuc 7) refl (omega arith) (omega (arith, ints))
sum_sized false false a h = rounded _ false (a + 8) (pos a +ℤ pos 8) refl (omega arith) refl
sum_sized true false a h =
    let z = neg_ℤ (pos a) +ℤ pos 8 in
    elim (cases_order a 8) [
      | inl e ↦ rounded _ false 0 z (sum_level true false a 8 8 refl e) (omega arith) (omega (arith, ints))
      | inr o ↦ elim o [
        | inl l ↦ rounded _ false (8 - a) z (sum_less true false a 8 8 refl l) (omega arith) (omega (arith, ints))
        | inr m ↦ rounded _ true (a - 8) z (sum_more true false a 8 8 refl m) (omega arith) (omega (arith, ints))
      ]
    ]
sum_sized false true a h =
    let z = pos a +ℤ negsuc 7 in
    elim (cases_order a 8) [
      | inl e ↦ rounded _ false 0 z (sum_level false true a 8 8 refl e) (omega arith) (omega (arith, ints))
      | inr o ↦ elim o [
        | inl l ↦ rounded _ true (8 - a) z (sum_less false true a 8 8 refl l) (omega arith) (omega (arith, ints))
        | inr m ↦ rounded _ false (a - 8) z (sum_more false true a 8 8 refl m) (omega arith) (omega (arith, ints))
      ]
    ]

add_sized : (x : Float) (k : ℤ) → Eighth x k → nat_abs k ≤ 32 → (t : Bool) → Sized (add binary32 x (fin t 1 (pos 0))) (k +ℤ signed t 8)
add_sized x k v h t =
    let one : Float = fin t 1 (pos 0) in
    let s = v.minus in
    let n = nat_abs k in
    subst (λ z. Sized (add binary32 x one) (z +ℤ signed t 8)) v.means
    (subst (λ y. Sized y (signed s n +ℤ signed t 8)) (sym (add_values x one s t n 8 8 (lit< tt) v.value (refl, refl)))
    (sum_sized s t n h))

distance_sized : (x : Float) (k : ℤ) (b : ℕ) → Eighth x k → nat_abs k ≤ 32 → (u : Bool) × HasValue (distance x b) u (apart k b) 8
unfolding sub neg
distance_sized x k b v h = go (eqb b 1)
  where
    go : (c : Bool) → (u : Bool) × HasValue (sub binary32 x (fin c 1 (pos 0))) u (nat_abs (k -ℤ cond c (negsuc 7) (pos 8))) 8
    go true = add_sized x k v h false
    go false = add_sized x k v h true

-- ---- its square

apart_le : (k : ℤ) (b : ℕ) → nat_abs k ≤ 32 → apart k b ≤ 40
apart_le k b h = go (eqb b 1)
  where
    go : (c : Bool) → nat_abs (k -ℤ cond c (negsuc 7) (pos 8)) ≤ 40
    go true = omega (arith, ints)
    go false = omega (arith, ints)

pub square_le : (k : ℤ) (b : ℕ) → nat_abs k ≤ 32 → apart k b * apart k b ≤ 1600
square_le k b h = mul-le-mul (apart_le k b h) (apart_le k b h)

pub square_is : (x : Float) (k : ℤ) (b : ℕ) → Eighth x k → nat_abs k ≤ 32 → HasValue (square x b) false (apart k b * apart k b) 64
square_is x k b v h =
    let d = distance_sized x k b v h in
    square_exact (distance x b) d.0 (apart k b) d.1 (lt_of_le_of_lt (square_le k b h) (lit< tt))

-- ---- legal levels

pub legal_eighth : (x : Float) (k : ℤ) → legal x ≡ true → Eighth x k → nat_abs k ≤ 32
legal_eighth nan k l v = absurd v.value
legal_eighth (inf s) k l v = absurd v.value
legal_eighth (fin s m e) k l v =
    le_of_mul-le-mul_right {k = down e} (omega (arith, v.value.1, (legal_within (fin s m e)).0 l)) (down_pos e)

within : (x : Float) (s : Bool) (n : ℕ) → n ≤ 32 → HasValue x s n 8 → WithinFour x
within nan s n h v = absurd v
within (inf t) s n h v = absurd v
within (fin t m e) s n h v = omega (arith, v.1, mul-le-mul_right (down e) h)

made : (s : Bool) (n : ℕ) (k : ℤ) → n ≤ 32 → nat_abs k ≡ n → signed s n ≡ k
    → (x : Float) × (T (fits binary32 x)) × (legal x ≡ true) × Eighth x k
made s n k h a e =
    let x = round binary32 s n 8 in
    let v = round_eighths s n (omega arith) in (
      x,
      round-fits binary32 s n 8,
      (legal_within x).1 (within x s n h v),
      record {
        minus = s;
        value = subst (λ j. HasValue x s j 8) (sym a) v;
        means = subst (λ j. signed s j ≡ k) (sym a) e;
      },
    )

pub every_eighth : EveryEighth
every_eighth (pos n) h = made false n (pos n) h refl refl
every_eighth (negsuc n) h = made true (suc n) (negsuc n) h refl refl
