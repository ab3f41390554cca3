-- Products and sums of f32 see only the values of their operands, and where a rounding changes nothing.
use Rattle.std.proofs.Common.{◌≡◌, ℕ, ◌+◌, ◌-◌, ◌*◌, ◌^◌, ◌<◌, ◌≤◌, Bool, true, false, sym, refl, ap, ◌∙◌, subst, inl, inr, lt_of_lt_of_le, mul_assoc, mul_comm, lt_of_mul-lt-mul_right, mul-lt-mul_of_pos_right, mul-pos, mul_right_comm, arith, lit<, lit≤, pow_mono, shl_lt}
use mathlib.Core.Bool.{beq}
use native.Mathlib.Nat.{mul-mul-mul_comm, eq_of_mul-eq-mul_right}
use lib.Ieee.{Float, nan, inf, fin, binary32, up, down, unlike, round, sum, add, mul}
use lib.Ieee.Exact.{HasValue, round_exact}
use lib.Ieee.Fits.{down_pos}
use lib.Ieee.Scale.{round_same}
use Rattle.std.proofs.lemmas.Bool.{cases_order, lt-ltb, le-ltb}

-- ---- q / c as it stands, where c is a power of two

round_whole : (c j : ℕ) → 0 < c → j ≤ 149 → 2 ^ 149 ≡ 2 ^ j * c → (s : Bool) (q : ℕ) → q < 2 ^ 24
    → HasValue (round binary32 s q c) s q c
round_whole c j C l u s q h =
    round_exact binary32 s q c q j C h (lt_of_lt_of_le (shl_lt 24 j h) (pow_mono {j = 277} (omega arith)))
    (ap (λ x. q * x) u ∙ sym (mul_assoc q (2 ^ j) c))

pub round_eighths : (s : Bool) (q : ℕ) → q < 2 ^ 24 → HasValue (round binary32 s q 8) s q 8
round_eighths = round_whole 8 146 (lit< tt) (lit≤ tt) refl

round_64ths : (s : Bool) (q : ℕ) → q < 2 ^ 24 → HasValue (round binary32 s q 64) s q 64
round_64ths = round_whole 64 143 (lit< tt) (lit≤ tt) refl

-- ---- products

product : (x y de dd a b c c' : ℕ) → x * c ≡ a * de → y * c' ≡ b * dd → x * y * (c * c') ≡ a * b * (de * dd)
product x y de dd a b c c' p q =
    mul-mul-mul_comm x y c c' ∙ ap (λ z. z * (y * c')) p ∙ ap (λ z. a * de * z) q ∙ mul-mul-mul_comm a de b dd

mul_values : (x y : Float) (s t : Bool) (a b c c' : ℕ) → 0 < c → 0 < c' → HasValue x s a c → HasValue y t b c'
    → mul binary32 x y ≡ round binary32 (unlike s t) (a * b) (c * c')
unfolding mul
mul_values nan y s t a b c c' C D v w = absurd v
mul_values (inf u) y s t a b c c' C D v w = absurd v
mul_values (fin u m e) nan s t a b c c' C D v w = absurd w
mul_values (fin u m e) (inf z) s t a b c c' C D v w = absurd w
mul_values (fin u m e) (fin z n d) s t a b c c' C D v w =
    ap (λ r. round binary32 (unlike r z) (m * up e * (n * up d)) (down e * down d)) v.0
    ∙ ap (λ r. round binary32 (unlike s r) (m * up e * (n * up d)) (down e * down d)) w.0
    ∙ round_same binary32 (unlike s t) (m * up e * (n * up d)) (down e * down d) (a * b) (c * c')
    (mul-pos (down_pos e) (down_pos d)) (mul-pos C D)
    (product (m * up e) (n * up d) (down e) (down d) a b c c' v.1 w.1)

-- the square of a whole number of eighths
pub square_exact : (d : Float) (s : Bool) (a : ℕ) → HasValue d s a 8 → a * a < 2 ^ 24 → HasValue (mul binary32 d d) false (a * a) 64
square_exact d s a v h = go s v
  where
    go : (s : Bool) → HasValue d s a 8 → HasValue (mul binary32 d d) false (a * a) 64
    go true v =
        subst (λ x. HasValue x false (a * a) 64) (sym (mul_values d d true true a a 8 8 (lit< tt) (lit< tt) v v))
        (round_64ths false (a * a) h)
    go false v =
        subst (λ x. HasValue x false (a * a) 64) (sym (mul_values d d false false a a 8 8 (lit< tt) (lit< tt) v v))
        (round_64ths false (a * a) h)

-- ---- sums

-- of unlike signs, the larger less the smaller
pub sum_less : (s t : Bool) (a b c : ℕ) → beq s t ≡ false → a < b → sum binary32 s a t b c ≡ round binary32 t (b - a) c
unfolding sum
sum_less s t a b c u l = rw (u, lt-ltb a b l)

pub sum_more : (s t : Bool) (a b c : ℕ) → beq s t ≡ false → b < a → sum binary32 s a t b c ≡ round binary32 s (a - b) c
unfolding sum
sum_more true t a b c u l = rw (u, le-ltb a b (omega arith), lt-ltb b a l)
sum_more false t a b c u l = rw (u, le-ltb a b (omega arith))

pub sum_level : (s t : Bool) (a b c : ℕ) → beq s t ≡ false → a ≡ b → sum binary32 s a t b c ≡ round binary32 false 0 c
unfolding sum
sum_level true t a b c u e =
    let z : a - b ≡ 0 = omega arith in
    rw (u, le-ltb a b (omega arith), le-ltb b a (omega arith), z)
sum_level false t a b c u e =
    let z : a - b ≡ 0 = omega arith in
    rw (u, le-ltb a b (omega arith), z)

sum_unlike : (s t : Bool) (a b c a' b' c' : ℕ) → beq s t ≡ false → 0 < c → 0 < c' → a * c' ≡ a' * c → b * c' ≡ b' * c
    → sum binary32 s a t b c ≡ sum binary32 s a' t b' c'
sum_unlike s t a b c a' b' c' u C D p q =
    elim (cases_order a b) [
      | inl e ↦
          let g : a' ≡ b' = eq_of_mul-eq-mul_right c C a' b' (omega (arith, ap (λ k. k * c') e)) in
          sum_level s t a b c u e ∙ round_same binary32 false 0 c 0 c' C D (omega arith) ∙ sym (sum_level s t a' b' c' u g)
      | inr o ↦ elim o [
        | inl l ↦
            let g : a' < b' = lt_of_mul-lt-mul_right c (omega (arith, mul-lt-mul_of_pos_right l D)) in
            let d : b - a + a ≡ b = omega arith in
            let d' : b' - a' + a' ≡ b' = omega arith in
            sum_less s t a b c u l
            ∙ round_same binary32 t (b - a) c (b' - a') c' C D (omega (arith, ap (λ k. k * c') d, ap (λ k. k * c) d'))
            ∙ sym (sum_less s t a' b' c' u g)
        | inr l ↦
            let g : b' < a' = lt_of_mul-lt-mul_right c (omega (arith, mul-lt-mul_of_pos_right l D)) in
            let d : a - b + b ≡ a = omega arith in
            let d' : a' - b' + b' ≡ a' = omega arith in
            sum_more s t a b c u l
            ∙ round_same binary32 s (a - b) c (a' - b') c' C D (omega (arith, ap (λ k. k * c') d, ap (λ k. k * c) d'))
            ∙ sym (sum_more s t a' b' c' u g)
      ]
    ]

sum_same : (s t : Bool) (a b c a' b' c' : ℕ) → 0 < c → 0 < c' → a * c' ≡ a' * c → b * c' ≡ b' * c
    → sum binary32 s a t b c ≡ sum binary32 s a' t b' c'
unfolding sum
sum_same true true a b c a' b' c' C D p q = round_same binary32 true (a + b) c (a' + b') c' C D (omega arith)
sum_same false false a b c a' b' c' C D p q = round_same binary32 false (a + b) c (a' + b') c' C D (omega arith)
sum_same true false a b c a' b' c' C D p q = sum_unlike true false a b c a' b' c' refl C D p q
sum_same false true a b c a' b' c' C D p q = sum_unlike false true a b c a' b' c' refl C D p q

cross : (x de dd c a : ℕ) → x * c ≡ a * de → x * dd * c ≡ a * (de * dd)
cross x de dd c a p = mul_right_comm x dd c ∙ ap (λ z. z * dd) p ∙ mul_assoc a de dd

pub add_values : (x y : Float) (s t : Bool) (a b c : ℕ) → 0 < c → HasValue x s a c → HasValue y t b c
    → add binary32 x y ≡ sum binary32 s a t b c
unfolding add
add_values nan y s t a b c C v w = absurd v
add_values (inf u) y s t a b c C v w = absurd v
add_values (fin u m e) nan s t a b c C v w = absurd w
add_values (fin u m e) (inf z) s t a b c C v w = absurd w
add_values (fin u m e) (fin z n d) s t a b c C v w =
    let x = m * up e * down d in
    let y = n * up d * down e in
    let k = down e * down d in
    ap (λ r. sum binary32 r x z y k) v.0
    ∙ ap (λ r. sum binary32 s x r y k) w.0
    ∙ sum_same s t x y k a b c (mul-pos (down_pos e) (down_pos d)) C (cross (m * up e) (down e) (down d) c a v.1)
    (cross (n * up d) (down d) (down e) c b w.1 ∙ ap (λ z. b * z) (mul_comm (down d) (down e)))

pub add_exact : (x y : Float) (a b : ℕ) → HasValue x false a 64 → HasValue y false b 64 → a + b < 2 ^ 24
    → HasValue (add binary32 x y) false (a + b) 64
unfolding sum
add_exact x y a b v w h =
    subst (λ z. HasValue z false (a + b) 64) (sym (add_values x y false false a b 64 (lit< tt) v w)) (round_64ths false (a + b) h)
