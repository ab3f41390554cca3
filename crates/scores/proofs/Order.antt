-- The order of floats that are whole multiples of one unit is that of the whole numbers.
use Rattle.std.proofs.Common.{◌≡◌, ℕ, ◌*◌, ◌<◌, max, Bool, true, false, not, ltb, leb, sym, refl, ap, ◌∙◌, inl, inr, true≢false, le_of_lt, mul-le-mul_right, le_of_mul-le-mul_right, arith}
use native.Mathlib.Nat.{max-eq_left, max-eq_right}
use lib.Ieee.{Float, nan, inf, fin, up, down, le, lt, is_nan}
use lib.Ieee.Exact.{HasValue}
use lib.Ieee.Fits.{down_pos}
use lib.Ieee.Order.{transfer}
use Rattle.levels.proofs.Means.{at_most}
use Rattle.std.proofs.lemmas.Bool.Decides.{nat_tests}
use Rattle.std.proofs.lemmas.Bool.{cases_lt, le-leb, lt-leb}
use Rattle.std.specs.Float.{float_max}

-- x / de is a / c, and y / dd is b / c
same_order : (x y de dd a b c : ℕ) → 0 < c → 0 < de → 0 < dd → x * c ≡ a * de → y * c ≡ b * dd → leb (x * dd) (y * de) ≡ leb a b
same_order x y de dd a b c C D E p q =
    elim (cases_lt b a) [
      | inr l ↦ le-leb (x * dd) (y * de) (transfer x y de dd a b c c C C p q (mul-le-mul_right c l)) ∙ sym (le-leb a b l)
      | inl l ↦ elim (cases_lt (y * de) (x * dd)) [
        | inl g ↦ lt-leb (x * dd) (y * de) g ∙ sym (lt-leb a b l)
        | inr g ↦ absurd (omega (arith, le_of_mul-le-mul_right (transfer a b c c x y de dd D E (sym p) (sym q) g) C))
      ]
    ]

le_values : (x y : Float) (a b c : ℕ) → 0 < c → HasValue x false a c → HasValue y false b c → le x y ≡ leb a b
unfolding le
le_values nan y a b c C v w = absurd v
le_values (inf s) y a b c C v w = absurd v
le_values (fin true m e) y a b c C v w = absurd (true≢false v.0)
le_values (fin false m e) nan a b c C v w = absurd w
le_values (fin false m e) (inf s) a b c C v w = absurd w
le_values (fin false m e) (fin true n d) a b c C v w = absurd (true≢false w.0)
le_values (fin false m e) (fin false n d) a b c C v w =
    at_most (m * up e * down d) (n * up d * down e)
    ∙ same_order (m * up e) (n * up d) (down e) (down d) a b c C (down_pos e) (down_pos d) v.1 w.1

not_le : (a b : ℕ) → ltb a b ≡ not (leb b a)
not_le a b = grind (arith, nat_tests)

pub lt_values : (x y : Float) (a b c : ℕ) → 0 < c → HasValue x false a c → HasValue y false b c → lt x y ≡ ltb a b
unfolding lt
lt_values nan y a b c C v w = absurd v
lt_values (inf s) y a b c C v w = absurd v
lt_values (fin true m e) y a b c C v w = absurd (true≢false v.0)
lt_values (fin false m e) nan a b c C v w = absurd w
lt_values (fin false m e) (inf s) a b c C v w = absurd w
lt_values (fin false m e) (fin true n d) a b c C v w = absurd (true≢false w.0)
lt_values (fin false m e) (fin false n d) a b c C v w =
    not_le (m * up e * down d) (n * up d * down e)
    ∙ ap not (same_order (n * up d) (m * up e) (down d) (down e) b a c C (down_pos d) (down_pos e) w.1 v.1)
    ∙ sym (not_le a b)

no_nan : (x : Float) (s : Bool) (a c : ℕ) → HasValue x s a c → is_nan x ≡ false
unfolding is_nan
no_nan nan s a c v = absurd v
no_nan (inf t) s a c v = refl
no_nan (fin t m e) s a c v = refl

pub most_values : (x y : Float) (a b c : ℕ) → 0 < c → HasValue x false a c → HasValue y false b c → HasValue (float_max x y) false (max a b) c
most_values x y a b c C v w =
    elim (cases_lt a b) [
      | inl l ↦ rw (le_values y x b a c C w v, lt-leb b a l, no_nan y false b c w, max-eq_right (le_of_lt l)) w
      | inr l ↦ rw (le_values y x b a c C w v, le-leb b a l, max-eq_left l) v
    ]
