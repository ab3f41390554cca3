-- What the comparisons of a level say of its number.
use Rattle.std.proofs.Common.{◌≡◌, ℕ, zero, suc, ◌+◌, ◌*◌, ◌<◌, Bool, true, false, ◌&&◌, ◌||◌, eqb, ltb, leb, ℤ, pos, Decides, sym, refl, ◌∙◌, true≢false, mul-pos, mul-one, arith, lit<}
use lib.Ieee.{Float, nan, inf, fin, up, down, le, lt}
use lib.Ieee.Fits.{down_pos, up_pos}
use Rattle.std.proofs.Math.Bool.{and-true}
use Rattle.std.proofs.lemmas.Bool.Decides.{nat_tests}
use Rattle.std.proofs.lemmas.Bool.{cond_both, lt-ltb, le-ltb, le-leb, leb-true}
use Rattle.std.specs.Float.{float_with_sign}
use Rattle.levels.specs.Levels.{bit, legal, Negative, WithinFour}

-- a < b or a = b, as comparisons of floats have it
pub at_most : (a b : ℕ) → (ltb a b || (eqb a b && true)) ≡ leb a b
at_most a b = grind (arith, nat_tests)

same_eqb : (a b : ℕ) → eqb a b ≡ eqb b a
same_eqb a b = grind (arith, nat_tests)

legal_fin : (s : Bool) (m : ℕ) (e : ℤ) → legal (fin s m e) ≡ leb (m * up e) (4 * down e)
unfolding le legal
legal_fin false m e =
    let p : 0 < 4 * down e + m * up e = omega (arith, down_pos e) in
    rw (mul-one (m * up e), lt-ltb 0 (4 * down e + m * up e) p) (at_most (m * up e) (4 * down e))
legal_fin true m e =
    let p : 0 < m * up e + 4 * down e = omega (arith, down_pos e) in
    rw (mul-one (m * up e), lt-ltb 0 (m * up e + 4 * down e) p, and-true (ltb (m * up e) (4 * down e) || (eqb (4 * down e) (m * up e) && true)), same_eqb (4 * down e) (m * up e)) (at_most (m * up e) (4 * down e))

size_fin : (m : ℕ) (e : ℤ) → le (fin false m e) (fin false 1 (pos 2)) ≡ leb (m * up e) (4 * down e)
unfolding le
size_fin m e = rw (mul-one (m * up e)) (at_most (m * up e) (4 * down e))

-- by its size
pub legal_size : (x : Float) → le (float_with_sign false x) (fin false 1 (pos 2)) ≡ legal x
unfolding le legal float_with_sign
legal_size nan = refl
legal_size (inf true) = refl
legal_size (inf false) = refl
legal_size (fin s m e) = size_fin m e ∙ sym (legal_fin s m e)

pub legal_within : (x : Float) → Decides (legal x) (WithinFour x)
unfolding le legal
legal_within nan = (λ e. true≢false (sym e), λ h. absurd h)
legal_within (inf true) = (λ e. true≢false (sym e), λ h. absurd h)
legal_within (inf false) = (λ e. true≢false (sym e), λ h. absurd h)
legal_within (fin s m e) =
    (λ h. leb-true (m * up e) (4 * down e) (sym (legal_fin s m e) ∙ h), λ h. legal_fin s m e ∙ le-leb (m * up e) (4 * down e) h)

pub bit_below : (x : Float) → bit x < 2
unfolding bit
bit_below x = cond_both (lt x (fin false 0 (pos 0))) 1 0 (λ n. n < 2) (λ e. lit< tt) (λ e. lit< tt)

pub bit_negative : (x : Float) → Negative x → bit x ≡ 1
unfolding bit lt
bit_negative nan h = absurd h
bit_negative (inf true) h = refl
bit_negative (inf false) h = absurd (true≢false (sym h))
bit_negative (fin true m e) h = rw (lt-ltb 0 (m * up e * 1 + 0 * 1 * down e) (omega (arith, mul-pos h.1 (up_pos e))))
bit_negative (fin false m e) h = absurd (true≢false (sym h.0))

pub bit_other : (x : Float) → (Negative x → ⊥) → bit x ≡ 0
unfolding bit lt
bit_other nan h = refl
bit_other (inf true) h = absurd (h refl)
bit_other (inf false) h = refl
bit_other (fin false m e) h = rw (le-ltb (m * up e * 1) (0 * 1 * down e) (omega arith))
bit_other (fin true zero e) h = rw (le-ltb 0 (0 * up e * 1 + 0 * 1 * down e) (omega arith))
bit_other (fin true (suc m) e) h = absurd (h (refl, omega arith))
