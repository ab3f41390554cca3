-- A number and its bits: each gives the other.
use Rattle.std.proofs.Common.{◌≡◌, ℕ, zero, suc, ◌+◌, ◌-◌, ◌*◌, ◌/◌, ◌%◌, ◌^◌, ◌<◌, List, [], ◌∷◌, length, get_or, set, refl, ap, ◌∙◌, mod-eq_of_lt, mul_assoc, add-mul, one-add, arith}
use native.Mathlib.Nat.{pow-succ'}
use Rattle.std.specs.Int.Digits.{number_from_digits, number_from_digits_after, AllBelowBase}
use Rattle.std.proofs.lemmas.Nat.{mod-pow-add, shr_high}
use Rattle.std.proofs.lemmas.Int.Digits.{number_lt}
use Rattle.bits.specs.Bits.{spelled}

pub length_spelled : (w v : ℕ) → length (spelled w v) ≡ w
length_spelled zero v = refl
length_spelled (suc w) v = ap suc (length_spelled w v)

pub spelled_at : (w v i : ℕ) → i < w → get_or (spelled w v) i 0 ≡ v / 2 ^ (w - 1 - i) % 2
spelled_at zero v i h = absurd (omega arith)
spelled_at (suc w) v zero h = ap (λ k. v / 2 ^ k % 2) (omega arith)
spelled_at (suc w) v (suc i) h = spelled_at w v i (omega arith) ∙ ap (λ k. v / 2 ^ k % 2) (omega arith)

pub after_is : (bs : List ℕ) (a : ℕ) → number_from_digits_after 2 a bs ≡ a * 2 ^ length bs + number_from_digits 2 bs
after_is [] a = omega arith
after_is (b ∷ bs) a =
    after_is bs (a * 2 + b)
    ∙ omega (
      arith,
      add-mul (a * 2) b (2 ^ length bs),
      mul_assoc a 2 (2 ^ length bs),
      ap (λ k. a * k) (pow-succ' 2 (length bs)),
      after_is bs (0 * 2 + b),
    )

-- one bit made another
pub number_set : (bs : List ℕ) (i b a : ℕ) → i < length bs
    → number_from_digits_after 2 a (set bs i b) + get_or bs i 0 * 2 ^ (length bs - 1 - i) ≡ number_from_digits_after 2 a bs + b * 2 ^ (length bs - 1 - i)
number_set [] i b a h = absurd (omega arith)
number_set (x ∷ bs) zero b a h =
    let n : suc (length bs) - 1 - 0 ≡ length bs = omega arith in
    rw n (omega (
      arith,
      after_is bs (a * 2 + b),
      after_is bs (a * 2 + x),
      add-mul (a * 2) b (2 ^ length bs),
      add-mul (a * 2) x (2 ^ length bs),
    ))
number_set (x ∷ bs) (suc i) b a h =
    let n : suc (length bs) - 1 - suc i ≡ length bs - 1 - i = omega arith in
    rw n (number_set bs i b (a * 2 + x) (omega arith))

spelled_low : (w v : ℕ) → number_from_digits 2 (spelled w v) ≡ v % 2 ^ w
spelled_low zero v = omega arith
spelled_low (suc w) v =
    let n : 2 ^ length (spelled w v) ≡ 2 ^ w = ap (λ k. 2 ^ k) (length_spelled w v) in
    after_is (spelled w v) (0 * 2 + v / 2 ^ w % 2)
    ∙ omega (arith, ap (λ k. v / 2 ^ w % 2 * k) n, spelled_low w v, rw one-add at (mod-pow-add v 1 w))

pub number_spelled : (w v : ℕ) → v < 2 ^ w → number_from_digits 2 (spelled w v) ≡ v
number_spelled w v h = spelled_low w v ∙ mod-eq_of_lt h

-- whatever stands above the bits
pub spelled_number : (bs : List ℕ) (a : ℕ) → AllBelowBase 2 bs → spelled (length bs) (number_from_digits_after 2 a bs) ≡ bs
spelled_number [] a u = refl
spelled_number (b ∷ bs) a u =
    let n : ℕ = a * 2 + b in
    let top : number_from_digits_after 2 n bs / 2 ^ length bs % 2 ≡ b =
    ap (λ k. k / 2 ^ length bs % 2) (after_is bs n)
    ∙ ap (λ k. k % 2) (shr_high n (length bs) (number_from_digits 2 bs) (number_lt 2 bs u.1))
    ∙ omega (arith, u.0) in
    rw top (ap (λ t. b ∷ t) (spelled_number bs n u.1))
