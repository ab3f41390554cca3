-- The register is the remainder, and the only one.
use Rattle.std.proofs.Common.{◌≡◌, ℕ, zero, suc, ◌+◌, ◌*◌, ◌/◌, ◌%◌, ◌^◌, ◌<◌, ◌≤◌, ◌⊎◌, List, [], ◌∷◌, ◌++◌, length, replicate, fold, sym, refl, ap, ◌∙◌, subst, ap₂, inl, inr, arith, lit<, length-append}
use mathlib.Core.Path.{subst⁻¹}
use lib.Bits.{bit_xor, xor_assoc, xor_comm, xor_lt, xor_shr, xor_self, xor_shifted, xor_zero_l, xor_zero_r}
use lib.ListN.{length-replicate}
use Rattle.std.specs.Int.Digits.{number_from_digits, number_from_digits_after, AllBelowBase}
use Rattle.crc.specs.Crc.{crc_step, crc_of}
use Rattle.crc.specs.Remainder.{Remainder, generator, multiple}
use Rattle.crc.proofs.Steps.{step_lt, steps_lt, xor_times}
use Rattle.computed.proofs.Below.{same2}

-- the product after one more coefficient
abbrev times : ℕ → ℕ → ℕ
times a b = bit_xor (a * 2) (b * generator)

-- ---- a remainder

-- the bit that leaves the register, with b added
abbrev out : ℕ → ℕ → ℕ
out r b = (r / 2 ^ 23 + b) % 2

-- the coefficients of the quotient, from the register r on
quotient_of : ℕ → List ℕ → List ℕ
quotient_of r [] = []
quotient_of r (b ∷ bs) = out r b ∷ quotient_of (crc_step r b) bs

quotient_under : (r : ℕ) (bs : List ℕ) → AllBelowBase 2 (quotient_of r bs)
unfolding quotient_of
quotient_under r [] = tt
quotient_under r (b ∷ bs) = (omega arith, quotient_under (crc_step r b) bs)

-- the sums of two sums, paired the other way
medial : (a b c d : ℕ) → bit_xor (bit_xor a b) (bit_xor c d) ≡ bit_xor (bit_xor a c) (bit_xor b d)
medial a b c d =
    xor_assoc a b (bit_xor c d)
    ∙ ap (bit_xor a) (sym (xor_assoc b c d) ∙ ap (λ (x : ℕ). bit_xor x d) (xor_comm b c) ∙ xor_assoc c b d)
    ∙ sym (xor_assoc a c (bit_xor b d))

-- the powers from x^24 up: the bit t of the register and the coefficient that it gives with b come to b
above : (n t b : ℕ) → t < 2 → b < 2
    → bit_xor (bit_xor (n * 2 * 2 ^ 24) (t * 2 ^ 24)) ((t + b) % 2 * 2 ^ 24) ≡ (n * 2 + b) * 2 ^ 24
above n t b ht hb =
    let f : ℕ = (t + b) % 2 in
    ap (λ x. bit_xor x (f * 2 ^ 24)) (xor_times 24 (n * 2) t) ∙ xor_times 24 (bit_xor (n * 2) t) f
    ∙ ap (λ x. x * 2 ^ 24)
    (xor_assoc (n * 2) t f
    ∙ ap (bit_xor (n * 2)) (same2 2 (λ t b. bit_xor t ((t + b) % 2)) (λ t b. b) refl t b ht hb)
    ∙ xor_shifted n 1 b hb)

divide_step : (n r b : ℕ) → r < 2 ^ 24 → b < 2
    → bit_xor ((n * 2 + b) * 2 ^ 24) (crc_step r b) ≡ times (bit_xor (n * 2 ^ 24) r) (out r b)
unfolding crc_step
divide_step n r b hr hb =
    let t : ℕ = r / 2 ^ 23 in
    let x : ℕ = r * 2 % 2 ^ 24 in
    let y : ℕ = out r b * 8801531 in
    let shifted : bit_xor (n * 2 ^ 24) r * 2 ≡ bit_xor (bit_xor (n * 2 * 2 ^ 24) (t * 2 ^ 24)) x =
    sym (xor_times 1 (n * 2 ^ 24) r)
    ∙ ap₂ bit_xor {x = n * 2 ^ 24 * 2} {y = n * 2 * 2 ^ 24} (omega arith) (omega arith ∙ sym (xor_shifted t 24 x (omega arith)))
    ∙ sym (xor_assoc (n * 2 * 2 ^ 24) (t * 2 ^ 24) x) in
    let taken : out r b * generator ≡ bit_xor (out r b * 2 ^ 24) y = omega arith ∙ sym (xor_shifted (out r b) 24 y (omega arith)) in
    ap (λ z. bit_xor z (bit_xor x y)) (sym (above n t b (omega arith) hb))
    ∙ medial (bit_xor (n * 2 * 2 ^ 24) (t * 2 ^ 24)) (out r b * 2 ^ 24) x y
    ∙ sym (ap₂ bit_xor shifted taken)

divide : (bs : List ℕ) (n r m : ℕ) → AllBelowBase 2 bs → r < 2 ^ 24 → bit_xor (n * 2 ^ 24) r ≡ m
    → bit_xor (number_from_digits_after 2 n bs * 2 ^ 24) (fold crc_step r bs) ≡ fold times m (quotient_of r bs)
unfolding quotient_of
divide [] n r m u h e = e
divide (b ∷ bs) n r m u h e =
    divide bs (n * 2 + b) (crc_step r b) (times m (out r b)) u.1 (step_lt r b)
    (divide_step n r b h u.0 ∙ ap (λ x. times x (out r b)) e)

pub crc_remainder : (bs : List ℕ) → AllBelowBase 2 bs → Remainder generator bs (crc_of bs)
unfolding crc_of multiple
crc_remainder bs u =
    record {
      quotient = quotient_of 0 bs;
      coefficients = quotient_under 0 bs;
      division = divide bs 0 0 0 u (lit< tt) refl;
      small = steps_lt 0 bs (lit< tt);
    }

-- ---- the only one

-- 0, or of degree 24 or more
abbrev Apart : ℕ → Type 0
Apart d = (d ≡ 0) ⊎ (2 ^ 24 ≤ d)

apart_zero : (z : ℕ) → z < 2 → Apart (times 0 z)
apart_zero zero h = inl refl
apart_zero (suc zero) h = inr (omega arith)
apart_zero (suc (suc z)) h = absurd (omega arith)

apart_step : (d z : ℕ) → z < 2 → Apart d → Apart (times d z)
apart_step d z h (inl e) = subst⁻¹ (λ (x : ℕ). Apart (times x z)) e (apart_zero z h)
apart_step d z h (inr l) =
    let top : times d z / 2 ^ 25 ≡ d * 2 / 2 ^ 25 =
    xor_shr (d * 2) (z * generator) 25 ∙ ap (bit_xor (d * 2 / 2 ^ 25)) (omega arith) ∙ xor_zero_r (d * 2 / 2 ^ 25) in
    inr (omega arith)

times_xor : (a b x y : ℕ) → x < 2 → y < 2 → times (bit_xor a b) (bit_xor x y) ≡ bit_xor (times a x) (times b y)
times_xor a b x y hx hy =
    ap₂ bit_xor (sym (xor_times 1 a b))
    (same2 2 (λ x y. bit_xor x y * generator) (λ x y. bit_xor (x * generator) (y * generator)) refl x y hx hy)
    ∙ medial (a * 2) (b * 2) (x * generator) (y * generator)

apart : (p q : List ℕ) (a b : ℕ) → length p ≡ length q → AllBelowBase 2 p → AllBelowBase 2 q → Apart (bit_xor a b)
    → Apart (bit_xor (fold times a p) (fold times b q))
apart [] [] a b l u v h = h
apart [] (y ∷ q) a b l u v h = absurd (omega arith)
apart (x ∷ p) [] a b l u v h = absurd (omega arith)
apart (x ∷ p) (y ∷ q) a b l u v h =
    apart p q (times a x) (times b y) (omega arith) u.1 v.1
    (subst Apart (times_xor a b x y u.0 v.0) (apart_step (bit_xor a b) (bit_xor x y) (xor_lt 1 x y u.0 v.0) h))

-- zeros in front do not change a product
padded : ℕ → List ℕ → List ℕ
padded k q = replicate k 0 ++ q

padded_same : (k : ℕ) (q : List ℕ) → fold times 0 (padded k q) ≡ fold times 0 q
unfolding padded
padded_same zero q = refl
padded_same (suc k) q = padded_same k q

padded_under : (k : ℕ) (q : List ℕ) → AllBelowBase 2 q → AllBelowBase 2 (padded k q)
unfolding padded
padded_under zero q u = u
padded_under (suc k) q u = (lit< tt, padded_under k q u)

padded_length : (k : ℕ) (q : List ℕ) → length (padded k q) ≡ k + length q
unfolding padded
padded_length k q = simp (length-append, length-replicate)

same_of_zero : (r s : ℕ) → bit_xor r s ≡ 0 → r ≡ s
same_of_zero r s e =
    sym (xor_zero_r r) ∙ ap (bit_xor r) (sym (xor_self s)) ∙ sym (xor_assoc r s s) ∙ ap (λ x. bit_xor x s) e ∙ xor_zero_l s

pub remainder_only : (bs : List ℕ) (r s : ℕ) → Remainder generator bs r → Remainder generator bs s → r ≡ s
unfolding multiple
remainder_only bs r s hr hs =
    let p : List ℕ = hr.quotient in
    let q : List ℕ = hs.quotient in
    let n : ℕ = number_from_digits 2 bs * 2 ^ 24 in
    let p' : List ℕ = padded (length q) p in
    let q' : List ℕ = padded (length p) q in
    let l : length p' ≡ length q' = omega (arith, padded_length (length q) p, padded_length (length p) q) in
    let d : Apart (bit_xor (fold times 0 p') (fold times 0 q')) =
    apart p' q' 0 0 l (padded_under (length q) p hr.coefficients) (padded_under (length p) q hs.coefficients) (inl refl) in
    let e : bit_xor (fold times 0 p') (fold times 0 q') ≡ bit_xor r s =
    ap₂ bit_xor (padded_same (length q) p ∙ sym hr.division) (padded_same (length p) q ∙ sym hs.division)
    ∙ medial n r n s ∙ ap (λ x. bit_xor x (bit_xor r s)) (xor_self n) ∙ xor_zero_l (bit_xor r s) in
    elim (subst Apart e d) [
      | inl z ↦ same_of_zero r s z
      | inr big ↦ absurd (omega (arith, xor_lt 24 r s hr.small hs.small))
    ]
