-- The bits of a word one by one, and the squares one by one.
use Rattle.std.proofs.Common.{◌≡◌, ℕ, zero, suc, ◌+◌, ◌-◌, ◌*◌, ◌/◌, ◌%◌, ◌^◌, ◌<◌, ◌≤◌, min, List, [], ◌∷◌, length, get_or, take, fold, sym, refl, ap, ◌∙◌, arith}
use lib.Ieee.{Float, nan}
use Rattle.std.proofs.lemmas.List.{take_all}
use Rattle.std.proofs.lemmas.List.Sums.{fold_more}
use Rattle.bits.specs.Bits.{bits_of}
use Rattle.scores.specs.Scored.{square, squares}

pub bit_at : (ss : List ℕ) (i : ℕ) → i < 6 * length ss → get_or (bits_of ss) i 0 ≡ get_or ss (i / 6) 0 / 2 ^ (5 - i % 6) % 2
bit_at [] i h = absurd (omega arith)
bit_at (s ∷ ss) zero h = refl
bit_at (s ∷ ss) (suc zero) h = refl
bit_at (s ∷ ss) (suc (suc zero)) h = refl
bit_at (s ∷ ss) (suc (suc (suc zero))) h = refl
bit_at (s ∷ ss) (suc (suc (suc (suc zero)))) h = refl
bit_at (s ∷ ss) (suc (suc (suc (suc (suc zero))))) h = ap (λ n. n % 2) (omega arith)
bit_at (s ∷ ss) (suc (suc (suc (suc (suc (suc i)))))) h =
    let n : ℕ = suc (suc (suc (suc (suc (suc i))))) in
    let q : n / 6 ≡ suc (i / 6) = omega arith in
    let r : n % 6 ≡ i % 6 = omega arith in
    bit_at ss i (omega arith) ∙ rw (q, r)

pub length_squares : (xs : List Float) (bs : List ℕ) → length (squares xs bs) ≡ min (length xs) (length bs)
unfolding squares
length_squares [] bs = omega arith
length_squares (x ∷ xs) [] = omega arith
length_squares (x ∷ xs) (b ∷ bs) = omega (arith, length_squares xs bs)

pub square_at : (xs : List Float) (bs : List ℕ) (i : ℕ) (d : Float) → i < length xs → i < length bs
    → get_or (squares xs bs) i d ≡ square (get_or xs i nan) (get_or bs i 0)
unfolding squares
square_at [] bs i d h l = absurd (omega arith)
square_at (x ∷ xs) [] i d h l = absurd (omega arith)
square_at (x ∷ xs) (b ∷ bs) zero d h l = refl
square_at (x ∷ xs) (b ∷ bs) (suc i) d h l = square_at xs bs i d (omega arith) (omega arith)

-- one square more
pub folded_squares_more : (f : Float → Float → Float) (a : Float) (xs : List Float) (bs : List ℕ) (i : ℕ) (s p : Float)
    → i < length xs → i < length bs → s ≡ fold f a (take i (squares xs bs)) → p ≡ square (get_or xs i nan) (get_or bs i 0)
    → f s p ≡ fold f a (take (i + 1) (squares xs bs))
folded_squares_more f a xs bs i s p h l e g =
    ap (λ t. f t p) e
    ∙ ap (f (fold f a (take i (squares xs bs)))) (g ∙ sym (square_at xs bs i nan h l))
    ∙ sym (fold_more f a (squares xs bs) i nan (omega (arith, length_squares xs bs)))

-- all of them
pub take_squares : (xs : List Float) (bs : List ℕ) (i : ℕ) → min (length xs) (length bs) ≤ i → take i (squares xs bs) ≡ squares xs bs
take_squares xs bs i h = take_all i (squares xs bs) (omega (arith, length_squares xs bs))
