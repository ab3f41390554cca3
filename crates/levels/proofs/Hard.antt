-- The hard decision, its bits and its symbols.
use Rattle.std.proofs.Common.{◌≡◌, ℕ, zero, suc, ◌+◌, ◌*◌, ◌/◌, ◌%◌, ◌<◌, List, [], ◌∷◌, map, length, get_or, sym, refl, ap, ◌∙◌, arith, lit<}
use lib.Ieee.{Float}
use Rattle.std.proofs.lemmas.List.{length-map}
use Rattle.std.specs.Simd.{first_chunks}
use Rattle.bits.specs.Bits.{bits_of}
use Rattle.parity.specs.Code.{SymbolList}
use Rattle.levels.specs.Hard.{hard, six, symbol_at}
use Rattle.levels.specs.Levels.{bit}
use Rattle.levels.proofs.Chunks.{length_chunks}
use Rattle.levels.proofs.Means.{bit_below}

-- each six levels make a symbol
pub hard_sixes : (n : ℕ) (xs : List Float) → length xs ≡ 6 * n → map (λ s. symbol_at s 0) (first_chunks 6 n xs) ≡ hard xs
unfolding hard
hard_sixes zero [] h = refl
hard_sixes zero (a ∷ xs) h = absurd (omega arith)
hard_sixes (suc n) [] h = absurd (omega arith)
hard_sixes (suc n) (a ∷ []) h = absurd (omega arith)
hard_sixes (suc n) (a ∷ b ∷ []) h = absurd (omega arith)
hard_sixes (suc n) (a ∷ b ∷ c ∷ []) h = absurd (omega arith)
hard_sixes (suc n) (a ∷ b ∷ c ∷ d ∷ []) h = absurd (omega arith)
hard_sixes (suc n) (a ∷ b ∷ c ∷ d ∷ e ∷ []) h = absurd (omega arith)
hard_sixes (suc n) (a ∷ b ∷ c ∷ d ∷ e ∷ f ∷ xs) h = ap (λ l. six a b c d e f ∷ l) (hard_sixes n xs (omega arith))

length_hard : (n : ℕ) (xs : List Float) → length xs ≡ 6 * n → length (hard xs) ≡ n
length_hard n xs h = ap length (sym (hard_sixes n xs h)) ∙ length-map (first_chunks 6 n xs) (λ s. symbol_at s 0) ∙ length_chunks 6 n xs

-- ---- bit by bit

bits_six : (ss : List ℕ) (a b c d e f : ℕ) → a < 2 → b < 2 → c < 2 → d < 2 → e < 2 → f < 2
    → bits_of ((32 * a + 16 * b + 8 * c + 4 * d + 2 * e + f) ∷ ss) ≡ a ∷ b ∷ c ∷ d ∷ e ∷ f ∷ bits_of ss
bits_six ss a b c d e f pa pb pc pd pe pf =
    let s : ℕ = 32 * a + 16 * b + 8 * c + 4 * d + 2 * e + f in
    let e5 : s / 32 % 2 ≡ a = omega arith in
    let e4 : s / 16 % 2 ≡ b = omega arith in
    let e3 : s / 8 % 2 ≡ c = omega arith in
    let e2 : s / 4 % 2 ≡ d = omega arith in
    let e1 : s / 2 % 2 ≡ e = omega arith in
    let e0 : s % 2 ≡ f = omega arith in
    cc

pub bits_hard : (n : ℕ) (xs : List Float) → length xs ≡ 6 * n → bits_of (hard xs) ≡ map bit xs
unfolding hard
bits_hard zero [] h = refl
bits_hard zero (a ∷ xs) h = absurd (omega arith)
bits_hard (suc n) [] h = absurd (omega arith)
bits_hard (suc n) (a ∷ []) h = absurd (omega arith)
bits_hard (suc n) (a ∷ b ∷ []) h = absurd (omega arith)
bits_hard (suc n) (a ∷ b ∷ c ∷ []) h = absurd (omega arith)
bits_hard (suc n) (a ∷ b ∷ c ∷ d ∷ []) h = absurd (omega arith)
bits_hard (suc n) (a ∷ b ∷ c ∷ d ∷ e ∷ []) h = absurd (omega arith)
bits_hard (suc n) (a ∷ b ∷ c ∷ d ∷ e ∷ f ∷ xs) h =
    bits_six (hard xs) (bit a) (bit b) (bit c) (bit d) (bit e) (bit f)
    (bit_below a) (bit_below b) (bit_below c) (bit_below d) (bit_below e) (bit_below f)
    ∙ ap (λ l. bit a ∷ bit b ∷ bit c ∷ bit d ∷ bit e ∷ bit f ∷ l) (bits_hard n xs (omega arith))

-- ---- symbols

six_below : (a b c d e f : Float) → six a b c d e f < 64
six_below a b c d e f = omega (arith, bit_below a, bit_below b, bit_below c, bit_below d, bit_below e, bit_below f)

hard_below : (xs : List Float) (k : ℕ) → get_or (hard xs) k 0 < 64
unfolding hard
hard_below [] k = lit< tt
hard_below (a ∷ []) k = lit< tt
hard_below (a ∷ b ∷ []) k = lit< tt
hard_below (a ∷ b ∷ c ∷ []) k = lit< tt
hard_below (a ∷ b ∷ c ∷ d ∷ []) k = lit< tt
hard_below (a ∷ b ∷ c ∷ d ∷ e ∷ []) k = lit< tt
hard_below (a ∷ b ∷ c ∷ d ∷ e ∷ f ∷ xs) zero = six_below a b c d e f
hard_below (a ∷ b ∷ c ∷ d ∷ e ∷ f ∷ xs) (suc k) = hard_below xs k

-- six levels to a symbol
pub hard_symbols : (n : ℕ) (xs : List Float) → length xs ≡ 6 * n → SymbolList n (hard xs)
hard_symbols n xs h = record { long = length_hard n xs h; small = hard_below xs }
