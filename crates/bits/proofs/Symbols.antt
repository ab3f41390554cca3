-- The bits of a row of symbols: the numbers that parts of them write, and one bit written.
use Rattle.std.proofs.Common.{◌≡◌, ℕ, zero, suc, ◌+◌, ◌-◌, ◌*◌, ◌/◌, ◌%◌, ◌^◌, ◌<◌, ◌≤◌, List, [], ◌∷◌, ◌++◌, length, get_or, take, drop, set, sym, refl, ap, ◌∙◌, zero-add, arith, length-drop, length-set}
use native.Mathlib.Nat.{div-div-eq-div-mul, pow-le-pow_right}
use Rattle.std.specs.Int.Digits.{number_from_digits, number_from_digits_after, AllBelowBase}
use Rattle.std.proofs.lemmas.Nat.{shl_whole, shr_high, mod_low}
use Rattle.std.proofs.lemmas.Int.Digits.{number_lt, number_after_append, number_after_lt}
use Rattle.std.proofs.ByRecursion.{All-set, All-take, All-drop}
use Rattle.std.proofs.lemmas.List.{length-take, length-take-le, set-append_left, take-append-drop, take_more, take-take, drop-take, drop-drop}
use Rattle.bits.specs.Bits.{bits_of, part, spelled}
use Rattle.bits.proofs.Spelled.{after_is, number_set, spelled_at, spelled_number}

pub length_bits : (ss : List ℕ) → length (bits_of ss) ≡ 6 * length ss
length_bits [] = refl
length_bits (s ∷ ss) = omega (arith, length_bits ss)

pub under_bits : (ss : List ℕ) → AllBelowBase 2 (bits_of ss)
under_bits [] = tt
under_bits (s ∷ ss) = (omega arith, (omega arith, (omega arith, (omega arith, (omega arith, (omega arith, under_bits ss))))))

-- the bits of s, then l
abbrev after : ℕ → List ℕ → List ℕ
after s l = s / 32 % 2 ∷ s / 16 % 2 ∷ s / 8 % 2 ∷ s / 4 % 2 ∷ s / 2 % 2 ∷ s % 2 ∷ l

six_more : (n : ℕ) → 6 * suc n ≡ suc (suc (suc (suc (suc (suc (6 * n))))))
six_more n = omega arith

pub bits_take : (n : ℕ) (ss : List ℕ) → bits_of (take n ss) ≡ take (6 * n) (bits_of ss)
bits_take zero ss = refl
bits_take (suc n) [] = rw (six_more n)
bits_take (suc n) (s ∷ ss) = rw (six_more n) (ap (after s) (bits_take n ss))

bits_drop : (n : ℕ) (ss : List ℕ) → bits_of (drop n ss) ≡ drop (6 * n) (bits_of ss)
bits_drop zero ss = refl
bits_drop (suc n) [] = rw (six_more n)
bits_drop (suc n) (s ∷ ss) = rw (six_more n) (bits_drop n ss)

pub bits_append : (ss ts : List ℕ) → bits_of (ss ++ ts) ≡ bits_of ss ++ bits_of ts
bits_append [] ts = refl
bits_append (s ∷ ss) ts = ap (after s) (bits_append ss ts)

-- ---- one symbol more

-- nine symbols have 54 bits
pub nine_lt : (ss : List ℕ) (k : ℕ) → k ≤ 9 → number_from_digits 2 (bits_of (take k ss)) < 2 ^ 54
nine_lt ss k h =
    let bs : List ℕ = bits_of (take k ss) in
    let s : length bs ≤ 54 = omega (arith, length_bits (take k ss), length-take k ss) in
    omega (arith, number_lt 2 bs (under_bits (take k ss)), pow-le-pow_right {n = 2} (omega arith) s)

after_symbol : (n s : ℕ) → number_from_digits_after 2 n (bits_of (s ∷ [])) ≡ n * 64 + s % 64
after_symbol n s =
    omega (
      arith,
      div-div-eq-div-mul s 2 2,
      div-div-eq-div-mul s 4 2,
      div-div-eq-div-mul s 8 2,
      div-div-eq-div-mul s 16 2,
      div-div-eq-div-mul s 32 2,
    )

pub number_symbol : (ss : List ℕ) (i : ℕ) → i < length ss
    → number_from_digits 2 (bits_of (take (i + 1) ss)) ≡ number_from_digits 2 (bits_of (take i ss)) * 64 + get_or ss i 0 % 64
number_symbol ss i h =
    ap (λ l. number_from_digits 2 (bits_of l)) (take_more ss i 0 h)
    ∙ ap (number_from_digits 2) (bits_append (take i ss) (get_or ss i 0 ∷ []))
    ∙ number_after_append 2 0 (bits_of (take i ss)) (bits_of (get_or ss i 0 ∷ []))
    ∙ after_symbol (number_from_digits 2 (bits_of (take i ss))) (get_or ss i 0)

-- ---- the middle of a row of bits

number_split : (bs : List ℕ) (n k : ℕ) → length bs ≡ n + k → number_from_digits 2 bs ≡ number_from_digits 2 (take n bs) * 2 ^ k + number_from_digits 2 (drop n bs)
number_split bs n k h =
    let e : length (drop n bs) ≡ k = omega (arith, length-drop n bs) in
    ap (number_from_digits 2) (sym (take-append-drop n bs)) ∙ number_after_append 2 0 (take n bs) (drop n bs)
    ∙ after_is (drop n bs) (number_from_digits 2 (take n bs)) ∙ ap (λ j. number_from_digits 2 (take n bs) * 2 ^ j + number_from_digits 2 (drop n bs)) e

drop_lt : (bs : List ℕ) (n k : ℕ) → AllBelowBase 2 bs → length bs ≡ n + k → number_from_digits 2 (drop n bs) < 2 ^ k
drop_lt bs n k u h =
    let e : length (drop n bs) ≡ k = omega (arith, length-drop n bs) in
    rw e at (number_lt 2 (drop n bs) (All-drop _ n bs u))

-- w bits with a bits before them and c after them
middle : (bs : List ℕ) (a w c : ℕ) → AllBelowBase 2 bs → length bs ≡ a + w + c → number_from_digits 2 bs / 2 ^ c % 2 ^ w ≡ number_from_digits 2 (part bs a w)
middle bs a w c u h =
    let front : List ℕ = take (a + w) bs in
    let lf : length front ≡ a + w = length-take-le (a + w) bs (omega arith) in
    let lc : number_from_digits 2 (drop (a + w) bs) < 2 ^ c = drop_lt bs (a + w) c u h in
    let ld : number_from_digits 2 (drop a front) < 2 ^ w = drop_lt front a w (All-take _ (a + w) bs u) lf in
    ap (λ x. x / 2 ^ c % 2 ^ w) (number_split bs (a + w) c h)
    ∙ ap (λ x. x % 2 ^ w) (shr_high (number_from_digits 2 front) c (number_from_digits 2 (drop (a + w) bs)) lc)
    ∙ ap (λ x. x % 2 ^ w) (number_split front a w lf)
    ∙ mod_low (number_from_digits 2 (take a front)) w (number_from_digits 2 (drop a front)) ld
    ∙ ap (number_from_digits 2) (drop-take a w bs)

-- the same, of the bits of some symbols of a row
pub middle_bits : (ss : List ℕ) (f k a w c : ℕ) → f + k ≤ length ss → 6 * k ≡ a + w + c
    → number_from_digits 2 (bits_of (part ss f k)) / 2 ^ c % 2 ^ w ≡ number_from_digits 2 (part (bits_of ss) (6 * f + a) w)
middle_bits ss f k a w c h e =
    let bs : List ℕ = bits_of (part ss f k) in
    let l : length bs ≡ a + w + c =
    omega (arith, length_bits (part ss f k), length-take-le k (drop f ss) (simp length-drop (omega arith))) in
    let is : bs ≡ take (a + (w + c)) (drop (6 * f) (bits_of ss)) =
    bits_take k (drop f ss) ∙ ap (take (6 * k)) (bits_drop f ss) ∙ ap (λ n. take n (drop (6 * f) (bits_of ss))) (omega arith) in
    middle bs a w c (under_bits (part ss f k)) l
    ∙ ap (λ l. number_from_digits 2 (take w (drop a l))) is
    ∙ ap (λ l. number_from_digits 2 (take w l)) (drop-take a (w + c) (drop (6 * f) (bits_of ss)))
    ∙ ap (number_from_digits 2) (take-take w (w + c) (drop a (drop (6 * f) (bits_of ss))) (omega arith))
    ∙ ap (λ l. number_from_digits 2 (take w l)) (drop-drop a (6 * f) (bits_of ss))

-- ---- one bit written

-- the symbol s with the bit at the place r of its six made b
abbrev pub put : ℕ → ℕ → ℕ → ℕ
put s r b = s - (s / 2 ^ (5 - r) % 2) * 2 ^ (5 - r) % 256 + b * 2 ^ (5 - r) % 256

six : (s : ℕ) → bits_of (s ∷ []) ≡ spelled 6 s
six s = let e : s % 2 ≡ s / 1 % 2 = omega arith in cc

abbrev Put : ℕ → ℕ → ℕ → Type 0
Put s r b =
    ((s / 2 ^ (5 - r) % 2) * 2 ^ (5 - r) % 256 ≤ s) × (put s r b ≡ number_from_digits_after 2 (s / 64) (set (bits_of (s ∷ [])) r b))

pub put_is : (s r b : ℕ) → r < 6 → b < 2 → Put s r b
put_is s r b h l =
    let bs : List ℕ = bits_of (s ∷ []) in
    let p : ℕ = 2 ^ (5 - r) in
    let x : ℕ = s / p % 2 in
    let old : x * p % 256 ≡ x * p = shl_whole x 1 (5 - r) 8 (omega arith) (omega arith) in
    let new : b * p % 256 ≡ b * p = shl_whole b 1 (5 - r) 8 l (omega arith) in
    let bit : get_or bs r 0 ≡ x = ap (λ l. get_or l r 0) (six s) ∙ spelled_at 6 s r h in
    let whole : number_from_digits_after 2 (s / 64) bs ≡ s = after_symbol (s / 64) s ∙ omega arith in
    let made : (y : ℕ) → number_from_digits_after 2 (s / 64) (set bs r y) + x * p ≡ s + y * p =
    λ y. ap (λ z. number_from_digits_after 2 (s / 64) (set bs r y) + z * p) (sym bit) ∙ number_set bs r y (s / 64) h ∙ ap (λ z. z + y * p) whole in
    (omega (arith, made 0), omega (arith, made 0, made b))

under_set : (s r b : ℕ) → b < 2 → AllBelowBase 2 (set (bits_of (s ∷ [])) r b)
under_set s r b l = All-set _ (bits_of (s ∷ [])) r b l (under_bits (s ∷ []))

-- what stands above the six bits stays
pub put_lt : (s r b : ℕ) → r < 6 → b < 2 → put s r b < 64 * (s / 64) + 64
put_lt s r b h l =
    omega (
      arith,
      (put_is s r b h l).1,
      rw length-set at (number_after_lt 2 (s / 64) (set (bits_of (s ∷ [])) r b) (under_set s r b l)),
    )

put_six : (s r b : ℕ) → r < 6 → b < 2 → bits_of (put s r b ∷ []) ≡ set (bits_of (s ∷ [])) r b
put_six s r b h l =
    let bs : List ℕ = set (bits_of (s ∷ [])) r b in
    let n : length bs ≡ 6 = length-set (bits_of (s ∷ [])) r b in
    six (put s r b) ∙ ap (spelled 6) (put_is s r b h l).1
    ∙ ap (λ k. spelled k (number_from_digits_after 2 (s / 64) bs)) (sym n) ∙ spelled_number bs (s / 64) (under_set s r b l)

put_bits : (ss : List ℕ) (i r b : ℕ) → r < 6 → b < 2 → bits_of (set ss i (put (get_or ss i 0) r b)) ≡ set (bits_of ss) (6 * i + r) b
put_bits [] i r b h l = refl
put_bits (s ∷ ss) zero r b h l =
    ap (λ l. l ++ bits_of ss) (put_six s r b h l)
    ∙ rw zero-add (sym (set-append_left (bits_of (s ∷ [])) (bits_of ss) r b h))
put_bits (s ∷ ss) (suc i) r b h l =
    let e : 6 * suc i + r ≡ suc (suc (suc (suc (suc (suc (6 * i + r)))))) = omega arith in
    rw e (ap (after s) (put_bits ss i r b h l))

pub put_bit : (ss : List ℕ) (k b : ℕ) → b < 2 → bits_of (set ss (k / 6) (put (get_or ss (k / 6) 0) (k % 6) b)) ≡ set (bits_of ss) k b
put_bit ss k b l = put_bits ss (k / 6) (k % 6) b (omega arith) l ∙ ap (λ j. set (bits_of ss) j b) (omega arith)

pub small_set : (ss : List ℕ) (i t : ℕ) → (get_or ss i 0 < 64 → t < 64) → (k : ℕ) → get_or ss k 0 < 64 → get_or (set ss i t) k 0 < 64
small_set [] i t h k a = a
small_set (s ∷ ss) zero t h zero a = h a
small_set (s ∷ ss) zero t h (suc k) a = a
small_set (s ∷ ss) (suc i) t h zero a = a
small_set (s ∷ ss) (suc i) t h (suc k) a = small_set ss i t h k a

-- ---- the symbols of a row of bits

pub symbols_same : (ss ts : List ℕ) → ((k : ℕ) → get_or ss k 0 < 64) → ((k : ℕ) → get_or ts k 0 < 64) → bits_of ss ≡ bits_of ts → ss ≡ ts
symbols_same [] [] hs ht e = refl
symbols_same [] (t ∷ ts) hs ht e = absurd (omega (arith, ap length e))
symbols_same (s ∷ ss) [] hs ht e = absurd (omega (arith, ap length e))
symbols_same (s ∷ ss) (t ∷ ts) hs ht e =
    let low : 0 * 64 + s % 64 ≡ 0 * 64 + t % 64 =
    sym (after_symbol 0 s) ∙ ap (λ l. number_from_digits 2 (take 6 l)) e ∙ after_symbol 0 t in
    let first : s ≡ t = omega (arith, hs 0, ht 0) in
    cc (symbols_same ss ts (λ k. hs (suc k)) (λ k. ht (suc k)) (ap (drop 6) e))
