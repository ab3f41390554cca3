-- The bits of a frame, eight at a time.
use Rattle.std.proofs.Common.{◌≡◌, ℕ, zero, suc, ◌+◌, ◌-◌, ◌*◌, ◌/◌, ◌%◌, ◌<◌, ◌≤◌, List, [], ◌∷◌, ◌++◌, length, get_or, take, drop, sym, refl, ap, ◌∙◌, arith, length-append, length-drop}
use native.Mathlib.Nat.{div-div-eq-div-mul}
use Rattle.std.specs.Int.Digits.{number_from_digits, AllBelowBase}
use Rattle.std.proofs.ByRecursion.{All-append, All-take, All-drop}
use Rattle.std.proofs.lemmas.List.{drop-drop, length-take-le, nil_from_length, take-append-drop}
use Rattle.bits.specs.Bits.{bits_of, part, spelled}
use Rattle.bits.proofs.Spelled.{spelled_number}
use Rattle.bits.proofs.Symbols.{length_bits, under_bits}
use Rattle.frames.specs.Frame.{bytes_bits, header_bits, frame_bits}

-- bytes that write eight bits each write them all
pub bytes_write : (bs fs : List ℕ) → AllBelowBase 2 fs → length fs ≡ 8 * length bs
    → ((k : ℕ) → k < length bs → get_or bs k 0 ≡ number_from_digits 2 (part fs (8 * k) 8)) → bytes_bits bs ≡ fs
bytes_write [] fs u n h = sym (nil_from_length fs (omega arith))
bytes_write (b ∷ bs) fs u n h =
    let l : length (take 8 fs) ≡ 8 = length-take-le 8 fs (omega arith) in
    let first : spelled 8 b ≡ take 8 fs =
    ap (spelled 8) (h 0 (omega arith)) ∙ ap (λ w. spelled w (number_from_digits 2 (take 8 fs))) (sym l)
    ∙ spelled_number (take 8 fs) 0 (All-take _ 8 fs u) in
    let rest : bytes_bits bs ≡ drop 8 fs =
    bytes_write bs (drop 8 fs) (All-drop _ 8 fs u) (simp length-drop (omega arith))
    (λ k i. h (suc k) (omega arith) ∙ ap (λ l. number_from_digits 2 (take 8 l)) (ap (λ j. drop j fs) (omega arith) ∙ sym (drop-drop (8 * k) 8 fs))) in
    ap (λ t. t ++ bytes_bits bs) first ∙ ap (λ t. take 8 fs ++ t) rest ∙ take-append-drop 8 fs

under_spelled : (w v : ℕ) → AllBelowBase 2 (spelled w v)
under_spelled zero v = tt
under_spelled (suc w) v = (omega arith, under_spelled w v)

pub length_header : (s : ℕ) → length (header_bits s) ≡ 28
unfolding header_bits
length_header s = refl

under_header : (s : ℕ) → AllBelowBase 2 (header_bits s)
unfolding header_bits
under_header s =
    All-append (λ b. b < 2) (spelled 16 60304) (spelled 6 s ++ spelled 6 0) (under_spelled 16 60304)
    (All-append (λ b. b < 2) (spelled 6 s) (spelled 6 0) (under_spelled 6 s) (under_spelled 6 0))

pub length_frame : (s : ℕ) (word : List ℕ) → length word ≡ 162 → length (frame_bits s word) ≡ 1000
length_frame s word h = simp length-append (omega (arith, length_header s, length_bits word))

pub under_frame : (s : ℕ) (word : List ℕ) → AllBelowBase 2 (frame_bits s word)
under_frame s word = All-append _ (header_bits s) (bits_of word) (under_header s) (under_bits word)

-- the number that the byte i writes
abbrev pub byte_of : ℕ → List ℕ → ℕ → ℕ
byte_of s word i = number_from_digits 2 (part (frame_bits s word) (8 * i) 8)

pub byte_2 : (s : ℕ) (word : List ℕ) → s < 64 → byte_of s word 2 ≡ s * 4
unfolding header_bits
byte_2 s word h =
    omega (
      arith,
      div-div-eq-div-mul s 2 2,
      div-div-eq-div-mul s 4 2,
      div-div-eq-div-mul s 8 2,
      div-div-eq-div-mul s 16 2,
    )

pub byte_3 : (s : ℕ) (word : List ℕ) → 0 < length word → byte_of s word 3 ≡ get_or word 0 0 % 64 / 4
unfolding header_bits
byte_3 s [] h = absurd (omega arith)
byte_3 s (x ∷ word) h =
    omega (
      arith,
      div-div-eq-div-mul x 4 2,
      div-div-eq-div-mul x 8 2,
      div-div-eq-div-mul x 16 2,
      div-div-eq-div-mul x 32 2,
    )

pub byte_after : (s : ℕ) (word : List ℕ) (i : ℕ) → 28 ≤ 8 * i → byte_of s word i ≡ number_from_digits 2 (part (bits_of word) (8 * i - 28) 8)
unfolding header_bits
byte_after s word i h =
    let e : 8 * i ≡ 28 + (8 * i - 28) = omega arith in
    ap (λ j. number_from_digits 2 (part (frame_bits s word) j 8)) e
    ∙ ap (λ l. number_from_digits 2 (take 8 l)) (sym (drop-drop (8 * i - 28) 28 (frame_bits s word)))
