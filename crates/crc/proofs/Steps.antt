-- The register, bit by bit and six bits at a time.
use Rattle.std.proofs.Common.{◌≡◌, ℕ, suc, ◌+◌, ◌*◌, ◌/◌, ◌%◌, ◌^◌, ◌<◌, ◌≤◌, List, [], ◌∷◌, length, get_or, take, fold, sym, refl, ap, ◌∙◌, ap₂, add-zero, mul_assoc, pow-suc, arith, lit<}
use native.Mathlib.Nat.{pow-succ', pow-le-pow_right}
use lib.Bits.{bit_xor, xor_assoc, xor_comm, xor_lt, xor_block, xor_mod, xor_shr, xor_shifted, xor_zero_r}
use Rattle.std.proofs.lemmas.Nat.{pow_pos, shr_split}
use Rattle.std.proofs.lemmas.List.{take_more}
use Rattle.std.proofs.lemmas.List.Sums.{fold-append}
use Rattle.bits.specs.Bits.{bits_of}
use Rattle.bits.proofs.Symbols.{bits_append}
use Rattle.crc.specs.Crc.{crc_step, crc_of, six_zeros}
use Rattle.computed.proofs.Below.{same2}

pub step_lt : (r b : ℕ) → crc_step r b < 2 ^ 24
unfolding crc_step
step_lt r b = xor_lt 24 (r * 2 % 16777216) ((r / 8388608 + b) % 2 * 8801531) (omega arith) (omega arith)

pub steps_lt : (r : ℕ) (bs : List ℕ) → r < 2 ^ 24 → fold crc_step r bs < 2 ^ 24
steps_lt r [] h = h
steps_lt r (b ∷ bs) h = steps_lt (crc_step r b) bs (step_lt r b)

pub xor_times : (k a b : ℕ) → bit_xor (a * 2 ^ k) (b * 2 ^ k) ≡ bit_xor a b * 2 ^ k
xor_times k a b = simp add-zero at (xor_block k a b 0 0 (pow_pos k) (pow_pos k))

-- l, which does not reach the top bit, is only shifted
low_step : (r l b : ℕ) → l < 2 ^ 23 → crc_step (bit_xor r l) b ≡ bit_xor (crc_step r b) (l * 2)
unfolding crc_step
low_step r l b h =
    let x : ℕ = r * 2 % 2 ^ 24 in
    let y : ℕ = (r / 2 ^ 23 + b) % 2 * 8801531 in
    let shifted : bit_xor r l * 2 % 2 ^ 24 ≡ bit_xor x (l * 2) =
    ap (λ n. n % 2 ^ 24) (sym (xor_times 1 r l)) ∙ xor_mod (r * 2) (l * 2) 24 ∙ ap (bit_xor x) (omega arith) in
    let top : bit_xor r l / 2 ^ 23 ≡ r / 2 ^ 23 =
    xor_shr r l 23 ∙ ap (bit_xor (r / 2 ^ 23)) (omega arith) ∙ xor_zero_r (r / 2 ^ 23) in
    ap₂ (λ (m t : ℕ). bit_xor m ((t + b) % 2 * 8801531)) shifted top
    ∙ xor_assoc x (l * 2) y ∙ ap (bit_xor x) (xor_comm (l * 2) y) ∙ sym (xor_assoc x y (l * 2))

low_steps : (bs : List ℕ) (r l j : ℕ) → j + length bs ≡ 24 → l < 2 ^ j
    → fold crc_step (bit_xor r l) bs ≡ bit_xor (fold crc_step r bs) (l * 2 ^ length bs)
low_steps [] r l j e h = ap (bit_xor r) (omega arith)
low_steps (b ∷ bs) r l j e h =
    let short : j ≤ 23 = omega arith in
    let few : 2 ^ j ≤ 2 ^ 23 = pow-le-pow_right {n = 2} (lit< tt) short in
    ap (λ x. fold crc_step x bs) (low_step r l b (omega arith))
    ∙ low_steps bs (crc_step r b) (l * 2) (suc j) (omega arith) (omega (arith, pow-suc 2 j))
    ∙ ap (bit_xor (fold crc_step (crc_step r b) bs)) (mul_assoc l 2 (2 ^ length bs) ∙ ap (λ n. l * n) (sym (pow-succ' 2 (length bs))))

low_six : (s : ℕ) → bits_of (s ∷ []) ≡ bits_of (s % 64 ∷ [])
low_six s =
    let a : s / 32 % 2 ≡ s % 64 / 32 % 2 = omega arith in
    let b : s / 16 % 2 ≡ s % 64 / 16 % 2 = omega arith in
    let c : s / 8 % 2 ≡ s % 64 / 8 % 2 = omega arith in
    let d : s / 4 % 2 ≡ s % 64 / 4 % 2 = omega arith in
    let e : s / 2 % 2 ≡ s % 64 / 2 % 2 = omega arith in
    let f : s % 2 ≡ s % 64 % 2 = omega arith in
    cc

-- the top six bits and a symbol act by their sum
top_six : (h s : ℕ) → h < 64 → s < 64 → fold crc_step (h * 2 ^ 18) (bits_of (s ∷ [])) ≡ six_zeros (bit_xor h s)
unfolding crc_step six_zeros
top_six h s hh hs = same2 64 (λ h s. fold crc_step (h * 2 ^ 18) (bits_of (s ∷ []))) (λ h s. six_zeros (bit_xor h s)) refl h s hh hs

pub symbol_step : (r s : ℕ) → r < 2 ^ 24
    → fold crc_step r (bits_of (s ∷ [])) ≡ bit_xor (r * 64 % 2 ^ 24) (six_zeros (bit_xor (r / 2 ^ 18) s % 64))
symbol_step r s hr =
    let h : ℕ = r / 2 ^ 18 in
    let l : ℕ = r % 2 ^ 18 in
    let parts : r ≡ bit_xor (h * 2 ^ 18) l = sym (xor_shifted h 18 l (omega arith) ∙ shr_split r 18) in
    let sum : bit_xor h (s % 64) ≡ bit_xor h s % 64 = ap (λ x. bit_xor x (s % 64)) (omega arith) ∙ sym (xor_mod h s 6) in
    let top : fold crc_step (h * 2 ^ 18) (bits_of (s ∷ [])) ≡ six_zeros (bit_xor h s % 64) =
    ap (fold crc_step (h * 2 ^ 18)) (low_six s) ∙ top_six h (s % 64) (omega arith) (omega arith) ∙ ap six_zeros sum in
    ap (λ x. fold crc_step x (bits_of (s ∷ []))) parts
    ∙ low_steps (bits_of (s ∷ [])) (h * 2 ^ 18) l 18 refl (omega arith)
    ∙ ap₂ bit_xor top (omega arith)
    ∙ xor_comm (six_zeros (bit_xor h s % 64)) (r * 64 % 2 ^ 24)

-- one symbol more
pub crc_more : (ss : List ℕ) (i : ℕ) → i < length ss
    → crc_of (bits_of (take (i + 1) ss)) ≡ fold crc_step (crc_of (bits_of (take i ss))) (bits_of (get_or ss i 0 ∷ []))
unfolding crc_of
crc_more ss i h =
    ap (λ l. fold crc_step 0 (bits_of l)) (take_more ss i 0 h)
    ∙ ap (fold crc_step 0) (bits_append (take i ss) (get_or ss i 0 ∷ []))
    ∙ fold-append crc_step 0 (bits_of (take i ss)) (bits_of (get_or ss i 0 ∷ []))
