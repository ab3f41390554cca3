-- In a code with a sound table, code words that differ at no more than two places are equal.
use Rattle.std.proofs.Common.{◌≡◌, ℕ, suc, ◌<◌, ◌≤◌, false, ◌≢◌, List, length, get_or, sym, ap, ◌∙◌, ap₂, inl, inr, arith}
use lib.Bits.{bit_xor, xor_assoc, xor_self, xor_zero_r}
use Rattle.std.proofs.lemmas.List.{ext_get_or, get_or_past}
use Rattle.std.proofs.lemmas.Bool.{both_ways, cases_eq, cases_lt}
use Rattle.gf64.proofs.Laws.{mul_cancel, xor_small}
use Rattle.parity.specs.Code.{Code, Codeword, DifferAt, weighted, places_of, factors_of, factor_in, differences}
use Rattle.parity.specs.Sound.{absent, Sound, AlteredIsNone}
use Rattle.parity.proofs.Places.{two, differences_none}
use Rattle.parity.proofs.Split.{splits}
use Rattle.parity.proofs.Weights.{factor_in_lt, factor_present, sum_at, weighted_xor}

-- a difference at x and y alone, whose row sums are all 0, is 0 at x
vanishes : (c : Code) → Sound c → (d : ℕ → ℕ) (x y : ℕ) → x < c.size → x ≢ y → ((k : ℕ) → d k < 64)
    → ((k : ℕ) → k ≢ x → k ≢ y → d k ≡ 0)
    → ((r : ℕ) → r < length c.places → weighted (places_of c r) (factors_of c r) d ≡ 0) → d x ≡ 0
vanishes c s d x y h n hd z sums =
    let p = splits c s x y h n in
    let r = s.rows p.row p.low in
    let ps = places_of c p.row in
    let fs = factors_of c p.row in
    let off : (k : ℕ) → absent k ps ≡ false → k ≢ x → d k ≡ 0 =
    λ k e nx. z k nx (λ q. both_ways (absent k ps) e (ap (λ i. absent i ps) q ∙ p.lacks)) in
    mul_cancel (factor_in x ps fs) (d x) (factor_in_lt x ps fs r.nonzero) (hd x)
    (λ e. both_ways (absent x ps) p.has (factor_present x ps fs r.even r.nonzero e))
    (sym (sum_at x ps fs d r.even r.nonzero r.once (hd x) off) ∙ sums p.row p.low)

pub xor_eq : (a b : ℕ) → bit_xor a b ≡ 0 → a ≡ b
xor_eq a b e =
    sym (xor_zero_r a) ∙ ap (bit_xor a) (sym (xor_self b)) ∙ sym (xor_assoc a b b) ∙ ap (λ k. bit_xor k b) e

pub xor_off : (a b : ℕ) → bit_xor (bit_xor a b) b ≡ a
xor_off a b = xor_assoc a b b ∙ ap (bit_xor a) (xor_self b) ∙ xor_zero_r a

-- code words that agree but at x and y are equal
pub apart : (c : Code) → Sound c → (u v : List ℕ) → Codeword c u → Codeword c v → (x y : ℕ)
    → ((k : ℕ) → k ≢ x → k ≢ y → get_or u k 0 ≡ get_or v k 0) → u ≡ v
apart c s u v cu cv x y agree =
    let d : ℕ → ℕ = λ k. bit_xor (get_or u k 0) (get_or v k 0) in
    let hd : (k : ℕ) → d k < 64 = λ k. xor_small (get_or u k 0) (get_or v k 0) (cu.word.small k) (cv.word.small k) in
    let same : (k : ℕ) → get_or u k 0 ≡ get_or v k 0 → d k ≡ 0 = λ k e. ap (λ z. bit_xor z (get_or v k 0)) e ∙ xor_self (get_or v k 0) in
    let far : (k : ℕ) → c.size ≤ k → d k ≡ 0 =
    λ k h. same k (get_or_past u k 0 (omega (arith, cu.word.long)) ∙ sym (get_or_past v k 0 (omega (arith, cv.word.long)))) in
    let sums : (r : ℕ) → r < length c.places → weighted (places_of c r) (factors_of c r) d ≡ 0 =
    λ r h. weighted_xor _ _ (λ k. get_or u k 0) (λ k. get_or v k 0) cu.word.small cv.word.small (s.rows r h).nonzero
    ∙ ap₂ bit_xor (cu.sums r h) (cv.sums r h) in
    let here : (a b : ℕ) → ((k : ℕ) → k ≢ a → k ≢ b → d k ≡ 0) → d a ≡ 0 =
    λ a b z. elim (cases_lt a c.size) [
      | inl h ↦ elim (cases_eq a b) [
        | inl e ↦ vanishes c s d a (suc a) h (omega arith) hd (λ k na nb. z k na (λ q. na (q ∙ sym e))) sums
        | inr n ↦ vanishes c s d a b h n hd z sums
      ]
      | inr h ↦ far a h
    ] in
    let off : (k : ℕ) → k ≢ x → k ≢ y → d k ≡ 0 = λ k nx ny. same k (agree k nx ny) in
    let all : (k : ℕ) → d k ≡ 0 =
    λ k. elim (cases_eq k x) [
      | inl e ↦ ap d e ∙ here x y off
      | inr nx ↦ elim (cases_eq k y) [ inl e ↦ ap d e ∙ here y x (λ j nj mj. off j mj nj) | inr ny ↦ off k nx ny ]
    ] in
    ext_get_or 0 u v (cu.word.long ∙ sym cv.word.long) (λ k h. xor_eq (get_or u k 0) (get_or v k 0) (all k))

-- n is 1 or 2
altered_few : (c : Code) → Sound c → (n : ℕ) → 1 ≤ n → n ≤ 2 → (w v : List ℕ) → Codeword c w → DifferAt n w v → Codeword c v → ⊥
altered_few c s n low high w v cw a cv =
    let t = two w v a.long (omega (arith, a.places)) in
    let e : w ≡ v = apart c s w v cw cv t.left t.right t.rest in
    let z : differences w v ≡ 0 = ap (differences w) (sym e) ∙ differences_none w in
    omega (arith, a.places)

pub altered : (c : Code) → Sound c → AlteredIsNone c
altered c s w v cw (inl a) cv = altered_few c s 1 (omega arith) (omega arith) w v cw a cv
altered c s w v cw (inr a) cv = altered_few c s 2 (omega arith) (omega arith) w v cw a cv
