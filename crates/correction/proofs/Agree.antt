-- Lists that agree but at one place or two, and lists altered at a place.
use Rattle.std.proofs.Common.{◌≡◌, ℕ, ◌<◌, ◌≢◌, List, length, get_or, set, sym, ap, ◌∙◌, inl, inr, arith}
use lib.Bits.{bit_xor, xor_assoc, xor_self, xor_zero_l}
use Rattle.std.proofs.lemmas.List.{ext_get_or, get_or-set_same, get_or-set_other, length-set, set-get_or, set_past, set-set}
use Rattle.std.proofs.lemmas.Bool.{cases_eq, cases_lt}
use Rattle.parity.specs.Code.{altered}
use Rattle.parity.proofs.Distance.{xor_off}

pub xor_back : (x y : ℕ) → bit_xor x (bit_xor x y) ≡ y
xor_back x y = sym (xor_assoc x x y) ∙ ap (λ z. bit_xor z y) (xor_self x) ∙ xor_zero_l y

-- what agrees with w but at p and q is w with its symbols written there
pub set_both : (w v : List ℕ) (p q : ℕ) → length w ≡ length v → ((k : ℕ) → k ≢ p → k ≢ q → get_or w k 0 ≡ get_or v k 0)
    → v ≡ set (set w p (get_or v p 0)) q (get_or v q 0)
set_both w v p q l same =
    let u : List ℕ = set w p (get_or v p 0) in
    let long : length u ≡ length w = length-set w p (get_or v p 0) in
    ext_get_or 0 v (set u q (get_or v q 0)) (sym (length-set u q (get_or v q 0) ∙ long ∙ l))
    (λ k h. elim (cases_eq k q) [
      | inl e ↦
          let i : q < length u = omega arith in
          ap (λ j. get_or v j 0) e ∙ sym (ap (λ j. get_or (set u q (get_or v q 0)) j 0) e ∙ get_or-set_same u q (get_or v q 0) 0 i)
      | inr nq ↦ elim (cases_eq k p) [
        | inl e ↦
            let i : p < length w = omega arith in
            ap (λ j. get_or v j 0) e
            ∙ sym (get_or-set_other u q k (get_or v q 0) 0 nq ∙ ap (λ j. get_or u j 0) e ∙ get_or-set_same w p (get_or v p 0) 0 i)
        | inr np ↦ sym (get_or-set_other u q k (get_or v q 0) 0 nq ∙ get_or-set_other w p k (get_or v p 0) 0 np ∙ same k np nq)
      ]
    ])

pub set_one : (w v : List ℕ) (p : ℕ) → length w ≡ length v → ((k : ℕ) → k ≢ p → get_or w k 0 ≡ get_or v k 0) → v ≡ set w p (get_or v p 0)
set_one w v p l same = set_both w v p p l (λ k n m. same k n) ∙ set-set w p (get_or v p 0) (get_or v p 0)

-- a change that is made twice is none
pub altered_twice : (w : List ℕ) (p x : ℕ) → altered (altered w p x) p x ≡ w
altered_twice w p x =
    let y : ℕ = bit_xor (get_or w p 0) x in
    elim (cases_lt p (length w)) [
      | inl h ↦
          set-set w p y (bit_xor (get_or (set w p y) p 0) x)
          ∙ ap (set w p) (ap (λ z. bit_xor z x) (get_or-set_same w p y 0 h) ∙ xor_off (get_or w p 0) x) ∙ set-get_or w p 0
      | inr h ↦ set-set w p y (bit_xor (get_or (set w p y) p 0) x) ∙ set_past w p _ h
    ]
