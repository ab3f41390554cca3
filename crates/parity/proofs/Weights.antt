-- The sum of a row, and the factor that a place has in it.
use Rattle.std.proofs.Common.{◌≡◌, ℕ, ◌<◌, Bool, true, false, not, ◌&&◌, eqb, ltb, ◌≢◌, List, [], ◌∷◌, length, Option, Some, None, get_or, map, unwrap_or, sym, refl, ap, ◌∙◌, ap₂, inl, inr, arith, lit<}
use mathlib.Core.Path.{subst⁻¹}
use Rattle.std.specs.List.{find, position_or_len}
use Rattle.std.specs.Option.{option_map_or}
use Rattle.std.proofs.lemmas.List.Folds.{find_at}
use Rattle.std.proofs.lemmas.Option.{unwrap_or-slice_get}
use lib.Bits.{bit_xor, xor_zero_l, xor_zero_r}
use Rattle.std.proofs.lemmas.Bool.{cases_Bool, and_parts, and_left, and_right, eq-eqb, eqb-true, eqb-false, ltb-true, not-true, cond-true, cond-false}
use Rattle.gf64.specs.Field.{mul}
use Rattle.gf64.proofs.Laws.{mul_lt, mul_comm, mul_xor_r, mul_zero, xor_small, xor_medial}
use Rattle.parity.specs.Code.{weighted, factor_in}
use Rattle.parity.specs.Sound.{absent, distinct, units}

-- what the test of the factors says
record UnitAndRest (f : ℕ) (fs : List ℕ) : Type 0 where
  some : f ≢ 0
  small : f < 64
  rest : units fs ≡ true

unit_and_rest : (f : ℕ) (fs : List ℕ) → units (f ∷ fs) ≡ true → UnitAndRest f fs
unfolding units
unit_and_rest f fs t =
    let p = and_parts (ltb 0 f && ltb f 64) (units fs) t in
    let q = and_parts (ltb 0 f) (ltb f 64) p.0 in
    let low : 0 < f = ltb-true 0 f q.0 in
    record { some = omega arith; small = ltb-true f 64 q.1; rest = p.1 }

-- a row's sum is a symbol, and is linear in the word
pub weighted_lt : (ps fs : List ℕ) (w : ℕ → ℕ) → ((k : ℕ) → w k < 64) → units fs ≡ true → weighted ps fs w < 64
unfolding weighted
weighted_lt [] fs w h t = lit< tt
weighted_lt (p ∷ ps) [] w h t = lit< tt
weighted_lt (p ∷ ps) (f ∷ fs) w h t =
    let q = unit_and_rest f fs t in
    xor_small (mul f (w p)) (weighted ps fs w) (mul_lt f (w p) q.small (h p)) (weighted_lt ps fs w h q.rest)

pub weighted_xor : (ps fs : List ℕ) (u v : ℕ → ℕ) → ((k : ℕ) → u k < 64) → ((k : ℕ) → v k < 64) → units fs ≡ true
    → weighted ps fs (λ k. bit_xor (u k) (v k)) ≡ bit_xor (weighted ps fs u) (weighted ps fs v)
unfolding weighted
weighted_xor [] fs u v hu hv t = refl
weighted_xor (p ∷ ps) [] u v hu hv t = refl
weighted_xor (p ∷ ps) (f ∷ fs) u v hu hv t =
    let q = unit_and_rest f fs t in
    ap₂ bit_xor (mul_xor_r f (u p) (v p) q.small (hu p) (hv p)) (weighted_xor ps fs u v hu hv q.rest)
    ∙ xor_medial (mul f (u p)) (mul f (v p)) (weighted ps fs u) (weighted ps fs v)

-- ---- the factor of a place

pub factor_in_lt : (x : ℕ) (ps fs : List ℕ) → units fs ≡ true → factor_in x ps fs < 64
unfolding factor_in
factor_in_lt x [] fs t = lit< tt
factor_in_lt x (p ∷ ps) [] t = lit< tt
factor_in_lt x (p ∷ ps) (f ∷ fs) t =
    let q = unit_and_rest f fs t in
    elim (cases_Bool (eqb p x)) [
      | inl e ↦ subst⁻¹ (λ (z : ℕ). z < 64) (cond-true (eqb p x) f (factor_in x ps fs) e) q.small
      | inr e ↦ subst⁻¹ (λ (z : ℕ). z < 64) (cond-false (eqb p x) f (factor_in x ps fs) e) (factor_in_lt x ps fs q.rest)
    ]

-- it is 0 where the row does not have the place, and not 0 where it does
pub factor_absent : (x : ℕ) (ps fs : List ℕ) → absent x ps ≡ true → factor_in x ps fs ≡ 0
unfolding factor_in absent
factor_absent x [] fs t = refl
factor_absent x (p ∷ ps) [] t = refl
factor_absent x (p ∷ ps) (f ∷ fs) t =
    let q = and_parts (not (eqb p x)) (absent x ps) t in
    cond-false (eqb p x) f (factor_in x ps fs) (not-true (eqb p x) q.0) ∙ factor_absent x ps fs q.1

pub factor_present : (x : ℕ) (ps fs : List ℕ) → length ps ≡ length fs → units fs ≡ true → factor_in x ps fs ≡ 0 → absent x ps ≡ true
unfolding factor_in absent
factor_present x [] fs l t z = refl
factor_present x (p ∷ ps) [] l t z = absurd (omega arith)
factor_present x (p ∷ ps) (f ∷ fs) l t z =
    let q = unit_and_rest f fs t in
    elim (cases_Bool (eqb p x)) [
      | inl e ↦ absurd (q.some (sym (cond-true (eqb p x) f (factor_in x ps fs) e) ∙ z))
      | inr e ↦ ap (λ b. not b && absent x ps) e
          ∙ factor_present x ps fs (omega arith) q.rest (sym (cond-false (eqb p x) f (factor_in x ps fs) e) ∙ z)
    ]

-- the same, found in a row of places with their factors
pub factor_found : (x : ℕ) (row : List (ℕ × ℕ)) → option_map_or (λ e. e.1) (find (λ e. eqb e.0 x) row) 0 ≡ factor_in x (map (λ e. e.0) row) (map (λ e. e.1) row)
unfolding factor_in
factor_found x [] = refl
factor_found x (e ∷ row) =
    elim (cases_Bool (eqb e.0 x)) [
      | inl t ↦ rw t refl
      | inr t ↦ rw t (factor_found x row)
    ]

or_zero : (o : Option (ℕ × ℕ)) → (unwrap_or o (0, 0)).1 ≡ option_map_or (λ e. e.1) o 0
or_zero None = refl
or_zero (Some e) = refl

-- the same, at the place where the search of the row stops; past its end the factor is 0
pub factor_looked_up : (x : ℕ) (row : List (ℕ × ℕ))
    → (get_or row (position_or_len (λ e. eqb e.0 x) row) (0, 0)).1 ≡ factor_in x (map (λ e. e.0) row) (map (λ e. e.1) row)
factor_looked_up x row =
    let test : ℕ × ℕ → Bool = λ e. eqb e.0 x in
    ap (λ e. e.1) (sym (ap (λ o. unwrap_or o (0, 0)) (find_at test row) ∙ unwrap_or-slice_get row (position_or_len test row) (0, 0)))
    ∙ or_zero (find test row)
    ∙ factor_found x row

-- ---- sums of what is 0 nearly everywhere

at_head : (p : ℕ) (ps : List ℕ) → absent p (p ∷ ps) ≡ false
unfolding absent
at_head p ps = and_left (not (eqb p p)) (absent p ps) (ap not (eq-eqb p p refl))

further : (k p : ℕ) (ps : List ℕ) → absent k ps ≡ false → absent k (p ∷ ps) ≡ false
unfolding absent
further k p ps e = and_right (not (eqb p k)) (absent k ps) e

sum_zero : (ps fs : List ℕ) (d : ℕ → ℕ) → units fs ≡ true → ((k : ℕ) → absent k ps ≡ false → d k ≡ 0) → weighted ps fs d ≡ 0
unfolding weighted
sum_zero [] fs d t z = refl
sum_zero (p ∷ ps) [] d t z = refl
sum_zero (p ∷ ps) (f ∷ fs) d t z =
    let q = unit_and_rest f fs t in
    ap₂ bit_xor (ap (mul f) (z p (at_head p ps)) ∙ mul_zero f q.small) (sum_zero ps fs d q.rest (λ k e. z k (further k p ps e)))

-- what is 0 at the other places of the row sums to its value at x times the factor of x
pub sum_at : (x : ℕ) (ps fs : List ℕ) (d : ℕ → ℕ) → length ps ≡ length fs → units fs ≡ true → distinct ps ≡ true → d x < 64
    → ((k : ℕ) → absent k ps ≡ false → k ≢ x → d k ≡ 0) → weighted ps fs d ≡ mul (factor_in x ps fs) (d x)
unfolding weighted factor_in distinct
sum_at x [] fs d l t u h z = sym (mul_comm 0 (d x) (lit< tt) h ∙ mul_zero (d x) h)
sum_at x (p ∷ ps) [] d l t u h z = absurd (omega arith)
sum_at x (p ∷ ps) (f ∷ fs) d l t u h z =
    let q = unit_and_rest f fs t in
    let parts = and_parts (absent p ps) (distinct ps) u in
    elim (cases_Bool (eqb p x)) [
      | inl s ↦ let e : p ≡ x = eqb-true p x s in
          let other : (k : ℕ) → absent k ps ≡ false → k ≢ x =
          λ k g j. let b : ◌≡◌ {A = ℕ} 0 1 = cc (ap (λ i. absent i ps) (j ∙ sym e), g, parts.0) in omega arith in
          ap₂ bit_xor (ap (λ k. mul f (d k)) e) (sum_zero ps fs d q.rest (λ k g. z k (further k p ps g) (other k g)))
          ∙ xor_zero_r (mul f (d x)) ∙ ap (λ g. mul g (d x)) (sym (cond-true (eqb p x) f (factor_in x ps fs) s))
      | inr s ↦ ap₂ bit_xor (ap (mul f) (z p (at_head p ps) (eqb-false p x s)) ∙ mul_zero f q.small)
          (sum_at x ps fs d (omega arith) q.rest parts.1 h (λ k g. z k (further k p ps g)))
          ∙ xor_zero_l (mul (factor_in x ps fs) (d x)) ∙ ap (λ g. mul g (d x)) (sym (cond-false (eqb p x) f (factor_in x ps fs) s))
    ]
