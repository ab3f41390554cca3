-- In a sound table, some row has a given place and not another given place.
use Rattle.std.proofs.Common.{◌≡◌, ℕ, suc, ◌<◌, ◌≤◌, true, false, not, ◌&&◌, eqb, ◌≢◌, List, [], ◌∷◌, length, get_or, sym, ap, ◌∙◌, inl, inr, arith}
use Rattle.std.proofs.lemmas.Bool.{cases_Bool, eqb-true}
use Rattle.parity.specs.Code.{Code, places_of}
use Rattle.parity.specs.Sound.{absent, one, rows_with, shared, Sound}

abbrev In : ℕ → List ℕ → Type 0
In x ps = absent x ps ≡ false

none_in : (x : ℕ) → In x [] → ⊥
unfolding absent
none_in x e = let z : ◌≡◌ {A = ℕ} 0 1 = cc in omega arith

-- at the head or in the rest
head_or_rest : {X : Type 0} (x p : ℕ) (ps : List ℕ) → In x (p ∷ ps) → (p ≡ x → X) → (In x ps → X) → X
unfolding absent
head_or_rest x p ps e f g =
    elim (cases_Bool (eqb p x)) [
      | inl t ↦ f (eqb-true p x t)
      | inr t ↦ g (ap (λ b. not b && absent x ps) (sym t) ∙ e)
    ]

counted : (x : ℕ) (ps : List ℕ) → In x ps → one (not (absent x ps)) ≡ 1
unfolding one
counted x ps e = ap (λ b. one (not b)) e

uncounted : (x : ℕ) (ps : List ℕ) → absent x ps ≡ true → one (not (absent x ps)) ≡ 0
unfolding one
uncounted x ps e = ap (λ b. one (not b)) e

-- a row of the list that has x
record HasOne (x : ℕ) (rs : List (List ℕ)) : Type 0 where
  at : ℕ
  low : at < length rs
  has : In x (get_or rs at [])

one_row : (x : ℕ) (rs : List (List ℕ)) → 1 ≤ rows_with x rs → HasOne x rs
unfolding rows_with
one_row x [] h = absurd (omega arith)
one_row x (r ∷ rs) h =
    elim (cases_Bool (absent x r)) [
      | inl t ↦ let n = one_row x rs (omega (arith, uncounted x r t)) in
          record { at = suc n.at; low = omega (arith, n.low); has = n.has }
      | inr t ↦ record { at = 0; low = omega arith; has = t }
    ]

-- two rows of the list that have x
record HasTwo (x : ℕ) (rs : List (List ℕ)) : Type 0 where
  high : ℕ
  low : ℕ
  inside : high < length rs
  less : low < high
  has_high : In x (get_or rs high [])
  has_low : In x (get_or rs low [])

two_rows : (x : ℕ) (rs : List (List ℕ)) → 2 ≤ rows_with x rs → HasTwo x rs
unfolding rows_with
two_rows x [] h = absurd (omega arith)
two_rows x (r ∷ rs) h =
    elim (cases_Bool (absent x r)) [
      | inl t ↦ let n = two_rows x rs (omega (arith, uncounted x r t)) in
          record { high = suc n.high; low = suc n.low; inside = omega (arith, n.inside); less = omega (arith, n.less); has_high = n.has_high; has_low = n.has_low }
      | inr t ↦ let n = one_row x rs (omega (arith, counted x r t)) in
          record { high = suc n.at; low = 0; inside = omega (arith, n.low); less = omega arith; has_high = n.has; has_low = t }
    ]

-- a place of both lists counts
share_some : (x : ℕ) (ps qs : List ℕ) → In x ps → In x qs → 1 ≤ shared ps qs
unfolding shared
share_some x [] qs e f = absurd (none_in x e)
share_some x (p ∷ ps) qs e f =
    head_or_rest x p ps e (λ q. omega (arith, counted p qs (ap (λ z. absent z qs) q ∙ f)))
    (λ h. omega (arith, share_some x ps qs h f))

share_both : (x y : ℕ) (ps qs : List ℕ) → x ≢ y → In x ps → In y ps → In x qs → In y qs → 2 ≤ shared ps qs
unfolding shared
share_both x y [] qs n ex ey fx fy = absurd (none_in x ex)
share_both x y (p ∷ ps) qs n ex ey fx fy =
    head_or_rest x p ps ex
    (λ q. let z = counted p qs (ap (λ z. absent z qs) q ∙ fx) in
    head_or_rest y p ps ey (λ r. absurd (n (sym q ∙ r))) (λ h. omega (arith, share_some y ps qs h fy)))
    (λ h. head_or_rest y p ps ey
    (λ r. let z = counted p qs (ap (λ z. absent z qs) r ∙ fy) in omega (arith, share_some x ps qs h fx))
    (λ k. omega (arith, share_both x y ps qs n h k fx fy)))

-- a row with x and without y
pub record Splits (c : Code) (x y : ℕ) : Type 0 where
  pub row : ℕ
  pub low : row < length c.places
  pub has : absent x (places_of c row) ≡ false
  pub lacks : absent y (places_of c row) ≡ true

pub splits : (c : Code) → Sound c → (x y : ℕ) → x < c.size → x ≢ y → Splits c x y
splits c s x y h n =
    let w = two_rows x c.places (omega (arith, s.two_rows x h)) in
    let below : w.low < length c.places = omega (arith, w.inside, w.less) in
    elim (cases_Bool (absent y (places_of c w.high))) [
      | inl t ↦ record { row = w.high; low = w.inside; has = w.has_high; lacks = t }
      | inr t ↦ elim (cases_Bool (absent y (places_of c w.low))) [
        | inl u ↦ record { row = w.low; low = below; has = w.has_low; lacks = u }
        | inr u ↦ absurd (omega (
          arith,
          s.share_one w.high w.low w.inside w.less,
          share_both x y (places_of c w.high) (places_of c w.low) n w.has_high t w.has_low u,
        ))
      ]
    ]
