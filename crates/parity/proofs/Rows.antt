-- What computed tests say of the table.
use Rattle.std.proofs.Common.{◌≡◌, ℕ, ◌<◌, ◌≤◌, Bool, true, ◌&&◌, eqb, ltb, leb, List, [], ◌∷◌, length, get_or, sym, refl, ap, ap₂, Some, None, Option, Bor, subst, subst₂, ◌∙◌, inl, inr, arith, lit<}
use mathlib.Core.Path.{subst⁻¹}
use lib.Bits.{bit_xor, xor_assoc, xor_zero_r}
use Rattle.std.proofs.lemmas.List.{get_or_default, get_or_past}
use Rattle.std.specs.List.{Contains}
use Rattle.std.specs.Slice.{IsItemAt}
use Rattle.std.proofs.Math.ListN.{get_or-map}
use Rattle.std.proofs.lemmas.Bool.{and_parts, cases_lt, eqb-true, leb-true, ltb-true}
use Rattle.gf64.specs.Field.{mul}
use Rattle.computed.proofs.Below.{all_below, each, each2, same}
use Rattle.parity.specs.Code.{weighted, places_of, factors_of, row_sum, sym_at, factor_of, factor_in}
use Rattle.parity.specs.Sound.{absent, distinct, units, one, rows_with, shared, RowSound}
use Rattle.parity.specs.Table.{rows, places_in, factors_in, places, factors, bcnav3, place_at, factor_at}
use Rattle.parity.specs.Ring.{term}
use Rattle.parity.proofs.Weights.{factor_in_lt}

pub rows_81 : length places ≡ 81
unfolding rows places
rows_81 = refl

pub length_rows : length rows ≡ 81
unfolding rows
length_rows = refl

-- past the last row there is no place
pub row_past : (r : ℕ) → 81 ≤ r → places_of bcnav3 r ≡ []
row_past r h = get_or_past places r [] (omega (arith, rows_81))

pub place_lt : (r j : ℕ) → r < 81 → j < 4 → place_at r j < 162
unfolding rows
place_lt r j h l = ltb-true (place_at r j) 162 (each2 81 4 (λ r j. ltb (place_at r j) 162) refl r j h l)

pub factor_lt : (r j : ℕ) → r < 81 → j < 4 → factor_at r j < 64
unfolding rows
factor_lt r j h l = ltb-true (factor_at r j) 64 (each2 81 4 (λ r j. ltb (factor_at r j) 64) refl r j h l)

pub row_sound : (r : ℕ) → r < 81 → RowSound (places_of bcnav3 r) (factors_of bcnav3 r)
unfolding rows places factors distinct absent units
row_sound r h =
    let ps : ℕ → List ℕ = places_of bcnav3 in
    let fs : ℕ → List ℕ = factors_of bcnav3 in
    let t : ℕ → Bool = λ r. eqb (length (ps r)) (length (fs r)) && (distinct (ps r) && units (fs r)) in
    let p = and_parts (eqb (length (ps r)) (length (fs r))) (distinct (ps r) && units (fs r)) (each 81 t refl r h) in
    let q = and_parts (distinct (ps r)) (units (fs r)) p.1 in
    record { even = eqb-true (length (ps r)) (length (fs r)) p.0; once = q.0; nonzero = q.1 }

pub two_rows : (x : ℕ) → x < 162 → rows_with x places ≡ 2
unfolding rows_with one absent rows places
two_rows x h = same 162 (λ x. rows_with x places) (λ x. 2) refl x h

pub share_one : (a b : ℕ) → a < 81 → b < a → shared (places_of bcnav3 a) (places_of bcnav3 b) ≤ 1
unfolding shared one absent rows places
share_one a b ha hb =
    let s : ℕ → ℕ → ℕ = λ a b. shared (places_of bcnav3 a) (places_of bcnav3 b) in
    leb-true (s a b) 1 (each a (λ b. leb (s a b) 1) (each 81 (λ a. all_below a (λ b. leb (s a b) 1)) refl a ha) b hb)

pub places_is : (r : ℕ) → places_of bcnav3 r ≡ places_in (get_or rows r [])
unfolding places
places_is r = get_or-map places_in rows r []

pub factors_is : (r : ℕ) → factors_of bcnav3 r ≡ factors_in (get_or rows r [])
unfolding factors
factors_is r = get_or-map factors_in rows r []

pub row_four : (r : ℕ) → r < 81 → length (get_or rows r []) ≡ 4
unfolding rows
row_four r h = same 81 (λ r. length (get_or rows r [])) (λ r. 4) refl r h

-- the symbol at a place, times its factor
abbrev pub scaled_at : (ℕ → ℕ) → ℕ × ℕ → ℕ
scaled_at w e = mul e.1 (w e.0)

-- the sum of a row of four, place by place
pub four : (row : List (ℕ × ℕ)) (w : ℕ → ℕ) → length row ≡ 4
    → weighted (places_in row) (factors_in row) w
    ≡ bit_xor (bit_xor (scaled_at w (get_or row 0 (0, 0))) (scaled_at w (get_or row 1 (0, 0))))
    (bit_xor (scaled_at w (get_or row 2 (0, 0))) (scaled_at w (get_or row 3 (0, 0))))
unfolding weighted
four (a ∷ b ∷ c ∷ d ∷ []) w h =
    ap (λ z. bit_xor (scaled_at w a) (bit_xor (scaled_at w b) (bit_xor (scaled_at w c) z))) (xor_zero_r (scaled_at w d))
    ∙ sym (xor_assoc (scaled_at w a) (scaled_at w b) (bit_xor (scaled_at w c) (scaled_at w d)))
four [] w h = absurd (omega arith)
four (a ∷ []) w h = absurd (omega arith)
four (a ∷ b ∷ []) w h = absurd (omega arith)
four (a ∷ b ∷ c ∷ []) w h = absurd (omega arith)
four (a ∷ b ∷ c ∷ d ∷ e ∷ row) w h = absurd (omega arith)

pub row_terms : (r : ℕ) → r < 81 → (w : ℕ → ℕ)
    → weighted (get_or places r []) (get_or factors r []) w ≡ bit_xor (bit_xor (term r w 0) (term r w 1)) (bit_xor (term r w 2) (term r w 3))
row_terms r h w = ap₂ (λ ps fs. weighted ps fs w) (places_is r) (factors_is r) ∙ four (get_or rows r []) w (row_four r h)

-- what stands in the table
pub record Fitting (row : List (ℕ × ℕ)) : Type 0 where
  pub long : length row ≡ 4
  pub nonzero : units (factors_in row) ≡ true
  pub entry : (j : ℕ) → j < 4 → ((get_or row j (0, 0)).0 < 162) × ((get_or row j (0, 0)).1 < 64)

pub fitting : (row : List (ℕ × ℕ)) → Contains rows row → Fitting row
fitting row (r, h, e) =
    let l : r < 81 = omega (arith, length_rows) in
    let is : get_or rows r [] ≡ row = get_or_default rows r [] row h ∙ e in
    subst Fitting is (record {
      long = row_four r l;
      nonzero = subst (λ fs. units fs ≡ true) (factors_is r) (row_sound r l).nonzero;
      entry = λ j k. (place_lt r j l k, factor_lt r j l k);
    })

pub row_sum_is : (r : ℕ) (w : List ℕ) → row_sum bcnav3 r w ≡ weighted (places_in (get_or rows r [])) (factors_in (get_or rows r [])) (sym_at w)
row_sum_is r w = ap₂ (λ ps fs. weighted ps fs (sym_at w)) (places_is r) (factors_is r)

pub factor_of_is : (r x : ℕ) → factor_of bcnav3 r x ≡ factor_in x (places_in (get_or rows r [])) (factors_in (get_or rows r []))
factor_of_is r x = ap₂ (factor_in x) (places_is r) (factors_is r)

pub factor_of_lt : (r x : ℕ) → factor_of bcnav3 r x < 64
unfolding factor_in
factor_of_lt r x =
    elim (cases_lt r 81) [
      | inl h ↦ factor_in_lt x (places_of bcnav3 r) (factors_of bcnav3 r) (row_sound r h).nonzero
      | inr h ↦ subst⁻¹ (λ ps. factor_in x ps (factors_of bcnav3 r) < 64) (row_past r h) (lit< tt)
    ]

-- what `get` gives of the rows
pub row_got : (t : List (List (ℕ × ℕ))) (r : ℕ) (o : Option (Bor (List (ℕ × ℕ)))) (row : Bor (List (ℕ × ℕ))) → t ≡ rows → IsItemAt t r o → o ≡ Some row
    → (r < length rows) × (get_or rows r [] ≡ row.now)
row_got t r o row q h e = let k = (subst₂ (λ t o. IsItemAt t r o) q e h).3 in (k.0, sym (k.1 []))

pub row_missing : (t : List (List (ℕ × ℕ))) (r : ℕ) (o : Option (Bor (List (ℕ × ℕ)))) → t ≡ rows → IsItemAt t r o → o ≡ None → get_or rows r [] ≡ []
row_missing t r o q h e = get_or_past rows r [] (subst₂ (λ t o. IsItemAt t r o) q e h).3
