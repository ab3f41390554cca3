-- What is written over one part of a message leaves the other parts.
use Rattle.std.proofs.Common.{◌≡◌, ℕ, suc, ◌+◌, ◌<◌, ◌≤◌, Bool, true, ◌≢◌, ◌⊎◌, List, [], ◌∷◌, map, length, get_or, take, sum_by, refl, ap, ◌∙◌, subst, inl, inr, add-zero, add-one, arith}
use Rattle.std.proofs.ByRecursion.{All-append}
use Rattle.std.proofs.lemmas.List.Sums.{sum_by-cons, sum_by_more}
use Rattle.std.proofs.lemmas.Bool.{cases_order, cond_both}
use Rattle.std.specs.Int.Digits.{number_from_digits}
use Rattle.std.specs.List.{AllByRecursion}
use Rattle.bits.specs.Bits.{part, pasted}
use Rattle.bits.proofs.Pasted.{part_after, part_before}
use Rattle.layout.specs.Layout.{fields_of, widths, width_of}
use Rattle.layout.specs.Laws.{start}
use Rattle.layout.specs.Placed.{Placed, at, kept, placed, spread}
use Rattle.layout.specs.Ranges.{count_of, held}
use Rattle.layout.specs.declared.Field.{Field}
use Rattle.layout.specs.declared.Part.{Part}
use Rattle.layout.specs.declared.Part.TheVariants.{Opaque}
use Rattle.layout.proofs.Tiling.{ends_before}

-- n bits from bit b on end before the bits that are written over, or begin after them
abbrev pub Beside : ℕ → ℕ → ℕ → ℕ → Type 0
Beside at long b n = (b + n ≤ at) ⊎ (at + long ≤ b)

module _ (bs s : List ℕ) (at : ℕ) (room : at ≤ length bs) where
  same_part : (b w : ℕ) → Beside at (length s) b w → part (pasted bs at s) b w ≡ part bs b w
  same_part b w (inl h) = part_before bs s at b w room h
  same_part b w (inr h) = part_after bs s at b w room h

  first_field : (b w n : ℕ) → Beside at (length s) b (w + n) → Beside at (length s) b w
  first_field b w n (inl h) = inl (omega arith)
  first_field b w n (inr h) = inr h

  next_field : (b w n : ℕ) → Beside at (length s) b (w + n) → Beside at (length s) (b + w) n
  next_field b w n (inl h) = inl (omega arith)
  next_field b w n (inr h) = inr (omega arith)

  pub same_held : (fs : List Field) (b : ℕ) → Beside at (length s) b (widths fs)
      → map (λ q. held q (pasted bs at s)) (placed b fs) ≡ map (λ q. held q bs) (placed b fs)
  unfolding placed
  same_held [] b h = refl
  same_held (f ∷ fs) b h =
      let w : ℕ = f.width in
      let h' = subst (Beside at (length s) b) (sum_by-cons (λ (f : Field). f.width) f fs) h in
      let head = ap (λ l. count_of f.signed w (number_from_digits 2 l)) (same_part b w (first_field b w (widths fs) h')) in
      ap (λ z. z ∷ map (λ q. held q (pasted bs at s)) (placed (b + w) fs)) head
      ∙ ap (λ zs. held (record { bit = b; field = f }) bs ∷ zs) (same_held fs (b + w) (next_field b w (widths fs) h'))

-- two parts of a list lie beside each other
pub parts_beside : (from : ℕ) (ps : List Part) (i j : ℕ) → i < length ps → j < length ps → i ≢ j
    → Beside (start width_of from ps i) (width_of (get_or ps i Opaque)) (start width_of from ps j) (width_of (get_or ps j Opaque))
parts_beside from ps i j hi hj n =
    let width : (k : ℕ) → k < length ps → sum_by width_of (take (suc k) ps) ≡ sum_by width_of (take k ps) + width_of (get_or ps k Opaque) =
    λ k h. rw add-one at (sum_by_more width_of ps k Opaque h) in
    elim (cases_order i j) [
      | inl e ↦ absurd (n e)
      | inr d ↦ elim d [
        | inl h ↦ inr (omega (arith, ends_before width_of from ps i j h, width i hi))
        | inr h ↦ inl (omega (arith, ends_before width_of from ps j i h, width j hj))
      ]
    ]

-- what holds of the fields of each part that is kept holds of them all
pub spread_all : (P : Placed → Type 0) (keep : Part → Bool) (b : ℕ) (ps : List Part)
    → ((i : ℕ) → i < length ps → keep (get_or ps i Opaque) ≡ true → AllByRecursion P (placed (start width_of b ps i) (fields_of (get_or ps i Opaque))))
    → AllByRecursion P (spread keep b ps)
unfolding spread
spread_all P keep b [] h = tt
spread_all P keep b (p ∷ ps) h =
    All-append P (kept keep b p) (spread keep (b + width_of p) ps)
    (cond_both (keep p) (placed b (fields_of p)) [] (AllByRecursion P)
    (λ k. subst (λ (n : ℕ). AllByRecursion P (placed n (fields_of p))) (add-zero b) (h 0 (omega arith) k)) (λ _. tt))
    (spread_all P keep (b + width_of p) ps
    (λ i l k.
    let next : start width_of b (p ∷ ps) (suc i) ≡ start width_of (b + width_of p) ps i = omega (arith, sum_by-cons width_of p (take i ps)) in
    subst (λ (n : ℕ). AllByRecursion P (placed n (fields_of (get_or ps i Opaque)))) next (h (suc i) (omega arith) k)))
