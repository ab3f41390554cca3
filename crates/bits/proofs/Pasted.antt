-- A row with another written over a part of it.
use Rattle.std.proofs.Common.{◌≡◌, ℕ, ◌+◌, ◌-◌, ◌<◌, ◌≤◌, List, [], ◌∷◌, ◌++◌, length, get_or, take, drop, set, sym, refl, ap, ◌∙◌, append_assoc, add-zero, add-one, arith, length-append, length-drop}
use Rattle.std.proofs.lemmas.List.{take_at, drop_at, drop-drop, drop-take, length-take-le, set_split, take-append-drop, take_more, take-take}
use Rattle.bits.specs.Bits.{part, pasted}

module _ {X : Type 0} where
  pub pasted_none : (d : List X) (at : ℕ) → pasted d at [] ≡ d
  pasted_none d at = rw add-zero (take-append-drop at d)

  pub pasted_set : (d : List X) (k : ℕ) (b : X) → k < length d → set d k b ≡ pasted d k (b ∷ [])
  pasted_set d k b h = rw add-one (set_split d k b h)

  length_front : (d s : List X) (at : ℕ) → at ≤ length d → length (take at d ++ s) ≡ at + length s
  length_front d s at h = simp length-append (omega (arith, length-take-le at d h))

  pub take_pasted : (d s : List X) (at : ℕ) → at ≤ length d → take (at + length s) (pasted d at s) ≡ take at d ++ s
  take_pasted d s at h =
      rw (← append_assoc (take at d) s (drop (at + length s) d)) (take_at (take at d ++ s) _ _ (length_front d s at h))

  pub before_pasted : (d s : List X) (at : ℕ) → at ≤ length d → take at (pasted d at s) ≡ take at d
  before_pasted d s at h = take_at (take at d) _ at (length-take-le at d h)

  pub drop_pasted : (d s : List X) (at : ℕ) → at ≤ length d → drop (at + length s) (pasted d at s) ≡ drop (at + length s) d
  drop_pasted d s at h =
      rw (← append_assoc (take at d) s (drop (at + length s) d)) (drop_at (take at d ++ s) _ _ (length_front d s at h))

  pub part_pasted : (d s : List X) (at : ℕ) → at ≤ length d → part (pasted d at s) at (length s) ≡ s
  part_pasted d s at h =
      rw (drop_at (take at d) (s ++ drop (at + length s) d) at (length-take-le at d h)) (take_at s _ (length s) refl)

  pub length_pasted : (d s : List X) (at : ℕ) → at + length s ≤ length d → length (pasted d at s) ≡ length d
  length_pasted d s at h = simp (length-append, length-drop) (omega (arith, length-take-le at d (omega arith)))

  pub pasted_more : (d s t : List X) (at : ℕ) → at ≤ length d → pasted (pasted d at s) (at + length s) t ≡ pasted d at (s ++ t)
  pasted_more d s t at h =
      let n : ℕ = at + length s in
      let m : ℕ = length t in
      let front = take_pasted d s at h in
      let rest : drop (n + m) (pasted d at s) ≡ drop (n + m) d =
      sym (drop-drop m n (pasted d at s)) ∙ ap (drop m) (drop_pasted d s at h) ∙ drop-drop m n d in
      let end : n + m ≡ at + length (s ++ t) = omega (arith, length-append s t) in
      ap (λ u. u ++ (t ++ drop (n + m) (pasted d at s))) front
      ∙ ap (λ u. (take at d ++ s) ++ (t ++ u)) (rest ∙ ap (λ k. drop k d) end)
      ∙ simp append_assoc

  -- what was read, written again
  pub pasted_part : (d : List X) (at w : ℕ) → at + w ≤ length d → pasted d at (part d at w) ≡ d
  pasted_part d at w h =
      let n : length (part d at w) ≡ w = length-take-le w (drop at d) (simp length-drop (omega arith)) in
      ap (λ k. take at d ++ (part d at w ++ drop (at + k) d)) n
      ∙ rw (← drop-drop w at d, take-append-drop w (drop at d)) (take-append-drop at d)

  -- one place more of what is written
  pub pasted_step : (d s : List X) (at i : ℕ) (e : X) → at + length s ≤ length d → i < length s
      → set (pasted d at (take i s)) (at + i) (get_or s i e) ≡ pasted d at (take (i + 1) s)
  pasted_step d s at i e room h =
      let b = get_or s i e in
      let n : length (take i s) ≡ i = length-take-le i s (omega arith) in
      let in' : at + i < length (pasted d at (take i s)) = omega (arith, length_pasted d (take i s) at (omega arith)) in
      pasted_set (pasted d at (take i s)) (at + i) b in'
      ∙ ap (λ k. pasted (pasted d at (take i s)) (at + k) (b ∷ [])) (sym n)
      ∙ pasted_more d (take i s) (b ∷ []) at (omega arith)
      ∙ ap (pasted d at) (sym (take_more s i e h))

  -- ---- what lies before or after is read as before

  pub part_take : (d : List X) (n b w : ℕ) → b + w ≤ n → part (take n d) b w ≡ part d b w
  part_take d n b w h =
      let m : ℕ = n - b in
      let e : n ≡ b + m = omega arith in
      ap (λ k. part (take k d) b w) e ∙ ap (take w) (drop-take b m d) ∙ take-take w m (drop b d) (omega arith)

  pub part_before : (d s : List X) (at b w : ℕ) → at ≤ length d → b + w ≤ at → part (pasted d at s) b w ≡ part d b w
  part_before d s at b w h l =
      sym (part_take (pasted d at s) at b w l) ∙ ap (λ u. part u b w) (before_pasted d s at h) ∙ part_take d at b w l

  pub part_after : (d s : List X) (at b w : ℕ) → at ≤ length d → at + length s ≤ b → part (pasted d at s) b w ≡ part d b w
  part_after d s at b w h l =
      let k : ℕ = at + length s in
      let m : ℕ = b - k in
      let e : b ≡ k + m = omega arith in
      let far : drop (k + m) (pasted d at s) ≡ drop (k + m) d =
      sym (drop-drop m k (pasted d at s)) ∙ ap (drop m) (drop_pasted d s at h) ∙ drop-drop m k d in
      ap (λ j. part (pasted d at s) j w) e ∙ ap (take w) far ∙ ap (λ j. part d j w) (sym e)

  -- ---- the front of what was written over

  pub take_add : (n m : ℕ) (d : List X) → take (n + m) d ≡ take n d ++ take m (drop n d)
  take_add n m d =
      sym (take-append-drop n (take (n + m) d))
      ∙ ap (λ l. l ++ drop n (take (n + m) d)) (take-take n (n + m) d (omega arith))
      ∙ ap (λ l. take n d ++ l) (drop-take n m d)

  pub front_pasted : (d s : List X) (at n : ℕ) → at ≤ length d → at + length s ≤ n → take n (pasted d at s) ≡ pasted (take n d) at s
  front_pasted d s at n h l =
      let k : ℕ = at + length s in
      let m : ℕ = n - k in
      let e : n ≡ k + m = omega arith in
      let front : take k (pasted d at s) ≡ take at d ++ s = take_pasted d s at h in
      let rest : drop k (pasted d at s) ≡ drop k d = drop_pasted d s at h in
      ap (λ j. take j (pasted d at s)) e ∙ take_add k m (pasted d at s)
      ∙ ap (λ u. u ++ take m (drop k (pasted d at s))) front
      ∙ ap (λ u. (take at d ++ s) ++ take m u) rest
      ∙ ap (λ u. (take at d ++ s) ++ u) (sym (drop-take k m d))
      ∙ append_assoc (take at d) s (drop k (take (k + m) d))
      ∙ ap (λ u. u ++ (s ++ drop k (take (k + m) d))) (sym (take-take at (k + m) d (omega arith)))
      ∙ ap (λ j. pasted (take j d) at s) (sym e)
