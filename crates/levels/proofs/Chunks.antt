-- The chunks of a list, and the array that `from_fn` makes of a list with a closure that changes nothing.
use Rattle.std.proofs.Common.{◌≡◌, ℕ, zero, suc, ◌+◌, ◌*◌, ◌<◌, ◌≤◌, List, [], map, length, get_or, drop, subst, sym, refl, ap, ◌∙◌, inl, inr, arith}
use denote.Param.Members.{Mut, Called}
use Rattle.std.proofs.lemmas.Bool.{cases_eq}
use Rattle.std.proofs.lemmas.List.{ext_get_or, get_or-drop, get_or-map, get_or-take, length-map}
use Rattle.std.specs.Array.{IsFromFnResult, IsFromFnResultFrom}
use Rattle.std.specs.Simd.{first_chunks}

pub length_chunks : {X : Type 0} (n k : ℕ) (xs : List X) → length (first_chunks n k xs) ≡ k
length_chunks n zero xs = refl
length_chunks n (suc k) xs = ap suc (length_chunks n k (drop n xs))

-- element j of chunk i
pub in_chunk : {X : Type 0} (n k i j : ℕ) (xs : List X) (d : X) → i < k → j < n
    → get_or (get_or (first_chunks n k xs) i []) j d ≡ get_or xs (n * i + j) d
in_chunk n zero i j xs d a b = absurd (omega arith)
in_chunk n (suc k) zero j xs d a b = get_or-take n xs j d b ∙ ap (λ m. get_or xs m d) (omega arith)
in_chunk n (suc k) (suc i) j xs d a b =
    in_chunk n k i j (drop n xs) d (omega arith) b ∙ get_or-drop n xs (n * i + j) d ∙ ap (λ m. get_or xs m d) (omega arith)

module _ {A B F : Type 0} (h : A → B) (xs : List A) (d : A) (e : B) (g : Mut F (ℕ × Unit {0}) B) (f : F)
    (call : (i : ℕ) (y : B) (q : F) → Called g f (i, tt) y q → (q ≡ f) × (y ≡ h (get_or xs i d))) (ys : List B) where
  made_from : (n i : ℕ) → IsFromFnResultFrom g f ys i n → (k : ℕ) → i ≤ k → k < i + n → get_or ys k e ≡ h (get_or xs k d)
  made_from zero i r k a b = absurd (omega arith)
  made_from (suc n) i r k a b =
      let now = call i r.1 r.0 r.3 in
      elim (cases_eq k i) [
        | inl s ↦ rw (s, r.2.1 e) now.1
        | inr o ↦ made_from n (i + 1) (subst (λ q. IsFromFnResultFrom g q ys (i + 1) n) now.0 r.4) k (omega arith) (omega arith)
      ]

  pub made_map : (n : ℕ) → length xs ≡ n → IsFromFnResult g f ys n → ys ≡ map h xs
  made_map n long r =
      ext_get_or e ys (map h xs) (r.long ∙ sym long ∙ sym (length-map xs h))
      (λ k l. made_from n 0 r.each k (omega arith) (omega (arith, r.long)) ∙ sym (get_or-map h xs k d e (omega (arith, r.long))))
