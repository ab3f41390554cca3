use Rattle.std.proofs.Common.{◌≡◌, ℕ, ◌+◌, Bool, false, List, [], ◌∷◌, ◌++◌, length, drop, Some, None, Decides, sym, ap, ◌∙◌, subst, arith, rules}
use Rattle.std.proofs.lemmas.Bool.Decides.{Decides-at}
use Rattle.std.proofs.lemmas.List.{append_cancel_left}
use Rattle.std.proofs.lemmas.Str.Pattern.{strip_prefix_char}
use Rattle.std.specs.Cmp.Lexicographic.{bytes_decides}
use Rattle.std.specs.Str.{IsCharBoundary}
use Rattle.text.specs.declared.fault.Name.{Name}
use Rattle.text.specs.Names.{written}
use Rattle.text.proofs.fault.Name.is.Goals as goal

-- the block stood before t
stripped : (s b t : List ℕ)
    → ((n : ℕ) × ((n ≡ length b) × (s ≡ b ++ drop n s) × IsCharBoundary s (length b)) × (t ≡ drop n s) × (length t + n ≡ length s))
    → s ≡ b ++ t
stripped s b t h = h.1.1 ∙ ap (λ (x : List ℕ). b ++ x) (sym h.2)

same_tail : (x : ℕ) (u f : List ℕ) → x ∷ u ≡ x ∷ f → u ≡ f
same_tail x u f e = append_cancel_left (x ∷ []) u f e

-- then a dot and u
dotted : (s b t u f : List ℕ) (r : Bool) → s ≡ b ++ t → t ≡ 46 ∷ u → Decides r (u ≡ f) → Decides r (s ≡ b ++ (46 ∷ f))
dotted s b t u f r e d h =
    let whole : s ≡ b ++ (46 ∷ u) = e ∙ ap (λ (x : List ℕ). b ++ x) d in (
      λ k. whole ∙ ap (λ (x : List ℕ). b ++ (46 ∷ x)) (h.0 k),
      λ k. h.1 (same_tail 46 u f (append_cancel_left b (46 ∷ u) (46 ∷ f) (sym whole ∙ k))),
    )

never : (P : Type 0) → (P → ⊥) → Decides false P
never P not = (search rules, search rules)

undotted : (s b t f : List ℕ) → s ≡ b ++ t → ((rest : List ℕ) → t ≡ 46 ∷ rest → ⊥) → Decides false (s ≡ b ++ (46 ∷ f))
undotted s b t f e not = never (s ≡ b ++ (46 ∷ f)) (λ k. not f (append_cancel_left b t (46 ∷ f) (sym e ∙ k)))

pub returns-in-Some-strip_prefix : goal.returns-in-Some-strip_prefix
returns-in-Some-strip_prefix c =
    let s = c.args.text.now in
    let b = c.in-Field.block.now in
    let f = c.in-Field.field.now in
    let t = c.in-Some.rest.now in
    let u = c.in-Some-strip_prefix.rest in
    subst (λ (n : Name). Decides c.eq-in-Some-strip_prefix.result (s ≡ written n)) (sym c.in-Field.is)
    (dotted s b t u.now f c.eq-in-Some-strip_prefix.result (stripped s b t c.in-Some.ensures.cases)
    (strip_prefix_char 46 t (Some u) c.in-Some-strip_prefix.ensures.cases (omega arith))
    (Decides-at c.eq-in-Some-strip_prefix.result _ c.eq-in-Some-strip_prefix.ensures (bytes_decides u.now f)))

pub returns-in-None-strip_prefix : goal.returns-in-None-strip_prefix
returns-in-None-strip_prefix c =
    let s = c.args.text.now in
    let b = c.in-Field.block.now in
    let t = c.in-Some.rest.now in
    subst (λ (n : Name). Decides false (s ≡ written n)) (sym c.in-Field.is)
    (undotted s b t c.in-Field.field.now (stripped s b t c.in-Some.ensures.cases)
    (strip_prefix_char 46 t None c.in-None-strip_prefix.ensures.cases (omega arith)))
