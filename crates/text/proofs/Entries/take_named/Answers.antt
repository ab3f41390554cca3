use Rattle.std.proofs.Common.{◌≡◌, ℕ, zero, suc, ◌<◌, Bool, true, false, cond, List, [], ◌∷◌, length, get_or, set, ℤ, Ok, Err, Result, MatchOption, refl, sym, ap, ◌∙◌, rules, tests, arith, w64, SFits}
use Rattle.std.proofs.lemmas.Int.{to_z-of_z}
use Rattle.std.proofs.lemmas.Iterator.{YieldsList-from_slice, IsFirst-from_position}
use Rattle.std.specs.List.{AllWithin, HoldsAt}
use Rattle.text.specs.declared.Entry.{Entry}
use Rattle.text.specs.declared.fault.Name.{Name}
use Rattle.text.specs.declared.fault.TextFault.{TextFault}
use Rattle.text.specs.declared.fault.TextFault.TheVariants.{Missing}
use Rattle.text.specs.Lines.{as_used, counted, marked, named}
use Rattle.text.proofs.Entries.take_named.Goals as goal
use Rattle.text.proofs.Entries.take_named.Goals.{After-position}

module _ (n : Name) where
  abbrev Has : Entry → Type 0
  Has e = named n e ≡ true

  abbrev Lacks : Entry → Type 0
  Lacks e = named n e ≡ false

  -- one step of each definition
  count_here : (e : Entry) (es : List Entry) (b : Bool) → named n e ≡ b → cond b (Ok e.count) (counted n es) ≡ counted n (e ∷ es)
  unfolding counted
  count_here e es b h = ap (λ (x : Bool). cond x (Ok e.count) (counted n es)) (sym h)

  mark_here : (e : Entry) (es : List Entry) (b : Bool) → named n e ≡ b → cond b (as_used e ∷ es) (e ∷ marked n es) ≡ marked n (e ∷ es)
  unfolding marked
  mark_here e es b h = ap (λ (x : Bool). cond x (as_used e ∷ es) (e ∷ marked n es)) (sym h)

  -- the first line of the name is line i
  at_first : (es : List Entry) (i : ℕ) (d : Entry) → i < length es → HoldsAt Has es i → AllWithin Lacks es 0 i
      → (Ok (get_or es i d).count ≡ counted n es) × (set es i (as_used (get_or es i d)) ≡ marked n es)
  at_first [] i d h has lack = let z : ⊥ = omega arith in absurd z
  at_first (e ∷ es) zero d h has lack = (count_here e es true (has d), mark_here e es true (has d))
  at_first (e ∷ es) (suc i) d h has lack =
      let rest = at_first es i d (omega arith) has (λ k x l m. lack (suc k) x (omega arith) (omega arith)) in
      let no : named n e ≡ false = lack 0 d (omega arith) (omega arith) in
      (rest.0 ∙ count_here e es false no, ap (λ (l : List Entry). e ∷ l) rest.1 ∙ mark_here e es false no)

  -- no line has the name
  at_none : (es : List Entry) → AllWithin Lacks es 0 (length es) → (Err (Missing n) ≡ counted n es) × (es ≡ marked n es)
  unfolding counted marked
  at_none [] lack = (refl, refl)
  at_none (e ∷ es) lack =
      let rest = at_none es (λ k x l m. lack (suc k) x (omega arith) (omega arith)) in
      let no : named n e ≡ false = lack 0 e (omega arith) (omega arith) in
      (rest.0 ∙ count_here e es false no, ap (λ (l : List Entry). e ∷ l) rest.1 ∙ mark_here e es false no)

abbrev given : ℤ → Result ℤ TextFault
given z = Ok z

-- where the position that was found is
found : (c : After-position)
    → MatchOption c.position.result (AllWithin (Lacks c.args.name) c.args.self.now.list.items 0 (length c.args.self.now.list.items))
    (λ i. (i < length c.args.self.now.list.items) × HoldsAt (Has c.args.name) c.args.self.now.list.items i × AllWithin (Lacks c.args.name) c.args.self.now.list.items 0 i)
found c =
    IsFirst-from_position _ _ c.position.result (Has c.args.name) (Lacks c.args.name) c.position.ensures.ran
    (YieldsList-from_slice c.args.self.now.list.items (cc)) (λ x q k. search (rules, tests)) (λ x q k. search (rules, tests))

pub returns-in_default-clause-value : goal.returns-in_default-clause-value
returns-in_default-clause-value c =
    let h = found (goal.at.returns-in_default-clause-value c).After-position in
    (at_none c.args.name c.args.self.now.list.items (rw c.in_default.is at h)).0

pub returns-in_default-clause-after : goal.returns-in_default-clause-after
returns-in_default-clause-after c =
    let h = found (goal.at.returns-in_default-clause-after c).After-position in
    (at_none c.args.name c.args.self.now.list.items (rw c.in_default.is at h)).1

pub returns-clause-value : goal.returns-clause-value
returns-clause-value c =
    let es = c.args.self.now.list.items in
    let e = c.index_mut-held.result.now in
    let h = rw c.in-Some.is at (found (goal.at.returns-clause-value c).After-position) in
    let fits : SFits w64 e.count = search rules in
    ap given (to_z-of_z w64 e.count fits)
    ∙ ap (λ (x : Entry). given x.count) c.index_mut-held.ensures.value
    ∙ (at_first c.args.name es c.in-Some.i e h.0 h.1 h.2).0

pub returns-clause-after : goal.returns-clause-after
returns-clause-after c =
    let es = c.args.self.now.list.items in
    let e = c.index_mut-held.result.now in
    let h = rw c.in-Some.is at (found (goal.at.returns-clause-after c).After-position) in
    ap (λ (x : Entry). set es c.in-Some.i (as_used x)) c.index_mut-held.ensures.value
    ∙ (at_first c.args.name es c.in-Some.i e h.0 h.1 h.2).1
