use Rattle.std.proofs.Common.{◌≡◌, ℕ, ◌<◌, refl, ap, ◌∙◌, ap₂, arith, rules, tests}
use mathlib.Core.Path.{subst⁻¹}
use Rattle.std.specs.List.{range_with_len, AllWithin, HoldsAt}
use Rattle.std.specs.Option.{MatchOption}
use Rattle.std.proofs.lemmas.Iterator.{YieldsList-from_range, first_from_find}
use Rattle.std.proofs.lemmas.List.FromFn.{get_or-range_with_len}
use Rattle.gf64.specs.Field.{mul, inv}
use Rattle.parity.specs.Code.{factor_of, row_sum}
use Rattle.parity.specs.Table.{bcnav3}
use Rattle.parity.proofs.Rows.{rows_81}
use Rattle.parity.proofs.Sound.{sound}
use Rattle.correction.specs.Erasures.{Solves, Tells}
use Rattle.correction.proofs.Filling.{none_solves, row_solves}
use Rattle.correction.proofs.erasures.error_at.Goals as goal
use Rattle.correction.proofs.erasures.error_at.Goals.{After-find}

-- the first row that tells, or that none does
found : (c : After-find) → let No : ℕ → Type 0 = λ r. Tells bcnav3 c.args.place c.args.other r → ⊥ in
    let Yes : ℕ → Type 0 = Tells bcnav3 c.args.place c.args.other in
    MatchOption c.find.result (AllWithin No (range_with_len 0 81) 0 81) (λ r. Yes r × (i : ℕ) × (i < 81) × HoldsAt (λ y. y ≡ r) (range_with_len 0 81) i × AllWithin No (range_with_len 0 81) 0 i)
found c =
    first_from_find _ _ c.find.result (Tells bcnav3 c.args.place c.args.other) (λ r. Tells bcnav3 c.args.place c.args.other r → ⊥) c.find.ensures.ran
    (YieldsList-from_range 0 81 81 refl refl) (λ x q k. search (rules, tests)) (λ x q k. search (rules, tests))

quotient : (x i f g s t : ℕ) → x ≡ mul i s → i ≡ inv f → f ≡ g → s ≡ t → x ≡ mul (inv g) t
quotient x i f g s t e over same sum = e ∙ ap₂ mul (over ∙ ap inv same) sum

pub returns-in-Some-clause-solves : goal.returns-in-Some-clause-solves
returns-in-Some-clause-solves c =
    let w = c.args.word.now in
    let p = c.args.place in
    let q = c.args.other in
    let r = c.in-Some.row in
    let h = rw c.in-Some.is at (found (goal.at.returns-in-Some-clause-solves c).After-find) in
    let low : r < 81 = omega (arith, h.3 0, get_or-range_with_len 0 81 h.1 0 h.2, h.2) in
    let e =
    quotient c.product.result c.inverse.result c.factor_at.result (factor_of bcnav3 r p) c.row_sum.result
    (row_sum bcnav3 r w.bytes) (c.product.ensures.same c.inverse.ensures.below c.row_sum.ensures.below)
    (c.inverse.ensures.same c.factor_at.ensures.below) c.factor_at.ensures.same c.row_sum.ensures.same in
    subst⁻¹ (λ (x : ℕ). Solves bcnav3 w.bytes p q x) e
    (row_solves bcnav3 sound w.bytes (record { long = w.long; small = w.small }) p q r (omega (arith, rows_81)) h.0)

pub returns-in-None-clause-solves : goal.returns-in-None-clause-solves
returns-in-None-clause-solves c =
    let w = c.args.word.now in
    let none = rw c.in-None.is at (found (goal.at.returns-in-None-clause-solves c).After-find) in
    none_solves bcnav3 sound w.bytes (record { long = w.long; small = w.small }) c.args.place c.args.other
    (λ r h t. let l : r < 81 = omega (arith, rows_81) in
    none r 0 (omega arith) l (subst⁻¹ (Tells bcnav3 c.args.place c.args.other) (get_or-range_with_len 0 81 r 0 l ∙ omega arith) t))
