use Rattle.std.proofs.Common.{◌≡◌, ℕ, ◌<◌, ◌≤◌, cond, eqb, ltb, List, length, Some, None, Option, get_or, sym, ap, ◌∙◌, inl, inr, arith, rules, tests}
use mathlib.Core.Path.{subst⁻¹}
use Rattle.std.specs.List.{position, position_or_len}
use Rattle.std.proofs.lemmas.Bool.{cases_lt, cond-true, lt-ltb}
use Rattle.std.proofs.lemmas.Iterator.{YieldsList-from_slice}
use Rattle.std.proofs.lemmas.Iterator.Search.{position_from_yields_List}
use Rattle.std.proofs.lemmas.List.{get_or_past}
use Rattle.std.proofs.lemmas.Option.{cond_some}
use Rattle.parity.specs.Code.{factor_in, factor_of}
use Rattle.parity.specs.Table.{bcnav3, places_in, factors_in}
use Rattle.parity.proofs.Rows.{factor_of_lt, row_got, row_missing, factor_of_is}
use Rattle.parity.proofs.Weights.{factor_looked_up}
use Rattle.parity.proofs.factor_at.Goals as goal
use Rattle.parity.proofs.factor_at.Goals.{After-position}

-- the place of the row at which the search stops, or its length
abbrev at : After-position → ℕ
at c = position_or_len (λ e. eqb e.0 c.args.place) c.in-Some.row.now

searched : (c : After-position) → c.position.result ≡ cond (ltb (at c) (length c.in-Some.row.now)) (Some (at c)) None
searched c =
    let row = c.in-Some.row.now in
    position_from_yields_List (λ e. eqb e.0 c.args.place) _ _ c.position.result c.position.ensures.ran (YieldsList-from_slice row cc) (λ y b q k. search (rules, tests))

factor : (c : After-position) → (get_or c.in-Some.row.now (at c) (0, 0)).1 ≡ factor_of bcnav3 c.args.row c.args.place
factor c =
    let x = c.args.place in
    let h = row_got _ _ c.get.result c.in-Some.row c.rows.ensures c.get.ensures.lookup c.in-Some.is in
    factor_looked_up x c.in-Some.row.now ∙ sym (factor_of_is c.args.row x ∙ ap (λ row. factor_in x (places_in row) (factors_in row)) h.1)

at_place : (c : After-position) (j : ℕ) → c.position.result ≡ Some j → (get_or c.in-Some.row.now j (0, 0)).1 ≡ factor_of bcnav3 c.args.row c.args.place
at_place c j e =
    let row = c.in-Some.row.now in
    ap (λ n. (get_or row n (0, 0)).1) (sym (cond_some (ltb (at c) (length row)) (at c) j (sym (searched c) ∙ e)).1) ∙ factor c

nowhere : (c : After-position) → c.position.result ≡ None → 0 ≡ factor_of bcnav3 c.args.row c.args.place
nowhere c e =
    let row = c.in-Some.row.now in
    let none : cond (ltb (at c) (length row)) (Some (at c)) None ≡ None = sym (searched c) ∙ e in
    let past : length row ≤ at c = elim (cases_lt (at c) (length row)) [
      | inl l ↦ absurd (let z : ◌≡◌ {A = Option ℕ} (Some (at c)) None = sym (cond-true (ltb (at c) (length row)) (Some (at c)) None (lt-ltb (at c) (length row) l)) ∙ none in cc)
      | inr l ↦ l
    ] in
    sym (ap (λ e. e.1) (get_or_past row (at c) (0, 0) past)) ∙ factor c

pub returns-in-Some-position-clause-same : goal.returns-in-Some-position-clause-same
returns-in-Some-position-clause-same c =
    at_place (goal.at.returns-in-Some-position-clause-same c).After-position c.in-Some-position.j c.in-Some-position.is

pub returns-in-Some-position-clause-below : goal.returns-in-Some-position-clause-below
returns-in-Some-position-clause-below c =
    subst⁻¹ (λ (f : ℕ). f < 64) (at_place (goal.at.returns-in-Some-position-clause-below c).After-position c.in-Some-position.j c.in-Some-position.is)
    (factor_of_lt c.args.row c.args.place)

pub returns-in-None-clause-same : goal.returns-in-None-clause-same
returns-in-None-clause-same c = nowhere (goal.at.returns-in-None-clause-same c).After-position c.in-None.is

pub returns-in_default-clause-same : goal.returns-in_default-clause-same
unfolding factor_in
returns-in_default-clause-same c =
    let h = row_missing c.rows.result.now c.args.row c.get.result c.rows.ensures c.get.ensures.lookup c.in_default.is in
    sym (factor_of_is c.args.row c.args.place ∙ ap (λ row. factor_in c.args.place (places_in row) (factors_in row)) h)
