use Rattle.std.proofs.Common.{◌≡◌, ℕ, List, Some, None, Option, refl, subst, arith}
use Rattle.parity.specs.Code.{Codeword, SymbolList}
use Rattle.parity.specs.Table.{bcnav3}
use Rattle.correction.specs.Erasures.{Outside, filled}
use Rattle.correction.specs.Search.{Only}
use Rattle.correction.proofs.Filling.{Solved, both_solved, filled_only, one_outside}
use Rattle.correction.proofs.Found.{only_same}
use Rattle.correction.proofs.erasures.fill_erasures.Goals as goal
use Rattle.correction.proofs.erasures.fill_erasures.Goals.{After-first_nonzero_sum}

answer : (w : List ℕ) (p q : ℕ) → SymbolList 162 w → (o : Option (List ℕ)) → Only (Outside bcnav3 w p q) o → o ≡ filled w p q
answer w p q s o h = only_same (Outside bcnav3 w p q) o (filled w p q) h (filled_only w p q s)

solved : (c : After-first_nonzero_sum) → Solved c.args.word.now.bytes c.args.first c.args.second c.alter-2.new.self.bytes
solved c =
    both_solved c.args.word.now.bytes c.alter.new.self.bytes c.alter-2.new.self.bytes c.args.first c.args.second
    c.error_at.result c.error_at-2.result (c.alter.ensures.same c.error_at.ensures.below)
    (c.alter-2.ensures.same c.error_at-2.ensures.below) c.error_at.ensures.solves c.error_at-2.ensures.solves

pub returns-in-None : goal.returns-in-None
returns-in-None c =
    let word = c.args.word.now in
    let w = word.bytes in
    let p = c.args.first in
    let q = c.args.second in
    let z = c.alter-2.new.self.bytes in
    let s = solved (goal.at.returns-in-None c).After-first_nonzero_sum in
    let only : Only (Outside bcnav3 w p q) (Some z) = (s.outside (c.in-None.ensures.none.0 refl), s.only) in
    record { answer = answer w p q (record { long = word.long; small = word.small }) (Some z) only; only = only; one = one_outside }

pub returns-in-Some : goal.returns-in-Some
returns-in-Some c =
    let word = c.args.word.now in
    let w = word.bytes in
    let p = c.args.first in
    let q = c.args.second in
    let s = solved (goal.at.returns-in-Some c).After-first_nonzero_sum in
    let only : Only (Outside bcnav3 w p q) None =
    λ v o. let none = c.in-Some.ensures.none.1 (subst (Codeword bcnav3) (s.only v o) o.codeword) in
    let e : ◌≡◌ {A = ℕ} 0 1 = cc in omega arith in
    record { answer = answer w p q (record { long = word.long; small = word.small }) None only; only = only; one = one_outside }
