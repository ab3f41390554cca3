use Rattle.std.proofs.Common.{◌≡◌, Some, None, ltb, length, sym, ap, ◌∙◌, arith, rules, tests}
use Rattle.std.proofs.lemmas.Bool.Decides.{nat_tests}
use Rattle.std.proofs.lemmas.Iterator.{YieldsList-from_slice}
use Rattle.std.proofs.lemmas.Iterator.Search.{position_from_yields_List}
use Rattle.parity.specs.Bytes.{first, is_symbol}
use Rattle.parity.proofs.Codewords.{by_byte}
use Rattle.parity.proofs.Firsts.{first_position}
use Rattle.parity.proofs.Symbols.new.Goals as goal
use Rattle.parity.proofs.Symbols.new.Goals.{After-position}

found : (g : _) (c : After-position g) → first (length c.args.bytes.now) (is_symbol c.args.bytes.now) ≡ c.position.result
found g c =
    let w = c.args.bytes.now in
    sym (position_from_yields_List (λ b. ltb 63 b) _ _ c.position.result c.position.ensures.ran (YieldsList-from_slice w cc) (λ x b q k. search (rules, tests))
    ∙ first_position (λ b. ltb 63 b) (is_symbol w) w 0 (λ k h. grind (arith, nat_tests)))

pub returns-in-Some : goal.returns-in-Some
returns-in-Some g c =
    let l = c.in-Ok.ensures.1.long in
    by_byte g.row.N c.args.bytes.now (Some c.in-Some.i) l (ap (λ n. first n (is_symbol c.args.bytes.now)) (sym l) ∙ found g (goal.at.returns-in-Some g c).After-position ∙ c.in-Some.is)

pub returns : goal.returns
returns g c =
    let l = c.in-Ok.ensures.1.long in (
      c.in-Ok.ensures.1.same,
      by_byte g.row.N c.args.bytes.now None l (ap (λ n. first n (is_symbol c.args.bytes.now)) (sym l) ∙ found g (goal.at.returns g c).After-position ∙ c.in_default-position.is),
    )
