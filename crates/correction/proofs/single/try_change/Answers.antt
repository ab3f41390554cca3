use Rattle.std.proofs.Common.{ap, ◌∙◌}
use Rattle.parity.specs.Code.{altered}
use Rattle.correction.proofs.Agree.{altered_twice}
use Rattle.correction.proofs.single.try_change.Goals as goal

pub returns-clause-back : goal.returns-clause-back
returns-clause-back c =
    let p = c.args.place in let x = c.args.change in
    ap (λ u. altered u p x) (c.alter.ensures.same c.requires.change_bound) ∙ altered_twice c.args.candidate.now.bytes p x
