use Rattle.std.proofs.Common.{◌-◌, ap, ◌∙◌, arith}
use Rattle.writer.proofs.Missing.{lowest, named}
use Rattle.writer.proofs.lowest_missing.Goals as goal

pub returns-in-Some : goal.returns-in-Some
returns-in-Some c =
    let k = c.args.first in
    ap (named k) c.in-Some.ensures.place ∙ lowest k (c.args.end - k) c.args.done.now (omega arith)

pub returns-in-None : goal.returns-in-None
returns-in-None c =
    let k = c.args.first in
    ap (named k) c.in-None.ensures.place ∙ lowest k (c.args.end - k) c.args.done.now (omega arith)
