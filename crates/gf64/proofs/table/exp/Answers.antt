use Rattle.std.proofs.Common.{refl}
use Rattle.gf64.specs.Field.{exps}
use Rattle.gf64.proofs.table.exp.Goals as goal

pub returns : goal.returns
unfolding exps
returns c = refl
