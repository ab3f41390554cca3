use Rattle.std.proofs.Common.{refl}
use Rattle.gf64.specs.Field.{logs}
use Rattle.gf64.proofs.table.log.Goals as goal

pub returns : goal.returns
unfolding logs
returns c = refl
