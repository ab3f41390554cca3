use Rattle.std.proofs.Common.{refl}
use Rattle.parity.specs.Table.{rows}
use Rattle.parity.proofs.table.rows.Goals as goal

pub returns : goal.returns
unfolding rows
returns c = refl
