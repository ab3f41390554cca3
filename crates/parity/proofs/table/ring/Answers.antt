use Rattle.std.proofs.Common.{refl}
use Rattle.parity.specs.Ring.{ring}
use Rattle.parity.proofs.table.ring.Goals as goal

pub returns : goal.returns
unfolding ring
returns c = refl
