use Rattle.std.proofs.Common.{eq-eqb, ne_eqb}
use lib.Ieee.{of_bits, neg}
use Rattle.scores.proofs.distance.Goals as goal
use Rattle.scores.proofs.distance.Goals.{then-bit-eq1, else-bit-eq1}

pub returns : goal.returns
unfolding of_bits neg
returns c =
    elim c.if-bit-eq1.branch [
      | then-bit-eq1 w ↦ rw (w.sign-is, eq-eqb _ _ w.if-bit-eq1.true)
      | else-bit-eq1 w ↦ rw (w.sign-is, ne_eqb _ _ w.if-bit-eq1.false)
    ]
