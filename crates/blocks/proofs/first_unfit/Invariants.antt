use Rattle.std.proofs.Common.{◌≡◌, ◌+◌, take, drop}
use Rattle.layout.specs.Layout.{widths}
use Rattle.layout.specs.Placed.{placed}
use Rattle.blocks.specs.Write.{first_unfit}
use Rattle.blocks.proofs.first_unfit.Given as goal

abbrev pub invariant-loop-i : goal.invariant-loop-i
invariant-loop-i g l =
    (l.at ≡ l.initial.at + widths (take l.i l.all))
    × (first_unfit (placed l.at (drop l.i l.all)) (drop l.i (g.K.Block.counts l.of)) ≡ first_unfit (placed l.initial.at l.all) (g.K.Block.counts l.of))
