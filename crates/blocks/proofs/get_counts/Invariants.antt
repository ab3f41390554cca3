use Rattle.std.proofs.Common.{◌≡◌, ℕ, ◌+◌, ◌<◌, get_or, take, pos}
use Rattle.bits.specs.Bits.{bits_of}
use Rattle.layout.specs.Layout.{widths}
use Rattle.layout.specs.Placed.{at}
use Rattle.layout.specs.Ranges.{held}
use Rattle.blocks.proofs.Placing.{no_field}
use Rattle.blocks.proofs.get_counts.Given as goal

abbrev pub invariant-loop-i : goal.invariant-loop-i
invariant-loop-i g l =
    (l.at ≡ l.initial.at + widths (take l.i l.all))
    × ((k : ℕ) → k < l.i → get_or (g.K.Block.counts l.found) k (pos 0) ≡ held (at (l.initial.at + widths (take k l.all)) (get_or l.all k no_field)) (bits_of l.symbols))
