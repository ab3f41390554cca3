use Rattle.std.proofs.Common.{◌≡◌, ℕ, ◌+◌, ◌<◌, get_or, take}
use Rattle.bits.specs.Bits.{bits_of, pasted}
use Rattle.layout.specs.Layout.{widths}
use Rattle.blocks.specs.Write.{pack}
use Rattle.blocks.proofs.put_counts.Given as goal

abbrev pub invariant-loop-i : goal.invariant-loop-i
invariant-loop-i g l =
    (l.at ≡ l.initial.at + widths (take l.i l.all))
    × (bits_of l.symbols ≡ pasted (bits_of l.initial.symbols) l.initial.at (pack (take l.i l.all) (take l.i (g.K.Block.counts l.of))))
    × ((k : ℕ) → get_or l.initial.symbols k 0 < 64 → get_or l.symbols k 0 < 64)
