use Rattle.std.proofs.Common.{◌≡◌, ◌+◌, ◌≤◌, drop}
use Rattle.bits.specs.Bits.{bits_of}
use Rattle.layout.specs.Layout.{widths}
use Rattle.layout.specs.Placed.{placed}
use Rattle.layout.specs.Ranges.{first_outside}
use Rattle.layout.proofs.first_outside.Given as goal

abbrev pub invariant-loop-field : goal.invariant-loop-field
invariant-loop-field l =
    (l.at + widths (drop l.field-index l.fields) ≤ 486)
    × (first_outside (placed l.at (drop l.field-index l.fields)) (bits_of l.symbols)
    ≡ first_outside (placed l.from l.fields) (bits_of l.symbols))
