use Rattle.std.proofs.Common.{◌≡◌, ◌+◌, Bool, drop, sum_by}
use Rattle.bits.specs.Bits.{bits_of}
use Rattle.layout.specs.Layout.{width_of}
use Rattle.layout.specs.Placed.{spread, Decided}
use Rattle.layout.specs.Ranges.{first_outside}
use Rattle.layout.specs.declared.Part.{Part}
use Rattle.layout.proofs.first_in_parts.Given as goal

abbrev pub invariant-loop-part : goal.invariant-loop-part
invariant-loop-part g l =
    record {
      inside : l.at + sum_by width_of (drop l.part-index l.part-items) ≡ 462;
      left : (keep : Part → Bool) → Decided (goal.F-post g l.keeps) keep
          → first_outside (spread keep l.at (drop l.part-index l.part-items)) (bits_of l.symbols)
          ≡ first_outside (spread keep 26 l.part-items) (bits_of l.symbols);
    }
