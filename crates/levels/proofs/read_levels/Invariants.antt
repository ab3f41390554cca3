use Rattle.std.proofs.Common.{◌≡◌, vec_items}
use Rattle.levels.specs.Levels.{levels_in}
use Rattle.levels.proofs.read_levels.Given as goal

abbrev pub invariant-loop-four : goal.invariant-loop-four
invariant-loop-four l = vec_items l.levels ≡ levels_in l.bytes l.four-index
