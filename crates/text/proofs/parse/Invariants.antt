use Rattle.std.proofs.Common.{vec_items}
use Rattle.text.specs.Lines.{Unused}
use Rattle.text.proofs.parse.Given as goal

abbrev pub invariant-loop-i : goal.invariant-loop-i
invariant-loop-i l = Unused (vec_items l.entries.list)
