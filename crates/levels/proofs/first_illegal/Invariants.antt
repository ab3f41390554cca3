use Rattle.levels.specs.Faults.{LegalBelow}
use Rattle.levels.proofs.first_illegal.Given as goal

abbrev pub invariant-loop-i : goal.invariant-loop-i
invariant-loop-i l = LegalBelow l.levels l.i
