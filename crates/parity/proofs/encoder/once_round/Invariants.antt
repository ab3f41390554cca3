use Rattle.std.proofs.Common.{◌≡◌, ◌<◌}
use Rattle.parity.specs.Code.{sym_at}
use Rattle.parity.specs.Ring.{run}
use Rattle.parity.proofs.encoder.once_round.Given as goal

abbrev pub invariant-loop-turn : goal.invariant-loop-turn
invariant-loop-turn l = (l.last < 64) × (l.last ≡ run (sym_at l.word.bytes) 0 l.turn-index)
