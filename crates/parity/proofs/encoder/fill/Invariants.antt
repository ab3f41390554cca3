use Rattle.std.proofs.Common.{◌≡◌, ◌<◌}
use Rattle.parity.specs.Code.{sym_at}
use Rattle.parity.specs.Ring.{run, start}
use Rattle.parity.proofs.Ring.{FilledTo}
use Rattle.parity.proofs.encoder.fill.Given as goal

abbrev pub invariant-loop-turn : goal.invariant-loop-turn
invariant-loop-turn l =
    (l.last < 64)
    × (l.last ≡ run (sym_at l.initial.word.bytes) (start (sym_at l.initial.word.bytes)) l.turn-index)
    × FilledTo l.turn-index (sym_at l.initial.word.bytes) l.word.bytes
