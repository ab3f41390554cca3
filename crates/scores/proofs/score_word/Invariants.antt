use Rattle.std.proofs.Common.{◌≡◌, length, take, fold}
use lib.Ieee.{binary32, add}
use Rattle.std.specs.Float.{float_max, float_zero}
use Rattle.bits.specs.Bits.{bits_of}
use Rattle.scores.specs.Scored.{squares}
use Rattle.scores.proofs.score_word.Given as goal

abbrev pub invariant-loop-i : goal.invariant-loop-i
invariant-loop-i l =
    (l.sum ≡ fold (add binary32) float_zero (take (length l.yielded) (squares l.levels (bits_of l.word.bytes))))
    × (l.largest ≡ fold float_max float_zero (take (length l.yielded) (squares l.levels (bits_of l.word.bytes))))
