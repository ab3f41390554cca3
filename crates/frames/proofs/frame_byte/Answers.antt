use Rattle.std.proofs.Common.{sym, ◌∙◌, arith}
use Rattle.frames.specs.Frame.{header_bits}
use Rattle.frames.proofs.Packed.{byte_2, byte_3, byte_after}
use Rattle.frames.proofs.frame_byte.Goals as goal

pub returns-in-0 : goal.returns-in-0
unfolding header_bits
returns-in-0 c = rw c.in-0.is

pub returns-in-1 : goal.returns-in-1
unfolding header_bits
returns-in-1 c = rw c.in-1.is

pub returns-in-2 : goal.returns-in-2
returns-in-2 c = rw c.in-2.is (sym (byte_2 _ _ (omega arith)))

pub returns-in-3 : goal.returns-in-3
returns-in-3 c = rw c.in-3.is (sym (byte_3 _ _ (omega arith)))

pub returns-in_default : goal.returns-in_default
returns-in_default c = c.word_byte.ensures ∙ sym (byte_after c.args.satellite c.args.word.now c.args.i (omega arith))
