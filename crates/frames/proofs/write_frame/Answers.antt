use Rattle.std.proofs.Common.{arith}
use Rattle.frames.specs.Frame.{frame_bits}
use Rattle.frames.proofs.Packed.{bytes_write, length_frame, under_frame}
use Rattle.frames.proofs.write_frame.Goals as goal

pub returns-clause-bits : goal.returns-clause-bits
returns-clause-bits c =
    let s = c.args.satellite in let word = c.args.word.now in
    let long = c.in_ok-ask_frame.ensures.fits.0 in
    bytes_write c.loop-i.out (frame_bits s word) (under_frame s word) (omega (arith, length_frame s word (omega arith)))
    (λ k l. c.loop-i.invariant k (omega arith))
