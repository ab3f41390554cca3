use Rattle.std.proofs.Common.{◌-◌, ◌/◌, ◌%◌, ◌^◌, get_or, sym, ap, ◌∙◌, arith}
use Rattle.scores.proofs.Squares.{bit_at}
use Rattle.scores.proofs.word_bit.Goals as goal

pub returns : goal.returns
returns c =
    let w = c.args.word.now in
    let i = c.args.i in
    ap (λ ss. get_or ss (i / 6) 0 / 2 ^ (5 - i % 6) % 2) c.bytes.ensures
    ∙ sym (bit_at w.bytes i (omega (arith, w.long)))
