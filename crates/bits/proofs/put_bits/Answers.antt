use Rattle.std.proofs.Common.{ap, ◌∙◌, arith}
use Rattle.std.proofs.lemmas.List.{take_all}
use Rattle.bits.specs.Bits.{bits_of, pasted, spelled}
use Rattle.bits.proofs.Pasted.{pasted_step}
use Rattle.bits.proofs.Spelled.{length_spelled, spelled_at}
use Rattle.bits.proofs.Symbols.{length_bits}
use Rattle.bits.proofs.put_bits.Goals as goal

pub loop-i-preserved : goal.loop-i-preserved
loop-i-preserved c =
    let ss = c.args.symbols.now in let at = c.args.at in let w = c.args.width in let v = c.args.value in
    let i = c.loop-i.i in
    let here = c.loop-i-test.true in
    let n = length_spelled w v in
    let one = spelled_at w v i here in
    let more = pasted_step (bits_of ss) (spelled w v) at i 0 (omega (arith, length_bits ss)) (omega arith) in
    (cc, λ k a. c.set_bit.ensures.small k (c.loop-i.invariant.1 k a))

pub returns-clause-bits : goal.returns-clause-bits
returns-clause-bits c =
    let all = take_all c.loop-i.i (spelled c.args.width c.args.value) (omega (arith, length_spelled c.args.width c.args.value)) in
    λ _ _ _. c.loop-i.invariant.0 ∙ ap (pasted (bits_of c.args.symbols.now) c.args.at) all
