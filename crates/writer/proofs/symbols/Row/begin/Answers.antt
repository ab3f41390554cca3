use Rattle.std.proofs.Common.{◌≡◌, ℕ, ◌<◌, List, length, get_or, replicate, ap, ◌∙◌, arith}
use mathlib.Core.Path.{subst⁻¹}
use Rattle.bits.specs.Bits.{pasted, spelled}
use Rattle.writer.proofs.Begun.{begun, zeros_small}
use Rattle.writer.proofs.symbols.Row.begin.Goals as goal

pub invariant_of-result : goal.invariant_of-result
invariant_of-result c =
    let n : ℕ = length c.args.buf.now in
    let zeros : c.fill.new.self ≡ replicate n 0 = c.fill.ensures.after (λ y e. e) in
    record {
      symbols = record {
        long = omega arith;
        small = λ k. c.put_bits-2.ensures.small k (c.put_bits.ensures.small k (subst⁻¹ (λ (l : List ℕ). get_or l k 0 < 64) zeros (zeros_small n k)));
      };
    }

pub returns-clause-bits : goal.returns-clause-bits
returns-clause-bits c =
    c.put_bits-2.ensures.bits (omega arith) (omega arith) (omega arith)
    ∙ ap (λ (d : List ℕ). pasted d 6 (spelled 20 c.args.second)) (c.put_bits.ensures.bits (omega arith) (omega arith) (omega arith))
    ∙ begun c.fill.new.self (length c.args.buf.now) c.args.number c.args.second (c.fill.ensures.after (λ y e. e)) c.requires
