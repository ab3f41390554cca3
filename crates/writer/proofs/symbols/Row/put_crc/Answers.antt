use Rattle.std.proofs.Common.{ℕ, ap, ◌∙◌, arith}
use Rattle.bits.specs.Bits.{bits_of, pasted, spelled}
use Rattle.crc.specs.Crc.{crc_of_message}
use Rattle.writer.proofs.symbols.Row.put_crc.Goals as goal

pub returns-clause-bits : goal.returns-clause-bits
returns-clause-bits c =
    let bs = bits_of c.args.self.now.buf.now in
    c.put_bits.ensures.bits (omega arith) (omega arith) (omega arith)
    ∙ ap (λ (v : ℕ). pasted bs 462 (spelled 24 v)) (c.crc24q-crc.ensures.value ∙ ap crc_of_message c.message.ensures)
