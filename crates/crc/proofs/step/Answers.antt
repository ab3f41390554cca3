use Rattle.std.proofs.Common.{◌≡◌, ◌*◌, ◌%◌, sym, ◌∙◌, ap₂, arith}
use lib.Bits.{bit_and, bit_xor, and_mask}
use Rattle.crc.proofs.Steps.{symbol_step}
use Rattle.crc.proofs.step.Goals as goal

pub returns : goal.returns
returns c =
    let reg = c.args.reg in
    let kept : bit_and (reg * 64 % 4294967296) 16777215 ≡ reg * 64 % 16777216 = and_mask (reg * 64 % 4294967296) 24 ∙ omega arith in
    ap₂ bit_xor kept c.entry.ensures ∙ sym (symbol_step reg c.args.symbol c.requires)
