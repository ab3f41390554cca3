use Rattle.std.proofs.Common.{◌/◌, ◌%◌, ◌<◌, get_or, arith, rules}
use Rattle.bits.proofs.Symbols.{put, put_lt, put_bit, small_set}
use Rattle.bits.proofs.set_bit.Goals as goal

pub overflow_add-symbols : goal.overflow_add-symbols
overflow_add-symbols c =
    let s = get_or c.args.symbols.now (c.args.k / 6) 0 in
    let byte : s < 256 = search rules in
    record { fits = omega (arith, put_lt s (c.args.k % 6) c.args.b (omega arith) (omega arith)) }

pub returns : goal.returns
returns c =
    let ss = c.args.symbols.now in let i = c.args.k / 6 in let r = c.args.k % 6 in let b = c.args.b in
    let s = get_or ss i 0 in
    record {
      bits = put_bit ss c.args.k b (omega arith);
      small = small_set ss i (put s r b) (λ a. omega (arith, put_lt s r b (omega arith) (omega arith)));
    }
