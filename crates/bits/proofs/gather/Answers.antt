use Rattle.std.proofs.Common.{arith}
use Rattle.bits.proofs.Symbols.{nine_lt, number_symbol}
use Rattle.bits.proofs.gather.Goals as goal

pub overflow_mul-v : goal.overflow_mul-v
overflow_mul-v c = omega (arith, nine_lt c.args.symbols.now c.loop-symbol.symbol-index (omega arith))

pub overflow_add-v : goal.overflow_add-v
overflow_add-v c = omega (arith, nine_lt c.args.symbols.now c.loop-symbol.symbol-index (omega arith))

pub loop-symbol-preserved : goal.loop-symbol-preserved
loop-symbol-preserved c = omega (arith, number_symbol c.args.symbols.now c.loop-symbol.symbol-index (omega arith), c.loop-symbol.invariant)
