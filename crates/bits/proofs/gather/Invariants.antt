use Rattle.std.proofs.Common.{◌≡◌, take}
use Rattle.std.specs.Int.Digits.{number_from_digits}
use Rattle.bits.specs.Bits.{bits_of}
use Rattle.bits.proofs.gather.Given as goal

abbrev pub invariant-loop-symbol : goal.invariant-loop-symbol
invariant-loop-symbol l = l.v ≡ number_from_digits 2 (bits_of (take l.symbol-index l.symbols))
