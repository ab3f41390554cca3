use Rattle.std.proofs.Common.{◌≡◌, take}
use Rattle.bits.specs.Bits.{bits_of}
use Rattle.crc.specs.Crc.{crc_of}
use Rattle.crc.proofs.crc24q.Given as goal

abbrev pub invariant-loop-symbol : goal.invariant-loop-symbol
invariant-loop-symbol l = l.reg ≡ crc_of (bits_of (take l.symbol-index l.fn.symbols))
