use Rattle.std.proofs.Common.{arith}
use Rattle.std.proofs.lemmas.List.FromFn.{get_or-map-range_with_len}
use Rattle.crc.specs.Crc.{crc_step, six_zeros}
use Rattle.crc.proofs.entry.Goals as goal

-- the table, entry by entry, is six_zeros of 0, 1 and so on
pub returns : goal.returns
unfolding crc_step six_zeros
returns c = get_or-map-range_with_len six_zeros 0 64 c.args.i c.args.i 0 c.requires (omega arith)
