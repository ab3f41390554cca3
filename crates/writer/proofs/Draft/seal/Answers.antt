use Rattle.std.proofs.Common.{take}
use Rattle.writer.proofs.Drafting.{sealed_draft, sealed_examined}
use Rattle.writer.proofs.Sealing.{sealed_lawful}
use Rattle.writer.proofs.Draft.seal.Goals as goal

pub returns-clause-lawful : goal.returns-clause-lawful
returns-clause-lawful c s xs n h f e =
    let d = c.args.self in
    let row = c.put_crc.new.self in
    sealed_lawful d.row.buf.now row.buf.now d.message_type s xs row.symbols c.put_crc.ensures.bits n h f e

pub returns-clause-seals : goal.returns-clause-seals
returns-clause-seals c k =
    let d = c.args.self in
    let row = c.put_crc.new.self in
    sealed_draft d.message_type d.done d.row.buf.now row.buf.now d.row.symbols.long row.symbols c.put_crc.ensures.bits k c.requires

pub returns-clause-examined : goal.returns-clause-examined
returns-clause-examined c k =
    sealed_examined c.args.self.message_type (take 81 c.args.self.row.buf.now) (take 81 c.put_crc.new.self.buf.now) (returns-clause-seals c k)
