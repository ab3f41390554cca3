use Rattle.std.proofs.Common.{◌≡◌, rules}
use Rattle.blocks.specs.Held.{placed_of}
use Rattle.blocks.specs.Write.{first_unfit}
use Rattle.writer.proofs.Drafting.{fit, taken_in, taken_on}
use Rattle.writer.proofs.Draft.put.Goals as goal

pub returns-clause-puts : goal.returns-clause-puts
returns-clause-puts g c =
    let b = g.K.Block in
    let self = c.args.self.now in
    let zs = b.counts c.args.of.now in
    let w = c.in_ok-write.ensures in
    taken_in b.PLACE b.size g.met.K.Block.stands zs self.row.buf.now c.write.new.self.buf.now self.message_type self.done
    (g.met.K.Block.counted c.args.of.now) self.row.symbols.long (fit (first_unfit (placed_of b.PLACE) zs) w.answer) w.writes

pub returns-clause-drafted : goal.returns-clause-drafted
returns-clause-drafted g c n d =
    let b = g.K.Block in
    let self = c.args.self.now in
    let zs = b.counts c.args.of.now in
    let w = c.in_ok-write.ensures in
    let typed : b.PLACE.message_type ≡ self.message_type = search rules in
    rw c.PLACE-place.ensures
    (taken_on b.PLACE b.size g.met.K.Block.stands zs self.row.buf.now c.write.new.self.buf.now self.message_type self.done
    (g.met.K.Block.counted c.args.of.now) self.row.symbols.long (fit (first_unfit (placed_of b.PLACE) zs) w.answer) w.writes n typed d)
