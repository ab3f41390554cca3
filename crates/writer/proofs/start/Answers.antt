use Rattle.std.proofs.Common.{take, refl, ap, ◌∙◌}
use Rattle.bits.proofs.Symbols.{bits_take}
use Rattle.written.proofs.Drafts.{started_second}
use Rattle.writer.proofs.Drafting.{drafted, startable}
use Rattle.writer.proofs.start.Goals as goal

pub returns-clause-second : goal.returns-clause-second
returns-clause-second c =
    let ss = c.begin.result.buf.now in
    started_second c.args.number c.args.second (take 81 ss) (startable _ c.args.number c.args.second c.requires).second
    (bits_take 81 ss ∙ ap (take 486) c.begin.ensures.bits)

pub returns-clause-drafted : goal.returns-clause-drafted
returns-clause-drafted c =
    drafted _ _ c.args.number c.args.second c.begin.result.buf.now (startable _ c.args.number c.args.second c.requires)
    (c.in-Ok.ensures.inverse.own _ refl) c.begin.ensures.bits
