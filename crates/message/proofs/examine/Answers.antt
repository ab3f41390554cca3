use Rattle.message.proofs.Laws.{decided}
use Rattle.message.proofs.examine.Goals as goal

pub returns : goal.returns
returns c =
    let m = c.args.message.now in
    let e = c.examine_in_turn.ensures in
    record { answer = e; lawful = decided m.bytes c.examine_in_turn.result (record { long = m.long; small = m.small }) e }
