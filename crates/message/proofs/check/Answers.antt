use Rattle.std.proofs.Common.{sym}
use Rattle.message.proofs.Promises.{decided, altered_refused}
use Rattle.message.proofs.check.Goals as goal

pub returns : goal.returns
returns c =
    let w = c.args.bytes.now in
    let r = c.check_in_turn.result in
    let e = c.check_in_turn.ensures in
    record { answer = e; carries = decided w r e; only = λ m n. sym n.begins; altered = altered_refused w r e }
