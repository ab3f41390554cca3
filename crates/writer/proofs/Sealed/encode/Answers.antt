use Rattle.std.proofs.Common.{take}
use Rattle.message.proofs.Promises.{carries_checked, checked_encoded}
use Rattle.writer.proofs.Sealed.encode.Goals as goal

pub returns-clause-checked : goal.returns-clause-checked
returns-clause-checked c = checked_encoded _ _ c.put_checks.ensures.encodes

pub returns-clause-accepted : goal.returns-clause-accepted
returns-clause-accepted c l =
    carries_checked _ (record { message = take 81 c.args.self.row.buf.now; lawful = l; encodes = c.put_checks.ensures.encodes })
