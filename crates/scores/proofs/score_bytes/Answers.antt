use Rattle.scores.proofs.Eighths.{every_eighth}
use Rattle.scores.proofs.Exact.{exact_from_cases}
use Rattle.scores.proofs.score_bytes.Goals as goal

pub returns : goal.returns
returns c =
    let answer = c.score_in_turn.ensures in
    record { answer = answer; exact = exact_from_cases _ _ _ answer; eighths = every_eighth }
