use Rattle.std.proofs.Common.{◌≡◌, ◌+◌, ◌*◌, None}
use Rattle.correction.specs.Single.{Unfound}
use Rattle.correction.proofs.single.search.Given as goal

abbrev pub invariant-search : goal.invariant-search
invariant-search l =
    (l.candidate.bytes ≡ l.word.bytes) × (l.trials ≡ 63 * l.place) × Unfound l.word.bytes (l.trials + 1) × (l.found ≡ None)

abbrev pub invariant-loop-change : goal.invariant-loop-change
invariant-loop-change l =
    (l.candidate.bytes ≡ l.word.bytes) × (l.trials + 1 ≡ 63 * l.place + l.change) × Unfound l.word.bytes (l.trials + 1) × (l.found ≡ None)
