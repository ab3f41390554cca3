use Rattle.std.proofs.Common.{◌≡◌, ◌-◌, ◌<◌, get_or}
use lib.Ieee.{nan}
use Rattle.weakness.specs.Weakness.{weakest_below}
use Rattle.weakness.proofs.two_least.Given as goal

abbrev pub invariant-loop-place : goal.invariant-loop-place
invariant-loop-place l = (l.two ≡ weakest_below (λ k. get_or l.weak k nan) (l.place - 2)) × (l.two.0 < 162) × (l.two.1 < 162)
