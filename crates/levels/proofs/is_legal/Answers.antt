use Rattle.std.proofs.Common.{◌≡◌, false, pos, ap, ◌∙◌}
use lib.Ieee.{fin, le, of_bits}
use Rattle.std.proofs.lemmas.Bool.Decides.{Decides-at}
use Rattle.levels.specs.Levels.{legal}
use Rattle.levels.proofs.Means.{legal_size, legal_within}
use Rattle.levels.proofs.is_legal.Goals as goal

pub returns : goal.returns
unfolding of_bits
returns c =
    let x = c.args.level in
    let e : le c.abs.result (fin false 1 (pos 2)) ≡ legal x =
    ap (λ y. le y (fin false 1 (pos 2))) c.abs.ensures.value ∙ legal_size x in
    record { value = e; within = Decides-at _ (legal x) e (legal_within x) }
