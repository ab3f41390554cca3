use Rattle.std.proofs.Common.{refl, lit<}
use Rattle.std.proofs.lemmas.Bool.Decides.{Decides-at, Decides-ltb}
use Rattle.scores.proofs.Order.{lt_values}
use Rattle.scores.proofs.is_nearer.Goals as goal

pub returns : goal.returns
returns c =
    record {
      value = refl;
      whole = λ m n v w. Decides-at _ _ (lt_values _ _ m n 64 (lit< tt) v w) (Decides-ltb m n);
    }
