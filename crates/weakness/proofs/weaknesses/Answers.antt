use Rattle.std.proofs.Common.{◌≡◌, ◌/◌, [], length, get_or, ap, ◌∙◌, arith, rules, lit<}
use lib.Ieee.{nan}
use Rattle.std.proofs.iter.Serving.{serving}
use Rattle.std.proofs.lemmas.List.{get_or-map}
use Rattle.levels.proofs.Chunks.{made_map}
use Rattle.weakness.specs.Weakness.{weakness}
use Rattle.weakness.proofs.Sizes.{weakness_in}
use Rattle.weakness.proofs.weaknesses.Goals as goal

pub from_fn-requires : goal.from_fn-requires
from_fn-requires c =
    let long : length c.as_chunks.result.0.now ≡ 162 = omega arith in
    (lit< tt, grind (arith, serving))

pub returns : goal.returns
returns c =
    let sixes = c.as_chunks.result.0.now in
    let made = made_map (λ s. weakness s 0) sixes [] nan _ _ (λ i y q k. (search rules, search rules)) c.from_fn.result 162 (omega arith) c.from_fn.ensures.items in
    λ k h.
    ap (λ ws. get_or ws k nan) made
    ∙ get_or-map (λ s. weakness s 0) sixes k [] nan (omega arith)
    ∙ ap (λ cs. weakness (get_or cs k []) 0) c.as_chunks.ensures.front
    ∙ weakness_in c.args.levels.now (length c.args.levels.now / 6) k (omega arith)
