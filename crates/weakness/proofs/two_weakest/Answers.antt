use Rattle.std.proofs.Common.{◌≡◌, ℕ, ◌<◌, get_or, sym, ap, ◌∙◌, subst}
use lib.Ieee.{Float, nan}
use Rattle.std.specs.Option.{option_map}
use Rattle.decoders.specs.declared.fault.AskFault.TheVariants.{Levels}
use Rattle.levels.proofs.Faults.{legal_levels}
use Rattle.weakness.specs.Weakness.{weakness, Size}
use Rattle.weakness.proofs.Sizes.{weakest_is, weakest_same, weakness_least, weakness_sizes}
use Rattle.weakness.proofs.two_weakest.Goals as goal

pub two_least-requires : goal.two_least-requires
two_least-requires c =
    let xs = c.args.levels.now in
    let passed = c.in_ok-levels.ensures in
    let legal = legal_levels 972 xs passed.1 in
    λ k h. subst Size (sym (c.weaknesses.ensures k h ∙ ap (λ ls. weakness ls k) passed.0)) (weakness_sizes xs legal k h)

pub returns : goal.returns
returns c =
    let xs = c.args.levels.now in
    let passed = c.in_ok-levels.ensures in
    let legal = legal_levels 972 xs passed.1 in
    let w : ℕ → Float = λ k. get_or c.weaknesses.result k nan in
    let same : (k : ℕ) → k < 162 → w k ≡ weakness xs k = λ k h. c.weaknesses.ensures k h ∙ ap (λ ls. weakness ls k) passed.0 in
    let pair = weakest_same w (weakness xs) same c.two_least.result c.two_least.ensures in
    record {
      places = (weakest_is xs legal c.two_least.result pair, ap (option_map Levels) passed.1);
      weakest = pair;
      least = weakness_least xs legal;
    }
