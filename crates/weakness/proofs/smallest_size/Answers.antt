use Rattle.std.proofs.Common.{◌≡◌, false, [], ◌∷◌, fold, sym, ap, ◌∙◌, rules}
use lib.Ieee.{Float}
use Rattle.std.proofs.lemmas.Fn.{fold_over, fronts, slice_gives}
use Rattle.std.proofs.lemmas.List.Sums.{fold-append}
use Rattle.std.specs.Float.{float_min, float_with_sign}
use Rattle.weakness.specs.Weakness.{size}
use Rattle.weakness.proofs.Sizes.{six_fold}
use Rattle.weakness.proofs.smallest_size.Goals as goal

pub returns : goal.returns
returns c =
    let s = c.iter.result in
    let h : Float → Float → Float = λ a x. float_min a (float_with_sign false x) in
    let first = size c.args.six.now 0 in
    let all : c.fold.result ≡ fold h first s.rest.now =
    fold_over fronts (λ y. y.now) _ (λ ys a. a ≡ fold h first ys) _
    (λ ys a x b f' j k. let e : b ≡ h a x.now = search rules in (e ∙ ap (λ a. h a x.now) j ∙ sym (fold-append h first ys (x.now ∷ [])), search rules))
    s s.rest.now _ _ (slice_gives s) c.abs.ensures.value c.fold.ensures.ran in
    all ∙ ap (fold h first) c.iter.ensures.rest ∙ six_fold c.args.six.now c.told-six
