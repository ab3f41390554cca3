use Rattle.std.proofs.Common.{◌≡◌, ℕ, ◌-◌, get_or, sym, ap, ◌∙◌, arith}
use mathlib.Core.Path.{subst⁻¹}
use lib.Ieee.{Float, lt, nan}
use Rattle.std.proofs.lemmas.Bool.{cond-true, cond-false}
use Rattle.weakness.specs.Weakness.{lower_first, weakest_below, with_place}
use Rattle.weakness.proofs.Order.{scan_none, scan_more, scan_weakest, WeakestPair}
use Rattle.weakness.proofs.two_least.Goals as goal
use Rattle.weakness.proofs.two_least.Goals.{then-weak, else-weak}

pub loop-place-init : goal.loop-place-init
loop-place-init c =
    let w : ℕ → Float = λ k. get_or c.args.weak.now k nan in
    elim c.if-weak.branch [
      | then-weak v ↦ (
        v.two-is ∙ sym (cond-true (lt (w 1) (w 0)) (1, 0) (0, 1) v.if-weak.true) ∙ scan_none w,
        omega (arith, ap (λ p. p.0) v.two-is),
        omega (arith, ap (λ p. p.1) v.two-is),
      )
      | else-weak v ↦ (
        v.two-is ∙ sym (cond-false (lt (w 1) (w 0)) (1, 0) (0, 1) v.if-weak.false) ∙ scan_none w,
        omega (arith, ap (λ p. p.0) v.two-is),
        omega (arith, ap (λ p. p.1) v.two-is),
      )
    ]

pub loop-place-preserved : goal.loop-place-preserved
loop-place-preserved c =
    let w : ℕ → Float = λ k. get_or c.args.weak.now k nan in
    let k = c.loop-place.place in (
      c.with_place-two.ensures.same ∙ ap (with_place w k) c.loop-place.invariant.0 ∙ scan_more w k (omega arith),
      c.with_place-two.ensures.inside.0,
      c.with_place-two.ensures.inside.1,
    )

pub returns : goal.returns
returns c =
    let w : ℕ → Float = λ k. get_or c.args.weak.now k nan in
    let all : c.loop-place.place ≡ 162 = omega arith in
    let is = c.lower_first.ensures ∙ ap lower_first (c.loop-place.invariant.0 ∙ ap (λ k. weakest_below w (k - 2)) all) in
    subst⁻¹ (WeakestPair w) is (scan_weakest w c.requires)
