use Rattle.std.proofs.Common.{◌≡◌, ℕ, ◌+◌, None, List, get_or, drop, ap, ◌∙◌, arith}
use Rattle.std.proofs.lemmas.List.Sums.{sum_by-drop_more}
use Rattle.bits.specs.Bits.{bits_of}
use Rattle.layout.specs.declared.Part.{Part}
use Rattle.layout.specs.declared.Part.TheVariants.{Reserved}
use Rattle.layout.specs.Layout.{width_of}
use Rattle.layout.specs.Placed.{kept, spread}
use Rattle.layout.specs.Ranges.{first_outside}
use Rattle.layout.proofs.Walk.{kept_found, kept_out, part_stop, part_on, parts_end}
use Rattle.layout.proofs.first_in_parts.Goals as goal
use Rattle.layout.proofs.first_in_parts.Goals.{then-keeps+in_default, else-keeps}

pub returns-in-Some : goal.returns-in-Some
returns-in-Some g c = λ keep d.
    let ps = c.parts-part-items.result.now in let i = c.loop-part.part-index in let bs = bits_of c.args.symbols.now in
    let fit = sum_by-drop_more width_of ps i Reserved c.loop-part-test.true in
    part_stop keep ps i c.loop-part.at c.in-Some.bit bs c.loop-part-test.true
    (kept_found keep c.loop-part.at (get_or ps i Reserved) bs _ (d _ _ c.keeps.ensures) c.if-keeps.true (c.in-Some.ensures.same (omega (arith, c.loop-part.invariant.inside, fit))))
    ∙ c.loop-part.invariant.left keep d
    ∙ ap (λ (ps : List Part). first_outside (spread keep 26 ps) bs) c.parts-part-items.ensures.same

pub loop-part-preserved : goal.loop-part-preserved
loop-part-preserved g c =
    let ps = c.parts-part-items.result.now in let i = c.loop-part.part-index in
    let n = c.loop-part.at in let bs = bits_of c.args.symbols.now in
    let p = get_or ps i Reserved in
    let fit = sum_by-drop_more width_of ps i Reserved c.loop-part-test.true in
    record {
      inside = omega (arith, fit, c.width-at.ensures);
      left = λ keep d.
          let none : None ≡ first_outside (kept keep n p) bs =
          elim c.if-keeps.branch [
            | then-keeps+in_default w ↦ kept_found keep n p bs _ (d _ _ c.keeps.ensures) w.if-keeps.true (w.in_default.ensures.same (omega (arith, c.loop-part.invariant.inside, fit)))
            | else-keeps w ↦ kept_out keep n p bs _ (d _ _ c.keeps.ensures) w.if-keeps.false
          ] in
          ap (λ (w : ℕ). first_outside (spread keep (n + w) (drop (i + 1) ps)) bs) c.width-at.ensures
          ∙ part_on keep ps i n bs c.loop-part-test.true none
          ∙ c.loop-part.invariant.left keep d;
    }

pub returns : goal.returns
returns g c = λ keep d.
    let bs = bits_of c.args.symbols.now in
    parts_end keep c.parts-part-items.result.now c.loop-part.part-index c.loop-part.at bs c.loop-part-test.false
    ∙ c.loop-part.invariant.left keep d
    ∙ ap (λ (ps : List Part). first_outside (spread keep 26 ps) bs) c.parts-part-items.ensures.same
