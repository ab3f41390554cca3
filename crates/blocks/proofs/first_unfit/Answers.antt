use Rattle.std.proofs.Common.{true, false, get_or, ap, ◌∙◌, arith, w64}
use Rattle.std.proofs.lemmas.Int.{to_z-of_z}
use Rattle.layout.specs.Ranges.{outside}
use Rattle.blocks.proofs.Packed.{unfit_step, unfit_end, at_place}
use Rattle.blocks.proofs.Placing.{no_field, turn}
use Rattle.blocks.proofs.first_unfit.Goals as goal

pub returns-then-is_outside : goal.returns-then-is_outside
returns-then-is_outside g c =
    let b = g.K.Block in
    let zs = b.counts c.args.of.now in
    let fs = c.fields-all.result.now in
    let i = c.loop-i.i in
    let t = turn b.PLACE c.PLACE-place.result b.size g.met.K.Block.stands c.PLACE-place.ensures fs c.fields-all.ensures
    i c.loop-i.at (omega arith) c.loop-i.invariant.0 in
    let z = to_z-of_z w64 c.count.result (record { sfits = c.count.type_inv }) ∙ c.count.ensures in
    unfit_step fs zs i c.loop-i.at true (omega arith) (omega (arith, g.met.K.Block.counted c.args.of.now, t.long))
    (c.if-is_outside.ensures ∙ ap (outside (get_or fs i no_field)) z)
    ∙ c.loop-i.invariant.1 ∙ at_place b.PLACE c.PLACE-place.result fs zs c.PLACE-place.ensures c.fields-all.ensures

pub overflow_add-at : goal.overflow_add-at
overflow_add-at g c =
    let t = turn g.K.Block.PLACE c.PLACE-place.result g.K.Block.size g.met.K.Block.stands c.PLACE-place.ensures
    c.fields-all.result.now c.fields-all.ensures c.loop-i.i c.loop-i.at (omega arith) c.loop-i.invariant.0 in
    record { fits = omega (arith, t.inside) }

pub loop-i-preserved : goal.loop-i-preserved
loop-i-preserved g c =
    let b = g.K.Block in
    let fs = c.fields-all.result.now in
    let i = c.loop-i.i in
    let t = turn b.PLACE c.PLACE-place.result b.size g.met.K.Block.stands c.PLACE-place.ensures fs c.fields-all.ensures
    i c.loop-i.at (omega arith) c.loop-i.invariant.0 in
    let z = to_z-of_z w64 c.count.result (record { sfits = c.count.type_inv }) ∙ c.count.ensures in (
      t.next,
      unfit_step fs (b.counts c.args.of.now) i c.loop-i.at false (omega arith)
          (omega (arith, g.met.K.Block.counted c.args.of.now, t.long))
          (c.if-is_outside.ensures ∙ ap (outside (get_or fs i no_field)) z)
          ∙ c.loop-i.invariant.1,
    )

pub returns : goal.returns
returns g c =
    let zs = g.K.Block.counts c.args.of.now in
    unfit_end c.fields-all.result.now zs c.loop-i.i c.loop-i.at (omega arith) ∙ c.loop-i.invariant.1
    ∙ at_place g.K.Block.PLACE c.PLACE-place.result c.fields-all.result.now zs c.PLACE-place.ensures c.fields-all.ensures
