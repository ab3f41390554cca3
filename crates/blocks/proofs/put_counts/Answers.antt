use Rattle.std.proofs.Common.{◌-◌, ◌^◌, get_or, ℤ, negsuc, ◌≤ℤ◌, sym, ap, ◌∙◌, arith, w64}
use mathlib.Core.Path.{subst⁻¹}
use Rattle.std.proofs.lemmas.Int.{to_z-of_z}
use Rattle.bits.specs.Bits.{bits_of, pasted, spelled}
use Rattle.bits.proofs.Pasted.{pasted_none}
use Rattle.bits.proofs.Symbols.{length_bits}
use Rattle.blocks.specs.Write.{pack, raw_of}
use Rattle.blocks.proofs.Packed.{low_at, pack_step}
use Rattle.blocks.proofs.Placing.{no_field, turn}
use Rattle.blocks.proofs.put_counts.Goals as goal

pub loop-i-init : goal.loop-i-init
unfolding pack
loop-i-init g c = (omega arith, sym (pasted_none (bits_of c.args.symbols.now) c.PLACE-place.result.first_bit), λ k a. a)

pub raw_of-raw-requires : goal.raw_of-raw-requires
raw_of-raw-requires g c =
    let b = g.K.Block in
    let fs = c.fields-all.result.now in
    let i = c.loop-i.i in
    let t = turn b.PLACE c.PLACE-place.result b.size g.met.K.Block.stands c.PLACE-place.ensures fs c.fields-all.ensures
    i c.loop-i.at (omega arith) c.loop-i.invariant.0 in
    let z = to_z-of_z w64 c.count.result (record { sfits = c.count.type_inv }) ∙ c.count.ensures in (
      t.sized.some,
      (
        t.sized.few,
        subst⁻¹ (λ (y : ℤ). negsuc (2 ^ (get_or fs i no_field).width - 1) ≤ℤ y) z
            (low_at b.PLACE c.PLACE-place.result fs (b.counts c.args.of.now) i c.PLACE-place.ensures c.fields-all.ensures
            (g.met.K.Block.counted c.args.of.now ∙ sym t.long) (omega arith) c.requires.1),
      ),
    )

pub overflow_add-at : goal.overflow_add-at
overflow_add-at g c =
    let t = turn g.K.Block.PLACE c.PLACE-place.result g.K.Block.size g.met.K.Block.stands c.PLACE-place.ensures
    c.fields-all.result.now c.fields-all.ensures c.loop-i.i c.loop-i.at (omega arith) c.loop-i.invariant.0 in
    record { fits = omega (arith, t.inside) }

pub loop-i-preserved : goal.loop-i-preserved
loop-i-preserved g c =
    let b = g.K.Block in
    let fs = c.fields-all.result.now in
    let zs = b.counts c.args.of.now in
    let i = c.loop-i.i in
    let w = (get_or fs i no_field).width in
    let bs = bits_of c.args.symbols.now in
    let t = turn b.PLACE c.PLACE-place.result b.size g.met.K.Block.stands c.PLACE-place.ensures fs c.fields-all.ensures
    i c.loop-i.at (omega arith) c.loop-i.invariant.0 in
    let z = to_z-of_z w64 c.count.result (record { sfits = c.count.type_inv }) ∙ c.count.ensures in (
      t.next,
      c.put_bits.ensures.bits (omega (arith, c.requires.0, c.loop-i.auto.symbols)) t.sized.few (omega (arith, t.inside))
          ∙ ap (λ v. pasted (bits_of c.loop-i.symbols) c.loop-i.at (spelled w v)) (c.raw_of-raw.ensures ∙ ap (raw_of w) z)
          ∙ pack_step fs zs bs (bits_of c.loop-i.symbols) c.PLACE-place.result.first_bit c.loop-i.at i (omega arith)
          (g.met.K.Block.counted c.args.of.now ∙ sym t.long)
          (omega (arith, t.inside, c.requires.0, length_bits c.args.symbols.now)) c.loop-i.invariant.0 c.loop-i.invariant.1,
      λ k a. c.put_bits.ensures.small k (c.loop-i.invariant.2 k a),
    )
