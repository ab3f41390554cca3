use Rattle.std.proofs.Common.{◌≡◌, ℕ, ◌+◌, ◌<◌, ◌≢◌, List, length, get_or, take, pos, sym, ap, ◌∙◌, arith, w64, below_more}
use Rattle.std.proofs.lemmas.List.{ext_get_or, get_or-set_same, get_or-set_other}
use Rattle.std.proofs.lemmas.Int.{to_z-of_z}
use Rattle.bits.specs.Bits.{bits_of}
use Rattle.layout.specs.Layout.{fields_of, widths}
use Rattle.layout.specs.Placed.{at}
use Rattle.layout.specs.Ranges.{held}
use Rattle.layout.specs.declared.Field.{Field}
use Rattle.blocks.specs.Held.{held_in}
use Rattle.blocks.specs.declared.place.Place.{Place}
use Rattle.blocks.proofs.Placing.{no_field, length_held, held_at, turn}
use Rattle.blocks.proofs.get_counts.Goals as goal

pub overflow_add-at : goal.overflow_add-at
overflow_add-at g c =
    let t = turn g.K.Block.PLACE c.PLACE-place.result g.K.Block.size g.met.K.Block.stands c.PLACE-place.ensures
    c.fields-all.result.now c.fields-all.ensures c.loop-i.i c.loop-i.at (omega arith) c.loop-i.invariant.0 in
    record { fits = omega (arith, t.inside) }

pub loop-i-preserved : goal.loop-i-preserved
loop-i-preserved g c =
    let b = g.K.Block in
    let fs = c.fields-all.result.now in
    let i = c.loop-i.i in
    let t = turn b.PLACE c.PLACE-place.result b.size g.met.K.Block.stands c.PLACE-place.ensures fs c.fields-all.ensures
    i c.loop-i.at (omega arith) c.loop-i.invariant.0 in
    let z = to_z-of_z w64 c.count_at.result (record { sfits = c.count_at.type_inv }) ∙ c.count_at.ensures.same t.sized (omega (arith, t.inside)) in
    let old = b.counts c.loop-i.found in
    let long : i < length old = omega (arith, g.met.K.Block.counted c.loop-i.found, t.long) in
    let e = c.set_count.ensures in (
      t.next,
      below_more _ _
          (λ k h. let other : k ≢ i = omega arith in
          ap (λ l. get_or l k (pos 0)) e ∙ get_or-set_other old i k _ (pos 0) other ∙ c.loop-i.invariant.1 k h)
          (ap (λ l. get_or l i (pos 0)) e ∙ get_or-set_same old i _ (pos 0) long ∙ z
          ∙ ap (λ n. held (at n (get_or fs i no_field)) (bits_of c.args.symbols.now)) c.loop-i.invariant.0),
    )

pub returns : goal.returns
returns g c =
    let b = g.K.Block in
    let p = b.PLACE in
    let m = c.args.symbols.now in
    let fs = c.fields-all.result.now in
    let first : c.PLACE-place.result.first_bit ≡ p.first_bit = ap (λ (q : Place). q.first_bit) c.PLACE-place.ensures in
    let same : fs ≡ fields_of p.part = c.fields-all.ensures ∙ ap (λ (q : Place). fields_of q.part) c.PLACE-place.ensures in
    let n = g.met.K.Block.counted c.loop-i.found in
    let size = g.met.K.Block.stands.fields in
    ext_get_or (pos 0) (b.counts c.loop-i.found) (held_in p m) (n ∙ sym size ∙ sym (length_held p m))
    (λ k h. let l : k < length (fields_of p.part) = omega (arith, n, size) in
    c.loop-i.invariant.1 k (omega (arith, ap length same))
    ∙ ap (λ (x : ℕ). held (at (x + widths (take k fs)) (get_or fs k no_field)) (bits_of m)) first
    ∙ ap (λ (l : List Field). held (at (p.first_bit + widths (take k l)) (get_or l k no_field)) (bits_of m)) same
    ∙ sym (held_at p m k l))
