use Rattle.std.proofs.Common.{◌≡◌, ◌+◌, ◌≤◌, length, None, Ok, sym, ap, ◌∙◌, arith}
use Rattle.bits.specs.Bits.{bits_of}
use Rattle.layout.specs.Layout.{width_of}
use Rattle.layout.specs.Ranges.{first_outside}
use Rattle.blocks.specs.Held.{held_in, placed_of}
use Rattle.blocks.specs.declared.place.Place.{Place}
use Rattle.blocks.proofs.Placing.{room}
use Rattle.blocks.proofs.Reading.{ranged}
use Rattle.blocks.proofs.read_in_turn.Goals as goal

pub returns : goal.returns
returns g c =
    let new = c.in_ok-message.ensures in
    let b = g.K.Block in
    let p = b.PLACE in
    let w = c.in_ok-message.message.bytes in
    let fits : c.PLACE-place.result.first_bit + width_of c.PLACE-place.result.part ≤ 486 =
    omega (arith, (room p b.size g.met.K.Block.stands).1, ap (λ (q : Place). q.first_bit + width_of q.part) c.PLACE-place.ensures) in
    let r = c.get_counts.result in
    let got : b.counts r ≡ held_in p c.args.bytes.now = c.get_counts.ensures ∙ ap (held_in p) (c.bytes-2.ensures ∙ new.0) in
    record {
      held = (got, ap length (sym new.0) ∙ c.in_ok-message.message.long);
      answer = ap Ok (sym (g.met.K.Block.back r) ∙ ap b.made got)
          ∙ ranged p c.PLACE-place.result b.made c.args.bytes.now w None
          c.PLACE-place.ensures new.0 new.1 (sym c.if-not-is_of.false ∙ c.is_of.ensures)
          (c.in_default.ensures.same fits ∙ ap (λ l. first_outside (placed_of c.PLACE-place.result) (bits_of l)) c.bytes.ensures);
    }
