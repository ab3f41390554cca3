use Rattle.std.proofs.Common.{true, take, Ok, sym, refl, ap, ◌∙◌, arith}
use Rattle.std.proofs.lemmas.Bool.{both_ways}
use Rattle.blocks.proofs.Written.{answered, symbols_stay, message_over, read_back}
use Rattle.blocks.proofs.write.Goals as goal

pub returns : goal.returns
returns g c =
    let b = g.K.Block in
    let of = c.args.of.now in
    let ss = c.args.symbols.now in
    let ts = c.put_counts.new.symbols in
    let bits = c.put_counts.ensures.bits in
    let small = c.put_counts.ensures.small in
    let fit = c.in_default.ensures in
    record {
      answer = answered b.PLACE (b.counts of) _ (omega arith) fit;
      written = λ _. bits;
      kept = λ t. absurd (both_ways true t refl);
      small = small;
      back =
          λ _ s f.
          let counted = g.met.K.Block.counted of in
          let over = message_over b.PLACE b.size g.met.K.Block.stands (b.counts of) ss ts counted (omega arith) bits in
          read_back b.PLACE b.size g.met.K.Block.stands (b.counts of) (take 81 ss) (take 81 ts) counted s.long over (sym fit)
          b.made (symbols_stay ss ts (omega arith) small s) f
          ∙ ap Ok (g.met.K.Block.back of);
    }
