use Rattle.std.proofs.Common.{◌∙◌, arith}
use Rattle.std.proofs.lemmas.List.{length-set}
use Rattle.gf64.proofs.Laws.{xor_small}
use Rattle.parity.proofs.Small.{set_small}
use Rattle.parity.proofs.Symbols.alter.Goals as goal

pub invariant_of-self : goal.invariant_of-self
invariant_of-self g c =
    let w = c.args.self.now in
    let p = c.args.place in
    record { long = length-set w.bytes p _ ∙ w.long; small = set_small w.bytes p _ w.small (xor_small _ _ (w.small p) (omega arith)) }
