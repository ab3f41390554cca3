use Rattle.std.proofs.Common.{ℕ, ◌<◌, length, sym, ap, ◌∙◌, add-one, arith, lit<}
use Rattle.std.proofs.lemmas.List.Elements.{Contains-get_or}
use Rattle.parity.specs.Code.{sym_at}
use Rattle.parity.specs.Ring.{next, ring, run}
use Rattle.parity.proofs.Ring.{length_ring, run_suc, run_zero}
use Rattle.parity.proofs.encoder.once_round.Goals as goal

pub loop-turn-init : goal.loop-turn-init
loop-turn-init c = (lit< tt, sym (run_zero (sym_at c.args.word.now.bytes) 0))

pub next-requires : goal.next-requires
next-requires c =
    let h : c.loop-turn.turn-index < length ring = omega (arith, length_ring) in
    record { in_ring = rw c.ring-turn-items.ensures (Contains-get_or ring c.loop-turn.turn-index (0, 0) h); bound = c.loop-turn.invariant.0 }

pub loop-turn-preserved : goal.loop-turn-preserved
loop-turn-preserved c =
    let w : ℕ → ℕ = sym_at c.args.word.now.bytes in
    let k : ℕ = c.loop-turn.turn-index in
    let e = rw c.ring-turn-items.ensures at c.next.ensures.symbol in
    (c.next.ensures.below.1, e ∙ ap (next k w) c.loop-turn.invariant.1 ∙ sym (run_suc w 0 k) ∙ ap (run w 0) (sym (add-one k)))
