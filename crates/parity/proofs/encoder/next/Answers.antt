use Rattle.std.proofs.Common.{◌≡◌, ℕ, ◌<◌, ◌-◌, ◌∙◌, ap₂, arith, lit<}
use mathlib.Core.Path.{subst⁻¹}
use lib.Bits.{bit_xor}
use Rattle.gf64.specs.Field.{mul}
use Rattle.gf64.proofs.Laws.{xor_small}
use Rattle.parity.specs.Code.{sym_at}
use Rattle.parity.specs.Ring.{message_sum, turned}
use Rattle.parity.proofs.Ring.{message_sum_lt, turning}
use Rattle.parity.proofs.Rows.{factor_lt, place_lt}
use Rattle.parity.proofs.encoder.next.Goals as goal

pub term-requires : goal.term-requires
term-requires c =
    let t = turning c.args.turn.now c.requires.in_ring in
    rw c.rows.ensures (place_lt c.args.turn.now.0 0 t.row (lit< tt), factor_lt c.args.turn.now.0 0 t.row (lit< tt))

pub term-requires-2 : goal.term-requires-2
term-requires-2 c =
    let t = turning c.args.turn.now c.requires.in_ring in
    rw c.rows.ensures (place_lt c.args.turn.now.0 1 t.row (lit< tt), factor_lt c.args.turn.now.0 1 t.row (lit< tt))

pub returns-clause-symbol : goal.returns-clause-symbol
unfolding turned message_sum
returns-clause-symbol c =
    let word = c.args.word.now in
    let w : ℕ → ℕ = sym_at word.bytes in
    let p = c.args.turn.now in
    let t = turning p c.requires.in_ring in
    let m : ℕ = bit_xor c.term.result c.term-2.result in
    let here : m ≡ message_sum p.0 w = ap₂ bit_xor (rw c.rows.ensures at c.term.ensures) (rw c.rows.ensures at c.term-2.ensures) in
    let low : m < 64 = subst⁻¹ (λ (x : ℕ). x < 64) here (message_sum_lt w word.small p.0 t.row) in
    let before = rw c.rows.ensures at c.product.ensures.same in
    let back = rw c.rows.ensures at c.inverse.ensures.same in
    c.product-2.ensures.same c.inverse.ensures.below (xor_small m c.product.result low c.product.ensures.below)
    ∙ ap₂ mul (back (factor_lt p.0 (5 - p.1) t.row (omega arith))) (ap₂ bit_xor here (before (factor_lt p.0 p.1 t.row (omega arith)) c.requires.bound))

pub returns-clause-below : goal.returns-clause-below
returns-clause-below c =
    let p = c.args.turn.now in
    let t = turning p c.requires.in_ring in
    (rw c.rows.ensures (place_lt p.0 (5 - p.1) t.row (omega arith)), c.product-2.ensures.below)

pub bounds-rows-row : goal.bounds-rows-row
bounds-rows-row c = (turning c.args.turn.now c.requires.in_ring).row

pub bounds-row-from : goal.bounds-row-from
bounds-row-from c = let t = turning c.args.turn.now c.requires.in_ring in omega arith

pub overflow_sub-place : goal.overflow_sub-place
overflow_sub-place c = let t = turning c.args.turn.now c.requires.in_ring in omega arith

pub bounds-row-from-2 : goal.bounds-row-from-2
bounds-row-from-2 c = let t = turning c.args.turn.now c.requires.in_ring in omega arith

pub bounds-row-from-3 : goal.bounds-row-from-3
bounds-row-from-3 c = let t = turning c.args.turn.now c.requires.in_ring in omega arith
