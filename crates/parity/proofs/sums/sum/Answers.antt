use Rattle.std.proofs.Common.{ℕ, ◌<◌, sym, ◌∙◌, ap₂, lit<}
use mathlib.Core.Path.{subst⁻¹}
use lib.Bits.{bit_xor}
use Rattle.parity.specs.Code.{sym_at}
use Rattle.parity.specs.Table.{factors_in, places_in}
use Rattle.parity.proofs.Rows.{fitting, four}
use Rattle.parity.proofs.Weights.{weighted_lt}
use Rattle.parity.proofs.sums.sum.Goals as goal

pub term-requires : goal.term-requires
term-requires c = (fitting c.args.row.now c.requires).entry 0 (lit< tt)

pub term-requires-2 : goal.term-requires-2
term-requires-2 c = (fitting c.args.row.now c.requires).entry 1 (lit< tt)

pub term-requires-3 : goal.term-requires-3
term-requires-3 c = (fitting c.args.row.now c.requires).entry 2 (lit< tt)

pub term-requires-4 : goal.term-requires-4
term-requires-4 c = (fitting c.args.row.now c.requires).entry 3 (lit< tt)

pub returns : goal.returns
returns c =
    let w = c.args.word.now in
    let row = c.args.row.now in
    let f = fitting row c.requires in
    let e =
    ap₂ bit_xor (ap₂ bit_xor c.term.ensures c.term-2.ensures) (ap₂ bit_xor c.term-3.ensures c.term-4.ensures)
    ∙ sym (four row (sym_at w.bytes) f.long) in
    record { same = e; below = subst⁻¹ (λ (x : ℕ). x < 64) e (weighted_lt (places_in row) (factors_in row) (sym_at w.bytes) w.small f.nonzero) }
