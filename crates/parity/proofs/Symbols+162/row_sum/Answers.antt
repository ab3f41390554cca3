use Rattle.std.proofs.Common.{[], sym, ap, ◌∙◌}
use Rattle.std.proofs.lemmas.List.Elements.{Contains-get_or}
use Rattle.parity.specs.Code.{weighted, sym_at}
use Rattle.parity.specs.Table.{rows, places_in, factors_in}
use Rattle.parity.proofs.Rows.{row_got, row_missing, row_sum_is}
use Rattle.parity.proofs.Symbols+162.row_sum.Goals as goal

pub sum-requires : goal.sum-requires
sum-requires c =
    let h = row_got _ _ c.get.result c.in-Some.row c.rows.ensures c.get.ensures.lookup c.in-Some.is in
    rw h.1 at (Contains-get_or rows _ [] h.0)

pub returns-in-Some-clause-same : goal.returns-in-Some-clause-same
returns-in-Some-clause-same c =
    let w = c.args.self.now.bytes in
    let h = row_got c.rows.result.now c.args.row c.get.result c.in-Some.row c.rows.ensures c.get.ensures.lookup c.in-Some.is in
    c.sum.ensures.same ∙ sym (row_sum_is c.args.row w ∙ ap (λ row. weighted (places_in row) (factors_in row) (sym_at w)) h.1)

pub returns-in-None-clause-same : goal.returns-in-None-clause-same
unfolding weighted
returns-in-None-clause-same c =
    let w = c.args.self.now.bytes in
    let h = row_missing c.rows.result.now c.args.row c.get.result c.rows.ensures c.get.ensures.lookup c.in-None.is in
    sym (row_sum_is c.args.row w ∙ ap (λ row. weighted (places_in row) (factors_in row) (sym_at w)) h)
