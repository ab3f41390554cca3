use Rattle.std.proofs.Common.{◌≡◌, ℕ, List, [], get_or, None, Option, not, eqb, sym, ap, ◌∙◌, rules, tests}
use Rattle.std.proofs.Math.Bool.{not-not}
use Rattle.std.proofs.lemmas.Iterator.{YieldsList-from_slice}
use Rattle.std.proofs.lemmas.Iterator.Search.{position_from_yields_List}
use Rattle.parity.specs.Bytes.{first, first_nonzero, is_zero_sum}
use Rattle.parity.specs.Code.{Codeword, SymbolList, weighted, sym_at}
use Rattle.parity.specs.Table.{rows, places_in, factors_in, bcnav3}
use Rattle.parity.proofs.Codewords.{none_codeword, of_codeword}
use Rattle.parity.proofs.Distance.{altered}
use Rattle.parity.proofs.Firsts.{first_position}
use Rattle.parity.proofs.Rows.{length_rows, row_sum_is}
use Rattle.parity.proofs.Sound.{sound}
use Rattle.parity.proofs.Symbols+162.first_nonzero_sum.Goals as goal

none_just : (w : List ℕ) (r : Option ℕ) → SymbolList 162 w → r ≡ first_nonzero w → (r ≡ None → Codeword bcnav3 w) × (Codeword bcnav3 w → r ≡ None)
none_just w r s e = (λ t. none_codeword w s (sym e ∙ t), λ c. e ∙ (of_codeword w c).1)

pub returns : goal.returns
returns c =
    let w = c.args.self.now in
    let sum : List (ℕ × ℕ) → ℕ = λ row. weighted (places_in row) (factors_in row) (sym_at w.bytes) in
    let e =
    position_from_yields_List (λ row. not (eqb (sum row) 0)) _ _ c.position.result c.position.ensures.ran (YieldsList-from_slice rows cc) (λ x b q k. search (rules, tests))
    ∙ first_position (λ row. not (eqb (sum row) 0)) (is_zero_sum w.bytes) rows [] (λ r h. ap (λ s. eqb s 0) (row_sum_is r w.bytes) ∙ sym (not-not (eqb (sum (get_or rows r [])) 0)))
    ∙ ap (λ n. first n (is_zero_sum w.bytes)) length_rows in
    record { row = e; none = none_just w.bytes _ (record { long = w.long; small = w.small }) e; sound = sound; altered = altered }
