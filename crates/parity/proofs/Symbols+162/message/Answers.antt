use Rattle.std.proofs.Common.{ℕ, List}
use mathlib.Core.Path.{subst⁻¹}
use Rattle.parity.specs.Code.{SymbolList}
use Rattle.parity.proofs.Codewords.{take_symbols}
use Rattle.parity.proofs.Symbols+162.message.Goals as goal

pub invariant_of-result : goal.invariant_of-result
invariant_of-result c =
    let w = c.args.self.now in
    let first = rw c.unwrap.ensures at c.first_chunk.ensures.cases in
    let s = subst⁻¹ (λ (l : List ℕ). SymbolList 81 l) first.same (take_symbols w.bytes (record { long = w.long; small = w.small })) in
    record { long = s.long; small = s.small }
