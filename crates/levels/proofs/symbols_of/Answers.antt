use Rattle.std.proofs.Common.{◌≡◌, ◌/◌, [], length, arith, rules, lit<}
use mathlib.Core.Path.{subst⁻¹}
use Rattle.std.proofs.iter.Serving.{serving}
use Rattle.parity.specs.Code.{SymbolList}
use Rattle.levels.proofs.Hard.{hard_sixes, hard_symbols}
use Rattle.levels.proofs.Chunks.{made_map}
use Rattle.levels.specs.Hard.{hard, symbol_at}
use Rattle.levels.proofs.symbols_of.Goals as goal

pub from_fn-requires : goal.from_fn-requires
from_fn-requires c =
    let long : length c.as_chunks.result.0.now ≡ 162 = omega arith in
    (lit< tt, grind (arith, serving))

pub returns : goal.returns
returns c =
    let sixes = c.as_chunks.result.0.now in
    let levels = c.args.levels.now in
    let made = made_map (λ s. symbol_at s 0) sixes [] 0 _ _ (λ i y q k. (search rules, search rules)) c.from_fn.result 162 (omega arith) c.from_fn.ensures.items in
    let front = c.as_chunks.ensures.front in
    let count : length levels / 6 ≡ 162 = omega arith in
    let all = hard_sixes 162 levels (omega arith) in
    let same : c.from_fn.result ≡ hard levels = cc in
    record { same = same; symbols = subst⁻¹ (SymbolList 162) same (hard_symbols 162 levels (omega arith)) }
