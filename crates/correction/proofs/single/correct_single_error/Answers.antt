use Rattle.parity.specs.Code.{SymbolList}
use Rattle.correction.specs.Search.{bytes_of}
use Rattle.correction.specs.Single.{Near, corrected}
use Rattle.parity.specs.Table.{bcnav3}
use Rattle.correction.proofs.Found.{only_same}
use Rattle.correction.proofs.Trials.{corrected_only, one_near, stops_only}
use Rattle.correction.proofs.single.correct_single_error.Goals as goal

pub returns-clause-answer : goal.returns-clause-answer
returns-clause-answer c =
    let word = c.args.word.now in
    let w = word.bytes in
    let s : SymbolList 162 w = record { long = word.long; small = word.small } in
    let o = bytes_of c.search.result.word in
    only_same (Near bcnav3 w) o (corrected w) (stops_only w s c.search.result.trials o c.search.ensures) (corrected_only w s)

pub returns-clause-only : goal.returns-clause-only
returns-clause-only c =
    let word = c.args.word.now in
    stops_only word.bytes (record { long = word.long; small = word.small }) c.search.result.trials (bytes_of c.search.result.word) c.search.ensures

pub returns-clause-one : goal.returns-clause-one
returns-clause-one c = one_near
