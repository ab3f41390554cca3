-- The rule of the single-error decoder.
use Rattle.std.specs.Prelude.{Bool, Result}
use Rattle.correction.specs.Single.{corrected}
use Rattle.decoders.specs.Asks.{Rule}
use Rattle.decoders.specs.declared.fault.AskFault.{AskFault}
use Rattle.levels.specs.Hard.{hard}
use Rattle.std.specs.Result.{result_map_both}
use Rattle.single_error.specs.declared.Trial.{Trial}

-- the hard decision with at most one symbol put right
abbrev pub single_error_rule : Rule
single_error_rule xs = corrected (hard xs)

-- an answer without its trial number
abbrev pub found_in : Result Trial AskFault → Result Bool AskFault
found_in r = result_map_both (λ t. t.found) (λ e. e) r
