-- Why a word is not scored, and number, layer and place of every fault.
use Rattle.std.specs.Prelude.{ℕ, cond, List, length, Some, None, Option, ◌==◌, Float}
use Rattle.std.specs.Option.{option_map}
use Rattle.refusal.specs.declared.Layer.TheVariants.{Decoder}
use Rattle.refusal.specs.declared.Refusal.{Refusal}
use Rattle.parity.specs.Bytes.{symbol_fault}
use Rattle.parity.specs.Refused.{symbol_refusal}
use Rattle.parity.specs.declared.SymbolFault.{SymbolFault}
use Rattle.parity.specs.declared.SymbolFault.TheVariants.{Length}
use Rattle.levels.specs.Faults.{level_fault}
use Rattle.levels.specs.Refused.{level_refusal}
use Rattle.levels.specs.declared.fault.LevelFault.{LevelFault}
use Rattle.scores.specs.declared.fault.ScoreFault.{ScoreFault}
use Rattle.scores.specs.declared.fault.ScoreFault.TheVariants.{Levels, Symbols}

abbrev pub in_turn : Option LevelFault → Option SymbolFault → Option ScoreFault
in_turn (Some e) o = Some (Levels e)
in_turn None o = option_map Symbols o

-- both lengths first, then the first illegal level, then the first byte above 63
abbrev pub score_fault : List Float → List ℕ → Option ScoreFault
score_fault xs w = cond (length w == 162) (in_turn (level_fault 972 xs) (symbol_fault 162 w)) (Some (Symbols Length))

abbrev pub score_refusal : ScoreFault → Refusal
score_refusal (Levels e) = level_refusal Decoder e
score_refusal (Symbols e) = symbol_refusal Decoder e
