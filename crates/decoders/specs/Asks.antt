-- What a decoder means, what it answers, and what it leaves in the buffer.
use Rattle.std.specs.Prelude.{ℕ, Bool, cond, List, is_some, Some, None, Ok, Err, Option, Result, ◌==◌, Float}
use Rattle.std.specs.Option.{option_map}
use Rattle.levels.specs.Faults.{level_fault}
use Rattle.decoders.specs.declared.fault.AskFault.{AskFault}
use Rattle.decoders.specs.declared.fault.AskFault.TheVariants.{Buffer, Levels}

-- for each list of levels bytes, or nothing; of levels that are not 972 legal ones a rule says nothing that counts
abbrev pub Rule : Type 0
Rule = List Float → Option (List ℕ)

-- levels, and the length of the buffer, which is looked at first
abbrev pub ask_fault : List Float → ℕ → Option AskFault
ask_fault xs n = cond (n == 162) (option_map Levels (level_fault 972 xs)) (Some Buffer)

-- the answer, from the fault and from what the rule gives
abbrev pub answered : Option AskFault → Option (List ℕ) → Result Bool AskFault
answered None o = Ok (is_some o)
answered (Some e) o = Err e

-- what the buffer holds afterwards, from the fault, what the rule gives, and what it held
abbrev pub left : Option AskFault → Option (List ℕ) → List ℕ → List ℕ
left None None b = b
left None (Some w) b = w
left (Some e) o b = b
