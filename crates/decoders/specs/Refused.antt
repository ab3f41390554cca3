-- Number, layer and place of every fault.
use Rattle.refusal.specs.declared.Layer.TheVariants.{Decoder}
use Rattle.refusal.specs.declared.Reason.TheVariants.{WrongLength}
use Rattle.refusal.specs.declared.Refusal.{Refusal}
use Rattle.levels.specs.Refused.{level_refusal}
use Rattle.decoders.specs.declared.fault.AskFault.{AskFault}
use Rattle.decoders.specs.declared.fault.AskFault.TheVariants.{Buffer, Levels}

abbrev pub ask_refusal : AskFault → Refusal
ask_refusal Buffer = record { reason = WrongLength; layer = Decoder; place = 0 }
ask_refusal (Levels e) = level_refusal Decoder e
