-- Number, layer and place of every fault.
use Rattle.refusal.specs.declared.Layer.{Layer}
use Rattle.refusal.specs.declared.Reason.TheVariants.{WrongLength, IllegalLevel}
use Rattle.refusal.specs.declared.Refusal.{Refusal}
use Rattle.levels.specs.declared.fault.LevelFault.{LevelFault}
use Rattle.levels.specs.declared.fault.LevelFault.TheVariants.{Length, Illegal}

-- the layer is that of the call
abbrev pub level_refusal : Layer → LevelFault → Refusal
level_refusal l Length = record { reason = WrongLength; layer = l; place = 0 }
level_refusal l (Illegal i) = record { reason = IllegalLevel; layer = l; place = i }
