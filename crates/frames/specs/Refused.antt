-- Number, layer and place of every fault.
use Rattle.refusal.specs.declared.Layer.TheVariants.{Writer}
use Rattle.refusal.specs.declared.Reason.{Reason}
use Rattle.refusal.specs.declared.Reason.TheVariants.{WrongLength, NoSatellite}
use Rattle.refusal.specs.declared.Refusal.{Refusal}
use Rattle.frames.specs.declared.FrameFault.{FrameFault}
use Rattle.frames.specs.declared.FrameFault.TheVariants.{Length, Satellite}

abbrev refuse : Reason → Refusal
refuse r = record { reason = r; layer = Writer; place = 0 }

abbrev pub frame_refusal : FrameFault → Refusal
frame_refusal Length = refuse WrongLength
frame_refusal Satellite = refuse NoSatellite
