-- Number, layer and place of every fault.
use Rattle.refusal.specs.declared.Refusal.{Refusal}
use Rattle.frames.specs.Refused.{frame_refusal}
use Rattle.writer.specs.Refused.{writer_refusal}
use Rattle.compose.specs.declared.fault.ComposeFault.{ComposeFault}
use Rattle.compose.specs.declared.fault.ComposeFault.TheVariants.{Writer, Frame}

abbrev pub compose_refusal : ComposeFault → Refusal
compose_refusal (Writer e) = writer_refusal e
compose_refusal (Frame e) = frame_refusal e
