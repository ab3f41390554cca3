-- Number, layer and place of every fault.
use Rattle.std.specs.Prelude.{ℕ}
use Rattle.refusal.specs.declared.Layer.TheVariants.{Writer}
use Rattle.refusal.specs.declared.Reason.{Reason}
use Rattle.refusal.specs.declared.Reason.TheVariants.{WrongLength, WrongType, LateSecond, OutOfRange, OtherBlock, BlockTwice, NoBlock}
use Rattle.refusal.specs.declared.Refusal.{Refusal}
use Rattle.writer.specs.declared.fault.WriterFault.{WriterFault}
use Rattle.writer.specs.declared.fault.WriterFault.TheVariants.{Length, UnknownType, Second, OtherType, AlreadyPut, Field, Missing}

abbrev refuse : Reason → ℕ → Refusal
refuse r p = record { reason = r; layer = Writer; place = p }

abbrev pub writer_refusal : WriterFault → Refusal
writer_refusal Length = refuse WrongLength 0
writer_refusal (UnknownType n) = refuse WrongType n
writer_refusal Second = refuse LateSecond 6
writer_refusal (OtherType k) = refuse OtherBlock k
writer_refusal (AlreadyPut k) = refuse BlockTwice k
writer_refusal (Field b) = refuse OutOfRange b
writer_refusal (Missing k) = refuse NoBlock k
