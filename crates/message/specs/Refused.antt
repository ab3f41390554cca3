-- Number, layer and place of every fault.
use Rattle.std.specs.Prelude.{ℕ}
use Rattle.parity.specs.Refused.{symbol_refusal}
use Rattle.refusal.specs.declared.Layer.TheVariants.{Word as WordLayer, Message as MessageLayer}
use Rattle.refusal.specs.declared.Reason.{Reason}
use Rattle.refusal.specs.declared.Reason.TheVariants.{ReservedBit, NonzeroSum, WrongCrc, WrongType, LateSecond, OutOfRange}
use Rattle.refusal.specs.declared.Refusal.{Refusal}
use Rattle.message.specs.declared.fault.MessageFault.{MessageFault}
use Rattle.message.specs.declared.fault.MessageFault.TheVariants.{Crc, UnknownType, Second, Reserved, Field}
use Rattle.message.specs.declared.fault.WordFault.{WordFault}
use Rattle.message.specs.declared.fault.WordFault.TheVariants.{Symbols, RowSum, Message}

abbrev refuse : Reason → ℕ → Refusal
refuse r p = record { reason = r; layer = MessageLayer; place = p }

abbrev pub message_refusal : MessageFault → Refusal
message_refusal Crc = refuse WrongCrc 0
message_refusal (UnknownType n) = refuse WrongType n
message_refusal Second = refuse LateSecond 6
message_refusal (Reserved b) = refuse ReservedBit b
message_refusal (Field b) = refuse OutOfRange b

abbrev pub word_refusal : WordFault → Refusal
word_refusal (Symbols e) = symbol_refusal WordLayer e
word_refusal (RowSum r) = record { reason = NonzeroSum; layer = WordLayer; place = r }
word_refusal (Message e) = message_refusal e
