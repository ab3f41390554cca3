-- What is answered of the 81 symbols of a message.
use Rattle.std.specs.Prelude.{ℕ, Bool, cond, List, Some, None, Ok, Err, Option, Result, ◌==◌, nat_le}
use Rattle.bits.specs.Bits.{bits_of}
use Rattle.crc.specs.Crc.{crc_of_message}
use Rattle.layout.specs.Layout.{type_of}
use Rattle.layout.specs.Placed.{reserved_of, parameters_of}
use Rattle.layout.specs.Ranges.{first_outside}
use Rattle.layout.specs.declared.MessageType.{MessageType}
unfoldable pub use Rattle.message.specs.Lawful.{number_at}
use Rattle.message.specs.declared.answer.Header.{Header}
use Rattle.message.specs.declared.fault.MessageFault.{MessageFault}
use Rattle.message.specs.declared.fault.MessageFault.TheVariants.{Crc, UnknownType, Second, Reserved, Field}

abbrev pub crc_fits : List ℕ → Bool
crc_fits m = number_at m 462 24 == crc_of_message m

abbrev pub first_reserved : MessageType → List ℕ → Option ℕ
first_reserved t m = first_outside (reserved_of t) (bits_of m)

abbrev pub first_field : MessageType → List ℕ → Option ℕ
first_field t m = first_outside (parameters_of t) (bits_of m)

-- a reserved bit first, then a field
abbrev pub by_bits : Option ℕ → Option ℕ → Header → Result Header MessageFault
by_bits (Some b) o h = Err (Reserved b)
by_bits None (Some b) h = Err (Field b)
by_bits None None h = Ok h

-- the type first, then the second, then the bits
abbrev pub by_type : Option MessageType → ℕ → ℕ → List ℕ → Result Header MessageFault
by_type None n s m = Err (UnknownType n)
by_type (Some t) n s m =
    cond (nat_le s 604799) (by_bits (first_reserved t m) (first_field t m) (record { message_type = t; second = s })) (Err Second)

abbrev pub examined : List ℕ → Result Header MessageFault
examined m = cond (crc_fits m) (by_type (type_of (number_at m 0 6)) (number_at m 0 6) (number_at m 6 20) m) (Err Crc)
