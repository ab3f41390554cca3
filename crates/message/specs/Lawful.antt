-- A lawful message.
use Rattle.std.specs.Prelude.{◌≡◌, ℕ, ◌≤◌, List}
use Rattle.std.specs.Int.Digits.{number_from_digits}
use Rattle.std.specs.List.{AllByRecursion}
use Rattle.bits.specs.Bits.{bits_of, part}
use Rattle.crc.specs.Crc.{crc_of_message}
use Rattle.layout.specs.Layout.{number_of}
use Rattle.layout.specs.Placed.{reserved_of, parameters_of}
use Rattle.layout.specs.Ranges.{InRange}
use Rattle.layout.specs.declared.MessageType.{MessageType}
use Rattle.parity.specs.Code.{SymbolList}

-- the number that w bits of a message write from a bit on
unfoldable pub number_at : List ℕ → ℕ → ℕ → ℕ
number_at m at w = number_from_digits 2 (part (bits_of m) at w)

pub record Lawful (m : List ℕ) : Type 0 where
  pub symbols : SymbolList 81 m
  -- the last 24 bits are the CRC of the others
  pub crc : number_at m 462 24 ≡ crc_of_message m
  -- the first six bits are the number of a type
  pub type : MessageType
  pub numbered : number_at m 0 6 ≡ number_of type
  -- the next 20 are a second of the week
  pub second : number_at m 6 20 ≤ 604799
  -- the reserved bits are 0, and each field holds a count of its range
  pub reserved : AllByRecursion (InRange (bits_of m)) (reserved_of type)
  pub fields : AllByRecursion (InRange (bits_of m)) (parameters_of type)
