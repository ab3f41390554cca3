-- CRC-24Q, one bit after the other.
use Rattle.std.specs.Prelude.{ℕ, ◌+◌, ◌*◌, ◌/◌, ◌%◌, ◌^◌, List, [], ◌∷◌, take, fold, bit_xor}
use Rattle.bits.specs.Bits.{bits_of}

-- the register after the bit b: shifted by one and, where its top bit and b differ, with the generator without x^24 (864CFBh) added
unfoldable pub crc_step : ℕ → ℕ → ℕ
crc_step reg b = bit_xor (reg * 2 % 2 ^ 24) ((reg / 2 ^ 23 + b) % 2 * 8801531)

-- the register after the bits, from 0
unfoldable pub crc_of : List ℕ → ℕ
crc_of bs = fold crc_step 0 bs

-- the CRC of a message: of its bits before the last 24
unfoldable pub crc_of_message : List ℕ → ℕ
crc_of_message m = crc_of (take 462 (bits_of m))

-- the register after six bits 0, from one whose top six bits are i and whose others are 0
unfoldable pub six_zeros : ℕ → ℕ
six_zeros i = fold crc_step (i * 2 ^ 18) (0 ∷ 0 ∷ 0 ∷ 0 ∷ 0 ∷ 0 ∷ [])
