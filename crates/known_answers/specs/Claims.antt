-- Worked examples: products, the sums of row 0, CRCs, messages with their answers, and counts of fields.
use Rattle.std.specs.Prelude.{◌≡◌, ℕ, ◌+◌, ◌-◌, ◌*◌, ◌/◌, ◌%◌, ◌^◌, true, List, [], ◌∷◌, map, replicate, ℤ, pos, negsuc, Ok, Err, Result, slice_index_or, slice_set}
use Rattle.std.specs.List.{range_with_len}
use Rattle.crc.specs.Crc.{crc_of_message}
use Rattle.gf64.specs.Field.{mul}
use Rattle.layout.specs.Layout.{fields_of, reserved}
use Rattle.layout.specs.Ranges.{count_of}
use Rattle.layout.specs.declared.Field.{Field}
use Rattle.layout.specs.declared.MessageType.{MessageType}
use Rattle.layout.specs.declared.MessageType.TheVariants.{Type30, Type40}
use Rattle.layout.specs.declared.Part.{Part}
use Rattle.layout.specs.declared.Part.TheVariants.{Clock, Ionosphere}
use Rattle.message.specs.Examined.{crc_fits, examined}
use Rattle.message.specs.Refused.{message_refusal}
use Rattle.message.specs.declared.answer.Header.{Header}
use Rattle.message.specs.declared.fault.MessageFault.{MessageFault}
use Rattle.parity.specs.Code.{row_sum, sym_at}
use Rattle.parity.specs.Ring.{term}
use Rattle.parity.specs.Table.{bcnav3}
use Rattle.refusal.specs.Numbers.{reason_number}
use Rattle.refusal.specs.declared.Layer.TheVariants.{Message as MessageLayer}
use Rattle.type30.specs.Eighths.{eighths_of}

-- ---- words and messages to speak of

-- four symbols at the places of row 0, and zeros
abbrev pub at_row0 : ℕ → ℕ → ℕ → ℕ → List ℕ
at_row0 a b c d = slice_set (slice_set (slice_set (slice_set (replicate 162 0) 19 a) 67 b) 109 c) 130 d

-- the 81 symbols whose bits write n
abbrev pub symbols_of : ℕ → List ℕ
symbols_of n = map (λ k. n / 2 ^ (480 - 6 * k) % 64) (range_with_len 0 81)

-- only this bit is set
abbrev pub bit_alone : ℕ → List ℕ
bit_alone b = symbols_of (2 ^ (485 - b))

-- the number v in w bits from bit b on
abbrev pub field : ℕ → ℕ → ℕ → ℕ
field b w v = v * 2 ^ (486 - b - w)

-- with its CRC in the last 24 bits, which are 0
abbrev pub sealed : ℕ → List ℕ
sealed n = symbols_of (n + crc_of_message (symbols_of n))

-- a message of this type and second, with v in w bits from bit b on, and otherwise zeros
abbrev pub message_of : ℕ → ℕ → ℕ → ℕ → ℕ → List ℕ
message_of t s b w v = sealed (field 0 6 t + (field 6 20 s + field b w v))

-- ---- what is claimed of them

pub data Claim : Type 0 where
  -- a times b is c
  Product : ℕ → ℕ → ℕ → Claim
  -- row 0 at four symbols: its products, and its sum
  Row0 : ℕ → ℕ → ℕ → ℕ → List ℕ → ℕ → Claim
  -- the CRC of the message with just this bit set
  CrcOf : ℕ → ℕ → Claim
  -- the last 24 bits of the message are its CRC
  CrcFits : List ℕ → Claim
  -- the message is lawful, with its type and second
  Accepted : List ℕ → MessageType → ℕ → Claim
  -- the message is refused, with the number and the place
  Refused : List ℕ → ℕ → ℕ → Claim
  -- the count that a pattern of bits stands for in field number i of a part
  Counted : Part → ℕ → ℕ → ℤ → Claim
  -- a count of an ionosphere coefficient in eighths of a TECu
  Eighths : ℕ → ℤ → ℤ → Claim

abbrev pub RefusedBy : Result Header MessageFault → ℕ → ℕ → Type 0
RefusedBy (Ok h) n p = ⊥
RefusedBy (Err e) n p =
    let r = message_refusal e in (reason_number r.reason ≡ n) × ((r.layer ≡ MessageLayer) × (r.place ≡ p))

abbrev pub count_in : Field → ℕ → ℤ
count_in f v = count_of f.signed f.width v

abbrev pub Holds : Claim → Type 0
Holds (Product a b c) = mul a b ≡ c
Holds (Row0 a b c d products sum) =
    (map (term 0 (sym_at (at_row0 a b c d))) (range_with_len 0 4) ≡ products) × (row_sum bcnav3 0 (at_row0 a b c d) ≡ sum)
Holds (CrcOf b c) = crc_of_message (bit_alone b) ≡ c
Holds (CrcFits m) = crc_fits m ≡ true
Holds (Accepted m t s) = examined m ≡ Ok (record { message_type = t; second = s })
Holds (Refused m n p) = RefusedBy (examined m) n p
Holds (Counted p i v z) = count_in (slice_index_or (fields_of p) i reserved) v ≡ z
Holds (Eighths k z e) = eighths_of k z ≡ e

unfoldable pub claims : List Claim
claims =
    Product 28 46 60 ∷
    Product 3 44 55 ∷
    Row0 28 61 3 19 (60 ∷ 47 ∷ 55 ∷ 36 ∷ []) 0 ∷
    Row0 29 61 3 19 (18 ∷ 47 ∷ 55 ∷ 36 ∷ []) 46 ∷
    -- 864CFBh and 8AD50Dh
    CrcOf 461 8801531 ∷
    CrcOf 460 9098509 ∷
    CrcFits (symbols_of 0) ∷
    Refused (symbols_of 0) 11 0 ∷
    Accepted (message_of 40 604799 26 1 0) Type40 604799 ∷
    Refused (message_of 40 604800 26 1 0) 12 6 ∷
    -- t_oc
    Accepted (message_of 30 0 43 11 2015) Type30 0 ∷
    Refused (message_of 30 0 43 11 2016) 13 43 ∷
    -- t_ot
    Accepted (message_of 30 0 242 16 37799) Type30 0 ∷
    Refused (message_of 30 0 242 16 37800) 13 242 ∷
    -- a0: 25 ones, and a one and 24 zeros
    Counted Clock 1 (2 ^ 25 - 1) (negsuc 0) ∷
    Counted Clock 1 (2 ^ 24) (negsuc 16777215) ∷
    -- alpha2: a one and seven zeros is -16 TECu
    Counted Ionosphere 1 128 (negsuc 127) ∷
    Eighths 2 (negsuc 127) (negsuc 127) ∷
    -- alpha5: 8 is -1 TECu
    Counted Ionosphere 4 8 (pos 8) ∷
    Eighths 5 (pos 8) (negsuc 7) ∷
    []
