-- A frame: its bits, most significant first, and the bytes that hold them.
use Rattle.std.specs.Prelude.{ℕ, Bool, cond, ◌&&◌, List, [], ◌∷◌, ◌++◌, Ok, Err, Result, ◌==◌, nat_le}
use Rattle.bits.specs.Bits.{bits_of, spelled}
use Rattle.frames.specs.declared.FrameFault.{FrameFault}
use Rattle.frames.specs.declared.FrameFault.TheVariants.{Length, Satellite}

-- the eight bits of each byte
abbrev pub bytes_bits : List ℕ → List ℕ
bytes_bits [] = []
bytes_bits (b ∷ bs) = spelled 8 b ++ bytes_bits bs

-- the preamble EB90h, the satellite's number, six zeros
unfoldable pub header_bits : ℕ → List ℕ
header_bits s = spelled 16 60304 ++ (spelled 6 s ++ spelled 6 0)

-- the frame of a coded word for satellite s
abbrev pub frame_bits : ℕ → List ℕ → List ℕ
frame_bits s word = header_bits s ++ bits_of word

abbrev pub is_satellite : ℕ → Bool
is_satellite s = nat_le 6 s && nat_le s 58

-- the answer to who wants the frame for satellite s in a buffer of n bytes
abbrev pub frame_answer : ℕ → ℕ → Result (Unit {0}) FrameFault
frame_answer n s = cond (n == 125) (cond (is_satellite s) (Ok tt) (Err Satellite)) (Err Length)
