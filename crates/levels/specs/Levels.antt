-- What a level is, and how one is read.
use Rattle.std.specs.Prelude.{◌≡◌, ℕ, ◌+◌, ◌*◌, ◌<◌, ◌≤◌, Bool, true, false, cond, ◌&&◌, List, map, pos, from_bits, slice_index, Float}
use Rattle.std.specs.Float.{nan, inf, fin, binary32}
use Rattle.std.specs.Float.Ieee.{up, down, le, lt}
use Rattle.std.specs.List.{range_with_len}

-- from -4 to 4, which is 1 * 2 ^ 2
unfoldable pub legal : Float → Bool
legal x = le (fin true 1 (pos 2)) x && le x (fin false 1 (pos 2))

-- 1 below 0, and else 0
unfoldable pub bit : Float → ℕ
bit x = cond (lt x (fin false 0 (pos 0))) 1 0

-- a finite number whose size, m * 2 ^ e, is at most 4; 2 ^ e is the fraction up e / down e
abbrev pub WithinFour : Float → Type 0
WithinFour nan = ⊥
WithinFour (inf s) = ⊥
WithinFour (fin s m e) = m * up e ≤ 4 * down e

-- with a minus, and not zero
abbrev pub Negative : Float → Type 0
Negative nan = ⊥
Negative (inf s) = s ≡ true
Negative (fin s m e) = (s ≡ true) × (0 < m)

-- the float that four bytes hold from the byte 4 * k on, the least significant first
abbrev pub level_at : List ℕ → ℕ → Float
level_at bytes k = from_bits binary32 (slice_index bytes (4 * k) + slice_index bytes (4 * k + 1) * 256 + slice_index bytes (4 * k + 2) * 65536 + slice_index bytes (4 * k + 3) * 16777216)

-- the first n of them
abbrev pub levels_in : List ℕ → ℕ → List Float
levels_in bytes n = map (level_at bytes) (range_with_len 0 n)
