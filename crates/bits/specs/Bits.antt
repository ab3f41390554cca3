-- The bits of a row of six-bit symbols.
use Rattle.std.specs.Prelude.{ℕ, zero, suc, ◌+◌, ◌/◌, ◌%◌, ◌^◌, ◌<◌, List, [], ◌∷◌, ◌++◌, length, take, drop, slice_index}

-- the six bits of each symbol, most significant first
abbrev pub bits_of : List ℕ → List ℕ
bits_of [] = []
bits_of (s ∷ ss) = s / 32 % 2 ∷ s / 16 % 2 ∷ s / 8 % 2 ∷ s / 4 % 2 ∷ s / 2 % 2 ∷ s % 2 ∷ bits_of ss

-- w places of d from the place `at` on
abbrev pub part : {X : Type 0} → List X → ℕ → ℕ → List X
part d at w = take w (drop at d)

-- d with s written over it from the place `at` on
abbrev pub pasted : {X : Type 0} → List X → ℕ → List X → List X
pasted d at s = take at d ++ (s ++ drop (at + length s) d)

-- the lowest w bits of v, most significant first
abbrev pub spelled : ℕ → ℕ → List ℕ
spelled zero v = []
spelled (suc w) v = v / 2 ^ w % 2 ∷ spelled w v

-- a byte below 64 stays below 64
abbrev pub KeepsSmall : List ℕ → List ℕ → Type 0
KeepsSmall old new = (k : ℕ) → slice_index old k < 64 → slice_index new k < 64
