-- The score of a word against levels: each difference, product and sum is rounded once.
use Rattle.std.specs.Prelude.{ℕ, List, [], ◌∷◌, pos, fold, ◌==◌, Float}
use Rattle.std.specs.Float.Ieee.{add, sub, mul}
use Rattle.std.specs.Float.{float_max, float_zero, fin, binary32}
use Rattle.bits.specs.Bits.{bits_of}
use Rattle.scores.specs.declared.Score.{Score}

-- +1 for bit 0, and -1 for bit 1
abbrev pub sign : ℕ → Float
sign b = fin (b == 1) 1 (pos 0)

-- the level minus the sign of its bit
abbrev pub distance : Float → ℕ → Float
distance x b = sub binary32 x (sign b)

abbrev pub square : Float → ℕ → Float
square x b = mul binary32 (distance x b) (distance x b)

-- the square for each level and its bit, as far as there are both
unfoldable pub squares : List Float → List ℕ → List Float
squares [] bs = []
squares (x ∷ xs) [] = []
squares (x ∷ xs) (b ∷ bs) = square x b ∷ squares xs bs

-- from 0, the squares are added in their order, and the largest is kept
abbrev pub score_of : List Float → List ℕ → Score
score_of xs w =
    let ps = squares xs (bits_of w) in
    record { sum = fold (add binary32) float_zero ps; largest = fold float_max float_zero ps }
