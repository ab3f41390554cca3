-- The hard decision: the symbols that levels read as, six levels to each.
use Rattle.std.specs.Prelude.{ℕ, ◌+◌, ◌*◌, List, [], ◌∷◌, slice_index_or, Float}
use Rattle.std.specs.Float.{nan}
use Rattle.levels.specs.Levels.{bit}

-- the most significant bit first
abbrev pub six : Float → Float → Float → Float → Float → Float → ℕ
six a b c d e f = 32 * bit a + 16 * bit b + 8 * bit c + 4 * bit d + 2 * bit e + bit f

-- fewer than six levels at the end make no symbol
unfoldable pub hard : List Float → List ℕ
hard [] = []
hard (a ∷ []) = []
hard (a ∷ b ∷ []) = []
hard (a ∷ b ∷ c ∷ []) = []
hard (a ∷ b ∷ c ∷ d ∷ []) = []
hard (a ∷ b ∷ c ∷ d ∷ e ∷ []) = []
hard (a ∷ b ∷ c ∷ d ∷ e ∷ f ∷ xs) = six a b c d e f ∷ hard xs

-- the symbol of the six levels from `at` on
abbrev pub symbol_at : List Float → ℕ → ℕ
symbol_at xs at = six (slice_index_or xs at nan) (slice_index_or xs (at + 1) nan) (slice_index_or xs (at + 2) nan) (slice_index_or xs (at + 3) nan) (slice_index_or xs (at + 4) nan) (slice_index_or xs (at + 5) nan)
