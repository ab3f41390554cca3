-- The check symbols one after the other, round the ring of rows.
use Rattle.std.specs.Prelude.{ℕ, zero, suc, ◌-◌, List, [], ◌∷◌, bit_xor, slice_index_or}
use Rattle.gf64.specs.Field.{mul, inv}
use Rattle.parity.specs.Table.{place_at, factor_at}

-- the row of each turn, and which of its places it starts from, 2 or 3
unfoldable pub ring : List (ℕ × ℕ)
ring =
    (0, 2) ∷ (39, 3) ∷ (6, 2) ∷ (49, 3) ∷ (4, 2) ∷ (69, 3) ∷ (19, 2) ∷ (27, 3) ∷ (42, 3) ∷ (47, 2) ∷
    (40, 3) ∷ (13, 2) ∷ (2, 3) ∷ (33, 2) ∷ (22, 3) ∷ (70, 2) ∷ (51, 3) ∷ (63, 2) ∷ (60, 3) ∷ (25, 2) ∷
    (38, 3) ∷ (17, 2) ∷ (35, 3) ∷ (80, 2) ∷ (1, 3) ∷ (48, 2) ∷ (41, 3) ∷ (23, 2) ∷ (75, 3) ∷ (37, 2) ∷
    (45, 3) ∷ (64, 2) ∷ (43, 3) ∷ (21, 2) ∷ (15, 3) ∷ (34, 3) ∷ (59, 2) ∷ (8, 3) ∷ (30, 2) ∷ (66, 3) ∷
    (44, 2) ∷ (53, 3) ∷ (9, 2) ∷ (67, 3) ∷ (68, 2) ∷ (14, 3) ∷ (73, 2) ∷ (55, 3) ∷ (71, 2) ∷ (61, 3) ∷
    (79, 2) ∷ (32, 3) ∷ (57, 2) ∷ (16, 3) ∷ (52, 2) ∷ (24, 3) ∷ (78, 2) ∷ (12, 3) ∷ (3, 2) ∷ (5, 3) ∷
    (65, 2) ∷ (18, 3) ∷ (28, 3) ∷ (77, 2) ∷ (10, 3) ∷ (46, 2) ∷ (72, 3) ∷ (36, 2) ∷ (56, 3) ∷ (31, 2) ∷
    (76, 3) ∷ (7, 2) ∷ (58, 3) ∷ (50, 2) ∷ (20, 3) ∷ (62, 2) ∷ (74, 3) ∷ (11, 2) ∷ (29, 3) ∷ (54, 2) ∷
    (26, 3) ∷
    []

-- a row, and which of its places a turn starts from and comes to
pub record Turn : Type 0 where
  pub row : ℕ
  pub from : ℕ
  pub to : ℕ

abbrev pub turn_of : ℕ × ℕ → Turn
turn_of p = record { row = p.0; from = p.1; to = 5 - p.1 }

abbrev pub turn_at : ℕ → Turn
turn_at k = turn_of (slice_index_or ring k (0, 0))

-- the place that a turn comes to
abbrev pub reached : Turn → ℕ
reached t = place_at t.row t.to

abbrev pub from_place : ℕ → ℕ
from_place k = place_at (turn_at k).row (turn_at k).from

abbrev pub to_place : ℕ → ℕ
to_place k = place_at (turn_at k).row (turn_at k).to

abbrev pub from_factor : ℕ → ℕ
from_factor k = factor_at (turn_at k).row (turn_at k).from

abbrev pub to_factor : ℕ → ℕ
to_factor k = factor_at (turn_at k).row (turn_at k).to

-- the symbol at the place number j of row r, times its factor
abbrev pub term : ℕ → (ℕ → ℕ) → ℕ → ℕ
term r w j = mul (factor_at r j) (w (place_at r j))

-- what the message gives to the sum of a row
unfoldable pub message_sum : ℕ → (ℕ → ℕ) → ℕ
message_sum r w = bit_xor (term r w 0) (term r w 1)

-- the symbol at the place that a turn comes to, from the one that it starts from
unfoldable pub turned : Turn → (ℕ → ℕ) → ℕ → ℕ
turned t w x = mul (inv (factor_at t.row t.to)) (bit_xor (message_sum t.row w) (mul (factor_at t.row t.from) x))

abbrev pub next : ℕ → (ℕ → ℕ) → ℕ → ℕ
next k w x = turned (turn_at k) w x

-- after n turns from x
unfoldable pub run : (ℕ → ℕ) → ℕ → ℕ → ℕ
run w x zero = x
run w x (suc n) = next n w (run w x n)

-- the symbol from which the ring closes: once round it, x becomes run w 0 81 + 26 x, and 34 is the inverse of 1 + 26
unfoldable pub start : (ℕ → ℕ) → ℕ
start w = mul 34 (run w 0 81)
