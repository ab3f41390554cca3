-- A code by its parity-check table, its words, and how two words differ.
use Rattle.std.specs.Prelude.{◌≡◌, ℕ, suc, ◌<◌, cond, List, [], ◌∷◌, length, take, ◌==◌, bit_xor, slice_index, slice_index_or, slice_set}
use Rattle.gf64.specs.Field.{mul}

-- the places of each row of the table, the factor of each place, the symbols of a word, and how many of them, from the
-- first on, are the message
pub record Code : Type 0 where
  pub places : List (List ℕ)
  pub factors : List (List ℕ)
  pub size : ℕ
  pub message : ℕ

abbrev pub places_of : Code → ℕ → List ℕ
places_of c r = slice_index_or c.places r []

abbrev pub factors_of : Code → ℕ → List ℕ
factors_of c r = slice_index_or c.factors r []

abbrev pub sym_at : List ℕ → ℕ → ℕ
sym_at w k = slice_index w k

-- the symbols at the places, each times its factor, summed
unfoldable pub weighted : List ℕ → List ℕ → (ℕ → ℕ) → ℕ
weighted [] fs w = 0
weighted (p ∷ ps) [] w = 0
weighted (p ∷ ps) (f ∷ fs) w = bit_xor (mul f (w p)) (weighted ps fs w)

-- the sum of row r
abbrev pub row_sum : Code → ℕ → List ℕ → ℕ
row_sum c r w = weighted (places_of c r) (factors_of c r) (sym_at w)

-- the factor of place x in a row, 0 where the row does not have it
unfoldable pub factor_in : ℕ → List ℕ → List ℕ → ℕ
factor_in x [] fs = 0
factor_in x (p ∷ ps) [] = 0
factor_in x (p ∷ ps) (f ∷ fs) = cond (p == x) f (factor_in x ps fs)

-- the factor of place x in row r
abbrev pub factor_of : Code → ℕ → ℕ → ℕ
factor_of c r x = factor_in x (places_of c r) (factors_of c r)

-- w with x added to the symbol at p; a place past the end names no symbol
abbrev pub altered : List ℕ → ℕ → ℕ → List ℕ
altered w p x = slice_set w p (bit_xor (sym_at w p) x)

-- n symbols; past its end a list is read as 0
pub record SymbolList (n : ℕ) (w : List ℕ) : Type 0 where
  pub long : length w ≡ n
  pub small : (k : ℕ) → slice_index w k < 64

-- a word whose row sums are all 0
pub record Codeword (c : Code) (w : List ℕ) : Type 0 where
  pub word : SymbolList c.size w
  pub sums : (r : ℕ) → r < length c.places → row_sum c r w ≡ 0

-- w is a code word that begins with m
pub record Encodes (c : Code) (m w : List ℕ) : Type 0 where
  pub codeword : Codeword c w
  pub begins : take c.message w ≡ m

-- at how many places two lists differ
unfoldable pub differences : List ℕ → List ℕ → ℕ
differences [] v = 0
differences (x ∷ u) [] = 0
differences (x ∷ u) (y ∷ v) = cond (x == y) (differences u v) (suc (differences u v))

-- u and v are as long as each other and differ at just n places
pub record DifferAt (n : ℕ) (u v : List ℕ) : Type 0 where
  pub long : length u ≡ length v
  pub places : differences u v ≡ n
