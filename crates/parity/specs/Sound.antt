-- What is asked of a parity-check table, and what follows from it for any code.
use Rattle.std.specs.Prelude.{◌≡◌, ℕ, ◌+◌, ◌<◌, ◌≤◌, Bool, true, false, not, ◌&&◌, ◌⊎◌, List, [], ◌∷◌, length, ◌==◌, nat_lt}
use Rattle.parity.specs.Code.{Code, Codeword, Encodes, SymbolList, DifferAt, differences, places_of, factors_of}

-- x is none of the places
unfoldable pub absent : ℕ → List ℕ → Bool
absent x [] = true
absent x (p ∷ ps) = not (p == x) && absent x ps

-- no place stands twice
unfoldable pub distinct : List ℕ → Bool
distinct [] = true
distinct (p ∷ ps) = absent p ps && distinct ps

-- each factor is one of 1 to 63
unfoldable pub units : List ℕ → Bool
units [] = true
units (f ∷ fs) = (nat_lt 0 f && nat_lt f 64) && units fs

unfoldable pub one : Bool → ℕ
one true = 1
one false = 0

-- in how many rows a place stands
unfoldable pub rows_with : ℕ → List (List ℕ) → ℕ
rows_with x [] = 0
rows_with x (ps ∷ rows) = one (not (absent x ps)) + rows_with x rows

-- how many of the first places stand among the second
unfoldable pub shared : List ℕ → List ℕ → ℕ
shared [] qs = 0
shared (p ∷ ps) qs = one (not (absent p qs)) + shared ps qs

-- a row has as many factors as places, no place twice, and no factor 0
pub record RowSound (ps fs : List ℕ) : Type 0 where
  pub even : length ps ≡ length fs
  pub once : distinct ps ≡ true
  pub nonzero : units fs ≡ true

-- the one code word that begins with m
pub record OneCodeword (c : Code) (m : List ℕ) : Type 0 where
  pub word : List ℕ
  pub encodes : Encodes c m word
  pub only : (v : List ℕ) → Encodes c m v → v ≡ word

pub record Sound (c : Code) : Type 0 where
  pub rows : (r : ℕ) → r < length c.places → RowSound (places_of c r) (factors_of c r)
  -- each place stands in exactly two rows
  pub two_rows : (x : ℕ) → x < c.size → rows_with x c.places ≡ 2
  -- two rows share at most one place
  pub share_one : (a b : ℕ) → a < length c.places → b < a → shared (places_of c a) (places_of c b) ≤ 1
  -- each message begins exactly one code word
  pub begins_one : (m : List ℕ) → SymbolList c.message m → OneCodeword c m

-- a code word that is altered at just one or at just two places is no code word
abbrev pub AlteredIsNone : Code → Type 0
AlteredIsNone c = (w v : List ℕ) → Codeword c w → DifferAt 1 w v ⊎ DifferAt 2 w v → Codeword c v → ⊥

-- v is a code word, as long as w, that differs from it in at most one place
pub record Near (c : Code) (w v : List ℕ) : Type 0 where
  pub codeword : Codeword c v
  pub long : length w ≡ length v
  pub few : differences w v ≤ 1

-- a word has at most one code word near it
abbrev pub OneNear : Code → Type 0
OneNear c = (w u v : List ℕ) → Near c w u → Near c w v → u ≡ v
