-- Code words that agree with a word outside two places.
use Rattle.std.specs.Prelude.{◌≡◌, ℕ, ◌/◌, ◌%◌, ◌≢◌, ◌⊎◌, List, length, Option, bit_xor, slice_set}
use Rattle.parity.specs.Code.{Code, Codeword, factor_of, sym_at}
use Rattle.correction.specs.Search.{first_codeword}

-- v is a code word, as long as w, that agrees with it outside p and q
pub record Outside (c : Code) (w : List ℕ) (p q : ℕ) (v : List ℕ) : Type 0 where
  pub codeword : Codeword c v
  pub long : length w ≡ length v
  pub same : (k : ℕ) → k ≢ p → k ≢ q → sym_at w k ≡ sym_at v k

-- a word has at most one code word outside two places
abbrev pub OneOutside : Code → Type 0
OneOutside c = (w : List ℕ) (p q : ℕ) (u v : List ℕ) → Outside c w p q u → Outside c w p q v → u ≡ v

-- number 64 x + y is w with the symbols x and y written at p and q
abbrev pub rewritten : List ℕ → ℕ → ℕ → ℕ → List ℕ
rewritten w p q n = slice_set (slice_set w p (n / 64)) q (n % 64)

-- the first of these 64 * 64 that is a code word
unfoldable pub filled : List ℕ → ℕ → ℕ → Option (List ℕ)
filled w p q = first_codeword 4096 (rewritten w p q)

-- row r has p, and not q where that is another place
pub record Tells (c : Code) (p q r : ℕ) : Type 0 where
  pub has : factor_of c r p ≢ 0
  pub alone : (p ≡ q) ⊎ (factor_of c r q ≡ 0)

-- x is what has to be added to the symbol at p for a code word that agrees with w outside p and q
abbrev pub Solves : Code → List ℕ → ℕ → ℕ → ℕ → Type 0
Solves c w p q x = (v : List ℕ) → Outside c w p q v → sym_at v p ≡ bit_xor (sym_at w p) x
