-- Division of polynomials over {0, 1}, each a row of bits or a number: the coefficient of the highest power first.
-- Their sum is the exclusive or.
use Rattle.std.specs.Prelude.{◌≡◌, ℕ, ◌*◌, ◌^◌, ◌<◌, List, fold, bit_xor}
use Rattle.std.specs.Int.Digits.{number_from_digits, AllBelowBase}

-- 1864CFBh: x^24 + x^23 + x^18 + x^17 + x^14 + x^11 + x^10 + x^7 + x^6 + x^5 + x^4 + x^3 + x + 1
abbrev pub generator : ℕ
generator = 25578747

-- the product of q and g
unfoldable pub multiple : List ℕ → ℕ → ℕ
multiple q g = fold (λ a b. bit_xor (a * 2) (b * g)) 0 q

-- r is what division by g, of degree 24, leaves of the bits times x^24
pub record Remainder (g : ℕ) (bs : List ℕ) (r : ℕ) : Type 0 where
  pub quotient : List ℕ
  pub coefficients : AllBelowBase 2 quotient
  pub division : bit_xor (number_from_digits 2 bs * 2 ^ 24) r ≡ multiple quotient g
  pub small : r < 2 ^ 24
