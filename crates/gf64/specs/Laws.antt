-- The symbols are a field.
use Rattle.std.specs.Prelude.{◌≡◌, ℕ, ◌<◌, ◌≢◌, bit_xor}
use Rattle.gf64.specs.Field.{mul, inv}

-- of symbols a, b and c
pub record FieldLaws : Type 0 where
  pub closed : (a b : ℕ) → a < 64 → b < 64 → mul a b < 64
  pub commutative : (a b : ℕ) → a < 64 → b < 64 → mul a b ≡ mul b a
  pub associative : (a b c : ℕ) → a < 64 → b < 64 → c < 64 → mul (mul a b) c ≡ mul a (mul b c)
  pub distributive : (a b c : ℕ) → a < 64 → b < 64 → c < 64 → mul a (bit_xor b c) ≡ bit_xor (mul a b) (mul a c)
  pub unit : (a : ℕ) → a < 64 → mul 1 a ≡ a
  pub no_divisors : (a b : ℕ) → a < 64 → b < 64 → a ≢ 0 → mul a b ≡ 0 → b ≡ 0
  pub inverse : (a : ℕ) → a < 64 → a ≢ 0 → mul (inv a) a ≡ 1
