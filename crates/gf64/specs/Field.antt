-- The 64 symbols: sum by exclusive or, product modulo 1 + x + x^6.
use Rattle.std.specs.Prelude.{ℕ, zero, suc, ◌*◌, ◌/◌, ◌%◌, cond, List, [], ◌∷◌, bit_xor, nat_lt}

-- times x: where x^6 comes up, 1 + x + x^6 (67) is taken off
unfoldable pub times_x : ℕ → ℕ
times_x a = cond (nat_lt a 32) (a * 2) (bit_xor (a * 2) 67)

-- a, or 0 where the coefficient is 0
unfoldable pub scaled : ℕ → ℕ → ℕ
scaled zero a = 0
scaled (suc n) a = a

-- the product of a with the low n coefficients of b
unfoldable pub mul_low : ℕ → ℕ → ℕ → ℕ
mul_low zero a b = 0
mul_low (suc n) a b = bit_xor (scaled (b % 2) a) (times_x (mul_low n a (b / 2)))

-- the product of two symbols
unfoldable pub mul : ℕ → ℕ → ℕ
mul a b = mul_low 6 a b

unfoldable pub square : ℕ → ℕ
square a = mul a a

-- a^62, whose product with a is a^63
unfoldable pub inv : ℕ → ℕ
inv a =
    let a3 : ℕ = mul (square a) a in
    let a7 : ℕ = mul (square a3) a in
    let a15 : ℕ = mul (square a7) a in
    let a31 : ℕ = mul (square a15) a in
    square a31

-- the logarithm of each symbol to the base x, with 0 in the place of 0's
unfoldable pub logs : List ℕ
logs =
    0 ∷ 0 ∷ 1 ∷ 6 ∷ 2 ∷ 12 ∷ 7 ∷ 26 ∷ 3 ∷ 32 ∷ 13 ∷ 35 ∷ 8 ∷ 48 ∷ 27 ∷ 18 ∷ 4 ∷ 24 ∷ 33 ∷ 16 ∷ 14 ∷ 52 ∷ 36 ∷ 54 ∷
    9 ∷ 45 ∷ 49 ∷ 38 ∷ 28 ∷ 41 ∷ 19 ∷ 56 ∷ 5 ∷ 62 ∷ 25 ∷ 11 ∷ 34 ∷ 31 ∷ 17 ∷ 47 ∷ 15 ∷ 23 ∷ 53 ∷ 51 ∷ 37 ∷ 44 ∷ 55 ∷ 40 ∷
    10 ∷ 61 ∷ 46 ∷ 30 ∷ 50 ∷ 22 ∷ 39 ∷ 43 ∷ 29 ∷ 60 ∷ 42 ∷ 21 ∷ 20 ∷ 59 ∷ 57 ∷ 58 ∷ []

-- the powers of x, twice round
unfoldable pub exps : List ℕ
exps =
    1 ∷ 2 ∷ 4 ∷ 8 ∷ 16 ∷ 32 ∷ 3 ∷ 6 ∷ 12 ∷ 24 ∷ 48 ∷ 35 ∷ 5 ∷ 10 ∷ 20 ∷ 40 ∷ 19 ∷ 38 ∷ 15 ∷ 30 ∷ 60 ∷ 59 ∷ 53 ∷ 41 ∷
    17 ∷ 34 ∷ 7 ∷ 14 ∷ 28 ∷ 56 ∷ 51 ∷ 37 ∷ 9 ∷ 18 ∷ 36 ∷ 11 ∷ 22 ∷ 44 ∷ 27 ∷ 54 ∷ 47 ∷ 29 ∷ 58 ∷ 55 ∷ 45 ∷ 25 ∷ 50 ∷ 39 ∷
    13 ∷ 26 ∷ 52 ∷ 43 ∷ 21 ∷ 42 ∷ 23 ∷ 46 ∷ 31 ∷ 62 ∷ 63 ∷ 61 ∷ 57 ∷ 49 ∷ 33 ∷ 1 ∷ 2 ∷ 4 ∷ 8 ∷ 16 ∷ 32 ∷ 3 ∷ 6 ∷ 12 ∷
    24 ∷ 48 ∷ 35 ∷ 5 ∷ 10 ∷ 20 ∷ 40 ∷ 19 ∷ 38 ∷ 15 ∷ 30 ∷ 60 ∷ 59 ∷ 53 ∷ 41 ∷ 17 ∷ 34 ∷ 7 ∷ 14 ∷ 28 ∷ 56 ∷ 51 ∷ 37 ∷ 9 ∷
    18 ∷ 36 ∷ 11 ∷ 22 ∷ 44 ∷ 27 ∷ 54 ∷ 47 ∷ 29 ∷ 58 ∷ 55 ∷ 45 ∷ 25 ∷ 50 ∷ 39 ∷ 13 ∷ 26 ∷ 52 ∷ 43 ∷ 21 ∷ 42 ∷ 23 ∷ 46 ∷ 31 ∷
    62 ∷ 63 ∷ 61 ∷ 57 ∷ 49 ∷ 33 ∷ []
