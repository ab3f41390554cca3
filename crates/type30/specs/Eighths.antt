-- The coefficients of the ionosphere in eighths of a TECu.
use Rattle.std.specs.Prelude.{ℕ, cond, ℤ, pos, ◌-ℤ◌, ◌==◌}

-- coefficient 5 is sent with the factor -1
abbrev pub eighths_of : ℕ → ℤ → ℤ
eighths_of k z = cond (k == 5) (pos 0 -ℤ z) z
