-- Why bytes are not symbols, and which row of a word is the first with a sum that is not 0.
use Rattle.std.specs.Prelude.{◌≡◌, ℕ, zero, suc, Bool, cond, List, length, Some, None, Option, Result, MatchResult, ◌==◌, nat_le, slice_index}
use Rattle.std.specs.Option.{option_map}
use Rattle.parity.specs.Code.{row_sum}
use Rattle.parity.specs.Table.{bcnav3}
use Rattle.parity.specs.declared.SymbolFault.{SymbolFault}
use Rattle.parity.specs.declared.SymbolFault.TheVariants.{Length, Byte}

-- a value with P where there is no fault, and otherwise the fault
abbrev pub OkUnless : {A E : Type 0} → Option E → (A → Type 0) → Result A E → Type 0
OkUnless fault P r = MatchResult r (λ x. P x × (fault ≡ None)) (λ e. fault ≡ Some e)

-- of the n numbers from i on, the first that fails the test
unfoldable pub first_from : ℕ → ℕ → (ℕ → Bool) → Option ℕ
first_from i zero p = None
first_from i (suc n) p = cond (p i) (first_from (suc i) n p) (Some i)

-- the first number below n that fails the test
abbrev pub first : ℕ → (ℕ → Bool) → Option ℕ
first n p = first_from 0 n p

abbrev pub is_symbol : List ℕ → ℕ → Bool
is_symbol w k = nat_le (slice_index w k) 63

-- the length first, then the first byte above 63
abbrev pub symbol_fault : ℕ → List ℕ → Option SymbolFault
symbol_fault n w = cond (length w == n) (option_map Byte (first n (is_symbol w))) (Some Length)

abbrev pub is_zero_sum : List ℕ → ℕ → Bool
is_zero_sum w r = row_sum bcnav3 r w == 0

abbrev pub first_nonzero : List ℕ → Option ℕ
first_nonzero w = first 81 (is_zero_sum w)
