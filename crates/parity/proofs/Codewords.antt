-- No fault is found exactly in the code words.
use Rattle.std.proofs.Common.{◌≡◌, ℕ, ◌<◌, ◌≤◌, Bool, true, false, cond, eqb, List, length, get_or, take, Some, None, Option, refl, ap, ◌∙◌, inl, inr, arith}
use Rattle.std.proofs.lemmas.List.{length-take-le}
use Rattle.std.proofs.lemmas.Bool.{cases_lt, eq-eqb, eqb-true, le-leb}
use Rattle.std.specs.Option.{option_map}
use Rattle.parity.specs.Bytes.{first, is_symbol, symbol_fault, is_zero_sum, first_nonzero}
use Rattle.parity.specs.Code.{SymbolList, Codeword, factors_of, row_sum, sym_at, weighted}
use Rattle.parity.specs.Table.{bcnav3}
use Rattle.parity.specs.declared.SymbolFault.{SymbolFault}
use Rattle.parity.specs.declared.SymbolFault.TheVariants.{Length, Byte}
use Rattle.parity.proofs.Firsts.{first_none, first_all}
use Rattle.parity.proofs.Rows.{rows_81, row_past}
use Rattle.parity.proofs.Small.{all_small, take_small}

-- of bytes of the right length
pub by_byte : (n : ℕ) (w : List ℕ) (o : Option ℕ) → length w ≡ n → first n (is_symbol w) ≡ o → symbol_fault n w ≡ option_map Byte o
by_byte n w o l e =
    ap (λ b. cond b (option_map Byte (first n (is_symbol w))) (Some Length)) (eq-eqb (length w) n l) ∙ ap (option_map Byte) e

passed : (b : Bool) (o : Option SymbolFault) → cond b o (Some Length) ≡ None → (b ≡ true) × (o ≡ None)
passed true o e = (refl, e)
passed false o e = let z : ◌≡◌ {A = ℕ} 0 1 = cc in absurd (omega arith)

unmapped : (o : Option ℕ) → option_map Byte o ≡ None → o ≡ None
unmapped None e = refl
unmapped (Some x) e = let z : ◌≡◌ {A = ℕ} 0 1 = cc in absurd (omega arith)

symbol_list_of : (n : ℕ) (w : List ℕ) → symbol_fault n w ≡ None → SymbolList n w
symbol_list_of n w e =
    let p = passed (eqb (length w) n) (option_map Byte (first n (is_symbol w))) e in
    let l = eqb-true (length w) n p.0 in
    record { long = l; small = all_small w n l (first_all (is_symbol w) n (unmapped (first n (is_symbol w)) p.1)) }

pub of_symbols : (n : ℕ) (w : List ℕ) → SymbolList n w → symbol_fault n w ≡ None
of_symbols n w s =
    by_byte n w None s.long
    (first_none (is_symbol w) n (λ k l. let h : get_or w k 0 ≤ 63 = omega (arith, s.small k) in le-leb (get_or w k 0) 63 h))

zero_sums : (w : List ℕ) → first_nonzero w ≡ None → (r : ℕ) → r < length bcnav3.places → row_sum bcnav3 r w ≡ 0
zero_sums w e r h = eqb-true (row_sum bcnav3 r w) 0 (first_all (is_zero_sum w) 81 e r (omega (arith, rows_81)))

of_zero_sums : (w : List ℕ) → Codeword bcnav3 w → first_nonzero w ≡ None
of_zero_sums w c = first_none (is_zero_sum w) 81 (λ r h. eq-eqb (row_sum bcnav3 r w) 0 (c.sums r (omega (arith, rows_81))))

-- past the last row too
pub every_sum : (w : List ℕ) → Codeword bcnav3 w → (r : ℕ) → row_sum bcnav3 r w ≡ 0
unfolding weighted
every_sum w c r =
    elim (cases_lt r 81) [
      | inl h ↦ c.sums r (omega (arith, rows_81))
      | inr h ↦ ap (λ ps. weighted ps (factors_of bcnav3 r) (sym_at w)) (row_past r h)
    ]

-- of a word
pub none_codeword : (w : List ℕ) → SymbolList 162 w → first_nonzero w ≡ None → Codeword bcnav3 w
none_codeword w s e = record { word = s; sums = zero_sums w e }

pub codeword_of : (w : List ℕ) → symbol_fault 162 w ≡ None → first_nonzero w ≡ None → Codeword bcnav3 w
codeword_of w e f = none_codeword w (symbol_list_of 162 w e) f

pub of_codeword : (w : List ℕ) → Codeword bcnav3 w → (symbol_fault 162 w ≡ None) × (first_nonzero w ≡ None)
of_codeword w c = (of_symbols 162 w c.word, of_zero_sums w c)

-- the message of a word
pub take_symbols : (w : List ℕ) → SymbolList 162 w → SymbolList 81 (take 81 w)
take_symbols w s = record { long = length-take-le 81 w (omega (arith, s.long)); small = take_small w 81 s.small }
