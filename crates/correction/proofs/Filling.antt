-- Two symbols from the row sums, and that a word has at most one code word outside two places.
use Rattle.std.proofs.Common.{◌≡◌, ℕ, suc, ◌+◌, ◌*◌, ◌/◌, ◌%◌, ◌<◌, true, false, ◌≢◌, ◌⊎◌, List, length, get_or, set, sym, ap, ◌∙◌, subst, ap₂, inl, inr, arith}
use mathlib.Core.Path.{subst⁻¹}
use lib.Bits.{bit_xor, xor_comm, xor_self, xor_zero_l, xor_zero_r}
use Rattle.std.proofs.lemmas.List.{get_or_past, get_or-set_other, length-set}
use Rattle.std.proofs.lemmas.Bool.{both_ways, cases_eq, cases_lt}
use Rattle.gf64.specs.Field.{mul, inv}
use Rattle.gf64.proofs.Laws.{mul_inv_off, xor_small}
use Rattle.parity.specs.Code.{Code, Codeword, SymbolList, altered, factor_in, factor_of, factors_of, places_of, row_sum, sym_at, weighted}
use Rattle.parity.specs.Sound.{Sound, absent}
use Rattle.parity.specs.Table.{bcnav3}
use Rattle.parity.proofs.Distance.{apart}
use Rattle.parity.proofs.Small.{set_symbols}
use Rattle.parity.proofs.Sound.{sound}
use Rattle.parity.proofs.Split.{splits}
use Rattle.parity.proofs.Weights.{factor_absent, factor_in_lt, factor_present, sum_at, weighted_xor}
use Rattle.correction.specs.Erasures.{OneOutside, Outside, Solves, Tells, filled, rewritten}
use Rattle.correction.specs.Search.{Only}
use Rattle.correction.proofs.Agree.{set_both, xor_back}
use Rattle.correction.proofs.Found.{Among, first_codeword_only}

pub one_outside : (c : Code) → Sound c → OneOutside c
one_outside c s w p q u v ou ov =
    apart c s u v ou.codeword ov.codeword p q (λ k np nq. sym (ou.same k np nq) ∙ ov.same k np nq)

-- ---- the words with two symbols written anew

rewritten_symbols : (w : List ℕ) (p q n : ℕ) → SymbolList 162 w → n < 4096 → SymbolList 162 (rewritten w p q n)
rewritten_symbols w p q n s h =
    set_symbols 162 (set w p (n / 64)) q (n % 64) (set_symbols 162 w p (n / 64) s (omega arith)) (omega arith)

set_outside : (w : List ℕ) (p q x y : ℕ) → Codeword bcnav3 (set (set w p x) q y) → Outside bcnav3 w p q (set (set w p x) q y)
set_outside w p q x y c =
    record {
      codeword = c;
      long = sym (length-set (set w p x) q y ∙ length-set w p x);
      same = λ k np nq. sym (get_or-set_other (set w p x) q k y 0 nq ∙ get_or-set_other w p k x 0 np);
    }

outside_rewritten : (w : List ℕ) (p q : ℕ) (v : List ℕ) → Outside bcnav3 w p q v → Among 4096 (rewritten w p q) v
outside_rewritten w p q v o =
    let x : ℕ = get_or v p 0 in
    let y : ℕ = get_or v q 0 in
    let hx : x < 64 = o.codeword.word.small p in
    let hy : y < 64 = o.codeword.word.small q in
    let e : (64 * x + y) / 64 ≡ x = omega arith in
    let f : (64 * x + y) % 64 ≡ y = omega arith in
    record {
      number = 64 * x + y;
      low = omega arith;
      is = set_both w v p q o.long o.same ∙ ap₂ (λ i j. set (set w p i) q j) (sym e) (sym f);
      codeword = o.codeword;
    }

pub filled_only : (w : List ℕ) (p q : ℕ) → SymbolList 162 w → Only (Outside bcnav3 w p q) (filled w p q)
unfolding filled
filled_only w p q s =
    first_codeword_only (Outside bcnav3 w p q) 4096 (rewritten w p q) (λ k h. rewritten_symbols w p q k s h)
    (λ k h c. set_outside w p q (k / 64) (k % 64) c) (outside_rewritten w p q) (one_outside bcnav3 sound w p q)

-- ---- what a row tells

-- in any code with a sound table, by a row with p and without q: its sum over the factor of p
pub row_solves : (c : Code) → Sound c → (w : List ℕ) → SymbolList c.size w → (p q r : ℕ) → r < length c.places → Tells c p q r
    → Solves c w p q (mul (inv (factor_of c r p)) (row_sum c r w))
row_solves c s w sw p q r h t v o =
    let ps = places_of c r in
    let fs = factors_of c r in
    let f : ℕ = factor_in p ps fs in
    let row = s.rows r h in
    let d : ℕ → ℕ = λ k. bit_xor (sym_at v k) (sym_at w k) in
    let small : d p < 64 = xor_small (sym_at v p) (sym_at w p) (o.codeword.word.small p) (sw.small p) in
    let lacks : (k : ℕ) → absent k ps ≡ false → k ≢ p → k ≢ q =
    λ k e n i. elim t.alone [
      | inl j ↦ n (i ∙ sym j)
      | inr z ↦ both_ways (absent k ps) e (ap (λ j. absent j ps) i ∙ factor_present q ps fs row.even row.nonzero z)
    ] in
    let off : (k : ℕ) → absent k ps ≡ false → k ≢ p → d k ≡ 0 =
    λ k e n. ap (bit_xor (sym_at v k)) (o.same k n (lacks k e n)) ∙ xor_self (sym_at v k) in
    let sums : weighted ps fs d ≡ row_sum c r w =
    weighted_xor ps fs (sym_at v) (sym_at w) o.codeword.word.small sw.small row.nonzero
    ∙ ap (λ z. bit_xor z (row_sum c r w)) (o.codeword.sums r h) ∙ xor_zero_l (row_sum c r w) in
    let e : mul (inv f) (row_sum c r w) ≡ d p =
    ap (mul (inv f)) (sym sums ∙ sum_at p ps fs d row.even row.nonzero row.once small off)
    ∙ mul_inv_off f (d p) (factor_in_lt p ps fs row.nonzero) small t.has in
    sym (ap (bit_xor (sym_at w p)) (e ∙ xor_comm (sym_at v p) (sym_at w p)) ∙ xor_back (sym_at w p) (sym_at v p))

-- some row tells, where the place is in the word
some_row : (c : Code) → Sound c → (p q : ℕ) → p < c.size → ((r : ℕ) → r < length c.places → Tells c p q r → ⊥) → ⊥
some_row c s p q h none =
    elim (cases_eq p q) [
      | inl e ↦ by_row (suc p) (omega arith) (λ r a. inl e)
      | inr n ↦ by_row q n (λ r a. inr (factor_absent q (places_of c r) (factors_of c r) a))
    ]
  where
    by_row : (y : ℕ) → p ≢ y → ((r : ℕ) → absent y (places_of c r) ≡ true → (p ≡ q) ⊎ (factor_of c r q ≡ 0)) → ⊥
    by_row y n alone =
        let x = splits c s p y h n in
        let row = s.rows x.row x.low in
        none x.row x.low (record {
          has = λ e. both_ways (absent p (places_of c x.row)) x.has (factor_present p (places_of c x.row) (factors_of c x.row) row.even row.nonzero e);
          alone = alone x.row x.lacks;
        })

-- where no row tells, the place is past the end
pub none_solves : (c : Code) → Sound c → (w : List ℕ) → SymbolList c.size w → (p q : ℕ)
    → ((r : ℕ) → r < length c.places → Tells c p q r → ⊥) → Solves c w p q 0
none_solves c s w sw p q none v o =
    elim (cases_lt p c.size) [
      | inl h ↦ absurd (some_row c s p q h none)
      | inr h ↦ get_or_past v p 0 (omega (arith, sw.long, o.long)) ∙ sym (xor_zero_r (sym_at w p) ∙ get_or_past w p 0 (omega (arith, sw.long)))
    ]

-- ---- both symbols

-- a code word that agrees with w outside p and q can only be z
pub record Solved (w : List ℕ) (p q : ℕ) (z : List ℕ) : Type 0 where
  pub outside : Codeword bcnav3 z → Outside bcnav3 w p q z
  pub only : (v : List ℕ) → Outside bcnav3 w p q v → v ≡ z

-- x solves p, which gives u, and there y solves q, which gives z
pub both_solved : (w u z : List ℕ) (p q x y : ℕ) → u ≡ altered w p x → z ≡ altered u q y → Solves bcnav3 w p q x → Solves bcnav3 u q p y
    → Solved w p q z
both_solved w u z p q x y eu ez sx sy =
    let is : z ≡ set (set w p (bit_xor (sym_at w p) x)) q (bit_xor (sym_at u q) y) =
    ez ∙ ap (λ l. set l q (bit_xor (sym_at u q) y)) eu in
    let later : (v : List ℕ) → Outside bcnav3 w p q v → Outside bcnav3 u q p v =
    λ v o. record {
      codeword = o.codeword;
      long = ap length eu ∙ length-set w p _ ∙ o.long;
      same = λ k nq np. ap (λ l. sym_at l k) eu ∙ get_or-set_other w p k _ 0 np ∙ o.same k np nq;
    } in
    record {
      outside = λ c. subst⁻¹ (Outside bcnav3 w p q) is (set_outside w p q _ _ (subst (Codeword bcnav3) is c));
      only = λ v o. set_both w v p q o.long o.same ∙ ap₂ (λ i j. set (set w p i) q j) (sx v o) (sy v (later v o)) ∙ sym is;
    }
