-- Against whole eighths the score is exact.
use Rattle.std.proofs.Common.{◌≡◌, ℕ, suc, ◌+◌, ◌*◌, ◌^◌, ◌<◌, ◌≤◌, max, Bool, true, false, cond, eqb, List, [], ◌∷◌, length, ℤ, nat_abs, IfOk, Some, None, Ok, Err, fold, Option, Result, sym, refl, subst, arith, lit<}
use lib.Ieee.{Float, binary32, add}
use lib.Ieee.Exact.{HasValue}
use Rattle.std.proofs.lemmas.Bool.{eqb-true}
use Rattle.std.specs.Float.{float_max, float_zero}
use Rattle.bits.proofs.Symbols.{length_bits}
use Rattle.bits.specs.Bits.{bits_of}
use Rattle.parity.specs.Bytes.{symbol_fault}
use Rattle.parity.specs.declared.SymbolFault.{SymbolFault}
use Rattle.parity.specs.declared.SymbolFault.TheVariants.{Length}
use Rattle.levels.proofs.Faults.{legal_levels, length_levels}
use Rattle.levels.specs.Faults.{level_fault, LegalBelow}
use Rattle.parity.specs.Bytes.{OkUnless}
use Rattle.levels.specs.declared.fault.LevelFault.{LevelFault}
use Rattle.scores.specs.Faults.{in_turn, score_fault}
use Rattle.scores.specs.Scored.{score_of, squares}
use Rattle.scores.specs.Whole.{whole_squares, Eighths, Exact}
use Rattle.scores.specs.declared.Score.{Score}
use Rattle.scores.specs.declared.fault.ScoreFault.{ScoreFault}
use Rattle.scores.specs.declared.fault.ScoreFault.TheVariants.{Symbols}
use Rattle.scores.proofs.Eighths.{legal_eighth, square_is, square_le}
use Rattle.scores.proofs.Order.{most_values}
use Rattle.scores.proofs.Values.{add_exact}

-- the floats are ns sixty-fourths, one by one, each at most 25
abbrev Are : List Float → List ℕ → Type 0
Are [] [] = Unit {0}
Are [] (n ∷ ns) = ⊥
Are (p ∷ ps) [] = ⊥
Are (p ∷ ps) (n ∷ ns) = HasValue p false n 64 × (n ≤ 1600) × Are ps ns

squares_are : (xs : List Float) (ks : List ℤ) (bs : List ℕ) → LegalBelow xs (length xs) → Eighths xs ks
    → Are (squares xs bs) (whole_squares ks bs)
unfolding squares whole_squares
squares_are [] [] bs l e = tt
squares_are [] (k ∷ ks) bs l e = absurd e
squares_are (x ∷ xs) [] bs l e = absurd e
squares_are (x ∷ xs) (k ∷ ks) [] l e = tt
squares_are (x ∷ xs) (k ∷ ks) (b ∷ bs) l e =
    let h : nat_abs k ≤ 32 = legal_eighth x k (l 0 (omega arith)) e.0 in
    (square_is x k b e.0 h, square_le k b h, squares_are xs ks bs (λ i g. l (suc i) (omega arith)) e.1)

length_whole : (ks : List ℤ) (bs : List ℕ) → length (whole_squares ks bs) ≤ length bs
unfolding whole_squares
length_whole [] bs = omega arith
length_whole (k ∷ ks) [] = omega arith
length_whole (k ∷ ks) (b ∷ bs) = omega (arith, length_whole ks bs)

sum_exact : (ps : List Float) (ns : List ℕ) (s : Float) (a : ℕ) → Are ps ns → a + 1600 * length ns < 2 ^ 24 → HasValue s false a 64
    → HasValue (fold (add binary32) s ps) false (fold (λ a n. a + n) a ns) 64
sum_exact [] [] s a e h v = v
sum_exact [] (n ∷ ns) s a e h v = absurd e
sum_exact (p ∷ ps) [] s a e h v = absurd e
sum_exact (p ∷ ps) (n ∷ ns) s a e h v =
    sum_exact ps ns (add binary32 s p) (a + n) e.2 (omega (arith, e.1)) (add_exact s p a n v e.0 (omega (arith, e.1)))

largest_exact : (ps : List Float) (ns : List ℕ) (m : Float) (a : ℕ) → Are ps ns → HasValue m false a 64
    → HasValue (fold float_max m ps) false (fold max a ns) 64
largest_exact [] [] m a e v = v
largest_exact [] (n ∷ ns) m a e v = absurd e
largest_exact (p ∷ ps) [] m a e v = absurd e
largest_exact (p ∷ ps) (n ∷ ns) m a e v = largest_exact ps ns (float_max m p) (max a n) e.2 (most_values m p a n 64 (lit< tt) v e.0)

-- ---- a score that is not refused

passed : (b : Bool) (o : Option LevelFault) (p : Option SymbolFault) → cond b (in_turn o p) (Some (Symbols Length)) ≡ None
    → (b ≡ true) × (o ≡ None)
passed true None p e = (refl, refl)
passed true (Some f) p e = absurd (cc)
passed false o p e = absurd (cc)

score_exact : (xs : List Float) (w : List ℕ) → score_fault xs w ≡ None → Exact xs w (score_of xs w)
score_exact xs w e =
    let bs = bits_of w in
    let both = passed (eqb (length w) 162) (level_fault 972 xs) (symbol_fault 162 w) e in
    let long : length xs ≡ 972 = length_levels 972 xs both.1 in
    let legal = subst (LegalBelow xs) (sym long) (legal_levels 972 xs both.1) in
    let bits : length bs ≡ 972 = omega (arith, length_bits w, eqb-true (length w) 162 both.0) in
    record {
      total = λ ks h. sum_exact (squares xs bs) (whole_squares ks bs) float_zero 0 (squares_are xs ks bs legal h) (omega (arith, length_whole ks bs)) (refl, refl);
      largest = λ ks h. largest_exact (squares xs bs) (whole_squares ks bs) float_zero 0 (squares_are xs ks bs legal h) (refl, refl);
    }

pub exact_from_cases : (xs : List Float) (w : List ℕ) (r : Result Score ScoreFault)
    → OkUnless (score_fault xs w) (λ s. s ≡ score_of xs w) r → IfOk r (Exact xs w)
exact_from_cases xs w (Ok s) h = subst (Exact xs w) (sym h.0) (score_exact xs w h.1)
exact_from_cases xs w (Err e) h = tt
