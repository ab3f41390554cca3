-- The trials of single changes, and that a word has at most one code word near it.
use Rattle.std.proofs.Common.{◌≡◌, ℕ, zero, suc, ◌+◌, ◌*◌, ◌/◌, ◌%◌, ◌<◌, List, get_or, set, Some, None, Option, sym, refl, ap, ◌∙◌, subst, ap₂, inl, inr, arith, lit<}
use mathlib.Core.Path.{subst⁻¹}
use lib.Bits.{bit_xor}
use Rattle.std.proofs.lemmas.List.{length-set, set-get_or, set_past}
use Rattle.std.proofs.lemmas.Bool.{cases_eq, cases_lt}
use Rattle.gf64.proofs.Laws.{xor_small}
use Rattle.parity.specs.Code.{Code, Codeword, SymbolList, altered, sym_at}
use Rattle.parity.specs.Sound.{Sound}
use Rattle.parity.specs.Table.{bcnav3}
use Rattle.parity.proofs.Distance.{apart, xor_eq}
use Rattle.parity.proofs.Places.{single, differences_none, differences_set}
use Rattle.parity.proofs.Small.{set_symbols}
use Rattle.parity.proofs.Sound.{sound}
use Rattle.correction.specs.Search.{Only}
use Rattle.correction.specs.Single.{Near, OneNear, Stops, corrected, trial}
use Rattle.correction.proofs.Agree.{set_one, xor_back}
use Rattle.correction.proofs.Found.{Among, first_codeword_only}

pub one_near : (c : Code) → Sound c → OneNear c
one_near c s w u v nu nv =
    let a = single w u nu.long nu.few in
    let b = single w v nv.long nv.few in
    apart c s u v nu.codeword nv.codeword a.place b.place (λ k p q. sym (a.rest k p) ∙ b.rest k q)

-- ---- trials

pub trial_zero : (w : List ℕ) → trial w 0 ≡ w
trial_zero w = refl

pub trial_at : (w : List ℕ) (p x : ℕ) → 0 < x → x < 64 → trial w (63 * p + x) ≡ altered w p x
trial_at w p zero low high = absurd (omega arith)
trial_at w p (suc y) low high =
    let e : 63 * p + suc y ≡ suc (63 * p + y) = omega arith in
    let q : (63 * p + y) / 63 ≡ p = omega arith in
    let r : (63 * p + y) % 63 ≡ y = omega arith in
    ap (trial w) e ∙ ap₂ (λ i j. altered w i (suc j)) q r

trial_symbols : (w : List ℕ) (n : ℕ) → SymbolList 162 w → SymbolList 162 (trial w n)
trial_symbols w zero s = s
trial_symbols w (suc n) s =
    set_symbols 162 w (n / 63) _ s (xor_small (sym_at w (n / 63)) (suc (n % 63)) (s.small (n / 63)) (omega arith))

trial_near : (w : List ℕ) (n : ℕ) → Codeword bcnav3 (trial w n) → Near bcnav3 w (trial w n)
trial_near w zero c = record { codeword = c; long = refl; few = omega (arith, differences_none w) }
trial_near w (suc n) c = record { codeword = c; long = sym (length-set w (n / 63) _); few = differences_set w (n / 63) _ }

-- a code word near w is a trial
near_trial : (w : List ℕ) → SymbolList 162 w → (v : List ℕ) → Near bcnav3 w v → Among 10207 (trial w) v
near_trial w s v n =
    let a = single w v n.long n.few in
    let p : ℕ = a.place in
    let x : ℕ = bit_xor (get_or w p 0) (get_or v p 0) in
    let e : v ≡ set w p (get_or v p 0) = set_one w v p n.long a.rest in
    let itself : v ≡ w → Among 10207 (trial w) v =
    λ q. record { number = 0; low = lit< tt; is = q ∙ sym (trial_zero w); codeword = n.codeword } in
    elim (cases_lt p 162) [
      | inl h ↦ elim (cases_eq x 0) [
        | inl z ↦ itself (e ∙ ap (set w p) (sym (xor_eq (get_or w p 0) (get_or v p 0) z)) ∙ set-get_or w p 0)
        | inr z ↦
            let high : x < 64 = xor_small (get_or w p 0) (get_or v p 0) (s.small p) (n.codeword.word.small p) in
            record {
              number = 63 * p + x;
              low = omega arith;
              is = e ∙ ap (set w p) (sym (xor_back (get_or w p 0) (get_or v p 0))) ∙ sym (trial_at w p x (omega arith) high);
              codeword = n.codeword;
            }
      ]
      | inr h ↦ itself (e ∙ set_past w p (get_or v p 0) (omega (arith, s.long)))
    ]

-- ---- where a search stops

pub stops_only : (w : List ℕ) → SymbolList 162 w → (n : ℕ) (o : Option (List ℕ)) → Stops w n o → Only (Near bcnav3 w) o
stops_only w s n None h = λ v near.
    let a = near_trial w s v near in h.0 a.number a.low (subst (Codeword bcnav3) a.is a.codeword)
stops_only w s n (Some v) h =
    let near : Near bcnav3 w v =
    subst⁻¹ (Near bcnav3 w) h.is (trial_near w n (subst (Codeword bcnav3) h.is h.codeword)) in
    (near, λ u g. one_near bcnav3 sound w u v g near)

pub corrected_only : (w : List ℕ) → SymbolList 162 w → Only (Near bcnav3 w) (corrected w)
unfolding corrected
corrected_only w s =
    first_codeword_only (Near bcnav3 w) 10207 (trial w) (λ k h. trial_symbols w k s) (λ k h c. trial_near w k c) (near_trial w s)
    (one_near bcnav3 sound w)
