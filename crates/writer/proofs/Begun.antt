-- A type and a second written over zeros.
use Rattle.std.proofs.Common.{◌≡◌, ℕ, zero, suc, ◌-◌, ◌*◌, ◌<◌, List, ◌∷◌, ◌++◌, get_or, drop, replicate, refl, ap, ◌∙◌, arith, lit<}
use Rattle.std.proofs.lemmas.List.{drop-replicate, replicate-append-replicate}
use Rattle.bits.specs.Bits.{bits_of, pasted, spelled}
use Rattle.bits.proofs.Pasted.{pasted_more}
use Rattle.written.specs.Written.{start_bits}

bits_zeros : (n : ℕ) → bits_of (replicate n 0) ≡ replicate (6 * n) 0
bits_zeros zero = refl
bits_zeros (suc n) =
    ap (λ (l : List ℕ). 0 ∷ 0 ∷ 0 ∷ 0 ∷ 0 ∷ 0 ∷ l) (bits_zeros n)
    ∙ replicate-append-replicate 6 (6 * n) 0
    ∙ ap (λ (k : ℕ). replicate k 0) (omega arith)

pub zeros_small : (n k : ℕ) → get_or (replicate n 0) k 0 < 64
zeros_small zero k = lit< tt
zeros_small (suc n) zero = lit< tt
zeros_small (suc n) (suc k) = zeros_small n k

-- d is n symbols that are 0
pub begun : (d : List ℕ) (n t s : ℕ) → d ≡ replicate n 0 → n ≡ 162 → pasted (pasted (bits_of d) 0 (spelled 6 t)) 6 (spelled 20 s) ≡ start_bits t s
unfolding start_bits
begun d n t s e long =
    let rest : 6 * n - 26 ≡ 946 = omega arith in
    let zeros : drop 26 (bits_of d) ≡ replicate 946 0 =
    ap (λ (l : List ℕ). drop 26 (bits_of l)) e ∙ ap (drop 26) (bits_zeros n) ∙ drop-replicate 26 (6 * n) 0 ∙ ap (λ (k : ℕ). replicate k 0) rest in
    pasted_more (bits_of d) (spelled 6 t) (spelled 20 s) 0 (omega arith) ∙ ap (λ (l : List ℕ). spelled 6 t ++ (spelled 20 s ++ l)) zeros
