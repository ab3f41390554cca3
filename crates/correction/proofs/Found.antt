-- What a search among candidates gives.
use Rattle.std.proofs.Common.{◌≡◌, ℕ, ◌<◌, false, List, is_some, Some, None, Option, refl, ap, subst, arith}
use Rattle.std.proofs.lemmas.Bool.{both_ways}
use Rattle.std.specs.Option.{option_map}
use Rattle.parity.specs.Bytes.{first, first_nonzero}
use Rattle.parity.specs.Code.{Codeword, SymbolList}
use Rattle.parity.specs.Table.{bcnav3}
use Rattle.parity.proofs.Codewords.{none_codeword, of_codeword}
use Rattle.parity.proofs.Firsts.{first_all, first_some}
use Rattle.correction.specs.Search.{first_codeword, Only}

-- P says at most one answer
pub only_same : (P : List ℕ → Type 0) (o q : Option (List ℕ)) → Only P o → Only P q → o ≡ q
only_same P None None h g = refl
only_same P None (Some v) h g = absurd (h v g.0)
only_same P (Some u) None h g = absurd (g u h.0)
only_same P (Some u) (Some v) h g = ap Some (g.1 u h.0)

-- v is one of the first n candidates, and a code word
pub record Among (n : ℕ) (at : ℕ → List ℕ) (v : List ℕ) : Type 0 where
  pub number : ℕ
  pub low : number < n
  pub is : v ≡ at number
  pub codeword : Codeword bcnav3 v

none_of : (o : Option ℕ) → is_some o ≡ false → o ≡ None
none_of None e = refl
none_of (Some k) e = let z : ◌≡◌ {A = ℕ} 0 1 = cc in absurd (omega arith)

module _ (P : List ℕ → Type 0) (n : ℕ) (at : ℕ → List ℕ) (words : (k : ℕ) → k < n → SymbolList 162 (at k))
    (right : (k : ℕ) → k < n → Codeword bcnav3 (at k) → P (at k)) (among : (v : List ℕ) → P v → Among n at v)
    (one : (u v : List ℕ) → P u → P v → u ≡ v) where
  given_by : (o : Option ℕ) → first n (λ k. is_some (first_nonzero (at k))) ≡ o → Only P (option_map at o)
  given_by None e = λ v h.
      let a = among v h in
      let none = (of_codeword (at a.number) (subst (Codeword bcnav3) a.is a.codeword)).1 in
      both_ways (is_some (first_nonzero (at a.number))) (ap is_some none) (first_all _ n e a.number a.low)
  given_by (Some k) e =
      let f = first_some _ n k e in
      let h = right k f.0 (none_codeword (at k) (words k f.0) (none_of (first_nonzero (at k)) f.1)) in
      (h, λ u g. one u (at k) g h)

  -- where the candidates that are code words are just the lists with P, of which there is at most one
  pub first_codeword_only : Only P (first_codeword n at)
  unfolding first_codeword
  first_codeword_only = given_by (first n (λ k. is_some (first_nonzero (at k)))) refl
