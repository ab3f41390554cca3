-- The rule of the erasure decoder, shown whole.
use Rattle.std.specs.Prelude.{◌≡◌, ℕ, List, length, Some, None, Option, refl, Float}
use Rattle.std.proofs.Common.{sym, ap, subst}
use Rattle.std.specs.Option.{option_or}
use Rattle.parity.specs.Sound.{Near}
use Rattle.parity.specs.Table.{bcnav3}
use Rattle.levels.specs.Faults.{level_fault}
use Rattle.levels.specs.Hard.{hard}
use Rattle.levels.proofs.Faults.{legal_levels}
use Rattle.correction.specs.Erasures.{filled, Outside}
use Rattle.correction.specs.Search.{Only}
use Rattle.correction.proofs.Filling.{filled_only}
use Rattle.decoders.specs.Reach.{Reach}
use Rattle.single_error.specs.Rule.{single_error_rule}
use Rattle.single_error.specs.Only.{hard_word, only_gives, only_holds, single_only, single_size}
use Rattle.weakness.specs.Weakness.{weakest_of, weakness, Weakest}
use Rattle.weakness.proofs.Sizes.{weakest_is}
use Rattle.erasure.specs.Rule.{erasure, Erasure}

-- what is filled in at the two weakest places
filled_in : (xs : List Float) → level_fault 972 xs ≡ None → (p q : ℕ) → Weakest (weakness xs) p q
    → Only (Outside bcnav3 (hard xs) p q) (filled (hard xs) (weakest_of xs).0 (weakest_of xs).1)
filled_in xs legal p q u =
    subst (λ w. Only (Outside bcnav3 (hard xs) p q) (filled (hard xs) w.0 w.1)) (weakest_is xs (legal_levels 972 xs legal) (p, q) u)
    (filled_only (hard xs) p q (hard_word xs legal))

-- where the single-error decoder gives nothing
none_single : (xs : List Float) → level_fault 972 xs ≡ None → ((v : List ℕ) → Near bcnav3 (hard xs) v → ⊥) → single_error_rule xs ≡ None
none_single xs legal none = go (single_error_rule xs) refl
  where
    go : (o : Option (List ℕ)) → single_error_rule xs ≡ o → single_error_rule xs ≡ None
    go None e = e
    go (Some v) e = absurd (none v (only_holds _ (single_error_rule xs) v (single_only xs legal) e))

pub erasure_whole : (xs : List Float) → level_fault 972 xs ≡ None → Erasure xs (erasure xs)
erasure_whole xs legal =
    let other : Option (List ℕ) = filled (hard xs) (weakest_of xs).0 (weakest_of xs).1 in
    record {
      near = λ v h. ap (λ o. option_or o other) (only_gives _ (single_error_rule xs) v (single_only xs legal) h);
      outside = λ none p q u. subst (λ o. Only (Outside bcnav3 (hard xs) p q) (option_or o other)) (sym (none_single xs legal none)) (filled_in xs legal p q u);
    }

pub erasure_reach : Reach erasure
erasure_reach = record { gives = λ xs w legal h. (erasure_whole xs legal).near w h }

either : (P : List ℕ → Type 0) (o q : Option (List ℕ)) (w : List ℕ) → ((v : List ℕ) → o ≡ Some v → P v) → ((v : List ℕ) → q ≡ Some v → P v)
    → option_or o q ≡ Some w → P w
either P None q w f g e = g w e
either P (Some v) q w f g e = f w e

pub erasure_size : (xs : List Float) (w : List ℕ) → level_fault 972 xs ≡ None → erasure xs ≡ Some w → length w ≡ 162
erasure_size xs w legal e =
    let p : ℕ = (weakest_of xs).0 in
    let q : ℕ = (weakest_of xs).1 in
    either (λ v. length v ≡ 162) (single_error_rule xs) (filled (hard xs) p q) w (λ v. single_size xs v legal)
    (λ v f. (only_holds _ (filled (hard xs) p q) v (filled_only (hard xs) p q (hard_word xs legal)) f).codeword.word.long) e
