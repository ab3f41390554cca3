-- What follows for a rule that gives the only list with a property, and the rule of the single-error decoder.
use Rattle.std.specs.Prelude.{◌≡◌, ℕ, List, length, Some, None, Option, Float}
use Rattle.std.proofs.Common.{sym, ap, subst}
use Rattle.parity.specs.Code.{SymbolList}
use Rattle.parity.specs.Sound.{Near}
use Rattle.parity.specs.Table.{bcnav3}
use Rattle.levels.specs.Faults.{level_fault}
use Rattle.levels.specs.Hard.{hard}
use Rattle.levels.proofs.Faults.{length_levels}
use Rattle.levels.proofs.Hard.{hard_symbols}
use Rattle.correction.specs.Search.{Only}
use Rattle.correction.proofs.Trials.{corrected_only}
use Rattle.decoders.specs.Reach.{Reach}
use Rattle.single_error.specs.Rule.{single_error_rule}

pub only_gives : (P : List ℕ → Type 0) (o : Option (List ℕ)) (v : List ℕ) → Only P o → P v → o ≡ Some v
only_gives P None v h p = absurd (h v p)
only_gives P (Some u) v h p = ap Some (sym (h.1 v p))

pub only_holds : (P : List ℕ → Type 0) (o : Option (List ℕ)) (v : List ℕ) → Only P o → o ≡ Some v → P v
only_holds P o v h e = (subst (Only P) e h).0

pub hard_word : (xs : List Float) → level_fault 972 xs ≡ None → SymbolList 162 (hard xs)
hard_word xs legal = hard_symbols 162 xs (length_levels 972 xs legal)

pub single_only : (xs : List Float) → level_fault 972 xs ≡ None → Only (Near bcnav3 (hard xs)) (single_error_rule xs)
single_only xs legal = corrected_only (hard xs) (hard_word xs legal)

pub single_reach : Reach single_error_rule
single_reach = record { gives = λ xs w legal near. only_gives _ (single_error_rule xs) w (single_only xs legal) near }

pub single_size : (xs : List Float) (w : List ℕ) → level_fault 972 xs ≡ None → single_error_rule xs ≡ Some w → length w ≡ 162
single_size xs w legal e = (only_holds _ (single_error_rule xs) w (single_only xs legal) e).codeword.word.long
