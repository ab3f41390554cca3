-- Levels that are not refused.
use Rattle.std.proofs.Common.{◌≡◌, ℕ, Bool, true, false, cond, eqb, List, length, Some, None, Option, refl, subst}
use lib.Ieee.{Float}
use Rattle.std.proofs.lemmas.Bool.{eqb-true}
use Rattle.std.specs.Option.{option_map}
use Rattle.parity.proofs.Firsts.{first_all}
use Rattle.levels.specs.Faults.{first_illegal, is_legal, level_fault, LegalBelow}
use Rattle.levels.specs.declared.fault.LevelFault.TheVariants.{Length, Illegal}

passed : (b : Bool) (o : Option ℕ) → cond b (option_map Illegal o) (Some Length) ≡ None → (b ≡ true) × (o ≡ None)
passed true None e = (refl, refl)
passed true (Some i) e = absurd (cc)
passed false o e = absurd (cc)

pub length_levels : (n : ℕ) (xs : List Float) → level_fault n xs ≡ None → length xs ≡ n
length_levels n xs e = eqb-true (length xs) n (passed (eqb (length xs) n) (first_illegal xs) e).0

pub legal_levels : (n : ℕ) (xs : List Float) → level_fault n xs ≡ None → LegalBelow xs n
legal_levels n xs e =
    subst (LegalBelow xs) (length_levels n xs e)
    (first_all (is_legal xs) (length xs) (passed (eqb (length xs) n) (first_illegal xs) e).1)
