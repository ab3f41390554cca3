-- The lowest block that a draft does not have, found by its place among those that are asked for.
use Rattle.std.proofs.Common.{◌≡◌, ℕ, zero, suc, ◌+◌, ◌≤◌, Bool, true, false, not, cond, List, length, take, drop, Some, None, Ok, Err, Option, Result, refl, ap, ◌∙◌, arith}
use Rattle.std.proofs.Math.Seq.{drop-cons}
use Rattle.std.proofs.lemmas.Iterator.Adapters.{position_from-zero}
use Rattle.std.specs.List.{position, position_from}
use Rattle.writer.specs.Answers.{missing}
use Rattle.writer.specs.declared.fault.WriterFault.{WriterFault}
use Rattle.writer.specs.declared.fault.WriterFault.TheVariants.{Missing}

-- what is answered where place i of those from block k on is the lowest
abbrev pub named : ℕ → Option ℕ → Result (Unit {0}) WriterFault
named k (Some i) = Err (Missing (k + i))
named k None = Ok tt

one : (k i j : ℕ) (x : Bool) (o : Option ℕ) (r : Result (Unit {0}) WriterFault) → k + i ≡ j → named k o ≡ r
    → named k (cond (not x) (Some i) o) ≡ cond x r (Err (Missing j))
one k i j true o r e h = h
one k i j false o r e h = ap (λ (n : ℕ). Err (Missing n)) e

from : (k i j n : ℕ) (done : List Bool) → k + i ≡ j → j + n ≤ length done → named k (position_from not i (take n (drop j done))) ≡ missing j n done
from k i j zero done e h = refl
from k i j (suc n) done e h =
    let next : suc j ≡ j + 1 = omega arith in
    rw (drop-cons done j false (omega arith), next) (one k i j _ _ _ e (from k (i + 1) (j + 1) n done (omega arith) (omega arith)))

pub lowest : (k n : ℕ) (done : List Bool) → k + n ≤ length done → named k (position not (take n (drop k done))) ≡ missing k n done
lowest k n done h = ap (named k) (position_from-zero not (take n (drop k done))) ∙ from k 0 k n done (omega arith) h
