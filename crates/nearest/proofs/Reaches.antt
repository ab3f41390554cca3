-- The nearer of two decoders that have reach has reach.
use Rattle.std.proofs.Common.{◌≡◌, ℕ, Bool, true, false, cond, List, Some, refl, ap}
use lib.Ieee.{lt}
use Rattle.parity.proofs.Codewords.{of_symbols}
use Rattle.decoders.specs.Asks.{Rule}
use Rattle.decoders.specs.Reach.{Reach}
use Rattle.scores.specs.Scored.{score_of}
use Rattle.nearest.specs.Nearest.{nearest}

either : (b : Bool) (w : List ℕ) → cond b w w ≡ w
either true w = refl
either false w = refl

pub nearest_reach : (f g : Rule) → Reach f → Reach g → Reach (nearest f g)
nearest_reach f g rf rg =
    record {
      gives = λ xs w legal near.
          let b : Bool = lt (score_of xs w).sum (score_of xs w).sum in
          rw (rf.gives xs w legal near, rg.gives xs w legal near, of_symbols 162 w near.codeword.word) (ap Some (either b w));
    }
