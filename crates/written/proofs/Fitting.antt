-- Counts that their fields may hold, said in two ways.
use Rattle.std.proofs.Common.{◌≡◌, ℕ, ◌+◌, Bool, cond, List, [], ◌∷◌, length, ℤ, Some, None, refl, ap, ◌∙◌, arith}
use Rattle.layout.specs.Placed.{placed}
use Rattle.layout.specs.declared.Field.{Field}
use Rattle.layout.proofs.Ranges.{not_outside}
use Rattle.blocks.specs.Write.{first_unfit}
use Rattle.written.specs.Written.{FitsAll}

pub fits_long : (fs : List Field) (zs : List ℤ) → FitsAll fs zs → length zs ≡ length fs
unfolding FitsAll
fits_long [] [] h = refl
fits_long [] (z ∷ zs) h = absurd h
fits_long (f ∷ fs) [] h = absurd h
fits_long (f ∷ fs) (z ∷ zs) h = omega (arith, fits_long fs zs h.1)

pub fits_unfit : (b : ℕ) (fs : List Field) (zs : List ℤ) → FitsAll fs zs → first_unfit (placed b fs) zs ≡ None
unfolding FitsAll first_unfit placed
fits_unfit b [] zs h = refl
fits_unfit b (f ∷ fs) [] h = absurd h
fits_unfit b (f ∷ fs) (z ∷ zs) h =
    ap (λ (t : Bool). cond t (Some b) (first_unfit (placed (b + f.width) fs) zs)) (not_outside f z h.0)
    ∙ fits_unfit (b + f.width) fs zs h.1
