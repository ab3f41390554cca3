-- The line that a refusal is printed as.
use Rattle.std.specs.Prelude.{ℕ, List, ◌++◌, codes, decimal}
use Rattle.refusal.specs.Numbers.{layer_number, reason_number}
use Rattle.refusal.specs.declared.Refusal.{Refusal}

-- refused NUMBER LAYER PLACE
abbrev pub refused_line : Refusal → List ℕ
refused_line r = codes "refused " ++ (decimal (reason_number r.reason) ++ (codes " " ++ (decimal (layer_number r.layer) ++ (codes " " ++ decimal r.place))))
