-- How a name is written. Assumes nothing.
use Rattle.std.specs.Prelude.{ℕ, List, ◌++◌, codes}
use Rattle.text.specs.declared.fault.Name.{Name}
use Rattle.text.specs.declared.fault.Name.TheVariants.{Plain, Field}

abbrev pub written : Name → List ℕ
written (Plain name) = name.now
written (Field block field) = block.now ++ (codes "." ++ field.now)
