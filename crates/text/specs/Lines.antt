-- What is taken from the lines of a text, and what is left. Assumes nothing.
use Rattle.std.specs.Prelude.{◌≡◌, Bool, true, false, cond, List, [], ◌∷◌, ℤ, Ok, Err, string_bytes, Result}
use Rattle.std.specs.List.{AllByRecursion}
use Rattle.std.specs.Str.{bytes_eq}
use Rattle.text.specs.Names.{written}
use Rattle.text.specs.declared.Entry.{Entry}
use Rattle.text.specs.declared.fault.Name.{Name}
use Rattle.text.specs.declared.fault.TextFault.{TextFault}
use Rattle.text.specs.declared.fault.TextFault.TheVariants.{Unknown, Missing}

-- the line has this name
abbrev pub named : Name → Entry → Bool
named n e = bytes_eq (string_bytes e.name) (written n)

abbrev pub as_used : Entry → Entry
as_used e = record { line = e.line; name = e.name; count = e.count; used = true }

-- nobody has used a line
abbrev pub Unused : List Entry → Type 0
Unused es = AllByRecursion (λ (e : Entry). e.used ≡ false) es

-- the number of the first line with a name
unfoldable pub counted : Name → List Entry → Result ℤ TextFault
counted n [] = Err (Missing n)
counted n (e ∷ es) = cond (named n e) (Ok e.count) (counted n es)

-- the lines once that line is used
unfoldable pub marked : Name → List Entry → List Entry
marked n [] = []
marked n (e ∷ es) = cond (named n e) (as_used e ∷ es) (e ∷ marked n es)

-- Ok where every line is used, and otherwise the first that is not
unfoldable pub finished : List Entry → Result (Unit {0}) TextFault
finished [] = Ok tt
finished (e ∷ es) = cond e.used (finished es) (Err (Unknown e.line))
