use Rattle.std.proofs.Common.{◌≡◌, Bool, true, false, not, cond, List, [], ◌∷◌, Ok, Err, Some, None, Option, Result, refl, ap, ◌∙◌, rules, tests}
use Rattle.std.proofs.lemmas.Iterator.{YieldsList-from_slice}
use Rattle.std.proofs.lemmas.Iterator.Search.{find_from_yields_List}
use Rattle.std.specs.List.{find}
use Rattle.std.specs.Option.{option_copied}
use Rattle.text.specs.declared.Entry.{Entry}
use Rattle.text.specs.declared.fault.TextFault.{TextFault}
use Rattle.text.specs.declared.fault.TextFault.TheVariants.{Unknown}
use Rattle.text.specs.Lines.{finished}
use Rattle.text.proofs.Entries.finish.Goals as goal
use Rattle.text.proofs.Entries.finish.Goals.{After-find}

-- what is answered of the first line that is not used
abbrev answer_of : Option Entry → Result (Unit {0}) TextFault
answer_of None = Ok tt
answer_of (Some e) = Err (Unknown e.line)

abbrev unused : Entry → Bool
unused e = not e.used

first_unused : (es : List Entry) → answer_of (find unused es) ≡ finished es
unfolding finished
first_unused [] = refl
first_unused (e ∷ es) =
    elim e.used as (λ (b : Bool). answer_of (cond (not b) (Some e) (find unused es)) ≡ cond b (finished es) (Err (Unknown e.line)))
    [ true ↦ first_unused es | false ↦ refl ]

-- what was found gives the answer
found : (c : After-find) → answer_of (option_copied c.find.result) ≡ finished c.args.self.now.list.items
found c =
    ap answer_of
    (find_from_yields_List unused _ _ c.find.result c.find.ensures.ran (YieldsList-from_slice c.args.self.now.list.items (cc))
    (λ x b q k. search (rules, tests)))
    ∙ first_unused c.args.self.now.list.items

pub returns-in-Some : goal.returns-in-Some
returns-in-Some c = rw c.in-Some.is at (found (goal.at.returns-in-Some c).After-find)

pub returns-in-None : goal.returns-in-None
returns-in-None c = rw c.in-None.is at (found (goal.at.returns-in-None c).After-find)
