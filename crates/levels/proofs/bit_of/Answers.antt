use Rattle.std.proofs.Common.{◌≡◌, ◌∙◌, lit<}
use lib.Ieee.{of_bits}
use Rattle.levels.specs.Levels.{bit}
use Rattle.levels.proofs.Means.{bit_negative, bit_other}
use Rattle.levels.proofs.bit_of.Goals as goal

pub returns-then-level : goal.returns-then-level
unfolding bit of_bits
returns-then-level c =
    let x = c.args.level in
    let e : 1 ≡ bit x = rw c.if-level.true in
    record { value = e; negative = (λ h. e ∙ bit_negative x h, λ h. e ∙ bit_other x h); below = lit< tt }

pub returns-else-level : goal.returns-else-level
unfolding bit of_bits
returns-else-level c =
    let x = c.args.level in
    let e : 0 ≡ bit x = rw c.if-level.false in
    record { value = e; negative = (λ h. e ∙ bit_negative x h, λ h. e ∙ bit_other x h); below = lit< tt }
