use Rattle.std.proofs.Common.{◌≡◌, Bool, false, not, ◌∙◌, rules}
use Rattle.bits.specs.Bits.{bits_of}
use Rattle.layout.specs.Placed.{parameters_of, looks_at, is_reserved}
use Rattle.layout.proofs.Ranges.{first}
use Rattle.layout.proofs.Walk.{passed_over}
use Rattle.layout.proofs.first_out_of_range.Goals as goal

pub returns : goal.returns
unfolding parameters_of
returns c =
    let e = c.first_in_parts.ensures (looks_at false) (λ p b e. let n : ◌≡◌ {A = Bool} b (not (is_reserved p)) = search rules in n ∙ passed_over p) in
    record { same = e; first = first (parameters_of c.args.kind) (bits_of c.args.symbols.now) c.first_in_parts.result e }
