use Rattle.std.proofs.Common.{◌≡◌, Bool, true, ◌∙◌, rules}
use Rattle.bits.specs.Bits.{bits_of}
use Rattle.layout.specs.Placed.{reserved_of, looks_at, is_reserved}
use Rattle.layout.proofs.Ranges.{first}
use Rattle.layout.proofs.Walk.{looked}
use Rattle.layout.proofs.first_set_reserved.Goals as goal

pub returns : goal.returns
unfolding reserved_of
returns c =
    let e = c.first_in_parts.ensures (looks_at true) (λ p b e. let n : ◌≡◌ {A = Bool} b (is_reserved p) = search rules in n ∙ looked p) in
    record { same = e; first = first (reserved_of c.args.kind) (bits_of c.args.symbols.now) c.first_in_parts.result e }
