use Rattle.std.proofs.Common.{ap, ◌∙◌, arith}
use mathlib.Core.Path.{subst⁻¹}
use Rattle.std.specs.List.{AllByRecursion}
use Rattle.bits.specs.Bits.{bits_of}
use Rattle.layout.specs.Layout.{widths}
use Rattle.layout.specs.Placed.{placed}
use Rattle.layout.specs.Ranges.{Sized, first_outside}
use Rattle.layout.proofs.Sizes.{sized, fits}
use Rattle.layout.proofs.first_outside_in.Goals as goal

pub overflow_sub-width : goal.overflow_sub-width
overflow_sub-width c = omega (arith, c.width.ensures, (fits c.args.part).1)

pub first_outside-requires : goal.first_outside-requires
first_outside-requires c = (
  subst⁻¹ (AllByRecursion Sized) c.fields.ensures (sized c.args.part),
  omega (arith, ap widths c.fields.ensures, fits c.args.part, c.width.ensures),
)

pub returns-then-from-width : goal.returns-then-from-width
returns-then-from-width c =
    record {
      same = λ _. c.first_outside.ensures ∙ ap (λ fs. first_outside (placed c.args.from fs) (bits_of c.args.symbols.now)) c.fields.ensures;
      none = λ h. absurd (omega (arith, c.width.ensures, (fits c.args.part).1));
    }
