use Rattle.std.proofs.Common.{sym, ap, ◌∙◌, arith}
use Rattle.layout.specs.Layout.{width_of, widths}
use Rattle.layout.proofs.Sizes.{fits, width_fields}
use Rattle.layout.proofs.width.Goals as goal

pub total-requires : goal.total-requires
total-requires c = omega (arith, ap widths c.fields.ensures, (fits c.args.part).0, (fits c.args.part).1)

pub returns-in-Opaque : goal.returns-in-Opaque
unfolding width_of
returns-in-Opaque c = sym (ap width_of c.in-Opaque.is)

pub returns-in_default : goal.returns-in_default
returns-in_default c = c.total.ensures ∙ ap widths c.fields.ensures ∙ width_fields c.args.part c.in_default.not-Opaque
