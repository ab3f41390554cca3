use Rattle.std.proofs.Common.{true, false, ◌∙◌, arith}
use Rattle.std.proofs.lemmas.List.Sums.{sum_by-drop_more}
use Rattle.bits.specs.Bits.{bits_of}
use Rattle.layout.specs.declared.Field.{Field}
use Rattle.layout.proofs.Walk.{no_field, field_step, fields_end}
use Rattle.layout.proofs.first_outside.Goals as goal

pub returns-then-holds_outside : goal.returns-then-holds_outside
returns-then-holds_outside c =
    field_step c.args.fields.now c.loop-field.field-index c.loop-field.at (bits_of c.args.symbols.now) true
    c.loop-field-test.true c.if-holds_outside.ensures
    ∙ c.loop-field.invariant.1

pub loop-field-preserved : goal.loop-field-preserved
loop-field-preserved c =
    let fs = c.args.fields.now in let i = c.loop-field.field-index in (
      omega (arith, sum_by-drop_more (λ (f : Field). f.width) fs i no_field c.loop-field-test.true),
      field_step fs i c.loop-field.at (bits_of c.args.symbols.now) false c.loop-field-test.true c.if-holds_outside.ensures
          ∙ c.loop-field.invariant.1,
    )

pub returns : goal.returns
returns c =
    fields_end c.args.fields.now c.loop-field.field-index c.loop-field.at (bits_of c.args.symbols.now)
    c.loop-field-test.false
    ∙ c.loop-field.invariant.1
