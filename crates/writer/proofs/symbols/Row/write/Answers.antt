use Rattle.std.proofs.Common.{◌≡◌, ℕ, List, ℤ, Some, None, Ok, Err, Option, Result, length, refl, ap, ◌∙◌}
use Rattle.std.specs.Result.{IsErrAnd}
use Rattle.blocks.specs.Held.{placed_of}
use Rattle.blocks.specs.Read.{by_range}
use Rattle.blocks.specs.Write.{first_unfit, write_answer}
use Rattle.blocks.specs.declared.fault.BlockFault.{BlockFault}
use Rattle.blocks.specs.declared.place.Place.{Place}
use Rattle.writer.specs.Answers.{by_field, told}
use Rattle.writer.specs.declared.fault.WriterFault.{WriterFault}
use Rattle.writer.proofs.symbols.Row.write.Goals as goal

abbrev retold : Result (Unit {0}) BlockFault → Result (Unit {0}) WriterFault
retold (Ok u) = Ok u
retold (Err f) = Err (told f)

by_field_lem : (o : Option ℕ) → retold (by_range o tt) ≡ by_field o
by_field_lem None = refl
by_field_lem (Some b) = refl

answer : (p : Place) (zs : List ℤ) (n : ℕ) (r : Result (Unit {0}) BlockFault) → n ≡ 162 → r ≡ write_answer p zs n
    → retold r ≡ by_field (first_unfit (placed_of p) zs)
answer p zs n r long e = ap retold (e ∙ ap (write_answer p zs) long) ∙ by_field_lem (first_unfit (placed_of p) zs)

err_is : (r : Result (Unit {0}) WriterFault) (f : BlockFault) → IsErrAnd r (λ e. e ≡ told f) → r ≡ Err (told f)
err_is (Ok u) f h = absurd h
err_is (Err e) f h = ap Err h

pub returns-clause-answer : goal.returns-clause-answer
returns-clause-answer g c =
    let b = g.K.Block in
    let row = c.args.self.now in
    answer b.PLACE (b.counts c.args.of.now) (length row.buf.now) (Ok tt) row.symbols.long c.in_ok-write.ensures.answer

pub returns-in_err-write-clause-answer : goal.returns-in_err-write-clause-answer
returns-in_err-write-clause-answer g c =
    let b = g.K.Block in
    let row = c.args.self.now in
    let fault = c.in_err-write.field-0.0 in
    err_is c.from_residual.result fault c.from_residual.ensures.1
    ∙ answer b.PLACE (b.counts c.args.of.now) (length row.buf.now) (Err fault) row.symbols.long c.in_err-write.ensures.answer
