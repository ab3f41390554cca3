use Rattle.std.proofs.Common.{◌≡◌, false, length, sym, arith}
use Rattle.parity.proofs.Firsts.{first_at, first_none}
use Rattle.levels.specs.Faults.{is_legal}
use Rattle.levels.proofs.first_illegal.Goals as goal

pub returns-then-not-is_legal : goal.returns-then-not-is_legal
returns-then-not-is_legal c =
    let xs = c.args.levels.now in
    let i = c.loop-i.i in
    let here : is_legal xs i ≡ false = sym c.if-not-is_legal.ensures.value in
    record {
      value = sym (first_at (is_legal xs) (length xs) i (omega arith) c.loop-i.invariant here);
      found = record { inside = omega arith; here = here; before = c.loop-i.invariant };
    }

pub returns : goal.returns
returns c =
    let xs = c.args.levels.now in
    record {
      value = sym (first_none (is_legal xs) (length xs) (λ k l. c.loop-i.invariant k (omega arith)));
      found = λ k l. c.loop-i.invariant k (omega arith);
    }
