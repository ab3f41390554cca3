use Rattle.std.proofs.Common.{◌≡◌, ℕ, ◌-◌, ◌%◌, ◌<◌, get_or, sym, ap, ◌∙◌, arith}
use mathlib.Core.Path.{subst⁻¹}
use Rattle.gf64.specs.Field.{exps, inv}
use Rattle.gf64.proofs.Laws.{laws, inv_lt, inv_zero, log_lt, exp_inv}
use Rattle.gf64.proofs.inverse.Goals as goal

clauses : (a r : ℕ) → r ≡ inv (a % 64) → (a < 64 → r ≡ inv a) × (r < 64)
clauses a r e = (λ ha. e ∙ ap inv (omega arith), subst⁻¹ (λ (x : ℕ). x < 64) e (inv_lt (a % 64) (omega arith)))

pub returns-then-x-eq0 : goal.returns-then-x-eq0
returns-then-x-eq0 c =
    let e : 0 ≡ inv (c.args.a % 64) = sym (ap inv c.if-x-eq0.true ∙ inv_zero) in
    let more = clauses c.args.a 0 e in
    record { low = e; same = more.0; below = more.1; field = laws }

pub overflow_sub-log : goal.overflow_sub-log
overflow_sub-log c = omega (arith, log_lt (c.args.a % 64) (omega arith))

pub returns : goal.returns
returns c =
    let e : c.exp.result ≡ inv (c.args.a % 64) =
    c.exp.ensures ∙ ap (λ (x : ℕ). get_or exps (63 - x) 0) c.log.ensures
    ∙ exp_inv (c.args.a % 64) (omega arith) c.if-x-eq0.false in
    let more = clauses c.args.a c.exp.result e in
    record { low = e; same = more.0; below = more.1; field = laws }
