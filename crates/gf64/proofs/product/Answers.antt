use Rattle.std.proofs.Common.{◌≡◌, ℕ, ◌+◌, ◌%◌, ◌<◌, get_or, sym, ap, ◌∙◌, ap₂, inl, inr, arith}
use mathlib.Core.Path.{subst⁻¹}
use Rattle.gf64.specs.Field.{exps, mul}
use Rattle.gf64.proofs.Laws.{mul_comm, mul_lt, mul_zero, log_lt, exp_log}
use Rattle.gf64.proofs.product.Goals as goal

-- the three clauses from the first
clauses : (a b r : ℕ) → r ≡ mul (a % 64) (b % 64) → (a < 64 → b < 64 → r ≡ mul a b) × (r < 64)
clauses a b r e = (
  λ ha hb. e ∙ ap₂ mul (omega arith) (omega arith),
  subst⁻¹ (λ (x : ℕ). x < 64) e (mul_lt (a % 64) (b % 64) (omega arith) (omega arith)),
)

pub returns-then-x-eq0 : goal.returns-then-x-eq0
returns-then-x-eq0 c =
    let a = c.args.a in let b = c.args.b in
    let e : 0 ≡ mul (a % 64) (b % 64) =
    elim c.then-x-eq0.either [
      | inl h ↦ sym (ap (λ (z : ℕ). mul z (b % 64)) h ∙ mul_comm 0 (b % 64) (omega arith) (omega arith) ∙ mul_zero (b % 64) (omega arith))
      | inr h ↦ sym (ap (mul (a % 64)) h.1 ∙ mul_zero (a % 64) (omega arith))
    ] in
    let more = clauses a b 0 e in
    record { low = e; same = more.0; below = more.1 }

pub overflow_add-log : goal.overflow_add-log
overflow_add-log c = omega (arith, log_lt (c.args.a % 64) (omega arith), log_lt (c.args.b % 64) (omega arith))

pub exp-requires : goal.exp-requires
exp-requires c = omega (arith, log_lt (c.args.a % 64) (omega arith), log_lt (c.args.b % 64) (omega arith))

pub returns : goal.returns
returns c =
    let a = c.args.a in let b = c.args.b in
    let e : c.exp.result ≡ mul (a % 64) (b % 64) =
    c.exp.ensures ∙ ap₂ (λ (x y : ℕ). get_or exps (x + y) 0) c.log.ensures c.log-2.ensures
    ∙ exp_log (a % 64) (b % 64) (omega arith) (omega arith) c.if-x-eq0.false c.if-y-eq0.false in
    let more = clauses a b c.exp.result e in
    record { low = e; same = more.0; below = more.1 }
