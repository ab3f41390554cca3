use Rattle.std.proofs.Common.{◌≡◌, ℕ, ◌+◌, ◌-◌, ◌*◌, ◌/◌, ◌%◌, ◌^◌, ap, ◌∙◌, ap₂, arith}
use Rattle.std.specs.Int.Digits.{number_from_digits}
use Rattle.std.proofs.lemmas.Nat.{one_shl}
use Rattle.bits.specs.Bits.{bits_of, part}
use Rattle.bits.proofs.Symbols.{middle_bits}
use Rattle.bits.proofs.get_bits.Goals as goal

pub returns-clause-same : goal.returns-clause-same
returns-clause-same c =
    let ss = c.args.symbols.now in let at = c.args.at in let w = c.args.width in
    let f : ℕ = at / 6 in
    let end : ℕ = (at + w + 5) / 6 in
    let rest : ℕ = 6 * end - (at + w) in
    let mask : 1 * 2 ^ w % 2 ^ 64 ≡ 2 ^ w = one_shl w 64 (omega arith) in
    λ _ _. ap₂ (λ (v m : ℕ). v / 2 ^ rest % m) c.gather-v.ensures mask
    ∙ middle_bits ss f (end - f) (at % 6) w rest (omega arith) (omega arith)
    ∙ ap (λ (n : ℕ). number_from_digits 2 (part (bits_of ss) n w)) (omega arith)
