use Rattle.std.proofs.Common.{◌≡◌, ℕ, ◌+◌, ◌-◌, ◌*◌, ◌/◌, ◌%◌, ◌^◌, ◌<◌, length, get_or, drop, ap, ◌∙◌, arith, length-drop}
use Rattle.std.specs.Int.Digits.{number_from_digits}
use Rattle.std.proofs.lemmas.List.{get_or-drop}
use Rattle.bits.specs.Bits.{bits_of, part}
use Rattle.bits.proofs.Symbols.{middle_bits, number_symbol}
use Rattle.frames.proofs.word_byte.Goals as goal

pub returns : goal.returns
returns c =
    let ss = c.args.word.now in let at = c.args.at in
    let f : ℕ = at / 6 in
    let rest : ℕ = 4 - at % 6 in
    let l : 1 < length (drop f ss) = simp length-drop (omega arith) in
    let first : get_or (drop f ss) 0 0 ≡ get_or ss f 0 = get_or-drop f ss 0 0 ∙ ap (λ k. get_or ss k 0) (omega arith) in
    let two : get_or ss f 0 % 64 * 64 + get_or ss (f + 1) 0 % 64 ≡ number_from_digits 2 (bits_of (part ss f 2)) =
    omega (arith, number_symbol (drop f ss) 0 (omega arith), number_symbol (drop f ss) 1 l, get_or-drop f ss 1 0) in
    ap (λ v. v / 2 ^ rest % 256) two
    ∙ middle_bits ss f 2 (at % 6) 8 rest (omega arith) (omega arith)
    ∙ ap (λ n. number_from_digits 2 (part (bits_of ss) n 8)) (omega arith)
