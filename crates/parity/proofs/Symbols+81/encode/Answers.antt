use Rattle.std.proofs.Common.{◌≡◌, ℕ, ◌<◌, List, ◌++◌, length, get_or, replicate, take, sym, ap, ◌∙◌, arith}
use mathlib.Core.Path.{subst⁻¹}
use Rattle.std.proofs.lemmas.List.{ext_get_or, get_or-take, get_or_append_left, length-take-le}
use Rattle.parity.specs.Code.{Encodes, SymbolList}
use Rattle.parity.specs.Table.{bcnav3}
use Rattle.parity.proofs.Small.{with_zeros}
use Rattle.parity.proofs.Sound.{encodes_only}
use Rattle.parity.proofs.Symbols+81.encode.Goals as goal

pub invariant_of-word : goal.invariant_of-word
invariant_of-word c =
    let m = c.args.self.now in
    let s =
    subst⁻¹ (λ (l : List ℕ). SymbolList 162 (l ++ replicate 81 0)) c.copy_from_slice.ensures.after
    (with_zeros m.bytes (record { long = m.long; small = m.small })) in
    record { long = s.long; small = s.small }

pub returns : goal.returns
returns c =
    let m = c.args.self.now in
    let w = c.fill.new.word.bytes in
    let code = c.fill.ensures.codeword in
    let n : length (take 81 w) ≡ 81 = length-take-le 81 w (omega (arith, code.word.long)) in
    let e : Encodes bcnav3 m.bytes w = record {
      codeword = code;
      begins = ext_get_or 0 (take 81 w) m.bytes (n ∙ sym m.long)
          (λ k l. let h : k < 81 = omega arith in
          get_or-take 81 w k 0 h ∙ c.fill.ensures.kept k h
          ∙ ap (λ (l : List ℕ). get_or (l ++ replicate 81 0) k 0) c.copy_from_slice.ensures.after
          ∙ get_or_append_left m.bytes (replicate 81 0) 0 k (omega (arith, m.long)));
    } in
    record { encodes = e; only = λ v o. encodes_only m.bytes v w o e }
