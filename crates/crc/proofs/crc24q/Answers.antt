use Rattle.std.proofs.Common.{◌≡◌, [], ◌∷◌, take, fold, sym, refl, ap, ◌∙◌, ap₂, arith, lit<}
use mathlib.Core.Path.{subst⁻¹}
use Rattle.std.proofs.ByRecursion.{All-take}
use Rattle.std.proofs.lemmas.List.{get_or-take}
use Rattle.bits.specs.Bits.{bits_of}
use Rattle.bits.proofs.Symbols.{bits_take, under_bits}
use Rattle.crc.specs.Crc.{crc_step, crc_of, crc_of_message}
use Rattle.crc.specs.Remainder.{Remainder, generator}
use Rattle.crc.proofs.Steps.{steps_lt, crc_more}
use Rattle.crc.proofs.Division.{crc_remainder, remainder_only}
use Rattle.crc.proofs.crc24q.Goals as goal

pub loop-symbol-init : goal.loop-symbol-init
unfolding crc_of
loop-symbol-init c = refl

pub step-reg-requires : goal.step-reg-requires
unfolding crc_of
step-reg-requires c = omega (arith, steps_lt 0 (bits_of (take c.loop-symbol.symbol-index c.args.symbols.now)) (lit< tt))

pub loop-symbol-preserved : goal.loop-symbol-preserved
loop-symbol-preserved c =
    let ss = c.args.symbols.now in let i = c.loop-symbol.symbol-index in
    let same = get_or-take 77 ss i 0 (omega arith) in
    c.step-reg.ensures ∙ ap₂ (λ r s. fold crc_step r (bits_of (s ∷ []))) c.loop-symbol.invariant same ∙ sym (crc_more ss i (omega arith))

pub returns : goal.returns
unfolding crc_of_message
returns c =
    let ss = c.args.symbols.now in
    let bs = take 462 (bits_of ss) in
    let all : c.loop-symbol.symbol-index ≡ 77 = omega arith in
    let e : c.loop-symbol.reg ≡ crc_of bs = c.loop-symbol.invariant ∙ ap (λ n. crc_of (bits_of (take n ss))) all ∙ ap crc_of (bits_take 77 ss) in
    let r : Remainder generator bs c.loop-symbol.reg =
    subst⁻¹ (Remainder generator bs) e (crc_remainder bs (All-take _ 462 (bits_of ss) (under_bits ss))) in
    record { value = e; below = r.small; remainder = r; only = λ s h. remainder_only bs s c.loop-symbol.reg h r }
