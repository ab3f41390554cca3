use Rattle.std.proofs.Common.{is_some, sym, ap, ◌∙◌}
use Rattle.std.proofs.lemmas.Bool.{false≢true}
use Rattle.bits.specs.Bits.{bits_of}
use Rattle.parity.proofs.Codewords.{of_symbols}
use Rattle.levels.proofs.Faults.{length_levels}
use Rattle.levels.proofs.Hard.{bits_hard}
use Rattle.levels.specs.Hard.{hard}
use Rattle.levels.proofs.hard_decision.Goals as goal

pub unreachable-requires : goal.unreachable-requires
unreachable-requires c = false≢true (ap is_some (sym (of_symbols 162 _ c.symbols_of-symbols.ensures.symbols) ∙ c.in_default.ensures))

pub returns : goal.returns
returns c =
    let xs = c.args.levels.now in
    let legal = c.in_ok-word_levels.ensures in
    let word = c.in-Ok.ensures.0 ∙ c.symbols_of-symbols.ensures.same ∙ ap hard legal.0 in
    record { word = (word, legal.1); bits = ap bits_of word ∙ bits_hard 162 xs (length_levels 972 xs legal.1) }
