-- A draft with every block, sealed, is the message that was written.
use Rattle.std.proofs.Common.{◌≡◌, ℕ, ◌≤◌, ◌≢◌, List, take, ap, ◌∙◌, arith}
use Rattle.std.proofs.lemmas.List.{take-take}
use Rattle.bits.specs.Bits.{bits_of, pasted, spelled}
use Rattle.bits.proofs.Symbols.{bits_take}
use Rattle.crc.specs.Crc.{crc_of, crc_of_message}
use Rattle.layout.specs.Layout.{number_of}
use Rattle.layout.specs.declared.MessageType.{MessageType}
use Rattle.layout.specs.declared.MessageType.TheVariants.{Type40}
use Rattle.parity.specs.Code.{SymbolList}
use Rattle.parity.proofs.Codewords.{take_symbols}
use Rattle.written.specs.Written.{Counted, Full, HoldsAll, LawfulAs, closed, start_bits, written_from}
use Rattle.written.proofs.Laws.{holds_block, lawful}
use Rattle.written.proofs.Runs.{first_bits, written_as}

crc_same : (ss : List ℕ) → crc_of_message (take 81 ss) ≡ crc_of (take 462 (bits_of ss))
unfolding crc_of_message
crc_same ss = ap (λ l. crc_of (take 462 l)) (bits_take 81 ss) ∙ ap crc_of (take-take 462 486 (bits_of ss) (omega arith))

pub sealed_lawful : (ds ss : List ℕ) (t : MessageType) (s : ℕ) (xs : List Counted) → SymbolList 162 ss
    → bits_of ss ≡ pasted (bits_of ds) 462 (spelled 24 (crc_of_message (take 81 ds)))
    → t ≢ Type40 → s ≤ 604799 → Full t xs → bits_of ds ≡ written_from 26 xs (start_bits (number_of t) s)
    → LawfulAs (take 81 ss) t s × HoldsAll (take 81 ss) t xs
sealed_lawful ds ss t s xs m b n h f e =
    let bits : bits_of ss ≡ closed (written_from 26 xs (start_bits (number_of t) s)) =
    b ∙ ap (λ c. pasted (bits_of ds) 462 (spelled 24 c)) (crc_same ds) ∙ ap closed e in
    let w = written_as ss t s xs (take_symbols ss m) n h f (ap (take 486) bits ∙ first_bits t s xs n f) in
    (lawful (take 81 ss) t s xs w, holds_block (take 81 ss) t s xs w)
