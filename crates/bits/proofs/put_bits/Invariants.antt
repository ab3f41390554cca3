use Rattle.std.proofs.Common.{◌≡◌, ℕ, ◌<◌, get_or, take}
use Rattle.bits.specs.Bits.{bits_of, pasted, spelled}
use Rattle.bits.proofs.put_bits.Given as goal

abbrev pub invariant-loop-i : goal.invariant-loop-i
invariant-loop-i l =
    (bits_of l.symbols ≡ pasted (bits_of l.initial.symbols) l.at (take l.i (spelled l.width l.value)))
    × ((k : ℕ) → get_or l.initial.symbols k 0 < 64 → get_or l.symbols k 0 < 64)
