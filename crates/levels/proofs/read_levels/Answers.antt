use Rattle.std.proofs.Common.{◌≡◌, ℕ, ◌*◌, ◌/◌, ◌<◌, List, [], length, get_or, zero-add, add-zero, arith}
use lib.Ieee.{Float}
use Rattle.std.proofs.lemmas.List.FromFn.{map-range_with_len_more}
use Rattle.std.specs.Simd.{first_chunks}
use Rattle.levels.specs.Levels.{level_at}
use Rattle.levels.proofs.Chunks.{in_chunk}
use Rattle.levels.proofs.read_levels.Goals as goal

-- the level of chunk i
level_in : (n i : ℕ) (xs : List ℕ) → i < n → level_at (get_or (first_chunks 4 n xs) i []) 0 ≡ level_at xs i
level_in n i xs h =
    rw (in_chunk 4 n i 0 xs 0 h (omega arith), in_chunk 4 n i 1 xs 0 h (omega arith), in_chunk 4 n i 2 xs 0 h (omega arith), in_chunk 4 n i 3 xs 0 h (omega arith), add-zero (4 * i))

pub loop-four-preserved : goal.loop-four-preserved
loop-four-preserved c =
    let i = c.loop-four.four-index in
    let xs = c.args.bytes.now in
    let more = map-range_with_len_more {X = Float} (level_at xs) 0 i i (zero-add _) in
    let pushed = c.in_ok-push.ensures.items in
    let here = level_in (length xs / 4) i xs (omega arith) in
    let front = c.as_chunks.ensures.front in
    let level = c.level_from.ensures in
    cc
