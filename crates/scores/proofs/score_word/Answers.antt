use Rattle.std.proofs.Common.{◌≡◌, ℕ, ◌+◌, ◌<◌, min, List, length, get_or, take, ap, ◌∙◌, zero-add, arith}
use lib.Ieee.{Float, nan, binary32, add, mul}
use Rattle.std.proofs.lemmas.Iterator.{YieldsList-from_slice, YieldsList-from_take}
use Rattle.std.proofs.lemmas.Iterator.Consumers.{YieldsList-from_enumerate, YieldsList-end, YieldsList-turn}
use Rattle.std.proofs.lemmas.List.{get_or-take, get_or_default, length_push, length-take}
use Rattle.std.proofs.lemmas.List.FromFn.{get_or-enumerate_from, length-enumerate_from}
use Rattle.std.specs.Float.{float_max, float_zero}
use Rattle.std.specs.List.{enumerate_from}
use Rattle.bits.proofs.Symbols.{length_bits}
use Rattle.bits.specs.Bits.{bits_of}
use Rattle.scores.specs.Scored.{distance, square}
use Rattle.scores.proofs.Squares.{folded_squares_more, take_squares}
use Rattle.scores.proofs.score_word.Goals as goal

-- the place and the level that come after n others
turn_at : (xs : List Float) (n i : ℕ) (x : Float)
    → (n < length (enumerate_from 0 (take 972 xs))) × ((i, x) ≡ get_or (enumerate_from 0 (take 972 xs)) n (i, x))
    → (n < length xs) × (n < 972) × (i ≡ n) × (x ≡ get_or xs n nan)
turn_at xs n i x t =
    let size : length (enumerate_from 0 (take 972 xs)) ≡ min 972 (length xs) = length-enumerate_from 0 (take 972 xs) ∙ length-take 972 xs in
    let few : n < 972 = omega (arith, t.0) in
    let many : n < length xs = omega (arith, t.0) in
    let is : (i, x) ≡ (0 + n, get_or (take 972 xs) n x) = t.1 ∙ get_or-enumerate_from 0 (take 972 xs) n (i, x) (omega (arith, length-take 972 xs)) in
    (many, few, ap (λ p. p.0) is ∙ zero-add n, ap (λ p. p.1) is ∙ get_or-take 972 xs n x few ∙ get_or_default xs n x nan many)

pub loop-i-preserved : goal.loop-i-preserved
loop-i-preserved c =
    let xs = c.args.levels.now in
    let w = c.args.word.now in
    let bs = bits_of w.bytes in
    let n = length c.loop-i.yielded in
    let d = c.distance-d.result in
    let t = turn_at xs n c.in-Some.i c.in-Some.level.now
    (YieldsList-turn (YieldsList-from_enumerate (YieldsList-from_take 972 (YieldsList-from_slice xs (cc)) (cc)) (cc)) c.loop-i.yielded _ c.loop-i.yielded_by _ _ (c.in-Some.i, c.in-Some.level) c.in-Some.is c.next.ensures.steps) in
    let more = length_push c.loop-i.yielded (c.in-Some.i, c.in-Some.level) in
    let l : n < length bs = omega (arith, length_bits w.bytes, w.long, t.1) in
    let p : mul binary32 d d ≡ square (get_or xs n nan) (get_or bs n 0) =
    ap (λ d. mul binary32 d d) (c.distance-d.ensures ∙ ap (distance c.in-Some.level.now) (c.word_bit.ensures ∙ ap (λ i. get_or bs i 0) t.2) ∙ ap (λ x. distance x (get_or bs n 0)) t.3) in
    rw more (
      folded_squares_more (add binary32) float_zero xs bs n c.loop-i.sum (mul binary32 d d) t.0 l c.loop-i.invariant.0 p,
      c.larger-largest.ensures
          ∙ folded_squares_more float_max float_zero xs bs n c.loop-i.largest (mul binary32 d d) t.0 l c.loop-i.invariant.1 p,
    )

pub returns : goal.returns
returns c =
    let xs = c.args.levels.now in
    let w = c.args.word.now in
    let n = length c.loop-i.yielded in
    let count : n ≡ min 972 (length xs) =
    (YieldsList-end (YieldsList-from_enumerate (YieldsList-from_take 972 (YieldsList-from_slice xs (cc)) (cc)) (cc)) c.loop-i.yielded _ c.loop-i.yielded_by _ _ c.in-None.is c.next.ensures.steps).1
    ∙ length-enumerate_from 0 (take 972 xs) ∙ length-take 972 xs in
    let all = take_squares xs (bits_of w.bytes) n (omega (arith, length_bits w.bytes, w.long)) in
    cc
