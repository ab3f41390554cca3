use Rattle.std.proofs.Common.{◌≡◌, ℕ, ◌<◌, suc, List, length, set, sym, ap, ◌∙◌, subst, subst₂, add-one, arith, lit<}
use Rattle.std.proofs.lemmas.List.Elements.{Contains-get_or}
use Rattle.gf64.specs.Field.{mul}
use Rattle.parity.specs.Code.{sym_at}
use Rattle.parity.specs.Ring.{next, ring, run, start, to_place}
use Rattle.parity.proofs.Ring.{FilledTo, filled_codeword, filled_none, filled_more, length_ring, next_same, run_suc, run_zero, start_is}
use Rattle.parity.proofs.encoder.fill.Goals as goal

pub loop-turn-init : goal.loop-turn-init
loop-turn-init c =
    let word = c.args.word.now in
    let w : ℕ → ℕ = sym_at word.bytes in (
      c.product-last.ensures.below,
      c.product-last.ensures.same (lit< tt) c.once_round.ensures.below ∙ ap (mul 34) c.once_round.ensures.same
          ∙ sym (start_is w) ∙ sym (run_zero w (start w)),
      filled_none word.bytes (record { long = word.long; small = word.small }),
    )

pub next-place-requires : goal.next-place-requires
next-place-requires c =
    let h : c.loop-turn.turn-index < length ring = omega (arith, length_ring) in
    record { in_ring = rw c.ring-turn-items.ensures (Contains-get_or ring c.loop-turn.turn-index (0, 0) h); bound = c.loop-turn.invariant.0 }

pub loop-turn-preserved : goal.loop-turn-preserved
loop-turn-preserved c =
    let w : ℕ → ℕ = sym_at c.args.word.now.bytes in
    let k : ℕ = c.loop-turn.turn-index in
    let v : List ℕ = c.loop-turn.word.bytes in
    let x : ℕ = c.next-place.result.1 in
    let f : FilledTo k w v = c.loop-turn.invariant.2 in
    let place : c.next-place.result.0 ≡ to_place k = rw c.ring-turn-items.ensures at c.next-place.ensures.place in
    let symbol : x ≡ next k (sym_at v) c.loop-turn.last = rw c.ring-turn-items.ensures at c.next-place.ensures.symbol in
    let e : x ≡ run w (start w) (suc k) =
    symbol ∙ next_same (sym_at v) w f.head k c.loop-turn.last c.loop-turn-test.true
    ∙ ap (next k w) c.loop-turn.invariant.1 ∙ sym (run_suc w (start w) k) in (
      c.next-place.ensures.below.1,
      e ∙ ap (run w (start w)) (sym (add-one k)),
      subst₂ (λ (q n : ℕ). FilledTo n w (set v q x)) (sym place) (sym (add-one k))
          (filled_more w v k x c.loop-turn-test.true f c.next-place.ensures.below.1 e),
    )

pub returns : goal.returns
returns c =
    let w : ℕ → ℕ = sym_at c.args.word.now.bytes in
    let done : c.loop-turn.turn-index ≡ 81 = omega arith in
    let f : FilledTo 81 w c.loop-turn.word.bytes = subst (λ (n : ℕ). FilledTo n w c.loop-turn.word.bytes) done c.loop-turn.invariant.2 in
    record { codeword = filled_codeword w c.args.word.now.small c.loop-turn.word.bytes f; kept = f.head }
