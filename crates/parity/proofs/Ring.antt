-- The check symbols round the ring: they make a code word of the message, and no others do.
use Rattle.std.proofs.Common.{◌≡◌, ℕ, zero, suc, ◌+◌, ◌-◌, ◌<◌, ◌≤◌, Bool, ◌&&◌, eqb, ltb, leb, ◌≢◌, List, [], ◌∷◌, length, get_or, set, sym, refl, ap, ◌∙◌, subst, ap₂, inl, inr, arith, lit<, lit≤}
use lib.Bits.{bit_xor, xor_assoc, xor_comm, xor_self}
use Rattle.std.proofs.lemmas.List.{ext_get_or, get_or_default, get_or-set_same, get_or-set_other}
use Rattle.std.proofs.lemmas.Bool.{and_parts, cases_eq, cases_lt, eqb-true, leb-true, ltb-true}
use Rattle.std.specs.List.{Contains}
use Rattle.gf64.specs.Field.{mul, mul_low, times_x, scaled, square, inv}
use Rattle.computed.proofs.Below.{each, each2, less, same}
use Rattle.gf64.proofs.Laws.{mul_lt, mul_comm, mul_assoc, mul_one, mul_xor_l, mul_xor_r, mul_inv, mul_inv_off, inv_lt, xor_small}
use Rattle.parity.specs.Code.{SymbolList, Codeword, sym_at, weighted, row_sum}
use Rattle.parity.specs.Table.{rows, places, factors, bcnav3, place_at, factor_at}
use Rattle.parity.specs.Ring.{ring, turn_at, from_place, to_place, from_factor, to_factor, term, message_sum, turned, next, run, start}
use Rattle.parity.proofs.Distance.{xor_eq, xor_off}
use Rattle.parity.proofs.Rows.{place_lt, factor_lt, row_terms, rows_81}
use Rattle.parity.proofs.Small.{set_symbols}

-- the turn of each row
turn_of_row : List ℕ
turn_of_row =
    0 ∷ 24 ∷ 12 ∷ 58 ∷ 4 ∷ 59 ∷ 2 ∷ 71 ∷ 37 ∷ 42 ∷ 64 ∷ 77 ∷ 57 ∷ 11 ∷ 45 ∷ 34 ∷ 53 ∷ 21 ∷ 61 ∷ 6 ∷ 74 ∷ 33 ∷
    14 ∷ 27 ∷ 55 ∷ 19 ∷ 80 ∷ 7 ∷ 62 ∷ 78 ∷ 38 ∷ 69 ∷ 51 ∷ 13 ∷ 35 ∷ 22 ∷ 67 ∷ 29 ∷ 20 ∷ 1 ∷ 10 ∷ 26 ∷ 8 ∷ 32 ∷
    40 ∷ 30 ∷ 65 ∷ 9 ∷ 25 ∷ 3 ∷ 73 ∷ 16 ∷ 54 ∷ 41 ∷ 79 ∷ 47 ∷ 68 ∷ 52 ∷ 72 ∷ 36 ∷ 18 ∷ 49 ∷ 75 ∷ 17 ∷ 31 ∷ 60 ∷
    39 ∷ 43 ∷ 44 ∷ 5 ∷ 15 ∷ 48 ∷ 66 ∷ 46 ∷ 76 ∷ 28 ∷ 70 ∷ 63 ∷ 56 ∷ 50 ∷ 23 ∷
    []

-- the turn that comes to each check place, from 81 on
turn_to_place : List ℕ
turn_to_place =
    70 ∷ 43 ∷ 16 ∷ 59 ∷ 32 ∷ 5 ∷ 28 ∷ 1 ∷ 55 ∷ 22 ∷ 76 ∷ 49 ∷ 14 ∷ 68 ∷ 41 ∷ 8 ∷ 62 ∷ 35 ∷ 66 ∷ 39 ∷ 12 ∷ 78 ∷
    51 ∷ 24 ∷ 10 ∷ 64 ∷ 37 ∷ 26 ∷ 80 ∷ 53 ∷ 30 ∷ 3 ∷ 57 ∷ 45 ∷ 18 ∷ 72 ∷ 20 ∷ 74 ∷ 47 ∷ 61 ∷ 34 ∷ 7 ∷ 71 ∷ 44 ∷
    17 ∷ 58 ∷ 31 ∷ 4 ∷ 27 ∷ 0 ∷ 54 ∷ 23 ∷ 77 ∷ 50 ∷ 48 ∷ 21 ∷ 75 ∷ 15 ∷ 69 ∷ 42 ∷ 9 ∷ 63 ∷ 36 ∷ 65 ∷ 38 ∷ 11 ∷
    79 ∷ 52 ∷ 25 ∷ 46 ∷ 19 ∷ 73 ∷ 40 ∷ 13 ∷ 67 ∷ 56 ∷ 29 ∷ 2 ∷ 6 ∷ 60 ∷ 33 ∷
    []

-- ---- what tests say of the turns

pub length_ring : length ring ≡ 81
unfolding ring
length_ring = refl

pub row_lt : (k : ℕ) → k < 81 → (turn_at k).row < 81
unfolding ring
row_lt k h = less 81 81 (λ k. (turn_at k).row) refl k h

-- a turn joins the last two places of its row
pub record Sides (k : ℕ) : Type 0 where
  pub sum : (turn_at k).from + (turn_at k).to ≡ 5
  pub low : 2 ≤ (turn_at k).from
  pub high : (turn_at k).from ≤ 3

pub sides : (k : ℕ) → k < 81 → Sides k
unfolding ring
sides k h =
    let t : ℕ → Bool = λ k. eqb ((turn_at k).from + (turn_at k).to) 5 && (leb 2 (turn_at k).from && leb (turn_at k).from 3) in
    let p = and_parts (eqb ((turn_at k).from + (turn_at k).to) 5) (leb 2 (turn_at k).from && leb (turn_at k).from 3) (each 81 t refl k h) in
    let q = and_parts (leb 2 (turn_at k).from) (leb (turn_at k).from 3) p.1 in
    record { sum = eqb-true ((turn_at k).from + (turn_at k).to) 5 p.0; low = leb-true 2 (turn_at k).from q.0; high = leb-true (turn_at k).from 3 q.1 }

-- what is a turn of the ring
pub record Turning (p : ℕ × ℕ) : Type 0 where
  pub row : p.0 < 81
  pub from : p.1 ≤ 3
  pub to : 5 - p.1 ≤ 3
  pub some : 2 ≤ p.1

pub turning : (p : ℕ × ℕ) → Contains ring p → Turning p
turning p (k, h, e) =
    let l : k < 81 = omega (arith, length_ring) in
    let s = sides k l in
    let is : get_or ring k (0, 0) ≡ p = get_or_default ring k (0, 0) p h ∙ e in
    subst Turning is (record { row = row_lt k l; from = s.high; to = omega (arith, s.sum, s.low); some = s.low })

from_lt : (k : ℕ) → k < 81 → from_factor k < 64
from_lt k h = factor_lt (turn_at k).row (turn_at k).from (row_lt k h) (omega (arith, (sides k h).high))

to_lt : (k : ℕ) → k < 81 → to_factor k < 64
to_lt k h = factor_lt (turn_at k).row (turn_at k).to (row_lt k h) (omega (arith, (sides k h).sum, (sides k h).low))

to_some : (k : ℕ) → k < 81 → to_factor k ≢ 0
unfolding ring rows
to_some k h = let p : 0 < to_factor k = ltb-true 0 (to_factor k) (each 81 (λ k. ltb 0 (to_factor k)) refl k h) in omega arith

-- where a turn comes to, the next one starts
joined : (k : ℕ) → k < 80 → from_place (suc k) ≡ to_place k
unfolding ring rows
joined k h = same 80 (λ k. from_place (suc k)) (λ k. to_place k) refl k h

closed : from_place 0 ≡ to_place 80
unfolding ring rows
closed = refl

pub to_high : (k : ℕ) → k < 81 → 81 ≤ to_place k
unfolding ring rows
to_high k h = leb-true 81 (to_place k) (each 81 (λ k. leb 81 (to_place k)) refl k h)

pub to_place_lt : (k : ℕ) → k < 81 → to_place k < 162
to_place_lt k h = place_lt (turn_at k).row (turn_at k).to (row_lt k h) (omega (arith, (sides k h).sum, (sides k h).low))

message_place : (r j : ℕ) → r < 81 → j < 2 → place_at r j < 81
unfolding rows
message_place r j h l =
    ltb-true (place_at r j) 81 (each2 81 2 (λ r j. ltb (place_at r j) 81) refl r j h l)

-- each row has a turn, and each check place is come to by one turn
record TurnOf (r : ℕ) : Type 0 where
  turn : ℕ
  low : turn < 81
  is : (turn_at turn).row ≡ r

turn_of : (r : ℕ) → r < 81 → TurnOf r
unfolding turn_of_row ring
turn_of r h =
    let t : ℕ → ℕ = λ r. get_or turn_of_row r 0 in
    let p = and_parts (ltb (t r) 81) (eqb (turn_at (t r)).row r) (each 81 (λ r. ltb (t r) 81 && eqb (turn_at (t r)).row r) refl r h) in
    record { turn = t r; low = ltb-true (t r) 81 p.0; is = eqb-true (turn_at (t r)).row r p.1 }

pub turn_to : ℕ → ℕ
turn_to x = get_or turn_to_place (x - 81) 0

pub record TurnTo (x : ℕ) : Type 0 where
  pub low : turn_to x < 81
  pub is : to_place (turn_to x) ≡ x

pub turn_to_lem : (q : ℕ) → q < 81 → TurnTo (81 + q)
unfolding turn_to turn_to_place ring rows
turn_to_lem q h =
    let t : ℕ → ℕ = λ q. turn_to (81 + q) in
    let p = and_parts (ltb (t q) 81) (eqb (to_place (t q)) (81 + q)) (each 81 (λ q. ltb (t q) 81 && eqb (to_place (t q)) (81 + q)) refl q h) in
    record { low = ltb-true (t q) 81 p.0; is = eqb-true (to_place (t q)) (81 + q) p.1 }

pub turn_back : (k : ℕ) → k < 81 → turn_to (to_place k) ≡ k
unfolding turn_to turn_to_place ring rows
turn_back k h = same 81 (λ k. turn_to (to_place k)) (λ k. k) refl k h

to_apart : (j k : ℕ) → j < 81 → k < 81 → j ≢ k → to_place j ≢ to_place k
to_apart j k hj hk n e = n (sym (turn_back j hj) ∙ ap turn_to e ∙ turn_back k hk)

-- ---- one turn

both_sides : (k : ℕ) → k < 81 → (g : ℕ → ℕ) → bit_xor (g 2) (g 3) ≡ bit_xor (g (turn_at k).from) (g (turn_at k).to)
both_sides k h g =
    let s = sides k h in
    elim (cases_eq (turn_at k).from 2) [
      | inl e ↦ let t : (turn_at k).to ≡ 3 = omega (arith, s.sum) in sym (ap₂ (λ a b. bit_xor (g a) (g b)) e t)
      | inr n ↦
          let a : (turn_at k).from ≡ 3 = omega (arith, s.low, s.high) in
          let b : (turn_at k).to ≡ 2 = omega (arith, s.sum) in
          xor_comm (g 2) (g 3) ∙ sym (ap₂ (λ a b. bit_xor (g a) (g b)) a b)
    ]

module _ (w : ℕ → ℕ) (hw : (k : ℕ) → w k < 64) where
  term_lt : (r j : ℕ) → r < 81 → j < 4 → term r w j < 64
  term_lt r j h l = mul_lt (factor_at r j) (w (place_at r j)) (factor_lt r j h l) (hw (place_at r j))

  pub message_sum_lt : (r : ℕ) → r < 81 → message_sum r w < 64
  unfolding message_sum
  message_sum_lt r h = xor_small (term r w 0) (term r w 1) (term_lt r 0 h (lit< tt)) (term_lt r 1 h (lit< tt))

  -- what a turn's row sums to without the symbol that it comes to
  known : ℕ → ℕ → ℕ
  known k x = bit_xor (message_sum (turn_at k).row w) (mul (from_factor k) x)

  known_lt : (k x : ℕ) → k < 81 → x < 64 → known k x < 64
  unfolding known
  known_lt k x h hx =
      xor_small (message_sum (turn_at k).row w) (mul (from_factor k) x) (message_sum_lt (turn_at k).row (row_lt k h))
      (mul_lt (from_factor k) x (from_lt k h) hx)

  pub next_lt : (k x : ℕ) → k < 81 → x < 64 → next k w x < 64
  unfolding turned known
  next_lt k x h hx = mul_lt (inv (to_factor k)) (known k x) (inv_lt (to_factor k) (to_lt k h)) (known_lt k x h hx)

  pub run_lt : (n x : ℕ) → n ≤ 81 → x < 64 → run w x n < 64
  unfolding run
  run_lt zero x h hx = hx
  run_lt (suc n) x h hx = next_lt n (run w x n) h (run_lt n x (omega arith) hx)

  turn_sum : (k : ℕ) → k < 81
      → weighted (get_or places (turn_at k).row []) (get_or factors (turn_at k).row []) w
      ≡ bit_xor (known k (w (from_place k))) (mul (to_factor k) (w (to_place k)))
  unfolding known message_sum
  turn_sum k h =
      row_terms (turn_at k).row (row_lt k h) w
      ∙ ap (bit_xor (message_sum (turn_at k).row w)) (both_sides k h (term (turn_at k).row w))
      ∙ sym (xor_assoc (message_sum (turn_at k).row w) (mul (from_factor k) (w (from_place k))) (mul (to_factor k) (w (to_place k))))

  -- the turn's symbol makes the sum of its row 0
  next_solves : (k x : ℕ) → k < 81 → x < 64 → bit_xor (known k x) (mul (to_factor k) (next k w x)) ≡ 0
  unfolding turned known
  next_solves k x h hx =
      let y : ℕ = known k x in
      let f : ℕ = to_factor k in
      let hf : f < 64 = to_lt k h in
      let hy : y < 64 = known_lt k x h hx in
      let back : mul f (mul (inv f) y) ≡ y =
      sym (mul_assoc f (inv f) y hf (inv_lt f hf))
      ∙ ap (λ z. mul z y) (mul_comm f (inv f) hf (inv_lt f hf) ∙ mul_inv f hf (to_some k h)) ∙ mul_one y hy in
      ap (bit_xor y) back ∙ xor_self y

  -- and no other does
  next_only : (k x z : ℕ) → k < 81 → z < 64 → bit_xor (known k x) (mul (to_factor k) z) ≡ 0 → z ≡ next k w x
  unfolding turned known
  next_only k x z h hz e =
      sym (mul_inv_off (to_factor k) z (to_lt k h) hz (to_some k h))
      ∙ ap (mul (inv (to_factor k))) (sym (xor_eq (known k x) (mul (to_factor k) z) e))

pub run_suc : (w : ℕ → ℕ) (x k : ℕ) → run w x (suc k) ≡ next k w (run w x k)
unfolding run
run_suc w x k = refl

pub run_zero : (w : ℕ → ℕ) (x : ℕ) → run w x 0 ≡ x
unfolding run
run_zero w x = refl

pub start_is : (w : ℕ → ℕ) → start w ≡ mul 34 (run w 0 81)
unfolding start
start_is w = refl

-- ---- the message alone decides

message_sum_same : (u v : ℕ → ℕ) → ((k : ℕ) → k < 81 → u k ≡ v k) → (r : ℕ) → r < 81 → message_sum r u ≡ message_sum r v
unfolding message_sum
message_sum_same u v e r h =
    ap₂ (λ x y. bit_xor (mul (factor_at r 0) x) (mul (factor_at r 1) y)) (e (place_at r 0) (message_place r 0 h (lit< tt)))
    (e (place_at r 1) (message_place r 1 h (lit< tt)))

pub next_same : (u v : ℕ → ℕ) → ((k : ℕ) → k < 81 → u k ≡ v k) → (n x : ℕ) → n < 81 → next n u x ≡ next n v x
unfolding turned
next_same u v e n x h =
    ap (λ s. mul (inv (to_factor n)) (bit_xor s (mul (from_factor n) x))) (message_sum_same u v e (turn_at n).row (row_lt n h))

run_same : (u v : ℕ → ℕ) → ((k : ℕ) → k < 81 → u k ≡ v k) → (n x : ℕ) → n ≤ 81 → run u x n ≡ run v x n
unfolding run
run_same u v e zero x h = refl
run_same u v e (suc n) x h = ap (next n u) (run_same u v e n x (omega arith)) ∙ next_same u v e n (run v x n) h

start_same : (u v : ℕ → ℕ) → ((k : ℕ) → k < 81 → u k ≡ v k) → start u ≡ start v
unfolding start
start_same u v e = ap (mul 34) (run_same u v e 81 0 (lit≤ tt))

-- ---- once round

-- by how much n turns multiply what they start from
unfoldable gain : ℕ → ℕ
gain zero = 1
gain (suc n) = mul (inv (to_factor n)) (mul (from_factor n) (gain n))

gain_lt : (n : ℕ) → n ≤ 81 → gain n < 64
unfolding gain
gain_lt zero h = lit< tt
gain_lt (suc n) h =
    mul_lt (inv (to_factor n)) (mul (from_factor n) (gain n)) (inv_lt (to_factor n) (to_lt n h))
    (mul_lt (from_factor n) (gain n) (from_lt n h) (gain_lt n (omega arith)))

gain_round : gain 81 ≡ 26
unfolding gain ring rows mul mul_low times_x scaled inv square
gain_round = refl

unit : mul 34 27 ≡ 1
unfolding mul mul_low times_x scaled
unit = refl

linear : (i s a r g x : ℕ) → i < 64 → s < 64 → a < 64 → r < 64 → g < 64 → x < 64
    → mul i (bit_xor s (mul a (bit_xor r (mul g x)))) ≡ bit_xor (mul i (bit_xor s (mul a r))) (mul (mul i (mul a g)) x)
linear i s a r g x hi hs ha hr hg hx =
    let ar : ℕ = mul a r in
    let har : ar < 64 = mul_lt a r ha hr in
    let ag : ℕ = mul a g in
    let hag : ag < 64 = mul_lt a g ha hg in
    let agx : ℕ = mul ag x in
    let hagx : agx < 64 = mul_lt ag x hag hx in
    ap (λ z. mul i (bit_xor s z)) (mul_xor_r a r (mul g x) ha hr (mul_lt g x hg hx) ∙ ap (bit_xor ar) (sym (mul_assoc a g x ha hg)))
    ∙ ap (mul i) (sym (xor_assoc s ar agx))
    ∙ mul_xor_r i (bit_xor s ar) agx hi (xor_small s ar hs har) hagx
    ∙ ap (bit_xor (mul i (bit_xor s ar))) (sym (mul_assoc i ag x hi hag))

-- x + 26 x is 27 x
spread : (x : ℕ) → x < 64 → bit_xor x (mul 26 x) ≡ mul 27 x
spread x hx = sym (mul_xor_l 1 26 x (lit< tt) (lit< tt) ∙ ap (λ z. bit_xor z (mul 26 x)) (mul_one x hx))

-- x = a + 26 x has the one solution 34 a
solution : (a x : ℕ) → a < 64 → x < 64 → x ≡ bit_xor a (mul 26 x) → x ≡ mul 34 a
solution a x ha hx e =
    let back : mul 27 x ≡ a = sym (spread x hx) ∙ ap (λ z. bit_xor z (mul 26 x)) e ∙ xor_off a (mul 26 x) in
    sym (mul_one x hx) ∙ ap (λ z. mul z x) (sym unit) ∙ mul_assoc 34 27 x (lit< tt) (lit< tt) ∙ ap (mul 34) back

solves : (a : ℕ) → a < 64 → bit_xor a (mul 26 (mul 34 a)) ≡ mul 34 a
solves a ha =
    let s : ℕ = mul 34 a in
    let hs : s < 64 = mul_lt 34 a (lit< tt) ha in
    let back : mul 27 s ≡ a =
    sym (mul_assoc 27 34 a (lit< tt) (lit< tt)) ∙ ap (λ z. mul z a) (mul_comm 27 34 (lit< tt) (lit< tt) ∙ unit) ∙ mul_one a ha in
    ap (λ z. bit_xor z (mul 26 s)) (sym back ∙ sym (spread s hs)) ∙ xor_off s (mul 26 s)

module _ (w : ℕ → ℕ) (hw : (k : ℕ) → w k < 64) where
  run_gain : (n x : ℕ) → n ≤ 81 → x < 64 → run w x n ≡ bit_xor (run w 0 n) (mul (gain n) x)
  unfolding run gain turned
  run_gain zero x h hx = sym (mul_one x hx)
  run_gain (suc n) x h hx =
      ap (next n w) (run_gain n x (omega arith) hx)
      ∙ linear (inv (to_factor n)) (message_sum (turn_at n).row w) (from_factor n) (run w 0 n) (gain n) x (inv_lt (to_factor n) (to_lt n h))
      (message_sum_lt w hw (turn_at n).row (row_lt n h)) (from_lt n h) (run_lt w hw n 0 (omega arith) (lit< tt)) (gain_lt n (omega arith)) hx

  once_lt : run w 0 81 < 64
  once_lt = run_lt w hw 81 0 (lit≤ tt) (lit< tt)

  once_round : (x : ℕ) → x < 64 → run w x 81 ≡ bit_xor (run w 0 81) (mul 26 x)
  once_round x hx = run_gain 81 x (lit≤ tt) hx ∙ ap (λ g. bit_xor (run w 0 81) (mul g x)) gain_round

  pub start_lt : start w < 64
  unfolding start
  start_lt = mul_lt 34 (run w 0 81) (lit< tt) once_lt

  -- from the start the ring closes, and from no other symbol
  closes : run w (start w) 81 ≡ start w
  unfolding start
  closes = once_round (start w) start_lt ∙ solves (run w 0 81) once_lt

  closes_only : (x : ℕ) → x < 64 → run w x 81 ≡ x → x ≡ start w
  unfolding start
  closes_only x hx e = solution (run w 0 81) x once_lt hx (sym e ∙ once_round x hx)

-- ---- words that the ring fills

-- v is the message w followed by the first n symbols of the ring, each at its place
pub record FilledTo (n : ℕ) (w : ℕ → ℕ) (v : List ℕ) : Type 0 where
  pub word : SymbolList 162 v
  pub head : (k : ℕ) → k < 81 → sym_at v k ≡ w k
  pub tail : (k : ℕ) → k < n → sym_at v (to_place k) ≡ run w (start w) (suc k)

pub filled_none : (v : List ℕ) → SymbolList 162 v → FilledTo 0 (sym_at v) v
filled_none v h = record { word = h; head = λ k l. refl; tail = λ k l. absurd (omega arith) }

pub filled_more : (w : ℕ → ℕ) (v : List ℕ) (n x : ℕ) → n < 81 → FilledTo n w v → x < 64 → x ≡ run w (start w) (suc n)
    → FilledTo (suc n) w (set v (to_place n) x)
filled_more w v n x h f hx e =
    let inside : to_place n < length v = omega (arith, f.word.long, to_place_lt n h) in
    record {
      word = set_symbols 162 v (to_place n) x f.word hx;
      head = λ k l. let other : k ≢ to_place n = omega (arith, to_high n h) in get_or-set_other v (to_place n) k x 0 other ∙ f.head k l;
      tail = λ k l. elim (cases_eq k n) [
        | inl q ↦
            ap (λ j. get_or (set v (to_place n) x) (to_place j) 0) q ∙ get_or-set_same v (to_place n) x 0 inside ∙ e
            ∙ ap (λ j. run w (start w) (suc j)) (sym q)
        | inr q ↦ get_or-set_other v (to_place n) (to_place k) x 0 (to_apart k n (omega arith) h q) ∙ f.tail k (omega arith)
      ];
    }

before : (w : ℕ → ℕ) → ((k : ℕ) → w k < 64) → (v : List ℕ) → FilledTo 81 w v → (k : ℕ) → k < 81
    → sym_at v (from_place k) ≡ run w (start w) k
unfolding run
before w hw v f zero h = ap (sym_at v) closed ∙ f.tail 80 (lit< tt) ∙ closes w hw
before w hw v f (suc k) h = ap (sym_at v) (joined k (omega arith)) ∙ f.tail k (omega arith)

pub filled_codeword : (w : ℕ → ℕ) → ((k : ℕ) → w k < 64) → (v : List ℕ) → FilledTo 81 w v → Codeword bcnav3 v
unfolding known
filled_codeword w hw v f =
    let at_turn : (k : ℕ) → k < 81 → row_sum bcnav3 (turn_at k).row v ≡ 0 =
    λ k h. let x : ℕ = run w (start w) k in
    turn_sum (sym_at v) f.word.small k h
    ∙ ap₂ (λ a b. bit_xor (bit_xor (message_sum (turn_at k).row (sym_at v)) (mul (from_factor k) a)) (mul (to_factor k) b))
    (before w hw v f k h) (f.tail k h ∙ run_suc w (start w) k)
    ∙ ap (λ s. bit_xor (bit_xor s (mul (from_factor k) x)) (mul (to_factor k) (next k w x)))
    (message_sum_same (sym_at v) w f.head (turn_at k).row (row_lt k h))
    ∙ next_solves w hw k x h (run_lt w hw k (start w) (omega arith) (start_lt w hw)) in
    record {
      word = f.word;
      sums = λ r h. let t = turn_of r (omega (arith, rows_81)) in
          ap (λ z. row_sum bcnav3 z v) (sym t.is) ∙ at_turn t.turn t.low;
    }

-- ---- a code word is what the ring fills

codeword_next : (v : List ℕ) → Codeword bcnav3 v → (k : ℕ) → k < 81 → sym_at v (to_place k) ≡ next k (sym_at v) (sym_at v (from_place k))
codeword_next v c k h =
    let w = sym_at v in
    let hw = c.word.small in
    next_only w hw k (w (from_place k)) (w (to_place k)) h (hw (to_place k))
    (sym (turn_sum w hw k h) ∙ c.sums (turn_at k).row (omega (arith, rows_81, row_lt k h)))

codeword_run : (v : List ℕ) → Codeword bcnav3 v → (k : ℕ) → k < 81
    → sym_at v (to_place k) ≡ run (sym_at v) (sym_at v (from_place 0)) (suc k)
unfolding run
codeword_run v c zero h = codeword_next v c 0 h
codeword_run v c (suc k) h =
    codeword_next v c (suc k) h
    ∙ ap (next (suc k) (sym_at v)) (ap (sym_at v) (joined k (omega arith)) ∙ codeword_run v c k (omega arith))

codeword_filled : (v : List ℕ) → Codeword bcnav3 v → FilledTo 81 (sym_at v) v
codeword_filled v c =
    let w = sym_at v in
    let hw = c.word.small in
    let x : ℕ = w (from_place 0) in
    let e : x ≡ start w = closes_only w hw x (hw (from_place 0)) (sym (codeword_run v c 80 (lit< tt)) ∙ ap w (sym closed)) in
    record { word = c.word; head = λ k h. refl; tail = λ k h. codeword_run v c k h ∙ ap (λ z. run w z (suc k)) e }

-- code words with the same message are equal
pub same_message : (u v : List ℕ) → Codeword bcnav3 u → Codeword bcnav3 v → ((k : ℕ) → k < 81 → sym_at u k ≡ sym_at v k) → u ≡ v
same_message u v cu cv e =
    let fu = codeword_filled u cu in
    let fv = codeword_filled v cv in
    let tails : (k : ℕ) → k < 81 → sym_at u (to_place k) ≡ sym_at v (to_place k) =
    λ k h. fu.tail k h ∙ run_same (sym_at u) (sym_at v) e (suc k) (start (sym_at u)) h
    ∙ ap (λ x. run (sym_at v) x (suc k)) (start_same (sym_at u) (sym_at v) e) ∙ sym (fv.tail k h) in
    ext_get_or 0 u v (cu.word.long ∙ sym cv.word.long)
    (λ k h. elim (cases_lt k 81) [
      | inl l ↦ e k l
      | inr l ↦
          let q : k - 81 < 81 = omega (arith, cu.word.long) in
          let t = turn_to_lem (k - 81) q in
          let is : to_place (turn_to (81 + (k - 81))) ≡ k = t.is ∙ omega arith in
          ap (sym_at u) (sym is) ∙ tails (turn_to (81 + (k - 81))) t.low ∙ ap (sym_at v) is
    ])
