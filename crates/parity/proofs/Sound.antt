-- The table of B-CNAV3 is sound.
use Rattle.std.proofs.Common.{◌≡◌, ℕ, suc, ◌+◌, ◌-◌, ◌<◌, List, ◌++◌, map, length, get_or, sym, ap, ◌∙◌, inl, inr, arith, lit<, length-append}
use mathlib.Core.Path.{subst⁻¹}
use Rattle.std.proofs.lemmas.List.FromFn.{length-map-range_with_len, get_or-map-range_with_len}
use Rattle.std.proofs.lemmas.List.{get_or_append_left, get_or-append_right, get_or_past, get_or-take, take_at}
use Rattle.std.proofs.lemmas.Bool.{cases_lt}
use Rattle.std.specs.List.{range_with_len}
use Rattle.parity.specs.Code.{SymbolList, Encodes, sym_at}
use Rattle.parity.specs.Ring.{to_place, run, start}
use Rattle.parity.specs.Sound.{Sound}
use Rattle.parity.specs.Table.{bcnav3}
use Rattle.parity.proofs.Ring.{FilledTo, filled_codeword, same_message, run_lt, start_lt, turn_to, turn_to_lem, turn_back, to_high, to_place_lt}
use Rattle.parity.proofs.Rows.{row_sound, rows_81, two_rows, share_one}

-- code words that begin with the same message are equal
pub encodes_only : (m u v : List ℕ) → Encodes bcnav3 m u → Encodes bcnav3 m v → u ≡ v
encodes_only m u v eu ev =
    same_message u v eu.codeword ev.codeword
    (λ k h. sym (get_or-take 81 u k 0 h) ∙ ap (λ l. get_or l k 0) (eu.begins ∙ sym ev.begins) ∙ get_or-take 81 v k 0 h)

module _ (m : List ℕ) (hm : SymbolList 81 m) where
  check : ℕ → ℕ
  check x = run (sym_at m) (start (sym_at m)) (suc (turn_to x))

  checks : List ℕ
  checks = map check (range_with_len 81 81)

  word : List ℕ
  word = m ++ checks

  in_message : (k : ℕ) → k < 81 → get_or word k 0 ≡ get_or m k 0
  unfolding word
  in_message k h = get_or_append_left m checks 0 k (omega (arith, hm.long))

  in_checks : (q : ℕ) → q < 81 → get_or word (81 + q) 0 ≡ check (81 + q)
  unfolding word checks
  in_checks q h =
      get_or-append_right m checks 81 (81 + q) 0 hm.long (omega arith)
      ∙ get_or-map-range_with_len check 81 81 (81 + q - 81) (81 + q) 0 (omega arith) (omega arith)

  word_long : length word ≡ 162
  unfolding word checks
  word_long = omega (arith, length-append m checks, hm.long, length-map-range_with_len check 81 81)

  word_small : (k : ℕ) → get_or word k 0 < 64
  unfolding check
  word_small k =
      elim (cases_lt k 81) [
        | inl h ↦ subst⁻¹ (λ (x : ℕ). x < 64) (in_message k h) (hm.small k)
        | inr h ↦ elim (cases_lt k 162) [
          | inl l ↦
              let q : k - 81 < 81 = omega arith in
              let e : k ≡ 81 + (k - 81) = omega arith in
              subst⁻¹ (λ (x : ℕ). x < 64) (ap (λ j. get_or word j 0) e ∙ in_checks (k - 81) q)
              (run_lt (sym_at m) hm.small (suc (turn_to (81 + (k - 81)))) (start (sym_at m)) (turn_to_lem (k - 81) q).low (start_lt (sym_at m) hm.small))
          | inr l ↦ subst⁻¹ (λ (x : ℕ). x < 64) (get_or_past word k 0 (omega (arith, word_long))) (lit< tt)
        ]
      ]

  filled : FilledTo 81 (sym_at m) word
  unfolding check
  filled = record {
    word = record { long = word_long; small = word_small };
    head = in_message;
    tail = λ k h.
        let q : to_place k - 81 < 81 = omega (arith, to_place_lt k h) in
        let e : 81 + (to_place k - 81) ≡ to_place k = omega (arith, to_high k h) in
        ap (λ j. get_or word j 0) (sym e) ∙ in_checks (to_place k - 81) q
        ∙ ap (λ j. run (sym_at m) (start (sym_at m)) (suc j)) (ap turn_to e ∙ turn_back k h);
  }

  word_encodes : Encodes bcnav3 m word
  unfolding word
  word_encodes = record { codeword = filled_codeword (sym_at m) hm.small word filled; begins = take_at m checks 81 hm.long }

pub sound : Sound bcnav3
sound =
    record {
      rows = λ r h. row_sound r (omega (arith, rows_81));
      two_rows = two_rows;
      share_one = λ a b ha hb. share_one a b (omega (arith, rows_81)) hb;
      begins_one = λ m hm. record { word = word m hm; encodes = word_encodes m hm; only = λ v e. encodes_only m v (word m hm) e (word_encodes m hm) };
    }
