-- The bits that the writes of a message leave, one after another.
use Rattle.std.proofs.Common.{◌≡◌, ℕ, zero, suc, ◌+◌, ◌-◌, ◌≤◌, cond, ◌≢◌, List, [], ◌∷◌, ◌++◌, length, take, replicate, ℤ, pos, negsuc, sum_by, sym, refl, ap, ◌∙◌, append_assoc, arith, length-append}
use mathlib.Core.Path.{subst⁻¹}
use lib.ListN.{replicate-append-replicate}
use Rattle.std.proofs.lemmas.List.{drop_at, drop-drop, drop-replicate, take_at}
use Rattle.std.proofs.lemmas.Int.{ints}
use Rattle.std.proofs.lemmas.List.Sums.{sum_by-cons}
use Rattle.std.specs.List.{AllByRecursion}
use Rattle.bits.specs.Bits.{bits_of, pasted, spelled}
use Rattle.bits.proofs.Symbols.{bits_take}
use Rattle.crc.specs.Crc.{crc_of}
use Rattle.layout.specs.Layout.{fields_of, number_of, reserved, width_of}
use Rattle.layout.specs.Placed.{is_reserved}
use Rattle.layout.specs.Ranges.{Within}
use Rattle.layout.specs.declared.MessageType.{MessageType}
use Rattle.layout.specs.declared.MessageType.TheVariants.{Type40}
use Rattle.layout.specs.declared.Part.{Part}
use Rattle.layout.specs.declared.Part.TheVariants.{Reserved}
use Rattle.layout.proofs.Laws.{data_end}
use Rattle.blocks.specs.Write.{pack}
use Rattle.blocks.proofs.Packed.{length_pack}
use Rattle.parity.specs.Code.{SymbolList}
use Rattle.written.specs.Written.{Counted, Fits, FitsAll, Full, WrittenAs, closed, closed_bits, message_bits, over, parts_bits, start_bits, written_from}
use Rattle.written.proofs.Fitting.{fits_long}
use Rattle.written.proofs.Holding.{Apart, parts, taken_apart}
use Rattle.written.proofs.Laws.{message_long}

-- s written over zeros
pub paste_zeros : (front s : List ℕ) (b n : ℕ) → length front ≡ b
    → pasted (front ++ replicate n 0) b s ≡ front ++ (s ++ replicate (n - length s) 0)
paste_zeros front s b n e =
    let zeros : List ℕ = replicate n 0 in
    rw (take_at front zeros b e, ← drop-drop (length s) b (front ++ zeros), drop_at front zeros b e, drop-replicate)

-- ---- reserved bits

zero_count : (z : ℤ) → Within reserved z → z ≡ pos 0
zero_count (pos n) w = ap pos (omega (arith, ints, w.high))
zero_count (negsuc n) w = absurd (omega (arith, ints, w.low))

zero_bits : (n : ℕ) (zs : List ℤ) → FitsAll (replicate n reserved) zs → pack (replicate n reserved) zs ≡ replicate n 0
unfolding FitsAll pack
zero_bits zero zs f = refl
zero_bits (suc n) [] f = absurd f
zero_bits (suc n) (z ∷ zs) f =
    ap (λ (y : ℤ). pack (reserved ∷ replicate n reserved) (y ∷ zs)) (zero_count z f.0) ∙ ap (λ l. 0 ∷ l) (zero_bits n zs f.1)

reserved_bits : (zs : List ℤ) → FitsAll (fields_of Reserved) zs → pack (fields_of Reserved) zs ≡ replicate 4 0
unfolding fields_of
reserved_bits zs f = zero_bits 4 zs f

-- ---- one part more

-- reserved bits are zeros already
skipped : (front : List ℕ) (n : ℕ) (zs : List ℤ) → FitsAll (fields_of Reserved) zs → 4 ≤ n
    → front ++ replicate n 0 ≡ front ++ (pack (fields_of Reserved) zs ++ replicate (n - length (pack (fields_of Reserved) zs)) 0)
skipped front n zs f h =
    let k : n ≡ 4 + (n - 4) = omega arith in
    ap (λ j. front ++ replicate j 0) k ∙ ap (λ l. front ++ l) (sym (replicate-append-replicate 4 (n - 4) 0))
    ∙ ap (λ (l : List ℕ). front ++ (l ++ replicate (n - length l) 0)) (sym (reserved_bits zs f))

step : (front : List ℕ) (b n : ℕ) (p : Part) (zs : List ℤ) → length front ≡ b → FitsAll (fields_of p) zs → length (pack (fields_of p) zs) ≤ n
    → cond (is_reserved p) (front ++ replicate n 0) (over p b zs (front ++ replicate n 0))
    ≡ front ++ (pack (fields_of p) zs ++ replicate (n - length (pack (fields_of p) zs)) 0)
step front b n Reserved zs e f h = skipped front n zs f (omega (arith, ap length (reserved_bits zs f)))
step front b n p zs e f h = paste_zeros front (pack (fields_of p) zs) b n e

pub written_from_lem : (xs : List Counted) (front : List ℕ) (b n : ℕ) → length front ≡ b → AllByRecursion Apart (parts xs) → AllByRecursion Fits xs
    → sum_by width_of (parts xs) ≤ n
    → written_from b xs (front ++ replicate n 0) ≡ front ++ (parts_bits xs ++ replicate (n - sum_by width_of (parts xs)) 0)
unfolding parts_bits
written_from_lem [] front b n e a f h = let same : n ≡ n - 0 = omega arith in ap (λ k. front ++ replicate k 0) same
written_from_lem (x ∷ xs) front b n e a f h =
    let p = x.0 in
    let mine : List ℕ = pack (fields_of p) x.1 in
    let wide : length mine ≡ width_of p = length_pack (fields_of p) x.1 (fits_long (fields_of p) x.1 f.0) ∙ a.0 in
    let sum = sum_by-cons width_of p (parts xs) in
    let rest : ℕ = sum_by width_of (parts xs) in
    let done : cond (is_reserved p) (front ++ replicate n 0) (over p b x.1 (front ++ replicate n 0)) ≡ (front ++ mine) ++ replicate (n - length mine) 0 =
    step front b n p x.1 e f.0 (omega arith) ∙ sym (append_assoc front mine (replicate (n - length mine) 0)) in
    let left : n - length mine - rest ≡ n - sum_by width_of (parts (x ∷ xs)) = omega arith in
    ap (written_from (b + width_of p) xs) done
    ∙ written_from_lem xs (front ++ mine) (b + width_of p) (n - length mine) (length-append front mine ∙ omega arith) a.1 f.1 (omega arith)
    ∙ append_assoc front mine (parts_bits xs ++ replicate (n - length mine - rest) 0)
    ∙ ap (λ l. front ++ l) (sym (append_assoc mine (parts_bits xs) (replicate (n - length mine - rest) 0)))
    ∙ ap (λ k. front ++ ((mine ++ parts_bits xs) ++ replicate k 0)) left

-- ---- a message

module _ (t : MessageType) (s : ℕ) (xs : List Counted) (n : t ≢ Type40) (f : Full t xs) where
  apart : AllByRecursion Apart (parts xs)
  apart = subst⁻¹ (AllByRecursion Apart) f.parts (taken_apart t n)

  pub run_bits : written_from 26 xs (start_bits (number_of t) s) ≡ message_bits t s xs ++ replicate 510 0
  unfolding start_bits message_bits
  run_bits =
      let head : List ℕ = spelled 6 (number_of t) ++ spelled 20 s in
      let sum : sum_by width_of (parts xs) ≡ 436 = omega (arith, data_end t, ap (sum_by width_of) f.parts) in
      ap (written_from 26 xs) (sym (append_assoc (spelled 6 (number_of t)) (spelled 20 s) (replicate 946 0)))
      ∙ written_from_lem xs head 26 946 refl apart f.fits (omega arith)
      ∙ ap (λ k. head ++ (parts_bits xs ++ replicate (946 - k) 0)) sum ∙ simp append_assoc

  pub closed_bits_lem : closed (written_from 26 xs (start_bits (number_of t) s)) ≡ closed_bits t s xs ++ replicate 486 0
  closed_bits_lem =
      let body : List ℕ = message_bits t s xs in
      let end : List ℕ = spelled 24 (crc_of body) in
      let long : length body ≡ 462 = message_long t s xs (taken_apart t n) f in
      ap closed run_bits
      ∙ ap (λ l. pasted (body ++ replicate 510 0) 462 (spelled 24 (crc_of l))) (take_at body (replicate 510 0) 462 long)
      ∙ paste_zeros body end 462 510 long
      ∙ sym (append_assoc body end (replicate 486 0))

  -- the first 486 bits are the message
  pub first_bits : take 486 (closed (written_from 26 xs (start_bits (number_of t) s))) ≡ closed_bits t s xs
  first_bits =
      let body : List ℕ = message_bits t s xs in
      let end : List ℕ = spelled 24 (crc_of body) in
      let long : length (body ++ end) ≡ 486 =
      length-append body end ∙ omega (arith, message_long t s xs (taken_apart t n) f) in
      ap (take 486) closed_bits_lem ∙ take_at (body ++ end) (replicate 486 0) 486 long

-- the message in the first 81 symbols of such bits
pub written_as : (ss : List ℕ) (t : MessageType) (s : ℕ) (xs : List Counted) → SymbolList 81 (take 81 ss) → t ≢ Type40 → s ≤ 604799
    → Full t xs → take 486 (bits_of ss) ≡ closed_bits t s xs → WrittenAs (take 81 ss) t s xs
written_as ss t s xs m n h f e = record { symbols = m; apart = n; second = h; full = f; bits = bits_take 81 ss ∙ e }
