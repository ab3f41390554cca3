-- A message that is written is lawful, and holds what was put.
use Rattle.std.proofs.Common.{◌≡◌, ℕ, ◌^◌, ◌<◌, Bool, true, false, List, ◌++◌, length, get_or, take, drop, sum_by, sym, refl, ap, ◌∙◌, subst, append_assoc, arith}
use mathlib.Core.Path.{subst⁻¹}
use lib.ListN.{length-map}
use Rattle.std.proofs.lemmas.List.{drop_at, get_or-map, take_at}
use Rattle.std.specs.Int.Digits.{number_from_digits}
use Rattle.std.specs.List.{AllByRecursion}
use Rattle.bits.specs.Bits.{bits_of, spelled}
use Rattle.bits.proofs.Spelled.{number_spelled}
use Rattle.crc.specs.Crc.{crc_of, crc_of_message}
use Rattle.crc.proofs.Steps.{steps_lt}
use Rattle.layout.specs.Laws.{start}
use Rattle.layout.specs.Layout.{number_of, parts_of, width_of}
use Rattle.layout.specs.Placed.{looks_at, parameters_of, reserved_of, spread}
use Rattle.layout.specs.Ranges.{InRange}
use Rattle.layout.specs.declared.MessageType.{MessageType}
use Rattle.layout.specs.declared.MessageType.TheVariants.{Type10, Type30, Type40}
use Rattle.layout.specs.declared.Part.{Part}
use Rattle.layout.specs.declared.Part.TheVariants.{Opaque}
use Rattle.layout.proofs.Laws.{data_end}
use Rattle.message.specs.Lawful.{Lawful, number_at}
use Rattle.blocks.specs.Held.{held_in}
use Rattle.blocks.specs.Stands.{Stands}
use Rattle.blocks.specs.declared.place.Place.{Place}
use Rattle.written.specs.Written.{Counted, Full, LawfulAs, WrittenAs, message_bits, parts_bits}
use Rattle.written.proofs.Holding.{Apart, HeldFrom, held_from, held_part, in_range, length_parts, parts, taken_apart}

pub type_small : (t : MessageType) → number_of t < 2 ^ 6
type_small Type10 = omega arith
type_small Type30 = omega arith
type_small Type40 = omega arith

-- the bits before the CRC
pub message_long : (t : MessageType) (s : ℕ) (xs : List Counted) → AllByRecursion Apart (parts_of t) → Full t xs → length (message_bits t s xs) ≡ 462
unfolding message_bits
message_long t s xs a f =
    let n = length_parts xs (subst⁻¹ (AllByRecursion Apart) f.parts a) f.fits in
    omega (arith, n, ap (λ (ps : List Part). sum_by width_of ps) f.parts, data_end t)

module _ (m : List ℕ) (t : MessageType) (s : ℕ) (xs : List Counted) (w : WrittenAs m t s xs) where
  body : List ℕ
  body = message_bits t s xs

  end : List ℕ
  end = spelled 24 (crc_of body)

  apart : AllByRecursion Apart (parts_of t)
  apart = taken_apart t w.apart

  long : length body ≡ 462
  unfolding body
  long = message_long t s xs apart w.full

  is : bits_of m ≡ body ++ end
  unfolding body end
  is = w.bits

  apart_of : bits_of m ≡ spelled 6 (number_of t) ++ (spelled 20 s ++ (parts_bits xs ++ end))
  unfolding body message_bits
  apart_of = is ∙ simp append_assoc

  type_is : number_at m 0 6 ≡ number_of t
  unfolding number_at
  type_is = ap (λ l. number_from_digits 2 (take 6 l)) apart_of ∙ number_spelled 6 (number_of t) (type_small t)

  second_is : number_at m 6 20 ≡ s
  unfolding number_at
  second_is = ap (λ l. number_from_digits 2 (take 20 (drop 6 l))) apart_of ∙ number_spelled 20 s (omega (arith, w.second))

  crc_is : number_at m 462 24 ≡ crc_of_message m
  unfolding number_at crc_of_message crc_of end
  crc_is =
      ap (λ l. number_from_digits 2 (take 24 (drop 462 l))) is ∙ ap (λ l. number_from_digits 2 (take 24 l)) (drop_at body end 462 long)
      ∙ number_spelled 24 (crc_of body) (steps_lt 0 body (omega arith))
      ∙ sym (ap (λ l. crc_of (take 462 l)) is ∙ ap crc_of (take_at body end 462 long))

  pub held_all : HeldFrom (bits_of m) 26 xs
  held_all =
      held_from (bits_of m) (spelled 6 (number_of t) ++ spelled 20 s) end 26 xs (apart_of ∙ simp append_assoc)
      refl (subst⁻¹ (AllByRecursion Apart) w.full.parts apart) w.full.fits

  ranged : (keep : Part → Bool) → AllByRecursion (InRange (bits_of m)) (spread keep 26 (parts_of t))
  ranged keep =
      subst (λ (ps : List Part). AllByRecursion (InRange (bits_of m)) (spread keep 26 ps)) w.full.parts
      (in_range keep (bits_of m) 26 xs held_all w.full.fits)

  law : Lawful m
  unfolding reserved_of parameters_of
  law = record {
    symbols = w.symbols;
    crc = crc_is;
    type = t;
    numbered = type_is;
    second = omega (arith, second_is, w.second);
    reserved = ranged (looks_at true);
    fields = ranged (looks_at false);
  }

  pub lawful : LawfulAs m t s
  unfolding law
  lawful = record { lawful = law; typed = refl; second = second_is }

  -- a block of the type
  pub holds_block : (p : Place) (size : ℕ) (d : Counted) → p.message_type ≡ t → (k : Stands p size) → held_in p m ≡ (get_or xs k.index d).1
  unfolding held_in
  holds_block p size d e k =
      let i : ℕ = k.index in
      let ps : parts xs ≡ parts_of p.message_type = w.full.parts ∙ ap parts_of (sym e) in
      let l : i < length xs = omega (arith, length-map xs (λ x. x.0), ap length ps, k.inside) in
      let first : start width_of 26 (parts xs) i ≡ p.first_bit = ap (λ (l : List Part). start width_of 26 l i) ps ∙ k.first in
      let part : (get_or xs i d).0 ≡ p.part = sym (get_or-map (λ x. x.0) xs i d Opaque l) ∙ ap (λ (l : List Part). get_or l i Opaque) ps ∙ k.part in
      rw (← first, ← part) (held_part (bits_of m) 26 xs i d held_all l)
