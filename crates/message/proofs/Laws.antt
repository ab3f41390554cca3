-- A message is answered with its header exactly when it is lawful.
use Rattle.std.proofs.Common.{◌≡◌, ℕ, Bool, true, false, cond, leb, List, is_ok, Some, None, Ok, Err, Decides, Option, Result, sym, refl, ap, ◌∙◌, arith}
use Rattle.std.proofs.lemmas.Bool.{eq-eqb, eqb-true, le-leb, leb-true}
use Rattle.bits.specs.Bits.{bits_of}
use Rattle.crc.specs.Crc.{crc_of_message}
use Rattle.layout.specs.Layout.{number_of, type_of}
use Rattle.layout.specs.Placed.{reserved_of, parameters_of}
use Rattle.layout.specs.declared.MessageType.{MessageType}
use Rattle.layout.specs.declared.MessageType.TheVariants.{Type10, Type30, Type40}
use Rattle.layout.proofs.Ranges.{none_all, all_none}
use Rattle.parity.specs.Code.{SymbolList}
use Rattle.message.specs.Examined.{number_at, crc_fits, first_reserved, first_field, by_bits, by_type, examined}
use Rattle.message.specs.Lawful.{Lawful}
use Rattle.message.specs.declared.answer.Header.{Header}
use Rattle.message.specs.declared.fault.MessageFault.{MessageFault}

-- where a test leads on to an Ok, it was passed
passed : (b : Bool) (r : Result Header MessageFault) (e : MessageFault) → is_ok (cond b r (Err e)) ≡ true → (b ≡ true) × (is_ok r ≡ true)
passed true r e t = (refl, t)
passed false r e t = let z : ◌≡◌ {A = ℕ} 0 1 = cc in absurd (omega arith)

clear : (o p : Option ℕ) (h : Header) → is_ok (by_bits o p h) ≡ true → (o ≡ None) × (p ≡ None)
clear None None h t = (refl, refl)
clear None (Some b) h t = let z : ◌≡◌ {A = ℕ} 0 1 = cc in absurd (omega arith)
clear (Some b) p h t = let z : ◌≡◌ {A = ℕ} 0 1 = cc in absurd (omega arith)

type_number : (n : ℕ) (t : MessageType) → type_of n ≡ Some t → n ≡ number_of t
type_number n Type10 e = grind arith
type_number n Type30 e = grind arith
type_number n Type40 e = grind arith

number_type : (t : MessageType) → type_of (number_of t) ≡ Some t
number_type Type10 = refl
number_type Type30 = refl
number_type Type40 = refl

by_type_lem : (o : Option MessageType) (m : List ℕ) → SymbolList 81 m → type_of (number_at m 0 6) ≡ o → number_at m 462 24 ≡ crc_of_message m
    → is_ok (by_type o (number_at m 0 6) (number_at m 6 20) m) ≡ true → Lawful m
by_type_lem None m s e c t = let z : ◌≡◌ {A = ℕ} 0 1 = cc in absurd (omega arith)
by_type_lem (Some k) m s e c t =
    let p = passed (leb (number_at m 6 20) 604799) (by_bits (first_reserved k m) (first_field k m) _) _ t in
    let q = clear (first_reserved k m) (first_field k m) _ p.1 in
    record {
      symbols = s;
      crc = c;
      type = k;
      numbered = type_number (number_at m 0 6) k e;
      second = leb-true (number_at m 6 20) 604799 p.0;
      reserved = none_all (reserved_of k) (bits_of m) q.0;
      fields = none_all (parameters_of k) (bits_of m) q.1;
    }

pub examined_lawful : (m : List ℕ) → SymbolList 81 m → is_ok (examined m) ≡ true → Lawful m
examined_lawful m s t =
    let p = passed (crc_fits m) (by_type (type_of (number_at m 0 6)) (number_at m 0 6) (number_at m 6 20) m) _ t in
    by_type_lem (type_of (number_at m 0 6)) m s refl (eqb-true (number_at m 462 24) (crc_of_message m) p.0) p.1

pub lawful_examined : (m : List ℕ) (l : Lawful m) → examined m ≡ Ok (record { message_type = l.type; second = number_at m 6 20 })
lawful_examined m l =
    let a = eq-eqb (number_at m 462 24) (crc_of_message m) l.crc in
    let b : type_of (number_at m 0 6) ≡ Some l.type = ap type_of l.numbered ∙ number_type l.type in
    let c = le-leb (number_at m 6 20) 604799 l.second in
    let d = all_none (reserved_of l.type) (bits_of m) l.reserved in
    let e = all_none (parameters_of l.type) (bits_of m) l.fields in
    rw (a, b, c, d, e)

pub decided : (m : List ℕ) (r : Result Header MessageFault) → SymbolList 81 m → r ≡ examined m → Decides (is_ok r) (Lawful m)
decided m r s e = (λ t. examined_lawful m s (ap is_ok (sym e) ∙ t), λ l. ap is_ok (e ∙ lawful_examined m l))
