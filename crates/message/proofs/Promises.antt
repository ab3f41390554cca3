-- What the answer of a check promises.
use Rattle.std.proofs.Common.{◌≡◌, ℕ, Bool, true, false, List, take, is_ok, Some, None, Ok, Err, Decides, Option, Result, sym, refl, ap, ◌∙◌, subst, arith}
use Rattle.parity.specs.Bytes.{symbol_fault, first_nonzero}
use Rattle.parity.specs.Code.{Codeword, Encodes}
use Rattle.parity.specs.Table.{bcnav3}
use Rattle.parity.specs.declared.SymbolFault.{SymbolFault}
use Rattle.parity.proofs.Codewords.{codeword_of, of_codeword, take_symbols}
use Rattle.parity.proofs.Distance.{altered}
use Rattle.parity.proofs.Sound.{sound}
use Rattle.message.specs.Checked.{checked, in_turn}
use Rattle.message.specs.Examined.{examined}
use Rattle.message.specs.Lawful.{Lawful}
use Rattle.message.specs.Promise.{Altered, Carries}
use Rattle.message.specs.declared.answer.Header.{Header}
use Rattle.message.specs.declared.fault.MessageFault.{MessageFault}
use Rattle.message.specs.declared.fault.WordFault.{WordFault}
use Rattle.message.proofs.Laws.{examined_lawful, lawful_examined}

-- where the answer is an Ok, no part found a fault
record Parts (o : Option SymbolFault) (p : Option ℕ) (r : Result Header MessageFault) : Type 0 where
  symbols : o ≡ None
  sums : p ≡ None
  message : is_ok r ≡ true

parts : (o : Option SymbolFault) (p : Option ℕ) (r : Result Header MessageFault) → is_ok (in_turn o p r) ≡ true → Parts o p r
parts (Some e) p r t = let z : ◌≡◌ {A = ℕ} 0 1 = cc in absurd (omega arith)
parts None (Some row) r t = let z : ◌≡◌ {A = ℕ} 0 1 = cc in absurd (omega arith)
parts None None (Err e) t = let z : ◌≡◌ {A = ℕ} 0 1 = cc in absurd (omega arith)
parts None None (Ok h) t = record { symbols = refl; sums = refl; message = refl }

checked_codeword : (w : List ℕ) → is_ok (checked w) ≡ true → Codeword bcnav3 w
checked_codeword w t =
    let p = parts (symbol_fault 162 w) (first_nonzero w) (examined (take 81 w)) t in codeword_of w p.symbols p.sums

pub checked_carries : (w : List ℕ) → is_ok (checked w) ≡ true → Carries w
checked_carries w t =
    let p = parts (symbol_fault 162 w) (first_nonzero w) (examined (take 81 w)) t in
    let c = checked_codeword w t in
    record {
      message = take 81 w;
      lawful = examined_lawful (take 81 w) (take_symbols w c.word) p.message;
      encodes = record { codeword = c; begins = refl };
    }

-- a code word is answered as the message that it begins with
pub checked_encoded : (m w : List ℕ) → Encodes bcnav3 m w → checked w ≡ in_turn None None (examined m)
checked_encoded m w e =
    let c = of_codeword w e.codeword in
    rw (c.0, c.1) (ap (λ (l : List ℕ). in_turn None None (examined l)) e.begins)

pub carries_checked : (w : List ℕ) → Carries w → is_ok (checked w) ≡ true
carries_checked w c =
    let e = of_codeword w c.encodes.codeword in
    let l : Lawful (take 81 w) = subst Lawful (sym c.encodes.begins) c.lawful in
    rw (e.0, e.1, lawful_examined (take 81 w) l)

pub decided : (w : List ℕ) (r : Result Header WordFault) → r ≡ checked w → Decides (is_ok r) (Carries w)
decided w r e = (λ t. checked_carries w (ap is_ok (sym e) ∙ t), λ c. ap is_ok e ∙ carries_checked w c)

not_true : (b : Bool) → (b ≡ true → ⊥) → b ≡ false
not_true true h = absurd (h refl)
not_true false h = refl

pub altered_refused : (w : List ℕ) (r : Result Header WordFault) → r ≡ checked w → is_ok r ≡ true → (v : List ℕ) → Altered w v
    → is_ok (checked v) ≡ false
altered_refused w r e t v a =
    not_true (is_ok (checked v))
    (λ s. altered bcnav3 sound w v (checked_codeword w (ap is_ok (sym e) ∙ t)) a (checked_codeword v s))
