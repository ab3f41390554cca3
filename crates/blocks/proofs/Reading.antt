-- What a read answers, from what its steps find.
use Rattle.std.proofs.Common.{◌≡◌, ℕ, true, cond, List, ℤ, None, Err, Option, sym, ap, ◌∙◌}
use Rattle.bits.specs.Bits.{bits_of}
use Rattle.layout.specs.Ranges.{first_outside}
use Rattle.parity.specs.Bytes.{symbol_fault}
use Rattle.blocks.specs.Held.{held_in, placed_of}
use Rattle.blocks.specs.Read.{by_symbols, by_range, is_of, read_as}
use Rattle.blocks.specs.declared.fault.BlockFault.TheVariants.{OtherType}
use Rattle.blocks.specs.declared.place.Place.{Place}

module _ {R : Type 0} (p : Place) (made : List ℤ → R) (m : List ℕ) (good : symbol_fault 81 m ≡ None) where
  pub of_type : (o : Option ℕ) → is_of p.message_type m ≡ true → first_outside (placed_of p) (bits_of m) ≡ o
      → read_as p made m ≡ by_range o (made (held_in p m))
  of_type o e f =
      ap (λ o. by_symbols o (cond (is_of p.message_type m) (by_range (first_outside (placed_of p) (bits_of m)) (made (held_in p m))) (Err (OtherType p.number)))) good
      ∙ ap (λ b. cond b (by_range (first_outside (placed_of p) (bits_of m)) (made (held_in p m))) (Err (OtherType p.number))) e
      ∙ ap (λ o. by_range o (made (held_in p m))) f

-- of the place q that is p, and the symbols w that are the bytes m
pub ranged : {R : Type 0} (p q : Place) (made : List ℤ → R) (m w : List ℕ) (o : Option ℕ) → q ≡ p → w ≡ m → symbol_fault 81 m ≡ None
    → true ≡ is_of q.message_type w → o ≡ first_outside (placed_of q) (bits_of w) → by_range o (made (held_in p m)) ≡ read_as p made m
ranged p q made m w o e s good f x =
    sym (of_type p made m good o (sym (f ∙ ap (λ (x : Place). is_of x.message_type w) e ∙ ap (is_of p.message_type) s))
    (sym (x ∙ ap (λ (y : Place). first_outside (placed_of y) (bits_of w)) e ∙ ap (λ l. first_outside (placed_of p) (bits_of l)) s)))
