-- The first field out of range is found, and none just where every field is in range.
use Rattle.std.proofs.Common.{◌≡◌, ℕ, Bool, true, false, cond, ◌⊎◌, List, [], ◌∷◌, ◌++◌, ℤ, Some, None, Option, sym, refl, ap, ◌∙◌, inl, inr, arith}
use Rattle.std.proofs.lemmas.List.{append-nil, append_assoc}
use Rattle.std.proofs.lemmas.Int.{ints}
use Rattle.std.proofs.lemmas.Bool.{both_ways, cases_Bool, cond-true}
use Rattle.std.specs.List.{AllByRecursion}
use Rattle.layout.specs.declared.Field.{Field}
use Rattle.layout.specs.Placed.{Placed}
use Rattle.layout.specs.Ranges.{Within, InRange, outside, held, first_outside, Breaks, First}

pub within : (f : Field) (z : ℤ) → outside f z ≡ false → Within f z
within f z e = record { low = grind (arith, ints); high = grind (arith, ints) }

pub not_outside : (f : Field) (z : ℤ) → Within f z → outside f z ≡ false
not_outside f z w = let a = w.low in let b = w.high in grind (arith, ints)

not_within : (f : Field) (z : ℤ) → (Within f z → ⊥) → outside f z ≡ true
not_within f z n = elim (cases_Bool (outside f z)) [ inl t ↦ t | inr e ↦ absurd (n (within f z e)) ]

pub none_cons : (t : Bool) (o : Option ℕ) (b : ℕ) → cond t (Some b) o ≡ None → (t ≡ false) × (o ≡ None)
none_cons false o b e = (refl, e)
none_cons true o b e = let z : ◌≡◌ {A = ℕ} 0 1 = cc in absurd (omega arith)

pub none_all : (ps : List Placed) (bs : List ℕ) → first_outside ps bs ≡ None → AllByRecursion (InRange bs) ps
unfolding first_outside
none_all [] bs e = tt
none_all (p ∷ ps) bs e =
    let h = none_cons (outside p.field (held p bs)) (first_outside ps bs) p.bit e in
    (within p.field (held p bs) h.0, none_all ps bs h.1)

-- fields in range in front change nothing
pub past_sound : (ps qs : List Placed) (bs : List ℕ) → AllByRecursion (InRange bs) ps → first_outside (ps ++ qs) bs ≡ first_outside qs bs
unfolding first_outside
past_sound [] qs bs h = refl
past_sound (p ∷ ps) qs bs h =
    ap (λ (t : Bool). cond t (Some p.bit) (first_outside (ps ++ qs) bs)) (not_outside p.field (held p bs) h.0)
    ∙ past_sound ps qs bs h.1

pub all_none : (ps : List Placed) (bs : List ℕ) → AllByRecursion (InRange bs) ps → first_outside ps bs ≡ None
unfolding first_outside
all_none ps bs h = ap (λ (l : List Placed). first_outside l bs) (sym (append-nil ps)) ∙ past_sound ps [] bs h

some_cons : (t : Bool) (o : Option ℕ) (a b : ℕ)
    → cond t (Some a) o ≡ Some b → (t ≡ true × a ≡ b) ⊎ (t ≡ false × o ≡ Some b)
some_cons true o a b e = inl (refl, cc)
some_cons false o a b e = inr (refl, e)

breaks : (ps : List Placed) (bs : List ℕ) (b : ℕ) → first_outside ps bs ≡ Some b → Breaks ps bs b
unfolding first_outside
breaks [] bs b e = let z : ◌≡◌ {A = ℕ} 0 1 = cc in absurd (omega arith)
breaks (p ∷ ps) bs b e =
    let t = outside p.field (held p bs) in
    elim (some_cons t (first_outside ps bs) p.bit b e) [
      | inl h ↦
          record {
            before = [];
            here = p;
            after = ps;
            splits = refl;
            sound = tt;
            out = λ w. both_ways t (not_outside p.field (held p bs) w) h.0;
            place = h.1;
          }
      | inr h ↦
          let k = breaks ps bs b h.1 in
          record {
            before = p ∷ k.before;
            here = k.here;
            after = k.after;
            splits = ap (λ (l : List Placed). p ∷ l) k.splits;
            sound = (within p.field (held p bs) h.0, k.sound);
            out = k.out;
            place = k.place;
          }
    ]

breaks_found : (ps : List Placed) (bs : List ℕ) (b : ℕ) → Breaks ps bs b → first_outside ps bs ≡ Some b
unfolding first_outside
breaks_found ps bs b k =
    let p = k.here in
    let t : outside p.field (held p bs) ≡ true = not_within p.field (held p bs) k.out in
    ap (λ (l : List Placed). first_outside l bs) k.splits ∙ past_sound k.before (p ∷ k.after) bs k.sound
    ∙ cond-true (outside p.field (held p bs)) (Some p.bit) (first_outside k.after bs) t ∙ ap Some k.place

-- what is found in front is found
pub found_front : (ps qs : List Placed) (bs : List ℕ) (b : ℕ)
    → first_outside ps bs ≡ Some b → first_outside (ps ++ qs) bs ≡ Some b
found_front ps qs bs b e =
    let k = breaks ps bs b e in
    breaks_found (ps ++ qs) bs b
    (record {
      before = k.before;
      here = k.here;
      after = k.after ++ qs;
      sound = k.sound;
      out = k.out;
      place = k.place;
      splits = ap (λ (l : List Placed). l ++ qs) k.splits ∙ append_assoc k.before (k.here ∷ k.after) qs;
    })

pub first : (ps : List Placed) (bs : List ℕ) (answer : Option ℕ) → answer ≡ first_outside ps bs → First ps bs answer
first ps bs answer e =
    record {
      none = λ h. none_all ps bs (sym e ∙ h);
      all = λ h. e ∙ all_none ps bs h;
      some = λ b h. breaks ps bs b (sym e ∙ h);
      found = λ b k. e ∙ breaks_found ps bs b k;
    }
