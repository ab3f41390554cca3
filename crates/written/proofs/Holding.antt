-- Each part of a message holds its counts where it lies.
use Rattle.std.proofs.Common.{◌≡◌, ℕ, zero, suc, ◌+◌, ◌<◌, Bool, ◌≢◌, List, [], ◌∷◌, ◌++◌, map, length, get_or, take, sum_by, sym, refl, ap, ◌∙◌, append_assoc, add-zero, arith, length-append}
use Rattle.std.proofs.ByRecursion.{All-append}
use Rattle.std.proofs.lemmas.List.Sums.{sum_by-cons}
use Rattle.std.proofs.lemmas.Bool.{cond_both}
use Rattle.std.specs.List.{AllByRecursion}
use Rattle.layout.specs.Laws.{start}
use Rattle.layout.specs.Layout.{fields_of, parts_of, widths, width_of}
use Rattle.layout.specs.Placed.{placed, kept, spread}
use Rattle.layout.specs.Ranges.{InRange, held}
use Rattle.layout.specs.declared.MessageType.{MessageType}
use Rattle.layout.specs.declared.MessageType.TheVariants.{Type10, Type30, Type40}
use Rattle.layout.specs.declared.Part.{Part}
use Rattle.layout.proofs.Ranges.{none_all}
use Rattle.blocks.specs.Write.{pack, first_unfit}
use Rattle.blocks.proofs.Packed.{held_pack, length_pack, outside_held}
use Rattle.blocks.proofs.Signs.{sound}
use Rattle.written.specs.Written.{Counted, Fits, parts_bits}
use Rattle.written.proofs.Fitting.{fits_long, fits_unfit}

abbrev pub parts : List Counted → List Part
parts xs = map (λ x. x.0) xs

-- a part has just the bits of its fields
abbrev pub Apart : Part → Type 0
Apart p = widths (fields_of p) ≡ width_of p

pub taken_apart : (t : MessageType) → t ≢ Type40 → AllByRecursion Apart (parts_of t)
unfolding parts_of width_of fields_of
taken_apart Type10 n = (refl, (refl, (refl, (refl, tt))))
taken_apart Type30 n = (refl, (refl, (refl, (refl, (refl, (refl, (refl, (refl, (refl, tt)))))))))
taken_apart Type40 n = absurd (n refl)

pub length_parts : (xs : List Counted) → AllByRecursion Apart (parts xs) → AllByRecursion Fits xs → length (parts_bits xs) ≡ sum_by width_of (parts xs)
unfolding parts_bits
length_parts [] a f = refl
length_parts (x ∷ xs) a f =
    let fs = fields_of x.0 in
    simp length-append (omega (
      arith,
      length_pack fs x.1 (fits_long fs x.1 f.0),
      a.0,
      length_parts xs a.1 f.1,
      sum_by-cons width_of x.0 (parts xs),
    ))

-- the parts hold their counts, where the first begins at bit b
abbrev pub HeldFrom : List ℕ → ℕ → List Counted → Type 0
HeldFrom bs b [] = Unit {0}
HeldFrom bs b (x ∷ xs) = (map (λ q. held q bs) (placed b (fields_of x.0)) ≡ x.1) × HeldFrom bs (b + width_of x.0) xs

pub held_from : (bs front rest : List ℕ) (b : ℕ) (xs : List Counted) → bs ≡ front ++ (parts_bits xs ++ rest) → length front ≡ b
    → AllByRecursion Apart (parts xs) → AllByRecursion Fits xs → HeldFrom bs b xs
unfolding parts_bits
held_from bs front rest b [] e n a f = tt
held_from bs front rest b (x ∷ xs) e n a f =
    let fs = fields_of x.0 in
    let mine : List ℕ = pack fs x.1 in
    let long = fits_long fs x.1 f.0 in
    let here : bs ≡ front ++ (mine ++ (parts_bits xs ++ rest)) = e ∙ ap (λ l. front ++ l) (append_assoc mine (parts_bits xs) rest) in (
      ap (λ l. map (λ q. held q l) (placed b fs)) here
          ∙ held_pack fs x.1 b front (parts_bits xs ++ rest) n long (sound x.0) (fits_unfit b fs x.1 f.0),
      held_from bs (front ++ mine) rest (b + width_of x.0) xs (here ∙ sym (append_assoc front mine (parts_bits xs ++ rest)))
          (length-append front mine ∙ omega (arith, length_pack fs x.1 long, a.0)) a.1 f.1,
    )

-- so each field that a test keeps is in range
pub in_range : (keep : Part → Bool) (bs : List ℕ) (b : ℕ) (xs : List Counted) → HeldFrom bs b xs → AllByRecursion Fits xs
    → AllByRecursion (InRange bs) (spread keep b (parts xs))
unfolding spread
in_range keep bs b [] h f = tt
in_range keep bs b (x ∷ xs) h f =
    let fs = fields_of x.0 in
    let here : AllByRecursion (InRange bs) (placed b fs) =
    none_all (placed b fs) bs (outside_held (placed b fs) bs ∙ ap (first_unfit (placed b fs)) h.0 ∙ fits_unfit b fs x.1 f.0) in
    All-append (InRange bs) (kept keep b x.0) (spread keep (b + width_of x.0) (parts xs))
    (cond_both (keep x.0) (placed b fs) [] (AllByRecursion (InRange bs)) (λ _. here) (λ _. tt))
    (in_range keep bs (b + width_of x.0) xs h.1 f.1)

-- the part number i
pub held_part : (bs : List ℕ) (b : ℕ) (xs : List Counted) (i : ℕ) (d : Counted) → HeldFrom bs b xs → i < length xs
    → map (λ q. held q bs) (placed (start width_of b (parts xs) i) (fields_of (get_or xs i d).0)) ≡ (get_or xs i d).1
held_part bs b [] i d h l = absurd (omega arith)
held_part bs b (x ∷ xs) zero d h l = ap (λ n. map (λ q. held q bs) (placed n (fields_of x.0))) (add-zero b) ∙ h.0
held_part bs b (x ∷ xs) (suc i) d h l =
    let next : start width_of b (parts (x ∷ xs)) (suc i) ≡ start width_of (b + width_of x.0) (parts xs) i =
    omega (arith, sum_by-cons width_of x.0 (take i (parts xs))) in
    ap (λ n. map (λ q. held q bs) (placed n (fields_of (get_or xs i d).0))) next
    ∙ held_part bs (b + width_of x.0) xs i d h.1 (omega arith)
