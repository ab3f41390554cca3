-- One step of the walk over fields and of the walk over parts.
use Rattle.std.proofs.Common.{◌≡◌, ℕ, ◌+◌, ◌<◌, ◌≤◌, Bool, true, false, cond, List, [], length, get_or, drop, pos, Some, None, Option, not, inl, inr, sym, refl, ap, ◌∙◌}
use Rattle.std.proofs.lemmas.Bool.{cases_Bool}
use Rattle.std.proofs.lemmas.List.{at_drop_more, at_drop_all}
use Rattle.layout.specs.declared.Field.{Field}
use Rattle.layout.specs.declared.Part.{Part}
use Rattle.layout.specs.declared.Part.TheVariants.{Reserved}
use Rattle.layout.specs.Layout.{fields_of, width_of}
use Rattle.layout.specs.Placed.{at, placed, kept, spread, is_reserved, looks_at}
use Rattle.layout.specs.Ranges.{outside, held, first_outside}
use Rattle.layout.proofs.Ranges.{none_all, past_sound, found_front}

-- what stands for a field past the end
abbrev pub no_field : Field
no_field = record { width = 0; signed = false; least = pos 0; most = pos 0 }

-- the field at hand is out of range, or is not
pub field_step : (fs : List Field) (i n : ℕ) (bs : List ℕ) (out : Bool) → i < length fs
    → out ≡ outside (get_or fs i no_field) (held (at n (get_or fs i no_field)) bs)
    → cond out (Some n) (first_outside (placed (n + (get_or fs i no_field).width) (drop (i + 1) fs)) bs)
    ≡ first_outside (placed n (drop i fs)) bs
unfolding first_outside placed
field_step fs i n bs out h t =
    let f = get_or fs i no_field in
    ap (λ (b : Bool). cond b (Some n) (first_outside (placed (n + f.width) (drop (i + 1) fs)) bs)) t
    ∙ sym (at_drop_more (λ (l : List Field). first_outside (placed n l) bs) fs i no_field h)

pub fields_end : (fs : List Field) (i n : ℕ) (bs : List ℕ) → length fs ≤ i → None ≡ first_outside (placed n (drop i fs)) bs
unfolding first_outside placed
fields_end fs i n bs h = sym (at_drop_all (λ (l : List Field). first_outside (placed n l) bs) fs i h)

-- the two tests
pub looked : (p : Part) → is_reserved p ≡ looks_at true p
looked p = elim (cases_Bool (is_reserved p)) [ inl t ↦ rw t refl | inr f ↦ rw f refl ]

pub passed_over : (p : Part) → not (is_reserved p) ≡ looks_at false p
passed_over p = elim (cases_Bool (is_reserved p)) [ inl t ↦ rw t refl | inr f ↦ rw f refl ]

-- what the search of a part that the test keeps finds
pub kept_found : (keep : Part → Bool) (n : ℕ) (p : Part) (bs : List ℕ) (b : Bool) {o : Option ℕ} → b ≡ keep p → b ≡ true
    → o ≡ first_outside (placed n (fields_of p)) bs → o ≡ first_outside (kept keep n p) bs
kept_found keep n p bs b e t f =
    f ∙ ap (λ (k : Bool). first_outside (cond k (placed n (fields_of p)) []) bs) (sym t ∙ e)

-- in one that it does not keep there is nothing
pub kept_out : (keep : Part → Bool) (n : ℕ) (p : Part) (bs : List ℕ) (b : Bool) → b ≡ keep p → b ≡ false
    → None ≡ first_outside (kept keep n p) bs
unfolding first_outside
kept_out keep n p bs b e t = ap (λ (k : Bool). first_outside (cond k (placed n (fields_of p)) []) bs) (sym t ∙ e)

-- in the part at hand a field is out of range
pub part_stop : (keep : Part → Bool) (ps : List Part) (i n b : ℕ) (bs : List ℕ) → i < length ps
    → Some b ≡ first_outside (kept keep n (get_or ps i Reserved)) bs → Some b ≡ first_outside (spread keep n (drop i ps)) bs
unfolding spread
part_stop keep ps i n b bs h t =
    let p = get_or ps i Reserved in
    sym (found_front (kept keep n p) (spread keep (n + width_of p) (drop (i + 1) ps)) bs b (sym t))
    ∙ sym (at_drop_more (λ (l : List Part). first_outside (spread keep n l) bs) ps i Reserved h)

-- in it none is
pub part_on : (keep : Part → Bool) (ps : List Part) (i n : ℕ) (bs : List ℕ) → i < length ps
    → None ≡ first_outside (kept keep n (get_or ps i Reserved)) bs
    → first_outside (spread keep (n + width_of (get_or ps i Reserved)) (drop (i + 1) ps)) bs
    ≡ first_outside (spread keep n (drop i ps)) bs
unfolding spread
part_on keep ps i n bs h t =
    let p = get_or ps i Reserved in
    sym (past_sound (kept keep n p) (spread keep (n + width_of p) (drop (i + 1) ps)) bs (none_all (kept keep n p) bs (sym t)))
    ∙ sym (at_drop_more (λ (l : List Part). first_outside (spread keep n l) bs) ps i Reserved h)

pub parts_end : (keep : Part → Bool) (ps : List Part) (i n : ℕ) (bs : List ℕ) → length ps ≤ i
    → None ≡ first_outside (spread keep n (drop i ps)) bs
unfolding first_outside spread
parts_end keep ps i n bs h = sym (at_drop_all (λ (l : List Part). first_outside (spread keep n l) bs) ps i h)
