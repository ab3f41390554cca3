-- A draft while its blocks are put, one after another.
use Rattle.std.proofs.Common.{◌≡◌, ℕ, Bool, true, false, not, ◌&&◌, eqb, ◌≢◌, List, [], ◌∷◌, get_or, set, replicate, ℤ, Some, None, Ok, Err, Option, Result, sym, refl, ap, ◌∙◌, subst}
use mathlib.Core.Path.{subst⁻¹}
use Rattle.std.proofs.lemmas.Bool.{and_parts, both_ways, eq-eqb, not-true}
use Rattle.std.specs.List.{AllByRecursion}
use Rattle.blocks.specs.Held.{held_in, placed_of}
use Rattle.blocks.specs.Read.{read_as}
use Rattle.blocks.specs.Numbered.{Numbered}
use Rattle.blocks.specs.Stands.{Stands}
use Rattle.blocks.specs.Write.{first_unfit}
use Rattle.blocks.specs.declared.place.Place.{Place}
use Rattle.blocks.proofs.Accepted.{lawful_read}
use Rattle.layout.specs.Layout.{number_of, type_of}
use Rattle.layout.specs.declared.MessageType.{MessageType}
use Rattle.message.specs.Checked.{checked, in_turn as in_turn_of}
use Rattle.message.specs.Examined.{examined}
use Rattle.message.specs.Lawful.{number_at}
use Rattle.parity.specs.Code.{Encodes}
use Rattle.parity.specs.Table.{bcnav3}
use Rattle.writer.specs.Answers.{by_field, is_block_of, put_answer, seal_answer, start_answer}
use Rattle.writer.specs.declared.fault.WriterFault.{WriterFault}
use Rattle.written.specs.Drafted.{Drafted, PutInto, SealedAs}
use Rattle.written.specs.Written.{LawfulAs}
use Rattle.compose.specs.Composed.{Filled, Stepped, Word, ask_all, in_turn, write_answer}
use Rattle.compose.specs.Contents.{Counted, Reads, all_counts_of, kind_of}
use Rattle.compose.specs.declared.records.Records.{Records}

-- where both agree, each does
both : (a b : Result (Unit {0}) WriterFault) → in_turn a b ≡ Ok tt → (a ≡ Ok tt) × (b ≡ Ok tt)
both (Ok u) b e = (refl, e)
both (Err f) b e = absurd cc

none_unfit : (o : Option ℕ) → by_field o ≡ Ok tt → o ≡ None
none_unfit None e = refl
none_unfit (Some b) e = absurd cc

-- the block may hold its counts
abbrev Fits : Counted → Type 0
Fits x = first_unfit (placed_of x.0) x.1 ≡ None

asked : (xs : List Counted) → ask_all xs ≡ Ok tt → AllByRecursion Fits xs
asked [] e = tt
asked (x ∷ xs) e =
    let p = both (by_field (first_unfit (placed_of x.0) x.1)) (ask_all xs) e in
    (none_unfit (first_unfit (placed_of x.0) x.1) p.0, asked xs p.1)

pub all_fit : (n s : ℕ) (r : Records) → write_answer n s r ≡ Ok tt → AllByRecursion (λ x. first_unfit (placed_of x.0) x.1 ≡ None) (all_counts_of r)
all_fit n s r e = asked (all_counts_of r) (both (start_answer n (number_of (kind_of r)) s) (ask_all (all_counts_of r)) e).1

-- the blocks are asked where the start agrees
pub asked_in_turn : (n s : ℕ) (r : Records) (a : Result (Unit {0}) WriterFault) → Ok tt ≡ start_answer n (number_of (kind_of r)) s
    → a ≡ ask_all (all_counts_of r) → a ≡ write_answer n s r
asked_in_turn n s r a e h = h ∙ ap (λ (b : Result (Unit {0}) WriterFault). in_turn b (ask_all (all_counts_of r))) e

-- the blocks that are marked, newest first
abbrev pub marked : List Counted → List Bool
marked [] = replicate 12 false
marked (x ∷ xs) = set (marked xs) x.0.number true

-- none of the blocks has this number
abbrev pub unlike : ℕ → List Counted → Bool
unlike n [] = true
unlike n (x ∷ xs) = not (eqb x.0.number n) && unlike n xs

-- a block of the type t that holds its counts in m
pub record Held (t : MessageType) (m : List ℕ) (x : Counted) : Type 0 where
  pub size : ℕ
  pub stands : Stands x.0 size
  pub numbered : Numbered x.0
  pub typed : x.0.message_type ≡ t
  pub counts : held_in x.0 m ≡ x.1

-- a draft of the type t and the second s that has just the blocks xs
pub record Partly (t : MessageType) (s : ℕ) (xs : List Counted) (kind : MessageType) (done : List Bool) (m : List ℕ) : Type 0 where
  pub typed : kind ≡ t
  pub marks : done ≡ marked xs
  pub second : number_at m 6 20 ≡ s
  pub drafted : Drafted kind done m
  pub held : AllByRecursion (Held t m) xs

still : (p : Place) (zs : List ℤ) (m v : List ℕ) → PutInto p zs m v → (xs : List Counted) → unlike p.number xs ≡ true
    → AllByRecursion (Held p.message_type m) xs → AllByRecursion (Held p.message_type v) xs
still p zs m v i [] u a = tt
still p zs m v i (x ∷ xs) u a =
    let w = and_parts (not (eqb x.0.number p.number)) (unlike p.number xs) u in
    let h = a.0 in
    let differs : x.0.number ≢ p.number =
    λ e. both_ways (eqb x.0.number p.number) (not-true (eqb x.0.number p.number) w.0) (eq-eqb x.0.number p.number e) in (
      record {
        size = h.size;
        stands = h.stands;
        numbered = h.numbered;
        typed = h.typed;
        counts = i.others x.0 h.size h.stands h.numbered h.typed differs ∙ h.counts;
      },
      still p zs m v i xs w.1 a.1,
    )

answers_yes : (t : MessageType) (done : List Bool) (p : Place) (zs : List ℤ) → is_block_of t p ≡ true → get_or done p.number false ≡ false
    → first_unfit (placed_of p) zs ≡ None → put_answer t done p zs ≡ Ok tt
answers_yes t done p zs b d f = rw (b, d, f)

-- one block more
pub step : {p : Place} {size : ℕ} {zs : List ℤ} {s : ℕ} {xs : List Counted} {k k' : MessageType} {done done' : List Bool} {m m' : List ℕ}
    → Numbered p → Partly p.message_type s xs k done m → Stepped p size zs k done m k' done' m' → is_block_of p.message_type p ≡ true
    → get_or (marked xs) p.number false ≡ false → unlike p.number xs ≡ true → first_unfit (placed_of p) zs ≡ None
    → Partly p.message_type s ((p, zs) ∷ xs) k' done' m'
step {p} {size} {zs} {s} {xs} {k} {k'} {done} {done'} {m} {m'} n h e b d u f =
    let ready : put_answer k done p zs ≡ Ok tt =
    answers_yes k done p zs (ap (λ (t : MessageType). is_block_of t p) h.typed ∙ b) (ap (λ (l : List Bool). get_or l p.number false) h.marks ∙ d) f in
    let q = e.puts ready in
    let i = q.1 n in
    record {
      typed = e.typed ∙ h.typed;
      marks = q.0 ∙ ap (λ (l : List Bool). set l p.number true) h.marks;
      second = i.second ∙ h.second;
      drafted = e.drafted n h.drafted;
      held = (record { size = size; stands = e.stands; numbered = n; typed = refl; counts = i.holds }, still p zs m m' i xs u h.held);
    }

-- a block of the lawful message that the draft m is sealed to
pub read_one : {R : Type 0} {t : MessageType} {m v : List ℕ} {x : Counted} (made : List ℤ → R) → SealedAs t m v → Held t m x → read_as x.0 made v ≡ Ok (made x.1)
read_one {R} {t} {m} {v} {x} made e h =
    lawful_read x.0 h.size h.stands made v e.lawful.lawful (e.lawful.typed ∙ sym h.typed)
    ∙ ap (λ zs. Ok (made zs)) (e.blocks x.0 h.size h.stands h.typed ∙ h.counts)

some_same : (a b : MessageType) → Some a ≡ Some b → a ≡ b
some_same a b e = cc

-- a draft without a block
pub begun : {t : MessageType} {s : ℕ} {k : MessageType} {done : List Bool} {m : List ℕ} (n : ℕ) → type_of n ≡ Some k → type_of n ≡ Some t → done ≡ replicate 12 false
    → number_at m 6 20 ≡ s → Drafted k done m → Partly t s [] k done m
begun {t} {s} {k} n a b d e f = record { typed = some_same k t (sym a ∙ b); marks = d; second = e; drafted = f; held = tt }

-- a draft with blocks that leave none missing
pub none_left : {t : MessageType} {s : ℕ} {xs : List Counted} {k : MessageType} {done : List Bool} {m : List ℕ} → Partly t s xs k done m
    → seal_answer t (marked xs) ≡ Ok tt → seal_answer k done ≡ Ok tt
none_left {t} {s} {xs} {k} {done} h e = ap (λ (k : MessageType). seal_answer k done) h.typed ∙ ap (seal_answer t) h.marks ∙ e

-- the word w of the message v that the draft m is sealed to
pub word_of : {r : Records} {s : ℕ} {t : MessageType} {done : List Bool} {m v w : List ℕ} → Filled r s t done m → SealedAs t m v → Encodes bcnav3 v w
    → ((u : List ℕ) → Encodes bcnav3 v u → u ≡ w) → checked w ≡ in_turn_of None None (examined v)
    → examined v ≡ Ok (record { message_type = t; second = number_at m 6 20 }) → Word r s w
word_of {r} {s} {t} {done} {m} {v} {w} f e encodes only is header =
    let Holds : List ℕ → Type 0 = λ l. LawfulAs l (kind_of r) s × Reads r l × Encodes bcnav3 l w × ((u : List ℕ) → Encodes bcnav3 l u → u ≡ w) in
    let sealed : SealedAs (kind_of r) m v = subst (λ (k : MessageType). SealedAs k m v) f.typed e in
    let lawful = subst (λ (n : ℕ). LawfulAs v (kind_of r) n) f.second sealed.lawful in
    let begun = subst⁻¹ Holds encodes.begins (lawful, f.reads v sealed, encodes, only) in
    record { message = begun.0; reads = begun.1; encodes = begun.2; only = begun.3; accepted = rw (is, header, f.typed, f.second) }
