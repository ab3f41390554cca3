-- A message as it is written: its type, its second, and then its parts, one after another.
use Rattle.std.specs.Prelude.{◌≡◌, ℕ, ◌+◌, ◌≤◌, cond, ◌≢◌, List, [], ◌∷◌, ◌++◌, map, take, replicate, ℤ, slice_index_or}
use Rattle.std.specs.List.{AllByRecursion}
use Rattle.bits.specs.Bits.{bits_of, pasted, spelled}
use Rattle.blocks.specs.Held.{held_in}
use Rattle.blocks.specs.Stands.{Stands}
use Rattle.blocks.specs.Write.{pack}
use Rattle.blocks.specs.declared.place.Place.{Place}
use Rattle.crc.specs.Crc.{crc_of}
use Rattle.layout.specs.Layout.{fields_of, number_of, parts_of, width_of}
use Rattle.layout.specs.Placed.{is_reserved}
use Rattle.layout.specs.Ranges.{Within}
use Rattle.layout.specs.declared.Field.{Field}
use Rattle.layout.specs.declared.MessageType.{MessageType}
use Rattle.layout.specs.declared.MessageType.TheVariants.{Type40}
use Rattle.layout.specs.declared.Part.{Part}
use Rattle.message.specs.Lawful.{Lawful, number_at}
use Rattle.parity.specs.Code.{SymbolList}

-- a part of the layout with its counts
abbrev pub Counted : Type 0
Counted = Part × List ℤ

-- the bits of such parts, one after another
unfoldable pub parts_bits : List Counted → List ℕ
parts_bits [] = []
parts_bits (x ∷ xs) = pack (fields_of x.0) x.1 ++ parts_bits xs

-- the bits of a message before its CRC
unfoldable pub message_bits : MessageType → ℕ → List Counted → List ℕ
message_bits t s xs = spelled 6 (number_of t) ++ (spelled 20 s ++ parts_bits xs)

-- all the bits of a message
abbrev pub closed_bits : MessageType → ℕ → List Counted → List ℕ
closed_bits t s xs = message_bits t s xs ++ spelled 24 (crc_of (message_bits t s xs))

-- as many counts as fields, each a count that its field may hold
unfoldable pub FitsAll : List Field → List ℤ → Type 0
FitsAll [] [] = Unit {0}
FitsAll [] (z ∷ zs) = ⊥
FitsAll (f ∷ fs) [] = ⊥
FitsAll (f ∷ fs) (z ∷ zs) = Within f z × FitsAll fs zs

abbrev pub Fits : Counted → Type 0
Fits x = FitsAll (fields_of x.0) x.1

-- the parts of the type t, in their order, each with counts that it may hold
pub record Full (t : MessageType) (xs : List Counted) : Type 0 where
  pub parts : map (λ x. x.0) xs ≡ parts_of t
  pub fits : AllByRecursion Fits xs

-- m is written so, of a type that is taken apart and at a second of the week
pub record WrittenAs (m : List ℕ) (t : MessageType) (s : ℕ) (xs : List Counted) : Type 0 where
  pub symbols : SymbolList 81 m
  pub apart : t ≢ Type40
  pub second : s ≤ 604799
  pub full : Full t xs
  pub bits : bits_of m ≡ closed_bits t s xs

-- m is a lawful message of the type t and the second s
pub record LawfulAs (m : List ℕ) (t : MessageType) (s : ℕ) : Type 0 where
  pub lawful : Lawful m
  pub typed : lawful.type ≡ t
  pub second : number_at m 6 20 ≡ s

-- m holds the counts of each block
abbrev pub HoldsAll : List ℕ → MessageType → List Counted → Type 0
HoldsAll m t xs = (p : Place) (size : ℕ) (d : Counted) → p.message_type ≡ t → (k : Stands p size) → held_in p m ≡ (slice_index_or xs k.index d).1

-- ---- written block by block

-- the bits of 162 symbols of which only the number of a type and a second are written
unfoldable pub start_bits : ℕ → ℕ → List ℕ
start_bits n s = spelled 6 n ++ (spelled 20 s ++ replicate 946 0)

-- the bits with a part written over them from bit b on
abbrev pub over : Part → ℕ → List ℤ → List ℕ → List ℕ
over p b zs bs = pasted bs b (pack (fields_of p) zs)

-- the bits with the parts written over them in turn from bit b on, where reserved bits are left alone
abbrev pub written_from : ℕ → List Counted → List ℕ → List ℕ
written_from b [] bs = bs
written_from b (x ∷ xs) bs =
    written_from (b + width_of x.0) xs (cond (is_reserved x.0) bs (over x.0 b x.1 bs))

-- the bits with the CRC of the first 462 after these
abbrev pub closed : List ℕ → List ℕ
closed bs = pasted bs 462 (spelled 24 (crc_of (take 462 bs)))
