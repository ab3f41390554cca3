-- A draft: a message while it is written, with the blocks that were put.
use Rattle.std.specs.Prelude.{◌≡◌, ℕ, ◌≤◌, Bool, true, false, not, ◌||◌, ◌≢◌, List, ℤ, is_some, slice_index_or}
use Rattle.bits.specs.Bits.{bits_of}
use Rattle.blocks.specs.Held.{held_in}
use Rattle.blocks.specs.Numbered.{Numbered, block_of}
use Rattle.blocks.specs.Stands.{Stands}
use Rattle.blocks.specs.declared.place.Place.{Place}
use Rattle.layout.specs.Layout.{number_of, parts_of}
use Rattle.layout.specs.Placed.{is_reserved, spread}
use Rattle.layout.specs.Ranges.{first_outside}
use Rattle.layout.specs.declared.MessageType.{MessageType}
use Rattle.layout.specs.declared.MessageType.TheVariants.{Type40}
use Rattle.layout.specs.declared.Part.{Part}
use Rattle.message.specs.Lawful.{number_at}
use Rattle.written.specs.Written.{LawfulAs}

-- a part is written: reserved bits from the start on, a block where `done` says so of its number
abbrev pub is_written : List Bool → Part → Bool
is_written done p = is_reserved p || slice_index_or done (block_of p) false

-- each field of what is written is in range
abbrev pub written_in_range : MessageType → List Bool → List ℕ → Bool
written_in_range t done m = not (is_some (first_outside (spread (is_written done) 26 (parts_of t)) (bits_of m)))

-- m has the type t and a second of the week, and each field of what is written is in range
pub record Drafted (t : MessageType) (done : List Bool) (m : List ℕ) : Type 0 where
  pub apart : t ≢ Type40
  pub numbered : number_at m 0 6 ≡ number_of t
  pub second : number_at m 6 20 ≤ 604799
  pub ranges : written_in_range t done m ≡ true

-- v is m with the counts zs put into the block at p: the second is as it was, and so is every other block of the type, of those
-- that have the number of their part
pub record PutInto (p : Place) (zs : List ℤ) (m v : List ℕ) : Type 0 where
  pub holds : held_in p v ≡ zs
  pub second : number_at v 6 20 ≡ number_at m 6 20
  pub others : (q : Place) (size : ℕ) → Stands q size → Numbered q → q.message_type ≡ p.message_type → q.number ≢ p.number → held_in q v ≡ held_in q m

-- v is the lawful message of the draft m: its type is t, and the second and every block are as in m
pub record SealedAs (t : MessageType) (m v : List ℕ) : Type 0 where
  pub lawful : LawfulAs v t (number_at m 6 20)
  pub blocks : (q : Place) (size : ℕ) → Stands q size → q.message_type ≡ t → held_in q v ≡ held_in q m
