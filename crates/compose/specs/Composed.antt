-- What is answered to who composes a frame, and what word and frame then hold.
use Rattle.std.specs.Prelude.{◌≡◌, ℕ, Bool, true, List, [], ◌∷◌, take, ℤ, Ok, Err, Result, slice_set}
use Rattle.blocks.specs.Held.{placed_of}
use Rattle.blocks.specs.Numbered.{Numbered}
use Rattle.blocks.specs.Stands.{Stands}
use Rattle.blocks.specs.Write.{first_unfit}
use Rattle.blocks.specs.declared.place.Place.{Place}
use Rattle.frames.specs.Frame.{bytes_bits, frame_bits, is_satellite}
use Rattle.frames.specs.declared.FrameFault.{FrameFault}
use Rattle.layout.specs.Layout.{number_of}
use Rattle.layout.specs.declared.MessageType.{MessageType}
use Rattle.message.specs.Checked.{checked}
use Rattle.message.specs.Lawful.{number_at}
use Rattle.parity.specs.Code.{Encodes}
use Rattle.parity.specs.Table.{bcnav3}
use Rattle.writer.specs.Answers.{by_field, put_answer, seal_answer, start_answer}
use Rattle.writer.specs.declared.fault.WriterFault.{WriterFault}
use Rattle.written.specs.Drafted.{Drafted, PutInto, SealedAs}
use Rattle.written.specs.Written.{LawfulAs}
use Rattle.compose.specs.Contents.{Counted, Reads, all_counts_of, kind_of}
use Rattle.compose.specs.declared.fault.ComposeFault.{ComposeFault}
use Rattle.compose.specs.declared.fault.ComposeFault.TheVariants.{Writer, Frame}
use Rattle.compose.specs.declared.records.Records.{Records}

-- the first that is a refusal
abbrev pub in_turn : Result (Unit {0}) WriterFault → Result (Unit {0}) WriterFault → Result (Unit {0}) WriterFault
in_turn (Ok u) r = r
in_turn (Err e) r = Err e

-- the first field of the first block that may not hold its count
abbrev pub ask_all : List Counted → Result (Unit {0}) WriterFault
ask_all [] = Ok tt
ask_all (x ∷ xs) = in_turn (by_field (first_unfit (placed_of x.0) x.1)) (ask_all xs)

-- of a buffer of n bytes, a second and records: the start first, then the blocks
abbrev pub write_answer : ℕ → ℕ → Records → Result (Unit {0}) WriterFault
write_answer n second r = in_turn (start_answer n (number_of (kind_of r)) second) (ask_all (all_counts_of r))

-- the message first, then the frame
abbrev pub either : Result (Unit {0}) WriterFault → Result (Unit {0}) FrameFault → Result (Unit {0}) ComposeFault
either (Err e) r = Err (Writer e)
either (Ok u) (Err e) = Err (Frame e)
either (Ok u) (Ok v) = Ok tt

-- w is the word of a message of these records at the second s
pub record Word (r : Records) (s : ℕ) (w : List ℕ) : Type 0 where
  pub message : LawfulAs (take 81 w) (kind_of r) s
  pub reads : Reads r (take 81 w)
  pub encodes : Encodes bcnav3 (take 81 w) w
  pub only : (v : List ℕ) → Encodes bcnav3 (take 81 w) v → v ≡ w
  pub accepted : checked w ≡ Ok (record { message_type = kind_of r; second = s })

-- a frame from the writer: w is the word of the records, and the bytes f are the frame in which the satellite n sends it
pub record Composed (r : Records) (s n : ℕ) (w f : List ℕ) : Type 0 where
  pub word : Word r s w
  pub known : is_satellite n ≡ true
  pub bits : bytes_bits f ≡ frame_bits n w

-- ---- a draft on the way

-- a step that puts the block at p, of so many fields, with the counts zs: type, marks and message before and after
pub record Stepped (p : Place) (size : ℕ) (zs : List ℤ) (t : MessageType) (done : List Bool) (m : List ℕ) (t' : MessageType) (done' : List Bool) (m' : List ℕ)
    : Type 0 where
  pub stands : Stands p size
  pub typed : t' ≡ t
  pub puts : put_answer t done p zs ≡ Ok tt → (done' ≡ slice_set done p.number true) × (Numbered p → PutInto p zs m m')
  pub drafted : Numbered p → Drafted t done m → Drafted t' done' m'

-- a draft of the records with every block, at the second s
pub record Filled (r : Records) (s : ℕ) (t : MessageType) (done : List Bool) (m : List ℕ) : Type 0 where
  pub typed : t ≡ kind_of r
  pub second : number_at m 6 20 ≡ s
  pub drafted : Drafted t done m
  pub full : seal_answer t done ≡ Ok tt
  -- and so it stays for whoever reads the lawful message that is made of it
  pub reads : (v : List ℕ) → SealedAs (kind_of r) m v → Reads r v
