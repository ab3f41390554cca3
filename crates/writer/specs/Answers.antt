-- What is answered at each step of writing.
use Rattle.std.specs.Prelude.{ℕ, zero, suc, ◌+◌, Bool, false, cond, ◌&&◌, ◌||◌, List, ℤ, Some, None, Ok, Err, Option, Result, ◌==◌, nat_le, slice_index_or}
use Rattle.layout.specs.Layout.{number_of}
use Rattle.layout.specs.declared.MessageType.{MessageType}
use Rattle.layout.specs.declared.MessageType.TheVariants.{Type10, Type30, Type40}
use Rattle.blocks.specs.Held.{placed_of}
use Rattle.blocks.specs.Write.{first_unfit}
use Rattle.blocks.specs.declared.fault.BlockFault.{BlockFault}
use Rattle.blocks.specs.declared.fault.BlockFault.TheVariants.{Symbols, OtherType as BlockType, Field as BlockField}
use Rattle.blocks.specs.declared.place.Place.{Place}
use Rattle.writer.specs.declared.fault.WriterFault.{WriterFault}
use Rattle.writer.specs.declared.fault.WriterFault.TheVariants.{Length, UnknownType, Second, OtherType, AlreadyPut, Field, Missing}

-- of a buffer of n bytes, the number of a type, and a second: in this order
abbrev pub start_answer : ℕ → ℕ → ℕ → Result (Unit {0}) WriterFault
start_answer n t s =
    cond (n == 162)
    (cond (t == 10 || t == 30) (cond (nat_le s 604799) (Ok tt) (Err Second)) (Err (UnknownType t)))
    (Err Length)

-- the block is one of a draft's type; the numbers of blocks end at 11
abbrev pub is_block_of : MessageType → Place → Bool
is_block_of t p = nat_le p.number 11 && number_of p.message_type == number_of t

abbrev pub by_field : Option ℕ → Result (Unit {0}) WriterFault
by_field (Some b) = Err (Field b)
by_field None = Ok tt

-- a fault of a block as one of writing
abbrev pub told : BlockFault → WriterFault
told (Symbols e) = Length
told (BlockType k) = OtherType k
told (BlockField b) = Field b

-- of a draft's type, which blocks it has by their numbers, and a block with its counts: the type first, then whether the
-- draft has the block, then the ranges
abbrev pub put_answer : MessageType → List Bool → Place → List ℤ → Result (Unit {0}) WriterFault
put_answer t done p zs =
    cond (is_block_of t p)
    (cond (slice_index_or done p.number false) (Err (AlreadyPut p.number)) (by_field (first_unfit (placed_of p) zs)))
    (Err (OtherType p.number))

-- of the n blocks from k on, the lowest that a draft does not have
abbrev pub missing : ℕ → ℕ → List Bool → Result (Unit {0}) WriterFault
missing k zero done = Ok tt
missing k (suc n) done = cond (slice_index_or done k false) (missing (k + 1) n done) (Err (Missing k))

-- type 10 has the blocks 1 to 3, type 30 the blocks 4 to 11
abbrev pub seal_answer : MessageType → List Bool → Result (Unit {0}) WriterFault
seal_answer Type10 done = missing 1 3 done
seal_answer Type30 done = missing 4 8 done
seal_answer Type40 done = Ok tt
