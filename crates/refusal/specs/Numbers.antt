-- The numbers of the layers and of the reasons.
use Rattle.std.specs.Prelude.{◌≡◌, ℕ, ◌⊎◌}
use Rattle.refusal.specs.declared.Layer.{Layer}
use Rattle.refusal.specs.declared.Layer.TheVariants.{Levels, Header, Decoder, Word, Message, Block, Rows, Writer}
use Rattle.refusal.specs.declared.Reason.{Reason}
use Rattle.refusal.specs.declared.Reason.TheVariants.{WrongLength, NoSatellite, IllegalLevel, WrongPreamble, OtherSatellite, ReservedBit}
use Rattle.refusal.specs.declared.Reason.TheVariants.{NoWord, NoSymbol, NonzeroSum, WrongCrc, WrongType, LateSecond}
use Rattle.refusal.specs.declared.Reason.TheVariants.{OutOfRange, NoMessage, OtherBlock, BlockTwice, NoBlock, Unknown}

abbrev pub layer_number : Layer → ℕ
layer_number Levels = 1
layer_number Header = 2
layer_number Decoder = 3
layer_number Word = 4
layer_number Message = 5
layer_number Block = 6
layer_number Rows = 7
layer_number Writer = 8

abbrev pub reason_number : Reason → ℕ
reason_number WrongLength = 1
reason_number NoSatellite = 2
reason_number IllegalLevel = 3
reason_number WrongPreamble = 4
reason_number OtherSatellite = 5
reason_number ReservedBit = 6
reason_number NoWord = 7
reason_number NoSymbol = 8
reason_number NonzeroSum = 9
reason_number WrongCrc = 10
reason_number WrongType = 11
reason_number LateSecond = 12
reason_number OutOfRange = 13
reason_number NoMessage = 14
reason_number OtherBlock = 15
reason_number BlockTwice = 16
reason_number NoBlock = 17
reason_number (Unknown n) = n

-- r has the number n, and is the reason of that number wherever one is known
pub record Reasoned (n : ℕ) (r : Reason) : Type 0 where
  pub own : reason_number r ≡ n
  pub known : (s : Reason) → reason_number s ≡ n → (s ≡ r) ⊎ (s ≡ Unknown n)
