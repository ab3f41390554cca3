-- What is answered of bytes.
use Rattle.std.specs.Prelude.{ℕ, List, take, Some, None, Ok, Err, Option, Result}
use Rattle.parity.specs.Bytes.{symbol_fault, first_nonzero}
use Rattle.parity.specs.declared.SymbolFault.{SymbolFault}
use Rattle.message.specs.Examined.{examined}
use Rattle.message.specs.declared.answer.Header.{Header}
use Rattle.message.specs.declared.fault.MessageFault.{MessageFault}
use Rattle.message.specs.declared.fault.WordFault.{WordFault}
use Rattle.message.specs.declared.fault.WordFault.TheVariants.{Symbols, RowSum, Message}

-- the symbols first, then the row sums, then the message
abbrev pub in_turn : Option SymbolFault → Option ℕ → Result Header MessageFault → Result Header WordFault
in_turn (Some e) o r = Err (Symbols e)
in_turn None (Some row) r = Err (RowSum row)
in_turn None None (Err e) = Err (Message e)
in_turn None None (Ok h) = Ok h

abbrev pub checked : List ℕ → Result Header WordFault
checked w = in_turn (symbol_fault 162 w) (first_nonzero w) (examined (take 81 w))
