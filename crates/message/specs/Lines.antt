-- The line that an accepted message is printed as.
use Rattle.std.specs.Prelude.{ℕ, List, ◌++◌, codes, decimal}
use Rattle.layout.specs.Layout.{number_of}
use Rattle.message.specs.declared.answer.Header.{Header}

-- message TYPE SECOND
abbrev pub message_line : Header → List ℕ
message_line h = codes "message " ++ (decimal (number_of h.message_type) ++ (codes " " ++ decimal h.second))
