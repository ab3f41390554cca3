-- Number, layer and place of every fault.
use Rattle.refusal.specs.declared.Layer.{Layer}
use Rattle.refusal.specs.declared.Reason.TheVariants.{WrongLength, NoSymbol}
use Rattle.refusal.specs.declared.Refusal.{Refusal}
use Rattle.parity.specs.declared.SymbolFault.{SymbolFault}
use Rattle.parity.specs.declared.SymbolFault.TheVariants.{Length, Byte}

-- the layer is that of the call
abbrev pub symbol_refusal : Layer → SymbolFault → Refusal
symbol_refusal l Length = record { reason = WrongLength; layer = l; place = 0 }
symbol_refusal l (Byte k) = record { reason = NoSymbol; layer = l; place = k }
