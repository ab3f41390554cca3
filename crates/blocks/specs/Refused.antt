-- Number, layer and place of every fault of a block.
use Rattle.std.specs.Prelude.{ℕ}
use Rattle.parity.specs.Refused.{symbol_refusal}
use Rattle.refusal.specs.declared.Layer.TheVariants.{Block as BlockLayer}
use Rattle.refusal.specs.declared.Reason.{Reason}
use Rattle.refusal.specs.declared.Reason.TheVariants.{OutOfRange, OtherBlock}
use Rattle.refusal.specs.declared.Refusal.{Refusal}
use Rattle.blocks.specs.declared.fault.BlockFault.{BlockFault}
use Rattle.blocks.specs.declared.fault.BlockFault.TheVariants.{Symbols, OtherType, Field}

abbrev refuse : Reason → ℕ → Refusal
refuse r p = record { reason = r; layer = BlockLayer; place = p }

abbrev pub block_refusal : BlockFault → Refusal
block_refusal (Symbols e) = symbol_refusal BlockLayer e
block_refusal (OtherType b) = refuse OtherBlock b
block_refusal (Field b) = refuse OutOfRange b
