use Rattle.single_error.specs.Only.{single_only, single_reach}
use Rattle.single_error.proofs.SingleErrorDecoder.new.Goals as goal

pub returns : goal.returns
returns c = record { only = single_only; reach = single_reach }
