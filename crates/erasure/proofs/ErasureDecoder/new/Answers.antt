use Rattle.erasure.specs.Erased.{erasure_reach, erasure_whole}
use Rattle.erasure.proofs.ErasureDecoder.new.Goals as goal

pub returns : goal.returns
returns c = record { whole = erasure_whole; reach = erasure_reach }
