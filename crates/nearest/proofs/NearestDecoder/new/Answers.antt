use Rattle.std.proofs.Common.{refl}
use Rattle.nearest.proofs.Reaches.{nearest_reach}
use Rattle.nearest.proofs.NearestDecoder.new.Goals as goal

pub returns : goal.returns
returns g c = record { parts = refl; reach = nearest_reach _ _ }
