use Rattle.std.proofs.Common.{refl}
use Rattle.crc.specs.Crc.{crc_step, crc_of, crc_of_message}
use Rattle.gf64.specs.Field.{mul, mul_low, times_x, scaled}
use Rattle.layout.specs.Layout.{fields_of, parts_of, width_of}
use Rattle.layout.specs.Placed.{placed, spread, reserved_of, parameters_of}
use Rattle.layout.specs.Ranges.{first_outside}
use Rattle.message.specs.Examined.{number_at}
use Rattle.parity.specs.Code.{weighted}
use Rattle.parity.specs.Table.{rows, places, factors}
use Rattle.known_answers.specs.Claims.{claims}
use Rattle.known_answers.proofs.known_answers.Goals as goal

pub returns : goal.returns
unfolding claims mul mul_low times_x scaled weighted rows places factors crc_step crc_of crc_of_message number_at fields_of parts_of width_of placed spread reserved_of parameters_of first_outside
returns c =
    record {
      count = refl;
      each = (refl, (refl, ((refl, refl), ((refl, refl), (refl, (refl, (refl, ((refl, (refl, refl)), (refl, ((refl, (refl, refl)), (refl, ((refl, (refl, refl)), (refl, ((refl, (refl, refl)), (refl, (refl, (refl, (refl, (refl, (refl, tt))))))))))))))))))));
    }
