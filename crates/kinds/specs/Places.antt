-- The blocks of each type of message, in the order of their bits.
use Rattle.std.specs.Prelude.{List, [], ◌∷◌}
use Rattle.blocks.specs.declared.place.Place.{Place}
use Rattle.layout.specs.declared.MessageType.{MessageType}
use Rattle.layout.specs.declared.MessageType.TheVariants.{Type10, Type30, Type40}
use Rattle.type10.specs.Ephemeris1Counts as ephemeris1
use Rattle.type10.specs.Ephemeris2Counts as ephemeris2
use Rattle.type10.specs.IntegrityCounts as integrity
use Rattle.type30.specs.AccuracyCounts as accuracy
use Rattle.type30.specs.BdtUtcCounts as bdt_utc
use Rattle.type30.specs.ClockCounts as clock
use Rattle.type30.specs.EarthOrientationCounts as earth_orientation
use Rattle.type30.specs.GroupDelayCounts as group_delay
use Rattle.type30.specs.HealthCounts as health
use Rattle.type30.specs.IonosphereCounts as ionosphere
use Rattle.type30.specs.WeekCounts as week

-- what is not taken apart has no block
abbrev pub places_of : MessageType → List Place
places_of Type10 = ephemeris1.place_of ∷ ephemeris2.place_of ∷ integrity.place_of ∷ []
places_of Type30 =
    week.place_of ∷ clock.place_of ∷ group_delay.place_of ∷ ionosphere.place_of ∷ bdt_utc.place_of
    ∷ earth_orientation.place_of ∷ accuracy.place_of ∷ health.place_of ∷ []
places_of Type40 = []
