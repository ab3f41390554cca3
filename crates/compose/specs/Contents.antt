-- The records of a message: their counts, and what it means that a message holds them.
use Rattle.std.specs.Prelude.{◌≡◌, ℕ, List, [], ◌∷◌, ℤ, Ok}
use Rattle.blocks.specs.Read.{read_as}
use Rattle.blocks.specs.declared.place.Place.{Place}
use Rattle.layout.specs.declared.MessageType.{MessageType}
use Rattle.layout.specs.declared.MessageType.TheVariants.{Type10 as Kind10, Type30 as Kind30}
use Rattle.type10.specs.Ephemeris1Counts.{place_of as ephemeris1_place, counts_of as ephemeris1_counts, record_of as ephemeris1_record}
use Rattle.type10.specs.Ephemeris2Counts.{place_of as ephemeris2_place, counts_of as ephemeris2_counts, record_of as ephemeris2_record}
use Rattle.type10.specs.IntegrityCounts.{place_of as integrity_place, counts_of as integrity_counts, record_of as integrity_record}
use Rattle.type30.specs.AccuracyCounts.{place_of as accuracy_place, counts_of as accuracy_counts, record_of as accuracy_record}
use Rattle.type30.specs.BdtUtcCounts.{place_of as bdt_utc_place, counts_of as bdt_utc_counts, record_of as bdt_utc_record}
use Rattle.type30.specs.ClockCounts.{place_of as clock_place, counts_of as clock_counts, record_of as clock_record}
use Rattle.type30.specs.EarthOrientationCounts.{place_of as earth_orientation_place, counts_of as earth_orientation_counts, record_of as earth_orientation_record}
use Rattle.type30.specs.GroupDelayCounts.{place_of as group_delay_place, counts_of as group_delay_counts, record_of as group_delay_record}
use Rattle.type30.specs.HealthCounts.{place_of as health_place, counts_of as health_counts, record_of as health_record}
use Rattle.type30.specs.IonosphereCounts.{place_of as ionosphere_place, counts_of as ionosphere_counts, record_of as ionosphere_record}
use Rattle.type30.specs.WeekCounts.{place_of as week_place, counts_of as week_counts, record_of as week_record}
use Rattle.compose.specs.declared.records.Records.{Records}
use Rattle.compose.specs.declared.records.Records.TheVariants.{Type10, Type30}
use Rattle.compose.specs.declared.records.Type10Records.{Type10Records}
use Rattle.compose.specs.declared.records.Type30Records.{Type30Records}

-- a block with its counts
abbrev pub Counted : Type 0
Counted = Place × List ℤ

abbrev pub kind_of : Records → MessageType
kind_of (Type10 r) = Kind10
kind_of (Type30 r) = Kind30

abbrev pub counts10 : Type10Records → List Counted
counts10 r =
    (ephemeris1_place, ephemeris1_counts r.ephemeris1)
    ∷ (ephemeris2_place, ephemeris2_counts r.ephemeris2)
    ∷ (integrity_place, integrity_counts r.integrity)
    ∷ []

abbrev pub counts30 : Type30Records → List Counted
counts30 r =
    (week_place, week_counts r.week)
    ∷ (clock_place, clock_counts r.clock)
    ∷ (group_delay_place, group_delay_counts r.group_delay)
    ∷ (ionosphere_place, ionosphere_counts r.ionosphere)
    ∷ (bdt_utc_place, bdt_utc_counts r.bdt_utc)
    ∷ (earth_orientation_place, earth_orientation_counts r.earth_orientation)
    ∷ (accuracy_place, accuracy_counts r.accuracy)
    ∷ (health_place, health_counts r.health)
    ∷ []

-- the blocks of a message with their counts, in the order of their numbers
abbrev pub all_counts_of : Records → List Counted
all_counts_of (Type10 r) = counts10 r
all_counts_of (Type30 r) = counts30 r

-- reading each block of the message m gives its record
pub record Reads10 (r : Type10Records) (m : List ℕ) : Type 0 where
  pub ephemeris1 : read_as ephemeris1_place ephemeris1_record m ≡ Ok r.ephemeris1
  pub ephemeris2 : read_as ephemeris2_place ephemeris2_record m ≡ Ok r.ephemeris2
  pub integrity : read_as integrity_place integrity_record m ≡ Ok r.integrity

pub record Reads30 (r : Type30Records) (m : List ℕ) : Type 0 where
  pub week : read_as week_place week_record m ≡ Ok r.week
  pub clock : read_as clock_place clock_record m ≡ Ok r.clock
  pub group_delay : read_as group_delay_place group_delay_record m ≡ Ok r.group_delay
  pub ionosphere : read_as ionosphere_place ionosphere_record m ≡ Ok r.ionosphere
  pub bdt_utc : read_as bdt_utc_place bdt_utc_record m ≡ Ok r.bdt_utc
  pub earth_orientation : read_as earth_orientation_place earth_orientation_record m ≡ Ok r.earth_orientation
  pub accuracy : read_as accuracy_place accuracy_record m ≡ Ok r.accuracy
  pub health : read_as health_place health_record m ≡ Ok r.health

abbrev pub Reads : Records → List ℕ → Type 0
Reads (Type10 r) m = Reads10 r m
Reads (Type30 r) m = Reads30 r m
