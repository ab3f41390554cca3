use Rattle.std.proofs.Common.{length, refl}
use Rattle.layout.specs.declared.MessageType.TheVariants.{Type30 as Kind30}
use Rattle.type30.specs.WeekCounts.{record_of as week_record}
use Rattle.type30.specs.ClockCounts.{record_of as clock_record}
use Rattle.type30.specs.GroupDelayCounts.{record_of as group_delay_record}
use Rattle.type30.specs.IonosphereCounts.{record_of as ionosphere_record}
use Rattle.type30.specs.BdtUtcCounts.{record_of as bdt_utc_record}
use Rattle.type30.specs.EarthOrientationCounts.{record_of as earth_orientation_record}
use Rattle.type30.specs.AccuracyCounts.{record_of as accuracy_record}
use Rattle.type30.specs.HealthCounts.{record_of as health_record}
use Rattle.compose.specs.declared.records.Records.TheVariants.{Type30}
use Rattle.compose.proofs.Filling.{all_fit, begun, none_left, read_one, step}
use Rattle.compose.proofs.draft_30.Goals as goal

pub returns-clause-fills : goal.returns-clause-fills
returns-clause-fills c =
    let fit = all_fit (length c.args.buffer.now) c.args.second (Type30 c.args.records.now) c.requires in
    let p0 = begun {t = Kind30} 30 c.start-draft.ensures.of.0 refl c.start-draft.ensures.of.1 c.start-draft.ensures.second c.start-draft.ensures.drafted in
    let p1 = step refl p0 c.put.ensures.step refl refl refl fit.0 in
    let p2 = step refl p1 c.put-2.ensures.step refl refl refl fit.1.0 in
    let p3 = step refl p2 c.put-3.ensures.step refl refl refl fit.1.1.0 in
    let p4 = step refl p3 c.put-4.ensures.step refl refl refl fit.1.1.1.0 in
    let p5 = step refl p4 c.put-5.ensures.step refl refl refl fit.1.1.1.1.0 in
    let p6 = step refl p5 c.put-6.ensures.step refl refl refl fit.1.1.1.1.1.0 in
    let p7 = step refl p6 c.put-7.ensures.step refl refl refl fit.1.1.1.1.1.1.0 in
    let p8 = step refl p7 c.put-8.ensures.step refl refl refl fit.1.1.1.1.1.1.1.0 in
    record {
      typed = p8.typed;
      second = p8.second;
      drafted = p8.drafted;
      full = none_left p8 refl;
      reads = λ v e. record {
        week = read_one week_record e p8.held.1.1.1.1.1.1.1.0;
        clock = read_one clock_record e p8.held.1.1.1.1.1.1.0;
        group_delay = read_one group_delay_record e p8.held.1.1.1.1.1.0;
        ionosphere = read_one ionosphere_record e p8.held.1.1.1.1.0;
        bdt_utc = read_one bdt_utc_record e p8.held.1.1.1.0;
        earth_orientation = read_one earth_orientation_record e p8.held.1.1.0;
        accuracy = read_one accuracy_record e p8.held.1.0;
        health = read_one health_record e p8.held.0;
      };
    }
