use Rattle.std.proofs.Common.{length, refl}
use Rattle.layout.specs.declared.MessageType.TheVariants.{Type10 as Kind10}
use Rattle.type10.specs.Ephemeris1Counts.{record_of as ephemeris1_record}
use Rattle.type10.specs.Ephemeris2Counts.{record_of as ephemeris2_record}
use Rattle.type10.specs.IntegrityCounts.{record_of as integrity_record}
use Rattle.compose.specs.declared.records.Records.TheVariants.{Type10}
use Rattle.compose.proofs.Filling.{all_fit, begun, none_left, read_one, step}
use Rattle.compose.proofs.draft_10.Goals as goal

pub returns-clause-fills : goal.returns-clause-fills
returns-clause-fills c =
    let fit = all_fit (length c.args.buffer.now) c.args.second (Type10 c.args.records.now) c.requires in
    let p0 = begun {t = Kind10} 10 c.start-draft.ensures.of.0 refl c.start-draft.ensures.of.1 c.start-draft.ensures.second c.start-draft.ensures.drafted in
    let p1 = step refl p0 c.put.ensures.step refl refl refl fit.0 in
    let p2 = step refl p1 c.put-2.ensures.step refl refl refl fit.1.0 in
    let p3 = step refl p2 c.put-3.ensures.step refl refl refl fit.1.1.0 in
    record {
      typed = p3.typed;
      second = p3.second;
      drafted = p3.drafted;
      full = none_left p3 refl;
      reads = λ v e. record {
        ephemeris1 = read_one ephemeris1_record e p3.held.1.1.0;
        ephemeris2 = read_one ephemeris2_record e p3.held.1.0;
        integrity = read_one integrity_record e p3.held.0;
      };
    }
