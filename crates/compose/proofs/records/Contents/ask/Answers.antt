use Rattle.compose.specs.declared.records.Records.TheVariants.{Type10, Type30}
use Rattle.compose.proofs.Filling.{asked_in_turn}
use Rattle.compose.proofs.records.Contents.ask.Goals as goal

pub returns-in_ok-ask_start-in-Type10 : goal.returns-in_ok-ask_start-in-Type10
returns-in_ok-ask_start-in-Type10 c =
    rw c.in-Type10.is (asked_in_turn c.args.length c.args.self.now.second (Type10 c.in-Type10.records) _ c.in_ok-ask_start-in-Type10.ensures c.ask_10.ensures)

pub returns-in_ok-ask_start-in-Type30 : goal.returns-in_ok-ask_start-in-Type30
returns-in_ok-ask_start-in-Type30 c =
    rw c.in-Type30.is (asked_in_turn c.args.length c.args.self.now.second (Type30 c.in-Type30.records) _ c.in_ok-ask_start-in-Type30.ensures c.ask_30.ensures)
