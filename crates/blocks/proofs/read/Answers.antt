use Rattle.std.proofs.Common.{is_ok, ap, ◌∙◌}
use Rattle.std.proofs.lemmas.Result.{MatchResult-weaker}
use Rattle.blocks.proofs.Accepted.{accepted}
use Rattle.blocks.proofs.Written.{write_back}
use Rattle.blocks.proofs.read.Goals as goal

pub returns : goal.returns
returns g c =
    let b = g.K.Block in
    let m = c.args.bytes.now in
    let s = g.met.K.Block.stands in
    record {
      answer = c.read_in_turn.ensures.answer;
      writes = MatchResult-weaker c.read_in_turn.result c.read_in_turn.ensures.held (λ got e. write_back b.PLACE b.size s m (b.counts got) e.1 e.0) (λ _ h. h);
      accepted = λ w t e f. ap is_ok c.read_in_turn.ensures.answer ∙ accepted b.PLACE b.size s b.made m w t e f;
    }
