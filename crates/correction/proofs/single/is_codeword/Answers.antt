use Rattle.std.proofs.Common.{◌∙◌}
use Rattle.std.proofs.lemmas.Bool.{eqb-true, eq-eqb}
use Rattle.parity.proofs.Codewords.{every_sum}
use Rattle.correction.proofs.single.is_codeword.Goals as goal

pub returns-else-row_sum-eq0 : goal.returns-else-row_sum-eq0
returns-else-row_sum-eq0 c = (
  λ e. absurd (c.if-row_sum-eq0.false (eqb-true c.row_sum.result 0 e)),
  λ h. eq-eqb c.row_sum.result 0 (c.row_sum.ensures.same ∙ every_sum c.args.candidate.now.bytes h c.args.failed),
)
