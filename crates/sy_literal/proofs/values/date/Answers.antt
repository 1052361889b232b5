use Rattle.std.proofs.Common.{ap, ◌∙◌}
use Rattle.std.specs.Result.{result_ok}
use Rattle.sy_base.specs.Dates.{written_date}
use Rattle.sy_literal.specs.Values.{date_point}
use Rattle.sy_literal.proofs.Dates.{answer_in}
use Rattle.sy_literal.proofs.values.date.Goals as goal

pub returns-clause-value : goal.returns-clause-value
returns-clause-value c =
    c.ok.ensures.value ∙ ap result_ok c.read_date.ensures.point
    ∙ answer_in c.args.unit (written_date c.bytes.result.now) ∙ ap (date_point c.args.unit) c.bytes.ensures
