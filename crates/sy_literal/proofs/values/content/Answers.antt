use Rattle.std.proofs.Common.{◌≡◌, ◌∙◌, arith}
use Rattle.std.proofs.lemmas.Grind.{common_steps}
use Rattle.sy_literal.specs.Values.{text_content}
use Rattle.sy_literal.proofs.Contents.{content_of_string}
use Rattle.sy_literal.proofs.values.content.Goals as goal

pub returns-in-empty-clause-string : goal.returns-in-empty-clause-string
returns-in-empty-clause-string c = λ string.
    let value : c.from.result ≡ text_content c.args.text.now = grind (arith, common_steps) in
    value ∙ content_of_string c.args.text.now string
