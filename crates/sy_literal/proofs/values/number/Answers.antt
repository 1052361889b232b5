use Rattle.std.proofs.Common.{◌≡◌, ◌+◌, arith, drop}
use Rattle.std.specs.List.{fold}
use Rattle.std.proofs.lemmas.Grind.{common_steps}
use Rattle.sy_literal.specs.Values.{number_value, with_digit}
use Rattle.sy_literal.proofs.Digits.{out_of_range}
use Rattle.sy_literal.proofs.values.number.Goals as goal

pub returns-then-number-gt-GREATEST_NUMBER-clause-value : goal.returns-then-number-gt-GREATEST_NUMBER-clause-value
returns-then-number-gt-GREATEST_NUMBER-clause-value c =
    let rest = drop (c.digit.digit-index + 1) c.bytes-digit-items.result.now in
    let same : fold with_digit c.with_digit-number.result rest ≡ number_value c.args.digits.now = grind (arith, common_steps) in
    out_of_range c.args.digits.now c.with_digit-number.result rest same c.if-number-gt-GREATEST_NUMBER.true
