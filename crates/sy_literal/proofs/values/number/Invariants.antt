use Rattle.std.proofs.Common.{◌≡◌, ◌≤◌, ◌^◌, drop}
use Rattle.std.specs.List.{fold}
use Rattle.sy_literal.specs.Values.{number_value, with_digit}
use Rattle.sy_literal.proofs.values.number.Given as goal

abbrev pub invariant-digit : goal.invariant-digit
invariant-digit l = record {
  value : fold with_digit l.number (drop l.digit-index l.digit-items) ≡ number_value l.digits;
  bound : l.number ≤ 10 ^ 15;
}
