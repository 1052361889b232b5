use Rattle.std.proofs.Common.{inl, inr, map, sym, ap, ◌∙◌}
use Rattle.std.specs.List.{sum}
use Rattle.sy_parts.specs.Counts.{dates_in}
use Rattle.sy_parts.specs.declared.counts.Counts.{Counts}
use Rattle.sy_parts.proofs.Counting.{dates_in_parts, with_nothing}
use Rattle.sy_parts.proofs.counts.+counting.Goals as goal

pub of_prop-returns-in-All-clause-dates : goal.of_prop-returns-in-All-clause-dates
of_prop-returns-in-All-clause-dates t c =
    with_nothing (sum (map dates_in c.as_slice.result.now)) (dates_in c.args.prop.now) c.one-in-All.result.dates c.of_all.result.dates c.sum-in-All.result.dates
    (dates_in_parts c.args.prop.now c.in-All.parts (inl c.in-All.is) ∙ sym (ap (λ parts. sum (map dates_in parts)) c.as_slice.ensures))
    (ap (λ (counts : Counts). counts.dates) c.one-in-All.ensures)
    c.of_all.ensures.dates
    c.sum-in-All.ensures.dates

pub of_prop-returns-in-Any-clause-dates : goal.of_prop-returns-in-Any-clause-dates
of_prop-returns-in-Any-clause-dates t c =
    with_nothing (sum (map dates_in c.as_slice-in-Any.result.now)) (dates_in c.args.prop.now) c.one-in-Any.result.dates c.of_all-in-Any.result.dates c.sum-in-Any.result.dates
    (dates_in_parts c.args.prop.now c.in-Any.parts (inr c.in-Any.is) ∙ sym (ap (λ parts. sum (map dates_in parts)) c.as_slice-in-Any.ensures))
    (ap (λ (counts : Counts). counts.dates) c.one-in-Any.ensures)
    c.of_all-in-Any.ensures.dates
    c.sum-in-Any.ensures.dates
