use Rattle.std.proofs.Common.{◌≡◌, ◌≤◌, ◌+◌, ◌-◌, length}
use Rattle.sy_reader.specs.Machine.Reading.{while_at, and_more}
use Rattle.sy_tree.specs.Machine.ReadingTerms.{is_sum_sign, sum_at}
use Rattle.sy_tree.proofs.reading.terms.sums.Given as goal

abbrev pub invariant-sum : goal.invariant-sum
invariant-sum l = record {
  fits : length l.reader + length l.sums ≤ length l.initial.reader;
  read : and_more l.sums (while_at is_sum_sign sum_at (length l.initial.reader - length l.sums)) l.reader
      ≡ while_at is_sum_sign sum_at (length l.initial.reader) l.initial.reader;
}

abbrev pub decreases-sum : goal.decreases-sum
decreases-sum l = length l.reader
