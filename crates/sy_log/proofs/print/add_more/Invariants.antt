use Rattle.std.proofs.Common.{◌≡◌, ◌++◌, IsTrue, length}
use Rattle.sy_log.specs.EntryText as text
use Rattle.sy_log.specs.Happenings.{are_values_of}
use Rattle.sy_log.proofs.print.add_more.Given as goal

-- what was added and what the rest gives are all the fields
abbrev pub invariant-field : goal.invariant-field
invariant-field l = record {
  added : l.out.items ++ text.more_text l.deed l.rest l.left ≡ l.initial.out.items ++ text.more_text l.deed l.attrs l.values;
  values : IsTrue (are_values_of l.deed l.rest l.left);
}

abbrev pub decreases-field : goal.decreases-field
decreases-field l = length l.rest
