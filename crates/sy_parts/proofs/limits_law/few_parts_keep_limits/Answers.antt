use Rattle.sy_parts.proofs.Counting.{few_kept, limits_kept}
use Rattle.sy_parts.proofs.limits_law.few_parts_keep_limits.Goals as goal

pub returns-clause-kept : goal.returns-clause-kept
returns-clause-kept c = limits_kept

pub returns-clause-only : goal.returns-clause-only
returns-clause-only c = few_kept
