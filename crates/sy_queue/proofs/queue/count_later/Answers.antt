use Rattle.std.proofs.Common.{rules, int_lt}
use Rattle.std.proofs.lemmas.List.Sorted.{IsPartitionPoint-from_clause}
use Rattle.sy_queue.proofs.Splitting.{later_in_front}
use Rattle.sy_queue.proofs.queue.count_later.Goals as goal

pub returns : goal.returns
returns c = record {
  within = c.partition_point.ensures.bound;
  parts =
      let front = later_in_front c.args.point c.args.points.now c.requires in
      IsPartitionPoint-from_clause (λ p. int_lt c.args.point p) _ _ c.partition_point.ensures.partitioned front (λ a r q k. search rules);
}
