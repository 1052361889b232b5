use Rattle.std.proofs.Common.{◌≡◌, take}
use Rattle.sy_quiet.specs.Histories.{History}
use Rattle.sy_quiet.specs.Evaluation.{seeing_all}
use Rattle.sy_present.specs.Standing.{IsMadeFor, last_point}
use Rattle.sy_present.specs.Machine.Told.{IsPresent}
use Rattle.sy_present.proofs.SeenHappenings.{whats_of}
use Rattle.sy_present.proofs.present.Present.see_all.Given as goal

abbrev pub invariant-loop-happening : goal.invariant-loop-happening
invariant-loop-happening l = record {
  made : IsMadeFor l.self l.deed;
  point : last_point l.self ≡ last_point l.fn.self;
  present : (h : History) → IsPresent l.fn.self l.deed h → IsPresent l.self l.deed (seeing_all (whats_of (take l.happening-index l.at)) h);
}
