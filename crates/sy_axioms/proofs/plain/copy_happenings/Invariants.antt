use Rattle.std.proofs.Common.{◌≡◌, take, map}
use Rattle.sy_axioms.proofs.plain.copy_happenings.Given as goal

abbrev pub invariant-loop-happening : goal.invariant-loop-happening
invariant-loop-happening l = l.happenings ≡ map (λ h. h.what) (take l.happening-index l.at)
