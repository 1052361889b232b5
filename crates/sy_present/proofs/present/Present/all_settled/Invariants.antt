use Rattle.std.proofs.Common.{◌≡◌, ◌||◌, not, drop}
use Rattle.std.specs.List.{list_all, enumerate_from}
use Rattle.sy_core.specs.declared.kind.Target.TheVariants as T
use Rattle.sy_core.specs.Conditions.{is_awaited, is_settled, next_state, is_remedied, all_settled}
use Rattle.sy_quiet.specs.Histories.{History}
use Rattle.sy_present.specs.Machine.Told.{IsPresent}
use Rattle.sy_present.proofs.present.Present.all_settled.Given as goal

-- whether all awaited obligations are settled is left to the positions from here on
abbrev pub invariant-loop-position : goal.invariant-loop-position
invariant-loop-position l = record {
  number : l.number ≡ l.position-index;
  rest : (h : History) → IsPresent l.self l.deed h
      → list_all (λ n. not (is_awaited n.1.form) || is_settled (next_state h.now n.0 n.1) (is_remedied l.deed h.now (T.Position n.0))) (enumerate_from l.number (drop l.position-index l.position-items))
      ≡ all_settled l.deed h.now;
}
