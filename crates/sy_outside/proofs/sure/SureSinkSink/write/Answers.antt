use Rattle.std.proofs.Common.{◌≡◌, ◌∙◌, ◌≤◌, ◌-◌, ◌++◌, min, ℕ, List, ap, length, take}
use Rattle.sy_outside.proofs.Keeping.{take-kept}
use Rattle.sy_outside.proofs.sure.SureSinkSink.write.Goals as goal

pub returns-clause-kept : goal.returns-clause-kept
returns-clause-kept c =
    let kept = c.self.inside.kept.items in
    let room = c.self.inside.room in
    let size = c.self.inside.kept.ok.0 in
    let count : c.min-count.result ≡ min (room - length kept) (length c.args.bytes.now) = rw (← size, ← c.len.ensures) c.min-count.ensures in
    let within : length kept ≤ room = rw (← size) c.self.invariant.0 in
    let items : c.extend_from_slice.new.self.items ≡ kept ++ take c.min-count.result c.args.bytes.now = simp c.unwrap.ensures at c.extend_from_slice.ensures.items in
    rw (← c.self.view_is) (ap (λ (l : List ℕ). record { kept = l; room = room }) (items ∙ take-kept kept c.args.bytes.now room c.min-count.result within count))
