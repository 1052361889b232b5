use Rattle.std.proofs.Common.{◌↔◌, subst, IsTrue}
use Rattle.std.specs.List.{Contains}
use Rattle.sy_story.specs.Narratives.{Narrative}
use Rattle.sy_story.proofs.Keeping.{answers}
use Rattle.sy_story.proofs.story.Story.holds.Goals as goal

pub returns : goal.returns
returns c =
    let s = c.self.inside in
    let found = c.contains.result in
    subst (λ (n : Narrative). IsTrue found ↔ Contains n.happenings c.args.happening.now) c.self.view_is
    (answers s.start s.known s.moments c.self.invariant c.args.happening.now found c.contains.ensures)
