use Rattle.std.proofs.Common.{set, ◌∙◌, ap}
use Rattle.sy_atoms.specs.Machine.Atoms.{told_atom}
use Rattle.sy_prop.proofs.Changing.{one_changed}
use Rattle.sy_prop.proofs.walk.tell_atom.Goals as goal

pub returns-clause-nodes : goal.returns-clause-nodes
returns-clause-nodes c =
    ap (set c.args.nodes.now c.args.at) c.tell.ensures
    ∙ one_changed (told_atom c.args.update) c.args.at c.args.nodes.now _ c.requires.room
