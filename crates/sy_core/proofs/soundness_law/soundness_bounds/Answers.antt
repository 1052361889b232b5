use Rattle.sy_core.specs.declared.position.Position.{Position}
use Rattle.sy_core.specs.declared.deed.EventDecl.{EventDecl}
use Rattle.sy_core.proofs.Names.{name_tells}
use Rattle.sy_core.proofs.soundness_law.soundness_bounds.Goals as goal

pub returns-clause-position_names : goal.returns-clause-position_names
returns-clause-position_names c deed sound = name_tells (λ (p : Position). p.name) deed.positions sound.names.positions

pub returns-clause-event_names : goal.returns-clause-event_names
returns-clause-event_names c deed sound = name_tells (λ (event : EventDecl). event.name) deed.events sound.names.events
