-- The internal events that a proposition of each sort names.
use Rattle.std.proofs.Common.{◌≡◌, Bool, List, [], ◌++◌, sym, ◌∙◌, ap}
use Rattle.sy_core.specs.declared.event.Ev.{Ev}
use Rattle.sy_core.specs.declared.date_term.DateTerm.{DateTerm}
use Rattle.sy_core.specs.declared.proposition.Prop.{Prop}
use Rattle.sy_core.specs.declared.proposition.Prop.TheVariants as Props
use Rattle.sy_core.specs.declared.proposition.Prop.TheVariants.{rolls-Const, rolls-Not, rolls-Happens, rolls-Before}
use Rattle.sy_core.specs.declared.proposition.Prop.TheOpen as P
use Rattle.sy_core.specs.declared.proposition.Prop.TheFolds.{fold-roll-Prop}
use Rattle.sy_core.specs.Mentions.{InternalEvent, named_by_event, named_by_date, names_step, names_of}

pub names-const : (b : Bool) → names_of (Props.Const b) ≡ []
names-const b = ap names_of (sym (rolls-Const b)) ∙ fold-roll-Prop (List InternalEvent) names_step (P.Const b)

pub names-not : (part : Prop) → names_of (Props.Not part) ≡ names_of part
names-not part = ap names_of (sym (rolls-Not part)) ∙ fold-roll-Prop (List InternalEvent) names_step (P.Not part)

pub names-happens : (e : Ev) → names_of (Props.Happens e) ≡ named_by_event e
names-happens e = ap names_of (sym (rolls-Happens e)) ∙ fold-roll-Prop (List InternalEvent) names_step (P.Happens e)

pub names-before : (e : Ev) (to : DateTerm) → names_of (Props.Before e to) ≡ named_by_event e ++ named_by_date to
names-before e to = ap names_of (sym (rolls-Before e to)) ∙ fold-roll-Prop (List InternalEvent) names_step (P.Before e to)
