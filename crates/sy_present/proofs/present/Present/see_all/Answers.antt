use Rattle.std.proofs.Common.{refl, sym, ◌∙◌, subst}
use Rattle.sy_present.specs.Machine.Told.{IsPresent}
use Rattle.sy_present.proofs.SeenHappenings.{none_seen, one_seen, all_seen}
use Rattle.sy_present.proofs.present.Present.see_all.Goals as goal

pub loop-happening-init : goal.loop-happening-init
loop-happening-init c = record {
  made = c.requires.made;
  point = refl;
  present = λ h present. subst (IsPresent c.args.self.now c.args.deed.now) (sym (none_seen c.args.at.now h)) present;
}

pub loop-happening-preserved : goal.loop-happening-preserved
loop-happening-preserved c = record {
  made = c.see.ensures.made;
  point = c.see.ensures.point ∙ c.loop-happening.invariant.point;
  present = λ h present.
      subst (IsPresent c.see.new.self c.args.deed.now) (sym (one_seen c.args.at.now c.loop-happening.happening-index c.happening-item.result c.loop-happening-test.true c.happening-item.is h))
      (c.see.ensures.present _ (c.loop-happening.invariant.present h present));
}

pub returns-clause-present : goal.returns-clause-present
returns-clause-present c = λ h present.
    subst (IsPresent _ c.args.deed.now) (all_seen c.args.at.now c.loop-happening.happening-index c.loop-happening-test.false h)
    (c.loop-happening.invariant.present h present)
