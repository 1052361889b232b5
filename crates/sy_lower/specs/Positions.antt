-- The positions of a deed: obligations, then surviving obligations, then powers, each in the order of the text.
use Rattle.std.specs.Prelude.{List, ◌++◌, map}
use Rattle.sy_words.specs.declared.form.Form.{Form}
use Rattle.sy_words.specs.declared.form.Form.TheVariants as Form
use Rattle.sy_core.specs.declared.position.Goal.TheVariants as G
use Rattle.sy_core.specs.declared.position.Position.{Position}
use Rattle.sy_core.specs.declared.proposition.Prop.{Prop}
use Rattle.sy_spec.specs.declared.position.ObligTree.{ObligTree}
use Rattle.sy_spec.specs.declared.position.PowerTree.{PowerTree}
use Rattle.sy_typing.specs.Outlines.{act_outline}
use Rattle.sy_lower.specs.Basis.{Basis}
use Rattle.sy_lower.specs.Propositions.{lowered, trigger}

module _ (b : Basis) where
  -- an obligation, surviving or not
  abbrev pub obligation : Form → ObligTree → Position
  obligation form o =
      record {
        name = o.name.text;
        form = form;
        first = o.debtor.text;
        second = o.creditor.text;
        trigger = trigger b o.trigger;
        antecedent = lowered b o.antecedent;
        goal = G.Duty (lowered b o.consequent);
      }

  -- a power
  abbrev pub power : PowerTree → Position
  power p =
      record {
        name = p.name.text;
        form = Form.Power;
        first = p.holder.text;
        second = p.other_party.text;
        trigger = trigger b p.trigger;
        antecedent = lowered b p.antecedent;
        goal = act_outline b.things.domain.table b.contract p.act;
      }

  -- all positions
  abbrev pub positions : List Position
  positions =
      map (obligation Form.Obligation) b.contract.obligations
      ++ map (obligation Form.Surviving) b.contract.surviving
      ++ map power b.contract.powers

  -- the postconditions
  abbrev pub postconditions : List Prop
  postconditions = map (lowered b) b.contract.postconditions
