use Rattle.std.proofs.Common.{◌≡◌, ℕ, ◌+◌, ◌<◌, Bool, List, length, drop, get_or, sym, ◌∙◌, ap, add-one, drop-cons, if◌then◌else◌}
use Rattle.sy_words.specs.declared.kind.Kind.{Kind}
use Rattle.sy_words.specs.declared.kind.Kind.TheVariants.{Exerted}
use Rattle.sy_words.specs.declared.form.Form.{Form}
use Rattle.sy_core.specs.declared.state.StateOf.{StateOf}
use Rattle.sy_core.specs.States.{state_by, last_state}
use Rattle.sy_machines.specs.Fired.{has}
use Rattle.sy_machines.proofs.states.last_state.Goals as goal
use Rattle.sy_machines.proofs.states.last_state.Goals.{then-has, else-has}

-- one kind further, with the state that it gives
goes_on : (form : Form) (ks : List Kind) (happened : Kind → Bool) (i : ℕ) (d : Kind) (s whole next : StateOf) → i < length ks → last_state form (drop i ks) happened s ≡ whole → next ≡ (if happened (get_or ks i d) then state_by form (get_or ks i d) else s) → last_state form (drop (i + 1) ks) happened next ≡ whole
goes_on form ks happened i d s whole next lt so_far is = rw (is, add-one) (ap (λ xs. last_state form xs happened s) (sym (drop-cons ks i d lt)) ∙ so_far)

pub loop-kind-preserved : goal.loop-kind-preserved
loop-kind-preserved c =
    goes_on c.args.form c.args.kinds.now (has c.args.fired.now) c.loop-kind.kind-index Exerted c.loop-kind.last _ c.if-has.last c.loop-kind-test.true c.loop-kind.invariant
    (elim c.if-has.branch [ then-has w ↦ simp (sym c.has.ensures ∙ w.if-has.true) (w.last-is ∙ w.state_by-last.ensures) | else-has w ↦ simp (sym c.has.ensures ∙ w.if-has.false) w.last-is ])
