-- The derived comparison of internal events is equality.
use Rattle.std.proofs.Common.{◌≡◌, Bool, refl, ap}
use Rattle.std.specs.Bool.{Decides}
use Rattle.std.specs.Cmp.{booleans_Decides}
use Rattle.std.proofs.lemmas.Bool.Decides.{Decides-and}
use Rattle.std.proofs.lemmas.Slice.Eq.{slice_eq-Decides}
use Rattle.sy_machines.specs.declared.fired.Fired.{Fired}
use Rattle.sy_axioms.specs.declared.moment.Events.{Events}
use Rattle.sy_machines.specs.contracts.fired.FiredPartialEq.TheImpl as fired
use Rattle.sy_axioms.specs.contracts.moment.EventsPartialEq.TheImpl as events

abbrev fired_eq : Fired → Fired → Bool
fired_eq = fired.eq-value.it

abbrev events_eq : Events → Events → Bool
events_eq = events.eq-value.it

fired_Decides : (a b : Fired) → Decides (fired_eq a b) (a ≡ b)
fired_Decides a b =
    let d = Decides-and _ _ (booleans_Decides a.exerted b.exerted) (Decides-and _ _ (booleans_Decides a.triggered b.triggered) (Decides-and _ _ (booleans_Decides a.activated b.activated) (Decides-and _ _ (booleans_Decides a.resumed b.resumed) (Decides-and _ _ (booleans_Decides a.suspended b.suspended) (Decides-and _ _ (booleans_Decides a.fulfilled b.fulfilled) (Decides-and _ _ (booleans_Decides a.violated b.violated) (Decides-and _ _ (booleans_Decides a.expired b.expired) (Decides-and _ _ (booleans_Decides a.discharged b.discharged) (Decides-and _ _ (booleans_Decides a.terminated b.terminated) (booleans_Decides a.completed b.completed)))))))))) in (
      λ h. let p = d.0 h in λ i. record {
        exerted = p.0 i;
        triggered = p.1.0 i;
        activated = p.1.1.0 i;
        resumed = p.1.1.1.0 i;
        suspended = p.1.1.1.1.0 i;
        fulfilled = p.1.1.1.1.1.0 i;
        violated = p.1.1.1.1.1.1.0 i;
        expired = p.1.1.1.1.1.1.1.0 i;
        discharged = p.1.1.1.1.1.1.1.1.0 i;
        terminated = p.1.1.1.1.1.1.1.1.1.0 i;
        completed = p.1.1.1.1.1.1.1.1.1.1 i;
      },
      λ h. d.1 (ap (λ x. x.exerted) h, (ap (λ x. x.triggered) h, (ap (λ x. x.activated) h, (ap (λ x. x.resumed) h, (ap (λ x. x.suspended) h, (ap (λ x. x.fulfilled) h, (ap (λ x. x.violated) h, (ap (λ x. x.expired) h, (ap (λ x. x.discharged) h, (ap (λ x. x.terminated) h, ap (λ x. x.completed) h)))))))))),
    )

pub events_Decides : (a b : Events) → Decides (events_eq a b) (a ≡ b)
events_Decides a b =
    let d = Decides-and _ _ (fired_Decides a.contract b.contract) (slice_eq-Decides fired_Decides a.positions b.positions _ refl) in
    (λ h. let p = d.0 h in λ i. record { contract = p.0 i; positions = p.1 i }, λ h. d.1 (ap (λ x. x.contract) h, ap (λ x. x.positions) h))
