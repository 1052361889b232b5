-- Over points that are no wake points what is kept of a deed goes on standing for the narrative, and dates keep their values.
use Rattle.std.proofs.Common.{◌≡◌, ℕ, zero, suc, ◌+◌, ◌<◌, false, List, length, Some, slice_get, refl, sym, ◌∙◌, ap, subst, arith}
use Rattle.sy_words.specs.declared.kind.Kind.TheVariants.{Exerted, Violated}
use Rattle.sy_base.specs.declared.time.TimeUnit.{TimeUnit}
use Rattle.sy_core.specs.declared.kind.Target.TheVariants as T
use Rattle.sy_core.specs.declared.event.Ev.TheVariants.{Inner}
use Rattle.sy_core.specs.declared.date_term.DateTerm.{DateTerm}
use Rattle.sy_core.specs.declared.deed.Deed.{Deed}
use Rattle.sy_core.specs.declared.happening.Happening.{Happening}
use Rattle.sy_core.specs.Moments.{date_value}
use Rattle.sy_core.specs.Orders.{IsAcyclic}
use Rattle.sy_core.specs.Prerequisites.{nodes, numbered_needs}
use Rattle.sy_core.specs.Chronicle.{chronicle, state_at, moment_at}
use Rattle.sy_core.specs.Wakes.{is_wake_after}
use Rattle.sy_quiet.specs.Histories.{History, moments, passing, going_on, history_at}
use Rattle.sy_quiet.proofs.Unseen.{date_unseen, first_unseen}
use Rattle.sy_quiet.proofs.WakeLaw.{none_inside, same_states, same_posts, history_goes_on}
use Rattle.sy_present.specs.declared.place.Place.{Place}
use Rattle.sy_present.specs.declared.present.Present.{Present}
use Rattle.sy_present.specs.Standing.{IsKeptAt, StandsFor}

-- dates keep their values while points are passed over
date_goes_on : (unit : TimeUnit) (date : DateTerm) (k : ℕ) (h : History) → date_value unit date (moments (passing k h)) ≡ date_value unit date (moments h)
date_goes_on unit date zero h = refl
date_goes_on unit date (suc k) h =
    date_unseen unit date (moments (passing k h)) (passing (suc k) h).now (λ e. refl) ∙ date_goes_on unit date k h

-- by a history that lies some points behind, each date has the value that it has at the start of the n-th point
pub date_known : (deed : Deed) (narrative : List Happening) (n : ℕ) (date : DateTerm) (k : ℕ) (h : History) → passing k h ≡ history_at deed narrative n → date_value deed.unit date (moments h) ≡ date_value deed.unit date (chronicle deed narrative n)
date_known deed narrative n date zero h reach =
    date_unseen deed.unit date h.before h.now (λ e. ap (λ g. g.now.seen e) reach)
    ∙ ap (λ g. date_value deed.unit date g.before) reach
date_known deed narrative n date (suc k) h reach =
    sym (date_goes_on deed.unit date k h) ∙ ap (λ g. date_value deed.unit date g.before) reach

module _ (present : Present) (deed : Deed) (narrative : List Happening) (acyclic : IsAcyclic (numbered_needs deed) (length (nodes deed))) where
  -- over one point
  passed_one : (n : ℕ) → is_wake_after deed narrative n ≡ false → StandsFor present deed narrative n → StandsFor present deed narrative (suc n)
  passed_one zero quiet stands = cc
  passed_one (suc n) quiet stands = record {
    contract = stands.contract ∙ sym (ap (λ s. s T.Contract) states);
    places = at;
    told = record {
      history = stands.told.history;
      stand = stands.told.stand;
      behind = suc stands.told.behind;
      reach = ap going_on stands.told.reach ∙ sym (history_goes_on deed acyclic narrative n quiet);
      verdicts = λ i post is. stands.told.verdicts i post is ∙ sym (same_posts deed acyclic narrative n quiet i post is);
    };
  }
    where
      states : state_at deed narrative (suc (suc n)) ≡ state_at deed narrative (suc n)
      states = same_states deed acyclic narrative n quiet

      at : (i : ℕ) (place : Place) → slice_get present.places.items i ≡ Some place → IsKeptAt place deed narrative (suc (suc n)) i
      at i place is =
          let kept = stands.places i place is in
          let past = chronicle deed narrative (suc n) in
          let moment = moment_at deed narrative (suc n) in
          record {
            state = kept.state ∙ sym (ap (λ s. s (T.Position i)) states);
            violated = kept.violated ∙ sym (first_unseen (Inner Violated (T.Position i)) past moment (none_inside deed acyclic narrative n quiet (Violated, T.Position i)));
            exerted = kept.exerted ∙ sym (first_unseen (Inner Exerted (T.Position i)) past moment (none_inside deed acyclic narrative n quiet (Exerted, T.Position i)));
          }

-- over some points
pub passed : (present : Present) (deed : Deed) (narrative : List Happening) (n m : ℕ) → IsAcyclic (numbered_needs deed) (length (nodes deed)) → StandsFor present deed narrative n → ((k : ℕ) → k < m → is_wake_after deed narrative (n + k) ≡ false) → StandsFor present deed narrative (n + m)
passed present deed narrative n zero acyclic stands quiet =
    let e : n ≡ n + 0 = omega arith in subst (StandsFor present deed narrative) e stands
passed present deed narrative n (suc m) acyclic stands quiet =
    let e : suc (n + m) ≡ n + suc m = omega arith in
    let before = passed present deed narrative n m acyclic stands (λ k lt. quiet k (omega (arith, lt))) in
    subst (StandsFor present deed narrative) e (passed_one present deed narrative acyclic (n + m) (quiet m (omega arith)) before)
