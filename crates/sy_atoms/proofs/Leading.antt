-- Each step takes what is kept of an atom from one history to the next.
use Rattle.std.proofs.Common.{◌≡◌, ℕ, zero, suc, ℤ, pos, ◌+ℤ◌, ◌≤ℤ◌, false, sym, ◌∙◌, ap, subst, arith}
use Rattle.std.proofs.lemmas.Int.{ints}
use Rattle.sy_base.specs.declared.time.TimeUnit.{TimeUnit}
use Rattle.sy_core.specs.declared.event.Ev.{Ev}
use Rattle.sy_core.specs.Matching.{matches}
use Rattle.sy_core.specs.Chronicle.{exerts}
use Rattle.sy_atoms.specs.declared.atom.Atom.{Atom}
use Rattle.sy_atoms.specs.declared.news.News.{News}
use Rattle.sy_atoms.specs.declared.news.News.TheVariants as N
use Rattle.sy_quiet.specs.Histories.{History, is_inner, going_on, passing}
use Rattle.sy_atoms.specs.Histories.{IsOrderly}
use Rattle.sy_atoms.specs.Machine.Told.{telling}
use Rattle.sy_atoms.specs.Machine.Atoms.{happens_of, before_of, after_of, within_of, occurs_of, holds_of, passed_atom, passed_to}
use Rattle.sy_atoms.specs.Machine.Steps.{news_step, same_step, Leads}
use Rattle.sy_atoms.proofs.AtomLaws.{happens_noting, before_noting, after_noting, within_noting, occurs_noting, holds_noting, happens_going, before_going, after_going, within_going, occurs_going, holds_going, happens_setting, before_setting, after_setting, within_setting, occurs_setting, holds_setting, passed_one, passed_more}

-- news are told
pub news_leads : (unit : TimeUnit) (h : History) → IsOrderly h → (news : News) → Leads unit h (telling news h) (news_step unit h.now.point news)
news_leads unit h o (N.Seen what) =
    let asks = λ (i : ℕ). exerts i what.now in
    let hits = λ (e : Ev). matches e what.now in
    record {
      happens = happens_noting unit h o asks hits;
      before = before_noting unit h o asks hits;
      after = after_noting unit h o asks hits;
      within = within_noting unit h o asks hits;
      occurs = occurs_noting unit h o asks hits;
      holds = holds_noting unit h o asks hits;
    }
news_leads unit h o (N.Fired kind target) =
    let asks = λ (i : ℕ). false in
    let hits = is_inner kind target in
    record {
      happens = happens_noting unit h o asks hits;
      before = before_noting unit h o asks hits;
      after = after_noting unit h o asks hits;
      within = within_noting unit h o asks hits;
      occurs = occurs_noting unit h o asks hits;
      holds = holds_noting unit h o asks hits;
    }
news_leads unit h o (N.Set target state) = record {
  happens = happens_setting unit h target state;
  before = before_setting unit h target state;
  after = after_setting unit h target state;
  within = within_setting unit h target state;
  occurs = occurs_setting unit h target state;
  holds = holds_setting unit h target state;
}

going_leads : (unit : TimeUnit) (h : History) → Leads unit h (going_on h) (same_step (passed_atom h.now.point))
going_leads unit h = record {
  happens = happens_going unit h;
  before = before_going unit h;
  after = after_going unit h;
  within = within_going unit h;
  occurs = occurs_going unit h;
  holds = holds_going unit h;
}

-- the point after one that is so many later
add_zero : (p : ℤ) → p ≡ p +ℤ pos 0
add_zero p = omega (arith, ints)

point_more : (p : ℤ) (n : ℕ) → (p +ℤ pos n) +ℤ pos 1 ≡ p +ℤ pos (suc n)
point_more p n = omega (arith, ints)

point_le : (p : ℤ) (n : ℕ) → (p +ℤ pos 1) ≤ℤ (p +ℤ pos (suc n))
point_le p n = omega (arith, ints)

pub point_after : (n : ℕ) (h : History) → (passing n h).now.point ≡ h.now.point +ℤ pos n
point_after zero h = add_zero h.now.point
point_after (suc n) h = ap (λ p. p +ℤ pos 1) (point_after n h) ∙ point_more h.now.point n

-- one step more
one_more : (unit : TimeUnit) (h k : History) (p f q : ℤ) → f ≤ℤ q → k.now.point ≡ q → Leads unit h k (same_step (passed_to p f q)) → Leads unit h (going_on k) (same_step (passed_to p f (q +ℤ pos 1)))
one_more unit h k p f q le here go =
    let then = going_leads unit k in
    let both = λ (a b : Atom) (e : passed_to p f q a ≡ b) (c : Atom) (g : passed_atom k.now.point b ≡ c). sym (passed_more p f q le a) ∙ (ap (passed_atom q) e ∙ (ap (λ x. passed_atom x b) (sym here) ∙ g)) in
    record {
      happens = λ e. both (happens_of unit h e) (happens_of unit k e) (go.happens e) (happens_of unit (going_on k) e) (then.happens e);
      before = λ e to. both (before_of unit h e to) (before_of unit k e to) (go.before e to) (before_of unit (going_on k) e to) (then.before e to);
      after = λ e from. both (after_of unit h e from) (after_of unit k e from) (go.after e from) (after_of unit (going_on k) e from) (then.after e from);
      within = λ e from to. both (within_of unit h e from to) (within_of unit k e from to) (go.within e from to) (within_of unit (going_on k) e from to) (then.within e from to);
      occurs = λ s from to. both (occurs_of unit h s from to) (occurs_of unit k s from to) (go.occurs s from to) (occurs_of unit (going_on k) s from to) (then.occurs s from to);
      holds = λ s. both (holds_of unit h s) (holds_of unit k s) (go.holds s) (holds_of unit (going_on k) s) (then.holds s);
    }

-- any number of points but none goes by
pub passing_leads : (unit : TimeUnit) (h : History) (n : ℕ) → Leads unit h (passing (suc n) h) (same_step (passed_to h.now.point (h.now.point +ℤ pos 1) (h.now.point +ℤ pos (suc n))))
passing_leads unit h zero =
    let p = h.now.point in
    let f = p +ℤ pos 1 in
    let then = going_leads unit h in
    record {
      happens = λ e. passed_one p f (happens_of unit h e) ∙ then.happens e;
      before = λ e to. passed_one p f (before_of unit h e to) ∙ then.before e to;
      after = λ e from. passed_one p f (after_of unit h e from) ∙ then.after e from;
      within = λ e from to. passed_one p f (within_of unit h e from to) ∙ then.within e from to;
      occurs = λ s from to. passed_one p f (occurs_of unit h s from to) ∙ then.occurs s from to;
      holds = λ s. passed_one p f (holds_of unit h s) ∙ then.holds s;
    }
passing_leads unit h (suc n) =
    let p = h.now.point in
    subst (λ q. Leads unit h (passing (suc (suc n)) h) (same_step (passed_to p (p +ℤ pos 1) q))) (point_more p (suc n))
    (one_more unit h (passing (suc n) h) p (p +ℤ pos 1) (p +ℤ pos (suc n)) (point_le p n) (point_after (suc n) h) (passing_leads unit h n))
