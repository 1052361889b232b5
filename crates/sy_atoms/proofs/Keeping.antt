-- What is kept goes on with the history.
use Rattle.std.proofs.Common.{◌≡◌, ℕ, zero, suc, ℤ, pos, ◌+ℤ◌, ◌*◌, ◌/◌, ◌<ℤ◌, ◌≤ℤ◌, Bool, true, false, ◌&&◌, ◌||◌, List, [], ◌∷◌, ◌++◌, Option, Some, None, refl, sym, ◌∙◌, ap, subst, int_lt, int_le, if◌then◌else◌, arith}
use Rattle.std.proofs.lemmas.Int.{ints}
use Rattle.std.specs.List.{list_any}
use Rattle.std.specs.Option.{option_map}
use Rattle.std.proofs.lemmas.List.Folds.{list_any-append}
use Rattle.sy_base.specs.declared.time.TimeUnit.{TimeUnit}
use Rattle.sy_base.specs.declared.time.Duration.{Duration}
use Rattle.sy_base.specs.Measures.{added, minutes_of_measure}
use Rattle.sy_base.specs.Points.{minutes_of_unit}
use Rattle.sy_core.specs.declared.kind.Target.{Target}
use Rattle.sy_core.specs.declared.state.StateOf.{StateOf}
use Rattle.sy_core.specs.declared.event.Ev.{Ev}
use Rattle.sy_core.specs.declared.date_term.Base.{Base}
use Rattle.sy_core.specs.declared.date_term.Base.TheVariants.{Fixed, First}
use Rattle.sy_core.specs.declared.date_term.DateTerm.{DateTerm}
use Rattle.sy_core.specs.declared.proposition.Situation.{Situation}
use Rattle.sy_core.specs.Mentions.{same_target}
use Rattle.sy_core.specs.Moments.{Moment, first_point, base_value, all_added, date_value}
use Rattle.sy_atoms.specs.declared.sight.Sight.{Sight}
use Rattle.sy_atoms.specs.declared.due.Due.{Due}
use Rattle.sy_atoms.specs.declared.look.Look.{Look}
use Rattle.sy_atoms.specs.Machine.Windows.{from_on, before_date, after_date, known, learned}
use Rattle.sy_quiet.specs.Histories.{History, moments, with_more, noting, setting, quiet, going_on, passing}
use Rattle.sy_atoms.specs.Histories.{AllUnder, IsOrderly}
use Rattle.sy_atoms.specs.Machine.Told.{begins}
use Rattle.sy_atoms.specs.Machine.Kept.{sight_of, noted_sight, passed_sight, due_of, learned_due, said_of, look_of, set_look, passed_look}

later_point : (u p : ℤ) → u <ℤ p → u <ℤ (p +ℤ pos 1)
later_point u p h = omega (arith, ints)

next_one : (p : ℤ) → p <ℤ (p +ℤ pos 1)
next_one p = omega (arith, ints)

under_and_one : (p : ℤ) (ms : List Moment) (m : Moment) → AllUnder p ms → m.point ≡ p → AllUnder (p +ℤ pos 1) (ms ++ m ∷ [])
under_and_one p [] m h e = (subst (λ q. q <ℤ (p +ℤ pos 1)) (sym e) (next_one p), tt)
under_and_one p (x ∷ ms) m h e = (later_point x.point p h.0, under_and_one p ms m h.1 e)

pub orderly_noting : (asks : ℕ → Bool) (hits : Ev → Bool) (h : History) → IsOrderly h → IsOrderly (noting asks hits h)
orderly_noting asks hits h o = o

pub orderly_going : (h : History) → IsOrderly h → IsOrderly (going_on h)
orderly_going h o = under_and_one h.now.point h.before h.now o refl

pub orderly_passing : (n : ℕ) (h : History) → IsOrderly h → IsOrderly (passing n h)
orderly_passing zero h o = o
orderly_passing (suc n) h o = orderly_going (passing n h) (orderly_passing n h o)

-- points that count alike give the same
pub any_alike : (test : Moment → Bool) (counts other : ℤ → Bool) (p : ℤ) (ms : List Moment) → AllUnder p ms → ((u : ℤ) → u <ℤ p → counts u ≡ other u) → list_any (λ m. test m && counts m.point) ms ≡ list_any (λ m. test m && other m.point) ms
any_alike test counts other p [] under h = refl
any_alike test counts other p (m ∷ ms) under h =
    let a = h m.point under.0 in
    let b = any_alike test counts other p ms under.1 h in
    λ j. (test m && a j) || b j

pub any_last : (test : Moment → Bool) (ms : List Moment) (m : Moment) → list_any test (ms ++ m ∷ []) ≡ (list_any test ms || test m)
any_last test ms m = list_any-append test ms (m ∷ []) ∙ ap (λ b. list_any test ms || b) (or_false (test m))
  where
    or_false : (b : Bool) → (b || false) ≡ b
    or_false true = refl
    or_false false = refl

-- a date that comes to be known isn't before the point at which it does
not_before : (p d u : ℤ) → p ≤ℤ d → u <ℤ p → int_le d u ≡ false
not_before p d u h lt = grind (arith, ints)

still_under : (p d u : ℤ) → p ≤ℤ d → u <ℤ p → int_lt u d ≡ true
still_under p d u h lt = grind (arith, ints)

not_past : (p d u : ℤ) → p ≤ℤ d → u <ℤ p → int_lt d u ≡ false
not_past p d u h lt = grind (arith, ints)

pub from_same : (o : Option ℤ) (hit : Bool) (d p u : ℤ) → p ≤ℤ d → u <ℤ p → from_on o u ≡ from_on (known o (learned hit d)) u
from_same (Some x) hit d p u le lt = refl
from_same None true d p u le lt = sym (not_before p d u le lt)
from_same None false d p u le lt = refl

pub before_same : (o : Option ℤ) (hit : Bool) (d p u : ℤ) → p ≤ℤ d → u <ℤ p → before_date o u ≡ before_date (known o (learned hit d)) u
before_same (Some x) hit d p u le lt = refl
before_same None true d p u le lt = sym (still_under p d u le lt)
before_same None false d p u le lt = refl

pub after_same : (o : Option ℤ) (hit : Bool) (d p u : ℤ) → p ≤ℤ d → u <ℤ p → after_date o u ≡ after_date (known o (learned hit d)) u
after_same (Some x) hit d p u le lt = refl
after_same None true d p u le lt = sym (not_past p d u le lt)
after_same None false d p u le lt = refl

-- durations lead to no earlier point
adds : (p : ℤ) (n : ℕ) → p ≤ℤ (p +ℤ pos n)
adds p n = omega (arith, ints)

le_trans : (a b c : ℤ) → a ≤ℤ b → b ≤ℤ c → a ≤ℤ c
le_trans a b c h k = omega (arith, ints)

le_itself : (a : ℤ) → a ≤ℤ a
le_itself a = omega (arith, ints)

pub sum_is_not_before : (unit : TimeUnit) (p : ℤ) (ds : List Duration) → p ≤ℤ all_added unit p ds
sum_is_not_before unit p [] = le_itself p
sum_is_not_before unit p (d ∷ ds) =
    le_trans p (added unit p d) (all_added unit (added unit p d) ds)
    (adds p (d.count * (minutes_of_measure d.measure / minutes_of_unit unit)))
    (sum_is_not_before unit (added unit p d) ds)

-- the value of a date term
first_more : (e : Ev) (asks : ℕ → Bool) (hits : Ev → Bool) (ms : List Moment) (m : Moment) → first_point e (ms ++ with_more asks hits m ∷ []) ≡ known (first_point e (ms ++ m ∷ [])) (learned (hits e) m.point)
first_more e asks hits [] m = at (m.seen e) (hits e)
  where
    at : (a b : Bool) → (if a || b then Some m.point else None) ≡ known (if a then Some m.point else None) (learned b m.point)
    at true b = refl
    at false true = refl
    at false false = refl
first_more e asks hits (x ∷ ms) m = at (x.seen e) (first_more e asks hits ms m)
  where
    at : (a : Bool) → first_point e (ms ++ with_more asks hits m ∷ []) ≡ known (first_point e (ms ++ m ∷ [])) (learned (hits e) m.point) → (if a then Some x.point else first_point e (ms ++ with_more asks hits m ∷ [])) ≡ known (if a then Some x.point else first_point e (ms ++ m ∷ [])) (learned (hits e) m.point)
    at true later = refl
    at false later = later

known_map : (f : ℤ → ℤ) (o : Option ℤ) (hit : Bool) (d : ℤ) → option_map f (known o (learned hit d)) ≡ known (option_map f o) (learned hit (f d))
known_map f (Some x) hit d = refl
known_map f None true d = refl
known_map f None false d = refl

pub date_more : (unit : TimeUnit) (term : DateTerm) (asks : ℕ → Bool) (hits : Ev → Bool) (ms : List Moment) (m : Moment) → date_value unit term (ms ++ with_more asks hits m ∷ []) ≡ known (date_value unit term (ms ++ m ∷ [])) (learned (begins hits term.base) (all_added unit m.point term.plus))
date_more unit term asks hits ms m = at term.base
  where
    at : (base : Base) → option_map (λ p. all_added unit p term.plus) (base_value base (ms ++ with_more asks hits m ∷ [])) ≡ known (option_map (λ p. all_added unit p term.plus) (base_value base (ms ++ m ∷ []))) (learned (begins hits base) (all_added unit m.point term.plus))
    at (Fixed d) = refl
    at (First e) = ap (option_map (λ p. all_added unit p term.plus)) (first_more e asks hits ms m) ∙ known_map (λ p. all_added unit p term.plus) (first_point e (ms ++ m ∷ [])) (hits e) m.point

first_quiet : (e : Ev) (point : ℤ) (state : Target → StateOf) (ms : List Moment) → first_point e (ms ++ quiet point state ∷ []) ≡ first_point e ms
first_quiet e point state [] = refl
first_quiet e point state (x ∷ ms) = ap (λ o. if x.seen e then Some x.point else o) (first_quiet e point state ms)

pub date_quiet : (unit : TimeUnit) (term : DateTerm) (point : ℤ) (state : Target → StateOf) (ms : List Moment) → date_value unit term (ms ++ quiet point state ∷ []) ≡ date_value unit term ms
date_quiet unit term point state ms = at term.base
  where
    at : (base : Base) → option_map (λ p. all_added unit p term.plus) (base_value base (ms ++ quiet point state ∷ [])) ≡ option_map (λ p. all_added unit p term.plus) (base_value base ms)
    at (Fixed d) = refl
    at (First e) = ap (option_map (λ p. all_added unit p term.plus)) (first_quiet e point state ms)

module _ (unit : TimeUnit) (h : History) where
  -- a date
  pub due_noting : (term : DateTerm) (asks : ℕ → Bool) (hits : Ev → Bool) → learned_due (learned (begins hits term.base) (all_added unit h.now.point term.plus)) (due_of unit term h) ≡ due_of unit term (noting asks hits h)
  due_noting term asks hits = let v = date_more unit term asks hits h.before h.now in λ j. record { value = sym v j }

  pub due_going : (term : DateTerm) → due_of unit term (going_on h) ≡ due_of unit term h
  due_going term = let v = date_quiet unit term (h.now.point +ℤ pos 1) h.next (moments h) in λ j. record { value = v j }

  -- an event, where the points that count before now are the same
  pub sight_noting : (e : Ev) (asks : ℕ → Bool) (hits : Ev → Bool) (counts other : ℤ → Bool) → IsOrderly h → ((u : ℤ) → u <ℤ h.now.point → counts u ≡ other u) → noted_sight (hits e) (sight_of counts e h) ≡ sight_of other e (noting asks hits h)
  sight_noting e asks hits counts other o same = let p = any_alike (λ m. m.seen e) counts other h.now.point h.before o same in λ j. record { past = p j; here = h.now.seen e || hits e }

  pub sight_going : (e : Ev) (counts : ℤ → Bool) → passed_sight (counts h.now.point) (sight_of counts e h) ≡ sight_of counts e (going_on h)
  sight_going e counts = let p = any_last (λ m. m.seen e && counts m.point) h.before h.now in λ j. record { past = sym p j; here = false }

  pub sight_tells : (e : Ev) (counts : ℤ → Bool) → (list_any (λ m. m.seen e && counts m.point) h.before || (h.now.seen e && counts h.now.point)) ≡ list_any (λ m. m.seen e && counts m.point) (moments h)
  sight_tells e counts = sym (any_last (λ m. m.seen e && counts m.point) h.before h.now)

  -- a situation
  pub look_setting : (s : Situation) (target : Target) (state : StateOf) → set_look (if same_target target s.target then Some (said_of s state) else None) (look_of s h) ≡ look_of s (setting target state h)
  look_setting s target state = at (same_target target s.target)
    where
      at : (b : Bool) → ◌≡◌ {A = Look} (set_look (if b then Some (said_of s state) else None) (look_of s h)) (record { here = said_of s (h.now.state s.target); later = said_of s (if b then state else h.next s.target) })
      at true = refl
      at false = refl

  pub look_going : (s : Situation) → passed_look (look_of s h) ≡ look_of s (going_on h)
  look_going s = refl

-- a date that isn't told stays
pub none_learned : (d : Due) → learned_due None d ≡ d
none_learned d = at d.value
  where
    at : (o : Option ℤ) → ◌≡◌ {A = Due} (record { value = known o None }) (record { value = o })
    at None = refl
    at (Some x) = refl

-- an event that doesn't happen stays as it is
pub none_noted : (s : Sight) → noted_sight false s ≡ s
none_noted s = at s.here
  where
    at : (b : Bool) → ◌≡◌ {A = Sight} (record { past = s.past; here = b || false }) (record { past = s.past; here = b })
    at true = refl
    at false = refl
