-- A history: what was seen, fired and set of a narrative so far.
-- It has the moments gone by, the present one with what was told of it so far, and the states that count from the next point on.
use Rattle.std.specs.Prelude.{ℕ, zero, suc, ℤ, pos, ◌+ℤ◌, Bool, false, ◌||◌, List, if◌then◌else◌}
use Rattle.sy_words.specs.declared.kind.Kind.{Kind}
use Rattle.sy_core.specs.declared.kind.Target.{Target}
use Rattle.sy_core.specs.declared.state.StateOf.{StateOf}
use Rattle.sy_core.specs.declared.event.Ev.{Ev}
use Rattle.sy_core.specs.declared.event.Ev.TheVariants.{Outer, Inner}
use Rattle.sy_core.specs.declared.deed.Deed.{Deed}
use Rattle.sy_core.specs.declared.happening.What.{What}
use Rattle.sy_core.specs.declared.happening.Happening.{Happening}
use Rattle.sy_core.specs.Matching.{matches}
use Rattle.sy_core.specs.Mentions.{same_target}
use Rattle.sy_core.specs.Moments.{Moment, up_to}
use Rattle.sy_core.specs.Chronicle.{exerts, chronicle, state_at}
use Rattle.sy_passes.specs.Passes.{same_event}

pub record History : Type 0 where
  pub before : List Moment
  pub now : Moment
  pub next : Target → StateOf

-- the moments up to now
abbrev pub moments : History → List Moment
moments h = up_to h.now h.before

-- a moment with more that happens there: exertions that it has, and events that it is one of
abbrev pub with_more : (ℕ → Bool) → (Ev → Bool) → Moment → Moment
with_more asks hits m = record {
  point = m.point;
  asked = λ i. m.asked i || asks i;
  seen = λ e. m.seen e || hits e;
  state = m.state;
}

-- more happens now
abbrev pub noting : (ℕ → Bool) → (Ev → Bool) → History → History
noting asks hits h = record { before = h.before; now = with_more asks hits h.now; next = h.next }

-- the narrative has this now
abbrev pub seeing : What → History → History
seeing what h = noting (λ i. exerts i what) (λ e. matches e what) h

-- the event is this internal one
abbrev pub is_inner : Kind → Target → Ev → Bool
is_inner kind target (Outer event guards) = false
is_inner kind target (Inner k x) = same_event (kind, target) (k, x)

-- this internal event happens now
abbrev pub firing : Kind → Target → History → History
firing kind target h = noting (λ i. false) (is_inner kind target) h

-- the target is in this state from the next point on
abbrev pub setting : Target → StateOf → History → History
setting target state h = record { before = h.before; now = h.now; next = λ x. if same_target target x then state else h.next x }

-- a point at which nothing happens
abbrev pub quiet : ℤ → (Target → StateOf) → Moment
quiet point state = record { point = point; asked = λ i. false; seen = λ e. false; state = state }

-- the next point begins
abbrev pub going_on : History → History
going_on h = record { before = moments h; now = quiet (h.now.point +ℤ pos 1) h.next; next = h.next }

-- so many points are passed over
abbrev pub passing : ℕ → History → History
passing zero h = h
passing (suc n) h = going_on (passing n h)

-- the history of a narrative as the n-th point after start begins
abbrev pub history_at : Deed → List Happening → ℕ → History
history_at deed narrative n = record {
  before = chronicle deed narrative n;
  now = quiet (deed.start +ℤ pos n) (state_at deed narrative n);
  next = state_at deed narrative n;
}
