-- The states after a moment, and the next point.
use Rattle.std.proofs.Common.{◌≡◌, ℕ, zero, suc, ℤ, pos, ◌+ℤ◌, false, List, [], ◌∷◌, Option, Some, None, slice_get, refl, ◌∙◌, ap, arith}
use Rattle.std.proofs.lemmas.Int.{ints}
use Rattle.std.proofs.Math.Path.{fun_ext}
use Rattle.sy_words.specs.declared.form.Form.{Form}
use Rattle.sy_words.specs.declared.form.Form.TheVariants.{Obligation, Surviving, Power}
use Rattle.sy_core.specs.declared.kind.Target.{Target}
use Rattle.sy_core.specs.declared.kind.Target.TheVariants as T
use Rattle.sy_core.specs.declared.state.StateOf.{StateOf}
use Rattle.sy_core.specs.declared.state.StateOf.TheVariants as S
use Rattle.sy_core.specs.declared.position.Position.{Position}
use Rattle.sy_core.specs.declared.deed.Deed.{Deed}
use Rattle.sy_core.specs.declared.happening.What.{What}
use Rattle.sy_core.specs.declared.happening.Happening.{Happening}
use Rattle.sy_core.specs.Moments.{Moment, up_to}
use Rattle.sy_core.specs.States.{state_after}
use Rattle.sy_core.specs.Chronicle.{assuming, first_state, position_after, states_next, states_from, chronicle, state_at, moment_at}
use Rattle.sy_passes.specs.Passes.{nothing}

form_stays : (form : Form) (state : StateOf) → state_after form (λ kind. false) state ≡ state
form_stays Power state = refl
form_stays Obligation state = refl
form_stays Surviving state = refl

module _ (deed : Deed) where
  -- without events the states stay
  pub states_stay : (point : ℤ) (happenings : List What) (state : Target → StateOf) → states_next deed (assuming point happenings state nothing) ≡ state
  states_stay point happenings state = fun_ext at
    where
      of_position : (i : ℕ) (o : Option Position) → position_after (assuming point happenings state nothing) i o ≡ state (T.Position i)
      of_position i None = refl
      of_position i (Some p) = form_stays p.form (state (T.Position i))

      at : (x : Target) → states_next deed (assuming point happenings state nothing) x ≡ state x
      at T.Contract = refl
      at (T.Position i) = of_position i (slice_get deed.positions i)

  -- the states after some moments are those after the last one
  pub last_states : (state : Target → StateOf) (ms : List Moment) (m : Moment) → states_from deed state (up_to m ms) ≡ states_next deed m
  last_states state [] m = refl
  last_states state (n ∷ ms) m = last_states (states_next deed n) ms m

pub next_point : (p : ℤ) (n : ℕ) → p +ℤ pos (suc n) ≡ (p +ℤ pos n) +ℤ pos 1
next_point p n = omega (arith, ints)

-- a position that isn't there stays Null
pub null_past : (deed : Deed) (narrative : List Happening) (n i : ℕ) → slice_get deed.positions i ≡ None → state_at deed narrative n (T.Position i) ≡ S.Null
null_past deed narrative zero i none = refl
null_past deed narrative (suc n) i none =
    ap (λ s. s (T.Position i)) (last_states deed first_state (chronicle deed narrative n) (moment_at deed narrative n))
    ∙ (ap (position_after (moment_at deed narrative n) i) none ∙ null_past deed narrative n i none)
