-- What a position has once the narrative exerts one.
use Rattle.std.specs.Prelude.{ℕ, zero, suc, true, List, [], ◌∷◌}
use Rattle.sy_present.specs.declared.place.Place.{Place}

-- the narrative exerts it at the present point
abbrev pub asked : Place → Place
asked place = record {
  form = place.form;
  state = place.state;
  violated = place.violated;
  exerted = place.exerted;
  asked = true;
  done = place.done;
  fired = place.fired;
}

-- the narrative exerts the position with this number, if there is one
abbrev pub asking : ℕ → List Place → List Place
asking i [] = []
asking zero (place ∷ places) = asked place ∷ places
asking (suc i) (place ∷ places) = place ∷ asking i places
