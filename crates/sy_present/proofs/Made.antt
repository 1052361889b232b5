-- What is kept of a deed at its start, and what is written over as much of the same deed.
use Rattle.std.proofs.Common.{◌≡◌, ℕ, pos, ◌+ℤ◌, List, [], ◌∷◌, map, Option, Some, None, option_map, slice_get, refl, sym, ◌∙◌, ap, arith}
use Rattle.std.proofs.lemmas.Int.{ints}
use Rattle.std.proofs.lemmas.Option.{slice_get-map}
use Rattle.sy_core.specs.declared.state.StateOf.TheVariants as S
use Rattle.sy_core.specs.declared.position.Position.{Position}
use Rattle.sy_core.specs.declared.deed.Deed.{Deed}
use Rattle.sy_core.specs.declared.happening.Happening.{Happening}
use Rattle.sy_core.specs.Chronicle.{first_state}
use Rattle.sy_quiet.specs.Histories.{History, quiet, history_at}
use Rattle.sy_atoms.specs.Histories.{first_history}
use Rattle.sy_prop.specs.Standing.{StandsFor as LatchesStand}
use Rattle.sy_present.specs.declared.place.Place.{Place}
use Rattle.sy_present.specs.declared.present.Present.{Present}
use Rattle.sy_present.specs.Standing.{IsKeptAt, StandsFor}
use Rattle.sy_present.specs.Machine.Fresh.{fresh_place}

pub fresh_forms : (ps : List Position) → map (λ (place : Place). place.form) (map fresh_place ps) ≡ map (λ (p : Position). p.form) ps
fresh_forms [] = refl
fresh_forms (p ∷ ps) = ap (λ l. p.form ∷ l) (fresh_forms ps)

-- a fresh place is that of its position at start
kept_at_start : (deed : Deed) (narrative : List Happening) (ps : List Position) (i : ℕ) (place : Place) → slice_get (map fresh_place ps) i ≡ Some place → IsKeptAt place deed narrative 0 i
kept_at_start deed narrative ps i place is = at (slice_get ps i) (sym (slice_get-map fresh_place ps i) ∙ is)
  where
    at : (o : Option Position) → option_map fresh_place o ≡ Some place → IsKeptAt place deed narrative 0 i
    at None e = cc
    at (Some p) e =
        let fresh : fresh_place p ≡ place = cc in
        record {
          state = sym (ap (λ (x : Place). x.state) fresh);
          violated = sym (ap (λ (x : Place). x.violated) fresh);
          exerted = sym (ap (λ (x : Place). x.exerted) fresh);
        }

start_is : (deed : Deed) (narrative : List Happening) → first_history deed.start ≡ history_at deed narrative 0
start_is deed narrative =
    let here : deed.start ≡ deed.start +ℤ pos 0 = omega (arith, ints) in
    λ j. record { before = []; now = quiet (here j) first_state; next = first_state }

-- with the contract in effect and fresh places
pub stands_at_start : (present : Present) (deed : Deed) (narrative : List Happening) → present.contract ≡ S.InEffect → present.places.items ≡ map fresh_place deed.positions → LatchesStand present.latches deed (first_history deed.start) → StandsFor present deed narrative 0
stands_at_start present deed narrative contract places latches = record {
  contract = contract;
  places = λ i place is. kept_at_start deed narrative deed.positions i place (sym (ap (λ l. slice_get l i) places) ∙ is);
  told = record {
    history = first_history deed.start;
    stand = latches;
    behind = 0;
    reach = start_is deed narrative;
    verdicts = tt;
  };
}

-- with the same state of the contract, the same places and latches that stand for the same
pub copied_stands : (old new : Present) (deed : Deed) (narrative : List Happening) (n : ℕ) → new.contract ≡ old.contract → new.places.items ≡ old.places.items → ((h : History) → LatchesStand old.latches deed h → LatchesStand new.latches deed h) → StandsFor old deed narrative n → StandsFor new deed narrative n
copied_stands old new deed narrative n contract places latches stands = record {
  contract = contract ∙ stands.contract;
  places = λ i place is. stands.places i place (sym (ap (λ l. slice_get l i) places) ∙ is);
  told = record {
    history = stands.told.history;
    stand = latches stands.told.history stands.told.stand;
    behind = stands.told.behind;
    reach = stands.told.reach;
    verdicts = stands.told.verdicts;
  };
}
