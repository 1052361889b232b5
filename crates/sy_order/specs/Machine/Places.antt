-- The places of positions among the nodes.
use Rattle.std.specs.Prelude.{◌≡◌, ◌≤◌, ⊤, ℕ, ◌+◌, List, [], ◌∷◌, map, length, Option, Some, None, unwrap_or, ◌*◌, ◌<◌}
use Rattle.sy_words.specs.declared.form.Form.{Form}
use Rattle.sy_words.specs.declared.form.Form.TheVariants.{Obligation, Surviving, Power}
use Rattle.sy_core.specs.Prerequisites.{Node, Exert, Trig, Act, End, nodes_of}
use Rattle.sy_order.specs.declared.index.Place.{Place}
use Rattle.sy_order.specs.Nodes.{nodes_from, nodes_by, number_by}

-- the forms at the places
abbrev pub forms_in : List Place → List Form
forms_in places = map (λ place. place.form) places

-- each place's first node comes after those of the places before it, of which the first has this number
abbrev pub AreFirst : ℕ → List Place → Type 0
AreFirst number [] = ⊤
AreFirst number (place ∷ places) = (place.first ≡ number) × AreFirst (number + length (nodes_of place.form 0)) places

-- the nodes are those of the positions at the places, and each place has the number of its first
pub record AreNumbered (places : List Place) (nodes : List Node) : Type 0 where
  pub few : length places ≤ 500
  pub nodes_are : nodes ≡ nodes_from 0 (forms_in places)
  pub firsts_are : AreFirst 0 places

-- the number of the exertion at a first number
abbrev pub exert_at : Form → ℕ → Option ℕ
exert_at Obligation first = None
exert_at Surviving first = None
exert_at Power first = Some first

-- the number of the creation at a first number
abbrev pub trig_at : Form → ℕ → ℕ
trig_at Obligation first = first
trig_at Surviving first = first
trig_at Power first = first + 1

abbrev pub exert_number : Place → Option ℕ
exert_number place = exert_at place.form place.first

abbrev pub trig_number : Place → ℕ
trig_number place = trig_at place.form place.first

-- the numbers of the nodes of position number i are those that its place gives; where it has none, each is the count of nodes
abbrev pub IsPlaceOf : List Form → ℕ → Option Place → Type 0
IsPlaceOf forms i None =
    (number_by forms (Exert i) ≡ length (nodes_by forms)) × (number_by forms (Trig i) ≡ length (nodes_by forms))
    × (number_by forms (Act i) ≡ length (nodes_by forms)) × (number_by forms (End i) ≡ length (nodes_by forms))
IsPlaceOf forms i (Some place) =
    (number_by forms (Exert i) ≡ unwrap_or (exert_number place) (length (nodes_by forms))) × (number_by forms (Trig i) ≡ trig_number place)
    × (number_by forms (Act i) ≡ trig_number place + 1) × (number_by forms (End i) ≡ trig_number place + 2) × (place.first ≤ 4 * i) × (i < 500)
