-- Where the values of date terms stand in a table.
use Rattle.std.specs.Prelude.{ℕ, ◌+◌, ℤ, Bool, true, false, List, [], ◌∷◌, ◌++◌, Option, Some, None, slice_get, if◌then◌else◌}
use Rattle.sy_atoms.specs.declared.due.Due.{Due}
use Rattle.sy_atoms.specs.declared.atom.Atom.{Atom}
use Rattle.sy_atoms.specs.declared.atom.Atom.TheVariants as A
use Rattle.sy_prop.specs.declared.node.Node.{Node}
use Rattle.sy_prop.specs.declared.node.Node.TheVariants as N
use Rattle.sy_prop.specs.declared.terms.TermPlace.{TermPlace}

-- the dates of an atom, from left to right
abbrev pub dates_of_atom : Atom → List Due
dates_of_atom (A.Happens s) = []
dates_of_atom (A.Before s to) = to ∷ []
dates_of_atom (A.After s from) = from ∷ []
dates_of_atom (A.Within s from to) = from ∷ to ∷ []
dates_of_atom (A.Occurs l failed from to) = from ∷ to ∷ []
dates_of_atom (A.Holds l) = []

abbrev pub dates_in : Node → List Due
dates_in (N.Const b) = []
dates_in N.Not = []
dates_in (N.Both k) = []
dates_in (N.Either k) = []
dates_in (N.Atom a) = dates_of_atom a

-- the places of so many dates of a node
abbrev pub places_by : ℕ → List Due → List TermPlace
places_by n [] = []
places_by n (d ∷ []) = record { node = n; second = false } ∷ []
places_by n (d ∷ e ∷ more) = record { node = n; second = false } ∷ record { node = n; second = true } ∷ []

abbrev pub places_of : ℕ → Node → List TermPlace
places_of n node = places_by n (dates_in node)

abbrev pub places_from : ℕ → List Node → List TermPlace
places_from n [] = []
places_from n (node ∷ nodes) = places_of n node ++ places_from (n + 1) nodes

-- the value of an atom's date
abbrev pub date_of_atom : Bool → Atom → Option ℤ
date_of_atom second (A.Happens s) = None
date_of_atom second (A.Before s to) = to.value
date_of_atom second (A.After s from) = from.value
date_of_atom second (A.Within s from to) = if second then to.value else from.value
date_of_atom second (A.Occurs l failed from to) = if second then to.value else from.value
date_of_atom second (A.Holds l) = None

abbrev pub date_in : Bool → Node → Option ℤ
date_in second (N.Const b) = None
date_in second N.Not = None
date_in second (N.Both k) = None
date_in second (N.Either k) = None
date_in second (N.Atom a) = date_of_atom second a

abbrev pub date_of : Bool → Option Node → Option ℤ
date_of second None = None
date_of second (Some node) = date_in second node

-- the value that stands at a place
abbrev pub date_at : List Node → TermPlace → Option ℤ
date_at nodes place = date_of place.second (slice_get nodes place.node)

-- the value of a term by its place, where it has one
abbrev pub date_by : List Node → Option TermPlace → Option ℤ
date_by nodes None = None
date_by nodes (Some place) = date_at nodes place
