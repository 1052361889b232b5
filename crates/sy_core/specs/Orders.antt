-- An order of numbered nodes in which each stands after those that it needs, and the cycle where there is none.
-- The nodes are the numbers below a count. The order lists, at each place, the least node that isn't listed yet and whose needs are all
-- listed. It ends where there is none; where it then hasn't every node, the needs have a cycle. One is named: from the least node that
-- remains one goes each time to its least need that remains, until a node comes a second time. The nodes from its first coming to before its
-- second are the cycle.
use Rattle.std.specs.Prelude.{◌≡◌, ℕ, zero, suc, Bool, not, ◌&&◌, ◌==◌, List, [], ◌∷◌, ◌++◌, Option, Some, None, length, find, drop, if◌then◌else◌}
use Rattle.std.specs.List.{list_any, list_all, position_or_len}

-- the numbers below a count, ascending
abbrev pub numbers_below : ℕ → List ℕ
numbers_below zero = []
numbers_below (suc n) = numbers_below n ++ n ∷ []

-- the node is in the list
abbrev pub is_listed : List ℕ → ℕ → Bool
is_listed listed node = list_any (λ other. other == node) listed

-- the node isn't listed yet, and all that it needs is
abbrev pub is_ready : (ℕ → List ℕ) → List ℕ → ℕ → Bool
is_ready needs listed node = not (is_listed listed node) && list_all (is_listed listed) (needs node)

-- the list, with a node at its end if there is one
abbrev pub and_node : List ℕ → Option ℕ → List ℕ
and_node listed None = listed
and_node listed (Some node) = listed ++ node ∷ []

-- the list, with the least node that is ready
abbrev pub and_least : (ℕ → List ℕ) → ℕ → List ℕ → List ℕ
and_least needs count listed = and_node listed (find (is_ready needs listed) (numbers_below count))

-- the first nodes of the order, up to so many
abbrev pub first_listed : (ℕ → List ℕ) → ℕ → ℕ → List ℕ
first_listed needs count zero = []
first_listed needs count (suc n) = and_least needs count (first_listed needs count n)

-- the order of the nodes below a count, by what each needs
abbrev pub order : (ℕ → List ℕ) → ℕ → List ℕ
order needs count = first_listed needs count count

-- the needs have no cycle: every node is listed
abbrev pub IsAcyclic : (ℕ → List ℕ) → ℕ → Type 0
IsAcyclic needs count = length (order needs count) ≡ count

-- the node remains: the order doesn't list it
abbrev pub remains : (ℕ → List ℕ) → ℕ → ℕ → Bool
remains needs count node = not (is_listed (order needs count) node)

-- the least node that remains, where one does
abbrev pub least_remaining : (ℕ → List ℕ) → ℕ → Option ℕ
least_remaining needs count = find (remains needs count) (numbers_below count)

-- a node's least need that remains, where one does
abbrev pub least_need : (ℕ → List ℕ) → ℕ → ℕ → Option ℕ
least_need needs count node = find (λ need. is_listed (needs node) need && remains needs count need) (numbers_below count)

-- the nodes of a way from a node's first coming on
abbrev pub from_first : ℕ → List ℕ → List ℕ
from_first node way = drop (position_or_len (λ other. other == node) way) way

-- the cycle to which a way leads that has come through some nodes and now comes to one more, in at most so many steps from there
abbrev pub cycle_on : (ℕ → Option ℕ) → ℕ → List ℕ → Option ℕ → List ℕ
cycle_on next steps way None = []
cycle_on next zero way (Some node) = []
cycle_on next (suc steps) way (Some node) =
    if is_listed way node then from_first node way else cycle_on next steps (way ++ node ∷ []) (next node)

-- the cycle that is named; a node comes a second time after as many steps as there are nodes, or before. Without a cycle it has no node
abbrev pub named_cycle : (ℕ → List ℕ) → ℕ → List ℕ
named_cycle needs count = cycle_on (least_need needs count) (suc count) [] (least_remaining needs count)
