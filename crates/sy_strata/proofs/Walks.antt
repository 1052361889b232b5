-- The way from the least node that remains, to where it comes a second time.
use Rattle.std.proofs.Common.{◌≡◌, ℕ, zero, suc, ◌<◌, ◌≤◌, ◌+◌, ◌==◌, Bool, true, false, not, ◌||◌, ◌&&◌, List, [], ◌∷◌, ◌++◌, length, drop, set, get_or, replicate, cond, refl, sym, ◌∙◌, ap, subst, arith, get_or-set_same, get_or-set_other, if◌then◌else◌}
use Rattle.std.specs.Prelude.{IfSome}
use Rattle.std.specs.Option.{is_none}
use Rattle.std.specs.declared.option.Option.{Option}
use Rattle.std.specs.declared.option.Option.TheVariants.{Some, None}
use Rattle.std.specs.List.{All, find, count_by, position_or_len}
use Rattle.std.proofs.lemmas.Bool.{both_ways, or_left}
use Rattle.std.proofs.lemmas.Bool.Decides.{Decides-eqb}
use Rattle.std.proofs.lemmas.List.{length-set, length-replicate, get_or-replicate, get_or_read}
use Rattle.std.proofs.lemmas.List.Elements.{All-from_get_or, All-get_or}
use Rattle.std.proofs.lemmas.List.Sums.{sum_by-cons, sum_by-set, prefix_len-le-length}
use Rattle.sy_core.specs.Orders.{numbers_below, is_listed, order, least_remaining, least_need, from_first, cycle_on, named_cycle}
use Rattle.sy_strata.specs.declared.edge.Edge.{Edge}
use Rattle.sy_strata.specs.Edges.{needs_by}
use Rattle.sy_strata.specs.Machine.Ways.{MarksRest, AreLeast, least_marked}
use Rattle.sy_strata.proofs.Finding.{IsLeast, found_least, found_same}
use Rattle.sy_strata.proofs.Tallies.{listed_and_one}

-- how many nodes haven't come
abbrev pub not_come : List (Option ℕ) → ℕ
not_come comings = count_by is_none comings

-- the first place of a node on a way
abbrev pub ComesAt : List ℕ → ℕ → Option ℕ → Type 0
ComesAt way node None = is_listed way node ≡ false
ComesAt way node (Some place) = (is_listed way node ≡ true) × (position_or_len (λ other. other == node) way ≡ place)

pub record IsWalking (next : List (Option ℕ)) (count : ℕ) (first : Option ℕ) (way : List ℕ) (comings : List (Option ℕ)) (coming : Option ℕ) : Type 0 where
  pub comings_length : length comings ≡ count
  pub comings_are : (k : ℕ) → k < count → ComesAt way k (get_or comings k None)
  pub within : IfSome coming (λ node. node < count)
  pub leads : cycle_on (λ node. get_or next node None) (suc (not_come comings)) way coming ≡ cycle_on (λ node. get_or next node None) (suc count) [] first

first_new : (way : List ℕ) (k : ℕ) → is_listed way k ≡ false → position_or_len (λ other. other == k) (way ++ k ∷ []) ≡ length way
first_new [] k out = ap (λ b. cond (not b) (1 + 0) 0) ((Decides-eqb k k).1 refl)
first_new (x ∷ xs) k out = at (x == k) out (first_new xs k)
  where
    at : (b : Bool) → (b || is_listed xs k) ≡ false → (is_listed xs k ≡ false → position_or_len (λ other. other == k) (xs ++ k ∷ []) ≡ length xs) → cond (not b) (1 + position_or_len (λ other. other == k) (xs ++ k ∷ [])) 0 ≡ suc (length xs)
    at true h later = cc
    at false h later = let e = later h in omega (arith, e)

first_stays : (way : List ℕ) (k : ℕ) (more : List ℕ) → is_listed way k ≡ true → position_or_len (λ other. other == k) (way ++ more) ≡ position_or_len (λ other. other == k) way
first_stays [] k more there = cc
first_stays (x ∷ xs) k more there = at (x == k) there (first_stays xs k more)
  where
    at : (b : Bool) → (b || is_listed xs k) ≡ true → (is_listed xs k ≡ true → position_or_len (λ other. other == k) (xs ++ more) ≡ position_or_len (λ other. other == k) xs) → cond (not b) (1 + position_or_len (λ other. other == k) (xs ++ more)) 0 ≡ cond (not b) (1 + position_or_len (λ other. other == k) xs) 0
    at true h later = refl
    at false h later = ap (λ n. 1 + n) (later h)

all_to_come : (count : ℕ) → not_come (replicate count None) ≡ count
all_to_come zero = refl
all_to_come (suc n) =
    let a : not_come (None ∷ replicate n None) ≡ 1 + not_come (replicate n None) = sum_by-cons (λ o. cond (is_none o) 1 0) None (replicate n None) in
    let later = all_to_come n in
    omega (arith, a, later)

-- at first no node has come
pub walk_begins : (next : List (Option ℕ)) (count : ℕ) (first : Option ℕ) → IfSome first (λ node. node < count) → IsWalking next count first [] (replicate count None) first
walk_begins next count first within = record {
  comings_length = length-replicate count None;
  comings_are = λ k lt. subst (ComesAt [] k) (sym (get_or-replicate count k None None lt)) refl;
  within = within;
  leads = ap (λ n. cycle_on (λ node. get_or next node None) (suc n) [] first) (all_to_come count);
}

module _ (next : List (Option ℕ)) (count : ℕ) (first : Option ℕ) (way : List ℕ) (comings : List (Option ℕ)) (node : ℕ) (walking : IsWalking next count first way comings (Some node)) where
  -- the place of the node on the way
  pub place_within : (place : ℕ) → get_or comings node None ≡ Some place → place ≤ length way
  place_within place e =
      let at = subst (ComesAt way node) e (walking.comings_are node walking.within) in
      let low : position_or_len (λ other. other == node) way ≤ length way = prefix_len-le-length (λ other. not (other == node)) way in
      omega (arith, at.1, low)

  -- the node comes a second time
  pub walk_ends : (place : ℕ) → get_or comings node None ≡ Some place → drop place way ≡ cycle_on (λ node. get_or next node None) (suc count) [] first
  walk_ends place e =
      let at = subst (ComesAt way node) e (walking.comings_are node walking.within) in
      let a : drop place way ≡ from_first node way = ap (λ n. drop n way) (sym at.1) in
      let b : from_first node way ≡ cycle_on (λ node. get_or next node None) (suc (not_come comings)) way (Some node) =
      ap (λ b. if b then from_first node way else cycle_on (λ node. get_or next node None) (not_come comings) (way ++ node ∷ []) (get_or next node None)) (sym at.0) in
      a ∙ (b ∙ walking.leads)

  -- the node comes for the first time
  pub walk_goes_on : get_or comings node None ≡ None → All (λ o. IfSome o (λ n. n < count)) next → node < length next → IsWalking next count first (way ++ node ∷ []) (set comings node (Some (length way))) (get_or next node None)
  walk_goes_on e nexts lt = record {
    comings_length = length-set comings node (Some (length way)) ∙ walking.comings_length;
    comings_are = λ k within. at k within (node == k) refl;
    within = All-get_or (λ o. IfSome o (λ n. n < count)) next node None lt nexts;
    leads = step ∙ walking.leads;
  }
    where
      out : is_listed way node ≡ false
      out = subst (ComesAt way node) e (walking.comings_are node walking.within)

      one_fewer : not_come comings ≡ suc (not_come (set comings node (Some (length way))))
      one_fewer =
          let a = sum_by-set (λ o. cond (is_none o) 1 0) comings node (Some (length way)) None (omega (arith, walking.comings_length, walking.within)) in
          let b = ap (λ (o : Option ℕ). cond {A = ℕ} (is_none o) 1 0) e in
          omega (arith, a, b)

      step : cycle_on (λ node. get_or next node None) (suc (not_come (set comings node (Some (length way))))) (way ++ node ∷ []) (get_or next node None) ≡ cycle_on (λ node. get_or next node None) (suc (not_come comings)) way (Some node)
      step =
          ap (λ n. cycle_on (λ node. get_or next node None) n (way ++ node ∷ []) (get_or next node None)) (sym one_fewer) ∙ ap (λ b. if b then from_first node way else cycle_on (λ node. get_or next node None) (not_come comings) (way ++ node ∷ []) (get_or next node None)) (sym out)

      stays : (k : ℕ) → (node == k) ≡ false → (o : Option ℕ) → ComesAt way k o → ComesAt (way ++ node ∷ []) k o
      stays k other None h = listed_and_one way node k ∙ (ap (λ b. b || (node == k)) h ∙ other)
      stays k other (Some place) h =
          (listed_and_one way node k ∙ or_left (is_listed way k) (node == k) h.0, first_stays way k (node ∷ []) h.0 ∙ h.1)

      or_this : (a b : Bool) → b ≡ true → (a || b) ≡ true
      or_this true b h = refl
      or_this false b h = h

      here : ComesAt (way ++ node ∷ []) node (Some (length way))
      here = (listed_and_one way node node ∙ or_this (is_listed way node) (node == node) ((Decides-eqb node node).1 refl), first_new way node out)

      at : (k : ℕ) → k < count → (b : Bool) → (node == k) ≡ b → ComesAt (way ++ node ∷ []) k (get_or (set comings node (Some (length way))) k None)
      at k within true same =
          subst (λ n. ComesAt (way ++ node ∷ []) n (get_or (set comings node (Some (length way))) n None)) ((Decides-eqb node k).0 same) (subst (ComesAt (way ++ node ∷ []) node) (sym (get_or-set_same comings node (Some (length way)) None (omega (arith, walking.comings_length, walking.within)))) here)
      at k within false other =
          let ne : k ≡ node → ⊥ = λ e. both_ways (node == k) other ((Decides-eqb node k).1 (sym e)) in
          subst (ComesAt (way ++ node ∷ []) k) (sym (get_or-set_other comings node k (Some (length way)) None ne)) (stays k other (get_or comings k None) (walking.comings_are k within))

  -- one fewer is still to come
  pub fewer_to_come : get_or comings node None ≡ None → not_come (set comings node (Some (length way))) < not_come comings
  fewer_to_come e =
      let a = sum_by-set (λ o. cond (is_none o) 1 0) comings node (Some (length way)) None (omega (arith, walking.comings_length, walking.within)) in
      let b = ap (λ (o : Option ℕ). cond {A = ℕ} (is_none o) 1 0) e in
      omega (arith, a, b)

-- the same, by what was read of the table
module _ (next : List (Option ℕ)) (count : ℕ) (first : Option ℕ) (way : List ℕ) (comings : List (Option ℕ)) (coming : Option ℕ) (node : ℕ) (read : Option ℕ) (walking : IsWalking next count first way comings coming) (is : coming ≡ Some node) (value : read ≡ get_or comings node read) where
  at_node : IsWalking next count first way comings (Some node)
  at_node = subst (IsWalking next count first way comings) is walking

  read_is : get_or comings node None ≡ read
  read_is = sym (get_or_read comings node read (omega (arith, at_node.comings_length, at_node.within)) value None)

  pub read_within : (place : ℕ) (items : List ℕ) → read ≡ Some place → items ≡ way → place ≤ length items
  read_within place items e same =
      subst (λ l. place ≤ length l) (sym same) (place_within next count first way comings node at_node place (read_is ∙ e))

  pub read_ends : (place : ℕ) (items : List ℕ) → read ≡ Some place → items ≡ way → drop place items ≡ cycle_on (λ node. get_or next node None) (suc count) [] first
  read_ends place items e same =
      ap (drop place) same ∙ walk_ends next count first way comings node at_node place (read_is ∙ e)

  pub read_goes_on : (items : List ℕ) → read ≡ None → items ≡ way → length next ≡ count → All (λ o. IfSome o (λ n. n < count)) next → IsWalking next count first (way ++ node ∷ []) (set comings node (Some (length items))) (get_or next node None)
  read_goes_on items e same long nexts =
      subst (λ l. IsWalking next count first (way ++ node ∷ []) (set comings node (Some (length l))) (get_or next node None)) (sym same) (walk_goes_on next count first way comings node at_node (read_is ∙ e) nexts (omega (arith, long, at_node.within)))

-- a way along functions that agree on the nodes
cycle_same : (f g : ℕ → Option ℕ) (count : ℕ) → ((k : ℕ) → k < count → f k ≡ g k) → ((k : ℕ) → k < count → IfSome (g k) (λ n. n < count)) → (steps : ℕ) (way : List ℕ) (coming : Option ℕ) → IfSome coming (λ n. n < count) → cycle_on f steps way coming ≡ cycle_on g steps way coming
cycle_same f g count same within steps way None h = refl
cycle_same f g count same within zero way (Some node) h = refl
cycle_same f g count same within (suc steps) way (Some node) h =
    ap (λ o. if is_listed way node then from_first node way else cycle_on f steps (way ++ node ∷ []) o) (same node h) ∙ ap (λ l. if is_listed way node then from_first node way else l) (cycle_same f g count same within steps (way ++ node ∷ []) (g node) (within node h))

-- what is found is below the count
pub found_below : (p : ℕ → Bool) (count : ℕ) → IfSome (find p (numbers_below count)) (λ n. n < count)
found_below p count = at (find p (numbers_below count)) (found_least p count)
  where
    at : (found : Option ℕ) → IsLeast p count found → IfSome found (λ n. n < count)
    at None h = tt
    at (Some k) h = h.0

module _ (edges : List Edge) (count : ℕ) (listed : List ℕ) (is : listed ≡ order (needs_by edges) count) (marks : List Bool) (rest : MarksRest count listed marks) where
  marked : (k : ℕ) → k < count → get_or marks k false ≡ not (is_listed (order (needs_by edges) count) k)
  marked k lt = rest.marks_are k lt ∙ ap (λ l. not (is_listed l k)) is

  -- the least node that is marked
  pub first_remaining : find (λ node. get_or marks node false) (numbers_below count) ≡ least_remaining (needs_by edges) count
  first_remaining = found_same (λ node. get_or marks node false) (λ node. not (is_listed (order (needs_by edges) count) node)) count marked

  -- the least need of a node that is marked
  pub least_is : (k : ℕ) → least_marked edges marks count k ≡ least_need (needs_by edges) count k
  least_is k =
      found_same (λ need. is_listed (needs_by edges k) need && get_or marks need false) (λ need. is_listed (needs_by edges k) need && not (is_listed (order (needs_by edges) count) need)) count (λ need lt. ap (λ b. is_listed (needs_by edges k) need && b) (marked need lt))

  module _ (least : List (Option ℕ)) (are : AreLeast count edges marks least) where
    -- the needs that the way follows are nodes
    pub next_below : All (λ o. IfSome o (λ n. n < count)) least
    next_below =
        All-from_get_or (λ o. IfSome o (λ n. n < count)) least None (λ k lt. subst (λ o. IfSome o (λ n. n < count)) (sym (are.least_are k (omega (arith, are.least_length, lt)))) (found_below (λ need. is_listed (needs_by edges k) need && get_or marks need false) count))

    -- the way that the tables give is the one that names the cycle
    pub cycle_is_named : (cycle : List ℕ) (first : Option ℕ) → first ≡ find (λ node. get_or marks node false) (numbers_below count) → cycle ≡ cycle_on (λ node. get_or least node None) (suc count) [] first → cycle ≡ named_cycle (needs_by edges) count
    cycle_is_named cycle first found walked =
        walked ∙ (ap (cycle_on (λ node. get_or least node None) (suc count) []) (found ∙ first_remaining) ∙ cycle_same (λ node. get_or least node None) (least_need (needs_by edges) count) count (λ k lt. are.least_are k lt ∙ least_is k) (λ k lt. found_below (λ need. is_listed (needs_by edges k) need && not (is_listed (order (needs_by edges) count) need)) count) (suc count) [] (least_remaining (needs_by edges) count) (found_below (λ node. not (is_listed (order (needs_by edges) count) node)) count))
