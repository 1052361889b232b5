-- The nodes of a deed: each stands once among them, and in their order each stands after those that it needs.
use Rattle.std.proofs.Common.{◌≡◌, ℕ, zero, suc, ◌+◌, ◌<◌, ◌≤◌, ◌==◌, Bool, true, false, ◌||◌, if◌then◌else◌, List, [], ◌∷◌, ◌++◌, map, ◌⊎◌, inl, inr, Option, Some, None, slice_get, length, refl, sym, ◌∙◌, ap, subst, arith, append_assoc, length-append}
use Rattle.std.specs.List.{list_any, list_all, find, position_or_len, flat_map, enumerate_from}
use Rattle.std.proofs.lemmas.Bool.Decides.{Decides-eqb}
use Rattle.std.proofs.lemmas.List.Folds.{find_at}
use Rattle.std.proofs.lemmas.Option.{slice_get-get_or, slice_get_within}
use Rattle.sy_words.specs.declared.form.Form.{Form}
use Rattle.sy_words.specs.declared.form.Form.TheVariants.{Obligation, Surviving, Power}
use Rattle.sy_core.specs.declared.position.Position.{Position}
use Rattle.sy_core.specs.declared.deed.Deed.{Deed}
use Rattle.sy_core.specs.Orders.{is_listed, order, IsAcyclic}
use Rattle.sy_core.specs.Prerequisites.{Node, Exert, Trig, Act, End, Contract, same_node, nodes_of, own_exert, node_list, nodes, number_of, needs, numbered_needs, numbered_needs_of, nodes_at, nodes_in_order}
use Rattle.sy_core.proofs.Members.{Among}
use Rattle.sy_core.proofs.OrderLaw.{among_append}
use Rattle.sy_core.proofs.Listing.{found_passes, and_left, and_right, ReadyFrom, AllBelow, below_and_one, listed_is_below, listed_last, listed_more, total, sum_of, all_listed, sum_of_order, order_is_ready, order_is_below}

-- members of two lists together
pub among_left : {X : Type 0} (xs ys : List X) (d : X) → Among xs d → Among (xs ++ ys) d
among_left [] ys d h = absurd h
among_left (x ∷ xs) ys d (inl e) = inl e
among_left (x ∷ xs) ys d (inr m) = inr (among_left xs ys d m)

pub among_right : {X : Type 0} (xs ys : List X) (d : X) → Among ys d → Among (xs ++ ys) d
among_right [] ys d h = h
among_right (x ∷ xs) ys d h = inr (among_right xs ys d h)

-- the nodes of the positions from number i on, and the contract
abbrev pub nodes_from : ℕ → List Position → List Node
nodes_from i ps = flat_map (λ n. nodes_of n.1.form n.0) (enumerate_from i ps) ++ Contract ∷ []

-- the node is of position number i
abbrev IsOf : ℕ → Node → Type 0
IsOf i (Exert j) = j ≡ i
IsOf i (Trig j) = j ≡ i
IsOf i (Act j) = j ≡ i
IsOf i (End j) = j ≡ i
IsOf i Contract = ⊥

-- the node is of a position from number i on, or the contract's
abbrev IsFrom : ℕ → Node → Type 0
IsFrom i (Exert j) = i ≤ j
IsFrom i (Trig j) = i ≤ j
IsFrom i (Act j) = i ≤ j
IsFrom i (End j) = i ≤ j
IsFrom i Contract = Unit {0}

from_of : (i : ℕ) (n : Node) → IsOf i n → IsFrom i n
from_of i (Exert j) e = omega (arith, e)
from_of i (Trig j) e = omega (arith, e)
from_of i (Act j) e = omega (arith, e)
from_of i (End j) e = omega (arith, e)
from_of i Contract none = absurd none

from_less : (i : ℕ) (n : Node) → IsFrom (i + 1) n → IsFrom i n
from_less i (Exert j) h = omega (arith, h)
from_less i (Trig j) h = omega (arith, h)
from_less i (Act j) h = omega (arith, h)
from_less i (End j) h = omega (arith, h)
from_less i Contract h = tt

not_both : (i : ℕ) (n : Node) → IsOf i n → IsFrom (i + 1) n → ⊥
not_both i (Exert j) e h = absurd (omega (arith, e, h))
not_both i (Trig j) e h = absurd (omega (arith, e, h))
not_both i (Act j) e h = absurd (omega (arith, e, h))
not_both i (End j) e h = absurd (omega (arith, e, h))
not_both i Contract none h = none

of_position : (form : Form) (i : ℕ) (n : Node) → Among (nodes_of form i) n → IsOf i n
of_position form i n m = at form m
  where
    three : Among (Trig i ∷ Act i ∷ End i ∷ []) n → IsOf i n
    three (inl e) = subst (IsOf i) e refl
    three (inr (inl e)) = subst (IsOf i) e refl
    three (inr (inr (inl e))) = subst (IsOf i) e refl
    three (inr (inr (inr none))) = absurd none

    at : (form : Form) → Among (nodes_of form i) n → IsOf i n
    at Obligation m = three m
    at Surviving m = three m
    at Power (inl e) = subst (IsOf i) e refl
    at Power (inr m) = three m

all_from : (i : ℕ) (ps : List Position) (n : Node) → Among (nodes_from i ps) n → IsFrom i n
all_from i [] n (inl e) = subst (IsFrom i) e tt
all_from i [] n (inr none) = absurd none
all_from i (p ∷ ps) n m =
    elim (among_append (nodes_of p.form i) (nodes_from (i + 1) ps) n (shift i p ps n m)) [
      | inl own ↦ from_of i n (of_position p.form i n own)
      | inr later ↦ from_less i n (all_from (i + 1) ps n later)
    ]
  where
    shift : (i : ℕ) (p : Position) (ps : List Position) (n : Node) → Among (nodes_from i (p ∷ ps)) n → Among (nodes_of p.form i ++ nodes_from (i + 1) ps) n
    shift i p ps n m = subst (λ l. Among l n) (append_assoc (nodes_of p.form i) (flat_map (λ n. nodes_of n.1.form n.0) (enumerate_from (i + 1) ps)) (Contract ∷ [])) m

-- no item stands twice
abbrev pub IsOnce : {X : Type 0} → List X → Type 0
IsOnce [] = Unit {0}
IsOnce (x ∷ xs) = (Among xs x → ⊥) × IsOnce xs

once_append : {X : Type 0} (xs ys : List X) → IsOnce xs → IsOnce ys → ((x : X) → Among xs x → Among ys x → ⊥) → IsOnce (xs ++ ys)
once_append [] ys h k apart = k
once_append (x ∷ xs) ys h k apart =
    (λ m. elim (among_append xs ys x m) [ inl a ↦ h.0 a | inr b ↦ apart x (inl refl) b ], once_append xs ys h.1 k (λ y a b. apart y (inr a) b))

once_of : (form : Form) (i : ℕ) → IsOnce (nodes_of form i)
once_of form i = at form
  where
    three : IsOnce (Trig i ∷ Act i ∷ End i ∷ [])
    three = (
      λ m. elim m [ inl e ↦ cc | inr m ↦ elim m [ inl e ↦ cc | inr none ↦ none ] ],
      (
        λ m. elim m [ inl e ↦ cc | inr none ↦ none ],
        (λ none. none, tt),
      ),
    )

    at : (form : Form) → IsOnce (nodes_of form i)
    at Obligation = three
    at Surviving = three
    at Power = (λ m. elim m [ inl e ↦ cc | inr m ↦ elim m [ inl e ↦ cc | inr m ↦ elim m [ inl e ↦ cc | inr none ↦ none ] ] ], three)

once_from : (i : ℕ) (ps : List Position) → IsOnce (nodes_from i ps)
once_from i [] = (λ none. none, tt)
once_from i (p ∷ ps) =
    subst IsOnce (sym (append_assoc (nodes_of p.form i) (flat_map (λ n. nodes_of n.1.form n.0) (enumerate_from (i + 1) ps)) (Contract ∷ [])))
    (once_append (nodes_of p.form i) (nodes_from (i + 1) ps) (once_of p.form i) (once_from (i + 1) ps) (λ n a b. not_both i n (of_position p.form i n a) (all_from (i + 1) ps n b)))

-- an item that is there is a member
pub there : {X : Type 0} (xs : List X) (k : ℕ) (x : X) → slice_get xs k ≡ Some x → Among xs x
there [] k x h = cc
there (y ∷ xs) zero x h = inl (cc)
there (y ∷ xs) (suc k) x h = inr (there xs k x h)

-- and a member is there
pub place_of : {X : Type 0} (xs : List X) (x : X) → Among xs x → (k : ℕ) × (slice_get xs k ≡ Some x)
place_of [] x m = absurd m
place_of (y ∷ xs) x (inl e) = (zero, ap Some e)
place_of (y ∷ xs) x (inr m) = let at = place_of xs x m in (suc at.0, at.1)

once_place : {X : Type 0} (xs : List X) → IsOnce xs → (j k : ℕ) (x : X) → slice_get xs j ≡ Some x → slice_get xs k ≡ Some x → j ≡ k
once_place [] h j k x a b = cc
once_place (y ∷ xs) h zero zero x a b = refl
once_place (y ∷ xs) h zero (suc k) x a b = let same : y ≡ x = cc in absurd (h.0 (subst (Among xs) (sym same) (there xs k x b)))
once_place (y ∷ xs) h (suc j) zero x a b = let same : y ≡ x = cc in absurd (h.0 (subst (Among xs) (sym same) (there xs j x a)))
once_place (y ∷ xs) h (suc j) (suc k) x a b = ap suc (once_place xs h.1 j k x a b)

-- two nodes that are the same are equal
same_nodes : (a b : Node) → same_node a b ≡ true → a ≡ b
same_nodes (Exert i) (Exert j) h = ap Exert ((Decides-eqb i j).0 h)
same_nodes (Trig i) (Trig j) h = ap Trig ((Decides-eqb i j).0 h)
same_nodes (Act i) (Act j) h = ap Act ((Decides-eqb i j).0 h)
same_nodes (End i) (End j) h = ap End ((Decides-eqb i j).0 h)
same_nodes Contract Contract h = refl
same_nodes _ _ h = cc

found_node : (n : Node) (ns : List Node) → position_or_len (same_node n) ns < length ns → slice_get ns (position_or_len (same_node n) ns) ≡ Some n
found_node n ns lt = sym (find_at (same_node n) ns) ∙ at (find (same_node n) ns) refl
  where
    at : (o : Option Node) → find (same_node n) ns ≡ o → find (same_node n) ns ≡ Some n
    at None e = let some = sym e ∙ (find_at (same_node n) ns ∙ slice_get-get_or ns (position_or_len (same_node n) ns) Contract lt) in cc
    at (Some m) e = e ∙ ap Some (sym (same_nodes n m (found_passes (same_node n) ns m e)))

-- nodes that follow one another: each is none of those from it on that it needs, and stands once
abbrev pub InOrder : Deed → List Node → Type 0
InOrder deed [] = Unit {0}
InOrder deed (n ∷ later) = ((m : Node) → Among (needs deed n) m → Among (n ∷ later) m → ⊥) × (Among later n → ⊥) × InOrder deed later

module _ (deed : Deed) where
  abbrev count : ℕ
  count = length (nodes deed)

  listed_there : (xs : List ℕ) (k : ℕ) (n : Node) → slice_get (nodes deed) k ≡ Some n → is_listed xs k ≡ true → Among (nodes_at deed xs) n
  listed_there [] k n is l = cc
  listed_there (x ∷ xs) k n is l = at (x == k) refl l (listed_there xs k n is)
    where
      at : (b : Bool) → (x == k) ≡ b → (b || is_listed xs k) ≡ true → (is_listed xs k ≡ true → Among (nodes_at deed xs) n) → Among (nodes_at deed (x ∷ xs)) n
      at true e l later =
          let o : slice_get (nodes deed) x ≡ Some n = ap (slice_get (nodes deed)) ((Decides-eqb x k).0 e) ∙ is in
          among_left (node_list (slice_get (nodes deed) x)) (nodes_at deed xs) n (subst (λ o. Among (node_list o) n) (sym o) (inl refl))
      at false e l later = among_right (node_list (slice_get (nodes deed) x)) (nodes_at deed xs) n (later l)

  in_list : (o : Option Node) (n : Node) → Among (node_list o) n → o ≡ Some n
  in_list None n m = absurd m
  in_list (Some x) n (inl e) = ap Some e
  in_list (Some x) n (inr none) = absurd none

  -- a number that stands before has its node no more in the rest
  not_again : (done ks : List ℕ) → ReadyFrom (numbered_needs deed) count done ks → (j : ℕ) (m : Node) → is_listed done j ≡ true → slice_get (nodes deed) j ≡ Some m → Among (nodes_at deed ks) m → ⊥
  not_again done [] h j m l is a = a
  not_again done (k ∷ ks) h j m l is a =
      elim (among_append (node_list (slice_get (nodes deed) k)) (nodes_at deed ks) m a) [
        | inl here ↦ let same = once_place (nodes deed) (once_from 0 deed.positions) j k m is (in_list (slice_get (nodes deed) k) m here) in let f = sym l ∙ (ap (is_listed done) same ∙ h.1) in cc
        | inr later ↦ not_again (done ++ k ∷ []) ks h.3 j m (listed_more done k j l) is later
      ]

  need_listed : (done : List ℕ) (ns : List Node) → list_all (is_listed done) (map (number_of deed) ns) ≡ true → (m : Node) → Among ns m → is_listed done (number_of deed m) ≡ true
  need_listed done [] h m a = absurd a
  need_listed done (n ∷ ns) h m (inl e) = subst (λ x. is_listed done (number_of deed x) ≡ true) e (and_left (is_listed done (number_of deed n)) _ h)
  need_listed done (n ∷ ns) h m (inr a) = need_listed done ns (and_right (is_listed done (number_of deed n)) _ h) m a

  in_order : (done ks : List ℕ) → AllBelow count done → ReadyFrom (numbered_needs deed) count done ks → InOrder deed (nodes_at deed ks)
  in_order done [] below h = tt
  in_order done (k ∷ ks) below h = at (slice_get (nodes deed) k) refl (in_order (done ++ k ∷ []) ks (below_and_one count done k below h.0) h.3)
    where
      at : (o : Option Node) → slice_get (nodes deed) k ≡ o → InOrder deed (nodes_at deed ks) → InOrder deed (node_list o ++ nodes_at deed ks)
      at None is rest = rest
      at (Some n) is rest = (
        λ m need a.
            let l = need_listed done (needs deed n) (subst (λ o. list_all (is_listed done) (numbered_needs_of deed o) ≡ true) is h.2) m need in
            let lt = listed_is_below count done (number_of deed m) below l in
            not_again done (k ∷ ks) h (number_of deed m) m l (found_node m (nodes deed) lt) (subst (λ o. Among (node_list o ++ nodes_at deed ks) m) (sym is) a),
        λ a. not_again (done ++ k ∷ []) ks h.3 k n (listed_last done k) is a,
        rest,
      )

  -- in their order each node stands after those that it needs
  pub nodes_are_in_order : InOrder deed (nodes_in_order deed)
  nodes_are_in_order = in_order [] (order (numbered_needs deed) count) tt (order_is_ready (numbered_needs deed) count)

  -- all of them are nodes of the deed
  pub all_nodes : (xs : List ℕ) (n : Node) → Among (nodes_at deed xs) n → Among (nodes deed) n
  all_nodes [] n a = absurd a
  all_nodes (x ∷ xs) n a =
      elim (among_append (node_list (slice_get (nodes deed) x)) (nodes_at deed xs) n a) [
        | inl here ↦ there (nodes deed) x n (in_list (slice_get (nodes deed) x) n here)
        | inr later ↦ all_nodes xs n later
      ]

  -- an obligation's nodes have no exertion
  no_exertion : (j : ℕ) → Among (Trig j ∷ Act j ∷ End j ∷ []) (Exert (j + 0)) → ⊥
  no_exertion j (inl e) = cc
  no_exertion j (inr (inl e)) = cc
  no_exertion j (inr (inr (inl e))) = cc
  no_exertion j (inr (inr (inr nothing))) = nothing

  -- the exertion of a position is a node of a power alone
  exert_of_power : (j : ℕ) (ps : List Position) (i : ℕ) (p : Position) → slice_get ps i ≡ Some p → Among (nodes_from j ps) (Exert (j + i)) → Among (own_exert p.form (j + i)) (Exert (j + i))
  exert_of_power j [] i p is a = cc
  exert_of_power j (x ∷ ps) zero p is a =
      let e : j + 0 ≡ j = omega arith in
      let same : x ≡ p = cc in
      elim (among_append (nodes_of x.form j) (nodes_from (j + 1) ps) (Exert (j + 0)) (subst (λ l. Among l (Exert (j + 0))) (append_assoc (nodes_of x.form j) (flat_map (λ n. nodes_of n.1.form n.0) (enumerate_from (j + 1) ps)) (Contract ∷ [])) a)) [
        | inl own ↦ subst (λ (y : Position). Among (own_exert y.form (j + 0)) (Exert (j + 0))) same (here x.form own)
        | inr later ↦ absurd (let f = all_from (j + 1) ps (Exert (j + 0)) later in omega (arith, f))
      ]
    where
      here : (form : Form) → Among (nodes_of form j) (Exert (j + 0)) → Among (own_exert form (j + 0)) (Exert (j + 0))
      here Power m = inl refl
      here Obligation m = absurd (no_exertion j m)
      here Surviving m = absurd (no_exertion j m)
  exert_of_power j (x ∷ ps) (suc i) p is a =
      let e : (j + 1) + i ≡ j + suc i = omega arith in
      elim (among_append (nodes_of x.form j) (nodes_from (j + 1) ps) (Exert (j + suc i)) (subst (λ l. Among l (Exert (j + suc i))) (append_assoc (nodes_of x.form j) (flat_map (λ n. nodes_of n.1.form n.0) (enumerate_from (j + 1) ps)) (Contract ∷ [])) a)) [
        | inl own ↦ absurd (let f = of_position x.form j (Exert (j + suc i)) own in omega (arith, f))
        | inr later ↦ subst (λ k. Among (own_exert p.form k) (Exert k)) e (exert_of_power (j + 1) ps i p is (subst (λ k. Among (nodes_from (j + 1) ps) (Exert k)) (sym e) later))
      ]

  pub own_exertion : (i : ℕ) (p : Position) → slice_get deed.positions i ≡ Some p → Among (nodes deed) (Exert i) → Among (own_exert p.form i) (Exert i)
  own_exertion i p is a =
      let e : 0 + i ≡ i = omega arith in
      subst (λ k. Among (own_exert p.form k) (Exert k)) e (exert_of_power 0 deed.positions i p is (subst (λ k. Among (nodes deed) (Exert k)) (sym e) a))

  -- a node that each form has
  position_node : (make : ℕ → Node) → ((form : Form) (i : ℕ) → Among (nodes_of form i) (make i)) → (j : ℕ) (ps : List Position) (i : ℕ) (p : Position) → slice_get ps i ≡ Some p → Among (nodes_from j ps) (make (j + i))
  position_node make has j [] i p is = cc
  position_node make has j (x ∷ ps) zero p is =
      let e : j ≡ j + 0 = omega arith in
      joined j x ps (make (j + 0)) (among_left (nodes_of x.form j) (nodes_from (j + 1) ps) (make (j + 0)) (subst (λ k. Among (nodes_of x.form j) (make k)) e (has x.form j)))
    where
      joined : (j : ℕ) (x : Position) (ps : List Position) (n : Node) → Among (nodes_of x.form j ++ nodes_from (j + 1) ps) n → Among (nodes_from j (x ∷ ps)) n
      joined j x ps n m = subst (λ l. Among l n) (sym (append_assoc (nodes_of x.form j) (flat_map (λ n. nodes_of n.1.form n.0) (enumerate_from (j + 1) ps)) (Contract ∷ []))) m
  position_node make has j (x ∷ ps) (suc i) p is =
      let e : (j + 1) + i ≡ j + suc i = omega arith in
      subst (λ l. Among l (make (j + suc i))) (sym (append_assoc (nodes_of x.form j) (flat_map (λ n. nodes_of n.1.form n.0) (enumerate_from (j + 1) ps)) (Contract ∷ [])))
      (among_right (nodes_of x.form j) (nodes_from (j + 1) ps) (make (j + suc i)) (subst (λ k. Among (nodes_from (j + 1) ps) (make k)) e (position_node make has (j + 1) ps i p is)))

  module _ (acyclic : IsAcyclic (numbered_needs deed) count) where
    -- where the needs have no cycle, all nodes are there
    pub node_there : (n : Node) → Among (nodes deed) n → Among (nodes_in_order deed) n
    node_there n m =
        let at = place_of (nodes deed) n m in
        listed_there (order (numbered_needs deed) count) at.0 n at.1 (all_listed (numbered_needs deed) count acyclic at.0 (slice_get_within (nodes deed) at.0 n at.1))

    pub position_node_there : (make : ℕ → Node) → ((form : Form) (i : ℕ) → Among (nodes_of form i) (make i)) → (i : ℕ) (p : Position) → slice_get deed.positions i ≡ Some p → Among (nodes_in_order deed) (make i)
    position_node_there make has i p is =
        let e : 0 + i ≡ i = omega arith in
        node_there (make i) (subst (λ k. Among (nodes deed) (make k)) e (position_node make has 0 deed.positions i p is))

    -- the exertion of a power
    power_node : (j : ℕ) (ps : List Position) (i : ℕ) (p : Position) → slice_get ps i ≡ Some p → p.form ≡ Power → Among (nodes_from j ps) (Exert (j + i))
    power_node j [] i p is e = cc
    power_node j (x ∷ ps) zero p is e =
        let z : j ≡ j + 0 = omega arith in
        let same : p ≡ x = cc in
        among_left (nodes_of x.form j ++ flat_map (λ n. nodes_of n.1.form n.0) (enumerate_from (j + 1) ps)) (Contract ∷ []) (Exert (j + 0))
        (among_left (nodes_of x.form j) (flat_map (λ n. nodes_of n.1.form n.0) (enumerate_from (j + 1) ps)) (Exert (j + 0))
        (subst (λ form. Among (nodes_of form j) (Exert (j + 0))) (sym (sym (ap (λ (y : Position). y.form) same) ∙ e)) (inl (ap Exert z))))
    power_node j (x ∷ ps) (suc i) p is e =
        let z : (j + 1) + i ≡ j + suc i = omega arith in
        subst (λ l. Among l (Exert (j + suc i))) (sym (append_assoc (nodes_of x.form j) (flat_map (λ n. nodes_of n.1.form n.0) (enumerate_from (j + 1) ps)) (Contract ∷ [])))
        (among_right (nodes_of x.form j) (nodes_from (j + 1) ps) (Exert (j + suc i)) (subst (λ k. Among (nodes_from (j + 1) ps) (Exert k)) z (power_node (j + 1) ps i p is e)))

    pub power_node_there : (i : ℕ) (p : Position) → slice_get deed.positions i ≡ Some p → p.form ≡ Power → Among (nodes_in_order deed) (Exert i)
    power_node_there i p is e =
        let z : 0 + i ≡ i = omega arith in
        node_there (Exert i) (subst (λ k. Among (nodes deed) (Exert k)) z (power_node 0 deed.positions i p is e))

    pub contract_there : Among (nodes_in_order deed) Contract
    contract_there = node_there Contract (among_right (flat_map (λ n. nodes_of n.1.form n.0) (enumerate_from 0 deed.positions)) (Contract ∷ []) Contract (inl refl))
