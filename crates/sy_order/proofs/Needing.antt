-- What the nodes of a deed need are nodes of it, where the deed names only what is there.
use Rattle.std.proofs.Common.{◌≡◌, ℕ, zero, suc, ◌+◌, ◌<◌, ◌≤◌, ◌==◌, Bool, true, false, not, ◌&&◌, List, [], ◌∷◌, ◌++◌, map, length, get_or, cond, Option, Some, None, slice_get, refl, sym, ◌∙◌, ap, subst, arith, ◌⊎◌, inl, inr, append_assoc, length-append, if◌then◌else◌}
use Rattle.std.specs.List.{All, flat_map, filter, enumerate_from, list_all, position_or_len}
use Rattle.std.proofs.lemmas.Bool.Decides.{Decides-eqb}
use Rattle.std.proofs.lemmas.List.Elements.{All-cons, All-map}
use Rattle.sy_words.specs.declared.kind.Kind.{Kind}
use Rattle.sy_words.specs.declared.kind.Kind.TheVariants as K
use Rattle.sy_words.specs.declared.form.Form.{Form}
use Rattle.sy_words.specs.declared.form.Form.TheVariants.{Obligation, Surviving, Power}
use Rattle.sy_words.specs.declared.verb.Verb.{Verb}
use Rattle.sy_words.specs.declared.verb.Verb.TheVariants as Verbs
use Rattle.sy_core.specs.declared.kind.Target.{Target}
use Rattle.sy_core.specs.declared.kind.Target.TheVariants as T
use Rattle.sy_core.specs.declared.position.Goal.{Goal}
use Rattle.sy_core.specs.declared.position.Goal.TheVariants as G
use Rattle.sy_core.specs.declared.position.Position.{Position}
use Rattle.sy_core.specs.declared.deed.Deed.{Deed}
use Rattle.sy_core.specs.Mentions.{InternalEvent, names_of, names_of_duty}
use Rattle.sy_core.specs.Conditions.{is_power, survives, is_act, acts_on_contract, is_remedy, is_awaited, numbered, remedies_of, awaited}
use Rattle.sy_core.specs.Soundness.{is_kind_of, form_passes, is_sound_inner}
use Rattle.sy_core.specs.Prerequisites.{Node, Exert, Trig, Act, End, Contract, same_node, nodes_of, own_exert, obligation_nodes, exertion_nodes, nodes, number_of, exerts, exerts_on_contract, completion_nodes, contract_event_nodes, position_event_nodes, event_nodes, named_nodes, trig_needs, act_needs, end_needs, needs_at, needs, numbered_needs, numbered_needs_of}
use Rattle.sy_core.proofs.Members.{Among}
use Rattle.sy_core.proofs.Listing.{and_left, and_right}
use Rattle.sy_core.proofs.OrderLaw.{among_append}
use Rattle.sy_core.proofs.Nodes.{among_left, among_right, nodes_from}
use Rattle.sy_core.proofs.EventsInOrder.{in_flat, kept_passes}
use Rattle.sy_order.specs.Naming.{are_there, acts_as_power, names_what_is_there}

-- what all members have, all have
pub all_among : {X : Type 0} (P : X → Type 0) (xs : List X) → ((x : X) → Among xs x → P x) → All P xs
all_among P [] h = λ k d lt. absurd (omega (arith, lt))
all_among P (x ∷ xs) h = All-cons P x xs (h x (inl refl)) (all_among P xs (λ y m. h y (inr m)))

in_map : {X Y : Type 0} (f : X → Y) (xs : List X) (y : Y) → Among (map f xs) y → (x : X) × Among xs x × (f x ≡ y)
in_map f [] y m = absurd m
in_map f (x ∷ xs) y (inl e) = (x, inl refl, e)
in_map f (x ∷ xs) y (inr m) = let h = in_map f xs y m in (h.0, inr h.1, h.2)

kept_there : {X : Type 0} (p : X → Bool) (xs : List X) (x : X) → Among (filter p xs) x → Among xs x
kept_there p [] x m = m
kept_there p (y ∷ ys) x m = at (p y) (kept_there p ys x) m
  where
    at : (b : Bool) → (Among (filter p ys) x → Among ys x) → Among (cond b (y ∷ filter p ys) (filter p ys)) x → Among (y ∷ ys) x
    at true later (inl e) = inl e
    at true later (inr m) = inr (later m)
    at false later m = inr (later m)

-- a numbered position is there
numbered_there : (j : ℕ) (ps : List Position) (n : ℕ × Position) → Among (enumerate_from j ps) n → (i : ℕ) × (n.0 ≡ j + i) × (slice_get ps i ≡ Some n.1)
numbered_there j [] n m = absurd m
numbered_there j (p ∷ ps) n (inl e) = let a = ap (λ (q : ℕ × Position). q.0) e in (zero, omega (arith, a), ap (λ (q : ℕ × Position). Some q.1) e)
numbered_there j (p ∷ ps) n (inr m) = let h = numbered_there (j + 1) ps n m in (suc h.0, omega (arith, h.1), h.2)

all_pass : (q : Position → Bool) (ps : List Position) (i : ℕ) (p : Position) → list_all q ps ≡ true → slice_get ps i ≡ Some p → q p ≡ true
all_pass q [] i p h is = cc
all_pass q (x ∷ ps) zero p h is = let same : x ≡ p = cc in subst (λ y. q y ≡ true) same (and_left (q x) (list_all q ps) h)
all_pass q (x ∷ ps) (suc i) p h is = all_pass q ps i p (and_right (q x) (list_all q ps) h) is

same_itself : (n : Node) → same_node n n ≡ true
same_itself (Exert i) = (Decides-eqb i i).1 refl
same_itself (Trig i) = (Decides-eqb i i).1 refl
same_itself (Act i) = (Decides-eqb i i).1 refl
same_itself (End i) = (Decides-eqb i i).1 refl
same_itself Contract = refl

-- a node that is there has a number below the count
found_within : (ns : List Node) (n : Node) → Among ns n → position_or_len (same_node n) ns < length ns
found_within [] n m = absurd m
found_within (x ∷ ns) n (inl e) = subst (λ y. position_or_len (same_node n) (y ∷ ns) < length (y ∷ ns)) (sym e) (here (same_node n n) (same_itself n))
  where
    here : (b : Bool) → b ≡ true → cond (not b) (1 + position_or_len (same_node n) ns) 0 < suc (length ns)
    here true e = omega arith
    here false e = cc
found_within (x ∷ ns) n (inr m) = at (same_node n x) (found_within ns n m)
  where
    at : (b : Bool) → position_or_len (same_node n) ns < length ns → cond (not b) (1 + position_or_len (same_node n) ns) 0 < suc (length ns)
    at true lt = omega arith
    at false lt = omega (arith, lt)

-- the nodes of a position that is there
own_nodes_there : (j : ℕ) (ps : List Position) (i : ℕ) (p : Position) → slice_get ps i ≡ Some p → (k : ℕ) → k ≡ j + i → (n : Node) → Among (nodes_of p.form k) n → Among (nodes_from j ps) n
own_nodes_there j [] i p is k e n m = cc
own_nodes_there j (x ∷ ps) zero p is k e n m =
    let same : x ≡ p = cc in
    let at : k ≡ j = omega (arith, e) in
    let own = subst (λ i. Among (nodes_of x.form i) n) at (subst (λ (y : Position). Among (nodes_of y.form k) n) (sym same) m) in
    subst (λ l. Among l n) (sym (append_assoc (nodes_of x.form j) (flat_map (λ n. nodes_of n.1.form n.0) (enumerate_from (j + 1) ps)) (Contract ∷ [])))
    (among_left (nodes_of x.form j) (nodes_from (j + 1) ps) n own)
own_nodes_there j (x ∷ ps) (suc i) p is k e n m =
    subst (λ l. Among l n) (sym (append_assoc (nodes_of x.form j) (flat_map (λ n. nodes_of n.1.form n.0) (enumerate_from (j + 1) ps)) (Contract ∷ [])))
    (among_right (nodes_of x.form j) (nodes_from (j + 1) ps) n (own_nodes_there (j + 1) ps i p is k (omega (arith, e)) n m))

trig_of : (form : Form) (i : ℕ) → Among (nodes_of form i) (Trig i)
trig_of Obligation i = inl refl
trig_of Surviving i = inl refl
trig_of Power i = inr (inl refl)

act_of : (form : Form) (i : ℕ) → Among (nodes_of form i) (Act i)
act_of Obligation i = inr (inl refl)
act_of Surviving i = inr (inl refl)
act_of Power i = inr (inr (inl refl))

end_of : (form : Form) (i : ℕ) → Among (nodes_of form i) (End i)
end_of Obligation i = inr (inr (inl refl))
end_of Surviving i = inr (inr (inl refl))
end_of Power i = inr (inr (inr (inl refl)))

exert_of : (form : Form) (i : ℕ) → is_power form ≡ true → Among (nodes_of form i) (Exert i)
exert_of Obligation i h = cc
exert_of Surviving i h = cc
exert_of Power i h = inl refl

-- only an act is an act on something
act_of_power : (form : Form) (verb : Verb) (target : Target) (goal : Goal) → is_act verb target goal ≡ true → acts_as_power form goal ≡ true → is_power form ≡ true
act_of_power form verb target (G.Act act) h as_power = as_power
act_of_power form verb target (G.Duty consequent) h as_power = cc

contract_act_of_power : (form : Form) (goal : Goal) → acts_on_contract goal ≡ true → acts_as_power form goal ≡ true → is_power form ≡ true
contract_act_of_power form (G.Act act) h as_power = as_power
contract_act_of_power form (G.Duty consequent) h as_power = cc

module _ (deed : Deed) (names_there : list_all (names_what_is_there deed) deed.positions ≡ true) where
  -- the node is one of the deed's
  abbrev IsThere : Node → Type 0
  IsThere n = Among (nodes deed) n

  part_there : (i : ℕ) (p : Position) → slice_get deed.positions i ≡ Some p → (n : Node) → Among (nodes_of p.form i) n → IsThere n
  part_there i p is n m = own_nodes_there 0 deed.positions i p is i (omega arith) n m

  contract_there : IsThere Contract
  contract_there = among_right (flat_map (λ n. nodes_of n.1.form n.0) (numbered deed)) (Contract ∷ []) Contract (inl refl)

  position_of : (n : ℕ × Position) → Among (numbered deed) n → slice_get deed.positions n.0 ≡ Some n.1
  position_of n m =
      let h = numbered_there 0 deed.positions n m in
      let e : n.0 ≡ h.0 = omega (arith, h.1) in
      ap (slice_get deed.positions) e ∙ h.2

  all_of : (n : ℕ × Position) → slice_get deed.positions n.0 ≡ Some n.1 → names_what_is_there deed n.1 ≡ true
  all_of n is = all_pass (names_what_is_there deed) deed.positions n.0 n.1 names_there is

  -- what the deed's positions name is there, part by part
  module _ (n : ℕ × Position) (is : slice_get deed.positions n.0 ≡ Some n.1) where
    abbrev names : List InternalEvent → Bool
    names events = are_there deed events

    abbrev in_two : Bool
    in_two = names (names_of n.1.trigger) && names (names_of n.1.antecedent)

    abbrev in_three : Bool
    in_three = in_two && names (names_of_duty n.1.goal)

    in_all : (in_three && acts_as_power n.1.form n.1.goal) ≡ true
    in_all = all_of n is

    in_trigger : names (names_of n.1.trigger) ≡ true
    in_trigger = and_left (names (names_of n.1.trigger)) (names (names_of n.1.antecedent)) (and_left in_two (names (names_of_duty n.1.goal)) (and_left in_three (acts_as_power n.1.form n.1.goal) in_all))

    in_antecedent : names (names_of n.1.antecedent) ≡ true
    in_antecedent = and_right (names (names_of n.1.trigger)) (names (names_of n.1.antecedent)) (and_left in_two (names (names_of_duty n.1.goal)) (and_left in_three (acts_as_power n.1.form n.1.goal) in_all))

    in_duty : names (names_of_duty n.1.goal) ≡ true
    in_duty = and_right in_two (names (names_of_duty n.1.goal)) (and_left in_three (acts_as_power n.1.form n.1.goal) in_all)

    as_power_of : acts_as_power n.1.form n.1.goal ≡ true
    as_power_of = and_right in_three (acts_as_power n.1.form n.1.goal) in_all

  powers_there : (q : ℕ × Position → Bool) → ((n : ℕ × Position) → q n ≡ true → acts_as_power n.1.form n.1.goal ≡ true → is_power n.1.form ≡ true) → (n : Node) → Among (exertion_nodes (filter q (numbered deed))) n → IsThere n
  powers_there q acts n m =
      let h = in_map (λ (x : ℕ × Position). Exert x.0) (filter q (numbered deed)) n m in
      let is = position_of h.0 (kept_there q (numbered deed) h.0 h.1) in
      let power = acts h.0 (kept_passes q (numbered deed) h.0 h.1) (as_power_of h.0 is) in
      subst IsThere h.2 (part_there h.0.0 h.0.1 is (Exert h.0.0) (exert_of h.0.1.form h.0.0 power))

  exerts_there : (verb : Verb) (target : Target) (n : Node) → Among (exerts deed verb target) n → IsThere n
  exerts_there verb target = powers_there (λ n. is_act verb target n.1.goal) (λ n h as_power. act_of_power n.1.form verb target n.1.goal h as_power)

  all_exerts_there : (n : Node) → Among (exerts_on_contract deed) n → IsThere n
  all_exerts_there = powers_there (λ n. acts_on_contract n.1.goal) (λ n h as_power. contract_act_of_power n.1.form n.1.goal h as_power)

  obligation_there : (i : ℕ) (p : Position) → slice_get deed.positions i ≡ Some p → (n : Node) → Among (obligation_nodes i) n → IsThere n
  obligation_there i p is n (inl e) = subst IsThere e (part_there i p is (Trig i) (trig_of p.form i))
  obligation_there i p is n (inr (inl e)) = subst IsThere e (part_there i p is (Act i) (act_of p.form i))
  obligation_there i p is n (inr (inr (inl e))) = subst IsThere e (part_there i p is (End i) (end_of p.form i))
  obligation_there i p is n (inr (inr (inr none))) = absurd none

  completion_there : (n : Node) → Among (completion_nodes deed) n → IsThere n
  completion_there n m =
      let h = in_flat (λ n. obligation_nodes n.0 ++ flat_map (λ remedy. obligation_nodes remedy.0) (remedies_of deed (T.Position n.0))) (awaited deed) n m in
      let is = position_of h.0 (kept_there (λ n. is_awaited n.1.form) (numbered deed) h.0 h.1) in
      elim (among_append (obligation_nodes h.0.0) (flat_map (λ remedy. obligation_nodes remedy.0) (remedies_of deed (T.Position h.0.0))) n h.2) [
        | inl own ↦ obligation_there h.0.0 h.0.1 is n own
        | inr other ↦
            let r = in_flat (λ remedy. obligation_nodes remedy.0) (remedies_of deed (T.Position h.0.0)) n other in
            obligation_there r.0.0 r.0.1 (position_of r.0 (kept_there (λ n. is_remedy (T.Position h.0.0) n.1) (numbered deed) r.0 r.1)) n r.2
      ]

  contract_event_there : (kind : Kind) (n : Node) → Among (contract_event_nodes deed kind) n → IsThere n
  contract_event_there K.Exerted n m = absurd m
  contract_event_there K.Triggered n m = absurd m
  contract_event_there K.Activated n m = absurd m
  contract_event_there K.Resumed n m = exerts_there Verbs.Resumes T.Contract n m
  contract_event_there K.Suspended n m = exerts_there Verbs.Suspends T.Contract n m
  contract_event_there K.Fulfilled n m = absurd m
  contract_event_there K.Violated n m = absurd m
  contract_event_there K.Expired n m = absurd m
  contract_event_there K.Discharged n m = absurd m
  contract_event_there K.Terminated n m = exerts_there Verbs.Terminates T.Contract n m
  contract_event_there K.Completed n (inl e) = subst IsThere e contract_there
  contract_event_there K.Completed n (inr none) = absurd none

  one_there : (x n : Node) → IsThere x → Among (x ∷ []) n → IsThere n
  one_there x n h (inl e) = subst IsThere e h
  one_there x n h (inr none) = absurd none

  position_event_there : (i : ℕ) (p : Position) → slice_get deed.positions i ≡ Some p → (kind : Kind) → is_kind_of p.form kind ≡ true → (n : Node) → Among (position_event_nodes deed i kind) n → IsThere n
  position_event_there i p is K.Exerted h n m = one_there (Exert i) n (part_there i p is (Exert i) (exert_of p.form i h)) m
  position_event_there i p is K.Triggered h n m = one_there (Trig i) n (part_there i p is (Trig i) (trig_of p.form i)) m
  position_event_there i p is K.Activated h n m = one_there (Act i) n (part_there i p is (Act i) (act_of p.form i)) m
  position_event_there i p is K.Resumed h n m = one_there (Act i) n (part_there i p is (Act i) (act_of p.form i)) m
  position_event_there i p is K.Suspended h n m = one_there (Act i) n (part_there i p is (Act i) (act_of p.form i)) m
  position_event_there i p is K.Fulfilled h n m = one_there (End i) n (part_there i p is (End i) (end_of p.form i)) m
  position_event_there i p is K.Violated h n m = one_there (End i) n (part_there i p is (End i) (end_of p.form i)) m
  position_event_there i p is K.Expired h n m = one_there (End i) n (part_there i p is (End i) (end_of p.form i)) m
  position_event_there i p is K.Discharged h n m = one_there (End i) n (part_there i p is (End i) (end_of p.form i)) m
  position_event_there i p is K.Terminated h n m = one_there (End i) n (part_there i p is (End i) (end_of p.form i)) m
  position_event_there i p is K.Completed h n m = absurd m

  event_there : (kind : Kind) (target : Target) → is_sound_inner deed kind target ≡ true → (n : Node) → Among (event_nodes deed kind target) n → IsThere n
  event_there kind T.Contract h n m = contract_event_there kind n m
  event_there kind (T.Position i) h n m = at (slice_get deed.positions i) refl h
    where
      at : (o : Option Position) → slice_get deed.positions i ≡ o → form_passes (λ form. is_kind_of form kind) o ≡ true → IsThere n
      at None is h = cc
      at (Some p) is h = position_event_there i p is kind h n m

  named_there : (events : List InternalEvent) → are_there deed events ≡ true → (n : Node) → Among (named_nodes deed events) n → IsThere n
  named_there [] h n m = absurd m
  named_there (e ∷ events) h n m =
      let first = is_sound_inner deed e.0 e.1 in
      elim (among_append (event_nodes deed e.0 e.1) (named_nodes deed events) n m) [
        | inl here ↦ event_there e.0 e.1 (and_left first (are_there deed events) h) n here
        | inr later ↦ named_there events (and_right first (are_there deed events) h) n later
      ]

  own_exert_there : (i : ℕ) (p : Position) → slice_get deed.positions i ≡ Some p → (n : Node) → Among (own_exert p.form i) n → IsThere n
  own_exert_there i p is n m = part_there i p is n (at p.form m)
    where
      at : (form : Form) → Among (own_exert form i) n → Among (nodes_of form i) n
      at Obligation none = absurd none
      at Surviving none = absurd none
      at Power (inl e) = inl e
      at Power (inr none) = absurd none

  -- what is in one of two lists is there, where both lists' nodes are
  both_there : (xs ys : List Node) → ((n : Node) → Among xs n → IsThere n) → ((n : Node) → Among ys n → IsThere n) → (n : Node) → Among (xs ++ ys) n → IsThere n
  both_there xs ys h k n m = elim (among_append xs ys n m) [ inl a ↦ h n a | inr b ↦ k n b ]

  and_there : (x : Node) (ys : List Node) → IsThere x → ((n : Node) → Among ys n → IsThere n) → (n : Node) → Among (x ∷ ys) n → IsThere n
  and_there x ys h k n (inl e) = subst IsThere e h
  and_there x ys h k n (inr m) = k n m

  module _ (i : ℕ) (p : Position) (is : slice_get deed.positions i ≡ Some p) where
    abbrev exerts_on : Verb → List Node
    exerts_on verb = exerts deed verb (T.Position i)

    on_there : (verb : Verb) (n : Node) → Among (exerts_on verb) n → IsThere n
    on_there verb = exerts_there verb (T.Position i)

    trig_there : IsThere (Trig i)
    trig_there = part_there i p is (Trig i) (trig_of p.form i)

    act_there : IsThere (Act i)
    act_there = part_there i p is (Act i) (act_of p.form i)

    antecedent_there : (n : Node) → Among (named_nodes deed (names_of p.antecedent)) n → IsThere n
    antecedent_there = named_there (names_of p.antecedent) (in_antecedent (i, p) is)

    duty_there : (n : Node) → Among (named_nodes deed (names_of_duty p.goal)) n → IsThere n
    duty_there = named_there (names_of_duty p.goal) (in_duty (i, p) is)

    ended_there : (survives_it : Bool) (n : Node) → Among (if survives_it then [] else exerts deed Verbs.Terminates T.Contract) n → IsThere n
    ended_there true n m = absurd m
    ended_there false n m = exerts_there Verbs.Terminates T.Contract n m

    trig_needs_there : (n : Node) → Among (trig_needs deed i p) n → IsThere n
    trig_needs_there = both_there (exerts_on Verbs.Triggers) _ (on_there Verbs.Triggers) (named_there (names_of p.trigger) (in_trigger (i, p) is))

    act_needs_there : (n : Node) → Among (act_needs deed i p) n → IsThere n
    act_needs_there =
        let named = named_nodes deed (names_of p.antecedent) in
        let first = Trig i ∷ named in
        let suspending = first ++ exerts_on Verbs.Suspends in
        let resuming = suspending ++ exerts_on Verbs.Resumes in
        both_there resuming (own_exert p.form i)
        (both_there suspending (exerts_on Verbs.Resumes)
        (both_there first (exerts_on Verbs.Suspends) (and_there (Trig i) named trig_there antecedent_there) (on_there Verbs.Suspends))
        (on_there Verbs.Resumes))
        (own_exert_there i p is)

    end_needs_there : (n : Node) → Among (end_needs deed i p) n → IsThere n
    end_needs_there =
        let named = named_nodes deed (names_of p.antecedent) in
        let duty = named_nodes deed (names_of_duty p.goal) in
        let contract = if survives p.form then [] else exerts deed Verbs.Terminates T.Contract in
        let first = Trig i ∷ Act i ∷ named in
        let with_duty = first ++ duty in
        let discharging = with_duty ++ exerts_on Verbs.Discharges in
        let terminating = discharging ++ exerts_on Verbs.Terminates in
        let ending = terminating ++ contract in
        both_there ending (own_exert p.form i)
        (both_there terminating contract
        (both_there discharging (exerts_on Verbs.Terminates)
        (both_there with_duty (exerts_on Verbs.Discharges)
        (both_there first duty (and_there (Trig i) (Act i ∷ named) trig_there (and_there (Act i) named act_there antecedent_there)) duty_there)
        (on_there Verbs.Discharges))
        (on_there Verbs.Terminates))
        (ended_there (survives p.form)))
        (own_exert_there i p is)

  at_there : (needs_of : ℕ → Position → List Node) (i : ℕ) → ((p : Position) → slice_get deed.positions i ≡ Some p → (n : Node) → Among (needs_of i p) n → IsThere n) → (n : Node) → Among (needs_at deed needs_of i (slice_get deed.positions i)) n → IsThere n
  at_there needs_of i h n m = at (slice_get deed.positions i) refl m
    where
      at : (o : Option Position) → slice_get deed.positions i ≡ o → Among (needs_at deed needs_of i o) n → IsThere n
      at None is none = absurd none
      at (Some p) is m = h p is n m

  needs_there : (node n : Node) → Among (needs deed node) n → IsThere n
  needs_there (Exert i) n none = absurd none
  needs_there (Trig i) n m = at_there (trig_needs deed) i (trig_needs_there i) n m
  needs_there (Act i) n m = at_there (act_needs deed) i (act_needs_there i) n m
  needs_there (End i) n m = at_there (end_needs deed) i (end_needs_there i) n m
  needs_there Contract n m = both_there (exerts_on_contract deed) (completion_nodes deed) all_exerts_there completion_there n m

  -- the number of each need is below the count of nodes
  pub needs_are_below : (k : ℕ) → All (λ m. m < length (nodes deed)) (numbered_needs deed k)
  needs_are_below k = at (slice_get (nodes deed) k)
    where
      at : (o : Option Node) → All (λ m. m < length (nodes deed)) (numbered_needs_of deed o)
      at None = λ i d lt. absurd (omega (arith, lt))
      at (Some node) = All-map (λ m. m < length (nodes deed)) (number_of deed) (needs deed node) (all_among (λ n. number_of deed n < length (nodes deed)) (needs deed node) (λ n m. found_within (nodes deed) n (needs_there node n m)))
