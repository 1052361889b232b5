-- Two deeds whose positions are the same but for what isn't named have the same nodes, needs and order.
use Rattle.std.proofs.Common.{◌≡◌, ℕ, zero, suc, ◌+◌, Bool, true, false, cond, List, [], ◌∷◌, ◌++◌, map, length, Option, Some, None, slice_get, if◌then◌else◌, refl, sym, ◌∙◌, ap}
use Rattle.std.specs.List.{enumerate_from, filter, flat_map, position_or_len}
use Rattle.sy_words.specs.declared.kind.Kind.{Kind}
use Rattle.sy_words.specs.declared.kind.Kind.TheVariants.{Exerted, Triggered, Activated, Resumed, Suspended, Fulfilled, Violated, Expired, Discharged, Terminated, Completed}
use Rattle.sy_words.specs.declared.verb.Verb.{Verb}
use Rattle.sy_words.specs.declared.verb.Verb.TheVariants as Verbs
use Rattle.sy_core.specs.declared.kind.Target.{Target}
use Rattle.sy_core.specs.declared.kind.Target.TheVariants as T
use Rattle.sy_core.specs.declared.position.Position.{Position}
use Rattle.sy_core.specs.declared.deed.Deed.{Deed}
use Rattle.sy_core.specs.Mentions.{InternalEvent, names_of, names_of_duty}
use Rattle.sy_core.specs.Conditions.{acts_on_contract, awaited, is_act, is_awaited, is_remedy, remedies_of, survives}
use Rattle.sy_core.specs.Orders.{IsAcyclic, order}
use Rattle.sy_core.specs.Prerequisites.{Act, Contract, End, Exert, Node, Trig, act_needs, completion_nodes, end_needs, event_nodes, exertion_nodes, exerts, named_nodes, needs, needs_at, nodes, nodes_of, numbered_needs, numbered_needs_of, obligation_nodes, order_of, own_exert, same_node, trig_needs}
use Rattle.sy_parts.specs.Bare.{AreSameBare, bare}
use Rattle.sy_parts.proofs.BareNames.{bare_acts, bare_acts_on_contract, bare_is_remedy, names_of_bare, names_of_bare_goal}

-- two positions are the same when they are bare, and so are those of two lists, one by one
abbrev Same : Position → Position → Type 0
Same p q = bare p ≡ bare q

abbrev AllSame : List Position → List Position → Type 0
AllSame [] [] = Unit {0}
AllSame [] (q ∷ qs) = ⊥
AllSame (p ∷ ps) [] = ⊥
AllSame (p ∷ ps) (q ∷ qs) = Same p q × AllSame ps qs

all_same : (ps qs : List Position) → map bare ps ≡ map bare qs → AllSame ps qs
all_same [] [] h = tt
all_same [] (q ∷ qs) h = cc
all_same (p ∷ ps) [] h = cc
all_same (p ∷ ps) (q ∷ qs) h = (cc, all_same ps qs cc)

-- what is read of a position is read of it when it is bare
abbrev IsRead : {X : Type 0} → (Position → X) → Type 0
IsRead read = (p q : Position) → Same p q → read p ≡ read q

form_is_read : IsRead (λ p. p.form)
form_is_read p q h = ap (λ (x : Position). x.form) h

trigger_is_read : IsRead (λ p. names_of p.trigger)
trigger_is_read p q h = sym (names_of_bare p.trigger) ∙ ap (λ (x : Position). names_of x.trigger) h ∙ names_of_bare q.trigger

antecedent_is_read : IsRead (λ p. names_of p.antecedent)
antecedent_is_read p q h = sym (names_of_bare p.antecedent) ∙ ap (λ (x : Position). names_of x.antecedent) h ∙ names_of_bare q.antecedent

duty_is_read : IsRead (λ p. names_of_duty p.goal)
duty_is_read p q h = sym (names_of_bare_goal p.goal) ∙ ap (λ (x : Position). names_of_duty x.goal) h ∙ names_of_bare_goal q.goal

act_is_read : (verb : Verb) (target : Target) → IsRead (λ p. is_act verb target p.goal)
act_is_read verb target p q h =
    sym (bare_acts verb target p.goal) ∙ ap (λ (x : Position). is_act verb target x.goal) h ∙ bare_acts verb target q.goal

contract_act_is_read : IsRead (λ p. acts_on_contract p.goal)
contract_act_is_read p q h =
    sym (bare_acts_on_contract p.goal) ∙ ap (λ (x : Position). acts_on_contract x.goal) h ∙ bare_acts_on_contract q.goal

remedy_is_read : (violated : Target) → IsRead (is_remedy violated)
remedy_is_read violated p q h = sym (bare_is_remedy violated p) ∙ ap (is_remedy violated) h ∙ bare_is_remedy violated q

awaited_is_read : IsRead (λ p. is_awaited p.form)
awaited_is_read p q h = ap is_awaited (form_is_read p q h)

-- the numbers of the positions that pass a test
abbrev passing : (Position → Bool) → ℕ → List Position → List (ℕ × Position)
passing test i ps = filter (λ n. test n.1) (enumerate_from i ps)

abbrev numbers : List (ℕ × Position) → List ℕ
numbers ns = map (λ n. n.0) ns

numbers_same : (test : Position → Bool) → IsRead test → (i : ℕ) (ps qs : List Position) → AllSame ps qs → numbers (passing test i ps) ≡ numbers (passing test i qs)
numbers_same test read i [] [] h = refl
numbers_same test read i [] (q ∷ qs) h = absurd h
numbers_same test read i (p ∷ ps) [] h = absurd h
numbers_same test read i (p ∷ ps) (q ∷ qs) h = at (test p) (test q) (read p q h.0) (numbers_same test read (i + 1) ps qs h.1)
  where
    at : (b c : Bool) → b ≡ c → numbers (passing test (i + 1) ps) ≡ numbers (passing test (i + 1) qs)
        → numbers (cond b ((i, p) ∷ passing test (i + 1) ps) (passing test (i + 1) ps)) ≡ numbers (cond c ((i, q) ∷ passing test (i + 1) qs) (passing test (i + 1) qs))
    at true true e rest = ap (λ l. i ∷ l) rest
    at true false e rest = cc
    at false true e rest = cc
    at false false e rest = rest

-- nodes by number
exertions_by_number : (ns : List (ℕ × Position)) → exertion_nodes ns ≡ map Exert (numbers ns)
exertions_by_number [] = refl
exertions_by_number (n ∷ ns) = ap (λ l. Exert n.0 ∷ l) (exertions_by_number ns)

by_number : (f : ℕ → List Node) (ns : List (ℕ × Position)) → flat_map (λ n. f n.0) ns ≡ flat_map f (numbers ns)
by_number f [] = refl
by_number f (n ∷ ns) = ap (λ l. f n.0 ++ l) (by_number f ns)

nodes_from_same : (i : ℕ) (ps qs : List Position) → AllSame ps qs → flat_map (λ n. nodes_of n.1.form n.0) (enumerate_from i ps) ≡ flat_map (λ n. nodes_of n.1.form n.0) (enumerate_from i qs)
nodes_from_same i [] [] h = refl
nodes_from_same i [] (q ∷ qs) h = absurd h
nodes_from_same i (p ∷ ps) [] h = absurd h
nodes_from_same i (p ∷ ps) (q ∷ qs) h =
    let form = form_is_read p q h.0 in
    let rest = nodes_from_same (i + 1) ps qs h.1 in
    λ j. nodes_of (form j) i ++ rest j

-- a rule that gives the same of positions that are the same
abbrev AreSameRules : (ℕ → Position → List Node) → (ℕ → Position → List Node) → Type 0
AreSameRules f g = (i : ℕ) (p q : Position) → Same p q → f i p ≡ g i q

module _ (a b : Deed) (same : AreSameBare a b) where
  alike : AllSame a.positions b.positions
  alike = all_same a.positions b.positions same

  pub same_nodes : nodes a ≡ nodes b
  same_nodes = ap (λ l. l ++ Contract ∷ []) (nodes_from_same 0 a.positions b.positions alike)

  exertions_same : (test : Position → Bool) → IsRead test → exertion_nodes (passing test 0 a.positions) ≡ exertion_nodes (passing test 0 b.positions)
  exertions_same test read =
      exertions_by_number (passing test 0 a.positions)
      ∙ ap (map Exert) (numbers_same test read 0 a.positions b.positions alike)
      ∙ sym (exertions_by_number (passing test 0 b.positions))

  exerts_same : (verb : Verb) (target : Target) → exerts a verb target ≡ exerts b verb target
  exerts_same verb target = exertions_same (λ p. is_act verb target p.goal) (act_is_read verb target)

  of_passing : (test : Position → Bool) → IsRead test → (f : ℕ → List Node) → flat_map (λ n. f n.0) (passing test 0 a.positions) ≡ flat_map (λ n. f n.0) (passing test 0 b.positions)
  of_passing test read f =
      by_number f (passing test 0 a.positions)
      ∙ ap (flat_map f) (numbers_same test read 0 a.positions b.positions alike)
      ∙ sym (by_number f (passing test 0 b.positions))

  remedies_same : (violated : Target) → flat_map (λ remedy. obligation_nodes remedy.0) (remedies_of a violated) ≡ flat_map (λ remedy. obligation_nodes remedy.0) (remedies_of b violated)
  remedies_same violated = of_passing (is_remedy violated) (remedy_is_read violated) obligation_nodes

  completion_same : completion_nodes a ≡ completion_nodes b
  completion_same =
      (λ j. flat_map (λ n. obligation_nodes n.0 ++ remedies_same (T.Position n.0) j) (awaited a))
      ∙ of_passing (λ p. is_awaited p.form) awaited_is_read (λ i. obligation_nodes i ++ flat_map (λ remedy. obligation_nodes remedy.0) (remedies_of b (T.Position i)))

  event_same : (kind : Kind) (target : Target) → event_nodes a kind target ≡ event_nodes b kind target
  event_same kind (T.Position i) = of_position kind
    where
      of_position : (kind : Kind) → event_nodes a kind (T.Position i) ≡ event_nodes b kind (T.Position i)
      of_position Exerted = refl
      of_position Triggered = refl
      of_position Activated = refl
      of_position Resumed = refl
      of_position Suspended = refl
      of_position Fulfilled = refl
      of_position Violated = refl
      of_position Expired = refl
      of_position Discharged = refl
      of_position Terminated = refl
      of_position Completed = refl
  event_same kind T.Contract = of_contract kind
    where
      of_contract : (kind : Kind) → event_nodes a kind T.Contract ≡ event_nodes b kind T.Contract
      of_contract Exerted = refl
      of_contract Triggered = refl
      of_contract Activated = refl
      of_contract Resumed = exerts_same Verbs.Resumes T.Contract
      of_contract Suspended = exerts_same Verbs.Suspends T.Contract
      of_contract Fulfilled = refl
      of_contract Violated = refl
      of_contract Expired = refl
      of_contract Discharged = refl
      of_contract Terminated = exerts_same Verbs.Terminates T.Contract
      of_contract Completed = refl

  at_same : (f g : ℕ → Position → List Node) → AreSameRules f g → (k i : ℕ) (ps qs : List Position) → AllSame ps qs → needs_at a f k (slice_get ps i) ≡ needs_at b g k (slice_get qs i)
  at_same f g rules k i [] [] h = refl
  at_same f g rules k i [] (q ∷ qs) h = absurd h
  at_same f g rules k i (p ∷ ps) [] h = absurd h
  at_same f g rules k zero (p ∷ ps) (q ∷ qs) h = rules k p q h.0
  at_same f g rules k (suc i) (p ∷ ps) (q ∷ qs) h = at_same f g rules k i ps qs h.1

  named_same : (events others : List InternalEvent) → events ≡ others → named_nodes a events ≡ named_nodes b others
  named_same events others h = λ j. flat_map (λ event. event_same event.0 event.1 j) (h j)

  trig_same : AreSameRules (trig_needs a) (trig_needs b)
  trig_same i p q h =
      let triggers = exerts_same Verbs.Triggers (T.Position i) in
      let named = named_same (names_of p.trigger) (names_of q.trigger) (trigger_is_read p q h) in
      λ j. triggers j ++ named j

  act_same : AreSameRules (act_needs a) (act_needs b)
  act_same i p q h =
      let named = named_same (names_of p.antecedent) (names_of q.antecedent) (antecedent_is_read p q h) in
      let suspends = exerts_same Verbs.Suspends (T.Position i) in
      let resumes = exerts_same Verbs.Resumes (T.Position i) in
      let form = form_is_read p q h in
      λ j. (Trig i ∷ named j) ++ suspends j ++ resumes j ++ own_exert (form j) i

  end_same : AreSameRules (end_needs a) (end_needs b)
  end_same i p q h =
      let named = named_same (names_of p.antecedent) (names_of q.antecedent) (antecedent_is_read p q h) in
      let duty = named_same (names_of_duty p.goal) (names_of_duty q.goal) (duty_is_read p q h) in
      let discharges = exerts_same Verbs.Discharges (T.Position i) in
      let terminates = exerts_same Verbs.Terminates (T.Position i) in
      let ends = exerts_same Verbs.Terminates T.Contract in
      let form = form_is_read p q h in
      λ j.
      (Trig i ∷ Act i ∷ named j) ++ duty j ++ discharges j ++ terminates j
      ++ (if survives (form j) then [] else ends j) ++ own_exert (form j) i

  needs_same : (node : Node) → needs a node ≡ needs b node
  needs_same (Exert i) = refl
  needs_same (Trig i) = at_same (trig_needs a) (trig_needs b) trig_same i i a.positions b.positions alike
  needs_same (Act i) = at_same (act_needs a) (act_needs b) act_same i i a.positions b.positions alike
  needs_same (End i) = at_same (end_needs a) (end_needs b) end_same i i a.positions b.positions alike
  needs_same Contract =
      let exertions = exertions_same (λ p. acts_on_contract p.goal) contract_act_is_read in
      λ j. exertions j ++ completion_same j

  needs_of_same : (o : Option Node) → numbered_needs_of a o ≡ numbered_needs_of b o
  needs_of_same None = refl
  needs_of_same (Some node) = λ j. map (λ need. position_or_len (same_node need) (same_nodes j)) (needs_same node j)

  pub same_needs : (k : ℕ) → numbered_needs a k ≡ numbered_needs b k
  same_needs k = ap (λ l. numbered_needs_of a (slice_get l k)) same_nodes ∙ needs_of_same (slice_get (nodes b) k)

  pub same_order : order_of a ≡ order_of b
  same_order = λ j. order (λ k. same_needs k j) (length (same_nodes j))

  pub same_acyclic : IsAcyclic (numbered_needs a) (length (nodes a)) → IsAcyclic (numbered_needs b) (length (nodes b))
  same_acyclic acyclic = sym (ap length same_order) ∙ acyclic ∙ ap length same_nodes
