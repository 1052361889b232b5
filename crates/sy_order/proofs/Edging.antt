-- The edges of a deed's nodes say exactly what the nodes need.
use Rattle.std.proofs.Common.{◌≡◌, ℕ, zero, suc, ◌+◌, ◌<◌, ◌≤◌, ◌==◌, Bool, true, false, List, [], ◌∷◌, ◌++◌, map, length, drop, get_or, cond, Option, Some, None, slice_get, refl, sym, ◌∙◌, ap, subst, arith, ◌⊎◌, inl, inr, append_assoc, drop-cons}
use Rattle.std.specs.List.{All, flat_map, filter, position_or_len}
use Rattle.std.proofs.lemmas.Bool.{cases_lt}
use Rattle.std.proofs.lemmas.Bool.Decides.{Decides-eqb}
use Rattle.std.proofs.lemmas.Grind.{flat_map-append}
use Rattle.std.proofs.lemmas.List.{append-nil, map-append}
use Rattle.std.proofs.lemmas.List.Elements.{filter-append, All-append, All-map}
use Rattle.std.proofs.lemmas.Option.{slice_get_past}
use Rattle.sy_words.specs.declared.form.Form.{Form}
use Rattle.sy_core.specs.declared.deed.Deed.{Deed}
use Rattle.sy_core.specs.Orders.{numbers_below}
use Rattle.sy_core.specs.Prerequisites as defined
use Rattle.sy_core.specs.Prerequisites.{same_node, nodes, needs, numbered_needs, numbered_needs_of}
use Rattle.sy_core.proofs.Listing.{not_same}
use Rattle.sy_strata.specs.declared.edge.Edge.{Edge}
use Rattle.sy_strata.specs.Edges.{needs_by}
use Rattle.sy_order.specs.declared.node.Node.{Node}
use Rattle.sy_order.specs.declared.node.Node.TheVariants.{Exert}
use Rattle.sy_order.specs.Nodes.{as_defined, nodes_by, number_by, forms_of}
use Rattle.sy_order.specs.Machine.NodeEdges.{edges_to, edges_below}
use Rattle.sy_order.proofs.Numbering.{nodes_are_by_form}

-- one more edge of a node is added
pub edge_added : (forms : List Form) (node : ℕ) (needs : List Node) (i : ℕ) (edges whole : List Edge) → i < length needs → edges ++ edges_to node (map (number_by forms) (map as_defined (drop i needs))) ≡ whole → (edges ++ record { node = node; needs = number_by forms (as_defined (get_or needs i (Exert 0))) } ∷ []) ++ edges_to node (map (number_by forms) (map as_defined (drop (i + 1) needs))) ≡ whole
edge_added forms node needs i edges whole lt h =
    let a : suc i ≡ i + 1 = omega arith in
    let e : drop i needs ≡ get_or needs i (Exert 0) ∷ drop (i + 1) needs = drop-cons needs i (Exert 0) lt ∙ ap (λ k. get_or needs i (Exert 0) ∷ drop k needs) a in
    append_assoc edges _ _ ∙ subst (λ l. edges ++ edges_to node (map (number_by forms) (map as_defined l)) ≡ whole) e h

-- the node's needs, by the numbers of the forms
pub needs_by_forms : (deed : Deed) (forms : List Form) (k : ℕ) (node : defined.Node) → forms ≡ forms_of deed.positions → slice_get (nodes_by forms) k ≡ Some node → numbered_needs deed k ≡ map (number_by forms) (needs deed node)
needs_by_forms deed forms k node same is =
    let e : nodes deed ≡ nodes_by forms = nodes_are_by_form deed ∙ ap nodes_by (sym same) in
    ap (numbered_needs_of deed) (ap (λ l. slice_get l k) e ∙ is) ∙ ap (λ l. map (λ n. position_or_len (same_node n) l) (needs deed node)) e

-- the edges with those of one more node
pub edges_and_node : (deed : Deed) (k : ℕ) → edges_below deed (k + 1) ≡ edges_below deed k ++ edges_to k (numbered_needs deed k)
edges_and_node deed k =
    let a : k + 1 ≡ suc k = omega arith in
    ap (edges_below deed) a
    ∙ (flat_map-append (λ n. edges_to n (numbered_needs deed n)) (numbers_below k) (k ∷ []) ∙ ap (λ l. edges_below deed k ++ l) (append-nil (edges_to k (numbered_needs deed k))))

-- what edges of one node say
needs_by_append : (xs ys : List Edge) (k : ℕ) → needs_by (xs ++ ys) k ≡ needs_by xs k ++ needs_by ys k
needs_by_append xs ys k =
    let kept : Edge → Bool = λ e. e.node == k in
    ap (map (λ e. e.needs)) (filter-append kept xs ys) ∙ map-append (λ e. e.needs) (filter kept xs) (filter kept ys)

needs_by_own : (node : ℕ) (needs : List ℕ) → needs_by (edges_to node needs) node ≡ needs
needs_by_own node [] = refl
needs_by_own node (x ∷ xs) =
    let kept : List Edge = filter (λ e. e.node == node) (edges_to node xs) in
    ap (λ b. map (λ (e : Edge). e.needs) (cond b (record { node = node; needs = x } ∷ kept) kept)) ((Decides-eqb node node).1 refl) ∙ ap (λ l. x ∷ l) (needs_by_own node xs)

needs_by_other : (node : ℕ) (needs : List ℕ) (k : ℕ) → (node ≡ k → ⊥) → needs_by (edges_to node needs) k ≡ []
needs_by_other node [] k ne = refl
needs_by_other node (x ∷ xs) k ne =
    let kept : List Edge = filter (λ e. e.node == k) (edges_to node xs) in
    ap (λ b. map (λ (e : Edge). e.needs) (cond b (record { node = node; needs = x } ∷ kept) kept)) (not_same node k ne) ∙ needs_by_other node xs k ne

module _ (deed : Deed) where
  abbrev both : (n k : ℕ) → needs_by (edges_below deed (suc n)) k ≡ needs_by (edges_below deed n) k ++ needs_by (edges_to n (numbered_needs deed n)) k
  both n k =
      let a : suc n ≡ n + 1 = omega arith in
      ap (λ m. needs_by (edges_below deed m) k) a ∙ (ap (λ l. needs_by l k) (edges_and_node deed n) ∙ needs_by_append (edges_below deed n) (edges_to n (numbered_needs deed n)) k)

  past : (n k : ℕ) → n ≤ k → needs_by (edges_below deed n) k ≡ []
  past zero k le = refl
  past (suc n) k le =
      both n k ∙ (ap (λ l. l ++ needs_by (edges_to n (numbered_needs deed n)) k) (past n k (omega (arith, le))) ∙ needs_by_other n (numbered_needs deed n) k (λ e. omega (arith, e, le)))

  within : (n k : ℕ) → k < n → needs_by (edges_below deed n) k ≡ numbered_needs deed k
  within zero k lt = absurd (omega (arith, lt))
  within (suc n) k lt = elim (cases_lt k n) [
    | inl less ↦
        both n k
        ∙ (ap (λ l. needs_by (edges_below deed n) k ++ l) (needs_by_other n (numbered_needs deed n) k (λ e. omega (arith, e, less))) ∙ (append-nil (needs_by (edges_below deed n) k) ∙ within n k less))
    | inr le ↦
        let same : n ≡ k = omega (arith, lt, le) in
        subst (λ m. needs_by (edges_below deed (suc n)) m ≡ numbered_needs deed m) same
        (both n n ∙ (ap (λ l. l ++ needs_by (edges_to n (numbered_needs deed n)) n) (past n n (omega arith)) ∙ needs_by_own n (numbered_needs deed n)))
  ]

  -- the edges of all nodes say exactly what each needs
  pub edges_say_needs : needs_by (edges_below deed (length (nodes deed))) ≡ numbered_needs deed
  edges_say_needs = λ i k. at k i
    where
      at : (k : ℕ) → needs_by (edges_below deed (length (nodes deed))) k ≡ numbered_needs deed k
      at k = elim (cases_lt k (length (nodes deed))) [
        | inl lt ↦ within (length (nodes deed)) k lt
        | inr le ↦ past (length (nodes deed)) k le ∙ sym (ap (numbered_needs_of deed) (slice_get_past (nodes deed) k le))
      ]

-- what all edges have that are from nodes below a count to their needs
pub edges_have : (P : Edge → Type 0) (deed : Deed) (count : ℕ) → ((k : ℕ) → k < count → All P (edges_to k (numbered_needs deed k))) → All P (edges_below deed count)
edges_have P deed zero h = λ i d lt. absurd (omega (arith, lt))
edges_have P deed (suc n) h =
    let a : n + 1 ≡ suc n = omega arith in
    subst (λ l. All P l) (sym (edges_and_node deed n) ∙ ap (edges_below deed) a)
    (All-append P (edges_below deed n) (edges_to n (numbered_needs deed n)) (edges_have P deed n (λ k lt. h k (omega (arith, lt)))) (h n (omega arith)))

-- both ends of each edge are below the count of nodes, where the needs are
pub ends_below : (deed : Deed) → ((k : ℕ) → All (λ m. m < length (nodes deed)) (numbered_needs deed k)) → All (λ edge. (edge.node < length (nodes deed)) × (edge.needs < length (nodes deed))) (edges_below deed (length (nodes deed)))
ends_below deed below =
    edges_have (λ edge. (edge.node < length (nodes deed)) × (edge.needs < length (nodes deed))) deed (length (nodes deed)) (λ k lt.
    All-map (λ (edge : Edge). (edge.node < length (nodes deed)) × (edge.needs < length (nodes deed))) (λ need. record { node = k; needs = need }) (numbered_needs deed k) (λ i d within. (lt, below k i d within)))

-- what holds of the needs by edges, and of a count, holds of the deed's
pub of_deed : (P : (ℕ → List ℕ) → ℕ → Type 0) (deed : Deed) (edges : List Edge) (count : ℕ) → edges ≡ edges_below deed (length (nodes deed)) → count ≡ length (nodes deed) → P (needs_by edges) count → P (numbered_needs deed) (length (nodes deed))
of_deed P deed edges count are all h =
    subst (λ needs. P needs (length (nodes deed))) (ap needs_by are ∙ edges_say_needs deed) (subst (P (needs_by edges)) all h)
