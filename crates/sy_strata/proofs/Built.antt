-- The counters after each edge.
use Rattle.std.proofs.Common.{◌≡◌, ℕ, ◌<◌, ◌≤◌, ◌+◌, ◌==◌, Bool, true, false, List, [], ◌∷◌, ◌++◌, length, map, set, get_or, replicate, cond, inl, inr, refl, sym, ◌∙◌, ap, subst, arith, length-append, get_or-set_same, get_or-set_other}
use Rattle.std.specs.List.{filter}
use Rattle.std.proofs.lemmas.Bool.{both_ways, cases_lt}
use Rattle.std.proofs.lemmas.Bool.Decides.{Decides-eqb}
use Rattle.std.proofs.lemmas.List.{append-nil, map-append, length-set, length-map, length-replicate, get_or-replicate, get_or_past}
use Rattle.std.proofs.lemmas.List.Sums.{length-filter, count_by-le-length}
use Rattle.std.proofs.lemmas.List.Elements.{filter-append}
use Rattle.sy_strata.specs.declared.edge.Edge.{Edge}
use Rattle.sy_strata.specs.Edges.{needs_by}
use Rattle.sy_strata.specs.Machine.Counting.{times, AreCounted}
use Rattle.sy_strata.proofs.Tallies.{times_and_one}

one_need : (edge : Edge) (b : Bool) → map (λ e. e.needs) (cond b (edge ∷ []) []) ≡ cond b (edge.needs ∷ []) []
one_need edge true = refl
one_need edge false = refl

-- what one more edge says that a node needs
pub needs_and_one : (edges : List Edge) (edge : Edge) (node : ℕ) → needs_by (edges ++ edge ∷ []) node ≡ needs_by edges node ++ cond (edge.node == node) (edge.needs ∷ []) []
needs_and_one edges edge node =
    let kept : Edge → Bool = λ e. e.node == node in
    ap (map (λ e. e.needs)) (filter-append kept edges (edge ∷ [])) ∙ (map-append (λ e. e.needs) (filter kept edges) (filter kept (edge ∷ [])) ∙ ap (λ more. needs_by edges node ++ more) (one_need edge (edge.node == node)))

times_more : (m need : ℕ) (list : List ℕ) (b : Bool) → times m (list ++ cond b (need ∷ []) []) ≡ times m list + cond b (cond (need == m) 1 0) 0
times_more m need list true = times_and_one m list need
times_more m need list false = let e : times m list + 0 ≡ times m list = omega arith in ap (times m) (append-nil list) ∙ sym e

length_more : (need : ℕ) (list : List ℕ) (b : Bool) → length (list ++ cond b (need ∷ []) []) ≡ length list + cond b 1 0
length_more need list true = length-append list (need ∷ [])
length_more need list false = let e : length list + 0 ≡ length list = omega arith in ap length (append-nil list) ∙ sym e

module _ (needers : List (List ℕ)) (at node k : ℕ) (within : at < length needers) where
  needers_more : (m : ℕ) → times k (get_or (set needers at (get_or needers at [] ++ node ∷ [])) m []) ≡ times k (get_or needers m []) + cond (at == m) (cond (node == k) 1 0) 0
  needers_more m = here (at == m) refl
    where
      row : List ℕ
      row = get_or needers at [] ++ node ∷ []

      here : (b : Bool) → (at == m) ≡ b → times k (get_or (set needers at (get_or needers at [] ++ node ∷ [])) m []) ≡ times k (get_or needers m []) + cond b (cond (node == k) 1 0) 0
      here true same =
          let e : at ≡ m = (Decides-eqb at m).0 same in
          subst (λ n. times k (get_or (set needers at (get_or needers at [] ++ node ∷ [])) n []) ≡ times k (get_or needers n []) + cond (node == k) 1 0) e (ap (times k) (get_or-set_same needers at (get_or needers at [] ++ node ∷ []) [] within) ∙ times_and_one k (get_or needers at []) node)
      here false other =
          let ne : m ≡ at → ⊥ = λ e. both_ways (at == m) other ((Decides-eqb at m).1 (sym e)) in
          let z : times k (get_or needers m []) + 0 ≡ times k (get_or needers m []) = omega arith in
          ap (times k) (get_or-set_other needers at m (get_or needers at [] ++ node ∷ []) [] ne) ∙ sym z

unmet_more : (unmet : List ℕ) (at k : ℕ) → at < length unmet → get_or (set unmet at (get_or unmet at 0 + 1)) k 0 ≡ get_or unmet k 0 + cond (at == k) 1 0
unmet_more unmet at k within = here (at == k) refl
  where
    here : (b : Bool) → (at == k) ≡ b → get_or (set unmet at (get_or unmet at 0 + 1)) k 0 ≡ get_or unmet k 0 + cond b 1 0
    here true same =
        subst (λ n. get_or (set unmet at (get_or unmet at 0 + 1)) n 0 ≡ get_or unmet n 0 + 1) ((Decides-eqb at k).0 same) (get_or-set_same unmet at (get_or unmet at 0 + 1) 0 within)
    here false other =
        let ne : k ≡ at → ⊥ = λ e. both_ways (at == k) other ((Decides-eqb at k).1 (sym e)) in
        let z : get_or unmet k 0 + 0 ≡ get_or unmet k 0 = omega arith in
        get_or-set_other unmet at k (get_or unmet at 0 + 1) 0 ne ∙ sym z

both_swapped : (a b : Bool) → ◌≡◌ {A = ℕ} (cond a (cond b 1 0) 0) (cond b (cond a 1 0) 0)
both_swapped true true = refl
both_swapped true false = refl
both_swapped false true = refl
both_swapped false false = refl

-- one more edge is counted
pub counted_more : (count : ℕ) (edges : List Edge) (edge : Edge) (needers : List (List ℕ)) (unmet : List ℕ) → edge.node < count → edge.needs < count → AreCounted count edges needers unmet → AreCounted count (edges ++ edge ∷ []) (set needers edge.needs (get_or needers edge.needs [] ++ edge.node ∷ [])) (set unmet edge.node (get_or unmet edge.node 0 + 1))
counted_more count edges edge needers unmet node needs so_far = record {
  needers_length = length-set needers edge.needs (get_or needers edge.needs [] ++ edge.node ∷ []) ∙ so_far.needers_length;
  unmet_length = length-set unmet edge.node (get_or unmet edge.node 0 + 1) ∙ so_far.unmet_length;
  needers_are = λ k m.
      let a = needers_more needers edge.needs edge.node k (omega (arith, so_far.needers_length, needs)) m in
      let b = so_far.needers_are k m in
      let d = both_swapped (edge.needs == m) (edge.node == k) in
      let e = ap (times m) (needs_and_one edges edge k) ∙ times_more m edge.needs (needs_by edges k) (edge.node == k) in
      a ∙ (ap (λ t. t + cond (edge.needs == m) (cond (edge.node == k) 1 0) 0) b ∙ (ap (λ t. times m (needs_by edges k) + t) d ∙ sym e));
  unmet_are = λ k.
      let a = unmet_more unmet edge.node k (omega (arith, so_far.unmet_length, node)) in
      let e = ap length (needs_and_one edges edge k) ∙ length_more edge.needs (needs_by edges k) (edge.node == k) in
      a ∙ (ap (λ t. t + cond (edge.node == k) 1 0) (so_far.unmet_are k) ∙ sym e);
}

same_everywhere : {X : Type 0} (count : ℕ) (x : X) (k : ℕ) → get_or (replicate count x) k x ≡ x
same_everywhere count x k = elim (cases_lt k count) [
  | inl lt ↦ get_or-replicate count k x x lt
  | inr le ↦ get_or_past (replicate count x) k x (omega (arith, length-replicate count x, le))
]

-- no edge is counted at first
pub none_counted : (count : ℕ) → AreCounted count [] (replicate count []) (replicate count 0)
none_counted count = record {
  needers_length = length-replicate count [];
  unmet_length = length-replicate count 0;
  needers_are = λ k m. ap (times k) (same_everywhere count [] m);
  unmet_are = λ k. same_everywhere count 0 k;
}

-- a node needs no more than there are edges
pub few_needs : (edges : List Edge) (node : ℕ) → length (needs_by edges node) ≤ length edges
few_needs edges node =
    let a = length-map (filter (λ e. e.node == node) edges) (λ e. e.needs) in
    let b = length-filter (λ (e : Edge). e.node == node) edges in
    let d = count_by-le-length (λ (e : Edge). e.node == node) edges in
    omega (arith, a, b, d)
