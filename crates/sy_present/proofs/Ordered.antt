-- The nodes with some numbers, one number after the other.
use Rattle.std.proofs.Common.{◌≡◌, ℕ, ◌+◌, ◌<◌, ◌≤◌, List, [], ◌∷◌, ◌++◌, length, map, drop, Some, slice_get, get_or, refl, sym, ap, ◌∙◌, append_assoc}
use Rattle.std.proofs.lemmas.List.{drop_more, drop_all, drop-map, length-map}
use Rattle.std.proofs.lemmas.List.Concat.{flat_map-cons}
use Rattle.std.proofs.lemmas.Option.{slice_get_past}
use Rattle.sy_core.specs.declared.deed.Deed.{Deed}
use Rattle.sy_core.specs.Prerequisites.{Node, node_list, nodes, nodes_at}

append_none : {X : Type 0} (xs : List X) → xs ++ [] ≡ xs
append_none [] = refl
append_none (x ∷ xs) = ap (λ l. x ∷ l) (append_none xs)

module _ (deed : Deed) (numbers : List ℕ) where
  -- the next number's node is the first of the rest
  first_at : (k : ℕ) → k < length numbers → nodes_at deed (drop k numbers) ≡ node_list (slice_get (nodes deed) (get_or numbers k 0)) ++ nodes_at deed (drop (k + 1) numbers)
  first_at k lt =
      ap (nodes_at deed) (drop_more numbers k 0 lt)
      ∙ flat_map-cons (λ i. node_list (slice_get (nodes deed) i)) (get_or numbers k 0) (drop (k + 1) numbers)

  -- a number that a node has adds this node
  pub adds_node : (ns all : List Node) (k : ℕ) (n : Node) → k < length numbers → slice_get (nodes deed) (get_or numbers k 0) ≡ Some n
      → ns ++ nodes_at deed (drop k numbers) ≡ all → (ns ++ n ∷ []) ++ nodes_at deed (drop (k + 1) numbers) ≡ all
  adds_node ns all k n lt there e =
      append_assoc ns (n ∷ []) (nodes_at deed (drop (k + 1) numbers))
      ∙ (ap (λ l. ns ++ l) (ap (λ o. node_list o ++ nodes_at deed (drop (k + 1) numbers)) (sym there))
      ∙ (ap (λ l. ns ++ l) (sym (first_at k lt)) ∙ e))

  -- a number that no node has adds none
  pub adds_none : (ns all : List Node) (k : ℕ) → k < length numbers → length (nodes deed) ≤ get_or numbers k 0
      → ns ++ nodes_at deed (drop k numbers) ≡ all → ns ++ nodes_at deed (drop (k + 1) numbers) ≡ all
  adds_none ns all k lt past e =
      ap (λ l. ns ++ l) (ap (λ o. node_list o ++ nodes_at deed (drop (k + 1) numbers)) (sym (slice_get_past (nodes deed) (get_or numbers k 0) past)))
      ∙ (ap (λ l. ns ++ l) (sym (first_at k lt)) ∙ e)

  -- behind the last number there is none
  pub all_added : (ns all : List Node) (k : ℕ) → length numbers ≤ k → ns ++ nodes_at deed (drop k numbers) ≡ all → ns ≡ all
  all_added ns all k past e = sym (append_none ns) ∙ (ap (λ l. ns ++ nodes_at deed l) (sym (drop_all k numbers past)) ∙ e)

-- the item at a place is the first of what the rest is mapped to
pub drop_mapped : {A B : Type 0} (f : A → B) (xs : List A) (ys : List B) (k : ℕ) (x : A) → k < length xs → map f xs ≡ ys → x ≡ get_or xs k x → drop k ys ≡ f x ∷ drop (k + 1) ys
drop_mapped f xs ys k x lt mapped at =
    ap (drop k) (sym mapped)
    ∙ (drop-map f k xs
    ∙ (ap (map f) (drop_more xs k x lt)
    ∙ ((λ j. f (sym at j) ∷ map f (drop (k + 1) xs))
    ∙ ap (λ l. f x ∷ l) (sym (drop-map f (k + 1) xs) ∙ ap (drop (k + 1)) mapped))))

-- lists that are mapped to one and the same are of one length
pub same_length : {A B : Type 0} (f : A → B) (xs others : List A) (ys : List B) → map f xs ≡ ys → map f others ≡ ys → length xs ≡ length others
same_length f xs others ys mapped other_mapped = sym (length-map xs f) ∙ (ap length (mapped ∙ sym other_mapped) ∙ length-map others f)
