-- What is done to some nodes and then to others is done to all.
use Rattle.std.proofs.Common.{◌≡◌, ℕ, zero, suc, ◌+◌, ◌<◌, ◌≤◌, Bool, List, [], ◌∷◌, ◌++◌, map, take, drop, length, get_or, slice_set, refl, sym, ◌∙◌, ap, arith, length-append, drop-cons, add-one}
use Rattle.std.specs.List.{flat_map}
use Rattle.sy_core.specs.declared.proposition.Prop.{Prop}
use Rattle.sy_core.specs.declared.proposition.Prop.TheVariants as Props
use Rattle.sy_core.specs.declared.proposition.Prop.TheVariants.{rolls-All, rolls-Any, rolls-Const, rolls-Not}
use Rattle.sy_core.specs.declared.proposition.Prop.TheOpen as P
use Rattle.sy_core.specs.declared.proposition.Prop.TheFolds.{fold-roll-Prop}
use Rattle.sy_atoms.specs.declared.atom.Atom.{Atom}
use Rattle.sy_atoms.specs.Machine.Steps.{Step}
use Rattle.sy_prop.specs.declared.node.Node.{Node}
use Rattle.sy_prop.specs.declared.node.Node.TheVariants as N
use Rattle.sy_prop.specs.Machine.Tables.{on_atom}
use Rattle.sy_prop.specs.Machine.Changes.{stay, and_join, changes_step, changes_of, changed, changed_from}

abbrev pub Change : Type 0
Change = Atom → Atom

here : (fs gs : List Change) (ns : List Node) → length fs ≤ length ns → take (length fs) (changed fs ns) ++ changed gs (drop (length fs) (changed fs ns)) ≡ changed (fs ++ gs) ns
here [] gs [] le = refl
here [] gs (n ∷ ns) le = refl
here (f ∷ fs) gs [] le = absurd (omega arith)
here (f ∷ fs) gs (n ∷ ns) le = ap (λ r. on_atom f n ∷ r) (here fs gs ns (omega arith))

pub changed_on : (at : ℕ) (fs gs : List Change) (ns : List Node) → at + length fs ≤ length ns → changed_from (at + length fs) gs (changed_from at fs ns) ≡ changed_from at (fs ++ gs) ns
changed_on zero fs gs [] le =
    let e : 0 + length fs ≡ length fs = omega arith in
    ap (λ n. take n (changed fs []) ++ changed gs (drop n (changed fs []))) e ∙ here fs gs [] (omega (arith, le))
changed_on zero fs gs (n ∷ ns) le =
    let e : 0 + length fs ≡ length fs = omega arith in
    ap (λ k. take k (changed fs (n ∷ ns)) ++ changed gs (drop k (changed fs (n ∷ ns)))) e ∙ here fs gs (n ∷ ns) (omega (arith, le))
changed_on (suc at) fs gs [] le = absurd (omega (arith, le))
changed_on (suc at) fs gs (n ∷ ns) le =
    let e : suc at + length fs ≡ suc (at + length fs) = omega arith in
    ap (λ k. take k (n ∷ changed_from at fs ns) ++ changed gs (drop k (n ∷ changed_from at fs ns))) e
    ∙ ap (λ r. n ∷ r) (changed_on at fs gs ns (omega (arith, le)))

stays : (n : Node) → on_atom stay n ≡ n
stays (N.Const b) = refl
stays N.Not = refl
stays (N.Both k) = refl
stays (N.Either k) = refl
stays (N.Atom a) = refl

-- nothing is done to one node
pub stay_changes : (at : ℕ) (ns : List Node) → changed_from at (stay ∷ []) ns ≡ ns
stay_changes zero [] = refl
stay_changes zero (n ∷ ns) = ap (λ x. x ∷ ns) (stays n)
stay_changes (suc at) [] = refl
stay_changes (suc at) (n ∷ ns) = ap (λ r. n ∷ r) (stay_changes at ns)

-- nothing is done to none
pub none_changes : (at : ℕ) (ns : List Node) → changed_from at [] ns ≡ ns
none_changes zero [] = refl
none_changes zero (n ∷ ns) = refl
none_changes (suc at) [] = refl
none_changes (suc at) (n ∷ ns) = ap (λ r. n ∷ r) (none_changes at ns)

-- one node is written
pub one_changed : (f : Change) (at : ℕ) (ns : List Node) (d : Node) → at < length ns → slice_set ns at (on_atom f (get_or ns at d)) ≡ changed_from at (f ∷ []) ns
one_changed f at [] d lt = absurd (omega (arith, lt))
one_changed f zero (n ∷ ns) d lt = refl
one_changed f (suc at) (n ∷ ns) d lt = ap (λ r. n ∷ r) (one_changed f at ns d (omega (arith, lt)))

pub changed_length : (fs : List Change) (ns : List Node) → length (changed fs ns) ≡ length ns
changed_length [] ns = refl
changed_length (f ∷ fs) [] = refl
changed_length (f ∷ fs) (n ∷ ns) = let e = changed_length fs ns in omega (arith, e)

pub changed_from_length : (at : ℕ) (fs : List Change) (ns : List Node) → length (changed_from at fs ns) ≡ length ns
changed_from_length zero fs [] = changed_length fs []
changed_from_length zero fs (n ∷ ns) = changed_length fs (n ∷ ns)
changed_from_length (suc at) fs [] = changed_length fs []
changed_from_length (suc at) fs (n ∷ ns) = let e = changed_from_length at fs ns in omega (arith, e)

-- a node is passed over
pub skips : (at : ℕ) (gs : List Change) (ns : List Node) → at + 1 ≤ length ns → changed_from (at + 1) gs ns ≡ changed_from at (stay ∷ gs) ns
skips at gs ns le = ap (changed_from (at + 1) gs) (sym (stay_changes at ns)) ∙ changed_on at (stay ∷ []) gs ns le

-- what is done to some, and then nothing to one
pub and_skips : (at : ℕ) (fs : List Change) (ns : List Node) → at + length fs ≤ length ns → changed_from at fs ns ≡ changed_from at (fs ++ stay ∷ []) ns
and_skips at fs ns le = sym (stay_changes (at + length fs) (changed_from at fs ns)) ∙ changed_on at fs (stay ∷ []) ns le

-- a loop over items
module _ {X : Type 0} (each : X → List Change) where
  drop_all : (items : List X) (i : ℕ) → length items ≤ i → drop i items ≡ []
  drop_all [] zero le = refl
  drop_all [] (suc i) le = refl
  drop_all (x ∷ xs) zero le = absurd (omega arith)
  drop_all (x ∷ xs) (suc i) le = drop_all xs i (omega arith)

  abbrev pub left : List X → ℕ → List Change
  left items i = flat_map each (drop i items)

  pub none_left : (items : List X) (i : ℕ) → length items ≤ i → left items i ≡ []
  none_left items i le = ap (flat_map each) (drop_all items i le)

  pub one_left : (items : List X) (i : ℕ) (x : X) → i < length items → x ≡ get_or items i x → left items i ≡ each x ++ left items (i + 1)
  one_left items i x lt is =
      let ahead : drop i items ≡ x ∷ drop (i + 1) items = rw add-one (drop-cons items i x lt ∙ ap (λ y. y ∷ drop (suc i) items) (sym is)) in
      ap (flat_map each) ahead

  -- there is room for an item
  pub item_room : (items : List X) (i : ℕ) (x : X) (next : ℕ) (ns : List Node) → i < length items → x ≡ get_or items i x → next + length (left items i) ≤ length ns → next + length (each x) ≤ length ns
  item_room items i x next ns lt is room =
      let size = ap length (one_left items i x lt is) ∙ length-append (each x) (left items (i + 1)) in
      omega (arith, room, size)

  -- one item more
  pub item_goes : (items : List X) (i : ℕ) (x : X) (next next' count : ℕ) (ns ns' whole : List Node) → i < length items → x ≡ get_or items i x → next + length (left items i) ≤ length ns → next + length (left items i) ≡ count → changed_from next (left items i) ns ≡ whole → next' ≡ next + length (each x) → ns' ≡ changed_from next (each x) ns → (next' + length (left items (i + 1)) ≤ length ns') × (next' + length (left items (i + 1)) ≡ count) × (changed_from next' (left items (i + 1)) ns' ≡ whole)
  item_goes items i x next next' count ns ns' whole lt is room counted rest n b =
      let more = left items (i + 1) in
      let all = one_left items i x lt is in
      let size = ap length all ∙ length-append (each x) more in
      let same = ap length b ∙ changed_from_length next (each x) ns in (
        omega (arith, room, size, n, same),
        omega (arith, counted, size, n),
        (λ j. changed_from (n j) more (b j)) ∙ (changed_on next (each x) more ns (omega (arith, room, size)) ∙ (ap (λ l. changed_from next l ns) (sym all) ∙ rest)),
      )

  -- no item more
  pub items_end : (items : List X) (i next count : ℕ) (ns whole : List Node) → length items ≤ i → next + length (left items i) ≡ count → changed_from next (left items i) ns ≡ whole → (next ≡ count) × (ns ≡ whole)
  items_end items i next count ns whole le counted rest =
      let none = none_left items i le in
      let size = ap length none in
      (omega (arith, counted, size), sym (none_changes next ns) ∙ (ap (λ l. changed_from next l ns) (sym none) ∙ rest))

-- propositions with parts
module _ (step : Step) where
  abbrev pub part_changes : Prop → List Change
  part_changes p = and_join (changes_of step p)

  joined_parts : (ps : List Prop) → flat_map and_join (map (changes_of step) ps) ≡ flat_map part_changes ps
  joined_parts [] = refl
  joined_parts (p ∷ ps) = ap (λ l. part_changes p ++ l) (joined_parts ps)

  pub changes-all : (ps : List Prop) → changes_of step (Props.All ps) ≡ stay ∷ flat_map part_changes ps
  changes-all ps = ap (changes_of step) (sym (rolls-All ps)) ∙ (fold-roll-Prop (List Change) (changes_step step) (P.All ps) ∙ ap (λ l. stay ∷ l) (joined_parts ps))

  pub changes-any : (ps : List Prop) → changes_of step (Props.Any ps) ≡ stay ∷ flat_map part_changes ps
  changes-any ps = ap (changes_of step) (sym (rolls-Any ps)) ∙ (fold-roll-Prop (List Change) (changes_step step) (P.Any ps) ∙ ap (λ l. stay ∷ l) (joined_parts ps))

  pub changes-const : (b : Bool) → changes_of step (Props.Const b) ≡ stay ∷ []
  changes-const b = ap (changes_of step) (sym (rolls-Const b)) ∙ fold-roll-Prop (List Change) (changes_step step) (P.Const b)

  pub changes-not : (p : Prop) → changes_of step (Props.Not p) ≡ changes_of step p ++ stay ∷ []
  changes-not p = ap (changes_of step) (sym (rolls-Not p)) ∙ fold-roll-Prop (List Change) (changes_step step) (P.Not p)

  -- the loop over parts begins behind the first node
  pub parts_begin : (items : List Prop) (at : ℕ) (ns : List Node) (q : Prop) → changes_of step q ≡ stay ∷ flat_map part_changes items → at + length (changes_of step q) ≤ length ns → ((at + 1) + length (flat_map part_changes items) ≤ length ns) × ((at + 1) + length (flat_map part_changes items) ≡ at + suc (length (flat_map part_changes items))) × (changed_from (at + 1) (flat_map part_changes items) ns ≡ changed_from at (stay ∷ flat_map part_changes items) ns)
  parts_begin items at ns q e room =
      let size = ap length e in
      (omega (arith, room, size), omega arith, skips at (flat_map part_changes items) ns (omega (arith, room, size)))

  -- there is room for a part and the node behind it
  pub part_room : (items : List Prop) (i : ℕ) (x : Prop) (next : ℕ) (ns : List Node) → i < length items → x ≡ get_or items i x → next + length (left part_changes items i) ≤ length ns → next + length (changes_of step x) + 1 ≤ length ns
  part_room items i x next ns lt is room =
      let size = ap length (one_left part_changes items i x lt is) ∙ length-append (part_changes x) (left part_changes items (i + 1)) in
      omega (arith, room, size, length-append (changes_of step x) (stay ∷ []))

  -- one part more
  pub part_goes : (items : List Prop) (i : ℕ) (x : Prop) (next next' count : ℕ) (ns ns' whole : List Node) → i < length items → x ≡ get_or items i x → next + length (left part_changes items i) ≤ length ns → next + length (left part_changes items i) ≡ count → changed_from next (left part_changes items i) ns ≡ whole → next' ≡ next + length (changes_of step x) → ns' ≡ changed_from next (changes_of step x) ns → ((next' + 1) + length (left part_changes items (i + 1)) ≤ length ns') × ((next' + 1) + length (left part_changes items (i + 1)) ≡ count) × (changed_from (next' + 1) (left part_changes items (i + 1)) ns' ≡ whole)
  part_goes items i x next next' count ns ns' whole lt is room counted rest n b =
      let fits = part_room items i x next ns lt is room in
      item_goes part_changes items i x next (next' + 1) count ns ns' whole lt is room counted rest
      (omega (arith, n, length-append (changes_of step x) (stay ∷ [])))
      (b ∙ and_skips next (changes_of step x) ns (omega (arith, fits)))

  -- no part more
  pub parts_end : (items : List Prop) (i at next : ℕ) (ns old : List Node) (q : Prop) → length items ≤ i → changes_of step q ≡ stay ∷ flat_map part_changes items → next + length (left part_changes items i) ≡ at + suc (length (flat_map part_changes items)) → changed_from next (left part_changes items i) ns ≡ changed_from at (stay ∷ flat_map part_changes items) old → (next ≡ at + length (changes_of step q)) × (ns ≡ changed_from at (changes_of step q) old)
  parts_end items i at next ns old q le e counted rest =
      let done = items_end part_changes items i next (at + suc (length (flat_map part_changes items))) ns (changed_from at (stay ∷ flat_map part_changes items) old) le counted rest in
      (done.0 ∙ ap (λ l. at + length l) (sym e), done.1 ∙ ap (λ l. changed_from at l old) (sym e))

-- what is done to three lists of nodes one after the other
pub three_changed : (at n1 n2 : ℕ) (fs gs hs : List Change) (ns ns1 ns2 ns3 : List Node) → at + length (fs ++ (gs ++ hs)) ≤ length ns → n1 ≡ at + length fs → ns1 ≡ changed_from at fs ns → n2 ≡ n1 + length gs → ns2 ≡ changed_from n1 gs ns1 → ns3 ≡ changed_from n2 hs ns2 → ns3 ≡ changed_from at (fs ++ (gs ++ hs)) ns
three_changed at n1 n2 fs gs hs ns ns1 ns2 ns3 room a first b second third =
    let sizes = length-append fs (gs ++ hs) in
    let sizes' = length-append gs hs in
    let same = ap length first ∙ changed_from_length at fs ns in
    third
    ∙ ((λ j. changed_from (b j) hs (second j))
    ∙ (changed_on n1 gs hs ns1 (omega (arith, room, sizes, sizes', a, same))
    ∙ ((λ j. changed_from (a j) (gs ++ hs) (first j)) ∙ changed_on at fs (gs ++ hs) ns (omega (arith, room, sizes)))))
