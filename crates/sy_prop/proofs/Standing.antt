-- Latches that stood for a history stand for the next one.
use Rattle.std.proofs.Common.{◌≡◌, ℕ, suc, ◌-◌, ◌≤◌, ℤ, pos, ◌+ℤ◌, ◌-ℤ◌, ◌<ℤ◌, nat_abs, List, [], ◌∷◌, ◌++◌, map, length, refl, sym, ◌∙◌, ap, subst, arith, append_assoc}
use Rattle.std.proofs.lemmas.Int.{ints}
use Rattle.std.specs.List.{flat_map}
use Rattle.sy_base.specs.Points.{IsDated}
use Rattle.sy_core.specs.declared.position.Goal.{Goal}
use Rattle.sy_core.specs.declared.position.Goal.TheVariants as G
use Rattle.sy_core.specs.declared.position.Position.{Position}
use Rattle.sy_core.specs.declared.deed.Deed.{Deed}
use Rattle.sy_atoms.specs.declared.news.News.{News}
use Rattle.sy_quiet.specs.Histories.{History, passing}
use Rattle.sy_atoms.specs.Histories.{IsOrderly}
use Rattle.sy_atoms.specs.Machine.Told.{telling}
use Rattle.sy_atoms.specs.Machine.Atoms.{passed_to}
use Rattle.sy_atoms.specs.Machine.Steps.{Step, news_step, same_step}
use Rattle.sy_atoms.proofs.Keeping.{orderly_passing}
use Rattle.sy_atoms.proofs.Leading.{news_leads, passing_leads, point_after}
use Rattle.sy_prop.specs.declared.latches.Latches.{Latches}
use Rattle.sy_prop.specs.Machine.Tables.{on_atom}
use Rattle.sy_prop.specs.Machine.Changes.{stay, changes_of, changed, changed_from}
use Rattle.sy_prop.specs.Machine.Deeds.{changes_of_goal, changes_of_position, changes_of_deed}
use Rattle.sy_prop.specs.Standing.{duty_props, position_props, props_of_deed, IsMadeFor, StandsFor}
use Rattle.sy_prop.proofs.Changing.{Change}
use Rattle.sy_prop.proofs.Goes.{from_first, props_told_on, props_alike, props_go}

-- the changes of a deed are those of its propositions
flat_append : {X : Type 0} (f : X → List Change) (xs ys : List X) → flat_map f (xs ++ ys) ≡ flat_map f xs ++ flat_map f ys
flat_append f [] ys = refl
flat_append f (x ∷ xs) ys = ap (λ l. f x ++ l) (flat_append f xs ys) ∙ sym (append_assoc (f x) (flat_map f xs) (flat_map f ys))

append_none : (fs : List Change) → fs ++ [] ≡ fs
append_none [] = refl
append_none (f ∷ fs) = ap (λ l. f ∷ l) (append_none fs)

module _ (step : Step) where
  of_goal : (goal : Goal) → flat_map (changes_of step) (duty_props goal) ≡ changes_of_goal step goal
  of_goal (G.Duty consequent) = append_none (changes_of step consequent)
  of_goal (G.Act act) = refl

  of_position : (p : Position) → flat_map (changes_of step) (position_props p) ≡ changes_of_position step p
  of_position p = ap (λ l. changes_of step p.trigger ++ (changes_of step p.antecedent ++ l)) (of_goal p.goal)

  of_positions : (ps : List Position) → flat_map (changes_of step) (flat_map position_props ps) ≡ flat_map (changes_of_position step) ps
  of_positions [] = refl
  of_positions (p ∷ ps) =
      flat_append (changes_of step) (position_props p) (flat_map position_props ps)
      ∙ (let a = of_position p in let b = of_positions ps in λ j. a j ++ b j)

  pub of_deed : (deed : Deed) → flat_map (changes_of step) (props_of_deed deed) ≡ changes_of_deed step deed
  of_deed deed =
      flat_append (changes_of step) (flat_map position_props deed.positions) deed.posts
      ∙ ap (λ l. l ++ flat_map (changes_of step) deed.posts) (of_positions deed.positions)

  -- the table has room for the changes of its deed
  pub has_room : (latches : Latches) (deed : Deed) (h : History) → StandsFor latches deed h → length (changes_of_deed step deed) ≤ length latches.nodes.items
  has_room latches deed h stands =
      let a = ap length (of_deed deed) in
      let b = ap length stands.kept in
      omega (arith, a, b, props_alike step deed.unit h h (props_of_deed deed) 0)

-- news are told
told_orderly : (news : News) (h : History) → IsOrderly h → IsOrderly (telling news h)
told_orderly (News.Seen what) h o = o
told_orderly (News.Fired kind target) h o = o
told_orderly (News.Set target state) h o = o

told_point : (news : News) (h : History) → h.now.point ≡ (telling news h).now.point
told_point (News.Seen what) h = refl
told_point (News.Fired kind target) h = refl
told_point (News.Set target state) h = refl

module _ (old new : Latches) (deed : Deed) (news : News) (same : new.point ≡ old.point) (roots : new.roots ≡ old.roots) (posts : new.posts ≡ old.posts) (places : new.places ≡ old.places) (takes : new.nodes.items ≡ changed_from 0 (changes_of_deed (news_step deed.unit old.point news) deed) old.nodes.items) where
  pub told_stands : (h : History) → StandsFor old deed h → StandsFor new deed (telling news h)
  told_stands h stands =
      let props = props_of_deed deed in
      record {
        orderly = told_orderly news h stands.orderly;
        at_point = same ∙ (stands.at_point ∙ told_point news h);
        kept =
            takes
            ∙ (from_first (changes_of_deed (news_step deed.unit old.point news) deed) old.nodes.items
            ∙ (ap (λ l. changed l old.nodes.items) (sym (of_deed (news_step deed.unit old.point news) deed))
            ∙ ((λ j. changed (flat_map (changes_of (news_step deed.unit (stands.at_point j) news)) props) (stands.kept j))
            ∙ props_told_on (news_step deed.unit h.now.point news) deed.unit h (telling news h) (news_leads deed.unit h stands.orderly news) props 0)));
        roots = ap (λ v. v.items) roots ∙ stands.roots;
        posts = ap (λ v. v.items) posts ∙ stands.posts;
        places = ap (λ v. v.items) places ∙ stands.places;
      }

  pub told_made : IsMadeFor old deed → IsMadeFor new deed
  told_made made = record {
    told = telling news made.told;
    stands = told_stands made.told made.stands;
    dated = subst (IsDated deed.unit) (sym same) made.dated;
  }

-- how many points later
gap : (p q : ℤ) → p <ℤ q → (m : ℕ) × (nat_abs (q -ℤ p) ≡ suc m) × (p +ℤ pos (suc m) ≡ q)
gap p q lt = (nat_abs (q -ℤ p) - 1, omega (arith, ints, lt), omega (arith, ints, lt))

-- points go by
module _ (old new : Latches) (deed : Deed) (q : ℤ) (lt : old.point <ℤ q) (at : new.point ≡ q) (roots : new.roots ≡ old.roots) (posts : new.posts ≡ old.posts) (places : new.places ≡ old.places) (takes : new.nodes.items ≡ map (on_atom (passed_to old.point (old.point +ℤ pos 1) q)) old.nodes.items) where
  pub passed_stands : (h : History) → StandsFor old deed h → StandsFor new deed (passing (nat_abs (q -ℤ old.point)) h)
  passed_stands h stands =
      let g = gap old.point q lt in
      let m = g.0 in
      let last : q ≡ h.now.point +ℤ pos (suc m) = sym g.2 ∙ ap (λ p. p +ℤ pos (suc m)) stands.at_point in
      subst (λ k. StandsFor new deed (passing k h)) (sym g.1) (record {
        orderly = orderly_passing (suc m) h stands.orderly;
        at_point = at ∙ (last ∙ sym (point_after (suc m) h));
        kept =
            takes
            ∙ ((λ j. map (on_atom (passed_to (stands.at_point j) (stands.at_point j +ℤ pos 1) (last j))) (stands.kept j))
            ∙ props_go deed.unit h (passing (suc m) h) (passed_to h.now.point (h.now.point +ℤ pos 1) (h.now.point +ℤ pos (suc m))) (passing_leads deed.unit h m) (props_of_deed deed) 0);
        roots = ap (λ v. v.items) roots ∙ stands.roots;
        posts = ap (λ v. v.items) posts ∙ stands.posts;
        places = ap (λ v. v.items) places ∙ stands.places;
      })

  pub passed_made : IsDated deed.unit q → IsMadeFor old deed → IsMadeFor new deed
  passed_made dated made = record {
    told = passing (nat_abs (q -ℤ old.point)) made.told;
    stands = passed_stands made.told made.stands;
    dated = subst (IsDated deed.unit) (sym at) dated;
  }

-- other latches become the same
module _ (old new other : Latches) (deed : Deed) (made : IsMadeFor old deed) (made' : IsMadeFor other deed) where
  pub same_size : length old.nodes.items ≡ length other.nodes.items
  same_size =
      let props = props_of_deed deed in
      ap length made.stands.kept
      ∙ (sym (props_alike (same_step stay) deed.unit made.told made.told props 0)
      ∙ (props_alike (same_step stay) deed.unit made'.told made'.told props 0 ∙ sym (ap length made'.stands.kept)))

  module _ (at : new.point ≡ old.point) (nodes : new.nodes.items ≡ old.nodes.items) (roots : new.roots ≡ other.roots) (posts : new.posts ≡ other.posts) (places : new.places ≡ other.places) where
    pub copied_stands : (d : Deed) (h : History) → StandsFor old d h → StandsFor new d h
    copied_stands d h stands = record {
      orderly = stands.orderly;
      at_point = at ∙ stands.at_point;
      kept = nodes ∙ stands.kept;
      roots = ap (λ v. v.items) roots ∙ (made'.stands.roots ∙ (sym made.stands.roots ∙ stands.roots));
      posts = ap (λ v. v.items) posts ∙ (made'.stands.posts ∙ (sym made.stands.posts ∙ stands.posts));
      places = ap (λ v. v.items) places ∙ (made'.stands.places ∙ (sym made.stands.places ∙ stands.places));
    }

    pub copied_made : (d : Deed) → IsMadeFor old d → IsMadeFor new d
    copied_made d m = record {
      told = m.told;
      stands = copied_stands d m.told m.stands;
      dated = subst (IsDated d.unit) (sym at) m.dated;
    }
