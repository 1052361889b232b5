-- What stands at a point, told in another way: a moment can't tell happenings that are exactly the narrative's there from the narrative's.
use Rattle.std.proofs.Common.{◌≡◌, ℤ, Bool, true, ◌&&◌, List, map, refl, sym, ◌∙◌, int_eq}
use Rattle.std.proofs.Math.Path.{fun_ext}
use Rattle.std.proofs.lemmas.Bool.Decides.{Decides-int_eq, Decides-and}
use Rattle.std.specs.List.{list_any}
use Rattle.sy_words.specs.declared.kind.Kind.{Kind}
use Rattle.sy_core.specs.declared.kind.Target.{Target}
use Rattle.sy_core.specs.declared.event.Ev.{Ev}
use Rattle.sy_core.specs.declared.event.Ev.TheVariants.{Outer, Inner}
use Rattle.sy_core.specs.declared.happening.What.{What}
use Rattle.sy_core.specs.declared.happening.Happening.{Happening}
use Rattle.sy_core.specs.Matching.{matches}
use Rattle.sy_core.specs.Chronicle.{assuming, at_point, exerts, stands}
use Rattle.sy_core.proofs.Members.{among, contained, any_of_all}
use Rattle.sy_quiet.specs.Exactly.{HasExactly}
use Rattle.sy_quiet.proofs.Members.{bool_same, any_in, some_in, any_of_kept}

module _ (narrative : List Happening) (point : ℤ) (at : List Happening) (exact : HasExactly narrative point at) where
  any_same : (p : What → Bool) → list_any p (map (λ h. h.what) at) ≡ list_any p (at_point narrative point)
  any_same p =
      any_of_all (λ h. h.what) p at
      ∙ (bool_same _ _ there back
      ∙ sym (any_of_kept (λ (h : Happening). h.what) (λ h. int_eq h.point point) p narrative))
    where
      there : list_any (λ (h : Happening). p h.what) at ≡ true → list_any (λ (h : Happening). int_eq h.point point && p h.what) narrative ≡ true
      there h =
          let s = some_in (λ (h : Happening). p h.what) at h in
          let g = exact.given s.0 (contained at s.0 s.1) in
          any_in (λ (h : Happening). int_eq h.point point && p h.what) narrative s.0 (among narrative s.0 g.0) ((Decides-and _ _ (Decides-int_eq s.0.point point) (λ q. q, λ q. q)).1 (g.1, s.2))

      back : list_any (λ (h : Happening). int_eq h.point point && p h.what) narrative ≡ true → list_any (λ (h : Happening). p h.what) at ≡ true
      back h =
          let s = some_in (λ (h : Happening). int_eq h.point point && p h.what) narrative h in
          let d = (Decides-and {Q = p s.0.what ≡ true} _ _ (Decides-int_eq s.0.point point) (λ q. q, λ q. q)).0 s.2 in
          any_in (λ (h : Happening). p h.what) at s.0 (among at s.0 (exact.all s.0 (contained narrative s.0 s.1) d.0)) d.1

  -- the happenings that are given make the same moment as those of the narrative
  pub assuming_same : assuming point (map (λ h. h.what) at) ≡ assuming point (at_point narrative point)
  assuming_same = λ j state set. record {
    point = point;
    asked = fun_ext (λ i. any_same (exerts i)) j;
    seen = fun_ext (seen_same set) j;
    state = state;
  }
    where
      seen_same : (set : Kind × Target → Bool) (e : Ev) → stands (map (λ h. h.what) at) set e ≡ stands (at_point narrative point) set e
      seen_same set (Outer event guards) = any_same (matches (Outer event guards))
      seen_same set (Inner kind target) = refl
