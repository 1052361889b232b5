-- What a narrative has at a point.
use Rattle.std.proofs.Common.{◌≡◌, ◌↔◌, ℕ, ℤ, pos, ◌+ℤ◌, Bool, true, false, cond, not, ◌&&◌, ◌==◌, List, [], ◌∷◌, IsTrue, int_eq, inl, inr, refl, sym, ap, subst, ◌∙◌, true≢false}
use Rattle.std.specs.List.{Contains, list_any}
use Rattle.std.proofs.lemmas.Bool.{and_parts}
use Rattle.std.proofs.lemmas.Bool.Decides.{Decides-eqb, Decides-int_eq}
use Rattle.sy_words.specs.declared.kind.Kind.TheVariants.{Exerted}
use Rattle.sy_core.specs.declared.kind.Target.TheVariants as T
use Rattle.sy_core.specs.declared.event.Ev.TheVariants.{Inner}
use Rattle.sy_core.specs.declared.deed.Deed.{Deed}
use Rattle.sy_core.specs.declared.happening.What.{What}
use Rattle.sy_core.specs.declared.happening.What.TheVariants.{Event, Exert}
use Rattle.sy_core.specs.declared.happening.Happening.{Happening}
use Rattle.sy_core.specs.Chronicle.{at_point, exerts, moment_at}
use Rattle.sy_core.specs.Tables.{is_void}
use Rattle.sy_core.proofs.Members.{Among, among, contained}
use Rattle.sy_quiet.specs.Exactly.{HasExactly}
use Rattle.sy_quiet.proofs.Members.{bool_same, any_in, some_in, any_of_kept}
use Rattle.sy_story.specs.Narratives.{happenings_at}

kept : (point : ℤ) (xs : List Happening) (h : Happening) → Among (happenings_at point xs) h → Among xs h × (h.point ≡ point)
kept point [] h a = absurd a
kept point (x ∷ xs) h a = by (int_eq x.point point) refl (kept point xs h) a
  where
    by : (b : Bool) → int_eq x.point point ≡ b → (Among (happenings_at point xs) h → Among xs h × (h.point ≡ point))
        → Among (cond b (x ∷ happenings_at point xs) (happenings_at point xs)) h → Among (x ∷ xs) h × (h.point ≡ point)
    by true e more (inl same) = (inl same, ap (λ (k : Happening). k.point) (sym same) ∙ (Decides-int_eq x.point point).0 e)
    by true e more (inr a) = let m = more a in (inr m.0, m.1)
    by false e more a = let m = more a in (inr m.0, m.1)

passing : (point : ℤ) (xs : List Happening) (h : Happening) → Among xs h → h.point ≡ point → Among (happenings_at point xs) h
passing point [] h a at = absurd a
passing point (x ∷ xs) h a at = by (int_eq x.point point) refl (λ b. passing point xs h b at) a
  where
    by : (b : Bool) → int_eq x.point point ≡ b → (Among xs h → Among (happenings_at point xs) h) → Among (x ∷ xs) h
        → Among (cond b (x ∷ happenings_at point xs) (happenings_at point xs)) h
    by true e more (inl same) = inl same
    by true e more (inr b) = inr (more b)
    by false e more (inl same) = absurd (true≢false (sym ((Decides-int_eq x.point point).1 (ap (λ (k : Happening). k.point) same ∙ at)) ∙ e))
    by false e more (inr b) = more b

-- what these have at a point is what those have there, where they have the same members
pub has_exactly : (these those : List Happening) (point : ℤ) → ((h : Happening) → Contains these h ↔ Contains those h) → HasExactly those point (happenings_at point these)
has_exactly these those point same = record {
  given = λ h c. let k = kept point these h (among (happenings_at point these) h c) in ((same h).0 (contained these h k.0), k.1);
  all = λ h c at. contained (happenings_at point these) h (passing point these h (among these h ((same h).1 c)) at);
}

pub has_its_own : (narrative : List Happening) (point : ℤ) → HasExactly narrative point (happenings_at point narrative)
has_its_own narrative point = has_exactly narrative narrative point (λ h. (λ c. c, λ c. c))

-- only the exertion of a power exerts it
exerts_is : (i : ℕ) (w : What) → exerts i w ≡ true → w ≡ Exert i
exerts_is i (Exert power) t = ap Exert (sym ((Decides-eqb i power).0 t))
exerts_is i (Event event values) t = absurd (true≢false (sym t))

module _ (narrative : List Happening) (point : ℤ) (i : ℕ) where
  abbrev exertion : Happening
  exertion = record { point = point; what = Exert i }

  abbrev test : Happening → Bool
  test h = int_eq h.point point && exerts i h.what

  there : Contains narrative exertion → list_any test narrative ≡ true
  there c =
      let at : int_eq point point ≡ true = (Decides-int_eq point point).1 refl in
      let own : (i == i) ≡ true = (Decides-eqb i i).1 refl in
      any_in test narrative exertion (among narrative exertion c) (λ j. at j && own j)

  back : list_any test narrative ≡ true → Contains narrative exertion
  back t =
      let s = some_in test narrative t in
      let both = and_parts (int_eq s.0.point point) (exerts i s.0.what) s.2 in
      let same : s.0 ≡ exertion = λ j. record { point = (Decides-int_eq s.0.point point).0 both.0 j; what = exerts_is i s.0.what both.1 j } in
      subst (Contains narrative) same (contained narrative s.0 s.1)

  -- the answer whether the narrative has the exertion of a power at a point
  pub asked_is : (b : Bool) → IsTrue b ↔ Contains narrative exertion → b ≡ list_any (exerts i) (at_point narrative point)
  asked_is b holds =
      bool_same b (list_any test narrative) (λ t. there (holds.0 t)) (λ t. holds.1 (back t))
      ∙ sym (any_of_kept (λ (h : Happening). h.what) (λ h. int_eq h.point point) (exerts i) narrative)

  -- and whether that did nothing there
  pub void_is : (deed : Deed) (n : ℕ) (b exerted : Bool) → IsTrue b ↔ Contains narrative exertion
      → exerted ≡ (moment_at deed narrative n).seen (Inner Exerted (T.Position i)) → point ≡ deed.start +ℤ pos n
      → (b && not exerted) ≡ is_void (moment_at deed narrative n) i
  void_is deed n b exerted holds is at =
      let asks = asked_is b holds ∙ ap (λ (q : ℤ). list_any (exerts i) (at_point narrative q)) at in
      λ j. asks j && not (is j)
