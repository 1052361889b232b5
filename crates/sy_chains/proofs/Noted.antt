-- Ends of chains that are noted at the types on them: one type more, and what the notes tell.
use Rattle.std.proofs.Common.{◌≡◌, ◌≢◌, ℕ, suc, ◌+◌, ◌<◌, ◌⊎◌, inl, inr, List, [], ◌∷◌, length, get_or, set, replicate, Option, Some, None, slice_get, refl, sym, ap, ◌∙◌, subst, arith, get_or-set_same, get_or-set_other}
use Rattle.std.proofs.lemmas.Bool.{cases_eq, cases_lt}
use Rattle.std.proofs.lemmas.Option.{slice_get_within}
use Rattle.std.proofs.lemmas.List.{length-set, length-replicate}
use Rattle.sy_chains.specs.Chains.{Bases, NoCycle, above, base_at, chain_end, last_or}
use Rattle.sy_chains.specs.Machine.Walks.{Marks, IsMarked, IsOver, up}
use Rattle.sy_chains.specs.Machine.Ends.{AreEnds, AreNoted, IsNoted}
use Rattle.sy_chains.proofs.Climbs.{none_marked}
use Rattle.sy_chains.proofs.Ups.{above_base, above_none, all_end, up_last}

-- a chain ends where the base's does
pub end_of_base : (bases : Bases) (n b : ℕ) → NoCycle bases → base_at bases n ≡ Some b → chain_end bases n ≡ chain_end bases b
end_of_base bases n b none e = ap (last_or n) (above_base bases n b none e)

-- or at the type, where it has no base
pub end_here : (bases : Bases) (n : ℕ) → base_at bases n ≡ None → chain_end bases n ≡ n
end_here bases n e = ap (last_or n) (above_none bases n e)

-- as many steps as there are types come to the end
pub end_at_last : (bases : Bases) (from at k : ℕ) → NoCycle bases → k ≡ length bases → up bases k from ≡ Some at → chain_end bases at ≡ at
end_at_last bases from at k none is e =
    end_here bases at
    (sym (up_last bases k from at e) ∙ ap (λ j. up bases j from) (let z : suc k ≡ suc (length bases) = omega (arith, is) in z) ∙ all_end bases from none)

module _ (bases : Bases) (from end : ℕ) (before ends : Marks) (n : ℕ) (none : NoCycle bases) (noted : IsNoted bases from end before ends (Some n)) (new : slice_get ends n ≡ Some None) where
  marked_here : get_or (set ends n (Some end)) n None ≡ Some end
  marked_here = get_or-set_same ends n (Some end) None (slice_get_within ends n None new)

  other : (m : ℕ) → m ≢ n → get_or (set ends n (Some end)) m None ≡ get_or ends m None
  other m apart = get_or-set_other ends n m (Some end) None apart

  still : (m : ℕ) → IsMarked ends m → IsMarked (set ends n (Some end)) m
  still m marked =
      elim (cases_eq m n) [
        | inl same ↦ (end, subst (λ k. get_or (set ends n (Some end)) k None ≡ Some end) (sym same) marked_here)
        | inr apart ↦ (marked.0, other m apart ∙ marked.1)
      ]

  ends_more : AreEnds bases (set ends n (Some end))
  ends_more m e is =
      elim (cases_eq m n) [
        | inl same ↦
            let here : get_or (set ends n (Some end)) m None ≡ Some end = subst (λ k. get_or (set ends n (Some end)) k None ≡ Some end) (sym same) marked_here in
            let z : e ≡ end = cc in
            z ∙ noted.goes_on n refl ∙ ap (chain_end bases) (sym same)
        | inr apart ↦ noted.ends m e (sym (other m apart) ∙ is)
      ]

  pub noted_more : IsNoted bases from end before (set ends n (Some end)) (base_at bases n)
  noted_more = record {
    same_length = length-set ends n (Some end) ∙ noted.same_length;
    ends = ends_more;
    kept = λ m marked. still m (noted.kept m marked);
    start = elim noted.start [
      | inl marked ↦ inl (still from marked)
      | inr is ↦ inl (end, subst (λ k. get_or (set ends n (Some end)) k None ≡ Some end) (let z : n ≡ from = cc in z) marked_here)
    ];
    goes_on = λ b up. noted.goes_on n refl ∙ end_of_base bases n b none up;
  }

pub note_begins : (bases : Bases) (from end : ℕ) (ends : Marks) → AreEnds bases ends → end ≡ chain_end bases from
    → IsNoted bases from end ends ends (Some from)
note_begins bases from end ends are is = record {
  same_length = refl;
  ends = are;
  kept = λ n marked. marked;
  start = inr refl;
  goes_on = λ n e. is ∙ ap (chain_end bases) (let z : from ≡ n = cc in z);
}

pub none_noted : (bases : Bases) → AreNoted bases 0 (replicate (length bases) None)
none_noted bases = record {
  same_length = length-replicate (length bases) None;
  are_ends = λ n e is. absurd (none_marked (length bases) n (e, is));
  seen = λ n less. absurd (omega arith);
}

pub type_noted : (bases : Bases) (from end : ℕ) (before after : Marks) (at : Option ℕ) → from < length bases
    → AreNoted bases from before → IsNoted bases from end before after at → IsOver after at → AreNoted bases (from + 1) after
type_noted bases from end before after at within noted now over = record {
  same_length = now.same_length ∙ noted.same_length;
  are_ends = now.ends;
  seen = λ n less. elim (cases_lt n from) [
    | inl below ↦ now.kept n (noted.seen n below)
    | inr past ↦ subst (λ k. IsMarked after k) (let z : from ≡ n = omega arith in z) here
  ];
}
  where
    low : from < length after
    low = omega (arith, now.same_length, noted.same_length)

    here : IsMarked after from
    here = elim now.start [ inl marked ↦ marked | inr is ↦ over from is low ]

pub all_noted : (bases : Bases) (ends : Marks) → AreNoted bases (length bases) ends
    → (n : ℕ) → n < length bases → get_or ends n None ≡ Some (chain_end bases n)
all_noted bases ends noted n less =
    let marked = noted.seen n less in
    marked.1 ∙ ap Some (noted.are_ends n marked.0 marked.1)
