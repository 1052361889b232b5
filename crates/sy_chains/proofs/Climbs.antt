-- Walks that leave marks: one step more, and what the walks tell of cycles.
use Rattle.std.proofs.Common.{◌≡◌, ◌≢◌, ℕ, zero, suc, ◌+◌, ◌<◌, ◌≤◌, Bool, true, false, ◌⊎◌, inl, inr, List, [], ◌∷◌, ◌++◌, length, get_or, set, replicate, not, flat_map, Option, Some, None, option_and_then, slice_get, count_by, is_none, is_some, cond, nat_eq, refl, sym, ap, ◌∙◌, subst, arith, get_or-set_same, get_or-set_other}
use Rattle.std.proofs.lemmas.Bool.{cases_eq, cases_lt, cases_Bool, both_ways}
use Rattle.std.proofs.lemmas.Option.{slice_get_within, get_or_from_slice_get}
use Rattle.std.proofs.lemmas.List.{length-set, length-replicate, get_or-replicate}
use Rattle.std.proofs.lemmas.List.Sums.{sum_by-set}
use Rattle.std.proofs.Math.ListN.{get_or-eq_default}
use Rattle.sy_chains.specs.Chains.{Bases, base_at, is_cyclic}
use Rattle.sy_chains.specs.Machine.Walks.{up, Leads, Marks, IsMarked, IsPassed, IsWalk, IsOver, AreWalked}
use Rattle.sy_chains.proofs.Ups.{up_last, one_up, up_then, never_ends, leads_back, leads_on, leads_round, round_within, has_base_within, cyclic_leads, leads_cyclic}

-- a mark is put where there was none
pub fewer_without : (marks : Marks) (n w : ℕ) → slice_get marks n ≡ Some None
    → count_by is_none (set marks n (Some w)) < count_by is_none marks
fewer_without marks n w new =
    let here : get_or marks n None ≡ None = get_or_from_slice_get marks n None None new in
    let e = sum_by-set (λ o. cond (is_none o) 1 0) marks n (Some w) None (slice_get_within marks n None new) in
    let z : ◌≡◌ {A = ℕ} (cond (is_none (get_or marks n None)) 1 0) 1 = ap (λ o. cond (is_none o) 1 0) here in
    omega (arith, e, z)

-- ---- one walk

pub walk_begins : (bases : Bases) (from : ℕ) (marks : Marks) → IsWalk bases from marks marks (Some from)
walk_begins bases from marks = record {
  same_length = refl;
  kept = λ n w e. e;
  passed = λ n w e. inl e;
  start = inr refl;
  reached = (0, refl);
}

module _ (bases : Bases) (from : ℕ) (before marks : Marks) (n : ℕ) (walk : IsWalk bases from before marks (Some n)) (new : slice_get marks n ≡ Some None) where
  within : n < length marks
  within = slice_get_within marks n None new

  here : get_or marks n None ≡ None
  here = get_or_from_slice_get marks n None None new

  marked_here : get_or (set marks n (Some from)) n None ≡ Some from
  marked_here = get_or-set_same marks n (Some from) None within

  other : (m : ℕ) → m ≢ n → get_or (set marks n (Some from)) m None ≡ get_or marks m None
  other m apart = get_or-set_other marks n m (Some from) None apart

  marked_more : (m w : ℕ) → get_or marks m None ≡ Some w → get_or (set marks n (Some from)) m None ≡ Some w
  marked_more m w e =
      elim (cases_eq m n) [
        | inl same ↦ let z : get_or marks m None ≡ None = ap (λ k. get_or marks k None) same ∙ here in cc
        | inr apart ↦ other m apart ∙ e
      ]

  new_here : get_or before n None ≡ None
  new_here = at (get_or before n None) refl
    where
      at : (o : Option ℕ) → get_or before n None ≡ o → get_or before n None ≡ None
      at None e = e
      at (Some w) e = let z = walk.kept n w e in let y = here in cc

  passed_here : (w : ℕ) → get_or (set marks n (Some from)) n None ≡ Some w
      → IsPassed bases from before (set marks n (Some from)) (base_at bases n) n w
  passed_here w e = record {
    by = let z = marked_here in cc;
    new = new_here;
    to_end = (0, one_up bases n);
    from_start = walk.reached;
    goes_on = λ b up. inr up;
  }

  passed_before : (m w : ℕ) → IsPassed bases from before marks (Some n) m w
      → IsPassed bases from before (set marks n (Some from)) (base_at bases n) m w
  passed_before m w p = record {
    by = p.by;
    new = p.new;
    to_end = (suc p.to_end.0, up_last bases (suc p.to_end.0) m n p.to_end.1);
    from_start = p.from_start;
    goes_on = λ b e. elim (p.goes_on b e) [
      | inl marked ↦ inl (marked.0, marked_more b marked.0 marked.1)
      | inr is ↦ inl (from, subst (λ k. get_or (set marks n (Some from)) k None ≡ Some from) (let z : n ≡ b = cc in z) marked_here)
    ];
  }

  passed_more : (m w : ℕ) → get_or (set marks n (Some from)) m None ≡ Some w
      → (get_or before m None ≡ Some w) ⊎ IsPassed bases from before (set marks n (Some from)) (base_at bases n) m w
  passed_more m w e =
      elim (cases_eq m n) [
        | inl same ↦ inr (subst (λ k. get_or (set marks n (Some from)) k None ≡ Some w
            → IsPassed bases from before (set marks n (Some from)) (base_at bases n) k w) (sym same) (passed_here w) e)
        | inr apart ↦ elim (walk.passed m w (sym (other m apart) ∙ e)) [
          | inl old ↦ inl old
          | inr p ↦ inr (passed_before m w p)
        ]
      ]

  pub walk_goes_on : IsWalk bases from before (set marks n (Some from)) (base_at bases n)
  walk_goes_on = record {
    same_length = length-set marks n (Some from) ∙ walk.same_length;
    kept = λ m w e. marked_more m w (walk.kept m w e);
    passed = passed_more;
    start = elim walk.start [
      | inl marked ↦ inl (marked.0, marked_more from marked.0 marked.1)
      | inr is ↦ inl (from, subst (λ k. get_or (set marks n (Some from)) k None ≡ Some from) (let z : n ≡ from = cc in z) marked_here)
    ];
    reached = (suc walk.reached.0, up_last bases walk.reached.0 from n walk.reached.1);
  }

  -- one type fewer has no mark
  pub fewer_left : count_by is_none (set marks n (Some from)) < count_by is_none marks
  fewer_left = fewer_without marks n from new

-- ---- all walks

-- what marks that go on reach has a mark
reaches_marked : (bases : Bases) (marks : Marks)
    → ((n b : ℕ) → IsMarked marks n → base_at bases n ≡ Some b → b < length bases → IsMarked marks b)
    → (k n m : ℕ) → IsMarked marks n → up bases k n ≡ Some m → m < length bases → IsMarked marks m
reaches_marked bases marks on zero n m marked e within = subst (λ k. IsMarked marks k) (let z : n ≡ m = cc in z) marked
reaches_marked bases marks on (suc k) n m marked e within =
    at (base_at bases n) refl (λ b. reaches_marked bases marks on k b m)
  where
    low : (b : ℕ) → up bases k b ≡ Some m → b < length bases
    low b there = first k there
      where
        next : (o : Option ℕ) → base_at bases b ≡ o → (j : ℕ) → option_and_then (up bases j) (base_at bases b) ≡ Some m → b < length bases
        next None f j there = let z = ap (option_and_then (up bases j)) f in cc
        next (Some c) f j there = has_base_within bases b c f

        first : (j : ℕ) → up bases j b ≡ Some m → b < length bases
        first zero there = subst (λ k. k < length bases) (let z : m ≡ b = cc in z) within
        first (suc j) there = next (base_at bases b) refl j there

    at : (o : Option ℕ) → base_at bases n ≡ o → ((b : ℕ) → IsMarked marks b → up bases k b ≡ Some m → m < length bases → IsMarked marks m) → IsMarked marks m
    at None f later = let z : option_and_then (up bases k) (base_at bases n) ≡ None = ap (option_and_then (up bases k)) f in cc
    at (Some b) f later =
        let there : up bases k b ≡ Some m = sym (ap (option_and_then (up bases k)) f) ∙ e in
        later b (on n b marked f (low b there)) there within

no_mark : (len n : ℕ) → ◌≡◌ {A = Option ℕ} (get_or (replicate len None) n None) None
no_mark len n =
    elim (cases_lt n len) [
      | inl less ↦ get_or-replicate len n None None less
      | inr past ↦ get_or-eq_default (replicate len None) None (let e : length (replicate {A = Option ℕ} len None) ≡ len = length-replicate len None in omega arith)
    ]

pub none_marked : (len n : ℕ) → IsMarked (replicate len None) n → ⊥
none_marked len n marked = let e = no_mark len n in let f = marked.1 in cc

pub none_walked : (bases : Bases) → AreWalked bases 0 (replicate (length bases) None) (replicate (length bases) None)
none_walked bases = record {
  marks_length = length-replicate (length bases) None;
  cyclic_length = length-replicate (length bases) None;
  walks = λ n w e. absurd (none_marked (length bases) n (w, e));
  seen = λ n less. absurd (omega arith);
  goes_on = λ n b marked e less. absurd (none_marked (length bases) n marked);
  sound = λ n marked. absurd (none_marked (length bases) n marked);
  complete = λ n marked round. absurd (none_marked (length bases) n marked);
}

module _ (bases : Bases) (from : ℕ) (marks cyclic after : Marks) (end : Option ℕ) (within : from < length bases) (walked : AreWalked bases from marks cyclic) (walk : IsWalk bases from marks after end) (over : IsOver after end) where
  after_length : length after ≡ length bases
  after_length = walk.same_length ∙ walked.marks_length

  still : (n : ℕ) → IsMarked marks n → IsMarked after n
  still n marked = (marked.0, walk.kept n marked.0 marked.1)

  at_end : (n : ℕ) → end ≡ Some n → n < length bases → IsMarked after n
  at_end n e less = over n e (omega (arith, after_length))

  walks_after : (n w : ℕ) → get_or after n None ≡ Some w → w < from + 1
  walks_after n w e = elim (walk.passed n w e) [ inl old ↦ omega (arith, walked.walks n w old) | inr p ↦ omega (arith, p.by) ]

  seen_after : (n : ℕ) → n < from + 1 → IsMarked after n
  seen_after n less =
      elim (cases_lt n from) [
        | inl below ↦ still n (walked.seen n below)
        | inr past ↦ subst (λ k. IsMarked after k) (let z : from ≡ n = omega arith in z) (elim walk.start [ inl marked ↦ marked | inr is ↦ at_end from is within ])
      ]

  on_after : (n b : ℕ) → IsMarked after n → base_at bases n ≡ Some b → b < length bases → IsMarked after b
  on_after n b marked e less =
      elim (walk.passed n marked.0 marked.1) [
        | inl old ↦ still b (walked.goes_on n b (marked.0, old) e less)
        | inr p ↦ elim (p.goes_on b e) [ inl is ↦ is | inr is ↦ at_end b is less ]
      ]

  -- a type on a cycle to which the walk came, where the walk didn't come back to a mark of its own
  out : ((n : ℕ) → end ≡ Some n → get_or after n None ≡ Some from → ⊥)
      → (n w : ℕ) → IsPassed bases from marks after end n w → Leads bases n n → ⊥
  out apart n w p round = at end refl
    where
      to : (m v : ℕ) → end ≡ Some m → Leads bases m n → get_or after m None ≡ Some v → ⊥
      to m v is back e =
          elim (walk.passed m v e) [
            | inl old ↦
                let reached : IsMarked marks n = reaches_marked bases marks walked.goes_on (suc back.0) m n (v, old) back.1 (round_within bases n round) in
                let f = reached.1 in let g = p.new in cc
            | inr q ↦ apart m is (e ∙ ap Some q.by)
          ]

      at : (o : Option ℕ) → end ≡ o → ⊥
      at None is = never_ends bases n (suc p.to_end.0) round (p.to_end.1 ∙ is)
      at (Some m) is =
          let there : up bases (suc p.to_end.0) n ≡ Some m = p.to_end.1 ∙ is in
          let back = leads_back bases n m (suc p.to_end.0) round there in
          let low = round_within bases m (leads_round bases n m (suc p.to_end.0) round there) in
          let marked = at_end m is low in
          to m marked.0 is back marked.1

  pub walked_apart : ((n : ℕ) → end ≡ Some n → get_or after n None ≡ Some from → ⊥) → AreWalked bases (from + 1) after cyclic
  walked_apart apart = record {
    marks_length = after_length;
    cyclic_length = walked.cyclic_length;
    walks = walks_after;
    seen = seen_after;
    goes_on = on_after;
    sound = λ n marked. (still n (walked.sound n marked).0, (walked.sound n marked).1);
    complete = λ n marked round. elim (walk.passed n marked.0 marked.1) [
      | inl old ↦ walked.complete n (marked.0, old) round
      | inr p ↦ absurd (out apart n marked.0 p round)
    ];
  }

  module _ (m : ℕ) (is : end ≡ Some m) (own : get_or after m None ≡ Some from) (told : Marks) (stop : Option ℕ) (tell : IsWalk bases m cyclic told stop) (done : IsOver told stop) where
    met : Leads bases m m
    met = elim (walk.passed m from own) [
      | inl old ↦ absurd (omega (arith, walked.walks m from old))
      | inr p ↦ (p.to_end.0, p.to_end.1 ∙ is)
    ]

    told_length : length told ≡ length bases
    told_length = tell.same_length ∙ walked.cyclic_length

    at_stop : (n : ℕ) → stop ≡ Some n → n < length bases → IsMarked told n
    at_stop n e less = done n e (omega (arith, told_length))

    still_told : (n : ℕ) → IsMarked cyclic n → IsMarked told n
    still_told n marked = (marked.0, tell.kept n marked.0 marked.1)

    sound_after : (n : ℕ) → IsMarked told n → IsMarked after n × Leads bases n n
    sound_after n marked =
        elim (tell.passed n marked.0 marked.1) [
          | inl old ↦ let s = walked.sound n (marked.0, old) in (still n s.0, s.1)
          | inr p ↦
              let round = leads_round bases m n p.from_start.0 met p.from_start.1 in
              (reaches_marked bases after on_after p.from_start.0 m n (from, own) p.from_start.1 (round_within bases n round), round)
        ]

    told_on : (n b : ℕ) → IsMarked told n → base_at bases n ≡ Some b → b < length bases → IsMarked told b
    told_on n b marked e less =
        elim (tell.passed n marked.0 marked.1) [
          | inl old ↦
              let s = walked.sound n (marked.0, old) in
              let round = leads_round bases n b 1 s.1 (one_up bases n ∙ e) in
              still_told b (walked.complete b (walked.goes_on n b s.0 e less) round)
          | inr p ↦ elim (p.goes_on b e) [ inl there ↦ there | inr there ↦ at_stop b there less ]
        ]

    start_told : IsMarked told m
    start_told = elim tell.start [ inl marked ↦ marked | inr there ↦ at_stop m there (round_within bases m met) ]

    complete_after : (n : ℕ) → IsMarked after n → Leads bases n n → IsMarked told n
    complete_after n marked round =
        elim (walk.passed n marked.0 marked.1) [
          | inl old ↦ still_told n (walked.complete n (marked.0, old) round)
          | inr p ↦
              let back = leads_back bases n m (suc p.to_end.0) round (p.to_end.1 ∙ is) in
              reaches_marked bases told told_on (suc back.0) m n start_told back.1 (round_within bases n round)
        ]

    pub walked_round : AreWalked bases (from + 1) after told
    walked_round = record {
      marks_length = after_length;
      cyclic_length = told_length;
      walks = walks_after;
      seen = seen_after;
      goes_on = on_after;
      sound = sound_after;
      complete = complete_after;
    }

-- ---- the end

pub all_told : (bases : Bases) (marks cyclic : Marks) → AreWalked bases (length bases) marks cyclic
    → (n : ℕ) → n < length bases → is_some (get_or cyclic n None) ≡ is_cyclic bases n
all_told bases marks cyclic walked n less = at (get_or cyclic n None) (is_cyclic bases n) refl refl
  where
    at : (o : Option ℕ) (b : Bool) → get_or cyclic n None ≡ o → is_cyclic bases n ≡ b → is_some o ≡ b
    at None false e is = refl
    at (Some w) true e is = refl
    at None true e is =
        let told : IsMarked cyclic n = walked.complete n (walked.seen n less) (cyclic_leads bases n is) in
        let f = told.1 in cc
    at (Some w) false e is =
        absurd (both_ways (is_cyclic bases n) is (leads_cyclic bases n (walked.sound n (w, e)).1))
