-- A text has tokens or one fault: the first byte after which those so far begin no text that has some, or the end.
use Rattle.std.proofs.Common.{◌≡◌, ◌⊎◌, inl, inr, ℕ, ◌+◌, ◌<◌, ◌≤◌, List, [], ◌∷◌, ◌++◌, length, take, drop, Ok, Err, Result, refl, sym, ap, subst, ◌∙◌, append_assoc, arith}
use Rattle.std.specs.Prelude.{IfErr}
use Rattle.std.proofs.lemmas.Bool.{cases_order}
use Rattle.std.proofs.lemmas.List.{drop-take, length-append, length-take-le, take-append-drop, take-append-le}
use Rattle.std.proofs.Math.Seq.{drop-length}
use Rattle.sy_base.specs.declared.refusal.FileKind.{FileKind}
use Rattle.sy_base.specs.declared.refusal.Place.{Place}
use Rattle.sy_base.specs.declared.refusal.Refusal.{Refusal}
use Rattle.sy_base.specs.declared.refusal.Refused.{Refused}
use Rattle.sy_base.specs.declared.refusal.Refused.TheVariants as R
use Rattle.sy_lex.specs.declared.cut.LexFault.{LexFault}
use Rattle.sy_lex.specs.declared.cut.LexFault.TheVariants as F
use Rattle.sy_lex.specs.declared.spot.Spot.{Spot}
use Rattle.sy_lex.specs.declared.step.Step.TheVariants as S
use Rattle.sy_lex.specs.declared.token.Token.{Token}
use Rattle.sy_lex.specs.declared.token.TokenKind.{TokenKind}
use Rattle.sy_lex.specs.Tokens.{Begins, HasText, IsFaultAt, IsFirst, IsLexFault, end_of, first_spot, lex_fault, spot_after, token_at}
use Rattle.sy_lex.specs.Machine.Cutting.{Cut, Gives, cut_at, cut_of, step_at, with_first}
use Rattle.sy_lex.proofs.BadEnds.{IsOne, bad_completes}
use Rattle.sy_lex.proofs.BadSteps.{bad_within}
use Rattle.sy_lex.proofs.Staying.{NoDate, skip_stays, token_stays}
use Rattle.sy_lex.proofs.Steps.{one_step}
use Rattle.sy_lex.proofs.Whole.{Answers, complete, first_moves, first_stands, sound}
use Rattle.sy_lex.proofs.Faulting.{Faults, bad, token, skip, dropped, faults_cut, faults_within, goes, no_date, still_wrong}

-- ---- what was read up to there can be completed

-- cutting succeeds
abbrev Cuts : List ℕ → Type 0
Cuts bytes = (at : Spot) → (tokens : List Token) × (cut_at 0 at bytes ≡ Ok tokens)

empty_cuts : Cuts []
unfolding cut_at
empty_cuts at = ([], refl)

nothing_left : (at : Spot) (text : List ℕ) → cut_at 0 (spot_after at (take (length text) text)) (drop (length text) text) ≡ Ok []
unfolding cut_at
nothing_left at text = rw (drop-length text) refl

token_cuts : (kind : TokenKind) (k : ℕ) (bytes : List ℕ) → IsFirst kind k bytes → Cuts (drop k bytes) → Cuts bytes
token_cuts kind k bytes first cuts at =
    let moves = first_moves kind k bytes first in
    let later = cuts (spot_after at (take k bytes)) in
    (token_at kind k at ∷ later.0, one_step (S.Token kind k) at bytes (omega (arith, moves)) (first_stands kind k bytes first) moves ∙ ap (with_first (token_at kind k at)) later.1)

skip_cuts : (k : ℕ) (bytes : List ℕ) → 0 < k → k ≤ length bytes → step_at bytes ≡ S.Skip k → Cuts (drop k bytes) → Cuts bytes
skip_cuts k bytes some within is cuts at =
    let later = cuts (spot_after at (take k bytes)) in
    (later.0, one_step (S.Skip k) at bytes (omega arith) (sym is) (some, within) ∙ later.1)

-- a skip whose front has other bytes behind it
front_skips : (k : ℕ) (front rest other : List ℕ) → 0 < k → k ≤ length front → step_at (front ++ rest) ≡ S.Skip k → (other ≡ []) ⊎ (k < length front) → step_at (front ++ other) ≡ S.Skip k
front_skips k [] rest other some within is behind = absurd (omega arith)
front_skips k (a ∷ front) rest other some within is behind = skip_stays a k front rest other is within behind

-- a text of one token or comment is cut
one_cuts : (text : List ℕ) → 0 < length text → IsOne text → Cuts text
one_cuts text some (inl (kind, step)) at = (
  token_at kind (length text) at ∷ [],
  one_step (S.Token kind (length text)) at text some (sym step) (some, omega arith) ∙ ap (with_first (token_at kind (length text) at)) (nothing_left at text),
)
one_cuts text some (inr step) at = ([], one_step (S.Skip (length text)) at text some (sym step) (some, omega arith) ∙ nothing_left at text)

abbrev Completed : List ℕ → ℕ → ℕ → Type 0
Completed bytes n m = (more : List ℕ) × ((more ≡ []) ⊎ (0 < m)) × Cuts (take n bytes ++ more)

pub completed : (bytes : List ℕ) (n m : ℕ) → Faults bytes n m → Completed bytes n m
completed bytes n m (bad b rest _ wrong is) = of (bad_completes b m rest wrong)
  where
    of : (more : List ℕ) × (((m ≡ 0) × (more ≡ [])) ⊎ ((0 < m) × IsOne (take m (b ∷ rest) ++ more))) → Completed (b ∷ rest) m m
    of (more, inl (none, nothing)) = (more, inl nothing, subst Cuts (sym (ap (λ (k : ℕ). take k (b ∷ rest) ++ more) none ∙ nothing)) empty_cuts)
    of (more, inr (some, one)) =
        let size = length-take-le m (b ∷ rest) (bad_within b m rest wrong) in
        (more, inr some, one_cuts (take m (b ∷ rest) ++ more) (omega (arith, length-append (take m (b ∷ rest)) more, size)) one)
completed bytes n m (token b rest kind k n' _ is first later) =
    let done = completed (drop k (b ∷ rest)) n' m later in
    let more = done.0 in
    let all = token b rest kind k n' m is first later in
    let within = (faults_within (b ∷ rest) (k + n') m all).0 in
    let over = (faults_within (drop k (b ∷ rest)) n' m later).1 in
    let moves = first_moves kind k (b ∷ rest) first in
    let front = take (k + n') (b ∷ rest) in
    let size : length front ≡ k + n' = length-take-le (k + n') (b ∷ rest) within in
    let whole : b ∷ rest ≡ front ++ drop (k + n') (b ∷ rest) = sym (take-append-drop (k + n') (b ∷ rest)) in
    let here = subst (λ (xs : List ℕ). Faults xs (k + n') m) whole all in
    let behind : (more ≡ []) ⊎ ((k < length front) × NoDate front more) = elim done.1 [
      | inl none ↦ inl none
      | inr some ↦ inr (omega arith, no_date front (drop (k + n') (b ∷ rest)) more (k + n') m here (omega arith) (omega arith))
    ] in
    let stays = token_stays front (drop (k + n') (b ∷ rest)) more kind k (subst (IsFirst kind k) whole first) (omega arith) behind in
    let left : drop k (front ++ more) ≡ take n' (drop k (b ∷ rest)) ++ more = dropped k front more (omega arith) ∙ ap (λ (xs : List ℕ). xs ++ more) (drop-take k n' (b ∷ rest)) in
    (more, done.1, token_cuts kind k (front ++ more) stays (subst Cuts (sym left) done.2))
completed bytes n m (skip b rest k n' _ is some within' later) =
    let done = completed (drop k (b ∷ rest)) n' m later in
    let more = done.0 in
    let all = skip b rest k n' m is some within' later in
    let within = (faults_within (b ∷ rest) (k + n') m all).0 in
    let over = (faults_within (drop k (b ∷ rest)) n' m later).1 in
    let front = take (k + n') (b ∷ rest) in
    let size : length front ≡ k + n' = length-take-le (k + n') (b ∷ rest) within in
    let whole : b ∷ rest ≡ front ++ drop (k + n') (b ∷ rest) = sym (take-append-drop (k + n') (b ∷ rest)) in
    let behind : (more ≡ []) ⊎ (k < length front) = elim done.1 [ inl none ↦ inl none | inr some ↦ inr (omega arith) ] in
    let stays = front_skips k front (drop (k + n') (b ∷ rest)) more some (omega arith) (subst (λ (xs : List ℕ). step_at xs ≡ S.Skip k) whole is) behind in
    let left : drop k (front ++ more) ≡ take n' (drop k (b ∷ rest)) ++ more = dropped k front more (omega arith) ∙ ap (λ (xs : List ℕ). xs ++ more) (drop-take k n' (b ∷ rest)) in
    (more, done.1, skip_cuts k (front ++ more) some (omega (arith, length-append front more)) stays (subst Cuts (sym left) done.2))

-- ---- the fault of a text

module _ (source : List ℕ) where
  fault_at : (n m : ℕ) → Faults source n m → IsFaultAt source n
  fault_at n m faults =
      let done = completed source n m faults in
      let cuts = done.2 first_spot in
      let fails = faults_cut first_spot source n m faults in
      let text = take n source ++ done.0 in
      record {
        within = (faults_within source n m faults).0;
        none = λ tokens has. not_both tokens fails.0 (cut_of source) (complete first_spot source tokens has) fails.1;
        begins = (done.0, cuts.0, sound (length text) first_spot text cuts.0 (omega arith) cuts.1);
        stops = λ within begun. stops within begun;
      }
    where
      not_both : (tokens : List Token) (place : Place) (cut : Cut) → cut ≡ Ok tokens → cut ≡ Err place → ⊥
      not_both tokens place cut ok err = absurd cc

      stops : n < length source → Begins (take (n + 1) source) → ⊥
      stops within (more, tokens, has) =
          let front = take (n + 1) source in
          let still = still_wrong source n m faults front (drop (n + 1) source) more (sym (take-append-drop (n + 1) source)) (length-take-le (n + 1) source (omega arith)) in
          let fails = faults_cut first_spot (front ++ more) n m still in
          not_both tokens fails.0 (cut_of (front ++ more)) (complete first_spot (front ++ more) tokens has) fails.1

  -- where cutting fails stands the fault
  pub cut_fault : (place : Place) → cut_of source ≡ Err place → (n : ℕ) × IsFaultAt source n × (place ≡ end_of (take n source))
  cut_fault place cut = let gone = goes (length source) first_spot source place (omega arith) cut in (gone.0, fault_at gone.0 gone.1 gone.2, gone.3)

  pub text_or_fault : ((tokens : List Token) × HasText tokens source) ⊎ ((n : ℕ) × IsFaultAt source n)
  text_or_fault = of (cut_of source) refl
    where
      of : (cut : Cut) → cut_of source ≡ cut → ((tokens : List Token) × HasText tokens source) ⊎ ((n : ℕ) × IsFaultAt source n)
      of (Ok tokens) e = inl (tokens, sound (length source) first_spot source tokens (omega arith) e)
      of (Err place) e = let found = cut_fault place e in inr (found.0, found.1)

  -- what begins a text begins one with fewer bytes
  begins_less : (n m : ℕ) → n ≤ m → m ≤ length source → Begins (take m source) → Begins (take n source)
  begins_less n m under within (more, tokens, has) =
      let long : length (take m source) ≡ m = length-take-le m source within in
      let front : take n (take m source) ≡ take n source = sym (take-append-le n (take m source) (drop m source) (omega (arith, long))) ∙ ap (take n) (take-append-drop m source) in
      let split : take m source ++ more ≡ take n source ++ (drop n (take m source) ++ more) =
      ap (λ (xs : List ℕ). xs ++ more) (sym (take-append-drop n (take m source)))
      ∙ (append_assoc (take n (take m source)) (drop n (take m source)) more ∙ ap (λ (xs : List ℕ). xs ++ (drop n (take m source) ++ more)) front) in
      (drop n (take m source) ++ more, tokens, subst (HasText tokens) split has)

  not_before : (n m : ℕ) → IsFaultAt source n → IsFaultAt source m → n < m → ⊥
  not_before n m one other before = one.stops (omega (arith, other.within)) (begins_less (n + 1) m (omega arith) other.within other.begins)

  pub one_fault : (n m : ℕ) → IsFaultAt source n → IsFaultAt source m → n ≡ m
  one_fault n m one other = elim (cases_order n m) [
    | inl same ↦ same
    | inr differ ↦ absurd (elim differ [ inl before ↦ not_before n m one other before | inr behind ↦ not_before m n other one behind ])
  ]

  -- two refusals that stand where a fault does are one
  pub one_refusal : (file : FileKind) (refusal other : Refusal) → IsLexFault file source (R.Refusal refusal) → IsLexFault file source (R.Refusal other) → refusal ≡ other
  one_refusal file refusal other (n, one, is) (m, two, is') =
      is ∙ (ap (λ (k : ℕ). lex_fault file (end_of (take k source))) (one_fault n m one two) ∙ sym is')

-- what is answered where it stands
pub is_refused : (file : FileKind) (read : Result (List Token) LexFault) (answer : Result (List Token) Refused) (source : List ℕ)
    → Answers file read answer → Gives read (cut_of source) → IfErr answer (IsLexFault file source)
is_refused file (Ok tokens) answer source answers cut = rw answers tt
is_refused file (Err fault) (Ok tokens) source answers cut = absurd answers
is_refused file (Err F.Memory) (Err refused) source answers cut = rw answers tt
is_refused file (Err (F.At place)) (Err refused) source answers cut =
    let found = cut_fault source place cut in
    rw answers (found.0, found.1, ap (lex_fault file) found.2)
