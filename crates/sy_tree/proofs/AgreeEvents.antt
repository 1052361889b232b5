-- The rules of events, situations and dates and what reads them agree.
use Rattle.std.proofs.Common.{◌≡◌, ◌⊎◌, inl, inr, ◌<◌, Bool, true, false, List, [], ◌∷◌, Option, Some, None, IfSome, refl, ap, subst, ◌∙◌, arith, rules}
use Rattle.std.proofs.lemmas.Bool.{cond_both, or_cases}
use Rattle.std.specs.List.{find}
use denote.Enum.Bare.{sameb, same_true}
use Rattle.sy_base.specs.Measures.{measures}
use Rattle.sy_base.specs.declared.time.Measure.{Measure}
use Rattle.sy_base.specs.declared.time.Measure.TheVariants as M
use Rattle.sy_words.specs.declared.comparison.Cmp.{Cmp}
use Rattle.sy_words.specs.declared.comparison.Cmp.TheVariants as C
use Rattle.sy_words.specs.declared.kind.Kind.{Kind}
use Rattle.sy_words.specs.declared.kind.Kind.TheVariants as E
use Rattle.sy_lex.specs.contracts.keyword.Keyword.{the_type as the_keywords}
use Rattle.sy_lex.specs.declared.keyword.Keyword.{Keyword}
use Rattle.sy_lex.specs.declared.keyword.Keyword.TheVariants as K
use Rattle.sy_lex.specs.declared.sign.Sign.{Sign}
use Rattle.sy_lex.specs.declared.sign.Sign.TheVariants as Sg
use Rattle.sy_lex.specs.declared.sign.Sign.TheVariants.{Open, Close, OpenBracket, CloseBracket, Plus}
use Rattle.sy_lex.specs.declared.token.TokenKind.{TokenKind}
use Rattle.sy_lex.specs.declared.token.TokenKind.TheVariants as S
use Rattle.sy_tree.specs.declared.target.TargetTree.TheVariants as Target
use Rattle.sy_tree.specs.declared.date.MomentTree.TheVariants as Moment
use Rattle.sy_tree.specs.declared.date.CountTree.TheVariants as Count
use Rattle.sy_tree.specs.declared.date.MeasureTree.{MeasureTree}
use Rattle.sy_tree.specs.declared.proposition.EventTree.{EventTree}
use Rattle.sy_tree.specs.declared.proposition.EventTree.TheVariants as Event
use Rattle.sy_tree.specs.declared.proposition.GuardTree.{GuardTree}
use Rattle.sy_lex.specs.declared.written.Written.{Written}
use Rattle.sy_lex.specs.Keywords.{singular_keyword, plural_keyword}
use Rattle.sy_lex.specs.Lexemes.{Lexeme}
use Rattle.sy_reader.specs.Grammar as grammar
use Rattle.sy_reader.specs.Grammar.{Rule, spelled, token, sign, keyword, between, listed}
use Rattle.sy_tree.specs.Terms.{path, compares, cmp, target, guard, kind_word, event, situation, measure, duration, moment, date}
use Rattle.sy_reader.specs.Machine.Reading as reader
use Rattle.sy_reader.specs.Machine.Reading.{Reading, give, fail, sign_at, by_next, between_at, listed_at}
use Rattle.sy_tree.specs.Machine.ReadingTerms.{cmp_by, cmp_at, target_at, guard_at, guards_at, declared_at, kind_of_token, next_kind, internal_or_declared, event_at, equality_at, situation_at, names_measure, measure_of_word, measured_at, measure_by, measure_at, count_at, duration_at, moment_by, moment_at, date_at}
use Rattle.sy_reader.proofs.Agree.{Agrees, Any, Begins, spelled_agrees, weaker_agrees, anywhere, same_agrees, reads_agrees, swap_agrees, then_agrees, then_any, node_agrees, token_agrees, keyword_agrees, sign_agrees, behind_agrees, before_agrees, before_any, begins_then, begins_or, begins_as, token_begins, keyword_begins, sign_begins}
use Rattle.sy_reader.proofs.AgreeMany.{Ends, Without, rank, ends_at, ends_next, ends_without, loop_behind, first_and_few, listed_agrees}
use Rattle.sy_reader.proofs.AgreeChoices.{Branches, branch, case, case_at, tagged, same_branches, ◌or◌, by_next_agrees, token_case, optional_agrees, either_agrees}
use Rattle.sy_tree.proofs.AgreeTerms.{path_agrees, path_begins, rhs_agrees}

pub compares_agrees : (s : Sign) (c : Cmp) → Agrees (compares s c) (reader.◌>>=◌ (sign_at s) λ place. give (record { cmp = c; place = place })) Any
compares_agrees s c = then_any (sign_agrees s) λ place. spelled_agrees _

abbrev pub cmp_branches : Branches cmp cmp_by Any
cmp_branches =
    case (begins_then (sign_begins Sg.Equal)) (compares_agrees Sg.Equal C.Eq) or case (begins_then (sign_begins Sg.NotEqual)) (compares_agrees Sg.NotEqual C.Ne) or case (begins_then (sign_begins Sg.Less)) (compares_agrees Sg.Less C.Lt)
    or case (begins_then (sign_begins Sg.AtMost)) (compares_agrees Sg.AtMost C.Le) or case (begins_then (sign_begins Sg.Greater)) (compares_agrees Sg.Greater C.Gt) or case (begins_then (sign_begins Sg.AtLeast)) (compares_agrees Sg.AtLeast C.Ge)

pub cmp_covers : (s : TokenKind) → cmp_branches.Here s ⊎ (cmp_by s ≡ fail)
cmp_covers (S.Sign Sg.Equal) = inl (inl (inl (inl (inl (inl refl)))))
cmp_covers (S.Sign Sg.NotEqual) = inl (inl (inl (inl (inl (inr refl)))))
cmp_covers (S.Sign Sg.Less) = inl (inl (inl (inl (inr refl))))
cmp_covers (S.Sign Sg.AtMost) = inl (inl (inl (inr refl)))
cmp_covers (S.Sign Sg.Greater) = inl (inl (inr refl))
cmp_covers (S.Sign Sg.AtLeast) = inl (inr refl)
cmp_covers s = inr refl

pub cmp_agrees : Agrees cmp cmp_at Any
unfolding cmp_at
cmp_agrees = by_next_agrees cmp_branches cmp_covers

compares_begins : (s : Sign) (c : Cmp) → 3 < rank (S.Sign s) → Begins (compares s c) (λ kind. 3 < rank kind)
compares_begins s c above = begins_then (begins_as (sign_begins s) above)

pub cmp_begins : Begins cmp (λ kind. 3 < rank kind)
cmp_begins = begins_or (begins_or (begins_or (begins_or (begins_or (compares_begins Sg.Equal C.Eq (omega arith)) (compares_begins Sg.NotEqual C.Ne (omega arith))) (compares_begins Sg.Less C.Lt (omega arith)))
    (compares_begins Sg.AtMost C.Le (omega arith))) (compares_begins Sg.Greater C.Gt (omega arith))) (compares_begins Sg.AtLeast C.Ge (omega arith))

pub target_agrees : Agrees target target_at Any
unfolding target_at
target_agrees = either_agrees (S.Reserved K.ThisContract) (begins_as (begins_then (token_begins S.Word)) refl) (begins_then (keyword_begins K.ThisContract)) (token_case S.Word Target.Named) (node_agrees Target.Contract (keyword_agrees K.ThisContract))

guard_agrees : Agrees guard guard_at (Ends 3)
unfolding guard_at
guard_agrees = then_any (token_agrees S.Word) λ name. then_any cmp_agrees λ cmp. node_agrees (λ value. record { name = name; cmp = cmp; value = value }) rhs_agrees

abbrev pub guarded : Rule (List GuardTree)
guarded = between OpenBracket (listed guard) CloseBracket

guarded_agrees : Agrees guarded (between_at OpenBracket (listed_at guard_at) CloseBracket) Any
guarded_agrees = behind_agrees OpenBracket (before_agrees CloseBracket (listed_agrees 3 (omega arith) guard_agrees) (ends_at 6 (S.Sign CloseBracket) (omega arith)))

guards_agree : Agrees (grammar.◌or◌ guarded (spelled [])) guards_at (Without (S.Sign OpenBracket))
guards_agree = optional_agrees (S.Sign OpenBracket) [] (begins_then (sign_begins OpenBracket)) (anywhere guarded_agrees) (λ rest f. f)

-- an event with guards or without
abbrev pub declared : Rule EventTree
declared = grammar.◌>>=◌ (token S.Word) λ name. grammar.◌>>=◌ (grammar.◌or◌ guarded (spelled [])) λ guards. spelled (Event.Declared name guards)

pub declared_agrees : Agrees declared declared_at (Ends 1)
declared_agrees = then_any (token_agrees S.Word) λ name. node_agrees (Event.Declared name) (weaker_agrees guards_agree (ends_without 1 (S.Sign OpenBracket) (omega arith)))

abbrev pub internal : Kind → Rule EventTree
internal kind = grammar.◌>>=◌ (keyword (kind_word kind)) λ place. grammar.◌>>=◌ (between Open target Close) λ target. spelled (Event.Internal kind place target)

abbrev pub internal_at : Kind → Reading EventTree
internal_at kind = internal_or_declared (Some (kind, kind_word kind))

pub internal_agrees : (kind : Kind) → Agrees (internal kind) (internal_at kind) (Ends 1)
internal_agrees kind = then_any (keyword_agrees (kind_word kind)) λ place. anywhere (node_agrees (Event.Internal kind place) (behind_agrees Open (before_any Close target_agrees)))

abbrev pub event_by : TokenKind → Reading EventTree
event_by kind = internal_or_declared (kind_of_token kind)

pub internal_by : (kind : Kind) → event_by (S.Reserved (kind_word kind)) ≡ internal_at kind
internal_by E.Exerted = refl
internal_by E.Triggered = refl
internal_by E.Activated = refl
internal_by E.Resumed = refl
internal_by E.Suspended = refl
internal_by E.Fulfilled = refl
internal_by E.Violated = refl
internal_by E.Expired = refl
internal_by E.Discharged = refl
internal_by E.Terminated = refl
internal_by E.Completed = refl

abbrev pub some_internal : Rule EventTree
some_internal from x rest = (kind : Kind) × internal kind from x rest

abbrev pub event_branches : Branches (grammar.◌or◌ declared some_internal) event_by (Ends 1)
event_branches = case_at (begins_then (token_begins S.Word)) declared_agrees or tagged internal_at (λ kind. S.Reserved (kind_word kind)) (λ kind. begins_then (keyword_begins (kind_word kind))) internal_by internal_agrees

pub event_covers : (s : TokenKind) → event_branches.Here s ⊎ (event_by s ≡ fail)
event_covers (S.Reserved K.Exerted) = inl (inr (E.Exerted, refl))
event_covers (S.Reserved K.Triggered) = inl (inr (E.Triggered, refl))
event_covers (S.Reserved K.Activated) = inl (inr (E.Activated, refl))
event_covers (S.Reserved K.Resumed) = inl (inr (E.Resumed, refl))
event_covers (S.Reserved K.Suspended) = inl (inr (E.Suspended, refl))
event_covers (S.Reserved K.Fulfilled) = inl (inr (E.Fulfilled, refl))
event_covers (S.Reserved K.Violated) = inl (inr (E.Violated, refl))
event_covers (S.Reserved K.Expired) = inl (inr (E.Expired, refl))
event_covers (S.Reserved K.Discharged) = inl (inr (E.Discharged, refl))
event_covers (S.Reserved K.Terminated) = inl (inr (E.Terminated, refl))
event_covers (S.Reserved K.Completed) = inl (inr (E.Completed, refl))
event_covers s = inl (inl refl)

-- the two forms of the rule for events
pub event_to : (from : List Lexeme) (x : EventTree) (rest : List Lexeme) → grammar.◌or◌ declared some_internal from x rest → event from x rest
event_to from x rest (inl (name, mid, d, (guards, after, inl d', e))) = inl (inr (name, mid, d, (guards, after, d', e)))
event_to from x rest (inl (name, mid, d, (guards, after, inr none, e))) = inl (inl (name, mid, d, (ap (Event.Declared name) none.0 ∙ e.0, none.1 ∙ e.1)))
event_to from x rest (inr (kind, (place, mid, d, d'))) = inr ((kind, place), mid, d, d')

pub event_back : (from : List Lexeme) (x : EventTree) (rest : List Lexeme) → event from x rest → grammar.◌or◌ declared some_internal from x rest
event_back from x rest (inl (inl (name, mid, d, e))) = inl (name, mid, d, ([], mid, inr (refl, refl), e))
event_back from x rest (inl (inr (name, mid, d, (guards, after, d', e)))) = inl (name, mid, d, (guards, after, inl d', e))
event_back from x rest (inr (kind, mid, d, d')) = inr (kind.0, (kind.1, mid, d, d'))

-- an event is read by the kind of the next lexeme
pub event_by_next : (from : List Lexeme) → internal_or_declared (next_kind from) from ≡ by_next event_by from
event_by_next [] = refl
event_by_next (l ∷ ls) = refl

pub event_agrees : Agrees event event_at (Ends 1)
unfolding event_at
event_agrees = reads_agrees (same_agrees (by_next_agrees event_branches event_covers) event_to event_back) event_by_next

equality_agrees : Agrees (grammar.◌or◌ (grammar.◌>>=◌ (sign Sg.Equal) λ _. spelled true) (grammar.◌>>=◌ (sign Sg.NotEqual) λ _. spelled false)) equality_at Any
equality_agrees = either_agrees (S.Sign Sg.NotEqual) (begins_as (begins_then (sign_begins Sg.Equal)) refl) (begins_then (sign_begins Sg.NotEqual)) (then_any (sign_agrees Sg.Equal) λ _. spelled_agrees true) (then_any (sign_agrees Sg.NotEqual) λ _. spelled_agrees false)

pub situation_agrees : Agrees situation situation_at Any
unfolding situation_at
situation_agrees = then_any (keyword_agrees K.State) λ place. then_any (behind_agrees Open (before_any Close target_agrees)) λ target. then_any equality_agrees λ equal. node_agrees (λ state. record { place = place; target = target; equal = equal; state = state }) (token_agrees S.Word)

-- ---- a measure by one of its two words

abbrev pub measure_of : Measure → Written → MeasureTree
measure_of measure word = record { measure = measure; word = word }

-- some measure, by the word that it has here
abbrev pub named_by : (Measure → Keyword) → Rule MeasureTree
named_by word from x rest =
    (m : Measure) × grammar.◌>>=◌ (token (S.Reserved (word m))) (λ w. spelled (measure_of m w)) from x rest

named_to : (word : Measure → Keyword) (from : List Lexeme) (x : MeasureTree) (rest : List Lexeme)
    → named_by word from x rest → token (S.Reserved (word x.measure)) from x.word rest
named_to word from x rest (m, (w, mid, d, e)) =
    subst (λ (y : MeasureTree). token (S.Reserved (word y.measure)) from y.word rest) e.0
    (subst (token (S.Reserved (word m)) from w) e.1 d)

named_back : (word : Measure → Keyword) (from : List Lexeme) (x : MeasureTree) (rest : List Lexeme)
    → token (S.Reserved (word x.measure)) from x.word rest → named_by word from x rest
named_back word from x rest d = (x.measure, (x.word, rest, d, (refl, refl)))

pub measure_to : (from : List Lexeme) (x : MeasureTree) (rest : List Lexeme)
    → grammar.◌or◌ (named_by singular_keyword) (named_by plural_keyword) from x rest → measure from x rest
measure_to from x rest (inl d) = inl (named_to singular_keyword from x rest d)
measure_to from x rest (inr d) = inr (named_to plural_keyword from x rest d)

pub measure_back : (from : List Lexeme) (x : MeasureTree) (rest : List Lexeme)
    → measure from x rest → grammar.◌or◌ (named_by singular_keyword) (named_by plural_keyword) from x rest
measure_back from x rest (inl d) = inl (named_back singular_keyword from x rest d)
measure_back from x rest (inr d) = inr (named_back plural_keyword from x rest d)

-- each of them is read by either word: the second equation is checked at each of the other measures
pub singular_by : (m : Measure) → measure_by (S.Reserved (singular_keyword m)) ≡ measured_at (Some m) (singular_keyword m)
unfolding measure_of_word
singular_by M.Minutes = refl
singular_by m = refl

pub plural_by : (m : Measure) → measure_by (S.Reserved (plural_keyword m)) ≡ measured_at (Some m) (plural_keyword m)
unfolding measure_of_word
plural_by M.Minutes = refl
plural_by m = refl

abbrev pub named_branches : (word : Measure → Keyword)
    → ((m : Measure) → measure_by (S.Reserved (word m)) ≡ measured_at (Some m) (word m))
    → Branches (named_by word) measure_by Any
named_branches word by =
    tagged (λ m. measured_at (Some m) (word m)) (λ m. S.Reserved (word m)) (λ m. begins_then (token_begins (S.Reserved (word m)))) by
    (λ m. token_case (S.Reserved (word m)) (measure_of m))

abbrev pub measure_branches : Branches measure measure_by Any
measure_branches =
    same_branches (named_branches singular_keyword singular_by or named_branches plural_keyword plural_by) measure_to measure_back

-- what is found passes the test
found : {X : Type 0} (test : X → Bool) (xs : List X) → IfSome (find test xs) (λ x. test x ≡ true)
found test [] = tt
found test (x ∷ xs) =
    cond_both (test x) (Some x) (find test xs) (λ o. IfSome o (λ y. test y ≡ true)) (λ passed. passed) (λ _. found test xs)

is_named : (word : Keyword) (m : Measure) → names_measure word m ≡ true → (word ≡ singular_keyword m) ⊎ (word ≡ plural_keyword m)
is_named word m names =
    elim (or_cases (sameb the_keywords word (singular_keyword m)) (sameb the_keywords word (plural_keyword m)) names) [
      | inl one ↦ inl (same_true the_keywords (search rules) word (singular_keyword m) one)
      | inr several ↦ inr (same_true the_keywords (search rules) word (plural_keyword m) several)
    ]

pub measure_covers : (s : TokenKind) → measure_branches.Here s ⊎ (measure_by s ≡ fail)
unfolding measure_of_word
measure_covers (S.Reserved word) = covers (measure_of_word word) refl (found (names_measure word) measures)
  where
    by_its_word : (m : Measure) → measure_of_word word ≡ Some m → (word ≡ singular_keyword m) ⊎ (word ≡ plural_keyword m)
        → measure_branches.Here (S.Reserved word)
    by_its_word m e (inl same) = inl (m, ap (λ n. measured_at n word) e ∙ ap (measured_at (Some m)) same)
    by_its_word m e (inr same) = inr (m, ap (λ n. measured_at n word) e ∙ ap (measured_at (Some m)) same)

    covers : (named : Option Measure) → measure_of_word word ≡ named → IfSome named (λ m. names_measure word m ≡ true)
        → measure_branches.Here (S.Reserved word) ⊎ (measure_by (S.Reserved word) ≡ fail)
    covers None e names = inr (ap (λ n. measured_at n word) e)
    covers (Some m) e names = inl (by_its_word m e (is_named word m names))
measure_covers s = inr refl

measure_agrees : Agrees measure measure_at Any
unfolding measure_at
measure_agrees = by_next_agrees measure_branches measure_covers

singular_rank : (m : Measure) → 1 < rank (S.Reserved (singular_keyword m))
singular_rank M.Minutes = omega arith
singular_rank m = omega arith

plural_rank : (m : Measure) → 1 < rank (S.Reserved (plural_keyword m))
plural_rank M.Minutes = omega arith
plural_rank m = omega arith

measure_begins : Begins measure (λ s. 1 < rank s)
measure_begins = record {
  next = λ from x rest d.
      (begins_or (begins_as (token_begins (S.Reserved (singular_keyword x.measure))) (singular_rank x.measure))
      (begins_as (token_begins (S.Reserved (plural_keyword x.measure))) (plural_rank x.measure))).next
      from x.word rest d;
}

count_agrees : Agrees (grammar.◌or◌ (grammar.◌>>=◌ (token S.Number) λ x. spelled (Count.Number x)) (grammar.◌>>=◌ path λ x. spelled (Count.Path x))) count_at (Ends 1)
unfolding count_at
count_agrees = swap_agrees (either_agrees S.Number (begins_as (begins_then path_begins) refl) (begins_then (token_begins S.Number)) (node_agrees Count.Path path_agrees) (anywhere (token_case S.Number Count.Number)))

duration_agrees : Agrees duration duration_at Any
unfolding duration_at
duration_agrees = then_agrees count_agrees (λ count. node_agrees _ measure_agrees) (λ count mid y rest d f. ends_next 1 mid (measure_begins.next mid d.0 d.1 d.2))

abbrev pub moment_branches : Branches moment moment_by (Ends 1)
moment_branches = case (begins_then (token_begins S.Date)) (token_case S.Date Moment.Fixed) or branch (begins_then path_begins) (λ s e. ap moment_by e) (node_agrees Moment.Path path_agrees)
    or case (begins_then (keyword_begins K.Time)) (then_any (keyword_agrees K.Time) λ place. node_agrees (Moment.Time place) (behind_agrees Open (before_agrees Close event_agrees (ends_at 1 (S.Sign Close) (omega arith)))))

pub moment_covers : (s : TokenKind) → moment_branches.Here s ⊎ (moment_by s ≡ fail)
moment_covers S.Date = inl (inl (inl refl))
moment_covers (S.Reserved K.Time) = inl (inr refl)
moment_covers s = inl (inl (inr refl))

moment_agrees : Agrees moment moment_at (Ends 1)
unfolding moment_at
moment_agrees = by_next_agrees moment_branches moment_covers

pub date_agrees : Agrees date date_at (Ends 3)
unfolding date_at
date_agrees = first_and_few 8 (λ moment plus. record { moment = moment; plus = plus }) moment_agrees (loop_behind 1 3 Plus (omega arith) (omega arith) (anywhere duration_agrees))
