-- The rules of terms and what reads them agree.
use Rattle.std.proofs.Common.{◌≡◌, ◌⊎◌, inl, inr, ◌<◌, true, false, List, length, Option, Some, None, Ok, refl, ap, arith}
use Rattle.sy_lex.specs.declared.keyword.Keyword.TheVariants as K
use Rattle.sy_lex.specs.declared.sign.Sign.TheVariants as Sg
use Rattle.sy_lex.specs.declared.sign.Sign.TheVariants.{Dot, Plus, Minus, Times}
use Rattle.sy_lex.specs.declared.token.TokenKind.{TokenKind}
use Rattle.sy_lex.specs.declared.token.TokenKind.TheVariants as S
use Rattle.sy_lex.specs.declared.written.Written.{Written}
use Rattle.sy_tree.specs.declared.term.RhsTree.TheVariants as Rhs
use Rattle.sy_tree.specs.declared.term.SumTree.TheVariants as Sum
use Rattle.sy_tree.specs.declared.term.SingleTree.TheVariants as Single
use Rattle.sy_tree.specs.declared.term.PathTree.{PathTree}
use Rattle.sy_tree.specs.declared.term.PathTree.TheVariants as Path
use Rattle.sy_lex.specs.Lexemes.{Lexeme}
use Rattle.sy_reader.specs.Grammar as grammar
use Rattle.sy_reader.specs.Grammar.{Rule, spelled, maybe, behind, token, sign}
use Rattle.sy_tree.specs.Terms.{path, single, factor, sum, term, rhs}
use Rattle.sy_reader.specs.Machine.Reading.{◌>>=◌, give, fail, token_at, behind_at}
use Rattle.sy_tree.specs.Machine.ReadingTerms.{maybe_attribute, inner_path, path_of, path_at, negative_at, single_by, single_at, factor_at, sum_by, sum_at, is_sum_sign, term_at, rhs_by, rhs_at}
use Rattle.sy_reader.proofs.Agree.{Agrees, Any, Sound, Complete, Within, Begins, Takes, Is, steps, spelled_agrees, anywhere, then_any, node_agrees, token_agrees, keyword_agrees, sign_agrees, behind_agrees, begins_then, begins_or, begins_as, takes_then, takes_or, sign_takes, token_begins, keyword_begins, sign_begins}
use Rattle.sy_reader.proofs.AgreeMany.{Ends, Without, ends_without, loop_behind, loop_ranks, first_and_many, Passes, rank}
use Rattle.sy_reader.proofs.AgreeChoices.{Branches, branch, case, case_at, ◌or◌, by_next_agrees, token_case, optional_agrees, next_test}

dotted_begins : Begins (behind Dot (token S.Word)) (Is (S.Sign Dot))
dotted_begins = begins_then (sign_begins Dot)

dotted_agrees : Agrees (behind Dot (token S.Word)) (behind_at Dot (token_at S.Word)) Any
dotted_agrees = behind_agrees Dot (token_agrees S.Word)

-- a dot and a name, if they are there
abbrev attribute : Rule (Option Written)
attribute = maybe (behind Dot (token S.Word))

attribute_agrees : Agrees attribute maybe_attribute (Without (S.Sign Dot))
attribute_agrees = optional_agrees (S.Sign Dot) None (begins_then dotted_begins) (anywhere (node_agrees Some dotted_agrees)) (λ rest f. f)

some_attribute : (from : List Lexeme) (x : Written) (rest : List Lexeme) → behind Dot (token S.Word) from x rest → maybe_attribute from ≡ Ok (Some x, rest)
some_attribute from x rest d = rw (next_test (S.Sign Dot) from (dotted_begins.next from x rest d), dotted_agrees.complete from x rest d tt) refl

no_attribute : (from : List Lexeme) → Ends 1 from → maybe_attribute from ≡ Ok (None, from)
no_attribute from ends = rw (ends_without 1 (S.Sign Dot) (omega arith) from ends) refl

-- after a name and what is behind a dot, if there is one
path_after : (from : List Lexeme) (name : Written) (mid : List Lexeme) → token S.Word from name mid → (first : Option Written) (after : List Lexeme) → attribute mid first after
    → (x : PathTree) (rest : List Lexeme) → inner_path name first after ≡ Ok (x, rest) → path from x rest
path_after from name mid d None after (inl d') x rest e = absurd cc
path_after from name mid d None after (inr d') x rest e = inl (inl (name, mid, d, (spelled_agrees (Path.Name name)).sound mid x rest (rw d'.1 e)))
path_after from name mid d (Some first) after d' x rest e =
    let s = steps (maybe_attribute after) (λ inner. give (path_of name first inner)) (x, rest) e in
    ended s.value s.mid (attribute_agrees.sound after s.value s.mid s.first) s.second
  where
    one : (x : Written) (mid after : List Lexeme) → attribute mid (Some x) after → behind Dot (token S.Word) mid x after
    one x mid after (inl d) = let e : d.0 ≡ x = cc in rw (← e, ← d.3.1) d.2
    one x mid after (inr d) = absurd cc

    ended : (inner : Option Written) (last : List Lexeme) → attribute after inner last → give (path_of name first inner) last ≡ Ok (x, rest) → path from x rest
    ended None last (inl d'') e' = absurd cc
    ended None last (inr d'') e' = inl (inr (name, mid, d, (first, after, one first mid after d', (spelled_agrees (Path.Attribute name first)).sound after x rest (rw d''.1 e'))))
    ended (Some inner) last d'' e' = inr (name, mid, d, (first, after, one first mid after d', (inner, last, one inner after last d'', (spelled_agrees (Path.Inner name first inner)).sound last x rest e')))

pub path_agrees : Agrees path path_at (Ends 1)
unfolding path_at
path_agrees = record { sound = sounds; complete = completes; within = withins }
  where
    sounds : Sound path path_at
    sounds from x rest e =
        let s = steps (token_at S.Word from) (λ name. maybe_attribute >>= inner_path name) (x, rest) e in
        let t = steps (maybe_attribute s.mid) (inner_path s.value) (x, rest) s.second in
        path_after from s.value s.mid ((token_agrees S.Word).sound from s.value s.mid s.first) t.value t.mid (attribute_agrees.sound s.mid t.value t.mid t.first) x rest t.second

    completes : Complete path path_at (Ends 1)
    completes from x rest (inl (inl d)) f = rw ((token_agrees S.Word).complete from d.0 d.1 d.2 tt, d.3.1, no_attribute rest f, d.3.0) refl
    completes from x rest (inl (inr d)) f = rw ((token_agrees S.Word).complete from d.0 d.1 d.2 tt, some_attribute d.1 d.3.0 d.3.1 d.3.2, d.3.3.1, no_attribute rest f, d.3.3.0) refl
    completes from x rest (inr d) f = rw ((token_agrees S.Word).complete from d.0 d.1 d.2 tt, some_attribute d.1 d.3.0 d.3.1 d.3.2, some_attribute d.3.1 d.3.3.0 d.3.3.1 d.3.3.2, d.3.3.3.0, d.3.3.3.1) refl

    withins : Within path
    withins from x rest (inl (inl d)) = omega (arith, (token_agrees S.Word).within from d.0 d.1 d.2, ap length d.3.1)
    withins from x rest (inl (inr d)) = omega (arith, (token_agrees S.Word).within from d.0 d.1 d.2, dotted_agrees.within d.1 d.3.0 d.3.1 d.3.2, ap length d.3.3.1)
    withins from x rest (inr d) =
        omega (arith, (token_agrees S.Word).within from d.0 d.1 d.2, dotted_agrees.within d.1 d.3.0 d.3.1 d.3.2, dotted_agrees.within d.3.1 d.3.3.0 d.3.3.1 d.3.3.2, ap length d.3.3.3.1)

pub path_begins : Begins path (Is S.Word)
path_begins = begins_or (begins_or (begins_then (token_begins S.Word)) (begins_then (token_begins S.Word))) (begins_then (token_begins S.Word))

pub negative_agrees : Agrees (grammar.◌>>=◌ (sign Minus) λ place. grammar.◌>>=◌ (token S.Number) λ number. spelled (Single.Negative place number)) negative_at Any
negative_agrees = then_any (sign_agrees Minus) λ place. token_case S.Number (Single.Negative place)

abbrev pub single_branches : Branches single single_by (Ends 1)
single_branches =
    case (begins_then (token_begins S.Number)) (token_case S.Number Single.Number) or case (begins_then (sign_begins Minus)) negative_agrees or case (begins_then (token_begins S.Str)) (token_case S.Str Single.Str)
    or case (begins_then (token_begins S.Date)) (token_case S.Date Single.Date) or branch (begins_then path_begins) (λ s e. rw e refl) (node_agrees Single.Path path_agrees)

pub single_covers : (s : TokenKind) → single_branches.Here s ⊎ (single_by s ≡ fail)
single_covers S.Number = inl (inl (inl (inl (inl refl))))
single_covers (S.Sign Sg.Minus) = inl (inl (inl (inl (inr refl))))
single_covers S.Str = inl (inl (inl (inr refl)))
single_covers S.Date = inl (inl (inr refl))
single_covers s = inl (inr refl)

pub single_agrees : Agrees single single_at (Ends 1)
unfolding single_at
single_agrees = by_next_agrees single_branches single_covers

pub factor_agrees : Agrees factor factor_at (Ends 2)
unfolding factor_at
factor_agrees = first_and_many (λ first others. record { first = first; others = others }) single_agrees (loop_behind 1 2 Times (omega arith) (omega arith) single_agrees)

abbrev pub sum_branches : Branches sum sum_by (Ends 2)
sum_branches = case_at (begins_then (begins_then (sign_begins Plus))) (node_agrees Sum.Plus (behind_agrees Plus factor_agrees)) or case_at (begins_then (begins_then (sign_begins Minus))) (node_agrees Sum.Minus (behind_agrees Minus factor_agrees))

pub sum_covers : (s : TokenKind) → sum_branches.Here s ⊎ (sum_by s ≡ fail)
sum_covers (S.Sign Sg.Plus) = inl (inl refl)
sum_covers s = inl (inr refl)

sum_agrees : Agrees sum sum_at (Ends 2)
unfolding sum_at
sum_agrees = by_next_agrees sum_branches sum_covers

sum_takes : Takes sum
sum_takes = takes_or (takes_then (takes_then (sign_takes Plus) λ _. factor_agrees) λ x. spelled_agrees _) (takes_then (takes_then (sign_takes Minus) λ _. factor_agrees) λ x. spelled_agrees _)

sum_begins : Begins sum (Passes is_sum_sign)
sum_begins = begins_or (begins_as (begins_then (begins_then (sign_begins Plus))) refl) (begins_as (begins_then (begins_then (sign_begins Minus))) refl)

sum_above : (s : TokenKind) → is_sum_sign s ≡ true → 2 < rank s
sum_above (S.Sign Sg.Plus) e = omega arith
sum_above (S.Sign Sg.Minus) e = omega arith
sum_above s e = absurd cc

sum_under : (s : TokenKind) → 3 < rank s → is_sum_sign s ≡ false
sum_under (S.Sign Sg.Plus) over = absurd (omega arith)
sum_under (S.Sign Sg.Minus) over = absurd (omega arith)
sum_under s over = refl

pub term_agrees : Agrees term term_at (Ends 3)
unfolding term_at
term_agrees = first_and_many (λ first others. record { first = first; others = others }) factor_agrees (loop_ranks 2 3 is_sum_sign sum_above sum_under (omega arith) sum_agrees sum_takes sum_begins)

-- what a term begins with
pub data BeginsTerm : TokenKind → Type 0 where
  number : BeginsTerm S.Number
  minus : BeginsTerm (S.Sign Sg.Minus)
  str : BeginsTerm S.Str
  date : BeginsTerm S.Date
  name : BeginsTerm S.Word

pub term_begins : Begins term BeginsTerm
term_begins = begins_then (begins_then
    (begins_or (begins_or (begins_or (begins_or
    (begins_as (begins_then (token_begins S.Number)) number)
    (begins_as (begins_then (sign_begins Minus)) minus))
    (begins_as (begins_then (token_begins S.Str)) str))
    (begins_as (begins_then (token_begins S.Date)) date))
    (begins_as (begins_then path_begins) name)))

pub rhs_of_term : (s : TokenKind) → BeginsTerm s → rhs_by s ≡ (term_at >>= λ x. give (Rhs.Term x))
rhs_of_term s number = refl
rhs_of_term s minus = refl
rhs_of_term s str = refl
rhs_of_term s date = refl
rhs_of_term s name = refl

abbrev pub rhs_branches : Branches rhs rhs_by (Ends 3)
rhs_branches = branch (begins_then term_begins) rhs_of_term (node_agrees Rhs.Term term_agrees) or case (begins_then (keyword_begins K.True)) (node_agrees (Rhs.Const true) (keyword_agrees K.True))
    or case (begins_then (keyword_begins K.False)) (node_agrees (Rhs.Const false) (keyword_agrees K.False))

pub rhs_covers : (s : TokenKind) → rhs_branches.Here s ⊎ (rhs_by s ≡ fail)
rhs_covers (S.Reserved K.True) = inl (inl (inr refl))
rhs_covers (S.Reserved K.False) = inl (inr refl)
rhs_covers s = inl (inl (inl refl))

pub rhs_agrees : Agrees rhs rhs_at (Ends 3)
unfolding rhs_at
rhs_agrees = by_next_agrees rhs_branches rhs_covers
