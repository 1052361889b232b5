-- How terms, events, situations and dates are read.
use Rattle.std.specs.Prelude.{Bool, true, false, ◌||◌, if◌then◌else◌, List, [], ◌∷◌, Option, Some, None, Ok}
use Rattle.std.specs.List.{find}
use denote.Enum.Bare.{sameb}
use Rattle.sy_base.specs.declared.time.Measure.{Measure}
use Rattle.sy_base.specs.Measures.{measures}
use Rattle.sy_words.specs.declared.comparison.Cmp.{Cmp}
use Rattle.sy_words.specs.declared.comparison.Cmp.TheVariants as C
use Rattle.sy_words.specs.declared.kind.Kind.{Kind}
use Rattle.sy_words.specs.declared.kind.Kind.TheVariants as E
use Rattle.sy_lex.specs.contracts.keyword.Keyword.{the_type as the_keywords}
use Rattle.sy_lex.specs.declared.keyword.Keyword.{Keyword}
use Rattle.sy_lex.specs.declared.keyword.Keyword.TheVariants as K
use Rattle.sy_lex.specs.declared.sign.Sign.{Sign}
use Rattle.sy_lex.specs.declared.sign.Sign.TheVariants as Sg
use Rattle.sy_lex.specs.declared.sign.Sign.TheVariants.{Dot, Open, Close, OpenBracket, CloseBracket, Plus, Minus, Times}
use Rattle.sy_lex.specs.declared.token.TokenKind.{TokenKind}
use Rattle.sy_lex.specs.declared.token.TokenKind.TheVariants as S
use Rattle.sy_lex.specs.declared.written.Written.{Written}
use Rattle.sy_tree.specs.declared.target.TargetTree.{TargetTree}
use Rattle.sy_tree.specs.declared.target.TargetTree.TheVariants as Target
use Rattle.sy_tree.specs.declared.term.RhsTree.{RhsTree}
use Rattle.sy_tree.specs.declared.term.RhsTree.TheVariants as Rhs
use Rattle.sy_tree.specs.declared.term.TermTree.{TermTree}
use Rattle.sy_tree.specs.declared.term.SumTree.{SumTree}
use Rattle.sy_tree.specs.declared.term.SumTree.TheVariants as Sum
use Rattle.sy_tree.specs.declared.term.FactorTree.{FactorTree}
use Rattle.sy_tree.specs.declared.term.SingleTree.{SingleTree}
use Rattle.sy_tree.specs.declared.term.SingleTree.TheVariants as Single
use Rattle.sy_tree.specs.declared.term.PathTree.{PathTree}
use Rattle.sy_tree.specs.declared.term.PathTree.TheVariants as Path
use Rattle.sy_tree.specs.declared.date.DateTree.{DateTree}
use Rattle.sy_tree.specs.declared.date.MomentTree.{MomentTree}
use Rattle.sy_tree.specs.declared.date.MomentTree.TheVariants as Moment
use Rattle.sy_tree.specs.declared.date.DurationTree.{DurationTree}
use Rattle.sy_tree.specs.declared.date.CountTree.{CountTree}
use Rattle.sy_tree.specs.declared.date.CountTree.TheVariants as Count
use Rattle.sy_tree.specs.declared.date.MeasureTree.{MeasureTree}
use Rattle.sy_tree.specs.declared.proposition.CmpTree.{CmpTree}
use Rattle.sy_tree.specs.declared.proposition.EventTree.{EventTree}
use Rattle.sy_tree.specs.declared.proposition.EventTree.TheVariants as Event
use Rattle.sy_tree.specs.declared.proposition.GuardTree.{GuardTree}
use Rattle.sy_tree.specs.declared.proposition.SituationTree.{SituationTree}
use Rattle.sy_lex.specs.Keywords.{singular_keyword, plural_keyword}
use Rattle.sy_lex.specs.Lexemes.{Lexeme}
use Rattle.sy_reader.specs.Machine.Reading.{Reading, ◌>>=◌, give, fail, begins_with, token_at, keyword_at, sign_at, by_next, many_at, behind_at, between_at, each_behind, all_behind, listed_at}

-- what stands behind a dot, if one is there
abbrev pub maybe_attribute : Reading (Option Written)
maybe_attribute lexemes =
    if begins_with (S.Sign Dot) lexemes
    then (behind_at Dot (token_at S.Word) >>= λ x. give (Some x)) lexemes
    else Ok (None, lexemes)

abbrev pub path_of : Written → Written → Option Written → PathTree
path_of name attribute (Some inner) = Path.Inner name attribute inner
path_of name attribute None = Path.Attribute name attribute

-- a path whose first attribute, if it has one, was read
abbrev pub inner_path : Written → Option Written → Reading PathTree
inner_path name None = give (Path.Name name)
inner_path name (Some attribute) = maybe_attribute >>= λ inner. give (path_of name attribute inner)

unfoldable pub path_at : Reading PathTree
path_at = do
  name ← token_at S.Word
  attribute ← maybe_attribute
  inner_path name attribute

abbrev pub negative_at : Reading SingleTree
negative_at = do
  place ← sign_at Minus
  number ← token_at S.Number
  give (Single.Negative place number)

abbrev pub single_by : TokenKind → Reading SingleTree
single_by S.Number = token_at S.Number >>= λ x. give (Single.Number x)
single_by (S.Sign Sg.Minus) = negative_at
single_by S.Str = token_at S.Str >>= λ x. give (Single.Str x)
single_by S.Date = token_at S.Date >>= λ x. give (Single.Date x)
single_by kind = path_at >>= λ x. give (Single.Path x)

unfoldable pub single_at : Reading SingleTree
single_at = by_next single_by

unfoldable pub factor_at : Reading FactorTree
factor_at = do
  first ← single_at
  others ← all_behind Times single_at
  give (record { first = first; others = others })

abbrev pub sum_by : TokenKind → Reading SumTree
sum_by (S.Sign Sg.Plus) = behind_at Plus factor_at >>= λ x. give (Sum.Plus x)
sum_by kind = behind_at Minus factor_at >>= λ x. give (Sum.Minus x)

unfoldable pub sum_at : Reading SumTree
sum_at = by_next sum_by

abbrev pub is_sum_sign : TokenKind → Bool
is_sum_sign (S.Sign Sg.Plus) = true
is_sum_sign (S.Sign Sg.Minus) = true
is_sum_sign kind = false

unfoldable pub term_at : Reading TermTree
term_at = do
  first ← factor_at
  others ← many_at is_sum_sign sum_at
  give (record { first = first; others = others })

abbrev pub rhs_by : TokenKind → Reading RhsTree
rhs_by (S.Reserved K.True) = keyword_at K.True >>= λ place. give (Rhs.Const true place)
rhs_by (S.Reserved K.False) = keyword_at K.False >>= λ place. give (Rhs.Const false place)
rhs_by kind = term_at >>= λ x. give (Rhs.Term x)

unfoldable pub rhs_at : Reading RhsTree
rhs_at = by_next rhs_by

abbrev pub cmp_of_sign : Sign → Option Cmp
cmp_of_sign Sg.Equal = Some C.Eq
cmp_of_sign Sg.NotEqual = Some C.Ne
cmp_of_sign Sg.Less = Some C.Lt
cmp_of_sign Sg.AtMost = Some C.Le
cmp_of_sign Sg.Greater = Some C.Gt
cmp_of_sign Sg.AtLeast = Some C.Ge
cmp_of_sign s = None

abbrev pub compares_at : Option Cmp → Sign → Reading CmpTree
compares_at (Some cmp) s = sign_at s >>= λ place. give (record { cmp = cmp; place = place })
compares_at None s = fail

abbrev pub cmp_by : TokenKind → Reading CmpTree
cmp_by (S.Sign s) = compares_at (cmp_of_sign s) s
cmp_by kind = fail

unfoldable pub cmp_at : Reading CmpTree
cmp_at = by_next cmp_by

unfoldable pub target_at : Reading TargetTree
target_at lexemes =
    if begins_with (S.Reserved K.ThisContract) lexemes
    then (keyword_at K.ThisContract >>= λ place. give (Target.Contract place)) lexemes
    else (token_at S.Word >>= λ x. give (Target.Named x)) lexemes

unfoldable pub guard_at : Reading GuardTree
guard_at = do
  name ← token_at S.Word
  cmp ← cmp_at
  value ← rhs_at
  give (record { name = name; cmp = cmp; value = value })

-- the guards of an event, if brackets are there
abbrev pub guards_at : Reading (List GuardTree)
guards_at lexemes =
    if begins_with (S.Sign OpenBracket) lexemes
    then between_at OpenBracket (listed_at guard_at) CloseBracket lexemes
    else Ok ([], lexemes)

abbrev pub declared_at : Reading EventTree
declared_at = do
  name ← token_at S.Word
  guards ← guards_at
  give (Event.Declared name guards)

abbrev pub kind_of_word : Keyword → Option Kind
kind_of_word K.Exerted = Some E.Exerted
kind_of_word K.Triggered = Some E.Triggered
kind_of_word K.Activated = Some E.Activated
kind_of_word K.Resumed = Some E.Resumed
kind_of_word K.Suspended = Some E.Suspended
kind_of_word K.Fulfilled = Some E.Fulfilled
kind_of_word K.Violated = Some E.Violated
kind_of_word K.Expired = Some E.Expired
kind_of_word K.Discharged = Some E.Discharged
kind_of_word K.Terminated = Some E.Terminated
kind_of_word K.Completed = Some E.Completed
kind_of_word word = None

abbrev pub kind_and_word : Option Kind → Keyword → Option (Kind × Keyword)
kind_and_word (Some kind) word = Some (kind, word)
kind_and_word None word = None

abbrev pub kind_of_token : TokenKind → Option (Kind × Keyword)
kind_of_token (S.Reserved word) = kind_and_word (kind_of_word word) word
kind_of_token kind = None

-- the kind that the next lexeme names, with its word
abbrev pub next_kind : List Lexeme → Option (Kind × Keyword)
next_kind [] = None
next_kind (l ∷ ls) = kind_of_token l.kind

abbrev pub internal_or_declared : Option (Kind × Keyword) → Reading EventTree
internal_or_declared (Some internal) = do
  place ← keyword_at internal.1
  target ← between_at Open target_at Close
  give (Event.Internal internal.0 place target)
internal_or_declared None = declared_at

unfoldable pub event_at : Reading EventTree
event_at lexemes = internal_or_declared (next_kind lexemes) lexemes

abbrev pub equality_at : Reading Bool
equality_at lexemes =
    if begins_with (S.Sign Sg.NotEqual) lexemes
    then (sign_at Sg.NotEqual >>= λ _. give false) lexemes
    else (sign_at Sg.Equal >>= λ _. give true) lexemes

unfoldable pub situation_at : Reading SituationTree
situation_at = do
  place ← keyword_at K.State
  target ← between_at Open target_at Close
  equal ← equality_at
  state ← token_at S.Word
  give (record { place = place; target = target; equal = equal; state = state })

-- a reserved word names a measure, in the singular or the plural
abbrev pub names_measure : Keyword → Measure → Bool
names_measure word measure =
    sameb the_keywords word (singular_keyword measure) || sameb the_keywords word (plural_keyword measure)

-- the measure that a reserved word names
unfoldable pub measure_of_word : Keyword → Option Measure
measure_of_word word = find (names_measure word) measures

abbrev pub measured_at : Option Measure → Keyword → Reading MeasureTree
measured_at (Some measure) word = token_at (S.Reserved word) >>= λ x. give (record { measure = measure; word = x })
measured_at None word = fail

abbrev pub measure_by : TokenKind → Reading MeasureTree
measure_by (S.Reserved word) = measured_at (measure_of_word word) word
measure_by kind = fail

unfoldable pub measure_at : Reading MeasureTree
measure_at = by_next measure_by

unfoldable pub count_at : Reading CountTree
count_at lexemes =
    if begins_with S.Number lexemes
    then (token_at S.Number >>= λ x. give (Count.Number x)) lexemes
    else (path_at >>= λ x. give (Count.Path x)) lexemes

unfoldable pub duration_at : Reading DurationTree
duration_at = do
  count ← count_at
  measure ← measure_at
  give (record { count = count; measure = measure })

abbrev pub time_at : Reading MomentTree
time_at = do
  place ← keyword_at K.Time
  event ← between_at Open event_at Close
  give (Moment.Time place event)

abbrev pub moment_by : TokenKind → Reading MomentTree
moment_by S.Date = token_at S.Date >>= λ x. give (Moment.Fixed x)
moment_by (S.Reserved K.Time) = time_at
moment_by kind = path_at >>= λ x. give (Moment.Path x)

unfoldable pub moment_at : Reading MomentTree
moment_at = by_next moment_by

unfoldable pub date_at : Reading DateTree
date_at = do
  moment ← moment_at
  plus ← each_behind Plus duration_at 8
  give (record { moment = moment; plus = plus })
