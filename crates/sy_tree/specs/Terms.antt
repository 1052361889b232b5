-- The grammar of terms, events, situations and dates.
use Rattle.std.specs.Prelude.{true, false, []}
use Rattle.sy_base.specs.declared.refusal.Place.{Place}
use Rattle.sy_base.specs.declared.time.Measure.{Measure}
use Rattle.sy_words.specs.declared.comparison.Cmp.{Cmp}
use Rattle.sy_words.specs.declared.comparison.Cmp.TheVariants as C
use Rattle.sy_words.specs.declared.kind.Kind.{Kind}
use Rattle.sy_words.specs.declared.kind.Kind.TheVariants as E
use Rattle.sy_lex.specs.declared.keyword.Keyword.{Keyword}
use Rattle.sy_lex.specs.declared.keyword.Keyword.TheVariants as K
use Rattle.sy_lex.specs.declared.sign.Sign.{Sign}
use Rattle.sy_lex.specs.declared.sign.Sign.TheVariants.{Dot, Open, Close, OpenBracket, CloseBracket, Equal, NotEqual, Less, AtMost, Greater, AtLeast, Plus, Minus, Times}
use Rattle.sy_lex.specs.declared.token.TokenKind.TheVariants as S
use Rattle.sy_tree.specs.declared.target.TargetTree.{TargetTree}
use Rattle.sy_tree.specs.declared.target.TargetTree.TheVariants as Target
use Rattle.sy_tree.specs.declared.term.RhsTree.{RhsTree}
use Rattle.sy_tree.specs.declared.term.RhsTree.TheVariants as Rhs
use Rattle.sy_tree.specs.declared.term.TermTree.{TermTree}
use Rattle.sy_tree.specs.declared.term.SumTree.{SumTree}
use Rattle.sy_tree.specs.declared.term.SumTree.TheVariants as Sum
use Rattle.sy_tree.specs.declared.term.FactorTree.{FactorTree}
use Rattle.sy_tree.specs.declared.term.SingleTree.{SingleTree}
use Rattle.sy_tree.specs.declared.term.SingleTree.TheVariants as Single
use Rattle.sy_tree.specs.declared.term.PathTree.{PathTree}
use Rattle.sy_tree.specs.declared.term.PathTree.TheVariants as Path
use Rattle.sy_tree.specs.declared.date.DateTree.{DateTree}
use Rattle.sy_tree.specs.declared.date.MomentTree.{MomentTree}
use Rattle.sy_tree.specs.declared.date.MomentTree.TheVariants as Moment
use Rattle.sy_tree.specs.declared.date.DurationTree.{DurationTree}
use Rattle.sy_tree.specs.declared.date.CountTree.TheVariants as Count
use Rattle.sy_tree.specs.declared.date.MeasureTree.{MeasureTree}
use Rattle.sy_tree.specs.declared.proposition.CmpTree.{CmpTree}
use Rattle.sy_tree.specs.declared.proposition.EventTree.{EventTree}
use Rattle.sy_tree.specs.declared.proposition.EventTree.TheVariants as Event
use Rattle.sy_tree.specs.declared.proposition.GuardTree.{GuardTree}
use Rattle.sy_tree.specs.declared.proposition.SituationTree.{SituationTree}
use Rattle.sy_lex.specs.declared.written.Written.{Written}
use Rattle.sy_lex.specs.Keywords.{singular_keyword, plural_keyword}
use Rattle.sy_reader.specs.Grammar.{Rule, spelled, ◌>>=◌, ◌or◌, token, keyword, sign, many, up_to, behind, between, listed}

-- path = NAME [ "." NAME [ "." NAME ] ]
abbrev pub path : Rule PathTree
path =
    (do
      name ← token S.Word
      spelled (Path.Name name))
    or (do
      name ← token S.Word
      attribute ← behind Dot (token S.Word)
      spelled (Path.Attribute name attribute))
    or (do
      name ← token S.Word
      attribute ← behind Dot (token S.Word)
      inner ← behind Dot (token S.Word)
      spelled (Path.Inner name attribute inner))

-- single = NUMBER | "-" NUMBER | STR | DATE | path
abbrev pub single : Rule SingleTree
single =
    (token S.Number >>= λ x. spelled (Single.Number x))
    or (do
      place ← sign Minus
      number ← token S.Number
      spelled (Single.Negative place number))
    or (token S.Str >>= λ x. spelled (Single.Str x))
    or (token S.Date >>= λ x. spelled (Single.Date x))
    or (path >>= λ x. spelled (Single.Path x))

-- factor = single { "*" single }
abbrev pub factor : Rule FactorTree
factor = do
  first ← single
  others ← many (behind Times single)
  spelled (record { first = first; others = others })

-- ("+" | "-") factor
abbrev pub sum : Rule SumTree
sum =
    (behind Plus factor >>= λ x. spelled (Sum.Plus x))
    or (behind Minus factor >>= λ x. spelled (Sum.Minus x))

-- term = factor { ("+" | "-") factor }
abbrev pub term : Rule TermTree
term = do
  first ← factor
  others ← many sum
  spelled (record { first = first; others = others })

-- rhs = term | "true" | "false"
abbrev pub rhs : Rule RhsTree
rhs =
    (term >>= λ x. spelled (Rhs.Term x))
    or (keyword K.True >>= λ place. spelled (Rhs.Const true place))
    or (keyword K.False >>= λ place. spelled (Rhs.Const false place))

-- a sign that compares
abbrev pub compares : Sign → Cmp → Rule CmpTree
compares s cmp = do
  place ← sign s
  spelled (record { cmp = cmp; place = place })

-- cmp = "=" | "!=" | "<" | "<=" | ">" | ">="
abbrev pub cmp : Rule CmpTree
cmp =
    compares Equal C.Eq or compares NotEqual C.Ne or compares Less C.Lt or compares AtMost C.Le
    or compares Greater C.Gt or compares AtLeast C.Ge

-- target = NAME | "contract"
abbrev pub target : Rule TargetTree
target =
    (token S.Word >>= λ x. spelled (Target.Named x))
    or (keyword K.ThisContract >>= λ place. spelled (Target.Contract place))

-- guard = NAME cmp rhs
abbrev pub guard : Rule GuardTree
guard = do
  name ← token S.Word
  cmp ← cmp
  value ← rhs
  spelled (record { name = name; cmp = cmp; value = value })

-- the word of a kind of internal event
abbrev pub kind_word : Kind → Keyword
kind_word E.Exerted = K.Exerted
kind_word E.Triggered = K.Triggered
kind_word E.Activated = K.Activated
kind_word E.Resumed = K.Resumed
kind_word E.Suspended = K.Suspended
kind_word E.Fulfilled = K.Fulfilled
kind_word E.Violated = K.Violated
kind_word E.Expired = K.Expired
kind_word E.Discharged = K.Discharged
kind_word E.Terminated = K.Terminated
kind_word E.Completed = K.Completed

-- the kind of an internal event, and where its word stands
abbrev pub internal_kind : Rule (Kind × Place)
internal_kind from x rest = keyword (kind_word x.0) from x.1 rest

-- event = NAME [ "[" guard { "," guard } "]" ] | kind "(" target ")"
abbrev pub event : Rule EventTree
event =
    (token S.Word >>= λ name. spelled (Event.Declared name []))
    or (do
      name ← token S.Word
      guards ← between OpenBracket (listed guard) CloseBracket
      spelled (Event.Declared name guards))
    or (do
      internal ← internal_kind
      target ← between Open target Close
      spelled (Event.Internal internal.0 internal.1 target))

-- situation = "state" "(" target ")" ("=" | "!=") NAME
abbrev pub situation : Rule SituationTree
situation = do
  place ← keyword K.State
  target ← between Open target Close
  equal ← (sign Equal >>= λ _. spelled true) or (sign NotEqual >>= λ _. spelled false)
  state ← token S.Word
  spelled (record { place = place; target = target; equal = equal; state = state })

-- the word of a measure, in the singular or the plural
abbrev pub measured : Measure → Rule Written
measured measure = token (S.Reserved (singular_keyword measure)) or token (S.Reserved (plural_keyword measure))

-- measure = the word of any measure
abbrev pub measure : Rule MeasureTree
measure from x rest = measured x.measure from x.word rest

-- duration = ( NUMBER | path ) measure
abbrev pub duration : Rule DurationTree
duration = do
  count ← (token S.Number >>= λ x. spelled (Count.Number x)) or (path >>= λ x. spelled (Count.Path x))
  measure ← measure
  spelled (record { count = count; measure = measure })

-- DATE | path | "time" "(" event ")"
abbrev pub moment : Rule MomentTree
moment =
    (token S.Date >>= λ x. spelled (Moment.Fixed x))
    or (path >>= λ x. spelled (Moment.Path x))
    or (do
      place ← keyword K.Time
      event ← between Open event Close
      spelled (Moment.Time place event))

-- date = ( DATE | path | "time" "(" event ")" ) { "+" duration }, with at most eight durations
abbrev pub date : Rule DateTree
date = do
  moment ← moment
  plus ← up_to 8 (behind Plus duration)
  spelled (record { moment = moment; plus = plus })
