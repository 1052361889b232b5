-- The grammar of propositions.
use Rattle.std.specs.Prelude.{ℕ, zero, suc, Bool, true, false, List, [], ◌∷◌, Some, None}
use Rattle.sy_base.specs.declared.refusal.Place.{Place}
use Rattle.sy_lex.specs.declared.keyword.Keyword.{Keyword}
use Rattle.sy_lex.specs.declared.keyword.Keyword.TheVariants as K
use Rattle.sy_lex.specs.declared.sign.Sign.TheVariants.{Comma, Open, Close}
use Rattle.sy_tree.specs.declared.proposition.First.{First}
use Rattle.sy_tree.specs.declared.proposition.PropTree.{PropTree}
use Rattle.sy_tree.specs.declared.proposition.PropTree.TheVariants as P
use Rattle.sy_tree.specs.declared.proposition.PropTree.TheOpen.{PropTree-F}
use Rattle.sy_tree.specs.declared.proposition.PropTree.TheViews.{out-PropTree}
use Rattle.sy_tree.specs.declared.proposition.PropTree.TheOpen as L
use Rattle.sy_tree.specs.declared.proposition.EventTree.{EventTree}
use Rattle.sy_tree.specs.declared.date.DateTree.{DateTree}
use Rattle.sy_reader.specs.Grammar.{Rule, spelled, ◌>>=◌, ◌or◌, keyword, sign, ahead, many, between, before}
use Rattle.sy_tree.specs.Terms.{term, cmp, rhs, event, situation, date}

-- a first token without brackets round the proposition
abbrev pub begins : Rule First
begins = do
  token ← ahead
  spelled (record { token = token; bracket = None })

-- a first token with a bracket that stands there
abbrev pub bracketed : Place → First → First
bracketed place first = record { token = first.token; bracket = Some place }

-- a proposition in brackets, the first of which stands there
abbrev pub in_brackets_of : Place → PropTree-F PropTree → PropTree
in_brackets_of place (L.Const value first) = P.Const value (bracketed place first)
in_brackets_of place (L.Not part first) = P.Not part (bracketed place first)
in_brackets_of place (L.All parts first) = P.All parts (bracketed place first)
in_brackets_of place (L.Any parts first) = P.Any parts (bracketed place first)
in_brackets_of place (L.Compare left cmp right first) = P.Compare left cmp right (bracketed place first)
in_brackets_of place (L.Happens event first) = P.Happens event (bracketed place first)
in_brackets_of place (L.Before event date first) = P.Before event date (bracketed place first)
in_brackets_of place (L.After event date first) = P.After event date (bracketed place first)
in_brackets_of place (L.Within event from to first) = P.Within event from to (bracketed place first)
in_brackets_of place (L.Occurs situation from to first) = P.Occurs situation from to (bracketed place first)
in_brackets_of place (L.Holds situation first) = P.Holds situation (bracketed place first)

abbrev pub in_brackets : Place → PropTree → PropTree
in_brackets place prop = in_brackets_of place (out-PropTree prop)

-- "true" | "false"
abbrev pub constant : Keyword → Bool → Rule PropTree
constant word value = do
  first ← begins
  _ ← keyword word
  spelled (P.Const value first)

-- term cmp rhs
abbrev pub comparison : Rule PropTree
comparison = do
  first ← begins
  left ← term
  cmp ← cmp
  right ← rhs
  spelled (P.Compare left cmp right first)

-- "happens" "(" event ")"
abbrev pub happens : Rule PropTree
happens = do
  first ← begins
  _ ← keyword K.Happens
  event ← between Open event Close
  spelled (P.Happens event first)

-- event "," date
abbrev pub event_and_date : Rule (EventTree × DateTree)
event_and_date = do
  event ← before event Comma
  date ← date
  spelled (event, date)

-- "happensBefore" "(" event "," date ")", or with "happensAfter"
abbrev pub dated : Keyword → (EventTree → DateTree → First → PropTree) → Rule PropTree
dated word node = do
  first ← begins
  _ ← keyword word
  parts ← between Open event_and_date Close
  spelled (node parts.0 parts.1 first)

-- date "," date
abbrev pub two_dates : Rule (DateTree × DateTree)
two_dates = do
  from ← before date Comma
  to ← date
  spelled (from, to)

-- "happensWithin" "(" event "," date "," date ")"
abbrev pub happens_within : Rule PropTree
happens_within = do
  first ← begins
  _ ← keyword K.HappensWithin
  _ ← sign Open
  event ← before event Comma
  dates ← before two_dates Close
  spelled (P.Within event dates.0 dates.1 first)

-- "occurs" "(" situation "," date "," date ")"
abbrev pub occurs : Rule PropTree
occurs = do
  first ← begins
  _ ← keyword K.Occurs
  _ ← sign Open
  situation ← before situation Comma
  dates ← before two_dates Close
  spelled (P.Occurs situation dates.0 dates.1 first)

-- "holds" "(" situation ")"
abbrev pub holds : Rule PropTree
holds = do
  first ← begins
  _ ← keyword K.Holds
  situation ← between Open situation Close
  spelled (P.Holds situation first)

-- an atom without brackets
abbrev pub atom : Rule PropTree
atom =
    constant K.True true or constant K.False false or comparison or happens or dated K.HappensBefore P.Before
    or dated K.HappensAfter P.After or happens_within or occurs or holds

-- one part alone makes no node
abbrev pub joined : (List PropTree → First → PropTree) → First → PropTree → List PropTree → PropTree
joined node first part [] = part
joined node first part (other ∷ others) = node (part ∷ other ∷ others) first

-- parts with a word between them
abbrev pub chain : Keyword → (List PropTree → First → PropTree) → Rule PropTree → Rule PropTree
chain word node R = do
  first ← begins
  part ← R
  others ← many (do
    _ ← keyword word
    R)
  spelled (joined node first part others)

-- conj = neg { "and" neg }
abbrev pub conj_of : Rule PropTree → Rule PropTree
conj_of = chain K.And P.All

-- prop = conj { "or" conj }
abbrev pub prop_of : Rule PropTree → Rule PropTree
prop_of neg = chain K.Or P.Any (conj_of neg)

-- "not" neg
abbrev pub negation : Rule PropTree → Rule PropTree
negation neg = do
  first ← begins
  _ ← keyword K.Not
  part ← neg
  spelled (P.Not part first)

-- "(" prop ")"
abbrev pub brackets : Rule PropTree → Rule PropTree
brackets neg = do
  place ← sign Open
  inside ← before (prop_of neg) Close
  spelled (in_brackets place inside)

-- neg = "not" neg | atom, within so many levels: each "not" and each bracket opens one
unfoldable pub neg : ℕ → Rule PropTree
neg zero = atom
neg (suc levels) = negation (neg levels) or brackets (neg levels) or atom

-- a proposition, with at most 32 levels
abbrev pub prop : Rule PropTree
prop = prop_of (neg 32)
