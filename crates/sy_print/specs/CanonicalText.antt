-- The canonical text of a specification: its tokens, in order, each with a blank or a newline behind it.
use Rattle.std.specs.Prelude.{ℕ, Bool, true, false, List, [], ◌∷◌, ◌++◌, codes, ◌==◌, if◌then◌else◌, Option, Some, None}
use Rattle.std.specs.List.{flat_map}
use Rattle.sy_base.specs.declared.refusal.Place.{Place}
use Rattle.sy_words.specs.declared.comparison.Cmp.{Cmp}
use Rattle.sy_words.specs.declared.comparison.Cmp.TheVariants as C
use Rattle.sy_lex.specs.declared.keyword.Keyword.{Keyword}
use Rattle.sy_lex.specs.declared.keyword.Keyword.TheVariants as K
use Rattle.sy_lex.specs.declared.sign.Sign.{Sign}
use Rattle.sy_lex.specs.declared.sign.Sign.TheVariants.{Colon, Semicolon, Comma, Dot, Open, Close, OpenBracket, CloseBracket, Assign, Arrow, Equal, NotEqual, Less, AtMost, Greater, AtLeast, Plus, Minus, Times}
use Rattle.sy_lex.specs.Keywords.{keyword_text, plural_keyword}
use Rattle.sy_lex.specs.Signs.{sign_text}
use Rattle.sy_lex.specs.declared.written.Written.{Written}
use Rattle.sy_tree.specs.declared.term.RhsTree.{RhsTree}
use Rattle.sy_tree.specs.declared.term.RhsTree.TheVariants as Rhs
use Rattle.sy_tree.specs.declared.term.TermTree.{TermTree}
use Rattle.sy_tree.specs.declared.term.SumTree.{SumTree}
use Rattle.sy_tree.specs.declared.term.SumTree.TheVariants as Sum
use Rattle.sy_tree.specs.declared.term.FactorTree.{FactorTree}
use Rattle.sy_tree.specs.declared.term.SingleTree.{SingleTree}
use Rattle.sy_tree.specs.declared.term.SingleTree.TheVariants as Single
use Rattle.sy_tree.specs.declared.term.PathTree.{PathTree}
use Rattle.sy_tree.specs.declared.term.PathTree.TheVariants as Path
use Rattle.sy_tree.specs.declared.date.DateTree.{DateTree}
use Rattle.sy_tree.specs.declared.date.MomentTree.{MomentTree}
use Rattle.sy_tree.specs.declared.date.MomentTree.TheVariants as Moment
use Rattle.sy_tree.specs.declared.date.DurationTree.{DurationTree}
use Rattle.sy_tree.specs.declared.date.CountTree.{CountTree}
use Rattle.sy_tree.specs.declared.date.CountTree.TheVariants as Count
use Rattle.sy_tree.specs.declared.proposition.EventTree.{EventTree}
use Rattle.sy_tree.specs.declared.proposition.EventTree.TheVariants as Event
use Rattle.sy_tree.specs.declared.proposition.GuardTree.{GuardTree}
use Rattle.sy_tree.specs.declared.proposition.SituationTree.{SituationTree}
use Rattle.sy_tree.specs.declared.proposition.PropTree.{PropTree, PropTree-F, fold-PropTree}
use Rattle.sy_tree.specs.declared.proposition.PropTree.TheOpen as L
use Rattle.sy_spec.specs.declared.domain.DomainTree.{DomainTree}
use Rattle.sy_spec.specs.declared.domain.TypeTree.{TypeTree}
use Rattle.sy_spec.specs.declared.domain.TypeTree.TheVariants as AType
use Rattle.sy_spec.specs.declared.domain.EnumTree.{EnumTree}
use Rattle.sy_spec.specs.declared.domain.BaseTree.{BaseTree}
use Rattle.sy_spec.specs.declared.domain.BaseTree.TheVariants as Base
use Rattle.sy_spec.specs.declared.domain.AttrTree.{AttrTree}
use Rattle.sy_spec.specs.declared.contract.SpecTree.{SpecTree}
use Rattle.sy_spec.specs.declared.contract.ContractTree.{ContractTree}
use Rattle.sy_spec.specs.declared.contract.ParamTree.{ParamTree}
use Rattle.sy_spec.specs.declared.contract.DeclTree.{DeclTree}
use Rattle.sy_spec.specs.declared.contract.GiveTree.{GiveTree}
use Rattle.sy_spec.specs.declared.position.ObligTree.{ObligTree}
use Rattle.sy_spec.specs.declared.position.PowerTree.{PowerTree}
use Rattle.sy_spec.specs.declared.position.ActTree.{ActTree}
use Rattle.sy_tree.specs.declared.target.TargetTree.{TargetTree}
use Rattle.sy_tree.specs.declared.target.TargetTree.TheVariants as Target
use Rattle.sy_tree.specs.Terms.{kind_word}
use Rattle.sy_spec.specs.Specifications.{unit_word, verb_word}

-- a token with a blank behind it
unfoldable pub word : List ℕ → List ℕ
word text = text ++ codes " "

-- a token that ends its line
unfoldable pub last : List ℕ → List ℕ
last text = text ++ codes "\n"

unfoldable pub keyword : Keyword → List ℕ
keyword k = word (keyword_text k)

unfoldable pub sign : Sign → List ℕ
sign s = word (sign_text s)

-- a reserved word that ends its line
unfoldable pub heading : Keyword → List ℕ
heading k = last (keyword_text k)

-- the semicolon that ends a line
unfoldable pub semicolon : List ℕ
semicolon = last (sign_text Semicolon)

-- a name, a date or a text between quotes
abbrev pub token : Written → List ℕ
token t = word t.text

-- a number's digits without leading zeros, the last of which stays
unfoldable pub stripped : List ℕ → List ℕ
stripped [] = []
stripped (d ∷ []) = d ∷ []
stripped (d ∷ e ∷ digits) = if d == 48 then stripped (e ∷ digits) else d ∷ e ∷ digits

abbrev pub number : Written → List ℕ
number n = word (stripped n.text)

abbrev pub truth : Bool → List ℕ
truth true = keyword K.True
truth false = keyword K.False

abbrev pub in_brackets : List ℕ → List ℕ
in_brackets text = sign Open ++ text ++ sign Close

-- texts with one between them
abbrev pub separated : {A : Type 0} → List ℕ → (A → List ℕ) → List A → List ℕ
separated between text [] = []
separated between text (x ∷ xs) = text x ++ flat_map (λ y. between ++ text y) xs

abbrev pub listed : {A : Type 0} → (A → List ℕ) → List A → List ℕ
listed text xs = separated (sign Comma) text xs

-- each on a line of its own
abbrev pub lines : {A : Type 0} → (A → List ℕ) → List A → List ℕ
lines text xs = flat_map (λ x. text x ++ semicolon) xs

-- ---- terms, events, situations and dates

abbrev pub path_text : PathTree → List ℕ
path_text (Path.Name name) = token name
path_text (Path.Attribute name attribute) = token name ++ sign Dot ++ token attribute
path_text (Path.Inner name attribute inner) = token name ++ sign Dot ++ token attribute ++ sign Dot ++ token inner

abbrev pub single_text : SingleTree → List ℕ
single_text (Single.Number n) = number n
single_text (Single.Negative place n) = sign Minus ++ number n
single_text (Single.Str t) = token t
single_text (Single.Date t) = token t
single_text (Single.Path p) = path_text p

abbrev pub factor_text : FactorTree → List ℕ
factor_text f = single_text f.first ++ flat_map (λ x. sign Times ++ single_text x) f.others

abbrev pub sum_text : SumTree → List ℕ
sum_text (Sum.Plus f) = sign Plus ++ factor_text f
sum_text (Sum.Minus f) = sign Minus ++ factor_text f

abbrev pub term_text : TermTree → List ℕ
term_text t = factor_text t.first ++ flat_map sum_text t.others

abbrev pub rhs_text : RhsTree → List ℕ
rhs_text (Rhs.Term t) = term_text t
rhs_text (Rhs.Const value place) = truth value

abbrev pub cmp_sign : Cmp → Sign
cmp_sign C.Eq = Equal
cmp_sign C.Ne = NotEqual
cmp_sign C.Lt = Less
cmp_sign C.Le = AtMost
cmp_sign C.Gt = Greater
cmp_sign C.Ge = AtLeast

abbrev pub target_text : TargetTree → List ℕ
target_text (Target.Named name) = token name
target_text (Target.Contract place) = keyword K.ThisContract

abbrev pub guard_text : GuardTree → List ℕ
guard_text g = token g.name ++ sign (cmp_sign g.cmp.cmp) ++ rhs_text g.value

-- guards in their brackets, which are left out where there are none
abbrev pub guards_text : List GuardTree → List ℕ
guards_text [] = []
guards_text (g ∷ gs) = sign OpenBracket ++ listed guard_text (g ∷ gs) ++ sign CloseBracket

abbrev pub event_text : EventTree → List ℕ
event_text (Event.Declared name guards) = token name ++ guards_text guards
event_text (Event.Internal kind place target) = keyword (kind_word kind) ++ in_brackets (target_text target)

unfoldable pub situation_text : SituationTree → List ℕ
situation_text s =
    keyword K.State ++ in_brackets (target_text s.target) ++ sign (if s.equal then Equal else NotEqual) ++ token s.state

abbrev pub count_text : CountTree → List ℕ
count_text (Count.Number n) = number n
count_text (Count.Path p) = path_text p

-- a measure is printed in the plural
abbrev pub duration_text : DurationTree → List ℕ
duration_text d = count_text d.count ++ keyword (plural_keyword d.measure.measure)

abbrev pub moment_text : MomentTree → List ℕ
moment_text (Moment.Fixed t) = token t
moment_text (Moment.Path p) = path_text p
moment_text (Moment.Time place event) = keyword K.Time ++ in_brackets (event_text event)

unfoldable pub date_text : DateTree → List ℕ
date_text d = moment_text d.moment ++ flat_map (λ x. sign Plus ++ duration_text x) d.plus

-- ---- propositions

-- how a proposition is written
pub record Forms : Type 0 where
  pub alone : List ℕ
  -- as a part of an `or`
  pub in_or : List ℕ
  -- as a part of an `and`, or behind a `not`
  pub in_and : List ℕ

-- without brackets everywhere
abbrev pub alike : List ℕ → Forms
alike text = record { alone = text; in_or = text; in_and = text }

abbrev pub forms_of : PropTree-F Forms → Forms
forms_of (L.Const value first) = alike (truth value)
forms_of (L.Not part first) = alike (keyword K.Not ++ part.in_and)
forms_of (L.All parts first) =
    let text = separated (keyword K.And) (λ part. part.in_and) parts in
    record { alone = text; in_or = text; in_and = in_brackets text }
forms_of (L.Any parts first) =
    let text = separated (keyword K.Or) (λ part. part.in_or) parts in
    record { alone = text; in_or = in_brackets text; in_and = in_brackets text }
forms_of (L.Compare left cmp right first) = alike (term_text left ++ sign (cmp_sign cmp.cmp) ++ rhs_text right)
forms_of (L.Happens event first) = alike (keyword K.Happens ++ in_brackets (event_text event))
forms_of (L.Before event date first) =
    alike (keyword K.HappensBefore ++ in_brackets (event_text event ++ sign Comma ++ date_text date))
forms_of (L.After event date first) =
    alike (keyword K.HappensAfter ++ in_brackets (event_text event ++ sign Comma ++ date_text date))
forms_of (L.Within event from to first) =
    alike (keyword K.HappensWithin ++ in_brackets (
    event_text event ++ sign Comma ++ date_text from ++ sign Comma ++ date_text to))
forms_of (L.Occurs situation from to first) =
    alike (keyword K.Occurs ++ in_brackets (
    situation_text situation ++ sign Comma ++ date_text from ++ sign Comma ++ date_text to))
forms_of (L.Holds situation first) = alike (keyword K.Holds ++ in_brackets (situation_text situation))

abbrev pub forms : PropTree → Forms
forms = fold-PropTree Forms forms_of

abbrev pub prop_text : PropTree → List ℕ
prop_text p = (forms p).alone

-- ---- the domain

abbrev pub enum_text : EnumTree → List ℕ
enum_text e = keyword K.Enumeration ++ in_brackets (listed token e.constants)

abbrev pub base_text : BaseTree → List ℕ
base_text (Base.Role place) = keyword K.Role
base_text (Base.Asset place) = keyword K.Asset
base_text (Base.Event place) = keyword K.Event
base_text (Base.Named name) = token name

abbrev pub env_text : Option Place → List ℕ
env_text (Some place) = keyword K.Env
env_text None = []

abbrev pub attr_text : AttrTree → List ℕ
attr_text a = env_text a.env ++ token a.name ++ sign Colon ++ token a.type_name

-- a list behind `with`, which is left out where there is nothing in it
abbrev pub with_text : {A : Type 0} → (A → List ℕ) → List A → List ℕ
with_text text [] = []
with_text text (x ∷ xs) = keyword K.With ++ listed text (x ∷ xs)

abbrev pub type_text : TypeTree → List ℕ
type_text (AType.Enumeration name constants) = token name ++ keyword K.IsA ++ enum_text constants
type_text (AType.Derived name base attributes) =
    token name ++ keyword K.IsA ++ base_text base ++ with_text attr_text attributes

abbrev pub domain_text : DomainTree → List ℕ
domain_text d = keyword K.Domain ++ last d.name.text ++ lines type_text d.types ++ heading K.EndDomain

-- ---- the contract

abbrev pub param_text : ParamTree → List ℕ
param_text p = token p.name ++ sign Colon ++ token p.type_name

abbrev pub give_text : GiveTree → List ℕ
give_text g = token g.name ++ sign Assign ++ rhs_text g.value

abbrev pub decl_text : DeclTree → List ℕ
decl_text d = token d.name ++ sign Colon ++ token d.type_name ++ with_text give_text d.gives

abbrev pub trigger_text : Option PropTree → List ℕ
trigger_text (Some p) = prop_text p ++ sign Arrow
trigger_text None = []

-- what an obligation or a power begins with
unfoldable pub start_text : Written → Option PropTree → List ℕ
start_text name trigger = token name ++ sign Colon ++ trigger_text trigger

-- its parties and its antecedent
unfoldable pub parties_text : Written → Written → PropTree → List ℕ
parties_text party other_party antecedent =
    token party ++ sign Comma ++ token other_party ++ sign Comma ++ prop_text antecedent ++ sign Comma

abbrev pub oblig_text : ObligTree → List ℕ
oblig_text o =
    start_text o.name o.trigger ++ keyword K.O
    ++ in_brackets (parties_text o.debtor o.creditor o.antecedent ++ prop_text o.consequent)

unfoldable pub act_text : ActTree → List ℕ
act_text a = keyword (verb_word a.verb.verb) ++ in_brackets (target_text a.target)

abbrev pub power_text : PowerTree → List ℕ
power_text p =
    start_text p.name p.trigger ++ keyword K.P
    ++ in_brackets (parties_text p.holder p.other_party p.antecedent ++ act_text p.act)

-- a heading and its lines, which is left out where it has none
abbrev pub section : {A : Type 0} → List ℕ → (A → List ℕ) → List A → List ℕ
section above text [] = []
section above text (x ∷ xs) = above ++ lines text (x ∷ xs)

-- the first line
unfoldable pub first_line : ContractTree → List ℕ
first_line c =
    keyword K.Contract ++ token c.name ++ in_brackets (listed param_text c.parameters)
    ++ keyword K.Unit ++ heading (unit_word c.unit.unit)

unfoldable pub sections_text : ContractTree → List ℕ
sections_text c =
    section (heading K.Declarations) decl_text c.declarations
    ++ section (heading K.Preconditions) prop_text c.preconditions
    ++ section (heading K.Postconditions) prop_text c.postconditions
    ++ section (heading K.Obligations) oblig_text c.obligations
    ++ section (keyword K.Surviving ++ heading K.Obligations) oblig_text c.surviving
    ++ section (heading K.Powers) power_text c.powers
    ++ section (heading K.Constraints) prop_text c.constraints

abbrev pub contract_text : ContractTree → List ℕ
contract_text c = first_line c ++ sections_text c ++ heading K.EndContract

abbrev pub canonical_text : SpecTree → List ℕ
canonical_text s = domain_text s.domain ++ contract_text s.contract
