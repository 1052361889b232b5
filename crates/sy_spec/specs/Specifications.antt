-- The grammar of specifications.
use Rattle.std.specs.Prelude.{List, [], Option}
use Rattle.sy_base.specs.declared.time.TimeUnit.{TimeUnit}
use Rattle.sy_base.specs.declared.time.TimeUnit.TheVariants.{Minute, Hour, Day}
use Rattle.sy_words.specs.declared.verb.Verb.{Verb}
use Rattle.sy_words.specs.declared.verb.Verb.TheVariants as V
use Rattle.sy_lex.specs.declared.keyword.Keyword.{Keyword}
use Rattle.sy_lex.specs.declared.keyword.Keyword.TheVariants as K
use Rattle.sy_lex.specs.declared.sign.Sign.TheVariants.{Colon, Comma, Open, Close, Assign, Arrow}
use Rattle.sy_lex.specs.declared.token.TokenKind.TheVariants as S
use Rattle.sy_spec.specs.declared.domain.DomainTree.{DomainTree}
use Rattle.sy_spec.specs.declared.domain.TypeTree.{TypeTree}
use Rattle.sy_spec.specs.declared.domain.TypeTree.TheVariants as AType
use Rattle.sy_spec.specs.declared.domain.EnumTree.{EnumTree}
use Rattle.sy_spec.specs.declared.domain.BaseTree.{BaseTree}
use Rattle.sy_spec.specs.declared.domain.BaseTree.TheVariants as Base
use Rattle.sy_spec.specs.declared.domain.AttrTree.{AttrTree}
use Rattle.sy_spec.specs.declared.contract.SpecTree.{SpecTree}
use Rattle.sy_spec.specs.declared.contract.ContractTree.{ContractTree}
use Rattle.sy_spec.specs.declared.contract.UnitTree.{UnitTree}
use Rattle.sy_spec.specs.declared.contract.ParamTree.{ParamTree}
use Rattle.sy_spec.specs.declared.contract.DeclTree.{DeclTree}
use Rattle.sy_spec.specs.declared.contract.GiveTree.{GiveTree}
use Rattle.sy_spec.specs.declared.position.ObligTree.{ObligTree}
use Rattle.sy_spec.specs.declared.position.PowerTree.{PowerTree}
use Rattle.sy_spec.specs.declared.position.ActTree.{ActTree}
use Rattle.sy_spec.specs.declared.position.VerbTree.{VerbTree}
use Rattle.sy_tree.specs.declared.proposition.PropTree.{PropTree}
use Rattle.sy_reader.specs.Grammar.{Rule, spelled, ◌>>=◌, ◌or◌, token, keyword, maybe, before, between, listed, maybe_listed, ended}
use Rattle.sy_tree.specs.Terms.{rhs, target}
use Rattle.sy_tree.specs.Propositions.{prop}

-- enum = "Enumeration" "(" NAME { "," NAME } ")"
abbrev pub enumeration : Rule EnumTree
enumeration = do
  _ ← keyword K.Enumeration
  constants ← between Open (listed (token S.Word)) Close
  spelled (record { constants = constants })

-- base = "Role" | "Asset" | "Event" | NAME
abbrev pub base : Rule BaseTree
base =
    (keyword K.Role >>= λ place. spelled (Base.Role place))
    or (keyword K.Asset >>= λ place. spelled (Base.Asset place))
    or (keyword K.Event >>= λ place. spelled (Base.Event place))
    or (token S.Word >>= λ name. spelled (Base.Named name))

-- attr = [ "Env" ] NAME ":" NAME
abbrev pub attr : Rule AttrTree
attr = do
  env ← maybe (keyword K.Env)
  name ← before (token S.Word) Colon
  type_name ← token S.Word
  spelled (record { env = env; name = name; type_name = type_name })

-- [ "with" R { "," R } ]
abbrev pub with_listed : {A : Type 0} → Rule A → Rule (List A)
with_listed R = (keyword K.With >>= λ _. listed R) or spelled []

-- type = NAME ( "isA" | "isAn" ) ( enum | base [ "with" attr { "," attr } ] )
abbrev pub type : Rule TypeTree
type = do
  name ← token S.Word
  _ ← keyword K.IsA or keyword K.IsAn
  (enumeration >>= λ constants. spelled (AType.Enumeration name constants))
      or (do
        base ← base
        attributes ← with_listed attr
        spelled (AType.Derived name base attributes))

-- domain = "Domain" NAME { type ";" } "endDomain"
abbrev pub domain : Rule DomainTree
domain = do
  _ ← keyword K.Domain
  name ← token S.Word
  types ← ended type
  _ ← keyword K.EndDomain
  spelled (record { name = name; types = types })

-- the word of a unit
abbrev pub unit_word : TimeUnit → Keyword
unit_word Minute = K.Minute
unit_word Hour = K.Hour
unit_word Day = K.Day

-- unit = "Minute" | "Hour" | "Day"
abbrev pub unit : Rule UnitTree
unit from x rest = keyword (unit_word x.unit) from x.place rest

-- param = NAME ":" NAME
abbrev pub param : Rule ParamTree
param = do
  name ← before (token S.Word) Colon
  type_name ← token S.Word
  spelled (record { name = name; type_name = type_name })

-- give = NAME ":=" rhs
abbrev pub give : Rule GiveTree
give = do
  name ← before (token S.Word) Assign
  value ← rhs
  spelled (record { name = name; value = value })

-- decl = NAME ":" NAME [ "with" give { "," give } ]
abbrev pub decl : Rule DeclTree
decl = do
  name ← before (token S.Word) Colon
  type_name ← token S.Word
  gives ← with_listed give
  spelled (record { name = name; type_name = type_name; gives = gives })

-- [ prop "->" ]
abbrev pub trigger : Rule (Option PropTree)
trigger = maybe (before prop Arrow)

-- oblig = NAME ":" [ prop "->" ] "O" "(" NAME "," NAME "," prop "," prop ")"
abbrev pub oblig : Rule ObligTree
oblig = do
  name ← before (token S.Word) Colon
  trigger ← trigger
  _ ← keyword K.O
  debtor ← between Open (token S.Word) Comma
  creditor ← before (token S.Word) Comma
  antecedent ← before prop Comma
  consequent ← before prop Close
  spelled (record { name = name; trigger = trigger; debtor = debtor; creditor = creditor; antecedent = antecedent; consequent = consequent })

-- the word of a verb
abbrev pub verb_word : Verb → Keyword
verb_word V.Suspends = K.Suspends
verb_word V.Resumes = K.Resumes
verb_word V.Discharges = K.Discharges
verb_word V.Terminates = K.Terminates
verb_word V.Triggers = K.Triggers

-- verb = "suspends" | "resumes" | "discharges" | "terminates" | "triggers"
abbrev pub verb : Rule VerbTree
verb from x rest = keyword (verb_word x.verb) from x.place rest

-- act = verb "(" target ")"
abbrev pub act : Rule ActTree
act = do
  verb ← verb
  target ← between Open target Close
  spelled (record { verb = verb; target = target })

-- power = NAME ":" [ prop "->" ] "P" "(" NAME "," NAME "," prop "," act ")"
abbrev pub power : Rule PowerTree
power = do
  name ← before (token S.Word) Colon
  trigger ← trigger
  _ ← keyword K.P
  holder ← between Open (token S.Word) Comma
  other_party ← before (token S.Word) Comma
  antecedent ← before prop Comma
  act ← before act Close
  spelled (record { name = name; trigger = trigger; holder = holder; other_party = other_party; antecedent = antecedent; act = act })

-- [ WORD { R ";" } ]: a section that is left out has no lines
abbrev pub section : {A : Type 0} → Keyword → Rule A → Rule (List A)
section word R = (keyword word >>= λ _. ended R) or spelled []

-- [ "Surviving" "Obligations" { oblig ";" } ]
abbrev pub surviving_section : Rule (List ObligTree)
surviving_section = (keyword K.Surviving >>= λ _. keyword K.Obligations >>= λ _. ended oblig) or spelled []

-- contract = "Contract" NAME "(" [ param { "," param } ] ")" "unit" unit SECTIONS "endContract"
abbrev pub contract : Rule ContractTree
contract = do
  place ← keyword K.Contract
  name ← token S.Word
  parameters ← between Open (maybe_listed param) Close
  _ ← keyword K.Unit
  unit ← unit
  declarations ← section K.Declarations decl
  preconditions ← section K.Preconditions prop
  postconditions ← section K.Postconditions prop
  obligations ← section K.Obligations oblig
  surviving ← surviving_section
  powers ← section K.Powers power
  constraints ← section K.Constraints prop
  _ ← keyword K.EndContract
  spelled (record { place = place; name = name; parameters = parameters; unit = unit; declarations = declarations; preconditions = preconditions; postconditions = postconditions; obligations = obligations; surviving = surviving; powers = powers; constraints = constraints })

-- spec = domain contract
abbrev pub spec : Rule SpecTree
spec = do
  domain ← domain
  contract ← contract
  spelled (record { domain = domain; contract = contract })
