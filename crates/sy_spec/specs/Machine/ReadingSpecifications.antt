-- How specifications are read.
use Rattle.std.specs.Prelude.{Bool, true, false, List, [], Option, Some, None, if◌then◌else◌, Ok}
use Rattle.sy_base.specs.declared.refusal.Place.{Place}
use Rattle.sy_base.specs.declared.time.TimeUnit.{TimeUnit}
use Rattle.sy_base.specs.declared.time.TimeUnit.TheVariants.{Minute, Hour, Day}
use Rattle.sy_words.specs.declared.verb.Verb.{Verb}
use Rattle.sy_words.specs.declared.verb.Verb.TheVariants as V
use Rattle.sy_lex.specs.declared.keyword.Keyword.{Keyword}
use Rattle.sy_lex.specs.declared.keyword.Keyword.TheVariants as K
use Rattle.sy_lex.specs.declared.sign.Sign.TheVariants.{Colon, Comma, Open, Close, Assign, Arrow}
use Rattle.sy_lex.specs.declared.token.TokenKind.{TokenKind}
use Rattle.sy_lex.specs.declared.token.TokenKind.TheVariants as S
use Rattle.sy_lex.specs.declared.written.Written.{Written}
use Rattle.sy_spec.specs.declared.domain.DomainTree.{DomainTree}
use Rattle.sy_spec.specs.declared.domain.TypeTree.{TypeTree}
use Rattle.sy_spec.specs.declared.domain.TypeTree.TheVariants as AType
use Rattle.sy_spec.specs.declared.domain.EnumTree.{EnumTree}
use Rattle.sy_spec.specs.declared.domain.BaseTree.{BaseTree}
use Rattle.sy_spec.specs.declared.domain.BaseTree.TheVariants as Base
use Rattle.sy_spec.specs.declared.domain.AttrTree.{AttrTree}
use Rattle.sy_spec.specs.declared.contract.SpecTree.{SpecTree}
use Rattle.sy_spec.specs.declared.contract.ContractTree.{ContractTree}
use Rattle.sy_spec.specs.declared.contract.UnitTree.{UnitTree}
use Rattle.sy_spec.specs.declared.contract.ParamTree.{ParamTree}
use Rattle.sy_spec.specs.declared.contract.DeclTree.{DeclTree}
use Rattle.sy_spec.specs.declared.contract.GiveTree.{GiveTree}
use Rattle.sy_spec.specs.declared.position.ObligTree.{ObligTree}
use Rattle.sy_spec.specs.declared.position.PowerTree.{PowerTree}
use Rattle.sy_spec.specs.declared.position.ActTree.{ActTree}
use Rattle.sy_spec.specs.declared.position.VerbTree.{VerbTree}
use Rattle.sy_tree.specs.declared.proposition.PropTree.{PropTree}
use Rattle.sy_reader.specs.Machine.Reading.{Reading, ◌>>=◌, give, fail, begins_with, token_at, keyword_at, by_next, before_at, between_at, listed_at, maybe_listed_at}
use Rattle.sy_reader.specs.Machine.ReadingLines.{ended_at}
use Rattle.sy_tree.specs.Machine.ReadingTerms.{rhs_at, target_at}
use Rattle.sy_tree.specs.Machine.ReadingPropositions.{prop_at}

-- the headings of the parts of a contract, and the words that end a part
abbrev pub is_heading : TokenKind → Bool
is_heading (S.Reserved K.EndDomain) = true
is_heading (S.Reserved K.Declarations) = true
is_heading (S.Reserved K.Preconditions) = true
is_heading (S.Reserved K.Postconditions) = true
is_heading (S.Reserved K.Obligations) = true
is_heading (S.Reserved K.Surviving) = true
is_heading (S.Reserved K.Powers) = true
is_heading (S.Reserved K.Constraints) = true
is_heading (S.Reserved K.EndContract) = true
is_heading kind = false

unfoldable pub enumeration_at : Reading EnumTree
enumeration_at = do
  _ ← keyword_at K.Enumeration
  constants ← between_at Open (listed_at (token_at S.Word)) Close
  give (record { constants = constants })

abbrev pub base_by : TokenKind → Reading BaseTree
base_by (S.Reserved K.Role) = keyword_at K.Role >>= λ place. give (Base.Role place)
base_by (S.Reserved K.Asset) = keyword_at K.Asset >>= λ place. give (Base.Asset place)
base_by (S.Reserved K.Event) = keyword_at K.Event >>= λ place. give (Base.Event place)
base_by kind = token_at S.Word >>= λ name. give (Base.Named name)

unfoldable pub base_at : Reading BaseTree
base_at = by_next base_by

abbrev pub env_at : Reading (Option Place)
env_at lexemes =
    if begins_with (S.Reserved K.Env) lexemes
    then (keyword_at K.Env >>= λ place. give (Some place)) lexemes
    else Ok (None, lexemes)

unfoldable pub attr_at : Reading AttrTree
attr_at = do
  env ← env_at
  name ← before_at (token_at S.Word) Colon
  type_name ← token_at S.Word
  give (record { env = env; name = name; type_name = type_name })

abbrev pub with_listed_at : {A : Type 0} → Reading A → Reading (List A)
with_listed_at reading lexemes =
    if begins_with (S.Reserved K.With) lexemes
    then (keyword_at K.With >>= λ _. listed_at reading) lexemes
    else Ok ([], lexemes)

abbrev pub is_a_at : Reading Place
is_a_at lexemes =
    if begins_with (S.Reserved K.IsAn) lexemes then keyword_at K.IsAn lexemes else keyword_at K.IsA lexemes

abbrev pub derived_at : Written → Reading TypeTree
derived_at name = do
  base ← base_at
  attributes ← with_listed_at attr_at
  give (AType.Derived name base attributes)

abbrev pub body_at : Written → Reading TypeTree
body_at name lexemes =
    if begins_with (S.Reserved K.Enumeration) lexemes
    then (enumeration_at >>= λ constants. give (AType.Enumeration name constants)) lexemes
    else derived_at name lexemes

unfoldable pub type_at : Reading TypeTree
type_at = do
  name ← token_at S.Word
  _ ← is_a_at
  body_at name

unfoldable pub domain_at : Reading DomainTree
domain_at = do
  _ ← keyword_at K.Domain
  name ← token_at S.Word
  types ← ended_at is_heading type_at
  _ ← keyword_at K.EndDomain
  give (record { name = name; types = types })

abbrev pub unit_of_word : Keyword → Option TimeUnit
unit_of_word K.Minute = Some Minute
unit_of_word K.Hour = Some Hour
unit_of_word K.Day = Some Day
unit_of_word word = None

abbrev pub unit_of_at : Option TimeUnit → Keyword → Reading UnitTree
unit_of_at (Some unit) word = keyword_at word >>= λ place. give (record { unit = unit; place = place })
unit_of_at None word = fail

abbrev pub unit_by : TokenKind → Reading UnitTree
unit_by (S.Reserved word) = unit_of_at (unit_of_word word) word
unit_by kind = fail

unfoldable pub unit_at : Reading UnitTree
unit_at = by_next unit_by

unfoldable pub param_at : Reading ParamTree
param_at = do
  name ← before_at (token_at S.Word) Colon
  type_name ← token_at S.Word
  give (record { name = name; type_name = type_name })

unfoldable pub give_at : Reading GiveTree
give_at = do
  name ← before_at (token_at S.Word) Assign
  value ← rhs_at
  give (record { name = name; value = value })

unfoldable pub decl_at : Reading DeclTree
decl_at = do
  name ← before_at (token_at S.Word) Colon
  type_name ← token_at S.Word
  gives ← with_listed_at give_at
  give (record { name = name; type_name = type_name; gives = gives })

-- a trigger, unless the word stands there that would follow it
unfoldable pub trigger_at : Keyword → Reading (Option PropTree)
trigger_at word lexemes =
    if begins_with (S.Reserved word) lexemes
    then Ok (None, lexemes)
    else (before_at prop_at Arrow >>= λ x. give (Some x)) lexemes

unfoldable pub oblig_at : Reading ObligTree
oblig_at = do
  name ← before_at (token_at S.Word) Colon
  trigger ← trigger_at K.O
  _ ← keyword_at K.O
  debtor ← between_at Open (token_at S.Word) Comma
  creditor ← before_at (token_at S.Word) Comma
  antecedent ← before_at prop_at Comma
  consequent ← before_at prop_at Close
  give (record { name = name; trigger = trigger; debtor = debtor; creditor = creditor; antecedent = antecedent; consequent = consequent })

abbrev pub verb_of_word : Keyword → Option Verb
verb_of_word K.Suspends = Some V.Suspends
verb_of_word K.Resumes = Some V.Resumes
verb_of_word K.Discharges = Some V.Discharges
verb_of_word K.Terminates = Some V.Terminates
verb_of_word K.Triggers = Some V.Triggers
verb_of_word word = None

abbrev pub verb_of_at : Option Verb → Keyword → Reading VerbTree
verb_of_at (Some verb) word = keyword_at word >>= λ place. give (record { verb = verb; place = place })
verb_of_at None word = fail

abbrev pub verb_by : TokenKind → Reading VerbTree
verb_by (S.Reserved word) = verb_of_at (verb_of_word word) word
verb_by kind = fail

unfoldable pub verb_at : Reading VerbTree
verb_at = by_next verb_by

unfoldable pub act_at : Reading ActTree
act_at = do
  verb ← verb_at
  target ← between_at Open target_at Close
  give (record { verb = verb; target = target })

unfoldable pub power_at : Reading PowerTree
power_at = do
  name ← before_at (token_at S.Word) Colon
  trigger ← trigger_at K.P
  _ ← keyword_at K.P
  holder ← between_at Open (token_at S.Word) Comma
  other_party ← before_at (token_at S.Word) Comma
  antecedent ← before_at prop_at Comma
  act ← before_at act_at Close
  give (record { name = name; trigger = trigger; holder = holder; other_party = other_party; antecedent = antecedent; act = act })

unfoldable pub section_at : {A : Type 0} → Keyword → Reading A → Reading (List A)
section_at word line lexemes =
    if begins_with (S.Reserved word) lexemes
    then (keyword_at word >>= λ _. ended_at is_heading line) lexemes
    else Ok ([], lexemes)

unfoldable pub surviving_at : Reading (List ObligTree)
surviving_at lexemes =
    if begins_with (S.Reserved K.Surviving) lexemes
    then (keyword_at K.Surviving >>= λ _. keyword_at K.Obligations >>= λ _. ended_at is_heading oblig_at) lexemes
    else Ok ([], lexemes)

unfoldable pub contract_at : Reading ContractTree
contract_at = do
  place ← keyword_at K.Contract
  name ← token_at S.Word
  parameters ← between_at Open (maybe_listed_at Close param_at) Close
  _ ← keyword_at K.Unit
  unit ← unit_at
  declarations ← section_at K.Declarations decl_at
  preconditions ← section_at K.Preconditions prop_at
  postconditions ← section_at K.Postconditions prop_at
  obligations ← section_at K.Obligations oblig_at
  surviving ← surviving_at
  powers ← section_at K.Powers power_at
  constraints ← section_at K.Constraints prop_at
  _ ← keyword_at K.EndContract
  give (record { place = place; name = name; parameters = parameters; unit = unit; declarations = declarations; preconditions = preconditions; postconditions = postconditions; obligations = obligations; surviving = surviving; powers = powers; constraints = constraints })

unfoldable pub spec_at : Reading SpecTree
spec_at = do
  domain ← domain_at
  contract ← contract_at
  give (record { domain = domain; contract = contract })
