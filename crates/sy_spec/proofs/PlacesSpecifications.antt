-- Where a text goes wrong in a specification.
use Rattle.std.proofs.Common.{inl, [], Some, None}
use Rattle.sy_base.specs.declared.time.TimeUnit.{TimeUnit}
use Rattle.sy_base.specs.declared.time.TimeUnit.TheVariants.{Day}
use Rattle.sy_words.specs.declared.verb.Verb.{Verb}
use Rattle.sy_words.specs.declared.verb.Verb.TheVariants as V
use Rattle.sy_lex.specs.declared.keyword.Keyword.{Keyword}
use Rattle.sy_lex.specs.declared.keyword.Keyword.TheVariants as K
use Rattle.sy_lex.specs.declared.sign.Sign.TheVariants.{Colon, Comma, Open, Close, Assign, Arrow}
use Rattle.sy_lex.specs.declared.token.TokenKind.TheVariants as S
use Rattle.sy_lex.specs.declared.written.Written.{Written}
use Rattle.sy_spec.specs.declared.domain.TypeTree.TheVariants as AType
use Rattle.sy_spec.specs.declared.domain.BaseTree.TheVariants as Base
use Rattle.sy_reader.specs.Grammar as grammar
use Rattle.sy_reader.specs.Grammar.{Rule, spelled, keyword}
use Rattle.sy_spec.specs.Specifications.{enumeration, base, attr, with_listed, type, domain, unit_word, unit, param, give, decl, trigger, oblig, verb_word, verb, act, power, section, surviving_section, contract, spec}
use Rattle.sy_reader.specs.Machine.Reading.{Reading}
use Rattle.sy_spec.specs.Machine.ReadingSpecifications.{is_heading, enumeration_at, base_by, base_at, env_at, attr_at, with_listed_at, is_a_at, derived_at, body_at, type_at, domain_at, unit_by, unit_at, param_at, give_at, decl_at, trigger_at, oblig_at, verb_by, verb_at, act_at, power_at, section_at, surviving_at, contract_at, spec_at}
use Rattle.sy_reader.proofs.Places.{Places, filled_wider, spelled_places, then_places, node_places, token_places, keyword_places, before_places, between_places}
use Rattle.sy_reader.proofs.PlacesChoices.{Ways, way, tagged_ways, ◌or◌, by_next_places, either_places, first_places, optional_places, unless_places, same_places}
use Rattle.sy_reader.proofs.PlacesMany.{listed_places, maybe_listed_places, lines_places}
use Rattle.sy_tree.proofs.PlacesTerms.{rhs_places}
use Rattle.sy_tree.proofs.PlacesEvents.{target_places}
use Rattle.sy_tree.proofs.PlacesPropositions.{prop_places}
use Rattle.sy_spec.proofs.AgreeSpecifications.{base_covers, derived, unit_of, some_unit, unit_reads, unit_covers, unit_to, unit_back, verb_of, some_verb, verb_reads, verb_covers, verb_to, verb_back}

enumeration_places : Places enumeration enumeration_at
unfolding enumeration_at
enumeration_places = then_places (keyword_places K.Enumeration) λ _. node_places (λ constants. record { constants = constants }) (between_places Open Close (listed_places (token_places S.Word)))

abbrev base_ways : Ways base base_by
base_ways = way (node_places Base.Role (keyword_places K.Role)) or way (node_places Base.Asset (keyword_places K.Asset)) or way (node_places Base.Event (keyword_places K.Event)) or way (node_places Base.Named (token_places S.Word))

base_places : Places base base_at
unfolding base_at
base_places = by_next_places base_ways base_covers (filled_wider (λ from x rest d. inl (inl (inl d))) (node_places Base.Role (keyword_places K.Role)).filled)

env_places : Places (grammar.maybe (keyword K.Env)) env_at
env_places = optional_places (S.Reserved K.Env) None (node_places Some (keyword_places K.Env))

attr_places : Places attr attr_at
unfolding attr_at
attr_places = then_places env_places λ env. then_places (before_places Colon (token_places S.Word)) λ name. node_places (λ type_name. record { env = env; name = name; type_name = type_name }) (token_places S.Word)

with_places : {A : Type 0} {R : Rule A} {r : Reading A} → Places R r → Places (with_listed R) (with_listed_at r)
with_places one = optional_places (S.Reserved K.With) [] (then_places (keyword_places K.With) λ _. listed_places one)

is_a_places : Places (grammar.◌or◌ (keyword K.IsA) (keyword K.IsAn)) is_a_at
is_a_places = either_places (S.Reserved K.IsAn) (keyword_places K.IsA) (keyword_places K.IsAn)

derived_places : (name : Written) → Places (derived name) (derived_at name)
derived_places name = then_places base_places λ b. node_places (AType.Derived name b) (with_places attr_places)

body_places : (name : Written) → Places (grammar.◌or◌ (grammar.◌>>=◌ enumeration λ constants. spelled (AType.Enumeration name constants)) (derived name)) (body_at name)
body_places name = first_places (S.Reserved K.Enumeration) (node_places (AType.Enumeration name) enumeration_places) (derived_places name)

type_places : Places type type_at
unfolding type_at
type_places = then_places (token_places S.Word) λ name. then_places is_a_places λ _. body_places name

domain_places : Places domain domain_at
unfolding domain_at
domain_places = then_places (keyword_places K.Domain) λ _. then_places (token_places S.Word) λ name. then_places (lines_places is_heading type_places) λ types. then_places (keyword_places K.EndDomain) λ _. spelled_places _

unit_of_places : (u : TimeUnit) → Places (unit_of u) (unit_reads u)
unit_of_places u = node_places (λ place. record { unit = u; place = place }) (keyword_places (unit_word u))

abbrev unit_ways : Ways some_unit unit_by
unit_ways = tagged_ways unit_reads unit_of_places

unit_places : Places unit unit_at
unfolding unit_at
unit_places = same_places (by_next_places unit_ways unit_covers (filled_wider (λ from x rest d. (Day, d)) (unit_of_places Day).filled)) unit_to unit_back

param_places : Places param param_at
unfolding param_at
param_places = then_places (before_places Colon (token_places S.Word)) λ name. node_places (λ type_name. record { name = name; type_name = type_name }) (token_places S.Word)

give_places : Places give give_at
unfolding give_at
give_places = then_places (before_places Assign (token_places S.Word)) λ name. node_places (λ value. record { name = name; value = value }) rhs_places

decl_places : Places decl decl_at
unfolding decl_at
decl_places = then_places (before_places Colon (token_places S.Word)) λ name. then_places (token_places S.Word) λ type_name. node_places (λ gives. record { name = name; type_name = type_name; gives = gives }) (with_places give_places)

trigger_places : (word : Keyword) → Places trigger (trigger_at word)
unfolding trigger_at
trigger_places word = unless_places (S.Reserved word) None (node_places Some (before_places Arrow prop_places))

oblig_places : Places oblig oblig_at
unfolding oblig_at
oblig_places = then_places (before_places Colon (token_places S.Word)) λ name. then_places (trigger_places K.O) λ trigger. then_places (keyword_places K.O) λ _.
    then_places (between_places Open Comma (token_places S.Word)) λ debtor. then_places (before_places Comma (token_places S.Word)) λ creditor. then_places (before_places Comma prop_places) λ antecedent.
    node_places (λ consequent. record { name = name; trigger = trigger; debtor = debtor; creditor = creditor; antecedent = antecedent; consequent = consequent }) (before_places Close prop_places)

verb_of_places : (v : Verb) → Places (verb_of v) (verb_reads v)
verb_of_places v = node_places (λ place. record { verb = v; place = place }) (keyword_places (verb_word v))

abbrev verb_ways : Ways some_verb verb_by
verb_ways = tagged_ways verb_reads verb_of_places

verb_places : Places verb verb_at
unfolding verb_at
verb_places = same_places (by_next_places verb_ways verb_covers (filled_wider (λ from x rest d. (V.Suspends, d)) (verb_of_places V.Suspends).filled)) verb_to verb_back

act_places : Places act act_at
unfolding act_at
act_places = then_places verb_places λ verb. node_places (λ target. record { verb = verb; target = target }) (between_places Open Close target_places)

power_places : Places power power_at
unfolding power_at
power_places = then_places (before_places Colon (token_places S.Word)) λ name. then_places (trigger_places K.P) λ trigger. then_places (keyword_places K.P) λ _.
    then_places (between_places Open Comma (token_places S.Word)) λ holder. then_places (before_places Comma (token_places S.Word)) λ other_party. then_places (before_places Comma prop_places) λ antecedent.
    node_places (λ act. record { name = name; trigger = trigger; holder = holder; other_party = other_party; antecedent = antecedent; act = act }) (before_places Close act_places)

section_places : {A : Type 0} {R : Rule A} {r : Reading A} (word : Keyword) → Places R r → Places (section word R) (section_at word r)
unfolding section_at
section_places word one = optional_places (S.Reserved word) [] (then_places (keyword_places word) λ _. lines_places is_heading one)

surviving_places : Places surviving_section surviving_at
unfolding surviving_at
surviving_places = optional_places (S.Reserved K.Surviving) [] (then_places (keyword_places K.Surviving) λ _. then_places (keyword_places K.Obligations) λ _. lines_places is_heading oblig_places)

contract_places : Places contract contract_at
unfolding contract_at
contract_places = then_places (keyword_places K.Contract) λ place. then_places (token_places S.Word) λ name. then_places (between_places Open Close (maybe_listed_places Close param_places)) λ parameters.
    then_places (keyword_places K.Unit) λ _. then_places unit_places λ unit. then_places (section_places K.Declarations decl_places) λ declarations. then_places (section_places K.Preconditions prop_places) λ preconditions.
    then_places (section_places K.Postconditions prop_places) λ postconditions. then_places (section_places K.Obligations oblig_places) λ obligations. then_places surviving_places λ surviving.
    then_places (section_places K.Powers power_places) λ powers. then_places (section_places K.Constraints prop_places) λ constraints. then_places (keyword_places K.EndContract) λ _. spelled_places _

pub spec_places : Places spec spec_at
unfolding spec_at
spec_places = then_places domain_places λ domain. node_places (λ contract. record { domain = domain; contract = contract }) contract_places
