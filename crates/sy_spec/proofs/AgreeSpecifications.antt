-- The rules of specifications and what reads them agree.
use Rattle.std.proofs.Common.{◌≡◌, ◌⊎◌, inl, inr, ℕ, ◌<◌, false, List, [], Option, Some, None, refl, subst, arith}
use Rattle.sy_base.specs.declared.refusal.Place.{Place}
use Rattle.sy_base.specs.declared.time.TimeUnit.{TimeUnit}
use Rattle.sy_base.specs.declared.time.TimeUnit.TheVariants.{Minute, Hour, Day}
use Rattle.sy_words.specs.declared.verb.Verb.{Verb}
use Rattle.sy_words.specs.declared.verb.Verb.TheVariants as V
use Rattle.sy_lex.specs.declared.keyword.Keyword.{Keyword}
use Rattle.sy_lex.specs.declared.keyword.Keyword.TheVariants as K
use Rattle.sy_lex.specs.declared.sign.Sign.TheVariants.{Colon, Semicolon, Comma, Open, Close, Assign, Arrow}
use Rattle.sy_lex.specs.declared.token.TokenKind.{TokenKind}
use Rattle.sy_lex.specs.declared.token.TokenKind.TheVariants as S
use Rattle.sy_lex.specs.declared.written.Written.{Written}
use Rattle.sy_spec.specs.declared.domain.TypeTree.{TypeTree}
use Rattle.sy_spec.specs.declared.domain.TypeTree.TheVariants as AType
use Rattle.sy_spec.specs.declared.domain.AttrTree.{AttrTree}
use Rattle.sy_spec.specs.declared.domain.BaseTree.TheVariants as Base
use Rattle.sy_spec.specs.declared.contract.UnitTree.{UnitTree}
use Rattle.sy_spec.specs.declared.position.VerbTree.{VerbTree}
use Rattle.sy_lex.specs.Lexemes.{Lexeme}
use Rattle.sy_reader.specs.Grammar as grammar
use Rattle.sy_reader.specs.Grammar.{Rule, spelled, keyword, token, between, maybe_listed, ended}
use Rattle.sy_tree.specs.Propositions.{prop}
use Rattle.sy_spec.specs.Specifications.{enumeration, base, attr, with_listed, type, domain, unit_word, unit, param, give, decl, trigger, oblig, verb_word, verb, act, power, contract, spec}
use Rattle.sy_reader.specs.Machine.Reading.{Reading, fail, between_at, maybe_listed_at}
use Rattle.sy_reader.specs.Machine.ReadingLines.{ended_at}
use Rattle.sy_spec.specs.Machine.ReadingSpecifications.{is_heading, enumeration_at, base_by, base_at, env_at, attr_at, with_listed_at, is_a_at, derived_at, body_at, type_at, domain_at, unit_of_at, unit_by, unit_at, param_at, give_at, decl_at, trigger_at, oblig_at, verb_of_at, verb_by, verb_at, act_at, power_at, surviving_at, contract_at, spec_at}
use Rattle.sy_tree.specs.Machine.ReadingPropositions.{prop_at}
use Rattle.sy_reader.proofs.Agree.{Agrees, Any, Next, Begins, Is, Differs, spelled_agrees, anywhere, same_agrees, swap_agrees, then_agrees, then_any, node_agrees, token_agrees, keyword_agrees, behind_agrees, before_agrees, before_any, begins_then, begins_or, begins_as, begins_so, token_begins, keyword_begins}
use Rattle.sy_reader.proofs.AgreeMany.{Ends, Without, ends_at, ends_without, listed_agrees}
use Rattle.sy_reader.proofs.AgreeChoices.{Branches, case, tagged, ◌or◌, by_next_agrees, token_case, optional_agrees, unless_agrees, either_agrees}
use Rattle.sy_tree.proofs.AgreeTerms.{rhs_agrees}
use Rattle.sy_tree.proofs.AgreeEvents.{target_agrees}
use Rattle.sy_spec.proofs.AgreeLines.{lines_agree, differs_in_line, named_begins, tail_ends, part_then, section_then}
use Rattle.sy_reader.proofs.AgreeLists.{maybe_listed_agrees}
use Rattle.sy_tree.proofs.AgreePropositions.{in_line, prop_agrees, prop_begins}

enumeration_agrees : Agrees enumeration enumeration_at Any
unfolding enumeration_at
enumeration_agrees = then_any (keyword_agrees K.Enumeration) λ _. node_agrees (λ constants. record { constants = constants })
    (behind_agrees Open (before_agrees Close (listed_agrees 0 (omega arith) (anywhere (token_agrees S.Word))) (ends_at 6 (S.Sign Close) (omega arith))))

abbrev pub base_branches : Branches base base_by Any
base_branches = case (begins_then (keyword_begins K.Role)) (node_agrees Base.Role (keyword_agrees K.Role)) or case (begins_then (keyword_begins K.Asset)) (node_agrees Base.Asset (keyword_agrees K.Asset))
    or case (begins_then (keyword_begins K.Event)) (node_agrees Base.Event (keyword_agrees K.Event)) or case (begins_then (token_begins S.Word)) (token_case S.Word Base.Named)

pub base_covers : (s : TokenKind) → base_branches.Here s ⊎ (base_by s ≡ fail)
base_covers (S.Reserved K.Role) = inl (inl (inl (inl refl)))
base_covers (S.Reserved K.Asset) = inl (inl (inl (inr refl)))
base_covers (S.Reserved K.Event) = inl (inl (inr refl))
base_covers s = inl (inr refl)

base_agrees : Agrees base base_at Any
unfolding base_at
base_agrees = by_next_agrees base_branches base_covers

env_agrees : Agrees (grammar.maybe (keyword K.Env)) env_at (Without (S.Reserved K.Env))
env_agrees = optional_agrees (S.Reserved K.Env) None (begins_then (keyword_begins K.Env)) (anywhere (node_agrees Some (keyword_agrees K.Env))) (λ rest f. f)

without_next : (kind : TokenKind) (rest : List Lexeme) → Next (Differs kind) rest → Without kind rest
without_next kind rest n = rw n.front n.passes

-- an attribute behind the word that it may begin with
abbrev attr_behind : Option Place → Written → Rule AttrTree
attr_behind env name = grammar.◌>>=◌ (token S.Word) λ type_name. spelled (record { env = env; name = name; type_name = type_name })

attr_agrees : Agrees attr attr_at Any
unfolding attr_at
attr_agrees = then_agrees env_agrees (λ env. then_any (before_any Colon (token_agrees S.Word)) λ name. node_agrees (λ type_name. record { env = env; name = name; type_name = type_name }) (token_agrees S.Word))
    (λ env mid y rest d f. without_next (S.Reserved K.Env) mid ((begins_as (named_begins Colon (attr_behind env)) refl).next mid y rest d))

with_agrees : {A : Type 0} {R : Rule A} {r : Reading A} (j : ℕ) → j < 6 → Agrees R r (Ends j) → Agrees (with_listed R) (with_listed_at r) (Ends 6)
with_agrees j above one = optional_agrees (S.Reserved K.With) [] (begins_then (keyword_begins K.With)) (then_any (keyword_agrees K.With) λ _. listed_agrees j above one) (ends_without 6 (S.Reserved K.With) (omega arith))

is_a_agrees : Agrees (grammar.◌or◌ (keyword K.IsA) (keyword K.IsAn)) is_a_at Any
is_a_agrees = either_agrees (S.Reserved K.IsAn) (begins_as (keyword_begins K.IsA) refl) (keyword_begins K.IsAn) (keyword_agrees K.IsA) (keyword_agrees K.IsAn)

abbrev pub derived : Written → Rule TypeTree
derived name = grammar.◌>>=◌ base λ b. grammar.◌>>=◌ (with_listed attr) λ attributes. spelled (AType.Derived name b attributes)

derived_agrees : (name : Written) → Agrees (derived name) (derived_at name) (Ends 6)
derived_agrees name = then_any base_agrees λ b. node_agrees (AType.Derived name b) (with_agrees 0 (omega arith) (anywhere attr_agrees))

base_begins : Begins base (Differs (S.Reserved K.Enumeration))
base_begins = begins_or (begins_or (begins_or (begins_as (begins_then (keyword_begins K.Role)) refl) (begins_as (begins_then (keyword_begins K.Asset)) refl)) (begins_as (begins_then (keyword_begins K.Event)) refl)) (begins_as (begins_then (token_begins S.Word)) refl)

body_agrees : (name : Written) → Agrees (grammar.◌or◌ (grammar.◌>>=◌ enumeration λ constants. spelled (AType.Enumeration name constants)) (derived name)) (body_at name) (Ends 6)
body_agrees name = swap_agrees (either_agrees (S.Reserved K.Enumeration) (begins_then base_begins) (begins_then (begins_then (keyword_begins K.Enumeration))) (derived_agrees name) (anywhere (node_agrees (AType.Enumeration name) enumeration_agrees)))

type_agrees : Agrees type type_at (Ends 6)
unfolding type_at
type_agrees = then_any (token_agrees S.Word) λ name. then_any is_a_agrees λ _. body_agrees name

domain_agrees : Agrees domain domain_at Any
unfolding domain_at
domain_agrees = then_any (keyword_agrees K.Domain) λ _. then_any (token_agrees S.Word) λ name. then_agrees (lines_agree type_agrees (ends_at 6 (S.Sign Semicolon) (omega arith)) (begins_as (begins_then (token_begins S.Word)) refl))
    (λ types. then_any (keyword_agrees K.EndDomain) λ _. spelled_agrees _)
    (λ types mid y rest d f. ends_at 7 (S.Reserved K.EndDomain) (omega arith) mid ((keyword_begins K.EndDomain).next mid d.0 d.1 d.2))

abbrev pub unit_of : TimeUnit → Rule UnitTree
unit_of u = grammar.◌>>=◌ (keyword (unit_word u)) λ place. spelled (record { unit = u; place = place })

abbrev pub some_unit : Rule UnitTree
some_unit from x rest = (u : TimeUnit) × unit_of u from x rest

abbrev pub unit_reads : TimeUnit → Reading UnitTree
unit_reads u = unit_of_at (Some u) (unit_word u)

pub unit_by_word : (u : TimeUnit) → unit_by (S.Reserved (unit_word u)) ≡ unit_reads u
unit_by_word Minute = refl
unit_by_word Hour = refl
unit_by_word Day = refl

abbrev pub unit_branches : Branches some_unit unit_by Any
unit_branches = tagged unit_reads (λ u. S.Reserved (unit_word u)) (λ u. begins_then (keyword_begins (unit_word u))) unit_by_word (λ u. node_agrees (λ place. record { unit = u; place = place }) (keyword_agrees (unit_word u)))

pub unit_covers : (s : TokenKind) → unit_branches.Here s ⊎ (unit_by s ≡ fail)
unit_covers (S.Reserved K.Minute) = inl (Minute, refl)
unit_covers (S.Reserved K.Hour) = inl (Hour, refl)
unit_covers (S.Reserved K.Day) = inl (Day, refl)
unit_covers s = inr refl

-- the two forms of the rule
pub unit_to : (from : List Lexeme) (x : UnitTree) (rest : List Lexeme) → some_unit from x rest → unit from x rest
unit_to from x rest d = subst (λ (y : UnitTree). keyword (unit_word y.unit) from y.place rest) d.1.3.0 (subst (λ (mid : List Lexeme). keyword (unit_word d.0) from d.1.0 mid) d.1.3.1 d.1.2)

pub unit_back : (from : List Lexeme) (x : UnitTree) (rest : List Lexeme) → unit from x rest → some_unit from x rest
unit_back from x rest d = (x.unit, (x.place, rest, d, (refl, refl)))

unit_agrees : Agrees unit unit_at Any
unfolding unit_at
unit_agrees = same_agrees (by_next_agrees unit_branches unit_covers) unit_to unit_back

param_agrees : Agrees param param_at Any
unfolding param_at
param_agrees = then_any (before_any Colon (token_agrees S.Word)) λ name. node_agrees (λ type_name. record { name = name; type_name = type_name }) (token_agrees S.Word)

give_agrees : Agrees give give_at (Ends 3)
unfolding give_at
give_agrees = then_any (before_any Assign (token_agrees S.Word)) λ name. node_agrees (λ value. record { name = name; value = value }) rhs_agrees

decl_agrees : Agrees decl decl_at (Ends 6)
unfolding decl_at
decl_agrees = then_any (before_any Colon (token_agrees S.Word)) λ name. then_any (token_agrees S.Word) λ type_name. node_agrees (λ gives. record { name = name; type_name = type_name; gives = gives }) (with_agrees 3 (omega arith) give_agrees)

trigger_agrees : (word : Keyword) → in_line (S.Reserved word) ≡ false → Agrees trigger (trigger_at word) (Next (Is (S.Reserved word)))
unfolding trigger_at
trigger_agrees word out = unless_agrees (S.Reserved word) None (begins_then (begins_then (begins_so prop_begins (differs_in_line (S.Reserved word) out)))) (node_agrees Some (before_agrees Arrow prop_agrees (ends_at 5 (S.Sign Arrow) (omega arith)))) (λ rest n. tt)

oblig_agrees : Agrees oblig oblig_at Any
unfolding oblig_at
oblig_agrees = then_any (before_any Colon (token_agrees S.Word)) λ name. then_agrees (trigger_agrees K.O refl)
    (λ trigger. then_any (keyword_agrees K.O) λ _. then_any (behind_agrees Open (before_any Comma (token_agrees S.Word))) λ debtor. then_any (before_any Comma (token_agrees S.Word)) λ creditor.
    then_any (before_agrees Comma prop_agrees (ends_at 5 (S.Sign Comma) (omega arith))) λ antecedent. node_agrees
    (λ consequent. record { name = name; trigger = trigger; debtor = debtor; creditor = creditor; antecedent = antecedent; consequent = consequent }) (before_agrees Close prop_agrees (ends_at 5 (S.Sign Close) (omega arith))))
    (λ trigger mid y rest d f. (keyword_begins K.O).next mid d.0 d.1 d.2)

abbrev pub verb_of : Verb → Rule VerbTree
verb_of v = grammar.◌>>=◌ (keyword (verb_word v)) λ place. spelled (record { verb = v; place = place })

abbrev pub some_verb : Rule VerbTree
some_verb from x rest = (v : Verb) × verb_of v from x rest

abbrev pub verb_reads : Verb → Reading VerbTree
verb_reads v = verb_of_at (Some v) (verb_word v)

pub verb_by_word : (v : Verb) → verb_by (S.Reserved (verb_word v)) ≡ verb_reads v
verb_by_word V.Suspends = refl
verb_by_word V.Resumes = refl
verb_by_word V.Discharges = refl
verb_by_word V.Terminates = refl
verb_by_word V.Triggers = refl

abbrev pub verb_branches : Branches some_verb verb_by Any
verb_branches = tagged verb_reads (λ v. S.Reserved (verb_word v)) (λ v. begins_then (keyword_begins (verb_word v))) verb_by_word (λ v. node_agrees (λ place. record { verb = v; place = place }) (keyword_agrees (verb_word v)))

pub verb_covers : (s : TokenKind) → verb_branches.Here s ⊎ (verb_by s ≡ fail)
verb_covers (S.Reserved K.Suspends) = inl (V.Suspends, refl)
verb_covers (S.Reserved K.Resumes) = inl (V.Resumes, refl)
verb_covers (S.Reserved K.Discharges) = inl (V.Discharges, refl)
verb_covers (S.Reserved K.Terminates) = inl (V.Terminates, refl)
verb_covers (S.Reserved K.Triggers) = inl (V.Triggers, refl)
verb_covers s = inr refl

-- the two forms of the rule
pub verb_to : (from : List Lexeme) (x : VerbTree) (rest : List Lexeme) → some_verb from x rest → verb from x rest
verb_to from x rest d = subst (λ (y : VerbTree). keyword (verb_word y.verb) from y.place rest) d.1.3.0 (subst (λ (mid : List Lexeme). keyword (verb_word d.0) from d.1.0 mid) d.1.3.1 d.1.2)

pub verb_back : (from : List Lexeme) (x : VerbTree) (rest : List Lexeme) → verb from x rest → some_verb from x rest
verb_back from x rest d = (x.verb, (x.place, rest, d, (refl, refl)))

verb_agrees : Agrees verb verb_at Any
unfolding verb_at
verb_agrees = same_agrees (by_next_agrees verb_branches verb_covers) verb_to verb_back

act_agrees : Agrees act act_at Any
unfolding act_at
act_agrees = then_any verb_agrees λ verb. node_agrees (λ target. record { verb = verb; target = target }) (behind_agrees Open (before_any Close target_agrees))

power_agrees : Agrees power power_at Any
unfolding power_at
power_agrees = then_any (before_any Colon (token_agrees S.Word)) λ name. then_agrees (trigger_agrees K.P refl)
    (λ trigger. then_any (keyword_agrees K.P) λ _. then_any (behind_agrees Open (before_any Comma (token_agrees S.Word))) λ holder. then_any (before_any Comma (token_agrees S.Word)) λ other_party.
    then_any (before_agrees Comma prop_agrees (ends_at 5 (S.Sign Comma) (omega arith))) λ antecedent. node_agrees
    (λ act. record { name = name; trigger = trigger; holder = holder; other_party = other_party; antecedent = antecedent; act = act }) (before_any Close act_agrees))
    (λ trigger mid y rest d f. (keyword_begins K.P).next mid d.0 d.1 d.2)

abbrev pub Lines : {A : Type 0} → Rule A → Reading A → Type 0
Lines R r = Agrees (ended R) (ended_at is_heading r) (Ends 7)

decl_lines : Lines decl decl_at
decl_lines = lines_agree decl_agrees (ends_at 6 (S.Sign Semicolon) (omega arith)) (begins_as (begins_then (begins_then (token_begins S.Word))) refl)

prop_lines : Lines prop prop_at
prop_lines = lines_agree prop_agrees (ends_at 5 (S.Sign Semicolon) (omega arith)) prop_begins

oblig_lines : Lines oblig oblig_at
oblig_lines = lines_agree oblig_agrees (λ rest n. tt) (begins_as (begins_then (begins_then (token_begins S.Word))) refl)

power_lines : Lines power power_at
power_lines = lines_agree power_agrees (λ rest n. tt) (begins_as (begins_then (begins_then (token_begins S.Word))) refl)

parameters_agree : Agrees (between Open (maybe_listed param) Close) (between_at Open (maybe_listed_at Close param_at) Close) Any
parameters_agree = behind_agrees Open (before_agrees Close (maybe_listed_agrees Close (omega arith) param_agrees (begins_as (begins_then (begins_then (token_begins S.Word))) refl)) (λ rest n. n))

contract_agrees : Agrees contract contract_at Any
unfolding contract_at surviving_at
contract_agrees = then_any (keyword_agrees K.Contract) λ place. then_any (token_agrees S.Word) λ name. then_any parameters_agree λ parameters. then_any (keyword_agrees K.Unit) λ _. then_any unit_agrees λ unit.
    (section_then decl decl_at K.Declarations 7 (omega arith) (omega arith) decl_lines λ declarations.
    section_then prop prop_at K.Preconditions 8 (omega arith) (omega arith) prop_lines λ preconditions.
    section_then prop prop_at K.Postconditions 9 (omega arith) (omega arith) prop_lines λ postconditions.
    section_then oblig oblig_at K.Obligations 10 (omega arith) (omega arith) oblig_lines λ obligations.
    part_then [] K.Surviving 11 (omega arith) (omega arith) (begins_then (keyword_begins K.Surviving)) (then_any (keyword_agrees K.Surviving) λ _. then_any (keyword_agrees K.Obligations) λ _. oblig_lines) λ surviving.
    section_then power power_at K.Powers 12 (omega arith) (omega arith) power_lines λ powers.
    section_then prop prop_at K.Constraints 13 (omega arith) (omega arith) prop_lines λ constraints.
    tail_ends 14 K.EndContract (omega arith) (begins_then (keyword_begins K.EndContract)) (then_any (keyword_agrees K.EndContract) λ _. spelled_agrees
    (record { place = place; name = name; parameters = parameters; unit = unit; declarations = declarations; preconditions = preconditions; postconditions = postconditions; obligations = obligations; surviving = surviving; powers = powers; constraints = constraints }))).agrees

pub spec_agrees : Agrees spec spec_at Any
unfolding spec_at
spec_agrees = then_any domain_agrees λ domain. node_agrees (λ contract. record { domain = domain; contract = contract }) contract_agrees
