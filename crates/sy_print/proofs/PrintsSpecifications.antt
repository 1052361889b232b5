-- The rules of specifications print.
use Rattle.std.proofs.Common.{inl, inr, ℕ, List, ◌∷◌, ◌++◌, map, refl, ap, sym, append_assoc, Some}
use Rattle.sy_lex.specs.declared.keyword.Keyword.{Keyword}
use Rattle.sy_lex.specs.declared.keyword.Keyword.TheVariants as K
use Rattle.sy_lex.specs.declared.sign.Sign.TheVariants.{Colon, Comma, Open, Close, Assign, Arrow}
use Rattle.sy_lex.specs.declared.token.TokenKind.TheVariants as S
use Rattle.sy_spec.specs.declared.domain.TypeTree.{TypeTree}
use Rattle.sy_spec.specs.declared.domain.TypeTree.TheVariants as AType
use Rattle.sy_spec.specs.declared.domain.BaseTree.TheVariants as Base
use Rattle.sy_spec.specs.declared.contract.UnitTree.{UnitTree}
use Rattle.sy_spec.specs.declared.position.VerbTree.{VerbTree}
use Rattle.sy_reader.specs.Grammar.{Rule, spelled, ◌>>=◌, ◌or◌, token, keyword, maybe}
use Rattle.sy_spec.specs.Specifications as G
use Rattle.sy_print.specs.CanonicalText as T
use Rattle.sy_print.specs.Equality as E
use Rattle.sy_print.proofs.Prints.{Printed, Within, weaker, Prints, keyword_printed, word_of, heading_of, name_of, last_name}
use Rattle.sy_print.proofs.PrintsRules.{first_part, next_part, word_part, all_parts, of_one, or_ok, nothing_ok, then_ok, before_ok, between_ok, listed_ok, maybe_listed_ok, ended_ok, optional_ok, picked_ok, same_rule}
use Rattle.sy_print.proofs.PrintsTerms.{rhs_ok, target_ok}
use Rattle.sy_print.proofs.PrintsLevels.{prop_ok}

-- ---- the domain

enumeration_ok : Prints G.enumeration T.enum_text E.plain_enum
enumeration_ok =
    first_part (word_of K.Enumeration) (next_part (between_ok Open Close (listed_ok name_of))
    (all_parts (λ _. refl) (λ _ _ e. λ i. record { constants = (e i).1 })))

base_ok : Prints G.base T.base_text E.plain_base
base_ok =
    or_ok (or_ok (or_ok
    (of_one (word_of K.Role) (λ _. refl) (λ _ _ _. refl))
    (of_one (word_of K.Asset) (λ _. refl) (λ _ _ _. refl)))
    (of_one (word_of K.Event) (λ _. refl) (λ _ _ _. refl)))
    (of_one name_of (λ _. refl) (λ _ _ e. ap Base.Named e))

env_ok : Prints (maybe (keyword K.Env)) T.env_text E.plain_env
env_ok = or_ok (of_one (word_of K.Env) (λ _. refl) (λ _ _ _. refl)) (nothing_ok refl)

attr_ok : Prints G.attr T.attr_text E.plain_attr
attr_ok =
    first_part env_ok (next_part (before_ok Colon name_of) (next_part name_of
    (all_parts (λ _. simp append_assoc refl)
    (λ _ _ e. λ i. record { env = (e i).0.0; name = (e i).0.1; type_name = (e i).1 }))))

with_listed_ok : {A : Type 0} {R : Rule A} {t : A → List ℕ} {plain : A → A}
    → Prints R t plain → Prints (G.with_listed R) (T.with_text t) (map plain)
with_listed_ok p = optional_ok (then_ok (word_of K.With) (listed_ok p)) refl (λ _ _. refl)

-- `isA` is printed for both
is_a_ok : Prints (keyword K.IsA or keyword K.IsAn) (λ _. T.keyword K.IsA) (λ _. E.here)
is_a_ok = record {
  at = λ from x rest tokens d.
      let is : Printed (keyword K.IsA or keyword K.IsAn) (λ _. E.here) x (T.keyword K.IsA) =
      weaker (λ _ _ _ d. inl d) (keyword_printed K.IsA x) in
      elim d [
        | inl d ↦ (is, ((word_of K.IsA).at from x rest tokens d).1)
        | inr d ↦ (is, ((word_of K.IsAn).at from x rest tokens d).1)
      ];
}

-- the two kinds of types, each as a rule of its own
abbrev enumerated : Rule TypeTree
enumerated = do
  name ← token S.Word
  _ ← keyword K.IsA or keyword K.IsAn
  constants ← G.enumeration
  spelled (AType.Enumeration name constants)

abbrev derived : Rule TypeTree
derived = do
  name ← token S.Word
  _ ← keyword K.IsA or keyword K.IsAn
  base ← G.base
  attributes ← G.with_listed G.attr
  spelled (AType.Derived name base attributes)

to_two : Within G.type (enumerated or derived)
to_two from x rest d = elim d.3.3 [
  | inl e ↦ inl (d.0, d.1, d.2, (d.3.0, d.3.1, d.3.2, e))
  | inr e ↦ inr (d.0, d.1, d.2, (d.3.0, d.3.1, d.3.2, e))
]

from_two : Within (enumerated or derived) G.type
from_two from x rest (inl d) = (d.0, d.1, d.2, (d.3.0, d.3.1, d.3.2, inl d.3.3))
from_two from x rest (inr d) = (d.0, d.1, d.2, (d.3.0, d.3.1, d.3.2, inr d.3.3))

type_ok : Prints G.type T.type_text E.plain_type
type_ok = same_rule to_two from_two (or_ok
    (first_part name_of (word_part is_a_ok (next_part enumeration_ok
    (all_parts (λ _. refl) (λ _ _ e. λ i. AType.Enumeration (e i).0 (e i).1)))))
    (first_part name_of (word_part is_a_ok (next_part base_ok (next_part (with_listed_ok attr_ok)
    (all_parts (λ _. refl) (λ _ _ e. λ i. AType.Derived (e i).0.0 (e i).0.1 (e i).1)))))))

domain_ok : Prints G.domain T.domain_text E.plain_domain
domain_ok =
    first_part (word_of K.Domain) (next_part last_name (next_part (ended_ok type_ok)
    (word_part (heading_of K.EndDomain)
    (all_parts (λ _. refl) (λ _ _ e. λ i. record { name = (e i).0.1; types = (e i).1 })))))

-- ---- the contract

unit_ok : Prints G.unit (λ x. T.heading (G.unit_word x.unit)) E.plain_unit
unit_ok =
    picked_ok (λ (x : UnitTree). G.unit_word x.unit) (λ x. x.place) (λ x p. record { unit = x.unit; place = p })
    heading_of (λ _ _. (refl, refl, refl))

param_ok : Prints G.param T.param_text E.plain_param
param_ok =
    first_part (before_ok Colon name_of) (next_part name_of
    (all_parts (λ _. refl) (λ _ _ e. λ i. record { name = (e i).0; type_name = (e i).1 })))

give_ok : Prints G.give T.give_text E.plain_give
give_ok =
    first_part (before_ok Assign name_of) (next_part rhs_ok
    (all_parts (λ _. refl) (λ _ _ e. λ i. record { name = (e i).0; value = (e i).1 })))

decl_ok : Prints G.decl T.decl_text E.plain_decl
decl_ok =
    first_part (before_ok Colon name_of) (next_part name_of (next_part (with_listed_ok give_ok)
    (all_parts (λ _. refl)
    (λ _ _ e. λ i. record { name = (e i).0.0; type_name = (e i).0.1; gives = (e i).1 }))))

trigger_ok : Prints G.trigger T.trigger_text E.plain_trigger
trigger_ok = or_ok (of_one (before_ok Arrow prop_ok) (λ _. refl) (λ _ _ e. ap Some e)) (nothing_ok refl)

oblig_ok : Prints G.oblig T.oblig_text E.plain_oblig
unfolding T.start_text T.parties_text
oblig_ok =
    first_part (before_ok Colon name_of) (next_part trigger_ok (word_part (word_of K.O)
    (next_part (between_ok Open Comma name_of) (next_part (before_ok Comma name_of)
    (next_part (before_ok Comma prop_ok) (next_part (before_ok Close prop_ok)
    (all_parts (λ _. simp append_assoc refl) (λ _ _ e. λ i. record {
      name = (e i).0.0.0.0.0;
      trigger = (e i).0.0.0.0.1;
      debtor = (e i).0.0.0.1;
      creditor = (e i).0.0.1;
      antecedent = (e i).0.1;
      consequent = (e i).1;
    }))))))))

verb_ok : Prints G.verb (λ x. T.keyword (G.verb_word x.verb)) E.plain_verb
verb_ok =
    picked_ok (λ (x : VerbTree). G.verb_word x.verb) (λ x. x.place) (λ x p. record { verb = x.verb; place = p })
    word_of (λ _ _. (refl, refl, refl))

act_ok : Prints G.act T.act_text E.plain_act
unfolding T.act_text
act_ok =
    first_part verb_ok (next_part (between_ok Open Close target_ok)
    (all_parts (λ _. refl) (λ _ _ e. λ i. record { verb = (e i).0; target = (e i).1 })))

power_ok : Prints G.power T.power_text E.plain_power
unfolding T.start_text T.parties_text
power_ok =
    first_part (before_ok Colon name_of) (next_part trigger_ok (word_part (word_of K.P)
    (next_part (between_ok Open Comma name_of) (next_part (before_ok Comma name_of)
    (next_part (before_ok Comma prop_ok) (next_part (before_ok Close act_ok)
    (all_parts (λ _. simp append_assoc refl) (λ _ _ e. λ i. record {
      name = (e i).0.0.0.0.0;
      trigger = (e i).0.0.0.0.1;
      holder = (e i).0.0.0.1;
      other_party = (e i).0.0.1;
      antecedent = (e i).0.1;
      act = (e i).1;
    }))))))))

section_ok : {A : Type 0} {R : Rule A} {t : A → List ℕ} {plain : A → A} (word : Keyword) → Prints R t plain
    → Prints (G.section word R) (T.section (T.heading word) t) (map plain)
section_ok word p = optional_ok (then_ok (heading_of word) (ended_ok p)) refl (λ _ _. refl)

surviving_ok : Prints G.surviving_section (T.section (T.keyword K.Surviving ++ T.heading K.Obligations) T.oblig_text)
    (map E.plain_oblig)
surviving_ok =
    optional_ok (then_ok (word_of K.Surviving) (then_ok (heading_of K.Obligations) (ended_ok oblig_ok))) refl
    (λ x xs. sym (append_assoc (T.keyword K.Surviving) (T.heading K.Obligations) (T.lines T.oblig_text (x ∷ xs))))

contract_ok : Prints G.contract T.contract_text E.plain_contract
unfolding T.first_line T.sections_text
contract_ok =
    first_part (word_of K.Contract) (next_part name_of (next_part (between_ok Open Close (maybe_listed_ok param_ok))
    (word_part (word_of K.Unit) (next_part unit_ok
    (next_part (section_ok K.Declarations decl_ok)
    (next_part (section_ok K.Preconditions prop_ok) (next_part (section_ok K.Postconditions prop_ok)
    (next_part (section_ok K.Obligations oblig_ok) (next_part surviving_ok
    (next_part (section_ok K.Powers power_ok) (next_part (section_ok K.Constraints prop_ok)
    (word_part (heading_of K.EndContract)
    (all_parts (λ _. simp append_assoc refl) (λ _ _ e. λ i. record {
      place = E.here;
      name = (e i).0.0.0.0.0.0.0.0.0.1;
      parameters = (e i).0.0.0.0.0.0.0.0.1;
      unit = (e i).0.0.0.0.0.0.0.1;
      declarations = (e i).0.0.0.0.0.0.1;
      preconditions = (e i).0.0.0.0.0.1;
      postconditions = (e i).0.0.0.0.1;
      obligations = (e i).0.0.0.1;
      surviving = (e i).0.0.1;
      powers = (e i).0.1;
      constraints = (e i).1;
    }))))))))))))))

pub spec_ok : Prints G.spec T.canonical_text E.plain_spec
spec_ok =
    first_part domain_ok (next_part contract_ok
    (all_parts (λ _. refl) (λ _ _ e. λ i. record { domain = (e i).0; contract = (e i).1 })))
