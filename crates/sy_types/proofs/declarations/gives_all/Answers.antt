use Rattle.std.proofs.Common.{◌≡◌, ℕ, Bool, true, false, ◌&&◌, ◌||◌, List, [], ◌∷◌, ◌++◌, flat_map, reverse, refl, sym, ap, ◌∙◌}
use Rattle.std.specs.List.{list_any, list_all}
use Rattle.std.proofs.lemmas.List.{reverse-append}
use Rattle.std.proofs.lemmas.List.Folds.{list_all-append}
use Rattle.sy_chains.specs.Chains.{above}
use Rattle.sy_domain.specs.declared.meaning.Sort.TheVariants as S
use Rattle.sy_domain.specs.declared.types.Member.{Member}
use Rattle.sy_domain.specs.Names.{same}
use Rattle.sy_domain.specs.Ontologies.{members_in, owned_at}
use Rattle.sy_types.specs.Declarations.{is_among, given_names}
use Rattle.sy_types.proofs.declarations.gives_all.Goals as goal

-- lists with the same names in them have the same members among them
among_same : (xs ys : List (List ℕ)) → ((name : List ℕ) → list_any (same name) xs ≡ list_any (same name) ys)
    → (members : List (List ℕ × Member)) → list_all (is_among xs) members ≡ list_all (is_among ys) members
among_same xs ys agree [] = refl
among_same xs ys agree (m ∷ ms) =
    ap (λ b. (m.1.env || b) && list_all (is_among xs) ms) (agree m.0)
    ∙ ap (λ b. is_among ys m && b) (among_same xs ys agree ms)

and_true : (b : Bool) → (b && true) ≡ b
and_true true = refl
and_true false = refl

and_false : (b : Bool) → (b && false) ≡ false
and_false true = refl
and_false false = refl

and_turned : (b d : Bool) → (b && (d && true)) ≡ (d && b)
and_turned true true = refl
and_turned true false = refl
and_turned false true = refl
and_turned false false = refl

turned : {A : Type 0} (p : A → Bool) (xs : List A) → list_all p (reverse xs) ≡ list_all p xs
turned p [] = refl
turned p (x ∷ xs) =
    ap (list_all p) (reverse-append (x ∷ []) xs)
    ∙ list_all-append p (reverse xs) (x ∷ [])
    ∙ ap (λ b. b && (p x && true)) (turned p xs)
    ∙ and_turned (list_all p xs) (p x)

all_of_each : {A B : Type 0} (p : B → Bool) (f : A → List B) (xs : List A)
    → list_all p (flat_map f xs) ≡ list_all (λ x. list_all p (f x)) xs
all_of_each p f [] = refl
all_of_each p f (x ∷ xs) =
    list_all-append p (f x) (flat_map f xs) ∙ ap (λ b. list_all p (f x) && b) (all_of_each p f xs)

module _ {A B : Type 0} (p : B → Bool) (f : A → List B) (above : List A) (own : List B) where
  both : list_all p (flat_map f (reverse above) ++ own) ≡ (list_all (λ x. list_all p (f x)) above && list_all p own)
  both =
      list_all-append p (flat_map f (reverse above)) own
      ∙ ap (λ b. b && list_all p own) (all_of_each p f (reverse above) ∙ turned (λ x. list_all p (f x)) above)

  own_pass : list_all p own ≡ true → list_all (λ x. list_all p (f x)) above ≡ list_all p (flat_map f (reverse above) ++ own)
  own_pass e =
      let rest = list_all (λ x. list_all p (f x)) above in
      sym (both ∙ ap (λ b. rest && b) e ∙ and_true rest)

  own_fail : list_all p own ≡ false → false ≡ list_all p (flat_map f (reverse above) ++ own)
  own_fail e =
      let rest = list_all (λ x. list_all p (f x)) above in
      sym (both ∙ ap (λ b. rest && b) e ∙ and_false rest)

pub returns-in-Declared : goal.returns-in-Declared
returns-in-Declared c =
    let domain = c.ontology-ontology.result.now in
    let keys = c.in_ok-names.names.keys in
    let given = given_names c.args.gives.now in
    let n = c.in-Declared.number in
    c.are_all_named.ensures
    ∙ ap (list_all (λ m. list_all (is_among keys) (owned_at domain m))) (c.items.ensures ∙ c.in_ok-above-in-Declared.ensures)
    ∙ own_pass (is_among keys) (owned_at domain) (above domain.bases n) (owned_at domain n) (sym c.are_own_named.ensures ∙ c.if-are_own_named.true)
    ∙ among_same keys given c.in_ok-names.ensures (members_in domain (S.Declared n))
    ∙ ap (λ d. list_all (is_among given) (members_in d (S.Declared n))) c.ontology-ontology.ensures
    ∙ ap (λ sort. list_all (is_among given) (members_in c.args.scope.now.domain sort)) (sym c.in-Declared.is)

pub returns-in-Declared-2 : goal.returns-in-Declared-2
returns-in-Declared-2 c =
    let domain = c.ontology-ontology.result.now in
    let keys = c.in_ok-names.names.keys in
    let given = given_names c.args.gives.now in
    let n = c.in-Declared.number in
    own_fail (is_among keys) (owned_at domain) (above domain.bases n) (owned_at domain n) (sym c.are_own_named.ensures ∙ c.if-are_own_named.false)
    ∙ among_same keys given c.in_ok-names.ensures (members_in domain (S.Declared n))
    ∙ ap (λ d. list_all (is_among given) (members_in d (S.Declared n))) c.ontology-ontology.ensures
    ∙ ap (λ sort. list_all (is_among given) (members_in c.args.scope.now.domain sort)) (sym c.in-Declared.is)
