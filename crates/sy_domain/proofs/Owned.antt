-- What the owners of names tell: no type above the only owner of a name has an attribute of that name.
use Rattle.std.proofs.Common.{◌≡◌, ℕ, zero, suc, ◌+◌, ◌<◌, ◌≤◌, Bool, true, false, ◌||◌, ◌&&◌, ◌⊎◌, inl, inr, cond, List, [], ◌∷◌, ◌++◌, length, take, get_or, flat_map, fold, not, nat_eq, Option, Some, None, slice_get, if◌then◌else◌, refl, sym, ap, ◌∙◌, subst, arith}
use Rattle.std.specs.List.{enumerate_from, list_any, list_all}
use Rattle.std.specs.Map.{lookup}
use Rattle.indexmap.specs.IndexMap.{insert_entry}
use Rattle.std.proofs.lemmas.Bool.{or_cases, eqb-true, eq-eqb, both_ways, cases_eq}
use Rattle.std.proofs.lemmas.Cmp.{nat_list_eq_equiv}
use Rattle.std.proofs.lemmas.Grind.{fold-append}
use Rattle.sy_base.proofs.Numbered.{enumerate_more}
use Rattle.sy_spec.specs.declared.domain.TypeTree.{TypeTree}
use Rattle.sy_spec.specs.declared.domain.AttrTree.{AttrTree}
use Rattle.sy_chains.specs.Chains.{Bases, NoCycle, above, is_cyclic}
use Rattle.sy_domain.specs.declared.failure.Failure.{Failure}
use Rattle.sy_domain.specs.Attributes.{clash, clashes, has_name, own, own_at, owns}
use Rattle.sy_domain.specs.Failures.{unless}
use Rattle.sy_domain.specs.Machine.Owners.{Owners, add_owner, add_owners, is_only, is_owner, owner_with, owners_of}
use Rattle.sy_domain.specs.Names.{same}

-- ---- names

same_is : (xs ys : List ℕ) → same xs ys ≡ true → xs ≡ ys
same_is [] [] e = refl
same_is [] (y ∷ ys) e = cc
same_is (x ∷ xs) [] e = cc
same_is (x ∷ xs) (y ∷ ys) e = at (nat_eq x y) (same xs ys) refl refl (same_is xs ys) e
  where
    at : (b d : Bool) → nat_eq x y ≡ b → same xs ys ≡ d → (same xs ys ≡ true → xs ≡ ys) → (b && d) ≡ true → x ∷ xs ≡ y ∷ ys
    at true true f g more e = ap (λ z. z ∷ xs) (eqb-true x y f) ∙ ap (λ l. y ∷ l) (more g)
    at true false f g more e = cc
    at false d f g more e = cc

cond_twice : {A : Type 0} (b : Bool) (x y z : A) → cond b x z ≡ cond b x (cond b y z)
cond_twice true x y z = refl
cond_twice false x y z = refl

-- what is found once a value is put at a name
lookup_put : {X : Type 0} (k q : List ℕ) (v : X) (es : List (List ℕ × X))
    → lookup (same q) (insert_entry same es k v) ≡ cond (same k q) (Some v) (lookup (same q) es)
lookup_put k q v [] = ap (λ b. cond b (Some v) None) (nat_list_eq_equiv.symm q k)
lookup_put k q v (e ∷ es) = at (same k e.0) refl (lookup_put k q v es)
  where
    apart : (b c : Bool) → same k q ≡ b → same q e.0 ≡ c → same k e.0 ≡ false
        → cond c (Some e.1) (cond b (Some v) (lookup (same q) es)) ≡ cond b (Some v) (cond c (Some e.1) (lookup (same q) es))
    apart false c f g other = refl
    apart true false f g other = refl
    apart true true f g other =
        absurd (both_ways (same k e.0) other (ap (λ l. same l e.0) (same_is k q f) ∙ g))

    at : (b : Bool) → same k e.0 ≡ b
        → lookup (same q) (insert_entry same es k v) ≡ cond (same k q) (Some v) (lookup (same q) es)
        → lookup (same q) (if b then (e.0, v) ∷ es else e ∷ insert_entry same es k v)
        ≡ cond (same k q) (Some v) (cond (same q e.0) (Some e.1) (lookup (same q) es))
    at true f more =
        ap (λ b. cond b (Some v) (lookup (same q) es)) (ap (same q) (sym (same_is k e.0 f)) ∙ nat_list_eq_equiv.symm q k)
        ∙ cond_twice (same k q) (Some v) (Some e.1) (lookup (same q) es)
        ∙ ap (λ b. cond (same k q) (Some v) (cond b (Some e.1) (lookup (same q) es)))
        (nat_list_eq_equiv.symm k q ∙ ap (same q) (same_is k e.0 f))
    at false f more =
        ap (cond (same q e.0) (Some e.1)) more ∙ apart (same k q) (same q e.0) refl refl f

-- ---- owners

-- a type that owns a name is told: as the only one, or as one of several
IsTold : Option (Option ℕ) → ℕ → Type 0
IsTold o n = (o ≡ Some (Some n)) ⊎ (o ≡ Some None)

still_told : (o : Option (Option ℕ)) (m n : ℕ) → IsTold o n → IsTold (Some (owner_with o m)) n
unfolding IsTold
still_told None m n (inl e) = cc
still_told None m n (inr e) = cc
still_told (Some None) m n told = inr refl
still_told (Some (Some k)) m n (inr e) = cc
still_told (Some (Some k)) m n (inl e) = at (nat_eq k m) refl
  where
    at : (b : Bool) → nat_eq k m ≡ b → (Some (if b then Some m else None) ≡ Some (Some n)) ⊎ (Some (if b then Some m else None) ≡ Some None)
    at true f = inl (ap (λ j. Some (Some j)) (sym (eqb-true k m f)) ∙ e)
    at false f = inr refl

now_told : (o : Option (Option ℕ)) (n : ℕ) → IsTold (Some (owner_with o n)) n
unfolding IsTold
now_told None n = inl refl
now_told (Some None) n = inr refl
now_told (Some (Some k)) n = at (nat_eq k n)
  where
    at : (b : Bool) → (Some (if b then Some n else None) ≡ Some (Some n)) ⊎ (Some (if b then Some n else None) ≡ Some None)
    at true = inl refl
    at false = inr refl

-- one attribute more
keeps_told : (n m : ℕ) (a : AttrTree) (owners : Owners) (name : List ℕ)
    → IsTold (lookup (same name) owners) n → IsTold (lookup (same name) (add_owner m owners a)) n
keeps_told n m a owners name told =
    subst (λ o. IsTold o n) (sym (lookup_put a.name.text name (owner_with (lookup (same a.name.text) owners) m) owners))
    (at (same a.name.text name) refl)
  where
    at : (b : Bool) → same a.name.text name ≡ b
        → IsTold (cond b (Some (owner_with (lookup (same a.name.text) owners) m)) (lookup (same name) owners)) n
    at false f = told
    at true f =
        still_told (lookup (same a.name.text) owners) m n
        (subst (λ l. IsTold (lookup (same l) owners) n) (sym (same_is a.name.text name f)) told)

tells : (n : ℕ) (a : AttrTree) (owners : Owners) (name : List ℕ) → has_name name a ≡ true
    → IsTold (lookup (same name) (add_owner n owners a)) n
tells n a owners name has =
    subst (λ o. IsTold o n)
    (sym (lookup_put a.name.text name (owner_with (lookup (same a.name.text) owners) n) owners
    ∙ ap (λ b. cond b (Some (owner_with (lookup (same a.name.text) owners) n)) (lookup (same name) owners)) has))
    (now_told (lookup (same a.name.text) owners) n)

-- all attributes of a type more
keep_told : (n m : ℕ) (attrs : List AttrTree) (owners : Owners) (name : List ℕ)
    → IsTold (lookup (same name) owners) n → IsTold (lookup (same name) (fold (add_owner m) owners attrs)) n
keep_told n m [] owners name told = told
keep_told n m (a ∷ attrs) owners name told = keep_told n m attrs (add_owner m owners a) name (keeps_told n m a owners name told)

tell : (n : ℕ) (attrs : List AttrTree) (owners : Owners) (name : List ℕ) → list_any (has_name name) attrs ≡ true
    → IsTold (lookup (same name) (fold (add_owner n) owners attrs)) n
tell n [] owners name e = cc
tell n (a ∷ attrs) owners name e =
    elim (or_cases (has_name name a) (list_any (has_name name) attrs) e) [
      | inl here ↦ keep_told n n attrs (add_owner n owners a) name (tells n a owners name here)
      | inr later ↦ tell n attrs (add_owner n owners a) name later
    ]

-- all types more
keep_all : (n i : ℕ) (ts : List TypeTree) (owners : Owners) (name : List ℕ)
    → IsTold (lookup (same name) owners) n → IsTold (lookup (same name) (fold add_owners owners (enumerate_from i ts))) n
keep_all n i [] owners name told = told
keep_all n i (t ∷ ts) owners name told =
    keep_all n (i + 1) ts (add_owners owners (i, t)) name (keep_told n i (own t) owners name told)

tell_all : (k i n : ℕ) (ts : List TypeTree) (owners : Owners) (name : List ℕ) → n ≡ i + k → owns ts name k ≡ true
    → IsTold (lookup (same name) (fold add_owners owners (enumerate_from i ts))) n
tell_all k i n [] owners name is e = cc
tell_all zero i n (t ∷ ts) owners name is e =
    subst (λ m. IsTold (lookup (same name) (fold add_owners owners (enumerate_from i (t ∷ ts)))) m) (let z : i ≡ n = omega arith in z)
    (keep_all i (i + 1) ts (add_owners owners (i, t)) name (tell i (own t) owners name e))
tell_all (suc k) i n (t ∷ ts) owners name is e =
    tell_all k (i + 1) n ts (add_owners owners (i, t)) name (omega arith) e

-- ---- types above

one_passes : (f : ℕ → Bool) (ns : List ℕ) → list_any f ns ≡ true → (b : ℕ) × (f b ≡ true) × (list_any (nat_eq b) ns ≡ true)
one_passes f [] e = cc
one_passes f (n ∷ ns) e =
    elim (or_cases (f n) (list_any f ns) e) [
      | inl here ↦ (n, here, ap (λ b. b || list_any (nat_eq n) ns) (eq-eqb n n refl))
      | inr later ↦
          let more = one_passes f ns later in
          (more.0, more.1, or_true (nat_eq more.0 n) (list_any (nat_eq more.0) ns) more.2)
    ]
  where
    or_true : (b c : Bool) → c ≡ true → (b || c) ≡ true
    or_true true c e = refl
    or_true false c e = e

owner_is : (o : Option (Option ℕ)) (n b : ℕ) → is_owner o n ≡ true → IsTold o b → b ≡ n
unfolding IsTold
owner_is None n b only told = cc
owner_is (Some None) n b only told = cc
owner_is (Some (Some m)) n b only (inl e) = let z : m ≡ b = cc in sym z ∙ eqb-true m n only
owner_is (Some (Some m)) n b only (inr e) = cc

only_free : (types : List TypeTree) (bases : Bases) (n : ℕ) (a : AttrTree) → NoCycle bases → is_only (owners_of types) n a ≡ true
    → list_any (owns types a.name.text) (above bases n) ≡ false
only_free types bases n a none only = at (list_any (owns types a.name.text) (above bases n)) refl
  where
    at : (b : Bool) → list_any (owns types a.name.text) (above bases n) ≡ b → b ≡ false
    at false e = refl
    at true e =
        let found = one_passes (owns types a.name.text) (above bases n) e in
        let b = found.0 in
        let told = tell_all b 0 b types [] a.name.text (omega arith) found.1 in
        let same_type : b ≡ n = owner_is (lookup (same a.name.text) (owners_of types)) n b only told in
        let round : is_cyclic bases n ≡ true = subst (λ m. list_any (nat_eq m) (above bases n) ≡ true) same_type found.2 in
        absurd (both_ways (is_cyclic bases n) (none n) round)

pub only_clashes : (types : List TypeTree) (bases : Bases) (n : ℕ) (attrs : List AttrTree) → NoCycle bases
    → list_all (is_only (owners_of types) n) attrs ≡ true → flat_map (clash types (above bases n)) attrs ≡ []
only_clashes types bases n [] none only = refl
only_clashes types bases n (a ∷ attrs) none only =
    at (is_only (owners_of types) n a) (list_all (is_only (owners_of types) n) attrs) refl refl only (only_clashes types bases n attrs none)
  where
    at : (b c : Bool) → is_only (owners_of types) n a ≡ b → list_all (is_only (owners_of types) n) attrs ≡ c → (b && c) ≡ true
        → (list_all (is_only (owners_of types) n) attrs ≡ true → flat_map (clash types (above bases n)) attrs ≡ [])
        → flat_map (clash types (above bases n)) (a ∷ attrs) ≡ []
    at true true f g e more =
        ap (λ d. unless (not d) a.name ++ flat_map (clash types (above bases n)) attrs) (only_free types bases n a none f) ∙ more g
    at true false f g e more = cc
    at false c f g e more = cc

-- ---- all types, one further

pub owners_turn : (types : List TypeTree) (i : ℕ) (t : TypeTree) (before after : Owners) → i < length types → t ≡ get_or types i t
    → before ≡ fold add_owners [] (enumerate_from 0 (take i types)) → after ≡ fold (add_owner i) before (own t)
    → after ≡ fold add_owners [] (enumerate_from 0 (take (i + 1) types))
owners_turn types i t before after within is done turn =
    turn
    ∙ ap (λ o. fold (add_owner i) o (own t)) done
    ∙ ap (λ u. add_owners (fold add_owners [] (enumerate_from 0 (take i types))) (i, u)) is
    ∙ sym (ap (fold add_owners []) (enumerate_more types i t within)
    ∙ fold-append add_owners [] (enumerate_from 0 (take i types)) ((i, get_or types i t) ∷ []))
