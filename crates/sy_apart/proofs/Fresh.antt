-- Where no name is declared twice, each is new where it is declared.
use Rattle.std.proofs.Common.{◌≡◌, ℕ, Bool, true, false, not, cond, ◌&&◌, ◌||◌, if◌then◌else◌, is_some, List, [], ◌∷◌, ◌++◌, map, Some, inl, inr, refl, sym, ap, ◌∙◌, subst, append_assoc}
use Rattle.std.specs.List.{fold, list_any}
use Rattle.std.specs.Map.{lookup}
use Rattle.std.proofs.lemmas.List.{append-nil}
use Rattle.sy_core.specs.Soundness.{are_distinct}
use Rattle.sy_core.proofs.Members.{Among}
use Rattle.sy_domain.specs.declared.failure.Failure.{Failure}
use Rattle.sy_domain.specs.Failures.{at}
use Rattle.sy_domain.specs.Names.{Named, Naming, Table, declare, entry, meaning_in, same}
use Rattle.sy_apart.specs.Apart.{texts}
use Rattle.sy_apart.proofs.Distinct.{same_is, same_itself}

-- each of some names is new to a table and to those before it
abbrev pub AreFresh : Table → List Named → Type 0
AreFresh table [] = Unit {0}
AreFresh table (n ∷ ns) = (is_some (meaning_in table n.name.text) ≡ false) × AreFresh (table ++ entry n ∷ []) ns

-- what is looked up in two tables together
known_before : (test : List ℕ → Bool) (xs ys : Table) → is_some (lookup test xs) ≡ true → lookup test (xs ++ ys) ≡ lookup test xs
known_before test [] ys h = cc
known_before test (x ∷ xs) ys h = by (test x.0) h (known_before test xs ys)
  where
    by : (b : Bool) → is_some (cond b (Some x.1) (lookup test xs)) ≡ true → (is_some (lookup test xs) ≡ true → lookup test (xs ++ ys) ≡ lookup test xs)
        → cond b (Some x.1) (lookup test (xs ++ ys)) ≡ cond b (Some x.1) (lookup test xs)
    by true h later = refl
    by false h later = later h

new_before : (test : List ℕ → Bool) (xs ys : Table) → is_some (lookup test xs) ≡ false → lookup test (xs ++ ys) ≡ lookup test ys
new_before test [] ys h = refl
new_before test (x ∷ xs) ys h = by (test x.0) h (new_before test xs ys)
  where
    by : (b : Bool) → is_some (cond b (Some x.1) (lookup test xs)) ≡ false → (is_some (lookup test xs) ≡ false → lookup test (xs ++ ys) ≡ lookup test ys)
        → cond b (Some x.1) (lookup test (xs ++ ys)) ≡ lookup test ys
    by true h later = cc
    by false h later = later h

-- a new name stands for its own meaning in what it is put behind
means_its_own : (table : Table) (n : Named) (later : Table) → is_some (meaning_in table n.name.text) ≡ false → meaning_in (table ++ entry n ∷ later) n.name.text ≡ Some n.meaning
means_its_own table n later new =
    new_before (same n.name.text) table (entry n ∷ later) new
    ∙ ap (λ b. cond b (Some n.meaning) (lookup (same n.name.text) later)) (same_itself n.name.text)

-- ---- what is repeated is never taken back

none_in_front : (xs ys : List Failure) → xs ++ ys ≡ [] → xs ≡ []
none_in_front [] ys h = refl
none_in_front (x ∷ xs) ys h = cc

not_none : (xs : List Failure) (x : Failure) → xs ++ x ∷ [] ≡ [] → ⊥
not_none [] x h = cc
not_none (y ∷ xs) x h = cc

abbrev with_entry : Naming → Named → Naming
with_entry s n = record { table = s.table ++ entry n ∷ []; repeated = s.repeated }

abbrev with_repeat : Naming → Named → Naming
with_repeat s n = record { table = s.table; repeated = s.repeated ++ at n.name ∷ [] }

none_before_one : (s : Naming) (n : Named) → (declare s n).repeated ≡ [] → s.repeated ≡ []
none_before_one s n h = by (is_some (meaning_in s.table n.name.text)) h
  where
    by : (b : Bool) → (let t : Naming = if b then with_repeat s n else with_entry s n in t.repeated ≡ []) → s.repeated ≡ []
    by true h = none_in_front s.repeated (at n.name ∷ []) h
    by false h = h

none_before : (ns : List Named) (s : Naming) → (fold declare s ns).repeated ≡ [] → s.repeated ≡ []
none_before [] s h = h
none_before (n ∷ ns) s h = none_before_one s n (none_before ns (declare s n) h)

new_one : (s : Naming) (n : Named) → (declare s n).repeated ≡ [] → (is_some (meaning_in s.table n.name.text) ≡ false) × (declare s n ≡ with_entry s n)
new_one s n h = by (is_some (meaning_in s.table n.name.text)) refl h
  where
    by : (b : Bool) → is_some (meaning_in s.table n.name.text) ≡ b
        → (let t : Naming = if b then with_repeat s n else with_entry s n in t.repeated ≡ [])
        → (is_some (meaning_in s.table n.name.text) ≡ false) × ((if b then with_repeat s n else with_entry s n) ≡ with_entry s n)
    by true e h = absurd (not_none s.repeated (at n.name) h)
    by false e h = (e, refl)

pub all_fresh : (ns : List Named) (s : Naming) → (fold declare s ns).repeated ≡ []
    → AreFresh s.table ns × ((fold declare s ns).table ≡ s.table ++ map entry ns)
all_fresh [] s h = (tt, sym (append-nil s.table))
all_fresh (n ∷ ns) s h =
    let one = new_one s n (none_before ns (declare s n) h) in
    let rest = all_fresh ns (declare s n) h in
    let put : (declare s n).table ≡ s.table ++ entry n ∷ [] = ap (λ (t : Naming). t.table) one.1 in (
      (one.0, subst (λ t. AreFresh t ns) put rest.0),
      rest.1 ∙ ap (λ t. t ++ map entry ns) put ∙ append_assoc s.table (entry n ∷ []) (map entry ns),
    )

-- ---- so no two are the same, and each stands for its own meaning

not_among : (ns : List Named) (table : Table) (name : List ℕ) → is_some (meaning_in table name) ≡ true → AreFresh table ns → list_any (same name) (texts ns) ≡ false
not_among [] table name known fresh = refl
not_among (n ∷ ns) table name known fresh =
    by (same name n.name.text) refl
    (not_among ns (table ++ entry n ∷ []) name (ap is_some (known_before (same name) table (entry n ∷ []) known) ∙ known) fresh.1)
  where
    by : (b : Bool) → same name n.name.text ≡ b → list_any (same name) (texts ns) ≡ false → (b || list_any (same name) (texts ns)) ≡ false
    by true e later =
        let is : name ≡ n.name.text = same_is name n.name.text e in
        let known_too = sym (ap (λ t. is_some (meaning_in table t)) is) ∙ known in
        let new = fresh.0 in
        cc
    by false e later = later

pub fresh_are_distinct : (ns : List Named) (table : Table) → AreFresh table ns → are_distinct (texts ns) ≡ true
fresh_are_distinct [] table fresh = refl
fresh_are_distinct (n ∷ ns) table fresh =
    let here = not_among ns (table ++ entry n ∷ []) n.name.text (ap is_some (means_its_own table n [] fresh.0)) fresh.1 in
    let later = fresh_are_distinct ns (table ++ entry n ∷ []) fresh.1 in
    λ j. not (here j) && later j

pub fresh_means : (ns : List Named) (table : Table) → AreFresh table ns → (n : Named) → Among ns n → meaning_in (table ++ map entry ns) n.name.text ≡ Some n.meaning
fresh_means [] table fresh n none = absurd none
fresh_means (m ∷ ns) table fresh n (inl is) =
    subst (λ (x : Named). meaning_in (table ++ map entry (m ∷ ns)) x.name.text ≡ Some x.meaning) is
    (means_its_own table m (map entry ns) fresh.0)
fresh_means (m ∷ ns) table fresh n (inr among) =
    ap (λ t. meaning_in t n.name.text) (sym (append_assoc table (entry m ∷ []) (map entry ns)))
    ∙ fresh_means ns (table ++ entry m ∷ []) fresh.1 n among
