-- Steps up the isA chains: where they come back, and that they end where none comes back.
use Rattle.std.proofs.Common.{◌≡◌, ◌≢◌, ℕ, zero, suc, ◌+◌, ◌*◌, ◌-◌, ◌<◌, ◌≤◌, Bool, true, false, ◌||◌, ◌⊎◌, inl, inr, List, [], ◌∷◌, length, get_or, Option, Some, None, option_and_then, slice_get, nat_eq, refl, sym, ap, ◌∙◌, subst, true≢false, arith, unwrap_or}
use Rattle.std.specs.List.{list_any}
use Rattle.std.proofs.lemmas.Bool.{or_cases, eqb-true, eq-eqb, cases_order, both_ways, or_left}
use Rattle.std.proofs.lemmas.Option.{slice_get_past}
use Rattle.indexmap.proofs.IndexTableLemmas.Probe.{pigeonhole, Into, OneToOne}
use Rattle.sy_chains.specs.Chains.{Bases, base_at, chain, above, is_cyclic}
use Rattle.sy_chains.specs.Machine.Walks.{up, Leads}

or_this : (a b : Bool) → a ≡ true → (a || b) ≡ true
or_this true b e = refl
or_this false b e = absurd (true≢false (sym e))

or_that : (a b : Bool) → b ≡ true → (a || b) ≡ true
or_that true b e = refl
or_that false b e = e

some_is_no_none : {A : Type 0} (x : A) (o : Option A) → o ≡ Some x → o ≡ None → ⊥
some_is_no_none x o e f = cc

pub up_add : (bases : Bases) (a b n : ℕ) → up bases (a + b) n ≡ option_and_then (up bases b) (up bases a n)
up_add bases zero b n = ap (λ k. up bases k n) (omega arith)
up_add bases (suc a) b n = ap (λ k. up bases k n) (let e : suc a + b ≡ suc (a + b) = omega arith in e) ∙ at (λ m. up_add bases a b m) (base_at bases n)
  where
    at : ((m : ℕ) → up bases (a + b) m ≡ option_and_then (up bases b) (up bases a m))
        → (o : Option ℕ) → option_and_then (up bases (a + b)) o ≡ option_and_then (up bases b) (option_and_then (up bases a) o)
    at more None = refl
    at more (Some m) = more m

-- some steps, and then some more
pub up_then : (bases : Bases) (a b n m : ℕ) (o : Option ℕ) → up bases a n ≡ Some m → up bases b m ≡ o → up bases (a + b) n ≡ o
up_then bases a b n m o first more = up_add bases a b n ∙ ap (option_and_then (up bases b)) first ∙ more

-- the rest of the steps, where the first ones are known
pub up_rest : (bases : Bases) (a b n m : ℕ) (o : Option ℕ) → up bases a n ≡ Some m → up bases (a + b) n ≡ o → up bases b m ≡ o
up_rest bases a b n m o first all = ap (option_and_then (up bases b)) (sym first) ∙ sym (up_add bases a b n) ∙ all

-- no step is made behind the end
pub up_past : (bases : Bases) (a b n : ℕ) → up bases a n ≡ None → up bases (a + b) n ≡ None
up_past bases a b n first = up_add bases a b n ∙ ap (option_and_then (up bases b)) first

pub one_up : (bases : Bases) (n : ℕ) → up bases 1 n ≡ base_at bases n
one_up bases n = at (base_at bases n)
  where
    at : (o : Option ℕ) → option_and_then (up bases 0) o ≡ o
    at None = refl
    at (Some m) = refl

-- a step at the end
pub up_last : (bases : Bases) (k n m : ℕ) → up bases k n ≡ Some m → up bases (suc k) n ≡ base_at bases m
up_last bases k n m e =
    ap (λ j. up bases j n) (let s : suc k ≡ k + 1 = omega arith in s) ∙ up_then bases k 1 n m (base_at bases m) e (one_up bases m)

-- a type that has a base is one of the types
pub has_base_within : (bases : Bases) (n b : ℕ) → base_at bases n ≡ Some b → n < length bases
has_base_within bases n b e =
    elim (cases_order n (length bases)) [
      | inl same ↦ past (omega arith)
      | inr other ↦ elim other [ inl less ↦ less | inr more ↦ past (omega arith) ]
    ]
  where
    past : length bases ≤ n → n < length bases
    past out = absurd (some_is_no_none b (base_at bases n) e (ap (option_and_then (λ base. base)) (slice_get_past bases n out)))

-- ---- round a cycle

-- where some steps lead back, so many times so many do
pub rounds : (bases : Bases) (c n t : ℕ) → up bases c n ≡ Some n → up bases (t * c) n ≡ Some n
rounds bases c n zero e = ap (λ k. up bases k n) (let z : 0 * c ≡ 0 = omega arith in z)
rounds bases c n (suc t) e =
    ap (λ k. up bases k n) (let z : suc t * c ≡ c + t * c = omega arith in z)
    ∙ up_then bases c (t * c) n n (Some n) e (rounds bases c n t e)

pub never_ends : (bases : Bases) (n k : ℕ) → Leads bases n n → up bases k n ≡ None → ⊥
never_ends bases n k round ends =
    let c = round.0 in
    let z : k * suc c ≡ k + k * c = omega arith in
    some_is_no_none n (up bases (k * suc c) n) (rounds bases (suc c) n k round.1)
    (ap (λ j. up bases j n) z ∙ up_past bases k (k * c) n ends)

-- what a type on a cycle leads to leads back
pub leads_back : (bases : Bases) (n m k : ℕ) → Leads bases n n → up bases k n ≡ Some m → Leads bases m n
leads_back bases n m k round there =
    let c = round.0 in
    let z : suc k * suc c ≡ k + suc (k * c + c) = omega arith in (
      k * c + c,
      up_rest bases k (suc (k * c + c)) n m (Some n) there
          (ap (λ j. up bases j n) (sym z) ∙ rounds bases (suc c) n (suc k) round.1),
    )

pub leads_on : (bases : Bases) (n m o k : ℕ) → up bases k n ≡ Some m → Leads bases m o → Leads bases n o
leads_on bases n m o k there on = (
  k + on.0,
  ap (λ j. up bases j n) (let z : suc (k + on.0) ≡ k + suc on.0 = omega arith in z)
      ∙ up_then bases k (suc on.0) n m (Some o) there on.1,
)

-- what a type on a cycle leads to is on it
pub leads_round : (bases : Bases) (n m k : ℕ) → Leads bases n n → up bases k n ≡ Some m → Leads bases m m
leads_round bases n m k round there =
    let back = leads_back bases n m k round there in (
      back.0 + k,
      ap (λ j. up bases j m) (let z : suc (back.0 + k) ≡ suc back.0 + k = omega arith in z)
          ∙ up_then bases (suc back.0) k m n (Some m) back.1 there,
    )

-- a type on a cycle is one of the types
pub round_within : (bases : Bases) (n : ℕ) → Leads bases n n → n < length bases
round_within bases n round = at (base_at bases n) refl
  where
    at : (o : Option ℕ) → base_at bases n ≡ o → n < length bases
    at None e = absurd (never_ends bases n 1 round (one_up bases n ∙ e))
    at (Some b) e = has_base_within bases n b e

-- ---- chains and steps

pub step_in_chain : (bases : Bases) (t most : ℕ) (o : Option ℕ) → list_any (nat_eq t) (chain bases most o) ≡ true
    → (k : ℕ) × (k < most) × (option_and_then (up bases k) o ≡ Some t)
step_in_chain bases t zero o e = absurd (true≢false (sym e))
step_in_chain bases t (suc most) None e = absurd (true≢false (sym e))
step_in_chain bases t (suc most) (Some n) e =
    elim (or_cases (nat_eq t n) (list_any (nat_eq t) (chain bases most (base_at bases n))) e) [
      | inl here ↦ (0, omega arith, ap Some (sym (eqb-true t n here)))
      | inr later ↦ let more = step_in_chain bases t most (base_at bases n) later in (suc more.0, omega (arith, more.1), more.2)
    ]

pub chain_has_step : (bases : Bases) (t most k : ℕ) (o : Option ℕ) → k < most → option_and_then (up bases k) o ≡ Some t
    → list_any (nat_eq t) (chain bases most o) ≡ true
chain_has_step bases t zero k o less e = absurd (omega arith)
chain_has_step bases t (suc most) k None less e = cc
chain_has_step bases t (suc most) zero (Some n) less e =
    or_this (nat_eq t n) (list_any (nat_eq t) (chain bases most (base_at bases n))) (eq-eqb t n (let same : n ≡ t = cc in sym same))
chain_has_step bases t (suc most) (suc k) (Some n) less e =
    or_that (nat_eq t n) (list_any (nat_eq t) (chain bases most (base_at bases n)))
    (chain_has_step bases t most k (base_at bases n) (omega arith) e)

pub cyclic_leads : (bases : Bases) (n : ℕ) → is_cyclic bases n ≡ true → Leads bases n n
cyclic_leads bases n e =
    let found = step_in_chain bases n (length bases) (base_at bases n) e in (found.0, found.2)

short_round : (bases : Bases) (n k : ℕ) → k < length bases → up bases (suc k) n ≡ Some n → is_cyclic bases n ≡ true
short_round bases n k less e = chain_has_step bases n (length bases) k (base_at bases n) less e

-- the type so many steps up, where there is one
reached : Bases → ℕ → ℕ → ℕ
reached bases n k = unwrap_or (up bases k n) 0

is_reached : (bases : Bases) (n k : ℕ) → (up bases k n ≡ None → ⊥) → up bases k n ≡ Some (reached bases n k)
unfolding reached
is_reached bases n k goes = at (up bases k n) goes
  where
    at : (o : Option ℕ) → (o ≡ None → ⊥) → o ≡ Some (unwrap_or o 0)
    at None g = absurd (g refl)
    at (Some m) g = refl

-- as many steps as there are types, and one more, come to a type twice
comes_twice : (bases : Bases) (n : ℕ) → (up bases (suc (length bases)) n ≡ None → ⊥)
    → ((i j m : ℕ) → i < j → j ≤ length bases → up bases i n ≡ Some m → up bases j n ≡ Some m → ⊥) → ⊥
comes_twice bases n goes apart =
    let most = length bases in
    let fits : suc most ≤ most = pigeonhole (suc most) most (reached bases n) into one in
    omega arith
  where
    there : (k : ℕ) → k ≤ suc (length bases) → up bases k n ≡ None → ⊥
    there k low e =
        let more = suc (length bases) - k in
        let z : suc (length bases) ≡ k + more = omega arith in
        goes (ap (λ j. up bases j n) z ∙ up_past bases k more n e)

    into : Into (reached bases n) (suc (length bases)) (length bases)
    into k less =
        let here = is_reached bases n k (there k (omega arith)) in
        let next = is_reached bases n (suc k) (there (suc k) (omega arith)) in
        has_base_within bases (reached bases n k) (reached bases n (suc k)) (sym (up_last bases k n (reached bases n k) here) ∙ next)

    both : (i j : ℕ) → i < suc (length bases) → j < suc (length bases) → reached bases n i ≡ reached bases n j → i < j → ⊥
    both i j a b e less =
        apart i j (reached bases n i) less (omega arith) (is_reached bases n i (there i (omega arith)))
        (is_reached bases n j (there j (omega arith)) ∙ ap Some (sym e))

    one : OneToOne (reached bases n) (suc (length bases))
    one i j a b e =
        elim (cases_order i j) [
          | inl same ↦ same
          | inr other ↦ elim other [ inl less ↦ absurd (both i j a b e less) | inr more ↦ absurd (both j i b a (sym e) more) ]
        ]

-- a type that is come to twice is on a cycle, of so many types
twice_round : (bases : Bases) (n i j m : ℕ) → i < j → up bases i n ≡ Some m → up bases j n ≡ Some m → up bases (suc (j - i - 1)) m ≡ Some m
twice_round bases n i j m less first second =
    let c = suc (j - i - 1) in
    let z : j ≡ i + c = omega arith in
    up_rest bases i c n m (Some m) first (ap (λ k. up bases k n) (sym z) ∙ second)

pub leads_cyclic : (bases : Bases) (n : ℕ) → Leads bases n n → is_cyclic bases n ≡ true
leads_cyclic bases n round = at (is_cyclic bases n) refl
  where
    apart : is_cyclic bases n ≡ false → (i j m : ℕ) → i < j → j ≤ length bases → up bases i n ≡ Some m → up bases j n ≡ Some m → ⊥
    apart is i j m less low first second =
        let k = j - i - 1 in
        let c = suc k in
        let turn : up bases c m ≡ Some m = twice_round bases n i j m less first second in
        let back = leads_back bases n m i round first in
        let e = suc back.0 in
        let all : up bases (c + e) m ≡ Some n = up_then bases c e m m (Some n) turn back.1 in
        let z : c + e ≡ e + c = omega arith in
        let own : up bases c n ≡ Some n = up_rest bases e c m n (Some n) back.1 (ap (λ k. up bases k m) (sym z) ∙ all) in
        let within : k < length bases = omega arith in
        both_ways (is_cyclic bases n) is (short_round bases n k within own)

    at : (b : Bool) → is_cyclic bases n ≡ b → is_cyclic bases n ≡ true
    at true e = e
    at false e = absurd (comes_twice bases n (never_ends bases n (suc (length bases)) round) (apart e))

-- ---- chains that end

-- where no type is on a cycle, each chain ends
pub all_end : (bases : Bases) (n : ℕ) → ((m : ℕ) → is_cyclic bases m ≡ false) → up bases (suc (length bases)) n ≡ None
all_end bases n none = at (up bases (suc (length bases)) n) refl
  where
    apart : (i j m : ℕ) → i < j → j ≤ length bases → up bases i n ≡ Some m → up bases j n ≡ Some m → ⊥
    apart i j m less low first second =
        both_ways (is_cyclic bases m) (none m)
        (leads_cyclic bases m (j - i - 1, twice_round bases n i j m less first second))

    at : (o : Option ℕ) → up bases (suc (length bases)) n ≡ o → up bases (suc (length bases)) n ≡ None
    at None e = e
    at (Some m) e = absurd (comes_twice bases n (λ ends. some_is_no_none m (up bases (suc (length bases)) n) e ends) apart)

chain_more : (bases : Bases) (most : ℕ) (o : Option ℕ) → option_and_then (up bases most) o ≡ None → chain bases (suc most) o ≡ chain bases most o
chain_more bases zero None e = refl
chain_more bases zero (Some n) e = cc
chain_more bases (suc most) None e = refl
chain_more bases (suc most) (Some n) e = ap (λ l. n ∷ l) (chain_more bases most (base_at bases n) e)

-- then the chain above a type is its base, and the chain above that
pub above_base : (bases : Bases) (n b : ℕ) → ((m : ℕ) → is_cyclic bases m ≡ false) → base_at bases n ≡ Some b → above bases n ≡ b ∷ above bases b
above_base bases n b none e = at (length bases) refl
  where
    within : n < length bases
    within = has_base_within bases n b e

    ends : up bases (length bases) b ≡ None
    ends = ap (option_and_then (up bases (length bases))) (sym e) ∙ all_end bases n none

    at : (len : ℕ) → length bases ≡ len → chain bases (length bases) (base_at bases n) ≡ b ∷ chain bases (length bases) (base_at bases b)
    at zero is = absurd (omega (arith, within))
    at (suc most) is =
        ap (λ o. chain bases (length bases) o) e
        ∙ ap (λ l. chain bases l (Some b)) is
        ∙ ap (λ l. b ∷ l) (sym (chain_more bases most (base_at bases b) (ap (λ l. up bases l b) (sym is) ∙ ends))
        ∙ ap (λ l. chain bases l (base_at bases b)) (sym is))

pub above_none : (bases : Bases) (n : ℕ) → base_at bases n ≡ None → above bases n ≡ []
above_none bases n e = ap (λ o. chain bases (length bases) o) e ∙ at (length bases)
  where
    at : (most : ℕ) → chain bases most None ≡ []
    at zero = refl
    at (suc most) = refl

-- no chain of a number that is none of the types reaches it
pub none_past : (bases : Bases) (n : ℕ) → length bases ≤ n → is_cyclic bases n ≡ false
none_past bases n out =
    ap (list_any (nat_eq n)) (above_none bases n (ap (option_and_then (λ base. base)) (slice_get_past bases n out)))
