-- What loops over the nodes need.
use Rattle.std.proofs.Common.{◌≡◌, ℕ, zero, suc, ◌+◌, ◌-◌, ◌<◌, ◌≤◌, ℤ, List, [], ◌∷◌, ◌++◌, map, length, take, drop, get_or, slice_set, refl, sym, ◌∙◌, ap, subst, arith, append_assoc, length-append}
use Rattle.std.proofs.Math.Seq.{get_or-append_seam}
use Rattle.sy_core.specs.declared.table.Verdict.{Verdict}
use Rattle.sy_core.specs.declared.table.Verdict.TheVariants as V
use Rattle.sy_prop.specs.declared.node.Node.{Node}
use Rattle.sy_prop.specs.Machine.Tables.{last_of, node_value, values_from}

-- one item more is written
set_at : (f : Node → Node) (init : List Node) (i : ℕ) (d : Node) → i < length init → slice_set (map f (take i init) ++ drop i init) i (f (get_or (map f (take i init) ++ drop i init) i d)) ≡ map f (take (suc i) init) ++ drop (suc i) init
set_at f [] i d lt = absurd (omega arith)
set_at f (n ∷ ns) zero d lt = refl
set_at f (n ∷ ns) (suc i) d lt = ap (λ l. f n ∷ l) (set_at f ns i d (omega arith))

pub set_goes_on : (f : Node → Node) (init nodes : List Node) (i : ℕ) (d y : Node) → i < length init → nodes ≡ map f (take i init) ++ drop i init → y ≡ f (get_or nodes i d) → slice_set nodes i y ≡ map f (take (i + 1) init) ++ drop (i + 1) init
set_goes_on f init nodes i d y lt e made =
    ap (slice_set nodes i) made
    ∙ ((λ j. slice_set (e j) i (f (get_or (e j) i d)))
    ∙ (set_at f init i d lt
    ∙ (let s : suc i ≡ i + 1 = omega arith in ap (λ k. map f (take k init) ++ drop k init) s)))

all_taken : (f : Node → Node) (init : List Node) (i : ℕ) → length init ≤ i → map f (take i init) ++ drop i init ≡ map f init
all_taken f [] zero le = refl
all_taken f [] (suc i) le = refl
all_taken f (n ∷ ns) zero le = absurd (omega arith)
all_taken f (n ∷ ns) (suc i) le = ap (λ l. f n ∷ l) (all_taken f ns i (omega arith))

pub set_is_done : (f : Node → Node) (init nodes : List Node) (i : ℕ) → length init ≤ i → nodes ≡ map f (take i init) ++ drop i init → nodes ≡ map f init
set_is_done f init nodes i le e = e ∙ all_taken f init i le

-- the value of one node
module _ (point : ℤ) where
  pub more_values : (acc : List Verdict) (ns : List Node) → (more : List Verdict) × (values_from point acc ns ≡ acc ++ more) × (length more ≡ length ns)
  more_values acc [] = ([], none acc, refl)
    where
      none : (xs : List Verdict) → xs ≡ xs ++ []
      none [] = refl
      none (x ∷ xs) = ap (λ l. x ∷ l) (none xs)
  more_values acc (n ∷ ns) =
      let v = node_value point acc n in
      let m = more_values (acc ++ v ∷ []) ns in
      (v ∷ m.0, m.1 ∙ append_assoc acc (v ∷ []) m.0, omega (arith, m.2))

  take_front : (xs ys : List Verdict) → take (length xs) (xs ++ ys) ≡ xs
  take_front [] ys = none ys
    where
      none : (ys : List Verdict) → take 0 ys ≡ []
      none [] = refl
      none (y ∷ ys) = refl
  take_front (x ∷ xs) ys = ap (λ l. x ∷ l) (take_front xs ys)

  value_in : (acc : List Verdict) (ns : List Node) (i : ℕ) (x : Node) → i < length ns → get_or (values_from point acc ns) (length acc + i) V.Open ≡ node_value point (take (length acc + i) (values_from point acc ns)) (get_or ns i x)
  value_in acc [] i x lt = absurd (omega arith)
  value_in acc (n ∷ ns) zero x lt =
      let v = node_value point acc n in
      let m = more_values (acc ++ v ∷ []) ns in
      let whole = m.1 ∙ append_assoc acc (v ∷ []) m.0 in
      let e : length acc + 0 ≡ length acc = omega arith in
      (λ j. get_or (whole j) (e j) V.Open)
      ∙ (get_or-append_seam acc v m.0 V.Open
      ∙ ap (λ l. node_value point l n) (sym ((λ j. take (e j) (whole j)) ∙ take_front acc (v ∷ m.0))))
  value_in acc (n ∷ ns) (suc i) x lt =
      let v = node_value point acc n in
      let e : length (acc ++ v ∷ []) + i ≡ length acc + suc i = omega (arith, length-append acc (v ∷ [])) in
      subst (λ k. get_or (values_from point (acc ++ v ∷ []) ns) k V.Open ≡ node_value point (take k (values_from point (acc ++ v ∷ []) ns)) (get_or ns i x)) e (value_in (acc ++ v ∷ []) ns i x (omega arith))

  pub value_is : (ns : List Node) (i : ℕ) (d y : Node) → i < length ns → get_or ns i d ≡ y → get_or (values_from point [] ns) i V.Open ≡ node_value point (take i (values_from point [] ns)) y
  value_is ns i d y lt e =
      let z : 0 + i ≡ i = omega arith in
      let r = values_from point [] ns in
      subst (λ k. get_or r k V.Open ≡ node_value point (take k r) (get_or ns i d)) z (value_in [] ns i d lt)
      ∙ ap (node_value point (take i r)) e

  pub values_length : (ns : List Node) → length (values_from point [] ns) ≡ length ns
  values_length ns = let m = more_values [] ns in ap length m.1 ∙ m.2

-- what a front has
pub in_front : (xs : List Verdict) (k i : ℕ) → k < i → get_or (take i xs) k V.Open ≡ get_or xs k V.Open
in_front [] k zero lt = absurd (omega arith)
in_front [] k (suc i) lt = refl
in_front (x ∷ xs) k zero lt = absurd (omega arith)
in_front (x ∷ xs) zero (suc i) lt = refl
in_front (x ∷ xs) (suc k) (suc i) lt = in_front xs k i (omega arith)

pub past_front : (xs : List Verdict) (k i : ℕ) → i ≤ k → get_or (take i xs) k V.Open ≡ V.Open
past_front [] k zero le = refl
past_front [] k (suc i) le = refl
past_front (x ∷ xs) k zero le = refl
past_front (x ∷ xs) zero (suc i) le = absurd (omega arith)
past_front (x ∷ xs) (suc k) (suc i) le = past_front xs k i (omega arith)

take_length : (xs : List Verdict) (i : ℕ) → i ≤ length xs → length (take i xs) ≡ i
take_length [] zero le = refl
take_length [] (suc i) le = absurd (omega arith)
take_length (x ∷ xs) zero le = refl
take_length (x ∷ xs) (suc i) le = let e = take_length xs i (omega arith) in omega (arith, e)

pub last_in_front : (xs : List Verdict) (i : ℕ) → 0 < i → i ≤ length xs → last_of (take i xs) ≡ get_or xs (i - 1) V.Open
last_in_front xs i some le =
    ap (λ n. get_or (take i xs) (n - 1) V.Open) (take_length xs i le) ∙ in_front xs (i - 1) i (omega arith)

pub last_of_none : (xs : List Verdict) → last_of (take 0 xs) ≡ V.Open
last_of_none [] = refl
last_of_none (x ∷ xs) = refl

pub past_values : (xs : List Verdict) (i : ℕ) → length xs ≤ i → get_or xs i V.Open ≡ V.Open
past_values [] i le = refl
past_values (x ∷ xs) zero le = absurd (omega arith)
past_values (x ∷ xs) (suc i) le = past_values xs i (omega arith)
