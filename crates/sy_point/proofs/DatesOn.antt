-- The dates that a core knows, as they become known one after the other.
use Rattle.std.proofs.Common.{◌≡◌, ℕ, zero, suc, ◌+◌, ◌<◌, ◌⊎◌, inl, inr, ℤ, pos, ◌+ℤ◌, ◌≤ℤ◌, int_le, int_lt, Bool, true, false, ◌&&◌, ◌||◌, List, [], ◌∷◌, map, length, set, replicate, Option, Some, None, slice_get, refl, sym, ◌∙◌, ap, subst, arith}
use Rattle.std.specs.List.{list_any}
use Rattle.std.specs.Ordering.{int_eq}
use Rattle.std.specs.Option.{is_some}
use Rattle.std.proofs.lemmas.Int.{ints}
use Rattle.std.proofs.lemmas.Option.{slice_get_within}
use Rattle.std.proofs.lemmas.Bool.Decides.{Decides-int_eq}
use Rattle.sy_core.specs.declared.date_term.DateTerm.{DateTerm}
use Rattle.sy_core.specs.declared.deed.Deed.{Deed}
use Rattle.sy_core.specs.declared.happening.Happening.{Happening}
use Rattle.sy_core.specs.Moments.{date_value}
use Rattle.sy_core.specs.Chronicle.{chronicle, moment_at}
use Rattle.sy_core.specs.Wakes.{dates_of_deed, falls_on, is_point}
use Rattle.sy_quiet.proofs.Unseen.{date_keeps}
use Rattle.sy_queue.specs.Deadlines.{later_than, with_point}
use Rattle.sy_queue.proofs.Members.{any_later, any_with_point}
use Rattle.sy_point.specs.Machine.Known.{AreKnown, KnowsFirst, any_known, date_values}
use Rattle.sy_point.specs.Standing.{KnowsDates}
use Rattle.sy_point.specs.declared.live.Core.{Core}

-- a bit that is set is there
pub set_there : (bits : List Bool) (i : ℕ) (bit : Bool) → slice_get bits i ≡ Some bit → slice_get (set bits i true) i ≡ Some true
set_there [] i bit is = absurd cc
set_there (b ∷ bits) zero bit is = refl
set_there (b ∷ bits) (suc i) bit is = set_there bits i bit is

set_keeps : (bits : List Bool) (i j : ℕ) → slice_get bits j ≡ Some true → slice_get (set bits i true) j ≡ Some true
set_keeps [] i j is = is
set_keeps (b ∷ bits) zero zero is = refl
set_keeps (b ∷ bits) zero (suc j) is = is
set_keeps (b ∷ bits) (suc i) zero is = is
set_keeps (b ∷ bits) (suc i) (suc j) is = set_keeps bits i j is

set_or_was : (bits : List Bool) (i j : ℕ) → slice_get (set bits i true) j ≡ Some true → (j ≡ i) ⊎ (slice_get bits j ≡ Some true)
set_or_was [] i j is = inr is
set_or_was (b ∷ bits) zero zero is = inl refl
set_or_was (b ∷ bits) zero (suc j) is = inr is
set_or_was (b ∷ bits) (suc i) zero is = inr is
set_or_was (b ∷ bits) (suc i) (suc j) is = elim (set_or_was bits i j is) [
  | inl e ↦ inl (ap suc e)
  | inr was ↦ inr was
]

same_or_before : (i j : ℕ) → j < i + 1 → (j ≡ i) ⊎ (j < i)
same_or_before zero zero lt = inl refl
same_or_before zero (suc j) lt = absurd (omega (arith, lt))
same_or_before (suc i) zero lt = inr (omega arith)
same_or_before (suc i) (suc j) lt = elim (same_or_before i j (omega (arith, lt))) [
  | inl e ↦ inl (ap suc e)
  | inr less ↦ inr (omega (arith, less))
]

or_left_swap : (a b c : Bool) → (a || (b || c)) ≡ (b || (a || c))
or_left_swap true true c = refl
or_left_swap true false c = refl
or_left_swap false b c = refl

-- a value whose bit is set now passes too
any_set : (test : Option ℤ → Bool) (bits : List Bool) (values : List (Option ℤ)) (i : ℕ) (value : Option ℤ) → slice_get bits i ≡ Some false → slice_get values i ≡ Some value
    → any_known test (set bits i true) values ≡ (test value || any_known test bits values)
any_set test [] values i value off is = absurd cc
any_set test (b ∷ bits) [] i value off is = absurd cc
any_set test (true ∷ bits) (v ∷ values) zero value off is = absurd cc
any_set test (false ∷ bits) (v ∷ values) zero value off is = let same : v ≡ value = cc in ap (λ x. test x || any_known test bits values) same
any_set test (b ∷ bits) (v ∷ values) (suc i) value off is =
    ap (λ x. (b && test v) || x) (any_set test bits values i value off is)
    ∙ or_left_swap (b && test v) (test value) (any_known test bits values)

eq_swap : (a b : ℤ) → int_eq a b ≡ int_eq b a
eq_swap a b = at (int_eq a b) (int_eq b a) refl refl
  where
    at : (x y : Bool) → int_eq a b ≡ x → int_eq b a ≡ y → x ≡ y
    at true true e f = refl
    at false false e f = refl
    at true false e f = let g = (Decides-int_eq b a).1 (sym ((Decides-int_eq a b).0 e)) in cc
    at false true e f = let g = (Decides-int_eq a b).1 (sym ((Decides-int_eq b a).0 f)) in cc

le_true : (a b : ℤ) → a ≤ℤ b → int_le a b ≡ true
le_true a b le = grind (arith, ints)

and_or : (a b c : Bool) → (b ≡ true → a ≡ true) → (b || (a && c)) ≡ (a && (b || c))
and_or true b c h = refl
and_or false true c h = let t = h refl in cc
and_or false false c h = refl

and_or_not : (a b c : Bool) → (b ≡ true → a ≡ false) → (a && c) ≡ (a && (b || c))
and_or_not true true c h = let t = h refl in cc
and_or_not true false c h = refl
and_or_not false b c h = refl

module _ (bits : List Bool) (points : List ℤ) (from : ℤ) (values : List (Option ℤ)) (i : ℕ) (known : AreKnown bits points from values i) where
  -- the next term is known already
  pub known_before : slice_get bits i ≡ Some true → AreKnown bits points from values (i + 1)
  known_before on = record {
    sound = known.sound;
    first = λ j value lt is there. elim (same_or_before i j lt) [
      | inl e ↦ subst (λ k. slice_get bits k ≡ Some true) (sym e) on
      | inr less ↦ known.first j value less is there
    ];
    waiting = known.waiting;
  }

  -- the next term has no value yet
  pub not_known : slice_get values i ≡ Some None → AreKnown bits points from values (i + 1)
  not_known none = record {
    sound = known.sound;
    first = λ j value lt is there. elim (same_or_before i j lt) [
      | inl e ↦ (let same : value ≡ None = (let at = subst (λ k. slice_get values k ≡ Some value) e is in cc) in absurd cc)
      | inr less ↦ known.first j value less is there
    ];
    waiting = known.waiting;
  }

  module _ (v : ℤ) (off : slice_get bits i ≡ Some false) (is : slice_get values i ≡ Some (Some v)) where
    sound_set : (j : ℕ) (value : Option ℤ) → slice_get values j ≡ Some value → slice_get (set bits i true) j ≡ Some true → is_some value ≡ true
    sound_set j value at on = elim (set_or_was bits i j on) [
      | inl e ↦ (let there = subst (λ k. slice_get values k ≡ Some value) e at in let same : Some v ≡ value = cc in ap is_some (sym same))
      | inr was ↦ known.sound j value at was
    ]

    first_set : (j : ℕ) (value : Option ℤ) → j < i + 1 → slice_get values j ≡ Some value → is_some value ≡ true → slice_get (set bits i true) j ≡ Some true
    first_set j value lt at there = elim (same_or_before i j lt) [
      | inl e ↦ subst (λ k. slice_get (set bits i true) k ≡ Some true) (sym e) (set_there bits i false off)
      | inr less ↦ set_keeps bits i j (known.first j value less at there)
    ]

    -- the next term's value is still to come
    pub known_to_come : from ≤ℤ v → AreKnown (set bits i true) (with_point v points) from values (i + 1)
    known_to_come le = record {
      sound = sound_set;
      first = first_set;
      waiting = λ point.
          any_with_point (λ p. int_eq point p) v points
          ∙ (ap (λ b. int_eq point v || b) (known.waiting point)
          ∙ (and_or (int_le from point) (int_eq point v) (any_known (is_point point) bits values) (at_v point)
          ∙ ((λ j. int_le from point && (eq_swap point v j || any_known (is_point point) bits values))
          ∙ ap (λ b. int_le from point && b) (sym (any_set (is_point point) bits values i (Some v) off is)))));
    }
      where
        at_v : (point : ℤ) → int_eq point v ≡ true → int_le from point ≡ true
        at_v point e = le_true from point (subst (λ p. from ≤ℤ p) (sym ((Decides-int_eq point v).0 e)) le)

    -- the next term's value is before the point
    pub known_gone : int_le from v ≡ false → AreKnown (set bits i true) points from values (i + 1)
    known_gone gone = record {
      sound = sound_set;
      first = first_set;
      waiting = λ point.
          known.waiting point
          ∙ (and_or_not (int_le from point) (int_eq v point) (any_known (is_point point) bits values) (at_v point)
          ∙ ap (λ b. int_le from point && b) (sym (any_set (is_point point) bits values i (Some v) off is)));
    }
      where
        at_v : (point : ℤ) → int_eq v point ≡ true → int_le from point ≡ false
        at_v point e = ap (int_le from) (sym ((Decides-int_eq v point).0 e)) ∙ gone

map_at : {X Y : Type 0} (f : X → Y) (xs : List X) (i : ℕ) (x : X) → slice_get xs i ≡ Some x → slice_get (map f xs) i ≡ Some (f x)
map_at f [] i x is = absurd cc
map_at f (y ∷ xs) zero x is = let same : y ≡ x = cc in ap (λ z. Some (f z)) same
map_at f (y ∷ xs) (suc i) x is = map_at f xs i x is

item_at : {X : Type 0} (xs : List X) (i : ℕ) → i < length xs → (x : X) × (slice_get xs i ≡ Some x)
item_at [] i lt = absurd (omega (arith, lt))
item_at (x ∷ xs) zero lt = (x, refl)
item_at (x ∷ xs) (suc i) lt = item_at xs i (omega (arith, lt))

-- one of the terms that are there
pub term_at : (deed : Deed) (i : ℕ) → i < length (dates_of_deed deed) → (term : DateTerm) × (slice_get (dates_of_deed deed) i ≡ Some term)
term_at deed i lt = item_at (dates_of_deed deed) i lt

pub value_at : (deed : Deed) (narrative : List Happening) (n i : ℕ) (term : DateTerm) → slice_get (dates_of_deed deed) i ≡ Some term → slice_get (date_values deed narrative n) i ≡ Some (date_value deed.unit term (chronicle deed narrative n))
value_at deed narrative n i term is = map_at (λ term. date_value deed.unit term (chronicle deed narrative n)) (dates_of_deed deed) i term is

each_alike : (bits : List Bool) (values : List (Option ℤ)) → length bits ≡ length values → ((i : ℕ) (value : Option ℤ) → slice_get values i ≡ Some value → slice_get bits i ≡ Some (is_some value)) → bits ≡ map is_some values
each_alike [] [] same alike = refl
each_alike [] (v ∷ values) same alike = absurd cc
each_alike (b ∷ bits) [] same alike = absurd cc
each_alike (b ∷ bits) (v ∷ values) same alike =
    let here : b ≡ is_some v = (let at = alike 0 v refl in cc) in
    let later = each_alike bits values (omega (arith, same)) (λ i value is. alike (suc i) value is) in
    λ j. here j ∷ later j

-- a term with a value passes a test exactly where its value does
any_with_value : (test : Option ℤ → Bool) → test None ≡ false → (values : List (Option ℤ)) → any_known test (map is_some values) values ≡ list_any test values
any_with_value test fails [] = refl
any_with_value test fails (None ∷ values) = any_with_value test fails values ∙ ap (λ b. b || list_any test values) (sym fails)
any_with_value test fails (Some v ∷ values) = ap (λ b. test (Some v) || b) (any_with_value test fails values)

map_twice : {X Y Z : Type 0} (f : X → Y) (g : Y → Z) (xs : List X) → map g (map f xs) ≡ map (λ x. g (f x)) xs
map_twice f g [] = refl
map_twice f g (x ∷ xs) = ap (λ ys. g (f x) ∷ ys) (map_twice f g xs)

any_of_map : {X Y : Type 0} (f : X → Y) (test : Y → Bool) (xs : List X) → list_any test (map f xs) ≡ list_any (λ x. test (f x)) xs
any_of_map f test [] = refl
any_of_map f test (x ∷ xs) = ap (λ b. test (f x) || b) (any_of_map f test xs)

length_map : {X Y : Type 0} (f : X → Y) (xs : List X) → length (map f xs) ≡ length xs
length_map f [] = refl
length_map f (x ∷ xs) = ap suc (length_map f xs)

-- once all terms were looked at, each bit tells whether its value is there
bits_are : (bits : List Bool) (points : List ℤ) (from : ℤ) (values : List (Option ℤ)) → length bits ≡ length values → AreKnown bits points from values (length values) → bits ≡ map is_some values
bits_are bits points from values same known = each_alike bits values same alike
  where
    alike : (i : ℕ) (value : Option ℤ) → slice_get values i ≡ Some value → slice_get bits i ≡ Some (is_some value)
    alike i value is = at (is_some value) refl bit.0 bit.1
      where
        within : i < length values
        within = slice_get_within values i value is

        bit : (b : Bool) × (slice_get bits i ≡ Some b)
        bit = item_at bits i (omega (arith, within, same))

        at : (there : Bool) → is_some value ≡ there → (b : Bool) → slice_get bits i ≡ Some b → slice_get bits i ≡ Some (is_some value)
        at true e b is_bit = known.first i value within is e ∙ ap Some (sym e)
        at false e true is_bit = (let there = known.sound i value is is_bit in absurd cc)
        at false e false is_bit = is_bit ∙ ap Some (sym e)

-- and the core knows the dates of the deed
pub knows_dates : (core : Core) (deed : Deed) (narrative : List Happening) (n count : ℕ) → length core.queued.items ≡ length (dates_of_deed deed) → count ≡ length (dates_of_deed deed) → KnowsFirst core (date_values deed narrative n) count → KnowsDates core deed narrative n
knows_dates core deed narrative n count same all known =
    let value_of : DateTerm → Option ℤ = λ term. date_value deed.unit term (chronicle deed narrative n) in
    let values : List (Option ℤ) = date_values deed narrative n in
    let as_many : length (dates_of_deed deed) ≡ length values = sym (length_map value_of (dates_of_deed deed)) in
    let every = subst (KnowsFirst core values) (all ∙ as_many) known in
    let bits = bits_are core.queued.items core.queue.points core.point values (same ∙ as_many) every in
    record {
      known = bits ∙ map_twice value_of is_some (dates_of_deed deed);
      waiting = λ value.
          every.waiting value
          ∙ ap (λ b. int_le core.point value && b)
          (ap (λ bs. any_known (is_point value) bs values) bits
          ∙ (any_with_value (is_point value) refl values
          ∙ any_of_map value_of (is_point value) (dates_of_deed deed)));
    }

-- The next point was evaluated: each date that was known keeps its value, and those up to the point are gone.
module _ (value_of next_of : DateTerm → Option ℤ) (keeps : (term : DateTerm) (v : ℤ) → value_of term ≡ Some v → next_of term ≡ Some v) where
  still_sound : (terms : List DateTerm) (i : ℕ) (value : Option ℤ) → slice_get (map next_of terms) i ≡ Some value → slice_get (map (λ term. is_some (value_of term)) terms) i ≡ Some true → is_some value ≡ true
  still_sound [] i value is on = absurd cc
  still_sound (term ∷ terms) zero value is on = at (value_of term) refl
    where
      at : (o : Option ℤ) → value_of term ≡ o → is_some value ≡ true
      at None e = let off : is_some (value_of term) ≡ false = ap is_some e in absurd cc
      at (Some v) e = let there = keeps term v e in let same : value ≡ Some v = cc in ap is_some same
  still_sound (term ∷ terms) (suc i) value is on = still_sound terms i value is on

  still_any : (test : Option ℤ → Bool) → test None ≡ false → (terms : List DateTerm) → any_known test (map (λ term. is_some (value_of term)) terms) (map next_of terms) ≡ list_any (λ term. test (value_of term)) terms
  still_any test fails [] = refl
  still_any test fails (term ∷ terms) = at (value_of term) refl (still_any test fails terms)
    where
      at : (o : Option ℤ) → value_of term ≡ o → any_known test (map (λ term. is_some (value_of term)) terms) (map next_of terms) ≡ list_any (λ term. test (value_of term)) terms
          → ((is_some (value_of term) && test (next_of term)) || any_known test (map (λ term. is_some (value_of term)) terms) (map next_of terms)) ≡ (test (value_of term) || list_any (λ term. test (value_of term)) terms)
      at None e later = (λ j. (is_some (e j) && test (next_of term)) || later j) ∙ (λ j. sym fails j || list_any (λ term. test (value_of term)) terms) ∙ sym (ap (λ o. test o || list_any (λ term. test (value_of term)) terms) e)
      at (Some v) e later = (λ j. (is_some (e j) && test (keeps term v e j)) || later j) ∙ sym (ap (λ o. test o || list_any (λ term. test (value_of term)) terms) e)

from_next : (point value : ℤ) → int_lt point value ≡ int_le (point +ℤ pos 1) value
from_next point value = grind (arith, ints)

lt_le : (point value : ℤ) → int_lt point value ≡ true → int_le point value ≡ true
lt_le point value lt = grind (arith, ints)

and_twice : (a b c : Bool) → (a ≡ true → b ≡ true) → (a && (b && c)) ≡ (a && c)
and_twice true b c h = ap (λ x. x && c) (h refl)
and_twice false b c h = refl

-- what is known of the next point before its dates are queued
pub known_goes_on : (deed : Deed) (narrative : List Happening) (n : ℕ) (core : Core) → KnowsDates core deed narrative n → AreKnown core.queued.items (later_than core.point core.queue.points) (core.point +ℤ pos 1) (date_values deed narrative (suc n)) 0
known_goes_on deed narrative n core knows = record {
  sound = λ i value is on. still_sound value_of next_of keeps (dates_of_deed deed) i value is (subst (λ bits. slice_get bits i ≡ Some true) knows.known on);
  first = λ i value lt is there. absurd (omega (arith, lt));
  waiting = λ value.
      any_later core.point value core.queue.points
      ∙ (ap (λ b. int_lt core.point value && b) (knows.waiting value)
      ∙ (and_twice (int_lt core.point value) (int_le core.point value) (falls value) (lt_le core.point value)
      ∙ (λ j. from_next core.point value j && sym (still value) j)));
}
  where
    value_of : DateTerm → Option ℤ
    value_of term = date_value deed.unit term (chronicle deed narrative n)

    next_of : DateTerm → Option ℤ
    next_of term = date_value deed.unit term (chronicle deed narrative (suc n))

    keeps : (term : DateTerm) (v : ℤ) → value_of term ≡ Some v → next_of term ≡ Some v
    keeps term v is = date_keeps deed.unit term (chronicle deed narrative n) (moment_at deed narrative n) v is

    falls : ℤ → Bool
    falls value = list_any (falls_on deed.unit value (chronicle deed narrative n)) (dates_of_deed deed)

    still : (value : ℤ) → any_known (is_point value) core.queued.items (date_values deed narrative (suc n)) ≡ falls value
    still value =
        ap (λ bits. any_known (is_point value) bits (date_values deed narrative (suc n))) knows.known
        ∙ still_any value_of next_of keeps (is_point value) refl (dates_of_deed deed)

-- where no bit is set nothing is known yet
pub none_known : (count : ℕ) (from : ℤ) (values : List (Option ℤ)) → AreKnown (replicate count false) [] from values 0
none_known count from values = record {
  sound = λ i value is on. absurd (never_on count i on);
  first = λ i value lt is there. absurd (omega (arith, lt));
  waiting = λ point. sym (ap (λ b. int_le from point && b) (none_passes (is_point point) count values) ∙ and_false (int_le from point));
}
  where
    never_on : (count i : ℕ) → slice_get (replicate count false) i ≡ Some true → ⊥
    never_on zero i on = cc
    never_on (suc count) zero on = cc
    never_on (suc count) (suc i) on = never_on count i on

    none_passes : (test : Option ℤ → Bool) (count : ℕ) (values : List (Option ℤ)) → any_known test (replicate count false) values ≡ false
    none_passes test zero values = refl
    none_passes test (suc count) [] = refl
    none_passes test (suc count) (v ∷ values) = none_passes test count values

    and_false : (b : Bool) → (b && false) ≡ false
    and_false true = refl
    and_false false = refl
