-- What a line says is of the deed.
use Rattle.std.proofs.Common.{◌≡◌, ℕ, suc, ◌+◌, ◌^◌, ◌<◌, ◌≤◌, ℤ, ◌≤ℤ◌, pos, neg_ℤ, Bool, true, false, ◌==◌, cond, nat_le, nat_lt, int_lt, if◌then◌else◌, List, [], ◌∷◌, length, slice_get, Option, Some, None, option_map, option_and_then, Result, Ok, Err, refl, ap, subst, ◌∙◌, arith}
use Rattle.std.specs.List.{list_all, list_any, position_from}
use Rattle.std.proofs.lemmas.Bool.Decides.{nat_tests, Decides-eqb}
use Rattle.std.proofs.lemmas.Grind.{common_steps}
use Rattle.std.proofs.lemmas.Option.{slice_get_within}
use Rattle.sy_base.specs.declared.refusal.FaultName.{FaultName}
use Rattle.sy_base.specs.declared.refusal.FaultName.TheVariants.{TooEarly}
use Rattle.sy_base.specs.Points.{IsDated}
use Rattle.sy_core.specs.declared.happening.What.{What}
use Rattle.sy_core.specs.declared.happening.What.TheVariants as W
use Rattle.sy_core.specs.declared.value.Value.{Value}
use Rattle.sy_core.specs.declared.value.Value.TheVariants as V
use Rattle.sy_core.specs.declared.value.ValueKind.{ValueKind}
use Rattle.sy_core.specs.declared.value.ValueKind.TheVariants as K
use Rattle.sy_core.specs.declared.deed.AttrDecl.{AttrDecl}
use Rattle.sy_core.specs.declared.deed.Choices.{Choices}
use Rattle.sy_core.specs.declared.deed.EventDecl.{EventDecl}
use Rattle.sy_core.specs.declared.deed.Deed.{Deed}
use Rattle.sy_core.specs.Conditions.{is_power}
use Rattle.sy_core.specs.Soundness.{form_passes}
use Rattle.sy_core.specs.Values.{is_constant_of, is_in_range, is_value_of}
use Rattle.sy_binding.specs.declared.tree.FieldTree.{FieldTree}
use Rattle.sy_binding.specs.declared.tree.ValueTree.{ValueTree}
use Rattle.sy_binding.specs.declared.tree.ValueTree.TheVariants as T
use Rattle.sy_literal.specs.Values.{date_point, number_value, text_content}
use Rattle.sy_log.specs.declared.read.Entry.{Entry}
use Rattle.sy_log.specs.declared.read.Entry.TheVariants as E
use Rattle.sy_log.specs.declared.tree.WhatTree.{WhatTree}
use Rattle.sy_log.specs.declared.tree.WhatTree.TheVariants as Tree
use Rattle.sy_log.specs.declared.tree.LineTree.{LineTree}
use Rattle.sy_log.specs.declared.tree.LineTree.TheVariants as L
use Rattle.sy_log.specs.Happenings.{are_values_at, are_values_of, is_told_value, is_what_of, is_writable}
use Rattle.sy_log.specs.Values.{all_given, constant_named, given_once, gives, is_attribute, same, value_given, value_of, values_given, with_first, written_number}
use Rattle.sy_log.specs.Entries as e
use Rattle.sy_log.specs.Entries.{IsEntry, IsEntryOf, attributes_of, date_told, entry_of, event_has_name, event_named, event_told, exertion_told, from_start, noted, power_has_name, power_named, reported, what_told, with_values}
use Rattle.sy_log.proofs.Booleans.{both, left}
use Rattle.sy_log.proofs.Dated.{dated_test, point_dated}
use Rattle.sy_log.proofs.Lexed.{AreLexed, IsLexed, IsLexedLine, IsLexedWhat, line_lexed}
use Rattle.sy_log.proofs.ValuesBack.{string_content}

-- ---- places

-- there is a thing at a place, and it passes
record Found {A : Type 0} (test : A → Bool) (xs : List A) (k : ℕ) : Type 0 where
  item : A
  at : slice_get xs k ≡ Some item
  passes : test item ≡ true

-- a thing is found at a place, counted from i on
record FoundFrom {A : Type 0} (test : A → Bool) (i : ℕ) (xs : List A) (p : ℕ) : Type 0 where
  place : ℕ
  is : p ≡ i + place
  found : Found test xs place

some_place : (p q : ℕ) → Some p ≡ Some q → p ≡ q
some_place p q h = cc

found_by : {A : Type 0} (test : A → Bool) (i : ℕ) (x : A) (xs : List A) (p : ℕ) → (position_from test (i + 1) xs ≡ Some p → FoundFrom test (i + 1) xs p)
    → (b : Bool) → test x ≡ b → cond b (Some i) (position_from test (i + 1) xs) ≡ Some p → FoundFrom test i (x ∷ xs) p
found_by test i x xs p more true is h =
    let there : i ≡ p = some_place i p h in
    record { place = 0; is = omega arith; found = record { item = x; at = refl; passes = is } }
found_by test i x xs p more false is h =
    let later = more h in
    let there : p ≡ i + 1 + later.place = later.is in
    record {
      place = suc later.place;
      is = omega arith;
      found = record { item = later.found.item; at = later.found.at; passes = later.found.passes };
    }

found_from : {A : Type 0} (test : A → Bool) (i : ℕ) (xs : List A) (p : ℕ) → position_from test i xs ≡ Some p → FoundFrom test i xs p
found_from test i [] p h = absurd cc
found_from test i (x ∷ xs) p h = found_by test i x xs p (found_from test (i + 1) xs p) (test x) refl h

found : {A : Type 0} (test : A → Bool) (xs : List A) (p : ℕ) → position_from test 0 xs ≡ Some p → Found test xs p
found test xs p h =
    let from = found_from test 0 xs p h in
    let there : from.place ≡ p = let is : p ≡ 0 + from.place = from.is in omega arith in
    subst (Found test xs) there from.found

-- ---- values

itself : (n : ℕ) → (n == n) ≡ true
itself n = (Decides-eqb n n).1 refl

some_value : (v w : Value) → Some v ≡ Some w → v ≡ w
some_value v w h = cc

positive : (n : ℕ) → n ≤ 10 ^ 15 → is_in_range (pos n) ≡ true
positive n small = grind (arith, common_steps)

negative : (n : ℕ) → n ≤ 10 ^ 15 → is_in_range (neg_ℤ (pos n)) ≡ true
negative n small = grind (arith, common_steps)

module _ (deed : Deed) where
  number_fits : (n : ℕ) (small : Bool) → nat_le n (10 ^ 15) ≡ small → (v : Value)
      → option_map (λ m. V.Number m) (option_map (λ m. pos m) (if small then Some n else None)) ≡ Some v
      → is_value_of deed K.Number v ≡ true
  number_fits n true is v h =
      let small : n ≤ 10 ^ 15 = grind (arith, nat_tests) in
      subst (λ w. is_value_of deed K.Number w ≡ true) (some_value (V.Number (pos n)) v h) (positive n small)
  number_fits n false is v h = absurd cc

  negative_fits : (n : ℕ) (small : Bool) → nat_le n (10 ^ 15) ≡ small → (v : Value)
      → option_map (λ m. V.Number (neg_ℤ m)) (option_map (λ m. pos m) (if small then Some n else None)) ≡ Some v
      → is_value_of deed K.Number v ≡ true
  negative_fits n true is v h =
      let small : n ≤ 10 ^ 15 = grind (arith, nat_tests) in
      subst (λ w. is_value_of deed K.Number w ≡ true) (some_value (V.Number (neg_ℤ (pos n))) v h) (negative n small)
  negative_fits n false is v h = absurd cc

  date_fits : (point : Option ℤ) → ((p : ℤ) → point ≡ Some p → IsDated deed.unit p) → (v : Value)
      → option_map (λ p. V.Date p) point ≡ Some v → is_value_of deed K.Date v ≡ true
  date_fits None dated v h = absurd cc
  date_fits (Some p) dated v h =
      subst (λ w. is_value_of deed K.Date w ≡ true) (some_value (V.Date p) v h) (dated_test deed.unit p (dated p refl))

  choice_fits : (of : ℕ) (choices : Choices) → slice_get deed.choices of ≡ Some choices → (place : Option ℕ)
      → ((i : ℕ) → place ≡ Some i → i < length choices.names) → (v : Value)
      → option_map (λ i. V.Choice of i) place ≡ Some v → is_value_of deed (K.Choice of) v ≡ true
  choice_fits of choices there None within v h = absurd cc
  choice_fits of choices there (Some i) within v h =
      let small : i < length choices.names = within i refl in
      let fits : nat_lt i (length choices.names) ≡ true = grind (arith, nat_tests) in
      subst (λ w. is_value_of deed (K.Choice of) w ≡ true) (some_value (V.Choice of i) v h)
      (both (of == of) (is_constant_of i (slice_get deed.choices of)) (itself of) (ap (is_constant_of i) there ∙ fits))

  within_names : (name : List ℕ) (choices : Choices) (i : ℕ) → constant_named name choices ≡ Some i → i < length choices.names
  within_names name choices i h =
      let f = found (same name) choices.names i h in slice_get_within choices.names i f.item f.at

  constant_fits : (of : ℕ) (name : List ℕ) (there : Option Choices) → slice_get deed.choices of ≡ there → (v : Value)
      → option_map (λ i. V.Choice of i) (option_and_then (constant_named name) there) ≡ Some v
      → is_value_of deed (K.Choice of) v ≡ true
  constant_fits of name None there v h = absurd cc
  constant_fits of name (Some choices) there v h =
      choice_fits of choices there (constant_named name choices) (within_names name choices) v h

  value_fits : (kind : ValueKind) (tree : ValueTree) (v : Value) → value_of deed kind tree ≡ Some v → is_value_of deed kind v ≡ true
  value_fits K.Number (T.Number n) v h = number_fits (number_value n.text) (nat_le (number_value n.text) (10 ^ 15)) refl v h
  value_fits K.Number (T.Negative place n) v h = negative_fits (number_value n.text) (nat_le (number_value n.text) (10 ^ 15)) refl v h
  value_fits K.Text (T.Str t) v h = subst (λ w. is_value_of deed K.Text w ≡ true) (some_value _ v h) refl
  value_fits K.Boolean (T.Const truth place) v h = subst (λ w. is_value_of deed K.Boolean w ≡ true) (some_value (V.Boolean truth) v h) refl
  value_fits K.Date (T.Date t) v h = date_fits (date_point deed.unit t.text) (point_dated deed.unit t.text) v h
  value_fits (K.Choice of) (T.Name x) v h = constant_fits of x.text (slice_get deed.choices of) refl v h
  value_fits kind tree v h = absurd cc

  made : {A : Type 0} (make : A → Value) → ((x : A) → is_writable (make x) ≡ true) → (x : Option A) (v : Value)
      → option_map make x ≡ Some v → is_writable v ≡ true
  made make plain None v h = absurd cc
  made make plain (Some x) v h = subst (λ w. is_writable w ≡ true) (some_value (make x) v h) (plain x)

  -- a text of a token between quotes can stand there
  value_writable : (kind : ValueKind) (tree : ValueTree) (v : Value) → IsLexed tree → value_of deed kind tree ≡ Some v
      → is_writable v ≡ true
  value_writable K.Number (T.Number n) v lexed h = made (λ m. V.Number m) (λ m. refl) (written_number n) v h
  value_writable K.Number (T.Negative place n) v lexed h = made (λ m. V.Number (neg_ℤ m)) (λ m. refl) (written_number n) v h
  value_writable K.Text (T.Str t) v lexed h =
      subst (λ w. is_writable w ≡ true) (some_value (V.Text (text_content t.text)) v h) (string_content t.text lexed)
  value_writable K.Boolean (T.Const truth place) v lexed h =
      subst (λ w. is_writable w ≡ true) (some_value (V.Boolean truth) v h) refl
  value_writable K.Date (T.Date t) v lexed h = made (λ p. V.Date p) (λ p. refl) (date_point deed.unit t.text) v h
  value_writable (K.Choice of) (T.Name x) v lexed h =
      made (λ i. V.Choice of i) (λ i. refl) (option_and_then (constant_named x.text) (slice_get deed.choices of)) v h
  value_writable kind tree v lexed h = absurd cc

  given_fits : (kind : ValueKind) (given : Option ValueTree) (v : Value) → ((tree : ValueTree) → given ≡ Some tree → IsLexed tree)
      → option_and_then (value_of deed kind) given ≡ Some v → is_told_value deed kind v ≡ true
  given_fits kind None v lexed h = absurd cc
  given_fits kind (Some tree) v lexed h =
      both (is_value_of deed kind v) (is_writable v) (value_fits kind tree v h) (value_writable kind tree v (lexed tree refl) h)

  some_tree : (tree other : ValueTree) → Some tree ≡ Some other → tree ≡ other
  some_tree tree other h = cc

  once_lexed : (name : List ℕ) (f : FieldTree) (fields : List FieldTree) (here again : Bool) → IsLexed f.value
      → ((tree : ValueTree) → given_once name fields ≡ Some tree → IsLexed tree) → (tree : ValueTree)
      → (if here then (if again then None else Some f.value) else given_once name fields) ≡ Some tree → IsLexed tree
  once_lexed name f fields true true lexed later tree h = absurd cc
  once_lexed name f fields true false lexed later tree h = subst IsLexed (some_tree f.value tree h) lexed
  once_lexed name f fields false again lexed later tree h = later tree h

  given_lexed : (name : List ℕ) (fields : List FieldTree) → AreLexed fields → (tree : ValueTree) → given_once name fields ≡ Some tree
      → IsLexed tree
  given_lexed name [] lexed tree h = absurd cc
  given_lexed name (f ∷ fields) lexed tree h =
      once_lexed name f fields (gives name f) (list_any (gives name) fields) lexed.0 (given_lexed name fields lexed.1) tree h

  some_values : (vs ws : List Value) → Some vs ≡ Some ws → vs ≡ ws
  some_values vs ws h = cc

  first_fits : (attr : AttrDecl) (attrs : List AttrDecl) (given : Option Value) (others : Option (List Value))
      → ((v : Value) → given ≡ Some v → is_told_value deed attr.kind v ≡ true)
      → ((vs : List Value) → others ≡ Some vs → are_values_of deed attrs vs ≡ true)
      → (values : List Value) → with_first given others ≡ Some values → are_values_of deed (attr ∷ attrs) values ≡ true
  first_fits attr attrs (Some v) (Some vs) one more values h =
      subst (λ ws. are_values_of deed (attr ∷ attrs) ws ≡ true) (some_values (v ∷ vs) values h)
      (both (is_told_value deed attr.kind v) (are_values_of deed attrs vs) (one v refl) (more vs refl))
  first_fits attr attrs (Some v) None one more values h = absurd cc
  first_fits attr attrs None others one more values h = absurd cc

  all_fit : (fields : List FieldTree) → AreLexed fields → (attrs : List AttrDecl) (values : List Value)
      → all_given deed fields attrs ≡ Some values → are_values_of deed attrs values ≡ true
  all_fit fields lexed [] values h = subst (λ ws. are_values_of deed [] ws ≡ true) (some_values [] values h) refl
  all_fit fields lexed (attr ∷ attrs) values h =
      first_fits attr attrs (value_given deed fields attr) (all_given deed fields attrs)
      (λ v given. given_fits attr.kind (given_once attr.name fields) v (given_lexed attr.name fields lexed) given)
      (all_fit fields lexed attrs) values h

  own_fit : (fields : List FieldTree) → AreLexed fields → (attrs : List AttrDecl) (known : Bool) (values : List Value)
      → (if known then all_given deed fields attrs else None) ≡ Some values → are_values_of deed attrs values ≡ true
  own_fit fields lexed attrs true values h = all_fit fields lexed attrs values h
  own_fit fields lexed attrs false values h = absurd cc

  -- ---- what happens

  abbrev ok_what : What → Result What FaultName
  ok_what what = Ok what

  same_what : (what other : What) → ok_what what ≡ ok_what other → what ≡ other
  same_what what other h = cc

  event_of : (event : ℕ) (decl : EventDecl) → slice_get deed.events event ≡ Some decl → (values : Option (List Value))
      → ((vs : List Value) → values ≡ Some vs → are_values_of deed decl.attrs vs ≡ true) → (what : What)
      → with_values event values ≡ Ok what → is_what_of deed what ≡ true
  event_of event decl there None fit what h = absurd cc
  event_of event decl there (Some vs) fit what h =
      subst (λ w. is_what_of deed w ≡ true) (same_what (W.Event event vs) what h)
      (ap (λ d. are_values_at deed d vs) there ∙ fit vs refl)

  named_event : (fields : List FieldTree) → AreLexed fields → (place : Option ℕ) → ((i : ℕ) → place ≡ Some i → (decl : EventDecl) × (slice_get deed.events i ≡ Some decl))
      → (what : What) → event_told deed fields place ≡ Ok what → is_what_of deed what ≡ true
  named_event fields lexed None there what h = absurd cc
  named_event fields lexed (Some i) there what h =
      let d = there i refl in
      event_of i d.0 d.1 (values_given deed (attributes_of (slice_get deed.events i)) fields)
      (λ vs given.
      let own : values_given deed d.0.attrs fields ≡ Some vs = subst (λ o. values_given deed (attributes_of o) fields ≡ Some vs) d.1 given in
      own_fit fields lexed d.0.attrs (list_all (is_attribute d.0.attrs) fields) vs own) what h

  exertion_of : (place : Option ℕ) → ((i : ℕ) → place ≡ Some i → form_passes is_power (slice_get deed.positions i) ≡ true)
      → (what : What) → exertion_told place ≡ Ok what → is_what_of deed what ≡ true
  exertion_of None there what h = absurd cc
  exertion_of (Some i) there what h = subst (λ w. is_what_of deed w ≡ true) (same_what (W.Exert i) what h) (there i refl)

  what_of : (tree : WhatTree) → IsLexedWhat tree → (what : What) → what_told deed tree ≡ Ok what → is_what_of deed what ≡ true
  what_of (Tree.Happens name fields) lexed what h =
      named_event fields lexed (event_named name.text deed.events)
      (λ i is. let f = found (event_has_name name.text) deed.events i is in (f.item, f.at)) what h
  what_of (Tree.Exert name) lexed what h =
      exertion_of (power_named name.text deed.positions)
      (λ i is.
      let f = found (power_has_name name.text) deed.positions i is in
      ap (form_passes is_power) f.at ∙ left (is_power f.item.form) (same name.text f.item.name) f.passes) what h

  -- ---- entries

  abbrev ok_entry : Entry → Result Entry FaultName
  ok_entry entry = Ok entry

  same_entry : (entry other : Entry) → ok_entry entry ≡ ok_entry other → entry ≡ other
  same_entry entry other h = cc

  abbrev ok_point : ℤ → Result ℤ FaultName
  ok_point point = Ok point

  same_point : (point other : ℤ) → ok_point point ≡ ok_point other → point ≡ other
  same_point point other h = cc

  told_dated : (point : Option ℤ) → ((p : ℤ) → point ≡ Some p → IsDated deed.unit p) → (p : ℤ) → date_told point ≡ Ok p
      → IsDated deed.unit p
  told_dated None dated p h = absurd cc
  told_dated (Some q) dated p h = subst (IsDated deed.unit) (same_point q p h) (dated q refl)

  -- a date from start on
  record IsTimely (point : ℤ) : Type 0 where
    dated : IsDated deed.unit point
    late : deed.start ≤ℤ point

  not_before : (a b : ℤ) → int_lt b a ≡ false → a ≤ℤ b
  not_before a b h = grind (arith, common_steps)

  by_start : (q : ℤ) (early : Bool) → int_lt q deed.start ≡ early → IsDated deed.unit q → (p : ℤ)
      → (if early then Err TooEarly else ok_point q) ≡ Ok p → IsTimely p
  by_start q true is dated p h = absurd cc
  by_start q false is dated p h =
      subst IsTimely (same_point q p h) (record { dated = dated; late = not_before deed.start q is })

  timely : (date : Result ℤ FaultName) → ((p : ℤ) → date ≡ Ok p → IsDated deed.unit p) → (p : ℤ) → from_start deed.start date ≡ Ok p
      → IsTimely p
  timely (Err name) dated p h = absurd cc
  timely (Ok q) dated p h = by_start q (int_lt q deed.start) refl (dated q refl) p h

  noted_of : (what : Result What FaultName) (point : Result ℤ FaultName) → ((w : What) → what ≡ Ok w → is_what_of deed w ≡ true)
      → ((p : ℤ) → point ≡ Ok p → IsTimely p) → (entry : Entry) → noted what point ≡ Ok entry → IsEntryOf deed entry
  noted_of (Err name) point of when entry h = absurd cc
  noted_of (Ok w) (Err name) of when entry h = absurd cc
  noted_of (Ok w) (Ok p) of when entry h =
      let t = when p refl in
      subst (IsEntryOf deed) (same_entry (E.Noted (record { point = p; what = w })) entry h)
      (record { what = of w refl; dated = t.dated }, t.late)

  reported_of : (point : Result ℤ FaultName) → ((p : ℤ) → point ≡ Ok p → IsDated deed.unit p) → (entry : Entry)
      → reported point ≡ Ok entry → IsEntryOf deed entry
  reported_of (Err name) dated entry h = absurd cc
  reported_of (Ok p) dated entry h = subst (IsEntryOf deed) (same_entry (E.Report p) entry h) (dated p refl)

  told_of : (tree : LineTree) → IsLexedLine tree → (entry : Entry) → entry_of deed tree ≡ Ok entry → IsEntryOf deed entry
  told_of (L.At date what) lexed entry h =
      noted_of (what_told deed what) (from_start deed.start (date_told (date_point deed.unit date.text))) (what_of what lexed)
      (timely (date_told (date_point deed.unit date.text)) (told_dated (date_point deed.unit date.text) (point_dated deed.unit date.text)))
      entry h
  told_of (L.Report date) lexed entry h =
      reported_of (date_told (date_point deed.unit date.text))
      (told_dated (date_point deed.unit date.text) (point_dated deed.unit date.text)) entry h

  entry_by : (bytes : List ℕ) (told : Result Entry FaultName) → IsEntry deed bytes told → (entry : Entry) → told ≡ Ok entry
      → IsEntryOf deed entry
  entry_by bytes told (e.blank b) entry h = subst (IsEntryOf deed) (same_entry E.Blank entry h) tt
  entry_by bytes told (e.written tree w) entry h = told_of tree (line_lexed bytes tree w) entry h
  entry_by bytes told (e.neither filled none) entry h = absurd cc

  pub entry_is_of : (bytes : List ℕ) (entry : Entry) → IsEntry deed bytes (Ok entry) → IsEntryOf deed entry
  entry_is_of bytes entry is = entry_by bytes (Ok entry) is entry refl
