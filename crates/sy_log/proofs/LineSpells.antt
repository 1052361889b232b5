-- Lexemes like the pieces of a happening's line spell a line that tells this happening.
use Rattle.std.proofs.Common.{◌≡◌, ℕ, suc, ◌+◌, ℤ, ◌≤ℤ◌, pos, negsuc, neg_ℤ, int_lt, Bool, true, false, ◌==◌, codes, decimal, if◌then◌else◌, List, [], ◌∷◌, ◌++◌, map, slice_get, Option, Some, None, option_map, Result, Ok, Err, refl, sym, ap, subst, ◌∙◌, append_assoc, arith}
use Rattle.std.proofs.lemmas.Bool.{eqb-true}
use Rattle.std.proofs.lemmas.Grind.{common_steps}
use Rattle.sy_base.specs.declared.refusal.FaultName.{FaultName}
use Rattle.sy_base.specs.declared.refusal.FaultName.TheVariants.{TooEarly}
use Rattle.sy_base.specs.Dates.{date_text}
use Rattle.sy_base.specs.Points.{IsDated}
use Rattle.sy_lex.specs.declared.keyword.Keyword.TheVariants as K
use Rattle.sy_lex.specs.declared.sign.Sign.TheVariants.{Assign, CloseBracket, Comma, Minus, OpenBracket}
use Rattle.sy_lex.specs.declared.token.TokenKind.TheVariants as S
use Rattle.sy_lex.specs.Lexemes.{Lexeme}
use Rattle.sy_reader.specs.Grammar as g
use Rattle.sy_reader.specs.Grammar.{Many, behind, listed, many}
use Rattle.sy_core.specs.declared.happening.What.{What}
use Rattle.sy_core.specs.declared.happening.What.TheVariants as W
use Rattle.sy_core.specs.declared.happening.Happening.{Happening}
use Rattle.sy_core.specs.declared.position.Position.{Position}
use Rattle.sy_core.specs.declared.value.Value.{Value}
use Rattle.sy_core.specs.declared.value.Value.TheVariants as V
use Rattle.sy_core.specs.declared.value.ValueKind.{ValueKind}
use Rattle.sy_core.specs.declared.value.ValueKind.TheVariants as Kind
use Rattle.sy_core.specs.declared.deed.AttrDecl.{AttrDecl}
use Rattle.sy_core.specs.declared.deed.EventDecl.{EventDecl}
use Rattle.sy_core.specs.declared.deed.Deed.{Deed}
use Rattle.sy_core.specs.Conditions.{is_power}
use Rattle.sy_core.specs.Soundness.{HasNamesApart, are_distinct, form_passes}
use Rattle.sy_core.specs.Values.{is_constant_of, is_in_range, is_value_of}
use Rattle.sy_binding.specs.Bindings.{field, value}
use Rattle.sy_binding.specs.declared.tree.FieldTree.{FieldTree}
use Rattle.sy_binding.specs.declared.tree.ValueTree.{ValueTree}
use Rattle.sy_literal.specs.Values.{date_point, number_in_range, text_content}
use Rattle.sy_log.specs.declared.read.Entry.TheVariants as E
use Rattle.sy_log.specs.declared.tree.WhatTree.{WhatTree}
use Rattle.sy_log.specs.Entries.{attributes_of, date_told, entry_of, event_has_name, event_named, event_told, exertion_told, from_start, noted, power_has_name, power_named, what_told, with_values}
use Rattle.sy_log.specs.EntryText.{constant_name, position_name, quoted}
use Rattle.sy_log.specs.Happenings.{IsOfDeed, are_values_at, are_values_of, is_told_value, is_what_of, is_writable}
use Rattle.sy_log.specs.Lines.{fields, line, what}
use Rattle.sy_log.specs.Naming.{HasWords}
use Rattle.sy_log.specs.Values.{same, value_of, values_given}
use Rattle.sy_log.proofs.Booleans.{both, left, right}
use Rattle.sy_log.proofs.Finding.{found_from, same_is, same_itself}
use Rattle.sy_log.proofs.Giving.{TellAll, Tells, values_told}
use Rattle.sy_log.proofs.LinePieces.{bare, closing, event_pieces, field_pieces, fields_pieces, line_pieces, more_pieces, number_pieces, spaced, value_pieces, what_pieces}
use Rattle.sy_log.proofs.Pieces.{Piece}
use Rattle.sy_log.proofs.PointDates.{point_read}
use Rattle.sy_log.proofs.Spells.{Says, final, no_pieces, one, other, place_says, split_reads, step, token_says}
use Rattle.sy_log.proofs.ValueFits.{constant_found, dated_from_test, passes_there}
use Rattle.sy_log.proofs.ValuesBack.{decimal_read, quoted_read, small_negative, small_pos}

-- ---- values

module _ (deed : Deed) (words : HasWords deed) (apart : HasNamesApart deed) where
  -- the tree has the value
  abbrev Has : ValueKind → Value → ValueTree → Type 0
  Has kind v x = value_of deed kind x ≡ Some v

  number_says : (n : ℤ) → is_in_range n ≡ true → Says value (Has Kind.Number (V.Number n)) (number_pieces n)
  number_says (pos n) h =
      one (one (one (one (one (one (final (token_says (bare S.Number (decimal n))) λ x is.
      ap (λ o. option_map (λ m. V.Number m) (option_map (λ m. pos m) o))
      (ap number_in_range is ∙ decimal_read n (small_pos n h))))))))
  number_says (negsuc n) h =
      one (one (one (one (one (other (step (place_says (bare (S.Sign Minus) (codes "-"))) λ _ _.
      final (token_says (bare S.Number (decimal (suc n)))) λ x is.
      ap (λ o. option_map (λ m. V.Number (neg_ℤ m)) (option_map (λ m. pos m) o))
      (ap number_in_range is ∙ decimal_read (suc n) (small_negative n h))))))))

  truth_says : (truth : Bool) → Says value (Has Kind.Boolean (V.Boolean truth)) (value_pieces deed (V.Boolean truth))
  truth_says true = one (one (other (final (place_says (bare (S.Reserved K.True) (codes "true"))) λ _ _. refl)))
  truth_says false = one (other (final (place_says (bare (S.Reserved K.False) (codes "false"))) λ _ _. refl))

  choice_says : (e constant : ℕ) → is_constant_of constant (slice_get deed.choices e) ≡ true
      → Says value (Has (Kind.Choice e) (V.Choice e constant)) (value_pieces deed (V.Choice e constant))
  choice_says e constant h =
      other (final (token_says (bare S.Word (constant_name (slice_get deed.choices e) constant)))
      λ x is. constant_found deed words apart e constant h x.text is)

  value_says : (kind : ValueKind) (v : Value) → is_value_of deed kind v ≡ true → is_writable v ≡ true
      → Says value (Has kind v) (value_pieces deed v)
  value_says Kind.Number (V.Number n) h w = number_says n h
  value_says Kind.Text (V.Text bytes) h w =
      one (one (one (one (other (final (token_says (bare S.Str (quoted bytes)))
      λ x is. ap (λ (content : List ℕ). Some (V.Text content)) (ap text_content is ∙ quoted_read bytes w))))))
  value_says Kind.Boolean (V.Boolean truth) h w = truth_says truth
  value_says Kind.Date (V.Date point) h w =
      one (one (one (other (final (token_says (bare S.Date (date_text deed.unit point)))
      λ x is. ap (option_map (λ p. V.Date p)) (ap (date_point deed.unit) is ∙ point_read deed.unit point (dated_from_test deed.unit point h))))))
  value_says (Kind.Choice e) (V.Choice f constant) h w =
      let is = eqb-true e f (left (e == f) (is_constant_of constant (slice_get deed.choices e)) h) in
      subst (λ (of : ℕ). Says value (Has (Kind.Choice e) (V.Choice of constant)) (value_pieces deed (V.Choice of constant))) is
      (choice_says e constant (right (e == f) (is_constant_of constant (slice_get deed.choices e)) h))
  value_says kind v h w = absurd cc

  -- ---- fields

  field_says : (attr : AttrDecl) (v : Value) → is_told_value deed attr.kind v ≡ true
      → Says field (Tells deed attr v) (field_pieces deed attr v)
  field_says attr v told =
      let value_is = left (is_value_of deed attr.kind v) (is_writable v) told in
      let writable = right (is_value_of deed attr.kind v) (is_writable v) told in
      step
      (step (token_says (spaced S.Word attr.name)) λ x is. final (place_says (spaced (S.Sign Assign) (codes ":="))) λ _ _. is)
      λ name is. final (value_says attr.kind v value_is writable) λ x has. record { name = is; value = has }

  behind_comma : (attr : AttrDecl) (v : Value) → is_told_value deed attr.kind v ≡ true
      → Says (behind Comma field) (Tells deed attr v) (spaced (S.Sign Comma) (codes ",") ∷ field_pieces deed attr v)
  behind_comma attr v told = step (place_says (spaced (S.Sign Comma) (codes ","))) λ _ _. field_says attr v told

  first_told : (attr : AttrDecl) (attrs : List AttrDecl) (v : Value) (values : List Value)
      → are_values_of deed (attr ∷ attrs) (v ∷ values) ≡ true → is_told_value deed attr.kind v ≡ true
  first_told attr attrs v values told = left (is_told_value deed attr.kind v) (are_values_of deed attrs values) told

  later_told : (attr : AttrDecl) (attrs : List AttrDecl) (v : Value) (values : List Value)
      → are_values_of deed (attr ∷ attrs) (v ∷ values) ≡ true → are_values_of deed attrs values ≡ true
  later_told attr attrs v values told = right (is_told_value deed attr.kind v) (are_values_of deed attrs values) told

  more_says : (attrs : List AttrDecl) (values : List Value) → are_values_of deed attrs values ≡ true
      → Says (many (behind Comma field)) (TellAll deed attrs values) (more_pieces deed attrs values)
  more_says [] [] told = record {
    tree = λ from rest r. ([], subst (λ (l : List Lexeme). Many (behind Comma field) l [] rest) (sym r) (g.none rest), tt);
  }
  more_says [] (v ∷ values) told = absurd cc
  more_says (attr ∷ attrs) [] told = absurd cc
  more_says (attr ∷ attrs) (v ∷ values) told = record {
    tree = λ from rest r.
        let s = split_reads (spaced (S.Sign Comma) (codes ",") ∷ field_pieces deed attr v) (more_pieces deed attrs values) from rest r in
        let f = (behind_comma attr v (first_told attr attrs v values told)).tree from s.0 s.1 in
        let fs = (more_says attrs values (later_told attr attrs v values told)).tree s.0 rest s.2 in
        (f.0 ∷ fs.0, g.more from f.0 s.0 fs.0 rest f.1 fs.1, (f.2, fs.2));
  }

  fields_say : (attrs : List AttrDecl) (values : List Value) → are_values_of deed attrs values ≡ true
      → Says fields (TellAll deed attrs values) (fields_pieces deed attrs values)
  fields_say [] [] told = other (no_pieces tt)
  fields_say [] (v ∷ values) told = absurd cc
  fields_say (attr ∷ attrs) [] told = absurd cc
  fields_say (attr ∷ attrs) (v ∷ values) told =
      let all : Says (listed field) (TellAll deed (attr ∷ attrs) (v ∷ values)) (field_pieces deed attr v ++ more_pieces deed attrs values) =
      step (field_says attr v (first_told attr attrs v values told)) λ first has.
      final (more_says attrs values (later_told attr attrs v values told)) λ others each. (has, each) in
      let whole : Says fields (TellAll deed (attr ∷ attrs) (v ∷ values))
      (bare (S.Sign OpenBracket) (codes "[") ∷ ((field_pieces deed attr v ++ more_pieces deed attrs values) ++ closing)) =
      one (step (place_says (bare (S.Sign OpenBracket) (codes "["))) λ _ _.
      step all λ x has. final (place_says (bare (S.Sign CloseBracket) (codes "]"))) λ _ _. has) in
      subst (λ (ps : List Piece). Says fields (TellAll deed (attr ∷ attrs) (v ∷ values)) (bare (S.Sign OpenBracket) (codes "[") ∷ ps))
      (append_assoc (field_pieces deed attr v) (more_pieces deed attrs values) closing) whole

  -- ---- what happens

  event_found : (event : ℕ) (decl : EventDecl) (name : List ℕ) → slice_get deed.events event ≡ Some decl → name ≡ decl.name
      → event_named name deed.events ≡ Some event
  event_found event decl name there is =
      let place : 0 + event ≡ event = omega arith in
      found_from (λ e. e.name) (event_has_name name) decl (ap (same name) (sym is) ∙ same_itself name)
      (λ e h. sym (same_is name e.name h) ∙ is) 0 deed.events event apart.events there
      ∙ ap (λ (n : ℕ). Some n) place

  power_found : (power : ℕ) (p : Position) (name : List ℕ) → slice_get deed.positions power ≡ Some p → is_power p.form ≡ true
      → name ≡ p.name → power_named name deed.positions ≡ Some power
  power_found power p name there is_one is =
      let place : 0 + power ≡ power = omega arith in
      found_from (λ q. q.name) (power_has_name name) p
      (both (is_power p.form) (same name p.name) is_one (ap (same name) (sym is) ∙ same_itself name))
      (λ q h. sym (same_is name q.name (right (is_power q.form) (same name q.name) h)) ∙ is) 0 deed.positions power apart.positions there
      ∙ ap (λ (n : ℕ). Some n) place

  event_is_told : (event : ℕ) (decl : EventDecl) (values : List Value) (name : List ℕ) (fs : List FieldTree)
      → slice_get deed.events event ≡ Some decl → name ≡ decl.name → TellAll deed decl.attrs values fs
      → event_told deed fs (event_named name deed.events) ≡ Ok (W.Event event values)
  event_is_told event decl values name fs there is all =
      let distinct = passes_there (λ e. are_distinct (map (λ attr. attr.name) e.attrs)) deed.events event decl apart.attributes there in
      ap (event_told deed fs) (event_found event decl name there is)
      ∙ ap (λ o. with_values event (values_given deed (attributes_of o) fs)) there
      ∙ ap (with_values event) (values_told deed decl.attrs values fs all distinct)

  -- the tree tells this
  abbrev TellsWhat : What → WhatTree → Type 0
  TellsWhat w x = what_told deed x ≡ Ok w

  event_says : (event : ℕ) (there : Option EventDecl) (values : List Value) → slice_get deed.events event ≡ there
      → are_values_at deed there values ≡ true
      → Says what (TellsWhat (W.Event event values)) (spaced (S.Reserved K.Happens) (codes "happens") ∷ event_pieces deed there values)
  event_says event None values is told = absurd cc
  event_says event (Some decl) values is told =
      one (step (place_says (spaced (S.Reserved K.Happens) (codes "happens"))) λ _ _.
      step (token_says (bare S.Word decl.name)) λ name own.
      final (fields_say decl.attrs values told) λ fs all. event_is_told event decl values name.text fs is own all)

  exertion_says : (power : ℕ) (there : Option Position) → slice_get deed.positions power ≡ there → form_passes is_power there ≡ true
      → Says what (TellsWhat (W.Exert power)) (spaced (S.Reserved K.Exert) (codes "exert") ∷ bare S.Word (position_name there) ∷ [])
  exertion_says power None is told = absurd cc
  exertion_says power (Some p) is told =
      other (step (place_says (spaced (S.Reserved K.Exert) (codes "exert"))) λ _ _.
      final (token_says (bare S.Word p.name)) λ name own. ap exertion_told (power_found power p name.text is told own))

  what_says : (w : What) → is_what_of deed w ≡ true → Says what (TellsWhat w) (what_pieces deed w)
  what_says (W.Event event values) told = event_says event (slice_get deed.events event) values refl told
  what_says (W.Exert power) told = exertion_says power (slice_get deed.positions power) refl told

  -- ---- the line

  not_earlier : (start point : ℤ) → start ≤ℤ point → int_lt point start ≡ false
  not_earlier start point h = grind (arith, common_steps)

  abbrev from_test : ℤ → Bool → Result ℤ FaultName
  from_test point early = if early then Err TooEarly else Ok point

  point_told : (point : ℤ) (text : List ℕ) → IsDated deed.unit point → deed.start ≤ℤ point → text ≡ date_text deed.unit point
      → from_start deed.start (date_told (date_point deed.unit text)) ≡ Ok point
  point_told point text dated late is =
      ap (λ o. from_start deed.start (date_told o)) (ap (date_point deed.unit) is ∙ point_read deed.unit point dated)
      ∙ ap (from_test point) (not_earlier deed.start point late)

  pub line_says : (happening : Happening) → IsOfDeed deed happening → deed.start ≤ℤ happening.point
      → Says line (λ tree. entry_of deed tree ≡ Ok (E.Noted happening)) (line_pieces deed happening)
  line_says happening of late =
      one (step (place_says (spaced (S.Reserved K.At) (codes "at"))) λ _ _.
      step (token_says (spaced S.Date (date_text deed.unit happening.point))) λ date is.
      final (what_says happening.what of.what) λ x told.
      ap (λ w. noted w (from_start deed.start (date_told (date_point deed.unit date.text)))) told
      ∙ ap (noted (Ok happening.what)) (point_told happening.point date.text of.dated late is))
