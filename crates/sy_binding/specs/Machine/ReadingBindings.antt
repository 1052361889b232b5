-- How bindings are read.
use Rattle.std.specs.Prelude.{true, false, if◌then◌else◌}
use Rattle.sy_lex.specs.declared.keyword.Keyword.TheVariants as K
use Rattle.sy_lex.specs.declared.sign.Sign.TheVariants as Sg
use Rattle.sy_lex.specs.declared.sign.Sign.TheVariants.{Semicolon, OpenBrace, CloseBrace, Assign, Minus}
use Rattle.sy_lex.specs.declared.token.TokenKind.{TokenKind}
use Rattle.sy_lex.specs.declared.token.TokenKind.TheVariants as S
use Rattle.sy_binding.specs.declared.tree.BindTree.{BindTree}
use Rattle.sy_binding.specs.declared.tree.GivenTree.{GivenTree}
use Rattle.sy_binding.specs.declared.tree.BoundTree.{BoundTree}
use Rattle.sy_binding.specs.declared.tree.BoundTree.TheVariants as Bound
use Rattle.sy_binding.specs.declared.tree.FieldTree.{FieldTree}
use Rattle.sy_binding.specs.declared.tree.ValueTree.{ValueTree}
use Rattle.sy_binding.specs.declared.tree.ValueTree.TheVariants as Value
use Rattle.sy_reader.specs.Machine.Reading.{Reading, ◌>>=◌, give, begins_with, token_at, keyword_at, sign_at, by_next, before_at, maybe_listed_at}
use Rattle.sy_reader.specs.Machine.ReadingLines.{ended_at, no_heading}

abbrev pub negative_value_at : Reading ValueTree
negative_value_at = do
  place ← sign_at Minus
  number ← token_at S.Number
  give (Value.Negative place number)

abbrev pub value_by : TokenKind → Reading ValueTree
value_by S.Number = token_at S.Number >>= λ x. give (Value.Number x)
value_by (S.Sign Sg.Minus) = negative_value_at
value_by S.Str = token_at S.Str >>= λ x. give (Value.Str x)
value_by S.Date = token_at S.Date >>= λ x. give (Value.Date x)
value_by (S.Reserved K.True) = keyword_at K.True >>= λ place. give (Value.Const true place)
value_by (S.Reserved K.False) = keyword_at K.False >>= λ place. give (Value.Const false place)
value_by kind = token_at S.Word >>= λ x. give (Value.Name x)

unfoldable pub value_at : Reading ValueTree
value_at = by_next value_by

unfoldable pub field_at : Reading FieldTree
field_at = do
  name ← before_at (token_at S.Word) Assign
  value ← value_at
  give (record { name = name; value = value })

abbrev pub attributes_at : Reading BoundTree
attributes_at = do
  place ← sign_at OpenBrace
  fields ← before_at (maybe_listed_at CloseBrace field_at) CloseBrace
  give (Bound.Attributes place fields)

unfoldable pub bound_at : Reading BoundTree
bound_at lexemes =
    if begins_with (S.Sign OpenBrace) lexemes
    then attributes_at lexemes
    else (value_at >>= λ x. give (Bound.Value x)) lexemes

unfoldable pub given_at : Reading GivenTree
given_at = do
  name ← before_at (token_at S.Word) Assign
  bound ← bound_at
  give (record { name = name; bound = bound })

unfoldable pub binding_at : Reading BindTree
binding_at = do
  _ ← keyword_at K.Start
  start ← before_at (token_at S.Date) Semicolon
  parameters ← ended_at no_heading given_at
  give (record { start = start; parameters = parameters })
