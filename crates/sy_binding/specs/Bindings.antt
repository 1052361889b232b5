-- The grammar of bindings.
use Rattle.std.specs.Prelude.{true, false}
use Rattle.sy_lex.specs.declared.keyword.Keyword.TheVariants as K
use Rattle.sy_lex.specs.declared.sign.Sign.TheVariants.{Semicolon, OpenBrace, CloseBrace, Assign, Minus}
use Rattle.sy_lex.specs.declared.token.TokenKind.TheVariants as S
use Rattle.sy_binding.specs.declared.tree.BindTree.{BindTree}
use Rattle.sy_binding.specs.declared.tree.GivenTree.{GivenTree}
use Rattle.sy_binding.specs.declared.tree.BoundTree.{BoundTree}
use Rattle.sy_binding.specs.declared.tree.BoundTree.TheVariants as Bound
use Rattle.sy_binding.specs.declared.tree.FieldTree.{FieldTree}
use Rattle.sy_binding.specs.declared.tree.ValueTree.{ValueTree}
use Rattle.sy_binding.specs.declared.tree.ValueTree.TheVariants as Value
use Rattle.sy_reader.specs.Grammar.{Rule, spelled, ◌>>=◌, ◌or◌, token, keyword, sign, before, maybe_listed, ended}

-- value = NUMBER | "-" NUMBER | STR | DATE | "true" | "false" | NAME
abbrev pub value : Rule ValueTree
value =
    (token S.Number >>= λ x. spelled (Value.Number x))
    or (do
      place ← sign Minus
      number ← token S.Number
      spelled (Value.Negative place number))
    or (token S.Str >>= λ x. spelled (Value.Str x))
    or (token S.Date >>= λ x. spelled (Value.Date x))
    or (keyword K.True >>= λ place. spelled (Value.Const true place))
    or (keyword K.False >>= λ place. spelled (Value.Const false place))
    or (token S.Word >>= λ x. spelled (Value.Name x))

-- NAME ":=" value
abbrev pub field : Rule FieldTree
field = do
  name ← before (token S.Word) Assign
  value ← value
  spelled (record { name = name; value = value })

-- bound = value | "{" [ NAME ":=" value { "," NAME ":=" value } ] "}"
abbrev pub bound : Rule BoundTree
bound =
    (value >>= λ x. spelled (Bound.Value x))
    or (do
      place ← sign OpenBrace
      fields ← before (maybe_listed field) CloseBrace
      spelled (Bound.Attributes place fields))

-- NAME ":=" bound
abbrev pub given : Rule GivenTree
given = do
  name ← before (token S.Word) Assign
  bound ← bound
  spelled (record { name = name; bound = bound })

-- binding = "start" DATE ";" { NAME ":=" bound ";" }
abbrev pub binding : Rule BindTree
binding = do
  _ ← keyword K.Start
  start ← before (token S.Date) Semicolon
  parameters ← ended given
  spelled (record { start = start; parameters = parameters })
