-- The grammar of the lines of a log.
use Rattle.std.specs.Prelude.{ℕ, List, []}
use Rattle.sy_lex.specs.declared.keyword.Keyword.TheVariants as K
use Rattle.sy_lex.specs.declared.sign.Sign.TheVariants.{OpenBracket, CloseBracket}
use Rattle.sy_lex.specs.declared.token.Token.{Token}
use Rattle.sy_lex.specs.declared.token.TokenKind.TheVariants as S
use Rattle.sy_lex.specs.Lexemes.{lexemes_of}
use Rattle.sy_lex.specs.Tokens.{HasText}
use Rattle.sy_reader.specs.Grammar.{Rule, spelled, ◌>>=◌, ◌or◌, token, keyword, between, listed}
use Rattle.sy_binding.specs.declared.tree.FieldTree.{FieldTree}
use Rattle.sy_binding.specs.Bindings.{field}
use Rattle.sy_log.specs.declared.tree.WhatTree.{WhatTree}
use Rattle.sy_log.specs.declared.tree.WhatTree.TheVariants as What
use Rattle.sy_log.specs.declared.tree.LineTree.{LineTree}
use Rattle.sy_log.specs.declared.tree.LineTree.TheVariants as Line

-- [ "[" NAME ":=" value { "," NAME ":=" value } "]" ]
abbrev pub fields : Rule (List FieldTree)
fields = between OpenBracket (listed field) CloseBracket or spelled []

-- what = "happens" NAME [ "[" NAME ":=" value { "," NAME ":=" value } "]" ] | "exert" NAME
abbrev pub what : Rule WhatTree
what =
    (do
      _ ← keyword K.Happens
      name ← token S.Word
      fields ← fields
      spelled (What.Happens name fields))
    or (do
      _ ← keyword K.Exert
      name ← token S.Word
      spelled (What.Exert name))

-- line = "at" DATE what | "report" DATE
abbrev pub line : Rule LineTree
line =
    (do
      _ ← keyword K.At
      date ← token S.Date
      what ← what
      spelled (Line.At date what))
    or (do
      _ ← keyword K.Report
      date ← token S.Date
      spelled (Line.Report date))

-- the bytes have tokens, and these spell the tree
abbrev pub Writes : List ℕ → LineTree → Type 0
Writes bytes tree = (tokens : List Token) × HasText tokens bytes × line (lexemes_of bytes tokens) tree []

-- no token is there: nothing, or blanks and a comment
abbrev pub IsBlank : List ℕ → Type 0
IsBlank bytes = HasText [] bytes
