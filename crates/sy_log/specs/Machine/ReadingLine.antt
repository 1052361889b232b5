-- How the lines of a log are read.
use Rattle.std.specs.Prelude.{Ok, if◌then◌else◌, List, []}
use Rattle.sy_lex.specs.declared.keyword.Keyword.TheVariants as K
use Rattle.sy_lex.specs.declared.sign.Sign.TheVariants.{OpenBracket, CloseBracket}
use Rattle.sy_lex.specs.declared.token.TokenKind.TheVariants as S
use Rattle.sy_reader.specs.Machine.Reading.{Reading, ◌>>=◌, give, begins_with, token_at, keyword_at, between_at, listed_at}
use Rattle.sy_binding.specs.declared.tree.FieldTree.{FieldTree}
use Rattle.sy_binding.specs.Machine.ReadingBindings.{field_at}
use Rattle.sy_log.specs.declared.tree.WhatTree.{WhatTree}
use Rattle.sy_log.specs.declared.tree.WhatTree.TheVariants as What
use Rattle.sy_log.specs.declared.tree.LineTree.{LineTree}
use Rattle.sy_log.specs.declared.tree.LineTree.TheVariants as Line

-- the values of attributes, if brackets are there
abbrev pub fields_at : Reading (List FieldTree)
fields_at lexemes =
    if begins_with (S.Sign OpenBracket) lexemes
    then between_at OpenBracket (listed_at field_at) CloseBracket lexemes
    else Ok ([], lexemes)

abbrev pub happens_at : Reading WhatTree
happens_at = do
  _ ← keyword_at K.Happens
  name ← token_at S.Word
  fields ← fields_at
  give (What.Happens name fields)

abbrev pub exert_at : Reading WhatTree
exert_at = do
  _ ← keyword_at K.Exert
  name ← token_at S.Word
  give (What.Exert name)

unfoldable pub what_at : Reading WhatTree
what_at lexemes = if begins_with (S.Reserved K.Exert) lexemes then exert_at lexemes else happens_at lexemes

abbrev pub happening_at : Reading LineTree
happening_at = do
  _ ← keyword_at K.At
  date ← token_at S.Date
  what ← what_at
  give (Line.At date what)

abbrev pub report_at : Reading LineTree
report_at = do
  _ ← keyword_at K.Report
  date ← token_at S.Date
  give (Line.Report date)

unfoldable pub line_at : Reading LineTree
line_at lexemes = if begins_with (S.Reserved K.Report) lexemes then report_at lexemes else happening_at lexemes
