-- The rules of lines and what reads them agree.
use Rattle.std.proofs.Common.{[], refl, arith}
use Rattle.sy_lex.specs.declared.keyword.Keyword.TheVariants as K
use Rattle.sy_lex.specs.declared.sign.Sign.TheVariants.{OpenBracket, CloseBracket}
use Rattle.sy_lex.specs.declared.token.TokenKind.TheVariants as S
use Rattle.sy_reader.proofs.Agree.{Agrees, then_any, anywhere, node_agrees, token_agrees, keyword_agrees, behind_agrees, before_agrees, begins_then, begins_as, keyword_begins, sign_begins}
use Rattle.sy_reader.proofs.AgreeChoices.{optional_agrees, either_agrees, token_case}
use Rattle.sy_reader.proofs.AgreeMany.{Without, ends_at, listed_agrees}
use Rattle.sy_binding.proofs.AgreeBindings.{field_agrees}
use Rattle.sy_log.specs.declared.tree.WhatTree.TheVariants as What
use Rattle.sy_log.specs.declared.tree.LineTree.TheVariants as Line
use Rattle.sy_log.specs.Lines.{fields, what, line}
use Rattle.sy_log.specs.Machine.ReadingLine.{fields_at, what_at, line_at}

fields_agree : Agrees fields fields_at (Without (S.Sign OpenBracket))
fields_agree = optional_agrees (S.Sign OpenBracket) [] (begins_then (sign_begins OpenBracket))
    (anywhere (behind_agrees OpenBracket (before_agrees CloseBracket (listed_agrees 0 (omega arith) (anywhere field_agrees)) (ends_at 6 (S.Sign CloseBracket) (omega arith)))))
    (λ rest f. f)

what_agrees : Agrees what what_at (Without (S.Sign OpenBracket))
unfolding what_at
what_agrees = either_agrees (S.Reserved K.Exert) (begins_as (begins_then (keyword_begins K.Happens)) refl) (begins_then (keyword_begins K.Exert))
    (then_any (keyword_agrees K.Happens) λ _. then_any (token_agrees S.Word) λ name. node_agrees (What.Happens name) fields_agree)
    (anywhere (then_any (keyword_agrees K.Exert) λ _. token_case S.Word What.Exert))

pub line_agrees : Agrees line line_at (Without (S.Sign OpenBracket))
unfolding line_at
line_agrees = either_agrees (S.Reserved K.Report) (begins_as (begins_then (keyword_begins K.At)) refl) (begins_then (keyword_begins K.Report))
    (then_any (keyword_agrees K.At) λ _. then_any (token_agrees S.Date) λ date. node_agrees (Line.At date) what_agrees)
    (anywhere (then_any (keyword_agrees K.Report) λ _. token_case S.Date Line.Report))
