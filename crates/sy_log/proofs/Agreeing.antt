-- What reading finds in all lexemes is the line that they spell, and they spell one at most.
use Rattle.std.proofs.Common.{◌≡◌, List, [], Ok, refl}
use Rattle.sy_lex.specs.Lexemes.{Lexeme}
use Rattle.sy_reader.specs.Machine.Reading.{whole_at}
use Rattle.sy_reader.proofs.Agreeing.{whole_read, whole_spelled, whole_one}
use Rattle.sy_log.specs.declared.tree.LineTree.{LineTree}
use Rattle.sy_log.specs.Lines.{line}
use Rattle.sy_log.specs.Machine.ReadingLine.{line_at}
use Rattle.sy_log.proofs.AgreeLines.{line_agrees}

pub line_is_read : (tree : LineTree) (lexemes : List Lexeme) → line lexemes tree [] → whole_at line_at lexemes ≡ Ok tree
line_is_read = whole_read line_agrees refl

pub read_is_line : (tree : LineTree) (lexemes : List Lexeme) → whole_at line_at lexemes ≡ Ok tree → line lexemes tree []
read_is_line = whole_spelled line_agrees refl

pub one_line : (t u : LineTree) (lexemes : List Lexeme) → line lexemes t [] → line lexemes u [] → t ≡ u
one_line = whole_one line_agrees refl
