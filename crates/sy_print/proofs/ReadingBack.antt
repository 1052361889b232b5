-- What is printed is read back.
use Rattle.std.proofs.Common.{◌≡◌, ℕ, List, Result, Ok, Err, sym, subst}
use Rattle.std.specs.Prelude.{IfOk}
use Rattle.sy_base.specs.declared.memory.Memory.{Memory}
use Rattle.sy_spec.specs.declared.contract.SpecTree.{SpecTree}
use Rattle.sy_print.specs.CanonicalText.{canonical_text}
use Rattle.sy_print.specs.ReadingBack.{IsSpelled, IsReadBack}
use Rattle.sy_lex.specs.Lexemes.{lexemes_of}
use Rattle.sy_print.proofs.PrintedWords.{bytes_of}
use Rattle.sy_print.proofs.PrintedLexes.{words_lex, tokens_are}
use Rattle.sy_print.proofs.PrintedSpelling.{printed_spells}

canonical_is_read : (tree : SpecTree) → IsSpelled tree → IsReadBack tree (canonical_text tree)
canonical_is_read tree s =
    let printed = printed_spells tree (lexemes_of s.0 s.1) (tokens_are s.0 s.1 s.2) s.3 in
    let cut = words_lex printed.0 printed.1 in
    subst (IsReadBack tree) printed.2 (cut.0, cut.1, printed.3 (lexemes_of (bytes_of printed.0) cut.0) cut.2)

pub read_back : (tree : SpecTree) (result : Result (List ℕ) Memory) → IfOk result (λ text. text ≡ canonical_text tree) → IsSpelled tree → IfOk result (IsReadBack tree)
read_back tree (Ok text) is spelled = subst (IsReadBack tree) (sym is) (canonical_is_read tree spelled)
read_back tree (Err memory) is spelled = tt
