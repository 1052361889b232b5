-- The canonical text of a tree that is spelled is a text of words, and lexemes like these words spell an equal tree.
use Rattle.std.proofs.Common.{◌≡◌, List, []}
use Rattle.sy_spec.specs.declared.contract.SpecTree.{SpecTree}
use Rattle.sy_lex.specs.Lexemes.{Lexeme}
use Rattle.sy_spec.specs.Spelling.{SpellsSpec}
use Rattle.sy_print.specs.CanonicalText.{canonical_text}
use Rattle.sy_print.specs.Equality.{SameSpec}
use Rattle.sy_print.proofs.PrintedWords.{Word, bytes_of, AreWords, AreTokens, Alike}
use Rattle.sy_print.proofs.Prints.{reads_alike}
use Rattle.sy_print.proofs.PrintsSpecifications.{spec_ok}

pub printed_spells : (tree : SpecTree) (lexemes : List Lexeme) → AreTokens lexemes → SpellsSpec tree lexemes
    → (ws : List Word) × AreWords ws × (bytes_of ws ≡ canonical_text tree)
    × ((ls : List Lexeme) → Alike ls ws → (other : SpecTree) × SpellsSpec other ls × SameSpec other tree)
printed_spells tree lexemes tokens d =
    let p = (spec_ok.at lexemes tree [] tokens d).0 in
    (p.words, p.are.words, p.are.bytes, λ ls a. p.says.tree ls [] (reads_alike ls p.words a))
