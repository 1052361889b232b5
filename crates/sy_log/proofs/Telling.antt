-- A line says one thing at most, and what its tokens give is that.
use Rattle.std.proofs.Common.{◌≡◌, ℕ, List, [], ◌∷◌, Result, Ok, Err, refl, ap, subst}
use Rattle.sy_base.specs.declared.refusal.FaultName.{FaultName}
use Rattle.sy_base.specs.declared.refusal.FaultName.TheVariants.{BadToken}
use Rattle.sy_lex.specs.declared.token.Token.{Token}
use Rattle.sy_lex.specs.Lexemes.{lexemes_of}
use Rattle.sy_lex.specs.Tokens.{HasText}
use Rattle.sy_lex.proofs.Whole.{at_most_one}
use Rattle.sy_reader.specs.Machine.Reading.{whole_at}
use Rattle.sy_core.specs.declared.deed.Deed.{Deed}
use Rattle.sy_log.specs.declared.fault.LineFault.{LineFault}
use Rattle.sy_log.specs.declared.fault.LineFault.TheVariants as F
use Rattle.sy_log.specs.declared.read.Entry.{Entry}
use Rattle.sy_log.specs.declared.tree.LineTree.{LineTree}
use Rattle.sy_log.specs.Lines.{IsBlank, Writes}
use Rattle.sy_log.specs.Entries as e
use Rattle.sy_log.specs.Entries.{IsEntry, entry_of}
use Rattle.sy_log.specs.Machine.Answering.{IsTold, Tells, entry_of_tokens, entry_read, tree_read}
use Rattle.sy_log.specs.Machine.ReadingLine.{line_at}
use Rattle.sy_log.proofs.Agreeing.{line_is_read, one_line, read_is_line}

-- no line has no tokens
not_both : (bytes : List ℕ) (tree : LineTree) → IsBlank bytes → Writes bytes tree → ⊥
unfolding line_at
not_both bytes tree nothing writes =
    let none = at_most_one writes.0 [] bytes writes.1 nothing in
    let read : whole_at line_at [] ≡ Ok tree =
    subst (λ (tokens : List Token). whole_at line_at (lexemes_of bytes tokens) ≡ Ok tree) none
    (line_is_read tree (lexemes_of bytes writes.0) writes.2) in
    absurd cc

one_tree : (bytes : List ℕ) (tree other : LineTree) → Writes bytes tree → Writes bytes other → tree ≡ other
one_tree bytes tree other writes writes' =
    let same = at_most_one writes.0 writes'.0 bytes writes.1 writes'.1 in
    let read : whole_at line_at (lexemes_of bytes writes'.0) ≡ Ok tree =
    subst (λ (tokens : List Token). whole_at line_at (lexemes_of bytes tokens) ≡ Ok tree) same
    (line_is_read tree (lexemes_of bytes writes.0) writes.2) in
    one_line tree other (lexemes_of bytes writes'.0) (read_is_line tree (lexemes_of bytes writes'.0) read) writes'.2

module _ (deed : Deed) (bytes : List ℕ) where
  pub one_entry : (entry other : Result Entry FaultName) → IsEntry deed bytes entry → IsEntry deed bytes other → entry ≡ other
  one_entry entry other (e.blank b) (e.blank b') = refl
  one_entry entry other (e.blank b) (e.written tree w) = absurd (not_both bytes tree b w)
  one_entry entry other (e.blank b) (e.neither filled none) = absurd (filled b)
  one_entry entry other (e.written tree w) (e.blank b) = absurd (not_both bytes tree b w)
  one_entry entry other (e.written tree w) (e.written tree' w') = ap (entry_of deed) (one_tree bytes tree tree' w w')
  one_entry entry other (e.written tree w) (e.neither filled none) = absurd (none tree w)
  one_entry entry other (e.neither filled none) (e.blank b) = absurd (filled b)
  one_entry entry other (e.neither filled none) (e.written tree w) = absurd (none tree w)
  one_entry entry other (e.neither filled none) (e.neither filled' none') = refl

  -- bytes without tokens
  pub no_entry : ((tokens : List Token) → HasText tokens bytes → ⊥) → IsEntry deed bytes (Err BadToken)
  no_entry none = e.neither (λ b. none [] b) (λ tree writes. none writes.0 writes.1)

  by_read : (token : Token) (tokens : List Token) → HasText (token ∷ tokens) bytes → (read : Result LineTree ℕ)
      → whole_at line_at (lexemes_of bytes (token ∷ tokens)) ≡ read → IsEntry deed bytes (entry_read deed (tree_read read))
  by_read token tokens text (Ok tree) is =
      e.written tree (token ∷ tokens, text, read_is_line tree (lexemes_of bytes (token ∷ tokens)) is)
  by_read token tokens text (Err left) is = e.neither
      (λ b. let none : [] ≡ token ∷ tokens = at_most_one [] (token ∷ tokens) bytes b text in absurd cc)
      (λ tree writes.
      let same = at_most_one writes.0 (token ∷ tokens) bytes writes.1 text in
      let read : whole_at line_at (lexemes_of bytes (token ∷ tokens)) ≡ Ok tree =
      subst (λ (others : List Token). whole_at line_at (lexemes_of bytes others) ≡ Ok tree) same
      (line_is_read tree (lexemes_of bytes writes.0) writes.2) in
      absurd cc)

  -- what its tokens give
  pub is_entry : (tokens : List Token) → HasText tokens bytes → IsEntry deed bytes (entry_of_tokens deed bytes tokens)
  is_entry [] text = e.blank text
  is_entry (token ∷ tokens) text = by_read token tokens text (whole_at line_at (lexemes_of bytes (token ∷ tokens))) refl

  pub told_as : (told : Result Entry FaultName) (result : Result Entry LineFault) → IsEntry deed bytes told → Tells result told
      → IsTold deed bytes result
  told_as told (Ok entry) is same = subst (IsEntry deed bytes) same is
  told_as told (Err F.Memory) is same = tt
  told_as told (Err (F.Fault name)) is same = subst (IsEntry deed bytes) same is
