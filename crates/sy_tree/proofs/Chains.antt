-- Reading parts with a word between them.
use Rattle.std.proofs.Common.{◌≡◌, ℕ, zero, suc, ◌+◌, ◌-◌, ◌≤◌, ◌<◌, Bool, true, false, List, [], ◌∷◌, ◌++◌, length, Result, Ok, Err, refl, sym, ap, ◌∙◌, arith}
use Rattle.sy_lex.specs.declared.keyword.Keyword.{Keyword}
use Rattle.sy_lex.specs.Lexemes.{Lexeme}
use Rattle.sy_tree.specs.Propositions.{joined}
use Rattle.sy_lex.specs.declared.token.TokenKind.{TokenKind}
use Rattle.sy_lex.specs.declared.token.TokenKind.TheVariants as S
use Rattle.sy_tree.specs.declared.proposition.First.{First}
use Rattle.sy_tree.specs.declared.proposition.PropTree.{PropTree}
use Rattle.sy_reader.specs.declared.fault.Fault.{Fault}
use Rattle.sy_reader.specs.declared.fault.Fault.TheVariants as F
use Rattle.sy_reader.specs.Machine.Reading.{Read, Reading, Reads, and_then, give, and_more, with_first, next_passes, while_at, many_at, is_kind, begins_with}
use Rattle.sy_tree.specs.Machine.ReadingPropositions.{first_of, begins_at, link_at, links_at, chain_at, neg_at, neg_of_at, atom_at}
use Rattle.sy_reader.proofs.Loops.{one_fails, turn_ends, while_first}

abbrev node_of : (List PropTree → First → PropTree) → First → PropTree → Read (List PropTree) → Read PropTree
node_of node first one read = and_then read (λ others. give (joined node first one others))

module _ (word : Keyword) (node : List PropTree → First → PropTree) (part : Reading PropTree) (old : List Lexeme) where
  whole : (l : Lexeme) (others : List Lexeme) → old ≡ l ∷ others → (one : PropTree) (mid : List Lexeme) → part old ≡ Ok (one, mid)
      → chain_at word node part old ≡ node_of node (first_of l) one (links_at word part mid)
  unfolding chain_at begins_at
  whole l others is one mid found =
      let found' = rw is at found in
      rw (is, found') refl

  -- no lexeme is left
  pub chain_empty : old ≡ [] → chain_at word node part old ≡ Err 0
  unfolding chain_at begins_at
  chain_empty is = rw is refl

  -- the first part can't be read
  pub chain_fails_first : (l : Lexeme) (others : List Lexeme) → old ≡ l ∷ others → (fault : Fault) (new : List Lexeme) → Reads {A = PropTree} (Err fault) old new part → Reads {A = PropTree} (Err fault) old new (chain_at word node part)
  unfolding chain_at begins_at
  chain_fails_first l others is F.Memory new failed = tt
  chain_fails_first l others is (F.Syntax left) new failed = let failed' = rw is at failed in rw (is, failed') refl

  module _ (l : Lexeme) (others : List Lexeme) (is : old ≡ l ∷ others) (one : PropTree) (mid : List Lexeme) (found : part old ≡ Ok (one, mid)) where
    -- one part alone
    pub chain_one : begins_with (S.Reserved word) mid ≡ false → chain_at word node part old ≡ Ok (one, mid)
    unfolding while_at
    chain_one stops = whole l others is one mid found ∙ alone mid stops
      where
        alone : (mid : List Lexeme) → begins_with (S.Reserved word) mid ≡ false → node_of node (first_of l) one (links_at word part mid) ≡ Ok (one, mid)
        alone [] stops = refl
        alone (m ∷ ms) stops = rw stops refl

    -- more parts
    pub chain_more : (parts : List PropTree) (rest : List Lexeme) → begins_with (S.Reserved word) mid ≡ true → and_more (one ∷ []) (links_at word part) mid ≡ Ok (parts, rest)
        → chain_at word node part old ≡ Ok (node parts (first_of l), rest)
    chain_more parts rest goes e = whole l others is one mid found ∙ several mid goes e
      where
        taken : (x : PropTree) (read : Read (List PropTree)) → and_then (with_first x read) (λ xs. give ((one ∷ []) ++ xs)) ≡ Ok (parts, rest) → node_of node (first_of l) one (with_first x read) ≡ Ok (node parts (first_of l), rest)
        taken x (Ok y) e = ap (λ (r : Read (List PropTree)). and_then r (λ xs. give (node xs (first_of l)))) e
        taken x (Err left) e = absurd cc

        behind : (read : Read PropTree) (n : ℕ) → and_then (and_then read (λ x more. with_first x (while_at (λ kind. is_kind kind (S.Reserved word)) (link_at word part) n more))) (λ xs. give ((one ∷ []) ++ xs)) ≡ Ok (parts, rest)
            → node_of node (first_of l) one (and_then read (λ x more. with_first x (while_at (λ kind. is_kind kind (S.Reserved word)) (link_at word part) n more))) ≡ Ok (node parts (first_of l), rest)
        behind (Ok y) n e = taken y.0 (while_at (λ kind. is_kind kind (S.Reserved word)) (link_at word part) n y.1) e
        behind (Err left) n e = absurd cc

        several : (mid : List Lexeme) → begins_with (S.Reserved word) mid ≡ true → and_more (one ∷ []) (links_at word part) mid ≡ Ok (parts, rest) → node_of node (first_of l) one (links_at word part mid) ≡ Ok (node parts (first_of l), rest)
        several [] goes e = absurd cc
        several (m ∷ ms) goes e =
            let first = while_first (λ kind. is_kind kind (S.Reserved word)) (link_at word part) (length ms) (m ∷ ms) goes in
            rw first (behind (link_at word part (m ∷ ms)) (length ms) (rw first at e))

    -- further parts can't be read
    pub chain_fails : (fault : Fault) (new : List Lexeme) → Reads {A = List PropTree} (Err fault) mid new (and_more (one ∷ []) (links_at word part)) → Reads {A = PropTree} (Err fault) old new (chain_at word node part)
    chain_fails F.Memory new failed = tt
    chain_fails (F.Syntax left) new failed = whole l others is one mid found ∙ lost (links_at word part mid) failed
      where
        lost : (read : Read (List PropTree)) → and_then read (λ xs. give ((one ∷ []) ++ xs)) ≡ Err left → node_of node (first_of l) one read ≡ Err left
        lost (Ok y) e = absurd cc
        lost (Err n) e = cc

-- the loops over the parts behind a word, which begin with one part
module _ (test : TokenKind → Bool) (item : Reading PropTree) (one : PropTree) (front : List PropTree) (old rest : List Lexeme) (start : List PropTree) where
  pub link_fails : (fault : Fault) (new : List Lexeme) → start ≡ one ∷ [] → next_passes test rest ≡ true → Reads {A = PropTree} (Err fault) rest new item → length rest + length front ≤ length old + 1
      → and_more front (while_at test item (length old + 1 - length front)) rest ≡ and_more start (while_at test item (length old)) old
      → Reads {A = List PropTree} (Err fault) old new (and_more (one ∷ []) (many_at test item))
  link_fails F.Memory new is passes failed fits so_far = tt
  link_fails (F.Syntax left) new is passes failed fits so_far =
      ap (λ (s : List PropTree). and_more s (while_at test item (length old)) old) (sym is) ∙ one_fails test item front (length old + 1) rest (and_more start (while_at test item (length old)) old) left passes failed fits so_far

  pub links_done : start ≡ one ∷ [] → next_passes test rest ≡ false
      → and_more front (while_at test item (length old + 1 - length front)) rest ≡ and_more start (while_at test item (length old)) old
      → and_more (one ∷ []) (many_at test item) old ≡ Ok (front, rest)
  links_done is stops so_far =
      ap (λ (s : List PropTree). and_more s (while_at test item (length old)) old) (sym is) ∙ turn_ends test item front (length old + 1 - length front) rest _ stops so_far

abbrev pub done : {A : Type 0} → A → Result A ℕ
done x = Ok x

pub deeper : (levels : ℕ) → 0 < levels → neg_at levels ≡ neg_of_at (neg_at (levels - 1))
unfolding neg_at
deeper zero some = absurd (omega arith)
deeper (suc levels) some = let e : suc levels - 1 ≡ levels = omega arith in rw e refl

pub outermost : neg_at 0 ≡ atom_at
unfolding neg_at
outermost = refl
