-- How propositions are read.
use Rattle.std.specs.Prelude.{ℕ, zero, suc, Bool, true, false, List, None}
use Rattle.sy_lex.specs.declared.keyword.Keyword.{Keyword}
use Rattle.sy_lex.specs.declared.keyword.Keyword.TheVariants as K
use Rattle.sy_lex.specs.declared.sign.Sign.TheVariants as Sg
use Rattle.sy_lex.specs.declared.sign.Sign.TheVariants.{Comma, Open, Close}
use Rattle.sy_lex.specs.declared.token.TokenKind.{TokenKind}
use Rattle.sy_lex.specs.declared.token.TokenKind.TheVariants as S
use Rattle.sy_lex.specs.Lexemes.{Lexeme, written}
use Rattle.sy_tree.specs.declared.proposition.First.{First}
use Rattle.sy_tree.specs.declared.proposition.PropTree.{PropTree}
use Rattle.sy_tree.specs.declared.proposition.PropTree.TheVariants as P
use Rattle.sy_tree.specs.declared.proposition.EventTree.{EventTree}
use Rattle.sy_tree.specs.declared.date.DateTree.{DateTree}
use Rattle.sy_tree.specs.Propositions.{in_brackets, joined}
use Rattle.sy_reader.specs.Machine.Reading.{Reading, ◌>>=◌, give, ahead_at, keyword_at, sign_at, by_next, is_kind, many_at, before_at, between_at}
use Rattle.sy_tree.specs.Machine.ReadingTerms.{term_at, cmp_at, rhs_at, event_at, situation_at, date_at}

-- a lexeme as the first token of a proposition without brackets
abbrev pub first_of : Lexeme → First
first_of l = record { token = written l; bracket = None }

unfoldable pub begins_at : Reading First
begins_at = do
  token ← ahead_at
  give (record { token = token; bracket = None })

unfoldable pub constant_at : Keyword → Bool → Reading PropTree
constant_at word value = do
  first ← begins_at
  _ ← keyword_at word
  give (P.Const value first)

unfoldable pub comparison_at : Reading PropTree
comparison_at = do
  first ← begins_at
  left ← term_at
  cmp ← cmp_at
  right ← rhs_at
  give (P.Compare left cmp right first)

unfoldable pub happens_at : Reading PropTree
happens_at = do
  first ← begins_at
  _ ← keyword_at K.Happens
  event ← between_at Open event_at Close
  give (P.Happens event first)

unfoldable pub event_and_date_at : Reading (EventTree × DateTree)
event_and_date_at = do
  event ← before_at event_at Comma
  date ← date_at
  give (event, date)

unfoldable pub dated_at : Keyword → (EventTree → DateTree → First → PropTree) → Reading PropTree
dated_at word node = do
  first ← begins_at
  _ ← keyword_at word
  parts ← between_at Open event_and_date_at Close
  give (node parts.0 parts.1 first)

unfoldable pub two_dates_at : Reading (DateTree × DateTree)
two_dates_at = do
  from ← before_at date_at Comma
  to ← date_at
  give (from, to)

unfoldable pub happens_within_at : Reading PropTree
happens_within_at = do
  first ← begins_at
  _ ← keyword_at K.HappensWithin
  _ ← sign_at Open
  event ← before_at event_at Comma
  dates ← before_at two_dates_at Close
  give (P.Within event dates.0 dates.1 first)

unfoldable pub occurs_at : Reading PropTree
occurs_at = do
  first ← begins_at
  _ ← keyword_at K.Occurs
  _ ← sign_at Open
  situation ← before_at situation_at Comma
  dates ← before_at two_dates_at Close
  give (P.Occurs situation dates.0 dates.1 first)

unfoldable pub holds_at : Reading PropTree
holds_at = do
  first ← begins_at
  _ ← keyword_at K.Holds
  situation ← between_at Open situation_at Close
  give (P.Holds situation first)

abbrev pub atom_by : TokenKind → Reading PropTree
atom_by (S.Reserved K.True) = constant_at K.True true
atom_by (S.Reserved K.False) = constant_at K.False false
atom_by (S.Reserved K.Happens) = happens_at
atom_by (S.Reserved K.HappensBefore) = dated_at K.HappensBefore P.Before
atom_by (S.Reserved K.HappensAfter) = dated_at K.HappensAfter P.After
atom_by (S.Reserved K.HappensWithin) = happens_within_at
atom_by (S.Reserved K.Occurs) = occurs_at
atom_by (S.Reserved K.Holds) = holds_at
atom_by kind = comparison_at

unfoldable pub atom_at : Reading PropTree
atom_at = by_next atom_by

-- a word, and what stands behind it
abbrev pub link_at : Keyword → Reading PropTree → Reading PropTree
link_at word part = keyword_at word >>= λ _. part

-- what stands behind each word
abbrev pub links_at : Keyword → Reading PropTree → Reading (List PropTree)
links_at word part = many_at (λ kind. is_kind kind (S.Reserved word)) (link_at word part)

unfoldable pub chain_at : Keyword → (List PropTree → First → PropTree) → Reading PropTree → Reading PropTree
chain_at word node part = do
  first ← begins_at
  one ← part
  others ← links_at word part
  give (joined node first one others)

abbrev pub conj_of_at : Reading PropTree → Reading PropTree
conj_of_at neg = chain_at K.And P.All neg

abbrev pub prop_of_at : Reading PropTree → Reading PropTree
prop_of_at neg = chain_at K.Or P.Any (conj_of_at neg)

abbrev pub negation_at : Reading PropTree → Reading PropTree
negation_at neg = do
  first ← begins_at
  _ ← keyword_at K.Not
  part ← neg
  give (P.Not part first)

abbrev pub brackets_at : Reading PropTree → Reading PropTree
brackets_at neg = do
  place ← sign_at Open
  inside ← before_at (prop_of_at neg) Close
  give (in_brackets place inside)

abbrev pub neg_by : Reading PropTree → TokenKind → Reading PropTree
neg_by deeper (S.Reserved K.Not) = negation_at deeper
neg_by deeper (S.Sign Sg.Open) = brackets_at deeper
neg_by deeper kind = atom_at

abbrev pub neg_of_at : Reading PropTree → Reading PropTree
neg_of_at deeper = by_next (neg_by deeper)

unfoldable pub neg_at : ℕ → Reading PropTree
neg_at zero = atom_at
neg_at (suc levels) = neg_of_at (neg_at levels)

unfoldable pub prop_at : Reading PropTree
prop_at = prop_of_at (neg_at 32)
