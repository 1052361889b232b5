-- The rules of propositions and what reads them agree.
use Rattle.std.proofs.Common.{◌≡◌, ◌⊎◌, inl, inr, ℕ, zero, suc, ◌≤◌, ◌<◌, Bool, true, false, List, refl, sym, subst, ◌∙◌, arith}
use Rattle.sy_base.specs.declared.refusal.Place.{Place}
use Rattle.sy_lex.specs.declared.keyword.Keyword.{Keyword}
use Rattle.sy_lex.specs.declared.keyword.Keyword.TheVariants as K
use Rattle.sy_lex.specs.declared.sign.Sign.TheVariants as Sg
use Rattle.sy_lex.specs.declared.sign.Sign.TheVariants.{Comma, Open, Close}
use Rattle.sy_lex.specs.declared.token.TokenKind.{TokenKind}
use Rattle.sy_lex.specs.declared.token.TokenKind.TheVariants as S
use Rattle.sy_tree.specs.declared.proposition.First.{First}
use Rattle.sy_tree.specs.declared.proposition.PropTree.{PropTree}
use Rattle.sy_tree.specs.declared.proposition.PropTree.TheVariants as P
use Rattle.sy_tree.specs.declared.proposition.EventTree.{EventTree}
use Rattle.sy_tree.specs.declared.date.DateTree.{DateTree}
use Rattle.sy_reader.specs.Grammar as grammar
use Rattle.sy_reader.specs.Grammar.{Rule, keyword}
use Rattle.sy_tree.specs.Propositions.{begins, constant, comparison, happens, event_and_date, dated, two_dates, happens_within, occurs, holds, atom, joined, chain, prop_of, negation, brackets, in_brackets, neg, prop}
use Rattle.sy_reader.specs.Machine.Reading.{Reading, fail}
use Rattle.sy_tree.specs.Machine.ReadingPropositions.{begins_at, constant_at, comparison_at, happens_at, event_and_date_at, dated_at, two_dates_at, happens_within_at, occurs_at, holds_at, atom_by, atom_at, chain_at, prop_of_at, negation_at, brackets_at, neg_by, neg_at, prop_at}
use Rattle.sy_reader.proofs.Agree.{Agrees, Any, Next, Begins, Is, Differs, spelled_agrees, then_agrees, then_any, node_agrees, ahead_agrees, keyword_agrees, sign_agrees, behind_agrees, before_agrees, before_any, begins_then, begins_or, begins_as, begins_so, keyword_begins, sign_begins, keyword_takes, takes_then}
use Rattle.sy_reader.proofs.AgreeMany.{Ends, rank, ends_at, ends_next, loop_while, first_and_many}
use Rattle.sy_reader.proofs.AgreeChoices.{Branches, branch, case, case_at, ◌or◌, by_next_agrees}
use Rattle.sy_tree.proofs.AgreeTerms.{term_agrees, term_begins, rhs_agrees, BeginsTerm, number, minus, str, date, name}
use Rattle.sy_tree.proofs.AgreeEvents.{cmp_agrees, cmp_begins, event_agrees, situation_agrees, date_agrees}

begins_agrees : Agrees begins begins_at Any
unfolding begins_at
begins_agrees = node_agrees _ ahead_agrees

-- the first token is only looked at
first_begins : {A : Type 0} {T : TokenKind → Type 0} {next : First → Rule A} → ((first : First) → Begins (next first) T) → Begins (grammar.◌>>=◌ begins next) T
first_begins {T = T} {next = next} each = record { next = λ from y rest d. let stays : d.1 ≡ from = sym (d.2.2.4 ∙ d.2.3.1) in subst (Next T) stays ((each d.0).next d.1 y rest d.3) }

pub constant_agrees : (word : Keyword) (value : Bool) → Agrees (constant word value) (constant_at word value) Any
unfolding constant_at
constant_agrees word value = then_any begins_agrees λ first. then_any (keyword_agrees word) λ _. spelled_agrees (P.Const value first)

pub comparison_agrees : Agrees comparison comparison_at (Ends 3)
unfolding comparison_at
comparison_agrees = then_any begins_agrees λ first. then_agrees term_agrees (λ left. then_any cmp_agrees λ cmp. node_agrees (λ right. P.Compare left cmp right first) rhs_agrees) (λ left mid y rest d f. ends_next 3 mid (cmp_begins.next mid d.0 d.1 d.2))

pub happens_agrees : Agrees happens happens_at Any
unfolding happens_at
happens_agrees = then_any begins_agrees λ first. then_any (keyword_agrees K.Happens) λ _. node_agrees (λ event. P.Happens event first) (behind_agrees Open (before_agrees Close event_agrees (ends_at 1 (S.Sign Close) (omega arith))))

event_and_date_agrees : Agrees event_and_date event_and_date_at (Ends 3)
unfolding event_and_date_at
event_and_date_agrees = then_any (before_agrees Comma event_agrees (ends_at 1 (S.Sign Comma) (omega arith))) λ event. node_agrees (λ date. (event, date)) date_agrees

pub dated_agrees : (word : Keyword) (node : EventTree → DateTree → First → PropTree) → Agrees (dated word node) (dated_at word node) Any
unfolding dated_at
dated_agrees word node = then_any begins_agrees λ first. then_any (keyword_agrees word) λ _. node_agrees (λ parts. node parts.0 parts.1 first) (behind_agrees Open (before_agrees Close event_and_date_agrees (ends_at 3 (S.Sign Close) (omega arith))))

two_dates_agree : Agrees two_dates two_dates_at (Ends 3)
unfolding two_dates_at
two_dates_agree = then_any (before_agrees Comma date_agrees (ends_at 3 (S.Sign Comma) (omega arith))) λ from. node_agrees (λ to. (from, to)) date_agrees

pub happens_within_agrees : Agrees happens_within happens_within_at Any
unfolding happens_within_at
happens_within_agrees = then_any begins_agrees λ first. then_any (keyword_agrees K.HappensWithin) λ _. then_any (sign_agrees Open) λ _. then_any (before_agrees Comma event_agrees (ends_at 1 (S.Sign Comma) (omega arith))) λ event.
    node_agrees (λ dates. P.Within event dates.0 dates.1 first) (before_agrees Close two_dates_agree (ends_at 3 (S.Sign Close) (omega arith)))

pub occurs_agrees : Agrees occurs occurs_at Any
unfolding occurs_at
occurs_agrees = then_any begins_agrees λ first. then_any (keyword_agrees K.Occurs) λ _. then_any (sign_agrees Open) λ _. then_any (before_any Comma situation_agrees) λ situation.
    node_agrees (λ dates. P.Occurs situation dates.0 dates.1 first) (before_agrees Close two_dates_agree (ends_at 3 (S.Sign Close) (omega arith)))

pub holds_agrees : Agrees holds holds_at Any
unfolding holds_at
holds_agrees = then_any begins_agrees λ first. then_any (keyword_agrees K.Holds) λ _. node_agrees (λ situation. P.Holds situation first) (behind_agrees Open (before_any Close situation_agrees))

-- a kind with which a proposition may begin: no word that heads or ends a part of a file, and none that may stand in the
-- place of a trigger
abbrev pub in_line : TokenKind → Bool
in_line (S.Reserved K.O) = false
in_line (S.Reserved K.P) = false
in_line (S.Reserved K.EndDomain) = false
in_line (S.Reserved K.Declarations) = false
in_line (S.Reserved K.Preconditions) = false
in_line (S.Reserved K.Postconditions) = false
in_line (S.Reserved K.Obligations) = false
in_line (S.Reserved K.Surviving) = false
in_line (S.Reserved K.Powers) = false
in_line (S.Reserved K.Constraints) = false
in_line (S.Reserved K.EndContract) = false
in_line kind = true

-- what an atom begins with
abbrev pub OfAtom : TokenKind → Type 0
OfAtom kind = (in_line kind ≡ true) × Differs (S.Reserved K.Not) kind × Differs (S.Sign Open) kind

term_in_line : (s : TokenKind) → BeginsTerm s → OfAtom s
term_in_line s number = (refl, refl, refl)
term_in_line s minus = (refl, refl, refl)
term_in_line s str = (refl, refl, refl)
term_in_line s date = (refl, refl, refl)
term_in_line s name = (refl, refl, refl)

pub comparison_begins : Begins comparison BeginsTerm
comparison_begins = first_begins λ first. begins_then term_begins

pub worded_begins : (word : Keyword) {next : First → Place → Rule PropTree} → Begins (grammar.◌>>=◌ begins λ first. grammar.◌>>=◌ (keyword word) λ place. next first place) (Is (S.Reserved word))
worded_begins word = first_begins λ first. begins_then (keyword_begins word)

pub atom_of_term : (s : TokenKind) → BeginsTerm s → atom_by s ≡ comparison_at
atom_of_term s number = refl
atom_of_term s minus = refl
atom_of_term s str = refl
atom_of_term s date = refl
atom_of_term s name = refl

abbrev pub atom_branches : Branches atom atom_by (Ends 3)
atom_branches =
    case (worded_begins K.True) (constant_agrees K.True true) or case (worded_begins K.False) (constant_agrees K.False false) or branch comparison_begins atom_of_term comparison_agrees
    or case (worded_begins K.Happens) happens_agrees or case (worded_begins K.HappensBefore) (dated_agrees K.HappensBefore P.Before) or case (worded_begins K.HappensAfter) (dated_agrees K.HappensAfter P.After)
    or case (worded_begins K.HappensWithin) happens_within_agrees or case (worded_begins K.Occurs) occurs_agrees or case (worded_begins K.Holds) holds_agrees

pub atom_covers : (s : TokenKind) → atom_branches.Here s ⊎ (atom_by s ≡ fail)
atom_covers (S.Reserved K.True) = inl (inl (inl (inl (inl (inl (inl (inl (inl refl))))))))
atom_covers (S.Reserved K.False) = inl (inl (inl (inl (inl (inl (inl (inl (inr refl))))))))
atom_covers (S.Reserved K.Happens) = inl (inl (inl (inl (inl (inl (inr refl))))))
atom_covers (S.Reserved K.HappensBefore) = inl (inl (inl (inl (inl (inr refl)))))
atom_covers (S.Reserved K.HappensAfter) = inl (inl (inl (inl (inr refl))))
atom_covers (S.Reserved K.HappensWithin) = inl (inl (inl (inr refl)))
atom_covers (S.Reserved K.Occurs) = inl (inl (inr refl))
atom_covers (S.Reserved K.Holds) = inl (inr refl)
atom_covers s = inl (inl (inl (inl (inl (inl (inl (inr refl)))))))

pub atom_agrees : Agrees atom atom_at (Ends 3)
unfolding atom_at
atom_agrees = by_next_agrees atom_branches atom_covers

pub atom_begins : Begins atom OfAtom
atom_begins =
    begins_or (begins_or (begins_or (begins_or (begins_or (begins_or (begins_or (begins_or
    (begins_as (worded_begins K.True) (refl, refl, refl)) (begins_as (worded_begins K.False) (refl, refl, refl))) (begins_so comparison_begins term_in_line))
    (begins_as (worded_begins K.Happens) (refl, refl, refl))) (begins_as (worded_begins K.HappensBefore) (refl, refl, refl))) (begins_as (worded_begins K.HappensAfter) (refl, refl, refl)))
    (begins_as (worded_begins K.HappensWithin) (refl, refl, refl))) (begins_as (worded_begins K.Occurs) (refl, refl, refl))) (begins_as (worded_begins K.Holds) (refl, refl, refl))

chain_agrees : {R : Rule PropTree} {r : Reading PropTree} (j k : ℕ) (word : Keyword) (node : List PropTree → First → PropTree) → j < rank (S.Reserved word) → rank (S.Reserved word) ≤ k → Agrees R r (Ends j)
    → Agrees (chain word node R) (chain_at word node r) (Ends k)
unfolding chain_at
chain_agrees j k word node above under one = then_any begins_agrees λ first. first_and_many (joined node first) one
    (loop_while j k (S.Reserved word) above under (then_any (keyword_agrees word) λ _. one) (takes_then (keyword_takes word) λ _. one) (begins_then (keyword_begins word)))

module _ {R : Rule PropTree} {r : Reading PropTree} (deeper : Agrees R r (Ends 3)) where
  prop_of_agrees : Agrees (prop_of R) (prop_of_at r) (Ends 5)
  prop_of_agrees = chain_agrees 4 5 K.Or P.Any (omega arith) (omega arith) (chain_agrees 3 4 K.And P.All (omega arith) (omega arith) deeper)

  pub negation_agrees : Agrees (negation R) (negation_at r) (Ends 3)
  negation_agrees = then_any begins_agrees λ first. then_any (keyword_agrees K.Not) λ _. node_agrees (λ part. P.Not part first) deeper

  pub brackets_agree : Agrees (brackets R) (brackets_at r) Any
  brackets_agree = then_any (sign_agrees Open) λ place. node_agrees (in_brackets place) (before_agrees Close prop_of_agrees (ends_at 5 (S.Sign Close) (omega arith)))

pub neg_of_atom : (deeper : Reading PropTree) (s : TokenKind) → OfAtom s → neg_by deeper s ≡ atom_at
neg_of_atom deeper (S.Reserved K.Not) of = let e = of.1 in absurd cc
neg_of_atom deeper (S.Sign Sg.Open) of = let e = of.2 in absurd cc
neg_of_atom deeper s of = refl

module _ {R : Rule PropTree} {r : Reading PropTree} (deeper : Agrees R r (Ends 3)) where
  abbrev pub neg_branches : Branches (grammar.◌or◌ (grammar.◌or◌ (negation R) (brackets R)) atom) (neg_by r) (Ends 3)
  neg_branches = case_at (worded_begins K.Not) (negation_agrees deeper) or case (begins_then (sign_begins Open)) (brackets_agree deeper) or branch atom_begins (neg_of_atom r) atom_agrees

  pub neg_covers : (s : TokenKind) → neg_branches.Here s ⊎ (neg_by r s ≡ fail)
  neg_covers (S.Reserved K.Not) = inl (inl (inl refl))
  neg_covers (S.Sign Sg.Open) = inl (inl (inr refl))
  neg_covers s = inl (inr refl)

pub neg_agrees : (levels : ℕ) → Agrees (neg levels) (neg_at levels) (Ends 3)
unfolding neg neg_at
neg_agrees zero = atom_agrees
neg_agrees (suc levels) = by_next_agrees (neg_branches (neg_agrees levels)) (neg_covers (neg_agrees levels))

neg_begins : (levels : ℕ) → Begins (neg levels) (λ s. in_line s ≡ true)
unfolding neg
neg_begins zero = begins_so atom_begins (λ s of. of.0)
neg_begins (suc levels) = begins_or (begins_or (begins_as (worded_begins K.Not) refl) (begins_as (begins_then (sign_begins Open)) refl)) (begins_so atom_begins (λ s of. of.0))

pub prop_agrees : Agrees prop prop_at (Ends 5)
unfolding prop_at
prop_agrees = prop_of_agrees (neg_agrees 32)

pub prop_begins : Begins prop (λ s. in_line s ≡ true)
prop_begins = first_begins λ first. begins_then (first_begins λ first'. begins_then (neg_begins 32))
