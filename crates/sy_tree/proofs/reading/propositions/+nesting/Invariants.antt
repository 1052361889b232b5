use Rattle.std.proofs.Common.{◌≡◌, ◌≤◌, ◌<◌, ◌+◌, ◌*◌, ◌-◌, length}
use Rattle.sy_lex.specs.declared.keyword.Keyword.TheVariants.{And, Or}
use Rattle.sy_lex.specs.declared.token.TokenKind.TheVariants as S
use Rattle.sy_reader.specs.Machine.Reading.{and_more, while_at, is_kind}
use Rattle.sy_tree.specs.Machine.ReadingPropositions.{neg_at, conj_of_at, link_at}
use Rattle.sy_tree.proofs.reading.propositions.+nesting.Given as goal

abbrev pub decreases-neg : goal.decreases-neg
decreases-neg l = 10 * l.levels

abbrev pub decreases-negation : goal.decreases-negation
decreases-negation l = 10 * l.levels + 1

abbrev pub decreases-and_neg : goal.decreases-and_neg
decreases-and_neg l = 10 * l.levels + 1

abbrev pub decreases-more_negs : goal.decreases-more_negs
decreases-more_negs l = 10 * l.levels + 2

abbrev pub decreases-conj : goal.decreases-conj
decreases-conj l = 10 * l.levels + 3

abbrev pub decreases-or_conj : goal.decreases-or_conj
decreases-or_conj l = 10 * l.levels + 4

abbrev pub decreases-more_conjs : goal.decreases-more_conjs
decreases-more_conjs l = 10 * l.levels + 5

abbrev pub decreases-prop : goal.decreases-prop
decreases-prop l = 10 * l.levels + 6

abbrev pub decreases-brackets : goal.decreases-brackets
decreases-brackets l = 10 * l.levels + 7

abbrev pub decreases-nested : goal.decreases-nested
decreases-nested l = 10 * l.levels + 8

abbrev pub invariant-more_negs-part : goal.invariant-more_negs-part
invariant-more_negs-part l = record {
  some : 0 < length l.parts;
  fits : length l.reader + length l.parts ≤ length l.initial.reader + 1;
  read : and_more l.parts (while_at (λ kind. is_kind kind (S.Reserved And)) (link_at And (neg_at l.levels)) (length l.initial.reader + 1 - length l.parts)) l.reader
      ≡ and_more l.initial.parts (while_at (λ kind. is_kind kind (S.Reserved And)) (link_at And (neg_at l.levels)) (length l.initial.reader)) l.initial.reader;
}

abbrev pub decreases-more_negs-part : goal.decreases-more_negs-part
decreases-more_negs-part l = length l.reader

abbrev pub invariant-more_conjs-part : goal.invariant-more_conjs-part
invariant-more_conjs-part l = record {
  some : 0 < length l.parts;
  fits : length l.reader + length l.parts ≤ length l.initial.reader + 1;
  read : and_more l.parts (while_at (λ kind. is_kind kind (S.Reserved Or)) (link_at Or (conj_of_at (neg_at l.levels))) (length l.initial.reader + 1 - length l.parts)) l.reader
      ≡ and_more l.initial.parts (while_at (λ kind. is_kind kind (S.Reserved Or)) (link_at Or (conj_of_at (neg_at l.levels))) (length l.initial.reader)) l.initial.reader;
}

abbrev pub decreases-more_conjs-part : goal.decreases-more_conjs-part
decreases-more_conjs-part l = length l.reader
