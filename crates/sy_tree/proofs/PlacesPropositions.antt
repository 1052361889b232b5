-- Where a text goes wrong in a proposition.
use Rattle.std.proofs.Common.{◌≡◌, inl, inr, ℕ, zero, suc, ◌+◌, ◌≤◌, ◌<◌, Bool, true, false, List, [], ◌∷◌, ◌++◌, length, None, Ok, Err, refl, sym, ap, subst, ◌∙◌, arith}
use Rattle.sy_base.specs.declared.refusal.Place.{Place}
use Rattle.sy_lex.specs.declared.keyword.Keyword.{Keyword}
use Rattle.sy_lex.specs.declared.keyword.Keyword.TheVariants as K
use Rattle.sy_lex.specs.declared.sign.Sign.TheVariants.{Comma, Open, Close}
use Rattle.sy_lex.specs.declared.token.TokenKind.TheVariants as S
use Rattle.sy_tree.specs.declared.proposition.First.{First}
use Rattle.sy_tree.specs.declared.proposition.PropTree.{PropTree}
use Rattle.sy_tree.specs.declared.proposition.PropTree.TheVariants as P
use Rattle.sy_tree.specs.declared.proposition.EventTree.{EventTree}
use Rattle.sy_tree.specs.declared.date.DateTree.{DateTree}
use Rattle.sy_lex.specs.Lexemes.{Lexeme, written}
use Rattle.sy_reader.specs.Grammar as grammar
use Rattle.sy_reader.specs.Grammar.{Rule, spelled, keyword, many, none}
use Rattle.sy_tree.specs.Propositions.{begins, constant, comparison, happens, event_and_date, dated, two_dates, happens_within, occurs, holds, atom, joined, chain, prop_of, negation, brackets, in_brackets, neg, prop}
use Rattle.sy_reader.specs.Machine.Reading as reader
use Rattle.sy_reader.specs.Machine.Reading.{Reading, is_kind, keyword_at}
use Rattle.sy_tree.specs.Terms.{term, cmp, rhs}
use Rattle.sy_tree.specs.Machine.ReadingTerms.{term_at, cmp_at, rhs_at}
use Rattle.sy_tree.specs.Machine.ReadingPropositions.{first_of, begins_at, constant_at, comparison_at, happens_at, event_and_date_at, dated_at, two_dates_at, happens_within_at, occurs_at, holds_at, atom_by, atom_at, link_at, chain_at, prop_of_at, negation_at, brackets_at, neg_by, neg_at, prop_at}
use Rattle.sy_reader.proofs.Agree.{Takes, keyword_takes, sign_takes, takes_or}
use Rattle.sy_reader.proofs.Places.{Spans, Filled, Used, Grown, left, Alike, beyond, Places, plain, grown_here, join_spans, spelled_places, then_places, node_places, keyword_places, sign_places, before_places, between_places, takes_first}
use Rattle.sy_reader.proofs.PlacesChoices.{Ways, way, ◌or◌, Spanned, by_next_places}
use Rattle.sy_reader.proofs.PlacesMany.{many_places}
use Rattle.sy_tree.proofs.AgreePropositions.{atom_covers, neg_agrees, neg_covers}
use Rattle.sy_tree.proofs.PlacesTerms.{term_places, term_takes, rhs_places, number_term, number_spans}
use Rattle.sy_tree.proofs.PlacesEvents.{cmp_places, event_places, situation_places, date_places}

-- R spells something that begins with this lexeme
pub record Starts {A : Type 0} (l : Lexeme) (R : List Lexeme → A → List Lexeme → Type 0) : Type 0 where
  pub more : List Lexeme
  pub value : A
  pub spans : (other : List Lexeme) → R ((l ∷ more) ++ other) value other

filled_of : {A : Type 0} {l : Lexeme} {R : Rule A} → Starts l R → Filled R
filled_of {l = l} s = record { more = l ∷ s.more; value = s.value; spans = s.spans }

-- the first token is only looked at
looked : (l : Lexeme) (ls : List Lexeme) → begins (l ∷ ls) (first_of l) (l ∷ ls)
looked l ls = (written l, l ∷ ls, (l, ls, refl, refl, refl), (refl, refl))

module _ {A : Type 0} {next : First → Rule A} {reading : First → Reading A} (each : (first : First) → Places (next first) (reading first)) (takes : (first : First) → Takes (next first)) where
  abbrev Whole : Rule A
  Whole = grammar.◌>>=◌ begins next

  first_spans : Spanned Whole
  first_spans from y rest (first, mid, (token, mid', (l, others, e1, e2, e3), (e4, e5)), d) =
      let stays : mid ≡ from = sym (e3 ∙ e5) in
      let d' : next first from y rest = subst (λ (ls : List Lexeme). next first ls y rest) stays d in
      let u = (each first).spans from y rest d' in
      let is_first : first ≡ first_of l = sym e4 ∙ ap (λ t. record { token = t; bracket = None }) (sym e2) in
      of l others e1 u.used u.is u.spans ((takes first).less from y rest d') is_first
    where
      of : (l : Lexeme) (others : List Lexeme) → from ≡ l ∷ others → (used : List Lexeme) → from ≡ used ++ rest → Spans (next first) used y → length rest < length from → first ≡ first_of l → Used Whole from y rest
      of l others e [] is spans less same = absurd (omega (arith, ap length is))
      of l others e (l' ∷ used) is spans less same =
          let head : l ≡ l' = cc in
          record { used = l' ∷ used; is = is; spans = λ other. (first, (l' ∷ used) ++ other, subst (λ (f : First). begins ((l' ∷ used) ++ other) f ((l' ∷ used) ++ other)) (sym (same ∙ ap first_of head)) (looked l' (used ++ other)), spans other) }

  first_starts : (l : Lexeme) → Starts l (next (first_of l)) → Starts l Whole
  first_starts l s = record { more = s.more; value = s.value; spans = λ other. (first_of l, (l ∷ s.more) ++ other, looked l (s.more ++ other), s.spans other) }

  module _ (filled : Filled Whole) where
    first_grows : (from : List Lexeme) (n : ℕ) → reader.◌>>=◌ begins_at reading from ≡ Err n → Grown Whole from n
    unfolding begins_at
    first_grows [] n e = let size : 0 ≡ n = cc in grown_here [] n size filled
    first_grows (l ∷ ls) n e = let g = (each (first_of l)).reaches.grows (l ∷ ls) n e in of g.front g.rest g.is g.size g.more g.value g.spans
      where
        of : (front rest : List Lexeme) → l ∷ ls ≡ front ++ rest → length rest ≡ n → (more : List Lexeme) (value : A) → Spans (next (first_of l)) (front ++ more) value → Grown Whole (l ∷ ls) n
        of [] rest is size more value spans = grown_here (l ∷ ls) n (ap length is ∙ size) filled
        of (l' ∷ front) rest is size more value spans =
            let head : l ≡ l' = cc in
            record {
              front = l' ∷ front;
              rest = rest;
              is = is;
              size = size;
              more = more;
              value = value;
              spans = λ other. (first_of l, ((l' ∷ front) ++ more) ++ other, subst (λ (f : First). begins (((l' ∷ front) ++ more) ++ other) f (((l' ∷ front) ++ more) ++ other)) (ap first_of (sym head)) (looked l' ((front ++ more) ++ other)), spans other);
            }

    first_within : (from : List Lexeme) → left (reader.◌>>=◌ begins_at reading from) ≤ length from
    unfolding begins_at
    first_within [] = omega arith
    first_within (l ∷ ls) = (each (first_of l)).reaches.within (l ∷ ls)

    first_local : (c a b : List Lexeme) → Alike a b (reader.◌>>=◌ begins_at reading (c ++ a)) (reader.◌>>=◌ begins_at reading (c ++ b))
    unfolding begins_at
    first_local [] a b = beyond (first_within a)
    first_local (l ∷ ls) a b = (each (first_of l)).reaches.local (l ∷ ls) a b

    first_sound : (from : List Lexeme) (y : A) (rest : List Lexeme) → reader.◌>>=◌ begins_at reading from ≡ Ok (y, rest) → Whole from y rest
    unfolding begins_at
    first_sound [] y rest e = absurd cc
    first_sound (l ∷ ls) y rest e = (first_of l, l ∷ ls, looked l ls, (each (first_of l)).reaches.sound (l ∷ ls) y rest e)

    first_places : Places Whole (reader.◌>>=◌ begins_at reading)
    first_places = record { reaches = record { sound = first_sound; grows = first_grows; within = first_within; local = first_local }; spans = first_spans; filled = filled }

-- where a text goes wrong in a rule that takes a lexeme
pub record Taking {A : Type 0} (R : List Lexeme → A → List Lexeme → Type 0) (r : List Lexeme → reader.Read A) : Type 0 where
  pub places : Places R r
  pub takes : Takes R

first_takes : {A : Type 0} {next : First → Rule A} → ((first : First) → Takes (next first)) → Takes (grammar.◌>>=◌ begins next)
first_takes each = record { less = λ from y rest d. omega (arith, (each d.0).less d.1 y rest d.3, ap length d.2.2.4, ap length d.2.3.1) }

-- what begins with a word
module _ {A : Type 0} (word : Keyword) {next : First → Place → Rule A} {reading : First → Place → Reading A} (each : (first : First) (place : Place) → Places (next first place) (reading first place)) where
  abbrev behind_word : First → Rule A
  behind_word first = grammar.◌>>=◌ (keyword word) (next first)

  behind_places_of : (first : First) → Places (behind_word first) (reader.◌>>=◌ (keyword_at word) (reading first))
  behind_places_of first = then_places (keyword_places word) (each first)

  behind_takes_of : (first : First) → Takes (behind_word first)
  behind_takes_of first = takes_first (keyword_takes word) (each first)

  word_spans : Spans (keyword word) (plain (S.Reserved word) ∷ []) (plain (S.Reserved word)).place
  word_spans other = (plain (S.Reserved word), other, (refl, refl), (refl, refl))

  word_starts : (first : First) → Starts (plain (S.Reserved word)) (behind_word first)
  word_starts first =
      let f = (each first (plain (S.Reserved word)).place).filled in
      record { more = f.more; value = f.value; spans = join_spans (keyword word) (next first) (plain (S.Reserved word) ∷ []) f.more (plain (S.Reserved word)).place f.value word_spans f.spans }

  worded_starts : Starts (plain (S.Reserved word)) (grammar.◌>>=◌ begins behind_word)
  worded_starts = first_starts behind_places_of behind_takes_of (plain (S.Reserved word)) (word_starts (first_of (plain (S.Reserved word))))

  worded : Taking (grammar.◌>>=◌ begins behind_word) (reader.◌>>=◌ begins_at λ first. reader.◌>>=◌ (keyword_at word) (reading first))
  worded = record { places = first_places behind_places_of behind_takes_of (filled_of worded_starts); takes = first_takes behind_takes_of }

constant_taking : (word : Keyword) (value : Bool) → Taking (constant word value) (constant_at word value)
unfolding constant_at
constant_taking word value = worded word λ first _. spelled_places (P.Const value first)

happens_taking : Taking happens happens_at
unfolding happens_at
happens_taking = worded K.Happens λ first _. node_places (λ event. P.Happens event first) (between_places Open Close event_places)

event_and_date_places : Places event_and_date event_and_date_at
unfolding event_and_date_at
event_and_date_places = then_places (before_places Comma event_places) λ event. node_places (λ date. (event, date)) date_places

dated_taking : (word : Keyword) (node : EventTree → DateTree → First → PropTree) → Taking (dated word node) (dated_at word node)
unfolding dated_at
dated_taking word node = worded word λ first _. node_places (λ parts. node parts.0 parts.1 first) (between_places Open Close event_and_date_places)

two_dates_places : Places two_dates two_dates_at
unfolding two_dates_at
two_dates_places = then_places (before_places Comma date_places) λ from. node_places (λ to. (from, to)) date_places

happens_within_taking : Taking happens_within happens_within_at
unfolding happens_within_at
happens_within_taking = worded K.HappensWithin λ first _. then_places (sign_places Open) λ _. then_places (before_places Comma event_places) λ event. node_places (λ dates. P.Within event dates.0 dates.1 first) (before_places Close two_dates_places)

occurs_taking : Taking occurs occurs_at
unfolding occurs_at
occurs_taking = worded K.Occurs λ first _. then_places (sign_places Open) λ _. then_places (before_places Comma situation_places) λ situation. node_places (λ dates. P.Occurs situation dates.0 dates.1 first) (before_places Close two_dates_places)

holds_taking : Taking holds holds_at
unfolding holds_at
holds_taking = worded K.Holds λ first _. node_places (λ situation. P.Holds situation first) (between_places Open Close situation_places)

-- a comparison begins with a term, as a number is one
abbrev compared : First → Rule PropTree
compared first = grammar.◌>>=◌ term λ left. grammar.◌>>=◌ cmp λ c. grammar.◌>>=◌ rhs λ right. spelled (P.Compare left c right first)

compared_places : (first : First) → Places (compared first) (reader.◌>>=◌ term_at λ left. reader.◌>>=◌ cmp_at λ c. reader.◌>>=◌ rhs_at λ right. reader.give (P.Compare left c right first))
compared_places first = then_places term_places λ left. then_places cmp_places λ c. node_places (λ right. P.Compare left c right first) rhs_places

compared_takes : (first : First) → Takes (compared first)
compared_takes first = takes_first term_takes λ left. then_places cmp_places λ c. node_places (λ right. P.Compare left c right first) rhs_places

compared_starts : (first : First) → Starts (plain S.Number) (compared first)
compared_starts first =
    let f = (then_places cmp_places λ c. node_places (λ right. P.Compare number_term c right first) rhs_places).filled in
    record { more = f.more; value = f.value; spans = join_spans term (λ left. grammar.◌>>=◌ cmp λ c. grammar.◌>>=◌ rhs λ right. spelled (P.Compare left c right first)) (plain S.Number ∷ []) f.more number_term f.value number_spans f.spans }

comparison_takes : Takes comparison
comparison_takes = first_takes compared_takes

comparison_places : Places comparison comparison_at
unfolding comparison_at
comparison_places = first_places compared_places compared_takes (filled_of (first_starts compared_places compared_takes (plain S.Number) (compared_starts (first_of (plain S.Number)))))

-- the shortest proposition is `true`
abbrev truth : Lexeme
truth = plain (S.Reserved K.True)

true_starts : Starts truth (constant K.True true)
true_starts = worded_starts K.True λ first _. spelled_places (P.Const true first)

abbrev atom_ways : Ways atom atom_by
atom_ways = way (constant_taking K.True true).places or way (constant_taking K.False false).places or way comparison_places or way happens_taking.places or way (dated_taking K.HappensBefore P.Before).places
    or way (dated_taking K.HappensAfter P.After).places or way happens_within_taking.places or way occurs_taking.places or way holds_taking.places

starts_wider : {A : Type 0} {l : Lexeme} {Q : Rule A} {R : Rule A} → ((from : List Lexeme) (x : A) (rest : List Lexeme) → Q from x rest → R from x rest) → Starts l Q → Starts l R
starts_wider {l = l} to s = record { more = s.more; value = s.value; spans = λ other. to ((l ∷ s.more) ++ other) s.value other (s.spans other) }

atom_starts : Starts truth atom
atom_starts = starts_wider (λ from x rest d. inl (inl (inl (inl (inl (inl (inl (inl d)))))))) true_starts

atom_places : Places atom atom_at
unfolding atom_at
atom_places = by_next_places atom_ways atom_covers (filled_of atom_starts)

atom_takes : Takes atom
atom_takes =
    takes_or (takes_or (takes_or (takes_or (takes_or (takes_or (takes_or (takes_or (constant_taking K.True true).takes (constant_taking K.False false).takes) comparison_takes) happens_taking.takes) (dated_taking K.HappensBefore P.Before).takes)
    (dated_taking K.HappensAfter P.After).takes) happens_within_taking.takes) occurs_taking.takes) holds_taking.takes

-- a rule whose text is read and goes wrong as it is to, takes a lexeme, and may begin with `true`
pub record Part (R : List Lexeme → PropTree → List Lexeme → Type 0) (r : List Lexeme → reader.Read PropTree) : Type 0 where
  pub places : Places R r
  pub takes : Takes R
  pub starts : Starts truth R

module _ {R : Rule PropTree} {r : Reading PropTree} (word : Keyword) (node : List PropTree → First → PropTree) (part : Part R r) where
  abbrev linked : Rule PropTree
  linked = grammar.◌>>=◌ (keyword word) λ _. R

  links_places : Places (many linked) (reader.many_at (λ kind. is_kind kind (S.Reserved word)) (link_at word r))
  links_places = many_places (λ kind. is_kind kind (S.Reserved word)) (then_places (keyword_places word) λ _. part.places) (takes_first (keyword_takes word) λ _. part.places)

  abbrev from_first : First → Rule PropTree
  from_first first = grammar.◌>>=◌ R λ one. grammar.◌>>=◌ (many linked) λ others. spelled (joined node first one others)

  chained : (first : First) → Places (from_first first) (reader.◌>>=◌ r λ one. reader.◌>>=◌ (reader.many_at (λ kind. is_kind kind (S.Reserved word)) (link_at word r)) λ others. reader.give (joined node first one others))
  chained first = then_places part.places λ one. node_places (joined node first one) links_places

  chained_takes : (first : First) → Takes (from_first first)
  chained_takes first = takes_first part.takes λ one. node_places (joined node first one) links_places

  chained_starts : (first : First) → Starts truth (from_first first)
  chained_starts first =
      let s = part.starts in
      record { more = s.more; value = joined node first s.value []; spans = λ other. (s.value, other, s.spans other, ([], other, none other, (refl, refl))) }

  chain_part : Part (chain word node R) (chain_at word node r)
  unfolding chain_at
  chain_part =
      let starts = first_starts chained chained_takes truth (chained_starts (first_of truth)) in
      record { places = first_places chained chained_takes (filled_of starts); takes = first_takes chained_takes; starts = starts }

module _ {R : Rule PropTree} {r : Reading PropTree} (deeper : Part R r) where
  prop_of_part : Part (prop_of R) (prop_of_at r)
  prop_of_part = chain_part K.Or P.Any (chain_part K.And P.All deeper)

  negation_taking : Taking (negation R) (negation_at r)
  negation_taking = worded K.Not λ first _. node_places (λ part. P.Not part first) deeper.places

  brackets_places : Places (brackets R) (brackets_at r)
  brackets_places = then_places (sign_places Open) λ place. node_places (in_brackets place) (before_places Close prop_of_part.places)

  brackets_takes : Takes (brackets R)
  brackets_takes = takes_first (sign_takes Open) λ place. node_places (in_brackets place) (before_places Close prop_of_part.places)

  abbrev neg_ways : Ways (grammar.◌or◌ (grammar.◌or◌ (negation R) (brackets R)) atom) (neg_by r)
  neg_ways = way negation_taking.places or way brackets_places or way atom_places

neg_part : (levels : ℕ) → Part (neg levels) (neg_at levels)
unfolding neg neg_at
neg_part zero = record { places = atom_places; takes = atom_takes; starts = atom_starts }
neg_part (suc levels) =
    let deeper = neg_part levels in
    let starts = starts_wider (λ from x rest d. inr d) atom_starts in
    record { places = by_next_places (neg_ways deeper) (neg_covers (neg_agrees levels)) (filled_of starts); takes = takes_or (takes_or (negation_taking deeper).takes (brackets_takes deeper)) atom_takes; starts = starts }

pub prop_places : Places prop prop_at
unfolding prop_at
prop_places = (prop_of_part (neg_part 32)).places
