-- The rules of atoms and negations print, and more levels do no harm.
use Rattle.std.proofs.Common.{◌≡◌, inl, inr, ℕ, zero, suc, Bool, true, false, List, ◌++◌, refl, ap, sym, ◌∙◌, append_assoc}
use Rattle.sy_lex.specs.declared.keyword.Keyword.{Keyword}
use Rattle.sy_lex.specs.declared.keyword.Keyword.TheVariants as K
use Rattle.sy_lex.specs.declared.sign.Sign.TheVariants.{Comma, Open, Close}
use Rattle.sy_tree.specs.declared.proposition.First.{First}
use Rattle.sy_tree.specs.declared.proposition.PropTree.{PropTree}
use Rattle.sy_tree.specs.declared.proposition.PropTree.TheVariants as P
use Rattle.sy_reader.specs.Grammar.{Rule, Many, ◌>>=◌, keyword}
use Rattle.sy_tree.specs.Terms as G
use Rattle.sy_tree.specs.Propositions.{begins, constant, comparison, happens, event_and_date, dated, two_dates, happens_within, occurs, holds, atom, chain, conj_of, prop_of, negation, brackets, neg}
use Rattle.sy_print.specs.CanonicalText as T
use Rattle.sy_print.specs.CanonicalText.{Forms, forms, forms_of, alike}
use Rattle.sy_print.specs.Equality.{no_first, plain_event, plain_date, plain_prop, plain_prop_of}
use Rattle.sy_print.proofs.Prints.{Within, Prints, word_of, sign_of}
use Rattle.sy_print.proofs.PrintsRules.{Follows, first_part, next_part, word_part, all_parts, or_ok, before_ok, between_ok}
use Rattle.sy_print.proofs.PrintsFirst.{NotEmpty, not_empty_then, not_empty_or, not_empty_lexeme, beginning}
use Rattle.sy_print.proofs.PropositionFolds.{fold-const, fold-not, fold-compare, fold-happens, fold-before, fold-after, fold-within, fold-occurs, fold-holds}
use Rattle.sy_print.proofs.PrintsTerms.{term_ok, cmp_ok, rhs_ok, event_ok, situation_ok, date_ok}

-- ---- atoms

not_empty_single : NotEmpty G.single
not_empty_single =
    not_empty_or (not_empty_or (not_empty_or (not_empty_or
    (not_empty_then not_empty_lexeme) (not_empty_then not_empty_lexeme)) (not_empty_then not_empty_lexeme))
    (not_empty_then not_empty_lexeme))
    (not_empty_then (not_empty_or (not_empty_or
    (not_empty_then not_empty_lexeme) (not_empty_then not_empty_lexeme)) (not_empty_then not_empty_lexeme)))

not_empty_term : NotEmpty G.term
not_empty_term = not_empty_then (not_empty_then not_empty_single)

event_and_date_ok : Prints event_and_date (λ x. T.event_text x.0 ++ T.sign Comma ++ T.date_text x.1)
    (λ x. (plain_event x.0, plain_date x.1))
event_and_date_ok = first_part (before_ok Comma event_ok) (next_part date_ok (all_parts (λ _. refl) (λ _ _ e. e)))

two_dates_ok : Prints two_dates (λ x. T.date_text x.0 ++ T.sign Comma ++ T.date_text x.1)
    (λ x. (plain_date x.0, plain_date x.1))
two_dates_ok = first_part (before_ok Comma date_ok) (next_part date_ok (all_parts (λ _. refl) (λ _ _ e. e)))

-- a rule that begins with a reserved word
with_word : {C : Type 0} {word : Keyword} {next : First → Rule C} {text : C → List ℕ} {flat : C → C}
    → Follows next (λ _. T.keyword word) (λ _. no_first) text flat
    → Prints (begins >>= λ first. keyword word >>= λ _. next first) text flat
with_word {C} {word} more = beginning (λ _. not_empty_then not_empty_lexeme) (word_part (word_of word) more)

in_row : (k o e c f t z : List ℕ)
    → k ++ o ++ (e ++ c) ++ (f ++ c ++ t ++ z) ≡ k ++ (o ++ (e ++ c ++ f ++ c ++ t) ++ z)
in_row k o e c f t z = simp append_assoc refl

-- one of the three forms of a proposition, which are alike where it has no parts or only one
module _ (form : Forms → List ℕ) (is_form : (text : List ℕ) → form (alike text) ≡ text) where
  form_is : (x : PropTree) (text : List ℕ) → forms x ≡ alike text → text ≡ form (forms x)
  form_is x text e = sym (ap form e ∙ is_form text)

  constant_ok : (word : Keyword) (value : Bool) → T.keyword word ≡ T.truth value
      → Prints (constant word value) (λ x. form (forms x)) plain_prop
  constant_ok word value e = with_word (all_parts
      (λ first. e ∙ form_is _ _ (fold-const forms_of value first))
      (λ first other _. fold-const plain_prop_of value first ∙ sym (fold-const plain_prop_of value other)))

  comparison_ok : Prints comparison (λ x. form (forms x)) plain_prop
  comparison_ok = beginning (λ _. not_empty_then not_empty_term)
      (next_part term_ok (next_part cmp_ok (next_part rhs_ok (all_parts
      (λ x. form_is _ _ (fold-compare forms_of x.0.0.1 x.0.1 x.1 x.0.0.0))
      (λ x y e.
      fold-compare plain_prop_of x.0.0.1 x.0.1 x.1 x.0.0.0
      ∙ (λ i. P.Compare (e i).0.0.1 (e i).0.1 (e i).1 no_first)
      ∙ sym (fold-compare plain_prop_of y.0.0.1 y.0.1 y.1 y.0.0.0))))))

  happens_ok : Prints happens (λ x. form (forms x)) plain_prop
  happens_ok = with_word (next_part (between_ok Open Close event_ok) (all_parts
      (λ x. form_is _ _ (fold-happens forms_of x.1 x.0))
      (λ x y e.
      fold-happens plain_prop_of x.1 x.0 ∙ (λ i. P.Happens (e i).1 no_first)
      ∙ sym (fold-happens plain_prop_of y.1 y.0))))

  before_prop_ok : Prints (dated K.HappensBefore P.Before) (λ x. form (forms x)) plain_prop
  before_prop_ok = with_word (next_part (between_ok Open Close event_and_date_ok) (all_parts
      (λ x. form_is _ _ (fold-before forms_of x.1.0 x.1.1 x.0))
      (λ x y e.
      fold-before plain_prop_of x.1.0 x.1.1 x.0 ∙ (λ i. P.Before (e i).1.0 (e i).1.1 no_first)
      ∙ sym (fold-before plain_prop_of y.1.0 y.1.1 y.0))))

  after_prop_ok : Prints (dated K.HappensAfter P.After) (λ x. form (forms x)) plain_prop
  after_prop_ok = with_word (next_part (between_ok Open Close event_and_date_ok) (all_parts
      (λ x. form_is _ _ (fold-after forms_of x.1.0 x.1.1 x.0))
      (λ x y e.
      fold-after plain_prop_of x.1.0 x.1.1 x.0 ∙ (λ i. P.After (e i).1.0 (e i).1.1 no_first)
      ∙ sym (fold-after plain_prop_of y.1.0 y.1.1 y.0))))

  within_ok : Prints happens_within (λ x. form (forms x)) plain_prop
  within_ok = with_word (word_part (sign_of Open)
      (next_part (before_ok Comma event_ok) (next_part (before_ok Close two_dates_ok) (all_parts
      (λ x.
      in_row (T.keyword K.HappensWithin) (T.sign Open) (T.event_text x.0.1) (T.sign Comma) (T.date_text x.1.0)
      (T.date_text x.1.1) (T.sign Close)
      ∙ form_is _ _ (fold-within forms_of x.0.1 x.1.0 x.1.1 x.0.0))
      (λ x y e.
      fold-within plain_prop_of x.0.1 x.1.0 x.1.1 x.0.0
      ∙ (λ i. P.Within (e i).0.1 (e i).1.0 (e i).1.1 no_first)
      ∙ sym (fold-within plain_prop_of y.0.1 y.1.0 y.1.1 y.0.0))))))

  occurs_ok : Prints occurs (λ x. form (forms x)) plain_prop
  occurs_ok = with_word (word_part (sign_of Open)
      (next_part (before_ok Comma situation_ok) (next_part (before_ok Close two_dates_ok) (all_parts
      (λ x.
      in_row (T.keyword K.Occurs) (T.sign Open) (T.situation_text x.0.1) (T.sign Comma) (T.date_text x.1.0)
      (T.date_text x.1.1) (T.sign Close)
      ∙ form_is _ _ (fold-occurs forms_of x.0.1 x.1.0 x.1.1 x.0.0))
      (λ x y e.
      fold-occurs plain_prop_of x.0.1 x.1.0 x.1.1 x.0.0
      ∙ (λ i. P.Occurs (e i).0.1 (e i).1.0 (e i).1.1 no_first)
      ∙ sym (fold-occurs plain_prop_of y.0.1 y.1.0 y.1.1 y.0.0))))))

  holds_ok : Prints holds (λ x. form (forms x)) plain_prop
  holds_ok = with_word (next_part (between_ok Open Close situation_ok) (all_parts
      (λ x. form_is _ _ (fold-holds forms_of x.1 x.0))
      (λ x y e.
      fold-holds plain_prop_of x.1 x.0 ∙ (λ i. P.Holds (e i).1 no_first) ∙ sym (fold-holds plain_prop_of y.1 y.0))))

  pub atom_ok : Prints atom (λ x. form (forms x)) plain_prop
  atom_ok =
      or_ok (or_ok (or_ok (or_ok (or_ok (or_ok (or_ok (or_ok
      (constant_ok K.True true refl) (constant_ok K.False false refl)) comparison_ok) happens_ok) before_prop_ok)
      after_prop_ok) within_ok) occurs_ok) holds_ok

  pub negation_ok : (R : Rule PropTree) → Prints R (λ x. (forms x).in_and) plain_prop
      → Prints (negation R) (λ x. form (forms x)) plain_prop
  negation_ok R part = with_word (next_part part (all_parts
      (λ x. form_is _ _ (fold-not forms_of x.1 x.0))
      (λ x y e.
      fold-not plain_prop_of x.1 x.0 ∙ (λ i. P.Not (e i).1 no_first) ∙ sym (fold-not plain_prop_of y.1 y.0))))

-- ---- more levels

many_more : {A : Type 0} {R Q : Rule A} → Within R Q → Within (Many R) (Many Q)
many_more {A} {R} {Q} more from xs rest (Many.none end) = Many.none end
many_more {A} {R} {Q} more from xs rest (Many.more start x mid ys end d ds) =
    Many.more start x mid ys end (more start x mid d) (many_more more mid ys end ds)

chain_more : (word : Keyword) (node : List PropTree → First → PropTree) (R Q : Rule PropTree) → Within R Q
    → Within (chain word node R) (chain word node Q)
chain_more word node R Q more from x rest d =
    let next = many_more (λ from y rest a. (a.0, a.1, a.2, more a.1 y rest a.3)) d.3.1 d.3.3.0 d.3.3.1 d.3.3.2 in
    (d.0, d.1, d.2, (d.3.0, d.3.1, more d.1 d.3.0 d.3.1 d.3.2, (d.3.3.0, d.3.3.1, next, d.3.3.3)))

pub conj_more : (R Q : Rule PropTree) → Within R Q → Within (conj_of R) (conj_of Q)
conj_more R Q more = chain_more K.And P.All R Q more

pub prop_more : (R Q : Rule PropTree) → Within R Q → Within (prop_of R) (prop_of Q)
prop_more R Q more = chain_more K.Or P.Any (conj_of R) (conj_of Q) (conj_more R Q more)

negation_more : (R Q : Rule PropTree) → Within R Q → Within (negation R) (negation Q)
negation_more R Q more from x rest d =
    (d.0, d.1, d.2, (d.3.0, d.3.1, d.3.2, (d.3.3.0, d.3.3.1, more d.3.1 d.3.3.0 d.3.3.1 d.3.3.2, d.3.3.3)))

brackets_more : (R Q : Rule PropTree) → Within R Q → Within (brackets R) (brackets Q)
brackets_more R Q more from x rest d =
    let b = d.3.2 in
    (d.0, d.1, d.2, (d.3.0, d.3.1, (b.0, b.1, prop_more R Q more d.1 b.0 b.1 b.2, b.3), d.3.3))

pub neg_more : (l : ℕ) → Within (neg l) (neg (suc l))
unfolding neg
neg_more zero from x rest d = inr d
neg_more (suc l) from x rest (inl (inl d)) =
    inl (inl (negation_more (neg l) (neg (suc l)) (neg_more l) from x rest d))
neg_more (suc l) from x rest (inl (inr d)) =
    inl (inr (brackets_more (neg l) (neg (suc l)) (neg_more l) from x rest d))
neg_more (suc l) from x rest (inr d) = inr d
