-- The rules of terms, events, situations and dates print.
use Rattle.std.proofs.Common.{◌≡◌, inl, inr, ℕ, List, [], ◌∷◌, ◌++◌, map, refl, ap, sym, ◌∙◌, append_assoc, subst, if◌then◌else◌, true, false, append-nil}
use Rattle.sy_base.specs.declared.refusal.Place.{Place}
use Rattle.sy_words.specs.declared.comparison.Cmp.{Cmp}
use Rattle.sy_words.specs.declared.comparison.Cmp.TheVariants as C
use Rattle.sy_words.specs.declared.kind.Kind.{Kind}
use Rattle.sy_lex.specs.declared.keyword.Keyword.TheVariants as K
use Rattle.sy_lex.specs.declared.sign.Sign.{Sign}
use Rattle.sy_lex.specs.declared.sign.Sign.TheVariants.{Dot, Open, Close, OpenBracket, CloseBracket, Equal, NotEqual, Less, AtMost, Greater, AtLeast, Plus, Minus, Times}
use Rattle.sy_lex.specs.declared.token.TokenKind.TheVariants as S
use Rattle.sy_tree.specs.declared.target.TargetTree.TheVariants as Target
use Rattle.sy_tree.specs.declared.term.RhsTree.TheVariants as Rhs
use Rattle.sy_tree.specs.declared.term.SumTree.TheVariants as Sum
use Rattle.sy_tree.specs.declared.term.SingleTree.TheVariants as Single
use Rattle.sy_tree.specs.declared.term.PathTree.TheVariants as Path
use Rattle.sy_tree.specs.declared.date.MomentTree.TheVariants as Moment
use Rattle.sy_tree.specs.declared.date.CountTree.TheVariants as Count
use Rattle.sy_tree.specs.declared.date.MeasureTree.{MeasureTree}
use Rattle.sy_tree.specs.declared.proposition.GuardTree.{GuardTree}
use Rattle.sy_tree.specs.declared.proposition.CmpTree.{CmpTree}
use Rattle.sy_tree.specs.declared.proposition.EventTree.TheVariants as Event
use Rattle.sy_lex.specs.Keywords.{keyword_text, plural_keyword}
use Rattle.sy_lex.specs.Lexemes.{Lexeme, written}
use Rattle.sy_print.proofs.PrintedWords.{AreTokens}
use Rattle.sy_reader.specs.Grammar.{spelled, ◌>>=◌, ◌or◌, sign, listed, between, token}
use Rattle.sy_tree.specs.Terms as G
use Rattle.sy_print.specs.CanonicalText as T
use Rattle.sy_print.specs.Equality as E
use Rattle.sy_print.proofs.Prints.{Prints, word_of, sign_of, token_of, name_of, number_of}
use Rattle.sy_print.proofs.PrintsRules.{first_part, next_part, all_parts, of_one, or_ok, many_ok, behind_ok, between_ok, listed_ok, picked_ok, with_text, up_to_ok}

pub path_ok : Prints G.path T.path_text E.plain_path
path_ok =
    or_ok (or_ok
    (of_one name_of (λ _. refl) (λ _ _ e. ap Path.Name e))
    (first_part name_of (next_part (behind_ok Dot name_of)
    (all_parts (λ _. simp append_assoc refl) (λ _ _ e. λ i. Path.Attribute (e i).0 (e i).1)))))
    (first_part name_of (next_part (behind_ok Dot name_of) (next_part (behind_ok Dot name_of)
    (all_parts (λ _. simp append_assoc refl) (λ _ _ e. λ i. Path.Inner (e i).0.0 (e i).0.1 (e i).1)))))

pub single_ok : Prints G.single T.single_text E.plain_single
single_ok =
    or_ok (or_ok (or_ok (or_ok
    (of_one number_of (λ _. refl) (λ _ _ e. ap Single.Number e))
    (first_part (sign_of Minus) (next_part number_of
    (all_parts (λ _. refl) (λ _ _ e. λ i. Single.Negative E.here (e i).1)))))
    (of_one (token_of S.Str) (λ _. refl) (λ _ _ e. ap Single.Str e)))
    (of_one (token_of S.Date) (λ _. refl) (λ _ _ e. ap Single.Date e)))
    (of_one path_ok (λ _. refl) (λ _ _ e. ap Single.Path e))

pub factor_ok : Prints G.factor T.factor_text E.plain_factor
factor_ok =
    first_part single_ok (next_part (many_ok (behind_ok Times single_ok))
    (all_parts (λ _. refl) (λ _ _ e. λ i. record { first = (e i).0; others = (e i).1 })))

pub sum_ok : Prints G.sum T.sum_text E.plain_sum
sum_ok =
    or_ok
    (of_one (behind_ok Plus factor_ok) (λ _. refl) (λ _ _ e. ap Sum.Plus e))
    (of_one (behind_ok Minus factor_ok) (λ _. refl) (λ _ _ e. ap Sum.Minus e))

pub term_ok : Prints G.term T.term_text E.plain_term
term_ok =
    first_part factor_ok (next_part (many_ok sum_ok)
    (all_parts (λ _. refl) (λ _ _ e. λ i. record { first = (e i).0; others = (e i).1 })))

pub rhs_ok : Prints G.rhs T.rhs_text E.plain_rhs
rhs_ok =
    or_ok (or_ok
    (of_one term_ok (λ _. refl) (λ _ _ e. ap Rhs.Term e))
    (of_one (word_of K.True) (λ _. refl) (λ _ _ _. refl)))
    (of_one (word_of K.False) (λ _. refl) (λ _ _ _. refl))

abbrev pub cmp_text : CmpTree → List ℕ
cmp_text c = T.sign (T.cmp_sign c.cmp)

compares_ok : (s : Sign) (c : Cmp) → s ≡ T.cmp_sign c → Prints (G.compares s c) cmp_text E.plain_cmp
compares_ok s c e = of_one (sign_of s) (λ _. ap T.sign e) (λ _ _ _. refl)

pub cmp_ok : Prints G.cmp cmp_text E.plain_cmp
cmp_ok =
    or_ok (or_ok (or_ok (or_ok (or_ok
    (compares_ok Equal C.Eq refl) (compares_ok NotEqual C.Ne refl)) (compares_ok Less C.Lt refl))
    (compares_ok AtMost C.Le refl)) (compares_ok Greater C.Gt refl)) (compares_ok AtLeast C.Ge refl)

pub target_ok : Prints G.target T.target_text E.plain_target
target_ok =
    or_ok
    (of_one name_of (λ _. refl) (λ _ _ e. ap Target.Named e))
    (of_one (word_of K.ThisContract) (λ _. refl) (λ _ _ _. refl))

pub guard_ok : Prints G.guard T.guard_text E.plain_guard
guard_ok =
    first_part name_of (next_part cmp_ok (next_part rhs_ok
    (all_parts (λ _. refl) (λ _ _ e. λ i. record { name = (e i).0.0; cmp = (e i).0.1; value = (e i).1 }))))

-- guards in their brackets: one at least
guards_ok : Prints (between OpenBracket (listed G.guard) CloseBracket) T.guards_text (map E.plain_guard)
guards_ok = with_text some (between_ok OpenBracket CloseBracket (listed_ok guard_ok))
  where
    some : (from : List Lexeme) (gs : List GuardTree) (rest : List Lexeme)
        → between OpenBracket (listed G.guard) CloseBracket from gs rest
        → T.sign OpenBracket ++ T.listed T.guard_text gs ++ T.sign CloseBracket ≡ T.guards_text gs
    some from gs rest d =
        subst (λ gs. T.sign OpenBracket ++ T.listed T.guard_text gs ++ T.sign CloseBracket ≡ T.guards_text gs)
        (d.3.2.3.3.0 ∙ d.3.3.3.0) refl

internal_kind_ok : Prints G.internal_kind (λ x. T.keyword (G.kind_word x.0)) (λ x. (x.0, E.here))
internal_kind_ok =
    picked_ok (λ (x : Kind × Place). G.kind_word x.0) (λ x. x.1) (λ x p. (x.0, p)) word_of (λ _ _. (refl, refl, refl))

pub event_ok : Prints G.event T.event_text E.plain_event
event_ok =
    or_ok (or_ok
    (of_one name_of (λ x. sym (append-nil (T.token x))) (λ _ _ e. λ i. Event.Declared (e i) []))
    (first_part name_of (next_part guards_ok
    (all_parts (λ _. refl) (λ _ _ e. λ i. Event.Declared (e i).0 (e i).1)))))
    (first_part internal_kind_ok (next_part (between_ok Open Close target_ok)
    (all_parts (λ _. refl) (λ _ _ e. λ i. Event.Internal (e i).0.0 E.here (e i).1))))

equal_ok : Prints ((sign Equal >>= λ _. spelled true) or (sign NotEqual >>= λ _. spelled false))
    (λ b. T.sign (if b then Equal else NotEqual)) (λ b. b)
equal_ok =
    or_ok (of_one (sign_of Equal) (λ _. refl) (λ _ _ _. refl)) (of_one (sign_of NotEqual) (λ _. refl) (λ _ _ _. refl))

pub situation_ok : Prints G.situation T.situation_text E.plain_situation
unfolding T.situation_text
situation_ok =
    first_part (word_of K.State) (next_part (between_ok Open Close target_ok) (next_part equal_ok (next_part name_of
    (all_parts (λ _. refl)
    (λ _ _ e. λ i. record { place = E.here; target = (e i).0.0.1; equal = (e i).0.1; state = (e i).1 })))))

-- either word of a measure, of which the plural is printed
one_word : (from : List Lexeme) (x : MeasureTree) (rest : List Lexeme) → G.measure from x rest
    → (l : Lexeme) × (from ≡ l ∷ rest)
one_word from x rest (inl (l, mid, d, e)) = (l, d.0 ∙ ap (λ ls. l ∷ ls) e.1)
one_word from x rest (inr (l, mid, d, e)) = (l, d.0 ∙ ap (λ ls. l ∷ ls) e.1)

pub measure_ok : Prints G.measure (λ m. T.keyword (plural_keyword m.measure)) E.plain_measure
unfolding T.keyword T.word
measure_ok = record {
  at = λ from x rest tokens d.
      let plural = plural_keyword x.measure in
      let all : AreTokens ((one_word from x rest d).0 ∷ rest) = subst AreTokens (one_word from x rest d).1 tokens in (
        record {
          words = record { kind = S.Reserved plural; text = keyword_text plural; behind = 32 } ∷ [];
          are = record { words = (refl, inl refl, tt); bytes = refl };
          says = record {
            tree = λ from rest r.
                (record { measure = x.measure; word = written r.0 }, inr (r.0, r.1, (r.2, r.3), (refl, r.5)), refl);
          };
        },
        all.1,
      );
}

count_ok : Prints ((token S.Number >>= λ x. spelled (Count.Number x)) or (G.path >>= λ x. spelled (Count.Path x)))
    T.count_text E.plain_count
count_ok =
    or_ok (of_one number_of (λ _. refl) (λ _ _ e. ap Count.Number e))
    (of_one path_ok (λ _. refl) (λ _ _ e. ap Count.Path e))

pub duration_ok : Prints G.duration T.duration_text E.plain_duration
duration_ok =
    first_part count_ok (next_part measure_ok
    (all_parts (λ _. refl) (λ _ _ e. λ i. record { count = (e i).0; measure = (e i).1 })))

pub moment_ok : Prints G.moment T.moment_text E.plain_moment
moment_ok =
    or_ok (or_ok
    (of_one (token_of S.Date) (λ _. refl) (λ _ _ e. ap Moment.Fixed e))
    (of_one path_ok (λ _. refl) (λ _ _ e. ap Moment.Path e)))
    (first_part (word_of K.Time) (next_part (between_ok Open Close event_ok)
    (all_parts (λ _. refl) (λ _ _ e. λ i. Moment.Time E.here (e i).1))))

pub date_ok : Prints G.date T.date_text E.plain_date
unfolding T.date_text
date_ok =
    first_part moment_ok (next_part (up_to_ok 8 (behind_ok Plus duration_ok))
    (all_parts (λ _. refl) (λ _ _ e. λ i. record { moment = (e i).0; plus = (e i).1 })))
