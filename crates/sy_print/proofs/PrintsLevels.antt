-- The rules of propositions by levels print.
use Rattle.std.proofs.Common.{◌≡◌, inl, inr, ℕ, zero, suc, List, [], ◌∷◌, ◌++◌, refl, ap, sym, subst, ◌∙◌, append_assoc, map}
use Rattle.std.specs.List.{flat_map}
use Rattle.sy_lex.specs.declared.keyword.Keyword.{Keyword}
use Rattle.sy_lex.specs.declared.keyword.Keyword.TheVariants as K
use Rattle.sy_lex.specs.declared.sign.Sign.TheVariants.{Open, Close}
use Rattle.sy_base.specs.declared.refusal.Place.{Place}
use Rattle.sy_tree.specs.declared.proposition.First.{First}
use Rattle.sy_tree.specs.declared.proposition.PropTree.{PropTree}
use Rattle.sy_tree.specs.declared.proposition.PropTree.TheVariants as P
use Rattle.sy_lex.specs.Lexemes.{Lexeme}
use Rattle.sy_reader.specs.Grammar.{Rule, Many, ◌>>=◌, keyword, many, before}
use Rattle.sy_tree.specs.Propositions.{in_brackets, atom, joined, chain, conj_of, prop_of, negation, brackets, neg, prop}
use Rattle.sy_print.specs.CanonicalText as T
use Rattle.sy_print.specs.CanonicalText.{Forms, forms, forms_of}
use Rattle.sy_print.specs.Equality.{here, no_first, plain_prop, plain_prop_of}
use Rattle.sy_print.proofs.PrintedWords.{AreTokens}
use Rattle.sy_print.proofs.Prints.{Within, ◌&◌, Says, step, final, Printed, printed, weaker, Prints, word_of, sign_of, sign_printed}
use Rattle.sy_print.proofs.PrintsRules.{many_ok, then_ok}
use Rattle.sy_print.proofs.PrintsFirst.{NotEmpty, not_empty_or, not_empty_then, not_empty_lexeme, not_empty_begins, begins_here, beginning_says}
use Rattle.sy_print.proofs.PropositionFolds.{fold-all, fold-any, forms-in_brackets, plain_prop-in_brackets}
use Rattle.sy_print.proofs.PrintsPropositions.{atom_ok, negation_ok, conj_more, prop_more, neg_more}

not_empty_atom : NotEmpty atom
not_empty_atom =
    not_empty_or (not_empty_or (not_empty_or (not_empty_or (not_empty_or (not_empty_or (not_empty_or (not_empty_or
    not_empty_begins not_empty_begins) not_empty_begins) not_empty_begins) not_empty_begins) not_empty_begins)
    not_empty_begins) not_empty_begins) not_empty_begins

not_empty_neg : (l : ℕ) → NotEmpty (neg l)
unfolding neg
not_empty_neg zero = not_empty_atom
not_empty_neg (suc l) = not_empty_or (not_empty_or not_empty_begins (not_empty_then not_empty_lexeme)) not_empty_atom

-- the rule spells the proposition again from this text
abbrev Again : Rule PropTree → PropTree → List ℕ → Type 0
Again R x text = Printed R plain_prop x text

retext : {R : Rule PropTree} {x : PropTree} {t u : List ℕ} → t ≡ u → Again R x t → Again R x u
retext e p = printed p.are e p.says

-- ---- chains

chain_one : {word : Keyword} {R : Rule PropTree} {x : PropTree} {text : List ℕ}
    (node : List PropTree → First → PropTree) → NotEmpty R → Again R x text → Again (chain word node R) x text
chain_one {word} {R} {x} {text} node some p =
    printed p.are refl (beginning_says (λ _. not_empty_then some) (λ first. record {
      tree = λ from rest r.
          let a = p.says.tree from rest r in
          (a.0, (a.0, rest, a.1, ([], rest, Many.none rest, (refl, refl))), a.2);
    }))

conj_one : {R : Rule PropTree} {x : PropTree} {text : List ℕ} → NotEmpty R → Again R x text → Again (conj_of R) x text
conj_one some p = chain_one P.All some p

prop_one : {R : Rule PropTree} {x : PropTree} {text : List ℕ} → Again (conj_of R) x text → Again (prop_of R) x text
prop_one p = chain_one P.Any not_empty_begins p

chain_several : {word : Keyword} {R : Rule PropTree} {part other : PropTree} {others : List PropTree}
    (node : List PropTree → First → PropTree) (t : PropTree → List ℕ) (first : First)
    → ((parts : List PropTree) (first : First) → plain_prop (node parts first) ≡ node (map plain_prop parts) no_first)
    → NotEmpty R → Again R part (t part)
    → Printed (many (keyword word >>= λ _. R)) (map plain_prop) (other ∷ others)
    (flat_map (λ x. T.keyword word ++ t x) (other ∷ others))
    → Again (chain word node R) (node (part ∷ other ∷ others) first)
    (T.separated (T.keyword word) t (part ∷ other ∷ others))
chain_several {word} {R} {part} {other} {others} node t first flat some a b =
    printed (a.are & b.are) refl
    (beginning_says (λ _. not_empty_then some) (λ f. step a.says (λ y e. final b.says (λ ys es. same f y ys e es))))
  where
    same : (f : First) (y : PropTree) (ys : List PropTree) → plain_prop y ≡ plain_prop part
        → map plain_prop ys ≡ map plain_prop (other ∷ others)
        → plain_prop (joined node f y ys) ≡ plain_prop (node (part ∷ other ∷ others) first)
    same f y [] e es = absurd cc
    same f y (z ∷ zs) e es =
        flat (y ∷ z ∷ zs) f ∙ (λ i. node (e i ∷ es i) no_first) ∙ sym (flat (part ∷ other ∷ others) first)

others_map : (between : List ℕ) (t : Forms → List ℕ) (xs : List PropTree)
    → flat_map (λ x. between ++ t (forms x)) xs ≡ flat_map (λ form. between ++ t form) (map forms xs)
others_map between t [] = refl
others_map between t (x ∷ xs) = ap (λ text. between ++ t (forms x) ++ text) (others_map between t xs)

separated_map : (between : List ℕ) (t : Forms → List ℕ) (x : PropTree) (xs : List PropTree)
    → T.separated between (λ x. t (forms x)) (x ∷ xs) ≡ T.separated between t (map forms (x ∷ xs))
separated_map between t x xs = ap (λ text. t (forms x) ++ text) (others_map between t xs)

-- ---- brackets

brackets_ok : (l : ℕ) (x : PropTree) (text : List ℕ) → Again (prop_of (neg l)) x text
    → Again (neg (suc l)) x (T.in_brackets text)
unfolding neg
brackets_ok l x text a =
    let opening = sign_printed Open here in
    let closing = sign_printed Close here in
    let inside : Says (before (prop_of (neg l)) Close) plain_prop x (a.words ++ closing.words) =
    step a.says (λ y e. final closing.says (λ _ _. e)) in
    let all : Again (brackets (neg l)) x (T.in_brackets text) =
    printed (opening.are & a.are & closing.are) (sym (append_assoc (T.sign Open) text (T.sign Close)))
    (step opening.says (λ place _. final inside (λ y e. plain_prop-in_brackets place y ∙ e))) in
    weaker (λ _ _ _ d. inl (inr d)) all

-- ---- levels

-- a proposition is spelled again from each of its forms, within so many levels
record AllForms (a b c : ℕ) (x : PropTree) : Type 0 where
  in_and : Again (neg a) x (forms x).in_and
  in_or : Again (conj_of (neg b)) x (forms x).in_or
  alone : Again (prop_of (neg c)) x (forms x).alone

abbrev Gives : Rule PropTree → ℕ → ℕ → ℕ → Type 0
Gives R a b c =
    (from : List Lexeme) (x : PropTree) (rest : List Lexeme) → AreTokens from → R from x rest
    → AllForms a b c x × AreTokens rest

all_of_parts : (l : ℕ) (first : First) (part : PropTree) (others : List PropTree) → AllForms l l l part
    → Printed (many (keyword K.And >>= λ _. neg l)) (map plain_prop) others
    (flat_map (λ x. T.keyword K.And ++ (forms x).in_and) others)
    → AllForms (suc l) l l (joined P.All first part others)
all_of_parts l first part [] p more =
    record { in_and = weaker (neg_more l) p.in_and; in_or = p.in_or; alone = p.alone }
all_of_parts l first part (o ∷ os) p more =
    let e = fold-all forms_of (part ∷ o ∷ os) first in
    let text = separated_map (T.keyword K.And) (λ f. f.in_and) part (o ∷ os) in
    let c = chain_several P.All (λ x. (forms x).in_and) first (fold-all plain_prop_of) (not_empty_neg l) p.in_and more in
    let a = prop_one c in
    record {
      in_and = retext (ap T.in_brackets text ∙ sym (ap (λ f. f.in_and) e)) (brackets_ok l _ _ a);
      in_or = retext (text ∙ sym (ap (λ f. f.in_or) e)) c;
      alone = retext (text ∙ sym (ap (λ f. f.alone) e)) a;
    }

any_of_parts : (l : ℕ) (first : First) (part : PropTree) (others : List PropTree) → AllForms (suc l) l l part
    → Printed (many (keyword K.Or >>= λ _. conj_of (neg l))) (map plain_prop) others
    (flat_map (λ x. T.keyword K.Or ++ (forms x).in_or) others)
    → AllForms (suc l) (suc l) l (joined P.Any first part others)
any_of_parts l first part [] p more =
    let in_or = weaker (conj_more (neg l) (neg (suc l)) (neg_more l)) p.in_or in
    record { in_and = p.in_and; in_or = in_or; alone = p.alone }
any_of_parts l first part (o ∷ os) p more =
    let e = fold-any forms_of (part ∷ o ∷ os) first in
    let text = separated_map (T.keyword K.Or) (λ f. f.in_or) part (o ∷ os) in
    let a = chain_several P.Any (λ x. (forms x).in_or) first (fold-any plain_prop_of) not_empty_begins p.in_or more in
    let n = brackets_ok l _ _ a in
    record {
      in_and = retext (ap T.in_brackets text ∙ sym (ap (λ f. f.in_and) e)) n;
      in_or = retext (ap T.in_brackets text ∙ sym (ap (λ f. f.in_or) e)) (conj_one (not_empty_neg (suc l)) n);
      alone = retext (text ∙ sym (ap (λ f. f.alone) e)) a;
    }

parts_in_and : (l : ℕ) → Gives (neg l) l l l → Prints (neg l) (λ x. (forms x).in_and) plain_prop
parts_in_and l gives = record {
  at = λ from x rest tokens d. let a = gives from x rest tokens d in (a.0.in_and, a.1);
}

parts_in_or : (l : ℕ) → Gives (conj_of (neg l)) (suc l) l l → Prints (conj_of (neg l)) (λ x. (forms x).in_or) plain_prop
parts_in_or l gives = record {
  at = λ from x rest tokens d. let a = gives from x rest tokens d in (a.0.in_or, a.1);
}

conj_forms : (l : ℕ) → Gives (neg l) l l l → Gives (conj_of (neg l)) (suc l) l l
conj_forms l gives from x rest tokens d =
    let p = gives d.1 d.3.0 d.3.1 (subst AreTokens (begins_here d.2) tokens) d.3.2 in
    let parts = many_ok (then_ok (word_of K.And) (parts_in_and l gives)) in
    let more = parts.at d.3.1 d.3.3.0 d.3.3.1 p.1 d.3.3.2 in
    let all = all_of_parts l d.0 d.3.0 d.3.3.0 p.0 more.0 in
    (subst (AllForms (suc l) l l) d.3.3.3.0 all, subst AreTokens d.3.3.3.1 more.1)

prop_forms : (l : ℕ) → Gives (conj_of (neg l)) (suc l) l l → Gives (prop_of (neg l)) (suc l) (suc l) l
prop_forms l gives from x rest tokens d =
    let p = gives d.1 d.3.0 d.3.1 (subst AreTokens (begins_here d.2) tokens) d.3.2 in
    let parts = many_ok (then_ok (word_of K.Or) (parts_in_or l gives)) in
    let more = parts.at d.3.1 d.3.3.0 d.3.3.1 p.1 d.3.3.2 in
    let any = any_of_parts l d.0 d.3.0 d.3.3.0 p.0 more.0 in
    (subst (AllForms (suc l) (suc l) l) d.3.3.3.0 any, subst AreTokens d.3.3.3.1 more.1)

-- what is written alike everywhere
one_form : (l : ℕ) (R : Rule PropTree) → Within R (neg l)
    → ((form : Forms → List ℕ) → ((text : List ℕ) → form (T.alike text) ≡ text)
    → Prints R (λ x. form (forms x)) plain_prop)
    → Gives R l l l
one_form l R within p from x rest tokens d =
    let n = (p (λ f. f.in_and) (λ _. refl)).at from x rest tokens d in
    let c = (p (λ f. f.in_or) (λ _. refl)).at from x rest tokens d in
    let a = (p (λ f. f.alone) (λ _. refl)).at from x rest tokens d in (
      record {
        in_and = weaker within n.0;
        in_or = conj_one (not_empty_neg l) (weaker within c.0);
        alone = prop_one (conj_one (not_empty_neg l) (weaker within a.0));
      },
      n.1,
    )

-- brackets make no node
forms_in_brackets : (a b c : ℕ) (place : Place) (x : PropTree) → AllForms a b c x → AllForms a b c (in_brackets place x)
forms_in_brackets a b c place x p = record {
  in_and = also (λ f. f.in_and) p.in_and;
  in_or = also (λ f. f.in_or) p.in_or;
  alone = also (λ f. f.alone) p.alone;
}
  where
    also : {R : Rule PropTree} (form : Forms → List ℕ) → Again R x (form (forms x))
        → Again R (in_brackets place x) (form (forms (in_brackets place x)))
    also form p = printed p.are (ap form (sym (forms-in_brackets place x))) (record {
      tree = λ from rest r.
          let a = p.says.tree from rest r in
          (a.0, a.1, a.2 ∙ sym (plain_prop-in_brackets place x));
    })

brackets_forms : (l : ℕ) → Gives (neg l) l l l → Gives (brackets (neg l)) (suc l) (suc l) (suc l)
brackets_forms l gives from x rest tokens d =
    let b = d.3.2 in
    let opening = (sign_of Open).at from d.0 d.1 tokens d.2 in
    let p = prop_forms l (conj_forms l gives) d.1 b.0 b.1 opening.1 b.2 in
    let closing = (sign_of Close).at b.1 b.3.0 b.3.1 p.1 b.3.2 in
    let inside = subst (AllForms (suc l) (suc l) l) b.3.3.0 p.0 in
    let more : AllForms (suc l) (suc l) (suc l) d.3.0 = record {
      in_and = inside.in_and;
      in_or = inside.in_or;
      alone = weaker (prop_more (neg l) (neg (suc l)) (neg_more l)) inside.alone;
    } in
    let all = forms_in_brackets (suc l) (suc l) (suc l) d.0 d.3.0 more in
    (subst (AllForms (suc l) (suc l) (suc l)) d.3.3.0 all, subst AreTokens (b.3.3.1 ∙ d.3.3.1) closing.1)

neg_forms : (l : ℕ) → Gives (neg l) l l l
unfolding neg
neg_forms zero from x rest tokens d = one_form zero atom (λ _ _ _ d. d) atom_ok from x rest tokens d
neg_forms (suc l) from x rest tokens (inr d) = one_form (suc l) atom (λ _ _ _ d. inr d) atom_ok from x rest tokens d
neg_forms (suc l) from x rest tokens (inl (inl d)) =
    let part = parts_in_and l (neg_forms l) in
    one_form (suc l) (negation (neg l)) (λ _ _ _ d. inl (inl d)) (λ form is_form. negation_ok form is_form (neg l) part)
    from x rest tokens d
neg_forms (suc l) from x rest tokens (inl (inr d)) = brackets_forms l (neg_forms l) from x rest tokens d

pub prop_ok : Prints prop T.prop_text plain_prop
prop_ok = record {
  at = λ from x rest tokens d.
      let a = prop_forms 32 (conj_forms 32 (neg_forms 32)) from x rest tokens d in
      (a.0.alone, a.1);
}
