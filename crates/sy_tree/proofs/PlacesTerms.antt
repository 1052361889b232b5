-- Where a text goes wrong in a term.
use Rattle.std.proofs.Common.{◌≡◌, inl, inr, ◌<◌, true, false, List, [], ◌∷◌, length, Option, Some, None, refl, ◌∙◌}
use Rattle.sy_lex.specs.declared.keyword.Keyword.TheVariants as K
use Rattle.sy_lex.specs.declared.sign.Sign.TheVariants.{Dot, Plus, Minus, Times}
use Rattle.sy_lex.specs.declared.token.TokenKind.{TokenKind}
use Rattle.sy_lex.specs.declared.token.TokenKind.TheVariants as S
use Rattle.sy_lex.specs.declared.written.Written.{Written}
use Rattle.sy_tree.specs.declared.term.RhsTree.TheVariants as Rhs
use Rattle.sy_tree.specs.declared.term.SumTree.TheVariants as Sum
use Rattle.sy_tree.specs.declared.term.SingleTree.{SingleTree}
use Rattle.sy_tree.specs.declared.term.SingleTree.TheVariants as Single
use Rattle.sy_tree.specs.declared.term.TermTree.{TermTree}
use Rattle.sy_tree.specs.declared.term.PathTree.{PathTree}
use Rattle.sy_tree.specs.declared.term.PathTree.TheVariants as Path
use Rattle.sy_lex.specs.Lexemes.{Lexeme, written}
use Rattle.sy_reader.specs.Grammar as grammar
use Rattle.sy_reader.specs.Grammar.{Rule, spelled, lexeme, maybe, behind, token, sign, none}
use Rattle.sy_tree.specs.Terms.{path, single, factor, sum, term, rhs}
use Rattle.sy_reader.specs.Machine.Reading.{◌>>=◌, give, token_at, behind_at}
use Rattle.sy_tree.specs.Machine.ReadingTerms.{maybe_attribute, inner_path, path_of, path_at, negative_at, single_by, single_at, factor_at, sum_by, sum_at, is_sum_sign, term_at, rhs_by, rhs_at}
use Rattle.sy_reader.proofs.Agree.{Takes, takes_or, lexeme_takes, sign_takes}
use Rattle.sy_reader.proofs.Places.{Spans, Places, plain, reaches_wider, filled_wider, spelled_places, then_places, node_places, token_places, keyword_places, sign_places, behind_places, takes_first}
use Rattle.sy_reader.proofs.PlacesChoices.{Ways, way, ◌or◌, by_next_places, or_spans, optional_places}
use Rattle.sy_reader.proofs.PlacesMany.{many_places, all_behind_places}
use Rattle.sy_tree.proofs.AgreeTerms.{single_covers, sum_covers, rhs_covers}

-- a dot and a name
abbrev dotted : Rule Written
dotted = behind Dot (token S.Word)

attribute_places : Places (maybe dotted) maybe_attribute
attribute_places = optional_places (S.Sign Dot) None (node_places Some (behind_places Dot (token_places S.Word)))

-- the rule for paths as they are read
abbrev inner : Written → Option Written → Rule PathTree
inner name None = spelled (Path.Name name)
inner name (Some first) = grammar.◌>>=◌ (maybe dotted) λ last. spelled (path_of name first last)

abbrev stepwise : Rule PathTree
stepwise = grammar.◌>>=◌ (token S.Word) λ name. grammar.◌>>=◌ (maybe dotted) λ first. inner name first

inner_places : (name : Written) (first : Option Written) → Places (inner name first) (inner_path name first)
inner_places name None = spelled_places (Path.Name name)
inner_places name (Some first) = node_places (path_of name first) attribute_places

stepwise_places : Places stepwise path_at
unfolding path_at
stepwise_places = then_places (token_places S.Word) λ name. then_places attribute_places (inner_places name)

one_attribute : (x : Written) (mid after : List Lexeme) → maybe dotted mid (Some x) after → dotted mid x after
one_attribute x mid after (inl d) = let e : d.0 ≡ x = cc in rw (← e, ← d.3.1) d.2
one_attribute x mid after (inr d) = absurd cc

no_attribute : (mid after : List Lexeme) → maybe dotted mid None after → mid ≡ after
no_attribute mid after (inl d) = absurd cc
no_attribute mid after (inr d) = d.1

path_to : (from : List Lexeme) (x : PathTree) (rest : List Lexeme) → stepwise from x rest → path from x rest
path_to from x rest (name, mid, d, (None, after, a, e)) = inl (inl (name, mid, d, (e.0, no_attribute mid after a ∙ e.1)))
path_to from x rest (name, mid, d, (Some first, after, a, (None, last, b, e))) = inl (inr (name, mid, d, (first, after, one_attribute first mid after a, (e.0, no_attribute after last b ∙ e.1))))
path_to from x rest (name, mid, d, (Some first, after, a, (Some second, last, b, e))) = inr (name, mid, d, (first, after, one_attribute first mid after a, (second, last, one_attribute second after last b, e)))

abbrev name_only : Rule PathTree
name_only = grammar.◌>>=◌ (token S.Word) λ name. spelled (Path.Name name)

name_places : Places name_only (token_at S.Word >>= λ name. give (Path.Name name))
name_places = node_places Path.Name (token_places S.Word)

two_places : Places (grammar.◌>>=◌ (token S.Word) λ name. grammar.◌>>=◌ dotted λ first. spelled (Path.Attribute name first)) (token_at S.Word >>= λ name. behind_at Dot (token_at S.Word) >>= λ first. give (Path.Attribute name first))
two_places = then_places (token_places S.Word) λ name. node_places (Path.Attribute name) (behind_places Dot (token_places S.Word))

three_places : Places (grammar.◌>>=◌ (token S.Word) λ name. grammar.◌>>=◌ dotted λ first. grammar.◌>>=◌ dotted λ second. spelled (Path.Inner name first second)) (token_at S.Word >>= λ name. behind_at Dot (token_at S.Word) >>= λ first. behind_at Dot (token_at S.Word) >>= λ second. give (Path.Inner name first second))
three_places = then_places (token_places S.Word) λ name. then_places (behind_places Dot (token_places S.Word)) λ first. node_places (Path.Inner name first) (behind_places Dot (token_places S.Word))

pub path_places : Places path path_at
path_places = record {
  reaches = reaches_wider path_to stepwise_places.reaches;
  spans = or_spans (or_spans name_places.spans two_places.spans) three_places.spans;
  filled = filled_wider (λ from x rest d. inl (inl d)) name_places.filled;
}

token_takes : (kind : TokenKind) → Takes (token kind)
token_takes kind = takes_first (lexeme_takes kind) λ l. spelled_places (written l)

path_takes : Takes path
path_takes = takes_or (takes_or (takes_first (token_takes S.Word) λ name. spelled_places (Path.Name name)) (takes_first (token_takes S.Word) λ name. node_places (Path.Attribute name) (behind_places Dot (token_places S.Word))))
    (takes_first (token_takes S.Word) λ name. then_places (behind_places Dot (token_places S.Word)) λ first. node_places (Path.Inner name first) (behind_places Dot (token_places S.Word)))

negative_places : Places (grammar.◌>>=◌ (sign Minus) λ place. grammar.◌>>=◌ (token S.Number) λ number. spelled (Single.Negative place number)) negative_at
negative_places = then_places (sign_places Minus) λ place. node_places (Single.Negative place) (token_places S.Number)

number_places : Places (grammar.◌>>=◌ (token S.Number) λ x. spelled (Single.Number x)) (token_at S.Number >>= λ x. give (Single.Number x))
number_places = node_places Single.Number (token_places S.Number)

abbrev single_ways : Ways single single_by
single_ways = way number_places or way negative_places or way (node_places Single.Str (token_places S.Str)) or way (node_places Single.Date (token_places S.Date)) or way (node_places Single.Path path_places)

pub single_places : Places single single_at
unfolding single_at
single_places = by_next_places single_ways single_covers (filled_wider (λ from x rest d. inl (inl (inl (inl d)))) number_places.filled)

pub factor_places : Places factor factor_at
unfolding factor_at
factor_places = then_places single_places λ first. node_places (λ others. record { first = first; others = others }) (all_behind_places Times single_places)

plus_places : Places (grammar.◌>>=◌ (behind Plus factor) λ x. spelled (Sum.Plus x)) (behind_at Plus factor_at >>= λ x. give (Sum.Plus x))
plus_places = node_places Sum.Plus (behind_places Plus factor_places)

minus_places : Places (grammar.◌>>=◌ (behind Minus factor) λ x. spelled (Sum.Minus x)) (behind_at Minus factor_at >>= λ x. give (Sum.Minus x))
minus_places = node_places Sum.Minus (behind_places Minus factor_places)

abbrev sum_ways : Ways sum sum_by
sum_ways = way plus_places or way minus_places

sum_places : Places sum sum_at
unfolding sum_at
sum_places = by_next_places sum_ways sum_covers (filled_wider (λ from x rest d. inl d) plus_places.filled)

sum_takes : Takes sum
sum_takes = takes_or (takes_first (takes_first (sign_takes Plus) λ _. factor_places) λ x. spelled_places _) (takes_first (takes_first (sign_takes Minus) λ _. factor_places) λ x. spelled_places _)

pub term_places : Places term term_at
unfolding term_at
term_places = then_places factor_places λ first. node_places (λ others. record { first = first; others = others }) (many_places is_sum_sign sum_places sum_takes)

abbrev rhs_ways : Ways rhs rhs_by
rhs_ways = way (node_places Rhs.Term term_places) or way (node_places (Rhs.Const true) (keyword_places K.True)) or way (node_places (Rhs.Const false) (keyword_places K.False))

pub rhs_places : Places rhs rhs_at
unfolding rhs_at
rhs_places = by_next_places rhs_ways rhs_covers (filled_wider (λ from x rest d. inl (inl d)) (node_places Rhs.Term term_places).filled)

single_takes : Takes single
single_takes = record { less = of }
  where
    of : (from : List Lexeme) (x : SingleTree) (rest : List Lexeme) → single from x rest → length rest < length from
    of from x rest (inl (inl (inl (inl d)))) = (takes_first (token_takes S.Number) λ x. spelled_places (Single.Number x)).less from x rest d
    of from x rest (inl (inl (inl (inr d)))) = (takes_first (sign_takes Minus) λ place. node_places (Single.Negative place) (token_places S.Number)).less from x rest d
    of from x rest (inl (inl (inr d))) = (takes_first (token_takes S.Str) λ x. spelled_places (Single.Str x)).less from x rest d
    of from x rest (inl (inr d)) = (takes_first (token_takes S.Date) λ x. spelled_places (Single.Date x)).less from x rest d
    of from x rest (inr d) = (takes_first path_takes λ x. spelled_places (Single.Path x)).less from x rest d

pub term_takes : Takes term
term_takes = takes_first (takes_first single_takes λ first. node_places (λ others. record { first = first; others = others }) (all_behind_places Times single_places)) λ first. node_places (λ others. record { first = first; others = others }) (many_places is_sum_sign sum_places sum_takes)

-- a number is a term
abbrev pub number_term : TermTree
number_term = record { first = record { first = Single.Number (written (plain S.Number)); others = [] }; others = [] }

pub number_spans : Spans term (plain S.Number ∷ []) number_term
number_spans other =
    let taken : lexeme S.Number (plain S.Number ∷ other) (plain S.Number) other = (refl, refl) in
    let number : single (plain S.Number ∷ other) (Single.Number (written (plain S.Number))) other = inl (inl (inl (inl (written (plain S.Number), other, (plain S.Number, other, taken, (refl, refl)), (refl, refl))))) in
    (record { first = Single.Number (written (plain S.Number)); others = [] }, other, (Single.Number (written (plain S.Number)), other, number, ([], other, none other, (refl, refl))), ([], other, none other, (refl, refl)))
