-- The rules of bindings and what reads them agree.
use Rattle.std.proofs.Common.{◌≡◌, ◌⊎◌, inl, inr, true, false, refl, arith}
use Rattle.sy_lex.specs.declared.keyword.Keyword.TheVariants as K
use Rattle.sy_lex.specs.declared.sign.Sign.TheVariants as Sg
use Rattle.sy_lex.specs.declared.sign.Sign.TheVariants.{Semicolon, OpenBrace, CloseBrace, Assign, Minus}
use Rattle.sy_lex.specs.declared.token.TokenKind.{TokenKind}
use Rattle.sy_lex.specs.declared.token.TokenKind.TheVariants as S
use Rattle.sy_binding.specs.declared.tree.BoundTree.TheVariants as Bound
use Rattle.sy_binding.specs.declared.tree.ValueTree.TheVariants as Value
use Rattle.sy_reader.specs.Grammar as grammar
use Rattle.sy_reader.specs.Grammar.{spelled, token, sign, before, maybe_listed}
use Rattle.sy_binding.specs.Bindings.{value, field, bound, given, binding}
use Rattle.sy_reader.specs.Machine.Reading.{fail}
use Rattle.sy_binding.specs.Machine.ReadingBindings.{negative_value_at, value_by, value_at, field_at, attributes_at, bound_at, given_at, binding_at}
use Rattle.sy_reader.proofs.Agree.{Agrees, Any, Begins, Differs, then_any, node_agrees, token_agrees, keyword_agrees, sign_agrees, before_agrees, before_any, begins_then, begins_or, begins_as, token_begins, keyword_begins, sign_begins}
use Rattle.sy_reader.proofs.AgreeChoices.{Branches, case, ◌or◌, by_next_agrees, token_case, either_agrees}
use Rattle.sy_reader.proofs.AgreeLists.{AtEnd, all_lines_agree, maybe_listed_agrees}

pub negative_value_agrees : Agrees (grammar.◌>>=◌ (sign Minus) λ place. grammar.◌>>=◌ (token S.Number) λ number. spelled (Value.Negative place number)) negative_value_at Any
negative_value_agrees = then_any (sign_agrees Minus) λ place. token_case S.Number (Value.Negative place)

abbrev pub value_branches : Branches value value_by Any
value_branches =
    case (begins_then (token_begins S.Number)) (token_case S.Number Value.Number) or case (begins_then (sign_begins Minus)) negative_value_agrees or case (begins_then (token_begins S.Str)) (token_case S.Str Value.Str)
    or case (begins_then (token_begins S.Date)) (token_case S.Date Value.Date) or case (begins_then (keyword_begins K.True)) (node_agrees (Value.Const true) (keyword_agrees K.True))
    or case (begins_then (keyword_begins K.False)) (node_agrees (Value.Const false) (keyword_agrees K.False)) or case (begins_then (token_begins S.Word)) (token_case S.Word Value.Name)

pub value_covers : (s : TokenKind) → value_branches.Here s ⊎ (value_by s ≡ fail)
value_covers S.Number = inl (inl (inl (inl (inl (inl (inl refl))))))
value_covers (S.Sign Sg.Minus) = inl (inl (inl (inl (inl (inl (inr refl))))))
value_covers S.Str = inl (inl (inl (inl (inl (inr refl)))))
value_covers S.Date = inl (inl (inl (inl (inr refl))))
value_covers (S.Reserved K.True) = inl (inl (inl (inr refl)))
value_covers (S.Reserved K.False) = inl (inl (inr refl))
value_covers s = inl (inr refl)

value_agrees : Agrees value value_at Any
unfolding value_at
value_agrees = by_next_agrees value_branches value_covers

value_begins : Begins value (Differs (S.Sign OpenBrace))
value_begins =
    begins_or (begins_or (begins_or (begins_or (begins_or (begins_or (begins_as (begins_then (token_begins S.Number)) refl) (begins_as (begins_then (sign_begins Minus)) refl)) (begins_as (begins_then (token_begins S.Str)) refl))
    (begins_as (begins_then (token_begins S.Date)) refl)) (begins_as (begins_then (keyword_begins K.True)) refl)) (begins_as (begins_then (keyword_begins K.False)) refl)) (begins_as (begins_then (token_begins S.Word)) refl)

pub field_agrees : Agrees field field_at Any
unfolding field_at
field_agrees = then_any (before_any Assign (token_agrees S.Word)) λ name. node_agrees (λ value. record { name = name; value = value }) value_agrees

attributes_agree : Agrees (grammar.◌>>=◌ (sign OpenBrace) λ place. grammar.◌>>=◌ (before (maybe_listed field) CloseBrace) λ fields. spelled (Bound.Attributes place fields)) attributes_at Any
attributes_agree = then_any (sign_agrees OpenBrace) λ place. node_agrees (Bound.Attributes place)
    (before_agrees CloseBrace (maybe_listed_agrees CloseBrace (omega arith) field_agrees (begins_as (begins_then (begins_then (token_begins S.Word))) refl)) (λ rest n. n))

bound_agrees : Agrees bound bound_at Any
unfolding bound_at
bound_agrees = either_agrees (S.Sign OpenBrace) (begins_then value_begins) (begins_then (sign_begins OpenBrace)) (node_agrees Bound.Value value_agrees) attributes_agree

given_agrees : Agrees given given_at Any
unfolding given_at
given_agrees = then_any (before_any Assign (token_agrees S.Word)) λ name. node_agrees (λ bound. record { name = name; bound = bound }) bound_agrees

pub binding_agrees : Agrees binding binding_at AtEnd
unfolding binding_at
binding_agrees = then_any (keyword_agrees K.Start) λ _. then_any (before_any Semicolon (token_agrees S.Date)) λ start.
    node_agrees (λ parameters. record { start = start; parameters = parameters }) (all_lines_agree given_agrees (λ rest n. tt) (begins_then (begins_then (token_begins S.Word))))
