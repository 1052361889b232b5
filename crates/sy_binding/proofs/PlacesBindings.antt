-- Where a text goes wrong in a binding.
use Rattle.std.proofs.Common.{inl, true, false}
use Rattle.sy_lex.specs.declared.keyword.Keyword.TheVariants as K
use Rattle.sy_lex.specs.declared.sign.Sign.TheVariants.{Semicolon, OpenBrace, CloseBrace, Assign, Minus}
use Rattle.sy_lex.specs.declared.token.TokenKind.TheVariants as S
use Rattle.sy_binding.specs.declared.tree.BoundTree.TheVariants as Bound
use Rattle.sy_binding.specs.declared.tree.ValueTree.TheVariants as Value
use Rattle.sy_reader.specs.Grammar as grammar
use Rattle.sy_reader.specs.Grammar.{spelled, token, sign, before, maybe_listed}
use Rattle.sy_binding.specs.Bindings.{value, field, bound, given, binding}
use Rattle.sy_reader.specs.Machine.ReadingLines.{no_heading}
use Rattle.sy_binding.specs.Machine.ReadingBindings.{negative_value_at, value_by, value_at, field_at, attributes_at, bound_at, given_at, binding_at}
use Rattle.sy_reader.proofs.Places.{Places, filled_wider, then_places, node_places, token_places, keyword_places, sign_places, before_places}
use Rattle.sy_reader.proofs.PlacesChoices.{Ways, way, ◌or◌, by_next_places, either_places}
use Rattle.sy_reader.proofs.PlacesMany.{maybe_listed_places, lines_places}
use Rattle.sy_binding.proofs.AgreeBindings.{value_covers}

negative_value_places : Places (grammar.◌>>=◌ (sign Minus) λ place. grammar.◌>>=◌ (token S.Number) λ number. spelled (Value.Negative place number)) negative_value_at
negative_value_places = then_places (sign_places Minus) λ place. node_places (Value.Negative place) (token_places S.Number)

abbrev value_ways : Ways value value_by
value_ways =
    way (node_places Value.Number (token_places S.Number)) or way negative_value_places or way (node_places Value.Str (token_places S.Str)) or way (node_places Value.Date (token_places S.Date))
    or way (node_places (Value.Const true) (keyword_places K.True)) or way (node_places (Value.Const false) (keyword_places K.False)) or way (node_places Value.Name (token_places S.Word))

value_places : Places value value_at
unfolding value_at
value_places = by_next_places value_ways value_covers (filled_wider (λ from x rest d. inl (inl (inl (inl (inl (inl d)))))) (node_places Value.Number (token_places S.Number)).filled)

field_places : Places field field_at
unfolding field_at
field_places = then_places (before_places Assign (token_places S.Word)) λ name. node_places (λ value. record { name = name; value = value }) value_places

attributes_places : Places (grammar.◌>>=◌ (sign OpenBrace) λ place. grammar.◌>>=◌ (before (maybe_listed field) CloseBrace) λ fields. spelled (Bound.Attributes place fields)) attributes_at
attributes_places = then_places (sign_places OpenBrace) λ place. node_places (Bound.Attributes place) (before_places CloseBrace (maybe_listed_places CloseBrace field_places))

bound_places : Places bound bound_at
unfolding bound_at
bound_places = either_places (S.Sign OpenBrace) (node_places Bound.Value value_places) attributes_places

given_places : Places given given_at
unfolding given_at
given_places = then_places (before_places Assign (token_places S.Word)) λ name. node_places (λ bound. record { name = name; bound = bound }) bound_places

pub binding_places : Places binding binding_at
unfolding binding_at
binding_places = then_places (keyword_places K.Start) λ _. then_places (before_places Semicolon (token_places S.Date)) λ start.
    node_places (λ parameters. record { start = start; parameters = parameters }) (lines_places no_heading given_places)
