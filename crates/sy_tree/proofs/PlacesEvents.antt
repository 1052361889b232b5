-- Where a text goes wrong in an event, a situation or a date.
use Rattle.std.proofs.Common.{inl, true, false, [], Some}
use Rattle.sy_base.specs.declared.time.Measure.{Measure}
use Rattle.sy_base.specs.declared.time.Measure.TheVariants as M
use Rattle.sy_lex.specs.Keywords.{singular_keyword, plural_keyword}
use Rattle.sy_words.specs.declared.comparison.Cmp.{Cmp}
use Rattle.sy_words.specs.declared.comparison.Cmp.TheVariants as C
use Rattle.sy_words.specs.declared.kind.Kind.{Kind}
use Rattle.sy_lex.specs.declared.keyword.Keyword.{Keyword}
use Rattle.sy_lex.specs.declared.keyword.Keyword.TheVariants as K
use Rattle.sy_lex.specs.declared.sign.Sign.{Sign}
use Rattle.sy_lex.specs.declared.sign.Sign.TheVariants as Sg
use Rattle.sy_lex.specs.declared.sign.Sign.TheVariants.{Open, Close, OpenBracket, CloseBracket, Plus}
use Rattle.sy_lex.specs.declared.token.TokenKind.TheVariants as S
use Rattle.sy_tree.specs.declared.target.TargetTree.TheVariants as Target
use Rattle.sy_tree.specs.declared.date.MomentTree.TheVariants as Moment
use Rattle.sy_tree.specs.declared.date.CountTree.TheVariants as Count
use Rattle.sy_tree.specs.declared.proposition.EventTree.TheVariants as Event
use Rattle.sy_reader.specs.Grammar as grammar
use Rattle.sy_reader.specs.Grammar.{spelled, token, sign}
use Rattle.sy_tree.specs.Terms.{path, compares, cmp, target, guard, kind_word, event, situation, measure, duration, moment, date}
use Rattle.sy_reader.specs.Machine.Reading as reader
use Rattle.sy_reader.specs.Machine.Reading.{give, is_kind, sign_at}
use Rattle.sy_tree.specs.Machine.ReadingTerms.{cmp_by, cmp_at, target_at, guard_at, guards_at, declared_at, event_at, equality_at, situation_at, measured_at, measure_by, measure_at, count_at, duration_at, time_at, moment_by, moment_at, date_at}
use Rattle.sy_reader.proofs.Places.{Places, filled_wider, spelled_places, then_places, node_places, token_places, keyword_places, sign_places, behind_places, between_places}
use Rattle.sy_reader.proofs.PlacesChoices.{Ways, way, tagged_ways, same_ways, ◌or◌, by_next_places, either_places, first_places, optional_places, same_places, reads_places}
use Rattle.sy_reader.proofs.PlacesMany.{up_to_places, behind_takes, listed_places}
use Rattle.sy_tree.proofs.AgreeEvents.{cmp_covers, guarded, declared, internal, internal_at, event_by, some_internal, event_covers, event_to, event_back, event_by_next, measure_of, named_by, measure_to, measure_back, measure_covers, moment_covers}
use Rattle.sy_tree.proofs.PlacesTerms.{path_places, rhs_places}

compares_places : (s : Sign) (c : Cmp) → Places (compares s c) (reader.◌>>=◌ (sign_at s) λ place. give (record { cmp = c; place = place }))
compares_places s c = then_places (sign_places s) λ place. spelled_places _

abbrev cmp_ways : Ways cmp cmp_by
cmp_ways = way (compares_places Sg.Equal C.Eq) or way (compares_places Sg.NotEqual C.Ne) or way (compares_places Sg.Less C.Lt) or way (compares_places Sg.AtMost C.Le) or way (compares_places Sg.Greater C.Gt) or way (compares_places Sg.AtLeast C.Ge)

pub cmp_places : Places cmp cmp_at
unfolding cmp_at
cmp_places = by_next_places cmp_ways cmp_covers (filled_wider (λ from x rest d. inl (inl (inl (inl (inl d))))) (compares_places Sg.Equal C.Eq).filled)

pub target_places : Places target target_at
unfolding target_at
target_places = either_places (S.Reserved K.ThisContract) (node_places Target.Named (token_places S.Word)) (node_places Target.Contract (keyword_places K.ThisContract))

guard_places : Places guard guard_at
unfolding guard_at
guard_places = then_places (token_places S.Word) λ name. then_places cmp_places λ cmp. node_places (λ value. record { name = name; cmp = cmp; value = value }) rhs_places

guards_places : Places (grammar.◌or◌ guarded (spelled [])) guards_at
guards_places = optional_places (S.Sign OpenBracket) [] (between_places OpenBracket CloseBracket (listed_places guard_places))

declared_places : Places declared declared_at
declared_places = then_places (token_places S.Word) λ name. node_places (Event.Declared name) guards_places

internal_places : (kind : Kind) → Places (internal kind) (internal_at kind)
internal_places kind = then_places (keyword_places (kind_word kind)) λ place. node_places (Event.Internal kind place) (between_places Open Close target_places)

abbrev event_ways : Ways (grammar.◌or◌ declared some_internal) event_by
event_ways = way declared_places or tagged_ways internal_at internal_places

pub event_places : Places event event_at
unfolding event_at
event_places = reads_places (same_places (by_next_places event_ways event_covers (filled_wider (λ from x rest d. inl d) declared_places.filled)) event_to event_back) event_by_next

equality_places : Places (grammar.◌or◌ (grammar.◌>>=◌ (sign Sg.Equal) λ _. spelled true) (grammar.◌>>=◌ (sign Sg.NotEqual) λ _. spelled false)) equality_at
equality_places = either_places (S.Sign Sg.NotEqual) (then_places (sign_places Sg.Equal) λ _. spelled_places true) (then_places (sign_places Sg.NotEqual) λ _. spelled_places false)

pub situation_places : Places situation situation_at
unfolding situation_at
situation_places = then_places (keyword_places K.State) λ place. then_places (between_places Open Close target_places) λ target. then_places equality_places λ equal. node_places (λ state. record { place = place; target = target; equal = equal; state = state }) (token_places S.Word)

named_places : (word : Measure → Keyword) (m : Measure) → Places (grammar.◌>>=◌ (token (S.Reserved (word m))) (λ w. spelled (measure_of m w))) (measured_at (Some m) (word m))
named_places word m = node_places (measure_of m) (token_places (S.Reserved (word m)))

abbrev named_ways : (word : Measure → Keyword) → Ways (named_by word) measure_by
named_ways word = tagged_ways (λ m. measured_at (Some m) (word m)) (named_places word)

abbrev measure_ways : Ways measure measure_by
measure_ways = same_ways (named_ways singular_keyword or named_ways plural_keyword) measure_to measure_back

measure_places : Places measure measure_at
unfolding measure_at
measure_places = by_next_places measure_ways measure_covers
    (filled_wider measure_to (filled_wider (λ from x rest d. inl (M.Minutes, d)) (named_places singular_keyword M.Minutes).filled))

count_places : Places (grammar.◌or◌ (grammar.◌>>=◌ (token S.Number) λ x. spelled (Count.Number x)) (grammar.◌>>=◌ path λ x. spelled (Count.Path x))) count_at
unfolding count_at
count_places = first_places S.Number (node_places Count.Number (token_places S.Number)) (node_places Count.Path path_places)

duration_places : Places duration duration_at
unfolding duration_at
duration_places = then_places count_places λ count. node_places _ measure_places

time_places : Places (grammar.◌>>=◌ (grammar.keyword K.Time) λ place. grammar.◌>>=◌ (grammar.between Open event Close) λ event. spelled (Moment.Time place event)) time_at
time_places = then_places (keyword_places K.Time) λ place. node_places (Moment.Time place) (between_places Open Close event_places)

abbrev moment_ways : Ways moment moment_by
moment_ways = way (node_places Moment.Fixed (token_places S.Date)) or way (node_places Moment.Path path_places) or way time_places

moment_places : Places moment moment_at
unfolding moment_at
moment_places = by_next_places moment_ways moment_covers (filled_wider (λ from x rest d. inl (inl d)) (node_places Moment.Fixed (token_places S.Date)).filled)

pub date_places : Places date date_at
unfolding date_at
date_places = then_places moment_places λ moment. node_places (λ plus. record { moment = moment; plus = plus }) (up_to_places (λ kind. is_kind kind (S.Sign Plus)) (behind_places Plus duration_places) (behind_takes Plus duration_places) 8)
