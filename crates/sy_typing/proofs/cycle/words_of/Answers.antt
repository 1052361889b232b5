use Rattle.std.proofs.Common.{◌≡◌, ◌∙◌}
use Rattle.std.proofs.lemmas.Result.{IfOk-weaker}
use Rattle.sy_typing.specs.Plans.{node_texts}
use Rattle.sy_typing.proofs.Lines.{none_left, rest_left, words_by_node}
use Rattle.sy_typing.proofs.cycle.words_of.Goals as goal

pub returns-in-empty : goal.returns-in-empty
returns-in-empty c =
    let deed = c.args.deed.now in
    let numbers = c.args.numbers.now in
    let is = c.as_slice.ensures.value ∙ (c.in_ok-spaced.ensures ∙ words_by_node deed numbers) in
    IfOk-weaker c.new.result _ _
    (λ text e. e ∙ none_left (node_texts deed numbers) c.as_slice.result.now is c.in-empty.len_below) c.new.ensures

pub returns : goal.returns
returns c =
    let deed = c.args.deed.now in
    let numbers = c.args.numbers.now in
    let is = c.as_slice.ensures.value ∙ (c.in_ok-spaced.ensures ∙ words_by_node deed numbers) in
    IfOk-weaker c.new-in-len1-up.result _ _
    (λ text e. e ∙ rest_left (node_texts deed numbers) c.as_slice.result.now is) c.new-in-len1-up.ensures
