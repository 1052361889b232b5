use Rattle.std.proofs.Common.{sym, rules}
use Rattle.std.proofs.lemmas.Fn.{always_returns_same}
use Rattle.sy_lex.proofs.Words.{against, searchable, is_answer, searched, searched_in_vain}
use Rattle.sy_lex.proofs.keyword.Keyword.of.Goals as goal

pub returns-in-Ok : goal.returns-in-Ok
returns-in-Ok c =
    let word = c.args.word.now in
    let same = c.in-Ok.ensures.position (against word) (search (rules, always_returns_same)) in
    let found = searched word c.in-Ok.at _ (same _) in
    record { value = sym found; text = is_answer word _ found }

pub returns-in-Err : goal.returns-in-Err
returns-in-Err c =
    let word = c.args.word.now in
    let parts = c.in-Err.ensures.position (against word) (search (rules, always_returns_same)) (searchable word) in
    let none = searched_in_vain word _ parts in
    record { value = sym none; text = is_answer word _ none }
