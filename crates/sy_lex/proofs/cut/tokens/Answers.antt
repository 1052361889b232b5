use Rattle.std.proofs.Common.{rules}
use Rattle.sy_lex.proofs.Whole.{Answers, is_found, is_read, at_most_one}
use Rattle.sy_lex.proofs.Faults.{is_refused, one_fault, text_or_fault}
use Rattle.sy_lex.proofs.cut.tokens.Goals as goal

answered : (c : goal.After-map_err) → Answers c.args.file c.cut.result c.map_err.result
answered c = search rules

pub returns-clause-found : goal.returns-clause-found
returns-clause-found c = is_found c.args.file c.cut.result c.map_err.result c.args.bytes.now (answered c) c.cut.ensures

pub returns-clause-only : goal.returns-clause-only
returns-clause-only c = is_read c.args.file c.cut.result c.map_err.result c.args.bytes.now (answered c) c.cut.ensures

pub returns-clause-one : goal.returns-clause-one
returns-clause-one c = λ tokens others. at_most_one tokens others c.args.bytes.now

pub returns-clause-refusal : goal.returns-clause-refusal
returns-clause-refusal c = is_refused c.args.file c.cut.result c.map_err.result c.args.bytes.now (answered c) c.cut.ensures

pub returns-clause-one_refusal : goal.returns-clause-one_refusal
returns-clause-one_refusal c = one_fault c.args.bytes.now

pub returns-clause-either : goal.returns-clause-either
returns-clause-either c = text_or_fault c.args.bytes.now
