-- The first token of a phrase.
use Rattle.std.specs.Prelude.{List, ℕ, Bool, true, false, codes}
use Rattle.sy_base.specs.declared.refusal.Place.{Place}
use Rattle.sy_lex.specs.declared.written.Written.{Written}
use Rattle.sy_tree.specs.declared.term.RhsTree.{RhsTree}
use Rattle.sy_tree.specs.declared.term.RhsTree.TheVariants as Rhs
use Rattle.sy_tree.specs.declared.term.TermTree.{TermTree}
use Rattle.sy_tree.specs.declared.term.FactorTree.{FactorTree}
use Rattle.sy_tree.specs.declared.term.SingleTree.{SingleTree}
use Rattle.sy_tree.specs.declared.term.SingleTree.TheVariants as Single
use Rattle.sy_tree.specs.declared.term.PathTree.{PathTree}
use Rattle.sy_tree.specs.declared.term.PathTree.TheVariants as Path

-- a word or a sign that stands there
abbrev pub written : List ℕ → Place → Written
written text place = record { text = text; place = place }

abbrev pub path_token : PathTree → Written
path_token (Path.Name x) = x
path_token (Path.Attribute x a) = x
path_token (Path.Inner x a b) = x

abbrev pub single_token : SingleTree → Written
single_token (Single.Number n) = n
single_token (Single.Negative place n) = written (codes "-") place
single_token (Single.Str t) = t
single_token (Single.Date t) = t
single_token (Single.Path p) = path_token p

abbrev pub factor_token : FactorTree → Written
factor_token f = single_token f.first

abbrev pub term_token : TermTree → Written
term_token t = factor_token t.first

abbrev pub truth_token : Bool → Place → Written
truth_token true place = written (codes "true") place
truth_token false place = written (codes "false") place

abbrev pub rhs_token : RhsTree → Written
rhs_token (Rhs.Term t) = term_token t
rhs_token (Rhs.Const value place) = truth_token value place
