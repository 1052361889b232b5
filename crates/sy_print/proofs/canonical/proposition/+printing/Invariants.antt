use Rattle.std.proofs.Common.{◌≡◌, ◌++◌, map, take}
use Rattle.std.specs.List.{flat_map}
use Rattle.sy_lex.specs.declared.keyword.Keyword.TheVariants.{And, Or}
use Rattle.sy_print.specs.CanonicalText.{forms, keyword}
use Rattle.sy_print.proofs.canonical.proposition.+printing.Given as goal

abbrev pub invariant-put_all-part : goal.invariant-put_all-part
invariant-put_all-part l =
    l.out ≡ l.initial.out ++ flat_map (λ w. keyword And ++ w.in_and) (map forms (take l.part-index l.others))

abbrev pub invariant-put_any-part : goal.invariant-put_any-part
invariant-put_any-part l =
    l.out ≡ l.initial.out ++ flat_map (λ w. keyword Or ++ w.in_or) (map forms (take l.part-index l.others))
