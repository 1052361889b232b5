use Rattle.std.proofs.Common.{◌≡◌, ◌++◌, drop, option_map}
use Rattle.sy_log.specs.Values as values
use Rattle.sy_log.proofs.values.all_given.Given as goal

-- those that were given, and the rest of them, are all
abbrev pub invariant-attr : goal.invariant-attr
invariant-attr l =
    option_map (λ later. l.given ++ later) (values.all_given l.deed l.fields (drop l.attr-index l.attrs))
    ≡ values.all_given l.deed l.fields l.attrs
