-- The numbers of a deed's parts that the size of its text bounds: each is to be below 2^32.
use Rattle.std.specs.Prelude.{ℕ, Bool, ◌&&◌, length}
use Rattle.std.specs.List.{list_all}
use Rattle.sy_core.specs.declared.proposition.Prop.{Prop}
use Rattle.sy_core.specs.declared.deed.Deed.{Deed}
use Rattle.sy_core.specs.Limits.{guards_of, is_few, of_deed, size_of}
use Rattle.sy_core.specs.Mentions.{dates_of}
use Rattle.sy_core.specs.Wakes.{dates_of_deed}

-- how many date terms a proposition has
abbrev pub dates_in : Prop → ℕ
dates_in prop = length (dates_of prop)

-- its propositions, guards, date terms, postconditions and enumerations are few, and the attributes of each event and the constants of each
-- enumeration
abbrev pub has_few_parts : Deed → Bool
has_few_parts deed =
    is_few (of_deed size_of deed)
    && is_few (of_deed guards_of deed)
    && is_few (length (dates_of_deed deed))
    && is_few (length deed.posts)
    && list_all (λ event. is_few (length event.attrs)) deed.events
    && is_few (length deed.choices)
    && list_all (λ choices. is_few (length choices.names)) deed.choices
