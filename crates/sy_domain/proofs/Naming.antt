-- A name that is declared for the first time.
use Rattle.std.proofs.Common.{◌≡◌, ℕ, Bool, true, false, List, [], ◌∷◌, ◌++◌, Option, Some, None, is_some, if◌then◌else◌, refl, sym, ap, ◌∙◌, true≢false}
use Rattle.std.specs.Map.{lookup}
use Rattle.indexmap.specs.IndexMap.{insert_entry}
use Rattle.indexmap.proofs.MapLemmas.{absent_from_lookup, insert_entry-absent}
use Rattle.sy_domain.specs.Failures.{at}
use Rattle.sy_domain.specs.Names.{Table, Naming, Named, declare, entry, meaning_in, same}

none : {A : Type 0} (o : Option A) → is_some o ≡ false → o ≡ None
none None e = refl
none (Some a) e = absurd (true≢false e)

pub declare-new : (s : Naming) (n : Named) (key : List ℕ) (t : Table)
    → key ≡ n.name.text → is_some (meaning_in s.table n.name.text) ≡ false
    → t ≡ insert_entry same s.table key n.meaning → record { table = t; repeated = s.repeated } ≡ declare s n
declare-new s n key t is absent e =
    ap (λ u. let r : Naming = record { table = u; repeated = s.repeated } in r)
    (e ∙ ap (λ k. insert_entry same s.table k n.meaning) is
    ∙ insert_entry-absent same n.name.text n.meaning s.table
    (absent_from_lookup (same n.name.text) s.table (none (meaning_in s.table n.name.text) absent)))
    ∙ sym (ap (λ b. let r : Naming = if b
    then record { table = s.table; repeated = s.repeated ++ at n.name ∷ [] }
    else record { table = s.table ++ entry n ∷ []; repeated = s.repeated } in r) absent)
