-- A table into which entries are put under names has each name once.
use Rattle.std.proofs.Common.{◌≡◌, ℕ, Bool, true, false, not, ◌&&◌, ◌||◌, if◌then◌else◌, List, [], ◌∷◌, refl, sym, ap, ◌∙◌}
use Rattle.std.specs.List.{list_any}
use Rattle.std.specs.Map.{keys_of}
use Rattle.indexmap.specs.IndexMap.{insert_entry}
use Rattle.sy_core.specs.Soundness.{are_distinct}
use Rattle.sy_core.proofs.Listing.{and_left, and_right}
use Rattle.sy_domain.specs.Names.{same}
use Rattle.sy_apart.proofs.Distinct.{same_turned}

-- another name is found as before
other_found : {V : Type 0} (x key : List ℕ) (member : V) (members : List (List ℕ × V)) → same x key ≡ false → list_any (same x) (keys_of (insert_entry same members key member)) ≡ list_any (same x) (keys_of members)
other_found x key member [] apart = ap (λ b. b || false) apart
other_found x key member (m ∷ members) apart = at (same key m.0) (other_found x key member members apart)
  where
    at : (b : Bool) → list_any (same x) (keys_of (insert_entry same members key member)) ≡ list_any (same x) (keys_of members)
        → list_any (same x) (keys_of (if b then (m.0, member) ∷ members else m ∷ insert_entry same members key member)) ≡ (same x m.0 || list_any (same x) (keys_of members))
    at true later = refl
    at false later = ap (λ b. same x m.0 || b) later

pub put_distinct : {V : Type 0} (key : List ℕ) (member : V) (members : List (List ℕ × V)) → are_distinct (keys_of members) ≡ true → are_distinct (keys_of (insert_entry same members key member)) ≡ true
put_distinct key member [] h = refl
put_distinct key member (m ∷ members) h =
    let here = and_left (not (list_any (same m.0) (keys_of members))) (are_distinct (keys_of members)) h in
    let rest = and_right (not (list_any (same m.0) (keys_of members))) (are_distinct (keys_of members)) h in
    at (same key m.0) refl here (put_distinct key member members rest)
  where
    at : (b : Bool) → same key m.0 ≡ b → not (list_any (same m.0) (keys_of members)) ≡ true → are_distinct (keys_of (insert_entry same members key member)) ≡ true
        → are_distinct (keys_of (if b then (m.0, member) ∷ members else m ∷ insert_entry same members key member)) ≡ true
    at true e here rest = h
    at false e here rest =
        let first = ap not (other_found m.0 key member members (same_turned m.0 key ∙ e)) ∙ here in
        λ j. first j && rest j
