-- An attribute of a parameter is missing where no field of its name is found.
use Rattle.std.proofs.Common.{◌≡◌, ℕ, Bool, true, false, codes, List, [], ◌∷◌, ◌++◌, Option, Some, None, Bor, option_copied, is_some, if◌then◌else◌, refl, sym, ap, ◌∙◌}
use Rattle.std.specs.List.{find}
use Rattle.sy_binding.specs.declared.tree.FieldTree.{FieldTree}
use Rattle.sy_domain.specs.declared.failure.Failure.{Failure}
use Rattle.sy_given.specs.BoundNames.{absent, missing_attribute}
use Rattle.sy_given.specs.Givens.{has_field_name}
use Rattle.sy_given.proofs.Places.{found_any}

pub copied_some : {A : Type 0} (found : Option (Bor A)) → is_some (option_copied found) ≡ is_some found
copied_some None = refl
copied_some (Some a) = refl

module _ (parameter : List ℕ) (fields : List FieldTree) (attribute : List ℕ) where
  is_missing : (there : Bool) → is_some (find (has_field_name attribute) fields) ≡ there
      → missing_attribute parameter fields attribute
      ≡ (if there then [] else absent (parameter ++ codes "." ++ attribute) ∷ [])
  is_missing there is =
      ap (λ b. let fs : List Failure = if b then [] else absent (parameter ++ codes "." ++ attribute) ∷ [] in fs)
      (sym (found_any (has_field_name attribute) fields) ∙ is)

  pub not_found : is_some (find (has_field_name attribute) fields) ≡ false
      → missing_attribute parameter fields attribute ≡ absent (parameter ++ codes "." ++ attribute) ∷ []
  not_found = is_missing false

  pub is_found : is_some (find (has_field_name attribute) fields) ≡ true
      → missing_attribute parameter fields attribute ≡ []
  is_found = is_missing true
