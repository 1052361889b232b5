-- What a name stands for: a basic type of that name, or the thing with a number that is there and has it.
use Rattle.std.specs.Prelude.{◌≡◌, ℕ, codes, List, [], Option, Some, None, slice_get}
use Rattle.sy_words.specs.declared.form.Form.TheVariants as Form
use Rattle.sy_lex.specs.declared.written.Written.{Written}
use Rattle.sy_spec.specs.declared.domain.TypeTree.{TypeTree}
use Rattle.sy_spec.specs.declared.contract.SpecTree.{SpecTree}
use Rattle.sy_domain.specs.declared.meaning.Meaning.{Meaning}
use Rattle.sy_domain.specs.declared.meaning.Meaning.TheVariants as M
use Rattle.sy_domain.specs.declared.meaning.Sort.TheVariants as Sort
use Rattle.sy_domain.specs.Chains.{type_name}
use Rattle.sy_apart.specs.Apart.{constants_of}

-- the thing with the number is there, and has the name
abbrev pub IsNamed : {A : Type 0} → (A → Written) → List A → ℕ → List ℕ → Type 0
IsNamed {A} name_of things i name = (x : A) × (slice_get things i ≡ Some x) × ((name_of x).text ≡ name)

-- the constants of the type that is there
abbrev pub constants_if : Option TypeTree → List Written
constants_if None = []
constants_if (Some tree) = constants_of tree

-- the name is that of what it stands for
abbrev pub StandsFor : SpecTree → List ℕ → Meaning → Type 0
StandsFor spec name (M.Type Sort.Number) = name ≡ codes "Number"
StandsFor spec name (M.Type Sort.Text) = name ≡ codes "Text"
StandsFor spec name (M.Type Sort.Boolean) = name ≡ codes "Boolean"
StandsFor spec name (M.Type Sort.Date) = name ≡ codes "Date"
StandsFor spec name (M.Type (Sort.Declared i)) = IsNamed type_name spec.domain.types i name
StandsFor spec name (M.Constant i k) = IsNamed (λ c. c) (constants_if (slice_get spec.domain.types i)) k name
StandsFor spec name (M.Parameter i) = IsNamed (λ p. p.name) spec.contract.parameters i name
StandsFor spec name (M.Declaration i) = IsNamed (λ d. d.name) spec.contract.declarations i name
StandsFor spec name (M.Position Form.Obligation i) = IsNamed (λ o. o.name) spec.contract.obligations i name
StandsFor spec name (M.Position Form.Surviving i) = IsNamed (λ o. o.name) spec.contract.surviving i name
StandsFor spec name (M.Position Form.Power i) = IsNamed (λ p. p.name) spec.contract.powers i name
