-- What reading a whole file gives.
use Rattle.std.specs.Prelude.{◌≡◌, ℕ, ◌<◌, List, length, ⊤, None, Some, Bool, true, false}
use Rattle.std.specs.declared.option.Option.{Option}
use Rattle.sy_outside.specs.declared.read.FileFault.{FileFault}
use Rattle.sy_outside.specs.declared.read.FileFault.TheVariants.{ReadFault, TooBig, Memory}

-- the bytes of a file that is told; a missing one has none
abbrev pub IsContent : Option (Option (List ℕ)) → List ℕ → Type 0
IsContent None text = ⊤
IsContent (Some None) text = ⊥
IsContent (Some (Some file)) text = text ≡ file

-- a file that is told is too big
abbrev pub IsTooBig : Option (Option (List ℕ)) → Type 0
IsTooBig None = ⊤
IsTooBig (Some None) = ⊥
IsTooBig (Some (Some file)) = 1048576 < length file

-- a fault that a call outside made
abbrev pub is_file_fault : FileFault → Bool
is_file_fault ReadFault = true
is_file_fault TooBig = false
is_file_fault Memory = false
