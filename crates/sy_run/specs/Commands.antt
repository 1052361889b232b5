-- What the words of a run ask for.
use Rattle.std.specs.Prelude.{ℕ, Bool, nat_eq, if◌then◌else◌, List, [], ◌∷◌, codes, ⊤, IsTrue}
use Rattle.std.specs.Cmp.Lexicographic.{pointwise}

-- a command, with the names of its files
pub data Command : Type 0 where
  -- `compile SPEC`
  Compile : List ℕ → Command
  -- `monitor SPEC BIND`
  Monitor : List ℕ → List ℕ → Command
  -- words that are no command
  Unknown : Command

-- the command that the words give
abbrev pub command_of : List (List ℕ) → Command
command_of (word ∷ spec ∷ []) = if pointwise nat_eq word (codes "compile") then Compile spec else Unknown
command_of (word ∷ spec ∷ bind ∷ []) = if pointwise nat_eq word (codes "monitor") then Monitor spec bind else Unknown
command_of words = Unknown

-- the files that the command names are lent
abbrev pub LendsTo : (List ℕ → Bool) → Command → Type 0
LendsTo lent (Compile spec) = IsTrue (lent spec)
LendsTo lent (Monitor spec bind) = IsTrue (lent spec) × IsTrue (lent bind)
LendsTo lent Unknown = ⊤

-- the command reads the input
abbrev pub ReadsInput : Command → Type 0
ReadsInput (Compile spec) = ⊥
ReadsInput (Monitor spec bind) = ⊤
ReadsInput Unknown = ⊥

-- the line that tells how the program is used
abbrev pub usage_line : List ℕ
usage_line =
    codes "usage: symboleo compile SPEC | monitor SPEC BIND | check SPEC BIND PROPS BUDGET | certify SPEC BIND PROPS NAME BUDGET | verify SPEC BIND PROPS NAME | replay SPEC BIND PROPS NAME | make SEED COUNT\n"
