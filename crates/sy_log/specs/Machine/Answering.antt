-- How what a line says is answered.
use Rattle.std.specs.Prelude.{◌≡◌, ℕ, List, [], ◌∷◌, Result, Ok, Err}
use Rattle.sy_base.specs.declared.refusal.FaultName.{FaultName}
use Rattle.sy_base.specs.declared.refusal.FaultName.TheVariants.{BadToken}
use Rattle.sy_lex.specs.declared.token.Token.{Token}
use Rattle.sy_lex.specs.Lexemes.{lexemes_of}
use Rattle.sy_reader.specs.Machine.Reading.{whole_at}
use Rattle.sy_core.specs.declared.deed.Deed.{Deed}
use Rattle.sy_log.specs.declared.fault.LineFault.{LineFault}
use Rattle.sy_log.specs.declared.fault.LineFault.TheVariants as F
use Rattle.sy_log.specs.declared.read.Entry.{Entry}
use Rattle.sy_log.specs.declared.read.Entry.TheVariants as E
use Rattle.sy_log.specs.declared.tree.LineTree.{LineTree}
use Rattle.sy_log.specs.Entries.{entry_of, IsEntry}
use Rattle.sy_log.specs.Machine.ReadingLine.{line_at}

-- what was answered is what is told, unless memory was wanting
abbrev pub Tells : {A : Type 0} → Result A LineFault → Result A FaultName → Type 0
Tells (Ok x) told = told ≡ Ok x
Tells (Err F.Memory) told = Unit {0}
Tells (Err (F.Fault name)) told = told ≡ Err name

-- the tree that was read of some tokens
abbrev pub tree_read : Result LineTree ℕ → Result LineTree FaultName
tree_read (Ok tree) = Ok tree
tree_read (Err left) = Err BadToken

-- the entry of a tree, where there is one
abbrev pub entry_read : Deed → Result LineTree FaultName → Result Entry FaultName
entry_read deed (Ok tree) = entry_of deed tree
entry_read deed (Err name) = Err name

-- the entry of some tokens
abbrev pub entry_of_tokens : Deed → List ℕ → List Token → Result Entry FaultName
entry_of_tokens deed bytes [] = Ok E.Blank
entry_of_tokens deed bytes (token ∷ tokens) = entry_read deed (tree_read (whole_at line_at (lexemes_of bytes (token ∷ tokens))))

-- what was answered is what the bytes say, unless memory was wanting
abbrev pub IsTold : Deed → List ℕ → Result Entry LineFault → Type 0
IsTold deed bytes (Ok entry) = IsEntry deed bytes (Ok entry)
IsTold deed bytes (Err F.Memory) = Unit {0}
IsTold deed bytes (Err (F.Fault name)) = IsEntry deed bytes (Err name)
