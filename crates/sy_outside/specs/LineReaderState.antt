-- What a reader of lines keeps.
use Rattle.std.specs.Prelude.{ℕ, Bool, true, false, List, []}

pub record LineReaderState : Type 0 where
  -- the next line may be asked for
  pub live : Bool
  -- a read has given it the end of input
  pub ended : Bool
  -- the bytes that were read and not yet given
  pub held : List ℕ
  -- how many lines it has given
  pub given : ℕ

-- a new reader
abbrev pub new_line_reader : LineReaderState
new_line_reader = record { live = true; ended = false; held = []; given = 0 }
