-- The world outside a run, as contracts see it at one moment.
use Rattle.std.specs.Prelude.{◌≡◌, ℕ, List, Option}
use Rattle.sy_outside.specs.Outside.{RoseSince}

-- what is known of the files, the input and the output, and how many calls on each have failed
pub record World : Type 0 where
  -- of the file with a name: nothing, or that it is missing, or its bytes
  pub file : List ℕ → Option (Option (List ℕ))
  -- the bytes of the input that are left
  pub left : Option (List ℕ)
  -- the bytes that the output holds
  pub held : Option (List ℕ)
  pub file_faults : ℕ
  pub input_faults : ℕ
  pub output_faults : ℕ

-- a call failed between two moments: on the files, on the input, on the output
abbrev pub FilesFailed : World → World → Type 0
FilesFailed before after = RoseSince before.file_faults after.file_faults

abbrev pub InputFailed : World → World → Type 0
InputFailed before after = RoseSince before.input_faults after.input_faults

abbrev pub OutputFailed : World → World → Type 0
OutputFailed before after = RoseSince before.output_faults after.output_faults

-- the counts of failed reads are what they were
pub record ReadsSteady (before after : World) : Type 0 where
  pub files : after.file_faults ≡ before.file_faults
  pub input : after.input_faults ≡ before.input_faults

-- the count of failed writes is what it was
abbrev pub WritesSteady : World → World → Type 0
WritesSteady before after = after.output_faults ≡ before.output_faults

-- no call failed
pub record NoneFailed (before after : World) : Type 0 where
  pub files : FilesFailed before after → ⊥
  pub input : InputFailed before after → ⊥
  pub output : OutputFailed before after → ⊥

-- the input wasn't read
pub record InputStays (before after : World) : Type 0 where
  pub left : after.left ≡ before.left
  pub faults : after.input_faults ≡ before.input_faults
