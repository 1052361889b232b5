-- How reading the files of a run ends.
use Rattle.std.specs.Prelude.{⊤, Bool, true, false, Result, Ok, Err}
use Rattle.sy_base.specs.declared.refusal.Refused.{Refused as WhyNot}
use Rattle.sy_base.specs.declared.refusal.Refused.TheVariants as R
use Rattle.sy_run.specs.declared.stop.Stop.{Stop}
use Rattle.sy_run.specs.declared.stop.Stop.TheVariants.{ReadFault, Refused, Memory}

-- a read failed
abbrev pub is_read_stop : Stop → Bool
is_read_stop ReadFault = true
is_read_stop (Refused refusal) = false
is_read_stop Memory = false

-- what is answered is what the told files may give; a failed read and want of memory say nothing of them
abbrev pub IsToldAs : {A : Type 0} → (Result A Stop → Type 0) → Result A Stop → Type 0
IsToldAs IsGiven (Ok x) = IsGiven (Ok x)
IsToldAs IsGiven (Err (Refused refusal)) = IsGiven (Err (Refused refusal))
IsToldAs IsGiven (Err ReadFault) = ⊤
IsToldAs IsGiven (Err Memory) = ⊤

-- how a text that gave no value ends the run
abbrev pub stop_of : WhyNot → Stop
stop_of (R.Refusal refusal) = Refused refusal
stop_of R.Memory = Memory

-- no read failed
abbrev pub NoReadStop : {A : Type 0} → Result A Stop → Type 0
NoReadStop (Ok x) = ⊤
NoReadStop (Err ReadFault) = ⊥
NoReadStop (Err (Refused refusal)) = ⊤
NoReadStop (Err Memory) = ⊤
