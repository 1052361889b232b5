-- The words of a refusal: the text in which its cause stands, and the fault's name.
use Rattle.std.specs.Prelude.{ℕ, List, codes}
use Rattle.sy_base.specs.declared.refusal.FileKind.{FileKind}
use Rattle.sy_base.specs.declared.refusal.FileKind.TheVariants as F
use Rattle.sy_base.specs.declared.refusal.FaultName.{FaultName}
use Rattle.sy_base.specs.declared.refusal.FaultName.TheVariants as N

-- the word of a text
abbrev pub file_word : FileKind → List ℕ
file_word F.Spec = codes "spec"
file_word F.Bind = codes "bind"
file_word F.Props = codes "props"
file_word F.Log = codes "log"
file_word F.Cert = codes "cert"
file_word F.Run = codes "run"
file_word F.Words = codes "words"

-- the word of a fault
abbrev pub fault_word : FaultName → List ℕ
fault_word N.LexFault = codes "LexFault"
fault_word N.SyntaxFault = codes "SyntaxFault"
fault_word N.TooBig = codes "TooBig"
fault_word N.DuplicateName = codes "DuplicateName"
fault_word N.UnknownName = codes "UnknownName"
fault_word N.CyclicIsA = codes "CyclicIsA"
fault_word N.WrongType = codes "WrongType"
fault_word N.NumberOutOfRange = codes "NumberOutOfRange"
fault_word N.BadDate = codes "BadDate"
fault_word N.BadUnit = codes "BadUnit"
fault_word N.SituationInConsequent = codes "SituationInConsequent"
fault_word N.TooMany = codes "TooMany"
fault_word N.InstantCycle = codes "InstantCycle"
fault_word N.DuplicateParam = codes "DuplicateParam"
fault_word N.ExtraParam = codes "ExtraParam"
fault_word N.MissingParam = codes "MissingParam"
fault_word N.WrongParamType = codes "WrongParamType"
fault_word N.PreconditionFalse = codes "PreconditionFalse"
fault_word N.ConstraintFalse = codes "ConstraintFalse"
fault_word N.MissingDomain = codes "MissingDomain"
fault_word N.TooManyValues = codes "TooManyValues"
fault_word N.BadBound = codes "BadBound"
fault_word N.BadToken = codes "BadToken"
fault_word N.WrongValues = codes "WrongValues"
fault_word N.TooEarly = codes "TooEarly"
fault_word N.TooLong = codes "TooLong"
fault_word N.TooManyLines = codes "TooManyLines"
fault_word N.OtherProperty = codes "OtherProperty"
fault_word N.OutsideBound = codes "OutsideBound"
fault_word N.OutsideValues = codes "OutsideValues"
fault_word N.TooLarge = codes "TooLarge"
