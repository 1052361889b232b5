-- The reserved words, each with its text, and the two words of each measure.
use Rattle.std.specs.Prelude.{ℕ, List, codes, Option, nat_eq}
use Rattle.std.specs.List.{find}
use Rattle.std.specs.Cmp.Lexicographic.{pointwise}
use Rattle.sy_base.specs.declared.time.Measure.{Measure}
use Rattle.sy_base.specs.declared.time.Measure.TheVariants as M
use Rattle.sy_base.specs.Measures.{singular_word, plural_word}
use Rattle.sy_lex.specs.declared.keyword.Keyword.{Keyword}
use Rattle.sy_lex.specs.declared.keyword.Keyword.TheVariants as K
use Rattle.sy_lex.specs.declared.keyword.TheConstants.{KEYWORDS}

abbrev pub keyword_text : Keyword → List ℕ
keyword_text K.Domain = codes "Domain"
keyword_text K.EndDomain = codes "endDomain"
keyword_text K.IsA = codes "isA"
keyword_text K.IsAn = codes "isAn"
keyword_text K.Role = codes "Role"
keyword_text K.Asset = codes "Asset"
keyword_text K.Event = codes "Event"
keyword_text K.Enumeration = codes "Enumeration"
keyword_text K.With = codes "with"
keyword_text K.Env = codes "Env"
keyword_text K.Contract = codes "Contract"
keyword_text K.EndContract = codes "endContract"
keyword_text K.Unit = codes "unit"
keyword_text K.Minute = singular_word M.Minutes
keyword_text K.Minutes = plural_word M.Minutes
keyword_text K.Hour = singular_word M.Hours
keyword_text K.Hours = plural_word M.Hours
keyword_text K.Day = singular_word M.Days
keyword_text K.Days = plural_word M.Days
keyword_text K.Week = singular_word M.Weeks
keyword_text K.Weeks = plural_word M.Weeks
keyword_text K.Month = codes "Month"
keyword_text K.Months = codes "Months"
keyword_text K.Year = codes "Year"
keyword_text K.Years = codes "Years"
keyword_text K.Declarations = codes "Declarations"
keyword_text K.Preconditions = codes "Preconditions"
keyword_text K.Postconditions = codes "Postconditions"
keyword_text K.Obligations = codes "Obligations"
keyword_text K.Surviving = codes "Surviving"
keyword_text K.Powers = codes "Powers"
keyword_text K.Constraints = codes "Constraints"
keyword_text K.O = codes "O"
keyword_text K.P = codes "P"
keyword_text K.True = codes "true"
keyword_text K.False = codes "false"
keyword_text K.And = codes "and"
keyword_text K.Or = codes "or"
keyword_text K.Not = codes "not"
keyword_text K.Happens = codes "happens"
keyword_text K.HappensBefore = codes "happensBefore"
keyword_text K.HappensAfter = codes "happensAfter"
keyword_text K.HappensWithin = codes "happensWithin"
keyword_text K.Occurs = codes "occurs"
keyword_text K.Holds = codes "holds"
keyword_text K.Time = codes "time"
keyword_text K.State = codes "state"
keyword_text K.ThisContract = codes "contract"
keyword_text K.Suspends = codes "suspends"
keyword_text K.Resumes = codes "resumes"
keyword_text K.Discharges = codes "discharges"
keyword_text K.Terminates = codes "terminates"
keyword_text K.Triggers = codes "triggers"
keyword_text K.Rescinds = codes "rescinds"
keyword_text K.Exerted = codes "exerted"
keyword_text K.Triggered = codes "triggered"
keyword_text K.Activated = codes "activated"
keyword_text K.Resumed = codes "resumed"
keyword_text K.Suspended = codes "suspended"
keyword_text K.Fulfilled = codes "fulfilled"
keyword_text K.Violated = codes "violated"
keyword_text K.Expired = codes "expired"
keyword_text K.Discharged = codes "discharged"
keyword_text K.Terminated = codes "terminated"
keyword_text K.Completed = codes "completed"
keyword_text K.Rescinded = codes "rescinded"
keyword_text K.Start = codes "start"
keyword_text K.Values = codes "values"
keyword_text K.In = codes "in"
keyword_text K.Assume = codes "assume"
keyword_text K.Property = codes "property"
keyword_text K.Never = codes "never"
keyword_text K.Always = codes "always"
keyword_text K.Whenever = codes "whenever"
keyword_text K.Within = codes "within"
keyword_text K.Precedes = codes "precedes"
keyword_text K.Possible = codes "possible"
keyword_text K.To = codes "to"
keyword_text K.Before = codes "before"
keyword_text K.Once = codes "once"
keyword_text K.Since = codes "since"
keyword_text K.At = codes "at"
keyword_text K.Exert = codes "exert"
keyword_text K.Report = codes "report"
keyword_text K.End = codes "end"

-- the reserved word with this text, if there is one
unfoldable pub keyword_of : List ℕ → Option Keyword
keyword_of text = find (λ keyword. pointwise nat_eq (keyword_text keyword) text) KEYWORDS

-- the reserved word of a measure in the singular
abbrev pub singular_keyword : Measure → Keyword
singular_keyword M.Minutes = K.Minute
singular_keyword M.Hours = K.Hour
singular_keyword M.Days = K.Day
singular_keyword M.Weeks = K.Week

-- and in the plural
abbrev pub plural_keyword : Measure → Keyword
plural_keyword M.Minutes = K.Minutes
plural_keyword M.Hours = K.Hours
plural_keyword M.Days = K.Days
plural_keyword M.Weeks = K.Weeks
