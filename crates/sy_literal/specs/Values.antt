-- What the tokens of numbers, of texts between quotes and of dates stand for.
use Rattle.std.specs.Prelude.{ℕ, ◌+◌, ◌-◌, ◌*◌, ◌^◌, nat_le, if◌then◌else◌, List, [], ◌∷◌, length, take, drop, Option, Some, None, option_and_then, ℤ}
use Rattle.std.specs.List.{fold}
use Rattle.sy_base.specs.declared.time.TimeUnit.{TimeUnit}
use Rattle.sy_base.specs.Dates.{WrittenDate, written_date, is_date, point_of}
use Rattle.sy_lex.specs.Bytes.{is_backslash}

-- a number with one more digit behind it: `0` is the byte 48
abbrev pub with_digit : ℕ → ℕ → ℕ
with_digit number digit = 10 * number + (digit - 48)

-- the number that digits write
abbrev pub number_value : List ℕ → ℕ
number_value = fold with_digit 0

-- the same, where it is at most 10^15
abbrev pub number_in_range : List ℕ → Option ℕ
number_in_range digits =
    let number = number_value digits in
    if nat_le number (10 ^ 15) then Some number else None

-- bytes with each escape taken as the byte behind its `\`
abbrev pub unescaped : List ℕ → List ℕ
unescaped [] = []
unescaped (b ∷ []) = b ∷ []
unescaped (b ∷ c ∷ bytes) = if is_backslash b then c ∷ unescaped bytes else b ∷ unescaped (c ∷ bytes)

-- the bytes without the first and the last
abbrev pub between_ends : List ℕ → List ℕ
between_ends bytes = take (length bytes - 2) (drop 1 bytes)

-- the content of a text between quotes
abbrev pub text_content : List ℕ → List ℕ
text_content text = unescaped (between_ends text)

-- the point of a date, where it has no fault in the unit
abbrev pub point_in : TimeUnit → WrittenDate → Option ℤ
point_in unit date = if is_date unit date then Some (point_of unit date) else None

-- the point of a date's text: none where the text is no date, or has a fault in the unit
abbrev pub date_point : TimeUnit → List ℕ → Option ℤ
date_point unit text = option_and_then (point_in unit) (written_date text)
