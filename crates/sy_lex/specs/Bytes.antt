-- What a byte of a text can be.
use Rattle.std.specs.Prelude.{ℕ, Bool, not, ◌&&◌, ◌||◌, nat_le, ◌==◌}

-- A to Z (65 to 90) or a to z (97 to 122)
abbrev pub is_letter : ℕ → Bool
is_letter b = (nat_le 65 b && nat_le b 90) || (nat_le 97 b && nat_le b 122)

-- 0 to 9 (48 to 57)
abbrev pub is_digit : ℕ → Bool
is_digit b = nat_le 48 b && nat_le b 57

-- a letter, a digit or `_`
abbrev pub is_word_byte : ℕ → Bool
is_word_byte b = is_letter b || is_digit b || (b == 95)

-- a newline
abbrev pub is_newline : ℕ → Bool
is_newline b = b == 10

-- a space, a tab, a carriage return or a newline
abbrev pub is_blank : ℕ → Bool
is_blank b = (b == 32) || (b == 9) || (b == 13) || is_newline b

-- a byte that a comment may hold: any but a newline
abbrev pub is_comment_byte : ℕ → Bool
is_comment_byte b = not (is_newline b)

-- `"`
abbrev pub is_quote : ℕ → Bool
is_quote b = b == 34

-- `\`
abbrev pub is_backslash : ℕ → Bool
is_backslash b = b == 92

-- what may stand behind a `\` in a text between quotes
abbrev pub is_escaped : ℕ → Bool
is_escaped b = is_quote b || is_backslash b
