-- Text as it is shown within a line: characters that would end the line, or do something else than to be seen, are escaped.
use Rattle.std.specs.Prelude.{ℕ, false, List, ◌++◌, codes, if◌then◌else◌}
use Rattle.std.specs.List.{flat_map}
use Rattle.std.specs.Char.{encode_utf8, is_control}
use Rattle.std.specs.Fmt.{digits}
use Rattle.std.specs.Str.{chars}

-- a character, or of a control character its number in hexadecimal digits, as `\u{a}`
abbrev pub shown_char : ℕ → List ℕ
shown_char c = if is_control c then codes "\\u{" ++ (digits 16 false c ++ codes "}") else encode_utf8 c

abbrev pub shown : List ℕ → List ℕ
shown text = flat_map shown_char (chars text)
