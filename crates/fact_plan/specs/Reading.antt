-- The JSON value that stands in some bytes.
use Rattle.std.specs.Prelude.{ℕ, List, Option, None, if◌then◌else◌}
use Rattle.std.specs.Str.{is_utf8}
use Rattle.serde_json.specs.Data.{Data}
use Rattle.serde_json.specs.Read.{read}

-- the value (RFC 8259) that `serde_json` reads in the bytes, of which there is none where they are not UTF-8
unfoldable pub value_in : List ℕ → Option Data
value_in bytes = if is_utf8 bytes then read bytes else None
