-- The names of functions that write text of one memory into another (canonical ABI, "Storing", `store_string_into_range`).
use Rattle.std.specs.Prelude.{ℕ, List, ◌++◌, codes}
use Rattle.std.specs.Fmt.{decimal}
use Rattle.fact_types.specs.declared.outside.FixedEncoding.TheVariants.{Utf8, Utf16, Latin1}
use Rattle.fact_types.specs.declared.outside.Transcode.{Transcode}
use Rattle.fact_types.specs.declared.outside.Transcode.TheVariants as op

-- an operation, as the names of its imports begin
abbrev pub transcode_name : Transcode → List ℕ
transcode_name (op.Copy Utf8) = codes "utf8-to-utf8"
transcode_name (op.Copy Utf16) = codes "utf16-to-utf16"
transcode_name (op.Copy Latin1) = codes "latin1-to-latin1"
transcode_name op.Latin1ToUtf16 = codes "latin1-to-utf16"
transcode_name op.Latin1ToUtf8 = codes "latin1-to-utf8"
transcode_name op.Utf16ToCompactProbablyUtf16 = codes "utf16-to-compact-probably-utf16"
transcode_name op.Utf16ToCompactUtf16 = codes "utf16-to-compact-utf16"
transcode_name op.Utf16ToLatin1 = codes "utf16-to-latin1"
transcode_name op.Utf16ToUtf8 = codes "utf16-to-utf8"
transcode_name op.Utf8ToCompactUtf16 = codes "utf8-to-compact-utf16"
transcode_name op.Utf8ToLatin1 = codes "utf8-to-latin1"
transcode_name op.Utf8ToUtf16 = codes "utf8-to-utf16"

-- a transcoder is named by its operation and by the places of the two memories
abbrev pub transcoder_name : Transcode → (from_place to_place : ℕ) → List ℕ
transcoder_name o from_place to_place = transcode_name o ++ (codes " (mem" ++ (decimal from_place ++ (codes " => mem" ++ (decimal to_place ++ codes ")"))))
