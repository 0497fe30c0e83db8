-- What the names of imports say of transcoders.
use Rattle.std.proofs.Common.{◌≡◌, ◌<◌, ◌^◌, ℕ, Bool, List, ◌∷◌, ◌++◌, Some, None, refl, sym, ap, ◌∙◌}
use Rattle.std.specs.Prelude.{codes}
use Rattle.fact_types.specs.declared.outside.FixedEncoding.TheVariants.{Utf8, Utf16, Latin1}
use Rattle.fact_types.specs.declared.outside.Transcode.{Transcode}
use Rattle.fact_types.specs.declared.outside.Transcode.TheVariants as op
use Rattle.fact_types.specs.TranscoderNames.{transcode_name, transcoder_name}
use Rattle.fact_wasm.specs.declared.module.WasmImport.{WasmImport}
use Rattle.fact_wasm.specs.declared.module.WasmModule.{WasmModule}
use Rattle.fact_machine.specs.Machine.{memory_import}
use Rattle.fact_check.specs.NameNumbers.{memories_text}
use Rattle.fact_check.proofs.ImportRows.{memories_same}
use Rattle.fact_check.proofs.Transcoders.{HasNoSpace, same_parts, tested}
use Rattle.fact_host.specs.Roles.{IsTranscoder}

pub operation_apart : (o : Transcode) → HasNoSpace (transcode_name o)
operation_apart (op.Copy Utf8) = tested (codes "utf8-to-utf8") refl
operation_apart (op.Copy Utf16) = tested (codes "utf16-to-utf16") refl
operation_apart (op.Copy Latin1) = tested (codes "latin1-to-latin1") refl
operation_apart op.Latin1ToUtf16 = tested (codes "latin1-to-utf16") refl
operation_apart op.Latin1ToUtf8 = tested (codes "latin1-to-utf8") refl
operation_apart op.Utf16ToCompactProbablyUtf16 = tested (codes "utf16-to-compact-probably-utf16") refl
operation_apart op.Utf16ToCompactUtf16 = tested (codes "utf16-to-compact-utf16") refl
operation_apart op.Utf16ToLatin1 = tested (codes "utf16-to-latin1") refl
operation_apart op.Utf16ToUtf8 = tested (codes "utf16-to-utf8") refl
operation_apart op.Utf8ToCompactUtf16 = tested (codes "utf8-to-compact-utf16") refl
operation_apart op.Utf8ToLatin1 = tested (codes "utf8-to-latin1") refl
operation_apart op.Utf8ToUtf16 = tested (codes "utf8-to-utf16") refl

-- the parts of a transcoder's name
pub parts : (m : WasmModule) (w : WasmImport) (o : Transcode) (from : ℕ) (from64 : Bool) (to : ℕ) (to64 : Bool) (description rest : List ℕ)
    → w.name ≡ description ++ 32 ∷ rest → HasNoSpace description → IsTranscoder m w o from from64 to to64 → (description ≡ transcode_name o) × (rest ≡ memories_text from to)
parts m w o from from64 to to64 description rest e h t = same_parts description (transcode_name o) rest (memories_text from to) h (operation_apart o) (sym e ∙ t.name)

pub whole_name : (name description rest : List ℕ) (o : Transcode) (from to : ℕ) → name ≡ description ++ 32 ∷ rest → description ≡ transcode_name o → rest ≡ memories_text from to
    → name ≡ transcoder_name o from to
whole_name name description rest o from to e d r = e ∙ ap (λ l. l ++ 32 ∷ rest) d ∙ ap (λ l. transcode_name o ++ 32 ∷ l) r

-- a memory that is not there is none of a transcoder's
pub no_from : (m : WasmModule) (w : WasmImport) (o : Transcode) (from : ℕ) (from64 : Bool) (to : ℕ) (to64 : Bool) → memory_import m.imports from ≡ None → IsTranscoder m w o from from64 to to64 → ⊥
no_from m w o from from64 to to64 none t = let z : Some (from64, t.from_pages) ≡ None = sym t.from_there ∙ none in absurd cc

pub no_to : (m : WasmModule) (w : WasmImport) (o : Transcode) (from : ℕ) (from64 : Bool) (to : ℕ) (to64 : Bool) → memory_import m.imports to ≡ None → IsTranscoder m w o from from64 to to64 → ⊥
no_to m w o from from64 to to64 none t = let z : Some (to64, t.to_pages) ≡ None = sym t.to_there ∙ none in absurd cc

-- a transcoder's memories, where its name has the numbers of these
numbers_are : (m : WasmModule) (w : WasmImport) (o : Transcode) (from : ℕ) (from64 : Bool) (to : ℕ) (to64 : Bool) (description rest : List ℕ) (a b : ℕ) → w.name ≡ description ++ 32 ∷ rest → HasNoSpace description → rest ≡ memories_text a b → a < 2 ^ 32 → b < 2 ^ 32
    → IsTranscoder m w o from from64 to to64 → (a ≡ from) × (b ≡ to)
numbers_are m w o from from64 to to64 description rest a b e h is small small' t = memories_same a b from to small small' t.from_small t.to_small (sym is ∙ (parts m w o from from64 to to64 description rest e h t).1)

pub from_absent : (m : WasmModule) (w : WasmImport) (description rest : List ℕ) (a b : ℕ) → w.name ≡ description ++ 32 ∷ rest → HasNoSpace description → rest ≡ memories_text a b → a < 2 ^ 32 → b < 2 ^ 32 → memory_import m.imports a ≡ None
    → (o : Transcode) (from : ℕ) (from64 : Bool) (to : ℕ) (to64 : Bool) → IsTranscoder m w o from from64 to to64 → ⊥
from_absent m w description rest a b e h is small small' none o from from64 to to64 t =
    no_from m w o from from64 to to64 (ap (memory_import m.imports) (sym (numbers_are m w o from from64 to to64 description rest a b e h is small small' t).0) ∙ none) t

pub to_absent : (m : WasmModule) (w : WasmImport) (description rest : List ℕ) (a b : ℕ) → w.name ≡ description ++ 32 ∷ rest → HasNoSpace description → rest ≡ memories_text a b → a < 2 ^ 32 → b < 2 ^ 32 → memory_import m.imports b ≡ None
    → (o : Transcode) (from : ℕ) (from64 : Bool) (to : ℕ) (to64 : Bool) → IsTranscoder m w o from from64 to to64 → ⊥
to_absent m w description rest a b e h is small small' none o from from64 to to64 t =
    no_to m w o from from64 to to64 (ap (memory_import m.imports) (sym (numbers_are m w o from from64 to to64 description rest a b e h is small small' t).1) ∙ none) t
