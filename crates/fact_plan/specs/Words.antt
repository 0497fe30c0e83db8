-- The words of a plan: types, core types and encodings of texts.
use Rattle.std.specs.Prelude.{ℕ, List, [], Result, Ok, Err, codes, if◌then◌else◌}
use Rattle.std.specs.Str.{bytes_eq}
use Rattle.serde_json.specs.Data.{Data, null, boolean, number, string, array, object}
use Rattle.fact_wasm.specs.declared.types.ValType.{ValType}
use Rattle.fact_wasm.specs.declared.types.ValType.TheVariants as val
use Rattle.fact_types.specs.declared.outside.StringEncoding.{StringEncoding}
use Rattle.fact_types.specs.declared.outside.StringEncoding.TheVariants as encoding
use Rattle.fact_source.specs.declared.defined.PrimitiveValType.{PrimitiveValType}
use Rattle.fact_source.specs.declared.defined.PrimitiveValType.TheVariants as word
use Rattle.fact_plan.specs.declared.plan.PlanRef.{PlanRef}
use Rattle.fact_plan.specs.declared.plan.PlanRef.TheVariants.{Word, Entry}
use Rattle.fact_plan.specs.declared.fault.PlanFault.{PlanFault}
use Rattle.fact_plan.specs.declared.fault.PlanFault.TheVariants.{WrongKind, OutOfRange}
use Rattle.fact_plan.specs.Fault.{◌>>=◌}
use Rattle.fact_plan.specs.Parts.{u32_from, text_in}

-- the word of a scalar type or of a string; no other text is a type
unfoldable pub word_of : List ℕ → Result PrimitiveValType PlanFault
word_of s =
    if bytes_eq s (codes "bool") then Ok word.Bool else
    (if bytes_eq s (codes "s8") then Ok word.S8 else
    (if bytes_eq s (codes "u8") then Ok word.U8 else
    (if bytes_eq s (codes "s16") then Ok word.S16 else
    (if bytes_eq s (codes "u16") then Ok word.U16 else
    (if bytes_eq s (codes "s32") then Ok word.S32 else
    (if bytes_eq s (codes "u32") then Ok word.U32 else
    (if bytes_eq s (codes "s64") then Ok word.S64 else
    (if bytes_eq s (codes "u64") then Ok word.U64 else
    (if bytes_eq s (codes "f32") then Ok word.Float32 else
    (if bytes_eq s (codes "f64") then Ok word.Float64 else
    (if bytes_eq s (codes "char") then Ok word.Char else
    (if bytes_eq s (codes "string") then Ok word.String else Err (OutOfRange [])))))))))))))

-- a word, as a type
abbrev pub as_word : Result PrimitiveValType PlanFault → Result PlanRef PlanFault
as_word r = r >>= (λ w. Ok (Word w))

-- the place of an entry, as a type
abbrev pub as_entry : Result ℕ PlanFault → Result PlanRef PlanFault
as_entry r = r >>= (λ n. Ok (Entry n))

-- a type: a word, or the place of an entry
unfoldable pub ref_in : Data → Result PlanRef PlanFault
ref_in null = Err (WrongKind [])
ref_in (boolean b) = Err (WrongKind [])
ref_in (number n) = as_entry (u32_from n)
ref_in (string s) = as_word (word_of s)
ref_in (array ds) = Err (WrongKind [])
ref_in (object ms) = Err (WrongKind [])

-- the core type that a word names
abbrev pub val_type_of : List ℕ → Result ValType PlanFault
val_type_of s =
    if bytes_eq s (codes "i32") then Ok val.I32 else
    (if bytes_eq s (codes "i64") then Ok val.I64 else
    (if bytes_eq s (codes "f32") then Ok val.F32 else
    (if bytes_eq s (codes "f64") then Ok val.F64 else Err (OutOfRange []))))

-- the type of a core parameter or result
unfoldable pub val_type_in : Data → Result ValType PlanFault
val_type_in d = text_in d >>= val_type_of

-- the encoding that a word names
abbrev pub encoding_of : List ℕ → Result StringEncoding PlanFault
encoding_of s =
    if bytes_eq s (codes "utf8") then Ok encoding.Utf8 else
    (if bytes_eq s (codes "utf16") then Ok encoding.Utf16 else
    (if bytes_eq s (codes "compact") then Ok encoding.CompactUtf16 else Err (OutOfRange [])))

-- how the texts of a side are encoded
unfoldable pub encoding_in : Data → Result StringEncoding PlanFault
encoding_in d = text_in d >>= encoding_of
