-- Worked rows, by computation.
use Rattle.std.proofs.Common.{◌≡◌, refl, [], ◌∷◌, Some, None}
use Rattle.std.specs.Prelude.{pos, codes, false, replicate}
use Rattle.fact_machine.specs.declared.types.CoreValue.TheVariants as core
use Rattle.fact_types.specs.declared.interface.InterfaceType.TheVariants as ty
use Rattle.fact_types.specs.declared.outside.StringEncoding.TheVariants.{Utf8}
use Rattle.fact_types.specs.Shapes.{k_record, k_variant, Shape, s_plain, s_node, no_members, typed}
use Rattle.fact_values.specs.declared.side.SideAbi.{SideAbi}
use Rattle.fact_values.specs.declared.value.Value.TheVariants as value
use Rattle.std.specs.Char.Utf16 as U16
use Rattle.std.specs.Str as S
use Rattle.fact_types.specs.Layout as X
use Rattle.fact_types.specs.declared.outside.StringEncoding.{StringEncoding}
use Rattle.fact_types.specs.declared.outside.StringEncoding.TheVariants as encoding
use Rattle.fact_values.specs.Carry.{crossed}
use Rattle.fact_values.specs.Handles.{cross}
use Rattle.fact_values.specs.Tuples.{lift_param_values}
use Rattle.fact_values.specs.Load.{load}
use Rattle.fact_values.specs.Lift.{lift, lift_leading}

abbrev narrow : SideAbi
narrow = record { memory64 = false; encoding = Utf8 }

abbrev a_b : Shape
a_b = s_node k_record (typed (codes "a") (s_plain ty.U8) (typed (codes "b") (s_plain ty.U32) no_members))

lifts_record : lift narrow [] a_b (core.I32 511 ∷ core.I32 7 ∷ []) ≡ Some (value.Record ((codes "a", value.Int (pos 255)) ∷ (codes "b", value.Int (pos 7)) ∷ []))
unfolding lift_leading
lifts_record = refl

no_byte_at_the_end : load narrow (1 ∷ 2 ∷ []) (s_plain ty.U8) 2 ≡ None
unfolding load
no_byte_at_the_end = refl

abbrev p_q : Shape
p_q = s_node k_variant (typed (codes "p") (s_plain ty.Float32) (typed (codes "q") (s_plain ty.Float64) no_members))

lifts_low_half : lift narrow [] p_q (core.I32 0 ∷ core.I64 4294967297 ∷ []) ≡ Some (value.Case (codes "p") (value.Float32 1 ∷ []))
unfolding lift_leading
lifts_low_half = refl

-- the record is carried by name
abbrev b_a : Shape
b_a = s_node k_record (typed (codes "b") (s_plain ty.U32) (typed (codes "a") (s_plain ty.U8) no_members))

carries_by_name : crossed a_b b_a (value.Record ((codes "a", value.Int (pos 255)) ∷ (codes "b", value.Int (pos 7)) ∷ [])) [] ≡ Some (value.Record ((codes "b", value.Int (pos 7)) ∷ (codes "a", value.Int (pos 255)) ∷ []), [])
unfolding cross Rattle.fact_values.specs.declared.value.Value.TheViews.out-Value denote.Hole.Carrier.out denote.Hole.Carrier.shown denote.Hole.Carrier.hidden Rattle.fact_values.specs.declared.value.Value.TheBlock.shown-the_row-Value-0 Rattle.fact_values.specs.declared.value.Value.TheBlock.shown-the_row-Value-Record-0-2-2
carries_by_name = refl

-- characters are scalar values
no_surrogate : load narrow (0 ∷ 216 ∷ 0 ∷ 0 ∷ []) (s_plain ty.Char) 0 ≡ None
unfolding load
no_surrogate = refl

last_char : load narrow (255 ∷ 255 ∷ 16 ∷ 0 ∷ []) (s_plain ty.Char) 0 ≡ Some (value.Char 1114111)
unfolding load
last_char = refl

no_char_beyond : load narrow (0 ∷ 0 ∷ 17 ∷ 0 ∷ []) (s_plain ty.Char) 0 ≡ None
unfolding load
no_char_beyond = refl

-- strings in three encodings
reads_utf8 : load narrow (8 ∷ 0 ∷ 0 ∷ 0 ∷ 3 ∷ 0 ∷ 0 ∷ 0 ∷ 65 ∷ 195 ∷ 169 ∷ []) (s_plain ty.String) 0 ≡ Some (value.Str (65 ∷ 233 ∷ []))
unfolding load X.aligned U16.utf16_chars S.is_utf8 S.chars lib.Utf8.encode
reads_utf8 = refl

no_half_utf8 : load narrow (8 ∷ 0 ∷ 0 ∷ 0 ∷ 2 ∷ 0 ∷ 0 ∷ 0 ∷ 65 ∷ 195 ∷ 169 ∷ []) (s_plain ty.String) 0 ≡ None
unfolding load X.aligned U16.utf16_chars S.is_utf8 S.chars lib.Utf8.encode
no_half_utf8 = refl

abbrev in_encoding : StringEncoding → SideAbi
in_encoding e = record { memory64 = false; encoding = e }

reads_utf16 : load (in_encoding encoding.Utf16) (8 ∷ 0 ∷ 0 ∷ 0 ∷ 2 ∷ 0 ∷ 0 ∷ 0 ∷ 61 ∷ 216 ∷ 0 ∷ 222 ∷ []) (s_plain ty.String) 0 ≡ Some (value.Str (128512 ∷ []))
unfolding load X.aligned U16.utf16_chars S.is_utf8 S.chars lib.Utf8.encode
reads_utf16 = refl

no_odd_utf16 : load (in_encoding encoding.Utf16) (9 ∷ 0 ∷ 0 ∷ 0 ∷ 1 ∷ 0 ∷ 0 ∷ 0 ∷ 0 ∷ 65 ∷ 0 ∷ []) (s_plain ty.String) 0 ≡ None
unfolding load X.aligned U16.utf16_chars S.is_utf8 S.chars lib.Utf8.encode
no_odd_utf16 = refl

reads_latin1 : load (in_encoding encoding.CompactUtf16) (8 ∷ 0 ∷ 0 ∷ 0 ∷ 2 ∷ 0 ∷ 0 ∷ 0 ∷ 65 ∷ 233 ∷ []) (s_plain ty.String) 0 ≡ Some (value.Str (65 ∷ 233 ∷ []))
unfolding load X.aligned U16.utf16_chars S.is_utf8 S.chars lib.Utf8.encode
reads_latin1 = refl

-- bit 31 of the length tells UTF-16
reads_tagged : load (in_encoding encoding.CompactUtf16) (8 ∷ 0 ∷ 0 ∷ 0 ∷ 1 ∷ 0 ∷ 0 ∷ 128 ∷ 233 ∷ 0 ∷ []) (s_plain ty.String) 0 ≡ Some (value.Str (233 ∷ []))
unfolding load X.aligned U16.utf16_chars S.is_utf8 S.chars lib.Utf8.encode
reads_tagged = refl

-- 16 parameters are flat, and 17 stand behind a pointer
flat_params_row : lift_param_values narrow [] (replicate 2 (s_plain ty.U8)) (core.I32 257 ∷ core.I32 2 ∷ []) ≡ Some (value.Int (pos 1) ∷ value.Int (pos 2) ∷ [])
unfolding lift_leading
flat_params_row = refl

params_behind : lift_param_values narrow (replicate 17 5) (replicate 17 (s_plain ty.U8)) (core.I32 0 ∷ []) ≡ Some (replicate 17 (value.Int (pos 5)))
unfolding lift_leading load X.aligned
params_behind = refl

no_params_behind : lift_param_values narrow (replicate 16 5) (replicate 17 (s_plain ty.U8)) (core.I32 0 ∷ []) ≡ None
unfolding lift_leading load X.aligned
no_params_behind = refl
