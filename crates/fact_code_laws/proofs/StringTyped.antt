-- The code of strings is typed.
use Rattle.std.proofs.Common.{◌≡◌, ℕ, ◌<◌, Bool, true, false, List, [], ◌∷◌, ◌++◌, Some, refl, sym, ap, ◌∙◌, subst, arith, append_assoc, reverse, slice_get}
use Rattle.std.specs.Prelude.{nat_lt, if◌then◌else◌}
use Rattle.std.proofs.lemmas.Bool.{ltb-true}
use Rattle.std.proofs.lemmas.List.{reverse-append}
use Rattle.fact_wasm.specs.declared.types.ValType.{ValType}
use Rattle.fact_wasm.specs.declared.types.ValType.TheVariants as val
use Rattle.fact_wasm.specs.declared.instr.FuncName.TheVariants as func
use Rattle.fact_wasm.specs.declared.instr.Instr.{Instr}
use Rattle.fact_wasm.specs.declared.instr.Instr.TheVariants as I
use Rattle.fact_wasm.specs.declared.instr.Instr.TheOpen as o
use Rattle.fact_wasm.specs.declared.module.WasmModule.{WasmModule}
use Rattle.fact_types.specs.declared.outside.MemoryOption.{MemoryOption}
use Rattle.fact_types.specs.declared.outside.StringEncoding.{StringEncoding}
use Rattle.fact_types.specs.declared.outside.StringEncoding.TheVariants as string
use Rattle.fact_types.specs.declared.outside.Transcode.{Transcode}
use Rattle.fact_types.specs.declared.outside.Trap.{Trap}
use Rattle.fact_types.specs.declared.outside.Trap.TheVariants.{StringOutOfBounds, UnalignedPointer}
use Rattle.fact_types.specs.declared.import.Import.TheVariants as import
use Rattle.fact_types.specs.Signatures.{address}
use Rattle.fact_values.specs.Texts.{unit_bytes}
use Rattle.fact_actions.specs.Paths.{Amount, SourceUnits, WrittenUnits, Test, AllRead, WrittenIs, HasNoTag, KeepsUnits, Path, End, Limit, Resize, Pass, If, Tag, Assert, TextForm, AsUtf8, AsUtf16, AsCompactLatin1, AsCompactUtf16, align_of, path}
use Rattle.fact_actions.specs.Transcoders.{TranscodeKind, AllUnits, Counted, Fitting, Narrow, Tagged, Widening, transcode_kind, from_encoding, transcode_types}
use Rattle.fact_machine.specs.Typing.{address_type}
use Rattle.fact_code_laws.specs.Code.{guard_code}
use Rattle.fact_code_laws.specs.Knows.{KnowsFunction}
use Rattle.fact_code_laws.specs.Lists.{address_code}
use Rattle.fact_code_laws.specs.Places.{Setting, is_on}
use Rattle.fact_code_laws.specs.StringCode.{StringMove, wrap_code, to_address, from_address, times_code, amount_code, no_tag_code, test_code, limit_code, either_code, assert_code, regrow_code, resize_code, target_types, source_code, target_code, keep_code, add_to_code, answer_code, pass_code, tag_written_code, path_code, align_of_form, bytes_of_form, begin_path_code, text_code, untag_code, encoded_code}
use Rattle.fact_code_laws.specs.StringNeeds.{NeedsRequest, NeedsTranscoder, NeedsPath, NeedsText, NeedsEncoded}
use Rattle.fact_code_laws.specs.Typed.{OnStack, IsTyped}
use Rattle.fact_code_laws.proofs.TypingLaws.{typed_done, typed_then, typed_next, typed_one}
use Rattle.fact_code_laws.proofs.TypedRows.{takes_plain, takes_local_get, takes_local_set, takes_import}
use Rattle.fact_code_laws.proofs.TypedShapes.{takes_guard, typed_cases}
use Rattle.fact_code_laws.proofs.Scaled.{typed_scaled}
use Rattle.fact_code_laws.proofs.Slots.{typed_save, typed_restore}
use Rattle.fact_code_laws.proofs.ListTyped.{takes_const, typed_as_address, typed_region}
use Rattle.fact_code_laws.proofs.StringPoints.{string_temp, IsStringMove, memory_side}
use Rattle.fact_code_laws.proofs.StringRegions.{StringRealloc, string_realloc, resize_code_by}

-- ---- numbers

module _ {M : WasmModule} {locals : List ValType} {labels : List (List ValType)} {ins : List ValType} where
  typed_wrap : (memory64 : Bool) → IsTyped M locals labels (wrap_code memory64) (val.I64 ∷ ins) (OnStack (val.I64 ∷ ins))
  typed_wrap true = typed_done
  typed_wrap false = typed_next (takes_plain o.I32WrapI64 I.outs-I32WrapI64 refl) (typed_one (takes_plain o.I64ExtendI32U I.outs-I64ExtendI32U refl))

  typed_to_address : (memory64 : Bool) → IsTyped M locals labels (to_address memory64) (val.I64 ∷ ins) (OnStack (address memory64 ∷ ins))
  typed_to_address true = typed_done
  typed_to_address false = typed_one (takes_plain o.I32WrapI64 I.outs-I32WrapI64 refl)

  typed_from_type : (memory64 : Bool) → IsTyped M locals labels (from_address memory64) (address_type memory64 ∷ ins) (OnStack (val.I64 ∷ ins))
  typed_from_type true = typed_done
  typed_from_type false = typed_one (takes_plain o.I64ExtendI32U I.outs-I64ExtendI32U refl)

  typed_from_address : (memory64 : Bool) → IsTyped M locals labels (from_address memory64) (address memory64 ∷ ins) (OnStack (val.I64 ∷ ins))
  typed_from_address true = typed_done
  typed_from_address false = typed_one (takes_plain o.I64ExtendI32U I.outs-I64ExtendI32U refl)

module _ {M : WasmModule} {locals : List ValType} {labels : List (List ValType)} {ins : List ValType} where
  typed_operand : (memory64 : Bool) (i : ℕ) → slice_get locals i ≡ Some val.I64 → IsTyped M locals labels (address_code memory64 i) ins (OnStack (address memory64 ∷ ins))
  typed_operand memory64 i h = typed_next (takes_local_get h) (typed_to_address memory64)

  typed_times : (memory64 : Bool) (factor i : ℕ) → slice_get locals i ≡ Some val.I64 → IsTyped M locals labels (times_code memory64 factor i) ins (OnStack (val.I64 ∷ ins))
  typed_times memory64 factor i h = typed_next (takes_local_get h) (typed_then (typed_scaled factor) (typed_wrap memory64))

  typed_no_tag : (i : ℕ) → slice_get locals i ≡ Some val.I64 → IsTyped M locals labels (no_tag_code i) ins (OnStack (val.I32 ∷ ins))
  typed_no_tag i h =
      typed_next (takes_local_get h) (typed_next (takes_plain (o.I64Const _) (I.outs-I64Const _) refl) (typed_next (takes_plain o.I64ShrU I.outs-I64ShrU refl)
      (typed_next (takes_plain (o.I64Const _) (I.outs-I64Const _) refl) (typed_next (takes_plain o.I64And I.outs-I64And refl) (typed_one (takes_plain o.I64Eqz I.outs-I64Eqz refl))))))

  typed_limit : (i factor : ℕ) → slice_get locals i ≡ Some val.I64 → IsTyped M locals labels (limit_code i factor) ins (OnStack (val.I32 ∷ ins))
  typed_limit i factor h = typed_next (takes_local_get h) (typed_next (takes_plain (o.I64Const _) (I.outs-I64Const _) refl) (typed_one (takes_plain o.I64LtU I.outs-I64LtU refl)))

  typed_keep_answer : (memory64 : Bool) (i : ℕ) → slice_get locals i ≡ Some val.I64 → IsTyped M locals labels (keep_code memory64 i) (address memory64 ∷ ins) (OnStack ins)
  typed_keep_answer memory64 i h = typed_then (typed_from_address memory64) (typed_one (takes_local_set h))

  typed_add_to : (memory64 : Bool) (i : ℕ) → slice_get locals i ≡ Some val.I64 → IsTyped M locals labels (add_to_code memory64 i) (address memory64 ∷ ins) (OnStack ins)
  typed_add_to memory64 i h = typed_then (typed_from_address memory64) (typed_next (takes_local_get h) (typed_next (takes_plain o.I64Add I.outs-I64Add refl) (typed_then (typed_wrap memory64) (typed_one (takes_local_set h)))))

-- one code or another
pub typed_either : {M : WasmModule} {locals : List ValType} {labels : List (List ValType)} {ins : List ValType} {test if_true if_false : List Instr} → IsTyped M locals [] test [] (OnStack (val.I32 ∷ [])) → IsTyped M locals [] if_true [] (OnStack []) → IsTyped M locals [] if_false [] (OnStack [])
    → IsTyped M locals labels (either_code test if_true if_false) ins (OnStack ins)
typed_either {if_true = if_true} {if_false} t x y =
    typed_cases (0 ∷ []) 1 (if_false ∷ if_true ∷ []) (omega arith) (omega arith, tt) t (record { ends = OnStack []; closed = tt; typed = y }, (record { ends = OnStack []; closed = tt; typed = x }, tt))

-- ---- the steps of a path

module _ {S : Setting} {used : ℕ → Bool} {m : StringMove} {a b : MemoryOption} (h : IsStringMove S used m a b) where
  -- the temporaries of numbers
  wide_local : (j : ℕ) → nat_lt j 8 ≡ true → slice_get S.locals (string_temp m j) ≡ Some val.I64
  wide_local j lt =
      let less : j < 8 = ltb-true j 8 lt in
      h.temps.typed j (omega arith) ∙ ap (λ b. Some (if b then val.I64 else val.I32)) lt

  source : slice_get S.locals m.temporaries.source ≡ Some val.I64
  source = wide_local 0 refl

  units : slice_get S.locals m.temporaries.units ≡ Some val.I64
  units = wide_local 1 refl

  read : slice_get S.locals m.temporaries.read ≡ Some val.I64
  read = wide_local 2 refl

  region : slice_get S.locals m.temporaries.region ≡ Some val.I64
  region = wide_local 3 refl

  written : slice_get S.locals m.temporaries.written ≡ Some val.I64
  written = wide_local 4 refl

  bytes : slice_get S.locals m.temporaries.bytes ≡ Some val.I64
  bytes = wide_local 5 refl

  before : slice_get S.locals m.temporaries.before ≡ Some val.I64
  before = wide_local 6 refl

  long : slice_get S.locals m.temporaries.length ≡ Some val.I64
  long = wide_local 7 refl

  module _ {labels : List (List ValType)} {ins : List ValType} where
    typed_amount : (x : Amount) → IsTyped S.whole S.locals labels (amount_code m x) ins (OnStack (val.I64 ∷ ins))
    typed_amount (SourceUnits factor) = typed_times m.to64 factor m.temporaries.units units
    typed_amount (WrittenUnits factor) = typed_times m.to64 factor m.temporaries.written written

    typed_path_test : (test : Test) → IsTyped S.whole S.locals labels (test_code m test) ins (OnStack (val.I32 ∷ ins))
    typed_path_test AllRead = typed_next (takes_local_get read) (typed_next (takes_local_get units) (typed_one (takes_plain o.I64Eq I.outs-I64Eq refl)))
    typed_path_test (WrittenIs factor) = typed_next (takes_local_get written) (typed_then (typed_times m.to64 factor m.temporaries.units units) (typed_one (takes_plain o.I64Eq I.outs-I64Eq refl)))
    typed_path_test HasNoTag = typed_no_tag m.temporaries.written written
    typed_path_test KeepsUnits =
        typed_next (takes_local_get written) (typed_next (takes_plain (o.I64Const _) (I.outs-I64Const _) refl) (typed_next (takes_plain o.I64And I.outs-I64And refl)
        (typed_next (takes_local_get units) (typed_one (takes_plain o.I64Eq I.outs-I64Eq refl)))))

  module _ {labels : List (List ValType)} {ins : List ValType} where
    typed_assert : (t : Trap) (test : Test) → (is_on m.checks ≡ true → KnowsFunction S.whole S.places (import.Trap t) (m.trap t) [] []) → IsTyped S.whole S.locals labels (assert_code m t test) ins (OnStack ins)
    typed_assert t test knows = by_flag (is_on m.checks) refl
      where
        by_flag : (on : Bool) → is_on m.checks ≡ on → IsTyped S.whole S.locals labels (if on then guard_code (test_code m test) (m.trap t) else []) ins (OnStack ins)
        by_flag true is = takes_guard {c = []} (knows is) (typed_path_test test) typed_done
        by_flag false is = typed_done

    -- realloc that is called with what locals hold
    typed_regrow : (align : ℕ) (r : StringRealloc S m) → IsTyped S.whole S.locals labels (regrow_code (Some r.place) m.to64 m.temporaries.region m.temporaries.before align m.temporaries.bytes) ins (OnStack (address_type m.to64 ∷ ins))
    typed_regrow align r =
        typed_then (typed_as_address m.to64 m.temporaries.region region) (typed_then (typed_as_address m.to64 m.temporaries.before before)
        (typed_next (takes_const m.to64 align) (typed_then (typed_as_address m.to64 m.temporaries.bytes bytes) (typed_one (takes_import ins r.knows)))))

  module _ {labels : List (List ValType)} {ins : List ValType} where
    typed_resize : (align : ℕ) (x y : Amount) → NeedsRequest align m S.whole S.places a.def b.def → IsTyped S.whole S.locals labels (resize_code m align x y) ins (OnStack ins)
    typed_resize align x y needs =
        let r = string_realloc h in
        let saved0 : slice_get S.locals m.slots.saved0 ≡ Some val.I32 = h.temps.typed 8 (omega arith) in
        let saved1 : slice_get S.locals m.slots.saved1 ≡ Some val.I32 = h.temps.typed 9 (omega arith) in
        subst (λ n. IsTyped S.whole S.locals labels (resize_code_by n m align x y) ins (OnStack ins)) (sym r.placed)
        (typed_then (typed_amount x) (typed_next (takes_local_set before) (typed_then (typed_amount y) (typed_next (takes_local_set bytes)
        (typed_then (typed_save S.places m.concurrency m.slots needs.slots saved0 saved1) (typed_then (typed_regrow align r) (typed_then (typed_restore S.places m.concurrency m.slots needs.slots saved0 saved1)
        (typed_then (typed_from_type m.to64) (typed_next (takes_local_set region)
        (typed_region S S.places S.to m.to64 m.to_memory align (memory_side h.side2) m.temporaries.region m.temporaries.bytes m.temporaries.length (m.trap UnalignedPointer) (m.trap StringOutOfBounds) region bytes long needs.region.unaligned needs.region.outside))))))))))

    typed_told_source : (op : Transcode) (rest : Bool) → IsTyped S.whole S.locals labels (source_code m op rest) ins (OnStack (address m.from64 ∷ address m.from64 ∷ ins))
    typed_told_source op false = typed_then (typed_operand m.from64 m.temporaries.source source) (typed_operand m.from64 m.temporaries.units units)
    typed_told_source op true =
        typed_next (takes_local_get source) (typed_then (typed_times m.from64 (unit_bytes (from_encoding op)) m.temporaries.read read) (typed_next (takes_plain o.I64Add I.outs-I64Add refl) (typed_then (typed_to_address m.from64)
        (typed_next (takes_local_get units) (typed_next (takes_local_get read) (typed_next (takes_plain o.I64Sub I.outs-I64Sub refl) (typed_to_address m.from64)))))))

    typed_told_target : (k : TranscodeKind) (rest : Bool) (room : ℕ) → IsTyped S.whole S.locals labels (target_code m k rest room) ins (OnStack (reverse (target_types k m.to64) ++ ins))
    typed_told_target Fitting false room =
        typed_then (typed_operand m.to64 m.temporaries.region region) (typed_then (typed_times m.to64 room m.temporaries.units units) (typed_then (typed_to_address m.to64) (typed_one (takes_plain (o.I32Const 1) (I.outs-I32Const 1) refl))))
    typed_told_target Fitting true room =
        typed_next (takes_local_get region) (typed_next (takes_local_get written) (typed_next (takes_plain o.I64Add I.outs-I64Add refl) (typed_then (typed_to_address m.to64) (typed_then (typed_times m.to64 room m.temporaries.units units)
        (typed_next (takes_local_get written) (typed_next (takes_plain o.I64Sub I.outs-I64Sub refl) (typed_then (typed_to_address m.to64) (typed_one (takes_plain (o.I32Const 0) (I.outs-I32Const 0) refl)))))))))
    typed_told_target Widening rest room =
        typed_then (typed_operand m.to64 m.temporaries.region region) (typed_then (typed_times m.to64 room m.temporaries.units units) (typed_then (typed_to_address m.to64) (typed_operand m.to64 m.temporaries.written written)))
    typed_told_target AllUnits rest room = typed_operand m.to64 m.temporaries.region region
    typed_told_target Counted rest room = typed_operand m.to64 m.temporaries.region region
    typed_told_target Narrow rest room = typed_operand m.to64 m.temporaries.region region
    typed_told_target Tagged rest room = typed_operand m.to64 m.temporaries.region region

    typed_answer : (k : TranscodeKind) (rest : Bool) → IsTyped S.whole S.locals labels (answer_code m k rest) (reverse (transcode_types k m.from64 m.to64) ++ ins) (OnStack ins)
    typed_answer AllUnits rest = typed_next (takes_local_get units) (typed_one (takes_local_set written))
    typed_answer Fitting true = typed_then (typed_add_to m.to64 m.temporaries.written written) (typed_add_to m.from64 m.temporaries.read read)
    typed_answer Fitting false = typed_then (typed_keep_answer m.to64 m.temporaries.written written) (typed_keep_answer m.from64 m.temporaries.read read)
    typed_answer Narrow rest = typed_then (typed_keep_answer m.to64 m.temporaries.written written) (typed_keep_answer m.from64 m.temporaries.read read)
    typed_answer Counted rest = typed_keep_answer m.to64 m.temporaries.written written
    typed_answer Tagged rest = typed_keep_answer m.to64 m.temporaries.written written
    typed_answer Widening rest = typed_keep_answer m.to64 m.temporaries.written written

  module _ {labels : List (List ValType)} {ins : List ValType} where
    typed_pass : (op : Transcode) (rest : Bool) (room : ℕ) → NeedsTranscoder op m S.whole S.places a.def b.def → IsTyped S.whole S.locals labels (pass_code m op rest room) ins (OnStack ins)
    typed_pass op rest room knows =
        let told : List ValType = target_types (transcode_kind op) m.to64 in
        let stack : reverse (address m.from64 ∷ address m.from64 ∷ told) ++ ins ≡ reverse told ++ (address m.from64 ∷ address m.from64 ∷ ins) =
        ap (λ ts. ts ++ ins) (reverse-append (address m.from64 ∷ address m.from64 ∷ []) told) ∙ append_assoc (reverse told) (address m.from64 ∷ address m.from64 ∷ []) ins in
        let called : IsTyped S.whole S.locals labels (I.Call (func.Import (m.transcoder op)) ∷ answer_code m (transcode_kind op) rest) (reverse (address m.from64 ∷ address m.from64 ∷ told) ++ ins) (OnStack ins) =
        typed_next (takes_import ins knows) (typed_answer (transcode_kind op) rest) in
        typed_then (typed_told_source op rest) (typed_then (typed_told_target (transcode_kind op) rest room)
        (subst (λ ts. IsTyped S.whole S.locals labels (I.Call (func.Import (m.transcoder op)) ∷ answer_code m (transcode_kind op) rest) ts (OnStack ins)) stack called))

    typed_tag : IsTyped S.whole S.locals labels (tag_written_code m) ins (OnStack ins)
    typed_tag = typed_next (takes_local_get written) (typed_next (takes_plain (o.I64Const _) (I.outs-I64Const _) refl) (typed_next (takes_plain o.I64Or I.outs-I64Or refl) (typed_one (takes_local_set written))))

    typed_begin : IsTyped S.whole S.locals labels (begin_path_code m) ins (OnStack ins)
    typed_begin =
        typed_next (takes_plain (o.I64Const _) (I.outs-I64Const _) refl) (typed_next (takes_local_set read) (typed_next (takes_plain (o.I64Const _) (I.outs-I64Const _) refl) (typed_next (takes_local_set region)
        (typed_next (takes_plain (o.I64Const _) (I.outs-I64Const _) refl) (typed_one (takes_local_set written))))))

    typed_untag : IsTyped S.whole S.locals labels (untag_code m.temporaries.units) ins (OnStack ins)
    typed_untag = typed_next (takes_local_get units) (typed_next (takes_plain (o.I64Const _) (I.outs-I64Const _) refl) (typed_next (takes_plain o.I64Sub I.outs-I64Sub refl) (typed_one (takes_local_set units))))

  -- The code of a path is typed where what it calls is there.
  pub typed_path : (align : ℕ) (q : Path) → NeedsPath align q m S.whole S.places a.def b.def → {labels : List (List ValType)} {ins : List ValType} → IsTyped S.whole S.locals labels (path_code m align q) ins (OnStack ins)
  typed_path align End needs = typed_done
  typed_path align (Limit factor q) needs = takes_guard needs.0 (typed_limit m.temporaries.units factor units) (typed_path align q needs.1)
  typed_path align (Resize x y q) needs = typed_then (typed_resize align x y needs.0) (typed_path align q needs.1)
  typed_path align (Pass o rest room q) needs = typed_then (typed_pass o rest room needs.0) (typed_path align q needs.1)
  typed_path align (If test q r s) needs = typed_then (typed_either (typed_path_test test) (typed_path align q needs.0) (typed_path align r needs.1)) (typed_path align s needs.2)
  typed_path align (Tag q) needs = typed_then typed_tag (typed_path align q needs)
  typed_path align (Assert t test q) needs = typed_then (typed_assert t test needs.0) (typed_path align q needs.1)

  -- ---- whole texts

  module _ {labels : List (List ValType)} {ins : List ValType} where
    typed_text : (f : TextForm) (to : StringEncoding) → NeedsText f to m S.whole S.places a.def b.def → IsTyped S.whole S.locals labels (text_code m f to) ins (OnStack ins)
    typed_text f to needs =
        typed_then (typed_then (typed_times m.from64 (bytes_of_form f) m.temporaries.units units) (typed_next (takes_local_set bytes)
        (typed_region S S.places S.from m.from64 m.from_memory (align_of_form f) (memory_side h.side1) m.temporaries.source m.temporaries.bytes m.temporaries.length (m.trap UnalignedPointer) (m.trap StringOutOfBounds) source bytes long needs.source.unaligned needs.source.outside)))
        (typed_then typed_begin (typed_path (align_of to) (path f to) needs.path))

  -- the code of a text of an encoding
  pub typed_encoded : (from to : StringEncoding) → NeedsEncoded from to m S.whole S.places a.def b.def → {labels : List (List ValType)} {ins : List ValType} → IsTyped S.whole S.locals labels (encoded_code m from to) ins (OnStack ins)
  typed_encoded string.Utf8 to needs = typed_text AsUtf8 to needs.0
  typed_encoded string.Utf16 to needs = typed_text AsUtf16 to needs.0
  typed_encoded string.CompactUtf16 to needs = typed_either (typed_no_tag m.temporaries.units units) (typed_text AsCompactLatin1 to needs.0) (typed_then typed_untag (typed_text AsCompactUtf16 to needs.1.0))
