-- Imports that are equal by `==` are the same.
use Rattle.std.proofs.Common.{◌≡◌, Bool, true, Option, Some, None, refl, sym, ap, ◌∙◌}
use Rattle.std.specs.Cmp.{first_so, second_so}
use Rattle.std.specs.Option.{option_eq}
use Rattle.std.proofs.lemmas.Bool.{eqb-true, false≢true, true≢false}
use Rattle.fact_wasm.specs.declared.types.ValType.{ValType}
use Rattle.fact_wasm.specs.declared.types.ValType.TheVariants as val
use Rattle.fact_wasm.specs.contracts.types.ValTypePartialEq.TheImpl as val_eq
use Rattle.fact_types.specs.Exact.{exact_bool, exact_def, exact_list, exact_option}
use Rattle.fact_types.specs.contracts.outside.CoreDefPartialEq.TheImpl as def_eq
use Rattle.fact_types.specs.declared.outside.CoreDef.{CoreDef}
use Rattle.fact_types.specs.declared.outside.FixedEncoding.{FixedEncoding}
use Rattle.fact_types.specs.declared.outside.FixedEncoding.TheVariants as encoding
use Rattle.fact_types.specs.contracts.outside.FixedEncodingPartialEq.TheImpl as encoding_eq
use Rattle.fact_types.specs.declared.outside.Transcode.{Transcode}
use Rattle.fact_types.specs.declared.outside.Transcode.TheVariants as transcode
use Rattle.fact_types.specs.contracts.outside.TranscodePartialEq.TheImpl as transcode_eq
use Rattle.fact_types.specs.declared.outside.Trap.{Trap}
use Rattle.fact_types.specs.declared.outside.Trap.TheVariants as trap
use Rattle.fact_types.specs.contracts.outside.TrapPartialEq.TheImpl as trap_eq
use Rattle.fact_types.specs.declared.outside.UnsafeIntrinsic.{UnsafeIntrinsic}
use Rattle.fact_types.specs.declared.outside.UnsafeIntrinsic.TheVariants as slot
use Rattle.fact_types.specs.contracts.outside.UnsafeIntrinsicPartialEq.TheImpl as slot_eq
use Rattle.fact_types.specs.declared.import.Import.{Import}
use Rattle.fact_types.specs.declared.import.Import.TheVariants as known
use Rattle.fact_emit.specs.declared.imported.RuntimeFunction.{RuntimeFunction}
use Rattle.fact_emit.specs.declared.imported.RuntimeFunction.TheVariants as runtime
use Rattle.fact_emit.specs.contracts.imported.RuntimeFunctionPartialEq.TheImpl as runtime_eq
use Rattle.fact_emit.specs.declared.imported.PrepareCallItem.{PrepareCallItem}
use Rattle.fact_emit.specs.contracts.imported.PrepareCallItemPartialEq.TheImpl as prepare_eq
use Rattle.fact_emit.specs.declared.imported.StartCallItem.{StartCallItem}
use Rattle.fact_emit.specs.contracts.imported.StartCallItemPartialEq.TheImpl as start_eq
use Rattle.fact_emit.specs.declared.imported.TranscoderItem.{TranscoderItem}
use Rattle.fact_emit.specs.contracts.imported.TranscoderItemPartialEq.TheImpl as transcoder_eq
use Rattle.fact_emit.specs.declared.imported.ImportedItem.{ImportedItem}
use Rattle.fact_emit.specs.declared.imported.ImportedItem.TheVariants as item
use Rattle.fact_emit.specs.contracts.imported.ImportedItemPartialEq.TheImpl as item_eq
use Rattle.fact_emit.specs.ImportSection.{is_made_once}
use Rattle.fact_emit.specs.Runtime.{import_of}
use Rattle.fact_emit.specs.States.{known_as}

pub exact_trap : (a b : Trap) → trap_eq.ghosts.eq a b ≡ true → a ≡ b
exact_trap trap.CannotLeaveComponent trap.CannotLeaveComponent h = refl
exact_trap trap.CannotEnterComponent trap.CannotEnterComponent h = refl
exact_trap trap.MemoryOutOfBounds trap.MemoryOutOfBounds h = refl
exact_trap trap.StringOutOfBounds trap.StringOutOfBounds h = refl
exact_trap trap.ListOutOfBounds trap.ListOutOfBounds h = refl
exact_trap trap.UnalignedPointer trap.UnalignedPointer h = refl
exact_trap trap.InvalidChar trap.InvalidChar h = refl
exact_trap trap.InvalidDiscriminant trap.InvalidDiscriminant h = refl
exact_trap trap.UncaughtException trap.UncaughtException h = refl
exact_trap trap.DebugAssertPointerAligned trap.DebugAssertPointerAligned h = refl
exact_trap trap.DebugAssertUpperBitsUnset trap.DebugAssertUpperBitsUnset h = refl
exact_trap trap.DebugAssertStringEncodingFinished trap.DebugAssertStringEncodingFinished h = refl
exact_trap trap.DebugAssertEqualCodeUnits trap.DebugAssertEqualCodeUnits h = refl
exact_trap a b h = absurd (true≢false (sym h))

pub exact_slot : (a b : UnsafeIntrinsic) → slot_eq.ghosts.eq a b ≡ true → a ≡ b
exact_slot slot.ContextGetI32_0 slot.ContextGetI32_0 h = refl
exact_slot slot.ContextGetI32_1 slot.ContextGetI32_1 h = refl
exact_slot slot.ContextSetI32_0 slot.ContextSetI32_0 h = refl
exact_slot slot.ContextSetI32_1 slot.ContextSetI32_1 h = refl
exact_slot a b h = absurd (true≢false (sym h))

exact_runtime : (a b : RuntimeFunction) → runtime_eq.ghosts.eq a b ≡ true → a ≡ b
exact_runtime (runtime.Trap t) (runtime.Trap u) h = ap runtime.Trap (exact_trap t u h)
exact_runtime runtime.ResourceTransferOwn runtime.ResourceTransferOwn h = refl
exact_runtime runtime.ResourceTransferBorrow runtime.ResourceTransferBorrow h = refl
exact_runtime runtime.FutureTransfer runtime.FutureTransfer h = refl
exact_runtime runtime.StreamTransfer runtime.StreamTransfer h = refl
exact_runtime runtime.ErrorContextTransfer runtime.ErrorContextTransfer h = refl
exact_runtime runtime.EnterSyncCall runtime.EnterSyncCall h = refl
exact_runtime runtime.ExitSyncCall runtime.ExitSyncCall h = refl
exact_runtime (runtime.UnsafeIntrinsic s) (runtime.UnsafeIntrinsic t) h = ap runtime.UnsafeIntrinsic (exact_slot s t h)
exact_runtime a b h = absurd (true≢false (sym h))

exact_encoding : (a b : FixedEncoding) → encoding_eq.ghosts.eq a b ≡ true → a ≡ b
exact_encoding encoding.Utf8 encoding.Utf8 h = refl
exact_encoding encoding.Utf16 encoding.Utf16 h = refl
exact_encoding encoding.Latin1 encoding.Latin1 h = refl
exact_encoding a b h = absurd (true≢false (sym h))

pub exact_transcode : (a b : Transcode) → transcode_eq.ghosts.eq a b ≡ true → a ≡ b
exact_transcode (transcode.Copy e) (transcode.Copy f) h = ap transcode.Copy (exact_encoding e f h)
exact_transcode transcode.Latin1ToUtf16 transcode.Latin1ToUtf16 h = refl
exact_transcode transcode.Latin1ToUtf8 transcode.Latin1ToUtf8 h = refl
exact_transcode transcode.Utf16ToCompactProbablyUtf16 transcode.Utf16ToCompactProbablyUtf16 h = refl
exact_transcode transcode.Utf16ToCompactUtf16 transcode.Utf16ToCompactUtf16 h = refl
exact_transcode transcode.Utf16ToLatin1 transcode.Utf16ToLatin1 h = refl
exact_transcode transcode.Utf16ToUtf8 transcode.Utf16ToUtf8 h = refl
exact_transcode transcode.Utf8ToCompactUtf16 transcode.Utf8ToCompactUtf16 h = refl
exact_transcode transcode.Utf8ToLatin1 transcode.Utf8ToLatin1 h = refl
exact_transcode transcode.Utf8ToUtf16 transcode.Utf8ToUtf16 h = refl
exact_transcode a b h = absurd (true≢false (sym h))

exact_transcoder : (a b : TranscoderItem) → transcoder_eq.ghosts.eq a b ≡ true → a ≡ b
exact_transcoder a b h =
    let e1 = exact_transcode a.op b.op (first_so _ _ h) in
    let r1 = second_so (transcode_eq.ghosts.eq a.op b.op) _ h in
    let e2 = exact_def a.from b.from (first_so _ _ r1) in
    let r2 = second_so _ _ r1 in
    let e3 = exact_bool a.from64 b.from64 (first_so _ _ r2) in
    let r3 = second_so _ _ r2 in
    let e4 = exact_def a.to b.to (first_so _ _ r3) in
    let e5 = exact_bool a.to64 b.to64 (second_so _ _ r3) in
    λ i. record { op = e1 i; from = e2 i; from64 = e3 i; to = e4 i; to64 = e5 i }

exact_val : (a b : ValType) → val_eq.ghosts.eq a b ≡ true → a ≡ b
exact_val val.I32 val.I32 h = refl
exact_val val.I64 val.I64 h = refl
exact_val val.F32 val.F32 h = refl
exact_val val.F64 val.F64 h = refl
exact_val val.FuncRef val.FuncRef h = refl
exact_val a b h = absurd (true≢false (sym h))

exact_def_if_any : (a b : Option CoreDef) → option_eq def_eq.ghosts.eq a b ≡ true → a ≡ b
exact_def_if_any = exact_option def_eq.ghosts.eq exact_def

exact_start : (a b : StartCallItem) → start_eq.ghosts.eq a b ≡ true → a ≡ b
exact_start a b h =
    let e1 = exact_def_if_any a.callback b.callback (first_so _ _ h) in
    let r1 = second_so (option_eq def_eq.ghosts.eq a.callback b.callback) _ h in
    let e2 = exact_def_if_any a.post_return b.post_return (first_so _ _ r1) in
    let e3 = exact_list val_eq.ghosts.eq exact_val a.results b.results (second_so _ _ r1) in
    λ i. record { callback = e1 i; post_return = e2 i; results = e3 i }

exact_prepare : (a b : PrepareCallItem) → prepare_eq.ghosts.eq a b ≡ true → a ≡ b
exact_prepare a b h =
    let e1 = exact_def_if_any a.memory b.memory (first_so _ _ h) in
    let r1 = second_so (option_eq def_eq.ghosts.eq a.memory b.memory) _ h in
    let e2 = exact_list val_eq.ghosts.eq exact_val a.params b.params (first_so _ _ r1) in
    let e3 = eqb-true a.place b.place (second_so _ _ r1) in
    λ i. record { memory = e1 i; params = e2 i; place = e3 i }

pub exact_item : (a b : ImportedItem) → item_eq.ghosts.eq a b ≡ true → a ≡ b
exact_item (item.Def d) (item.Def e) h = ap item.Def (exact_def d e h)
exact_item (item.Runtime f) (item.Runtime g) h = ap item.Runtime (exact_runtime f g h)
exact_item (item.Transcoder t) (item.Transcoder u) h = ap item.Transcoder (exact_transcoder t u h)
exact_item (item.StartCall c) (item.StartCall d) h = ap item.StartCall (exact_start c d h)
exact_item (item.PrepareCall c) (item.PrepareCall d) h = ap item.PrepareCall (exact_prepare c d h)
exact_item a b h = absurd (true≢false (sym h))

-- what an import is as a function of the runtime
runtime_of : Import → Option RuntimeFunction
runtime_of (known.Trap t) = Some (runtime.Trap t)
runtime_of known.ResourceTransferOwn = Some runtime.ResourceTransferOwn
runtime_of known.ResourceTransferBorrow = Some runtime.ResourceTransferBorrow
runtime_of known.FutureTransfer = Some runtime.FutureTransfer
runtime_of known.StreamTransfer = Some runtime.StreamTransfer
runtime_of known.ErrorContextTransfer = Some runtime.ErrorContextTransfer
runtime_of known.EnterSyncCall = Some runtime.EnterSyncCall
runtime_of known.ExitSyncCall = Some runtime.ExitSyncCall
runtime_of (known.UnsafeIntrinsic s) = Some (runtime.UnsafeIntrinsic s)
runtime_of i = None

runtime-back : (f : RuntimeFunction) → runtime_of (import_of f) ≡ Some f
unfolding runtime_of
runtime-back (runtime.Trap t) = refl
runtime-back runtime.ResourceTransferOwn = refl
runtime-back runtime.ResourceTransferBorrow = refl
runtime-back runtime.FutureTransfer = refl
runtime-back runtime.StreamTransfer = refl
runtime-back runtime.ErrorContextTransfer = refl
runtime-back runtime.EnterSyncCall = refl
runtime-back runtime.ExitSyncCall = refl
runtime-back (runtime.UnsafeIntrinsic s) = refl

-- functions of the runtime that are the same import are the same
pub runtime-once : (f g : RuntimeFunction) → import_of f ≡ import_of g → f ≡ g
runtime-once f g e = let same : Some f ≡ Some g = sym (runtime-back f) ∙ ap runtime_of e ∙ runtime-back g in cc

-- none is a core definition
pub runtime-no-def : (f : RuntimeFunction) (d : CoreDef) → import_of f ≡ known.CoreDef d → ⊥
unfolding runtime_of
runtime-no-def f d e = let no : Some f ≡ None = sym (runtime-back f) ∙ ap runtime_of e in absurd (cc)

-- and none is a transcoder
runtime-no-transcoder : (f : RuntimeFunction) (o : Transcode) (d e : CoreDef) (v w : Bool) → import_of f ≡ known.Transcode o d v e w → ⊥
unfolding runtime_of
runtime-no-transcoder f o d e v w h = let no : Some f ≡ None = sym (runtime-back f) ∙ ap runtime_of h in absurd (cc)

-- nor a start-call or a prepare-call
pub runtime-no-start : (f : RuntimeFunction) (callback post_return : Option CoreDef) → import_of f ≡ known.StartCall callback post_return → ⊥
unfolding runtime_of
runtime-no-start f callback post_return h = let no : Some f ≡ None = sym (runtime-back f) ∙ ap runtime_of h in absurd (cc)

runtime-no-prepare : (f : RuntimeFunction) (memory : Option CoreDef) → import_of f ≡ known.PrepareCall memory → ⊥
unfolding runtime_of
runtime-no-prepare f memory h = let no : Some f ≡ None = sym (runtime-back f) ∙ ap runtime_of h in absurd (cc)

transcoder-once : (t u : TranscoderItem) → known.Transcode t.op t.from t.from64 t.to t.to64 ≡ known.Transcode u.op u.from u.from64 u.to u.to64 → t ≡ u
transcoder-once t u h =
    let e1 : t.op ≡ u.op = cc in
    let e2 : t.from ≡ u.from = cc in
    let e3 : t.from64 ≡ u.from64 = cc in
    let e4 : t.to ≡ u.to = cc in
    let e5 : t.to64 ≡ u.to64 = cc in
    λ i. record { op = e1 i; from = e2 i; from64 = e3 i; to = e4 i; to64 = e5 i }

-- items that are the same import are the same, where that is made once
pub known-once : (x y : ImportedItem) → is_made_once (known_as x) ≡ true → known_as x ≡ known_as y → x ≡ y
known-once (item.Def d) (item.Def e) made h = ap item.Def cc
known-once (item.Runtime f) (item.Runtime g) made h = ap item.Runtime (runtime-once f g h)
known-once (item.Def d) (item.Runtime g) made h = absurd (runtime-no-def g d (sym h))
known-once (item.Runtime f) (item.Def e) made h = absurd (runtime-no-def f e h)
known-once (item.Transcoder t) (item.Transcoder u) made h = ap item.Transcoder (transcoder-once t u h)
known-once (item.Transcoder t) (item.Def e) made h = cc
known-once (item.Def d) (item.Transcoder u) made h = cc
known-once (item.Transcoder t) (item.Runtime g) made h = absurd (runtime-no-transcoder g t.op t.from t.to t.from64 t.to64 (sym h))
known-once (item.Runtime f) (item.Transcoder u) made h = absurd (runtime-no-transcoder f u.op u.from u.to u.from64 u.to64 h)
known-once (item.Def d) (item.StartCall c) made h = cc
known-once (item.Def d) (item.PrepareCall c) made h = cc
known-once (item.Transcoder t) (item.StartCall c) made h = cc
known-once (item.Transcoder t) (item.PrepareCall c) made h = cc
known-once (item.Runtime f) (item.StartCall c) made h = absurd (runtime-no-start f c.callback c.post_return h)
known-once (item.Runtime f) (item.PrepareCall c) made h = absurd (runtime-no-prepare f c.memory h)
known-once (item.StartCall c) y made h = absurd (false≢true made)
known-once (item.PrepareCall c) y made h = absurd (false≢true made)

-- a function of the runtime is made once
pub runtime-made-once : (f : RuntimeFunction) → is_made_once (import_of f) ≡ true
runtime-made-once (runtime.Trap t) = refl
runtime-made-once runtime.ResourceTransferOwn = refl
runtime-made-once runtime.ResourceTransferBorrow = refl
runtime-made-once runtime.FutureTransfer = refl
runtime-made-once runtime.StreamTransfer = refl
runtime-made-once runtime.ErrorContextTransfer = refl
runtime-made-once runtime.EnterSyncCall = refl
runtime-made-once runtime.ExitSyncCall = refl
runtime-made-once (runtime.UnsafeIntrinsic s) = refl
