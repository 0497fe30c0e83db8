-- The imports of a module of adapters are those of adapter modules, as the check of bytes looks at them: each has the module, the name and
-- the type of a row.
use Rattle.std.proofs.Common.{◌≡◌, ℕ, zero, suc, ◌+◌, ◌<◌, ◌≤◌, ◌^◌, ◌⊎◌, inl, inr, Bool, true, false, List, [], ◌∷◌, ◌++◌, Option, Some, None, refl, sym, ap, ◌∙◌, subst, arith, length, take, slice_get, append-nil, append_assoc}
use Rattle.std.specs.Prelude.{codes, cond, count_by, filter, option_map, Result, Ok, Err, IfOk, OnOk}
use Rattle.std.specs.Fmt.{decimal}
use Rattle.std.specs.List.{AllZip, cons_option, filter_map}
use Rattle.std.proofs.lemmas.List.{length-take-le}
use Rattle.std.proofs.lemmas.List.Sums.{sum_by-cons}
use Rattle.std.proofs.lemmas.Option.{slice_get_within}
use Rattle.fact_wasm.specs.declared.types.FuncType.{FuncType}
use Rattle.fact_wasm.specs.declared.module.ImportType.{ImportType}
use Rattle.fact_wasm.specs.declared.module.ImportType.TheVariants as import
use Rattle.fact_wasm.specs.declared.module.WasmImport.{WasmImport}
use Rattle.fact_wasm.specs.declared.module.WasmModule.{WasmModule}
use Rattle.fact_machine.specs.Typed.{type_of_memory}
use Rattle.fact_types.specs.Adapters.{LinkedAdapter}
use Rattle.fact_types.specs.ImportTypes.{realloc_type}
use Rattle.fact_types.specs.TranscoderNames.{transcode_name, transcoder_name}
use Rattle.fact_types.specs.declared.import.Import.{Import}
use Rattle.fact_types.specs.declared.import.Import.TheVariants as known
use Rattle.fact_types.specs.declared.outside.CoreDef.{CoreDef}
use Rattle.fact_types.specs.declared.outside.FixedEncoding.TheVariants.{Utf8, Utf16, Latin1}
use Rattle.fact_types.specs.declared.outside.Transcode.{Transcode}
use Rattle.fact_types.specs.declared.outside.Transcode.TheVariants as op
use Rattle.fact_types.specs.declared.outside.Trap.{Trap}
use Rattle.fact_types.specs.declared.outside.Trap.TheVariants as trap
use Rattle.fact_types.specs.declared.outside.UnsafeIntrinsic.TheVariants as slot
use Rattle.fact_types.proofs.ShapeLaws.{none_some, same_some}
use Rattle.fact_code_laws.specs.StringCode.{transcoder_type}
use Rattle.fact_emit.specs.declared.imported.RuntimeFunction.{RuntimeFunction}
use Rattle.fact_emit.specs.declared.imported.RuntimeFunction.TheVariants as runtime
use Rattle.fact_emit.specs.ImportSection.{AreNamed, Callback, Callee, Flags, IsImportedFunction, IsNamed, IsPrepareNamed, IsRuntime, IsStartNamed, IsTranscoderNamed, Mention, NamesImports, PostReturn, Realloc, Role, StandsFor, Storage, a_function, a_memory, custom_page_size, if_prepare, imported_type, imports_of, is_awaited, is_of, mentions, prepares_in, same_sort, sort_of}
use Rattle.fact_emit.specs.Runtime.{trap_number}
use Rattle.fact_check.specs.Accepted.{IsAccepted}
use Rattle.fact_check.specs.Imports.{IsAdapterImport, IsFunctionIn, IsFunctionRow, IsNamedFunction, IsPageSize, IsRow, fixed_signature, functions_in, memories_in, operation_of, origin_of, type_of_function, type_of_signature, width_of_memory}
use Rattle.fact_check.specs.Imports.{realloc_type as realloc_row, transcoder_type as transcoder_row}
use Rattle.fact_check.specs.declared.imports.Operation.{Operation}
use Rattle.fact_check.specs.declared.imports.Operation.TheVariants as operation
use Rattle.fact_check.specs.declared.imports.Origin.{Origin}
use Rattle.fact_check.specs.declared.imports.Origin.TheVariants as origin
use Rattle.fact_check.specs.declared.imports.Signature.{Signature}
use Rattle.fact_check.specs.declared.imports.Signature.TheVariants as signature
use Rattle.fact_plan.specs.declared.plan.FusePlan.{FusePlan}
use Rattle.fact_adapter_rules.specs.Adapters.{adapters_of}
use Rattle.fact_adapter_rules.specs.FirstFault.{IsFaultlessPlan}
use Rattle.fact_module.specs.Checked.{FusedAreAccepted}
use Rattle.fact_module.specs.declared.fusion.Fused.{Fused}
use Rattle.fact_module.specs.Fused.{IsFused}
use Rattle.fact_module.proofs.PlainAdapters.{ArePlain, IsPlainAdapter, IsPlainRole, plain_adapters, plain_roles, plain_some}

-- ---- how many imports of a kind there are

abbrev Index : ImportType → Option ℕ
Index ty = elim ty [ import.Func t ↦ Some t | import.Memory least wide page ↦ None | import.Global t mutable ↦ None ]

abbrev Width : ImportType → Option Bool
Width ty = elim ty [ import.Func t ↦ None | import.Memory least wide page ↦ Some wide | import.Global t mutable ↦ None ]

abbrev Kind : ImportType → Option (Bool × Option ℕ)
Kind ty = elim ty [ import.Func t ↦ None | import.Memory least wide page ↦ Some (wide, page) | import.Global t mutable ↦ None ]

functions_counted : (ws : List WasmImport) → count_by (is_of a_function) ws ≡ functions_in ws
functions_counted [] = refl
functions_counted (w ∷ ws) = sum_by-cons (λ (v : WasmImport). cond (is_of a_function v) 1 0) w ws ∙ by w.ty (functions_counted ws)
  where
    by : (ty : ImportType) → count_by (is_of a_function) ws ≡ functions_in ws → cond (same_sort a_function (sort_of ty)) 1 0 + count_by (is_of a_function) ws ≡ length (cons_option (Index ty) (filter_map type_of_function ws))
    by (import.Func t) e = omega (arith, e)
    by (import.Memory least wide page) e = omega (arith, e)
    by (import.Global t mutable) e = omega (arith, e)

memories_counted : (ws : List WasmImport) → count_by (is_of a_memory) ws ≡ length (memories_in ws)
memories_counted [] = refl
memories_counted (w ∷ ws) = sum_by-cons (λ (v : WasmImport). cond (is_of a_memory v) 1 0) w ws ∙ by w.ty (memories_counted ws)
  where
    by : (ty : ImportType) → count_by (is_of a_memory) ws ≡ length (memories_in ws) → cond (same_sort a_memory (sort_of ty)) 1 0 + count_by (is_of a_memory) ws ≡ length (cons_option (Width ty) (filter_map width_of_memory ws))
    by (import.Func t) e = omega (arith, e)
    by (import.Memory least wide page) e = omega (arith, e)
    by (import.Global t mutable) e = omega (arith, e)

no_more : {A B : Type 0} (f : A → Option B) (xs : List A) → length (filter_map f xs) ≤ length xs
no_more f [] = omega arith
no_more {B = B} f (x ∷ xs) = by (f x) (no_more f xs)
  where
    by : (o : Option B) → length (filter_map f xs) ≤ length xs → length (cons_option o (filter_map f xs)) ≤ length (x ∷ xs)
    by None h = omega (arith, h)
    by (Some b) h = omega (arith, h)

-- the memory of a place has the width that its type says
width_there : (ws : List WasmImport) (n : ℕ) (wide : Bool) (page : Option ℕ) → slice_get (filter_map type_of_memory ws) n ≡ Some (wide, page) → slice_get (memories_in ws) n ≡ Some wide
width_there [] n wide page e = cc
width_there (w ∷ ws) n wide page e = by w.ty n (λ m h. width_there ws m wide page h) e
  where
    by : (ty : ImportType) (n : ℕ) → ((m : ℕ) → slice_get (filter_map type_of_memory ws) m ≡ Some (wide, page) → slice_get (memories_in ws) m ≡ Some wide)
        → slice_get (cons_option (Kind ty) (filter_map type_of_memory ws)) n ≡ Some (wide, page) → slice_get (cons_option (Width ty) (filter_map width_of_memory ws)) n ≡ Some wide
    by (import.Func t) n again h = again n h
    by (import.Memory least v q) zero again h = ap (λ (o : Option (Bool × Option ℕ)). option_map (λ (k : Bool × Option ℕ). k.0) o) h
    by (import.Memory least v q) (suc n) again h = again n h
    by (import.Global t mutable) n again h = again n h

-- ---- what names say

realloc_origin : origin_of (codes "realloc") ≡ Some origin.Realloc
unfolding origin_of
realloc_origin = refl

callback_origin : origin_of (codes "callback") ≡ Some origin.Callback
unfolding origin_of
callback_origin = refl

callee_origin : origin_of (codes "callee") ≡ Some origin.Callee
unfolding origin_of
callee_origin = refl

post_return_origin : origin_of (codes "post_return") ≡ Some origin.PostReturn
unfolding origin_of
post_return_origin = refl

transcode_origin : origin_of (codes "transcode") ≡ Some origin.Transcode
unfolding origin_of
transcode_origin = refl

sync_origin : origin_of (codes "sync") ≡ Some origin.Sync
unfolding origin_of
sync_origin = refl

async_origin : origin_of (codes "async") ≡ Some origin.Async
unfolding origin_of
async_origin = refl

future_origin : origin_of (codes "future") ≡ Some origin.Transfer
unfolding origin_of
future_origin = refl

stream_origin : origin_of (codes "stream") ≡ Some origin.Transfer
unfolding origin_of
stream_origin = refl

error_context_origin : origin_of (codes "error-context") ≡ Some origin.Transfer
unfolding origin_of
error_context_origin = refl

resource_origin : origin_of (codes "resource") ≡ Some origin.Resource
unfolding origin_of
resource_origin = refl

context_origin : origin_of (codes "context") ≡ Some origin.Context
unfolding origin_of
context_origin = refl

runtime_origin : origin_of (codes "runtime") ≡ Some origin.Runtime
unfolding origin_of
runtime_origin = refl

-- functions of these modules have no fixed names
abbrev HasNoFixed : Origin → Type 0
HasNoFixed o = (name : List ℕ) → fixed_signature o name ≡ None

realloc_named : HasNoFixed origin.Realloc
unfolding fixed_signature
realloc_named name = refl

callback_named : HasNoFixed origin.Callback
unfolding fixed_signature
callback_named name = refl

callee_named : HasNoFixed origin.Callee
unfolding fixed_signature
callee_named name = refl

post_return_named : HasNoFixed origin.PostReturn
unfolding fixed_signature
post_return_named name = refl

transcode_named : HasNoFixed origin.Transcode
unfolding fixed_signature
transcode_named name = refl

sync_named : HasNoFixed origin.Sync
unfolding fixed_signature
sync_named name = refl

runtime_named : HasNoFixed origin.Runtime
unfolding fixed_signature
runtime_named name = refl

-- nor has a start-call
start_named : (adapter : List ℕ) → fixed_signature origin.Async (codes "[start-call]" ++ adapter) ≡ None
unfolding fixed_signature
start_named adapter = refl

-- and those that have
enter_signature : fixed_signature origin.Async (codes "enter-sync-call") ≡ Some signature.Enter
unfolding fixed_signature
enter_signature = refl

exit_signature : fixed_signature origin.Async (codes "exit-sync-call") ≡ Some signature.Exit
unfolding fixed_signature
exit_signature = refl

transfer_signature : fixed_signature origin.Transfer (codes "transfer") ≡ Some signature.Transfer
unfolding fixed_signature
transfer_signature = refl

own_signature : fixed_signature origin.Resource (codes "transfer-own") ≡ Some signature.Transfer
unfolding fixed_signature
own_signature = refl

borrow_signature : fixed_signature origin.Resource (codes "transfer-borrow") ≡ Some signature.Transfer
unfolding fixed_signature
borrow_signature = refl

get0_signature : fixed_signature origin.Context (codes "get0") ≡ Some signature.Get
unfolding fixed_signature
get0_signature = refl

get1_signature : fixed_signature origin.Context (codes "get1") ≡ Some signature.Get
unfolding fixed_signature
get1_signature = refl

set0_signature : fixed_signature origin.Context (codes "set0") ≡ Some signature.Set
unfolding fixed_signature
set0_signature = refl

set1_signature : fixed_signature origin.Context (codes "set1") ≡ Some signature.Set
unfolding fixed_signature
set1_signature = refl

-- ---- transcoders

-- what holds of both widths holds of each
each_width : (P : Bool → Bool → Type 0) → P false false → P false true → P true false → P true true → (from to : Bool) → P from to
each_width P a b c d false false = a
each_width P a b c d false true = b
each_width P a b c d true false = c
each_width P a b c d true true = d

-- an operation by what its names begin with, and its types
record IsOperation (o : Transcode) (x : Operation) : Type 0 where
  described : operation_of (transcode_name o) ≡ Some x
  typed : (from to : Bool) → transcoder_type o from to ≡ transcoder_row x from to

abbrev TypedAs : Transcode → Operation → Bool → Bool → Type 0
TypedAs o x from to = transcoder_type o from to ≡ transcoder_row x from to

operation_is : (o : Transcode) → (x : Operation) × IsOperation o x
unfolding operation_of
operation_is (op.Copy Utf8) = (operation.Exact, record { described = refl; typed = each_width (TypedAs (op.Copy Utf8) operation.Exact) refl refl refl refl })
operation_is (op.Copy Utf16) = (operation.Exact, record { described = refl; typed = each_width (TypedAs (op.Copy Utf16) operation.Exact) refl refl refl refl })
operation_is (op.Copy Latin1) = (operation.Exact, record { described = refl; typed = each_width (TypedAs (op.Copy Latin1) operation.Exact) refl refl refl refl })
operation_is op.Latin1ToUtf16 = (operation.Exact, record { described = refl; typed = each_width (TypedAs op.Latin1ToUtf16 operation.Exact) refl refl refl refl })
operation_is op.Utf8ToUtf16 = (operation.Counted, record { described = refl; typed = each_width (TypedAs op.Utf8ToUtf16 operation.Counted) refl refl refl refl })
operation_is op.Utf16ToCompactProbablyUtf16 = (operation.Counted, record { described = refl; typed = each_width (TypedAs op.Utf16ToCompactProbablyUtf16 operation.Counted) refl refl refl refl })
operation_is op.Utf16ToUtf8 = (operation.Fitting, record { described = refl; typed = each_width (TypedAs op.Utf16ToUtf8 operation.Fitting) refl refl refl refl })
operation_is op.Latin1ToUtf8 = (operation.Fitting, record { described = refl; typed = each_width (TypedAs op.Latin1ToUtf8 operation.Fitting) refl refl refl refl })
operation_is op.Utf8ToLatin1 = (operation.Narrow, record { described = refl; typed = each_width (TypedAs op.Utf8ToLatin1 operation.Narrow) refl refl refl refl })
operation_is op.Utf16ToLatin1 = (operation.Narrow, record { described = refl; typed = each_width (TypedAs op.Utf16ToLatin1 operation.Narrow) refl refl refl refl })
operation_is op.Utf8ToCompactUtf16 = (operation.Widening, record { described = refl; typed = each_width (TypedAs op.Utf8ToCompactUtf16 operation.Widening) refl refl refl refl })
operation_is op.Utf16ToCompactUtf16 = (operation.Widening, record { described = refl; typed = each_width (TypedAs op.Utf16ToCompactUtf16 operation.Widening) refl refl refl refl })

-- ---- parts of rows

trap_within : (t : Trap) → trap_number t ≤ 12
trap_within trap.CannotLeaveComponent = omega arith
trap_within trap.CannotEnterComponent = omega arith
trap_within trap.MemoryOutOfBounds = omega arith
trap_within trap.StringOutOfBounds = omega arith
trap_within trap.ListOutOfBounds = omega arith
trap_within trap.UnalignedPointer = omega arith
trap_within trap.InvalidChar = omega arith
trap_within trap.InvalidDiscriminant = omega arith
trap_within trap.UncaughtException = omega arith
trap_within trap.DebugAssertPointerAligned = omega arith
trap_within trap.DebugAssertUpperBitsUnset = omega arith
trap_within trap.DebugAssertStringEncodingFinished = omega arith
trap_within trap.DebugAssertEqualCodeUnits = omega arith

small_trap : (t : Trap) → trap_number t < 2 ^ 32
small_trap t = let within = trap_within t in omega (arith, within)

page_of : (k : ℕ) → (k ≡ 0) ⊎ (k ≡ 16) → IsPageSize (custom_page_size k)
page_of k (inl is) = subst (λ n. IsPageSize (custom_page_size n)) (sym is) (inr refl)
page_of k (inr is) = subst (λ n. IsPageSize (custom_page_size n)) (sym is) (inl refl)

realloc_of : (wide : Bool) → (realloc_type wide ≡ realloc_row false) ⊎ (realloc_type wide ≡ realloc_row true)
realloc_of false = inl refl
realloc_of true = inr refl

-- ---- rows

module _ (types : List FuncType) (before : List WasmImport) (few : length before < 2 ^ 32) where
  small_functions : functions_in before < 2 ^ 32
  small_functions = let most = no_more type_of_function before in omega (arith, few, most)

  small_memories : length (memories_in before) < 2 ^ 32
  small_memories = let most = no_more width_of_memory before in omega (arith, few, most)

  function_row : (w : WasmImport) (from name : List ℕ) (ty : FuncType) → IsImportedFunction types w from name ty → IsFunctionRow (functions_in before) (memories_in before) (origin_of from) name ty → IsRow types before w.module w.name w.ty
  function_row w from name ty is row = go w.ty is.is_typed
    where
      here : IsFunctionRow (functions_in before) (memories_in before) (origin_of w.module) w.name ty
      here =
          subst (λ o. IsFunctionRow (functions_in before) (memories_in before) (origin_of o) w.name ty) (sym is.is_from)
          (subst (λ x. IsFunctionRow (functions_in before) (memories_in before) (origin_of from) x ty) (sym is.is_named) row)

      go : (t : ImportType) → imported_type types t ≡ Some ty → IsRow types before w.module w.name t
      go (import.Func n) e = (ty, e, here)
      go (import.Memory least wide page) e = absurd (none_some None ty refl e)
      go (import.Global t mutable) e = absurd (none_some None ty refl e)

  -- one that has a row of its own, and one that has a fixed name
  own_row : (w : WasmImport) (from name : List ℕ) (ty : FuncType) (o : Origin) → IsImportedFunction types w from name ty → origin_of from ≡ Some o → fixed_signature o name ≡ None → IsNamedFunction (functions_in before) (memories_in before) name ty o
      → IsRow types before w.module w.name w.ty
  own_row w from name ty o is a b h =
      function_row w from name ty is (subst (λ (x : Option Origin). IsFunctionRow (functions_in before) (memories_in before) x name ty) (sym a)
      (subst (λ (s : Option Signature). IsFunctionIn (functions_in before) (memories_in before) name ty o s) (sym b) h))

  fixed_row : (w : WasmImport) (from name : List ℕ) (ty : FuncType) (o : Origin) (s : Signature) → IsImportedFunction types w from name ty → origin_of from ≡ Some o → fixed_signature o name ≡ Some s → ty ≡ type_of_signature s
      → IsRow types before w.module w.name w.ty
  fixed_row w from name ty o s is a b h =
      function_row w from name ty is (subst (λ (x : Option Origin). IsFunctionRow (functions_in before) (memories_in before) x name ty) (sym a)
      (subst (λ (x : Option Signature). IsFunctionIn (functions_in before) (memories_in before) name ty o x) (sym b) h))

  function_name : codes "f" ++ decimal (count_by (is_of a_function) before) ≡ codes "f" ++ decimal (functions_in before)
  function_name = ap (λ n. codes "f" ++ decimal n) (functions_counted before)

  -- a definition in its role
  role_row : (r : Role) (w : WasmImport) → IsPlainRole r → StandsFor types before r w → IsRow types before w.module w.name w.ty
  role_row (Flags i) w plain is = subst (λ (v : WasmImport). IsRow types before v.module v.name v.ty) (sym is) (refl, (i, (plain, refl)), refl, refl)
  role_row (Storage wide k) w plain is =
      subst (λ (v : WasmImport). IsRow types before v.module v.name v.ty) (sym is) (refl, (small_memories, ap (λ n. codes "m" ++ decimal n) (memories_counted before)), refl, page_of k plain)
  role_row (Realloc wide) w plain is =
      own_row w (codes "realloc") _ (realloc_type wide) origin.Realloc is realloc_origin (realloc_named _) ((small_functions, function_name), realloc_of wide)
  role_row Callback w plain is = own_row w (codes "callback") _ _ origin.Callback is callback_origin (callback_named _) ((small_functions, function_name), refl)
  role_row (Callee adapter ty) w plain is = own_row w (codes "callee") adapter ty origin.Callee is callee_origin (callee_named adapter) plain
  role_row (PostReturn adapter results) w plain is = own_row w (codes "post_return") adapter _ origin.PostReturn is post_return_origin (post_return_named adapter) (plain, refl)

  -- a function of the runtime
  runtime_row : (f : RuntimeFunction) (w : WasmImport) → IsRuntime types f w → IsRow types before w.module w.name w.ty
  runtime_row (runtime.Trap t) w is = own_row w (codes "runtime") _ _ origin.Runtime is runtime_origin (runtime_named _) ((trap_number t, trap_within t, (small_trap t, refl)), refl)
  runtime_row runtime.ResourceTransferOwn w is = fixed_row w (codes "resource") _ _ origin.Resource signature.Transfer is resource_origin own_signature refl
  runtime_row runtime.ResourceTransferBorrow w is = fixed_row w (codes "resource") _ _ origin.Resource signature.Transfer is resource_origin borrow_signature refl
  runtime_row runtime.FutureTransfer w is = fixed_row w (codes "future") _ _ origin.Transfer signature.Transfer is future_origin transfer_signature refl
  runtime_row runtime.StreamTransfer w is = fixed_row w (codes "stream") _ _ origin.Transfer signature.Transfer is stream_origin transfer_signature refl
  runtime_row runtime.ErrorContextTransfer w is = fixed_row w (codes "error-context") _ _ origin.Transfer signature.Transfer is error_context_origin transfer_signature refl
  runtime_row runtime.EnterSyncCall w is = fixed_row w (codes "async") _ _ origin.Async signature.Enter is async_origin enter_signature refl
  runtime_row runtime.ExitSyncCall w is = fixed_row w (codes "async") _ _ origin.Async signature.Exit is async_origin exit_signature refl
  runtime_row (runtime.UnsafeIntrinsic slot.ContextGetI32_0) w is = fixed_row w (codes "context") _ _ origin.Context signature.Get is context_origin get0_signature refl
  runtime_row (runtime.UnsafeIntrinsic slot.ContextGetI32_1) w is = fixed_row w (codes "context") _ _ origin.Context signature.Get is context_origin get1_signature refl
  runtime_row (runtime.UnsafeIntrinsic slot.ContextSetI32_0) w is = fixed_row w (codes "context") _ _ origin.Context signature.Set is context_origin set0_signature refl
  runtime_row (runtime.UnsafeIntrinsic slot.ContextSetI32_1) w is = fixed_row w (codes "context") _ _ origin.Context signature.Set is context_origin set1_signature refl

  -- a transcoder
  transcoder_has_row : (memories : List Import) (o : Transcode) (from : CoreDef) (from64 : Bool) (to : CoreDef) (to64 : Bool) (w : WasmImport) → IsTranscoderNamed types before memories o from from64 to to64 w → IsRow types before w.module w.name w.ty
  transcoder_has_row memories o from from64 to to64 w t =
      let kind = operation_is o in
      let here = width_there before t.from_place from64 t.from_wide.page t.from_wide.imported in
      let there = width_there before t.to_place to64 t.to_wide.page t.to_wide.imported in
      let within = slice_get_within (memories_in before) t.from_place from64 here in
      let within_too = slice_get_within (memories_in before) t.to_place to64 there in
      let small = small_memories in
      own_row w (codes "transcode") (transcoder_name o t.from_place t.to_place) (transcoder_type o from64 to64) origin.Transcode t.is transcode_origin (transcode_named _) (record {
        description = transcode_name o;
        operation = kind.0;
        from = t.from_place;
        to = t.to_place;
        from64 = from64;
        to64 = to64;
        described = kind.1.described;
        from_small = omega (arith, within, small);
        to_small = omega (arith, within_too, small);
        from_there = here;
        to_there = there;
        named = refl;
        typed = kind.1.typed from64 to64;
      })

  -- the calls by which async adapters hand their calls to the runtime
  start_row : (adapters : List LinkedAdapter) → ArePlain adapters → (w : WasmImport) (callback post_return : Option CoreDef) → IsStartNamed types adapters w callback post_return → IsRow types before w.module w.name w.ty
  start_row adapters plain w callback post_return s =
      own_row w (codes "async") _ _ origin.Async s.named async_origin (start_named s.first.name) ((s.first.name, refl), (refl, (plain.each s.number s.first s.first_there).lower_numbers.1))

  prepare_row : (a : LinkedAdapter) → IsPlainAdapter a → (w : WasmImport) (memory : Option CoreDef) → IsPrepareNamed types (w, memory) a → IsRow types before w.module w.name w.ty
  prepare_row a plain w memory p = own_row w (codes "sync") _ _ origin.Sync p.named sync_origin (sync_named _) ((a.name, refl), (a.lower.core_type.params, plain.lower_numbers.0, refl))

-- ---- imports by their places

-- what stands at a place, behind those before it
named_there : (types : List FuncType) (ms : List Mention) (before ws : List WasmImport) (is : List Import) (n : ℕ) (w : WasmImport) → AreNamed types ms before ws is → slice_get ws n ≡ Some w
    → (i : Import) × (slice_get is n ≡ Some i) × IsNamed types ms (before ++ take n ws) w i
named_there types ms before [] is n w named e = cc
named_there types ms before (v ∷ ws) [] n w named e = absurd named
named_there types ms before (v ∷ ws) (j ∷ is) zero w named e =
    (j, refl, subst (λ b. IsNamed types ms b w j) (sym (append-nil before)) (subst (λ u. IsNamed types ms before u j) (same_some (Some v) v w refl e) named.0))
named_there types ms before (v ∷ ws) (j ∷ is) (suc n) w named e =
    let r = named_there types ms (before ++ v ∷ []) ws is n w named.1 e in
    (r.0, r.1, subst (λ b. IsNamed types ms b w r.0) (append_assoc before (v ∷ []) (take n ws)) r.2)

-- what stands at a place of a list
item_at : {A : Type 0} (xs : List A) (n : ℕ) → n < length xs → (x : A) × (slice_get xs n ≡ Some x)
item_at [] n h = absurd (omega arith)
item_at (x ∷ xs) zero h = (x, refl)
item_at (x ∷ xs) (suc n) h = item_at xs n (omega arith)

-- something that is among others
later : {A : Type 0} (xs ys : List A) (y : A) → (k : ℕ) × (slice_get ys k ≡ Some y) → (k : ℕ) × (slice_get (xs ++ ys) k ≡ Some y)
later [] ys y r = r
later (x ∷ xs) ys y r = let q = later xs ys y r in (suc q.0, q.1)

-- a prepare-call is among the prepare-calls
prepare_there : (ws : List WasmImport) (is : List Import) (n : ℕ) (w : WasmImport) (memory : Option CoreDef) → slice_get ws n ≡ Some w → slice_get is n ≡ Some (known.PrepareCall memory)
    → (k : ℕ) × (slice_get (prepares_in ws is) k ≡ Some (w, memory))
prepare_there [] is n w memory e f = cc
prepare_there (v ∷ ws) [] n w memory e f = cc
prepare_there (v ∷ ws) (j ∷ is) zero w memory e f =
    let same : v ≡ w = same_some (Some v) v w refl e in
    subst (λ (i : Import). (k : ℕ) × (slice_get (if_prepare v i ++ prepares_in ws is) k ≡ Some (w, memory))) (sym (same_some (Some j) j (known.PrepareCall memory) refl f)) (0, ap (λ (u : WasmImport). Some (u, memory)) same)
prepare_there (v ∷ ws) (j ∷ is) (suc n) w memory e f = later (if_prepare v j) (prepares_in ws is) (w, memory) (prepare_there ws is n w memory e f)

-- what stands beside an item
beside : {A B : Type 0} (R : A → B → Type 0) (xs : List A) (ys : List B) (k : ℕ) (x : A) → AllZip R xs ys → slice_get xs k ≡ Some x → (y : B) × (slice_get ys k ≡ Some y) × R x y
beside R [] ys k x h e = cc
beside R (z ∷ xs) [] k x h e = absurd h
beside R (z ∷ xs) (y ∷ ys) zero x h e = (y, refl, subst (λ u. R u y) (same_some (Some z) z x refl e) h.0)
beside R (z ∷ xs) (y ∷ ys) (suc k) x h e = beside R xs ys k x h.1 e

module _ (m : WasmModule) (is : List Import) (adapters : List LinkedAdapter) (names : NamesImports m is adapters) (plain : ArePlain adapters) (few : length m.imports < 2 ^ 32) where
  module _ (n : ℕ) (w : WasmImport) (there : slice_get m.imports n ≡ Some w) where
    few_before : length (take n m.imports) < 2 ^ 32
    few_before =
        let within = slice_get_within m.imports n w there in
        let long = length-take-le n m.imports (omega (arith, within)) in
        omega (arith, long, within, few)

    row : (i : Import) → slice_get is n ≡ Some i → IsNamed m.types (mentions adapters) (take n m.imports) w i → IsRow m.types (take n m.imports) w.module w.name w.ty
    row (known.CoreDef d) e h = role_row m.types (take n m.imports) few_before h.0 w (plain_roles adapters plain (record { def = d; role = h.0 }) h.1) h.2
    row (known.Trap t) e h = runtime_row m.types (take n m.imports) few_before (runtime.Trap t) w h
    row known.ResourceTransferOwn e h = runtime_row m.types (take n m.imports) few_before runtime.ResourceTransferOwn w h
    row known.ResourceTransferBorrow e h = runtime_row m.types (take n m.imports) few_before runtime.ResourceTransferBorrow w h
    row known.FutureTransfer e h = runtime_row m.types (take n m.imports) few_before runtime.FutureTransfer w h
    row known.StreamTransfer e h = runtime_row m.types (take n m.imports) few_before runtime.StreamTransfer w h
    row known.ErrorContextTransfer e h = runtime_row m.types (take n m.imports) few_before runtime.ErrorContextTransfer w h
    row known.EnterSyncCall e h = runtime_row m.types (take n m.imports) few_before runtime.EnterSyncCall w h
    row known.ExitSyncCall e h = runtime_row m.types (take n m.imports) few_before runtime.ExitSyncCall w h
    row (known.UnsafeIntrinsic s) e h = runtime_row m.types (take n m.imports) few_before (runtime.UnsafeIntrinsic s) w h
    row (known.Transcode o from from64 to to64) e h =
        transcoder_has_row m.types (take n m.imports) few_before (imports_of a_memory (take n m.imports) (take n is)) o from from64 to to64 w (names.transcoders.each n w (known.Transcode o from from64 to to64) there e)
    row (known.StartCall callback post_return) e h = start_row m.types (take n m.imports) few_before adapters plain w callback post_return (names.task_calls.starts.named n w callback post_return there e)
    row (known.PrepareCall memory) e h =
        let p = prepare_there m.imports is n w memory there e in
        let a = beside (IsPrepareNamed m.types) (prepares_in m.imports is) (filter is_awaited adapters) p.0 (w, memory) names.task_calls.prepares p.1 in
        prepare_row m.types (take n m.imports) few_before a.0 ((plain_some is_awaited adapters plain).each p.0 a.0 a.1) w memory a.2

  pub adapter_imports : (n : ℕ) → n < length m.imports → IsAdapterImport m n
  adapter_imports n within =
      let w = item_at m.imports n within in
      let i = named_there m.types (mentions adapters) [] m.imports is n w.0 names.named w.1 in
      record { import = w.0; there = w.1; is_row = row n w.0 w.1 i.0 i.1 i.2 }

-- ---- the module of a plan

pub fused_are_accepted : FusedAreAccepted
fused_are_accepted f p h faultless = record {
  in_range = h.in_range;
  spelled = h.spelled;
  is_adapter = record {
    imports = adapter_imports f.module f.imports (adapters_of p) h.promised.faithful.imports (plain_adapters p faultless) h.spelled.fits.imports.0;
    typed = h.promised.typed;
  };
}

-- where a plan that was fused has no fault
pub accepted_both : {E : Type 0} (p : FusePlan) (r : Result Fused E) → IfOk r (λ f. IsFused f p) → OnOk r (IsFaultlessPlan p) → IfOk r (λ f. IsAccepted f.bytes f.module)
accepted_both p (Ok f) h faultless = fused_are_accepted f p h faultless
accepted_both p (Err e) h faultless = tt
