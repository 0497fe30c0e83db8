-- What the names of an adapter module's imported functions say of them.
use Rattle.std.proofs.Common.{◌≡◌, ℕ, zero, suc, ◌<◌, ◌^◌, Bool, true, false, List, [], ◌∷◌, ◌++◌, Option, Some, refl, sym, ap, ◌∙◌, subst, arith, slice_get, take}
use Rattle.std.specs.Prelude.{◌&&◌, ◌||◌, codes, if◌then◌else◌}
use Rattle.std.specs.Fmt.{decimal}
use Rattle.std.specs.List.{AllZip, filter_map}
use Rattle.std.specs.Str.{bytes_eq}
use Rattle.std.proofs.lemmas.Bool.{true≢false}
use Rattle.std.proofs.lemmas.Fmt.{decimal_injective}
use Rattle.fact_wasm.specs.declared.types.FuncType.{FuncType}
use Rattle.fact_wasm.specs.declared.module.WasmImport.{WasmImport}
use Rattle.fact_wasm.specs.declared.module.WasmModule.{WasmModule}
use Rattle.fact_machine.specs.Machine.{memory_import}
use Rattle.fact_machine.specs.Typed.{type_of_memory}
use Rattle.fact_check.specs.Accepted.{IsAdapterModule}
use Rattle.fact_check.specs.NameNumbers.{memories_text}
use Rattle.fact_check.proofs.Transcoders.{closed, divided, number_apart, opened, second_text}
use Rattle.fact_types.specs.Adapters.{LinkedAdapter}
use Rattle.fact_types.specs.TranscoderNames.{transcode_name}
use Rattle.fact_types.specs.declared.import.Import.{Import}
use Rattle.fact_types.specs.declared.import.Import.TheVariants as known
use Rattle.fact_types.specs.declared.outside.CoreDef.{CoreDef}
use Rattle.fact_types.specs.declared.outside.FixedEncoding.TheVariants.{Utf8, Utf16, Latin1}
use Rattle.fact_types.specs.declared.outside.Transcode.{Transcode}
use Rattle.fact_types.specs.declared.outside.Transcode.TheVariants as op
use Rattle.fact_types.specs.declared.outside.UnsafeIntrinsic.TheVariants as slot
use Rattle.fact_types.proofs.ShapeLaws.{same_some, none_some}
use Rattle.fact_host.specs.Roles.{IsTranscoder, is_slot, is_told, is_transfer}
use Rattle.fact_host.proofs.RoleNames.{operation_apart, parts}
use Rattle.fact_emit.specs.ImportSection.{Role, Flags, Storage, Realloc, Callback, Callee, PostReturn, IsNamed, IsPrepareNamed, IsTranscoderNamed, NamesImports, StandsFor, a_memory, if_prepare, imports_of, mentions, prepares_in}
use Rattle.fact_emit.specs.TaskTypes.{start_call_name}
use Rattle.fact_function_laws.specs.Names.{places_in}
use Rattle.fact_call_laws.proofs.Memories.{imports_more, memory_from, memory_small, widths_more}
use Rattle.fact_call_laws.proofs.Standing.{AreApart, placed}

-- ---- tests of names

abbrev named_so : (origin name a b : List ℕ) → Bool
named_so origin name a b = bytes_eq origin a && bytes_eq name b

abbrev transfer_of : (origin name : List ℕ) → Bool
transfer_of o n =
    named_so o n (codes "resource") (codes "transfer-own") || named_so o n (codes "resource") (codes "transfer-borrow")
    || named_so o n (codes "future") (codes "transfer") || named_so o n (codes "stream") (codes "transfer") || named_so o n (codes "error-context") (codes "transfer")

abbrev slot_of : (origin name : List ℕ) → Bool
slot_of o n = named_so o n (codes "context") (codes "get0") || named_so o n (codes "context") (codes "get1")

abbrev told_of : (origin name : List ℕ) → Bool
told_of o n =
    named_so o n (codes "context") (codes "set0") || named_so o n (codes "context") (codes "set1")
    || named_so o n (codes "async") (codes "enter-sync-call") || named_so o n (codes "async") (codes "exit-sync-call")

-- What the names of an imported function say: whether it moves a handle, reads a slot, or is told something; and it is no transcoder.
pub record Says (w : WasmImport) (transfer slot told : Bool) : Type 0 where
  pub transfer_is : is_transfer w ≡ transfer
  pub slot_is : is_slot w ≡ slot
  pub told_is : is_told w ≡ told
  pub no_transcoder : w.module ≡ codes "transcode" → ⊥

says : (w : WasmImport) (o n : List ℕ) (transfer slot told : Bool) → w.module ≡ o → w.name ≡ n → transfer_of o n ≡ transfer → slot_of o n ≡ slot → told_of o n ≡ told → bytes_eq o (codes "transcode") ≡ false → Says w transfer slot told
says w o n transfer slot told e f a b c d = record {
  transfer_is = ap (λ z. transfer_of z w.name) e ∙ ap (transfer_of o) f ∙ a;
  slot_is = ap (λ z. slot_of z w.name) e ∙ ap (slot_of o) f ∙ b;
  told_is = ap (λ z. told_of z w.name) e ∙ ap (told_of o) f ∙ c;
  no_transcoder = λ g. true≢false (sym (ap (λ z. bytes_eq z (codes "transcode")) g) ∙ ap (λ z. bytes_eq z (codes "transcode")) e ∙ d);
}

-- Those of a transcoder say none of it.
pub record SaysTranscoder (w : WasmImport) : Type 0 where
  pub origin : w.module ≡ codes "transcode"
  pub transfer_is : is_transfer w ≡ false
  pub slot_is : is_slot w ≡ false
  pub told_is : is_told w ≡ false

says_transcoder : (w : WasmImport) → w.module ≡ codes "transcode" → SaysTranscoder w
says_transcoder w e = record {
  origin = e;
  transfer_is = ap (λ z. transfer_of z w.name) e;
  slot_is = ap (λ z. slot_of z w.name) e;
  told_is = ap (λ z. told_of z w.name) e;
}

-- By what is imported.
abbrev pub SaysOf : WasmImport → Import → Type 0
SaysOf w (known.CoreDef d) = Says w false false false
SaysOf w (known.Transcode o from from64 to to64) = SaysTranscoder w
SaysOf w known.ResourceTransferOwn = Says w true false false
SaysOf w known.ResourceTransferBorrow = Says w true false false
SaysOf w known.FutureTransfer = Says w true false false
SaysOf w known.StreamTransfer = Says w true false false
SaysOf w known.ErrorContextTransfer = Says w true false false
SaysOf w (known.PrepareCall memory) = Says w false false false
SaysOf w (known.StartCall callback post_return) = Says w false false false
SaysOf w (known.Trap t) = Says w false false false
SaysOf w known.EnterSyncCall = Says w false false true
SaysOf w known.ExitSyncCall = Says w false false true
SaysOf w (known.UnsafeIntrinsic slot.ContextGetI32_0) = Says w false true false
SaysOf w (known.UnsafeIntrinsic slot.ContextGetI32_1) = Says w false true false
SaysOf w (known.UnsafeIntrinsic slot.ContextSetI32_0) = Says w false false true
SaysOf w (known.UnsafeIntrinsic slot.ContextSetI32_1) = Says w false false true

-- a core definition of a role
core_says : (types : List FuncType) (before : List WasmImport) (r : Role) (w : WasmImport) → StandsFor types before r w → Says w false false false
core_says types before (Flags i) w h = says w (codes "flags") w.name false false false (ap (λ (x : WasmImport). x.module) h) refl refl refl refl refl
core_says types before (Storage wide k) w h = says w (codes "memory") w.name false false false (ap (λ (x : WasmImport). x.module) h) refl refl refl refl refl
core_says types before (Realloc wide) w h = says w (codes "realloc") w.name false false false h.is_from refl refl refl refl refl
core_says types before Callback w h = says w (codes "callback") w.name false false false h.is_from refl refl refl refl refl
core_says types before (Callee adapter ty) w h = says w (codes "callee") w.name false false false h.is_from refl refl refl refl refl
core_says types before (PostReturn adapter results) w h = says w (codes "post_return") w.name false false false h.is_from refl refl refl refl refl

-- what holds of each prepare-call holds of the one at a place
in_prepares : (P : WasmImport × Option CoreDef → LinkedAdapter → Type 0) (ws : List WasmImport) (is : List Import) (ls : List LinkedAdapter) (k : ℕ) (w : WasmImport) (memory : Option CoreDef)
    → AllZip P (prepares_in ws is) ls → slice_get ws k ≡ Some w → slice_get is k ≡ Some (known.PrepareCall memory) → (a : LinkedAdapter) × P (w, memory) a
in_prepares P [] is ls k w memory h e f = absurd (none_some (slice_get {X = WasmImport} [] k) w refl e)
in_prepares P (v ∷ ws) [] ls k w memory h e f = absurd (none_some (slice_get {X = Import} [] k) (known.PrepareCall memory) refl f)
in_prepares P (v ∷ ws) (i ∷ is) ls zero w memory h e f =
    here ls (subst (λ l. AllZip P (l ++ prepares_in ws is) ls) (ap (if_prepare v) (same_some (Some i) i (known.PrepareCall memory) refl f) ∙ ap (λ x. if_prepare x (known.PrepareCall memory)) (same_some (Some v) v w refl e)) h)
  where
    here : (ls : List LinkedAdapter) → AllZip P ((w, memory) ∷ prepares_in ws is) ls → (a : LinkedAdapter) × P (w, memory) a
    here [] h = absurd h
    here (a ∷ ls) h = (a, h.0)
in_prepares P (v ∷ ws) (i ∷ is) ls (suc k) w memory h e f = let r = rest (if_prepare v i) ls h in in_prepares P ws is r.0 k w memory r.1 e f
  where
    rest : (xs : List (WasmImport × Option CoreDef)) (ls : List LinkedAdapter) → AllZip P (xs ++ prepares_in ws is) ls → (bs : List LinkedAdapter) × AllZip P (prepares_in ws is) bs
    rest [] ls h = (ls, h)
    rest (x ∷ xs) [] h = absurd h
    rest (x ∷ xs) (a ∷ ls) h = rest xs ls h.1

module _ (m : WasmModule) (is : List Import) (adapters : List LinkedAdapter) (names : NamesImports m is adapters) where
  pub names_say : (i : Import) (k : ℕ) (before : List WasmImport) (w : WasmImport) → slice_get m.imports k ≡ Some w → slice_get is k ≡ Some i → IsNamed m.types (mentions adapters) before w i → SaysOf w i
  names_say (known.CoreDef d) k before w e f h = core_says m.types before h.0 w h.2
  names_say (known.Transcode o from from64 to to64) k before w e f h = says_transcoder w ((names.transcoders.each k w (known.Transcode o from from64 to to64) e f).is.is_from)
  names_say known.ResourceTransferOwn k before w e f h = says w (codes "resource") (codes "transfer-own") true false false h.is_from h.is_named refl refl refl refl
  names_say known.ResourceTransferBorrow k before w e f h = says w (codes "resource") (codes "transfer-borrow") true false false h.is_from h.is_named refl refl refl refl
  names_say known.FutureTransfer k before w e f h = says w (codes "future") (codes "transfer") true false false h.is_from h.is_named refl refl refl refl
  names_say known.StreamTransfer k before w e f h = says w (codes "stream") (codes "transfer") true false false h.is_from h.is_named refl refl refl refl
  names_say known.ErrorContextTransfer k before w e f h = says w (codes "error-context") (codes "transfer") true false false h.is_from h.is_named refl refl refl refl
  names_say (known.PrepareCall memory) k before w e f h =
      let p = in_prepares (IsPrepareNamed m.types) m.imports is _ k w memory names.task_calls.prepares e f in
      says w (codes "sync") w.name false false false p.1.named.is_from refl refl refl refl refl
  names_say (known.StartCall callback post_return) k before w e f h =
      let s = names.task_calls.starts.named k w callback post_return e f in
      says w (codes "async") (start_call_name s.first.name) false false false s.named.is_from s.named.is_named refl refl refl refl
  names_say (known.Trap t) k before w e f h = says w (codes "runtime") w.name false false false h.is_from refl refl refl refl refl
  names_say known.EnterSyncCall k before w e f h = says w (codes "async") (codes "enter-sync-call") false false true h.is_from h.is_named refl refl refl refl
  names_say known.ExitSyncCall k before w e f h = says w (codes "async") (codes "exit-sync-call") false false true h.is_from h.is_named refl refl refl refl
  names_say (known.UnsafeIntrinsic slot.ContextGetI32_0) k before w e f h = says w (codes "context") (codes "get0") false true false h.is_from h.is_named refl refl refl refl
  names_say (known.UnsafeIntrinsic slot.ContextGetI32_1) k before w e f h = says w (codes "context") (codes "get1") false true false h.is_from h.is_named refl refl refl refl
  names_say (known.UnsafeIntrinsic slot.ContextSetI32_0) k before w e f h = says w (codes "context") (codes "set0") false false true h.is_from h.is_named refl refl refl refl
  names_say (known.UnsafeIntrinsic slot.ContextSetI32_1) k before w e f h = says w (codes "context") (codes "set1") false false true h.is_from h.is_named refl refl refl refl

-- ---- transcoders

-- the operation of a name
abbrev operation_at : List ℕ → Transcode
operation_at s =
    if bytes_eq s (codes "utf8-to-utf8") then op.Copy Utf8 else
    (if bytes_eq s (codes "utf16-to-utf16") then op.Copy Utf16 else
    (if bytes_eq s (codes "latin1-to-latin1") then op.Copy Latin1 else
    (if bytes_eq s (codes "latin1-to-utf16") then op.Latin1ToUtf16 else
    (if bytes_eq s (codes "latin1-to-utf8") then op.Latin1ToUtf8 else
    (if bytes_eq s (codes "utf16-to-compact-probably-utf16") then op.Utf16ToCompactProbablyUtf16 else
    (if bytes_eq s (codes "utf16-to-compact-utf16") then op.Utf16ToCompactUtf16 else
    (if bytes_eq s (codes "utf16-to-latin1") then op.Utf16ToLatin1 else
    (if bytes_eq s (codes "utf16-to-utf8") then op.Utf16ToUtf8 else
    (if bytes_eq s (codes "utf8-to-compact-utf16") then op.Utf8ToCompactUtf16 else
    (if bytes_eq s (codes "utf8-to-latin1") then op.Utf8ToLatin1 else op.Utf8ToUtf16))))))))))

named_back : (o : Transcode) → operation_at (transcode_name o) ≡ o
named_back (op.Copy Utf8) = refl
named_back (op.Copy Utf16) = refl
named_back (op.Copy Latin1) = refl
named_back op.Latin1ToUtf16 = refl
named_back op.Latin1ToUtf8 = refl
named_back op.Utf16ToCompactProbablyUtf16 = refl
named_back op.Utf16ToCompactUtf16 = refl
named_back op.Utf16ToLatin1 = refl
named_back op.Utf16ToUtf8 = refl
named_back op.Utf8ToCompactUtf16 = refl
named_back op.Utf8ToLatin1 = refl
named_back op.Utf8ToUtf16 = refl

one_operation : (o q : Transcode) → transcode_name o ≡ transcode_name q → o ≡ q
one_operation o q e = sym (named_back o) ∙ ap operation_at e ∙ named_back q

-- the memories of a text
memories_of_text : (f t from to : ℕ) → f < 2 ^ 32 → t < 2 ^ 32 → from < 2 ^ 32 → to < 2 ^ 32 → memories_text f t ≡ memories_text from to → (f ≡ from) × (t ≡ to)
memories_of_text f t from to a b c d e =
    let first = divided (decimal f ++ 32 ∷ second_text t) (decimal f) (second_text t) from to c refl (number_apart f a) (opened (memories_text f t) (decimal f ++ 32 ∷ second_text t) from to refl e) in
    let second = closed (second_text t) (decimal t ++ 41 ∷ []) (decimal t) to refl refl first.1 in
    (decimal_injective f from (omega (arith, a)) (omega (arith, c)) first.0, decimal_injective t to (omega (arith, b)) (omega (arith, d)) second)

module _ (m : WasmModule) (is : List Import) (adapters : List LinkedAdapter) (names : NamesImports m is adapters) (apart : AreApart is) (adapter : IsAdapterModule m) where
  -- A transcoder among the imports is the one of its name, and its memories have these places.
  pub record IsSame (o q : Transcode) (d e : CoreDef) (d64 from64 e64 to64 : Bool) (from to : ℕ) : Type 0 where
    pub operation : o ≡ q
    pub from_wide : d64 ≡ from64
    pub to_wide : e64 ≡ to64
    pub from_at : (places_in m is).memory d ≡ from
    pub to_at : (places_in m is).memory e ≡ to

  width_is : (k n f : ℕ) (wide wide' : Bool) (page pages : Option ℕ) → n ≡ f → slice_get (filter_map type_of_memory (take k m.imports)) n ≡ Some (wide, page) → memory_import m.imports f ≡ Some (wide', pages) → wide ≡ wide'
  width_is k n f wide wide' page pages e h g =
      let there : memory_import m.imports n ≡ Some (wide, page) = memory_from m.imports n (wide, page) (widths_more k m.imports n (wide, page) h) in
      let same : (wide, page) ≡ (wide', pages) = same_some (memory_import m.imports n) (wide, page) (wide', pages) there (ap (memory_import m.imports) e ∙ g) in
      ap (λ (x : Bool × Option ℕ). x.0) same

  pub transcoder_is : (k : ℕ) (w : WasmImport) (o q : Transcode) (d e : CoreDef) (d64 from64 e64 to64 : Bool) (from to : ℕ) → slice_get m.imports k ≡ Some w → slice_get is k ≡ Some (known.Transcode o d d64 e e64)
      → IsTranscoder m w q from from64 to to64 → IsSame o q d e d64 from64 e64 to64 from to
  transcoder_is k w o q d e d64 from64 e64 to64 from to at is_it h =
      let n : IsTranscoderNamed m.types (take k m.imports) (imports_of a_memory (take k m.imports) (take k is)) o d d64 e e64 w = names.transcoders.each k w (known.Transcode o d d64 e e64) at is_it in
      let split = parts m w q from from64 to to64 (transcode_name o) (memories_text n.from_place n.to_place) n.is.is_named (operation_apart o) h in
      let from_small : n.from_place < 2 ^ 32 = memory_small m n.from_place (d64, n.from_wide.page) adapter (widths_more k m.imports n.from_place (d64, n.from_wide.page) n.from_wide.imported) in
      let to_small : n.to_place < 2 ^ 32 = memory_small m n.to_place (e64, n.to_wide.page) adapter (widths_more k m.imports n.to_place (e64, n.to_wide.page) n.to_wide.imported) in
      let at_places = memories_of_text n.from_place n.to_place from to from_small to_small h.from_small h.to_small split.1 in
      record {
        operation = one_operation o q split.0;
        from_wide = width_is k n.from_place from d64 from64 n.from_wide.page h.from_pages at_places.0 n.from_wide.imported h.from_there;
        to_wide = width_is k n.to_place to e64 to64 n.to_wide.page h.to_pages at_places.1 n.to_wide.imported h.to_there;
        from_at = placed a_memory m.imports is apart n.from_place (known.CoreDef d) refl (imports_more a_memory k m.imports is n.from_place (known.CoreDef d) n.from_there) ∙ at_places.0;
        to_at = placed a_memory m.imports is apart n.to_place (known.CoreDef e) refl (imports_more a_memory k m.imports is n.to_place (known.CoreDef e) n.to_there) ∙ at_places.1;
      }

  -- and it has such a name
  pub is_transcoder : (k : ℕ) (w : WasmImport) (o : Transcode) (d e : CoreDef) (d64 e64 : Bool) → slice_get m.imports k ≡ Some w → slice_get is k ≡ Some (known.Transcode o d d64 e e64)
      → (from : ℕ) × (to : ℕ) × IsTranscoder m w o from d64 to e64
  is_transcoder k w o d e d64 e64 at is_it =
      let n : IsTranscoderNamed m.types (take k m.imports) (imports_of a_memory (take k m.imports) (take k is)) o d d64 e e64 w = names.transcoders.each k w (known.Transcode o d d64 e e64) at is_it in
      let from_in = widths_more k m.imports n.from_place (d64, n.from_wide.page) n.from_wide.imported in
      let to_in = widths_more k m.imports n.to_place (e64, n.to_wide.page) n.to_wide.imported in (
        n.from_place,
        n.to_place,
        record {
          origin = n.is.is_from;
          name = n.is.is_named;
          from_small = memory_small m n.from_place (d64, n.from_wide.page) adapter from_in;
          to_small = memory_small m n.to_place (e64, n.to_wide.page) adapter to_in;
          from_pages = n.from_wide.page;
          from_there = memory_from m.imports n.from_place (d64, n.from_wide.page) from_in;
          to_pages = n.to_wide.page;
          to_there = memory_from m.imports n.to_place (e64, n.to_wide.page) to_in;
        },
      )
