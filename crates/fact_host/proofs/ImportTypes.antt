-- The types of imported functions by their roles, in modules whose imports are those of adapter modules.
use Rattle.std.proofs.Common.{◌≡◌, ℕ, zero, suc, ◌||◌, Bool, true, false, List, [], ◌∷◌, Option, Some, None, refl, sym, ap, ◌∙◌, subst, slice_get, take}
use Rattle.std.specs.Prelude.{codes, filter, nat_eq, if◌then◌else◌}
use Rattle.std.specs.Str.{bytes_eq}
use Rattle.std.proofs.lemmas.Bool.{eqb-true, false≢true}
use Rattle.std.proofs.lemmas.Option.{slice_get_within}
use Rattle.std.proofs.lemmas.Slice.Eq.{bytes_eq-Decides}
use Rattle.fact_wasm.specs.declared.types.ValType.{ValType}
use Rattle.fact_wasm.specs.declared.types.ValType.TheVariants as val
use Rattle.fact_wasm.specs.declared.types.FuncType.{FuncType}
use Rattle.fact_wasm.specs.declared.module.ImportType.{ImportType}
use Rattle.fact_wasm.specs.declared.module.ImportType.TheVariants as import
use Rattle.fact_wasm.specs.declared.module.WasmImport.{WasmImport}
use Rattle.fact_wasm.specs.declared.module.WasmModule.{WasmModule}
use Rattle.fact_types.specs.declared.outside.FixedEncoding.TheVariants.{Utf8, Utf16, Latin1}
use Rattle.fact_types.specs.declared.outside.Transcode.{Transcode}
use Rattle.fact_types.specs.declared.outside.Transcode.TheVariants as op
use Rattle.fact_types.specs.TranscoderNames.{transcode_name}
use Rattle.fact_types.specs.Signatures.{address}
use Rattle.fact_machine.specs.Machine.{func_import, memory_import}
use Rattle.fact_machine.specs.Typed.{type_of_import}
use Rattle.fact_machine.specs.Typing.{address_type}
use Rattle.fact_machine.proofs.Tests.{first_of, second_of}
use Rattle.fact_check.specs.Accepted.{IsAdapterModule}
use Rattle.fact_check.specs.Imports.{IsAdapterImport, IsFunctionRow, IsRow, fixed_signature, functions_in, memories_in, operation_of, origin_of, transcoder_type}
use Rattle.fact_check.specs.Imports.{IsTranscoderRow as IsCheckedTranscoder}
use Rattle.fact_check.specs.NameNumbers.{memories_text}
use Rattle.fact_check.specs.declared.imports.Operation.{Operation}
use Rattle.fact_check.specs.declared.imports.Operation.TheVariants as operation
use Rattle.fact_check.proofs.ImportRows.{memories_same}
use Rattle.fact_check.proofs.Transcoders.{description_apart, same_parts}
use Rattle.fact_actions.specs.Transcoders.{transcode_kind, transcode_types}
use Rattle.fact_host.specs.declared.calling.HostCall.{HostCall}
use Rattle.fact_host.specs.declared.roles.Role.{Role}
use Rattle.fact_host.specs.declared.roles.Role.TheVariants as role
use Rattle.fact_host.specs.Roles.{IsNamedRole, IsRole, IsRoleBy, IsTranscoder, has_names, function_imports, is_function, is_place, is_slot, is_told, is_transfer}
use Rattle.fact_host.proofs.Answering.{address_is}
use Rattle.fact_host.proofs.RoleNames.{operation_apart}

-- ---- imports that are functions

-- the nth function among imports is one of them
record IsFound (imports : List WasmImport) (n : ℕ) (w : WasmImport) : Type 0 where
  place : ℕ
  there : slice_get imports place ≡ Some w
  index : ℕ
  is_func : w.ty ≡ import.Func index
  numbered : func_import imports n ≡ Some index

found_by : (origin name : List ℕ) (ty : ImportType) (is : List WasmImport) → ((n : ℕ) (w : WasmImport) → slice_get (filter is_function is) n ≡ Some w → IsFound is n w)
    → (n : ℕ) (w : WasmImport) → slice_get (filter is_function (record { «module» = origin; name = name; ty = ty } ∷ is)) n ≡ Some w → IsFound (record { «module» = origin; name = name; ty = ty } ∷ is) n w
found_by origin name (import.Func t) is again zero w e =
    let own : WasmImport = record { «module» = origin; name = name; ty = import.Func t } in
    let both : Some own ≡ Some w = e in
    let same : own ≡ w = cc in
    record { place = 0; there = e; index = t; is_func = ap (λ (x : WasmImport). x.ty) (sym same); numbered = refl }
found_by origin name (import.Func t) is again (suc n) w e = let r = again n w e in record { place = suc r.place; there = r.there; index = r.index; is_func = r.is_func; numbered = r.numbered }
found_by origin name (import.Memory least wide page) is again n w e = let r = again n w e in record { place = suc r.place; there = r.there; index = r.index; is_func = r.is_func; numbered = r.numbered }
found_by origin name (import.Global t mutable) is again n w e = let r = again n w e in record { place = suc r.place; there = r.there; index = r.index; is_func = r.is_func; numbered = r.numbered }

found : (is : List WasmImport) (n : ℕ) (w : WasmImport) → slice_get (filter is_function is) n ≡ Some w → IsFound is n w
found [] n w e = absurd cc
found (i ∷ is) n w e = found_by i.module i.name i.ty is (λ n w e. found is n w e) n w e

-- a memory among those that stand before
memory_by : (origin name : List ℕ) (ty : ImportType) (is : List WasmImport) (place : ℕ) → ((n : ℕ) (wide : Bool) → slice_get (memories_in (take place is)) n ≡ Some wide → (page : Option ℕ) × (memory_import is n ≡ Some (wide, page)))
    → (n : ℕ) (wide : Bool) → slice_get (memories_in (record { «module» = origin; name = name; ty = ty } ∷ take place is)) n ≡ Some wide → (page : Option ℕ) × (memory_import (record { «module» = origin; name = name; ty = ty } ∷ is) n ≡ Some (wide, page))
memory_by origin name (import.Func t) is place again n wide e = again n wide e
memory_by origin name (import.Memory least own page) is place again zero wide e =
    let both : Some own ≡ Some wide = e in
    let same : own ≡ wide = cc in
    (page, ap (λ (b : Bool). Some (b, page)) same)
memory_by origin name (import.Memory least own page) is place again (suc n) wide e = again n wide e
memory_by origin name (import.Global t mutable) is place again n wide e = again n wide e

memory_there : (is : List WasmImport) (place n : ℕ) (wide : Bool) → slice_get (memories_in (take place is)) n ≡ Some wide → (page : Option ℕ) × (memory_import is n ≡ Some (wide, page))
memory_there [] zero n wide e = absurd cc
memory_there [] (suc place) n wide e = absurd cc
memory_there (i ∷ is) zero n wide e = absurd cc
memory_there (i ∷ is) (suc place) n wide e = memory_by i.module i.name i.ty is place (λ n wide e. memory_there is place n wide e) n wide e

-- the type of the nth imported function, and the row that it is of
record HasRow (m : WasmModule) (n : ℕ) (w : WasmImport) : Type 0 where
  ty : FuncType
  is_type : type_of_import m n ≡ Some ty
  place : ℕ
  row : IsFunctionRow (functions_in (take place m.imports)) (memories_in (take place m.imports)) (origin_of w.module) w.name ty

has_row : (m : WasmModule) (n : ℕ) (w : WasmImport) → IsAdapterModule m → slice_get (function_imports m) n ≡ Some w → HasRow m n w
has_row m n w adapter e =
    let f = found m.imports n w e in
    let i : IsAdapterImport m f.place = adapter.imports f.place (slice_get_within m.imports f.place w f.there) in
    let same : i.import ≡ w = some_same (sym i.there ∙ f.there) in
    let own : IsRow m.types (take f.place m.imports) w.module w.name w.ty = subst (λ (x : WasmImport). IsRow m.types (take f.place m.imports) x.module x.name x.ty) same i.is_row in
    let func : IsRow m.types (take f.place m.imports) w.module w.name (import.Func f.index) = subst (IsRow m.types (take f.place m.imports) w.module w.name) f.is_func own in
    record {
      ty = func.0;
      is_type = ap (λ (o : Option ℕ). elim o as (λ (o : Option ℕ). Option FuncType) [ None ↦ None | Some t ↦ slice_get m.types t ]) f.numbered ∙ func.1;
      place = f.place;
      row = func.2;
    }
  where
    some_same : {a b : WasmImport} → Some a ≡ Some b → a ≡ b
    some_same h = cc

-- ---- names

named : (origin name : List ℕ) (w : WasmImport) → has_names origin name w ≡ true → (w.module ≡ origin) × (w.name ≡ name)
named origin name w h = ((bytes_eq-Decides w.module origin).0 (first_of (bytes_eq w.module origin) (bytes_eq w.name name) h), (bytes_eq-Decides w.name name).0 (second_of (bytes_eq w.module origin) (bytes_eq w.name name) h))

-- what the rows of a name say of its type, the import of this name says of its own
by_names : (P : FuncType → Type 0) (m : WasmModule) (n : ℕ) (w : WasmImport) (origin name : List ℕ) → ((functions : ℕ) (memories : List Bool) (ty : FuncType) → IsFunctionRow functions memories (origin_of origin) name ty → P ty)
    → (h : HasRow m n w) → has_names origin name w ≡ true → P h.ty
by_names P m n w origin name rows h is =
    let q = named origin name w is in
    let before : List WasmImport = take h.place m.imports in
    rows (functions_in before) (memories_in before) h.ty
    (subst (λ x. IsFunctionRow (functions_in before) (memories_in before) (origin_of origin) x h.ty) q.1
    (subst (λ x. IsFunctionRow (functions_in before) (memories_in before) (origin_of x) w.name h.ty) q.0 h.row))

abbrev GivesNumber : FuncType → Type 0
GivesNumber ty = ty.results ≡ val.I32 ∷ []

abbrev GivesNothing : FuncType → Type 0
GivesNothing ty = ty.results ≡ []

own_row : (functions : ℕ) (memories : List Bool) (ty : FuncType) → IsFunctionRow functions memories (origin_of (codes "resource")) (codes "transfer-own") ty → GivesNumber ty
unfolding origin_of fixed_signature
own_row functions memories ty h = ap (λ (t : FuncType). t.results) h

borrow_row : (functions : ℕ) (memories : List Bool) (ty : FuncType) → IsFunctionRow functions memories (origin_of (codes "resource")) (codes "transfer-borrow") ty → GivesNumber ty
unfolding origin_of fixed_signature
borrow_row functions memories ty h = ap (λ (t : FuncType). t.results) h

future_row : (functions : ℕ) (memories : List Bool) (ty : FuncType) → IsFunctionRow functions memories (origin_of (codes "future")) (codes "transfer") ty → GivesNumber ty
unfolding origin_of fixed_signature
future_row functions memories ty h = ap (λ (t : FuncType). t.results) h

stream_row : (functions : ℕ) (memories : List Bool) (ty : FuncType) → IsFunctionRow functions memories (origin_of (codes "stream")) (codes "transfer") ty → GivesNumber ty
unfolding origin_of fixed_signature
stream_row functions memories ty h = ap (λ (t : FuncType). t.results) h

error_row : (functions : ℕ) (memories : List Bool) (ty : FuncType) → IsFunctionRow functions memories (origin_of (codes "error-context")) (codes "transfer") ty → GivesNumber ty
unfolding origin_of fixed_signature
error_row functions memories ty h = ap (λ (t : FuncType). t.results) h

get0_row : (functions : ℕ) (memories : List Bool) (ty : FuncType) → IsFunctionRow functions memories (origin_of (codes "context")) (codes "get0") ty → GivesNumber ty
unfolding origin_of fixed_signature
get0_row functions memories ty h = ap (λ (t : FuncType). t.results) h

get1_row : (functions : ℕ) (memories : List Bool) (ty : FuncType) → IsFunctionRow functions memories (origin_of (codes "context")) (codes "get1") ty → GivesNumber ty
unfolding origin_of fixed_signature
get1_row functions memories ty h = ap (λ (t : FuncType). t.results) h

set0_row : (functions : ℕ) (memories : List Bool) (ty : FuncType) → IsFunctionRow functions memories (origin_of (codes "context")) (codes "set0") ty → GivesNothing ty
unfolding origin_of fixed_signature
set0_row functions memories ty h = ap (λ (t : FuncType). t.results) h

set1_row : (functions : ℕ) (memories : List Bool) (ty : FuncType) → IsFunctionRow functions memories (origin_of (codes "context")) (codes "set1") ty → GivesNothing ty
unfolding origin_of fixed_signature
set1_row functions memories ty h = ap (λ (t : FuncType). t.results) h

enter_row : (functions : ℕ) (memories : List Bool) (ty : FuncType) → IsFunctionRow functions memories (origin_of (codes "async")) (codes "enter-sync-call") ty → GivesNothing ty
unfolding origin_of fixed_signature
enter_row functions memories ty h = ap (λ (t : FuncType). t.results) h

exit_row : (functions : ℕ) (memories : List Bool) (ty : FuncType) → IsFunctionRow functions memories (origin_of (codes "async")) (codes "exit-sync-call") ty → GivesNothing ty
unfolding origin_of fixed_signature
exit_row functions memories ty h = ap (λ (t : FuncType). t.results) h

transcoder_row : (functions : ℕ) (memories : List Bool) (name : List ℕ) (ty : FuncType) → IsFunctionRow functions memories (origin_of (codes "transcode")) name ty → IsCheckedTranscoder memories name ty
unfolding origin_of fixed_signature
transcoder_row functions memories name ty h = h

-- one of two, of four, of five
of_two : {P : Type 0} (a b : Bool) → (a ≡ true → P) → (b ≡ true → P) → (a || b) ≡ true → P
of_two true b p q h = p refl
of_two false true p q h = q refl
of_two false false p q h = absurd (false≢true h)

of_four : {P : Type 0} (a b c d : Bool) → (a ≡ true → P) → (b ≡ true → P) → (c ≡ true → P) → (d ≡ true → P) → (a || b || c || d) ≡ true → P
of_four true b c d p q r s h = p refl
of_four false true c d p q r s h = q refl
of_four false false true d p q r s h = r refl
of_four false false false true p q r s h = s refl
of_four false false false false p q r s h = absurd (false≢true h)

of_five : {P : Type 0} (a b c d e : Bool) → (a ≡ true → P) → (b ≡ true → P) → (c ≡ true → P) → (d ≡ true → P) → (e ≡ true → P) → (a || b || c || d || e) ≡ true → P
of_five true b c d e p q r s t h = p refl
of_five false true c d e p q r s t h = q refl
of_five false false true d e p q r s t h = r refl
of_five false false false true e p q r s t h = s refl
of_five false false false false true p q r s t h = t refl
of_five false false false false false p q r s t h = absurd (false≢true h)

transfer_type : (m : WasmModule) (n : ℕ) (w : WasmImport) (h : HasRow m n w) → is_transfer w ≡ true → GivesNumber h.ty
transfer_type m n w h is =
    of_five (has_names (codes "resource") (codes "transfer-own") w) (has_names (codes "resource") (codes "transfer-borrow") w) (has_names (codes "future") (codes "transfer") w) (has_names (codes "stream") (codes "transfer") w) (has_names (codes "error-context") (codes "transfer") w)
    (by_names GivesNumber m n w (codes "resource") (codes "transfer-own") own_row h) (by_names GivesNumber m n w (codes "resource") (codes "transfer-borrow") borrow_row h) (by_names GivesNumber m n w (codes "future") (codes "transfer") future_row h)
    (by_names GivesNumber m n w (codes "stream") (codes "transfer") stream_row h) (by_names GivesNumber m n w (codes "error-context") (codes "transfer") error_row h) is

slot_type : (m : WasmModule) (n : ℕ) (w : WasmImport) (h : HasRow m n w) → is_slot w ≡ true → GivesNumber h.ty
slot_type m n w h is =
    of_two (has_names (codes "context") (codes "get0") w) (has_names (codes "context") (codes "get1") w) (by_names GivesNumber m n w (codes "context") (codes "get0") get0_row h) (by_names GivesNumber m n w (codes "context") (codes "get1") get1_row h) is

told_type : (m : WasmModule) (n : ℕ) (w : WasmImport) (h : HasRow m n w) → is_told w ≡ true → GivesNothing h.ty
told_type m n w h is =
    of_four (has_names (codes "context") (codes "set0") w) (has_names (codes "context") (codes "set1") w) (has_names (codes "async") (codes "enter-sync-call") w) (has_names (codes "async") (codes "exit-sync-call") w)
    (by_names GivesNothing m n w (codes "context") (codes "set0") set0_row h) (by_names GivesNothing m n w (codes "context") (codes "set1") set1_row h) (by_names GivesNothing m n w (codes "async") (codes "enter-sync-call") enter_row h)
    (by_names GivesNothing m n w (codes "async") (codes "exit-sync-call") exit_row h) is

-- ---- transcoders

abbrev Gives : (o : Transcode) (from64 to64 : Bool) → Operation → Type 0
Gives o from64 to64 p = (transcoder_type p from64 to64).results ≡ transcode_types (transcode_kind o) from64 to64

as_operation : (o : Transcode) (f t : Bool) (p q : Operation) → Some p ≡ Some q → Gives o f t p → Gives o f t q
as_operation o f t p q e h = let same : p ≡ q = cc in subst (Gives o f t) same h

-- the types of one address, and of two
one_address : (b : Bool) → address_type b ∷ [] ≡ address b ∷ []
one_address b = ap (λ (x : ValType). x ∷ []) (address_is b)

two_addresses : (f t : Bool) → address_type f ∷ address_type t ∷ [] ≡ address f ∷ address t ∷ []
two_addresses f t = λ i. address_is f i ∷ address_is t i ∷ []

operation_gives : (o : Transcode) (p : Operation) (f t : Bool) → operation_of (transcode_name o) ≡ Some p → Gives o f t p
unfolding operation_of
operation_gives (op.Copy Utf8) p f t e = as_operation (op.Copy Utf8) f t operation.Exact p e refl
operation_gives (op.Copy Utf16) p f t e = as_operation (op.Copy Utf16) f t operation.Exact p e refl
operation_gives (op.Copy Latin1) p f t e = as_operation (op.Copy Latin1) f t operation.Exact p e refl
operation_gives op.Latin1ToUtf16 p f t e = as_operation op.Latin1ToUtf16 f t operation.Exact p e refl
operation_gives op.Latin1ToUtf8 p f t e = as_operation op.Latin1ToUtf8 f t operation.Fitting p e (two_addresses f t)
operation_gives op.Utf16ToCompactProbablyUtf16 p f t e = as_operation op.Utf16ToCompactProbablyUtf16 f t operation.Counted p e (one_address t)
operation_gives op.Utf16ToCompactUtf16 p f t e = as_operation op.Utf16ToCompactUtf16 f t operation.Widening p e (one_address t)
operation_gives op.Utf16ToLatin1 p f t e = as_operation op.Utf16ToLatin1 f t operation.Narrow p e (two_addresses f t)
operation_gives op.Utf16ToUtf8 p f t e = as_operation op.Utf16ToUtf8 f t operation.Fitting p e (two_addresses f t)
operation_gives op.Utf8ToCompactUtf16 p f t e = as_operation op.Utf8ToCompactUtf16 f t operation.Widening p e (one_address t)
operation_gives op.Utf8ToLatin1 p f t e = as_operation op.Utf8ToLatin1 f t operation.Narrow p e (two_addresses f t)
operation_gives op.Utf8ToUtf16 p f t e = as_operation op.Utf8ToUtf16 f t operation.Counted p e (one_address t)

same_wide : (x y : Bool × Option ℕ) → Some x ≡ Some y → x.0 ≡ y.0
same_wide x y e = let same : x ≡ y = cc in ap (λ (k : Bool × Option ℕ). k.0) same

transcoder_type_is : (m : WasmModule) (n : ℕ) (w : WasmImport) (h : HasRow m n w) (o : Transcode) (from : ℕ) (from64 : Bool) (to : ℕ) (to64 : Bool) → IsTranscoder m w o from from64 to to64 → h.ty.results ≡ transcode_types (transcode_kind o) from64 to64
transcoder_type_is m n w h o from from64 to to64 t =
    let before : List WasmImport = take h.place m.imports in
    let c : IsCheckedTranscoder (memories_in before) w.name h.ty =
    transcoder_row (functions_in before) (memories_in before) w.name h.ty (subst (λ x. IsFunctionRow (functions_in before) (memories_in before) (origin_of x) w.name h.ty) t.origin h.row) in
    let parts : (c.description ≡ transcode_name o) × (memories_text c.from c.to ≡ memories_text from to) =
    same_parts c.description (transcode_name o) (memories_text c.from c.to) (memories_text from to) (description_apart c.description c.operation c.described) (operation_apart o) (sym c.named ∙ t.name) in
    let numbers : (c.from ≡ from) × (c.to ≡ to) = memories_same c.from c.to from to c.from_small c.to_small t.from_small t.to_small parts.1 in
    let source = memory_there m.imports h.place c.from c.from64 c.from_there in
    let target = memory_there m.imports h.place c.to c.to64 c.to_there in
    let from_wide : c.from64 ≡ from64 = same_wide (c.from64, source.0) (from64, t.from_pages) (sym source.1 ∙ ap (memory_import m.imports) numbers.0 ∙ t.from_there) in
    let to_wide : c.to64 ≡ to64 = same_wide (c.to64, target.0) (to64, t.to_pages) (sym target.1 ∙ ap (memory_import m.imports) numbers.1 ∙ t.to_there) in
    ap (λ (x : FuncType). x.results) c.typed ∙ (λ i. (transcoder_type c.operation (from_wide i) (to_wide i)).results) ∙ operation_gives o c.operation from64 to64 (ap operation_of (sym parts.0) ∙ c.described)

-- ---- roles

-- what the place or the names of an import say of its role
abbrev pub IsAt : WasmModule → HostCall → ℕ → WasmImport → Role → Type 0
IsAt m c n w role.Callee = c.callee ≡ n
IsAt m c n w role.LiftRealloc = c.lift.realloc ≡ Some n
IsAt m c n w role.LowerRealloc = c.lower.realloc ≡ Some n
IsAt m c n w role.PostReturn = c.post_return ≡ Some n
IsAt m c n w (role.Transcoder o from from64 to to64) = IsTranscoder m w o from from64 to to64
IsAt m c n w role.Transfer = is_transfer w ≡ true
IsAt m c n w role.Slot = is_slot w ≡ true
IsAt m c n w role.Told = is_told w ≡ true
IsAt m c n w role.Refused = Unit {0}

at_name : (m : WasmModule) (c : HostCall) (n : ℕ) (w : WasmImport) (r : Role) → IsNamedRole m w r → IsAt m c n w r
at_name m c n w role.Callee h = absurd h
at_name m c n w role.LiftRealloc h = absurd h
at_name m c n w role.LowerRealloc h = absurd h
at_name m c n w role.PostReturn h = absurd h
at_name m c n w (role.Transcoder o from from64 to to64) h = h
at_name m c n w role.Transfer h = h
at_name m c n w role.Slot h = h
at_name m c n w role.Told h = h
at_name m c n w role.Refused h = tt

place_is : (o : Option ℕ) (n : ℕ) → is_place o n ≡ true → o ≡ Some n
place_is None n h = absurd (false≢true h)
place_is (Some k) n h = ap (λ (i : ℕ). Some i) (eqb-true k n h)

pub is_at : (m : WasmModule) (c : HostCall) (n : ℕ) (w : WasmImport) (r : Role) → IsRole m c n w r → IsAt m c n w r
is_at m c n w r h = callee (nat_eq c.callee n) refl h
  where
    post : (b : Bool) → is_place c.post_return n ≡ b → IsRoleBy m w r (if b then Some role.PostReturn else None) → IsAt m c n w r
    post true e h = subst (IsAt m c n w) (sym h) (place_is c.post_return n e)
    post false e h = at_name m c n w r h

    lower : (b : Bool) → is_place c.lower.realloc n ≡ b → IsRoleBy m w r (if b then Some role.LowerRealloc else (if is_place c.post_return n then Some role.PostReturn else None)) → IsAt m c n w r
    lower true e h = subst (IsAt m c n w) (sym h) (place_is c.lower.realloc n e)
    lower false e h = post (is_place c.post_return n) refl h

    lift : (b : Bool) → is_place c.lift.realloc n ≡ b → IsRoleBy m w r (if b then Some role.LiftRealloc else (if is_place c.lower.realloc n then Some role.LowerRealloc else (if is_place c.post_return n then Some role.PostReturn else None))) → IsAt m c n w r
    lift true e h = subst (IsAt m c n w) (sym h) (place_is c.lift.realloc n e)
    lift false e h = lower (is_place c.lower.realloc n) refl h

    callee : (b : Bool) → nat_eq c.callee n ≡ b
        → IsRoleBy m w r (if b then Some role.Callee else (if is_place c.lift.realloc n then Some role.LiftRealloc else (if is_place c.lower.realloc n then Some role.LowerRealloc else (if is_place c.post_return n then Some role.PostReturn else None)))) → IsAt m c n w r
    callee true e h = subst (IsAt m c n w) (sym h) (eqb-true c.callee n e)
    callee false e h = lift (is_place c.lift.realloc n) refl h

-- The types of the results of imports that are known by their names.
module _ (m : WasmModule) (n : ℕ) (w : WasmImport) (adapter : IsAdapterModule m) (there : slice_get (function_imports m) n ≡ Some w) where
  -- the type of an import, with these results
  abbrev pub HasResults : List ValType → Type 0
  HasResults ts = (t : FuncType) × (type_of_import m n ≡ Some t) × (t.results ≡ ts)

  pub transfer_results : is_transfer w ≡ true → HasResults (val.I32 ∷ [])
  transfer_results h = let r = has_row m n w adapter there in (r.ty, r.is_type, transfer_type m n w r h)

  pub slot_results : is_slot w ≡ true → HasResults (val.I32 ∷ [])
  slot_results h = let r = has_row m n w adapter there in (r.ty, r.is_type, slot_type m n w r h)

  pub told_results : is_told w ≡ true → HasResults []
  told_results h = let r = has_row m n w adapter there in (r.ty, r.is_type, told_type m n w r h)

  pub transcoder_results : (o : Transcode) (from : ℕ) (from64 : Bool) (to : ℕ) (to64 : Bool) → IsTranscoder m w o from from64 to to64 → HasResults (transcode_types (transcode_kind o) from64 to64)
  transcoder_results o from from64 to to64 h = let r = has_row m n w adapter there in (r.ty, r.is_type, transcoder_type_is m n w r o from from64 to to64 h)
