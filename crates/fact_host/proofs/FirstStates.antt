-- The first state of a run is typed, with a page's bytes in each memory that a side names, and all flags set.
use Rattle.std.proofs.Common.{◌≡◌, ◌≢◌, ℕ, zero, suc, ◌%◌, ◌/◌, ◌<◌, ◌≤◌, ◌⊎◌, inl, inr, Bool, true, false, All, List, [], ◌∷◌, Option, Some, None, refl, sym, ap, ◌∙◌, subst, arith, length, take, get_or, slice_get}
use Rattle.std.specs.Prelude.{◌||◌, nat_eq, cond}
use Rattle.std.specs.List.{AllZip, cons_option, filter_map}
use Rattle.std.proofs.Math.ListN.{get_or-eq_default}
use Rattle.std.proofs.lemmas.Bool.{cases_lt, eqb-true, eq-eqb, true≢false}
use Rattle.std.proofs.lemmas.List.{get_or-set_same, get_or-set_other, length-set}
use Rattle.std.proofs.lemmas.List.Elements.{All-get_or, All-from_get_or, All-nil}
use Rattle.std.proofs.lemmas.Option.{slice_get_within}
use Rattle.fact_wasm.specs.declared.types.ValType.{ValType}
use Rattle.fact_wasm.specs.declared.types.ValType.TheVariants as ty
use Rattle.fact_wasm.specs.declared.types.FuncType.{FuncType}
use Rattle.fact_wasm.specs.declared.module.ImportType.{ImportType}
use Rattle.fact_wasm.specs.declared.module.ImportType.TheVariants as import
use Rattle.fact_wasm.specs.declared.module.WasmImport.{WasmImport}
use Rattle.fact_wasm.specs.declared.module.WasmModule.{WasmModule}
use Rattle.fact_machine.specs.declared.types.CoreValue.{CoreValue}
use Rattle.fact_machine.specs.declared.types.CoreValue.TheVariants.{I32}
use Rattle.fact_machine.specs.declared.types.MachineState.{MachineState}
use Rattle.fact_machine.specs.Machine.{memory_import, page_bytes}
use Rattle.fact_machine.specs.Typed.{FitsWidth, IsMemory, IsValue, TypedState, type_of_global, type_of_memory}
use Rattle.fact_check.specs.Accepted.{IsAdapterModule}
use Rattle.fact_check.specs.Imports.{IsPageSize, IsRow}
use Rattle.fact_host.specs.declared.calling.HostCall.{HostCall}
use Rattle.fact_host.specs.declared.calling.HostSide.{HostSide}
use Rattle.fact_host.specs.Begun.{DiffersIn, IsFirstState, first_value}
use Rattle.fact_host.specs.Contract.{HasFirstMemory, HasFirstOthers, HasSideMeans, ones}
use Rattle.fact_host.specs.Roles.{is_place}
use Rattle.fact_host.specs.Rules.{AreWrittenBytes, bytes_of_memory, memory_at, side_bytes, with_memory_at}

-- ---- imports of adapter modules

-- memories have pages of 65,536 bytes or of one, and globals are flags
abbrev pub IsPlain : ImportType → Type 0
IsPlain (import.Func t) = Unit {0}
IsPlain (import.Memory least wide page) = IsPageSize page
IsPlain (import.Global t mutable) = t ≡ ty.I32

of_row : (types : List FuncType) (before : List WasmImport) (origin name : List ℕ) (x : ImportType) → IsRow types before origin name x → IsPlain x
of_row types before origin name (import.Func t) h = tt
of_row types before origin name (import.Memory least wide page) h = h.3
of_row types before origin name (import.Global t mutable) h = h.2

abbrev pub ArePlain : List WasmImport → Type 0
ArePlain [] = Unit {0}
ArePlain (w ∷ ws) = IsPlain w.ty × ArePlain ws

all_plain : (ws : List WasmImport) → ((n : ℕ) (w : WasmImport) → slice_get ws n ≡ Some w → IsPlain w.ty) → ArePlain ws
all_plain [] each = tt
all_plain (w ∷ ws) each = (each zero w refl, all_plain ws (λ n v e. each (suc n) v e))

pub adapter_plain : (m : WasmModule) → IsAdapterModule m → ArePlain m.imports
adapter_plain m is = all_plain m.imports (λ n w e.
    let a = is.imports n (slice_get_within m.imports n w e) in
    let both : Some a.import ≡ Some w = sym a.there ∙ e in
    let same : a.import ≡ w = cc in
    subst (λ z. IsPlain z.ty) same (of_row m.types (take n m.imports) a.import.module a.import.name a.import.ty a.is_row))

-- ---- memories

-- as many bytes as a memory has as a run begins
abbrev pub IsFirstBytes : List ℕ → Type 0
IsFirstBytes bytes = ((length bytes ≡ 0) ⊎ (length bytes ≡ 65536)) × AreWrittenBytes bytes

whole_by : (page : Option ℕ) (n : ℕ) → IsPageSize page → (n ≡ 0) ⊎ (n ≡ 65536) → n % page_bytes page ≡ 0
whole_by page n (inl p) (inl e) = ap (λ z. n % page_bytes z) p ∙ ap (λ z. z % page_bytes None) e
whole_by page n (inl p) (inr e) = ap (λ z. n % page_bytes z) p ∙ ap (λ z. z % page_bytes None) e
whole_by page n (inr p) (inl e) = ap (λ z. n % page_bytes z) p ∙ ap (λ z. z % page_bytes (Some 0)) e
whole_by page n (inr p) (inr e) = ap (λ z. n % page_bytes z) p ∙ ap (λ z. z % page_bytes (Some 0)) e

pages_by : (page : Option ℕ) (n : ℕ) → IsPageSize page → (n ≡ 0) ⊎ (n ≡ 65536) → n / page_bytes page ≤ 65536
pages_by page n (inl p) (inl e) = let is : n / page_bytes page ≡ 0 = ap (λ z. n / page_bytes z) p ∙ ap (λ z. z / page_bytes None) e in omega (arith, is)
pages_by page n (inl p) (inr e) = let is : n / page_bytes page ≡ 1 = ap (λ z. n / page_bytes z) p ∙ ap (λ z. z / page_bytes None) e in omega (arith, is)
pages_by page n (inr p) (inl e) = let is : n / page_bytes page ≡ 0 = ap (λ z. n / page_bytes z) p ∙ ap (λ z. z / page_bytes (Some 0)) e in omega (arith, is)
pages_by page n (inr p) (inr e) = let is : n / page_bytes page ≡ 65536 = ap (λ z. n / page_bytes z) p ∙ ap (λ z. z / page_bytes (Some 0)) e in omega (arith, is)

few_bytes : (n : ℕ) → (n ≡ 0) ⊎ (n ≡ 65536) → n ≤ 65536
few_bytes n (inl e) = omega (arith, e)
few_bytes n (inr e) = omega (arith, e)

fits_by : (wide : Bool) (bytes pages : ℕ) → bytes ≤ 65536 → pages ≤ 65536 → FitsWidth wide bytes pages
fits_by true bytes pages le few = omega (arith, le)
fits_by false bytes pages le few = (omega (arith, le), omega (arith, few))

memory_typed : (wide : Bool) (page : Option ℕ) (bytes : List ℕ) → IsPageSize page → IsFirstBytes bytes → IsMemory wide page bytes
memory_typed wide page bytes p h = record {
  are_bytes = h.1;
  whole = whole_by page (length bytes) p h.0;
  fits = fits_by wide (length bytes) (length bytes / page_bytes page) (few_bytes (length bytes) h.0) (pages_by page (length bytes) p h.0);
}

abbrev AreFirst : List (List ℕ) → Type 0
AreFirst [] = Unit {0}
AreFirst (bytes ∷ ms) = IsFirstBytes bytes × AreFirst ms

abbrev Typed : List (Bool × Option ℕ) → List (List ℕ) → Type 0
Typed kinds ms = AllZip (λ t bytes. IsMemory t.0 t.1 bytes) kinds ms

-- memories are typed by kinds whose pages are those
kinds_typed : (kinds : List (Bool × Option ℕ)) (ms : List (List ℕ)) → length ms ≡ length kinds → ((n : ℕ) (k : Bool × Option ℕ) → slice_get kinds n ≡ Some k → IsPageSize k.1) → AreFirst ms → Typed kinds ms
kinds_typed [] [] long pages h = tt
kinds_typed [] (bytes ∷ ms) long pages h = absurd (omega (arith, long))
kinds_typed (k ∷ kinds) [] long pages h = absurd (omega (arith, long))
kinds_typed (k ∷ kinds) (bytes ∷ ms) long pages h =
    (memory_typed k.0 k.1 bytes (pages zero k refl) h.0, kinds_typed kinds ms (omega (arith, long)) (λ n x e. pages (suc n) x e) h.1)

abbrev PagesIn : List (Bool × Option ℕ) → Type 0
PagesIn kinds = (n : ℕ) (k : Bool × Option ℕ) → slice_get kinds n ≡ Some k → IsPageSize k.1

pages_more : (wide : Bool) (page : Option ℕ) (kinds : List (Bool × Option ℕ)) → IsPageSize page → PagesIn kinds → PagesIn ((wide, page) ∷ kinds)
pages_more wide page kinds p h zero k e =
    let both : Some (wide, page) ≡ Some k = e in
    let same : (wide, page) ≡ k = cc in
    subst (λ (z : Bool × Option ℕ). IsPageSize z.1) same p
pages_more wide page kinds p h (suc n) k e = h n k e

pages_by_type : (x : ImportType) (kinds : List (Bool × Option ℕ)) → IsPlain x → PagesIn kinds
    → PagesIn (cons_option (elim x as (λ (x : ImportType). Option (Bool × Option ℕ)) [ import.Func t ↦ None | import.Memory least wide page ↦ Some (wide, page) | import.Global t mutable ↦ None ]) kinds)
pages_by_type (import.Func t) kinds p h = h
pages_by_type (import.Memory least wide page) kinds p h = pages_more wide page kinds p h
pages_by_type (import.Global t mutable) kinds p h = h

pages_in : (ws : List WasmImport) → ArePlain ws → PagesIn (filter_map type_of_memory ws)
pages_in [] h = λ n k e. absurd cc
pages_in (w ∷ ws) h = pages_by_type w.ty (filter_map type_of_memory ws) h.0 (pages_in ws h.1)

-- ---- globals

abbrev AreFlags : List ValType → Type 0
AreFlags [] = Unit {0}
AreFlags (t ∷ ts) = (t ≡ ty.I32) × AreFlags ts

flags_by_type : (x : ImportType) (ts : List ValType) → IsPlain x → AreFlags ts
    → AreFlags (cons_option (elim x as (λ (x : ImportType). Option ValType) [ import.Func t ↦ None | import.Memory least wide page ↦ None | import.Global t mutable ↦ Some t ]) ts)
flags_by_type (import.Func t) ts p h = h
flags_by_type (import.Memory least wide page) ts p h = h
flags_by_type (import.Global t mutable) ts p h = (p, h)

flags_in : (ws : List WasmImport) → ArePlain ws → AreFlags (filter_map type_of_global ws)
flags_in [] h = tt
flags_in (w ∷ ws) h = flags_by_type w.ty (filter_map type_of_global ws) h.0 (flags_in ws h.1)

flag_typed : (t : ValType) (v : CoreValue) → t ≡ ty.I32 → v ≡ first_value t → IsValue v t
flag_typed t v is e = subst (λ z. IsValue v z) (sym is) (subst (λ z. IsValue z ty.I32) (sym (e ∙ ap first_value is)) (refl, omega arith))

globals_typed : (ts : List ValType) (vs : List CoreValue) → AreFlags ts → AllZip (λ t v. v ≡ first_value t) ts vs → AllZip (λ t v. IsValue v t) ts vs
globals_typed [] [] h g = tt
globals_typed [] (v ∷ vs) h g = absurd g
globals_typed (t ∷ ts) [] h g = absurd g
globals_typed (t ∷ ts) (v ∷ vs) h g = (flag_typed t v h.0 g.0, globals_typed ts vs h.1 g.1)

abbrev AreOnes : List CoreValue → Type 0
AreOnes vs = (i : ℕ) → i < length vs → get_or vs i (I32 1) ≡ I32 1

ones_by : (ts : List ValType) (vs : List CoreValue) → AreFlags ts → AllZip (λ t v. v ≡ first_value t) ts vs → AreOnes vs
ones_by [] [] h g i lt = refl
ones_by [] (v ∷ vs) h g i lt = absurd g
ones_by (t ∷ ts) [] h g i lt = absurd g
ones_by (t ∷ ts) (v ∷ vs) h g zero lt = g.0 ∙ ap first_value h.0
ones_by (t ∷ ts) (v ∷ vs) h g (suc i) lt = ones_by ts vs h.1 g.1 i (omega (arith, lt))

pub flags_set : (m : WasmModule) (c : HostCall) (s : MachineState) → IsAdapterModule m → IsFirstState c m.imports s → ones s
flags_set m c s is first = All-from_get_or (λ v. v ≡ I32 1) s.globals (I32 1) (ones_by (filter_map type_of_global m.imports) s.globals (flags_in m.imports (adapter_plain m is)) first.globals)

-- ---- the state before anything was stored

length_by : (b : Bool) → (◌≡◌ {A = ℕ} (cond b 65536 0) 0) ⊎ (◌≡◌ {A = ℕ} (cond b 65536 0) 65536)
length_by true = inr refl
length_by false = inl refl

zeros_are_bytes : (bytes : List ℕ) → All (λ b. b ≡ 0) bytes → AreWrittenBytes bytes
zeros_are_bytes bytes h = All-from_get_or (λ b. b < 256) bytes 0 (λ i lt. let z : get_or bytes i 0 ≡ 0 = All-get_or (λ b. b ≡ 0) bytes i 0 lt h in omega (arith, z))

all_first : (ms : List (List ℕ)) → ((n : ℕ) → n < length ms → IsFirstBytes (get_or ms n [])) → AreFirst ms
all_first [] each = tt
all_first (bytes ∷ ms) each = (each zero (omega arith), all_first ms (λ n lt. each (suc n) (omega (arith, lt))))

first_bytes : (c : HostCall) (ws : List WasmImport) (s : MachineState) → IsFirstState c ws s → (n : ℕ) → n < length s.memories → IsFirstBytes (memory_at s n)
first_bytes c ws s first n lt = (
  subst (λ z. (z ≡ 0) ⊎ (z ≡ 65536)) (sym (first.lengths n lt)) (length_by (is_place c.lift.memory n || is_place c.lower.memory n)),
  zeros_are_bytes (memory_at s n) (All-get_or (λ bytes. All (λ b. b ≡ 0) bytes) s.memories n [] lt first.zeros),
)

state_typed : (m : WasmModule) (s : MachineState) → IsAdapterModule m → length s.memories ≡ length (filter_map type_of_memory m.imports)
    → ((n : ℕ) → n < length s.memories → IsFirstBytes (memory_at s n)) → AllZip (λ t v. v ≡ first_value t) (filter_map type_of_global m.imports) s.globals → TypedState m s
state_typed m s is count each globals = record {
  memories = kinds_typed (filter_map type_of_memory m.imports) s.memories count (pages_in m.imports (adapter_plain m is)) (all_first s.memories each);
  globals = globals_typed (filter_map type_of_global m.imports) s.globals (flags_in m.imports (adapter_plain m is)) globals;
}

-- ---- and behind the arguments

-- a memory of the new state, by whether it is the one that was written
behind_bytes : (s : MachineState) (k : ℕ) (bytes : List ℕ) → AreWrittenBytes bytes → length (memory_at (with_memory_at s k bytes) k) ≡ length (memory_at s k)
    → ((n : ℕ) → n < length s.memories → IsFirstBytes (memory_at s n)) → (n : ℕ) → n < length s.memories → IsFirstBytes (memory_at (with_memory_at s k bytes) n)
behind_bytes s k bytes are same each n lt = by (nat_eq n k) refl
  where
    by : (b : Bool) → nat_eq n k ≡ b → IsFirstBytes (memory_at (with_memory_at s k bytes) n)
    by true e =
        let is : n ≡ k = eqb-true n k e in
        let here : memory_at (with_memory_at s k bytes) k ≡ bytes = get_or-set_same s.memories k bytes [] (omega (arith, lt, is)) in
        let was : (length (memory_at s n) ≡ 0) ⊎ (length (memory_at s n) ≡ 65536) = (each n lt).0 in
        subst (λ z. IsFirstBytes (memory_at (with_memory_at s k bytes) z)) (sym is)
        (subst (λ z. (z ≡ 0) ⊎ (z ≡ 65536)) (sym (same ∙ ap (λ z. length (memory_at s z)) (sym is))) was, subst AreWrittenBytes (sym here) are)
    by false e =
        let other : n ≢ k = λ q. true≢false (sym (eq-eqb n k q) ∙ e) in
        subst IsFirstBytes (sym (get_or-set_other s.memories k n bytes [] other)) (each n lt)

-- what is written to is one of the memories of a state, or none of them
pub begun_typed : (m : WasmModule) (c : HostCall) (before state : MachineState) → IsAdapterModule m → IsFirstState c m.imports before → DiffersIn c.lower.memory before state
    → length (side_bytes c.lower state) ≡ length (side_bytes c.lower before) → TypedState m state
begun_typed m c before state is first differs same = by c.lower.memory differs same
  where
    by : (o : Option ℕ) → DiffersIn o before state → length (bytes_of_memory o state) ≡ length (bytes_of_memory o before) → TypedState m state
    by None d same = subst (TypedState m) (sym d) (state_typed m before is first.count (first_bytes c m.imports before first) first.globals)
    by (Some k) d same =
        subst (TypedState m) (sym d.1)
        (state_typed m (with_memory_at before k d.0) is (length-set before.memories k d.0 ∙ first.count)
        (λ n lt. behind_bytes before k d.0 d.2 (ap (λ z. length (memory_at z k)) (sym d.1) ∙ same) (first_bytes c m.imports before first) n (omega (arith, lt, length-set before.memories k d.0)))
        first.globals)

pub begun_flags : (m : WasmModule) (c : HostCall) (before state : MachineState) → IsAdapterModule m → IsFirstState c m.imports before → DiffersIn c.lower.memory before state → ones state
begun_flags m c before state is first differs = by c.lower.memory differs
  where
    by : (o : Option ℕ) → DiffersIn o before state → ones state
    by None d = subst ones (sym d) (flags_set m c before is first)
    by (Some k) d = subst ones (sym d.1) (flags_set m c before is first)

pub begun_count : (m : WasmModule) (c : HostCall) (before state : MachineState) → IsFirstState c m.imports before → DiffersIn c.lower.memory before state → length state.memories ≡ length (filter_map type_of_memory m.imports)
begun_count m c before state first differs = by c.lower.memory differs
  where
    by : (o : Option ℕ) → DiffersIn o before state → length state.memories ≡ length (filter_map type_of_memory m.imports)
    by None d = ap (λ z. length z.memories) d ∙ first.count
    by (Some k) d = ap (λ z. length z.memories) d.1 ∙ length-set before.memories k d.0 ∙ first.count

-- ---- memories that a side names

memory_there_by : (ws : List WasmImport) → ((n : ℕ) (kind : Bool × Option ℕ) → memory_import ws n ≡ Some kind → n < length (filter_map type_of_memory ws)) → (x : ImportType) (n : ℕ) (kind : Bool × Option ℕ)
    → elim x as (λ (x : ImportType). Option (Bool × Option ℕ)) [ import.Func t ↦ memory_import ws n | import.Memory minimum memory64 log2 ↦ elim n [ zero ↦ Some (memory64, log2) | suc m ↦ memory_import ws m ] | import.Global a b ↦ memory_import ws n ] ≡ Some kind
    → n < length (cons_option (elim x as (λ (x : ImportType). Option (Bool × Option ℕ)) [ import.Func t ↦ None | import.Memory least wide page ↦ Some (wide, page) | import.Global t mutable ↦ None ]) (filter_map type_of_memory ws))
memory_there_by ws again (import.Func t) n kind e = again n kind e
memory_there_by ws again (import.Memory least wide page) zero kind e = omega arith
memory_there_by ws again (import.Memory least wide page) (suc n) kind e = let lt = again n kind e in omega (arith, lt)
memory_there_by ws again (import.Global t mutable) n kind e = again n kind e

pub memory_there : (ws : List WasmImport) (n : ℕ) (kind : Bool × Option ℕ) → memory_import ws n ≡ Some kind → n < length (filter_map type_of_memory ws)
memory_there [] n kind e = absurd cc
memory_there (w ∷ ws) n kind e = memory_there_by ws (λ k x q. memory_there ws k x q) w.ty n kind e

place_there : (n : ℕ) → is_place (Some n) n ≡ true
place_there n = eq-eqb n n refl

or_left : (a b : Bool) → a ≡ true → (a || b) ≡ true
or_left a b e = ap (λ z. z || b) e

or_right : (a b : Bool) → b ≡ true → (a || b) ≡ true
or_right true b e = refl
or_right false b e = e

-- the memories of both sides are a page's bytes long
pub first_lift : (m : WasmModule) (c : HostCall) (s : MachineState) → IsFirstState c m.imports s → HasSideMeans m c.lift → (n : ℕ) → c.lift.memory ≡ Some n → length (memory_at s n) ≡ 65536
first_lift m c s first means n e =
    let kind = means.memory n e in
    let there : n < length (filter_map type_of_memory m.imports) = memory_there m.imports n _ kind.1 in
    first.lengths n (omega (arith, there, first.count))
    ∙ ap (λ b. cond b 65536 0) (or_left (is_place c.lift.memory n) (is_place c.lower.memory n) (ap (λ o. is_place o n) e ∙ place_there n))

pub first_lower : (m : WasmModule) (c : HostCall) (s : MachineState) → IsFirstState c m.imports s → HasSideMeans m c.lower → (n : ℕ) → c.lower.memory ≡ Some n → length (memory_at s n) ≡ 65536
first_lower m c s first means n e =
    let kind = means.memory n e in
    let there : n < length (filter_map type_of_memory m.imports) = memory_there m.imports n _ kind.1 in
    first.lengths n (omega (arith, there, first.count))
    ∙ ap (λ b. cond b 65536 0) (or_right (is_place c.lift.memory n) (is_place c.lower.memory n) (ap (λ o. is_place o n) e ∙ place_there n))

has_first : (h : HostSide) (state : MachineState) → ((n : ℕ) → h.memory ≡ Some n → length (memory_at state n) ≡ 65536) → HasFirstMemory h state
has_first h state each = record { bytes = λ there. by h.memory refl there }
  where
    by : (o : Option ℕ) → h.memory ≡ o → h.memory ≢ None → length (bytes_of_memory o state) ≡ 65536
    by None e there = absurd (there e)
    by (Some n) e there = each n e

-- no memory became longer or shorter
same_lengths : (o : Option ℕ) (before state : MachineState) → DiffersIn o before state → length (bytes_of_memory o state) ≡ length (bytes_of_memory o before) → (n : ℕ) → length (memory_at state n) ≡ length (memory_at before n)
same_lengths None before state d same n = ap (λ z. length (memory_at z n)) d
same_lengths (Some k) before state d same n = by (nat_eq n k) refl
  where
    by : (b : Bool) → nat_eq n k ≡ b → length (memory_at state n) ≡ length (memory_at before n)
    by true e = let is : n ≡ k = eqb-true n k e in ap (λ z. length (memory_at state z)) is ∙ same ∙ ap (λ z. length (memory_at before z)) (sym is)
    by false e = ap (λ z. length (memory_at z n)) d.1 ∙ ap length (get_or-set_other before.memories k n d.0 [] (λ q. true≢false (sym (eq-eqb n k q) ∙ e)))

pub begun_lift : (m : WasmModule) (c : HostCall) (before state : MachineState) → IsFirstState c m.imports before → HasSideMeans m c.lift → DiffersIn c.lower.memory before state
    → length (side_bytes c.lower state) ≡ length (side_bytes c.lower before) → HasFirstMemory c.lift state
begun_lift m c before state first means differs same = has_first c.lift state (λ n e. same_lengths c.lower.memory before state differs same n ∙ first_lift m c before first means n e)

pub begun_lower : (m : WasmModule) (c : HostCall) (before state : MachineState) → IsFirstState c m.imports before → HasSideMeans m c.lower → DiffersIn c.lower.memory before state
    → length (side_bytes c.lower state) ≡ length (side_bytes c.lower before) → HasFirstMemory c.lower state
begun_lower m c before state first means differs same = has_first c.lower state (λ n e. same_lengths c.lower.memory before state differs same n ∙ first_lower m c before first means n e)

-- ---- the other memories

other_same : (o : Option ℕ) (before state : MachineState) → DiffersIn o before state → (n : ℕ) → (o ≡ Some n → ⊥) → memory_at state n ≡ memory_at before n
other_same None before state d n other = ap (λ z. memory_at z n) d
other_same (Some k) before state d n other = ap (λ z. memory_at z n) d.1 ∙ get_or-set_other before.memories k n d.0 [] (λ q. other (ap (λ (z : ℕ). Some z) (sym q)))

first_zeros : (c : HostCall) (ws : List WasmImport) (s : MachineState) → IsFirstState c ws s → (n : ℕ) → All (λ b. b ≡ 0) (memory_at s n)
first_zeros c ws s first n = elim (cases_lt n (length s.memories)) [
  | inl lt ↦ All-get_or (λ bytes. All (λ b. b ≡ 0) bytes) s.memories n [] lt first.zeros
  | inr ge ↦ subst (λ (bytes : List ℕ). All (λ b. b ≡ 0) bytes) (sym (get_or-eq_default s.memories [] ge)) (All-nil (λ (b : ℕ). b ≡ 0))
]

place_by : (k n : ℕ) (b : Bool) → nat_eq k n ≡ b → (Some k ≡ Some n → ⊥) → nat_eq k n ≡ false
place_by k n true e other = absurd (other (ap (λ (z : ℕ). Some z) (eqb-true k n e)))
place_by k n false e other = e

not_place : (o : Option ℕ) (n : ℕ) → (o ≡ Some n → ⊥) → is_place o n ≡ false
not_place None n other = refl
not_place (Some k) n other = place_by k n (nat_eq k n) refl other

neither : (a b : Bool) → a ≡ false → b ≡ false → (a || b) ≡ false
neither a b p q = ap (λ z. z || b) p ∙ q

no_bytes : (bytes : List ℕ) → length bytes ≡ 0 → bytes ≡ []
no_bytes [] h = refl
no_bytes (b ∷ bytes) h = absurd (omega (arith, h))

first_empty : (c : HostCall) (ws : List WasmImport) (s : MachineState) → IsFirstState c ws s → (n : ℕ) → (c.lower.memory ≡ Some n → ⊥) → (c.lift.memory ≡ Some n → ⊥) → memory_at s n ≡ []
first_empty c ws s first n lower lift = elim (cases_lt n (length s.memories)) [
  | inl lt ↦ no_bytes (memory_at s n) (first.lengths n lt ∙ ap (λ b. cond b 65536 0) (neither (is_place c.lift.memory n) (is_place c.lower.memory n) (not_place c.lift.memory n lift) (not_place c.lower.memory n lower)))
  | inr ge ↦ get_or-eq_default s.memories [] ge
]

pub begun_others : (m : WasmModule) (c : HostCall) (before state : MachineState) → IsFirstState c m.imports before → DiffersIn c.lower.memory before state → HasFirstOthers c state
begun_others m c before state first differs = record {
  zeros = λ n other. subst (λ (bytes : List ℕ). All (λ b. b ≡ 0) bytes) (sym (other_same c.lower.memory before state differs n other)) (first_zeros c m.imports before first n);
  empty = λ n lower lift. other_same c.lower.memory before state differs n lower ∙ first_empty c m.imports before first n lower lift;
}
