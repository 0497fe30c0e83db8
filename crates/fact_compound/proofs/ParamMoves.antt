-- Parameters are moved behind the check of the area that they are passed through, and into locals or a new area.
use Rattle.std.proofs.Common.{◌≡◌, ℕ, ◌^◌, ◌<◌, ◌≤◌, Bool, true, false, List, [], ◌∷◌, ◌++◌, Option, Some, None, refl, sym, ap, ◌∙◌, subst, arith, length, slice_get}
use Rattle.std.specs.Prelude.{is_some, nat_eq, if◌then◌else◌}
use Rattle.std.proofs.lemmas.Bool.{eqb-true, lt-ltb}
use Rattle.fact_wasm.specs.declared.types.ValType.{ValType}
use Rattle.fact_wasm.specs.declared.instr.Instr.{Instr}
use Rattle.fact_wasm.specs.declared.module.WasmModule.{WasmModule}
use Rattle.fact_types.specs.Adapters.{LinkedAdapter, is_wide}
use Rattle.fact_types.specs.FlatShapes.{flat_members}
use Rattle.fact_types.specs.Shapes.{Shape}
use Rattle.fact_types.specs.Signatures.{width, address, flat_or, flat_values, lower_limit}
use Rattle.fact_types.specs.Tables.{Tables}
use Rattle.fact_types.specs.Tuples.{tuple_members, tuple_of}
use Rattle.fact_types.specs.declared.outside.CoreDef.{CoreDef}
use Rattle.fact_types.specs.declared.outside.Trap.TheVariants.{MemoryOutOfBounds}
use Rattle.fact_types.specs.declared.import.Import.TheVariants as import
use Rattle.fact_types.proofs.PlaceLaws.{sound_in}
use Rattle.fact_machine.specs.declared.types.CoreValue.{CoreValue}
use Rattle.fact_machine.specs.declared.types.CoreValue.TheVariants.{I32}
use Rattle.fact_machine.specs.Typed.{is_value}
use Rattle.fact_machine.specs.Typing.{address_bits, address_operand}
use Rattle.fact_actions.specs.Actions as action
use Rattle.fact_actions.specs.Actions.{Action, Ask, Give, ◌>>=◌, ◌>>◌}
use Rattle.fact_actions.specs.Adapters.{AdapterTunables, params_transfer, into_params, check_tuple, move_params}
use Rattle.fact_actions.specs.Moves.{entry_extent, move_fields}
use Rattle.fact_actions.specs.Running.{ImportPlaces}
use Rattle.fact_actions.specs.Sides.{LiftLowerOptions, Source, Target, Values, Slots, AtAddress, Into, options_of, first_bits, address_value, check_region, get_slots, reallocate, set_slots, type_of_addresses}
use Rattle.fact_code_laws.specs.Does.{Locals, Onward, held_types, Does}
use Rattle.fact_code_laws.specs.Typed.{OnStack, IsTyped}
use Rattle.fact_code_laws.specs.Places.{Slot, AreHeld, AreLocals, AreUsed, FromUsed, ToUsed, KeepsLocals, Stood, MayGo, transfer, InRooms, Rooms, Setting}
use Rattle.fact_code_laws.proofs.Blocks.{mapped, weaker}
use Rattle.fact_code_laws.proofs.Keeping.{keeps_all, keeps_then, held_kept}
use Rattle.fact_code_laws.proofs.Rules.{within, in_turn, done}
use Rattle.fact_code_laws.proofs.TypingLaws.{typed_done, typed_then}
use Rattle.fact_code_laws.proofs.UsedLocals.{with_local, local_here, local_more}
use Rattle.fact_emit.specs.Areas.{IsLinearMemoryOf}
use Rattle.fact_emit.specs.Fitting.{FitsShapes}
use Rattle.fact_emit.specs.NewAreas.{HoldsArea}
use Rattle.fact_emit.specs.Places.{AreDistinctSlots, HasDistinctSlots, TargetTaken, setting_of, Using}
use Rattle.fact_emit.specs.Requests.{IsReallocOf}
use Rattle.fact_emit.specs.declared.places.LinearMemory.{LinearMemory}
use Rattle.fact_compound.specs.Described.{DescribesTransfers, HasListsOf, HasNewTupleMemory, HasTupleMemory, linear_of}
use Rattle.fact_compound.specs.Passed.{MovesParams, params_sides}
use Rattle.fact_compound.specs.Passing.{AsksTuple, last_local, tuple_from, tuple_to, tuple_size, tuple_align}
use Rattle.fact_compound.specs.declared.adapters.AdapterData.{AdapterData}
use Rattle.fact_compound.proofs.Addresses.{pointed, pointed_local}
use Rattle.fact_compound.proofs.Flats.{are_flat, params_flat}
use Rattle.fact_compound.proofs.Fronts.{fields_front}
use Rattle.fact_compound.proofs.ResultMoves.{IsPassed, IsReached, checks_on, from_is, goes_passed, passed, passed_address, passed_binds, passed_from, passed_to, passes, passes_typed, reads_passed, stands_passed, writes_passed}
use Rattle.fact_compound.proofs.Slots.{HeldParts, held_parts, keeps_less, slots_long, values_long}
use Rattle.fact_compound.proofs.StepRules.{region_binds, unvisited}
use Rattle.fact_compound.proofs.SyncSteps.{slot_types, AreUnused}
use Rattle.fact_compound.proofs.TupleRooms.{AddressBy, HasArea, from_room, from_within, to_room, to_within, tuple_rooms}

-- where the parameters are flat, they are moved from core values to core values
pub params_are : (u : AdapterTunables) (a : LinkedAdapter) (args : List CoreValue) {fs gs : List ValType} → a.lower.async_side ≡ false → flat_values (is_wide a.lower.memory) 16 a.lower.params ≡ Some fs → flat_values (is_wide a.lift.memory) 16 a.lift.params ≡ Some gs
    → move_fields (params_transfer u a) (tuple_members a.lower.params) (tuple_members a.lift.params) 0 (Values args) (Slots gs) ≡ move_params u a args
params_are u a args {fs} {gs} sync e f =
    let into : (s : Source) → move_fields (params_transfer u a) (tuple_members a.lower.params) (tuple_members a.lift.params) 0 s (Slots gs)
    ≡ into_params (params_transfer u a) a.lift.params (λ d. move_fields (params_transfer u a) (tuple_members a.lower.params) (tuple_members a.lift.params) 0 s d) = λ s.
    sym (ap (λ o. placed s o) f) in
    let flat : flat_values (is_wide a.lower.memory) (lower_limit a.lower.async_side) a.lower.params ≡ Some fs = ap (λ b. flat_values (is_wide a.lower.memory) (lower_limit b) a.lower.params) sync ∙ e in
    into (Values args) ∙ sym (ap taken flat)
  where
    placed : Source → Option (List ValType) → Action (List CoreValue)
    placed s o =
        elim o as (λ (o : Option (List ValType)). Action (List CoreValue)) [
          | Some flats ↦ move_fields (params_transfer u a) (tuple_members a.lower.params) (tuple_members a.lift.params) 0 s (Slots flats)
          | None ↦
              let e = entry_extent (options_of a.lift) (tuple_members a.lift.params) in
              reallocate u.concurrency (options_of a.lift) MemoryOutOfBounds 0 0 e.align e.size (λ q.
              move_fields (params_transfer u a) (tuple_members a.lower.params) (tuple_members a.lift.params) 0 s (Into q) >> Give (address_value (options_of a.lift) q ∷ []))
        ]

    taken : Option (List ValType) → Action (List CoreValue)
    taken o =
        let k : Source → Action (List CoreValue) = λ s. into_params (params_transfer u a) a.lift.params (λ d. move_fields (params_transfer u a) (tuple_members a.lower.params) (tuple_members a.lift.params) 0 s d) in
        elim o as (λ (o : Option (List ValType)). Action (List CoreValue)) [
          | Some flats ↦ k (Values args)
          | None ↦ check_tuple (options_of a.lower) a.lower.params (first_bits args) (k (AtAddress (first_bits args)))
        ]

-- ---- the action

-- a new area for values that are not flat
abbrev asked : {A : Type 0} → (concurrency : Bool) → Option (List ValType) → LiftLowerOptions → List Shape → (ℕ → Action A) → Action A
asked concurrency (Some flats) o ts k = k 0
asked concurrency None o ts k = reallocate concurrency o MemoryOutOfBounds 0 0 (entry_extent o (tuple_members ts)).align (entry_extent o (tuple_members ts)).size k

-- what the core values are once they are moved: those that were given, or the area's address
abbrev finished : Option (List ValType) → LiftLowerOptions → ℕ → Action (List CoreValue) → Action (List CoreValue)
finished (Some flats) o at q = q
finished None o at q = q >> Give (address_value o at ∷ [])

-- the slots of the context are read and set in front of what follows
slots_got : {A B : Type 0} (b : Bool) (k : List CoreValue → List CoreValue → Action A) (f : A → Action B) → (get_slots b k >>= f) ≡ get_slots b (λ x y. k x y >>= f)
slots_got true k f = refl
slots_got false k f = refl

slots_set : {A B : Type 0} (b : Bool) (x y : List CoreValue) (q : Action A) (f : A → Action B) → (set_slots b x y q >>= f) ≡ set_slots b x y (q >>= f)
slots_set true x y q f = refl
slots_set false x y q f = refl

asked_binds : {A B : Type 0} (b : Bool) (flats : Option (List ValType)) (o : LiftLowerOptions) (ts : List Shape) (k : ℕ → Action A) (f : A → Action B) → (asked b flats o ts k >>= f) ≡ asked b flats o ts (λ at. k at >>= f)
asked_binds b (Some flats) o ts k f = refl
asked_binds {A} {B} b None o ts k f = by_realloc o.realloc
  where
    align : ℕ
    align = (entry_extent o (tuple_members ts)).align

    size : ℕ
    size = (entry_extent o (tuple_members ts)).size

    answered : {C : Type 0} → CoreDef → (x y : List CoreValue) → (ℕ → Action C) → Action C
    answered g x y r =
        Ask (import.CoreDef g) (address_value o 0 ∷ address_value o 0 ∷ address_value o align ∷ address_value o size ∷ []) (type_of_addresses o ∷ []) (λ rs. set_slots b x y (check_region o MemoryOutOfBounds (first_bits rs) size align (r (first_bits rs))))

    answer_binds : (g : CoreDef) (x y : List CoreValue) → (answered g x y k >>= f) ≡ answered g x y (λ at. k at >>= f)
    answer_binds g x y = λ i.
        Ask (import.CoreDef g) (address_value o 0 ∷ address_value o 0 ∷ address_value o align ∷ address_value o size ∷ []) (type_of_addresses o ∷ [])
        (λ rs. (slots_set b x y (check_region o MemoryOutOfBounds (first_bits rs) size align (k (first_bits rs))) f ∙ ap (set_slots b x y) (region_binds o MemoryOutOfBounds (first_bits rs) size align (k (first_bits rs)) f)) i)

    requests : {C : Type 0} → CoreDef → (ℕ → Action C) → Action C
    requests g r = get_slots b (λ x y. set_slots b (I32 0 ∷ []) (I32 0 ∷ []) (answered g x y r))

    by_realloc : (r : Option CoreDef)
        → (elim r as (λ (r : Option CoreDef). Action A) [ None ↦ action.Unreachable | Some g ↦ requests g k ] >>= f)
        ≡ elim r as (λ (r : Option CoreDef). Action B) [ None ↦ action.Unreachable | Some g ↦ requests g (λ at. k at >>= f) ]
    by_realloc None = refl
    by_realloc (Some g) =
        slots_got b (λ x y. set_slots b (I32 0 ∷ []) (I32 0 ∷ []) (answered g x y k)) f
        ∙ (λ i. get_slots b (λ x y. (slots_set b (I32 0 ∷ []) (I32 0 ∷ []) (answered g x y k) f ∙ ap (set_slots b (I32 0 ∷ []) (I32 0 ∷ [])) (answer_binds g x y)) i))

module _ (u : AdapterTunables) (a : LinkedAdapter) where
  abbrev fields : Source → Target → Action (List CoreValue)
  fields s d = move_fields (params_transfer u a) (tuple_members a.lower.params) (tuple_members a.lift.params) 0 s d

  into_is : (k : Target → Action (List CoreValue)) (flats : Option (List ValType)) → flat_values (is_wide a.lift.memory) 16 a.lift.params ≡ flats
      → into_params (params_transfer u a) a.lift.params k ≡ asked u.concurrency flats (options_of a.lift) a.lift.params (λ at. finished flats (options_of a.lift) at (k (passed_to flats at)))
  into_is k flats e = ap by_flats e ∙ go flats
    where
      by_flats : Option (List ValType) → Action (List CoreValue)
      by_flats x =
          elim x as (λ (x : Option (List ValType)). Action (List CoreValue)) [
            | Some flats ↦ k (Slots flats)
            | None ↦
                let e = entry_extent (options_of a.lift) (tuple_members a.lift.params) in
                reallocate u.concurrency (options_of a.lift) MemoryOutOfBounds 0 0 e.align e.size (λ q. k (Into q) >> Give (address_value (options_of a.lift) q ∷ []))
          ]

      go : (x : Option (List ValType)) → by_flats x ≡ asked u.concurrency x (options_of a.lift) a.lift.params (λ at. finished x (options_of a.lift) at (k (passed_to x at)))
      go (Some fs) = refl
      go None = refl

  -- the move, whether or not parameters are flat on either side
  params_by : (args : List CoreValue) (fs gs : Option (List ValType)) → flat_values (is_wide a.lower.memory) (lower_limit a.lower.async_side) a.lower.params ≡ fs → flat_values (is_wide a.lift.memory) 16 a.lift.params ≡ gs
      → move_params u a args ≡ passed fs (options_of a.lower) a.lower.params (first_bits args) (asked u.concurrency gs (options_of a.lift) a.lift.params (λ at. finished gs (options_of a.lift) at (fields (passed_from fs args) (passed_to gs at))))
  params_by args fs gs e f =
      from_is u a (options_of a.lower) (lower_limit a.lower.async_side) a.lower.params args (λ s. into_params (params_transfer u a) a.lift.params (λ d. fields s d)) fs e
      ∙ ap (passed fs (options_of a.lower) a.lower.params (first_bits args)) (into_is (λ d. fields (passed_from fs args) d) gs f)

-- ---- what is known of the locals

-- The locals of parameters: those of the lower side are kept, and those of the callee's are not.
pub record ParamLocals (a : LinkedAdapter) (fs gs : Option (List ValType)) (params core : List Slot) (locals : List ValType) (kept taken : ℕ → Bool) : Type 0 where
  pub lower_is : flat_values (is_wide a.lower.memory) (lower_limit a.lower.async_side) a.lower.params ≡ fs
  pub lift_is : flat_values (is_wide a.lift.memory) 16 a.lift.params ≡ gs
  pub params_types : slot_types params ≡ flat_or (address (is_wide a.lower.memory) ∷ []) fs
  pub core_types : slot_types core ≡ flat_or (address (is_wide a.lift.memory) ∷ []) gs
  pub params_typed : AreLocals locals params
  pub core_typed : AreLocals locals core
  pub params_kept : AreUsed kept params
  pub core_unused : AreUnused kept core
  pub core_taken : AreUsed taken core
  pub core_distinct : AreDistinctSlots core
  pub inside : (i : ℕ) → kept i ≡ true → taken i ≡ true

-- the locals in use while the parameters are moved: the area's address too
abbrev during : Option (List ValType) → (ℕ → Bool) → (core : List Slot) → ℕ → Bool
during (Some flats) kept core = kept
during None kept core = with_local kept (last_local core)

-- what stands behind the request of an area
abbrev AreaStands : Option (List ValType) → LinearMemory → (ℕ → Bool) → (size : ℕ) → (core : List Slot) → Locals → ℕ → Locals → Type 0
AreaStands (Some flats) m kept size core ls at ls' = KeepsLocals kept ls ls'
AreaStands None m kept size core ls at ls' = HoldsArea m kept (last_local core) size ls at ls'

record IsAreaThere (flats : Option (List ValType)) (m : LinearMemory) (kept : ℕ → Bool) (size : ℕ) (core : List Slot) (ls : Locals) (at : ℕ) (ls' : Locals) : Type 0 where
  by : AreaStands flats m kept size core ls at ls'

-- what is asked where values go to a new area
abbrev pub AskedBy : Option (List ValType) → WasmModule → ImportPlaces → LiftLowerOptions → LinearMemory → Type 0
AskedBy (Some flats) M p o m = Unit {0}
AskedBy None M p o m = IsLinearMemoryOf M p o m × IsReallocOf M p o m

pub record IsAsked (flats : Option (List ValType)) (M : WasmModule) (p : ImportPlaces) (o : LiftLowerOptions) (m : LinearMemory) : Type 0 where
  pub by : AskedBy flats M p o m

pub last_used : (u : ℕ → Bool) (ss : List Slot) (t : ValType) → slot_types ss ≡ t ∷ [] → AreUsed u ss → u (last_local ss) ≡ true
last_used u [] t e h = cc
last_used u (s ∷ r ∷ ss) t e h = cc
last_used u (s ∷ []) t e h = h.0

last_unused : (u : ℕ → Bool) (ss : List Slot) (t : ValType) → slot_types ss ≡ t ∷ [] → AreUnused u ss → u (last_local ss) ≡ false
last_unused u [] t e h = cc
last_unused u (s ∷ r ∷ ss) t e h = cc
last_unused u (s ∷ []) t e h = h.0

address_value_typed : (m : Bool) (n : ℕ) → n < 2 ^ address_bits m → is_value (address_operand m n) (address m) ≡ true
address_value_typed true n lt = lt-ltb n (2 ^ 64) lt
address_value_typed false n lt = lt-ltb n (2 ^ 32) lt

-- it holds the address
last_held : (m : Bool) (ls : Locals) (ss : List Slot) (at : ℕ) → slot_types ss ≡ address m ∷ [] → at < 2 ^ address_bits m → slice_get ls (last_local ss) ≡ Some (Some (address_operand m at)) → AreHeld ls ss (address_operand m at ∷ [])
last_held m ls [] at e lt h = cc
last_held m ls (s ∷ r ∷ ss) at e lt h = cc
last_held m ls (s ∷ []) at e lt h =
    let is : s.1 ≡ address m = cc in
    (record { there = h; value = subst (λ t. is_value (address_operand m at) t ≡ true) (sym is) (address_value_typed m at lt) }, tt)

-- ---- requests

asks_tuple : (concurrency : Bool) (flats : Option (List ValType)) (flat : Bool) {M : WasmModule} {p : ImportPlaces} {locals : List ValType} {taken kept : ℕ → Bool} {code : List Instr} {ls : Locals} (o : LiftLowerOptions) (m : LinearMemory) (ts : List Shape) (core : List Slot)
    → flat ≡ is_some flats → is_wide o.memory ≡ m.memory64 → tuple_size m.memory64 ts ≤ 4294967295 → ((i : ℕ) → kept i ≡ true → taken i ≡ true) → held_types ls ≡ locals → IsAsked flats M p o m
    → slot_types core ≡ flat_or (address m.memory64 ∷ []) flats → AreLocals locals core → AreUnused kept core
    → AsksTuple concurrency m taken flat (last_local core) (tuple_size m.memory64 ts) (tuple_align m.memory64 ts) M p locals code
    → Does M p Onward 60 0 [] ls code (asked concurrency flats o ts (λ at. Give at)) (λ at. []) (λ at ls'. IsAreaThere flats m kept (tuple_size m.memory64 ts) core ls at ls')
asks_tuple concurrency (Some flats) false o m ts core f wide few inside held h types l un c = absurd (let no : false ≡ true = f in cc)
asks_tuple concurrency None true o m ts core f wide few inside held h types l un c = absurd (let no : true ≡ false = f in cc)
asks_tuple concurrency (Some flats) true {M} {p} {kept = kept} {ls = ls} o m ts core f wide few inside held h types l un c =
    subst (λ x. Does M p Onward 60 0 [] ls x (Give 0) (λ (at : ℕ). []) (λ at ls'. IsAreaThere (Some flats) m kept (tuple_size m.memory64 ts) core ls at ls')) (sym c) (within (omega arith) (done refl (record { by = keeps_all })))
asks_tuple concurrency None false {M} {p} {locals} {kept = kept} {code} {ls} o m ts core f wide few inside held h types l un c =
    let asks = weaker (λ at. refl) (λ at ls' x. record { by = x }) (c.does o kept ls h.by.0 h.by.1 inside (last_unused kept core (address m.memory64) types un) (sound_in (width m.memory64) (tuple_of ts)).power (omega (arith, few)) held (pointed_local m.memory64 locals core types l)) in
    subst (λ (b : Bool). Does M p Onward 60 0 [] ls code (reallocate concurrency o MemoryOutOfBounds 0 0 (tuple_align b ts) (tuple_size b ts) (λ at. Give at)) (λ at. []) (λ at ls'. IsAreaThere None m kept (tuple_size m.memory64 ts) core ls at ls')) (sym wide) asks

asks_typed : (concurrency : Bool) (flats : Option (List ValType)) (flat : Bool) {M : WasmModule} {p : ImportPlaces} {locals : List ValType} {code : List Instr} (taken : ℕ → Bool) (o : LiftLowerOptions) (m : LinearMemory) (core : List Slot) (size align : ℕ)
    → flat ≡ is_some flats → IsAsked flats M p o m → slot_types core ≡ flat_or (address m.memory64 ∷ []) flats → AreLocals locals core → AsksTuple concurrency m taken flat (last_local core) size align M p locals code → IsTyped M locals [] code [] (OnStack [])
asks_typed concurrency (Some flats) false taken o m core size align f h types l c = absurd (let no : false ≡ true = f in cc)
asks_typed concurrency None true taken o m core size align f h types l c = absurd (let no : true ≡ false = f in cc)
asks_typed concurrency (Some flats) true {M} {locals = locals} taken o m core size align f h types l c = subst (λ x. IsTyped M locals [] x [] (OnStack [])) (sym c) typed_done
asks_typed concurrency None false {locals = locals} taken o m core size align f h types l c = c.typed o h.by.0 h.by.1 (pointed_local m.memory64 locals core types l)

-- behind it the kept locals are as they were, and the area is there
area_keeps : (flats : Option (List ValType)) {m : LinearMemory} {kept : ℕ → Bool} {size : ℕ} {core : List Slot} {ls ls' : Locals} {at : ℕ} → IsAreaThere flats m kept size core ls at ls' → KeepsLocals kept ls ls'
area_keeps (Some flats) h = h.by
area_keeps None h = h.by.keeps

area_address : (flats : Option (List ValType)) {m : LinearMemory} {kept : ℕ → Bool} {size : ℕ} {core : List Slot} {ls ls' : Locals} {at : ℕ} → IsAreaThere flats m kept size core ls at ls' → AddressBy flats ls' m.memory64 (last_local core) at
area_address (Some flats) h = tt
area_address None h = h.by.there

area_room : (flats : Option (List ValType)) {m : LinearMemory} {kept : ℕ → Bool} {size : ℕ} {core : List Slot} {ls ls' : Locals} {at : ℕ} → IsAreaThere flats m kept size core ls at ls' → HasArea flats m.memory64 at size
area_room (Some flats) h = record { by = tt }
area_room None h = record { by = h.by.room }

area_reached : (flats : Option (List ValType)) {M : WasmModule} {p : ImportPlaces} {locals : List ValType} (o : LiftLowerOptions) (m : LinearMemory) (core : List Slot) → IsAsked flats M p o m → slot_types core ≡ flat_or (address m.memory64 ∷ []) flats → AreLocals locals core
    → IsReached flats M p o m locals (last_local core)
area_reached (Some flats) o m core h types l = record { by = tt }
area_reached None {locals = locals} o m core h types l = record { by = (h.by.0, pointed_local m.memory64 locals core types l) }

-- what is in use besides
during_more : (flats : Option (List ValType)) (kept : ℕ → Bool) (core : List Slot) (i : ℕ) → kept i ≡ true → during flats kept core i ≡ true
during_more (Some flats) kept core i u = u
during_more None kept core i u = local_more kept (last_local core) i u

used_during : (flats : Option (List ValType)) (kept : ℕ → Bool) (core ss : List Slot) → AreUsed kept ss → AreUsed (during flats kept core) ss
used_during flats kept core [] h = tt
used_during flats kept core (s ∷ ss) h = (during_more flats kept core s.0 h.0, used_during flats kept core ss h.1)

during_within : (flats : Option (List ValType)) (kept taken : ℕ → Bool) (core : List Slot) (t : ValType) → slot_types core ≡ flat_or (t ∷ []) flats → ((i : ℕ) → kept i ≡ true → taken i ≡ true) → AreUsed taken core → (i : ℕ) → during flats kept core i ≡ true → taken i ≡ true
during_within (Some flats) kept taken core t types inside used i u = inside i u
during_within None kept taken core t types inside used i u = go (nat_eq i (last_local core)) refl u
  where
    go : (b : Bool) → nat_eq i (last_local core) ≡ b → (if b then true else kept i) ≡ true → taken i ≡ true
    go true e u = ap taken (eqb-true i (last_local core) e) ∙ last_used taken core t types used
    go false e u = inside i u

-- ---- the move

-- what was given to the slots of the parameters, whatever stands behind them
pub first_same : (front rest : List CoreValue) (ls : Locals) (ss : List Slot) (t : ValType) → slot_types ss ≡ t ∷ [] → AreHeld ls ss front → first_bits (front ++ rest) ≡ first_bits front
first_same [] rest ls [] t e h = cc
first_same [] rest ls (s ∷ ss) t e h = absurd h
first_same (v ∷ front) rest ls ss t e h = refl

goes_core : (flats : Option (List ValType)) (flat : Bool) (M : WasmModule) (p : ImportPlaces) {locals : List ValType} {kept : ℕ → Bool} {size : ℕ} {ls ls' : Locals} (o : LiftLowerOptions) (m : LinearMemory) (ts : List Shape) (core : List Slot) (at : ℕ) → is_wide o.memory ≡ m.memory64 → tuple_size m.memory64 ts ≤ 4294967295
    → flat ≡ is_some flats → held_types ls' ≡ locals → slot_types core ≡ flat_or (address m.memory64 ∷ []) flats → AreLocals locals core → AreUnused kept core → IsAreaThere flats m kept size core ls at ls'
    → MayGo (during flats kept core) ls' m.memory64 (tuple_to m flat core core) (passed_to flats at)
goes_core (Some fs) false M p o m ts core at wide few f e types l un s = absurd (let no : false ≡ true = f in cc)
goes_core None true M p o m ts core at wide few f e types l un s = absurd (let no : true ≡ false = f in cc)
goes_core (Some fs) true M p {locals} {kept} o m ts core at wide few f e types l un s =
    goes_passed M p locals kept o m ts wide few (Some fs) true core core at refl e (λ us same. let is : fs ≡ us = cc in types ∙ is) l un (record { by = tt })
goes_core None false M p o m ts core at wide few f e types l un s = record { start = at; there = s.by.there; is = omega arith }

-- the core values are in their locals
finishes : (flats : Option (List ValType)) (flat : Bool) {M : WasmModule} {p : ImportPlaces} {kept : ℕ → Bool} {size : ℕ} {code : List Instr} {ls ls' : Locals} {q : Action (List CoreValue)} (o : LiftLowerOptions) (m : LinearMemory) (core : List Slot) (at : ℕ) → is_wide o.memory ≡ m.memory64
    → flat ≡ is_some flats → slot_types core ≡ flat_or (address m.memory64 ∷ []) flats → IsAreaThere flats m kept size core ls at ls'
    → Does M p Onward 0 0 [] ls' code q (λ vs. []) (λ vs ls2. Stood ls2 (tuple_to m flat core core) vs × KeepsLocals (during flats kept core) ls' ls2)
    → Does M p Onward 0 0 [] ls' code (finished flats o at q) (λ vs. []) (λ vs ls2. AreHeld ls2 core vs × KeepsLocals kept ls' ls2)
finishes (Some fs) false o m core at wide f types s d = absurd (let no : false ≡ true = f in cc)
finishes None true o m core at wide f types s d = absurd (let no : true ≡ false = f in cc)
finishes (Some fs) true o m core at wide f types s d = d
finishes None false {kept = kept} o m core at wide f types s d =
    mapped (λ vs. address_value o at ∷ []) (λ vs. refl)
    (λ vs ls2 r. (
      subst (λ b. AreHeld ls2 core (address_operand b at ∷ [])) (sym wide) (last_held m.memory64 ls2 core at types s.by.below (r.1.same (last_local core) (local_here kept (last_local core)) ∙ s.by.there)),
      keeps_less (local_more kept (last_local core)) r.1,
    )) d

module _ {t : Tables} {d : AdapterData} {debug concurrency : Bool} {u : AdapterTunables} {a : LinkedAdapter} (h : DescribesTransfers t d debug u a) (same : concurrency ≡ u.concurrency) {M : WasmModule} {p : ImportPlaces} {locals : List ValType} {taken kept : ℕ → Bool} {code : List Instr} (params core : List Slot)
    (k : MovesParams d debug concurrency params core taken a.lower.params a.lift.params M p locals code) (fs gs : Option (List ValType)) (r : ParamLocals a fs gs params core locals kept taken)
    (lists : HasListsOf M p (linear_of d.lower) (linear_of d.lift) (options_of a.lower) (options_of a.lift) a.lower.params) (memory : HasTupleMemory M p d.lower a.lower fs) (area : HasNewTupleMemory M p d.lift a.lift gs) where
  abbrev rooms : Rooms
  rooms = tuple_rooms (linear_of d.lower) (linear_of d.lift) a.lower.params a.lift.params

  abbrev setting : Setting
  setting = setting_of (params_sides d debug concurrency) (options_of a.lower) (options_of a.lift) rooms M p locals

  params_transfer_is : transfer setting ≡ params_transfer u a
  params_transfer_is = λ i. record { from = options_of a.lower; to = options_of a.lift; concurrency = same i; debug = (checks_on debug p ∙ sym h.same_debug) i }

  abbrev lower : LinearMemory
  lower = linear_of d.lower

  abbrev lift : LinearMemory
  lift = linear_of d.lift

  abbrev lower_flat : Bool
  lower_flat = is_some (flat_values lower.memory64 (lower_limit d.lower.options.async_) a.lower.params)

  abbrev lift_flat : Bool
  lift_flat = is_some (flat_values lift.memory64 16 a.lift.params)

  abbrev used : ℕ → Bool
  used = during gs kept core

  lower_flat_is : lower_flat ≡ is_some fs
  lower_flat_is = sym (λ i. is_some (flat_values (h.lower.wide i) (lower_limit (h.lower.mark i)) a.lower.params)) ∙ ap is_some r.lower_is

  lift_flat_is : lift_flat ≡ is_some gs
  lift_flat_is = ap (λ m. is_some (flat_values m 16 a.lift.params)) (sym h.lift.wide) ∙ ap is_some r.lift_is

  params_types : slot_types params ≡ flat_or (address lower.memory64 ∷ []) fs
  params_types = r.params_types ∙ ap (λ m. flat_or (address m ∷ []) fs) h.lower.wide

  core_types : slot_types core ≡ flat_or (address lift.memory64 ∷ []) gs
  core_types = r.core_types ∙ ap (λ m. flat_or (address m ∷ []) gs) h.lift.wide

  asks_lift : AsksTuple u.concurrency lift taken lift_flat (last_local core) (tuple_size lift.memory64 a.lift.params) (tuple_align lift.memory64 a.lift.params) M p locals k.lift_request
  asks_lift = subst (λ b. AsksTuple b lift taken lift_flat (last_local core) (tuple_size lift.memory64 a.lift.params) (tuple_align lift.memory64 a.lift.params) M p locals k.lift_request) same k.asks_lift

  is_asked : IsAsked gs M p (options_of a.lift) lift
  is_asked = go gs area
    where
      go : (gs : Option (List ValType)) → HasNewTupleMemory M p d.lift a.lift gs → IsAsked gs M p (options_of a.lift) lift
      go (Some flats) m = record { by = tt }
      go None m = record { by = m }

  params_passed : (ls : Locals) (vs : List CoreValue) → AreHeld ls params vs → IsPassed fs M p (options_of a.lower) lower locals kept ls (last_local params) (first_bits vs)
  params_passed ls vs g = go fs memory params_types
    where
      go : (fs : Option (List ValType)) → HasTupleMemory M p d.lower a.lower fs → slot_types params ≡ flat_or (address lower.memory64 ∷ []) fs → IsPassed fs M p (options_of a.lower) lower locals kept ls (last_local params) (first_bits vs)
      go (Some flats) m e = record { by = tt }
      go None m e = record { by = (m, pointed lower.memory64 locals kept ls params vs e r.params_typed r.params_kept g) }

  params_reached : IsReached fs M p (options_of a.lower) lower locals (last_local params)
  params_reached = go fs memory params_types
    where
      go : (fs : Option (List ValType)) → HasTupleMemory M p d.lower a.lower fs → slot_types params ≡ flat_or (address lower.memory64 ∷ []) fs → IsReached fs M p (options_of a.lower) lower locals (last_local params)
      go (Some flats) m e = record { by = tt }
      go None m e = record { by = (m, pointed_local lower.memory64 locals params e r.params_typed) }

  -- the places fit
  params_fit : FitsShapes (params_sides d debug concurrency) setting (tuple_of a.lower.params) (tuple_of a.lift.params) (tuple_from lower lower_flat params) (tuple_to lift lift_flat core core)
  params_fit = record {
    from_wide = h.lower.wide;
    to_wide = h.lift.wide;
    reads = reads_passed M p locals kept (options_of a.lower) lower a.lower.params h.lower.wide k.lower_size fs lower_flat params lower_flat_is (λ ts e. params_flat (is_wide a.lower.memory) a.lower.async_side a.lower.params ts (r.lower_is ∙ e)) (λ ts e. r.params_types ∙ ap (flat_or (address (is_wide a.lower.memory) ∷ [])) e) r.params_typed params_reached;
    writes = writes_passed M p locals kept (options_of a.lift) lift a.lift.params h.lift.wide k.lift_size gs lift_flat core core lift_flat_is (λ ts e. are_flat (is_wide a.lift.memory) 16 a.lift.params ts (r.lift_is ∙ e)) (λ ts e. r.core_types ∙ ap (flat_or (address (is_wide a.lift.memory) ∷ [])) e) r.core_typed
        (area_reached gs (options_of a.lift) lift core is_asked core_types r.core_typed);
    within = record { source = from_within lower (is_wide a.lower.memory) a.lower.params lower_flat params h.lower.wide; target = to_within lift (is_wide a.lift.memory) a.lift.params lift_flat core core h.lift.wide };
    lists = lists;
  }

  params_using : Using taken used (tuple_from lower lower_flat params) (tuple_to lift lift_flat core core)
  params_using = record {
    within = during_within gs kept taken core (address lift.memory64) core_types r.inside r.core_taken;
    from = from_used fs lower_flat lower_flat_is params_types;
    to = to_used gs lift_flat lift_flat_is;
    target = target lift_flat;
    distinct = distinct lift_flat;
  }
    where
      from_used : (fs : Option (List ValType)) (flat : Bool) → flat ≡ is_some fs → slot_types params ≡ flat_or (address lower.memory64 ∷ []) fs → FromUsed used (tuple_from lower flat params)
      from_used fs true f e = used_during gs kept core params r.params_kept
      from_used (Some flats) false f e = absurd (let no : false ≡ true = f in cc)
      from_used None false f e = during_more gs kept core (last_local params) (last_used kept params (address lower.memory64) e r.params_kept)

      to_used : (gs : Option (List ValType)) (flat : Bool) → flat ≡ is_some gs → ToUsed (during gs kept core) (tuple_to lift flat core core)
      to_used gs true f = tt
      to_used (Some flats) false f = absurd (let no : false ≡ true = f in cc)
      to_used None false f = local_here kept (last_local core)

      target : (flat : Bool) → TargetTaken taken (tuple_to lift flat core core)
      target true = r.core_taken
      target false = tt

      distinct : (flat : Bool) → HasDistinctSlots (tuple_to lift flat core core)
      distinct true = r.core_distinct
      distinct false = tt

  -- The code of the check, of the request and of the move is typed.
  pub params_typed : IsTyped M locals [] code [] (OnStack [])
  params_typed =
      subst (λ c. IsTyped M locals [] c [] (OnStack [])) (sym k.is)
      (typed_then (passes_typed fs lower_flat taken (options_of a.lower) lower (last_local params) (tuple_size lower.memory64 a.lower.params) (tuple_align lower.memory64 a.lower.params) lower_flat_is params_reached k.checks_lower)
      (typed_then (asks_typed u.concurrency gs lift_flat taken (options_of a.lift) lift core (tuple_size lift.memory64 a.lift.params) (tuple_align lift.memory64 a.lift.params) lift_flat_is is_asked core_types r.core_typed asks_lift)
      (k.moves.moves (options_of a.lower) (options_of a.lift) rooms used params_using params_fit).typed))

  -- what was given stands in the places of the parameters, whatever stands behind it among the arguments
  source_is : (ls : Locals) (front rest : List CoreValue) → AreHeld ls params front → length front ≡ length params → (d' : Target) → fields u a (passed_from fs (front ++ rest)) d' ≡ fields u a (passed_from fs front) d'
  source_is ls front rest g long d' = go fs r.lower_is params_types
    where
      go : (fs : Option (List ValType)) → flat_values (is_wide a.lower.memory) (lower_limit a.lower.async_side) a.lower.params ≡ fs → slot_types params ≡ flat_or (address lower.memory64 ∷ []) fs → fields u a (passed_from fs (front ++ rest)) d' ≡ fields u a (passed_from fs front) d'
      go (Some flats) e types =
          let one = params_flat (is_wide a.lower.memory) a.lower.async_side a.lower.params flats e in
          fields_front (params_transfer u a) (tuple_members a.lower.params) (tuple_members a.lift.params) 0 front rest d' h.params.from_counted one.few
          (long ∙ sym (slots_long params) ∙ ap length (types ∙ one.are) ∙ values_long (flat_members (width (is_wide a.lower.memory)) (tuple_members a.lower.params)))
      go None e types = ap (λ n. fields u a (AtAddress n) d') (first_same front rest ls params (address lower.memory64) types g)

  pointer_is : (ls : Locals) (front rest : List CoreValue) (q : Action (List CoreValue)) → AreHeld ls params front → passed fs (options_of a.lower) a.lower.params (first_bits front) q ≡ passed fs (options_of a.lower) a.lower.params (first_bits (front ++ rest)) q
  pointer_is ls front rest q g = go fs params_types
    where
      go : (fs : Option (List ValType)) → slot_types params ≡ flat_or (address lower.memory64 ∷ []) fs → passed fs (options_of a.lower) a.lower.params (first_bits front) q ≡ passed fs (options_of a.lower) a.lower.params (first_bits (front ++ rest)) q
      go (Some flats) types = refl
      go None types = ap (λ n. passed None (options_of a.lower) a.lower.params n q) (sym (first_same front rest ls params (address lower.memory64) types g))

  -- The area of the lower side is checked, one of the lift side is asked for, and then the members are moved.
  pub params_moved : (rs : List Slot) (ls : Locals) (args : List CoreValue) → held_types ls ≡ locals → AreHeld ls (params ++ rs) args → Does M p Onward 384 0 [] ls code (move_params u a args) (λ vs. []) (λ vs ls'. AreHeld ls' core vs × KeepsLocals kept ls ls')
  params_moved rs ls args held there =
      let parts : HeldParts ls params rs args = held_parts ls params rs args there in
      let front = parts.front in
      let o = options_of a.lower in
      let o' = options_of a.lift in
      let q : ℕ → Action (List CoreValue) = λ at. fields u a (passed_from fs front) (passed_to gs at) in
      let last : (at : ℕ) (ls1 ls2 : Locals) → KeepsLocals kept ls ls1 → HasArea fs lower.memory64 (first_bits front) rooms.from → IsAreaThere gs lift kept rooms.to core ls1 at ls2 → Does M p Onward 0 0 [] ls2 k.move (finished gs o' at (q at)) (λ vs. []) (λ vs ls'. AreHeld ls' core vs × KeepsLocals kept ls2 ls') = λ at ls1 ls2 k1 source s.
      let k2 : KeepsLocals kept ls ls2 = keeps_then k1 (area_keeps gs s) in
      let held2 : held_types ls2 ≡ locals = k2.types ∙ held in
      let given : AreHeld ls2 params front = held_kept k2 params front r.params_kept parts.in_front in
      let roomy : InRooms setting ls2 (tuple_from lower lower_flat params) (tuple_to lift lift_flat core core) = record {
        source = from_room fs lower_flat lower params ls2 (first_bits front) rooms.from lower_flat_is (passed_address fs (params_passed ls2 front given)) source;
        target = to_room gs lift_flat lift core core ls2 at rooms.to lift_flat_is (area_address gs s) (area_room gs s);
      } in
      let moved = (k.moves.moves o o' rooms used params_using params_fit).effect ls2 (passed_from fs front) (passed_to gs at) held2
      (stands_passed M p locals kept o lower a.lower.params h.lower.wide k.lower_size fs lower_flat params front lower_flat_is given (params_passed ls2 front given))
      (goes_core gs lift_flat M p o' lift a.lift.params core at h.lift.wide k.lift_size lift_flat_is held2 core_types r.core_typed r.core_unused s) roomy in
      finishes gs lift_flat o' lift core at h.lift.wide lift_flat_is core_types s
      (subst (λ tr. Does M p Onward 0 0 [] ls2 k.move (move_fields tr (tuple_members a.lower.params) (tuple_members a.lift.params) 0 (passed_from fs front) (passed_to gs at)) (λ vs. []) (λ vs ls'. Stood ls' (tuple_to lift lift_flat core core) vs × KeepsLocals used ls2 ls'))
      params_transfer_is (within (omega arith) (unvisited {n = 1} moved))) in
      let all = in_turn (passes fs lower_flat o lower a.lower.params (last_local params) (first_bits front) lower_flat_is h.lower.wide k.lower_size r.inside held (params_passed ls front parts.in_front) k.checks_lower) (λ (no : List CoreValue) ls1 one.
      in_turn (asks_tuple u.concurrency gs lift_flat {ls = ls1} o' lift a.lift.params core lift_flat_is h.lift.wide k.lift_size r.inside (one.0.types ∙ held) is_asked core_types r.core_typed r.core_unused asks_lift) (λ at ls2 s.
      weaker (λ vs. refl) (λ vs ls' x. (x.0, keeps_then one.0 (keeps_then (area_keeps gs s) x.1))) (last at ls1 ls2 one.0 one.1 s))) in
      let is : (passed fs o a.lower.params (first_bits front) (Give []) >>= (λ (no : List CoreValue). asked u.concurrency gs o' a.lift.params (λ at. Give at) >>= (λ at. finished gs o' at (q at)))) ≡ move_params u a args =
      passed_binds fs o a.lower.params (first_bits front) (Give []) (λ (no : List CoreValue). asked u.concurrency gs o' a.lift.params (λ at. Give at) >>= (λ at. finished gs o' at (q at)))
      ∙ ap (passed fs o a.lower.params (first_bits front)) (asked_binds u.concurrency gs o' a.lift.params (λ at. Give at) (λ at. finished gs o' at (q at)))
      ∙ (λ i. passed fs o a.lower.params (first_bits front) (asked u.concurrency gs o' a.lift.params (λ at. finished gs o' at (sym (source_is ls front parts.rest parts.in_front parts.long (passed_to gs at)) i))))
      ∙ pointer_is ls front parts.rest (asked u.concurrency gs o' a.lift.params (λ at. finished gs o' at (fields u a (passed_from fs (front ++ parts.rest)) (passed_to gs at)))) parts.in_front
      ∙ sym (params_by u a (front ++ parts.rest) fs gs r.lower_is r.lift_is) ∙ ap (move_params u a) (sym parts.all) in
      subst (λ q. Does M p Onward 384 0 [] ls code q (λ vs. []) (λ vs ls'. AreHeld ls' core vs × KeepsLocals kept ls ls')) is
      (subst (λ c. Does M p Onward 384 0 [] ls c (passed fs o a.lower.params (first_bits front) (Give []) >>= (λ (no : List CoreValue). asked u.concurrency gs o' a.lift.params (λ at. Give at) >>= (λ at. finished gs o' at (q at)))) (λ vs. []) (λ vs ls'. AreHeld ls' core vs × KeepsLocals kept ls ls')) (sym k.is)
      (within {extra = 100} {spare = 0} (omega arith) all))
