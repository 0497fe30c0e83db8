-- Results are moved behind the checks of the areas that they are passed through.
use Rattle.std.proofs.Common.{◌≡◌, ℕ, ◌+◌, ◌^◌, ◌<◌, ◌≤◌, Bool, true, false, List, [], ◌++◌, Option, Some, None, refl, sym, ap, ◌∙◌, subst, arith, slice_get}
use Rattle.std.specs.Prelude.{is_some}
use Rattle.fact_wasm.specs.declared.types.ValType.{ValType}
use Rattle.fact_wasm.specs.declared.instr.Instr.{Instr}
use Rattle.fact_wasm.specs.declared.module.WasmModule.{WasmModule}
use Rattle.fact_types.specs.Adapters.{LinkedAdapter, Side, is_wide}
use Rattle.fact_types.specs.FlatShapes.{flat_members}
use Rattle.fact_types.specs.Shapes.{Shape}
use Rattle.fact_types.specs.Signatures.{width, flat_values, lift_results_limit}
use Rattle.fact_types.specs.Tables.{Tables}
use Rattle.fact_types.specs.Tuples.{tuple_members, tuple_of}
use Rattle.fact_types.specs.declared.outside.Trap.TheVariants.{MemoryOutOfBounds}
use Rattle.fact_machine.specs.declared.types.CoreValue.{CoreValue}
use Rattle.fact_machine.specs.Typing.{address_bits, address_type, address_operand}
use Rattle.fact_actions.specs.Actions.{Action, Give, ◌>>=◌}
use Rattle.fact_actions.specs.Adapters.{AdapterTunables, results_transfer, check_tuple, from_values, into_results, flat_results, move_results}
use Rattle.fact_actions.specs.Moves.{move_fields}
use Rattle.fact_actions.specs.Running.{ImportPlaces}
use Rattle.fact_actions.specs.Sides.{LiftLowerOptions, Source, Values, Slots, AtAddress, Into, Target, options_of, first_bits, check_region}
use Rattle.fact_code_laws.specs.Does.{Locals, Onward, held_types, Does}
use Rattle.fact_code_laws.specs.Places.{Slot, AreHeld, AreLocals, AreUsed, KeepsLocals, InRooms, Rooms, Setting, transfer, is_on, StandsAt, MayGo, Stood}
use Rattle.fact_code_laws.proofs.Keeping.{keeps_all, keeps_then, held_kept}
use Rattle.fact_code_laws.specs.Typed.{OnStack, IsTyped}
use Rattle.fact_code_laws.proofs.TypingLaws.{typed_done, typed_then}
use Rattle.fact_code_laws.proofs.Blocks.{weaker}
use Rattle.fact_code_laws.proofs.Rules.{within, in_turn, done}
use Rattle.fact_emit.specs.Areas.{IsLinearMemoryOf}
use Rattle.fact_emit.specs.Fitting.{CanRead, CanWrite, MovesTuple, FitsShapes, AddressFits}
use Rattle.fact_emit.specs.Places.{checks_at, setting_of, Using}
use Rattle.fact_emit.specs.declared.places.LinearMemory.{LinearMemory}
use Rattle.fact_types.proofs.PlaceLaws.{sound_in}
use Rattle.fact_compound.specs.Described.{DescribesTransfers, HasListsOf, linear_of}
use Rattle.fact_compound.specs.Passed.{results_sides}
use Rattle.fact_compound.specs.Passing.{last_local, tuple_from, tuple_to, tuple_size, tuple_align, ChecksTuple}
use Rattle.fact_compound.specs.declared.adapters.AdapterData.{AdapterData}
use Rattle.fact_compound.proofs.Flats.{AreFlat, given_flat, lowered_flat}
use Rattle.fact_compound.proofs.Slots.{slots_free, flats_fit}
use Rattle.fact_compound.proofs.StepRules.{unvisited, region_binds}
use Rattle.fact_compound.proofs.SyncSteps.{slot_types, AreUnused}
use Rattle.fact_compound.proofs.TupleRooms.{AddressBy, HasArea, from_room, from_within, to_room, to_within, tuple_rooms}

-- debug checks are on where they are said to be
pub checks_on : (debug : Bool) (p : ImportPlaces) → is_on (checks_at debug p) ≡ debug
checks_on false p = refl
checks_on true p = refl

-- ---- the action

-- the check of values that are not flat
abbrev pub passed : {A : Type 0} → Option (List ValType) → LiftLowerOptions → List Shape → (pointer : ℕ) → Action A → Action A
passed (Some flats) o ts pointer q = q
passed None o ts pointer q = check_tuple o ts pointer q

abbrev pub passed_from : Option (List ValType) → List CoreValue → Source
passed_from (Some flats) vs = Values vs
passed_from None vs = AtAddress (first_bits vs)

abbrev pub passed_to : Option (List ValType) → (pointer : ℕ) → Target
passed_to (Some flats) pointer = Slots flats
passed_to None pointer = Into pointer

pub passed_binds : {A B : Type 0} (flats : Option (List ValType)) (o : LiftLowerOptions) (ts : List Shape) (pointer : ℕ) (q : Action A) (f : A → Action B) → (passed flats o ts pointer q >>= f) ≡ passed flats o ts pointer (q >>= f)
passed_binds (Some flats) o ts pointer q f = refl
passed_binds None o ts pointer q f = region_binds o MemoryOutOfBounds pointer _ _ q f

module _ (u : AdapterTunables) (a : LinkedAdapter) where
  abbrev pub fields : Source → Target → Action (List CoreValue)
  fields s d = move_fields (results_transfer u a) (tuple_members a.lift.results) (tuple_members a.lower.results) 0 s d

  pub from_is : (o : LiftLowerOptions) (limit : ℕ) (ts : List Shape) (vs : List CoreValue) (k : Source → Action (List CoreValue)) (flats : Option (List ValType)) → flat_values (is_wide o.memory) limit ts ≡ flats
      → from_values o limit ts vs k ≡ passed flats o ts (first_bits vs) (k (passed_from flats vs))
  from_is o limit ts vs k flats e = ap by_flats e ∙ go flats
    where
      by_flats : Option (List ValType) → Action (List CoreValue)
      by_flats x = elim x as (λ (x : Option (List ValType)). Action (List CoreValue)) [ Some flats ↦ k (Values vs) | None ↦ check_tuple o ts (first_bits vs) (k (AtAddress (first_bits vs))) ]

      go : (x : Option (List ValType)) → by_flats x ≡ passed x o ts (first_bits vs) (k (passed_from x vs))
      go (Some fs) = refl
      go None = refl

  into_is : (s : Side) (pointer : ℕ) (k : Target → Action (List CoreValue)) (flats : Option (List ValType)) → flat_results s ≡ flats → into_results s pointer k ≡ passed flats (options_of s) s.results pointer (k (passed_to flats pointer))
  into_is s pointer k flats e = ap by_flats e ∙ go flats
    where
      by_flats : Option (List ValType) → Action (List CoreValue)
      by_flats x = elim x as (λ (x : Option (List ValType)). Action (List CoreValue)) [ Some flats ↦ k (Slots flats) | None ↦ check_tuple (options_of s) s.results pointer (k (Into pointer)) ]

      go : (x : Option (List ValType)) → by_flats x ≡ passed x (options_of s) s.results pointer (k (passed_to x pointer))
      go (Some fs) = refl
      go None = refl

  pub results_are : (given : List CoreValue) (pointer : ℕ) (fs gs : Option (List ValType)) → flat_values (is_wide a.lift.memory) (lift_results_limit a.lift.async_side) a.lift.results ≡ fs → flat_results a.lower ≡ gs
      → move_results u a given pointer ≡ passed fs (options_of a.lift) a.lift.results (first_bits given) (passed gs (options_of a.lower) a.lower.results pointer (fields (passed_from fs given) (passed_to gs pointer)))
  results_are given pointer fs gs e f =
      from_is (options_of a.lift) (lift_results_limit a.lift.async_side) a.lift.results given (λ s. into_results a.lower pointer (λ d. fields s d)) fs e
      ∙ ap (λ q. passed fs (options_of a.lift) a.lift.results (first_bits given) q) (into_is a.lower pointer (λ d. fields (passed_from fs given) d) gs f)

-- ---- the checks

-- a local that is kept holds an address
pub record Pointed (memory64 : Bool) (locals : List ValType) (kept : ℕ → Bool) (ls : Locals) (address at : ℕ) : Type 0 where
  pub local : slice_get locals address ≡ Some (address_type memory64)
  pub used : kept address ≡ true
  pub there : slice_get ls address ≡ Some (Some (address_operand memory64 at))
  pub below : at < 2 ^ address_bits memory64

pub pointed_kept : {memory64 : Bool} {locals : List ValType} {kept : ℕ → Bool} {ls ls' : Locals} {address at : ℕ} → KeepsLocals kept ls ls' → Pointed memory64 locals kept ls address at → Pointed memory64 locals kept ls' address at
pointed_kept {address = address} k x = record { local = x.local; used = x.used; there = k.same address x.used ∙ x.there; below = x.below }

-- what is asked where results go through memory
abbrev pub PassedBy : Option (List ValType) → WasmModule → ImportPlaces → LiftLowerOptions → LinearMemory → List ValType → (ℕ → Bool) → Locals → (address at : ℕ) → Type 0
PassedBy (Some flats) M p o m locals kept ls address at = Unit {0}
PassedBy None M p o m locals kept ls address at = IsLinearMemoryOf M p o m × Pointed m.memory64 locals kept ls address at

pub record IsPassed (flats : Option (List ValType)) (M : WasmModule) (p : ImportPlaces) (o : LiftLowerOptions) (m : LinearMemory) (locals : List ValType) (kept : ℕ → Bool) (ls : Locals) (address at : ℕ) : Type 0 where
  pub by : PassedBy flats M p o m locals kept ls address at

-- what of this is known when the code is written
abbrev pub ReachedBy : Option (List ValType) → WasmModule → ImportPlaces → LiftLowerOptions → LinearMemory → List ValType → (address : ℕ) → Type 0
ReachedBy (Some flats) M p o m locals address = Unit {0}
ReachedBy None M p o m locals address = IsLinearMemoryOf M p o m × (slice_get locals address ≡ Some (address_type m.memory64))

pub record IsReached (flats : Option (List ValType)) (M : WasmModule) (p : ImportPlaces) (o : LiftLowerOptions) (m : LinearMemory) (locals : List ValType) (address : ℕ) : Type 0 where
  pub by : ReachedBy flats M p o m locals address

pub passed_reached : (flats : Option (List ValType)) {M : WasmModule} {p : ImportPlaces} {o : LiftLowerOptions} {m : LinearMemory} {locals : List ValType} {kept : ℕ → Bool} {ls : Locals} {address at : ℕ} → IsPassed flats M p o m locals kept ls address at → IsReached flats M p o m locals address
passed_reached (Some flats) x = record { by = tt }
passed_reached None x = record { by = (x.by.0, x.by.1.local) }

pub passed_kept : (flats : Option (List ValType)) {M : WasmModule} {p : ImportPlaces} {o : LiftLowerOptions} {m : LinearMemory} {locals : List ValType} {kept : ℕ → Bool} {ls ls' : Locals} {address at : ℕ} → KeepsLocals kept ls ls'
    → IsPassed flats M p o m locals kept ls address at → IsPassed flats M p o m locals kept ls' address at
passed_kept (Some flats) k x = record { by = tt }
passed_kept None k x = record { by = (x.by.0, pointed_kept k x.by.1) }

-- its address is in its local
pub passed_address : (flats : Option (List ValType)) {M : WasmModule} {p : ImportPlaces} {o : LiftLowerOptions} {m : LinearMemory} {locals : List ValType} {kept : ℕ → Bool} {ls : Locals} {address at : ℕ} → IsPassed flats M p o m locals kept ls address at → AddressBy flats ls m.memory64 address at
passed_address (Some flats) x = tt
passed_address None x = x.by.1.there

-- the code of the check does it, and behind it the area has addresses
pub passes : (flats : Option (List ValType)) (flat : Bool) {M : WasmModule} {p : ImportPlaces} {locals : List ValType} {taken kept : ℕ → Bool} {code : List Instr} {ls : Locals} (o : LiftLowerOptions) (m : LinearMemory) (ts : List Shape) (address at : ℕ)
    → flat ≡ is_some flats → is_wide o.memory ≡ m.memory64 → tuple_size m.memory64 ts ≤ 4294967295 → ((i : ℕ) → kept i ≡ true → taken i ≡ true) → held_types ls ≡ locals → IsPassed flats M p o m locals kept ls address at
    → ChecksTuple m taken flat address (tuple_size m.memory64 ts) (tuple_align m.memory64 ts) M p locals code
    → Does M p Onward 40 0 [] ls code (passed flats o ts at (Give [])) (λ (vs : List CoreValue). []) (λ vs ls'. KeepsLocals kept ls ls' × HasArea flats m.memory64 at (tuple_size m.memory64 ts))
passes (Some flats) false o m ts address at f wide few inside held h c = absurd (let no : false ≡ true = f in cc)
passes None true o m ts address at f wide few inside held h c = absurd (let no : true ≡ false = f in cc)
passes (Some flats) true {M} {p} {kept = kept} {ls = ls} o m ts address at f wide few inside held h c =
    subst (λ x. Does M p Onward 40 0 [] ls x (Give []) (λ (vs : List CoreValue). []) (λ vs ls'. KeepsLocals kept ls ls' × HasArea (Some flats) m.memory64 at (tuple_size m.memory64 ts))) (sym c) (within (omega arith) (done refl (keeps_all, record { by = tt })))
passes None false {M} {p} {kept = kept} {code} {ls} o m ts address at f wide few inside held h c =
    let checked = c.does o kept ls at h.by.0 inside (sound_in (width m.memory64) (tuple_of ts)).power (omega (arith, few)) h.by.1.below held h.by.1.there in
    weaker (λ vs. refl) (λ vs ls' x. (x.0, record { by = x.1 }))
    (subst (λ (b : Bool). Does M p Onward 40 0 [] ls code (check_region o MemoryOutOfBounds at (tuple_size b ts) (tuple_align b ts) (Give [])) (λ (vs : List CoreValue). []) (λ vs ls'. KeepsLocals kept ls ls' × (at + tuple_size m.memory64 ts ≤ 2 ^ address_bits m.memory64))) (sym wide) checked)

-- the code of the check is typed
pub passes_typed : (flats : Option (List ValType)) (flat : Bool) {M : WasmModule} {p : ImportPlaces} {locals : List ValType} {code : List Instr} (taken : ℕ → Bool) (o : LiftLowerOptions) (m : LinearMemory) (address size align : ℕ)
    → flat ≡ is_some flats → IsReached flats M p o m locals address → ChecksTuple m taken flat address size align M p locals code → IsTyped M locals [] code [] (OnStack [])
passes_typed (Some flats) false taken o m address size align f h c = absurd (let no : false ≡ true = f in cc)
passes_typed None true taken o m address size align f h c = absurd (let no : true ≡ false = f in cc)
passes_typed (Some flats) true {M} {locals = locals} taken o m address size align f h c = subst (λ x. IsTyped M locals [] x [] (OnStack [])) (sym c) typed_done
passes_typed None false taken o m address size align f h c = c.typed o h.by.0 h.by.1

-- ---- the places

module _ (M : WasmModule) (p : ImportPlaces) (locals : List ValType) (kept : ℕ → Bool) (o : LiftLowerOptions) (m : LinearMemory) (ts : List Shape) (wide : is_wide o.memory ≡ m.memory64) (few : tuple_size m.memory64 ts ≤ 4294967295) where
  -- the area has offsets
  reached : (address : ℕ) → IsLinearMemoryOf M p o m × (slice_get locals address ≡ Some (address_type m.memory64)) → AddressFits M p locals o m.memory64 m.memory address 0 (tuple_size (is_wide o.memory) ts)
  reached address h =
      let same : tuple_size (is_wide o.memory) ts ≡ tuple_size m.memory64 ts = ap (λ b. tuple_size b ts) wide in
      record { side = h.0.side; local = h.1; reach = omega (arith, same, few) }

  pub reads_passed : (flats : Option (List ValType)) (flat : Bool) (given : List Slot) → flat ≡ is_some flats → ((fs : List ValType) → flats ≡ Some fs → AreFlat (is_wide o.memory) 16 ts fs) → ((fs : List ValType) → flats ≡ Some fs → slot_types given ≡ fs) → AreLocals locals given
      → IsReached flats M p o m locals (last_local given) → CanRead M p locals o m.memory64 (tuple_from m flat given) (flat_members (width (is_wide o.memory)) (tuple_members ts)) (tuple_size (is_wide o.memory) ts)
  reads_passed (Some fs) false given f e types l h = absurd (let no : false ≡ true = f in cc)
  reads_passed None true given f e types l h = absurd (let no : true ≡ false = f in cc)
  reads_passed (Some fs) true given f e types l h =
      let one = e fs refl in
      flats_fit locals given (flat_members (width (is_wide o.memory)) (tuple_members ts)) (types fs refl ∙ one.are) l one.few
  reads_passed None false given f e types l h = reached (last_local given) h.by

  pub writes_passed : (flats : Option (List ValType)) (flat : Bool) (results args : List Slot) → flat ≡ is_some flats → ((fs : List ValType) → flats ≡ Some fs → AreFlat (is_wide o.memory) 16 ts fs) → ((fs : List ValType) → flats ≡ Some fs → slot_types results ≡ fs) → AreLocals locals results
      → IsReached flats M p o m locals (last_local args) → CanWrite M p locals o m.memory64 (tuple_to m flat results args) (flat_members (width (is_wide o.memory)) (tuple_members ts)) (tuple_size (is_wide o.memory) ts)
  writes_passed (Some fs) false results args f e types l h = absurd (let no : false ≡ true = f in cc)
  writes_passed None true results args f e types l h = absurd (let no : true ≡ false = f in cc)
  writes_passed (Some fs) true results args f e types l h =
      let one = e fs refl in
      flats_fit locals results (flat_members (width (is_wide o.memory)) (tuple_members ts)) (types fs refl ∙ one.are) l one.few
  writes_passed None false results args f e types l h = reached (last_local args) h.by

  pub stands_passed : (flats : Option (List ValType)) (flat : Bool) (given : List Slot) (vs : List CoreValue) {ls : Locals} → flat ≡ is_some flats → AreHeld ls given vs → IsPassed flats M p o m locals kept ls (last_local given) (first_bits vs)
      → StandsAt ls m.memory64 (tuple_from m flat given) (passed_from flats vs)
  stands_passed (Some fs) false given vs f g h = absurd (let no : false ≡ true = f in cc)
  stands_passed None true given vs f g h = absurd (let no : true ≡ false = f in cc)
  stands_passed (Some fs) true given vs f g h = g
  stands_passed None false given vs f g h = record { start = first_bits vs; there = h.by.1.there; is = omega arith }

  pub goes_passed : (flats : Option (List ValType)) (flat : Bool) (results args : List Slot) (at : ℕ) {ls : Locals} → flat ≡ is_some flats → held_types ls ≡ locals → ((fs : List ValType) → flats ≡ Some fs → slot_types results ≡ fs) → AreLocals locals results → AreUnused kept results
      → IsPassed flats M p o m locals kept ls (last_local args) at → MayGo kept ls m.memory64 (tuple_to m flat results args) (passed_to flats at)
  goes_passed (Some fs) false results args at f e types l un h = absurd (let no : false ≡ true = f in cc)
  goes_passed None true results args at f e types l un h = absurd (let no : true ≡ false = f in cc)
  goes_passed (Some fs) true results args at {ls} f e types l un h = slots_free kept ls results fs (types fs refl) (subst (λ ts. AreLocals ts results) (sym e) l) un
  goes_passed None false results args at f e types l un h = record { start = at; there = h.by.1.there; is = omega arith }

-- what the results are, in their locals
pub stood_passed : (flats : Option (List ValType)) (flat : Bool) (m : LinearMemory) (results args : List Slot) (vs : List CoreValue) (ls : Locals) → flat ≡ is_some flats → (flats ≡ None → results ≡ []) → Stood ls (tuple_to m flat results args) vs → AreHeld ls results vs
stood_passed (Some fs) false m results args vs ls f none h = absurd (let no : false ≡ true = f in cc)
stood_passed None true m results args vs ls f none h = absurd (let no : true ≡ false = f in cc)
stood_passed (Some fs) true m results args vs ls f none h = h
stood_passed None false m results args vs ls f none h =
    subst (λ ss. AreHeld ls ss vs) (sym (none refl)) (subst (λ vs. AreHeld ls [] vs) (sym h) tt)

-- ---- the results

-- The locals of results: those of the callee's results are kept, and the adapter's own results are not.
pub record ResultLocals (a : LinkedAdapter) (fs gs : Option (List ValType)) (given results : List Slot) (locals : List ValType) (kept : ℕ → Bool) : Type 0 where
  pub lift_is : flat_values (is_wide a.lift.memory) (lift_results_limit a.lift.async_side) a.lift.results ≡ fs
  pub lower_is : flat_results a.lower ≡ gs
  pub given_types : (ts : List ValType) → fs ≡ Some ts → slot_types given ≡ ts
  pub results_types : (ts : List ValType) → gs ≡ Some ts → slot_types results ≡ ts
  pub no_results : gs ≡ None → results ≡ []
  pub given_typed : AreLocals locals given
  pub results_typed : AreLocals locals results
  pub results_unused : AreUnused kept results

module _ {t : Tables} {d : AdapterData} {debug concurrency : Bool} {u : AdapterTunables} {a : LinkedAdapter} (h : DescribesTransfers t d debug u a) (same : concurrency ≡ u.concurrency) where
  abbrev rooms : Rooms
  rooms = tuple_rooms (linear_of d.lift) (linear_of d.lower) a.lift.results a.lower.results

  abbrev setting : WasmModule → ImportPlaces → List ValType → Setting
  setting M p locals = setting_of (results_sides d debug concurrency) (options_of a.lift) (options_of a.lower) rooms M p locals

  results_transfer_is : (M : WasmModule) (p : ImportPlaces) (locals : List ValType) → transfer (setting M p locals) ≡ results_transfer u a
  results_transfer_is M p locals = λ i. record { from = options_of a.lift; to = options_of a.lower; concurrency = same i; debug = (checks_on debug p ∙ sym h.same_debug) i }

  -- the places fit
  results_fit : {M : WasmModule} {p : ImportPlaces} {locals : List ValType} (kept : ℕ → Bool) (fs gs : Option (List ValType)) (lift_flat lower_flat : Bool) (given results args : List Slot)
      → lift_flat ≡ is_some fs → lower_flat ≡ is_some gs → ResultLocals a fs gs given results locals kept → tuple_size (linear_of d.lift).memory64 a.lift.results ≤ 4294967295 → tuple_size (linear_of d.lower).memory64 a.lower.results ≤ 4294967295
      → IsReached fs M p (options_of a.lift) (linear_of d.lift) locals (last_local given) → IsReached gs M p (options_of a.lower) (linear_of d.lower) locals (last_local args)
      → HasListsOf M p (linear_of d.lift) (linear_of d.lower) (options_of a.lift) (options_of a.lower) a.lift.results
      → FitsShapes (results_sides d debug concurrency) (setting M p locals) (tuple_of a.lift.results) (tuple_of a.lower.results) (tuple_from (linear_of d.lift) lift_flat given) (tuple_to (linear_of d.lower) lower_flat results args)
  results_fit {M} {p} {locals} kept fs gs lift_flat lower_flat given results args lf wf r few few' from to lists = record {
    from_wide = h.lift.wide;
    to_wide = h.lower.wide;
    reads = reads_passed M p locals kept (options_of a.lift) (linear_of d.lift) a.lift.results h.lift.wide few fs lift_flat given lf (λ ts e. given_flat (is_wide a.lift.memory) a.lift.async_side a.lift.results ts (r.lift_is ∙ e)) r.given_types r.given_typed from;
    writes = writes_passed M p locals kept (options_of a.lower) (linear_of d.lower) a.lower.results h.lower.wide few' gs lower_flat results args wf (λ ts e. lowered_flat (is_wide a.lower.memory) a.lower.async_side a.lower.results ts (r.lower_is ∙ e)) r.results_types r.results_typed to;
    within = record {
      source = from_within (linear_of d.lift) (is_wide a.lift.memory) a.lift.results lift_flat given h.lift.wide;
      target = to_within (linear_of d.lower) (is_wide a.lower.memory) a.lower.results lower_flat results args h.lower.wide;
    };
    lists = lists;
  }

  -- The code of the checks and of the move is typed.
  pub results_typed : {M : WasmModule} {p : ImportPlaces} {locals : List ValType} {taken kept : ℕ → Bool} (c1 c2 c3 : List Instr) (fs gs : Option (List ValType)) (lift_flat lower_flat : Bool) (given results args : List Slot)
      → lift_flat ≡ is_some fs → lower_flat ≡ is_some gs → ResultLocals a fs gs given results locals kept → tuple_size (linear_of d.lift).memory64 a.lift.results ≤ 4294967295 → tuple_size (linear_of d.lower).memory64 a.lower.results ≤ 4294967295
      → ChecksTuple (linear_of d.lift) taken lift_flat (last_local given) (tuple_size (linear_of d.lift).memory64 a.lift.results) (tuple_align (linear_of d.lift).memory64 a.lift.results) M p locals c1
      → ChecksTuple (linear_of d.lower) taken lower_flat (last_local args) (tuple_size (linear_of d.lower).memory64 a.lower.results) (tuple_align (linear_of d.lower).memory64 a.lower.results) M p locals c2
      → MovesTuple (results_sides d debug concurrency) (tuple_from (linear_of d.lift) lift_flat given) (tuple_to (linear_of d.lower) lower_flat results args) taken (tuple_of a.lift.results) (tuple_of a.lower.results) M p locals c3
      → Using taken kept (tuple_from (linear_of d.lift) lift_flat given) (tuple_to (linear_of d.lower) lower_flat results args)
      → IsReached fs M p (options_of a.lift) (linear_of d.lift) locals (last_local given) → IsReached gs M p (options_of a.lower) (linear_of d.lower) locals (last_local args)
      → HasListsOf M p (linear_of d.lift) (linear_of d.lower) (options_of a.lift) (options_of a.lower) a.lift.results → IsTyped M locals [] (c1 ++ (c2 ++ c3)) [] (OnStack [])
  results_typed {M} {p} {locals} {taken} {kept} c1 c2 c3 fs gs lift_flat lower_flat given results args lf wf r few few' x y z using from to lists =
      typed_then (passes_typed fs lift_flat taken (options_of a.lift) (linear_of d.lift) (last_local given) (tuple_size (linear_of d.lift).memory64 a.lift.results) (tuple_align (linear_of d.lift).memory64 a.lift.results) lf from x)
      (typed_then (passes_typed gs lower_flat taken (options_of a.lower) (linear_of d.lower) (last_local args) (tuple_size (linear_of d.lower).memory64 a.lower.results) (tuple_align (linear_of d.lower).memory64 a.lower.results) wf to y)
      (z.moves (options_of a.lift) (options_of a.lower) rooms kept using (results_fit {M = M} {p = p} {locals = locals} kept fs gs lift_flat lower_flat given results args lf wf r few few' from to lists)).typed)

  -- Both areas are checked, the callee's first, and then the members are moved.
  pub results_moved : {M : WasmModule} {p : ImportPlaces} {locals : List ValType} {taken kept : ℕ → Bool} (c1 c2 c3 : List Instr) (fs gs : Option (List ValType)) (lift_flat lower_flat : Bool) (given results args : List Slot)
      → lift_flat ≡ is_some fs → lower_flat ≡ is_some gs → ResultLocals a fs gs given results locals kept → tuple_size (linear_of d.lift).memory64 a.lift.results ≤ 4294967295 → tuple_size (linear_of d.lower).memory64 a.lower.results ≤ 4294967295
      → ChecksTuple (linear_of d.lift) taken lift_flat (last_local given) (tuple_size (linear_of d.lift).memory64 a.lift.results) (tuple_align (linear_of d.lift).memory64 a.lift.results) M p locals c1
      → ChecksTuple (linear_of d.lower) taken lower_flat (last_local args) (tuple_size (linear_of d.lower).memory64 a.lower.results) (tuple_align (linear_of d.lower).memory64 a.lower.results) M p locals c2
      → MovesTuple (results_sides d debug concurrency) (tuple_from (linear_of d.lift) lift_flat given) (tuple_to (linear_of d.lower) lower_flat results args) taken (tuple_of a.lift.results) (tuple_of a.lower.results) M p locals c3
      → Using taken kept (tuple_from (linear_of d.lift) lift_flat given) (tuple_to (linear_of d.lower) lower_flat results args) → HasListsOf M p (linear_of d.lift) (linear_of d.lower) (options_of a.lift) (options_of a.lower) a.lift.results
      → (ls : Locals) (vs : List CoreValue) (pointer : ℕ) → held_types ls ≡ locals → AreUsed kept given → AreHeld ls given vs
      → IsPassed fs M p (options_of a.lift) (linear_of d.lift) locals kept ls (last_local given) (first_bits vs) → IsPassed gs M p (options_of a.lower) (linear_of d.lower) locals kept ls (last_local args) pointer
      → Does M p Onward 464 0 [] ls (c1 ++ (c2 ++ c3)) (move_results u a vs pointer) (λ vs. []) (λ vs ls'. AreHeld ls' results vs × KeepsLocals kept ls ls')
  results_moved {M} {p} {locals} {taken} {kept} c1 c2 c3 fs gs lift_flat lower_flat given results args lf wf r few few' x y z using lists ls vs pointer held used g from to =
      let inside = using.within in
      let lift64 : Bool = (linear_of d.lift).memory64 in
      let lower64 : Bool = (linear_of d.lower).memory64 in
      let last : (ls2 : Locals) → KeepsLocals kept ls ls2 → HasArea fs lift64 (first_bits vs) rooms.from → HasArea gs lower64 pointer rooms.to
      → Does M p Onward 384 0 [] ls2 c3 (move_fields (results_transfer u a) (tuple_members a.lift.results) (tuple_members a.lower.results) 0 (passed_from fs vs) (passed_to gs pointer)) (λ vs. []) (λ vs ls'. AreHeld ls' results vs × KeepsLocals kept ls ls') = λ ls2 k source target.
      let from2 = passed_kept fs k from in
      let to2 = passed_kept gs k to in
      let fits = results_fit {M = M} {p = p} {locals = locals} kept fs gs lift_flat lower_flat given results args lf wf r few few' (passed_reached fs from2) (passed_reached gs to2) lists in
      let roomy : InRooms (setting M p locals) ls2 (tuple_from (linear_of d.lift) lift_flat given) (tuple_to (linear_of d.lower) lower_flat results args) = record {
        source = from_room fs lift_flat (linear_of d.lift) given ls2 (first_bits vs) rooms.from lf (passed_address fs from2) source;
        target = to_room gs lower_flat (linear_of d.lower) results args ls2 pointer rooms.to wf (passed_address gs to2) target;
      } in
      let moved = (z.moves (options_of a.lift) (options_of a.lower) rooms kept using fits).effect ls2 (passed_from fs vs) (passed_to gs pointer) (k.types ∙ held)
      (stands_passed M p locals kept (options_of a.lift) (linear_of d.lift) a.lift.results h.lift.wide few fs lift_flat given vs lf (held_kept k given vs used g) from2)
      (goes_passed M p locals kept (options_of a.lower) (linear_of d.lower) a.lower.results h.lower.wide few' gs lower_flat results args pointer wf (k.types ∙ held) r.results_types r.results_typed r.results_unused to2) roomy in
      weaker (λ vs. refl) (λ us ls' s. (stood_passed gs lower_flat (linear_of d.lower) results args us ls' wf r.no_results s.0, keeps_then k s.1))
      (subst (λ tr. Does M p Onward 384 0 [] ls2 c3 (move_fields tr (tuple_members a.lift.results) (tuple_members a.lower.results) 0 (passed_from fs vs) (passed_to gs pointer)) (λ vs. [])
      (λ us ls'. Stood ls' (tuple_to (linear_of d.lower) lower_flat results args) us × KeepsLocals kept ls2 ls')) (results_transfer_is M p locals) (within (omega arith) (unvisited {n = 1} moved))) in
      let q = fields u a (passed_from fs vs) (passed_to gs pointer) in
      let all = in_turn (passes fs lift_flat (options_of a.lift) (linear_of d.lift) a.lift.results (last_local given) (first_bits vs) lf h.lift.wide few inside held from x) (λ (no : List CoreValue) ls1 one.
      in_turn (passes gs lower_flat (options_of a.lower) (linear_of d.lower) a.lower.results (last_local args) pointer wf h.lower.wide few' inside (one.0.types ∙ held) (passed_kept gs one.0 to) y) (λ (no : List CoreValue) ls2 two. last ls2 (keeps_then one.0 two.0) one.1 two.1)) in
      let is : (passed fs (options_of a.lift) a.lift.results (first_bits vs) (Give []) >>= (λ no. passed gs (options_of a.lower) a.lower.results pointer (Give []) >>= (λ no. q))) ≡ move_results u a vs pointer =
      passed_binds fs (options_of a.lift) a.lift.results (first_bits vs) (Give []) (λ no. passed gs (options_of a.lower) a.lower.results pointer (Give []) >>= (λ no. q))
      ∙ ap (λ q. passed fs (options_of a.lift) a.lift.results (first_bits vs) q) (passed_binds gs (options_of a.lower) a.lower.results pointer (Give []) (λ no. q))
      ∙ sym (results_are u a vs pointer fs gs r.lift_is r.lower_is) in
      subst (λ q. Does M p Onward 464 0 [] ls (c1 ++ (c2 ++ c3)) q (λ vs. []) (λ vs ls'. AreHeld ls' results vs × KeepsLocals kept ls ls')) is (within (omega arith) all)
