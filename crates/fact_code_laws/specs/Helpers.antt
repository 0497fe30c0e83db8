-- The code of a call of a helper: values get to it and come back, whatever the types of the locals are that hold them.
use Rattle.std.specs.Prelude.{◌≡◌, ℕ, zero, suc, ◌+◌, ◌^◌, ◌≤◌, Bool, true, List, [], ◌∷◌, ◌++◌, Some, length, map, reverse, slice_get}
use Rattle.std.specs.List.{AllByRecursion, AllZip}
use Rattle.fact_wasm.specs.declared.types.ValType.{ValType}
use Rattle.fact_wasm.specs.declared.types.ValType.TheVariants as val
use Rattle.fact_wasm.specs.declared.instr.FuncName.TheVariants as defined
use Rattle.fact_wasm.specs.declared.instr.Instr.{Instr}
use Rattle.fact_wasm.specs.declared.instr.Instr.TheVariants as I
use Rattle.fact_wasm.specs.declared.module.WasmFunc.{WasmFunc}
use Rattle.fact_wasm.specs.declared.module.WasmModule.{WasmModule}
use Rattle.fact_machine.specs.declared.types.CoreValue.{CoreValue}
use Rattle.fact_machine.specs.Exits.{entry_locals}
use Rattle.fact_machine.specs.Typed.{is_value}
use Rattle.fact_types.specs.FlatShapes.{flat}
use Rattle.fact_types.specs.Shapes.{Shape}
use Rattle.fact_machine.specs.Typing.{is_number, address_bits, address_operand, address_type}
use Rattle.fact_actions.specs.Actions.{Action}
use Rattle.fact_actions.specs.Alike.{as_i64, source_as_i64, CanFill}
use Rattle.fact_actions.specs.Moves.{move}
use Rattle.fact_actions.specs.Running.{ImportPlaces}
use Rattle.fact_actions.specs.Sides.{Source, Values, AtAddress, Target, Slots, Into, width_of_side}
use Rattle.fact_code_laws.specs.Does.{Locals, held_types, Onward, Does}
use Rattle.fact_code_laws.specs.Lists.{const_code, add_code}
use Rattle.fact_code_laws.specs.Places.{Slot, From, InLocals, InMemory, To, ToLocals, ToMemory, AreDistinctSlots, AreLocals, BasedAt, Setting, transfer, StandsAt, MayGo, InRooms, Moves}

-- what a local of a type holds as an i64
abbrev pub bits_as_i64 : ValType → List Instr
bits_as_i64 val.I32 = I.I64ExtendI32U ∷ []
bits_as_i64 val.F32 = I.I32ReinterpretF32 ∷ I.I64ExtendI32U ∷ []
bits_as_i64 val.F64 = I.I64ReinterpretF64 ∷ []
bits_as_i64 _ = []

-- so all of some locals, the last on top
abbrev pub push_as_i64 : List Slot → List Instr
push_as_i64 [] = []
push_as_i64 (s ∷ ss) = I.LocalGet s.0 ∷ (bits_as_i64 s.1 ++ push_as_i64 ss)

-- a value of a flat type as one of the type of a slot for it
abbrev pub to_slot : ValType → ValType → List Instr
to_slot val.I32 val.I64 = I.I64ExtendI32U ∷ []
to_slot val.F32 val.I32 = I.I32ReinterpretF32 ∷ []
to_slot val.F32 val.I64 = I.I32ReinterpretF32 ∷ I.I64ExtendI32U ∷ []
to_slot val.F64 val.I64 = I.I64ReinterpretF64 ∷ []
to_slot _ _ = []

abbrev pub set_code : ValType → Slot → List Instr
set_code f s = to_slot f s.1 ++ I.LocalSet s.0 ∷ []

-- values of flat types into slots, the last one first, which is on top
abbrev pub take_code : List ValType → List Slot → List Instr
take_code (f ∷ fs) (s ∷ ss) = take_code fs ss ++ set_code f s
take_code _ _ = []

-- the address that is so far from the one in a local
abbrev pub based_code : Bool → (base offset : ℕ) → List Instr
based_code memory64 base zero = I.LocalGet base ∷ []
based_code memory64 base (suc n) = I.LocalGet base ∷ const_code memory64 (suc n) ∷ add_code memory64 ∷ []

-- what a helper takes of a source, and of a target
abbrev pub push_from : Bool → From → List Instr
push_from memory64 (InLocals slots) = push_as_i64 slots
push_from memory64 (InMemory memory base offset) = based_code memory64 base offset

abbrev pub push_to : Bool → To → List Instr
push_to memory64 (ToLocals slots) = []
push_to memory64 (ToMemory memory base offset) = based_code memory64 base offset

-- what it gives
abbrev pub take_to : List ValType → To → List Instr
take_to flats (ToLocals slots) = take_code flats slots
take_to flats (ToMemory memory base offset) = []

-- the call of the helper whose function has this number, which gives values of these flat types
abbrev pub helper_code : (from64 to64 : Bool) → From → To → (flats : List ValType) → (number : ℕ) → List Instr
helper_code from64 to64 from to flats number = (push_from from64 from ++ push_to to64 to) ++ (I.Call (defined.Defined number) ∷ take_to flats to)

-- ---- slots, and values for them

-- a slot may hold a value of a flat type
abbrev pub IsRoomFor : ValType → ValType → Type 0
IsRoomFor val.I32 val.I32 = Unit {0}
IsRoomFor val.I32 val.I64 = Unit {0}
IsRoomFor val.I64 val.I64 = Unit {0}
IsRoomFor val.F32 val.F32 = Unit {0}
IsRoomFor val.F32 val.I32 = Unit {0}
IsRoomFor val.F32 val.I64 = Unit {0}
IsRoomFor val.F64 val.F64 = Unit {0}
IsRoomFor val.F64 val.I64 = Unit {0}
IsRoomFor _ _ = ⊥

abbrev pub AreRoomFor : List ValType → List Slot → Type 0
AreRoomFor fs ss = AllZip (λ f s. IsRoomFor f s.1) fs ss

-- values of these types
abbrev pub AreValues : List CoreValue → List ValType → Type 0
AreValues vs ts = AllZip (λ v t. is_value v t ≡ true) vs ts

-- locals of types of numbers
abbrev pub AreNumberSlots : List Slot → Type 0
AreNumberSlots ss = AllByRecursion (λ s. is_number s.1 ≡ true) ss

-- ---- helpers

-- what a source and a target are to a helper
abbrev pub args_of_source : Bool → Source → List CoreValue
args_of_source memory64 (Values vs) = map as_i64 vs
args_of_source memory64 (AtAddress a) = address_operand memory64 a ∷ []

abbrev pub args_of_target : Bool → Target → List CoreValue
args_of_target memory64 (Slots ts) = []
args_of_target memory64 (Into a) = address_operand memory64 a ∷ []

-- where it moves to
abbrev pub flat_target : List ValType → Target → Target
flat_target flats (Slots ts) = Slots flats
flat_target flats (Into a) = Into a

-- what it leaves on the stack
abbrev pub given_out : Target → List CoreValue → List CoreValue
given_out (Slots ts) vs = reverse vs
given_out (Into a) vs = []

abbrev pub AreGiven : List ValType → Target → List CoreValue → Type 0
AreGiven flats (Slots ts) vs = AreValues vs flats
AreGiven flats (Into a) vs = vs ≡ []

-- its core signature, by where it finds and puts values
abbrev pub params_of_source : Bool → From → List ValType
params_of_source memory64 (InLocals slots) = map (λ s. val.I64) slots
params_of_source memory64 (InMemory memory base offset) = address_type memory64 ∷ []

abbrev pub params_of_target : Bool → To → List ValType
params_of_target memory64 (ToLocals slots) = []
params_of_target memory64 (ToMemory memory base offset) = address_type memory64 ∷ []

abbrev pub results_of_target : List ValType → To → List ValType
results_of_target flats (ToLocals slots) = flats
results_of_target flats (ToMemory memory base offset) = []

-- so many bytes from an address on have addresses
abbrev pub SourceHasRoom : Bool → ℕ → Source → Type 0
SourceHasRoom memory64 bytes (Values vs) = Unit {0}
SourceHasRoom memory64 bytes (AtAddress a) = a + bytes ≤ 2 ^ address_bits memory64

abbrev pub TargetHasRoom : Bool → ℕ → Target → Type 0
TargetHasRoom memory64 bytes (Slots ts) = Unit {0}
TargetHasRoom memory64 bytes (Into a) = a + bytes ≤ 2 ^ address_bits memory64

-- core values are a source in locals, and an address is one in memory
abbrev pub IsSourceOf : From → Source → Type 0
IsSourceOf (InLocals slots) (Values vs) = Unit {0}
IsSourceOf (InMemory memory base offset) (AtAddress a) = Unit {0}
IsSourceOf (InLocals slots) (AtAddress a) = ⊥
IsSourceOf (InMemory memory base offset) (Values vs) = ⊥

abbrev pub IsTargetOf : To → Target → Type 0
IsTargetOf (ToLocals slots) (Slots ts) = Unit {0}
IsTargetOf (ToMemory memory base offset) (Into a) = Unit {0}
IsTargetOf (ToLocals slots) (Into a) = ⊥
IsTargetOf (ToMemory memory base offset) (Slots ts) = ⊥

-- The function of a number moves values of such places: it takes the numbers of a source as i64, or an address, and gives values of
-- flat types, or writes behind an address. Its body spares 484 of the 900 steps for each unit of weight.
pub record IsHelper (M : WasmModule) (p : ImportPlaces) (from64 to64 : Bool) (from : From) (to : To) (from_bytes to_bytes : ℕ)
    (flats : List ValType) (number : ℕ) (act : Source → Target → Action (List CoreValue)) : Type 0 where
  pub func : WasmFunc
  pub there : slice_get M.funcs number ≡ Some func
  pub typed : slice_get M.types func.ty ≡ Some (record { params = params_of_source from64 from ++ params_of_target to64 to; results = results_of_target flats to })
  pub does : (s : Source) (d : Target) → IsSourceOf from s → IsTargetOf to d → AreValues (args_of_source from64 s ++ args_of_target to64 d) (params_of_source from64 from ++ params_of_target to64 to)
      → SourceHasRoom from64 from_bytes s → TargetHasRoom to64 to_bytes d
      → Does M p Onward 0 484 [] (entry_locals func (args_of_source from64 s ++ args_of_target to64 d)) func.body (act (source_as_i64 s) (flat_target flats d)) (given_out d) (λ vs ls'. AreGiven flats d vs)

-- what stands behind the code of its move: the values of slots are pushed
abbrev pub get_code : List Slot → List Instr
get_code [] = []
get_code (s ∷ ss) = I.LocalGet s.0 ∷ get_code ss

abbrev pub result_code : To → List Instr
result_code (ToLocals slots) = get_code slots
result_code (ToMemory memory base offset) = []

-- the slots of a place have these types, and are few
abbrev pub AreResultSlots : List ValType → To → Type 0
AreResultSlots flats (ToLocals slots) = (map (λ s. s.1) slots ≡ flats) × (length slots ≤ 16)
AreResultSlots flats (ToMemory memory base offset) = Unit {0}

-- How a helper begins: its locals have their types, a source stands in them or behind an address, and the target's slots are free.
pub record BeginsHelper (S : Setting) (used : ℕ → Bool) (ls : Locals) (from : From) (to : To) (flats : List ValType) (s : Source) (d : Target) : Type 0 where
  pub types : held_types ls ≡ S.locals
  pub stands : StandsAt ls S.from64 from (source_as_i64 s)
  pub goes : MayGo used ls S.to64 to (flat_target flats d)
  pub rooms : InRooms S ls from to

-- The body of a helper, code that moves values between places of its own and then pushes what it gives, does so.
abbrev pub HelperBodiesMove : Type 0
HelperBodiesMove =
    (S : Setting) (used : ℕ → Bool) (from : From) (to : To) (t u : Shape) (flats : List ValType) (code : List Instr) (ls : Locals) (s : Source) (d : Target)
    → Moves S used 0 500 from to (move (transfer S) t u) code → AreResultSlots flats to → BeginsHelper S used ls from to flats s d
    → Does S.whole S.places Onward 0 484 [] ls (code ++ result_code to) (move (transfer S) t u (source_as_i64 s) (flat_target flats d)) (given_out d) (λ vs ls'. AreGiven flats d vs)

-- the places of a call: few locals of numbers, and addresses behind which there are so many bytes
abbrev pub IsCallSource : Setting → From → (bytes : ℕ) → Type 0
IsCallSource S (InLocals slots) bytes = AreNumberSlots slots × AreLocals S.locals slots × (length slots ≤ 16)
IsCallSource S (InMemory memory base offset) bytes = BasedAt S.locals S.from64 base offset × (offset + bytes ≤ S.rooms.from) × (1 ≤ bytes)

abbrev pub IsCallTarget : Setting → To → (bytes : ℕ) → (flats : List ValType) → Type 0
IsCallTarget S (ToLocals slots) bytes flats = AreRoomFor flats slots × AreDistinctSlots slots × AreLocals S.locals slots × (length slots ≤ 16)
IsCallTarget S (ToMemory memory base offset) bytes flats = BasedAt S.locals S.to64 base offset × (offset + bytes ≤ S.rooms.to) × (1 ≤ bytes)

-- A call of a helper moves values, whatever the types of the locals are that hold them and get them, and spares 100 of the steps of
-- their weight.
abbrev pub HelperCallsMove : Type 0
HelperCallsMove =
    (S : Setting) (used : ℕ → Bool) (from : From) (to : To) (from_bytes to_bytes : ℕ) (t u : Shape) (flats : List ValType) (number : ℕ)
    → IsHelper S.whole S.places S.from64 S.to64 from to from_bytes to_bytes flats number (move (transfer S) t u)
    → IsCallSource S from from_bytes → IsCallTarget S to to_bytes flats → CanFill t u → length flats ≡ length (flat (width_of_side S.to) u)
    → Moves S used 0 100 from to (move (transfer S) t u) (helper_code S.from64 S.to64 from to flats number)
