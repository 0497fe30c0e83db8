-- What whole adapters do (canonical ABI, "`canon lift`", "`canon lower`").
use Rattle.std.specs.Prelude.{ℕ, ◌+◌, ◌*◌, Bool, true, false, not, ◌&&◌, ◌||◌, nat_eq, List, [], ◌∷◌, ◌++◌, length, Option, Some, None, is_some}
use Rattle.std.specs.List.{list_any}
use Rattle.fact_wasm.specs.declared.types.ValType.{ValType}
use Rattle.fact_wasm.specs.declared.instr.FuncName.{FuncName}
use Rattle.fact_types.specs.declared.outside.CoreDef.{CoreDef}
use Rattle.fact_types.specs.declared.outside.StringEncoding.{StringEncoding}
use Rattle.fact_types.specs.declared.outside.StringEncoding.TheVariants as string
use Rattle.fact_types.specs.declared.outside.Trap.TheVariants.{CannotLeaveComponent, CannotEnterComponent, MemoryOutOfBounds}
use Rattle.fact_types.specs.declared.flats.FlatType.{FlatType}
use Rattle.fact_types.specs.declared.signature.Signature.{Signature}
use Rattle.fact_types.specs.FlatShapes.{flat_each}
use Rattle.fact_types.specs.Shapes.{Shape}
use Rattle.fact_types.specs.Adapters.{Side, LinkedAdapter, is_wide}
use Rattle.fact_types.specs.Handles.{has_borrow}
use Rattle.fact_types.specs.Signatures.{flat_values, flat_params, lower_pointer, lower_by, lift_by, lower_limit, lift_results_limit, lowered_flat_types, value_types_of, width}
use Rattle.fact_machine.specs.Numerics.{truth}
use Rattle.fact_machine.specs.declared.types.CoreValue.{CoreValue}
use Rattle.fact_machine.specs.declared.types.CoreValue.TheVariants.{I32, Func}
use Rattle.fact_types.specs.declared.import.Import.{Import}
use Rattle.fact_types.specs.declared.import.Import.TheVariants as import
use Rattle.fact_values.specs.Lift.{bits_of}
use Rattle.fact_types.specs.Tuples.{tuple_members}
use Rattle.fact_actions.specs.Actions.{Action, Give, GetFlags, SetFlags, Ask, ◌>>=◌, ◌>>◌, trap, unless}
use Rattle.fact_actions.specs.Sides.{LiftLowerOptions, Transfer, Source, Values, AtAddress, Target, Slots, Into, options_of, width_of_side, address_value, first_bits, check_region, reallocate, get_slots, set_slots}
use Rattle.fact_actions.specs.Moves.{entry_extent, move_fields}

pub record AdapterTunables : Type 0 where
  pub concurrency : Bool
  pub exceptions : Bool
  pub debug : Bool

-- parameters go from the lower side to the lift side, and results back
abbrev pub params_transfer : AdapterTunables → LinkedAdapter → Transfer
params_transfer u a = record { from = options_of a.lower; to = options_of a.lift; concurrency = u.concurrency; debug = u.debug }

abbrev pub results_transfer : AdapterTunables → LinkedAdapter → Transfer
results_transfer u a = record { from = options_of a.lift; to = options_of a.lower; concurrency = u.concurrency; debug = u.debug }

abbrev pub lower_signature_of : LinkedAdapter → Signature
lower_signature_of a = lower_by a.lower.async_side (is_wide a.lower.memory) a.lower.params a.lower.results

abbrev pub lift_signature_of : LinkedAdapter → Signature
lift_signature_of a = lift_by a.lift.async_side (is_some a.lift.callback) (is_wide a.lift.memory) a.lift.params a.lift.results

-- the core parameters of the functions of an async adapter that move parameters and results
abbrev pub start_params : LinkedAdapter → List ValType
start_params a = flat_params (is_wide a.lower.memory) (lower_limit a.lower.async_side) a.lower.params

abbrev pub return_params : LinkedAdapter → List ValType
return_params a =
    flat_params (is_wide a.lift.memory) (lift_results_limit a.lift.async_side) a.lift.results
    ++ lower_pointer a.lower.async_side (is_wide a.lower.memory) a.lower.results

-- ---- parameters and results, flat or through a pointer

-- the region of a tuple at a pointer
abbrev pub check_tuple : {A : Type 0} → LiftLowerOptions → List Shape → ℕ → Action A → Action A
check_tuple o ts pointer p =
    let e = entry_extent o (tuple_members ts) in
    check_region o MemoryOutOfBounds pointer e.size e.align p

-- core values that are the flat values of types, or a pointer to a tuple of them, which is checked
abbrev pub from_values : {A : Type 0} → LiftLowerOptions → (limit : ℕ) → List Shape → List CoreValue → (Source → Action A) → Action A
from_values o limit ts vs k =
    elim (flat_values (is_wide o.memory) limit ts) [
      | Some flats ↦ k (Values vs)
      | None ↦ check_tuple o ts (first_bits vs) (k (AtAddress (first_bits vs)))
    ]

-- the core values of parameters, or a new pointer to a tuple of them
abbrev pub into_params : Transfer → List Shape → (Target → Action (List CoreValue)) → Action (List CoreValue)
into_params tr ts k =
    elim (flat_values (is_wide tr.to.memory) 16 ts) [
      | Some flats ↦ k (Slots flats)
      | None ↦
          let e = entry_extent tr.to (tuple_members ts) in
          reallocate tr.concurrency tr.to MemoryOutOfBounds 0 0 e.align e.size (λ q. k (Into q) >> Give (address_value tr.to q ∷ []))
    ]

-- The value types of the results of a side that lowers, by its async mark and whether its addresses have 64 bits, none where they stand behind a
-- pointer.
abbrev pub lowered_flats : (async_side memory64 : Bool) → List Shape → Option (List ValType)
lowered_flats async_side memory64 ts = value_types_of (lowered_flat_types async_side (width memory64) ts)

-- those of a side, where it has no return pointer
abbrev pub flat_results : Side → Option (List ValType)
flat_results s = lowered_flats s.async_side (is_wide s.memory) s.results

-- the core values of results, or a tuple of them at the return pointer, which is checked
abbrev pub into_results : Side → (pointer : ℕ) → (Target → Action (List CoreValue)) → Action (List CoreValue)
into_results s pointer k =
    elim (flat_results s) [
      | Some flats ↦ k (Slots flats)
      | None ↦ check_tuple (options_of s) s.results pointer (k (Into pointer))
    ]

abbrev pub move_params : AdapterTunables → LinkedAdapter → (args : List CoreValue) → Action (List CoreValue)
move_params u a args =
    from_values (options_of a.lower) (lower_limit a.lower.async_side) a.lower.params args (λ s.
    into_params (params_transfer u a) a.lift.params (λ d.
    move_fields (params_transfer u a) (tuple_members a.lower.params) (tuple_members a.lift.params) 0 s d))

abbrev pub move_results : AdapterTunables → LinkedAdapter → (given : List CoreValue) → (pointer : ℕ) → Action (List CoreValue)
move_results u a given pointer =
    from_values (options_of a.lift) (lift_results_limit a.lift.async_side) a.lift.results given (λ s.
    into_results a.lower pointer (λ d.
    move_fields (results_transfer u a) (tuple_members a.lift.results) (tuple_members a.lower.results) 0 s d))

-- ---- steps

abbrev pub none : Action (List CoreValue)
none = Give []

abbrev pub when_due : Bool → Action (List CoreValue) → Action (List CoreValue)
when_due true p = p
when_due false p = none

abbrev pub get_flags : ℕ → Action ℕ
get_flags i = GetFlags i (λ n. Give n)

-- the flags of an instance are 0 meanwhile, and then as they were
abbrev pub cleared : {A : Type 0} → (instance saved : ℕ) → Action A → Action A
cleared i saved p = SetFlags i 0 (p >>= (λ a. SetFlags i saved (Give a)))

abbrev pub make_call : Import → List CoreValue → List ValType → Action (List CoreValue)
make_call i args ts = Ask i args ts (λ rs. Give rs)

-- The runtime is told of a call where parameters lend, and with concurrency on of each call of an adapter that has no mark
-- as transparent.
abbrev pub enters : AdapterTunables → LinkedAdapter → Bool
enters u a = (u.concurrency && not a.transparent) || list_any has_borrow a.lower.params

abbrev pub enter_call : AdapterTunables → LinkedAdapter → Action (List CoreValue)
enter_call u a = when_due (enters u a) (make_call import.EnterSyncCall (I32 (truth a.lift.async_type) ∷ I32 a.lift.instance ∷ []) [])

abbrev pub exit_call : AdapterTunables → LinkedAdapter → Action (List CoreValue)
exit_call u a = when_due (enters u a) (make_call import.ExitSyncCall [] [])

-- both slots of the context
pub record Slotted : Type 0 where
  pub first : List CoreValue
  pub second : List CoreValue

abbrev pub read_slots : Bool → Action Slotted
read_slots b = get_slots b (λ x y. Give (record { first = x; second = y }))

abbrev pub write_slots : Bool → Slotted → Action (List CoreValue)
write_slots b s = set_slots b s.first s.second none

-- the post-return of the callee, with its results, in the context that it left
abbrev pub finish_call : Bool → Option CoreDef → (results : List CoreValue) → (callee : Slotted) → Action (List CoreValue)
finish_call concurrency None given callee = none
finish_call concurrency (Some f) given callee = do
  own ← read_slots concurrency
  write_slots concurrency callee
  make_call (import.CoreDef f) given []
  write_slots concurrency own

-- the return pointer, where there is one, is the last argument
abbrev pub last_bits : List CoreValue → ℕ
last_bits [] = 0
last_bits (v ∷ []) = bits_of v
last_bits (v ∷ w ∷ vs) = last_bits (w ∷ vs)

-- ---- the functions of adapters

-- a sync adapter between two instances, without the barrier for what is thrown
abbrev pub sync : AdapterTunables → LinkedAdapter → (args : List CoreValue) → Action (List CoreValue)
sync u a args = do
  saved ← get_flags a.lower.instance
  unless CannotLeaveComponent (not (nat_eq saved 0)) none
  enter_call u a
  lift_saved ← get_flags a.lift.instance
  core ← cleared a.lift.instance lift_saved (move_params u a args)
  given ← make_call (import.CoreDef a.callee) core (lift_signature_of a).results
  context ← read_slots (u.concurrency && is_some a.lift.post_return)
  exit_call u a
  results ← cleared a.lower.instance saved (move_results u a given (last_bits args))
  finish_call u.concurrency a.lift.post_return given context
  Give results

-- an adapter within one instance
abbrev pub same_instance : Action (List CoreValue)
same_instance = trap CannotEnterComponent

-- Any other adapter has three functions. The first moves the parameters when the callee is to start.
abbrev pub async_start : AdapterTunables → LinkedAdapter → (args : List CoreValue) → Action (List CoreValue)
async_start u a args = do
  saved ← get_flags a.lift.instance
  cleared a.lift.instance saved (move_params u a args)

-- the second moves the results that the callee returned
abbrev pub async_return : AdapterTunables → LinkedAdapter → (args : List CoreValue) → Action (List CoreValue)
async_return u a args = do
  saved ← get_flags a.lower.instance
  cleared a.lower.instance saved (move_results u a args (last_bits args))

-- What the third hands to the runtime of its module: the functions of these names, and the number of the tuple of the lift
-- side's results.
pub record References : Type 0 where
  pub start : FuncName
  pub return : FuncName
  pub callee : FuncName
  pub results : ℕ

abbrev pub encoding_number : StringEncoding → ℕ
encoding_number string.Utf8 = 0
encoding_number string.Utf16 = 1
encoding_number string.CompactUtf16 = 2

-- A number for the results: of a sync lower side how many core values they are, without a limit but that of each type; of an
-- async one whether there are any.
abbrev pub results_number : Side → ℕ
results_number s = by_mark s.async_side s.results
  where
    flats : Option (List FlatType) → ℕ
    flats None = 2147483647
    flats (Some ts) = length ts

    by_mark : Bool → List Shape → ℕ
    by_mark false ts = flats (flat_each (width_of_side (options_of s)) ts)
    by_mark true [] = 0xFFFF_FFFF
    by_mark true (t ∷ ts) = 0xFFFF_FFFE

abbrev pub def_of_memory : LiftLowerOptions → Option CoreDef
def_of_memory o = elim o.memory [ None ↦ None | Some m ↦ Some m.def ]

abbrev pub prepare_args : LinkedAdapter → References → (args : List CoreValue) → List CoreValue
prepare_args a r args =
    Func r.start ∷ Func r.return
    ∷ I32 a.lower.instance ∷ I32 a.lift.instance ∷ I32 r.results ∷ I32 (truth a.lift.async_type)
    ∷ I32 (encoding_number a.lift.encoding) ∷ I32 (results_number a.lower) ∷ args

-- the numbers of core parameters and results of the callee, and 1 for an async lift side and 2 for an async lower side
abbrev pub start_args : LinkedAdapter → References → List CoreValue
start_args a r =
    Func r.callee ∷ I32 (length (lift_signature_of a).params) ∷ I32 (length (lift_signature_of a).results)
    ∷ I32 (truth a.lift.async_side + 2 * truth a.lower.async_side) ∷ []

-- the third, which has the adapter's name
abbrev pub async_call : LinkedAdapter → References → (args : List CoreValue) → Action (List CoreValue)
async_call a r args = do
  make_call (import.PrepareCall (def_of_memory (options_of a.lift))) (prepare_args a r args) []
  make_call (import.StartCall a.lift.callback a.lift.post_return) (start_args a r) (lower_signature_of a).results
