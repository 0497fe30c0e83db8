-- The functions of async adapters between two instances that move values when the runtime calls them: their names, their types, what they
-- do, and where their code finds what it uses (canonical ABI, "`canon lift`", "`canon lower`": `on_start`, `on_resolve`).
use Rattle.std.specs.Prelude.{ℕ, List, ◌++◌, codes}
use Rattle.fact_wasm.specs.declared.types.FuncType.{FuncType}
use Rattle.fact_types.specs.Adapters.{LinkedAdapter, is_wide}
use Rattle.fact_types.specs.Signatures.{lower_results}
use Rattle.fact_machine.specs.declared.types.CoreValue.{CoreValue}
use Rattle.fact_actions.specs.Actions.{Action}
use Rattle.fact_actions.specs.Adapters.{AdapterTunables, async_return, async_start, lift_signature_of, return_params, start_params}
use Rattle.fact_code_laws.specs.Places.{Slot}
use Rattle.fact_emit.specs.Places.{slots_of_locals}
use Rattle.fact_compound.specs.declared.asyncs.AsyncPart.{AsyncPart}
use Rattle.fact_compound.specs.declared.asyncs.AsyncPart.TheVariants as part
use Rattle.fact_compound.specs.declared.asyncs.PartLocals.{PartLocals}

-- ---- names and types

abbrev pub part_name : AsyncPart → (adapter : List ℕ) → List ℕ
part_name part.Start adapter = codes "[async-start]" ++ adapter
part_name part.Return adapter = codes "[async-return]" ++ adapter

-- the callee's export, under which code may hand it on by reference
abbrev pub callee_name : (adapter : List ℕ) → List ℕ
callee_name adapter = codes "[adapter-callee]" ++ adapter

-- the first takes the core parameters of the lower side and gives those of the lift side
abbrev pub start_type_of : LinkedAdapter → FuncType
start_type_of a = record { params = start_params a; results = (lift_signature_of a).params }

-- the second takes the core results of the lift side and the return pointer, and gives the flat results of a sync lower side
abbrev pub return_type_of : LinkedAdapter → FuncType
return_type_of a = record { params = return_params a; results = lower_results a.lower.async_side (is_wide a.lower.memory) a.lower.results }

abbrev pub part_type : AsyncPart → LinkedAdapter → FuncType
part_type part.Start a = start_type_of a
part_type part.Return a = return_type_of a

-- ---- what they do

abbrev pub part_action : AsyncPart → AdapterTunables → LinkedAdapter → (args : List CoreValue) → Action (List CoreValue)
part_action part.Start u a args = async_start u a args
part_action part.Return u a args = async_return u a args

-- ---- locals

-- the locals of such a function as slots: of all arguments, of the values, which are the first of them, of the saved flags, and of what it
-- gives
pub record PartSlots : Type 0 where
  pub args : List Slot
  pub values : List Slot
  pub saved : ℕ
  pub given : List Slot

abbrev pub part_locals : PartLocals → PartSlots
part_locals l = record { args = slots_of_locals l.args.now; values = slots_of_locals l.values.now; saved = l.saved; given = slots_of_locals l.given.now }
