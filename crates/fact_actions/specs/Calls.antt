-- What is told of calls, by their imports, arguments and answers.
use Rattle.std.specs.Prelude.{◌≡◌, ℕ, zero, suc, Bool, false, List, [], ◌∷◌, get_or, Option, Some, None}
use Rattle.fact_types.specs.declared.outside.CoreDef.{CoreDef}
use Rattle.fact_types.specs.Adapters.{LinkedAdapter, same_def}
use Rattle.fact_machine.specs.declared.types.CoreValue.{CoreValue}
use Rattle.fact_machine.specs.declared.types.MachineState.{MachineState}
use Rattle.fact_machine.specs.declared.types.Answer.TheVariants.{Returns, Traps, Throws}
use Rattle.fact_types.specs.declared.import.Import.{Import}
use Rattle.fact_types.specs.declared.import.Import.TheVariants as import
use Rattle.fact_values.specs.Lift.{bits_of}
use Rattle.fact_actions.specs.Sides.{LiftLowerOptions}
use Rattle.fact_actions.specs.Running.{ImportPlaces, Call}

abbrev pub is_import_of : CoreDef → Import → Bool
is_import_of d (import.CoreDef e) = same_def d e
is_import_of d i = false

-- a call of a core function
abbrev pub is_call_of : CoreDef → Call → Bool
is_call_of d c = is_import_of d c.what

abbrev pub is_call_of_any : Option CoreDef → Call → Bool
is_call_of_any None c = false
is_call_of_any (Some d) c = is_call_of d c

-- The callee of an adapter is a function of its own: it is neither a realloc nor the post-return.
pub record HasOwnCallee (a : LinkedAdapter) : Type 0 where
  pub lift_realloc : (f : CoreDef) → a.lift.realloc ≡ Some f → same_def a.callee f ≡ false
  pub lower_realloc : (f : CoreDef) → a.lower.realloc ≡ Some f → same_def a.callee f ≡ false
  pub post_return : (f : CoreDef) → a.lift.post_return ≡ Some f → same_def a.callee f ≡ false

-- the number of an argument or a result
abbrev pub nth_number : List CoreValue → ℕ → ℕ
nth_number [] n = 0
nth_number (v ∷ vs) zero = bits_of v
nth_number (v ∷ vs) (suc n) = nth_number vs n

abbrev pub arg_number : Call → ℕ → ℕ
arg_number c n = nth_number c.args n

-- what a call that returned gave, and the state behind it
abbrev pub results : Call → List CoreValue
results c = elim c.answer [ Returns rs state ↦ rs | Traps ↦ [] | Throws ↦ [] ]

abbrev pub state_after : Call → MachineState
state_after c = elim c.answer [ Returns rs state ↦ state | Traps ↦ c.before | Throws ↦ c.before ]

-- the bytes of a side's memory
abbrev pub side_memory : ImportPlaces → LiftLowerOptions → MachineState → List ℕ
side_memory p o state = elim o.memory [ None ↦ [] | Some m ↦ get_or state.memories (p.memory m.def) [] ]
