-- What code does that moves a value from a place to another one.
use Rattle.std.specs.Prelude.{◌≡◌, ℕ, Bool, false, nat_eq, if◌then◌else◌, List, Some, slice_get}
use Rattle.fact_wasm.specs.declared.types.ValType.{ValType}
use Rattle.fact_wasm.specs.declared.instr.Instr.{Instr}
use Rattle.fact_wasm.specs.declared.module.WasmModule.{WasmModule}
use Rattle.fact_machine.specs.declared.types.CoreValue.{CoreValue}
use Rattle.fact_actions.specs.Actions.{Action}
use Rattle.fact_actions.specs.Running.{ImportPlaces}
use Rattle.fact_actions.specs.Sides.{LiftLowerOptions, Transfer, Source, Target}
use Rattle.fact_code_laws.specs.Places.{From, To, Rooms, Setting, transfer, Moves}
use Rattle.fact_emit.specs.declared.places.Sides.{Sides}
use Rattle.fact_emit.specs.Places.{setting_of, Using}

-- an action that moves a value between the sides of a transfer
abbrev pub Act : Type 0
Act = Transfer → Source → Target → Action (List CoreValue)

-- In a module and a function, whatever the options of the sides are and what room there is behind addresses: where the places fit, the
-- code moves the value.
pub record MovesValue (sides : Sides) (src : From) (dst : To) (taken : ℕ → Bool) (spare : ℕ) (Fit : Setting → Type 0) (act : Act) (M : WasmModule) (p : ImportPlaces) (locals : List ValType) (code : List Instr) : Type 0 where
  pub moves : (a b : LiftLowerOptions) (rooms : Rooms) (used : ℕ → Bool) → Using taken used src dst → Fit (setting_of sides a b rooms M p locals)
      → Moves (setting_of sides a b rooms M p locals) used 0 spare src dst (act (transfer (setting_of sides a b rooms M p locals))) code

-- all locals in use but one
abbrev pub except : ℕ → (ℕ → Bool) → ℕ → Bool
except i taken j = if nat_eq j i then false else taken j

-- a local of this type is there
abbrev pub HasLocal : ℕ → ValType → Setting → Type 0
HasLocal i t S = slice_get S.locals i ≡ Some t
