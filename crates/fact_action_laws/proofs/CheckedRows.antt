-- Worked cases of debug checks, which are computed: a payload of 32 bits in a place that has 64.
use Rattle.std.proofs.Common.{◌≡◌, Bool, true, false, List, [], ◌∷◌, map, refl, arith}
use Rattle.std.specs.Prelude.{codes}
use Rattle.fact_entity.specs.declared.id.Id.{Id}
use Rattle.fact_entity.specs.declared.table.RuntimeInstances.{RuntimeInstances}
use Rattle.fact_types.specs.declared.interface.InterfaceType.TheVariants as ty
use Rattle.fact_types.specs.declared.import.Import.{Import}
use Rattle.fact_types.specs.declared.import.Import.TheVariants as import
use Rattle.fact_types.specs.declared.outside.StringEncoding.TheVariants as string
use Rattle.fact_types.specs.declared.outside.Trap.TheVariants.{DebugAssertUpperBitsUnset}
use Rattle.fact_types.specs.Adapters.{LinkedAdapter}
use Rattle.fact_types.specs.Layout.{aligned}
use Rattle.fact_types.specs.Shapes.{k_variant, Shape, s_plain, s_node, no_members, typed}
use Rattle.fact_machine.specs.declared.types.CoreValue.{CoreValue}
use Rattle.fact_machine.specs.declared.types.CoreValue.TheVariants.{I32, I64}
use Rattle.fact_machine.specs.declared.types.MachineState.{MachineState}
use Rattle.fact_machine.specs.declared.types.Answer.TheVariants.{Returns}
use Rattle.fact_machine.specs.declared.types.End.{End}
use Rattle.fact_machine.specs.declared.types.End.TheVariants.{Returned, Trapped}
use Rattle.fact_actions.specs.Adapters.{AdapterTunables}
use Rattle.fact_actions.specs.Moves.{move_fields}
use Rattle.fact_actions.specs.Plain.{NamedOutcome, sync_outcome}
use Rattle.fact_action_laws.proofs.WorkedAdapters.{taking, places, exported}
use Rattle.fact_values.specs.UpperHalves.{IsNarrowThroughout}
use Rattle.fact_action_laws.specs.PassingChecks.{AreNarrowParams}

abbrev either : Shape
either = s_node k_variant (typed (codes "p") (s_plain ty.U32) (typed (codes "q") (s_plain ty.U64) no_members))

module _ (instances : Id RuntimeInstances) where
  abbrev either_adapter : LinkedAdapter
  either_adapter = taking instances string.Utf8 string.Utf8 (either ∷ []) (either ∷ [])

  abbrev with_checks : Bool → AdapterTunables
  with_checks b = record { concurrency = false; exceptions = false; debug = b }

  abbrev state : MachineState
  state = record { memories = [] ∷ [] ∷ []; globals = I32 1 ∷ I32 1 ∷ [] }

  abbrev shown : NamedOutcome → End × List (Import × List CoreValue)
  shown o = (o.end, map (λ c. (c.what, c.args)) o.log)

  -- what is called with debug checks off or on, and every answer returns nothing
  abbrev called : Bool → List CoreValue → End × List (Import × List CoreValue)
  called b args = shown (sync_outcome (places instances) (with_checks b) either_adapter args state (Returns [] state ∷ []))

  -- the callee gets these, or a check fails
  abbrev gets : List CoreValue → End × List (Import × List CoreValue)
  gets vs = (Returned [], (import.CoreDef (exported instances 1 (codes "run")), vs) ∷ [])

  abbrev fails : End × List (Import × List CoreValue)
  fails = (Trapped, (import.Trap DebugAssertUpperBitsUnset, []) ∷ [])

  -- Without checks the upper half is dropped where 32 bits are read. With them that is a trap; a payload of 64 bits arrives unchanged.
  pub rows_hold :
      called false (I32 0 ∷ I64 4294967303 ∷ []) ∷ called true (I32 0 ∷ I64 4294967303 ∷ []) ∷ called false (I32 1 ∷ I64 4294967303 ∷ []) ∷ called true (I32 1 ∷ I64 4294967303 ∷ []) ∷ called true (I32 0 ∷ I64 7 ∷ []) ∷ []
      ≡ gets (I32 0 ∷ I64 7 ∷ []) ∷ fails ∷ gets (I32 1 ∷ I64 4294967303 ∷ []) ∷ gets (I32 1 ∷ I64 4294967303 ∷ []) ∷ gets (I32 0 ∷ I64 7 ∷ []) ∷ []
  unfolding move_fields aligned
  rows_hold = refl

  -- The first one has an upper half that is not 0 in a place of 32 bits, and the others have none.
  first_is_not : AreNarrowParams either_adapter (I32 0 ∷ I64 4294967303 ∷ []) → ⊥
  unfolding IsNarrowThroughout
  first_is_not h = let l : 4294967303 ≡ 7 = h.0.1.0 in omega (arith, l)

  others_are : AreNarrowParams either_adapter (I32 1 ∷ I64 4294967303 ∷ []) × AreNarrowParams either_adapter (I32 0 ∷ I64 7 ∷ [])
  unfolding IsNarrowThroughout
  others_are = ((((refl, (refl, tt)), (refl, tt)), tt), (((refl, (refl, tt)), (refl, tt)), tt))
