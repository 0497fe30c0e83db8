-- Honest answers, and an honest run, by computation.
use Rattle.std.proofs.Common.{◌≡◌, inl, inr, ℕ, ◌<◌, ◌≤◌, false, true, List, [], ◌∷◌, map, refl, arith}
use Rattle.std.specs.Prelude.{codes, replicate}
use Rattle.std.specs.Char.{encode_utf8}
use Rattle.fact_entity.specs.declared.id.Id.{Id}
use Rattle.fact_entity.specs.declared.table.RuntimeInstances.{RuntimeInstances}
use Rattle.fact_entity.specs.declared.table.TypeResourceTables.{TypeResourceTables}
use Rattle.fact_types.specs.declared.import.Import.TheVariants as import
use Rattle.fact_types.specs.declared.interface.InterfaceType.TheVariants as ty
use Rattle.fact_types.specs.declared.outside.Transcode.TheVariants as op
use Rattle.fact_types.specs.Adapters.{LinkedAdapter}
use Rattle.fact_types.specs.Layout.{aligned}
use Rattle.fact_types.specs.Shapes.{Shape, s_plain, s_node, no_members, typed, k_list}
use Rattle.fact_machine.specs.declared.types.CoreValue.{CoreValue}
use Rattle.fact_machine.specs.declared.types.CoreValue.TheVariants.{I32}
use Rattle.fact_machine.specs.declared.types.MachineState.{MachineState}
use Rattle.fact_machine.specs.declared.types.Answer.TheVariants.{Returns}
use Rattle.fact_machine.specs.Exits.{first_world}
use Rattle.fact_actions.specs.Adapters.{AdapterTunables}
use Rattle.fact_actions.specs.Honest.{IsHonestRun}
use Rattle.fact_actions.specs.Moves.{move_fields}
use Rattle.fact_actions.specs.Plain.{ended_sync}
use Rattle.fact_actions.specs.Regions.{landed, params_landing, moved_on, IsHonestRegion}
use Rattle.fact_actions.specs.Running.{ImportPlaces, Call}
use Rattle.fact_actions.specs.Transcoders.{Room, IsHonestTranscoding}
use Rattle.fact_actions.proofs.Rows.{exported, passing, places}

-- ---- transcoders

abbrev room : ℕ → Room
room n = record { room = n; latin1_bytes = [] }

-- "aé" into two bytes of UTF-8: there is no room for the second one
stops_when_full : IsHonestTranscoding op.Utf16ToUtf8 (room 2) (0x61 ∷ 0 ∷ 0xE9 ∷ 0 ∷ []) (0x61 ∷ []) (1 ∷ 1 ∷ [])
unfolding encode_utf8
stops_when_full = record { text = 0x61 ∷ []; rest = 0xE9 ∷ 0 ∷ []; reads = refl; can_read = (refl, tt); can_write = (refl, tt); stops = (let fits : 1 ≤ 2 = omega arith in fits, inr (record { next = 0xE9; more = []; can = refl; begins = refl; full = let full : 2 < 3 = omega arith in full })); writes = refl; answers = refl }

-- "aé" is Latin-1, and "a€" is not
tag_is_clear : IsHonestTranscoding op.Utf16ToCompactProbablyUtf16 (room 0) (0x61 ∷ 0 ∷ 0xE9 ∷ 0 ∷ []) (0x61 ∷ 0xE9 ∷ []) (2 ∷ [])
unfolding encode_utf8
tag_is_clear = record { text = 0x61 ∷ 0xE9 ∷ []; rest = []; reads = refl; can_read = (refl, (refl, tt)); can_write = (refl, (refl, tt)); stops = refl; writes = refl; answers = refl }

tag_is_set : IsHonestTranscoding op.Utf16ToCompactProbablyUtf16 (room 0) (0x61 ∷ 0 ∷ 0xAC ∷ 0x20 ∷ []) (0x61 ∷ 0 ∷ 0xAC ∷ 0x20 ∷ []) (0x8000_0002 ∷ [])
unfolding encode_utf8
tag_is_set = record { text = 0x61 ∷ 0x20AC ∷ []; rest = []; reads = refl; can_read = (refl, (refl, tt)); can_write = (refl, (refl, tt)); stops = refl; writes = refl; answers = refl }

-- "€" behind an "a" that is there
widened_in_place : IsHonestTranscoding op.Utf8ToCompactUtf16 (record { room = 2; latin1_bytes = 0x61 ∷ [] }) (0xE2 ∷ 0x82 ∷ 0xAC ∷ []) (0x61 ∷ 0 ∷ 0xAC ∷ 0x20 ∷ []) (2 ∷ [])
unfolding encode_utf8
widened_in_place = record { text = 0x20AC ∷ []; rest = []; reads = refl; can_read = (refl, tt); can_write = (refl, tt); stops = (refl, let fits : 2 ≤ 2 = omega arith in fits); writes = refl; answers = refl }

two_units : IsHonestTranscoding op.Utf8ToUtf16 (room 0) (0xF0 ∷ 0x9F ∷ 0x98 ∷ 0x80 ∷ []) (0x3D ∷ 0xD8 ∷ 0 ∷ 0xDE ∷ []) (2 ∷ [])
unfolding encode_utf8
two_units = record { text = 0x1F600 ∷ []; rest = []; reads = refl; can_read = (refl, tt); can_write = (refl, tt); stops = refl; writes = refl; answers = refl }

-- ---- a list of two bytes goes to where realloc says, and the callee changes memories as it likes

module _ (instances : Id RuntimeInstances) (table other : Id TypeResourceTables) where
  abbrev bytes : Shape
  bytes = s_node k_list (typed [] (s_plain ty.U8) no_members)

  abbrev passed : LinkedAdapter
  passed = passing instances table other (bytes ∷ []) (bytes ∷ [])

  abbrev placed : ImportPlaces
  placed = places instances table other passed

  abbrev words : List ℕ → List CoreValue
  words ns = map (λ n. I32 n) ns

  abbrev state : (lift_flags : ℕ) → (lift lower : List ℕ) → MachineState
  state n m l = record { memories = m ∷ l ∷ []; globals = I32 n ∷ I32 1 ∷ [] }

  abbrev at_first : MachineState
  at_first = state 1 (replicate 6 0) (3 ∷ 4 ∷ [])

  -- while parameters are moved
  abbrev meanwhile : MachineState
  meanwhile = state 0 (replicate 6 0) (3 ∷ 4 ∷ [])

  abbrev request : (size region : ℕ) → Call
  request n q = record { what = import.CoreDef (exported instances table other 1 (codes "realloc")); args = words (0 ∷ 0 ∷ 1 ∷ n ∷ []); before = meanwhile; answer = Returns (I32 q ∷ []) meanwhile }

  fits : IsHonestRegion placed (landed (params_landing passed)) (request 2 4)
  fits = record { sound = record { aligned = refl; inside = omega arith }; apart = λ n a b. b; holds = λ n a b. absurd_below n a; others = λ n a. absurd a; source = refl }
    where
      absurd_below : {A : Type 0} (n : ℕ) → n < 0 → A
      absurd_below n a = absurd (omega (arith, a))

  does_not_fit : IsHonestRegion placed (landed (params_landing passed)) (request 3 4) → ⊥
  does_not_fit h = omega (arith, h.sound.inside)

  -- a region within one that is live
  is_taken : IsHonestRegion placed (moved_on (request 2 2) (landed (params_landing passed))) (request 3 3) → ⊥
  is_taken h = h.apart 3 (omega arith, omega arith) (inl (omega arith, omega arith))

  abbrev off : AdapterTunables
  off = record { concurrency = false; exceptions = false; debug = false }

  honest_list :
      IsHonestRun placed passed (words (0 ∷ 2 ∷ [])) at_first
      (ended_sync placed off passed (words (0 ∷ 2 ∷ [])) (first_world at_first (Returns (I32 4 ∷ []) meanwhile ∷ Returns [] (state 1 (replicate 7 9) (9 ∷ 9 ∷ [])) ∷ [])))
  unfolding move_fields aligned
  honest_list = record { state_typed = refl; args_typed = refl; typed = tt; honest = (tt, (λ e. fits, λ e. refl), (tt, (λ e. let bad : false ≡ true = e in cc, λ e. let bad : false ≡ true = e in cc), tt)) }
