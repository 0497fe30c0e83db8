-- Moves of variants, options and results, by the code of each of their cases.
use Rattle.std.proofs.Common.{◌≡◌, ℕ, ◌+◌, Bool, List, [], ◌∷◌, ◌++◌, Option, Some, None, refl, sym, ap, ◌∙◌, subst, arith, length, slice_get}
use Rattle.std.specs.List.{AllByRecursion}
use Rattle.fact_wasm.specs.declared.types.ValType.TheVariants as val
use Rattle.fact_wasm.specs.declared.instr.Instr.{Instr}
use Rattle.fact_wasm.specs.declared.instr.Instr.TheVariants as I
use Rattle.fact_types.specs.declared.import.Import.TheVariants as import
use Rattle.fact_types.specs.declared.outside.Trap.TheVariants.{InvalidDiscriminant}
use Rattle.fact_types.specs.Shapes.{s_node, k_variant, k_option, k_result, Members}
use Rattle.fact_machine.specs.declared.types.CoreValue.{CoreValue}
use Rattle.fact_machine.proofs.Laws.{leaves_next, leaves_none}
use Rattle.fact_machine.proofs.RowLaws.{leaves_local_get}
use Rattle.fact_values.specs.Limits.{CaseType, case_type}
use Rattle.fact_values.specs.Places.{count_of_members, case_bytes}
use Rattle.fact_actions.specs.Actions.{Action, Visit, trap}
use Rattle.fact_actions.specs.Moves.{move, move_case}
use Rattle.fact_actions.specs.Sides.{Source, Target, read_number}
use Rattle.fact_code_laws.specs.Choices.{IsChoice}
use Rattle.fact_code_laws.specs.Does.{Locals, Onward, held_types, Does}
use Rattle.fact_code_laws.specs.Knows.{KnowsFunction}
use Rattle.fact_code_laws.specs.Places.{Setting, transfer, is_on, DebugChecks, From, To, StandsAt, MayGo, Stood, KeepsLocals, InRooms, FromUsed, ToUsed, FromTyped, Moves, Number, size_of, Readable, read_code, node_check}
use Rattle.fact_code_laws.specs.Typed.{OnStack, IsTyped}
use Rattle.fact_code_laws.proofs.Rules.{within, visit, local_set}
use Rattle.fact_code_laws.proofs.Blocks.{weaker}
use Rattle.fact_code_laws.proofs.Numbers.{reads, set_keeps}
use Rattle.fact_code_laws.proofs.Keeping.{keeps_then, stands_kept, goes_kept, rooms_kept}
use Rattle.fact_code_laws.proofs.Scalars.{IsNarrow}
use Rattle.fact_code_laws.proofs.Tested.{Temporary}
use Rattle.fact_code_laws.proofs.Aligned.{Checked, moves_checked}
use Rattle.fact_code_laws.proofs.FieldMoves.{moves_same}
use Rattle.fact_code_laws.proofs.Choices.{choice_does, typed_choice}
use Rattle.fact_code_laws.proofs.TypingLaws.{typed_then, typed_next, typed_one}
use Rattle.fact_code_laws.proofs.TypedRows.{takes_local_get, takes_local_set}
use Rattle.fact_code_laws.proofs.TypedShapes.{IsClosedCode}
use Rattle.fact_code_laws.proofs.TypedPlaces.{typed_read}

-- a discriminant into a temporary, and the choice of its case
abbrev pub tagged_code : DebugChecks → Number → (temp : ℕ) → From → List Instr → List Instr
tagged_code checks n temp from choice = read_code checks n from ++ (I.LocalSet temp ∷ choice)

-- code that moves a case, at its place among others
pub record MovesCase (S : Setting) (used : ℕ → Bool) (from : From) (to : To) (act : Source → Target → Action (List CoreValue)) (codes : List (List Instr)) (k : ℕ) : Type 0 where
  pub code : List Instr
  pub there : slice_get codes k ≡ Some code
  pub moves : Moves S used 300 0 from to act code

module _ (S : Setting) (used : ℕ → Bool) (from : From) (to : To) (ms : Members) (case : CaseType → Source → Target → Action (List CoreValue)) (codes : List (List Instr)) (choice : List Instr) (temp trap_at : ℕ) (n : Number) where
  -- what a sum's code needs of its setting, and of its cases
  pub record IsSum : Type 0 where
    pub narrow : IsNarrow n
    pub size : case_bytes ms ≡ size_of n
    pub all : length codes ≡ count_of_members ms
    pub readable : Readable S.whole S.places S.checks S.from S.from64 n from
    pub from_typed : FromTyped S.locals S.from64 from
    pub from_used : FromUsed used from
    pub to_used : ToUsed used to
    pub temporary : Temporary S used temp val.I32
    pub chooses : IsChoice (I.LocalGet temp ∷ []) trap_at codes choice
    pub traps : KnowsFunction S.whole S.places (import.Trap InvalidDiscriminant) trap_at [] []
    pub cases : (k : ℕ) (c : CaseType) → case_type ms k ≡ Some c → MovesCase S used from to (case c) codes k
    pub typed : AllByRecursion (IsClosedCode S.whole S.locals) codes

  module _ (h : IsSum) where
    abbrev chosen : Source → Target → ℕ → Action (List CoreValue)
    chosen s d x = elim (case_type ms x) as (λ (o : Option CaseType). Action (List CoreValue)) [ None ↦ trap InvalidDiscriminant | Some c ↦ case c s d ]

    sum_moves_so : (ls : Locals) (s : Source) (d : Target) → held_types ls ≡ S.locals → StandsAt ls S.from64 from s → MayGo used ls S.to64 to d → InRooms S ls from to
        → Does S.whole S.places Onward (331 + count_of_members ms) 0 [] ls (tagged_code S.checks n temp from choice) (read_number (is_on S.checks) S.from (size_of n) s (chosen s d)) (λ vs. []) (λ vs ls'. Stood ls' to vs × KeepsLocals used ls ls')
    sum_moves_so ls s d e st g rooms =
        within (omega arith) (reads S.checks n S.from S.from64 from s h.readable st (λ x lt.
        subst (λ v. Does S.whole S.places Onward (323 + count_of_members ms) 0 (v ∷ []) ls (I.LocalSet temp ∷ choice) (chosen s d x) (λ vs. []) (λ vs ls'. Stood ls' to vs × KeepsLocals used ls ls')) (sym (h.narrow.value x))
        (within (omega (arith, h.all)) (local_set val.I32 (ap (λ l. slice_get l temp) e ∙ h.temporary.local) refl (λ ls1 set.
        let k = set_keeps h.temporary.free set in
        weaker (λ vs. refl) (λ vs ls' r. (r.0, keeps_then k r.1))
        (choice_does ms codes trap_at x (λ c. case c s d) h.all h.traps (record { by = λ w vs. leaves_next (leaves_local_get set.here) leaves_none }) (λ i c is.
        let m = h.cases i c is in
        (m.code, m.there, m.moves.effect ls1 s d (set.types ∙ e) (stands_kept k S.from64 from s h.from_used st) (goes_kept k S.to64 to d h.to_used g) (rooms_kept k from to h.from_used h.to_used rooms))) h.chooses))))))

    -- A discriminant is read and the code of its case run, within the steps that the node has beside its checks.
    pub moves_sum : Moves S used 0 516 from to (λ s d. Visit (1 + count_of_members ms) (read_number (is_on S.checks) S.from (case_bytes ms) s (chosen s d))) (tagged_code S.checks n temp from choice)
    moves_sum = moves_same (λ s d. ap (λ z. Visit (1 + count_of_members ms) (read_number (is_on S.checks) S.from z s (chosen s d))) (sym h.size)) (record {
      effect = λ ls s d e st g rooms. visit (omega arith) (sum_moves_so ls s d e st g rooms);
      typed =
          typed_then (typed_read S.places S.checks S.from S.from64 n from h.readable h.from_typed)
          (subst (λ t. IsTyped S.whole S.locals [] (I.LocalSet temp ∷ choice) (t ∷ []) (OnStack [])) (sym h.narrow.type)
          (typed_next (takes_local_set h.temporary.local) (typed_choice trap_at h.traps (typed_one (takes_local_get h.temporary.local)) h.typed h.chooses)));
    })

-- ---- the moves of types

module _ (S : Setting) (used : ℕ → Bool) (from : From) (to : To) (ms ns : Members) (codes : List (List Instr)) (choice : List Instr) (temp trap_at : ℕ) (n : Number) (h : IsSum S used from to ms (λ c s d. move_case (transfer S) ms ns c ns 0 s d) codes choice temp trap_at n) (from_align to_align : ℕ) where
  abbrev pub checked_code : List Instr
  checked_code = node_check S from_align to_align from to ++ tagged_code S.checks n temp from choice

  pub moves_variant : Checked S (s_node k_variant ms) (s_node k_variant ns) from_align to_align from to → Moves S used 0 500 from to (move (transfer S) (s_node k_variant ms) (s_node k_variant ns)) checked_code
  unfolding move
  moves_variant c = moves_checked c (moves_sum S used from to ms (λ c s d. move_case (transfer S) ms ns c ns 0 s d) codes choice temp trap_at n h)

  pub moves_option : Checked S (s_node k_option ms) (s_node k_option ns) from_align to_align from to → Moves S used 0 500 from to (move (transfer S) (s_node k_option ms) (s_node k_option ns)) checked_code
  unfolding move
  moves_option c = moves_checked c (moves_sum S used from to ms (λ c s d. move_case (transfer S) ms ns c ns 0 s d) codes choice temp trap_at n h)

  pub moves_result : Checked S (s_node k_result ms) (s_node k_result ns) from_align to_align from to → Moves S used 0 500 from to (move (transfer S) (s_node k_result ms) (s_node k_result ns)) checked_code
  unfolding move
  moves_result c = moves_checked c (moves_sum S used from to ms (λ c s d. move_case (transfer S) ms ns c ns 0 s d) codes choice temp trap_at n h)
