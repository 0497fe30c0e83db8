-- Adapters at work, computed. A row of a table is what comes of an adapter that is given arguments, memories and answers, and what is
-- to come of it: how it ends, and the calls with their arguments.
use Rattle.std.proofs.Common.{◌≡◌, ℕ, ◌-◌, Bool, true, false, List, [], ◌∷◌, ◌++◌, map, Some, None, refl}
use Rattle.std.specs.Prelude.{codes, replicate}
use Rattle.fact_entity.specs.declared.id.Id.{Id}
use Rattle.fact_entity.specs.declared.table.RuntimeInstances.{RuntimeInstances}
use Rattle.fact_entity.specs.declared.table.TypeResourceTables.{TypeResourceTables}
use Rattle.fact_wasm.specs.declared.instr.FuncName.TheVariants as name
use Rattle.fact_wasm.specs.declared.types.ValType.TheVariants as val
use Rattle.fact_types.specs.declared.import.Import.{Import}
use Rattle.fact_types.specs.declared.import.Import.TheVariants as import
use Rattle.fact_types.specs.declared.interface.InterfaceType.{InterfaceType}
use Rattle.fact_types.specs.declared.interface.InterfaceType.TheVariants as ty
use Rattle.fact_types.specs.declared.outside.CoreDef.{CoreDef}
use Rattle.fact_types.specs.declared.outside.CoreDef.TheVariants as def
use Rattle.fact_types.specs.declared.outside.FixedEncoding.TheVariants as fixed
use Rattle.fact_types.specs.declared.outside.StringEncoding.{StringEncoding}
use Rattle.fact_types.specs.declared.outside.StringEncoding.TheVariants as string
use Rattle.fact_types.specs.declared.outside.Transcode.{Transcode}
use Rattle.fact_types.specs.declared.outside.Transcode.TheVariants as op
use Rattle.fact_types.specs.declared.outside.Trap.{Trap}
use Rattle.fact_types.specs.declared.outside.Trap.TheVariants as trap
use Rattle.fact_types.specs.declared.outside.UnsafeIntrinsic.TheVariants as slot
use Rattle.fact_types.specs.Adapters.{Side, LinkedAdapter, is_wide}
use Rattle.fact_types.specs.Layout.{aligned}
use Rattle.fact_types.specs.Shapes.{Shape, s_plain, s_node, Members, no_members, bare, typed, k_record, k_variant, k_list, k_map, k_flags, k_enum, k_fixed}
use Rattle.fact_machine.specs.declared.types.CoreValue.{CoreValue}
use Rattle.fact_machine.specs.declared.types.CoreValue.TheVariants.{I32, I64, Func}
use Rattle.fact_machine.specs.declared.types.MachineState.{MachineState}
use Rattle.fact_machine.specs.declared.types.Answer.{Answer}
use Rattle.fact_machine.specs.declared.types.Answer.TheVariants.{Returns, Traps, Throws}
use Rattle.fact_machine.specs.declared.types.End.{End}
use Rattle.fact_machine.specs.declared.types.End.TheVariants as end
use Rattle.fact_actions.specs.Adapters.{AdapterTunables, References, async_start, async_call, results_number}
use Rattle.fact_actions.specs.Moves.{move_fields}
use Rattle.fact_machine.specs.Exits.{first_world}
use Rattle.fact_actions.specs.Plain.{NamedOutcome, action_outcome, sync_outcome, plain}
use Rattle.fact_actions.specs.Running.{ImportPlaces, run, moved_weight}

-- Whatever the tables of handles are.
module _ (instances : Id RuntimeInstances) (table other : Id TypeResourceTables) where
  -- ---- adapters from instance 0 to instance 1

  abbrev pub exported : (instance : ℕ) → (name : List ℕ) → CoreDef
  exported n name = def.Export (record { number = n; table = instances.table }) name

  abbrev side : (instance : ℕ) → StringEncoding → (wide : Bool) → (params : List Shape) → Side
  side n e wide ts = record { instance = n; params = ts; results = []; async_type = false; core_type = record { params = []; results = [] }; encoding = e; async_side = false; memory = Some (record { def = exported n (codes "memory"); memory64 = wide; shared = false; page_size_log2 = 0 }); realloc = Some (exported n (codes "realloc")); callback = None; post_return = None }

  abbrev adapter : (lower lift : Side) → LinkedAdapter
  adapter lower lift = record { name = []; callee = exported 1 (codes "run"); transparent = false; lift = lift; lower = lower }

  -- with 32-bit memories, texts in UTF-8, and these parameters
  abbrev pub passing : (lower lift : List Shape) → LinkedAdapter
  passing ts us = adapter (side 0 string.Utf8 false ts) (side 1 string.Utf8 false us)

  abbrev one : LinkedAdapter
  one = passing (s_plain ty.U32 ∷ []) (s_plain ty.U32 ∷ [])

  -- the memory and the flags of the lift side come before those of the lower side; pages have one byte
  abbrev instance_of : CoreDef → ℕ
  instance_of (def.Export i name) = i.number
  instance_of _ = 0

  abbrev pub places : LinkedAdapter → ImportPlaces
  places a = record { memory = λ d. 1 - instance_of d; flags = λ n. 1 - n; function = λ f. 0; memory_types = (is_wide a.lift.memory, Some 0) ∷ (is_wide a.lower.memory, Some 0) ∷ []; global_types = val.I32 ∷ val.I32 ∷ [] }

  abbrev off : AdapterTunables
  off = record { concurrency = false; exceptions = false; debug = false }

  abbrev state : (lift lower : List ℕ) → MachineState
  state m n = record { memories = m ∷ n ∷ []; globals = I32 1 ∷ I32 1 ∷ [] }

  abbrev words : List ℕ → List CoreValue
  words ns = map (λ n. I32 n) ns

  abbrev long : List ℕ → List CoreValue
  long ns = map (λ n. I64 n) ns

  -- ---- tables

  abbrev Called : Type 0
  Called = Import × List CoreValue

  abbrev Shown : Type 0
  Shown = End × List Called

  abbrev shown : NamedOutcome → Shown
  shown o = (o.end, map (λ c. (c.what, c.args)) o.log)

  -- a sync adapter with these bytes in either memory, which no answer changes
  abbrev row : AdapterTunables → LinkedAdapter → (args : List CoreValue) → (bytes : List ℕ) → (answers : List (List CoreValue)) → Shown → Shown × Shown
  row u a args bytes answers s = (shown (sync_outcome (places a) u a args (state bytes bytes) (map (λ rs. Returns rs (state bytes bytes)) answers)), s)

  abbrev callee_of : List CoreValue → Called
  callee_of args = (import.CoreDef (exported 1 (codes "run")), args)

  abbrev realloc_of : (old old_size align new_size : ℕ) → Called
  realloc_of old size align new = (import.CoreDef (exported 1 (codes "realloc")), words (old ∷ size ∷ align ∷ new ∷ []))

  abbrev trap_of : Trap → Called
  trap_of t = (import.Trap t, [])

  -- the callee gets these, or there is a trap
  abbrev gets : List CoreValue → Shown
  gets vs = (end.Returned [], callee_of vs ∷ [])

  abbrev traps : Trap → Shown
  traps t = (end.Trapped, trap_of t ∷ [])

  abbrev passes : (lower lift : Shape) → List CoreValue → Shown → Shown × Shown
  passes t u args s = row off (passing (t ∷ []) (u ∷ [])) args [] ([] ∷ []) s

  abbrev number : InterfaceType → (given got : ℕ) → Shown × Shown
  number t m n = passes (s_plain t) (s_plain t) (I32 m ∷ []) (gets (I32 n ∷ []))

  abbrev fields : List ℕ → InterfaceType → List ℕ → InterfaceType → Shape
  fields x t y u = s_node k_record (typed x (s_plain t) (typed y (s_plain u) no_members))

  abbrev x_y : Shape
  x_y = s_node k_variant (typed (codes "x") (s_plain ty.U32) (bare (codes "y") no_members))

  abbrev z_y_x : Shape
  z_y_x = s_node k_variant (bare (codes "z") (bare (codes "y") (typed (codes "x") (s_plain ty.U32) no_members)))

  abbrev three : Members
  three = bare (codes "a") (bare (codes "b") (bare (codes "c") no_members))

  abbrev backwards : Members
  backwards = bare (codes "c") (bare (codes "b") (bare (codes "a") no_members))

  -- a payload of 32 bits in a place that has 64
  abbrev either : Shape
  either = s_node k_variant (typed (codes "p") (s_plain ty.Float32) (typed (codes "q") (s_plain ty.Float64) no_members))

  abbrev list : InterfaceType → Shape
  list t = s_node k_list (typed [] (s_plain t) no_members)

  abbrev seventeen : List Shape
  seventeen = replicate 17 (s_plain ty.U32)

  -- in memories of so many bytes
  abbrev stands : (bytes : ℕ) → (lower_wide lift_wide : Bool) → List Shape → List CoreValue → List (List CoreValue) → Shown → Shown × Shown
  stands n c b ts args answers s = row off (adapter (side 0 string.Utf8 c ts) (side 1 string.Utf8 b ts)) args (replicate n 0) answers s

  abbrev u16s : (pointer length : ℕ) → List (List CoreValue) → Shown → Shown × Shown
  u16s p n answers s = stands 16 false false (list ty.U16 ∷ []) (words (p ∷ n ∷ [])) answers s

  -- a text at 0: the realloc calls and transcodes before the callee gets pointer and length
  abbrev text : StringEncoding → StringEncoding → (length : ℕ) → (answers : List (List ℕ)) → (calls : List Called) → (got : List ℕ) → Shown × Shown
  text from to n answers calls got =
      row (record off { debug = true }) (adapter (side 0 from false (s_plain ty.String ∷ [])) (side 1 to false (s_plain ty.String ∷ []))) (words (0 ∷ n ∷ [])) (replicate 8 0) (map words answers ++ ([] ∷ [])) (end.Returned [], calls ++ callee_of (words got) ∷ [])

  abbrev coded : Transcode → List ℕ → Called
  coded o args = (import.Transcode o (exported 0 (codes "memory")) false (exported 1 (codes "memory")) false, words args)

  abbrev bad_text : (wide : Bool) → StringEncoding → List CoreValue → (answers : List (List CoreValue)) → List Called → Shown × Shown
  bad_text wide e args answers calls = row (record off { debug = true }) (adapter (side 0 e wide (s_plain ty.String ∷ [])) (side 1 string.Utf8 false (s_plain ty.String ∷ []))) args (replicate 4 0) (answers ++ ([] ∷ [])) (end.Trapped, calls)

  -- both slots of the context are read, or set
  abbrev slots_read : List Called
  slots_read = (import.UnsafeIntrinsic slot.ContextGetI32_0, []) ∷ (import.UnsafeIntrinsic slot.ContextGetI32_1, []) ∷ []

  abbrev slots_set : ℕ → ℕ → List Called
  slots_set m n = (import.UnsafeIntrinsic slot.ContextSetI32_0, I32 m ∷ []) ∷ (import.UnsafeIntrinsic slot.ContextSetI32_1, I32 n ∷ []) ∷ []

  abbrev ends : AdapterTunables → (lower_flags : ℕ) → List Answer → Shown → Shown × Shown
  ends u n answers s = (shown (sync_outcome (places one) u one (I32 7 ∷ []) (record { memories = [] ∷ [] ∷ []; globals = I32 1 ∷ I32 n ∷ [] }) answers), s)

  abbrev waiting : (async_side : Bool) → (results : List Shape) → LinkedAdapter
  waiting b rs = record one { lower = record one.lower { async_side = b; results = rs }; lift = record one.lift { results = rs } }

  -- ---- the table

  abbrev rows : List (Shown × Shown)
  rows =
      -- numbers
      number ty.U32 7 7 ∷ number ty.Bool 5 1
      ∷ number ty.U8 511 255 ∷ number ty.S8 0x180 0xFFFF_FF80
      ∷ number ty.U16 0x1_8000 0x8000 ∷ number ty.S16 0x1_8000 0xFFFF_8000
      ∷ number ty.Char 0xD7FF 0xD7FF ∷ passes (s_plain ty.Char) (s_plain ty.Char) (I32 0xD800 ∷ []) (traps trap.InvalidChar)
      ∷ passes (s_plain ty.Char) (s_plain ty.Char) (I32 0xDFFF ∷ []) (traps trap.InvalidChar) ∷ number ty.Char 0xE000 0xE000
      ∷ number ty.Char 0x10_FFFF 0x10_FFFF ∷ passes (s_plain ty.Char) (s_plain ty.Char) (I32 0x11_0000 ∷ []) (traps trap.InvalidChar)
      -- records, variants, enums and flags
      ∷ passes (fields (codes "a") ty.U8 (codes "b") ty.U32) (fields (codes "b") ty.U32 (codes "a") ty.U8) (words (511 ∷ 7 ∷ [])) (gets (words (7 ∷ 255 ∷ [])))
      ∷ passes x_y z_y_x (words (0 ∷ 9 ∷ [])) (gets (words (2 ∷ 9 ∷ []))) ∷ passes x_y z_y_x (words (1 ∷ 5 ∷ [])) (gets (words (1 ∷ 0 ∷ []))) ∷ passes x_y z_y_x (words (2 ∷ 0 ∷ [])) (traps trap.InvalidDiscriminant)
      ∷ passes (s_node k_enum three) (s_node k_enum three) (I32 2 ∷ []) (gets (I32 2 ∷ [])) ∷ passes (s_node k_enum three) (s_node k_enum three) (I32 3 ∷ []) (traps trap.InvalidDiscriminant)
      ∷ passes (s_node k_flags three) (s_node k_flags three) (I32 255 ∷ []) (gets (I32 7 ∷ []))
      ∷ passes (s_node k_flags three) (s_node k_flags backwards) (I32 3 ∷ []) (gets (I32 6 ∷ [])) ∷ passes (s_node k_flags three) (s_node k_flags backwards) (I32 13 ∷ []) (gets (I32 5 ∷ []))
      ∷ passes either either (I32 0 ∷ I64 0x1_0000_0001 ∷ []) (gets (I32 0 ∷ I64 1 ∷ []))
      ∷ row (record off { debug = true }) (passing (either ∷ []) (either ∷ [])) (I32 0 ∷ I64 0x1_0000_0001 ∷ []) [] ([] ∷ []) (traps trap.DebugAssertUpperBitsUnset)
      -- lists, maps and tuples through pointers
      ∷ u16s 1 0 ([] ∷ []) (traps trap.UnalignedPointer) ∷ u16s 18 0 ([] ∷ []) (traps trap.ListOutOfBounds) ∷ u16s 1 0x8000_0000 ([] ∷ []) (traps trap.ListOutOfBounds)
      ∷ u16s 16 0 (words (0 ∷ []) ∷ [] ∷ []) (end.Returned [], realloc_of 0 0 2 0 ∷ callee_of (words (0 ∷ 0 ∷ [])) ∷ [])
      ∷ u16s 0 2 (words (14 ∷ []) ∷ [] ∷ []) (end.Trapped, realloc_of 0 0 2 4 ∷ trap_of trap.ListOutOfBounds ∷ []) ∷ u16s 0 2 (words (1 ∷ []) ∷ [] ∷ []) (end.Trapped, realloc_of 0 0 2 4 ∷ trap_of trap.UnalignedPointer ∷ [])
      ∷ stands 16 true false (list ty.U8 ∷ []) (long (0xFFFF_FFFF_FFFF_FFFF ∷ 2 ∷ [])) ([] ∷ []) (traps trap.ListOutOfBounds)
      ∷ stands 16 false true (s_node k_map (typed (codes "key") (s_plain ty.U8) (typed (codes "value") (s_plain ty.U32) no_members)) ∷ []) (words (0 ∷ 1 ∷ [])) (long (4 ∷ []) ∷ [] ∷ []) (end.Returned [], (import.CoreDef (exported 1 (codes "realloc")), long (0 ∷ 0 ∷ 4 ∷ 8 ∷ [])) ∷ callee_of (long (4 ∷ 1 ∷ [])) ∷ [])
      ∷ stands 16 false false (replicate 16 (s_plain ty.U32)) (replicate 16 (I32 3)) ([] ∷ []) (gets (replicate 16 (I32 3)))
      ∷ stands 80 false false seventeen (I32 4 ∷ []) (words (8 ∷ []) ∷ [] ∷ []) (end.Returned [], realloc_of 0 0 4 68 ∷ callee_of (I32 8 ∷ []) ∷ [])
      ∷ stands 80 false false seventeen (I32 2 ∷ []) ([] ∷ []) (traps trap.UnalignedPointer) ∷ stands 16 false false seventeen (I32 4 ∷ []) ([] ∷ []) (traps trap.MemoryOutOfBounds)
      ∷ stands 44 true false (s_node (k_fixed 20) (typed [] (s_plain ty.U16) no_members) ∷ []) (I64 2 ∷ []) (words (4 ∷ []) ∷ [] ∷ []) (end.Returned [], realloc_of 0 0 2 40 ∷ callee_of (I32 4 ∷ []) ∷ [])
      -- texts at 0
      -- "aé" and "ab" from UTF-16 to UTF-8
      ∷ text string.Utf16 string.Utf8 2 ((2 ∷ []) ∷ (1 ∷ 1 ∷ []) ∷ (2 ∷ []) ∷ (1 ∷ 2 ∷ []) ∷ (2 ∷ []) ∷ [])
      (realloc_of 0 0 1 2 ∷ coded op.Utf16ToUtf8 (0 ∷ 2 ∷ 2 ∷ 2 ∷ 1 ∷ []) ∷ realloc_of 2 2 1 6 ∷ coded op.Utf16ToUtf8 (2 ∷ 1 ∷ 3 ∷ 5 ∷ 0 ∷ []) ∷ realloc_of 2 6 1 3 ∷ []) (2 ∷ 3 ∷ [])
      ∷ text string.Utf16 string.Utf8 2 ((2 ∷ []) ∷ (2 ∷ 2 ∷ []) ∷ []) (realloc_of 0 0 1 2 ∷ coded op.Utf16ToUtf8 (0 ∷ 2 ∷ 2 ∷ 2 ∷ 1 ∷ []) ∷ []) (2 ∷ 2 ∷ [])
      -- "é" and "ł" from UTF-8 to compact
      ∷ text string.Utf8 string.CompactUtf16 2 ((2 ∷ []) ∷ (2 ∷ 1 ∷ []) ∷ (2 ∷ []) ∷ []) (realloc_of 0 0 2 2 ∷ coded op.Utf8ToLatin1 (0 ∷ 2 ∷ 2 ∷ []) ∷ realloc_of 2 2 2 1 ∷ []) (2 ∷ 1 ∷ [])
      ∷ text string.Utf8 string.CompactUtf16 2 ((2 ∷ []) ∷ (0 ∷ 0 ∷ []) ∷ (2 ∷ []) ∷ (1 ∷ []) ∷ (2 ∷ []) ∷ [])
      (realloc_of 0 0 2 2 ∷ coded op.Utf8ToLatin1 (0 ∷ 2 ∷ 2 ∷ []) ∷ realloc_of 2 2 2 4 ∷ coded op.Utf8ToCompactUtf16 (0 ∷ 2 ∷ 2 ∷ 2 ∷ 0 ∷ []) ∷ realloc_of 2 4 2 2 ∷ []) (2 ∷ 0x8000_0001 ∷ [])
      -- the other pairs
      ∷ text string.Utf8 string.Utf8 0 ((0 ∷ []) ∷ [] ∷ []) (realloc_of 0 0 1 0 ∷ coded (op.Copy fixed.Utf8) (0 ∷ 0 ∷ 0 ∷ []) ∷ []) (0 ∷ 0 ∷ [])
      ∷ text string.Utf8 string.Utf16 2 ((4 ∷ []) ∷ (1 ∷ []) ∷ (4 ∷ []) ∷ []) (realloc_of 0 0 2 4 ∷ coded op.Utf8ToUtf16 (0 ∷ 2 ∷ 4 ∷ []) ∷ realloc_of 4 4 2 2 ∷ []) (4 ∷ 1 ∷ [])
      ∷ text string.Utf16 string.CompactUtf16 3 ((2 ∷ []) ∷ (1 ∷ 1 ∷ []) ∷ (2 ∷ []) ∷ (3 ∷ []) ∷ [])
      (realloc_of 0 0 2 3 ∷ coded op.Utf16ToLatin1 (0 ∷ 3 ∷ 2 ∷ []) ∷ realloc_of 2 3 2 6 ∷ coded op.Utf16ToCompactUtf16 (2 ∷ 2 ∷ 2 ∷ 3 ∷ 1 ∷ []) ∷ []) (2 ∷ 0x8000_0003 ∷ [])
      ∷ text string.CompactUtf16 string.Utf8 1 ((3 ∷ []) ∷ (0 ∷ 0 ∷ []) ∷ (3 ∷ []) ∷ (1 ∷ 2 ∷ []) ∷ [])
      (realloc_of 0 0 1 1 ∷ coded op.Latin1ToUtf8 (0 ∷ 1 ∷ 3 ∷ 1 ∷ 1 ∷ []) ∷ realloc_of 3 1 1 2 ∷ coded op.Latin1ToUtf8 (0 ∷ 1 ∷ 3 ∷ 2 ∷ 0 ∷ []) ∷ []) (3 ∷ 2 ∷ [])
      ∷ text string.CompactUtf16 string.Utf16 3 ((2 ∷ []) ∷ [] ∷ []) (realloc_of 0 0 2 6 ∷ coded op.Latin1ToUtf16 (0 ∷ 3 ∷ 2 ∷ []) ∷ []) (2 ∷ 3 ∷ [])
      ∷ text string.CompactUtf16 string.CompactUtf16 3 ((2 ∷ []) ∷ [] ∷ []) (realloc_of 0 0 2 3 ∷ coded (op.Copy fixed.Latin1) (0 ∷ 3 ∷ 2 ∷ []) ∷ []) (2 ∷ 3 ∷ [])
      ∷ text string.CompactUtf16 string.CompactUtf16 0x8000_0001 ((2 ∷ []) ∷ (1 ∷ []) ∷ (2 ∷ []) ∷ []) (realloc_of 0 0 2 2 ∷ coded op.Utf16ToCompactProbablyUtf16 (0 ∷ 1 ∷ 2 ∷ []) ∷ realloc_of 2 2 2 1 ∷ []) (2 ∷ 1 ∷ [])
      ∷ text string.CompactUtf16 string.CompactUtf16 0x8000_0002 ((4 ∷ []) ∷ (0x8000_0002 ∷ []) ∷ []) (realloc_of 0 0 2 4 ∷ coded op.Utf16ToCompactProbablyUtf16 (0 ∷ 2 ∷ 4 ∷ []) ∷ []) (4 ∷ 0x8000_0002 ∷ [])
      -- sources that trap, and one of which all is read, and too little written
      ∷ bad_text true string.Utf16 (long (0 ∷ 0x8000_0000 ∷ [])) [] (trap_of trap.StringOutOfBounds ∷ []) ∷ bad_text false string.Utf16 (words (0 ∷ 0x8000_0000 ∷ [])) [] (trap_of trap.StringOutOfBounds ∷ []) ∷ bad_text false string.CompactUtf16 (words (1 ∷ 1 ∷ [])) [] (trap_of trap.UnalignedPointer ∷ [])
      ∷ bad_text false string.Utf16 (words (0 ∷ 1 ∷ [])) (words (0 ∷ []) ∷ words (1 ∷ 0 ∷ []) ∷ [])
      (realloc_of 0 0 1 1 ∷ coded op.Utf16ToUtf8 (0 ∷ 1 ∷ 0 ∷ 1 ∷ 1 ∷ []) ∷ trap_of trap.DebugAssertStringEncodingFinished ∷ [])
      -- handles, and what the runtime is told
      ∷ row off (passing (s_plain (ty.Own table) ∷ []) (s_plain (ty.Own other) ∷ [])) (I32 9 ∷ []) [] (words (3 ∷ []) ∷ [] ∷ []) (end.Returned [], (import.ResourceTransferOwn, words (9 ∷ table.number ∷ other.number ∷ [])) ∷ callee_of (I32 3 ∷ []) ∷ [])
      -- a borrow is lent
      ∷ row off (passing (s_plain (ty.Borrow table) ∷ []) (s_plain (ty.Borrow other) ∷ [])) (I32 9 ∷ []) [] ([] ∷ words (3 ∷ []) ∷ [] ∷ [] ∷ [])
      (end.Returned [], (import.EnterSyncCall, words (0 ∷ 1 ∷ [])) ∷ (import.ResourceTransferBorrow, words (9 ∷ table.number ∷ other.number ∷ [])) ∷ callee_of (I32 3 ∷ []) ∷ (import.ExitSyncCall, []) ∷ [])
      -- the slots of the context around realloc and around post-return, the latter with those that the callee left
      ∷ row (record off { concurrency = true }) (let a = passing (list ty.U8 ∷ []) (list ty.U8 ∷ []) in record a { transparent = true; lift = record a.lift { post_return = Some (exported 1 (codes "post-return")) } }) (words (0 ∷ 1 ∷ [])) (replicate 2 0)
      (map words ((7 ∷ []) ∷ (8 ∷ []) ∷ [] ∷ [] ∷ (1 ∷ []) ∷ [] ∷ [] ∷ [] ∷ (3 ∷ []) ∷ (4 ∷ []) ∷ (5 ∷ []) ∷ (6 ∷ []) ∷ [] ∷ [] ∷ [] ∷ [] ∷ [] ∷ [])) (
        end.Returned [],
        slots_read ++ slots_set 0 0 ++ realloc_of 0 0 1 1 ∷ slots_set 7 8 ++ callee_of (words (1 ∷ 1 ∷ [])) ∷ slots_read
            ++ slots_read ++ slots_set 3 4 ++ (import.CoreDef (exported 1 (codes "post-return")), []) ∷ slots_set 5 6,
      )
      ∷ row (record off { concurrency = true }) one (I32 7 ∷ []) [] ([] ∷ [] ∷ [] ∷ []) (end.Returned [], (import.EnterSyncCall, words (0 ∷ 1 ∷ [])) ∷ callee_of (I32 7 ∷ []) ∷ (import.ExitSyncCall, []) ∷ [])
      -- flags, the barrier, missing answers, and async adapters
      ∷ ends off 0 (Traps ∷ []) (traps trap.CannotLeaveComponent) ∷ ends off 1 [] (end.Lacks, []) ∷ ends off 1 (Throws ∷ Traps ∷ []) (end.Thrown, callee_of (I32 7 ∷ []) ∷ [])
      ∷ ends (record off { exceptions = true }) 1 (Throws ∷ Traps ∷ []) (end.Trapped, callee_of (I32 7 ∷ []) ∷ trap_of trap.UncaughtException ∷ [])
      ∷ (
        let r : References = record { start = name.Defined 0; return = name.Defined 1; callee = name.Import 0; results = 1 } in
            shown (action_outcome (places one) (async_call (waiting true []) r (I32 7 ∷ [])) (state [] []) (Returns [] (state [] []) ∷ Returns (I32 2 ∷ []) (state [] []) ∷ [])),
        (
          end.Returned (I32 2 ∷ []),
          (import.PrepareCall (Some (exported 1 (codes "memory"))), Func (name.Defined 0) ∷ Func (name.Defined 1) ∷ words (0 ∷ 1 ∷ 1 ∷ 0 ∷ 0 ∷ 0xFFFF_FFFF ∷ 7 ∷ []))
              ∷ (import.StartCall None None, Func (name.Import 0) ∷ words (1 ∷ 0 ∷ 2 ∷ [])) ∷ [],
        ),
      )
      ∷ []

  rows_hold : map (λ r. r.0) rows ≡ map (λ r. r.1) rows
  unfolding move_fields aligned
  rows_hold = refl

  -- elements go to where realloc says, and results to the return pointer
  bytes_stand :
      (let a = passing (list ty.U16 ∷ []) (list ty.U16 ∷ []) in
      let s = state (replicate 8 0) (0 ∷ 0 ∷ 1 ∷ 2 ∷ 3 ∷ 4 ∷ []) in
      let rs = s_plain ty.U8 ∷ s_plain ty.U32 ∷ [] in
      let b = record one { lower = record one.lower { params = []; results = rs }; lift = record one.lift { params = []; results = rs } } in
      let r = state (5 ∷ 0 ∷ 0 ∷ 0 ∷ 7 ∷ 0 ∷ 0 ∷ 0 ∷ []) (replicate 12 9) in
      (plain (places a) off a (words (2 ∷ 2 ∷ [])) s (Returns (words (4 ∷ [])) s ∷ Traps ∷ [])).state.memories ++ (plain (places b) off b (words (4 ∷ [])) r (Returns (words (0 ∷ [])) r ∷ [])).state.memories)
      ≡ (0 ∷ 0 ∷ 0 ∷ 0 ∷ 1 ∷ 2 ∷ 3 ∷ 4 ∷ []) ∷ (0 ∷ 0 ∷ 1 ∷ 2 ∷ 3 ∷ 4 ∷ []) ∷ (5 ∷ 0 ∷ 0 ∷ 0 ∷ 7 ∷ 0 ∷ 0 ∷ 0 ∷ []) ∷ (9 ∷ 9 ∷ 9 ∷ 9 ∷ 5 ∷ 9 ∷ 9 ∷ 9 ∷ 7 ∷ 0 ∷ 0 ∷ 0 ∷ []) ∷ []
  unfolding move_fields aligned
  bytes_stand = refl

  abbrev weight : Shape → List ℕ → ℕ
  weight t args = (let a = passing (t ∷ []) (t ∷ []) in moved_weight (run (places a) (async_start off a (words args)) (first_world (state [] []) [])))

  -- the numbers of results that the runtime is told of, and the weights of what is moved
  numbers_hold : map (λ a. results_number a.lower) (waiting true [] ∷ waiting true (s_plain ty.U32 ∷ []) ∷ waiting false [] ∷ waiting false (s_plain ty.String ∷ s_plain ty.U32 ∷ []) ∷ waiting false seventeen ∷ waiting false (s_node (k_fixed 20) (typed [] (s_plain ty.U16) no_members) ∷ []) ∷ []) ++ (weight (s_plain ty.U32) (1 ∷ []) ∷ weight (s_node k_enum three) (1 ∷ []) ∷ weight x_y (0 ∷ 9 ∷ []) ∷ weight x_y (1 ∷ 5 ∷ []) ∷ []) ≡ 0xFFFF_FFFF ∷ 0xFFFF_FFFE ∷ 0 ∷ 3 ∷ 17 ∷ 0x7FFF_FFFF ∷ 1 ∷ 1 ∷ 4 ∷ 3 ∷ []
  unfolding move_fields aligned
  numbers_hold = refl
