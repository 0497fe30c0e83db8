-- How pieces of the code of strings compose; their tests, requests of memory and calls of transcoders.
use Rattle.std.proofs.Common.{◌≡◌, ℕ, suc, Bool, true, false, List, [], ◌∷◌, ◌++◌, length, refl, sym, ap, ◌∙◌, subst, append_assoc, arith}
use Rattle.std.specs.Prelude.{◌&&◌}
use Rattle.std.proofs.lemmas.List.{append_cancel_left}
use Rattle.fact_wasm.specs.declared.instr.FuncName.TheVariants as func
use Rattle.fact_wasm.specs.declared.instr.Instr.{Instr, the_lemmas}
use Rattle.fact_wasm.specs.declared.instr.Instr.TheVariants as I
use Rattle.fact_wasm.specs.declared.module.WasmModule.{WasmModule}
use Rattle.fact_wasm.specs.declared.types.ValType.{ValType}
use Rattle.fact_wasm.specs.Ranges.{AreRanged}
use Rattle.fact_types.specs.declared.outside.CoreDef.{CoreDef}
use Rattle.fact_types.specs.declared.outside.CoreDef.TheVariants as def
use Rattle.fact_types.specs.declared.outside.Transcode.{Transcode}
use Rattle.fact_types.specs.declared.outside.Trap.{Trap}
use Rattle.fact_types.specs.declared.outside.Trap.TheVariants.{StringOutOfBounds, UnalignedPointer}
use Rattle.fact_types.specs.declared.import.Import.{Import}
use Rattle.fact_types.specs.declared.import.Import.TheVariants as import
use Rattle.fact_actions.specs.Paths.{Amount, Test}
use Rattle.fact_actions.specs.Running.{ImportPlaces}
use Rattle.fact_actions.specs.Transcoders.{transcode_kind}
use Rattle.fact_code_laws.specs.Code.{guard_code}
use Rattle.fact_code_laws.specs.Context.{HasSlotsIf, restore_code, save_code}
use Rattle.fact_code_laws.specs.Knows.{KnowsFunction}
use Rattle.fact_code_laws.specs.Places.{is_on}
use Rattle.fact_code_laws.specs.StringCode.{StringMove, amount_code, answer_code, assert_code, from_address, limit_code, pass_code, regrow_code, resize_code, source_code, target_code, test_code}
use Rattle.fact_code_laws.specs.StringNeeds.{Needs, NeedsNone, NeedsRegion, NeedsRequest, NeedsTranscoder, NeedsTrap}
use Rattle.fact_code_laws.specs.Tests.{region_code}
use Rattle.fact_emit.specs.declared.places.Sides.{Sides}
use Rattle.fact_emit.specs.declared.string_locals.StringLocals.{StringLocals}
use Rattle.fact_emit.specs.declared.transcoders.Transcoder.{Transcoder}
use Rattle.fact_emit.specs.declared.writer.Writer.{Writer}
use Rattle.fact_emit.specs.Checks.{ChecksRegion, Guarded}
use Rattle.fact_emit.specs.Emits.{Emits}
use Rattle.fact_emit.specs.NamedFunctions.{imported_named}
use Rattle.fact_emit.specs.Pieces.{Is, Piece}
use Rattle.fact_emit.specs.Places.{checks_at}
use Rattle.fact_emit.specs.RuntimeCalls.{SavesSlots, WritesSlots}
use Rattle.fact_emit.specs.States.{AreMemoriesImported, HaveMemoryWidths, ModuleSoFar, functions_of}
use Rattle.fact_emit.specs.StringPieces.{AreSidesImported, IsPart, NeedsBoth, NeedsTrapIf, StringPiece, WroteStringPart, string_move, transcoder_between}
use Rattle.fact_emit.specs.Writers.{Wrote, TookTranscoder}
use Rattle.fact_emit.proofs.CheckMoves.{guard_is, guarded_as, trap_is}
use Rattle.fact_emit.proofs.Emitting.{emits_as, emits_before, emits_nothing, emits_then, emits_transcoding, emits_wrote}
use Rattle.fact_emit.proofs.RangedCode.{set_ranged, unreachable_ranged}
use Rattle.fact_emit.proofs.RequestMoves.{region_at}
use Rattle.fact_emit.proofs.RequestRanged.{realloc_on}
use Rattle.fact_emit.proofs.StringRanged.{amount_ranged, answer_ranged, from_address_ranged, regrow_ranged, source_ranged, target_ranged}

-- ---- calls

call_named : (place : ℕ) → imported_named (I.Call (func.Import place) ∷ []) ≡ place ∷ []
call_named place = simp the_lemmas

call_ranged : (place : ℕ) → AreRanged (suc place) 0 (I.Call (func.Import place) ∷ [])
call_ranged place = (simp the_lemmas (omega arith, tt), tt)

-- the place of a function that is known is the one that the places of imports have
known_at : {M : WasmModule} {p : ImportPlaces} {i : Import} {place : ℕ} {params results : List ValType} → KnowsFunction M p i place params results → KnowsFunction M p i (p.function i) params results
known_at {M} {p} {i} {params = params} {results} k = subst (λ n. KnowsFunction M p i n params results) (sym k.placed) k

-- ---- parts

-- the code of a part
abbrev pub Part : Type 0
Part = StringMove → List Instr

-- the check of a region of the destination, and of one of the source
abbrev pub region_to : ℕ → Part
region_to align m = region_code m.to_memory m.to64 m.to_log2 align m.temporaries.region m.temporaries.bytes m.temporaries.length (m.trap UnalignedPointer) (m.trap StringOutOfBounds)

abbrev pub region_from : ℕ → Part
region_from align m = region_code m.from_memory m.from64 m.from_log2 align m.temporaries.source m.temporaries.bytes m.temporaries.length (m.trap UnalignedPointer) (m.trap StringOutOfBounds)

-- what stands behind the two amounts of a request
abbrev behind_amounts : StringMove → ℕ → List Instr
behind_amounts m align =
    save_code m.concurrency m.slots ++ (regrow_code m.realloc m.to64 m.temporaries.region m.temporaries.before align m.temporaries.bytes ++ (restore_code m.concurrency m.slots
    ++ (from_address m.to64 ++ (I.LocalSet m.temporaries.region ∷ region_to align m))))

in_order : (m : StringMove) (align : ℕ) (x y : Amount)
    → (amount_code m x ++ ((I.LocalSet m.temporaries.before ∷ []) ++ (amount_code m y ++ (I.LocalSet m.temporaries.bytes ∷ [])))) ++ behind_amounts m align ≡ resize_code m align x y
in_order m align x y =
    append_assoc (amount_code m x) (I.LocalSet m.temporaries.before ∷ (amount_code m y ++ (I.LocalSet m.temporaries.bytes ∷ []))) (behind_amounts m align)
    ∙ ap (λ c. amount_code m x ++ (I.LocalSet m.temporaries.before ∷ c)) (append_assoc (amount_code m y) (I.LocalSet m.temporaries.bytes ∷ []) (behind_amounts m align))

-- one of two is not there
both_there : (a b : Bool) → a && b ≡ false → a ≡ true → b ≡ true → ⊥
both_there true true none x y = let no' : true ≡ false = none in absurd (cc)
both_there true false none x y = let no' : false ≡ true = y in absurd (cc)
both_there false b none x y = let no' : false ≡ true = x in absurd (cc)

-- both are there
pub first_there : (a b : Bool) → a && b ≡ true → a ≡ true
first_there true b h = refl
first_there false b h = h

pub second_there : (a b : Bool) → a && b ≡ true → b ≡ true
second_there true b h = h
second_there false b h = absurd (let no' : false ≡ true = h in cc)

-- ---- parts that call no function

-- Any places and any definition: what they are is not seen in such a part.
pub nowhere : ImportPlaces
nowhere = record { memory = λ d. 0; flags = λ n. 0; function = λ i. 0; memory_types = []; global_types = [] }

pub no_def : CoreDef
no_def = def.InstanceFlags (record { table = _; number = 0 })

-- code behind none
pub emits_behind_none : {P : Piece} {a b c : Writer} → Wrote a b [] → Emits b c P → Emits a c P
emits_behind_none {P} w x = emits_then {P = Is []} (λ M p locals c k is g. subst (λ c. P M p locals (c ++ k)) (sym is) g) (emits_wrote tt w) x

-- the same code in other words
pub code_as : {a b : Writer} {xs ys : List Instr} → xs ≡ ys → Wrote a b xs → Wrote a b ys
code_as {a} {b} same w = subst (Wrote a b) same w

same_added : {a b : Writer} {xs ys : List Instr} → Wrote a b xs → Wrote a b ys → xs ≡ ys
same_added {a} {xs = xs} {ys} x y = append_cancel_left a.code.items xs ys (sym x.code ∙ y.code)

module _ {sides : Sides} {l : StringLocals} where
  pub piece_part : {a b : Writer} (P : Part) → ((m : StringMove) → AreRanged 0 0 (P m)) → WroteStringPart sides l P a b → Emits a b (StringPiece sides l P NeedsNone)
  piece_part P ranged w =
      let x = w nowhere no_def no_def in
      emits_as (λ M p locals code is. record { is = λ d e h. is ∙ same_added x (w p d e); has = λ d e h. tt }) (emits_wrote (ranged (string_move sides l nowhere no_def no_def)) x)

  pub piece_code : {xs : List Instr} {a b : Writer} → AreRanged 0 0 xs → Wrote a b xs → Emits a b (StringPiece sides l (λ m. xs) NeedsNone)
  piece_code ranged x = emits_as (λ M p locals code is. record { is = λ d e h. is; has = λ d e h. tt }) (emits_wrote ranged x)

  -- they may name functions that were imported before
  pub piece_before : {xs : List Instr} {a b : Writer} → AreRanged (length (functions_of a.sections)) 0 xs → Wrote a b xs → Emits a b (StringPiece sides l (λ m. xs) NeedsNone)
  piece_before ranged x = emits_as (λ M p locals code is. record { is = λ d e h. is; has = λ d e h. tt }) (emits_before ranged x)

  -- the code of a part that was written aside
  pub part_ranged : {P : Part} {xs : List Instr} → ((m : StringMove) → AreRanged 0 0 (P m)) → IsPart sides l P xs → AreRanged 0 0 xs
  part_ranged ranged x = subst (AreRanged 0 0) (sym (x.is nowhere no_def no_def)) (ranged (string_move sides l nowhere no_def no_def))

  -- ---- one after another

  pub piece_then : {P Q : Part} {N O : Needs} {a b c : Writer} → Emits a b (StringPiece sides l P N) → Emits b c (StringPiece sides l Q O) → Emits a c (StringPiece sides l (λ m. P m ++ Q m) (NeedsBoth N O))
  piece_then x y = emits_then (λ M p locals c k f g. record { is = λ d e h. (λ i. f.is d e h i ++ g.is d e h i); has = λ d e h. (f.has d e h, g.has d e h) }) x y

  -- the same code in other words
  pub piece_as : {P Q : Part} {N : Needs} {a b : Writer} → ((p : ImportPlaces) (d e : CoreDef) → P (string_move sides l p d e) ≡ Q (string_move sides l p d e)) → Emits a b (StringPiece sides l P N) → Emits a b (StringPiece sides l Q N)
  piece_as same x = emits_as (λ M p locals c g. record { is = λ d e h. g.is d e h ∙ same p d e; has = g.has }) x

  -- less is said of the functions that are called
  pub piece_needs : {P : Part} {N O : Needs} {a b : Writer} → ((m : StringMove) (M : WasmModule) (p : ImportPlaces) (d e : CoreDef) → N m M p d e → O m M p d e) → Emits a b (StringPiece sides l P N) → Emits a b (StringPiece sides l P O)
  piece_needs f x = emits_as (λ M p locals c g. record { is = g.is; has = λ d e h. f (string_move sides l p d e) M p d e (g.has d e h) }) x

  -- code that calls none in front, and behind
  pub piece_behind : {P Q : Part} {O : Needs} {a b c : Writer} → Emits a b (StringPiece sides l P NeedsNone) → Emits b c (StringPiece sides l Q O) → Emits a c (StringPiece sides l (λ m. P m ++ Q m) O)
  piece_behind {O = O} x y = piece_needs {N = NeedsBoth NeedsNone O} (λ m M p d e h. h.1) (piece_then x y)

  pub piece_front : {P Q : Part} {N : Needs} {a b c : Writer} → Emits a b (StringPiece sides l P N) → Emits b c (StringPiece sides l Q NeedsNone) → Emits a c (StringPiece sides l (λ m. P m ++ Q m) N)
  piece_front {N = N} x y = piece_needs {N = NeedsBoth N NeedsNone} (λ m M p d e h. h.0) (piece_then x y)

  -- ---- tests that trap

  pub limit_checked : {a b : Writer} {test : List Instr} (factor : ℕ) → test ≡ limit_code l.units factor → Emits a b (Guarded test StringOutOfBounds [])
      → Emits a b (StringPiece sides l (λ m. guard_code (limit_code m.temporaries.units factor) (m.trap StringOutOfBounds)) (NeedsTrap StringOutOfBounds))
  limit_checked factor is x = emits_as (λ M p locals c g. record { is = λ d e h. guard_is g; has = λ d e h. trap_is g }) (guarded_as is x)

  pub asserted : {a b : Writer} {test : List Instr} (t : Trap) (test_is : Test) → sides.debug ≡ true → IsPart sides l (λ m. test_code m test_is) test → Emits a b (Guarded test t [])
      → Emits a b (StringPiece sides l (λ m. assert_code m t test_is) (NeedsTrapIf t))
  asserted t test_is on part x = emits_as (λ M p locals c g. record {
    is = λ d e h. guard_is g ∙ ap (λ test. guard_code test (p.function (import.Trap t))) (part.is p d e) ∙ shown p d e sides.debug on;
    has = λ d e h u. trap_is g;
  }) x
    where
      shown : (p : ImportPlaces) (d e : CoreDef) (debug : Bool) → debug ≡ true
          → guard_code (test_code (string_move sides l p d e) test_is) (p.function (import.Trap t)) ≡ assert_code (record (string_move sides l p d e) { checks = checks_at debug p }) t test_is
      shown p d e true on = refl
      shown p d e false on = absurd (let no : false ≡ true = on in cc)

  pub not_asserted : (a : Writer) (t : Trap) (test_is : Test) → sides.debug ≡ false → Emits a a (StringPiece sides l (λ m. assert_code m t test_is) (NeedsTrapIf t))
  not_asserted a t test_is off = emits_nothing (λ M p locals. record { is = λ d e h. shown p d e sides.debug off; has = λ d e h on. absurd (unchecked p sides.debug off on) })
    where
      shown : (p : ImportPlaces) (d e : CoreDef) (debug : Bool) → debug ≡ false → [] ≡ assert_code (record (string_move sides l p d e) { checks = checks_at debug p }) t test_is
      shown p d e false off = refl
      shown p d e true off = absurd (let no : true ≡ false = off in cc)

      unchecked : (p : ImportPlaces) (debug : Bool) → debug ≡ false → is_on (checks_at debug p) ≡ true → ⊥
      unchecked p false off on = let no : false ≡ true = on in absurd (cc)
      unchecked p true off on = let no : true ≡ false = off in absurd (cc)

  -- ---- a region

  pub to_region : {a b : Writer} {align : ℕ} → Emits a b (ChecksRegion sides.to align l.region l.bytes l.length StringOutOfBounds) → Emits a b (StringPiece sides l (region_to align) (NeedsRegion align))
  to_region x = emits_as (λ M p locals c g. let r = region_at M p locals c g in record { is = λ d e h. r.is; has = λ d e h. record { outside = r.outside; unaligned = r.unaligned } }) x

  pub from_region : {a b : Writer} {align : ℕ} → Emits a b (ChecksRegion sides.from align l.source l.bytes l.length StringOutOfBounds) → Emits a b (StringPiece sides l (region_from align) (NeedsRegion align))
  from_region x = emits_as (λ M p locals c g. let r = region_at M p locals c g in record { is = λ d e h. r.is; has = λ d e h. record { outside = r.outside; unaligned = r.unaligned } }) x

  saved : {a b : Writer} → Emits a b (SavesSlots sides.concurrency l.context) → Emits a b (StringPiece sides l (λ m. save_code m.concurrency m.slots) (λ m M p d e. HasSlotsIf m.concurrency M p m.slots))
  saved x = emits_as (λ M p locals c g. record { is = λ d e h. g.is; has = λ d e h. g.has }) x

  restored : {a b : Writer} → Emits a b (WritesSlots sides.concurrency l.context) → Emits a b (StringPiece sides l (λ m. restore_code m.concurrency m.slots) NeedsNone)
  restored x = emits_as (λ M p locals c g. record { is = λ d e h. g.is; has = λ d e h. tt }) x

  -- what realloc answers is kept and checked
  answered : {a b c d : Writer} {align : ℕ} → Emits a b (WritesSlots sides.concurrency l.context) → Wrote b c (from_address sides.to.memory64) → Wrote c d (I.LocalSet l.region ∷ []) → {e : Writer} → Emits d e (ChecksRegion sides.to align l.region l.bytes l.length StringOutOfBounds)
      → Emits a e (StringPiece sides l (λ m. restore_code m.concurrency m.slots ++ (from_address sides.to.memory64 ++ ((I.LocalSet l.region ∷ []) ++ region_to align m))) (NeedsRegion align))
  answered restores answer region checks = piece_behind (restored restores) (piece_behind (piece_code (from_address_ranged sides.to.memory64) answer) (piece_behind (piece_code (set_ranged l.region) region) (to_region checks)))

  -- the amounts before and after
  amounts_put : {a b c d e : Writer} (x y : Amount) → WroteStringPart sides l (λ m. amount_code m x) a b → Wrote b c (I.LocalSet l.before ∷ []) → WroteStringPart sides l (λ m. amount_code m y) c d → Wrote d e (I.LocalSet l.bytes ∷ [])
      → Emits a e (StringPiece sides l (λ m. amount_code m x ++ ((I.LocalSet l.before ∷ []) ++ (amount_code m y ++ (I.LocalSet l.bytes ∷ [])))) NeedsNone)
  amounts_put x y from before to bytes =
      piece_behind (piece_part (λ m. amount_code m x) (amount_ranged x) from) (piece_behind (piece_code (set_ranged l.before) before)
      (piece_behind (piece_part (λ m. amount_code m y) (amount_ranged y) to) (piece_code (set_ranged l.bytes) bytes)))

  -- realloc is called, and what it answers is checked
  pub resized : {a b c d e f g h i j k : Writer} {align : ℕ} (x y : Amount) → AreSidesImported sides a.sections
      → WroteStringPart sides l (λ m. amount_code m x) a b → Wrote b c (I.LocalSet l.before ∷ []) → WroteStringPart sides l (λ m. amount_code m y) c d → Wrote d e (I.LocalSet l.bytes ∷ [])
      → Emits e f (SavesSlots sides.concurrency l.context) → Wrote f g (regrow_code sides.to.realloc sides.to.memory64 l.region l.before align l.bytes) → Emits g h (WritesSlots sides.concurrency l.context)
      → Wrote h i (from_address sides.to.memory64) → Wrote i j (I.LocalSet l.region ∷ []) → Emits j k (ChecksRegion sides.to align l.region l.bytes l.length StringOutOfBounds)
      → Emits a k (StringPiece sides l (λ m. resize_code m align x y) (NeedsRequest align))
  resized {f = f} {align = align} x y imported from before to bytes saves regrows restores answer region checks =
      let amounts = amounts_put x y from before to bytes in
      let still = realloc_on (realloc_on imported.realloc amounts.grew) saves.grew in
      let regrow : List Instr = regrow_code sides.to.realloc sides.to.memory64 l.region l.before align l.bytes in
      piece_as (λ p d e. in_order (string_move sides l p d e) align x y) (piece_needs (λ m M p d e h. record { slots = h.0; region = h.1 }) (piece_behind amounts (piece_then (saved saves)
      (piece_behind (piece_before (regrow_ranged (length (functions_of f.sections)) sides.to.realloc sides.to.memory64 l.region l.before align l.bytes still.below) regrows) (answered restores answer region checks)))))

  -- by the alignment that was worked out
  pub resized_at : {a b : Writer} {align align' : ℕ} (x y : Amount) → align ≡ align' → Emits a b (StringPiece sides l (λ m. resize_code m align x y) (NeedsRequest align)) → Emits a b (StringPiece sides l (λ m. resize_code m align' x y) (NeedsRequest align'))
  resized_at {a} {b} x y is z = subst (λ n. Emits a b (StringPiece sides l (λ m. resize_code m n x y) (NeedsRequest n))) is z

  -- ---- a transcoder

  pub transcoded : {a b c : Writer} {place : ℕ} (o : Transcode) → TookTranscoder a b (transcoder_between sides o) place → Wrote b c (I.Call (func.Import place) ∷ [])
      → Emits a c (StringPiece sides l (λ m. I.Call (func.Import (m.transcoder o)) ∷ []) (NeedsTranscoder o))
  transcoded {place = place} o x y =
      emits_transcoding (call_named place) (call_ranged place) x y (λ M p locals k. record {
        is = λ d e h. ap (λ n. I.Call (func.Import n) ∷ []) (sym (k d e h.from_place h.to_place).placed);
        has = λ d e h. known_at (k d e h.from_place h.to_place);
      })

  -- a pass: what the transcoder is told, the call, and what becomes of its answer
  pub passed : {a b c d e f : Writer} {place : ℕ} (o : Transcode) (rest : Bool) (room : ℕ) → WroteStringPart sides l (λ m. source_code m o rest) a b → WroteStringPart sides l (λ m. target_code m (transcode_kind o) rest room) b c
      → TookTranscoder c d (transcoder_between sides o) place → Wrote d e (I.Call (func.Import place) ∷ []) → WroteStringPart sides l (λ m. answer_code m (transcode_kind o) rest) e f
      → Emits a f (StringPiece sides l (λ m. pass_code m o rest room) (NeedsTranscoder o))
  passed o rest room source target took call answer =
      piece_as (λ p d e. refl) (piece_behind (piece_part (λ m. source_code m o rest) (source_ranged o rest) source) (piece_behind (piece_part (λ m. target_code m (transcode_kind o) rest room) (λ m. target_ranged m room (transcode_kind o) rest) target)
      (piece_front (transcoded o took call) (piece_part (λ m. answer_code m (transcode_kind o) rest) (λ m. answer_ranged m (transcode_kind o) rest) answer))))

  -- Between sides that do not both have a memory there is no such code.
  pub without_memory : {a b : Writer} {P : Part} {N : Needs} → sides.from.has_memory && sides.to.has_memory ≡ false → Wrote a b (I.Unreachable ∷ []) → Emits a b (StringPiece sides l P N)
  without_memory none w =
      emits_as (λ M p locals c is. record { is = λ d e h. absurd (both_there sides.from.has_memory sides.to.has_memory none h.from_there h.to_there); has = λ d e h. absurd (both_there sides.from.has_memory sides.to.has_memory none h.from_there h.to_there) }) (emits_wrote unreachable_ranged w)

pub transcoder_is : {a b : Writer} {place : ℕ} {t : Transcoder} (sides : Sides) (o : Transcode) → t ≡ transcoder_between sides o → TookTranscoder a b t place → TookTranscoder a b (transcoder_between sides o) place
transcoder_is {a} {b} {place} sides o is x = subst (λ t. TookTranscoder a b t place) is x

-- both memories are imported
pub memories_imported : {s : ModuleSoFar} {t : Transcoder} (sides : Sides) (o : Transcode) → t ≡ transcoder_between sides o → sides.from.has_memory ≡ true → sides.to.has_memory ≡ true → AreSidesImported sides s → AreMemoriesImported t s
memories_imported {s} sides o is from to h = subst (λ t. AreMemoriesImported t s) (sym is) (record { from = h.from_memory.below from; to = h.to_memory.below to })

-- they have the widths that it is told of
pub memories_wide : {s : ModuleSoFar} {t : Transcoder} (sides : Sides) (o : Transcode) → t ≡ transcoder_between sides o → sides.from.has_memory ≡ true → sides.to.has_memory ≡ true → AreSidesImported sides s → HaveMemoryWidths t s
memories_wide {s} sides o is from to h = subst (λ t. HaveMemoryWidths t s) (sym is) (record { from = h.from_wide.wide from; to = h.to_wide.wide to })
