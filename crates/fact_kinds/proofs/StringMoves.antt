-- Strings: code that does what a string's move does, in locals that are taken around it.
use Rattle.std.proofs.Common.{◌≡◌, ◌≢◌, ℕ, zero, suc, ◌<◌, inl, inr, Bool, true, false, List, [], ◌∷◌, ◌++◌, Some, refl, sym, ap, ◌∙◌, subst, arith}
use Rattle.std.specs.List.{AllByRecursion}
use Rattle.fact_wasm.specs.declared.types.ValType.{ValType}
use Rattle.fact_wasm.specs.declared.instr.Instr.{Instr}
use Rattle.fact_wasm.specs.declared.module.WasmModule.{WasmModule}
use Rattle.fact_wasm.specs.Ranges.{AreRanged}
use Rattle.fact_types.specs.declared.import.Import.TheVariants as import
use Rattle.fact_types.specs.declared.interface.InterfaceType.{InterfaceType}
use Rattle.fact_types.specs.declared.interface.InterfaceType.TheVariants as ty
use Rattle.fact_types.specs.declared.outside.CoreDef.{CoreDef}
use Rattle.fact_types.specs.declared.outside.Transcode.{Transcode}
use Rattle.fact_types.specs.declared.outside.Trap.{Trap}
use Rattle.fact_types.specs.declared.outside.UnsafeIntrinsic.TheVariants as slot
use Rattle.fact_types.specs.Adapters.{is_wide}
use Rattle.fact_types.specs.FlatShapes.{pointer as flat_pointer}
use Rattle.fact_types.specs.Layout.{extent, pointer_pair_layout}
use Rattle.fact_types.specs.Shapes.{Shape, s_plain, s_node}
use Rattle.fact_types.specs.Signatures.{width}
use Rattle.fact_types.specs.Tables.{Tables, HasShape}
use Rattle.fact_machine.specs.declared.types.CoreValue.{CoreValue}
use Rattle.fact_actions.specs.Actions.{Action, Visit}
use Rattle.fact_actions.specs.Running.{ImportPlaces}
use Rattle.fact_actions.specs.Sides.{LiftLowerOptions, Source, Target, width_of_side}
use Rattle.fact_actions.specs.Strings.{move_string}
use Rattle.fact_code_laws.specs.Lists.{put_code}
use Rattle.fact_code_laws.specs.Places.{From, To, DebugChecks, Rooms, Setting, transfer, AreLocals, Moves, size_of}
use Rattle.fact_code_laws.specs.StringCode.{StringMove, encoded_code, string_code}
use Rattle.fact_code_laws.specs.StringNeeds.{NeedsEncoded}
use Rattle.fact_code_laws.specs.Tests.{pointer_of_width, read_into}
use Rattle.fact_code_laws.proofs.Pairs.{PairFrom, PairTo, all_from, first_from, second_from, all_to, first_to, second_to}
use Rattle.fact_code_laws.proofs.StringMoves.{StringPlaces, IsString, string_at, moves_string}
use Rattle.fact_code_laws.proofs.StringPoints.{string_type}
use Rattle.fact_code_laws.proofs.Temporaries.{Temporaries}
use Rattle.fact_emit.specs.declared.places.Sides.{Sides}
use Rattle.fact_emit.specs.declared.string_locals.StringLocals.{StringLocals}
use Rattle.fact_emit.specs.declared.writer.Writer.{Writer}
use Rattle.fact_emit.specs.Emits.{Grew, Emits}
use Rattle.fact_emit.specs.Fitting.{CanRead, CanWrite, MovesNode}
use Rattle.fact_emit.specs.Movable.{CanMove}
use Rattle.fact_emit.specs.Numbers.{HasUpperAt}
use Rattle.fact_emit.specs.Pairs.{length_from}
use Rattle.fact_emit.specs.Places.{AreDistinctSlots, checks_at, setting_of, Using}
use Rattle.fact_emit.specs.Requests.{ServesLists}
use Rattle.fact_emit.specs.StringPieces.{HaveMemories, WroteString, string_move, string_numbers, string_slots}
use Rattle.fact_emit.specs.Writers.{AreDistinctNumbers, taken_in, TookAll, FreedAll, Wrote}
use Rattle.fact_emit.proofs.Emitting.{grew_wrote}
use Rattle.fact_kinds.specs.Moved.{MovedBetween}
use Rattle.fact_kinds.proofs.PairPlaces.{PairReads, PairWrites, pair_from, pair_to, second_from_is, second_to_is, first_readable, second_readable, first_from_typed, second_from_typed, first_writable, second_writable, first_to_typed, second_to_typed, from_used, read_first_is, put_first_is, apart_of}
use Rattle.fact_kinds.proofs.SlotTemporaries.{all_at, distinct_at, slot_at, typed_at, unkept}
use Rattle.fact_emit.proofs.FreedLocals.{all_distinct, all_taken, emits_around_all}
use Rattle.fact_kinds.proofs.TypeKinds.{plain_only}

types_are : (l : StringLocals) (j : ℕ) → j < 10 → (slot_at (string_slots l) j).1 ≡ string_type j
types_are l zero h = refl
types_are l (suc zero) h = refl
types_are l (suc (suc zero)) h = refl
types_are l (suc (suc (suc zero))) h = refl
types_are l (suc (suc (suc (suc zero)))) h = refl
types_are l (suc (suc (suc (suc (suc zero))))) h = refl
types_are l (suc (suc (suc (suc (suc (suc zero)))))) h = refl
types_are l (suc (suc (suc (suc (suc (suc (suc zero))))))) h = refl
types_are l (suc (suc (suc (suc (suc (suc (suc (suc zero)))))))) h = refl
types_are l (suc (suc (suc (suc (suc (suc (suc (suc (suc zero))))))))) h = refl
types_are l (suc (suc (suc (suc (suc (suc (suc (suc (suc (suc j)))))))))) h = absurd (omega (arith, h))

-- ---- what the code does

module _ (sides : Sides) (l : StringLocals) (taken : ℕ → Bool) (free : AllByRecursion (λ s. taken s.0 ≡ false) (string_slots l)) (distinct : AreDistinctSlots (string_slots l))
    (M : WasmModule) (p : ImportPlaces) (locals : List ValType) (typed : AreLocals locals (string_slots l)) (a b : LiftLowerOptions) (rooms : Rooms) (used : ℕ → Bool) where
  abbrev S : Setting
  S = setting_of sides a b rooms M p locals

  abbrev temp : ℕ → ℕ
  temp j = (slot_at (string_slots l) j).0

  temporaries : ((i : ℕ) → used i ≡ true → taken i ≡ true) → Temporaries locals used 10 temp string_type
  temporaries within = record {
    distinct = distinct_at (string_slots l) distinct;
    typed = λ j lt. typed_at locals (string_slots l) typed j lt ∙ ap Some (types_are l j lt);
    free = λ j lt. unkept within (temp j) (all_at (λ s. taken s.0 ≡ false) (string_slots l) free j lt);
  }

  -- The code is that of a string's pieces, and does what a string's move does.
  module _ (from : PairFrom) (to : PairTo) (serves : ServesLists sides.from sides.to M p a b)
      (reads : PairReads M p locals (checks_at sides.debug p) a sides.from.memory64 from) (writes : PairWrites M p locals (checks_at sides.debug p) b sides.to.memory64 to) (using : Using taken used (all_from from) (all_to to))
      {code : List Instr} (wrote : WroteString sides l (all_from from) (all_to to) M p locals code) where
    -- the definitions of both memories
    abbrev d : CoreDef
    d = serves.from_memory.side.option.def

    abbrev e : CoreDef
    e = serves.to_memory.side.option.def

    abbrev checks : DebugChecks
    checks = checks_at sides.debug p

    abbrev places : StringPlaces
    places = record {
      from = from;
      to = to;
      memory1 = sides.from.memory;
      memory2 = sides.to.memory;
      temp = temp;
      realloc = serves.realloc.def;
      realloc_at = serves.realloc.place;
      get0 = p.function (import.UnsafeIntrinsic slot.ContextGetI32_0);
      get1 = p.function (import.UnsafeIntrinsic slot.ContextGetI32_1);
      set0 = p.function (import.UnsafeIntrinsic slot.ContextSetI32_0);
      set1 = p.function (import.UnsafeIntrinsic slot.ContextSetI32_1);
      trap = λ (t : Trap). p.function (import.Trap t);
      transcoder = λ (o : Transcode). p.function (import.Transcode o d sides.from.memory64 e sides.to.memory64);
    }

    -- both memories are there
    have : HaveMemories sides p d e
    have = record {
      from_there = serves.from_memory.there;
      to_there = serves.to_memory.there;
      from_place = serves.from_memory.side.has.placed;
      to_place = serves.to_memory.side.has.placed;
    }

    abbrev moved : StringMove
    moved = string_at S places serves.from_memory.side.log2 serves.to_memory.side.log2

    move_is : string_move sides l p d e ≡ moved
    move_is =
        let log1 = sym serves.from_memory.log2 in
        let log2 = sym serves.to_memory.log2 in
        let realloc = serves.realloc.is in
        λ i. record moved { from_log2 = log1 i; to_log2 = log2 i; realloc = realloc i }

    second_is : length_from sides.from.memory64 (all_from from) ≡ second_from (size_of (pointer_of_width sides.from.memory64)) from
    second_is = second_from_is M p locals checks a sides.from.memory64 from reads

    needs : NeedsEncoded a.encoding b.encoding moved M p d e
    needs =
        subst (λ m. NeedsEncoded a.encoding b.encoding m M p d e) move_is
        (subst (λ x. NeedsEncoded x b.encoding (string_move sides l p d e) M p d e) (sym serves.from_memory.encoding)
        (subst (λ y. NeedsEncoded sides.from.encoding y (string_move sides l p d e) M p d e) (sym serves.to_memory.encoding) (wrote.has d e have)))

    is_string : IsString S used places
    is_string =
        let from_uses = from_used used (size_of (pointer_of_width sides.from.memory64)) from using.from in
        record {
          temps = temporaries using.within;
          side1 = serves.from_memory.side;
          side2 = serves.to_memory.side;
          realloc_is = serves.realloc.given;
          reallocs = serves.realloc.knows;
          needs = needs;
          readable1 = first_readable M p locals checks a sides.from.memory64 from reads wrote.has_pointer;
          readable2 = second_readable M p locals checks a sides.from.memory64 from reads (subst (HasUpperAt M p checks (pointer_of_width sides.from.memory64)) second_is wrote.has_length);
          from_used1 = from_uses.0;
          from_used2 = from_uses.1;
          from_typed1 = first_from_typed M p locals checks a sides.from.memory64 from reads;
          from_typed2 = second_from_typed M p locals checks a sides.from.memory64 from reads;
          writable1 = first_writable M p locals checks b sides.to.memory64 to writes;
          writable2 = second_writable M p locals checks b sides.to.memory64 to writes;
          to_used = using.to;
          to_typed1 = first_to_typed M p locals checks b sides.to.memory64 to writes;
          to_typed2 = second_to_typed M p locals checks b sides.to.memory64 to writes;
          apart = apart_of l.written free.1.1.1.1.0 to using;
        }

    code_is : code ≡ string_code moved a.encoding b.encoding (first_from from) (second_from (size_of (pointer_of_width sides.from.memory64)) from) (first_to to) (second_to (size_of (pointer_of_width sides.to.memory64)) to)
    code_is =
        let reads1 = read_first_is checks sides.from.memory64 l.source from in
        let reads2 = ap (λ f. read_into checks sides.from.memory64 f l.units) second_is in
        let puts1 = put_first_is sides.to.memory64 l.region to in
        let puts2 = ap (λ d. put_code sides.to.memory64 l.written d) (second_to_is M p locals checks b sides.to.memory64 to writes) in
        let encoding1 = sym serves.from_memory.encoding in
        let encoding2 = sym serves.to_memory.encoding in
        wrote.is d e have
        ∙ (λ i. reads1 i ++ (reads2 i ++ (encoded_code (string_move sides l p d e) sides.from.encoding sides.to.encoding ++ (puts1 i ++ puts2 i))))
        ∙ (λ i. string_code (move_is i) (encoding1 i) (encoding2 i) (first_from from) (second_from (size_of (pointer_of_width sides.from.memory64)) from) (first_to to) (second_to (size_of (pointer_of_width sides.to.memory64)) to))

    pair_moves : Moves S used 0 516 (all_from from) (all_to to) (λ s d. Visit 1 (move_string (transfer S) s d)) code
    unfolding is_string
    pair_moves = subst (Moves S used 0 516 (all_from from) (all_to to) (λ s d. Visit 1 (move_string (transfer S) s d))) (sym code_is) (moves_string S used places is_string)

-- ---- a string

module _ {sides : Sides} {l : StringLocals} {taken : ℕ → Bool} (free : AllByRecursion (λ s. taken s.0 ≡ false) (string_slots l)) (distinct : AreDistinctSlots (string_slots l)) where
  string_moves : {src : From} {dst : To} (M : WasmModule) (p : ImportPlaces) (locals : List ValType) (a b : LiftLowerOptions) (rooms : Rooms) (used : ℕ → Bool) → AreLocals locals (string_slots l)
      → is_wide a.memory ≡ sides.from.memory64 → is_wide b.memory ≡ sides.to.memory64 → ServesLists sides.from sides.to M p a b
      → CanRead M p locals a sides.from.memory64 src (flat_pointer (width_of_side a) ∷ flat_pointer (width_of_side a) ∷ []) (extent (width_of_side a) pointer_pair_layout).size
      → CanWrite M p locals b sides.to.memory64 dst (flat_pointer (width_of_side b) ∷ flat_pointer (width_of_side b) ∷ []) (extent (width_of_side b) pointer_pair_layout).size
      → Using taken used src dst → (code : List Instr) → WroteString sides l src dst M p locals code
      → Moves (setting_of sides a b rooms M p locals) used 0 516 src dst (λ s d. Visit 1 (move_string (transfer (setting_of sides a b rooms M p locals)) s d)) code
  string_moves {src} {dst} M p locals a b rooms used typed from_wide to_wide serves reads writes using code wrote =
      let from64 = sides.from.memory64 in
      let to64 = sides.to.memory64 in
      let reads' = subst (λ m. CanRead M p locals a from64 src (flat_pointer (width m) ∷ flat_pointer (width m) ∷ []) (extent (width m) pointer_pair_layout).size) from_wide reads in
      let writes' = subst (λ m. CanWrite M p locals b to64 dst (flat_pointer (width m) ∷ flat_pointer (width m) ∷ []) (extent (width m) pointer_pair_layout).size) to_wide writes in
      let (from, from_is) = pair_from M p locals a from64 (flat_pointer (width from64)) (extent (width from64) pointer_pair_layout).size src reads' in
      let (to, to_is) = pair_to M p locals b to64 (flat_pointer (width to64)) (extent (width to64) pointer_pair_layout).size dst writes' in
      let S = setting_of sides a b rooms M p locals in
      let act : Source → Target → Action (List CoreValue) = λ s d. Visit 1 (move_string (transfer S) s d) in
      subst (λ s. Moves S used 0 516 s dst act code) (sym from_is) (subst (λ d. Moves S used 0 516 (all_from from) d act code) (sym to_is)
      (pair_moves sides l taken free distinct M p locals typed a b rooms used from to serves
      (subst (λ s. CanRead M p locals a from64 s (flat_pointer (width from64) ∷ flat_pointer (width from64) ∷ []) (extent (width from64) pointer_pair_layout).size) from_is reads')
      (subst (λ d. CanWrite M p locals b to64 d (flat_pointer (width to64) ∷ flat_pointer (width to64) ∷ []) (extent (width to64) pointer_pair_layout).size) to_is writes')
      (subst (λ d. Using taken used (all_from from) d) to_is (subst (λ s. Using taken used s dst) from_is using))
      (subst (λ d. WroteString sides l (all_from from) d M p locals code) to_is (subst (λ s. WroteString sides l s dst M p locals code) from_is wrote))))

  string_piece : {src : From} {dst : To} (M : WasmModule) (p : ImportPlaces) (locals : List ValType) (code : List Instr) → AreLocals locals (string_slots l)
      → WroteString sides l src dst M p locals code → MovesNode sides src dst taken (s_plain ty.String) (s_plain ty.String) M p locals code
  string_piece {src} {dst} M p locals code typed wrote = record {
    moves = λ a b rooms used using fit. string_moves M p locals a b rooms used typed fit.from_wide fit.to_wide (fit.lists refl) fit.reads fit.writes using code wrote;
  }

-- Code that moves a string by locals, which were taken around it.
pub string_emits : {sides : Sides} {l : StringLocals} {src : From} {dst : To} {a b c d : Writer} → TookAll a b (string_slots l) → Emits b c (WroteString sides l src dst) → FreedAll c d (string_numbers l)
    → Emits a d (MovesNode sides src dst (taken_in a) (s_plain ty.String) (s_plain ty.String))
string_emits took wrote freed = emits_around_all (λ M p locals code typed x. string_piece took.were_free took.distinct M p locals code typed x) took wrote freed

-- the locals are still in use when they are freed
pub string_taken : {l : StringLocals} {a b c : Writer} → TookAll a b (string_slots l) → Grew b c → AllByRecursion (λ i. taken_in c i ≡ true) (string_numbers l) × AreDistinctNumbers (string_numbers l)
string_taken {l} {b = b} {c} took moved = (all_taken b c (string_slots l) moved.still took.taken, all_distinct (string_slots l) took.distinct)

-- ---- types

pub string_moved : {t : Tables} {from to : InterfaceType} {sides : Sides} {src : From} {dst : To} {first last : Writer} → from ≡ ty.String → to ≡ ty.String
    → Emits first last (MovesNode sides src dst (taken_in first) (s_plain ty.String) (s_plain ty.String)) → MovedBetween t from to sides src dst first last
string_moved {t} {from} {to} {sides} {src} {dst} {first} {last} is is' x = record {
  grew = x.grew;
  emits = λ s u hs hu can.
      let s_is = plain_only t ty.String refl s (subst (λ y. HasShape t y s) is hs) in
      let u_is = plain_only t ty.String refl u (subst (λ y. HasShape t y u) is' hu) in
      subst (λ s. Emits first last (MovesNode sides src dst (taken_in first) s u)) (sym s_is) (subst (λ u. Emits first last (MovesNode sides src dst (taken_in first) (s_plain ty.String) u)) (sym u_is) x);
}

-- a string at another type, whose values are not moved
pub string_alone : {t : Tables} {from : InterfaceType} {sides : Sides} {src : From} {dst : To} {first last : Writer} {xs : List Instr} → AreRanged 0 0 xs → (to : InterfaceType) → from ≡ ty.String → to ≢ ty.String → Wrote first last xs → MovedBetween t from to sides src dst first last
string_alone {t} ranged to is other w = record {
  grew = grew_wrote ranged w;
  emits = λ s u hs hu can. absurd (alone u hu (subst (λ s. CanMove s u) (plain_only t ty.String refl s (subst (λ y. HasShape t y s) is hs)) can));
}
  where
    alone : (u : Shape) → HasShape t to u → CanMove (s_plain ty.String) u → ⊥
    alone (s_plain b) hu (inl can) = absurd (let no : false ≡ true = can.1 in cc)
    alone (s_plain b) hu (inr (inl can)) = other (hu.0 ∙ can.1)
    alone (s_plain b) hu (inr (inr can)) = can
    alone (s_node k ns) hu can = can
