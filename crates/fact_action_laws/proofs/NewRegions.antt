-- A new region is asked of realloc, with the calls around it and the check of its answer, where all answers are honest; and what calls keep that change
-- no memory.
use Rattle.std.proofs.Common.{◌≡◌, ℕ, zero, suc, ◌+◌, ◌%◌, ◌^◌, ◌≤◌, ◌<◌, ◌⊎◌, inl, inr, ⊎_elim, Bool, true, false, List, [], ◌∷◌, ◌++◌, length, get_or, Option, Some, None, refl, sym, ap, ◌∙◌, subst, arith, append_assoc, length-append, lit<, lit≤}
use Rattle.std.specs.Prelude.{slice_get, nat_eq, nat_le, ◌&&◌, if◌then◌else◌}
use Rattle.std.proofs.lemmas.Bool.{false≢true, ltb-true, le-leb, leb-true, eqb-true, eq-eqb}
use Rattle.std.proofs.lemmas.List.{append-nil}
use Rattle.std.proofs.lemmas.Option.{get_or_from_slice_get}
use Rattle.fact_wasm.specs.declared.types.ValType.{ValType}
use Rattle.fact_wasm.specs.declared.types.ValType.TheVariants as val
use Rattle.fact_types.specs.declared.outside.CoreDef.{CoreDef}
use Rattle.fact_types.specs.declared.outside.Trap.{Trap as TrapCode}
use Rattle.fact_types.specs.declared.outside.UnsafeIntrinsic.{UnsafeIntrinsic}
use Rattle.fact_types.specs.declared.outside.UnsafeIntrinsic.TheVariants as slot
use Rattle.fact_types.proofs.ShapeLaws.{same_some, none_some}
use Rattle.fact_machine.specs.declared.types.CoreValue.{CoreValue}
use Rattle.fact_machine.specs.declared.types.CoreValue.TheVariants.{I32, I64, F32, F64, Func}
use Rattle.fact_machine.specs.declared.types.MachineState.{MachineState}
use Rattle.fact_machine.specs.declared.types.Answer.TheVariants.{Returns}
use Rattle.fact_machine.specs.World.{World, Stop, Lack}
use Rattle.fact_types.specs.declared.import.Import.TheVariants as import
use Rattle.fact_actions.specs.Actions.{Action, Ask, MemoryLength, unless}
use Rattle.fact_actions.specs.Running.{ImportPlaces, Call, is_state, is_answer}
use Rattle.fact_machine.specs.Typed.{is_value, are_values, is_grown}
use Rattle.fact_actions.specs.Sides.{LiftLowerOptions, address_value, type_of_addresses, first_bits, check_region, get_slots, set_slots, reallocate}
use Rattle.fact_types.specs.declared.outside.MemoryOption.{MemoryOption}
use Rattle.fact_types.specs.Adapters.{is_wide}
use Rattle.fact_machine.specs.Typing.{address_bits, address_operand}
use Rattle.fact_values.specs.Lift.{bits_of}
use Rattle.fact_action_laws.specs.HonestMoves.{IsHonestRealloc}
use Rattle.fact_action_laws.specs.Items.{crossings, requests, IsRegionTold, IsRegionBegun}
use Rattle.fact_actions.specs.Requests.{new_region}
use Rattle.fact_action_laws.specs.MoveTerms.{HasRealloc}
use Rattle.fact_action_laws.specs.Places.{HasSideMemory, HoldsMemories}
use Rattle.fact_actions.specs.Regions.{Region, IsIn, IsInAny, without}
use Rattle.fact_action_laws.specs.Regions.{TransferSetting, IsInHand, request_by, regions_after, AreBytesOf, old_region}
use Rattle.fact_actions.specs.Calls.{side_memory}
use Rattle.fact_action_laws.proofs.Judges.{does_ask, does_length, does_more, regions_append}
use Rattle.fact_action_laws.proofs.Telling.{crossings_append, requests_append}
use Rattle.fact_action_laws.proofs.Targets.{left_true, right_true}
use Rattle.fact_types.specs.Signatures.{address}
use Rattle.fact_action_laws.specs.Judged.{RunsHonestly}

-- ---- tests that hold

pub does_pass : {c : TransferSetting} {gs : List Region} {A : Type 0} {H : Stop → List Call → Type 0} {P : ℕ → List Call → A → World → Type 0} (t : TrapCode) (b : Bool) (q : Action A) (w : World) → b ≡ true → RunsHonestly c gs H P q w → RunsHonestly c gs H P (unless t b q) w
does_pass {c} {gs} {A} {H} {P} t b q w e d = subst (λ b. RunsHonestly c gs H P (unless t b q) w) (sym e) d

-- ---- typed answers

-- a memory is there still, and no shorter
pub record IsGrownAt (ns : List (List ℕ)) (i : ℕ) (m : List ℕ) : Type 0 where
  pub later : List ℕ
  pub there : slice_get ns i ≡ Some later
  pub longer : length m ≤ length later

pub grown_at : (ms ns : List (List ℕ)) (i : ℕ) (m : List ℕ) → is_grown ms ns ≡ true → slice_get ms i ≡ Some m → IsGrownAt ns i m
grown_at [] ns i m h e = absurd (none_some None m refl e)
grown_at (x ∷ ms) [] i m h e = absurd (false≢true h)
grown_at (x ∷ ms) (y ∷ ns) zero m h e =
    let same : x ≡ m = same_some (Some x) x m refl e in
    record { later = y; there = refl; longer = subst (λ z. length z ≤ length y) same (leb-true (length x) (length y) (left_true (nat_le (length x) (length y)) _ h)) }
grown_at (x ∷ ms) (y ∷ ns) (suc i) m h e =
    let r = grown_at ms ns i m (right_true (nat_le (length x) (length y)) _ h) e in record { later = r.later; there = r.there; longer = r.longer }

-- ---- regions

-- an empty region holds no address
kept : (r : Region) (gs rest : List Region) (j : ℕ) (b : Bool) → (nat_eq r.at 0 && nat_eq r.size 0) ≡ b → (IsInAny gs j → IsInAny rest j) → IsIn r j ⊎ IsInAny gs j → IsInAny (if b then gs else r ∷ rest) j
kept r gs rest j true e f (inl h) = let z : r.size ≡ 0 = eqb-true r.size 0 (right_true (nat_eq r.at 0) (nat_eq r.size 0) e) in absurd (omega (arith, h.0, h.1, z))
kept r gs rest j true e f (inr h) = h
kept r gs rest j false e f (inl h) = inl h
kept r gs rest j false e f (inr h) = inr (f h)

region_stays : (align : ℕ) (gs : List Region) (j : ℕ) → IsInAny gs j → IsInAny (without (record { at = 0; size = 0; align = align }) gs) j
region_stays align [] j h = h
region_stays align (r ∷ gs) j h = kept r gs (without (record { at = 0; size = 0; align = align }) gs) j (nat_eq r.at 0 && nat_eq r.size 0) refl (region_stays align gs j) h

-- What an honest realloc of a new region does to bytes: live ones stay, and those of the region become live.
pub record Made (m m1 : List ℕ) (Live Live1 : ℕ → Type 0) (R : ℕ → Type 0) : Type 0 where
  pub frame : (j : ℕ) → Live j → get_or m1 j 0 ≡ get_or m j 0
  pub grows : (j : ℕ) → Live j → Live1 j
  pub room : length m ≤ length m1
  pub fresh : (j : ℕ) → R j → Live1 j × (Live j → ⊥)

-- ---- calls that change no memory

pub record IsQuiet (gs : List Region) (most : ℕ) (w w' : World) (cs : List Call) : Type 0 where
  pub crosses : crossings cs ≡ []
  pub asks : requests cs ≡ []
  pub few : length cs ≤ most
  pub regions : regions_after gs cs ≡ gs
  pub memories : w'.state.memories ≡ w.state.memories

pub ready_later : (c : TransferSetting) (m : List ℕ) (w w' : World) → w'.state.memories ≡ w.state.memories → HoldsMemories c m w → HoldsMemories c m w'
ready_later c m w w' e r = record {
  from = subst (λ ms. AreBytesOf c.places c.transfer.from (record { memories = ms; globals = w'.state.globals }) c.source) (sym e) r.from;
  to = subst (λ ms. AreBytesOf c.places c.transfer.to (record { memories = ms; globals = w'.state.globals }) m) (sym e) r.to;
}

quiet_then : {gs : List Region} (es bs : List Call) (w w1 w2 : World) (i j n : ℕ) → i + j ≤ n → IsQuiet gs i w w1 es → IsQuiet gs j w1 w2 bs → IsQuiet gs n w w2 (es ++ bs)
quiet_then {gs} es bs w w1 w2 i j n le a b = record {
  crosses = crossings_append es bs ∙ ap (λ l. l ++ crossings bs) a.crosses ∙ b.crosses;
  asks = requests_append es bs ∙ ap (λ l. l ++ requests bs) a.asks ∙ b.asks;
  few = omega (arith, length-append es bs, a.few, b.few, le);
  regions = regions_append gs es bs ∙ ap (λ l. regions_after l bs) a.regions ∙ b.regions;
  memories = b.memories ∙ a.memories;
}

module _ {c : TransferSetting} {A : Type 0} where
  -- calls counted together
  does_together : {gs : List Region} (H : Stop → List Call → Type 0) (P : ℕ → List Call → A → World → Type 0) (es bs : List Call) (q : Action A) (w : World)
      → RunsHonestly c gs (λ s ds. H s ((es ++ bs) ++ ds)) (λ n ds a w'. P n ((es ++ bs) ++ ds) a w') q w → RunsHonestly c gs (λ s ds. H s (es ++ (bs ++ ds))) (λ n ds a w'. P n (es ++ (bs ++ ds)) a w') q w
  does_together {gs} H P es bs q w d =
      does_more (λ s ds o h. subst (λ l. H s l) (append_assoc es bs ds) h) (λ n ds a w' o h. subst (λ l. P n l a w') (append_assoc es bs ds) h) d

  module _ {gs : List Region} {H : Stop → List Call → Type 0} {P : ℕ → List Call → A → World → Type 0} where
    -- one call of the context
    does_context : (i : UnsafeIntrinsic) (args : List CoreValue) (ts : List ValType) (k : List CoreValue → Action A) (w : World) → H Lack []
        → ((rs : List CoreValue) (w' : World) (cs : List Call) → IsQuiet gs 1 w w' cs → RunsHonestly c gs (λ s ds. H s (cs ++ ds)) (λ n ds a w''. P n (cs ++ ds) a w'') (k rs) w')
        → RunsHonestly c gs H P (Ask (import.UnsafeIntrinsic i) args ts k) w
    does_context i args ts k w lack next =
        does_ask lack (λ rs w' typed honest.
        next rs w' (record { what = import.UnsafeIntrinsic i; args = args; before = w.state; answer = Returns rs w'.state } ∷ [])
        (record { crosses = refl; asks = refl; few = omega arith; regions = refl; memories = honest }))

  module _ {gs : List Region} {H : Stop → List Call → Type 0} {P : ℕ → List Call → A → World → Type 0} where
    -- both slots are read
    does_get_slots : (b : Bool) (k : List CoreValue → List CoreValue → Action A) (w : World) → ((cs : List Call) (w' : World) → IsQuiet gs 2 w w' cs → H Lack cs)
        → ((x y : List CoreValue) (w' : World) (cs : List Call) → IsQuiet gs 2 w w' cs → RunsHonestly c gs (λ s ds. H s (cs ++ ds)) (λ n ds a w''. P n (cs ++ ds) a w'') (k x y) w')
        → RunsHonestly c gs H P (get_slots b k) w
    does_get_slots false k w lack next = next [] [] w [] (record { crosses = refl; asks = refl; few = omega arith; regions = refl; memories = refl })
    does_get_slots true k w lack next =
        does_context slot.ContextGetI32_0 [] (val.I32 ∷ []) (λ a. Ask (import.UnsafeIntrinsic slot.ContextGetI32_1) [] (val.I32 ∷ []) (λ b. k a b)) w (lack [] w (record { crosses = refl; asks = refl; few = omega arith; regions = refl; memories = refl }))
        (λ x w1 es q1. does_context slot.ContextGetI32_1 [] (val.I32 ∷ []) (λ b. k x b) w1 (subst (H Lack) (sym (append-nil es)) (lack es w1 (record { crosses = q1.crosses; asks = q1.asks; few = omega (arith, q1.few); regions = q1.regions; memories = q1.memories })))
        (λ y w2 bs q2. does_together H P es bs (k x y) w2 (next x y w2 (es ++ bs) (quiet_then es bs w w1 w2 1 1 2 (omega arith) q1 q2))))

    -- both slots are set
    does_set_slots : (b : Bool) (x y : List CoreValue) (q : Action A) (w : World) → ((cs : List Call) (w' : World) → IsQuiet gs 2 w w' cs → H Lack cs)
        → ((w' : World) (cs : List Call) → IsQuiet gs 2 w w' cs → RunsHonestly c gs (λ s ds. H s (cs ++ ds)) (λ n ds a w''. P n (cs ++ ds) a w'') q w')
        → RunsHonestly c gs H P (set_slots b x y q) w
    does_set_slots false x y q w lack next = next w [] (record { crosses = refl; asks = refl; few = omega arith; regions = refl; memories = refl })
    does_set_slots true x y q w lack next =
        does_context slot.ContextSetI32_0 x [] (λ r. Ask (import.UnsafeIntrinsic slot.ContextSetI32_1) y [] (λ s. q)) w (lack [] w (record { crosses = refl; asks = refl; few = omega arith; regions = refl; memories = refl }))
        (λ r w1 es q1. does_context slot.ContextSetI32_1 y [] (λ s. q) w1 (subst (H Lack) (sym (append-nil es)) (lack es w1 (record { crosses = q1.crosses; asks = q1.asks; few = omega (arith, q1.few); regions = q1.regions; memories = q1.memories })))
        (λ r2 w2 bs q2. does_together H P es bs q w2 (next w2 (es ++ bs) (quiet_then es bs w w1 w2 1 1 2 (omega arith) q1 q2))))

-- ---- a new region

-- What an honest answer has made, and the calls that were made.
pub record NewRegion (c : TransferSetting) (gs : List Region) (m : List ℕ) (align size q : ℕ) (cs : List Call) (w : World) : Type 0 where
  pub now : List ℕ
  pub ready : HoldsMemories c now w
  pub told : IsRegionTold align size cs
  pub inside : q + size ≤ length now
  pub aligned : q % align ≡ 0
  pub small : q < 2 ^ address_bits (is_wide c.transfer.to.memory)
  pub made : Made m now (IsInHand c gs) (IsInHand c (regions_after gs cs)) (λ j. (q ≤ j) × (j < q + size))

-- the bytes of the destination's memory
bytes_are : (p : ImportPlaces) (o : LiftLowerOptions) (memory : Option MemoryOption) (s : MachineState) (bytes : List ℕ) → HasSideMemory (record o { memory = memory }) → AreBytesOf p (record o { memory = memory }) s bytes → side_memory p (record o { memory = memory }) s ≡ bytes
bytes_are p o None s bytes there are = absurd there
bytes_are p o (Some m) s bytes there are = get_or_from_slice_get s.memories (p.memory m.def) bytes [] are

-- they are there behind an answer, and no fewer
pub grown_bytes : (p : ImportPlaces) (o : LiftLowerOptions) (memory : Option MemoryOption) (s s' : MachineState) (bytes : List ℕ) → HasSideMemory (record o { memory = memory }) → AreBytesOf p (record o { memory = memory }) s bytes → is_grown s.memories s'.memories ≡ true
    → AreBytesOf p (record o { memory = memory }) s' (side_memory p (record o { memory = memory }) s') × (length bytes ≤ length (side_memory p (record o { memory = memory }) s'))
grown_bytes p o None s s' bytes there are grown = absurd there
grown_bytes p o (Some m) s s' bytes there are grown =
    let r = grown_at s.memories s'.memories (p.memory m.def) bytes grown are in
    let e = get_or_from_slice_get s'.memories (p.memory m.def) r.later [] r.there in
    (r.there ∙ ap (λ l. Some l) (sym e), subst (λ l. length bytes ≤ length l) (sym e) r.longer)

-- the memory of the source is there, and the same
source_bytes : (p : ImportPlaces) (o : LiftLowerOptions) (memory : Option MemoryOption) (s s' : MachineState) (bytes : List ℕ) → AreBytesOf p (record o { memory = memory }) s bytes → is_grown s.memories s'.memories ≡ true
    → side_memory p (record o { memory = memory }) s' ≡ side_memory p (record o { memory = memory }) s → AreBytesOf p (record o { memory = memory }) s' bytes
source_bytes p o None s s' bytes are grown same = are
source_bytes p o (Some m) s s' bytes are grown same =
    let r = grown_at s.memories s'.memories (p.memory m.def) bytes grown are in
    r.there ∙ ap (λ l. Some l) (sym (get_or_from_slice_get s'.memories (p.memory m.def) r.later [] r.there) ∙ same ∙ get_or_from_slice_get s.memories (p.memory m.def) bytes [] are)

-- the arguments of realloc for a new region
request_is : (wide : Bool) (align size : ℕ) → request_by (address_operand wide 0 ∷ address_operand wide 0 ∷ address_operand wide align ∷ address_operand wide size ∷ []) ≡ new_region align size
request_is false align size = refl
request_is true align size = refl

pub narrow_value : (v : CoreValue) → is_value v val.I32 ≡ true → bits_of v < 2 ^ 32
narrow_value (I32 n) h = ltb-true n (2 ^ 32) h
narrow_value (I64 n) h = absurd (false≢true h)
narrow_value (F32 n) h = absurd (false≢true h)
narrow_value (F64 n) h = absurd (false≢true h)
narrow_value (Func f) h = absurd (false≢true h)

answer_small : (wide : Bool) (rs : List CoreValue) → are_values rs (address wide ∷ []) ≡ true → first_bits rs < 2 ^ address_bits wide
answer_small true [] h = lit< tt
answer_small false [] h = lit< tt
answer_small true (v ∷ vs) h = wide_value v (left_true (is_value v val.I64) _ h)
  where
    wide_value : (v : CoreValue) → is_value v val.I64 ≡ true → bits_of v < 2 ^ 64
    wide_value (I32 n) h = absurd (false≢true h)
    wide_value (I64 n) h = ltb-true n (2 ^ 64) h
    wide_value (F32 n) h = absurd (false≢true h)
    wide_value (F64 n) h = absurd (false≢true h)
    wide_value (Func f) h = absurd (false≢true h)
answer_small false (v ∷ vs) h = narrow_value v (left_true (is_value v val.I32) _ h)

-- an honest answer, once it has come
region_made : (c : TransferSetting) (gs : List Region) (m : List ℕ) (align size : ℕ) (f : CoreDef) (args rs : List CoreValue) (w w' : World) → HoldsMemories c m w → HasSideMemory c.transfer.to → request_by args ≡ new_region align size
    → is_answer c.places (type_of_addresses c.transfer.to ∷ []) w.state rs w'.state ≡ true → IsHonestRealloc c gs (request_by args) (first_bits rs) w.state w'.state
    → NewRegion c gs m align size (first_bits rs) (record { what = import.CoreDef f; args = args; before = w.state; answer = Returns rs w'.state } ∷ []) w'
region_made c gs m align size f args rs w w' ready there is typed honest0 =
    let honest = subst (λ r. IsHonestRealloc c gs r (first_bits rs) w.state w'.state) is honest0 in
    let grown : is_grown w.state.memories w'.state.memories ≡ true = right_true (is_state c.places w'.state) (is_grown w.state.memories w'.state.memories) (right_true (are_values rs (type_of_addresses c.transfer.to ∷ [])) _ typed) in
    let later = grown_bytes c.places c.transfer.to c.transfer.to.memory w.state w'.state m there ready.to grown in
    let before = bytes_are c.places c.transfer.to c.transfer.to.memory w.state m there ready.to in
    let now = side_memory c.places c.transfer.to w'.state in
    let q = first_bits rs in
    record {
      now = now;
      ready = record { from = source_bytes c.places c.transfer.from c.transfer.from.memory w.state w'.state c.source ready.from grown honest.source; to = later.0 };
      told = record { crosses = refl; asks = ap (λ r. r ∷ []) is; few = omega arith };
      inside = honest.inside;
      aligned = honest.aligned;
      small = answer_small (is_wide c.transfer.to.memory) rs (left_true (are_values rs (type_of_addresses c.transfer.to ∷ [])) _ typed);
      made = record {
        frame = λ j live. honest.others j (stays gs j live) ∙ ap (λ l. get_or l j 0) before;
        grows = λ j live. subst (λ r. IsInHand c (record { at = q; size = r.new_size; align = r.align } ∷ without (old_region r) gs) j) (sym is) (⊎_elim (λ h. inl (inr h)) (λ a. inr a) (stays gs j live));
        room = later.1;
        fresh = λ j h. (subst (λ r. IsInHand c (record { at = q; size = r.new_size; align = r.align } ∷ without (old_region r) gs) j) (sym is) (inl (inl h)), λ live. honest.apart j h (stays gs j live));
      };
    }
  where
    stays : (gs : List Region) (j : ℕ) → IsInHand c gs j → IsInHand c (without (record { at = 0; size = 0; align = align }) gs) j
    stays gs j (inl h) = inl (region_stays align gs j h)
    stays gs j (inr h) = inr h

-- ---- the whole of it

regions_between : (gs : List Region) (as1 bs ds : List Call) (w w1 w2 w3 : World) → IsQuiet gs 4 w w1 as1 → IsQuiet (regions_after gs bs) 2 w2 w3 ds → regions_after gs (as1 ++ (bs ++ ds)) ≡ regions_after gs bs
regions_between gs as1 bs ds w w1 w2 w3 a d = regions_append gs as1 (bs ++ ds) ∙ ap (λ rs. regions_after rs (bs ++ ds)) a.regions ∙ regions_append gs bs ds ∙ d.regions

-- with quiet calls before it and behind it
region_between : (c : TransferSetting) (gs : List Region) (m : List ℕ) (align size q : ℕ) (as1 bs ds : List Call) (w w1 w2 w3 : World) → IsQuiet gs 4 w w1 as1 → NewRegion c gs m align size q bs w2 → IsQuiet (regions_after gs bs) 2 w2 w3 ds → length bs ≡ 1 → NewRegion c gs m align size q (as1 ++ (bs ++ ds)) w3
region_between c gs m align size q as1 bs ds w w1 w2 w3 a b d one =
    let regions = regions_between gs as1 bs ds w w1 w2 w3 a d in
    record {
      now = b.now;
      ready = ready_later c b.now w2 w3 d.memories b.ready;
      told = record {
        crosses = crossings_append as1 (bs ++ ds) ∙ ap (λ l. l ++ crossings (bs ++ ds)) a.crosses ∙ crossings_append bs ds ∙ ap (λ l. l ++ crossings ds) b.told.crosses ∙ d.crosses;
        asks = requests_append as1 (bs ++ ds) ∙ ap (λ l. l ++ requests (bs ++ ds)) a.asks ∙ requests_append bs ds ∙ ap (λ l. l ++ requests ds) b.told.asks ∙ ap (λ l. new_region align size ∷ l) d.asks;
        few = omega (arith, length-append as1 (bs ++ ds), length-append bs ds, a.few, one, d.few);
      };
      inside = b.inside;
      aligned = b.aligned;
      small = b.small;
      made = subst (λ rs. Made m b.now (IsInHand c gs) (IsInHand c rs) (λ j. (q ≤ j) × (j < q + size))) (sym regions) b.made;
    }

-- the answer is checked, and passes
module _ {c : TransferSetting} {A : Type 0} {gs : List Region} {H : Stop → List Call → Type 0} {P : ℕ → List Call → A → World → Type 0} where
  pub does_check : (o : LiftLowerOptions) (memory : Option MemoryOption) (t : TrapCode) (pointer bytes align : ℕ) (q : Action A) (w : World) (m : List ℕ) → HasSideMemory (record o { memory = memory }) → AreBytesOf c.places (record o { memory = memory }) w.state m
      → pointer % align ≡ 0 → pointer + bytes ≤ length m → RunsHonestly c gs H P q w → RunsHonestly c gs H P (check_region (record o { memory = memory }) t pointer bytes align q) w
  does_check o None t pointer bytes align q w m there are e le d = absurd there
  does_check o (Some n) t pointer bytes align q w m there are e le d =
      does_pass _ (nat_eq (pointer % align) 0) (MemoryLength n.def (λ length. unless t (nat_le (pointer + bytes) length) q)) w (eq-eqb (pointer % align) 0 e)
      (does_length are (does_pass t (nat_le (pointer + bytes) (length m)) q w (le-leb (pointer + bytes) (length m) le) d))

begun_quiet : (align size most : ℕ) (gs : List Region) (w w' : World) (cs : List Call) → most ≤ 7 → IsQuiet gs most w w' cs → IsRegionBegun align size cs
begun_quiet align size most gs w w' cs le q = record { crosses = q.crosses; asks = inl q.asks; few = omega (arith, q.few, le) }

module _ (c : TransferSetting) (m : List ℕ) (align size : ℕ) (t : TrapCode) {A : Type 0} (k : ℕ → Action A) (gs : List Region) (H : Stop → List Call → Type 0) (P : ℕ → List Call → A → World → Type 0) where
  -- realloc and what stands around it
  reallocated : (b : Bool) (r : Option CoreDef) (w : World) → HoldsMemories c m w → HasSideMemory c.transfer.to → HasRealloc (record c.transfer.to { realloc = r }) → ((cs : List Call) → IsRegionBegun align size cs → H Lack cs)
      → ((q : ℕ) (cs : List Call) (w' : World) → NewRegion c gs m align size q cs w' → RunsHonestly c (regions_after gs cs) (λ s ds. H s (cs ++ ds)) (λ n ds a w''. P n (cs ++ ds) a w'') (k q) w')
      → RunsHonestly c gs H P (reallocate b (record c.transfer.to { realloc = r }) t 0 0 align size k) w
  reallocated b None w ready there has lack next = absurd has
  reallocated b (Some f) w ready there has lack next =
      let o = record c.transfer.to { realloc = Some f } in
      let args = address_value o 0 ∷ address_value o 0 ∷ address_value o align ∷ address_value o size ∷ [] in
      let checked : List CoreValue → Action A = λ rs. check_region o t (first_bits rs) size align (k (first_bits rs)) in
      let called : List CoreValue → List CoreValue → Action A = λ x y. Ask (import.CoreDef f) args (type_of_addresses o ∷ []) (λ rs. set_slots b x y (checked rs)) in
      does_get_slots b (λ x y. set_slots b (I32 0 ∷ []) (I32 0 ∷ []) (called x y)) w (λ cs w' q. lack cs (begun_quiet align size 2 gs w w' cs (lit≤ tt) q))
      (λ x y w1 es q1. does_set_slots b (I32 0 ∷ []) (I32 0 ∷ []) (called x y) w1 (λ cs w' q. lack (es ++ cs) (begun_quiet align size 4 gs w w' (es ++ cs) (lit≤ tt) (quiet_then es cs w w1 w' 2 2 4 (lit≤ tt) q1 q)))
      (λ w2 fs q2.
      let q12 = quiet_then es fs w w1 w2 2 2 4 (lit≤ tt) q1 q2 in
      does_ask (subst (λ l. H Lack (es ++ l)) (sym (append-nil fs)) (lack (es ++ fs) (begun_quiet align size 4 gs w w2 (es ++ fs) (lit≤ tt) q12)))
      (λ rs w3 typed honest.
      let one : Call = record { what = import.CoreDef f; args = args; before = w2.state; answer = Returns rs w3.state } in
      let r = region_made c gs m align size f args rs w2 w3 (ready_later c m w w2 q12.memories ready) there (request_is (is_wide c.transfer.to.memory) align size) typed honest in
      does_set_slots b x y (checked rs) w3
      (λ cs w' q. subst (λ l. H Lack l) (append_assoc es fs (one ∷ cs)) (lack ((es ++ fs) ++ (one ∷ cs)) (begun_asked (es ++ fs) one cs w w2 w3 w' q12 r q)))
      (λ w4 ds q4.
      let all = region_between c gs m align size (first_bits rs) (es ++ fs) (one ∷ []) ds w w2 w3 w4 q12 r q4 refl in
      does_check c.transfer.to c.transfer.to.memory t (first_bits rs) size align (k (first_bits rs)) w4 all.now there all.ready.to all.aligned all.inside
      (does_more
      (λ s zs o h. subst (λ l. H s l) (append_assoc (es ++ fs) (one ∷ ds) zs ∙ append_assoc es fs (one ∷ (ds ++ zs))) h)
      (λ n zs a w5 o h. subst (λ l. P n l a w5) (append_assoc (es ++ fs) (one ∷ ds) zs ∙ append_assoc es fs (one ∷ (ds ++ zs))) h)
      (subst (λ rs2. RunsHonestly c rs2 (λ s zs. H s (((es ++ fs) ++ (one ∷ ds)) ++ zs)) (λ n zs a w5. P n (((es ++ fs) ++ (one ∷ ds)) ++ zs) a w5) (k (first_bits rs)) w4)
      (regions_between gs (es ++ fs) (one ∷ []) ds w w2 w3 w4 q12 q4) (next (first_bits rs) ((es ++ fs) ++ (one ∷ ds)) w4 all)))))))
    where
      begun_asked : (es : List Call) (one : Call) (cs : List Call) (w w2 w3 w' : World) {q : ℕ} → IsQuiet gs 4 w w2 es → NewRegion c gs m align size q (one ∷ []) w3 → IsQuiet (regions_after gs (one ∷ [])) 2 w3 w' cs → IsRegionBegun align size (es ++ (one ∷ cs))
      begun_asked es one cs w w2 w3 w' a r d = let told = (region_between c gs m align size _ es (one ∷ []) cs w w2 w3 w' a r d refl).told in record { crosses = told.crosses; asks = inr told.asks; few = told.few }

  pub does_reallocate : (w : World) → HoldsMemories c m w → HasSideMemory c.transfer.to → HasRealloc c.transfer.to → ((cs : List Call) → IsRegionBegun align size cs → H Lack cs)
      → ((q : ℕ) (cs : List Call) (w' : World) → NewRegion c gs m align size q cs w' → RunsHonestly c (regions_after gs cs) (λ s ds. H s (cs ++ ds)) (λ n ds a w''. P n (cs ++ ds) a w'') (k q) w')
      → RunsHonestly c gs H P (reallocate c.transfer.concurrency c.transfer.to t 0 0 align size k) w
  does_reallocate = reallocated c.transfer.concurrency c.transfer.to.realloc
