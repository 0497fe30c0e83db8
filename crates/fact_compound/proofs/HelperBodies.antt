-- The body of a helper as it is written: code that moves values between places of its own, behind which what it gives is pushed.
use Rattle.std.proofs.Common.{◌≡◌, ℕ, suc, ◌+◌, ◌<◌, ◌≤◌, Bool, true, false, List, [], ◌∷◌, ◌++◌, Some, refl, sym, ap, ◌∙◌, subst, arith, append-nil, length, length-append, map, reverse, slice_get, get_or}
use Rattle.std.proofs.lemmas.List.{length-map}
use Rattle.std.proofs.lemmas.Option.{slice_get-get_or}
use Rattle.std.specs.List.{AllByRecursion}
use Rattle.fact_wasm.specs.declared.instr.Instr.TheVariants as I
use Rattle.fact_wasm.specs.declared.module.WasmModule.{WasmModule}
use Rattle.fact_wasm.specs.declared.types.ValType.{ValType}
use Rattle.fact_wasm.specs.declared.types.ValType.TheVariants as val
use Rattle.fact_machine.specs.Trace.{Grows}
use Rattle.fact_machine.specs.Typing.{address_type}
use Rattle.fact_types.specs.FlatShapes.{flat}
use Rattle.fact_types.specs.Heights.{height}
use Rattle.fact_types.specs.Shapes.{Shape}
use Rattle.fact_types.specs.Signatures.{width}
use Rattle.fact_types.specs.Tables.{Tables}
use Rattle.fact_types.specs.declared.signature.Signature.{Signature}
use Rattle.fact_actions.specs.Alike.{source_as_i64}
use Rattle.fact_actions.specs.Moves.{move}
use Rattle.fact_actions.specs.Running.{ImportPlaces}
use Rattle.fact_actions.specs.Sides.{LiftLowerOptions, width_of_side}
use Rattle.fact_code_laws.specs.Does.{Does, Onward}
use Rattle.fact_code_laws.specs.Helpers.{AreGiven, AreResultSlots, flat_target, given_out, result_code, get_code}
use Rattle.fact_code_laws.specs.Places.{From, InLocals, InMemory, To, ToLocals, ToMemory, Moves, AreLocals, Rooms, Slot, transfer}
use Rattle.fact_code_laws.specs.Typed.{OnStack, IsTyped}
use Rattle.fact_code_laws.proofs.HelperMoves.{helper_bodies_move}
use Rattle.fact_code_laws.proofs.TypingLaws.{typed_then}
use Rattle.fact_emit.specs.Asked.{AskedHelper, HasHelpers, IsFoundAt, IsPutAt, flats_given, sides_of_helper}
use Rattle.fact_emit.specs.Brought.{Brought}
use Rattle.fact_emit.specs.Emits.{EmitsAsking, Grew, GrewAsking, Later}
use Rattle.fact_emit.specs.Fitting.{FitsShapes, MovesShape, bytes_of_shape}
use Rattle.fact_emit.specs.Imports.{AreOnce, Extended, Serves}
use Rattle.fact_emit.specs.NamedFunctions.{defined_named}
use Rattle.fact_emit.specs.Places.{Using, setting_of}
use Rattle.fact_emit.specs.States.{ModuleSoFar}
use Rattle.fact_emit.specs.Writers.{AreNumberTypes, Wrote, is_local_in_use, taken_in, types_of_locals, used_local_of}
use Rattle.fact_emit.specs.declared.helpers.Helper.{Helper}
use Rattle.fact_emit.specs.declared.helpers.HelperLocation.{HelperLocation}
use Rattle.fact_emit.specs.declared.helpers.HelperLocation.TheVariants as location
use Rattle.fact_emit.specs.declared.helpers.HelperType.{HelperType}
use Rattle.fact_emit.specs.declared.places.LinearMemory.{LinearMemory}
use Rattle.fact_emit.specs.declared.places.Sides.{Sides}
use Rattle.fact_emit.specs.declared.writer.Local.{Local}
use Rattle.fact_emit.specs.declared.writer.Writer.{Writer}
use Rattle.fact_emit.specs.Options.{linear_of_options}
use Rattle.fact_emit.proofs.BroughtLaws.{brought_between}
use Rattle.fact_emit.proofs.Emitting.{emits_wrote, grew_on, sooner}
use Rattle.fact_emit.proofs.ImportLaws.{grown_get, grows_none, grows_on}
use Rattle.fact_emit.proofs.Locals.{get_map}
use Rattle.fact_kinds.specs.Asks.{IsAsked, params_at}
use Rattle.fact_kinds.specs.Moved.{MovedInPlace}
use Rattle.fact_kinds.specs.declared.fuel.Fuel.{Fuel}
use Rattle.fact_compound.specs.Asks.{sides_between}
use Rattle.fact_steps.proofs.RangedSteps.{pushed_ranged}
use Rattle.fact_steps.specs.Code.{pushed_code}
use Rattle.fact_compound.specs.Code.{slot_types}
use Rattle.fact_compound.specs.Functions.{AddedLocals, params_among, slots_from}
use Rattle.fact_compound.specs.Helpers.{AreLower, DoesHelper, UsesHelper, WroteHelperBody, asked_as, helper_params, helper_results, is_on_stack, results_at, target_params}
use Rattle.fact_compound.specs.Passing.{last_local, tuple_from, tuple_to}
use Rattle.fact_compound.proofs.AsksLaws.{asks_kept, asks_of_moves, asks_same, new_none}
use Rattle.fact_compound.proofs.KeyLaws.{helper_keys, located_source, located_target}
use Rattle.fact_compound.proofs.HelperPlaces.{IsFromAt, IsToAt, among_params, from_room, from_used, from_within, goes_own, kept_param, kept_taken, free_behind, keeps_params, own_from, own_to, last_is, reads_own, results_few, stands_own, target_distinct, target_taken, to_room, to_used, to_within, used_slots, writes_few, writes_own}
use Rattle.fact_compound.proofs.LocalsAdded.{added_then, types_from}
use Rattle.fact_compound.proofs.SlotsFrom.{locals_from, same_place, used_types}
use Rattle.fact_compound.proofs.SyncTyping.{typed_pushed}

-- ---- what is pushed

get_pushed : (ss : List Slot) → get_code ss ≡ pushed_code ss
get_pushed [] = refl
get_pushed (s ∷ ss) = ap (λ c. I.LocalGet s.0 ∷ c) (get_pushed ss)

result_pushed : (l : HelperLocation) (m : LinearMemory) (u : Shape) (params : List ValType) → result_code (own_to l m u params) ≡ pushed_code (slots_from (length params) (results_at l m.memory64 u))
result_pushed location.Stack m u params = get_pushed (slots_from (length params) (results_at location.Stack m.memory64 u))
result_pushed location.Memory m u params = refl

result_slots : (l : HelperLocation) (m : LinearMemory) (u : Shape) (params : List ValType) → (l ≡ location.Stack → length (slots_from (length params) (results_at l m.memory64 u)) ≤ 16) → AreResultSlots (flats_given m.memory64 u) (own_to l m u params)
result_slots location.Stack m u params few = (types_from (length params) (flats_given m.memory64 u), few refl)
result_slots location.Memory m u params few = tt

-- the parameters are the first locals, and what is given stands behind them
parts_front : (locals : List ValType) (k : ℕ) (front back : List ValType) → AreLocals locals (slots_from k (front ++ back)) → AreLocals locals (slots_from k front)
parts_front locals k [] back h = tt
parts_front locals k (t ∷ ts) back h = (h.0, parts_front locals (suc k) ts back h.1)

parts_back : (locals : List ValType) (k : ℕ) (front back : List ValType) → AreLocals locals (slots_from k (front ++ back)) → AreLocals locals (slots_from (length front + k) back)
parts_back locals k [] back h = let e : k ≡ 0 + k = omega arith in subst (λ n. AreLocals locals (slots_from n back)) e h
parts_back locals k (t ∷ ts) back h =
    let e : length ts + suc k ≡ length (t ∷ ts) + k = omega arith in
    subst (λ n. AreLocals locals (slots_from n back)) e (parts_back locals (suc k) ts back h.1)

-- the address of a target is the last parameter
last_param : (locals : List ValType) (memory64 : Bool) (front : List ValType) (l : HelperLocation) → AreLocals locals (slots_from 0 (front ++ target_params l memory64)) → l ≡ location.Memory → slice_get locals (last_local (slots_from 0 (front ++ target_params l memory64))) ≡ Some (address_type memory64)
last_param locals memory64 front location.Memory h e = ap (slice_get locals) (last_is 0 front (address_type memory64)) ∙ (parts_back locals 0 front (address_type memory64 ∷ []) h).0
last_param locals memory64 front location.Stack h e = cc

-- a caller's place is of the kind of the helper's
pub from_at : (h : HelperType) (src : From) → IsFoundAt h src → IsFromAt h.loc (linear_of_options h.opts) src
from_at h (InLocals slots) f = f
from_at h (InMemory memory base offset) f = f

pub to_at : (h : HelperType) (dst : To) → IsPutAt h dst → IsToAt h.loc (linear_of_options h.opts) dst
to_at h (ToLocals slots) f = f
to_at h (ToMemory memory base offset) f = f

-- what is asked for is of lower types
all_lower : (t : Tables) (sides : Sides) (k : Helper) (q : ModuleSoFar) (asks : List AskedHelper) → AllByRecursion (IsAsked t sides (height t k.dst.ty) q) asks → AreLower t k asks
all_lower t sides k q [] h = tt
all_lower t sides k q (a ∷ asks) h = (h.0.low, all_lower t sides k q asks h.1)

-- ---- the body

module _ {t : Tables} {debug concurrency : Bool} (k : Helper) {s : Signature} {before after : Fuel} {a0 b c e f : Writer} {params results : List Slot} (no_code : a0.code.items ≡ []) (no_locals : a0.locals.items ≡ [])
    (x1 : AddedLocals a0 b s.params params) (x2 : AddedLocals b c s.results results)
    (y : MovedInPlace t k.src.ty k.dst.ty (sides_between k debug concurrency) (tuple_from (linear_of_options k.src.opts) (is_on_stack k.src.loc) (params_among (is_on_stack k.dst.loc) params)) (tuple_to (linear_of_options k.dst.opts) (is_on_stack k.dst.loc) results params) before after c e)
    (z : Wrote e f (pushed_code results)) where
  abbrev types : List ValType
  types = s.params ++ s.results

  added : AddedLocals a0 c types (params ++ results)
  added = added_then x1 x2

  added_locals : c.locals.items ≡ map used_local_of types
  added_locals = added.locals ∙ ap (λ ls. ls ++ map used_local_of types) no_locals

  types_are : types_of_locals c ≡ types
  types_are = ap (map (λ (l : Local). l.ty)) added_locals ∙ used_types types

  params_are : params ≡ slots_from 0 s.params
  params_are = x1.slots_are ∙ ap (λ n. slots_from n s.params) (ap length no_locals)

  results_are : results ≡ slots_from (length s.params) s.results
  results_are =
      let n : length b.locals.items ≡ length s.params = omega (arith, ap length x1.locals, ap length no_locals, length-append a0.locals.items (map used_local_of s.params), length-map s.params used_local_of) in
      x2.slots_are ∙ ap (λ n. slots_from n s.results) n

  pushed : Grew e f
  pushed = (emits_wrote (pushed_ranged results) z).grew

  whole : GrewAsking (y.asks ++ []) c f
  whole = grew_on y.grew pushed

  all_typed : AreLocals (types_of_locals f) (slots_from 0 types)
  all_typed = locals_from (types_of_locals f) 0 types (λ i u g. ap (slice_get (types_of_locals f)) (same_place i) ∙ grown_get whole.locals i u (ap (λ ts. slice_get ts i) types_are ∙ g))

  taken_at : (i : ℕ) → i < length types → taken_in c i ≡ true
  taken_at i lt = ap (λ ls. is_local_in_use (slice_get ls i)) added_locals ∙ ap is_local_in_use (get_map used_local_of types i (get_or types i val.I32) (slice_get-get_or types i val.I32 lt))

  module _ (number : ℕ) {M : WasmModule} {p : ImportPlaces} (serves : Serves M p f.sections) (has : HasHelpers M p y.asks) {x u : Shape} {src : From} {dst : To} {from to : LiftLowerOptions}
      (uses : UsesHelper M p (asked_as t debug concurrency (k, number)) x u src dst from to) (params_is : s.params ≡ helper_params k x) (results_is : s.results ≡ helper_results k u) where
    abbrev a : AskedHelper
    a = asked_as t debug concurrency (k, number)

    abbrev m : LinearMemory
    m = linear_of_options k.src.opts

    abbrev n : LinearMemory
    n = linear_of_options k.dst.opts

    abbrev flats : ℕ
    flats = length (flat (width m.memory64) x)

    abbrev front : List ValType
    front = params_at k.src.loc m.memory64 flats

    abbrev own_params : List ValType
    own_params = front ++ target_params k.dst.loc n.memory64

    abbrev locals : List ValType
    locals = types_of_locals f

    abbrev rooms : Rooms
    rooms = record { from = bytes_of_shape (width_of_side from) x; to = bytes_of_shape (width_of_side to) u }

    abbrev own_source : From
    own_source = own_from k.src.loc m flats

    abbrev own_target : To
    own_target = own_to k.dst.loc n u own_params

    typed_all : AreLocals locals (slots_from 0 (own_params ++ helper_results k u))
    typed_all = subst (λ ts. AreLocals locals (slots_from 0 ts)) (λ i. params_is i ++ results_is i) all_typed

    typed_params : AreLocals locals (slots_from 0 own_params)
    typed_params = parts_front locals 0 own_params (helper_results k u) typed_all

    typed_results : AreLocals locals (slots_from (length own_params) (helper_results k u))
    typed_results = let e : length own_params + 0 ≡ length own_params = omega arith in subst (λ j. AreLocals locals (slots_from j (helper_results k u))) e (parts_back locals 0 own_params (helper_results k u) typed_all)

    taken_own : (i : ℕ) → i < length (own_params ++ helper_results k u) → taken_in c i ≡ true
    taken_own i lt = taken_at i (let l : length types ≡ length (own_params ++ helper_results k u) = (λ j. length (params_is j ++ results_is j)) in omega (arith, lt, l))

    source_is : tuple_from m (is_on_stack k.src.loc) (params_among (is_on_stack k.dst.loc) params) ≡ own_source
    source_is = ap (λ ss. tuple_from m (is_on_stack k.src.loc) (params_among (is_on_stack k.dst.loc) ss)) (params_are ∙ ap (slots_from 0) params_is) ∙ ap (tuple_from m (is_on_stack k.src.loc)) (among_params k.dst.loc n.memory64 front)

    target_is : tuple_to n (is_on_stack k.dst.loc) results params ≡ own_target
    target_is = λ i. tuple_to n (is_on_stack k.dst.loc) ((results_are ∙ (λ j. slots_from (length (params_is j)) (results_is j))) i) ((params_are ∙ ap (slots_from 0) params_is) i)

    fits : FitsShapes (sides_of_helper a) (setting_of (sides_of_helper a) from to rooms M p locals) x u own_source own_target
    fits = record {
      from_wide = uses.fits.from_wide;
      to_wide = uses.fits.to_wide;
      reads = reads_own M p from m uses.fits.from_wide k.src.loc x locals uses.locals rooms.from src (from_at k.src src uses.found) uses.fits.reads (parts_front locals 0 front (target_params k.dst.loc n.memory64) typed_params);
      writes = writes_own M p to n uses.fits.to_wide k.dst.loc u own_params locals uses.locals rooms.to dst (to_at k.dst dst uses.put) uses.fits.writes typed_results (last_param locals n.memory64 front k.dst.loc typed_params);
      within = record { source = from_within k.src.loc m flats rooms.from; target = to_within k.dst.loc n u own_params rooms.to };
      lists = uses.fits.lists;
    }

    used : ℕ → Bool
    used = keeps_params (length own_params) (taken_in c)

    using : Using (taken_in c) used own_source own_target
    unfolding used
    using = record {
      within = kept_taken (length own_params) (taken_in c);
      from = from_used k.src.loc m flats (keeps_params (length own_params) (taken_in c))
          (λ i lt. kept_param (length own_params) (taken_in c) i (omega (arith, lt, length-append front (target_params k.dst.loc n.memory64))) (taken_own i (omega (arith, lt, length-append front (target_params k.dst.loc n.memory64), length-append own_params (helper_results k u)))));
      to = to_used k.dst.loc n u front (keeps_params (length own_params) (taken_in c)) (λ i lt. kept_param (length own_params) (taken_in c) i lt (taken_own i (omega (arith, lt, length-append own_params (helper_results k u)))));
      target = target_taken k.dst.loc n u own_params (taken_in c) (used_slots (taken_in c) (length own_params) (helper_results k u) (λ i lt. taken_own (i + length own_params) (omega (arith, lt, length-append own_params (helper_results k u)))));
      distinct = target_distinct k.dst.loc n u own_params;
    }

    later : Later e M p locals
    later = sooner {a = e} {b = f} pushed.imports pushed.locals (record { serves = serves; begin = grows_none refl })

    emitted : EmitsAsking y.asks c e (MovesShape (sides_of_helper a) own_source own_target (taken_in c) x u)
    emitted =
        subst (λ d. EmitsAsking y.asks c e (MovesShape (sides_of_helper a) own_source d (taken_in c) x u)) target_is
        (subst (λ r. EmitsAsking y.asks c e (MovesShape (sides_of_helper a) r (tuple_to n (is_on_stack k.dst.loc) results params) (taken_in c) x u)) source_is
        (y.emits x u uses.from_shape uses.to_shape uses.from_counted uses.to_counted uses.moves))

    moves : Moves (setting_of (sides_of_helper a) from to rooms M p locals) used 0 500 own_source own_target (move (transfer (setting_of (sides_of_helper a) from to rooms M p locals)) x u) emitted.grew.added
    moves = (emitted.does M p locals later has).moves from to rooms used using fits

    code_is : f.code.items ≡ emitted.grew.added ++ pushed_code results
    code_is = z.code ∙ ap (λ l. l ++ pushed_code results) (emitted.grew.code ∙ ap (λ l. l ++ emitted.grew.added) (added.code ∙ no_code))

    body_is : emitted.grew.added ++ result_code own_target ≡ f.code.items
    body_is =
        let r : result_code own_target ≡ pushed_code results = result_pushed k.dst.loc n u own_params ∙ ap pushed_code (sym (results_are ∙ (λ j. slots_from (length (params_is j)) (results_is j)))) in
        ap (λ l. emitted.grew.added ++ l) r ∙ sym code_is

    free : (i : ℕ) → length own_params ≤ i → used i ≡ false
    unfolding used
    free i le = free_behind (length own_params) (taken_in c) i le

    pub does_helper : DoesHelper a x u src dst from to M p locals f.code.items
    does_helper = record {
      does = λ callers_rooms callers v d kind kind' room room' ls held_is held.
          subst (λ l. Does M p Onward 0 484 [] ls l (move (transfer (setting_of (sides_of_helper a) from to callers_rooms M p callers)) x u (source_as_i64 v) (flat_target (flats_given n.memory64 u) d)) (given_out d) (λ vs ls'. AreGiven (flats_given n.memory64 u) d vs)) body_is
          (helper_bodies_move (setting_of (sides_of_helper a) from to rooms M p locals) used own_source own_target x u (flats_given n.memory64 u) emitted.grew.added ls v d moves
          (result_slots k.dst.loc n u own_params (results_few k.dst.loc n u (length own_params) (writes_few M p to n uses.fits.to_wide k.dst.loc u uses.locals rooms.to dst (to_at k.dst dst uses.put) uses.fits.writes)))
          (record {
            types = held_is;
            stands = stands_own ls used k.src.loc k.dst.loc m n flats u src dst (from_at k.src src uses.found) (to_at k.dst dst uses.put) v d kind kind' held;
            goes = goes_own ls used k.src.loc k.dst.loc m n flats u src dst (from_at k.src src uses.found) (to_at k.dst dst uses.put) v d kind kind' held (subst (λ ts. AreLocals ts (slots_from (length own_params) (helper_results k u))) (sym held_is) typed_results) free;
            rooms = record {
              source = from_room ls used k.src.loc k.dst.loc m n flats u src dst (from_at k.src src uses.found) (to_at k.dst dst uses.put) v d kind kind' held rooms.from room;
              target = to_room ls used k.src.loc k.dst.loc m n flats u src dst (from_at k.src src uses.found) (to_at k.dst dst uses.put) v d kind kind' held rooms.to room';
            };
          }));
      typed =
          let slots : AreLocals locals results = subst (AreLocals locals) (sym (results_are ∙ (λ j. slots_from (length (params_is j)) (results_is j)))) typed_results in
          let outs : reverse (slot_types results) ++ [] ≡ reverse (helper_results k u) = append-nil (reverse (slot_types results)) ∙ ap reverse (ap slot_types results_are ∙ types_from (length s.params) s.results ∙ results_is) in
          subst (λ l. IsTyped M locals [] l [] (OnStack (reverse (helper_results k u)))) (sym code_is)
          (typed_then moves.typed (subst (λ ts. IsTyped M locals [] (pushed_code results) [] (OnStack ts)) outs (typed_pushed results [] slots)));
    }

  -- The body was written, with its locals.
  pub wrote_helper_body : WroteHelperBody t debug concurrency k s before a0 f
  wrote_helper_body =
      let body : f.code.items ≡ whole.added = whole.code ∙ ap (λ l. l ++ whole.added) (added.code ∙ no_code) in
      let first : Grows s.params types = record { more = s.results; is = refl } in
      record {
        imports = subst (λ q. Extended q f.sections) added.imports whole.imports;
        once = λ o. whole.once (subst AreOnce (sym added.imports) o);
        brought = brought_between added.imports refl (subst (Brought c.sections f.sections) (sym body) whole.brought);
        params = grows_on first (subst (λ ts. Grows ts (types_of_locals f)) types_are whole.locals);
        numbers = λ n. whole.numbers (subst (λ ts. AreNumberTypes ts) (sym types_are) n);
        asks = y.asks;
        asked = asks_same added.imports refl (asks_kept pushed.imports (asks_of_moves y.asked y.grew) (new_none z.imports));
        lower = all_lower t (sides_between k debug concurrency) k e.sections y.asks y.asked.each;
        named = ap defined_named body ∙ whole.calls ∙ ap (map (λ (a : AskedHelper). a.number)) (append-nil y.asks);
        keys = λ full. record {
          along = λ r x u hx hu cx cu can from to.
              helper_keys x u k.src.loc k.dst.loc (located_source (linear_of_options k.src.opts) k.src.loc (params_among (is_on_stack k.dst.loc) params)) (located_target (linear_of_options k.dst.opts) k.dst.loc results params) full
              (y.translated x u hx hu cx cu can) r from to;
        };
        from_small = y.from_small;
        to_small = y.to_small;
        is = λ number M p serves has x u src dst from to uses params_is results_is. does_helper number serves has uses params_is results_is;
      }

-- the same, by what the functions say of the places
pub helper_body_by : {t : Tables} {debug concurrency : Bool} {k : Helper} {s : Signature} {before after : Fuel} {a0 b c e f : Writer} {params results : List Slot} {sides : Sides} {src : From} {dst : To} → sides ≡ sides_between k debug concurrency → a0.code.items ≡ [] → a0.locals.items ≡ []
    → AddedLocals a0 b s.params params → AddedLocals b c s.results results → src ≡ tuple_from sides.from (is_on_stack k.src.loc) (params_among (is_on_stack k.dst.loc) params) → dst ≡ tuple_to sides.to (is_on_stack k.dst.loc) results params
    → MovedInPlace t k.src.ty k.dst.ty sides src dst before after c e → Wrote e f (pushed_code results) → WroteHelperBody t debug concurrency k s before a0 f
helper_body_by {t} {debug} {concurrency} {k} {s} {before} {after} {a0} {b} {c} {e} {f} {params} {results} {sides} {src} {dst} same no_code no_locals x1 x2 src_is dst_is y z =
    let y1 = subst (λ r. MovedInPlace t k.src.ty k.dst.ty sides r dst before after c e) src_is y in
    let y2 = subst (λ d. MovedInPlace t k.src.ty k.dst.ty sides (tuple_from sides.from (is_on_stack k.src.loc) (params_among (is_on_stack k.dst.loc) params)) d before after c e) dst_is y1 in
    let y3 = subst (λ (q : Sides). MovedInPlace t k.src.ty k.dst.ty q (tuple_from q.from (is_on_stack k.src.loc) (params_among (is_on_stack k.dst.loc) params)) (tuple_to q.to (is_on_stack k.dst.loc) results params) before after c e) same y2 in
    wrote_helper_body k no_code no_locals x1 x2 y3 z
