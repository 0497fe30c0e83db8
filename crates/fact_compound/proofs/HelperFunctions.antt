-- The function of a helper as it is written does the moves of the helper, wherever values of its types stand, and is typed.
use Rattle.std.proofs.Common.{◌≡◌, ℕ, zero, suc, ◌≤◌, Bool, true, false, List, [], ◌∷◌, ◌++◌, Option, Some, None, refl, sym, ap, ◌∙◌, subst, arith, length, map, drop, reverse, slice_get}
use Rattle.std.specs.Prelude.{Err, IfOk, Ok, Result, if◌then◌else◌, replicate, unwrap_or}
use Rattle.std.proofs.lemmas.Bool.{le-leb}
use Rattle.fact_wasm.specs.CoreTypes.{signature}
use Rattle.fact_wasm.specs.declared.module.WasmFunc.{WasmFunc}
use Rattle.fact_wasm.specs.declared.module.WasmModule.{WasmModule}
use Rattle.fact_wasm.specs.declared.types.ValType.{ValType}
use Rattle.fact_wasm.specs.declared.types.ValType.TheVariants as val
use Rattle.fact_machine.specs.Exits.{entry_locals}
use Rattle.fact_machine.specs.Machine.{locals_of}
use Rattle.fact_machine.specs.Trace.{Grows}
use Rattle.fact_machine.specs.Typed.{are_values}
use Rattle.fact_machine.specs.Typing.{address_type, is_typed_function, local_types}
use Rattle.fact_machine.specs.declared.types.CoreValue.{CoreValue}
use Rattle.fact_machine.proofs.Tests.{both}
use Rattle.fact_types.specs.declared.extents.MemoryWidth.{MemoryWidth}
use Rattle.fact_types.specs.FlatShapes.{IsCounted, flat}
use Rattle.fact_types.specs.Shapes.{Shape, layout_of}
use Rattle.fact_types.proofs.CountLaws.{count_is_length}
use Rattle.fact_types.specs.Signatures.{flat_or, flat_values, width}
use Rattle.fact_types.specs.Tables.{HasShape, Tables}
use Rattle.fact_types.specs.declared.interface.InterfaceType.{InterfaceType}
use Rattle.fact_types.specs.declared.signature.Signature.{Signature}
use Rattle.fact_actions.specs.Moves.{move}
use Rattle.fact_actions.specs.Running.{ImportPlaces}
use Rattle.fact_actions.specs.Sides.{LiftLowerOptions, width_of_side}
use Rattle.fact_actions.specs.Alike.{source_as_i64}
use Rattle.fact_code_laws.specs.Does.{Does, Onward, held_types}
use Rattle.fact_code_laws.specs.Helpers.{AreGiven, AreValues, IsHelper, args_of_source, args_of_target, flat_target, given_out, params_of_source, params_of_target, results_of_target}
use Rattle.fact_code_laws.specs.Places.{From, InLocals, InMemory, To, ToLocals, ToMemory, Rooms, Slot, transfer}
use Rattle.fact_code_laws.specs.Typed.{OnStack, IsTyped}
use Rattle.fact_code_laws.proofs.TypedShapes.{typed_body}
use Rattle.fact_emit.specs.Asked.{AskedHelper, HasHelpers, flats_given, sides_of_helper}
use Rattle.fact_emit.specs.Brought.{Brought}
use Rattle.fact_emit.specs.Fitting.{CanRead, bytes_of_shape}
use Rattle.fact_emit.specs.Imports.{AreOnce, Extended, Serves}
use Rattle.fact_emit.specs.NamedFunctions.{defined_named}
use Rattle.fact_emit.specs.Places.{setting_of}
use Rattle.fact_emit.specs.States.{HasType, ModuleSoFar}
use Rattle.fact_emit.specs.Writers.{AreNumberTypes, types_of_locals}
use Rattle.fact_emit.specs.Options.{linear_of_options}
use Rattle.fact_emit.specs.declared.helpers.Helper.{Helper}
use Rattle.fact_emit.specs.declared.helpers.HelperLocation.{HelperLocation}
use Rattle.fact_emit.specs.declared.helpers.HelperLocation.TheVariants as location
use Rattle.fact_emit.specs.declared.places.LinearMemory.{LinearMemory}
use Rattle.fact_emit.specs.declared.writer.Local.{Local}
use Rattle.fact_emit.specs.declared.writer.Writer.{Writer}
use Rattle.fact_emit.proofs.BroughtLaws.{brought_between}
use Rattle.fact_emit.proofs.ImportLaws.{extended_on, grown_get}
use Rattle.fact_emit.specs.declared.helpers.HelperType.{HelperType}
use Rattle.fact_kinds.specs.Asks.{params_at, params_of_side}
use Rattle.fact_kinds.specs.declared.fuel.Fuel.{Fuel}
use Rattle.fact_compound.specs.Translated.{IsFullFuel}
use Rattle.fact_compound.specs.Helpers.{AreFewAt, AsksAsHelper, DoesHelper, IsHelperSignature, UsesHelper, WroteHelper, WroteHelperBody, asked_as, helper_params, helper_results, results_at, target_params}
use Rattle.fact_compound.proofs.AsksLaws.{asks_behind, asks_same, type_new}
use Rattle.fact_compound.proofs.HelperBodies.{from_at, to_at}
use Rattle.fact_compound.proofs.HelperPlaces.{IsFromAt, IsToAt, reads_few, room_length, same_width}
use Rattle.fact_compound.proofs.Runs.{declares_all, numbers_append, numbers_behind}
use Rattle.fact_compound.proofs.SlotsFrom.{args_held, held_entry}
use Rattle.fact_compound.proofs.WholeFunctions.{drop_long, drop_mapped, flats_numbers, typed_within}

-- ---- arguments and their types

values_are : (vs : List CoreValue) (ts : List ValType) → AreValues vs ts → are_values vs ts ≡ true
values_are [] [] h = refl
values_are [] (t ∷ ts) h = absurd h
values_are (v ∷ vs) [] h = absurd h
values_are (v ∷ vs) (t ∷ ts) h = both h.0 (values_are vs ts h.1)

wide_params : (slots : List Slot) (n : ℕ) → length slots ≡ n → map (λ (s : Slot). val.I64) slots ≡ replicate n val.I64
wide_params [] zero e = refl
wide_params [] (suc n) e = absurd (omega (arith, e))
wide_params (s ∷ ss) zero e = absurd (omega (arith, e))
wide_params (s ∷ ss) (suc n) e = ap (λ ts. val.I64 ∷ ts) (wide_params ss n (let k : length ss ≡ n = omega (arith, e) in k))

source_alike : (M : WasmModule) (p : ImportPlaces) (o : LiftLowerOptions) (m : LinearMemory) (x : Shape) (callers : List ValType) (bytes : ℕ) → width_of_side o ≡ width m.memory64 → (l : HelperLocation) (src : From) → IsFromAt l m src
    → CanRead M p callers o m.memory64 src (flat (width_of_side o) x) bytes → params_of_source m.memory64 src ≡ params_at l m.memory64 (length (flat (width m.memory64) x))
source_alike M p o m x callers bytes same location.Stack (InLocals slots) found reads = wide_params slots (length (flat (width m.memory64) x)) (room_length slots (flat (width_of_side o) x) reads.room ∙ ap (λ w. length (flat w x)) same)
source_alike M p o m x callers bytes same location.Memory (InMemory memory base offset) found reads = refl
source_alike M p o m x callers bytes same location.Stack (InMemory memory base offset) found reads = let no : location.Stack ≡ location.Memory = found.0 in cc
source_alike M p o m x callers bytes same location.Memory (InLocals slots) found reads = let no : location.Memory ≡ location.Stack = found in cc

target_alike : (m : LinearMemory) (l : HelperLocation) (dst : To) → IsToAt l m dst → params_of_target m.memory64 dst ≡ target_params l m.memory64
target_alike m location.Stack (ToLocals slots) put = refl
target_alike m location.Memory (ToMemory memory base offset) put = refl
target_alike m location.Stack (ToMemory memory base offset) put = let no : location.Stack ≡ location.Memory = put.0 in cc
target_alike m location.Memory (ToLocals slots) put = let no : location.Memory ≡ location.Stack = put in cc

results_alike : (m : LinearMemory) (u : Shape) (l : HelperLocation) (dst : To) → IsToAt l m dst → results_of_target (flats_given m.memory64 u) dst ≡ results_at l m.memory64 u
results_alike m u location.Stack (ToLocals slots) put = refl
results_alike m u location.Memory (ToMemory memory base offset) put = refl
results_alike m u location.Stack (ToMemory memory base offset) put = let no : location.Stack ≡ location.Memory = put.0 in cc
results_alike m u location.Memory (ToLocals slots) put = let no : location.Memory ≡ location.Stack = put in cc

-- what a target on the stack gets, by its flat types
pub given_on_stack : {t : Tables} {ty : InterfaceType} (m : Bool) {E : Type 0} (l : HelperLocation) → l ≡ location.Stack → (r : Result (List ValType) E) → ((s : Shape) → HasShape t ty s → IfOk r (λ flats. flats ≡ flats_given m s))
    → IfOk r (λ results. (u : Shape) → HasShape t ty u → results ≡ results_at l m u)
given_on_stack {t} {ty} m {E} l is r h = subst (λ (at : HelperLocation). IfOk r (λ results. (u : Shape) → HasShape t ty u → results ≡ results_at at m u)) (sym is) (go r h)
  where
    go : (r : Result (List ValType) E) → ((s : Shape) → HasShape t ty s → IfOk r (λ flats. flats ≡ flats_given m s)) → IfOk r (λ results. (u : Shape) → HasShape t ty u → results ≡ flats_given m u)
    go (Ok flats) h = h
    go (Err e) h = tt

-- an i64 for each flat type, by the count of the layout
counted_flats : (w : MemoryWidth) (x : Shape) → IsCounted x → length (flat w x) ≤ 16 → unwrap_or (layout_of x).flat_count 0 ≡ length (flat w x)
counted_flats w x counted few = ap (λ o. unwrap_or o 0) (count_is_length w x counted) ∙ ap (λ (b : Bool). unwrap_or (if b then Some (length (flat w x)) else None) 0) (le-leb (length (flat w x)) 16 few)

pub side_params : (h : HelperType) (x : Shape) → IsCounted x → AreFewAt h x → params_of_side h (unwrap_or (layout_of x).flat_count 0) ≡ params_of_side h (length (flat (width h.opts.linear.memory64) x))
side_params h x counted few = go h.loc refl
  where
    go : (l : HelperLocation) → h.loc ≡ l → params_at l h.opts.linear.memory64 (unwrap_or (layout_of x).flat_count 0) ≡ params_at l h.opts.linear.memory64 (length (flat (width h.opts.linear.memory64) x))
    go location.Stack is = ap (λ n. replicate n val.I64) (counted_flats (width h.opts.linear.memory64) x counted (few is))
    go location.Memory is = refl

-- ---- all of them are types of numbers

wide_numbers : (n : ℕ) → AreNumberTypes (replicate n val.I64)
wide_numbers zero = refl
wide_numbers (suc n) = wide_numbers n

given_numbers : (m : Bool) (u : Shape) → AreNumberTypes (flats_given m u)
given_numbers m u = go (flat_values m 16 (u ∷ [])) (flats_numbers m 16 (u ∷ []) [] refl)
  where
    go : (o : Option (List ValType)) → AreNumberTypes (flat_or [] o) → AreNumberTypes (unwrap_or o [])
    go None h = refl
    go (Some ts) h = h

address_number : (m : Bool) → AreNumberTypes (address_type m ∷ [])
address_number true = refl
address_number false = refl

params_numbers : (l k : HelperLocation) (m n : Bool) (x : ℕ) (u : Shape) → AreNumberTypes ((params_at l m x ++ target_params k n) ++ results_at k n u)
params_numbers l k m n x u = numbers_append (params_at l m x ++ target_params k n) (results_at k n u) (numbers_append (params_at l m x) (target_params k n) (first l) (second k)) (third k)
  where
    first : (l : HelperLocation) → AreNumberTypes (params_at l m x)
    first location.Stack = wide_numbers x
    first location.Memory = address_number m

    second : (k : HelperLocation) → AreNumberTypes (target_params k n)
    second location.Stack = refl
    second location.Memory = address_number n

    third : (k : HelperLocation) → AreNumberTypes (results_at k n u)
    third location.Stack = given_numbers n u
    third location.Memory = refl

-- ---- the function

module _ {t : Tables} {debug concurrency : Bool} {k : Helper} {s : Signature} {ty : ℕ} {fuel : ℕ} {before_fuel : Fuel} (full : IsFullFuel before_fuel) (same_fuel : before_fuel.initial ≡ fuel) {a0 c : Writer} (sig : IsHelperSignature t k s) (w : WroteHelperBody t debug concurrency k s before_fuel a0 c) {q0 q1 new : ModuleSoFar}
    (place : slice_get q1.types ty ≡ Some (signature s.params s.results)) (declares : HasType q0 q1 (signature s.params s.results)) (keeps : Extended q0 q1) (once : AreOnce q0 → AreOnce q1)
    (before : a0.sections ≡ q1) (after : new ≡ c.sections) (f : WasmFunc) (ty_is : f.ty ≡ ty) (body_is : f.body ≡ c.code.items) (locals_are : local_types f.locals ≡ map (λ (l : Local). l.ty) (drop (length s.params) c.locals.items)) where
  declared : local_types f.locals ≡ w.params.more
  declared = locals_are ∙ drop_mapped (λ (l : Local). l.ty) (length s.params) c.locals.items ∙ ap (drop (length s.params)) w.params.is ∙ drop_long s.params w.params.more

  all_types : types_of_locals c ≡ s.params ++ local_types f.locals
  all_types = w.params.is ∙ ap (λ ts. s.params ++ ts) (sym declared)

  grown : Extended q1 new
  grown = subst (λ q. Extended q new) before (subst (λ q. Extended a0.sections q) (sym after) w.imports)

  module _ (number : ℕ) {M : WasmModule} {p : ImportPlaces} (serves : Serves M p new) (types : Grows new.types M.types) (there : slice_get M.funcs number ≡ Some f) (has : HasHelpers M p w.asks)
      {x u : Shape} {src : From} {dst : To} {from to : LiftLowerOptions} (uses : UsesHelper M p (asked_as t debug concurrency (k, number)) x u src dst from to) where
    abbrev a : AskedHelper
    a = asked_as t debug concurrency (k, number)

    abbrev m : LinearMemory
    m = linear_of_options k.src.opts

    abbrev n : LinearMemory
    n = linear_of_options k.dst.opts

    params_is : s.params ≡ helper_params k x
    params_is = sig.params x uses.from_shape uses.from_counted (λ stack. reads_few M p from m uses.fits.from_wide k.src.loc x uses.locals (bytes_of_shape (width_of_side from) x) src (from_at k.src src uses.found) uses.fits.reads stack)

    results_is : s.results ≡ helper_results k u
    results_is = sig.results u uses.to_shape

    body : DoesHelper a x u src dst from to M p (types_of_locals c) c.code.items
    body = w.is number M p (subst (λ q. Serves M p q) after serves) has x u src dst from to uses params_is results_is

    type_is : slice_get M.types f.ty ≡ Some (signature s.params s.results)
    type_is = ap (slice_get M.types) ty_is ∙ grown_get types ty (signature s.params s.results) (grown_get grown.types ty (signature s.params s.results) place)

    alike : params_of_source m.memory64 src ++ params_of_target n.memory64 dst ≡ helper_params k x
    alike = λ i.
        source_alike M p from m x uses.locals (bytes_of_shape (width_of_side from) x) (same_width from m uses.fits.from_wide) k.src.loc src (from_at k.src src uses.found) uses.fits.reads i
        ++ target_alike n k.dst.loc dst (to_at k.dst dst uses.put) i

    own_types : types_of_locals c ≡ helper_params k x ++ local_types f.locals
    own_types = all_types ∙ ap (λ ts. ts ++ local_types f.locals) params_is

    pub is_helper : (rooms : Rooms) (callers : List ValType) → IsHelper M p m.memory64 n.memory64 src dst (bytes_of_shape (width_of_side from) x) (bytes_of_shape (width_of_side to) u) (flats_given n.memory64 u) number (move (transfer (setting_of (sides_of_helper a) from to rooms M p callers)) x u)
    is_helper rooms callers = record {
      func = f;
      there = there;
      typed = type_is ∙ (λ i. Some (signature ((params_is ∙ sym alike) i) ((results_is ∙ sym (results_alike n u k.dst.loc dst (to_at k.dst dst uses.put))) i)));
      does = λ v d kind kind' values room room'.
          let args : List CoreValue = args_of_source m.memory64 v ++ args_of_target n.memory64 d in
          let typed : are_values args (helper_params k x) ≡ true = values_are args (helper_params k x) (subst (AreValues args) alike values) in
          let held : held_types (entry_locals f args) ≡ types_of_locals c = held_entry args (helper_params k x) f.locals typed ∙ sym own_types in
          subst (λ l. Does M p Onward 0 484 [] (entry_locals f args) l (move (transfer (setting_of (sides_of_helper a) from to rooms M p callers)) x u (source_as_i64 v) (flat_target (flats_given n.memory64 u) d)) (given_out d) (λ vs ls'. AreGiven (flats_given n.memory64 u) d vs)) (sym body_is)
          (body.does rooms callers v d kind kind' room room' (entry_locals f args) held (args_held args (helper_params k x) (locals_of f.locals) typed));
    }

    pub is_typed : is_typed_function M f ≡ true
    is_typed =
        let numbers : AreNumberTypes (s.params ++ s.results) = subst (λ ts. AreNumberTypes ts) (sym (λ i. params_is i ++ results_is i)) (params_numbers k.src.loc k.dst.loc m.memory64 n.memory64 (length (flat (width m.memory64) x)) u) in
        let declared_numbers : AreNumberTypes (local_types f.locals) = numbers_behind s.params (local_types f.locals) (subst (λ ts. AreNumberTypes ts) all_types (w.numbers numbers)) in
        typed_body f (signature s.params s.results) type_is (declares_all f.locals declared_numbers)
        (typed_within (subst (λ ts. IsTyped M ts [] f.body [] (OnStack (reverse s.results))) all_types
        (subst (λ rs. IsTyped M (types_of_locals c) [] f.body [] (OnStack (reverse rs))) (sym results_is)
        (subst (λ l. IsTyped M (types_of_locals c) [] l [] (OnStack (reverse (helper_results k u)))) (sym body_is) body.typed))))

  -- The function of the body was written.
  pub wrote_helper : WroteHelper t debug concurrency fuel k q0 new f
  wrote_helper = record {
    ty = signature s.params s.results;
    declared = q1;
    declares = declares;
    brought = subst (Brought q1 new) (sym body_is) (brought_between before (sym after) w.brought);
    imports = extended_on keeps grown;
    once = λ o. subst AreOnce (sym after) (w.once (subst AreOnce (sym before) (once o)));
    asks = w.asks;
    asked = asks_behind (type_new declares) (asks_same before (sym after) w.asked);
    lower = w.lower;
    named = ap defined_named body_is ∙ w.named;
    keys = subst (λ n. AsksAsHelper t debug concurrency n k w.asks) same_fuel (w.keys full);
    from_small = w.from_small;
    to_small = w.to_small;
    is = λ number M p serves types there has. record {
      has = record {
        moves = λ x u hx hu cx cu can src dst found put from to rooms callers fits.
            is_helper number serves types there has
            (record { from_shape = hx; to_shape = hu; from_counted = cx; to_counted = cu; moves = can; found = found; put = put; rooms = rooms; locals = callers; fits = fits }) rooms callers;
      };
      typed = λ x u src dst from to uses. is_typed number serves types there has uses;
    };
  }
