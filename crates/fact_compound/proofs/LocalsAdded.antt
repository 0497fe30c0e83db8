-- Locals that were put behind the others, one after another.
use Rattle.std.proofs.Common.{◌≡◌, ℕ, zero, suc, ◌+◌, ◌-◌, ◌<◌, ◌≤◌, Bool, true, false, List, [], ◌∷◌, ◌++◌, refl, sym, ap, ◌∙◌, subst, arith, append_assoc, append-nil, length, map, take, get_or}
use Rattle.std.proofs.lemmas.List.{take_more, take_all, map-append, length-append, length-map}
use Rattle.fact_wasm.specs.declared.types.ValType.{ValType}
use Rattle.fact_wasm.specs.declared.types.ValType.TheVariants as val
use Rattle.fact_types.specs.Tables.{Tables}
use Rattle.fact_types.specs.declared.signature.Signature.{Signature}
use Rattle.fact_code_laws.specs.Places.{Slot}
use Rattle.fact_emit.specs.Places.{slots_of_locals}
use Rattle.fact_emit.specs.Writers.{used_local_of, AddedLocal}
use Rattle.fact_emit.specs.declared.places.TypedLocal.{TypedLocal}
use Rattle.fact_emit.specs.declared.writer.Writer.{Writer}
use Rattle.fact_kinds.specs.declared.fuel.Fuel.{Fuel}
use Rattle.fact_compound.specs.Code.{slot_types}
use Rattle.fact_compound.specs.Functions.{slots_from, AddedContext, AddedLocals, AddedSyncLocals, core_slots, places_with, unless_passed}
use Rattle.fact_compound.specs.Syncs.{EmitsSync}
use Rattle.fact_compound.specs.Written.{SyncPlaces}
use Rattle.fact_compound.specs.declared.adapters.AdapterData.{AdapterData}
use Rattle.fact_compound.specs.declared.functions.AdapterLocals.{AdapterLocals}
use Rattle.fact_compound.specs.declared.syncs.CallOptions.{CallOptions}
use Rattle.fact_emit.specs.declared.context.ContextLocals.{ContextLocals}

-- ---- slots one behind the other

pub slots_append : (n : ℕ) (xs ys : List ValType) → slots_from n (xs ++ ys) ≡ slots_from n xs ++ slots_from (length xs + n) ys
slots_append n [] ys = let k : n ≡ length {A = ValType} [] + n = omega arith in ap (λ j. slots_from j ys) k
slots_append n (x ∷ xs) ys =
    let k : length xs + suc n ≡ length (x ∷ xs) + n = omega arith in
    ap (λ ss. (n, x) ∷ ss) (slots_append (suc n) xs ys ∙ ap (λ j. slots_from (suc n) xs ++ slots_from j ys) k)

pub types_from : (n : ℕ) (ts : List ValType) → slot_types (slots_from n ts) ≡ ts
types_from n [] = refl
types_from n (t ∷ ts) = ap (λ us. t ∷ us) (types_from (suc n) ts)

slots_take : (n : ℕ) (ls : List TypedLocal) → slots_of_locals (take n ls) ≡ take n (slots_of_locals ls)
slots_take zero ls = refl
slots_take (suc n) [] = refl
slots_take (suc n) (l ∷ ls) = ap (λ ss. (l.local, l.ty) ∷ ss) (slots_take n ls)

-- all slots but the last one
pub last_off_slots : (ls few : List TypedLocal) → few ≡ take (length ls - 1) ls → slots_of_locals few ≡ take (length (slots_of_locals ls) - 1) (slots_of_locals ls)
last_off_slots ls few e = ap slots_of_locals e ∙ slots_take (length ls - 1) ls ∙ ap (λ n. take (n - 1) (slots_of_locals ls)) (sym (length-map ls (λ (l : TypedLocal). (l.local, l.ty))))

-- ---- locals one behind the other

added_none : (a : Writer) → AddedLocals a a [] []
added_none a = record { code = refl; imports = refl; locals = sym (append-nil a.locals.items); slots_are = refl }

pub added_one : {a b : Writer} {t : ValType} {i : ℕ} → AddedLocal a b t i → AddedLocals a b (t ∷ []) ((i, t) ∷ [])
added_one {t = t} x = record { code = x.code; imports = x.imports; locals = x.locals; slots_are = ap (λ k. (k, t) ∷ []) x.place }

pub added_then : {a b c : Writer} {ts us : List ValType} {ss rs : List Slot} → AddedLocals a b ts ss → AddedLocals b c us rs → AddedLocals a c (ts ++ us) (ss ++ rs)
added_then {a} {b} {c} {ts} {us} {ss} {rs} x y = record {
  code = y.code ∙ x.code;
  imports = y.imports ∙ x.imports;
  locals = y.locals ∙ ap (λ ls. ls ++ map used_local_of us) x.locals ∙ append_assoc a.locals.items (map used_local_of ts) (map used_local_of us) ∙ ap (λ ls. a.locals.items ++ ls) (sym (map-append used_local_of ts us));
  slots_are = (λ i. x.slots_are i ++ y.slots_are i) ∙ ap (λ k. slots_from (length a.locals.items) ts ++ slots_from k us) long ∙ sym (slots_append (length a.locals.items) ts us);
}
  where
    long : length b.locals.items ≡ length ts + length a.locals.items
    long = omega (arith, ap length x.locals, length-append a.locals.items (map used_local_of ts), length-map ts used_local_of)

-- the types of slots that were added
pub added_types : {a b : Writer} {ts : List ValType} {ss : List Slot} → AddedLocals a b ts ss → slot_types ss ≡ ts
added_types {a} {ts = ts} x = ap slot_types x.slots_are ∙ types_from (length a.locals.items) ts

-- ---- the loop

pub record AddsOn (types : List ValType) (at : ℕ) (first now : Writer) (locals : List TypedLocal) : Type 0 where
  pub added : AddedLocals first now (take at types) (slots_of_locals locals)

pub adds_first : {types : List ValType} {w : Writer} {locals : List TypedLocal} → locals ≡ [] → AddsOn types 0 w w locals
adds_first {w = w} e = record { added = subst (λ ls. AddedLocals w w [] (slots_of_locals ls)) (sym e) (added_none w) }

pub adds_next : {types : List ValType} {at i : ℕ} {first now next : Writer} {locals more : List TypedLocal} (d : ValType) → at < length types → AddedLocal now next (get_or types at d) i → more ≡ locals ++ record { local = i; ty = get_or types at d } ∷ []
    → AddsOn types at first now locals → AddsOn types (at + 1) first next more
adds_next {types} {at} {i} {first} {now} {next} {locals} {more} d lt x e h =
    let slots : slots_of_locals more ≡ slots_of_locals locals ++ (i, get_or types at d) ∷ [] =
    ap slots_of_locals e ∙ map-append (λ (l : TypedLocal). (l.local, l.ty)) locals (record { local = i; ty = get_or types at d } ∷ []) in
    record { added = subst (λ ts. AddedLocals first next ts (slots_of_locals more)) (sym (take_more types at d lt)) (subst (λ ss. AddedLocals first next (take at types ++ get_or types at d ∷ []) ss) (sym slots) (added_then h.added (added_one x))) }

pub adds_all : {types : List ValType} {at : ℕ} {first now : Writer} {locals : List TypedLocal} → length types ≤ at → AddsOn types at first now locals → AddedLocals first now types (slots_of_locals locals)
adds_all {types} {at} {first} {now} {locals} le h = subst (λ ts. AddedLocals first now ts (slots_of_locals locals)) (take_all at types le) h.added

-- ---- those of a sync adapter

-- locals for the slots of the context, or none
pub context_added : {a b c : Writer} {first second : ℕ} (context : Bool) (locals : ContextLocals) → context ≡ true → locals ≡ record { first = first; second = second } → AddedLocal a b val.I32 first → AddedLocal b c val.I32 second → AddedContext context a c locals
context_added {a} {c = c} true locals on is x y = subst (AddedContext true a c) (sym is) (record { added = added_then (added_one x) (added_one y) })
context_added false locals on is x y = absurd (let no : false ≡ true = on in cc)

pub no_context : (a : Writer) (context : Bool) (locals : ContextLocals) → context ≡ false → AddedContext context a a locals
no_context a false locals off = record { added = added_none a }
no_context a true locals off = absurd (let no : true ≡ false = off in cc)

pub added_sync : {passed context : Bool} {a b c e f g h i j : Writer} {lower lift : Signature} {l : AdapterLocals} → AddedLocals a b lower.params (slots_of_locals l.args.items) → AddedLocal b c val.I32 l.saved → AddedLocal c e val.I32 l.lift_saved
    → AddedLocals e f (unless_passed passed lift.params) (slots_of_locals l.core.items) → AddedLocals f g lift.results (slots_of_locals l.given.items) → AddedContext context g h l.callee_context → AddedLocals h i lower.results (slots_of_locals l.results.items) → AddedContext context i j l.own_context → AddedSyncLocals passed context a j lower lift l
added_sync x1 x2 x3 x4 x5 x6 x7 x8 = record {
  added = added_then (added_then x1 (added_then (added_one x2) (added_one x3))) (added_then x4 (added_then x5 (added_then x6.added (added_then x7 x8.added))));
  args = x1.slots_are;
  core_types = added_types x4;
  given_types = added_types x5;
  results_types = added_types x7;
}

-- the locals of a sync adapter as its code uses them
pub same_places : {passed : Bool} {args given results : List TypedLocal} {core : List Slot} (params : List Slot) (l : AdapterLocals) → args ≡ l.args.items → core ≡ core_slots passed params (slots_of_locals l.core.items) → given ≡ l.given.items → results ≡ l.results.items
    → ◌≡◌ {A = SyncPlaces} (record { passed = passed; args = slots_of_locals args; params = params; saved = l.saved; lift_saved = l.lift_saved; core = core; given = slots_of_locals given; results = slots_of_locals results; callee_context = l.callee_context; own_context = l.own_context }) (places_with passed l params)
same_places {passed} params l a c g r = λ i.
    record { passed = passed; args = slots_of_locals (a i); params = params; saved = l.saved; lift_saved = l.lift_saved; core = c i; given = slots_of_locals (g i); results = slots_of_locals (r i); callee_context = l.callee_context; own_context = l.own_context }

pub emits_places : {t : Tables} {d : AdapterData} {debug : Bool} {o : CallOptions} {x y : SyncPlaces} {before after : Fuel} {a b : Writer} → x ≡ y → EmitsSync t d debug o x before after a b → EmitsSync t d debug o y before after a b
emits_places {t} {d} {debug} {o} {before = before} {after} {a} {b} e h = subst (λ places. EmitsSync t d debug o places before after a b) e h
