-- One more entry of types, and one more function.
use Rattle.std.proofs.Common.{◌≡◌, ◌<◌, ◌≤◌, ◌+◌, ◌*◌, ℕ, suc, max, min, Option, List, All, [], ◌∷◌, ◌++◌, length, map, take, drop, Some, None, Ok, Err, refl, sym, ◌∙◌, ap, subst, arith, inl, inr, length-append}
use Rattle.std.specs.Prelude.{Any, IfSome, slice_get}
use Rattle.std.specs.List.{AllZip}
use Rattle.std.proofs.lemmas.Bool.{cases_lt}
use Rattle.std.proofs.lemmas.List.{append-nil, take_all, take_more}
use Rattle.std.proofs.lemmas.Option.{get_or_from_slice_get, slice_get_within}
use Rattle.fact_entity.specs.declared.error.PushError.TheVariants.{TooLarge}
use Rattle.fact_entity.specs.declared.id.Id.{Id}
use Rattle.fact_entity.specs.declared.table.TypeFuncs.{TypeFuncs}
use Rattle.fact_types.specs.declared.interface.InterfaceType.{InterfaceType}
use Rattle.fact_types.specs.declared.kinds.TypeFunc.{TypeFunc}
use Rattle.fact_types.specs.declared.kinds.TypeResourceTable.{TypeResourceTable}
use Rattle.fact_types.specs.Functions.{HaveShapes}
use Rattle.fact_types.specs.Shapes.{Shape}
use Rattle.fact_types.specs.Tables.{Tables, HasShape, IsLive, entries}
use Rattle.fact_types.specs.Valid.{IsValid, nesting}
use Rattle.fact_types.proofs.ShapeLaws.{same_some}
use Rattle.fact_builder.specs.Builder.{Builder, no_types}
use Rattle.fact_plan.specs.declared.plan.PlanFunc.{PlanFunc}
use Rattle.fact_plan.specs.declared.plan.PlanType.{PlanType}
use Rattle.fact_plan.specs.declared.plan.FusePlan.{FusePlan}
use Rattle.fact_plan_types.specs.declared.rules.Rule.{Rule}
use Rattle.fact_plan_types.specs.declared.error.Place.TheVariants.{TypeEntry, Func}
use Rattle.fact_plan_types.specs.Adding.{AddsEntry, AddsFunc, AreFirst, IsFilled, IsReady, KeepsFuncs, Pushes}
use Rattle.fact_plan_types.specs.Faults.{too_large}
use Rattle.fact_plan_types.specs.PlanShapes.{HandleTables, entry_shape, plan_shapes, shapes_from, tables_with, tuples_among}
use Rattle.fact_plan_types.specs.declared.plan_types.PlanTypes.{PlanTypes}
use Rattle.fact_plan_types.specs.PlanTypes.{HasFaultlessTypes, AreTypesOf, HasTupleNumbers, HasTuples, IsFirstOfTypes, IsFuncOf, func_tuples, plan_tuples, resource_table, tables_named, tables_up_to}
use Rattle.fact_plan_types.specs.Reached.{FuncBreaksFirst, HasFuncs, HasTypes}
use Rattle.fact_plan_types.specs.BrokenRules.{Breaks, fault_of}
use Rattle.fact_plan_types.specs.Standing.{Stand}
use Rattle.fact_plan_types.specs.TypeRules.{HasFuncFault, HasTypeFault, IsFrom, IsLongEntry, IsLongFunc, IsTooLarge, most_entries, result_shapes, table_in, types_in}
use Rattle.fact_plan_types.proofs.AddLaws.{stand_kept}
use Rattle.fact_plan_types.proofs.FaultLaws.{func_fault_has, func_large_first, func_rule_first, large_first, no_func_fault, no_type_fault, none_past, one_more, rule_first, shape_at, type_fault_has, whole_next, wide_large}
use Rattle.fact_plan_types.proofs.HandleLaws.{zip_map, zip_push}
use Rattle.fact_plan_types.proofs.MemberLaws.{live_keep, shapes_keep}
use Rattle.fact_plan_types.proofs.ShapeLists.{all-more, more-shapes}
use Rattle.fact_plan_types.proofs.TupleLaws.{func_tuples_behind, tuples_behind, tuples_stay}
use Rattle.fact_plan_types.proofs.ValidLaws.{entry_valid}

-- ---- what stands when resource tables are pushed
pushed_stand : (p : FusePlan) (old mid : Builder) (types : List InterfaceType) (shapes : List Shape) (h : HandleTables) → Pushes p old mid → Stand old.tables types shapes h → Stand mid.tables types shapes h
pushed_stand p old mid types shapes h q z =
    let r = q.others in
    stand_kept old.tables mid.tables types shapes h q.keeps (ap (λ (b : Builder). b.tables.futures) r) (ap (λ (b : Builder). b.tables.future_tables) r) (ap (λ (b : Builder). b.tables.streams) r) (ap (λ (b : Builder). b.tables.stream_tables) r) (ap (λ (b : Builder). b.tables.error_context_tables) r) z

pushed_filled : (p : FusePlan) (old mid : Builder) (n : ℕ) → Pushes p old mid → IsFilled n old.tables → IsFilled n mid.tables
pushed_filled p old mid n q f =
    let r = q.others in
    record {
      members = omega (arith, ap (λ (b : Builder). entries b.tables) r, f.members);
      functions = omega (arith, ap (λ (b : Builder). length b.tables.functions) r, f.functions);
      futures = omega (arith, ap (λ (b : Builder). length b.tables.futures) r, f.futures);
      streams = omega (arith, ap (λ (b : Builder). length b.tables.streams) r, f.streams);
      error_contexts = omega (arith, ap (λ (b : Builder). length b.tables.error_context_tables) r, f.error_contexts);
    }

first_kept : (p : FusePlan) (t u : Tables) → u.resource_tables ≡ t.resource_tables → AreFirst p t → AreFirst p u
first_kept p t u e f = subst (λ (rs : List TypeResourceTable). rs ≡ map resource_table (take (length rs) p.tables)) (sym e) f

filled_to : (t : Tables) (m n : ℕ) → m ≤ n → IsFilled m t → IsFilled n t
filled_to t m n l f = record {
  members = omega (arith, f.members, l);
  functions = omega (arith, f.functions, l);
  futures = omega (arith, f.futures, l);
  streams = omega (arith, f.streams, l);
  error_contexts = omega (arith, f.error_contexts, l);
}

-- ---- types
short_place : (k : ℕ) (e : PlanType) → (IsLongEntry k e → ⊥) → k < most_entries
short_place k e n = elim (cases_lt k most_entries) [ inl l ↦ l | inr l ↦ absurd (n (inl l)) ]

short_func : (k : ℕ) (f : PlanFunc) → (IsLongFunc k f → ⊥) → k < most_entries
short_func k f n = elim (cases_lt k most_entries) [ inl l ↦ l | inr l ↦ absurd (n (inl l)) ]

drop_all : {X : Type 0} (xs : List X) → drop (length xs) xs ≡ []
drop_all [] = refl
drop_all (x ∷ xs) = drop_all xs

pub no_types_yet : (p : FusePlan) → HasTypes p 0 (no_types 0) []
no_types_yet p = record {
  shapes = [];
  handles = _;
  stand = record { live = λ k d l. absurd (omega (arith, l)); shaped = tt; futures = tt; streams = tt; error_contexts = refl };
  whole = refl;
  count = refl;
  place = omega arith;
  filled = record { members = omega arith; functions = omega arith; futures = omega arith; streams = omega arith; error_contexts = omega arith };
  first = refl;
  named = refl;
  tuples = record { count = refl; each = λ i s e. absurd (cc) };
  valid = λ k d l. absurd (omega (arith, l));
  faultless = λ j g l. absurd (omega (arith, l));
}

-- a table that is named is there
named_there : (o : Option ℕ) (n m : ℕ) → m ≡ max n (tables_up_to o) → IfSome o (λ i. i < m)
named_there None n m e = tt
named_there (Some i) n m e = omega (arith, e)

pub ready : (p : FusePlan) (k : ℕ) (old mid : Builder) (types : List InterfaceType) (e : PlanType) → HasTypes p k old types → Breaks p k e None → Pushes p old mid → length mid.tables.resource_tables ≡ max (length old.tables.resource_tables) (tables_up_to (table_in e)) → IsReady mid.tables types e
ready p k old mid types e h b q t = record {
  live = live_keep old.tables mid.tables q.keeps types h.stand.live;
  known = λ a. b.0 (inl (subst (λ (n : ℕ). Any (IsFrom n) (types_in e)) h.count a));
  good = b.1;
  short = subst (λ (n : ℕ). IsLongEntry n e → ⊥) (sym h.count) b.2;
  table = named_there (table_in e) _ _ t;
}

shapes_count : (t : Tables) (types : List InterfaceType) (shapes : List Shape) → HaveShapes t types shapes → length shapes ≡ length types
shapes_count t [] [] h = refl
shapes_count t [] (s ∷ ss) h = absurd h
shapes_count t (x ∷ xs) [] h = absurd h
shapes_count t (x ∷ xs) (s ∷ ss) h = ap suc (shapes_count t xs ss h.1)

here_shape : (p : FusePlan) (k : ℕ) (old : Builder) (types : List InterfaceType) (e : PlanType) → (h : HasTypes p k old types) → slice_get p.types k ≡ Some e → slice_get (plan_shapes p) k ≡ Some (entry_shape h.shapes h.handles e)
here_shape p k old types e h here = shape_at p k h.shapes h.handles e h.whole (shapes_count old.tables types h.shapes h.stand.shaped ∙ h.count) here

-- the entries up to one, with it
next_taken : {X : Type 0} (xs : List X) (k : ℕ) (x : X) → slice_get xs k ≡ Some x → take (k + 1) xs ≡ take k xs ++ x ∷ []
next_taken xs k x h = take_more xs k x (slice_get_within xs k x h) ∙ ap (λ (y : _). take k xs ++ y ∷ []) (get_or_from_slice_get xs k x x h)

named_more : (es : List PlanType) (e : PlanType) → tables_named (es ++ e ∷ []) ≡ max (tables_named es) (tables_up_to (table_in e))
named_more [] e = omega arith
named_more (d ∷ es) e = let rest = named_more es e in omega (arith, rest)

pub types_next : (p : FusePlan) (k : ℕ) (old mid new : Builder) (types : List InterfaceType) (e : PlanType) (ty : InterfaceType) → HasTypes p k old types → slice_get p.types k ≡ Some e → Breaks p k e None → Pushes p old mid → length mid.tables.resource_tables ≡ max (length old.tables.resource_tables) (tables_up_to (table_in e)) → AddsEntry mid new types e (Ok ty)
    → ((s : Shape) → HasShape new.tables ty s → nesting s ≤ 100) → HasTypes p (k + 1) new (types ++ ty ∷ [])
types_next p k old mid new types e ty h here b q t a deep =
    let mids = pushed_stand p old mid types h.shapes h.handles q h.stand in
    let news = a.stands h.shapes h.handles mids in
    let s = entry_shape h.shapes h.handles e in
    let shaped = a.shaped h.shapes h.handles mids in
    record {
      shapes = h.shapes ++ s ∷ [];
      handles = tables_with h.shapes h.handles e;
      stand = record {
        live = all-more (IsLive new.tables) types (types ++ ty ∷ []) ty refl news.live a.live;
        shaped = more-shapes new.tables types h.shapes ty s news.shaped shaped;
        futures = news.futures;
        streams = news.streams;
        error_contexts = news.error_contexts;
      };
      whole = whole_next p k h.shapes h.handles e h.whole here;
      count = length-append types (ty ∷ []) ∙ ap (λ (n : ℕ). n + 1) h.count;
      place = omega (arith, h.place, short_place k e b.2);
      filled = a.fills k (pushed_filled p old mid k q h.filled);
      first = first_kept p mid.tables new.tables a.rest q.first;
      named = ap length a.rest ∙ t ∙ ap (λ (n : ℕ). max n (tables_up_to (table_in e))) h.named ∙ sym (ap tables_named (next_taken p.types k e here) ∙ named_more (take k p.types) e);
      tuples = subst (HasTuples new.tables) (sym (tuples_behind [] h.shapes (s ∷ []))) (a.tuples h.shapes h.handles mids _ (tuples_stay old.tables mid.tables q.keeps (ap (λ (u : Builder). u.tables.tuples) q.others) _ h.tuples));
      valid = all-more IsValid h.shapes (h.shapes ++ s ∷ []) s refl h.valid (entry_valid h.shapes h.handles k e h.valid b.1 b.2 (a.fits h.shapes h.handles mids) (deep s shaped));
      faultless = one_more (HasTypeFault p) k h.faultless (λ g f.
          no_type_fault p k e s b (a.fits h.shapes h.handles mids) (deep s shaped) g (type_fault_has p k e (Some s) g here (here_shape p k old types e h here) f));
    }

pub rule_told : (p : FusePlan) (k : ℕ) (old : Builder) (types : List InterfaceType) (e : PlanType) (r : Rule) → HasTypes p k old types → slice_get p.types k ≡ Some e → Breaks p k e (Some r) → IsFirstOfTypes p (fault_of r) (TypeEntry k)
rule_told p k old types e r h here b = rule_first p k e r here h.faultless b

pub wide_told : (p : FusePlan) (k : ℕ) (old mid last : Builder) (types : List InterfaceType) (e : PlanType) → HasTypes p k old types → slice_get p.types k ≡ Some e → Breaks p k e None → Pushes p old mid → AddsEntry mid last types e (Err TooLarge) → IsFirstOfTypes p too_large (TypeEntry k)
wide_told p k old mid last types e h here b q a =
    let wide = a.too_large refl k (omega (arith, h.place)) (pushed_filled p old mid k q h.filled) h.shapes h.handles (pushed_stand p old mid types h.shapes h.handles q h.stand) in
    large_first p k e _ here (here_shape p k old types e h here) h.faultless b (wide_large _ wide)

deep_large : (s : Shape) → 100 < nesting s → IsTooLarge s
deep_large s l = inr (inr l)

pub deep_told : (p : FusePlan) (k : ℕ) (old mid new : Builder) (types : List InterfaceType) (e : PlanType) (ty : InterfaceType) → HasTypes p k old types → slice_get p.types k ≡ Some e → Breaks p k e None → Pushes p old mid → AddsEntry mid new types e (Ok ty)
    → ((s : Shape) → HasShape new.tables ty s → 100 < nesting s) → IsFirstOfTypes p too_large (TypeEntry k)
deep_told p k old mid new types e ty h here b q a deep =
    let shaped = a.shaped h.shapes h.handles (pushed_stand p old mid types h.shapes h.handles q h.stand) in
    large_first p k e _ here (here_shape p k old types e h here) h.faultless b (deep_large _ (deep _ shaped))

pub nests_within : (n m : ℕ) → n ≤ 100 → n ≡ min m 101 → m ≤ 100
nests_within n m l e = omega (arith, l, e)

pub nests_beyond : (n m : ℕ) → 100 < n → n ≡ min m 101 → 100 < m
nests_beyond n m l e = omega (arith, l, e)

-- ---- functions
pub funcs_start : (p : FusePlan) (b : Builder) (types : List InterfaceType) → HasTypes p (length p.types) b types → HasFuncs p 0 b types
funcs_start p b types h =
    let all : h.shapes ≡ plan_shapes p = sym (ap (shapes_from h.shapes h.handles) (drop_all p.types)) ∙ h.whole in
    record {
      live = h.stand.live;
      shaped = subst (HaveShapes b.tables types) all h.stand.shaped;
      count = h.count;
      place = omega arith;
      filled = filled_to b.tables (length p.types) (most_entries + 2 * 0) (omega (arith, h.place)) h.filled;
      first = h.first;
      named = h.named ∙ ap tables_named (take_all (length p.types) p.types (omega arith));
      tuples = subst (HasTuples b.tables) (ap (tuples_among []) (all ∙ sym (append-nil (plan_shapes p)))) h.tuples;
      valid = subst (All IsValid) all h.valid;
      typed = λ j g f. elim (cases_lt j (length p.types)) [ inl l ↦ h.faultless j g l f | inr l ↦ none_past p.types _ j l f ];
      faultless = λ j g l. absurd (omega (arith, l));
    }

pub funcs_next : (p : FusePlan) (k : ℕ) (old new : Builder) (types : List InterfaceType) (f : PlanFunc) (i : Id TypeFuncs) → HasFuncs p k old types → slice_get p.funcs k ≡ Some f → FuncBreaksFirst p k f (result_shapes p f) None → AddsFunc old new types f (Ok i) → HasFuncs p (k + 1) new types
funcs_next p k old new types f i h here b a = record {
  live = live_keep old.tables new.tables a.keeps.all types h.live;
  shaped = shapes_keep old.tables new.tables a.keeps.all types (plan_shapes p) h.shaped;
  count = h.count;
  place = omega (arith, h.place, short_func k f b.2);
  filled = filled_to new.tables ((most_entries + 2 * k) + 2) (most_entries + 2 * (k + 1)) (omega arith) (a.fills (most_entries + 2 * k) h.filled);
  first = first_kept p old.tables new.tables a.rest h.first;
  named = ap length a.rest ∙ h.named;
  tuples = subst (HasTuples new.tables) (sym (ap (λ (fs : List PlanFunc). tuples_among [] (plan_shapes p ++ func_tuples (plan_shapes p) fs)) (next_taken p.funcs k f here) ∙ func_tuples_behind (plan_shapes p) (take k p.funcs) f))
      (a.tuples (plan_shapes p) h.shaped _ h.tuples);
  valid = h.valid;
  typed = h.typed;
  faultless = one_more (HasFuncFault p) k h.faultless (λ g x. no_func_fault p k f b (a.fits (plan_shapes p) h.shaped) g (func_fault_has p k f g here x));
}

pub func_rule_told : (p : FusePlan) (k : ℕ) (old : Builder) (types : List InterfaceType) (f : PlanFunc) (r : Rule) → HasFuncs p k old types → slice_get p.funcs k ≡ Some f → FuncBreaksFirst p k f (result_shapes p f) (Some r) → IsFirstOfTypes p (fault_of r) (Func k)
func_rule_told p k old types f r h here b = (h.typed, func_rule_first p k f r here h.faultless b)

pub func_wide_told : (p : FusePlan) (k : ℕ) (old last : Builder) (types : List InterfaceType) (f : PlanFunc) → HasFuncs p k old types → slice_get p.funcs k ≡ Some f → FuncBreaksFirst p k f (result_shapes p f) None → AddsFunc old last types f (Err TooLarge) → IsFirstOfTypes p too_large (Func k)
func_wide_told p k old last types f h here b a =
    (h.typed, func_large_first p k f here h.faultless b (a.too_large refl (most_entries + 2 * k) (omega (arith, h.place)) h.filled (plan_shapes p) h.shaped))

func_kept : (p : FusePlan) (t u : Tables) → KeepsFuncs t u → (i : Id TypeFuncs) (f : PlanFunc) → IsFuncOf p t i f → IsFuncOf p u i f
func_kept p t u k i f h =
    let s = k.all.signatures i _ _ h.signature in
    let same = same_some (slice_get u.functions i.number) s.func h.signature.func s.func_there (k.funcs i.number h.signature.func h.signature.func_there) in
    record { signature = s; mark = ap (λ (v : TypeFunc). v.async_) same ∙ h.mark; names = ap (λ (v : TypeFunc). v.param_names) same ∙ h.names }

pub funcs_longer : (p : FusePlan) (t u : Tables) (k : ℕ) (ids more : List (Id TypeFuncs)) (i : Id TypeFuncs) (f : PlanFunc) → KeepsFuncs t u → slice_get p.funcs k ≡ Some f → IsFuncOf p u i f → more ≡ ids ++ i ∷ [] → AllZip (IsFuncOf p t) ids (take k p.funcs) → AllZip (IsFuncOf p u) more (take (k + 1) p.funcs)
funcs_longer p t u k ids more i f keeps here added e z =
    let kept = zip_map (IsFuncOf p t) (IsFuncOf p u) (func_kept p t u keeps) ids (take k p.funcs) z in
    let taken = next_taken p.funcs k f here in
    subst (λ (us : List (Id TypeFuncs)). AllZip (IsFuncOf p u) us (take (k + 1) p.funcs)) (sym e)
    (subst (λ (us : List PlanFunc). AllZip (IsFuncOf p u) (ids ++ i ∷ []) us) (sym taken) (zip_push (IsFuncOf p u) ids (take k p.funcs) i f kept added))

-- what stands depends on the tables alone
pub funcs_kept : (p : FusePlan) (k : ℕ) (b c : Builder) (types : List InterfaceType) → c.tables ≡ b.tables → HasFuncs p k b types → HasFuncs p k c types
funcs_kept p k b c types e h =
    let same : HasFuncs p k (record c { tables = b.tables }) types = record {
      live = h.live;
      shaped = h.shaped;
      count = h.count;
      place = h.place;
      filled = h.filled;
      first = h.first;
      named = h.named;
      tuples = h.tuples;
      valid = h.valid;
      typed = h.typed;
      faultless = h.faultless;
    } in
    subst (λ (t : Tables). HasFuncs p k (record c { tables = t }) types) (sym e) same

-- the tuples of all types and functions
pub all_tuples : (p : FusePlan) (b : Builder) (types : List InterfaceType) → HasFuncs p (length p.funcs) b types → HasTuples b.tables (plan_tuples p)
all_tuples p b types h = subst (λ (fs : List PlanFunc). HasTuples b.tables (tuples_among [] (plan_shapes p ++ func_tuples (plan_shapes p) fs))) (take_all (length p.funcs) p.funcs (omega arith)) h.tuples

-- all types and functions of a plan stand, and have no fault
pub all_types : (p : FusePlan) (b : Builder) (types : List InterfaceType) (t : PlanTypes) → t.builder ≡ b → t.types ≡ types → HasFuncs p (length p.funcs) b types
    → AllZip (IsFuncOf p b.tables) t.funcs p.funcs → AllZip (HasTupleNumbers p b.tables) t.funcs p.funcs → AllZip (λ i ty. slice_get b.module_types i.number ≡ Some ty) t.core_types p.core_types → AreTypesOf p t
all_types p b types t e f h funcs numbers core = record {
  types = subst (λ (c : Builder). HaveShapes c.tables t.types (plan_shapes p)) (sym e) (subst (λ (xs : List InterfaceType). HaveShapes b.tables xs (plan_shapes p)) (sym f) h.shaped);
  valid = h.valid;
  funcs = subst (λ (c : Builder). AllZip (IsFuncOf p c.tables) t.funcs p.funcs) (sym e) funcs;
  tuples = subst (λ (c : Builder). HasTuples c.tables (plan_tuples p)) (sym e) (all_tuples p b types h);
  numbers = subst (λ (c : Builder). AllZip (HasTupleNumbers p c.tables) t.funcs p.funcs) (sym e) numbers;
  core_types = subst (λ (c : Builder). AllZip (λ i ty. slice_get c.module_types i.number ≡ Some ty) t.core_types p.core_types) (sym e) core;
  resource_tables = ap (λ (c : Builder). c.tables.resource_tables) e ∙ h.first ∙ ap (λ (n : ℕ). map resource_table (take n p.tables)) h.named;
}

pub all_faultless : (p : FusePlan) (b : Builder) (types : List InterfaceType) → HasFuncs p (length p.funcs) b types → HasFaultlessTypes p
all_faultless p b types h = record {
  types = h.typed;
  funcs = λ j g f. elim (cases_lt j (length p.funcs)) [ inl l ↦ h.faultless j g l f | inr l ↦ none_past p.funcs _ j l f ];
}
