-- The call of an adapter at the places where its module imports what it names can be run on the host.
use Rattle.std.proofs.Common.{◌≡◌, ◌≢◌, ℕ, Bool, true, false, List, [], ◌∷◌, ◌++◌, Contains, Option, Some, None, inl, inr, refl, sym, ap, ◌∙◌, subst, arith, slice_get}
use Rattle.std.specs.Prelude.{All, is_some, nat_eq, not, option_map, ◌||◌}
use Rattle.std.specs.List.{AllByRecursion, flat_map, list_any}
use Rattle.std.proofs.lemmas.Bool.{eq-eqb, eqb-true, false≢true, true≢false}
use Rattle.std.proofs.lemmas.List.Elements.{All-from_recursion, Contains-append_left, Contains-append_right}
use Rattle.fact_wasm.specs.declared.instr.FuncName.TheVariants.{Defined}
use Rattle.fact_wasm.specs.declared.module.WasmFunc.{WasmFunc}
use Rattle.fact_wasm.specs.declared.module.WasmModule.{WasmModule}
use Rattle.fact_wasm.specs.declared.types.FuncType.{FuncType}
use Rattle.fact_wasm.specs.declared.types.ValType.{ValType}
use Rattle.fact_machine.specs.Machine.{memory_import}
use Rattle.fact_machine.specs.Typed.{type_of_import}
use Rattle.fact_check.specs.Accepted.{IsAdapterModule}
use Rattle.fact_types.specs.Adapters.{LinkedAdapter, Side, is_crossing, is_wide, same_def}
use Rattle.fact_types.specs.FlatShapes.{flat_all}
use Rattle.fact_types.specs.ImportTypes.{post_return_type, realloc_type}
use Rattle.fact_types.specs.Shapes.{Shape}
use Rattle.fact_types.specs.Signatures.{address, flat_values, lift_by, lift_results_limit, lower_by, lower_limit, sync_lift, sync_lower, width}
use Rattle.fact_types.specs.declared.import.Import.{Import}
use Rattle.fact_types.specs.declared.import.Import.TheVariants as known
use Rattle.fact_types.specs.declared.outside.CoreDef.{CoreDef}
use Rattle.fact_types.specs.declared.outside.MemoryOption.{MemoryOption}
use Rattle.fact_types.specs.Tables.{Tables}
use Rattle.fact_types.proofs.ShapeLaws.{none_some, same_some}
use Rattle.fact_builder.specs.Builder.{Builder}
use Rattle.fact_plan_types.specs.Faults.{bad_memory}
use Rattle.fact_adapter_rules.specs.Bindings.{AreConsistent}
use Rattle.fact_adapter_rules.specs.AdapterRules.{CannotUseMemory, HasOddMemory, SharesMemory, bound, reallocs_of, with}
use Rattle.fact_adapter_rules.specs.declared.adapter.Adapter.{Adapter}
use Rattle.fact_actions.specs.Adapters.{lowered_flats}
use Rattle.fact_actions.specs.Running.{ImportPlaces}
use Rattle.fact_actions.specs.Sides.{options_of}
use Rattle.fact_action_laws.specs.FaithfulLaws.{HasOwnMemories}
use Rattle.fact_action_laws.specs.MoveTerms.{HasRealloc}
use Rattle.fact_action_laws.specs.Places.{HasSideMemory}
use Rattle.fact_code_laws.specs.Knows.{KnowsFunction}
use Rattle.fact_emit.specs.ImportSection.{Callee, Mention, NamesImports, PostReturn, Realloc, a_function, adapter_mentions, custom_page_size, imports_of, side_mentions}
use Rattle.fact_emit.specs.Known.{AreUsedAlike}
use Rattle.fact_emit.proofs.AdapterKnown.{ends, memory_mentioned}
use Rattle.fact_emit.proofs.ImportLists.{there-get}
use Rattle.fact_emit.proofs.Mentions.{same-itself}
use Rattle.fact_function_laws.specs.Names.{places_in}
use Rattle.fact_assembly.specs.Sound.{HasPassed, IsSoundAdapter}
use Rattle.fact_assembly.proofs.Memories.{own_memories}
use Rattle.fact_assembly.proofs.Pairs.{contains_last, one_value, stable_consistent}
use Rattle.fact_assembly.proofs.Passed.{passed_are_sound}
use Rattle.fact_assembly.proofs.Stable.{stable_nat}
use Rattle.fact_assembly.specs.Exports.{defined_type, function_type_in}
use Rattle.fact_host.specs.declared.calling.HostCall.{HostCall}
use Rattle.fact_host.specs.declared.calling.HostSide.{HostSide}
use Rattle.fact_host.specs.Contract.{AreDistinctPlaces, HasSideMeans, HasSyncTypes, HaveNeeds, IsCallable, IsNameable, function_places, if_named, of_signature}
use Rattle.fact_host.specs.Describes.{DescribesHostSide}
use Rattle.fact_call_laws.specs.Carrying.{CallsAdapter}
use Rattle.fact_call_mode.specs.Replies.{shapes_of}
use Rattle.fact_call_mode.proofs.KnownImports.{flags_mentioned, function_found, function_known, memory_known, nameable, one_function, one_instance, one_memory, realloc_mentioned}

-- ---- what is named, by the number that it has

record IsNamedAt {X : Type 0} (g : X → ℕ) (o : Option X) (n : ℕ) : Type 0 where
  what : X
  is_what : o ≡ Some what
  place : g what ≡ n

number_at : {X : Type 0} (g : X → ℕ) (o : Option X) (n : ℕ) → option_map g o ≡ Some n → IsNamedAt g o n
number_at g None n e = absurd (none_some None n refl e)
number_at g (Some x) n e = record { what = x; is_what = refl; place = same_some (Some (g x)) (g x) n refl e }

some_kept : {X : Type 0} (g : X → ℕ) (o : Option X) (h : Option ℕ) → option_map g o ≡ h → (o ≡ None → ⊥) → h ≢ None
some_kept g None h e there none = there refl
some_kept g (Some x) h e there none = none_some h (g x) none (sym e)

none_kept : {X : Type 0} (g : X → ℕ) (o : Option X) → option_map g o ≡ None → o ≡ None
none_kept g None e = refl
none_kept g (Some x) e = absurd (none_some (Some (g x)) (g x) e refl)

memory_there : (s : Side) → HasSideMemory (options_of s) → s.memory ≡ None → ⊥
memory_there s has none = by s.memory has none
  where
    by : (o : Option MemoryOption) → HasSideMemory (record { encoding = s.encoding; memory = o; realloc = s.realloc }) → o ≡ None → ⊥
    by None h e = h
    by (Some m) h e = none_some (Some m) m e refl

realloc_there : (s : Side) → HasRealloc (options_of s) → s.realloc ≡ None → ⊥
realloc_there s has none = by s.realloc has none
  where
    by : (o : Option CoreDef) → HasRealloc (record { encoding = s.encoding; memory = s.memory; realloc = o }) → o ≡ None → ⊥
    by None h e = h
    by (Some f) h e = none_some (Some f) f e refl

-- ---- numbers that differ

differ : (n k : ℕ) → n ≢ k → nat_eq n k ≡ false
differ n k apart = by (nat_eq n k) refl
  where
    by : (b : Bool) → nat_eq n k ≡ b → nat_eq n k ≡ false
    by true e = absurd (apart (eqb-true n k e))
    by false e = e

none_of : (n : ℕ) (ks : List ℕ) → AllByRecursion (λ k. n ≢ k) ks → list_any (nat_eq n) ks ≡ false
none_of n [] h = refl
none_of n (k ∷ ks) h = let here = differ n k h.0 in let rest = none_of n ks h.1 in λ i. here i || rest i

abbrev Differ : List ℕ → Type 0
Differ [] = Unit {0}
Differ (n ∷ ns) = AllByRecursion (λ k. n ≢ k) ns × Differ ns

distinct : (ns : List ℕ) → Differ ns → AreDistinctPlaces ns
distinct [] h = tt
distinct (n ∷ ns) h = (none_of n ns h.0, distinct ns h.1)

-- a number, and three that may be there
differ_all : (n : ℕ) (x y z : Option ℕ) → ((k : ℕ) → x ≡ Some k → n ≢ k) → ((k : ℕ) → y ≡ Some k → n ≢ k) → ((k : ℕ) → z ≡ Some k → n ≢ k)
    → ((j k : ℕ) → x ≡ Some j → y ≡ Some k → j ≢ k) → ((j k : ℕ) → x ≡ Some j → z ≡ Some k → j ≢ k) → ((j k : ℕ) → y ≡ Some j → z ≡ Some k → j ≢ k)
    → Differ (n ∷ (if_named x ++ (if_named y ++ if_named z)))
differ_all n None None None nx ny nz xy xz yz = (tt, tt)
differ_all n None None (Some c) nx ny nz xy xz yz = ((nz c refl, tt), (tt, tt))
differ_all n None (Some b) None nx ny nz xy xz yz = ((ny b refl, tt), (tt, tt))
differ_all n None (Some b) (Some c) nx ny nz xy xz yz = ((ny b refl, (nz c refl, tt)), ((yz b c refl refl, tt), (tt, tt)))
differ_all n (Some a) None None nx ny nz xy xz yz = ((nx a refl, tt), (tt, tt))
differ_all n (Some a) None (Some c) nx ny nz xy xz yz = ((nx a refl, (nz c refl, tt)), ((xz a c refl refl, tt), (tt, tt)))
differ_all n (Some a) (Some b) None nx ny nz xy xz yz = ((nx a refl, (ny b refl, tt)), ((xy a b refl refl, tt), (tt, tt)))
differ_all n (Some a) (Some b) (Some c) nx ny nz xy xz yz =
    ((nx a refl, (ny b refl, (nz c refl, tt))), ((xy a b refl refl, (xz a c refl refl, tt)), ((yz b c refl refl, tt), (tt, tt))))

differ_both : (x y : Option ℕ) → ((j k : ℕ) → x ≡ Some j → y ≡ Some k → j ≢ k) → Differ (if_named x ++ if_named y)
differ_both None None xy = tt
differ_both None (Some b) xy = (tt, tt)
differ_both (Some a) None xy = (tt, tt)
differ_both (Some a) (Some b) xy = ((xy a b refl refl, tt), (tt, tt))

-- each of them is so
each_is : (P : ℕ → Type 0) (n : ℕ) (x y z : Option ℕ) → P n → ((k : ℕ) → x ≡ Some k → P k) → ((k : ℕ) → y ≡ Some k → P k) → ((k : ℕ) → z ≡ Some k → P k)
    → AllByRecursion P (n ∷ (if_named x ++ (if_named y ++ if_named z)))
each_is P n None None None pn px py pz = (pn, tt)
each_is P n None None (Some c) pn px py pz = (pn, (pz c refl, tt))
each_is P n None (Some b) None pn px py pz = (pn, (py b refl, tt))
each_is P n None (Some b) (Some c) pn px py pz = (pn, (py b refl, (pz c refl, tt)))
each_is P n (Some a) None None pn px py pz = (pn, (px a refl, tt))
each_is P n (Some a) None (Some c) pn px py pz = (pn, (px a refl, (pz c refl, tt)))
each_is P n (Some a) (Some b) None pn px py pz = (pn, (px a refl, (py b refl, tt)))
each_is P n (Some a) (Some b) (Some c) pn px py pz = (pn, (px a refl, (py b refl, (pz c refl, tt))))

-- ---- types

abbrev results_in : Option FuncType → List ValType
results_in None = []
results_in (Some t) = t.results

-- a realloc gives an address, and a post-return nothing
no_realloc : (wide : Bool) (results : List ValType) → Some (realloc_type wide) ≡ Some (post_return_type results) → ⊥
no_realloc wide results e =
    let given : address wide ∷ [] ≡ [] = ap results_in e in
    cc

type_known : {m : WasmModule} {p : ImportPlaces} {i : Import} {n : ℕ} {params results : List ValType} → KnowsFunction m p i n params results → type_of_import m n ≡ Some (record { params = params; results = results })
type_known {m} h = ap (λ o. elim o [ None ↦ None | Some t ↦ slice_get m.types t ]) h.imported ∙ h.type_is

body_there : (m : WasmModule) (f : ℕ) (ty : FuncType) → defined_type m (Defined f) ≡ Some ty → (body : WasmFunc) × (slice_get m.funcs f ≡ Some body) × (slice_get m.types body.ty ≡ Some ty)
body_there m f ty e = go (slice_get m.funcs f) refl e
  where
    go : (o : Option WasmFunc) → slice_get m.funcs f ≡ o → function_type_in m o ≡ Some ty → (body : WasmFunc) × (slice_get m.funcs f ≡ Some body) × (slice_get m.types body.ty ≡ Some ty)
    go None at e = absurd (none_some None ty refl e)
    go (Some body) at e = (body, at, e)

-- what is not flat in the width of a side of a call is not flat in that of the adapter's side
not_flat : (s : Side) (h : HostSide) (limit : ℕ) (ts : List Shape) → is_wide s.memory ≡ h.abi.memory64 → flat_all (width h.abi.memory64) limit ts ≡ None → flat_values (is_wide s.memory) limit ts ≡ None
not_flat s h limit ts wide e =
    let none : flat_values h.abi.memory64 limit ts ≡ None = rw e refl in
    ap (λ b. flat_values b limit ts) wide ∙ none

-- ---- reallocs of two instances are two definitions

bound_there : (o : Option CoreDef) (d : CoreDef) (v : ℕ) → o ≡ Some d → Contains (bound o v) (d, v)
bound_there o d v e = subst (λ o. Contains (bound o v) (d, v)) (sym e) (0, omega arith, refl)

two_reallocs : (before : List LinkedAdapter) (a : LinkedAdapter) → (SharesMemory before a → ⊥) → is_crossing a ≡ true → (f g : CoreDef) → a.lift.realloc ≡ Some f → a.lower.realloc ≡ Some g → f ≢ g
two_reallocs before a apart crossing f g is_f is_g same =
    let all = flat_map reallocs_of (with before a) in
    let consistent : AreConsistent all = stable_consistent stable_nat all (λ none. apart (inr none)) in
    let lift : Contains all (f, a.lift.instance) =
    contains_last reallocs_of before a (f, a.lift.instance)
    (Contains-append_left (bound a.lift.realloc a.lift.instance) (bound a.lower.realloc a.lower.instance) (f, a.lift.instance) (bound_there a.lift.realloc f a.lift.instance is_f)) in
    let lower : Contains all (g, a.lower.instance) =
    contains_last reallocs_of before a (g, a.lower.instance)
    (Contains-append_right (bound a.lift.realloc a.lift.instance) (bound a.lower.realloc a.lower.instance) (g, a.lower.instance) (bound_there a.lower.realloc g a.lower.instance is_g)) in
    let one : a.lift.instance ≡ a.lower.instance = one_value all (f, a.lift.instance) (g, a.lower.instance) consistent lift lower same in
    false≢true (sym (ap not (eq-eqb a.lift.instance a.lower.instance one)) ∙ crossing)

-- ---- the call

module _ (m : WasmModule) (is : List Import) (adapters : List LinkedAdapter) (names : NamesImports m is adapters) (alike : AreUsedAlike (flat_map adapter_mentions adapters))
    (a : LinkedAdapter) (within : (r : Mention) → Contains (adapter_mentions a) r → Contains (flat_map adapter_mentions adapters) r)
    (b : Builder) (x : Adapter) (concurrency : Bool) (before : List LinkedAdapter) (passed : HasPassed b x concurrency before a) (crosses : is_crossing a ≡ true)
    (t : Tables) (c : HostCall) (f : ℕ) (calls : CallsAdapter m is t c a f) where
  abbrev all : List Mention
  all = flat_map adapter_mentions adapters

  abbrev p : ImportPlaces
  p = places_in m is

  sound : IsSoundAdapter a
  sound = passed_are_sound b x concurrency before a passed

  usable : CannotUseMemory a → ⊥
  usable bad = passed.faultless bad_memory (inl bad)

  unshared : SharesMemory before a → ⊥
  unshared bad = passed.faultless bad_memory (inr bad)

  own : HasOwnMemories a
  own = own_memories a usable

  -- ---- what is mentioned

  lift_within : (r : Mention) → Contains (side_mentions a.lift) r → Contains all r
  lift_within r h = within r (Contains-append_left (side_mentions a.lift) (side_mentions a.lower ++ ends a) r h)

  lower_within : (r : Mention) → Contains (side_mentions a.lower) r → Contains all r
  lower_within r h = within r (Contains-append_right (side_mentions a.lift) (side_mentions a.lower ++ ends a) r (Contains-append_left (side_mentions a.lower) (ends a) r h))

  ends_within : (r : Mention) → Contains (ends a) r → Contains all r
  ends_within r h = within r (Contains-append_right (side_mentions a.lift) (side_mentions a.lower ++ ends a) r (Contains-append_right (side_mentions a.lower) (ends a) r h))

  callee_mention : Contains all (record { def = a.callee; role = Callee a.name a.lift.core_type })
  callee_mention = ends_within _ (there-get (ends a) 0 _ refl)

  post_return_mention : (d : CoreDef) → a.lift.post_return ≡ Some d → Contains all (record { def = d; role = PostReturn a.name a.lift.core_type.results })
  post_return_mention d is_d = ends_within _ (there-get (ends a) 1 _ (rw is_d refl))

  lift_realloc : (d : CoreDef) → a.lift.realloc ≡ Some d → Contains all (record { def = d; role = Realloc (is_wide a.lift.memory) })
  lift_realloc d is_d = lift_within _ (realloc_mentioned a.lift d is_d)

  lower_realloc : (d : CoreDef) → a.lower.realloc ≡ Some d → Contains all (record { def = d; role = Realloc (is_wide a.lower.memory) })
  lower_realloc d is_d = lower_within _ (realloc_mentioned a.lower d is_d)

  -- ---- where they stand

  abbrev StandsAt : CoreDef → Type 0
  StandsAt d = slice_get (imports_of a_function m.imports is) (p.function (known.CoreDef d)) ≡ Some (known.CoreDef d)

  callee_stands : StandsAt a.callee
  callee_stands = function_found m is adapters names alike a.callee (Callee a.name a.lift.core_type) a.lift.core_type refl callee_mention

  realloc_stands : (wide : Bool) (d : CoreDef) → Contains all (record { def = d; role = Realloc wide }) → StandsAt d
  realloc_stands wide d h = function_found m is adapters names alike d (Realloc wide) (realloc_type wide) refl h

  post_return_stands : (d : CoreDef) → a.lift.post_return ≡ Some d → StandsAt d
  post_return_stands d is_d = function_found m is adapters names alike d (PostReturn a.name a.lift.core_type.results) (post_return_type a.lift.core_type.results) refl (post_return_mention d is_d)

  lift_realloc_at : (k : ℕ) → c.lift.realloc ≡ Some k → IsNamedAt (λ d. p.function (known.CoreDef d)) a.lift.realloc k
  lift_realloc_at k e = number_at (λ d. p.function (known.CoreDef d)) a.lift.realloc k (calls.lift.realloc ∙ e)

  lower_realloc_at : (k : ℕ) → c.lower.realloc ≡ Some k → IsNamedAt (λ d. p.function (known.CoreDef d)) a.lower.realloc k
  lower_realloc_at k e = number_at (λ d. p.function (known.CoreDef d)) a.lower.realloc k (calls.lower.realloc ∙ e)

  post_return_at : (k : ℕ) → c.post_return ≡ Some k → IsNamedAt (λ d. p.function (known.CoreDef d)) a.lift.post_return k
  post_return_at k e = number_at (λ d. p.function (known.CoreDef d)) a.lift.post_return k (calls.post_return ∙ e)

  -- ---- each import is one that may be named

  realloc_nameable : (s : Side) → ((d : CoreDef) → s.realloc ≡ Some d → Contains all (record { def = d; role = Realloc (is_wide s.memory) })) → (k : ℕ) → IsNamedAt (λ d. p.function (known.CoreDef d)) s.realloc k → IsNameable m k
  realloc_nameable s inside k h =
      subst (IsNameable m) h.place (nameable m is adapters names alike h.what (Realloc (is_wide s.memory)) (realloc_type (is_wide s.memory)) refl (inside h.what h.is_what))

  post_return_nameable : (k : ℕ) → IsNamedAt (λ d. p.function (known.CoreDef d)) a.lift.post_return k → IsNameable m k
  post_return_nameable k h =
      subst (IsNameable m) h.place
      (nameable m is adapters names alike h.what (PostReturn a.name a.lift.core_type.results) (post_return_type a.lift.core_type.results) refl (post_return_mention h.what h.is_what))

  all_nameable : All (IsNameable m) (function_places c)
  all_nameable =
      All-from_recursion (IsNameable m) (function_places c)
      (each_is (IsNameable m) c.callee c.lift.realloc c.lower.realloc c.post_return
      (subst (IsNameable m) calls.callee (nameable m is adapters names alike a.callee (Callee a.name a.lift.core_type) a.lift.core_type refl callee_mention))
      (λ k e. realloc_nameable a.lift lift_realloc k (lift_realloc_at k e))
      (λ k e. realloc_nameable a.lower lower_realloc k (lower_realloc_at k e))
      (λ k e. post_return_nameable k (post_return_at k e)))

  -- ---- once

  -- definitions that differ stand at numbers that differ
  apart_at : (d e : CoreDef) (j k : ℕ) → StandsAt d → StandsAt e → (d ≡ e → ⊥) → p.function (known.CoreDef d) ≡ j → p.function (known.CoreDef e) ≡ k → j ≢ k
  apart_at d e j k at_d at_e differs is_j is_k same = differs (one_function m is adapters names alike d e at_d at_e (is_j ∙ same ∙ sym is_k))

  callee_apart : (d : CoreDef) → same_def a.callee d ≡ false → a.callee ≡ d → ⊥
  callee_apart d other same = true≢false (sym (same-itself a.callee) ∙ ap (same_def a.callee) same ∙ other)

  realloc_apart : (wide : Bool) (d e : CoreDef) → Contains all (record { def = d; role = Realloc wide }) → a.lift.post_return ≡ Some e → d ≡ e → ⊥
  realloc_apart wide d e h is_e same =
      no_realloc wide a.lift.core_type.results
      (alike.alike (record { def = d; role = Realloc wide }) (record { def = e; role = PostReturn a.name a.lift.core_type.results }) h (post_return_mention e is_e) same).function

  functions_once : AreDistinctPlaces (function_places c)
  functions_once =
      distinct (function_places c)
      (differ_all c.callee c.lift.realloc c.lower.realloc c.post_return
      (λ k e.
      let h = lift_realloc_at k e in
      apart_at a.callee h.what c.callee k callee_stands (realloc_stands (is_wide a.lift.memory) h.what (lift_realloc h.what h.is_what)) (callee_apart h.what (sound.own_callee.lift_realloc h.what h.is_what)) calls.callee h.place)
      (λ k e.
      let h = lower_realloc_at k e in
      apart_at a.callee h.what c.callee k callee_stands (realloc_stands (is_wide a.lower.memory) h.what (lower_realloc h.what h.is_what)) (callee_apart h.what (sound.own_callee.lower_realloc h.what h.is_what)) calls.callee h.place)
      (λ k e.
      let h = post_return_at k e in
      apart_at a.callee h.what c.callee k callee_stands (post_return_stands h.what h.is_what) (callee_apart h.what (sound.own_callee.post_return h.what h.is_what)) calls.callee h.place)
      (λ j k e g.
      let h = lift_realloc_at j e in
      let i = lower_realloc_at k g in
      apart_at h.what i.what j k (realloc_stands (is_wide a.lift.memory) h.what (lift_realloc h.what h.is_what)) (realloc_stands (is_wide a.lower.memory) i.what (lower_realloc i.what i.is_what))
      (two_reallocs before a unshared crosses h.what i.what h.is_what i.is_what) h.place i.place)
      (λ j k e g.
      let h = lift_realloc_at j e in
      let i = post_return_at k g in
      apart_at h.what i.what j k (realloc_stands (is_wide a.lift.memory) h.what (lift_realloc h.what h.is_what)) (post_return_stands i.what i.is_what)
      (realloc_apart (is_wide a.lift.memory) h.what i.what (lift_realloc h.what h.is_what) i.is_what) h.place i.place)
      (λ j k e g.
      let h = lower_realloc_at j e in
      let i = post_return_at k g in
      apart_at h.what i.what j k (realloc_stands (is_wide a.lower.memory) h.what (lower_realloc h.what h.is_what)) (post_return_stands i.what i.is_what)
      (realloc_apart (is_wide a.lower.memory) h.what i.what (lower_realloc h.what h.is_what) i.is_what) h.place i.place))

  memories_once : AreDistinctPlaces (if_named c.lift.memory ++ if_named c.lower.memory)
  memories_once =
      distinct (if_named c.lift.memory ++ if_named c.lower.memory)
      (differ_both c.lift.memory c.lower.memory (λ j k e g same.
      let h = number_at (λ (o : MemoryOption). p.memory o.def) a.lift.memory j (calls.lift.memory ∙ e) in
      let i = number_at (λ (o : MemoryOption). p.memory o.def) a.lower.memory k (calls.lower.memory ∙ g) in
      let one : h.what.def ≡ i.what.def =
      one_memory m is adapters names alike h.what.def i.what.def h.what.memory64 i.what.memory64 h.what.page_size_log2 i.what.page_size_log2
      (lift_within _ (memory_mentioned a.lift h.what h.is_what)) (lower_within _ (memory_mentioned a.lower i.what i.is_what)) (h.place ∙ same ∙ sym i.place) in
      sound.memories crosses i.what h.what i.is_what h.is_what (sym one)))

  flags_once : c.lift.flags ≢ c.lower.flags
  flags_once same =
      let one = one_instance m is adapters names alike a.lift.instance a.lower.instance (lift_within _ (flags_mentioned a.lift)) (lower_within _ (flags_mentioned a.lower)) (calls.lift.flags ∙ same ∙ sym calls.lower.flags) in
      false≢true (sym (ap not (eq-eqb a.lift.instance a.lower.instance one)) ∙ crosses)

  -- ---- memories and reallocs

  means : (s : Side) (h : HostSide) → DescribesHostSide t h p s → ((r : Mention) → Contains (side_mentions s) r → Contains all r) → (HasOddMemory s → ⊥) → HasSideMeans m h
  means s h d inside odd = record {
    memory = λ n e.
        let i = number_at (λ (o : MemoryOption). p.memory o.def) s.memory n (d.memory ∙ e) in (
          custom_page_size i.what.page_size_log2,
          ap (memory_import m.imports) (sym i.place)
              ∙ (memory_known m is adapters names alike i.what.def i.what.memory64 i.what.page_size_log2 (inside _ (memory_mentioned s i.what i.is_what))).imported
              ∙ ap (λ w. Some (w, custom_page_size i.what.page_size_log2)) (sym (ap is_wide i.is_what) ∙ d.memory64),
        );
    realloc = λ n e.
        let i = number_at (λ f. p.function (known.CoreDef f)) s.realloc n (d.realloc ∙ e) in
        ap (type_of_import m) (sym i.place)
        ∙ type_known (function_known m is adapters names alike i.what (Realloc (is_wide s.memory)) (realloc_type (is_wide s.memory)) refl (inside _ (realloc_mentioned s i.what i.is_what)))
        ∙ ap (λ w. Some (realloc_type w)) d.memory64;
    with_memory = λ none. with_memory none s.realloc refl d.realloc;
  }
    where
      with_memory : h.memory ≡ None → (o : Option CoreDef) → s.realloc ≡ o → option_map (λ d. p.function (known.CoreDef d)) o ≡ h.realloc → h.realloc ≡ None
      with_memory none None e g = sym g
      with_memory none (Some f) e g =
          let bare : s.memory ≡ None = none_kept (λ (x : MemoryOption). p.memory x.def) s.memory (d.memory ∙ none) in
          absurd (odd (inl (ap is_some e, ap is_some bare)))

  needs : HaveNeeds c (shapes_of a)
  needs =
      let lower = λ (has : HasSideMemory (options_of a.lower)). some_kept (λ (x : MemoryOption). p.memory x.def) a.lower.memory c.lower.memory calls.lower.memory (memory_there a.lower has) in
      let lift = λ (has : HasSideMemory (options_of a.lift)). some_kept (λ (x : MemoryOption). p.memory x.def) a.lift.memory c.lift.memory calls.lift.memory (memory_there a.lift has) in
      let lower_grows = λ (has : HasRealloc (options_of a.lower)). some_kept (λ d. p.function (known.CoreDef d)) a.lower.realloc c.lower.realloc calls.lower.realloc (realloc_there a.lower has) in
      let lift_grows = λ (has : HasRealloc (options_of a.lift)). some_kept (λ d. p.function (known.CoreDef d)) a.lift.realloc c.lift.realloc calls.lift.realloc (realloc_there a.lift has) in
      record {
        lower_params = λ h. lower (own.lower_params h);
        lower_params_behind = λ h. lower (sound.params_behind (ap (λ s. flat_values (is_wide a.lower.memory) (lower_limit s) a.lower.params) calls.lower.is_sync ∙ not_flat a.lower c.lower 16 a.lower.params calls.lower.memory64 h));
        lower_results = λ h. (lower (own.lower_results h).memory, lower_grows (own.lower_results h).realloc);
        lower_results_behind = λ h. lower (sound.results_into (ap (λ s. lowered_flats s (is_wide a.lower.memory) a.lower.results) calls.lower.is_sync ∙ not_flat a.lower c.lower 1 a.lower.results calls.lower.memory64 h));
        lift_params = λ h. (lift (own.lift_params h).memory, lift_grows (own.lift_params h).realloc);
        lift_params_behind = λ h.
            let can = sound.params_into (not_flat a.lift c.lift 16 a.lift.params calls.lift.memory64 h) in
            (lift can.memory, lift_grows can.realloc);
        lift_results = λ h. lift (own.lift_results h);
        lift_results_behind = λ h. lift (sound.results_behind (ap (λ s. flat_values (is_wide a.lift.memory) (lift_results_limit s) a.lift.results) calls.lift.is_sync ∙ not_flat a.lift c.lift 1 a.lift.results calls.lift.memory64 h));
      }

  -- ---- types

  lower_type : a.lower.core_type ≡ of_signature (sync_lower c.lower.abi.memory64 a.lower.params a.lower.results)
  lower_type =
      sound.lower_core_type
      ∙ ap (λ s. of_signature (lower_by s (is_wide a.lower.memory) a.lower.params a.lower.results)) calls.lower.is_sync
      ∙ ap (λ w. of_signature (sync_lower w a.lower.params a.lower.results)) calls.lower.memory64

  lift_type : a.lift.core_type ≡ of_signature (sync_lift c.lift.abi.memory64 a.lift.params a.lift.results)
  lift_type =
      sound.lift_core_type
      ∙ ap (λ s. of_signature (lift_by s (is_some a.lift.callback) (is_wide a.lift.memory) a.lift.params a.lift.results)) calls.lift.is_sync
      ∙ ap (λ w. of_signature (sync_lift w a.lift.params a.lift.results)) calls.lift.memory64

  types : defined_type m (Defined f) ≡ Some a.lower.core_type → HasSyncTypes m c (shapes_of a)
  types defined =
      let (body, there, typed) = body_there m f a.lower.core_type defined in
      record {
        body = body;
        defined = ap (slice_get m.funcs) calls.func ∙ there;
        func = typed ∙ ap (λ ty. Some ty) lower_type;
        callee =
            ap (type_of_import m) (sym calls.callee) ∙ type_known (function_known m is adapters names alike a.callee (Callee a.name a.lift.core_type) a.lift.core_type refl callee_mention)
            ∙ ap (λ (ty : FuncType). Some (record { params = ty.params; results = ty.results })) lift_type;
        post_return = λ n e.
            let h = post_return_at n e in
            ap (type_of_import m) (sym h.place)
            ∙ type_known (function_known m is adapters names alike h.what (PostReturn a.name a.lift.core_type.results) (post_return_type a.lift.core_type.results) refl (post_return_mention h.what h.is_what))
            ∙ ap (λ (ty : FuncType). Some (post_return_type ty.results)) lift_type;
      }

  pub is_callable_on : IsAdapterModule m → defined_type m (Defined f) ≡ Some a.lower.core_type → IsCallable m t c (shapes_of a)
  is_callable_on accepted defined = record {
    adapter = accepted;
    named = all_nameable;
    shapes = record { lower_params = calls.lower.params; lower_results = calls.lower.results; lift_params = calls.lift.params; lift_results = calls.lift.results };
    lower_means = means a.lower c.lower calls.lower lower_within (λ odd. usable (inr (inr odd)));
    lift_means = means a.lift c.lift calls.lift lift_within (λ odd. usable (inr (inl odd)));
    needs = needs;
    once = record { functions = functions_once; memories = memories_once; flags = flags_once };
    types = types defined;
    params_agree = sound.params_agree;
    results_agree = sound.results_agree;
  }
