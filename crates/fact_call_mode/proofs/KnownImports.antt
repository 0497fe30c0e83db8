-- A module that names the imports of adapters knows what each of them names.
use Rattle.std.proofs.Common.{◌≡◌, ℕ, zero, suc, Bool, true, false, List, [], ◌∷◌, ◌++◌, Contains, Option, Some, None, cond, filter, inl, inr, length, refl, sym, ap, ◌∙◌, subst, slice_get}
use Rattle.std.specs.Prelude.{option_map}
use Rattle.std.specs.List.{filter_map, flat_map}
use Rattle.std.proofs.lemmas.List.Elements.{Contains-append_left, Contains-append_right}
use Rattle.fact_wasm.specs.declared.module.ImportType.{ImportType}
use Rattle.fact_wasm.specs.declared.module.ImportType.TheVariants as import
use Rattle.fact_wasm.specs.declared.module.WasmImport.{WasmImport}
use Rattle.fact_wasm.specs.declared.module.WasmModule.{WasmModule}
use Rattle.fact_wasm.specs.declared.types.FuncType.{FuncType}
use Rattle.fact_machine.proofs.Tests.{get_append}
use Rattle.fact_types.specs.Adapters.{LinkedAdapter, Side, is_crossing, is_wide}
use Rattle.fact_types.specs.ImportTypes.{callback_type, post_return_type, realloc_type}
use Rattle.fact_types.specs.declared.import.Import.{Import}
use Rattle.fact_types.specs.declared.import.Import.TheVariants as known
use Rattle.fact_types.specs.declared.outside.CoreDef.{CoreDef}
use Rattle.fact_types.specs.declared.outside.CoreDef.TheVariants as def
use Rattle.fact_types.specs.declared.outside.MemoryOption.{MemoryOption}
use Rattle.fact_types.proofs.ShapeLaws.{none_some}
use Rattle.fact_actions.specs.Running.{ImportPlaces}
use Rattle.fact_actions.specs.TypedAnswers.{HasPlaces}
use Rattle.fact_action_laws.specs.FaithfulLaws.{IsCheckedAdapter}
use Rattle.fact_code_laws.specs.Knows.{KnowsFlags, KnowsFunction, KnowsMemory}
use Rattle.fact_emit.specs.AdapterImports.{AdapterImports, SideImports}
use Rattle.fact_emit.specs.ImportSection.{Callback, Callee, Flags, IsNamed, Mention, StandsFor, NamesImports, PostReturn, Realloc, Role, Sort, Storage, a_function, a_global, a_memory, adapter_mentions, custom_page_size, def_of, imports_of, is_mentioned, memory_mention, mentions, same_sort, side_mentions, sort_of, with_mention, with_mentions}
use Rattle.fact_emit.specs.ImportedPlaces.{AreImportPlaces}
use Rattle.fact_emit.specs.Imports.{Serves}
use Rattle.fact_emit.specs.Known.{AreKnown, AreUsedAlike, IsUsedAlike, memory_of_role}
use Rattle.fact_emit.specs.KnownAdapters.{KnowsAdapter, KnowsSide}
use Rattle.fact_emit.specs.DefImports.{type_of_role}
use Rattle.fact_emit.specs.PlacesOf.{place_among}
use Rattle.fact_emit.specs.States.{ModuleSoFar, memories_of}
use Rattle.fact_emit.proofs.AdapterKnown.{callback_mention, ends, flags_mention, has_places, memory_mentioned, realloc_mention}
use Rattle.fact_emit.proofs.ImportLists.{get-last, get-map, get-there, there-get}
use Rattle.fact_emit.proofs.KnownLaws.{known_within}
use Rattle.fact_emit.proofs.KnownImports.{flags_there, function_there, memory_there}
use Rattle.fact_emit.proofs.Mentions.{def_of-is, giver, in-its-kind, in-mentions, mention-of, mentioned}
use Rattle.fact_emit.proofs.Named.{named-at, named-lengths, sort_for, stands-sort}
use Rattle.fact_emit.proofs.NamedPlaces.{function-role}
use Rattle.fact_emit.proofs.PlacesOfLaws.{placed_is}
use Rattle.fact_emit.proofs.ServingLaws.{serves_all}
use Rattle.fact_function_laws.specs.Names.{finished, places_in}
use Rattle.fact_assembly.specs.Sound.{IsSoundAdapter}
use Rattle.fact_assembly.proofs.Passed.{sound_are_checked}
use Rattle.fact_assembly.proofs.Telling.{known_tell_memories}
use Rattle.fact_host.specs.Contract.{IsNameable, IsNamedOrigin}
use Rattle.fact_host.specs.Roles.{is_function}
use Rattle.fact_call_laws.proofs.Standing.{AreApart, apart, placed, stands}

-- ---- each definition that is mentioned has a first mention

kept_one : (d : CoreDef) (ms : List Mention) (x : Mention) → is_mentioned d ms ≡ true → is_mentioned d (with_mention ms x) ≡ true
kept_one d ms x h =
    let (k, r, at, is) = mention-of d ms h in
    by (is_mentioned x.def ms) (mentioned d (ms ++ x ∷ []) k r (get_append ms (x ∷ []) k r at) is)
  where
    by : (b : Bool) → is_mentioned d (ms ++ x ∷ []) ≡ true → is_mentioned d (cond b ms (ms ++ x ∷ [])) ≡ true
    by true g = h
    by false g = g

here_one : (ms : List Mention) (x : Mention) → is_mentioned x.def (with_mention ms x) ≡ true
here_one ms x = by (is_mentioned x.def ms) refl
  where
    by : (b : Bool) → is_mentioned x.def ms ≡ b → is_mentioned x.def (cond b ms (ms ++ x ∷ [])) ≡ true
    by true e = e
    by false e = mentioned x.def (ms ++ x ∷ []) (length ms) x (get-last ms x) refl

kept_all : (d : CoreDef) (ms xs : List Mention) → is_mentioned d ms ≡ true → is_mentioned d (with_mentions ms xs) ≡ true
kept_all d ms [] h = h
kept_all d ms (x ∷ xs) h = kept_all d (with_mention ms x) xs (kept_one d ms x h)

all_mentioned : (ms xs : List Mention) (k : ℕ) (r : Mention) → slice_get xs k ≡ Some r → is_mentioned r.def (with_mentions ms xs) ≡ true
all_mentioned ms [] k r e = cc
all_mentioned ms (x ∷ xs) zero r e =
    let same : x ≡ r = cc in
    kept_all r.def (with_mention ms x) xs (subst (λ (y : Mention). is_mentioned y.def (with_mention ms x) ≡ true) same (here_one ms x))
all_mentioned ms (x ∷ xs) (suc k) r e = all_mentioned (with_mention ms x) xs k r e

-- ---- the kind of a role

abbrev kind_by : Option FuncType → Option (Bool × Option ℕ) → Sort
kind_by (Some t) m = a_function
kind_by None (Some m) = a_memory
kind_by None None = a_global

kind_is : (r : Role) → sort_for r ≡ kind_by (type_of_role r) (memory_of_role r)
kind_is (Flags i) = refl
kind_is (Storage wide k) = refl
kind_is (Realloc wide) = refl
kind_is Callback = refl
kind_is (Callee adapter ty) = refl
kind_is (PostReturn adapter results) = refl

one_kind : (q r : Role) → IsUsedAlike q r → sort_for q ≡ sort_for r
one_kind q r h = kind_is q ∙ (λ k. kind_by (h.function k) (h.memory k)) ∙ sym (kind_is r)

-- ---- what a side mentions

pub realloc_mentioned : (s : Side) (f : CoreDef) → s.realloc ≡ Some f → Contains (side_mentions s) (record { def = f; role = Realloc (is_wide s.memory) })
realloc_mentioned s f is =
    Contains-append_right (flags_mention s ∷ memory_mention s.memory) (realloc_mention s ++ callback_mention s) _ (Contains-append_left (realloc_mention s) (callback_mention s) _ (there-get (realloc_mention s) 0 _ (rw is refl)))

callback_mentioned : (s : Side) (f : CoreDef) → s.callback ≡ Some f → Contains (side_mentions s) (record { def = f; role = Callback })
callback_mentioned s f is =
    Contains-append_right (flags_mention s ∷ memory_mention s.memory) (realloc_mention s ++ callback_mention s) _ (Contains-append_right (realloc_mention s) (callback_mention s) _ (there-get (callback_mention s) 0 _ (rw is refl)))

pub flags_mentioned : (s : Side) → Contains (side_mentions s) (flags_mention s)
flags_mentioned s = there-get (side_mentions s) 0 (flags_mention s) refl

-- ---- what stands at a place

one_item : {X : Type 0} {x y : X} → Some x ≡ Some y → x ≡ y
one_item e = cc

same_known : (d e : CoreDef) → known.CoreDef d ≡ known.CoreDef e → d ≡ e
same_known d e h = cc

abbrev number_of : CoreDef → ℕ
number_of (def.InstanceFlags i) = i.number
number_of _ = 0

-- there are as many imported functions as imports of functions
in_step : (ws : List WasmImport) (is : List Import) (n : ℕ) (x : Import) → slice_get (imports_of a_function ws is) n ≡ Some x → (w : WasmImport) × (slice_get (filter is_function ws) n ≡ Some w)
in_step [] is n x h = absurd (none_some (slice_get {X = Import} [] n) x refl h)
in_step (v ∷ ws) [] n x h = absurd (none_some (slice_get {X = Import} [] n) x refl h)
in_step (v ∷ ws) (i ∷ is) n x h = by v.ty n h (λ k g. in_step ws is k x g)
  where
    behind : List Import
    behind = imports_of a_function ws is

    by : (ty : ImportType) (n : ℕ) → slice_get (cond (same_sort a_function (sort_of ty)) (i ∷ behind) behind) n ≡ Some x
        → ((k : ℕ) → slice_get behind k ≡ Some x → (w : WasmImport) × (slice_get (filter is_function ws) k ≡ Some w))
        → (w : WasmImport) × (slice_get (cond (elim ty as (λ (x : ImportType). Bool) [ import.Func t ↦ true | import.Memory a b c ↦ false | import.Global a b ↦ false ]) (v ∷ filter is_function ws) (filter is_function ws)) n ≡ Some w)
    by (import.Func t) zero h rest = (v, refl)
    by (import.Func t) (suc k) h rest = rest k h
    by (import.Memory a b c) k h rest = rest k h
    by (import.Global a b) k h rest = rest k h

named_origin : (types : List FuncType) (before : List WasmImport) (w : WasmImport) (q : Role) (ty : FuncType) → type_of_role q ≡ Some ty → StandsFor types before q w → IsNamedOrigin w.module
named_origin types before w (Flags i) ty e h = cc
named_origin types before w (Storage wide k) ty e h = cc
named_origin types before w (Realloc wide) ty e h = inl h.is_from
named_origin types before w Callback ty e h = inr (inl h.is_from)
named_origin types before w (Callee adapter t) ty e h = inr (inr (inl h.is_from))
named_origin types before w (PostReturn adapter results) ty e h = inr (inr (inr h.is_from))

-- ---- the module

module _ (m : WasmModule) (is : List Import) (adapters : List LinkedAdapter) (names : NamesImports m is adapters) (alike : AreUsedAlike (flat_map adapter_mentions adapters)) where
  abbrev last : ModuleSoFar
  last = finished m is

  abbrev all : List Mention
  all = flat_map adapter_mentions adapters

  abbrev p : ImportPlaces
  p = places_in m is

  only_once : AreApart is
  only_once = apart is names.once

  are_known : AreKnown last all
  are_known = known_within last (mentions adapters) all (λ r c. in-mentions [] all r c) (record { named = names.named; transcoders = names.transcoders })

  one_def : (d e : CoreDef) → known.CoreDef e ≡ known.CoreDef d → d ≡ e
  one_def d e h = cc

  are_places : AreImportPlaces last p
  are_places = record {
    functions = λ i n made at. placed a_function m.imports is only_once n i made at;
    memories = λ d n at. placed a_memory m.imports is only_once n (known.CoreDef d) refl at;
    one_memory = λ d e n here at. one_def d e (placed_is (known.CoreDef d) (known.CoreDef e) (memories_of last) (ap (slice_get (memories_of last)) here ∙ at));
    flags = λ i n at. placed a_global m.imports is only_once n (known.CoreDef (def.InstanceFlags i)) refl at;
    memory_types = refl;
    global_types = refl;
  }

  serves : Serves m p last
  serves = serves_all m p last refl refl are_places

  -- a definition stands at the place at which it is found among the imports of its kind
  abbrev place_of_kind : Sort → CoreDef → ℕ
  place_of_kind sort d = place_among (known.CoreDef d) (imports_of sort m.imports is)

  alike_to : (r : Mention) → Contains all r → (q : Role) → Contains all (record { def = r.def; role = q }) → IsUsedAlike q r.role
  alike_to r c q d = alike.alike (record { def = r.def; role = q }) r d c refl

  standing : (r : Mention) → Contains all r → (n : ℕ) × (slice_get (imports_of (sort_for r.role) m.imports is) n ≡ Some (known.CoreDef r.def))
  standing r c =
      let (i, at_r) = get-there all r c in
      let (k, q, at_q, same) = mention-of r.def (mentions adapters) (all_mentioned [] all i r at_r) in
      let listed : slice_get (filter_map def_of is) k ≡ Some r.def = ap (λ ds. slice_get ds k) names.defs ∙ get-map (λ (x : Mention). x.def) (mentions adapters) k q at_q ∙ ap Some same in
      let (j, x, at_x, is_def) = giver def_of is k r.def listed in
      let there : slice_get is j ≡ Some (known.CoreDef r.def) = at_x ∙ ap Some (def_of-is x r.def is_def) in
      let (w, at_w, before, named) = named-at m.types all [] m.imports is j (known.CoreDef r.def) are_known.named there in
      let kind : sort_of w.ty ≡ sort_for r.role = stands-sort m.types before named.0 w named.2 ∙ one_kind named.0 r.role (alike_to r c named.0 named.1) in
      let (n, at_n) = in-its-kind m.imports is j w (known.CoreDef r.def) at_w there in
      (n, subst (λ sort. slice_get (imports_of sort m.imports is) n ≡ Some (known.CoreDef r.def)) kind at_n)

  found : (r : Mention) → Contains all r → slice_get (imports_of (sort_for r.role) m.imports is) (place_of_kind (sort_for r.role) r.def) ≡ Some (known.CoreDef r.def)
  found r c =
      let (n, at) = standing r c in
      ap (slice_get (imports_of (sort_for r.role) m.imports is)) (placed (sort_for r.role) m.imports is only_once n (known.CoreDef r.def) refl at) ∙ at

  pub flags_known : (instance : ℕ) → Contains all (record { def = def.InstanceFlags (record { table = _; number = instance }); role = Flags instance }) → KnowsFlags m p instance (p.flags instance)
  flags_known instance c =
      serves.flags instance (p.flags instance)
      (flags_there last all are_known instance (p.flags instance) (found (record { def = def.InstanceFlags (record { table = _; number = instance }); role = Flags instance }) c))

  pub memory_known : (d : CoreDef) (wide : Bool) (log2 : ℕ) → Contains all (record { def = d; role = Storage wide log2 }) → KnowsMemory m p d (p.memory d) wide (custom_page_size log2)
  memory_known d wide log2 c =
      serves.memories d (p.memory d) wide (custom_page_size log2)
      (memory_there last all are_known d (Storage wide log2) (alike_to (record { def = d; role = Storage wide log2 }) c) (p.memory d) wide (custom_page_size log2) refl (found (record { def = d; role = Storage wide log2 }) c))

  pub function_found : (d : CoreDef) (role : Role) (ty : FuncType) → type_of_role role ≡ Some ty → Contains all (record { def = d; role = role })
      → slice_get (imports_of a_function m.imports is) (p.function (known.CoreDef d)) ≡ Some (known.CoreDef d)
  function_found d role ty typed c =
      subst (λ sort. slice_get (imports_of sort m.imports is) (place_of_kind sort d) ≡ Some (known.CoreDef d)) (function-role role ty typed) (found (record { def = d; role = role }) c)

  pub function_known : (d : CoreDef) (role : Role) (ty : FuncType) → type_of_role role ≡ Some ty → Contains all (record { def = d; role = role }) → KnowsFunction m p (known.CoreDef d) (p.function (known.CoreDef d)) ty.params ty.results
  function_known d role ty typed c =
      serves.functions (known.CoreDef d) (p.function (known.CoreDef d)) ty.params ty.results refl
      (function_there last all are_known d role (alike_to (record { def = d; role = role }) c) (p.function (known.CoreDef d)) ty typed (function_found d role ty typed c))

  -- the import is one that a call may name
  pub nameable : (d : CoreDef) (role : Role) (ty : FuncType) → type_of_role role ≡ Some ty → Contains all (record { def = d; role = role }) → IsNameable m (p.function (known.CoreDef d))
  nameable d role ty typed c =
      let at = function_found d role ty typed c in
      let (w, at_w) = in_step m.imports is (p.function (known.CoreDef d)) (known.CoreDef d) at in
      let s = stands m.types all [] m.imports is (p.function (known.CoreDef d)) w are_known.named at_w in
      let what_is : s.what ≡ known.CoreDef d = one_item (sym s.there ∙ at) in
      let named : IsNamed m.types all s.before w (known.CoreDef d) = subst (λ i. IsNamed m.types all s.before w i) what_is s.named in
      record { import = w; there = at_w; origin = named_origin m.types s.before w named.0 ty ((alike_to (record { def = d; role = role }) c named.0 named.1).function ∙ typed) named.2 }

  -- functions of one place are one definition
  pub one_function : (d e : CoreDef) → slice_get (imports_of a_function m.imports is) (p.function (known.CoreDef d)) ≡ Some (known.CoreDef d)
      → slice_get (imports_of a_function m.imports is) (p.function (known.CoreDef e)) ≡ Some (known.CoreDef e) → p.function (known.CoreDef d) ≡ p.function (known.CoreDef e) → d ≡ e
  one_function d e at_d at_e same = same_known d e (one_item (sym at_d ∙ ap (slice_get (imports_of a_function m.imports is)) same ∙ at_e))

  -- and so are memories
  pub one_memory : (d e : CoreDef) (v w : Bool) (k l : ℕ) → Contains all (record { def = d; role = Storage v k }) → Contains all (record { def = e; role = Storage w l }) → p.memory d ≡ p.memory e → d ≡ e
  one_memory d e v w k l c g same =
      same_known d e (one_item (sym (found (record { def = d; role = Storage v k }) c) ∙ ap (slice_get (imports_of a_memory m.imports is)) same ∙ found (record { def = e; role = Storage w l }) g))

  -- flags of one place are of one instance
  pub one_instance : (i j : ℕ) → Contains all (record { def = def.InstanceFlags (record { table = _; number = i }); role = Flags i }) → Contains all (record { def = def.InstanceFlags (record { table = _; number = j }); role = Flags j })
      → p.flags i ≡ p.flags j → i ≡ j
  one_instance i j c g same =
      let one = same_known (def.InstanceFlags (record { table = _; number = i })) (def.InstanceFlags (record { table = _; number = j }))
      (one_item
      (sym (found (record { def = def.InstanceFlags (record { table = _; number = i }); role = Flags i }) c)
      ∙ ap (slice_get (imports_of a_global m.imports is)) same
      ∙ found (record { def = def.InstanceFlags (record { table = _; number = j }); role = Flags j }) g)) in
      ap number_of one

  -- ---- a side, and an adapter

  abbrev side_at : Side → SideImports
  side_at s = record {
    flags = p.flags s.instance;
    memory = option_map (λ (o : MemoryOption). p.memory o.def) s.memory;
    realloc = option_map (λ d. p.function (known.CoreDef d)) s.realloc;
    callback = option_map (λ d. p.function (known.CoreDef d)) s.callback;
  }

  side_known : (s : Side) → ((r : Mention) → Contains (side_mentions s) r → Contains all r) → KnowsSide m p s (side_at s)
  side_known s within = record {
    flags = flags_known s.instance (within (flags_mention s) (flags_mentioned s));
    memory = λ o at. record {
      number = p.memory o.def;
      place_is = ap (option_map (λ (x : MemoryOption). p.memory x.def)) at;
      knows = memory_known o.def o.memory64 o.page_size_log2 (within _ (memory_mentioned s o at));
    };
    realloc = λ f at. record {
      number = p.function (known.CoreDef f);
      place_is = ap (option_map (λ d. p.function (known.CoreDef d))) at;
      knows = function_known f (Realloc (is_wide s.memory)) (realloc_type (is_wide s.memory)) refl (within _ (realloc_mentioned s f at));
    };
    callback = λ f at. record {
      number = p.function (known.CoreDef f);
      place_is = ap (option_map (λ d. p.function (known.CoreDef d))) at;
      knows = function_known f Callback callback_type refl (within _ (callback_mentioned s f at));
    };
  }

  module _ (a : LinkedAdapter) (within : (r : Mention) → Contains (adapter_mentions a) r → Contains all r) where
    abbrev at : AdapterImports
    at = record {
      lift = side_at a.lift;
      lower = side_at a.lower;
      callee = p.function (known.CoreDef a.callee);
      post_return = option_map (λ d. p.function (known.CoreDef d)) a.lift.post_return;
    }

    pub within_rest : (r : Mention) → Contains (side_mentions a.lower ++ ends a) r → Contains all r
    within_rest r c = within r (Contains-append_right (side_mentions a.lift) (side_mentions a.lower ++ ends a) r c)

    pub within_ends : (r : Mention) → Contains (ends a) r → Contains all r
    within_ends r c = within_rest r (Contains-append_right (side_mentions a.lower) (ends a) r c)

    pub callee_known : KnowsFunction m p (known.CoreDef a.callee) (p.function (known.CoreDef a.callee)) a.lift.core_type.params a.lift.core_type.results
    callee_known = function_known a.callee (Callee a.name a.lift.core_type) a.lift.core_type refl (within_ends _ (there-get (ends a) 0 _ refl))

    pub post_return_known : (f : CoreDef) → a.lift.post_return ≡ Some f
        → KnowsFunction m p (known.CoreDef f) (p.function (known.CoreDef f)) (post_return_type a.lift.core_type.results).params (post_return_type a.lift.core_type.results).results
    post_return_known f is_f =
        function_known f (PostReturn a.name a.lift.core_type.results) (post_return_type a.lift.core_type.results) refl (within_ends _ (there-get (ends a) 1 _ (rw is_f refl)))

    pub knows : KnowsAdapter m p a at
    knows = record {
      lift = side_known a.lift (λ r c. within r (Contains-append_left (side_mentions a.lift) (side_mentions a.lower ++ ends a) r c));
      lower = side_known a.lower (λ r c. within_rest r (Contains-append_left (side_mentions a.lower) (ends a) r c));
      callee = callee_known;
      post_return = λ f is_f. record {
        number = p.function (known.CoreDef f);
        place_is = ap (option_map (λ d. p.function (known.CoreDef d))) is_f;
        knows = post_return_known f is_f;
      };
    }

    pub places_there : HasPlaces p a
    places_there = has_places m p a at knows

    pub is_checked : IsSoundAdapter a → is_crossing a ≡ true → IsCheckedAdapter p a
    is_checked sound crosses =
        sound_are_checked p a sound crosses (known_tell_memories m last a at (named-lengths m.types (mentions adapters) [] m.imports is names.named) knows)
