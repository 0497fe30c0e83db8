-- A module that is being made lists what adapters mention, as more is imported.
use Rattle.std.proofs.Common.{◌≡◌, ◌≢◌, ◌<◌, ℕ, Bool, true, false, List, [], ◌∷◌, ◌++◌, AllPairs, Some, None, Option, Contains, refl, sym, ap, ◌∙◌, subst, length, map, slice_get, append-nil, append_assoc, get_or, ◌⊎◌, inl, inr}
use Rattle.std.specs.Prelude.{All, cond, filter}
use Rattle.std.specs.List.{cons_option, filter_map}
use Rattle.std.proofs.lemmas.Bool.{false≢true}
use Rattle.std.proofs.lemmas.List.Elements.{All-filter, Contains-append_cases, Contains-append_left, Contains-append_right, Contains-push, filter-append, filter_map-append}
use Rattle.std.proofs.lemmas.List.Quantifiers.{all_pairs_push}
use Rattle.std.proofs.lemmas.Option.{slice_get-get_or}
use Rattle.fact_wasm.specs.declared.types.FuncType.{FuncType}
use Rattle.fact_wasm.specs.declared.module.ImportType.TheVariants as import
use Rattle.fact_wasm.specs.declared.module.WasmImport.{WasmImport}
use Rattle.fact_types.specs.Adapters.{LinkedAdapter}
use Rattle.fact_types.specs.declared.outside.CoreDef.{CoreDef}
use Rattle.fact_types.specs.declared.import.Import.{Import}
use Rattle.fact_types.specs.declared.import.Import.TheVariants as known
use Rattle.fact_emit.specs.declared.helpers.Helper.{Helper}
use Rattle.fact_emit.specs.declared.imported.RuntimeFunction.{RuntimeFunction}
use Rattle.fact_emit.specs.declared.transcoders.Transcoder.{Transcoder}
use Rattle.fact_emit.specs.Brought.{AreCalledImported, CalledFunction, IsCalledImported, Runtime, Transcoding, Helping}
use Rattle.fact_emit.specs.ImportSection.{AreNamed, AreTaskCallsNamed, AreTranscodersNamed, Callback, Callee, Flags, IsNamed, IsNamedIfTranscoder, Mention, PostReturn, Realloc, Role, Sort, StandsFor, Storage, a_function, a_global, a_memory, def_of, imports_of, is_awaited, is_made_once, is_mentioned, sort_of, with_mention, with_mentions}
use Rattle.fact_emit.specs.Known.{AreUsedAlike, IsUsedAlike, memory_of_role}
use Rattle.fact_emit.specs.DefImports.{HasTypeIfAny, IsDefImported, type_of_role}
use Rattle.fact_emit.specs.Listed.{AreImportedInTurn, ListsMentions}
use Rattle.fact_emit.specs.Runtime.{import_of, name_of_runtime, origin_of_runtime}
use Rattle.fact_emit.specs.States.{HasType, IsImported, IsRuntimeImported, IsTranscoderImported, ModuleSoFar, import_as, memories_of, with_helper, with_import}
use Rattle.fact_emit.proofs.ExactItems.{runtime-made-once}
use Rattle.fact_emit.proofs.ImportLists.{get-map, get-there, map-push, there-get, unmap}
use Rattle.fact_emit.proofs.RuntimeNamed.{runtime-defines-none, runtime-named}
use Rattle.fact_emit.proofs.Named.{named-at, named-function, named-lengths, named-more, named-push, sort_for, stands-sort}
use Rattle.fact_emit.proofs.TaskCallsNamed.{calls-behind, calls-typed, calls-without}
use Rattle.fact_emit.proofs.TranscodersNamed.{runtime-as, transcoder-as, transcoders-push, transcoders-typed}
use Rattle.fact_emit.proofs.Mentions.{def_of-is, given, giver, in-its-kind, in-one, mention-of, mentioned, of-a-kind}

-- ---- the imports so far, and those who mention them

module _ (s : ModuleSoFar) (ms : List Mention) (adapters : List LinkedAdapter) (h : ListsMentions s ms adapters) where
  pub listed_even : length s.section ≡ length s.imports
  listed_even = named-lengths s.types ms [] s.section s.imports h.named

  -- a definition that is imported is mentioned, and one that is mentioned is imported
  is-mentioned : (d : CoreDef) (k : ℕ) → slice_get s.imports k ≡ Some (known.CoreDef d) → is_mentioned d ms ≡ true
  is-mentioned d k at =
      let (m, there) = given def_of s.imports k (known.CoreDef d) d at refl in
      let (r, is_there, is) = unmap (λ (r : Mention). r.def) ms m d (ap (λ ds. slice_get ds m) (sym h.defs) ∙ there) in
      mentioned d ms m r is_there is

  is-imported : (d : CoreDef) → is_mentioned d ms ≡ true → (k : ℕ) × (slice_get s.imports k ≡ Some (known.CoreDef d))
  is-imported d m =
      let (j, r, at, is) = mention-of d ms m in
      let (k, i, there, g) = giver def_of s.imports j d (ap (λ ds. slice_get ds j) h.defs ∙ get-map (λ (r : Mention). r.def) ms j r at ∙ ap Some is) in
      (k, there ∙ ap Some (def_of-is i d g))

-- ---- all imports but the calls by which async adapters hand their calls on

pub record ListsOthers (s : ModuleSoFar) (ms : List Mention) : Type 0 where
  pub defs : filter_map def_of s.imports ≡ map (λ r. r.def) ms
  pub named : AreNamed s.types ms [] s.section s.imports
  pub transcoders : AreTranscodersNamed s.types s.section s.imports
  pub once : AllPairs (λ i j. i ≢ j) (filter is_made_once s.imports)
  pub signatures : AllPairs (λ t u. t ≢ u) s.types

pub others-of : {s : ModuleSoFar} {ms : List Mention} {adapters : List LinkedAdapter} → ListsMentions s ms adapters → ListsOthers s ms
others-of h = record { defs = h.defs; named = h.named; transcoders = h.transcoders; once = h.once; signatures = h.signatures }

pub listed-of : {s : ModuleSoFar} {ms : List Mention} {adapters : List LinkedAdapter} → ListsOthers s ms → AreTaskCallsNamed s.types adapters s.section s.imports → ListsMentions s ms adapters
listed-of h calls = record { defs = h.defs; named = h.named; transcoders = h.transcoders; task_calls = calls; once = h.once; signatures = h.signatures }

pub others-even : {s : ModuleSoFar} {ms : List Mention} → ListsOthers s ms → length s.section ≡ length s.imports
others-even {s} {ms} h = named-lengths s.types ms [] s.section s.imports h.named

-- with one more type
pub others-typed : (s : ModuleSoFar) (ms : List Mention) (ty : FuncType) → (Contains s.types ty → ⊥) → ListsOthers s ms → ListsOthers (record s { types = s.types ++ ty ∷ [] }) ms
others-typed s ms ty absent h = record {
  defs = h.defs;
  named = subst (λ ns. AreNamed (s.types ++ ty ∷ []) ns [] s.section s.imports) (append-nil ms) (named-more s.types (ty ∷ []) ms [] [] s.section s.imports h.named);
  transcoders = transcoders-typed s.types (ty ∷ []) s.section s.imports h.transcoders;
  once = h.once;
  signatures = all_pairs_push (λ t u. t ≢ u) s.types ty h.signatures (λ k t within e. absent (there-get s.types k ty (slice_get-get_or s.types k t within ∙ ap Some e)));
}

-- what is made once is new
once-push : (is : List Import) (i : Import) → (is_made_once i ≡ true → All (λ j. j ≢ i) is) → AllPairs (λ i j. i ≢ j) (filter is_made_once is) → AllPairs (λ i j. i ≢ j) (filter is_made_once (is ++ i ∷ []))
once-push is i fresh h = subst (AllPairs (λ i j. i ≢ j)) (sym (filter-append is_made_once is (i ∷ []))) (go (is_made_once i) refl)
  where
    go : (b : Bool) → is_made_once i ≡ b → AllPairs (λ i j. i ≢ j) (filter is_made_once is ++ cond b (i ∷ []) [])
    go true e = all_pairs_push (λ i j. i ≢ j) (filter is_made_once is) i h (All-filter is_made_once (λ j. j ≢ i) is (fresh e))
    go false e = subst (AllPairs (λ i j. i ≢ j)) (sym (append-nil _)) h

-- with one more function that is no core definition
pub others-function : (s : ModuleSoFar) (ms : List Mention) (w : WasmImport) (i : Import) → def_of i ≡ None → (is_made_once i ≡ true → All (λ j. j ≢ i) s.imports)
    → IsNamed s.types ms s.section w i → IsNamedIfTranscoder s.types s.section (memories_of s) w i → ListsOthers s ms → ListsOthers (with_import s w i) ms
others-function s ms w i no_def fresh names places h = record {
  defs = filter_map-append def_of s.imports (i ∷ []) ∙ ap (λ o. filter_map def_of s.imports ++ cons_option o []) no_def ∙ append-nil _ ∙ h.defs;
  named = named-push s.types ms [] s.section s.imports w i h.named names;
  transcoders = transcoders-push s.types s.section s.imports w i (others-even h) h.transcoders places;
  once = once-push s.imports i fresh h.once;
  signatures = h.signatures;
}

-- ---- steps

pub listed_type : (old new : ModuleSoFar) (ms : List Mention) (adapters : List LinkedAdapter) (ty : FuncType) → HasType old new ty → ListsMentions old ms adapters → ListsMentions new ms adapters
listed_type old new ms adapters ty (inl there) h = subst (λ s. ListsMentions s ms adapters) (sym there) h
listed_type old new ms adapters ty (inr anew) h =
    subst (λ s. ListsMentions s ms adapters) (sym anew.1) (listed-of (others-typed old ms ty anew.0 (others-of h)) (calls-typed old.types (ty ∷ []) adapters old.section old.imports h.task_calls))

-- an adapter that hands no call on
pub listed_unawaited : (s : ModuleSoFar) (ms : List Mention) (adapters : List LinkedAdapter) (a : LinkedAdapter) → is_awaited a ≡ false → ListsMentions s ms adapters → ListsMentions s ms (adapters ++ a ∷ [])
listed_unawaited s ms adapters a e h = listed-of (others-of h) (calls-without s.types adapters s.section s.imports a e h.task_calls)

-- the import of a function that is no core definition, and that is made once
import_function : (old new : ModuleSoFar) (ms : List Mention) (adapters : List LinkedAdapter) (w : WasmImport) (i : Import) (place : ℕ) → def_of i ≡ None → is_made_once i ≡ true → IsNamed old.types ms old.section w i
    → IsNamedIfTranscoder old.types old.section (memories_of old) w i → IsImported old new w i place → ListsMentions old ms adapters → ListsMentions new ms adapters
import_function old new ms adapters w i place no_def made names places x h = elim x.step [
  | inl there ↦ subst (λ s. ListsMentions s ms adapters) (sym there.0) h
  | inr anew ↦ subst (λ s. ListsMentions s ms adapters) (sym anew.0)
      (listed-of (others-function old ms w i no_def (λ made k j within e. fresh anew.1 k j within e) names places (others-of h)) (calls-behind old.types adapters old.section old.imports w i (listed_even old ms adapters h) made h.task_calls))
]
  where
    fresh : (Contains (imports_of (sort_of w.ty) old.section old.imports) i → ⊥) → (k : ℕ) (j : Import) → k < length old.imports → get_or old.imports k j ≡ i → ⊥
    fresh absent k j within e =
        let at : slice_get old.imports k ≡ Some i = slice_get-get_or old.imports k j within ∙ ap Some e in
        let (w', there, b, named) = named-at old.types ms [] old.section old.imports k i h.named at in
        let (n, of) = in-its-kind old.section old.imports k w' i there at in
        let same : sort_of w'.ty ≡ sort_of w.ty = named-function old.types ms b w' i no_def named ∙ sym (named-function old.types ms old.section w i no_def names) in
        absent (there-get _ n i (subst (λ sort. slice_get (imports_of sort old.section old.imports) n ≡ Some i) same of))

pub listed_runtime : (old new : ModuleSoFar) (ms : List Mention) (adapters : List LinkedAdapter) (f : RuntimeFunction) (place : ℕ) → IsRuntimeImported old new f place → ListsMentions old ms adapters → ListsMentions new ms adapters
listed_runtime old new ms adapters f place h lists =
    let w = import_as (origin_of_runtime f) (name_of_runtime f) (import.Func h.ty) in
    import_function h.typed new ms adapters w (import_of f) place (runtime-defines-none f) (runtime-made-once f) (runtime-named h.typed.types ms h.typed.section w f (record { is_from = refl; is_named = refl; is_typed = h.ty_there })) (runtime-as _ _ _ w f) h.imported
    (listed_type old h.typed ms adapters _ h.types lists)

listed_transcoder : (old new : ModuleSoFar) (ms : List Mention) (adapters : List LinkedAdapter) (t : Transcoder) (place : ℕ) → IsTranscoderImported old new t place → ListsMentions old ms adapters → ListsMentions new ms adapters
listed_transcoder old new ms adapters t place h lists = import_function h.typed new ms adapters _ _ place refl refl h.ty_there (transcoder-as h) h.imported (listed_type old h.typed ms adapters _ h.types lists)

-- what a module asked for of helpers is not looked at
listed_helper : (old : ModuleSoFar) (key : Helper) {ms : List Mention} {adapters : List LinkedAdapter} → ListsMentions old ms adapters → ListsMentions (with_helper old key) ms adapters
listed_helper old key h = record { defs = h.defs; named = h.named; transcoders = h.transcoders; task_calls = h.task_calls; once = h.once; signatures = h.signatures }

listed_one : (old new : ModuleSoFar) (ms : List Mention) (adapters : List LinkedAdapter) (f : CalledFunction) (place : ℕ) → IsCalledImported old new f place → ListsMentions old ms adapters → ListsMentions new ms adapters
listed_one old new ms adapters (Runtime f) place h lists = listed_runtime old new ms adapters f place h lists
listed_one old new ms adapters (Transcoding t) place h lists = listed_transcoder old new ms adapters t place h lists
listed_one old new ms adapters (Helping key) place h lists = elim h.step [
  | inl same ↦ subst (λ s. ListsMentions s ms adapters) (sym same) lists
  | inr anew ↦ subst (λ s. ListsMentions s ms adapters) (sym anew.0) (listed_helper old key lists)
]

-- Functions of the runtime that code brought in.
pub listed_called : (fs : List CalledFunction) (old new : ModuleSoFar) (ms : List Mention) (adapters : List LinkedAdapter) → AreCalledImported old new fs → ListsMentions old ms adapters → ListsMentions new ms adapters
listed_called [] old new ms adapters h lists = subst (λ s. ListsMentions s ms adapters) (sym h) lists
listed_called (f ∷ fs) old new ms adapters h lists = listed_called fs h.0 new ms adapters h.3 (listed_one old h.0 ms adapters f h.1 h.2 lists)

-- ---- the import of a core definition

-- Roles that want an import of the same type want one of the same kind.
sort_by : Option FuncType → Option (Bool × Option ℕ) → Sort
sort_by (Some ty) memory = a_function
sort_by None (Some memory) = a_memory
sort_by None None = a_global

sort_is : (r : Role) → sort_for r ≡ sort_by (type_of_role r) (memory_of_role r)
unfolding sort_by
sort_is (Flags i) = refl
sort_is (Storage wide k) = refl
sort_is (Realloc wide) = refl
sort_is Callback = refl
sort_is (Callee adapter ty) = refl
sort_is (PostReturn adapter results) = refl

sorts_alike : (q r : Role) → IsUsedAlike q r → sort_for q ≡ sort_for r
sorts_alike q r h = sort_is q ∙ (λ i. sort_by (h.function i) (h.memory i)) ∙ sym (sort_is r)

-- the definition was imported before, or it is now
abbrev pub IsMentionStep : (old new : ModuleSoFar) → List Mention → Mention → WasmImport → Type 0
IsMentionStep old new ms r w = ((is_mentioned r.def ms ≡ true) × (new ≡ old)) ⊎ ((is_mentioned r.def ms ≡ false) × (new ≡ with_import old w (known.CoreDef r.def)))

module _ (old new : ModuleSoFar) (ms : List Mention) (adapters : List LinkedAdapter) (r : Mention) (w : WasmImport) (h : ListsMentions old ms adapters) (names : StandsFor old.types old.section r.role w)
    (alike : (q : Role) → Contains ms (record { def = r.def; role = q }) → sort_for q ≡ sort_of w.ty) where
  there-as : is_mentioned r.def ms ≡ true → Contains (imports_of (sort_of w.ty) old.section old.imports) (known.CoreDef r.def)
  there-as m =
      let (k, at) = is-imported old ms adapters h r.def m in
      let (w', there, b, named) = named-at old.types ms [] old.section old.imports k (known.CoreDef r.def) h.named at in
      let (n, of) = in-its-kind old.section old.imports k w' (known.CoreDef r.def) there at in
      let same : sort_of w'.ty ≡ sort_of w.ty = stands-sort old.types b named.0 w' named.2 ∙ alike named.0 named.1 in
      there-get _ n (known.CoreDef r.def) (subst (λ sort. slice_get (imports_of sort old.section old.imports) n ≡ Some (known.CoreDef r.def)) same of)

  not-mentioned : (Contains (imports_of (sort_of w.ty) old.section old.imports) (known.CoreDef r.def) → ⊥) → is_mentioned r.def ms ≡ false
  not-mentioned absent = by-cases (is_mentioned r.def ms) refl
    where
      by-cases : (b : Bool) → is_mentioned r.def ms ≡ b → b ≡ false
      by-cases true e = absurd (absent (there-as e))
      by-cases false e = refl

  -- it is imported where it was not mentioned before
  mention_step : (place : ℕ) → IsImported old new w (known.CoreDef r.def) place → IsMentionStep old new ms r w
  mention_step place i = elim i.step [
    | inl there ↦
        let (n, at) = get-there _ _ there.1 in
        let (k, is) = of-a-kind (sort_of w.ty) old.section old.imports n (known.CoreDef r.def) at in
        inl (is-mentioned old ms adapters h r.def k is, there.0)
    | inr anew ↦ inr (not-mentioned anew.1, anew.0)
  ]

  listed_mention : IsMentionStep old new ms r w → ListsMentions new (with_mention ms r) adapters
  listed_mention (inl there) = subst (λ s. ListsMentions s (with_mention ms r) adapters) (sym there.1) (rw there.0 h)
  listed_mention (inr anew) =
      subst (λ s. ListsMentions s (with_mention ms r) adapters) (sym anew.1) (rw anew.0 (record {
        defs = filter_map-append def_of old.imports (known.CoreDef r.def ∷ []) ∙ ap (λ ds. ds ++ r.def ∷ []) h.defs ∙ sym (map-push (λ (r : Mention). r.def) ms r);
        named = named-push old.types (ms ++ r ∷ []) [] old.section old.imports w (known.CoreDef r.def)
            (subst (λ ts. AreNamed ts (ms ++ r ∷ []) [] old.section old.imports) (append-nil old.types) (named-more old.types [] ms (r ∷ []) [] old.section old.imports h.named))
            (r.role, Contains-push ms r, names);
        transcoders = transcoders-push old.types old.section old.imports w (known.CoreDef r.def) (listed_even old ms adapters h) h.transcoders tt;
        task_calls = calls-behind old.types adapters old.section old.imports w (known.CoreDef r.def) (listed_even old ms adapters h) refl h.task_calls;
        once = once-push old.imports (known.CoreDef r.def) (λ made k i within e. false≢true (sym anew.0 ∙ is-mentioned old ms adapters h r.def k (slice_get-get_or old.imports k i within ∙ ap Some e))) h.once;
        signatures = h.signatures;
      }))

-- its type, if it has one
listed_if_any : (old new : ModuleSoFar) (ms : List Mention) (adapters : List LinkedAdapter) (ty : Option FuncType) → HasTypeIfAny old new ty → ListsMentions old ms adapters → ListsMentions new ms adapters
listed_if_any old new ms adapters None same h = subst (λ s. ListsMentions s ms adapters) (sym same) h
listed_if_any old new ms adapters (Some ty) has h = listed_type old new ms adapters ty has h

pub section_if_any : (old new : ModuleSoFar) (ty : Option FuncType) → HasTypeIfAny old new ty → new.section ≡ old.section
section_if_any old new None same = ap (λ (s : ModuleSoFar). s.section) same
section_if_any old new (Some ty) (inl same) = ap (λ (s : ModuleSoFar). s.section) same
section_if_any old new (Some ty) (inr anew) = ap (λ (s : ModuleSoFar). s.section) anew.1

-- One mention: what is imported, and that the module lists it too.
module _ (old new : ModuleSoFar) (ms : List Mention) (adapters : List LinkedAdapter) (r : Mention) (place : ℕ) (h : ListsMentions old ms adapters) (l : IsDefImported old new r.role r.def place)
    (alike : (q : Role) → Contains ms (record { def = r.def; role = q }) → sort_for q ≡ sort_for r.role) where
  here : ListsMentions l.typed ms adapters
  here = listed_if_any old l.typed ms adapters _ l.types h

  stands : StandsFor l.typed.types l.typed.section r.role l.import
  stands = subst (λ ws. StandsFor l.typed.types ws r.role l.import) (sym (section_if_any old l.typed _ l.types)) l.stands

  alike-sort : (q : Role) → Contains ms (record { def = r.def; role = q }) → sort_for q ≡ sort_of l.import.ty
  alike-sort q c = alike q c ∙ sym (stands-sort l.typed.types l.typed.section r.role l.import stands)

  pub imported_step : IsMentionStep l.typed new ms r l.import
  imported_step = mention_step l.typed new ms adapters r l.import here stands alike-sort place l.imported

  pub listed_imported : ListsMentions new (with_mention ms r) adapters
  listed_imported = listed_mention l.typed new ms adapters r l.import here stands alike-sort imported_step

-- ---- many mentions

-- first mentions are mentions
pub in_more : (ms : List Mention) (r : Mention) (rs : List Mention) (q : Mention) → Contains (with_mention ms r ++ rs) q → Contains (ms ++ r ∷ rs) q
in_more ms r rs q c =
    subst (λ l. Contains l q) (append_assoc ms (r ∷ []) rs) (elim (Contains-append_cases (with_mention ms r) rs q c) [
      | inl x ↦ Contains-append_left (ms ++ r ∷ []) rs q (in-one ms r q x)
      | inr y ↦ Contains-append_right (ms ++ r ∷ []) rs q y
    ])

pub alike_more : (ms : List Mention) (r : Mention) (rs : List Mention) → AreUsedAlike (ms ++ r ∷ rs) → AreUsedAlike (with_mention ms r ++ rs)
alike_more ms r rs h = record { alike = λ q p cq cp e. h.alike q p (in_more ms r rs q cq) (in_more ms r rs p cp) e }

pub alike_first : (ms : List Mention) (r : Mention) (rs : List Mention) → AreUsedAlike (ms ++ r ∷ rs) → (q : Role) → Contains ms (record { def = r.def; role = q }) → sort_for q ≡ sort_for r.role
alike_first ms r rs h q c = sorts_alike q r.role (h.alike (record { def = r.def; role = q }) r (Contains-append_left ms (r ∷ rs) _ c) (Contains-append_right ms (r ∷ rs) r (there-get (r ∷ rs) 0 r refl)) refl)

pub listed_all : (rs : List Mention) (old new : ModuleSoFar) (ms : List Mention) (adapters : List LinkedAdapter) → AreImportedInTurn old new rs → AreUsedAlike (ms ++ rs) → ListsMentions old ms adapters
    → ListsMentions new (with_mentions ms rs) adapters
listed_all [] old new ms adapters l alike h = subst (λ s. ListsMentions s ms adapters) (sym l) h
listed_all (r ∷ rs) old new ms adapters l alike h =
    listed_all rs l.0 new (with_mention ms r) adapters l.3 (alike_more ms r rs alike) (listed_imported old l.0 ms adapters r l.1 h l.2 (alike_first ms r rs alike))
