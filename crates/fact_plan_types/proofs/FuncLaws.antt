-- What adding a function does: its tuples of parameters and of results, and the function type over them.
use Rattle.std.proofs.Common.{◌≡◌, ◌<◌, ◌+◌, ◌⊎◌, ℕ, zero, suc, List, [], ◌∷◌, ◌++◌, length, map, take, get_or, Option, Some, None, Result, Ok, Err, Bool, true, false, refl, sym, ◌∙◌, ap, subst, arith, inl, inr, All}
use Rattle.std.specs.Prelude.{◌↔◌, Any, IfOk, OnOk, IsTrue, option_map, slice_get}
use Rattle.std.proofs.lemmas.Bool.{true≢false}
use Rattle.std.proofs.lemmas.List.{take_more, map-append}
use Rattle.fact_entity.specs.Places.{IsInterned}
use Rattle.fact_entity.specs.declared.error.PushError.{PushError}
use Rattle.fact_entity.specs.declared.error.PushError.TheVariants.{OutOfMemory, TooLarge}
use Rattle.fact_entity.specs.declared.id.Id.{Id}
use Rattle.fact_entity.specs.declared.table.TypeFuncs.{TypeFuncs}
use Rattle.fact_entity.specs.declared.table.TypeTuples.{TypeTuples}
use Rattle.fact_types.specs.declared.interface.InterfaceType.{InterfaceType}
use Rattle.fact_types.specs.declared.interface.InterfaceType.TheVariants.{Record as t_record, Variant as t_variant, List as t_list, Tuple as t_tuple, Map as t_map, Flags as t_flags, Enum as t_enum, Option as t_option, Result as t_result, Future as t_future, Stream as t_stream, FixedLengthList as t_fixed_length_list}
use Rattle.fact_types.specs.declared.kinds.TypeFunc.{TypeFunc}
use Rattle.fact_types.specs.declared.kinds.TypeTuple.{TypeTuple}
use Rattle.fact_types.specs.contracts.kinds.TypeFuncPartialEq.TheImpl as func_eq
use Rattle.fact_types.specs.Functions.{HaveShapes}
use Rattle.fact_types.specs.Layout.{record_layout}
use Rattle.fact_types.specs.Shapes.{k_tuple, Shape, s_node, Members, layout_of, IsWithin}
use Rattle.fact_types.specs.Tables.{Tables, Node, placed, record_node, variant_node, tuple_node, flags_node, enum_node, option_node, result_node, list_node, map_node, fixed_length_list_node, future_node, stream_node, HasShape, HasMembers, IsLive, IsLiveMember, IsSound, entries}
use Rattle.fact_types.proofs.ShapeLaws.{shaped_members}
use Rattle.fact_builder.specs.Builder.{Builder}
use Rattle.fact_types.specs.Handles.{has_borrow}
use Rattle.fact_builder.specs.Keeps.{Keeps}
use Rattle.fact_builder.specs.Makes.{Makes}
use Rattle.fact_plan.specs.declared.plan.PlanFunc.{PlanFunc}
use Rattle.fact_plan.specs.declared.plan.PlanRef.{PlanRef}
use Rattle.fact_plan.specs.declared.plan.FusePlan.{FusePlan}
use Rattle.fact_plan_types.specs.Adding.{AddsFunc, AreTuplesTooWide, IsFilled, MakesTuple}
use Rattle.fact_plan_types.specs.PlanShapes.{places_of, plan_shapes, shapes_of, tuple_shape, with_tuple}
use Rattle.fact_plan_types.specs.PlanTypes.{HasTuples, IsFuncOf}
use Rattle.fact_plan_types.specs.Reached.{IsNoFunc}
use Rattle.fact_plan_types.specs.TypeRules.{IsBadFunc, IsFrom, IsPast, NamesNoType, param_types, tuple_layout}
use Rattle.fact_plan_types.proofs.AddLaws.{makes_fills, not_past, unfit_wide}
use Rattle.fact_plan_types.proofs.MemberLaws.{members_placed, placed_members, places_layouts, shapes_keep}
use Rattle.fact_plan_types.proofs.ReadyLaws.{none_of}
use Rattle.fact_plan_types.proofs.TableLaws.{both_keep, interned_grows}
use Rattle.fact_plan_types.proofs.TupleLaws.{OneIndex, made_tuples, tuples_stay}

err_is : {A : Type 0} (x y : PushError) (r s : Result A PushError) → r ≡ Err x → s ≡ Err y → r ≡ s → x ≡ y
err_is x y r s p q e = cc

some_node : (m n : Node) → Some m ≡ Some n → m ≡ n
some_node m n e = cc

none_is : (n : Node) → None ≡ Some n → ⊥
none_is n e = cc

-- ---- tuples
tuple_laid : (ss : List Shape) (rs : List PlanRef) → layout_of (s_node k_tuple (places_of ss 0 rs)) ≡ tuple_layout (shapes_of ss rs)
tuple_laid ss rs = ap record_layout (places_layouts ss 0 rs)

pub tuple_made : (old new : Builder) (types : List InterfaceType) (rs : List PlanRef) (xs : List InterfaceType) (i : Id TypeTuples) (result : Result InterfaceType PushError) → result ≡ Ok (t_tuple i) → Makes old new k_tuple (placed 0 xs) result
    → OneIndex new.tables → ((ss : List Shape) → HaveShapes old.tables types ss → HaveShapes old.tables xs (shapes_of ss rs)) → MakesTuple old new types rs (Ok i)
tuple_made old new types rs xs i result e made one has =
    let m = subst (Makes old new k_tuple (placed 0 xs)) e made in
    record {
      live = m.live;
      shaped = λ ss h. m.shaped (places_of ss 0 rs) (placed_members old.tables ss 0 xs rs (has ss h));
      tuples = λ ss h. made_tuples old new (placed 0 xs) (t_tuple i) (places_of ss 0 rs) m (placed_members old.tables ss 0 xs rs (has ss h)) one;
      fits = λ ss h. not_past _ (subst IsWithin (tuple_laid ss rs) (m.fits (places_of ss 0 rs) (placed_members old.tables ss 0 xs rs (has ss h))).within);
      too_large = λ q. absurd (cc);
      fills = makes_fills old new k_tuple (placed 0 xs) _ m;
      keeps = m.keeps;
      functions = ap (λ (b : Builder). b.tables.functions) m.rest;
      resource_tables = ap (λ (b : Builder). b.tables.resource_tables) m.rest;
    }

tuple_refused : (old new : Builder) (types : List InterfaceType) (rs : List PlanRef) (x : PushError)
    → (x ≡ TooLarge → (n : ℕ) → n < 4294967295 → IsFilled n old.tables → (ss : List Shape) → HaveShapes old.tables types ss → IsPast (tuple_layout (shapes_of ss rs))) → MakesTuple old new types rs (Err x)
tuple_refused old new types rs x f = record {
  live = tt;
  shaped = tt;
  tuples = tt;
  fits = tt;
  too_large = λ q. f (err_is x TooLarge _ _ refl refl q);
  fills = tt;
  keeps = tt;
  functions = tt;
  resource_tables = tt;
}

past_only : (ms : Members) → IsPast (layout_of (s_node k_tuple ms)) ⊎ ⊥ → IsPast (layout_of (s_node k_tuple ms))
past_only ms w = elim w [ inl p ↦ p | inr q ↦ absurd q ]

-- a refusal that came through `?`
pub tuple_unmade : (old new : Builder) (types : List InterfaceType) (rs : List PlanRef) (xs : List InterfaceType) (made : Result InterfaceType PushError) (result : Result (Id TypeTuples) PushError) (x y : PushError) → made ≡ Err x → Makes old new k_tuple (placed 0 xs) made
    → ((ss : List Shape) → HaveShapes old.tables types ss → HaveShapes old.tables xs (shapes_of ss rs)) → result ≡ Err y → y ≡ x → MakesTuple old new types rs result
tuple_unmade old new types rs xs made result x y e m has p q =
    subst (MakesTuple old new types rs) (sym (p ∙ ap Err q)) (tuple_refused old new types rs x (λ r n l f ss h.
    elim (m.too_large (e ∙ ap Err r)) [
      | inl u ↦ subst IsPast (tuple_laid ss rs) (past_only (places_of ss 0 rs) (unfit_wide k_tuple (places_of ss 0 rs) (u (places_of ss 0 rs) (placed_members old.tables ss 0 xs rs (has ss h))) tt))
      | inr full ↦ absurd (omega (arith, full.1, l, f.members))
    ]))

pub tuple_no_memory : (old new : Builder) (types : List InterfaceType) (rs : List PlanRef) (result : Result (Id TypeTuples) PushError) (y : PushError) → result ≡ Err y → y ≡ OutOfMemory → MakesTuple old new types rs result
tuple_no_memory old new types rs result y p q = subst (MakesTuple old new types rs) (sym (p ∙ ap Err q)) (tuple_refused old new types rs OutOfMemory (λ r. absurd (cc)))

-- ---- a type with the shape of a tuple is a tuple
no_tuple : {X : Type 0} (f : X → Node) (o : Option X) (n : Node) → ((x : X) → (f x).kind ≡ k_tuple → ⊥) → option_map f o ≡ Some n → n.kind ≡ k_tuple → ⊥
no_tuple f None n g e k = cc
no_tuple f (Some x) n g e k = g x (ap (λ (m : Node). m.kind) (some_node (f x) n e) ∙ k)

pub tuple_type : (t : Tables) (ty : InterfaceType) (ms : Members) → HasShape t ty (s_node k_tuple ms) → ((i : Id TypeTuples) → ty ≡ t_tuple i → ⊥) → ⊥
tuple_type t (t_tuple i) ms h n = n i refl
tuple_type t (t_record i) ms h n = no_tuple record_node _ h.0 (λ x e. cc) h.1 h.2
tuple_type t (t_variant i) ms h n = no_tuple variant_node _ h.0 (λ x e. cc) h.1 h.2
tuple_type t (t_list i) ms h n = no_tuple list_node _ h.0 (λ x e. cc) h.1 h.2
tuple_type t (t_map i) ms h n = no_tuple map_node _ h.0 (λ x e. cc) h.1 h.2
tuple_type t (t_flags i) ms h n = no_tuple flags_node _ h.0 (λ x e. cc) h.1 h.2
tuple_type t (t_enum i) ms h n = no_tuple enum_node _ h.0 (λ x e. cc) h.1 h.2
tuple_type t (t_option i) ms h n = no_tuple option_node _ h.0 (λ x e. cc) h.1 h.2
tuple_type t (t_result i) ms h n = no_tuple result_node _ h.0 (λ x e. cc) h.1 h.2
tuple_type t (t_future i) ms h n = no_tuple (future_node t.futures i.number) _ h.0 (λ x e. cc) h.1 h.2
tuple_type t (t_stream i) ms h n = no_tuple (stream_node t.streams i.number) _ h.0 (λ x e. cc) h.1 h.2
tuple_type t (t_fixed_length_list i) ms h n = no_tuple fixed_length_list_node _ h.0 (λ x e. cc) h.1 h.2
tuple_type t ty ms h n = none_is h.0 h.1

placed_live : (t : Tables) (n : ℕ) (xs : List InterfaceType) → All (IsLive t) xs → All (λ (m : List ℕ × Option InterfaceType). IsLiveMember t m.1) (placed n xs)
placed_live t n [] a k d l = absurd (omega (arith, l))
placed_live t n (x ∷ xs) a zero d l = a 0 x (omega arith)
placed_live t n (x ∷ xs) a (suc k) d l = placed_live t (suc n) xs (λ j e b. a (suc j) e (omega (arith, b))) k d (omega (arith, l))

pub always_tuple : (old new : Builder) (xs : List InterfaceType) (ty : InterfaceType) (result : Result InterfaceType PushError) → IsSound old.tables → All (IsLive old.tables) xs → result ≡ Ok ty → Makes old new k_tuple (placed 0 xs) result → ((i : Id TypeTuples) → ty ≡ t_tuple i → ⊥) → ⊥
always_tuple old new xs ty result s a e made n =
    let m = subst (Makes old new k_tuple (placed 0 xs)) e made in
    let ms = shaped_members old.tables s (placed 0 xs) (placed_live old.tables 0 xs a) in
    tuple_type new.tables ty ms.0 (m.shaped ms.0 ms.1) n

-- ---- the function
entry_of : (t : Tables) (ss : List Shape) (rs : List PlanRef) (o : Option TypeTuple) (n : Node) → option_map tuple_node o ≡ Some n → HasMembers t n.members (places_of ss 0 rs) → (e : TypeTuple) × (o ≡ Some e) × HaveShapes t e.types (shapes_of ss rs)
entry_of t ss rs None n e h = absurd (cc)
entry_of t ss rs (Some v) n e h = (v, refl, members_placed t ss 0 v.types rs (subst (λ (m : Node). HasMembers t m.members (places_of ss 0 rs)) (sym (some_node (tuple_node v) n e)) h))

tuple_entry : (t : Tables) (ss : List Shape) (rs : List PlanRef) (i : Id TypeTuples) → HasShape t (t_tuple i) (s_node k_tuple (places_of ss 0 rs)) → (e : TypeTuple) × (slice_get t.tuples i.number ≡ Some e) × HaveShapes t e.types (shapes_of ss rs)
tuple_entry t ss rs i h = entry_of t ss rs (slice_get t.tuples i.number) h.0 h.1 h.3

func_is : (p : FusePlan) (t : Tables) (k : Id TypeFuncs) (f : PlanFunc) (v : TypeFunc) → slice_get t.functions k.number ≡ Some v → v.async_ ≡ f.async_ → v.param_names ≡ map (λ x. x.0) f.params
    → HasShape t (t_tuple v.params) (s_node k_tuple (places_of (plan_shapes p) 0 (param_types f))) → HasShape t (t_tuple v.results) (s_node k_tuple (places_of (plan_shapes p) 0 f.results)) → IsFuncOf p t k f
func_is p t k f v e m n a b =
    let x = tuple_entry t (plan_shapes p) (param_types f) v.params a in
    let y = tuple_entry t (plan_shapes p) f.results v.results b in
    record {
      signature = record { func = v; func_there = e; taken = x.0; taken_there = x.1; takes = x.2; given = y.0; given_there = y.1; gives = y.2 };
      mark = m;
      names = n;
    }

func_refused : (old new : Builder) (types : List InterfaceType) (f : PlanFunc) (x : PushError)
    → (x ≡ TooLarge → (n : ℕ) → n < 4294967294 → IsFilled n old.tables → (ss : List Shape) → HaveShapes old.tables types ss → AreTuplesTooWide f ss) → AddsFunc old new types f (Err x)
func_refused old new types f x g = record {
  added = tt;
  fits = tt;
  too_large = λ q. g (err_is x TooLarge _ _ refl refl q);
  fills = tt;
  tuples = tt;
  keeps = tt;
  rest = tt;
}

pub func_no_memory : (old new : Builder) (types : List InterfaceType) (f : PlanFunc) (result : Result (Id TypeFuncs) PushError) (y : PushError) → result ≡ Err y → y ≡ OutOfMemory → AddsFunc old new types f result
func_no_memory old new types f result y p q = subst (AddsFunc old new types f) (sym (p ∙ ap Err q)) (func_refused old new types f OutOfMemory (λ r. absurd (cc)))

pub params_refused : (old new last : Builder) (types : List InterfaceType) (f : PlanFunc) (rs : List PlanRef) (made : Result (Id TypeTuples) PushError) (result : Result (Id TypeFuncs) PushError) (x y : PushError) → rs ≡ param_types f → made ≡ Err x
    → MakesTuple old new types rs made → result ≡ Err y → y ≡ x → AddsFunc old last types f result
params_refused old new last types f rs made result x y same e m p q =
    subst (AddsFunc old last types f) (sym (p ∙ ap Err q)) (func_refused old last types f x (λ r n l g ss h.
    inl (subst (λ (us : List PlanRef). IsPast (tuple_layout (shapes_of ss us))) same (m.too_large (e ∙ ap Err r) n (omega (arith, l)) g ss h))))

pub results_refused : (old mid new : Builder) (types : List InterfaceType) (f : PlanFunc) (rs : List PlanRef) (i : Id TypeTuples) (made : Result (Id TypeTuples) PushError) (result : Result (Id TypeFuncs) PushError) (x y : PushError) → MakesTuple old mid types rs (Ok i) → made ≡ Err x
    → MakesTuple mid new types f.results made → result ≡ Err y → y ≡ x → AddsFunc old new types f result
results_refused old mid new types f rs i made result x y m e d p q =
    subst (AddsFunc old new types f) (sym (p ∙ ap Err q)) (func_refused old new types f x (λ r n l g ss h.
    inr (d.too_large (e ∙ ap Err r) (n + 1) (omega (arith, l)) (m.fills n g) ss (shapes_keep old.tables mid.tables m.keeps types ss h))))

func_filled : (old mid : Builder) (new : Builder) (n : ℕ) (v : TypeFunc) (k : ℕ) → IsInterned func_eq.ghosts.eq mid.tables.functions new.tables.functions v k → mid.tables.functions ≡ old.tables.functions
    → new ≡ record mid { tables = record mid.tables { functions = new.tables.functions } } → IsFilled n old.tables → IsFilled (n + 1 + 1) mid.tables → IsFilled (n + 2) new.tables
func_filled old mid new n v k d s r f g = record {
  members = omega (arith, ap (λ (b : Builder). entries b.tables) r, g.members);
  functions = omega (arith, interned_grows func_eq.ghosts.eq _ _ v k d, ap length s, f.functions);
  futures = omega (arith, ap (λ (b : Builder). length b.tables.futures) r, g.futures);
  streams = omega (arith, ap (λ (b : Builder). length b.tables.streams) r, g.streams);
  error_contexts = omega (arith, ap (λ (b : Builder). length b.tables.error_context_tables) r, g.error_contexts);
}

pub func_adds : (old first mid new : Builder) (types : List InterfaceType) (f : PlanFunc) (rs : List PlanRef) (v : TypeFunc) (result : Result (Id TypeFuncs) PushError) → rs ≡ param_types f → v.async_ ≡ f.async_ → v.param_names ≡ map (λ x. x.0) f.params
    → MakesTuple old first types rs (Ok v.params) → MakesTuple first mid types f.results (Ok v.results)
    → IfOk result (λ k. IsInterned func_eq.ghosts.eq mid.tables.functions new.tables.functions v k.number) → IfOk result (λ k. slice_get new.tables.functions k.number ≡ Some v)
    → OnOk result (new ≡ record mid { tables = record mid.tables { functions = new.tables.functions } }) → Keeps mid.tables new.tables → (result ≡ Err TooLarge → length mid.tables.functions ≡ 4294967295) → AddsFunc old new types f result
func_adds old first mid new types f rs v (Ok k) same mark names m d int ent r keeps full =
    let funcs : mid.tables.functions ≡ old.tables.functions = d.functions ∙ m.functions in
    let later = both_keep first.tables mid.tables new.tables d.keeps keeps in
    let all = both_keep old.tables first.tables new.tables m.keeps later in
    record {
      added = λ p h.
          let params = later.shapes (t_tuple v.params) (s_node k_tuple (places_of (plan_shapes p) 0 rs)) (m.shaped (plan_shapes p) h) in
          let results = keeps.shapes (t_tuple v.results) (s_node k_tuple (places_of (plan_shapes p) 0 f.results)) (d.shaped (plan_shapes p) (shapes_keep old.tables first.tables m.keeps types (plan_shapes p) h)) in
          func_is p new.tables k f v ent mark names (subst (λ (us : List PlanRef). HasShape new.tables (t_tuple v.params) (s_node k_tuple (places_of (plan_shapes p) 0 us))) same params) results;
      fits = λ ss h w. elim w [
        | inl a ↦ m.fits ss h (subst (λ (us : List PlanRef). IsPast (tuple_layout (shapes_of ss us))) (sym same) a)
        | inr b ↦ d.fits ss (shapes_keep old.tables first.tables m.keeps types ss h) b
      ];
      too_large = λ q. absurd (cc);
      fills = λ n g. func_filled old mid new n v k.number int funcs r g (d.fills (n + 1) (m.fills n g));
      tuples = λ ss h ts z.
          let params = m.tuples ss h ts z in
          let results = d.tuples ss (shapes_keep old.tables first.tables m.keeps types ss h) _ params in
          subst (λ (us : List PlanRef). HasTuples new.tables (with_tuple (with_tuple ts (tuple_shape ss us)) (tuple_shape ss f.results))) same
          (tuples_stay mid.tables new.tables keeps (ap (λ (b : Builder). b.tables.tuples) r) _ results);
      keeps = record { all = all; funcs = λ i g e. int.keeps i g (subst (λ (fs : List TypeFunc). slice_get fs i ≡ Some g) (sym funcs) e) };
      rest = ap (λ (b : Builder). b.tables.resource_tables) r ∙ d.resource_tables ∙ m.resource_tables;
    }
func_adds old first mid new types f rs v (Err x) same mark names m d int ent r keeps full =
    let funcs : mid.tables.functions ≡ old.tables.functions = d.functions ∙ m.functions in
    func_refused old new types f x (λ q n l g ss h. absurd (omega (arith, full (ap Err q), ap length funcs, g.functions, l)))

-- ---- borrows among results
any_on : {X : Type 0} (P : X → Type 0) (x : X) (xs : List X) → Any P xs → Any P (x ∷ xs)
any_on P x xs (k, y, l, e, p) = (suc k, y, omega (arith, l), e, p)

pub any_at : {X Y : Type 0} (P : Y → Type 0) (f : X → Y) (xs : List X) (i : ℕ) (d : X) → i < length xs → P (f (get_or xs i d)) → Any P (map f xs)
any_at P f [] i d l p = absurd (omega (arith, l))
any_at P f (y ∷ xs) zero d l p = (0, f y, omega arith, refl, p)
any_at P f (y ∷ xs) (suc i) d l p = any_on P (f y) (map f xs) (any_at P f xs i d (omega (arith, l)) p)

any_last : {X : Type 0} (P : X → Type 0) (xs : List X) (y : X) → Any P (xs ++ y ∷ []) → Any P xs ⊎ P y
any_last P [] y (zero, x, l, e, p) = inr (subst P (sym e) p)
any_last P [] y (suc k, x, l, e, p) = absurd (omega (arith, l))
any_last P (z ∷ xs) y (zero, x, l, e, p) = inl (0, x, omega arith, e, p)
any_last P (z ∷ xs) y (suc k, x, l, e, p) = elim (any_last P xs y (k, x, omega (arith, l), e, p)) [ inl a ↦ inl (any_on P z xs a) | inr q ↦ inr q ]

pub none_next : {X Y : Type 0} (P : Y → Type 0) (f : X → Y) (xs : List X) (i : ℕ) (d : X) → i < length xs → (Any P (map f (take i xs)) → ⊥) → (P (f (get_or xs i d)) → ⊥) → Any P (map f (take (i + 1) xs)) → ⊥
none_next P f xs i d l n h a =
    let taken : map f (take (i + 1) xs) ≡ map f (take i xs) ++ f (get_or xs i d) ∷ [] = ap (map f) (take_more xs i d l) ∙ map-append f (take i xs) (get_or xs i d ∷ []) in
    elim (any_last P (map f (take i xs)) (f (get_or xs i d)) (subst (Any P) taken a)) [ inl b ↦ n b | inr q ↦ h q ]

-- what the test of the results says of a function
abbrev pub Borrows : List Shape → Type 0
Borrows ss = Any (λ s. IsTrue (has_borrow s)) ss

pub results_known : (p : FusePlan) (types : List InterfaceType) (f : PlanFunc) (rs : List PlanRef) → length types ≡ length p.types → rs ≡ f.results → (NamesNoType (length p.types) f → ⊥) → All (λ r. IsFrom (length types) r → ⊥) rs
results_known p types f rs count same n =
    subst (All (λ r. IsFrom (length types) r → ⊥)) (sym same) (none_of (IsFrom (length types)) f.results (λ a. n (inr (subst (λ (m : ℕ). Any (IsFrom m) f.results) count a))))

pub borrows : (ss : List Shape) (f : PlanFunc) (rs : List PlanRef) (b : Bool) → rs ≡ f.results → (IsTrue b ↔ Borrows (shapes_of ss rs)) → b ≡ true → Borrows (shapes_of ss f.results)
borrows ss f rs b same e t = subst (λ (us : List PlanRef). Borrows (shapes_of ss us)) same (e.0 t)

pub no_func_none : (ss : List Shape) (f : PlanFunc) (rs : List PlanRef) (b : Bool) → rs ≡ f.results → (IsTrue b ↔ Borrows (shapes_of ss rs)) → b ≡ false → (IsBadFunc f → ⊥) → IsNoFunc f (shapes_of ss f.results) → ⊥
no_func_none ss f rs b same e t good n = elim n [
  | inl bad ↦ good bad
  | inr a ↦ true≢false (sym (e.1 (subst (λ (us : List PlanRef). Borrows (shapes_of ss us)) (sym same) a)) ∙ t)
]
