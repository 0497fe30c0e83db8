-- What comes of function types.
use Rattle.std.proofs.Common.{◌≡◌, ◌↔◌, ℕ, zero, suc, All, arith, List, [], ◌∷◌, ◌++◌, length, map, Some, None, refl, sym, ◌∙◌, ap, subst}
use Rattle.std.specs.Prelude.{slice_get, position, flat_map, option_to_list, Result, Ok, Err}
use Rattle.std.proofs.lemmas.List.Folds.{flat_map-map}
use Rattle.std.proofs.lemmas.Option.{get_or_from_slice_get, slice_get_within}
use Rattle.fact_entity.specs.declared.error.PushError.{PushError}
use Rattle.fact_entity.specs.declared.error.PushError.TheVariants as push
use Rattle.fact_entity.specs.declared.id.Id.{Id}
use Rattle.fact_entity.specs.declared.table.SourceFuncTypes.{SourceFuncTypes}
use Rattle.fact_entity.specs.declared.table.TypeFuncs.{TypeFuncs}
use Rattle.fact_entity.specs.Places.{IsInterned}
use Rattle.fact_source.specs.declared.defined.ComponentValType.{ComponentValType}
use Rattle.fact_source.specs.declared.defined.SourceFunc.{SourceFunc}
use Rattle.fact_source.specs.declared.items.ComponentEntityType.TheVariants as entity
use Rattle.fact_source.specs.Live.{IsValueBelow, IsPayloadBelow, IsLiveSourceFunc, IsSoundSource}
use Rattle.fact_source.specs.SourceTables.{SourceTables}
use Rattle.fact_types.specs.declared.interface.InterfaceType.TheVariants as plain
use Rattle.fact_types.specs.declared.interface.TypeDef.TheVariants as def
use Rattle.fact_types.specs.declared.kinds.TypeFunc.{TypeFunc}
use Rattle.fact_builder.specs.Builder.{Builder}
use Rattle.fact_builder.specs.Keeps.{Keeps}
use Rattle.fact_builder.specs.Errors.{build_error}
use Rattle.fact_convert.specs.Conversion.{BuilderGrows}
use Rattle.fact_convert.specs.Converted.{IsTupleFrom, IsFuncFrom, IsDefFrom}
use Rattle.fact_convert.specs.Progress.{Comes, IsFuncAt, func_own_tasks}
use Rattle.fact_convert.specs.Tasks.{Task, makes_func, func_tasks, value_tasks, items_where_any, tasks_of}
use Rattle.fact_convert.proofs.TableLaws.{funcs, comes_interned, comes_full}
use Rattle.fact_convert.proofs.Within.{func_stays, tuple_stays}

pub func_made : (s : SourceTables) (a : Builder) (b : Builder) (f : SourceFunc) (g : TypeFunc) (k : Id TypeFuncs) → IsFuncFrom s a f g
    → IsInterned funcs.eq a.tables.functions b.tables.functions g k.number → slice_get b.tables.functions k.number ≡ Some g → b ≡ record a { tables = record a.tables { functions = b.tables.functions } } → Keeps a.tables b.tables
    → ((Ok k ≡ Err push.TooLarge) ↔ ((position (funcs.eq g) a.tables.functions ≡ None) × (length a.tables.functions ≡ 4294967295)))
    → Comes s a (makes_func f ∷ []) (IsFuncAt s f) b (Ok k)
func_made s a b f g k from d at rest keeps t = comes_interned funcs s a b (makes_func f) (IsFuncAt s f) g k.number k k d at rest keeps t (λ xs n. (g, xs, from, n, refl)) (λ h. (g, at, func_stays s a _ h f g from))

pub func_full : {K Y : Type 0} (s : SourceTables) (a : Builder) (f : SourceFunc) (g : TypeFunc) (F : Builder → Y → Type 0) (res : Result K PushError) (x : PushError) → IsFuncFrom s a f g → res ≡ Err x
    → ((res ≡ Err push.TooLarge) ↔ ((position (funcs.eq g) a.tables.functions ≡ None) × (length a.tables.functions ≡ 4294967295))) → Comes s a (makes_func f ∷ []) F a (Err (build_error x))
func_full s a f g F res x from q t = comes_full funcs s a (makes_func f) [] F g res x q t (λ l. (g, from, l))

-- the tuples of the parameters and of the result, and then the function
pub func_from : (s : SourceTables) (b c : Builder) → BuilderGrows b c → (f : SourceFunc) (g : TypeFunc) → g.async_ ≡ f.async_ → g.param_names ≡ map (λ p. p.0) f.params → IsTupleFrom s b (map (λ p. p.1) f.params) (plain.Tuple g.params) → IsTupleFrom s c (option_to_list f.result) (plain.Tuple g.results) → IsFuncFrom s c f g
func_from s b c h f g a n p r = record { async_ = a; names = n; params = tuple_stays s b c h _ (plain.Tuple g.params) p; results = r }

-- ---- a function in the tables of the source

named_tasks : (s : SourceTables) (f : SourceFunc) → flat_map (value_tasks s) (map (λ p. p.1) f.params) ≡ flat_map (λ p. value_tasks s p.1) f.params
named_tasks s f = flat_map-map (value_tasks s) (λ p. p.1) f.params

pub func_tasks_at : (s : SourceTables) (i : Id SourceFuncTypes) (f : SourceFunc) → slice_get s.funcs i.number ≡ Some f → (named : List ComponentValType) → named ≡ map (λ p. p.1) f.params → flat_map (value_tasks s) named ++ flat_map (value_tasks s) (option_to_list f.result) ++ func_own_tasks f ≡ tasks_of s (entity.Func i)
func_tasks_at s i f h named same = ap (λ vs. flat_map (value_tasks s) vs ++ flat_map (value_tasks s) (option_to_list f.result) ++ func_own_tasks f) same ∙ ap (λ (ts : List Task). ts ++ flat_map (value_tasks s) (option_to_list f.result) ++ func_own_tasks f) (named_tasks s f) ∙ sym (ap (items_where_any (func_tasks s)) h)

pub func_def : (s : SourceTables) (c : Builder) (i : Id SourceFuncTypes) (f : SourceFunc) (j : Id TypeFuncs) → slice_get s.funcs i.number ≡ Some f → IsFuncAt s f c j → IsDefFrom s c (entity.Func i) (def.ComponentFunc j)
func_def s c i f j h (g, at, from) = (f, g, h, at, from)

-- ---- what a function names is live

params_all : (n : ℕ) (ps : List (List ℕ × ComponentValType)) → All (λ p. IsValueBelow n p.1) ps → All (IsValueBelow n) (map (λ p. p.1) ps)
params_all n [] a i d l = absurd (omega (arith, l))
params_all n (p ∷ ps) a zero d l = a 0 p (omega arith)
params_all n (p ∷ ps) a (suc i) d l = params_all n ps (λ j e m. a (suc j) e (omega (arith, m))) i d (omega (arith, l))

at_place : {X : Type 0} (P : X → Type 0) (xs : List X) (i : ℕ) (x : X) → All P xs → slice_get xs i ≡ Some x → P x
at_place P xs i x a h = subst P (get_or_from_slice_get xs i x x h) (a i x (slice_get_within xs i x h))

pub params_live : (s : SourceTables) → IsSoundSource s → (i : ℕ) (f : SourceFunc) → slice_get s.funcs i ≡ Some f → All (IsValueBelow (length s.defined)) (map (λ p. p.1) f.params)
params_live s k i f h = params_all (length s.defined) f.params (at_place (IsLiveSourceFunc s) s.funcs i f k.funcs h).0

pub result_live : (s : SourceTables) → IsSoundSource s → (i : ℕ) (f : SourceFunc) → slice_get s.funcs i ≡ Some f → IsPayloadBelow (length s.defined) f.result
result_live s k i f h = (at_place (IsLiveSourceFunc s) s.funcs i f k.funcs h).1
