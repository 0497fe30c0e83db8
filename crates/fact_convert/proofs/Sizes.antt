-- How many modules, instances and components there are through the tasks of a conversion, and which indices they got.
use Rattle.std.proofs.Common.{◌≡◌, ℕ, ◌+◌, cond, List, [], ◌∷◌, ◌++◌, length, Option, Some, None, refl, sym, ◌∙◌, ap, subst, arith, append-nil, append_assoc, length-append}
use Rattle.std.specs.Prelude.{nat_eq, flat_map}
use Rattle.std.specs.Cmp.Lexicographic.{pointwise}
use Rattle.std.proofs.lemmas.List.Sums.{sum_by-append}
use Rattle.indexmap.specs.IndexMap.{insert_entry}
use Rattle.fact_entity.specs.declared.id.Id.{Id}
use Rattle.fact_entity.specs.declared.table.RuntimeComponentInstances.{RuntimeComponentInstances}
use Rattle.fact_entity.specs.declared.table.SourceResources.{SourceResources}
use Rattle.fact_entity.specs.declared.table.TypeResourceTables.{TypeResourceTables}
use Rattle.fact_source.specs.declared.defined.ComponentValType.{ComponentValType}
use Rattle.fact_source.specs.declared.items.SourceItem.{SourceItem}
use Rattle.fact_source.specs.SourceTables.{SourceTables}
use Rattle.fact_types.specs.declared.externs.ComponentExtern.{ComponentExtern}
use Rattle.fact_types.specs.declared.interface.TypeDef.{TypeDef}
use Rattle.fact_types.specs.declared.interface.TypeDef.TheVariants as def
use Rattle.fact_types.specs.Shapes.{Kind, k_tuple}
use Rattle.fact_types.specs.Tables.{Tables}
use Rattle.fact_builder.specs.Builder.{Builder}
use Rattle.fact_builder.specs.Makes.{with_table_of}
use Rattle.fact_builder.specs.declared.registration.Registration.{Registration}
use Rattle.fact_builder.specs.Known.{registration, kept_table}
use Rattle.fact_convert.specs.Appended.{AppendedTable, module_table, instance_table, component_table, Sizes, size_of, appends, appended, size_after, IsLast, done_at, AreLast, AreSizes, AreLastInTurn}
use Rattle.fact_convert.specs.BuilderTables.{tables_of}
use Rattle.fact_convert.specs.Merging.{merged}
use Rattle.fact_builder.specs.Registering.{RegistersNext, TakesTable}
use Rattle.fact_convert.specs.Performing.{MakesNode, MakesType, MakesHandles, MakesHandlesOf, MakesErrorContext, Performs, PerformsAll}
use Rattle.fact_convert.specs.SourceShapes.{SourceKind, of_kind, of_future, of_stream, SourceNode, source_node}
use Rattle.fact_convert.specs.Progress.{AreKeyed}
use Rattle.fact_convert.specs.Tasks.{Task, registers, takes_table, makes_error_context, makes_type, makes_handles, makes_tuple, makes_func, makes_core, appends_module, appends_instance, appends_component, refuses, item_tasks, tasks_of}
use Rattle.fact_convert.proofs.Adding.{Plain, same_plain}
use Rattle.fact_convert.proofs.Composing.{performs_more}
use Rattle.fact_convert.proofs.Merged.{zip_so, both_put, one_more_merged}

-- ---- each task appends to one of the tables at most

-- the three sizes side by side
abbrev sizes : Tables → ℕ × ℕ × ℕ
sizes t = (length t.modules, length t.component_instances, length t.components)

abbrev sizes_in : Builder → ℕ × ℕ × ℕ
sizes_in c = sizes (tables_of c)

none_more : (n m : ℕ) → m ≡ n → m ≡ n + 0
none_more n m e = omega (arith, e)

same_sizes : (a b : Builder) → sizes_in b ≡ sizes_in a → (k : AppendedTable) → size_of (tables_of b) k ≡ size_of (tables_of a) k + 0
same_sizes a b e module_table = none_more _ _ (ap (λ (p : ℕ × ℕ × ℕ). p.0) e)
same_sizes a b e instance_table = none_more _ _ (ap (λ (p : ℕ × ℕ × ℕ). p.1) e)
same_sizes a b e component_table = none_more _ _ (ap (λ (p : ℕ × ℕ × ℕ). p.2) e)

one_longer : {X : Type 0} (xs ys : List X) (x : X) → ys ≡ xs ++ x ∷ [] → length ys ≡ length xs + 1
one_longer xs ys x e = ap length e ∙ length-append xs (x ∷ [])

after_register : (a b : Builder) (r : Id SourceResources) (o : Option Registration) → RegistersNext a r o b → sizes_in b ≡ sizes_in a
after_register a b r (Some k) e = ap sizes_in e
after_register a b r None (i, n, l, e) = ap sizes_in e

after_table : (a b : Builder) (r : Id SourceResources) (o : Option (Id TypeResourceTables)) → TakesTable a r o b → sizes_in b ≡ sizes_in a
after_table a b r (Some t) e = ap sizes_in e
after_table a b r None (i, m, e) = ap sizes m.added

after_error_context : (a b : Builder) (o : Option (Id RuntimeComponentInstances)) → MakesErrorContext a o b → sizes_in b ≡ sizes_in a
after_error_context a b None h = absurd h
after_error_context a b (Some n) (ts, i, e) = ap sizes_in e

after_made : (k : Kind) (a b : Builder) → b ≡ with_table_of k a b → sizes b.tables ≡ sizes a.tables
after_made k a b r = ap (λ (p : Plain). sizes p.tables) (same_plain k a b r)

after_node : (s : SourceTables) (a b : Builder) (xs : List (List ℕ × Option ComponentValType)) (k : SourceKind) → MakesNode s a xs k b → sizes_in b ≡ sizes_in a
after_node s a b xs (of_kind k) h = after_made k a b h.makes.rest
after_node s a b xs of_future (p, fs, from, i, e) = ap sizes_in e
after_node s a b xs of_stream (p, fs, from, i, e) = ap sizes_in e

after_type : (s : SourceTables) (a b : Builder) (o : Option SourceNode) → MakesType s a o b → sizes_in b ≡ sizes_in a
after_type s a b None h = absurd h
after_type s a b (Some n) h = after_node s a b n.members n.kind h

after_handles : (s : SourceTables) (a b : Builder) (xs : List (List ℕ × Option ComponentValType)) (k : SourceKind) (o : Option (Id RuntimeComponentInstances)) → MakesHandles s a xs k o b → sizes_in b ≡ sizes_in a
after_handles s a b xs of_future (Some n) (i, f, ts, at, from, new, e) = ap sizes_in e
after_handles s a b xs of_stream (Some n) (i, f, ts, at, from, new, e) = ap sizes_in e
after_handles s a b xs k o h = absurd h

after_handles_of : (s : SourceTables) (a b : Builder) (o : Option SourceNode) → MakesHandlesOf s a o b → sizes_in b ≡ sizes_in a
after_handles_of s a b None h = absurd h
after_handles_of s a b (Some n) h = after_handles s a b n.members n.kind a.resources.instance h

performs_sizes : (s : SourceTables) (a b : Builder) (m : Task) → Performs s a m b → (k : AppendedTable) → size_of (tables_of b) k ≡ size_after (size_of (tables_of a)) (m ∷ []) k
performs_sizes s a b (registers r) h k = same_sizes a b (after_register a b r (registration a.resources r) h) k
performs_sizes s a b (takes_table r) h k = same_sizes a b (after_table a b r (kept_table a.resources r) h) k
performs_sizes s a b makes_error_context h k = same_sizes a b (after_error_context a b a.resources.instance h) k
performs_sizes s a b (makes_type d) h k = same_sizes a b (after_type s a b (source_node d) h) k
performs_sizes s a b (makes_handles d) h k = same_sizes a b (after_handles_of s a b (source_node d) h) k
performs_sizes s a b (makes_tuple vs) h k = same_sizes a b (after_made k_tuple a b h.makes.rest) k
performs_sizes s a b (makes_func f) (g, fs, from, i, e) k = same_sizes a b (ap sizes_in e) k
performs_sizes s a b (makes_core ps rs) (fs, i, e) k = same_sizes a b (ap sizes_in e) k
performs_sizes s a b (appends_module m) (e, from, grow, q) module_table = one_longer (tables_of a).modules (tables_of b).modules e (ap (λ (c : Builder). (tables_of c).modules) q)
performs_sizes s a b (appends_module m) (e, from, grow, q) instance_table = none_more _ _ (ap (λ (c : Builder). length (tables_of c).component_instances) q)
performs_sizes s a b (appends_module m) (e, from, grow, q) component_table = none_more _ _ (ap (λ (c : Builder). length (tables_of c).components) q)
performs_sizes s a b (appends_instance x) (e, from, turn, grow, q) module_table = none_more _ _ (ap (λ (c : Builder). length (tables_of c).modules) q)
performs_sizes s a b (appends_instance x) (e, from, turn, grow, q) instance_table = one_longer (tables_of a).component_instances (tables_of b).component_instances e (ap (λ (c : Builder). (tables_of c).component_instances) q)
performs_sizes s a b (appends_instance x) (e, from, turn, grow, q) component_table = none_more _ _ (ap (λ (c : Builder). length (tables_of c).components) q)
performs_sizes s a b (appends_component x) (e, from, from', turn, grow, q) module_table = none_more _ _ (ap (λ (c : Builder). length (tables_of c).modules) q)
performs_sizes s a b (appends_component x) (e, from, from', turn, grow, q) instance_table = none_more _ _ (ap (λ (c : Builder). length (tables_of c).component_instances) q)
performs_sizes s a b (appends_component x) (e, from, from', turn, grow, q) component_table = one_longer (tables_of a).components (tables_of b).components e (ap (λ (c : Builder). (tables_of c).components) q)
performs_sizes s a b (refuses e) h k = absurd h

-- and all of them append what they say
more_appended : (k : AppendedTable) (m : Task) (ms : List Task) → appended k (m ∷ ms) ≡ appended k (m ∷ []) + appended k ms
more_appended k m ms = sum_by-append (λ (n : Task). cond (appends n k) 1 0) (m ∷ []) ms

joined : (a b c x y z : ℕ) → b ≡ a + x → c ≡ b + y → z ≡ x + y → c ≡ a + z
joined a b c x y z p q r = omega (arith, p, q, r)

pub performs_all_sizes : (s : SourceTables) (a b : Builder) (ms : List Task) → PerformsAll s a ms b → AreSizes (tables_of b) (size_after (size_of (tables_of a)) ms)
performs_all_sizes s a b [] h k = none_more _ _ (ap (λ (c : Builder). size_of (tables_of c) k) h)
performs_all_sizes s a b (m ∷ ms) (c, h, p) k = joined _ _ _ _ _ _ (performs_sizes s a c m h k) (performs_all_sizes s c b ms p k) (more_appended k m ms)

-- ---- indices of items that were converted one after another

last_so : (z w : Sizes) → ((k : AppendedTable) → w k ≡ z k) → (d : TypeDef) → IsLast w d → IsLast z d
last_so z w e (def.Module j) l = l ∙ e module_table
last_so z w e (def.ComponentInstance j) l = l ∙ e instance_table
last_so z w e (def.Component j) l = l ∙ e component_table
last_so z w e d l = l

abbrev entry_of : List ℕ → List Task → List ℕ × List Task
entry_of name done = (name, done)

done_more : {X : Type 0} (tasks : List ℕ × X → List Task) (done : List Task) (xs : List (List ℕ × X)) (x : List ℕ × X) → done_at tasks done (xs ++ x ∷ []) ≡ done_at tasks done xs ++ entry_of x.0 ((done ++ flat_map tasks xs) ++ tasks x) ∷ []
done_more tasks done [] x = ap (λ (ms : List Task). entry_of x.0 (ms ++ tasks x) ∷ []) (sym (append-nil done))
done_more tasks done (z ∷ zs) x =
    ap (λ (ws : List (List ℕ × List Task)). entry_of z.0 (done ++ tasks z) ∷ ws)
    (done_more tasks (done ++ tasks z) zs x ∙ ap (λ (ms : List Task). done_at tasks (done ++ tasks z) zs ++ entry_of x.0 (ms ++ tasks x) ∷ []) (append_assoc done (tasks z) (flat_map tasks zs)))

-- the index of an item behind these tasks
abbrev IsLastBehind : Sizes → List Task → ComponentExtern → Type 0
IsLastBehind before done y = IsLast (size_after before done) y.ty

-- one more import or export was converted, and put under its name
pub one_more_last : (s : SourceTables) (before : Sizes) (c : Builder) (items : List (List ℕ × SourceItem)) (x : List ℕ × SourceItem) (y : ComponentExtern) (old new : List (List ℕ × ComponentExtern)) → AreLast s before items old
    → AreSizes (tables_of c) (size_after before (flat_map (item_tasks s (tasks_of s)) items ++ item_tasks s (tasks_of s) x)) → IsLast (size_of (tables_of c)) y.ty → new ≡ insert_entry (pointwise nat_eq) old x.0 y → AreLast s before (items ++ x ∷ []) new
one_more_last s before c items x y old new h grown l e =
    let tasks = item_tasks s (tasks_of s) in
    let done = flat_map tasks items ++ tasks x in
    subst (λ es. AreKeyed (IsLastBehind before) es new) (sym (ap merged (done_more tasks [] items x) ∙ one_more_merged (pointwise nat_eq) (done_at tasks [] items) (entry_of x.0 done)))
    (subst (AreKeyed (IsLastBehind before) (insert_entry (pointwise nat_eq) (merged (done_at tasks [] items)) x.0 done)) (sym e)
    (both_put (pointwise nat_eq) (IsLastBehind before) (merged (done_at tasks [] items)) old x.0 x.0 done y h refl (last_so (size_after before done) (size_of (tables_of c)) grown y.ty l)))

last_from : (s : SourceTables) (z w : Sizes) → ((k : AppendedTable) → w k ≡ z k) → (items : List (List ℕ × SourceItem)) (made : List (List ℕ × ComponentExtern)) → AreLast s w items made → AreLast s z items made
last_from s z w e items made h = zip_so _ _ _ _ (λ x y l. (l.0, last_so (size_after z x.1) (size_after w x.1) (λ k. ap (λ (n : ℕ). n + appended k x.1) (e k)) y.1.ty l.1)) h

-- imports, and then exports
in_turn : (s : SourceTables) (a b c : Builder) (imports exports : List (List ℕ × SourceItem)) (made made' : List (List ℕ × ComponentExtern)) → PerformsAll s a (flat_map (item_tasks s (tasks_of s)) imports) b → PerformsAll s b (flat_map (item_tasks s (tasks_of s)) exports) c
    → AreLast s (size_of (tables_of a)) imports made → AreLast s (size_of (tables_of b)) exports made' → AreLastInTurn s (tables_of c) imports exports made made'
in_turn s a b c imports exports made made' p q h l =
    let tasks = item_tasks s (tasks_of s) in (
      size_of (tables_of a),
      performs_all_sizes s a c (flat_map tasks imports ++ flat_map tasks exports) (performs_more s a b c (flat_map tasks imports) (flat_map tasks exports) p q),
      h,
      last_from s (size_after (size_of (tables_of a)) (flat_map tasks imports)) (size_of (tables_of b)) (performs_all_sizes s a b (flat_map tasks imports) p) exports made' l,
    )

-- the same of lists under other names
pub items_in_turn : (s : SourceTables) (a b c : Builder) (xs imports ys exports : List (List ℕ × SourceItem)) → xs ≡ imports → ys ≡ exports → (made made' : List (List ℕ × ComponentExtern)) → PerformsAll s a (flat_map (item_tasks s (tasks_of s)) xs) b → PerformsAll s b (flat_map (item_tasks s (tasks_of s)) ys) c
    → AreLast s (size_of (tables_of a)) xs made → AreLast s (size_of (tables_of b)) ys made' → AreLastInTurn s (tables_of c) imports exports made made'
items_in_turn s a b c xs imports ys exports f g made made' p q h l =
    subst (λ us. AreLastInTurn s (tables_of c) us exports made made') f (subst (λ us. AreLastInTurn s (tables_of c) xs us made made') g (in_turn s a b c xs ys made made' p q h l))

pub exports_in_turn : (s : SourceTables) (a c : Builder) (ys exports : List (List ℕ × SourceItem)) → ys ≡ exports → (made : List (List ℕ × ComponentExtern)) → PerformsAll s a (flat_map (item_tasks s (tasks_of s)) ys) c → AreLast s (size_of (tables_of a)) ys made → AreLastInTurn s (tables_of c) [] exports [] made
exports_in_turn s a c ys exports g made q l = items_in_turn s a a c [] [] ys exports refl g [] made refl q tt l
