-- What a call that adds an entry to one of the builder's tables comes to, for each table whose entries are looked for.
use Rattle.std.proofs.Common.{◌≡◌, ◌↔◌, ℕ, Bool, true, List, [], ◌∷◌, length, Some, None, sym, ◌∙◌, ap, subst}
use Rattle.std.specs.Prelude.{slice_get, position, Result, Ok, Err}
use Rattle.fact_entity.specs.declared.error.PushError.{PushError}
use Rattle.fact_entity.specs.declared.error.PushError.TheVariants as push
use Rattle.fact_entity.specs.Places.{IsInterned}
use Rattle.fact_source.specs.SourceTables.{SourceTables}
use Rattle.fact_types.specs.contracts.kinds.TypeErrorContextTableEq.TheImpl.Laws.{laws-law as error_context_table_laws}
use Rattle.fact_types.specs.contracts.kinds.TypeErrorContextTablePartialEq.TheImpl as error_context_table_eq
use Rattle.fact_types.specs.contracts.kinds.TypeFuncEq.TheImpl.Laws.{laws-law as func_laws}
use Rattle.fact_types.specs.contracts.kinds.TypeFuncPartialEq.TheImpl as func_eq
use Rattle.fact_types.specs.contracts.kinds.TypeFutureEq.TheImpl.Laws.{laws-law as future_laws}
use Rattle.fact_types.specs.contracts.kinds.TypeFuturePartialEq.TheImpl as future_eq
use Rattle.fact_types.specs.contracts.kinds.TypeFutureTableEq.TheImpl.Laws.{laws-law as future_table_laws}
use Rattle.fact_types.specs.contracts.kinds.TypeFutureTablePartialEq.TheImpl as future_table_eq
use Rattle.fact_types.specs.contracts.kinds.TypeStreamEq.TheImpl.Laws.{laws-law as stream_laws}
use Rattle.fact_types.specs.contracts.kinds.TypeStreamPartialEq.TheImpl as stream_eq
use Rattle.fact_types.specs.contracts.kinds.TypeStreamTableEq.TheImpl.Laws.{laws-law as stream_table_laws}
use Rattle.fact_types.specs.contracts.kinds.TypeStreamTablePartialEq.TheImpl as stream_table_eq
use Rattle.fact_types.specs.declared.kinds.TypeErrorContextTable.{TypeErrorContextTable}
use Rattle.fact_types.specs.declared.kinds.TypeFunc.{TypeFunc}
use Rattle.fact_types.specs.declared.kinds.TypeFuture.{TypeFuture}
use Rattle.fact_types.specs.declared.kinds.TypeFutureTable.{TypeFutureTable}
use Rattle.fact_types.specs.declared.kinds.TypeStream.{TypeStream}
use Rattle.fact_types.specs.declared.kinds.TypeStreamTable.{TypeStreamTable}
use Rattle.fact_types.specs.Tables.{Tables}
use Rattle.fact_builder.specs.Builder.{Builder}
use Rattle.fact_builder.specs.Keeps.{Keeps}
use Rattle.fact_builder.specs.declared.error.BuildError.TheVariants.{TooLarge}
use Rattle.fact_builder.specs.Errors.{build_error}
use Rattle.fact_convert.specs.Conversion.{BuilderGrows}
use Rattle.fact_convert.specs.BuilderTables.{tables_of, with_tables}
use Rattle.fact_convert.specs.Interning.{Interns, LacksEntryRoom}
use Rattle.fact_convert.specs.Performing.{Performs, Fails}
use Rattle.fact_convert.specs.Progress.{Comes}
use Rattle.fact_convert.specs.Tasks.{Task}
use Rattle.fact_convert.proofs.Adding.{Gains, gains_grow, gains_kept, gains_func, gains_future, gains_future_table, gains_stream, gains_stream_table, gains_error_context_table}
use Rattle.fact_convert.proofs.Coming.{comes_by, comes_refused}
use Rattle.fact_convert.proofs.InternLaws.{interned, no_room}

-- ---- a table of the builder, when its entries are equal, and that a builder gains where one is added
pub record Interned (X : Type 0) : Type 0 where
  pub eq : X → X → Bool
  pub same : (x : X) → eq x x ≡ true
  pub get : Tables → List X
  pub set : Tables → List X → Tables
  pub gains : (a : Builder) (e : X) (xs : List X) → Interns (get a.tables) e xs → Keeps a.tables (set a.tables xs) → Gains a (record a { tables = set a.tables xs })

abbrev pub funcs : Interned TypeFunc
funcs = record { eq = func_eq.ghosts.eq; same = func_laws.refl; get = λ t. t.functions; set = λ t xs. record t { functions = xs }; gains = gains_func }

abbrev pub futures : Interned TypeFuture
futures = record { eq = future_eq.ghosts.eq; same = future_laws.refl; get = λ t. t.futures; set = λ t xs. record t { futures = xs }; gains = gains_future }

abbrev pub future_tables : Interned TypeFutureTable
future_tables = record { eq = future_table_eq.ghosts.eq; same = future_table_laws.refl; get = λ t. t.future_tables; set = λ t xs. record t { future_tables = xs }; gains = gains_future_table }

abbrev pub streams : Interned TypeStream
streams = record { eq = stream_eq.ghosts.eq; same = stream_laws.refl; get = λ t. t.streams; set = λ t xs. record t { streams = xs }; gains = gains_stream }

abbrev pub stream_tables : Interned TypeStreamTable
stream_tables = record { eq = stream_table_eq.ghosts.eq; same = stream_table_laws.refl; get = λ t. t.stream_tables; set = λ t xs. record t { stream_tables = xs }; gains = gains_stream_table }

abbrev pub error_context_tables : Interned TypeErrorContextTable
error_context_tables = record { eq = error_context_table_eq.ghosts.eq; same = error_context_table_laws.refl; get = λ t. t.error_context_tables; set = λ t xs. record t { error_context_tables = xs }; gains = gains_error_context_table }

-- ---- the entry has an index, or there is no room for it

pub comes_interned : {X J K : Type 0} (T : Interned X) (s : SourceTables) (a : Builder) (b : Builder) (m : Task) (F : Builder → K → Type 0) (e : X) (i : ℕ) (j : J) (k : K)
    → IsInterned T.eq (T.get a.tables) (T.get b.tables) e i → slice_get (T.get b.tables) i ≡ Some e → b ≡ record a { tables = T.set a.tables (T.get b.tables) } → Keeps a.tables b.tables
    → ((Ok j ≡ Err push.TooLarge) ↔ ((position (T.eq e) (T.get a.tables) ≡ None) × (length (T.get a.tables) ≡ 4294967295)))
    → ((xs : List X) → Interns (T.get (tables_of a)) e xs → Performs s a m (with_tables a (T.set (tables_of a) xs)))
    → (BuilderGrows a (with_tables a (T.set (tables_of a) (T.get b.tables))) → F (with_tables a (T.set (tables_of a) (T.get b.tables))) k) → Comes s a (m ∷ []) F b (Ok k)
comes_interned T s a b m F e i j k d at rest keeps t performs f =
    let xs = T.get b.tables in
    let n = interned T.eq T.same (T.get a.tables) xs e i j d at t in
    let g = T.gains a e xs n (subst (λ (z : Builder). Keeps a.tables z.tables) rest keeps) in
    let b' : Builder = record a { tables = T.set a.tables xs } in
    subst (λ (z : Builder). Comes s a (m ∷ []) F z (Ok k)) (sym rest)
    (comes_by s a b' m F k (performs xs n) (gains_grow a b' g) (gains_kept a b' g) (f (gains_grow a b' g)))

pub comes_full : {X K Y : Type 0} (T : Interned X) (s : SourceTables) (a : Builder) (m : Task) (ms : List Task) (F : Builder → Y → Type 0) (e : X) (res : Result K PushError) (x : PushError) → res ≡ Err x
    → ((res ≡ Err push.TooLarge) ↔ ((position (T.eq e) (T.get a.tables) ≡ None) × (length (T.get a.tables) ≡ 4294967295)))
    → (LacksEntryRoom (T.get (tables_of a)) e → Fails s a m TooLarge) → Comes s a (m ∷ ms) F a (Err (build_error x))
comes_full T s a m ms F e res x q t fails = comes_refused s a m ms F x (λ z. fails (no_room T.eq T.same (T.get a.tables) e (t.0 (q ∙ ap Err z))))
