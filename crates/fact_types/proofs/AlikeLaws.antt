-- What is alike but for its indices, entry by entry and by the values of maps.
use Rattle.std.proofs.Common.{◌≡◌, ◌<◌, ◌+◌, ℕ, zero, suc, List, [], ◌∷◌, ◌++◌, length, get_or, refl, sym, ap, ◌∙◌, subst, arith}
use Rattle.std.specs.Prelude.{Result, Ok, Err, Some, None, ⊤, flat_map, slice_get, option_map}
use Rattle.std.specs.Map.{values_of}
use Rattle.std.proofs.Math.ListN.{set}
use Rattle.indexmap.specs.Layout.{set_value_at}
use Rattle.fact_types.specs.declared.externs.EngineOrModuleTypeIndex.{EngineOrModuleTypeIndex}
use Rattle.fact_types.specs.declared.externs.EntityType.{EntityType}
use Rattle.fact_types.specs.declared.externs.EntityType.TheVariants as entity
use Rattle.fact_types.specs.Externs.{ModuleType}
use Rattle.fact_types.specs.Traces.{IsAlike, AreAlikeEntries, IsAlikeModule, named_index, named_indices, Visits, VisitsEach}
use Rattle.fact_types.proofs.TraceLaws.{RetracedTo, retraced_next, retraced_stop, alike_stop, some_below, item_at}

-- ---- each is alike itself

alike_self : (e : EntityType) → IsAlike e e
alike_self (entity.Function i) = tt
alike_self (entity.Tag i) = tt
alike_self (entity.Table a b c) = refl
alike_self (entity.Memory a b c d e) = refl
alike_self (entity.Global v m) = refl

pub entry_alike : {N : Type 0} (x : N × EntityType) → (x.0 ≡ x.0) × IsAlike x.1 x.1
entry_alike x = (refl, alike_self x.1)

entries_alike : {N : Type 0} (xs : List (N × EntityType)) → AreAlikeEntries xs xs
entries_alike [] = tt
entries_alike (x ∷ xs) = (entry_alike x, entries_alike xs)

pub module_alike : (m : ModuleType) → IsAlikeModule m m
module_alike m = record { imports = entries_alike m.imports; exports = entries_alike m.exports }

-- a module of which the imports alone changed, m being a
pub alike_imports : (m a b : ModuleType) → a ≡ m → b.exports ≡ a.exports → AreAlikeEntries a.imports b.imports → IsAlikeModule m b
alike_imports m a b is same k = subst (λ x. IsAlikeModule x b) is (record { imports = k; exports = subst (λ es. AreAlikeEntries a.exports es) (sym same) (entries_alike a.exports) })

-- ---- entries of a map by their values

named_by_values : {N : Type 0} (xs : List (N × EntityType)) → flat_map named_index (values_of xs) ≡ named_indices xs
named_by_values [] = refl
named_by_values (x ∷ xs) = ap (λ l. named_index x.1 ++ l) (named_by_values xs)

pub by_values : {F N E : Type 0} (Call : F → EngineOrModuleTypeIndex → Result ⊤ E → F → Type 0) (f g : F) (xs : List (N × EntityType)) (vs : List EntityType) (r : Result ⊤ E) → vs ≡ values_of xs → Visits Call f (flat_map named_index vs) g r → Visits Call f (named_indices xs) g r
by_values Call f g xs vs r is a = subst (λ l. Visits Call f l g r) (ap (flat_map named_index) is ∙ named_by_values xs) a

none_is : {X : Type 0} (x : X) → None ≡ Some x → ⊥
none_is x h = cc

none_below : (i : ℕ) → i < 0 → ⊥
none_below i h = omega (arith, h)

below_suc : (i n : ℕ) → suc i < suc n → i < n
below_suc i n h = omega (arith, h)

-- a value that is written is an entry that is set, under its key
value_set : {N : Type 0} (xs : List (N × EntityType)) (i : ℕ) (d : N × EntityType) (w : EntityType) → i < length xs → set_value_at xs i w ≡ set xs i ((get_or xs i d).0, w)
value_set [] i d w l = absurd (none_below i l)
value_set (x ∷ xs) zero d w l = refl
value_set (x ∷ xs) (suc i) d w l = ap (λ ys. x ∷ ys) (value_set xs i d w (below_suc i (length xs) l))

-- a value that is found has a key
value_at : {N : Type 0} (xs : List (N × EntityType)) (i : ℕ) (v : EntityType) → slice_get (values_of xs) i ≡ Some v → (k : N) × (slice_get xs i ≡ Some (k, v))
value_at [] i v h = absurd (none_is v h)
value_at (x ∷ xs) zero v h = (x.0, ap (option_map (λ u. (x.0, u))) h)
value_at (x ∷ xs) (suc i) v h = value_at xs i v h

entry_set : {N : Type 0} (xs : List (N × EntityType)) (i : ℕ) (x : N × EntityType) (w : EntityType) → slice_get xs i ≡ Some x → set_value_at xs i w ≡ set xs i (x.0, w)
entry_set xs i x w at = value_set xs i x w (some_below xs i x at) ∙ ap (λ z. set xs i (z.0, w)) (sym (item_at xs i x at))

module _ {F N E : Type 0} (Call : F → EngineOrModuleTypeIndex → Result ⊤ E → F → EngineOrModuleTypeIndex → Type 0) (f : F) (xs : List (N × EntityType)) where
  -- the entries before one were visited, and hold what was left there
  abbrev pub EntriesTo : F → List (N × EntityType) → ℕ → Type 0
  EntriesTo g ys n = RetracedTo Call (λ x. named_index x.1) (λ x y. (y.0 ≡ x.0) × IsAlike x.1 y.1) f xs g ys n

  pub entries_next : (h g : F) (ys : List (N × EntityType)) (i : ℕ) (v w : EntityType) → slice_get (values_of ys) i ≡ Some v → EntriesTo h ys i → VisitsEach Call h (named_index v) g (named_index w) (Ok tt) → IsAlike v w → EntriesTo g (set_value_at ys i w) (i + 1)
  entries_next h g ys i v w found a b k =
      let (n, at) = value_at ys i v found in
      subst (λ zs. EntriesTo g zs (i + 1)) (sym (entry_set ys i (n, v) w at)) (retraced_next Call _ _ f xs h g ys i i (n, v) (n, w) refl at a b (refl, k))

  pub entries_stop : (h g : F) (ys : List (N × EntityType)) (i : ℕ) (v w : EntityType) (e : E) (r : Result ⊤ E) → slice_get (values_of ys) i ≡ Some v → r ≡ Err e → EntriesTo h ys i → VisitsEach Call h (named_index v) g (named_index w) (Err e) → VisitsEach Call f (named_indices xs) g (named_indices (set_value_at ys i w)) r
  entries_stop h g ys i v w e r found q a b =
      let (n, at) = value_at ys i v found in
      subst (λ zs. VisitsEach Call f (named_indices xs) g (named_indices zs) r) (sym (entry_set ys i (n, v) w at)) (retraced_stop Call _ _ f xs h g ys i i (n, v) (n, w) e r refl at q a b)

  pub entries_stay_alike : (h : F) (ys : List (N × EntityType)) (i : ℕ) (v w : EntityType) → slice_get (values_of ys) i ≡ Some v → EntriesTo h ys i → IsAlike v w → AreAlikeEntries xs (set_value_at ys i w)
  entries_stay_alike h ys i v w found a k =
      let (n, at) = value_at ys i v found in
      subst (λ zs. AreAlikeEntries xs zs) (sym (entry_set ys i (n, v) w at)) (alike_stop Call _ _ f xs h ys i i (n, v) (n, w) refl at a (refl, k))
