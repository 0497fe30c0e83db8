-- Functions: the layouts of the tuples of their parameters and results, and how many these are.
use Rattle.std.proofs.Common.{◌≡◌, ◌⊎◌, ◌<◌, ◌≤◌, ℕ, suc, Bool, List, [], ◌∷◌, length, map, Some, inl, inr, refl, ◌∙◌, ap, subst, arith}
use Rattle.std.specs.Prelude.{◌↔◌, IsTrue, nat_lt, slice_get, option_map}
use Rattle.fact_entity.specs.declared.id.Id.{Id}
use Rattle.fact_entity.specs.declared.table.TypeTuples.{TypeTuples}
use Rattle.fact_entity.specs.declared.table.TypeFuncs.{TypeFuncs}
use Rattle.fact_types.specs.declared.interface.InterfaceType.{InterfaceType}
use Rattle.fact_types.specs.declared.interface.InterfaceType.TheVariants.{Tuple as t_tuple}
use Rattle.fact_types.specs.declared.kinds.TypeFunc.{TypeFunc}
use Rattle.fact_types.specs.declared.kinds.TypeTuple.{TypeTuple}
use Rattle.fact_types.specs.Functions.{HaveShapes, HasSignature}
use Rattle.fact_types.specs.Layout.{payloads, record_layout}
use Rattle.fact_types.specs.Shapes.{Shape, layout_of, plain_layout, IsWithin}
use Rattle.fact_types.specs.Tables.{Tables, abi_at, placed, abi_of_node, tuple_node, IsSound}
use Rattle.fact_types.proofs.ShapeLaws.{layout_is, more, same_some}
use Rattle.fact_plan_types.specs.TypeRules.{IsPast, most_entries, tuple_layout}
use Rattle.fact_type_rules.specs.TypeFaults.{HasManyTypes}
use Rattle.fact_type_rules.proofs.EntryLaws.{not-past}
use Rattle.fact_type_rules.proofs.KindLaws.{above-test, is-above}

pub as-many : (t : Tables) (xs : List InterfaceType) (ss : List Shape) → HaveShapes t xs ss → length xs ≡ length ss
as-many t [] [] h = refl
as-many t [] (s ∷ ss) h = absurd h
as-many t (x ∷ xs) [] h = absurd h
as-many t (x ∷ xs) (s ∷ ss) h = omega (arith, as-many t xs ss h.1)

placed_layouts : (t : Tables) → IsSound t → (n : ℕ) (xs : List InterfaceType) (ss : List Shape) → HaveShapes t xs ss → payloads (map (λ m. option_map (abi_at t) m.1) (placed n xs)) ≡ map layout_of ss
placed_layouts t k n [] [] h = refl
placed_layouts t k n [] (s ∷ ss) h = absurd h
placed_layouts t k n (x ∷ xs) [] h = absurd h
placed_layouts t k n (x ∷ xs) (s ∷ ss) h = more _ _ _ _ (layout_is t k s x h.0) (placed_layouts t k (suc n) xs ss h.1)

-- the layout of a tuple in the tables is that of its members
pub tuple-within : (t : Tables) → IsSound t → (i : Id TypeTuples) (e : TypeTuple) (ss : List Shape) → slice_get t.tuples i.number ≡ Some e → HaveShapes t e.types ss → IsWithin (abi_at t (t_tuple i)) → IsPast (tuple_layout ss) → ⊥
tuple-within t k i e ss there h w past =
    let node = ap (option_map tuple_node) there in
    let laid : abi_at t (t_tuple i) ≡ tuple_layout ss =
    ap (abi_of_node (plain_layout (t_tuple i))) node ∙ (k.stands (t_tuple i) (tuple_node e) node).laid ∙ ap record_layout (placed_layouts t k 0 e.types ss h) in
    not-past (tuple_layout ss) (subst IsWithin laid w) past

module _ (t : Tables) (k : IsSound t) (i : Id TypeFuncs) (f : TypeFunc) (there : slice_get t.functions i.number ≡ Some f) where
  pub params-within : IsWithin (abi_at t (t_tuple f.params)) → (ps rs : List Shape) → HasSignature t i ps rs → IsPast (tuple_layout ps) → ⊥
  params-within w ps rs h =
      tuple-within t k h.func.params h.taken ps h.taken_there h.takes (subst (λ (g : TypeFunc). IsWithin (abi_at t (t_tuple g.params))) (same_some (slice_get t.functions i.number) f h.func there h.func_there) w)

  pub results-within : IsWithin (abi_at t (t_tuple f.results)) → (ps rs : List Shape) → HasSignature t i ps rs → IsPast (tuple_layout rs) → ⊥
  results-within w ps rs h =
      tuple-within t k h.func.results h.given rs h.given_there h.gives (subst (λ (g : TypeFunc). IsWithin (abi_at t (t_tuple g.results))) (same_some (slice_get t.functions i.number) f h.func there h.func_there) w)

-- the names of the parameters
pub same-names : (t : Tables) (i : Id TypeFuncs) (f : TypeFunc) (ps rs : List Shape) → slice_get t.functions i.number ≡ Some f → (h : HasSignature t i ps rs) → f.param_names ≡ h.func.param_names
same-names t i f ps rs there h = ap (λ (g : TypeFunc). g.param_names) (same_some (slice_get t.functions i.number) f h.func there h.func_there)

-- ---- too many names, parameters or results

pub many-names : (names : List (List ℕ)) (n : ℕ) → n ≡ length names → IsTrue (nat_lt most_entries n) ↔ (most_entries < length names)
many-names names n e = (λ b. omega (arith, e, above-test most_entries n b), λ l. is-above most_entries n (omega (arith, e, l)))

pub long-params : (ps rs : List Shape) (n : ℕ) → n ≡ length ps → most_entries < n → IsTrue (nat_lt most_entries n) ↔ HasManyTypes ps rs
long-params ps rs n e l = (λ b. inl (omega (arith, e, l)), λ f. is-above most_entries n l)

pub long-results : (ps rs : List Shape) (m n : ℕ) → m ≡ length ps → n ≡ length rs → m ≤ most_entries → IsTrue (nat_lt most_entries n) ↔ HasManyTypes ps rs
long-results ps rs m n e f few = (λ b. inr (omega (arith, f, above-test most_entries n b)), to)
  where
    to : HasManyTypes ps rs → IsTrue (nat_lt most_entries n)
    to (inl h) = absurd (omega (arith, e, few, h))
    to (inr h) = is-above most_entries n (omega (arith, f, h))

-- ---- what is left of a choice where the first is out
pub none-before : (A B : Type 0) (found : Bool) → IsTrue found ↔ B → (A → ⊥) → IsTrue found ↔ (A ⊎ B)
none-before A B found h out = (λ b. inr (h.0 b), to)
  where
    to : A ⊎ B → IsTrue found
    to (inl a) = absurd (out a)
    to (inr b) = h.1 b

pub neither : (A B : Type 0) → (A → ⊥) → (B → ⊥) → (A ⊎ B) → ⊥
neither A B f g (inl a) = f a
neither A B f g (inr b) = g b
