-- A value of a type is carried to a value of each type that agrees, where there are enough numbers for its handles.
use Rattle.std.proofs.Common.{◌≡◌, ℕ, List, [], ◌∷◌, length, map, Option, Some, refl, sym, ap, subst}
use Rattle.std.specs.List.{AllByRecursion}
use Rattle.fact_entity.specs.declared.id.Id.{Id}
use Rattle.fact_entity.specs.declared.table.TypeResourceTables.{TypeResourceTables}
use Rattle.fact_entity.specs.declared.table.TypeComponentLocalErrorContextTables.{TypeComponentLocalErrorContextTables}
use Rattle.fact_types.specs.declared.interface.InterfaceType.{InterfaceType}
use Rattle.fact_types.specs.declared.interface.InterfaceType.TheVariants as ty
use Rattle.fact_types.specs.Agrees.{names_of, AgreesPlain, AgreeFields, EachCase, AgreesBy, HaveSameNames}
use Rattle.fact_types.specs.Shapes.{k_record, k_variant, k_list, k_tuple, k_map, k_flags, k_enum, k_option, k_result, k_fixed, k_future, k_stream, Shape, s_plain, s_node, Members}
use Rattle.fact_values.specs.declared.value.HandleKind.{HandleKind}
use Rattle.fact_values.specs.declared.value.HandleKind.TheVariants.{Own, Borrow, ErrorContext}
use Rattle.fact_values.specs.declared.value.Value.{Value, out-Value}
use Rattle.fact_values.specs.declared.value.Value.TheOpen.{Value-F}
use Rattle.fact_values.specs.declared.value.Value.TheOpen as o
use Rattle.fact_values.specs.declared.value.Value.TheVariants as value
use Rattle.fact_values.specs.Handles.{done_step, then_step, given, table_number_of, cross_handle, cross_plain}
use Rattle.fact_values.specs.IsA.{IsHandle, IsPlainValue, IsRecord, IsTuple, IsListOf, IsFixedList, IsMap, IsCase, IsA}
use Rattle.fact_values.specs.Numbers.{plain_of}
use Rattle.fact_values.specs.Opened.{fields_in, members_in, elements_in, map_entries_in, case_in, number_of_handle}
use Rattle.fact_values.specs.Places.{typed_names}
use Rattle.fact_values.proofs.IsALaws.{handle_is}
use Rattle.fact_values.proofs.StepLaws.{Crosses, crosses_give, crosses_ask}

-- ---- what values hold

pub handle_held : (kind : HandleKind) (table : ℕ) (w : Value-F Value) → IsHandle kind table w → (n : ℕ) × (number_of_handle w ≡ Some n)
handle_held kind table (o.Handle k t n) h = (n, refl)
handle_held kind table _ h = absurd h

pub record_held : (ms : Members) (Are : List Value → Type 0) (w : Value-F Value) → IsRecord ms Are w → (fs : List (List ℕ × Value)) × (fields_in w ≡ Some fs) × (map (λ f. f.0) fs ≡ typed_names ms) × Are (map (λ f. f.1) fs)
record_held ms Are (o.Record fs) h = (fs, refl, h.0, h.1)
record_held ms Are _ h = absurd h

pub tuple_held : (Are : List Value → Type 0) (w : Value-F Value) → IsTuple Are w → (vs : List Value) × (members_in w ≡ Some vs) × Are vs
tuple_held Are (o.Tuple vs) h = (vs, refl, h)
tuple_held Are _ h = absurd h

pub list_held : (Is : Value → Type 0) (w : Value-F Value) → IsListOf Is w → (vs : List Value) × (elements_in w ≡ Some vs) × AllByRecursion Is vs
list_held Is (o.List vs) h = (vs, refl, h)
list_held Is _ h = absurd h

pub fixed_list_held : (n : ℕ) (Is : Value → Type 0) (w : Value-F Value) → IsFixedList n Is w → (vs : List Value) × (elements_in w ≡ Some vs) × (length vs ≡ n) × AllByRecursion Is vs
fixed_list_held n Is (o.List vs) h = (vs, refl, h.0, h.1)
fixed_list_held n Is _ h = absurd h

pub map_held : (Are : List Value → Type 0) (w : Value-F Value) → IsMap Are w → (es : List (Value × Value)) × (map_entries_in w ≡ Some es) × AllByRecursion (λ e. Are (e.0 ∷ e.1 ∷ [])) es
map_held Are (o.Map es) h = (es, refl, h)
map_held Are _ h = absurd h

pub case_held : (Is : List ℕ → List Value → Type 0) (w : Value-F Value) → IsCase Is w → (x : List ℕ) × (vs : List Value) × (case_in w ≡ Some (record { name = x; payload = vs })) × Is x vs
case_held Is (o.Case x vs) h = (x, vs, refl, h)
case_held Is _ h = absurd h

-- ---- types that agree are of one kind

module _ (ns : Members) (F : Members → Type 0) (C : List ℕ → Option Shape → Type 0) (P : Members → Type 0) where
  pub record_source : (s : Shape) → AgreesBy k_record s ns F C P → (ms : Members) × (s ≡ s_node k_record ms) × AgreeFields ms ns (F ms)
  record_source (s_node k_record ms) a = (ms, refl, a)
  record_source _ a = absurd a

  pub tuple_source : (s : Shape) → AgreesBy k_tuple s ns F C P → (ms : Members) × (s ≡ s_node k_tuple ms) × P ms
  tuple_source (s_node k_tuple ms) a = (ms, refl, a)
  tuple_source _ a = absurd a

  pub list_source : (s : Shape) → AgreesBy k_list s ns F C P → (ms : Members) × (s ≡ s_node k_list ms) × P ms
  list_source (s_node k_list ms) a = (ms, refl, a)
  list_source _ a = absurd a

  pub map_source : (s : Shape) → AgreesBy k_map s ns F C P → (ms : Members) × (s ≡ s_node k_map ms) × P ms
  map_source (s_node k_map ms) a = (ms, refl, a)
  map_source _ a = absurd a

  pub fixed_source : (m : ℕ) (s : Shape) → AgreesBy (k_fixed m) s ns F C P → (n : ℕ) × (ms : Members) × (s ≡ s_node (k_fixed n) ms) × (n ≡ m) × P ms
  fixed_source m (s_node (k_fixed n) ms) a = (n, ms, refl, a.0, a.1)
  fixed_source m _ a = absurd a

  pub flags_source : (s : Shape) → AgreesBy k_flags s ns F C P → (ms : Members) × (s ≡ s_node k_flags ms) × HaveSameNames ms ns
  flags_source (s_node k_flags ms) a = (ms, refl, a)
  flags_source _ a = absurd a

  pub enum_source : (s : Shape) → AgreesBy k_enum s ns F C P → (ms : Members) × (s ≡ s_node k_enum ms) × (names_of ms ≡ names_of ns)
  enum_source (s_node k_enum ms) a = (ms, refl, a)
  enum_source _ a = absurd a

  pub variant_source : (s : Shape) → AgreesBy k_variant s ns F C P → (ms : Members) × (s ≡ s_node k_variant ms) × EachCase ms C
  variant_source (s_node k_variant ms) a = (ms, refl, a)
  variant_source _ a = absurd a

  pub option_source : (s : Shape) → AgreesBy k_option s ns F C P → (ms : Members) × (s ≡ s_node k_option ms) × P ms
  option_source (s_node k_option ms) a = (ms, refl, a)
  option_source _ a = absurd a

  pub result_source : (s : Shape) → AgreesBy k_result s ns F C P → (ms : Members) × (s ≡ s_node k_result ms) × P ms
  result_source (s_node k_result ms) a = (ms, refl, a)
  result_source _ a = absurd a

  pub future_source : (t i : ℕ) (s : Shape) → AgreesBy (k_future t i) s ns F C P → (u : ℕ) × (j : ℕ) × (ms : Members) × (s ≡ s_node (k_future u j) ms)
  future_source t i (s_node (k_future u j) ms) a = (u, j, ms, refl)
  future_source t i _ a = absurd a

  pub stream_source : (t i : ℕ) (s : Shape) → AgreesBy (k_stream t i) s ns F C P → (u : ℕ) × (j : ℕ) × (ms : Members) × (s ≡ s_node (k_stream u j) ms)
  stream_source t i (s_node (k_stream u j) ms) a = (u, j, ms, refl)
  stream_source t i _ a = absurd a

-- ---- types without members

pub own_source : (j : Id TypeResourceTables) (s : Shape) (v : Value) → AgreesPlain (ty.Own j) s → IsA s v → (t : ℕ) × IsHandle Own t (out-Value v)
unfolding IsA
own_source j (s_plain (ty.Own i)) v a h = (i.number, h)
own_source j (s_plain p) v a h = (j.number, subst (λ p. IsPlainValue (plain_of p) (out-Value v)) a h)
own_source j (s_node k ms) v a h = absurd a

pub borrow_source : (j : Id TypeResourceTables) (s : Shape) (v : Value) → AgreesPlain (ty.Borrow j) s → IsA s v → (t : ℕ) × IsHandle Borrow t (out-Value v)
unfolding IsA
borrow_source j (s_plain (ty.Borrow i)) v a h = (i.number, h)
borrow_source j (s_plain p) v a h = (j.number, subst (λ p. IsPlainValue (plain_of p) (out-Value v)) a h)
borrow_source j (s_node k ms) v a h = absurd a

pub error_context_source : (j : Id TypeComponentLocalErrorContextTables) (s : Shape) (v : Value) → AgreesPlain (ty.ErrorContext j) s → IsA s v → (t : ℕ) × IsHandle ErrorContext t (out-Value v)
unfolding IsA
error_context_source j (s_plain (ty.ErrorContext i)) v a h = (i.number, h)
error_context_source j (s_plain p) v a h = (j.number, subst (λ p. IsPlainValue (plain_of p) (out-Value v)) a h)
error_context_source j (s_node k ms) v a h = absurd a

-- a value of a type that is no handle stays
pub crosses_handle : (kind : HandleKind) (from to t : ℕ) (v : Value) → IsHandle kind t (out-Value v) → Crosses (λ S ask. cross_handle ask kind from to v) (λ u. Unit {0}) (λ u. IsHandle kind to (out-Value u))
crosses_handle kind from to t v h =
    let (n, there) = handle_held kind t (out-Value v) h in
    subst (λ o. Crosses (λ S ask. given o (λ n. then_step (ask (record { kind = kind; number = n; from = from; to = to })) (λ m. done_step (value.Handle kind to m)))) (λ u. Unit {0}) (λ u. IsHandle kind to (out-Value u))) (sym there)
    (crosses_ask (record { kind = kind; number = n; from = from; to = to }) (λ m. value.Handle kind to m) (λ m. tt) (λ m lt. handle_is kind to m (value.Handle kind to m) lt refl))

crosses_same : (q : InterfaceType) (s : Shape) (v : Value) → s ≡ s_plain q → IsA s v → Crosses (λ S ask. done_step v) (λ u. Unit {0}) (λ u. IsA (s_plain q) u)
crosses_same q s v e h = crosses_give v tt (subst (λ s. IsA s v) e h)

pub crosses_plain : (q : InterfaceType) (s : Shape) (v : Value) → AgreesPlain q s → IsA s v → Crosses (λ S ask. cross_plain ask (table_number_of s) (plain_of q) v) (λ u. Unit {0}) (λ u. IsA (s_plain q) u)
unfolding IsA
crosses_plain (ty.Own j) s v a h = let (t, is) = own_source j s v a h in crosses_handle Own (table_number_of s) j.number t v is
crosses_plain (ty.Borrow j) s v a h = let (t, is) = borrow_source j s v a h in crosses_handle Borrow (table_number_of s) j.number t v is
crosses_plain (ty.ErrorContext j) s v a h = let (t, is) = error_context_source j s v a h in crosses_handle ErrorContext (table_number_of s) j.number t v is
crosses_plain q (s_plain p) v a h = crosses_same q (s_plain p) v (ap s_plain a) h
crosses_plain q (s_node k ms) v a h = absurd a
