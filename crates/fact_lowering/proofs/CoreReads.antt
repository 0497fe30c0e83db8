-- What core values stand for, whatever follows them, by the kinds of types.
use Rattle.std.proofs.Common.{◌≡◌, ℕ, zero, suc, ◌^◌, ◌<◌, List, [], ◌∷◌, ◌++◌, length, map, Some, None, refl, sym, ap, ◌∙◌, subst, arith}
use Rattle.std.specs.Prelude.{option_map, replicate, Bool, All}
use Rattle.std.specs.List.{zip}
use Rattle.std.proofs.lemmas.List.Elements.{All-head, All-tail}
use Rattle.fact_machine.specs.declared.types.CoreValue.{CoreValue}
use Rattle.fact_types.specs.declared.flats.FlatType.{FlatType}
use Rattle.fact_types.specs.declared.flats.FlatType.TheVariants.{I32, I64, F32, F64}
use Rattle.fact_types.specs.declared.interface.InterfaceType.{InterfaceType}
use Rattle.fact_types.specs.declared.interface.InterfaceType.TheVariants as ty
use Rattle.fact_types.specs.Agrees.{names_of}
use Rattle.fact_types.specs.Flat.{join}
use Rattle.fact_types.specs.FlatShapes.{pointer, flat, flat_plain}
use Rattle.fact_types.specs.Layout.{flags_size, flags_flat}
use Rattle.fact_types.specs.Shapes.{Kind, k_record, k_variant, k_list, k_tuple, k_map, k_flags, k_enum, k_option, k_result, k_fixed, k_future, k_stream, Shape, s_plain, s_node, Members, no_members, bare, typed}
use Rattle.fact_types.specs.Options.{◌>>=◌}
use Rattle.fact_types.proofs.ShapeLaws.{none_some}
use Rattle.fact_values.specs.declared.side.SideAbi.{SideAbi}
use Rattle.fact_values.specs.declared.value.HandleKind.TheVariants.{Future, Stream}
use Rattle.fact_values.specs.declared.value.Value.{Value}
use Rattle.fact_values.specs.declared.value.Value.TheVariants as value
use Rattle.fact_values.specs.declared.value.Value.TheOpen as o
use Rattle.fact_values.specs.Canonical.{ThereIs, EachOf}
use Rattle.fact_values.specs.IsA.{IsPlainValue}
use Rattle.fact_values.specs.Lift.{one_number, leading_pair, lift_leading, lift_case, each_of}
use Rattle.fact_values.specs.Load.{load_element, load_members, list_value, map_value, text_value}
use Rattle.fact_values.specs.Numbers.{plain_of, value_of_number, flags_of_number, number_of_words}
use Rattle.fact_values.specs.Places.{width_of, count_of_members, typed_names, Pair}
use Rattle.fact_lowering.specs.Lowered.{BeginWideFor, ReadsAs, ReadsMembersAs, ReadsEachAs, ReadsBehind}
use Rattle.fact_lowering.specs.Lowerings.{core_of, cores_of, ReadsCaseAs, AreFlagWords}
use Rattle.fact_lowering.specs.TextForms.{IsByForm, IsCaseByForm, AreElementsByForm, IsElementByFormAt, AreByFormAt, StandsByForm}
use Rattle.fact_lowering.proofs.CoreNumbers.{IsBitsOf, AreBitsOf, number_back, numbers_back}
use Rattle.fact_lowering.proofs.OwnRooms.{IsCaseKind}
use Rattle.fact_lowering.proofs.WideLaws.{first_of_flats, rest_of_flats}

-- ---- the pointer and the length of a text, a list or a map

pub pair_back : (side : SideAbi) (slots : List FlatType) (p : Pair) (more : List CoreValue) → BeginWideFor (pointer (width_of side) ∷ pointer (width_of side) ∷ []) slots → IsBitsOf (pointer (width_of side)) p.pointer → IsBitsOf (pointer (width_of side)) p.count
    → leading_pair side (cores_of slots (p.pointer ∷ p.count ∷ []) ++ more) ≡ Some p
pair_back side [] p more w h k = absurd (omega (arith, w.0))
pair_back side (f ∷ []) p more w h k = absurd (omega (arith, w.0))
pair_back side (f ∷ g ∷ slots) p more w h k =
    let at = pointer (width_of side) in
    let one = number_back at f p.pointer (first_of_flats (join at f) f (join at g ∷ slots) (g ∷ slots) w.1) h in
    let two = number_back at g p.count (first_of_flats (join at g) g slots slots (rest_of_flats (join at f) f (join at g ∷ slots) (g ∷ slots) w.1)) k in
    λ i. Some (record { pointer = one i; count = two i })

-- ---- types without members

-- a text has the one type of texts
pub text_type : (q : InterfaceType) (cs : List ℕ) → IsPlainValue (plain_of q) (o.Str cs) → q ≡ ty.String
text_type ty.String cs h = refl
text_type ty.Bool cs h = absurd h
text_type ty.S8 cs h = absurd h
text_type ty.U8 cs h = absurd h
text_type ty.S16 cs h = absurd h
text_type ty.U16 cs h = absurd h
text_type ty.S32 cs h = absurd h
text_type ty.U32 cs h = absurd h
text_type ty.S64 cs h = absurd h
text_type ty.U64 cs h = absurd h
text_type ty.Float32 cs h = absurd h
text_type ty.Float64 cs h = absurd h
text_type ty.Char cs h = absurd h
text_type (ty.Own i) cs h = absurd h
text_type (ty.Borrow i) cs h = absurd h
text_type (ty.ErrorContext i) cs h = absurd h
text_type _ cs h = absurd h

pub text_reads : (side : SideAbi) (v : Value) (p : Pair) (slots : List FlatType) (bytes : List ℕ) → BeginWideFor (pointer (width_of side) ∷ pointer (width_of side) ∷ []) slots → IsBitsOf (pointer (width_of side)) p.pointer → IsBitsOf (pointer (width_of side)) p.count
    → ReadsBehind side (s_plain ty.String) v p bytes → ReadsAs side (s_plain ty.String) v (cores_of slots (p.pointer ∷ p.count ∷ [])) bytes
unfolding lift_leading IsByForm
text_reads side v p slots bytes w h k r = λ more.
    let at = pair_back side slots p more w h k in
    (ap (λ q. q >>= (λ p. text_value side bytes p)) at ∙ r.0, subst (λ q. ThereIs q (StandsByForm side.encoding bytes)) (sym at) r.1)

-- the flat type of a type without members that is no text
abbrev pub number_flat : InterfaceType → FlatType
number_flat ty.S64 = I64
number_flat ty.U64 = I64
number_flat ty.Float32 = F32
number_flat ty.Float64 = F64
number_flat _ = I32

pub one_back : (f : FlatType) (slots : List FlatType) (n : ℕ) (more : List CoreValue) → BeginWideFor (f ∷ []) slots → IsBitsOf f n → one_number f (cores_of slots (n ∷ []) ++ more) ≡ Some n
one_back f [] n more w h = absurd (omega (arith, w.0))
one_back f (s ∷ slots) n more w h = ap (λ m. Some m) (number_back f s n (first_of_flats (join f s) s slots slots w.1) h)

pub number_reads : (side : SideAbi) (q : InterfaceType) (v : Value) (n : ℕ) (slots : List FlatType) (bytes : List ℕ) → BeginWideFor (flat_plain (width_of side) q) slots → IsBitsOf (number_flat q) n → value_of_number (plain_of q) n ≡ Some v → ReadsAs side (s_plain q) v (cores_of slots (n ∷ [])) bytes
unfolding lift_leading IsByForm
number_reads side ty.Bool v n slots bytes w h e = λ more. (ap (λ o. o >>= (λ n. value_of_number (plain_of ty.Bool) n)) (one_back (number_flat ty.Bool) slots n more w h) ∙ e, tt)
number_reads side ty.S8 v n slots bytes w h e = λ more. (ap (λ o. o >>= (λ n. value_of_number (plain_of ty.S8) n)) (one_back (number_flat ty.S8) slots n more w h) ∙ e, tt)
number_reads side ty.U8 v n slots bytes w h e = λ more. (ap (λ o. o >>= (λ n. value_of_number (plain_of ty.U8) n)) (one_back (number_flat ty.U8) slots n more w h) ∙ e, tt)
number_reads side ty.S16 v n slots bytes w h e = λ more. (ap (λ o. o >>= (λ n. value_of_number (plain_of ty.S16) n)) (one_back (number_flat ty.S16) slots n more w h) ∙ e, tt)
number_reads side ty.U16 v n slots bytes w h e = λ more. (ap (λ o. o >>= (λ n. value_of_number (plain_of ty.U16) n)) (one_back (number_flat ty.U16) slots n more w h) ∙ e, tt)
number_reads side ty.S32 v n slots bytes w h e = λ more. (ap (λ o. o >>= (λ n. value_of_number (plain_of ty.S32) n)) (one_back (number_flat ty.S32) slots n more w h) ∙ e, tt)
number_reads side ty.U32 v n slots bytes w h e = λ more. (ap (λ o. o >>= (λ n. value_of_number (plain_of ty.U32) n)) (one_back (number_flat ty.U32) slots n more w h) ∙ e, tt)
number_reads side ty.S64 v n slots bytes w h e = λ more. (ap (λ o. o >>= (λ n. value_of_number (plain_of ty.S64) n)) (one_back (number_flat ty.S64) slots n more w h) ∙ e, tt)
number_reads side ty.U64 v n slots bytes w h e = λ more. (ap (λ o. o >>= (λ n. value_of_number (plain_of ty.U64) n)) (one_back (number_flat ty.U64) slots n more w h) ∙ e, tt)
number_reads side ty.Float32 v n slots bytes w h e = λ more. (ap (λ o. o >>= (λ n. value_of_number (plain_of ty.Float32) n)) (one_back (number_flat ty.Float32) slots n more w h) ∙ e, tt)
number_reads side ty.Float64 v n slots bytes w h e = λ more. (ap (λ o. o >>= (λ n. value_of_number (plain_of ty.Float64) n)) (one_back (number_flat ty.Float64) slots n more w h) ∙ e, tt)
number_reads side ty.Char v n slots bytes w h e = λ more. (ap (λ o. o >>= (λ n. value_of_number (plain_of ty.Char) n)) (one_back (number_flat ty.Char) slots n more w h) ∙ e, tt)
number_reads side (ty.Own i) v n slots bytes w h e = λ more. (ap (λ o. o >>= (λ n. value_of_number (plain_of (ty.Own i)) n)) (one_back I32 slots n more w h) ∙ e, tt)
number_reads side (ty.Borrow i) v n slots bytes w h e = λ more. (ap (λ o. o >>= (λ n. value_of_number (plain_of (ty.Borrow i)) n)) (one_back I32 slots n more w h) ∙ e, tt)
number_reads side (ty.ErrorContext i) v n slots bytes w h e = λ more. (ap (λ o. o >>= (λ n. value_of_number (plain_of (ty.ErrorContext i)) n)) (one_back I32 slots n more w h) ∙ e, tt)
number_reads side _ v n slots bytes w h e = absurd (none_some None v refl e)

-- ---- types with members

-- fields, each with its name
fields_again : (fs : List (List ℕ × Value)) → zip (map (λ f. f.0) fs) (map (λ f. f.1) fs) ≡ fs
fields_again [] = refl
fields_again (f ∷ fs) = ap (λ l. f ∷ l) (fields_again fs)

module _ (side : SideAbi) (ms : Members) (bytes : List ℕ) (cores : List CoreValue) where
  pub record_reads : (fs : List (List ℕ × Value)) → map (λ f. f.0) fs ≡ typed_names ms → ReadsMembersAs side ms (map (λ f. f.1) fs) cores bytes → ReadsAs side (s_node k_record ms) (value.Record fs) cores bytes
  unfolding lift_leading IsByForm
  record_reads fs named r = λ more. (
    ap (option_map (λ vs. value.Record (zip (typed_names ms) vs))) (r more).0 ∙ ap (λ ns. Some (value.Record (zip ns (map (λ f. f.1) fs)))) (sym named) ∙ ap (λ fs. Some (value.Record fs)) (fields_again fs),
    (r more).1,
  )

  pub tuple_reads : (vs : List Value) → ReadsMembersAs side ms vs cores bytes → ReadsAs side (s_node k_tuple ms) (value.Tuple vs) cores bytes
  unfolding lift_leading IsByForm
  tuple_reads vs r = λ more. (ap (option_map (λ vs. value.Tuple vs)) (r more).0, (r more).1)

-- a list of a fixed length, by its element
pub fixed_reads : (side : SideAbi) (x : List ℕ) (s : Shape) (bytes : List ℕ) (cores : List CoreValue) (n : ℕ) (vs : List Value) → length vs ≡ n → ReadsEachAs side s vs cores bytes → ReadsAs side (s_node (k_fixed n) (typed x s no_members)) (value.List vs) cores bytes
unfolding lift_leading IsByForm
fixed_reads side x s bytes cores n vs long r = λ more. (
  ap (λ k. option_map (λ vs. value.List vs) (each_of k (length (flat (width_of side) s)) (λ cs. lift_leading side bytes s cs) (cores ++ more))) (sym long) ∙ ap (option_map (λ vs. value.List vs)) (r more).0,
  subst (λ k. EachOf k (length (flat (width_of side) s)) (λ cs. IsByForm side bytes s cs) (cores ++ more)) long (r more).1,
)

module _ (side : SideAbi) (ms : Members) (v : Value) (p : Pair) (slots : List FlatType) (bytes : List ℕ) (w : BeginWideFor (pointer (width_of side) ∷ pointer (width_of side) ∷ []) slots)
    (h : IsBitsOf (pointer (width_of side)) p.pointer) (k : IsBitsOf (pointer (width_of side)) p.count) where
  pub list_reads : ReadsBehind side (s_node k_list ms) v p bytes → ReadsAs side (s_node k_list ms) v (cores_of slots (p.pointer ∷ p.count ∷ [])) bytes
  unfolding lift_leading IsByForm
  list_reads r = λ more.
      let at = pair_back side slots p more w h k in
      (ap (λ q. q >>= (λ p. list_value side bytes ms (λ a. load_element side bytes ms a) p)) at ∙ r.0, subst (λ q. ThereIs q (AreElementsByForm side k_list ms (λ a. IsElementByFormAt side bytes ms a))) (sym at) r.1)

  pub map_reads : ReadsBehind side (s_node k_map ms) v p bytes → ReadsAs side (s_node k_map ms) v (cores_of slots (p.pointer ∷ p.count ∷ [])) bytes
  unfolding lift_leading IsByForm
  map_reads r = λ more.
      let at = pair_back side slots p more w h k in
      (ap (λ q. q >>= (λ p. map_value side bytes ms (λ a. load_members side bytes ms a 0) p)) at ∙ r.0, subst (λ q. ThereIs q (AreElementsByForm side k_map ms (λ a. AreByFormAt side bytes ms a 0))) (sym at) r.1)

-- ---- flags and handles

pub flags_read : (side : SideAbi) (ms : Members) (flags : List (List ℕ × Bool)) (words : List ℕ) (slots : List FlatType) (bytes : List ℕ) → map (λ f. f.0) flags ≡ names_of ms → AreFlagWords flags words → BeginWideFor (flat (width_of side) (s_node k_flags ms)) slots
    → ReadsAs side (s_node k_flags ms) (value.Flags flags) (cores_of slots words) bytes
unfolding lift_leading IsByForm
flags_read side ms flags words slots bytes named are w = λ more.
    let many : length flags ≡ count_of_members ms = sym (length_mapped flags) ∙ ap length named ∙ count_names ms in
    let long : length words ≡ flags_flat (flags_size (count_of_members ms)) = are.0 ∙ ap (λ n. flags_flat (flags_size n)) many in (
      ap (option_map (λ ws. value.Flags (flags_of_number (names_of ms) (number_of_words ws)))) (numbers_back (replicate (flags_flat (flags_size (count_of_members ms))) I32) slots words more w (all_small (flags_flat (flags_size (count_of_members ms))) words (sym long) are.1))
          ∙ ap (λ ns. Some (value.Flags (flags_of_number ns (number_of_words words)))) (sym named) ∙ ap (λ fs. Some (value.Flags fs)) are.2,
      tt,
    )
  where
    length_mapped : (fs : List (List ℕ × Bool)) → length (map (λ f. f.0) fs) ≡ length fs
    length_mapped [] = refl
    length_mapped (f ∷ fs) = ap suc (length_mapped fs)

    count_names : (ms : Members) → length (names_of ms) ≡ count_of_members ms
    count_names no_members = refl
    count_names (bare n ms) = ap suc (count_names ms)
    count_names (typed n s ms) = ap suc (count_names ms)

    all_small : (n : ℕ) (ws : List ℕ) → n ≡ length ws → All (λ w. w < 2 ^ 32) ws → AreBitsOf (replicate n I32) ws
    all_small zero [] e a = tt
    all_small zero (w ∷ ws) e a = absurd (omega (arith, e))
    all_small (suc n) [] e a = absurd (omega (arith, e))
    all_small (suc n) (w ∷ ws) e a = (All-head (λ w. w < 2 ^ 32) w ws a, all_small n ws (omega (arith, e)) (All-tail (λ w. w < 2 ^ 32) w ws a))

pub future_reads : (side : SideAbi) (ms : Members) (table instance n : ℕ) (slots : List FlatType) (bytes : List ℕ) → BeginWideFor (I32 ∷ []) slots → n < 2 ^ 32 → ReadsAs side (s_node (k_future table instance) ms) (value.Handle Future table n) (cores_of slots (n ∷ [])) bytes
unfolding lift_leading IsByForm
future_reads side ms table instance n slots bytes w h = λ more. (ap (option_map (λ n. value.Handle Future table n)) (one_back I32 slots n more w h), tt)

pub stream_reads : (side : SideAbi) (ms : Members) (table instance n : ℕ) (slots : List FlatType) (bytes : List ℕ) → BeginWideFor (I32 ∷ []) slots → n < 2 ^ 32 → ReadsAs side (s_node (k_stream table instance) ms) (value.Handle Stream table n) (cores_of slots (n ∷ [])) bytes
unfolding lift_leading IsByForm
stream_reads side ms table instance n slots bytes w h = λ more. (ap (option_map (λ n. value.Handle Stream table n)) (one_back I32 slots n more w h), tt)

-- ---- cases

pub case_reads : (side : SideAbi) (k : Kind) (ms : Members) (n : ℕ) (x : List ℕ) (vs : List Value) (slot : FlatType) (cores : List CoreValue) (bytes : List ℕ) → IsCaseKind k → join I32 slot ≡ slot → n < 2 ^ 32 → ReadsCaseAs side ms n x vs cores bytes
    → ReadsAs side (s_node k ms) (value.Case x vs) (core_of slot n ∷ cores) bytes
unfolding lift_leading IsByForm
case_reads side k_variant ms n x vs slot cores bytes c w h r = λ more. (ap (λ m. lift_case side bytes ms m (cores ++ more)) (number_back I32 slot n w h) ∙ (r more).0, subst (λ m. IsCaseByForm side bytes ms m (cores ++ more)) (sym (number_back I32 slot n w h)) (r more).1)
case_reads side k_option ms n x vs slot cores bytes c w h r = λ more. (ap (λ m. lift_case side bytes ms m (cores ++ more)) (number_back I32 slot n w h) ∙ (r more).0, subst (λ m. IsCaseByForm side bytes ms m (cores ++ more)) (sym (number_back I32 slot n w h)) (r more).1)
case_reads side k_result ms n x vs slot cores bytes c w h r = λ more. (ap (λ m. lift_case side bytes ms m (cores ++ more)) (number_back I32 slot n w h) ∙ (r more).0, subst (λ m. IsCaseByForm side bytes ms m (cores ++ more)) (sym (number_back I32 slot n w h)) (r more).1)
case_reads side k_enum ms n x vs slot cores bytes c w h r = λ more. (ap (λ m. lift_case side bytes ms m (cores ++ more)) (number_back I32 slot n w h) ∙ (r more).0, tt)
case_reads side k_record ms n x vs slot cores bytes c w h r = absurd c
case_reads side k_list ms n x vs slot cores bytes c w h r = absurd c
case_reads side k_tuple ms n x vs slot cores bytes c w h r = absurd c
case_reads side k_map ms n x vs slot cores bytes c w h r = absurd c
case_reads side k_flags ms n x vs slot cores bytes c w h r = absurd c
case_reads side (k_fixed m) ms n x vs slot cores bytes c w h r = absurd c
case_reads side (k_future table instance) ms n x vs slot cores bytes c w h r = absurd c
case_reads side (k_stream table instance) ms n x vs slot cores bytes c w h r = absurd c
