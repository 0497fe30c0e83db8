-- A value that is lifted is a value of its type.
use Rattle.std.proofs.Common.{◌≡◌, ℕ, zero, suc, ◌^◌, ◌<◌, List, [], ◌∷◌, length, take, drop, Option, Some, None, refl, ap, subst, lit<, lit≤}
use Rattle.std.specs.Prelude.{option_map, replicate, if◌then◌else◌}
use Rattle.std.specs.List.{AllByRecursion, zip}
use Rattle.std.proofs.lemmas.Nat.{mod_below}
use Rattle.fact_machine.specs.declared.types.CoreValue.{CoreValue}
use Rattle.fact_types.specs.declared.flats.FlatType.TheVariants.{I32, I64, F32, F64}
use Rattle.fact_types.specs.declared.interface.InterfaceType.{InterfaceType}
use Rattle.fact_types.specs.declared.interface.InterfaceType.TheVariants as ty
use Rattle.fact_types.specs.Agrees.{names_of}
use Rattle.fact_types.specs.FlatShapes.{flat, flat_types}
use Rattle.fact_types.specs.Layout.{flags_size, flags_flat}
use Rattle.fact_types.specs.Shapes.{k_record, k_variant, k_list, k_tuple, k_map, k_flags, k_enum, k_option, k_result, k_fixed, k_future, k_stream, Shape, s_plain, s_node, Members, no_members, bare, typed}
use Rattle.fact_types.specs.Options.{◌>>=◌}
use Rattle.fact_types.specs.Valid.{AreDistinct, IsRuled, AreRuled}
use Rattle.fact_types.proofs.ShapeLaws.{same_some, none_some}
use Rattle.fact_values.specs.Bytes.{AreBytes, AreCores}
use Rattle.fact_values.specs.declared.side.SideAbi.{SideAbi}
use Rattle.fact_values.specs.declared.value.HandleKind.{HandleKind}
use Rattle.fact_values.specs.declared.value.HandleKind.TheVariants.{Future, Stream}
use Rattle.fact_values.specs.declared.value.Value.{Value, out-Value}
use Rattle.fact_values.specs.declared.value.Value.TheVariants as value
use Rattle.fact_values.specs.IsA.{IsHandle, IsPlainValue, IsCase, IsA, AreMembers, HasCase, IsElement}
use Rattle.fact_values.specs.Lift.{bits_of, number_as, numbers_as, one_number, leading_pair, lift_plain, lift_variant, each_of, element_count, lift_leading, lift_members, lift_case, lift_element, can_stand_all, lift}
use Rattle.fact_values.specs.Load.{load, load_members, load_element, text_value, list_value, map_value}
use Rattle.fact_values.specs.Numbers.{boolean, unsigned, signed, float32, float64, character, nothing, plain_of, flags_of_number, number_of_words}
use Rattle.fact_values.specs.Places.{width_of, count_of_members, typed_names}
use Rattle.fact_values.proofs.NumberLaws.{then_some, map_some, when_some}
use Rattle.fact_values.proofs.IsALaws.{record_is, tuple_is, fixed_list_is, flags_is, handle_is, list_value_is, map_value_is, text_value_is, number_value, distinct_rest, Cased, past_bare, past_typed, first_bare, first_typed, cased, load_members_are, load_element_is}

-- ---- core values

pub cores_drop : (n : ℕ) (cs : List CoreValue) → AreCores cs → AreCores (drop n cs)
cores_drop zero cs h = h
cores_drop (suc n) [] h = tt
cores_drop (suc n) (c ∷ cs) h = cores_drop n cs h.1

pub cores_take : (n : ℕ) (cs : List CoreValue) → AreCores cs → AreCores (take n cs)
cores_take zero cs h = tt
cores_take (suc n) [] h = tt
cores_take (suc n) (c ∷ cs) h = (h.0, cores_take n cs h.1)

low_small : (c : CoreValue) → number_as I32 c < 2 ^ 32
low_small c = mod_below (bits_of c) (2 ^ 32) (lit< tt)

-- the number in the place of an i32 or an f32
low_number : (cs : List CoreValue) (n : ℕ) → one_number I32 cs ≡ Some n → n < 2 ^ 32
low_number [] n e = absurd (none_some None n refl e)
low_number (c ∷ cs) n e = subst (λ n. n < 2 ^ 32) (same_some _ (number_as I32 c) n refl e) (low_small c)

low_float : (cs : List CoreValue) (n : ℕ) → one_number F32 cs ≡ Some n → n < 2 ^ 32
low_float [] n e = absurd (none_some None n refl e)
low_float (c ∷ cs) n e = subst (λ n. n < 2 ^ 32) (same_some _ (number_as F32 c) n refl e) (low_small c)

whole_float : (cs : List CoreValue) (n : ℕ) → AreCores cs → one_number F64 cs ≡ Some n → n < 2 ^ 64
whole_float [] n h e = absurd (none_some None n refl e)
whole_float (c ∷ cs) n h e = subst (λ n. n < 2 ^ 64) (same_some _ (number_as F64 c) n refl e) h.0

-- ---- types

plain_lifted : (side : SideAbi) (bytes : List ℕ) (p : InterfaceType) (cs : List CoreValue) (v : Value) → AreBytes bytes → AreCores cs → lift_plain side bytes p (plain_of p) cs ≡ Some v → IsPlainValue (plain_of p) (out-Value v)
plain_lifted side bytes ty.String cs v h k e =
    let (q, there, is) = then_some (leading_pair side cs) (λ q. text_value side bytes q) v e in
    text_value_is side bytes q v h is
plain_lifted side bytes ty.Bool cs v h k e = number_value (one_number I32 cs) boolean v (λ n z. tt) e
plain_lifted side bytes ty.S8 cs v h k e = number_value (one_number I32 cs) (signed 8) v (λ n z. lit≤ tt) e
plain_lifted side bytes ty.U8 cs v h k e = number_value (one_number I32 cs) (unsigned 8) v (λ n z. tt) e
plain_lifted side bytes ty.S16 cs v h k e = number_value (one_number I32 cs) (signed 16) v (λ n z. lit≤ tt) e
plain_lifted side bytes ty.U16 cs v h k e = number_value (one_number I32 cs) (unsigned 16) v (λ n z. tt) e
plain_lifted side bytes ty.S32 cs v h k e = number_value (one_number I32 cs) (signed 32) v (λ n z. lit≤ tt) e
plain_lifted side bytes ty.U32 cs v h k e = number_value (one_number I32 cs) (unsigned 32) v (λ n z. tt) e
plain_lifted side bytes ty.S64 cs v h k e = number_value (one_number I64 cs) (signed 64) v (λ n z. lit≤ tt) e
plain_lifted side bytes ty.U64 cs v h k e = number_value (one_number I64 cs) (unsigned 64) v (λ n z. tt) e
plain_lifted side bytes ty.Float32 cs v h k e = number_value (one_number F32 cs) float32 v (λ n z. low_float cs n z) e
plain_lifted side bytes ty.Float64 cs v h k e = number_value (one_number F64 cs) float64 v (λ n z. whole_float cs n k z) e
plain_lifted side bytes ty.Char cs v h k e = number_value (one_number I32 cs) character v (λ n z. tt) e
plain_lifted side bytes (ty.Own i) cs v h k e = number_value (one_number I32 cs) (plain_of (ty.Own i)) v (λ n z. low_number cs n z) e
plain_lifted side bytes (ty.Borrow i) cs v h k e = number_value (one_number I32 cs) (plain_of (ty.Borrow i)) v (λ n z. low_number cs n z) e
plain_lifted side bytes (ty.ErrorContext i) cs v h k e = number_value (one_number I32 cs) (plain_of (ty.ErrorContext i)) v (λ n z. low_number cs n z) e
plain_lifted side bytes _ cs v h k e = number_value (one_number I32 cs) nothing v (λ n z. tt) e

each_lifted : (P : Value → Type 0) (count n : ℕ) (f : List CoreValue → Option Value) (cs : List CoreValue) (vs : List Value) → AreCores cs → ((us : List CoreValue) (v : Value) → AreCores us → f us ≡ Some v → P v) → each_of count n f cs ≡ Some vs → (length vs ≡ count) × AllByRecursion P vs
each_lifted P zero n f cs vs k h e = subst (λ vs. (length vs ≡ 0) × AllByRecursion P vs) (same_some _ [] vs refl e) (refl, tt)
each_lifted P (suc count) n f cs vs k h e =
    let (v, here, rest) = then_some (f cs) (λ v. each_of count n f (drop n cs) >>= (λ vs. Some (v ∷ vs))) vs e in
    let (ws, there, is) = then_some (each_of count n f (drop n cs)) (λ vs. Some (v ∷ vs)) vs rest in
    let (l, all) = each_lifted P count n f (drop n cs) ws (cores_drop n cs k) h there in
    subst (λ vs. (length vs ≡ suc count) × AllByRecursion P vs) (same_some _ (v ∷ ws) vs refl is) (ap suc l, (h cs v k here, all))

variant_lifted : (ms : Members) (case : ℕ → List CoreValue → Option Value) (cs : List CoreValue) (v : Value) → AreCores cs → ((x : ℕ) (us : List CoreValue) → AreCores us → case x us ≡ Some v → Cased ms x v) → lift_variant case cs ≡ Some v → IsCase (λ y ps. HasCase ms y ps) (out-Value v)
variant_lifted ms case [] v k h e = absurd (none_some None v refl e)
variant_lifted ms case (c ∷ cs) v k h e = cased ms (number_as I32 c) v (h (number_as I32 c) cs k.1 e)

handle_lifted : (kind : HandleKind) (table : ℕ) (cs : List CoreValue) (v : Value) → option_map (λ n. value.Handle kind table n) (one_number I32 cs) ≡ Some v → IsHandle kind table (out-Value v)
handle_lifted kind table cs v e =
    let (n, there, is) = map_some (λ n. value.Handle kind table n) (one_number I32 cs) v e in
    handle_is kind table n v (low_number cs n there) is

mutual
  unfolding lift_leading load IsA

  pub leading_is_a : (side : SideAbi) (bytes : List ℕ) → AreBytes bytes → (s : Shape) → IsRuled s → (cs : List CoreValue) (v : Value) → AreCores cs → lift_leading side bytes s cs ≡ Some v → IsA s v
  leading_is_a side bytes h (s_plain p) r cs v k e = plain_lifted side bytes p cs v h k e
  leading_is_a side bytes h (s_node k_record ms) r cs v k e =
      let (vs, there, is) = map_some (λ vs. value.Record (zip (typed_names ms) vs)) (lift_members side bytes ms cs) v e in
      record_is ms vs v (lift_members_are side bytes h ms r.1 cs vs k there) is
  leading_is_a side bytes h (s_node k_tuple ms) r cs v k e =
      let (vs, there, is) = map_some (λ vs. value.Tuple vs) (lift_members side bytes ms cs) v e in
      tuple_is (λ vs. AreMembers ms vs) vs v (lift_members_are side bytes h ms r.1 cs vs k there) is
  leading_is_a side bytes h (s_node k_list ms) r cs v k e =
      let (q, there, is) = then_some (leading_pair side cs) (λ q. list_value side bytes ms (λ b. load_element side bytes ms b) q) v e in
      list_value_is (λ w. IsElement ms w) side bytes ms (λ b. load_element side bytes ms b) q v (λ b w z. load_element_is side bytes h ms r.1 b w z) is
  leading_is_a side bytes h (s_node k_map ms) r cs v k e =
      let (q, there, is) = then_some (leading_pair side cs) (λ q. map_value side bytes ms (λ b. load_members side bytes ms b 0) q) v e in
      map_value_is (λ vs. AreMembers ms vs) side bytes ms (λ b. load_members side bytes ms b 0) q v (λ b vs z. load_members_are side bytes h ms r.1 b 0 vs z) is
  leading_is_a side bytes h (s_node (k_fixed n) ms) r cs v k e =
      let (vs, there, is) = map_some (λ vs. value.List vs) (each_of n (element_count (width_of side) ms) (λ us. lift_element side bytes ms us) cs) v e in
      let (l, all) = each_lifted (λ w. IsElement ms w) n (element_count (width_of side) ms) (λ us. lift_element side bytes ms us) cs vs k (λ us w g z. lift_element_is side bytes h ms r.1 us w g z) there in
      fixed_list_is n (λ w. IsElement ms w) vs v l all is
  leading_is_a side bytes h (s_node k_flags ms) r cs v k e =
      let (ws, there, is) = map_some (λ ws. value.Flags (flags_of_number (names_of ms) (number_of_words ws))) (numbers_as (replicate (flags_flat (flags_size (count_of_members ms))) I32) cs) v e in
      flags_is ms (number_of_words ws) v is
  leading_is_a side bytes h (s_node k_variant ms) r cs v k e = variant_lifted ms (λ x us. lift_case side bytes ms x us) cs v k (λ x us g z. lift_case_has side bytes h ms r.1 r.0.distinct x us v g z) e
  leading_is_a side bytes h (s_node k_enum ms) r cs v k e = variant_lifted ms (λ x us. lift_case side bytes ms x us) cs v k (λ x us g z. lift_case_has side bytes h ms r.1 r.0.distinct x us v g z) e
  leading_is_a side bytes h (s_node k_option ms) r cs v k e = variant_lifted ms (λ x us. lift_case side bytes ms x us) cs v k (λ x us g z. lift_case_has side bytes h ms r.1 r.0.distinct x us v g z) e
  leading_is_a side bytes h (s_node k_result ms) r cs v k e = variant_lifted ms (λ x us. lift_case side bytes ms x us) cs v k (λ x us g z. lift_case_has side bytes h ms r.1 r.0.distinct x us v g z) e
  leading_is_a side bytes h (s_node (k_future table instance) ms) r cs v k e = handle_lifted Future table cs v e
  leading_is_a side bytes h (s_node (k_stream table instance) ms) r cs v k e = handle_lifted Stream table cs v e

  pub lift_members_are : (side : SideAbi) (bytes : List ℕ) → AreBytes bytes → (ms : Members) → AreRuled ms → (cs : List CoreValue) (vs : List Value) → AreCores cs → lift_members side bytes ms cs ≡ Some vs → AreMembers ms vs
  lift_members_are side bytes h no_members r cs vs k e = subst (AreMembers no_members) (same_some _ [] vs refl e) tt
  lift_members_are side bytes h (bare x ms) r cs vs k e = lift_members_are side bytes h ms r cs vs k e
  lift_members_are side bytes h (typed x s ms) r cs vs k e =
      let (v, here, rest) = then_some (lift_leading side bytes s cs) (λ v. lift_members side bytes ms (drop (length (flat (width_of side) s)) cs) >>= (λ vs. Some (v ∷ vs))) vs e in
      let (ws, there, is) = then_some (lift_members side bytes ms (drop (length (flat (width_of side) s)) cs)) (λ vs. Some (v ∷ vs)) vs rest in
      subst (AreMembers (typed x s ms)) (same_some _ (v ∷ ws) vs refl is)
      (leading_is_a side bytes h s r.0 cs v k here, lift_members_are side bytes h ms r.1 (drop (length (flat (width_of side) s)) cs) ws (cores_drop (length (flat (width_of side) s)) cs k) there)

  lift_case_has : (side : SideAbi) (bytes : List ℕ) → AreBytes bytes → (ms : Members) → AreRuled ms → AreDistinct (names_of ms) → (x : ℕ) (cs : List CoreValue) (v : Value) → AreCores cs → lift_case side bytes ms x cs ≡ Some v → Cased ms x v
  lift_case_has side bytes h no_members r d x cs v k e = absurd (none_some None v refl e)
  lift_case_has side bytes h (bare n ms) r d zero cs v k e = first_bare n ms v e
  lift_case_has side bytes h (typed n s ms) r d zero cs v k e = first_typed n s ms (lift_leading side bytes s cs) v (λ w z. leading_is_a side bytes h s r.0 cs w k z) e
  lift_case_has side bytes h (bare n ms) r d (suc x) cs v k e = past_bare n ms x v d (lift_case_has side bytes h ms r (distinct_rest n (names_of ms) d) x cs v k e)
  lift_case_has side bytes h (typed n s ms) r d (suc x) cs v k e = past_typed n s ms x v d (lift_case_has side bytes h ms r.1 (distinct_rest n (names_of ms) d) x cs v k e)

  lift_element_is : (side : SideAbi) (bytes : List ℕ) → AreBytes bytes → (ms : Members) → AreRuled ms → (cs : List CoreValue) (v : Value) → AreCores cs → lift_element side bytes ms cs ≡ Some v → IsElement ms v
  lift_element_is side bytes h no_members r cs v k e = absurd (none_some None v refl e)
  lift_element_is side bytes h (bare n ms) r cs v k e = absurd (none_some None v refl e)
  lift_element_is side bytes h (typed n s ms) r cs v k e = leading_is_a side bytes h s r.0 cs v k e

-- whole core values
pub lift_is_a : (side : SideAbi) (bytes : List ℕ) → AreBytes bytes → (s : Shape) → IsRuled s → (cs : List CoreValue) (v : Value) → AreCores cs → lift side bytes s cs ≡ Some v → IsA s v
lift_is_a side bytes h s r cs v k e =
    let (fs, there, is) = then_some (flat_types (width_of side) s) (λ fs. if can_stand_all fs cs then lift_leading side bytes s cs else None) v e in
    let (stands, leads) = when_some (can_stand_all fs cs) (lift_leading side bytes s cs) v is in
    leading_is_a side bytes h s r cs v k leads
