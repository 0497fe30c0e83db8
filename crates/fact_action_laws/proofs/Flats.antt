-- Flat types: how many there are in either width; and a value is lifted from its leading core values alone.
use Rattle.std.proofs.Common.{◌≡◌, ℕ, zero, suc, ◌+◌, ◌*◌, ◌≤◌, List, [], ◌∷◌, ◌++◌, length, drop, max, replicate, Option, Some, refl, sym, ap, ◌∙◌, arith, length-append}
use Rattle.std.specs.Prelude.{option_map}
use Rattle.fact_types.specs.declared.flats.FlatType.{FlatType}
use Rattle.fact_types.specs.declared.flats.FlatType.TheVariants as flat_type
use Rattle.fact_types.specs.declared.interface.InterfaceType.{InterfaceType}
use Rattle.fact_types.specs.declared.interface.InterfaceType.TheVariants as ty
use Rattle.fact_types.specs.declared.extents.MemoryWidth.{MemoryWidth}
use Rattle.fact_types.specs.FlatShapes.{flat, flat_by, flat_members, flat_any, flat_plain, joined, times}
use Rattle.fact_types.specs.Layout.{flags_size, flags_flat}
use Rattle.fact_types.specs.Shapes.{Kind, k_record, k_variant, k_list, k_tuple, k_map, k_flags, k_enum, k_option, k_result, k_fixed, k_future, k_stream, Shape, s_plain, s_node, Members, no_members, bare, typed, layouts_of}
use Rattle.fact_machine.specs.declared.types.CoreValue.{CoreValue}
use Rattle.fact_values.specs.declared.side.SideAbi.{SideAbi}
use Rattle.fact_values.specs.declared.value.HandleKind.TheVariants.{Future, Stream}
use Rattle.fact_values.specs.declared.value.Value.{Value}
use Rattle.fact_values.specs.declared.value.Value.TheVariants as value
use Rattle.fact_values.specs.Lift.{lift_leading, lift_members, lift_case, lift_element, lift_plain, lift_number, lift_variant, leading_pair, one_number, numbers_as, number_as, each_of, element_count}
use Rattle.fact_values.specs.Load.{text_value, list_value, map_value, load_members, load_element}
use Rattle.fact_values.specs.Numbers.{Plain, plain_of, flags_of_number, number_of_words}
use Rattle.fact_types.specs.Options.{◌>>=◌}
use Rattle.fact_values.specs.Places.{width_of, count_of_members, typed_names}
use Rattle.std.specs.List.{zip}
use Rattle.fact_types.specs.Agrees.{names_of}
use Rattle.fact_action_laws.specs.MoveTerms.{IsWellFormedBy, IsWellFormed, AreWellFormed}
use Rattle.fact_values.specs.Formed.{AreBare}

-- ---- lengths

pub length-joined : (xs ys : List FlatType) → length (joined xs ys) ≡ max (length xs) (length ys)
length-joined [] ys = omega arith
length-joined (x ∷ xs) [] = omega arith
length-joined (x ∷ xs) (y ∷ ys) = let h = length-joined xs ys in omega (arith, h)

pub length-times : (n : ℕ) (xs : List FlatType) → length (times n xs) ≡ n * length xs
length-times zero xs = omega arith
length-times (suc n) xs = let h = length-times n xs in omega (arith, h, length-append xs (times n xs))

plain_lengths : (w v : MemoryWidth) (p : InterfaceType) → length (flat_plain w p) ≡ length (flat_plain v p)
plain_lengths w v ty.S64 = refl
plain_lengths w v ty.U64 = refl
plain_lengths w v ty.Float32 = refl
plain_lengths w v ty.Float64 = refl
plain_lengths w v ty.String = refl
plain_lengths w v p = refl

by_lengths : (w v : MemoryWidth) (k : Kind) (n : ℕ) (xs ys us zs : List FlatType) → length xs ≡ length us → length ys ≡ length zs → length (flat_by w k n xs ys) ≡ length (flat_by v k n us zs)
by_lengths w v k_record n xs ys us zs h i = h
by_lengths w v k_tuple n xs ys us zs h i = h
by_lengths w v k_list n xs ys us zs h i = refl
by_lengths w v k_map n xs ys us zs h i = refl
by_lengths w v k_flags n xs ys us zs h i = refl
by_lengths w v (k_fixed count) n xs ys us zs h i = length-times count xs ∙ ap (λ k. count * k) h ∙ sym (length-times count us)
by_lengths w v (k_future t j) n xs ys us zs h i = refl
by_lengths w v (k_stream t j) n xs ys us zs h i = refl
by_lengths w v k_variant n xs ys us zs h i = ap suc i
by_lengths w v k_enum n xs ys us zs h i = refl
by_lengths w v k_option n xs ys us zs h i = ap suc i
by_lengths w v k_result n xs ys us zs h i = ap suc i

-- as many in one width as in the other
mutual
  pub flat_lengths : (w v : MemoryWidth) (s : Shape) → length (flat w s) ≡ length (flat v s)
  flat_lengths w v (s_plain p) = plain_lengths w v p
  flat_lengths w v (s_node k ms) = by_lengths w v k (length (layouts_of ms)) (flat_members w ms) (flat_any w ms) (flat_members v ms) (flat_any v ms) (member_lengths w v ms) (any_lengths w v ms)

  pub member_lengths : (w v : MemoryWidth) (ms : Members) → length (flat_members w ms) ≡ length (flat_members v ms)
  member_lengths w v no_members = refl
  member_lengths w v (bare n ms) = member_lengths w v ms
  member_lengths w v (typed n s ms) = length-append (flat w s) (flat_members w ms) ∙ ap (λ k. k + length (flat_members w ms)) (flat_lengths w v s) ∙ ap (λ k. length (flat v s) + k) (member_lengths w v ms) ∙ sym (length-append (flat v s) (flat_members v ms))

  pub any_lengths : (w v : MemoryWidth) (ms : Members) → length (flat_any w ms) ≡ length (flat_any v ms)
  any_lengths w v no_members = refl
  any_lengths w v (bare n ms) = any_lengths w v ms
  any_lengths w v (typed n s ms) = length-joined (flat w s) (flat_any w ms) ∙ ap (λ k. max k (length (flat_any w ms))) (flat_lengths w v s) ∙ ap (λ k. max (length (flat v s)) k) (any_lengths w v ms) ∙ sym (length-joined (flat v s) (flat_any v ms))

-- ---- leading core values

-- behind so many leading core values nothing counts
abbrev pub Leads : {A : Type 0} → ℕ → (List CoreValue → A) → Type 0
Leads n f = (vs us : List CoreValue) → n ≤ length vs → f (vs ++ us) ≡ f vs

pub drop_leads : {A : Type 0} (n k : ℕ) (f : List CoreValue → A) → Leads k f → (vs us : List CoreValue) → n + k ≤ length vs → f (drop n (vs ++ us)) ≡ f (drop n vs)
drop_leads zero k f h vs us le = h vs us (omega (arith, le))
drop_leads (suc n) k f h [] us le = absurd (omega (arith, le))
drop_leads (suc n) k f h (v ∷ vs) us le = drop_leads n k f h vs us (omega (arith, le))

number_leads : (plain : Plain) (fs : List FlatType) → Leads (length fs) (lift_number plain fs)
number_leads plain [] vs us le = refl
number_leads plain (f ∷ []) [] us le = absurd (omega (arith, le))
number_leads plain (f ∷ []) (v ∷ vs) us le = refl
number_leads plain (f ∷ (g ∷ fs)) vs us le = refl

pair_leads : (side : SideAbi) → Leads 2 (leading_pair side)
pair_leads side [] us le = absurd (omega (arith, le))
pair_leads side (v ∷ []) us le = absurd (omega (arith, le))
pair_leads side (v ∷ (w ∷ vs)) us le = refl

one_leads : (f : FlatType) → Leads 1 (one_number f)
one_leads f [] us le = absurd (omega (arith, le))
one_leads f (v ∷ vs) us le = refl

words_lead : (fs : List FlatType) → Leads (length fs) (numbers_as fs)
words_lead [] vs us le = refl
words_lead (f ∷ fs) [] us le = absurd (omega (arith, le))
words_lead (f ∷ fs) (v ∷ vs) us le = ap (option_map (λ ns. number_as f v ∷ ns)) (words_lead fs vs us (omega (arith, le)))

variant_leads : (n : ℕ) (case : ℕ → List CoreValue → Option Value) → ((x : ℕ) → Leads n (case x)) → Leads (suc n) (lift_variant case)
variant_leads n case h [] us le = absurd (omega (arith, le))
variant_leads n case h (v ∷ vs) us le = h (number_as flat_type.I32 v) vs us (omega (arith, le))

each_leads : (count n : ℕ) (f : List CoreValue → Option Value) → Leads n f → Leads (count * n) (each_of count n f)
each_leads zero n f h vs us le = refl
each_leads (suc count) n f h vs us le =
    ap (λ o. o >>= (λ v. (each_of count n f (drop n (vs ++ us))) >>= (λ ws. Some (v ∷ ws)))) (h vs us (omega (arith, le)))
    ∙ ap (λ o. (f vs) >>= (λ v. o >>= (λ ws. Some (v ∷ ws)))) (drop_leads n (count * n) (each_of count n f) (each_leads count n f h) vs us (omega (arith, le)))

plain_leads : (side : SideAbi) (bytes : List ℕ) (p : InterfaceType) → Leads (length (flat_plain (width_of side) p)) (lift_plain side bytes p (plain_of p))
plain_leads side bytes ty.String vs us le = ap (λ o. o >>= (λ q. text_value side bytes q)) (pair_leads side vs us le)
plain_leads side bytes p vs us le = number_leads (plain_of p) (flat_plain (width_of side) p) vs us le

left_most : (a b : ℕ) → a ≤ max a b
left_most a b = grind arith

right_most : (a b : ℕ) → b ≤ max a b
right_most a b = grind arith

bare_case : (side : SideAbi) (bytes : List ℕ) (ms : Members) (x : ℕ) → AreBare ms → Leads 0 (lift_case side bytes ms x)
unfolding lift_case
bare_case side bytes no_members x h vs us le = refl
bare_case side bytes (bare n ms) zero h vs us le = refl
bare_case side bytes (bare n ms) (suc x) h vs us le = bare_case side bytes ms x h vs us le
bare_case side bytes (typed n s ms) x h vs us le = absurd h

element_lengths : (w : MemoryWidth) (ms : Members) (n : ℕ) → n * element_count w ms ≤ length (times n (flat_members w ms))
element_lengths w no_members n = omega (arith, length-times n (flat_members w no_members))
element_lengths w (bare x ms) n = omega (arith)
element_lengths w (typed x s ms) zero = omega arith
element_lengths w (typed x s ms) (suc n) =
    let h = element_lengths w (typed x s ms) n in
    omega (arith, h, length-append (flat_members w (typed x s ms)) (times n (flat_members w (typed x s ms))), length-append (flat w s) (flat_members w ms))

-- what the kind says of members here
abbrev AreFormedFor : Kind → Members → Type 0
AreFormedFor k_enum ms = AreBare ms
AreFormedFor k ms = Unit {0}

formed_for : (k : Kind) (ms : Members) → IsWellFormedBy k ms → AreFormedFor k ms
formed_for k_enum ms f = f
formed_for k ms f = tt

-- A value of a kind of type, where its parts lead.
node_leads : (side : SideAbi) (bytes : List ℕ) (k : Kind) (ms : Members) → AreFormedFor k ms
    → Leads (length (flat_members (width_of side) ms)) (lift_members side bytes ms)
    → ((x : ℕ) → Leads (length (flat_any (width_of side) ms)) (lift_case side bytes ms x))
    → Leads (element_count (width_of side) ms) (lift_element side bytes ms)
    → Leads (length (flat (width_of side) (s_node k ms))) (lift_leading side bytes (s_node k ms))
unfolding lift_leading
node_leads side bytes k_record ms f all any one vs us le = ap (option_map (λ ws. value.Record (zip (typed_names ms) ws))) (all vs us le)
node_leads side bytes k_tuple ms f all any one vs us le = ap (option_map (λ ws. value.Tuple ws)) (all vs us le)
node_leads side bytes k_list ms f all any one vs us le = ap (λ o. o >>= (λ q. list_value side bytes ms (λ a. load_element side bytes ms a) q)) (pair_leads side vs us le)
node_leads side bytes k_map ms f all any one vs us le = ap (λ o. o >>= (λ q. map_value side bytes ms (λ a. load_members side bytes ms a 0) q)) (pair_leads side vs us le)
node_leads side bytes (k_fixed n) ms f all any one vs us le =
    ap (option_map (λ ws. value.List ws)) (each_leads n (element_count (width_of side) ms) (lift_element side bytes ms) one vs us (omega (arith, le, element_lengths (width_of side) ms n)))
node_leads side bytes k_flags ms f all any one vs us le =
    ap (option_map (λ ws. value.Flags (flags_of_number (names_of ms) (number_of_words ws)))) (words_lead (replicate (flags_flat (flags_size (count_of_members ms))) flat_type.I32) vs us le)
node_leads side bytes k_variant ms f all any one vs us le = variant_leads _ (λ x ws. lift_case side bytes ms x ws) any vs us le
node_leads side bytes k_enum ms f all any one vs us le = variant_leads 0 (λ x ws. lift_case side bytes ms x ws) (λ x. bare_case side bytes ms x f) vs us le
node_leads side bytes k_option ms f all any one vs us le = variant_leads _ (λ x ws. lift_case side bytes ms x ws) any vs us le
node_leads side bytes k_result ms f all any one vs us le = variant_leads _ (λ x ws. lift_case side bytes ms x ws) any vs us le
node_leads side bytes (k_future t i) ms f all any one vs us le = ap (option_map (λ n. value.Handle Future t n)) (one_leads flat_type.I32 vs us le)
node_leads side bytes (k_stream t i) ms f all any one vs us le = ap (option_map (λ n. value.Handle Stream t n)) (one_leads flat_type.I32 vs us le)

member_leads : (side : SideAbi) (bytes : List ℕ) (n : List ℕ) (s : Shape) (ms : Members) → Leads (length (flat (width_of side) s)) (lift_leading side bytes s)
    → Leads (length (flat_members (width_of side) ms)) (lift_members side bytes ms) → Leads (length (flat_members (width_of side) (typed n s ms))) (lift_members side bytes (typed n s ms))
unfolding lift_leading lift_members
member_leads side bytes n s ms one all vs us le =
    let w = width_of side in
    let long = length-append (flat w s) (flat_members w ms) in
    ap (λ o. o >>= (λ v. (lift_members side bytes ms (drop (length (flat w s)) (vs ++ us))) >>= (λ ws. Some (v ∷ ws)))) (one vs us (omega (arith, le, long)))
    ∙ ap (λ o. (lift_leading side bytes s vs) >>= (λ v. o >>= (λ ws. Some (v ∷ ws)))) (drop_leads (length (flat w s)) (length (flat_members w ms)) (lift_members side bytes ms) all vs us (omega (arith, le, long)))

case_leads : (side : SideAbi) (bytes : List ℕ) (n : List ℕ) (s : Shape) (ms : Members) → Leads (length (flat (width_of side) s)) (lift_leading side bytes s)
    → ((x : ℕ) → Leads (length (flat_any (width_of side) ms)) (lift_case side bytes ms x)) → (x : ℕ) → Leads (length (flat_any (width_of side) (typed n s ms))) (lift_case side bytes (typed n s ms) x)
unfolding lift_leading lift_case
case_leads side bytes n s ms one any zero vs us le =
    let w = width_of side in
    ap (option_map (λ v. value.Case n (v ∷ []))) (one vs us (omega (arith, le, length-joined (flat w s) (flat_any w ms), left_most (length (flat w s)) (length (flat_any w ms)))))
case_leads side bytes n s ms one any (suc x) vs us le =
    let w = width_of side in
    any x vs us (omega (arith, le, length-joined (flat w s) (flat_any w ms), right_most (length (flat w s)) (length (flat_any w ms))))

mutual
  unfolding lift_leading lift_members lift_case lift_element

  pub value_leads : (side : SideAbi) (bytes : List ℕ) (s : Shape) → IsWellFormed s → Leads (length (flat (width_of side) s)) (lift_leading side bytes s)
  value_leads side bytes (s_plain p) f = plain_leads side bytes p
  value_leads side bytes (s_node k ms) f = node_leads side bytes k ms (formed_for k ms f.0) (members_lead side bytes ms f.1) (λ x. cases_lead side bytes ms f.1 x) (element_leads side bytes ms f.1)

  pub members_lead : (side : SideAbi) (bytes : List ℕ) (ms : Members) → AreWellFormed ms → Leads (length (flat_members (width_of side) ms)) (lift_members side bytes ms)
  members_lead side bytes no_members f = λ vs us le. refl
  members_lead side bytes (bare n ms) f = members_lead side bytes ms f
  members_lead side bytes (typed n s ms) f = member_leads side bytes n s ms (value_leads side bytes s f.0) (members_lead side bytes ms f.1)

  pub cases_lead : (side : SideAbi) (bytes : List ℕ) (ms : Members) → AreWellFormed ms → (x : ℕ) → Leads (length (flat_any (width_of side) ms)) (lift_case side bytes ms x)
  cases_lead side bytes no_members f = λ x vs us le. refl
  cases_lead side bytes (bare n ms) f = elim [ zero ↦ λ vs us le. refl | suc x ↦ cases_lead side bytes ms f x ]
  cases_lead side bytes (typed n s ms) f = case_leads side bytes n s ms (value_leads side bytes s f.0) (cases_lead side bytes ms f.1)

  element_leads : (side : SideAbi) (bytes : List ℕ) (ms : Members) → AreWellFormed ms → Leads (element_count (width_of side) ms) (lift_element side bytes ms)
  element_leads side bytes no_members f = λ vs us le. refl
  element_leads side bytes (bare n ms) f = λ vs us le. refl
  element_leads side bytes (typed n s ms) f = value_leads side bytes s f.0
