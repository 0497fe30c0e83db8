-- The rows of what functions leave to helpers, computed.
use Rattle.std.proofs.Common.{◌≡◌, ◌≢◌, ℕ, zero, suc, Bool, true, false, List, [], ◌∷◌, ◌++◌, refl, sym, ap, ◌∙◌, arith}
use Rattle.std.specs.List.{AllByRecursion, Contains}
use Rattle.fact_types.specs.Adapters.{LinkedAdapter}
use Rattle.fact_types.specs.Shapes.{Shape, s_plain, s_node, k_list, k_tuple, no_members, bare, typed}
use Rattle.fact_actions.specs.Outlining.{HelperKey, own_function, AreNew, NoneAsked, AskedBefore, AskedAnew, NoneWaits, LastComes, NoAdapters, AdapterComes, is_in_memory, translates, translates_fields, translates_case}
use Rattle.fact_actions.specs.OutlinedRows.{Items, ThreeChars, HelpersAreShared, NestOfLists, FixedLists, FuelOfFunctions, FreeTypes, OrdersOfMembers, three_chars, char_key, nested, inner, list_of, a_number, on_stack, in_memory}

-- ---- what is among keys

absent : (ks : List HelperKey) (k : HelperKey) → AllByRecursion (λ j. j ≢ k) ks → Contains ks k → ⊥
absent [] k h (i, l, e) = omega (arith, l)
absent (j ∷ ks) k h (zero, l, e) = h.0 e
absent (j ∷ ks) k h (suc i, l, e) = absent ks k h.1 (i, omega (arith, l), e)

-- keys that a test tells apart
apart : (f : HelperKey → Bool) (j k : HelperKey) → f j ≡ true → f k ≡ false → j ≢ k
apart f j k h g e = cc

apart_back : (f : HelperKey → Bool) (j k : HelperKey) → f j ≡ false → f k ≡ true → j ≢ k
apart_back f j k h g e = cc

-- ---- three chars

pub three_chars_are_outlined : ThreeChars
unfolding translates translates_fields translates_case
three_chars_are_outlined o =
    let k = char_key o in (
      AdapterComes [] (three_chars o) [] (k ∷ []) (k ∷ []) [] []
          (AskedAnew [] k (k ∷ []) [] (absent [] k tt) (AskedBefore (k ∷ []) k [] [] (0, omega arith, refl) (NoneAsked (k ∷ []))))
          (LastComes (k ∷ []) [] k [] (k ∷ []) [] (NoneAsked (k ∷ [])) (NoneWaits (k ∷ [])))
          (NoAdapters (k ∷ [])),
      AdapterComes [] (three_chars o) [] (k ∷ []) (k ∷ []) [] []
          (AskedAnew [] k [] [] (absent [] k tt) (NoneAsked (k ∷ [])))
          (LastComes (k ∷ []) [] k [] (k ∷ []) [] (NoneAsked (k ∷ [])) (NoneWaits (k ∷ [])))
          (NoAdapters (k ∷ [])),
      AdapterComes [] (three_chars o) [] [] [] [] [] (NoneAsked []) (NoneWaits []) (NoAdapters []),
    )

pub helpers_are_shared : HelpersAreShared
unfolding translates translates_fields translates_case
helpers_are_shared o =
    let k = char_key o in
    let again : AreNew (k ∷ []) (k ∷ k ∷ []) [] = AskedBefore (k ∷ []) k (k ∷ []) [] (0, omega arith, refl) (AskedBefore (k ∷ []) k [] [] (0, omega arith, refl) (NoneAsked (k ∷ []))) in
    AdapterComes [] (three_chars o) (three_chars o ∷ []) (k ∷ []) (k ∷ []) [] (own_function (k ∷ k ∷ []) ∷ [])
    (AskedAnew [] k (k ∷ []) [] (absent [] k tt) (AskedBefore (k ∷ []) k [] [] (0, omega arith, refl) (NoneAsked (k ∷ []))))
    (LastComes (k ∷ []) [] k [] (k ∷ []) [] (NoneAsked (k ∷ [])) (NoneWaits (k ∷ [])))
    (AdapterComes (k ∷ []) (three_chars o) [] [] (k ∷ []) [] [] again (NoneWaits (k ∷ [])) (NoAdapters (k ∷ [])))

-- ---- the nest

abbrev is_list : Shape → Bool
is_list (s_node k_list ms) = true
is_list t = false

abbrev begins_with_number : Shape → Bool
begins_with_number (s_node k (typed x (s_plain p) ms)) = true
begins_with_number t = false

abbrev comes_from_memory : HelperKey → Bool
comes_from_memory k = is_in_memory k.route.from.place

abbrev of_lists : HelperKey → Bool
of_lists k = is_list k.source

abbrev of_numbers : HelperKey → Bool
of_numbers k = begins_with_number k.source

pub nest_is_outlined : NestOfLists
unfolding translates translates_fields translates_case
nest_is_outlined o =
    let a = on_stack o inner in
    let b = on_stack o (list_of inner) in
    let c = in_memory o inner in
    let d = in_memory o (list_of a_number) in
    let e = on_stack o (list_of a_number) in
    let all = a ∷ b ∷ c ∷ d ∷ e ∷ [] in
    let new_b = absent (a ∷ []) b (apart_back of_lists a b refl refl, tt) in
    let new_c = absent (a ∷ b ∷ []) c (apart_back comes_from_memory a c refl refl, (apart_back comes_from_memory b c refl refl, tt)) in
    let new_d = absent (a ∷ b ∷ c ∷ []) d (apart_back comes_from_memory a d refl refl, (apart_back comes_from_memory b d refl refl, (apart_back of_lists c d refl refl, tt))) in
    let new_e =
    absent (a ∷ b ∷ c ∷ d ∷ []) e
    (apart_back of_lists a e refl refl, (apart_back of_numbers b e refl refl, (apart comes_from_memory c e refl refl, (apart comes_from_memory d e refl refl, tt)))) in
    AdapterComes [] (nested o) [] (a ∷ b ∷ []) all (c ∷ d ∷ e ∷ []) []
    (AskedAnew [] a (b ∷ []) (b ∷ []) (absent [] a tt) (AskedAnew (a ∷ []) b [] [] new_b (NoneAsked (a ∷ b ∷ []))))
    (LastComes (a ∷ b ∷ []) (a ∷ []) b (c ∷ []) all (d ∷ e ∷ []) (AskedAnew (a ∷ b ∷ []) c [] [] new_c (NoneAsked (a ∷ b ∷ c ∷ [])))
    (LastComes (a ∷ b ∷ c ∷ []) (a ∷ []) c (d ∷ []) all (e ∷ []) (AskedAnew (a ∷ b ∷ c ∷ []) d [] [] new_d (NoneAsked (a ∷ b ∷ c ∷ d ∷ [])))
    (LastComes (a ∷ b ∷ c ∷ d ∷ []) (a ∷ []) d [] all (e ∷ []) (NoneAsked (a ∷ b ∷ c ∷ d ∷ []))
    (LastComes (a ∷ b ∷ c ∷ d ∷ []) [] a (e ∷ []) all [] (AskedAnew (a ∷ b ∷ c ∷ d ∷ []) e [] [] new_e (NoneAsked all))
    (LastComes all [] e [] all [] (NoneAsked all) (NoneWaits all))))))
    (NoAdapters all)

-- ---- what is asked for

pub fixed_lists_ask : FixedLists
unfolding translates translates_fields translates_case
fixed_lists_ask o = (refl, refl)

pub functions_have_fuel : FuelOfFunctions
unfolding translates translates_fields translates_case
functions_have_fuel o = (refl, refl)

pub free_types_ask : FreeTypes
unfolding translates translates_fields translates_case
free_types_ask o = refl

pub members_ask_in_order : OrdersOfMembers
unfolding translates translates_fields translates_case
members_ask_in_order o = (refl, refl)
