-- What is known of a type is what its shape says, where what is known of each entry is made of what is known of its members.
use Rattle.std.proofs.Common.{◌≡◌, ℕ, suc, List, [], ◌∷◌, ◌++◌, length, map, max, Option, Some, None, Bool, true, false, refl, sym, ◌∙◌, ap, subst, arith}
use Rattle.std.specs.Prelude.{◌+◌, ◌||◌, min, option_map, unwrap_or}
use Rattle.fact_types.specs.declared.flats.FlatType.{FlatType}
use Rattle.fact_types.specs.declared.flats.FlatType.TheVariants.{I32}
use Rattle.fact_types.specs.declared.interface.InterfaceType.{InterfaceType}
use Rattle.fact_types.specs.declared.interface.InterfaceType.TheVariants.{Record as t_record}
use Rattle.fact_types.specs.declared.extents.MemoryWidth.{MemoryWidth}
use Rattle.fact_types.specs.declared.extents.MemoryWidth.TheVariants.{Memory32, Memory64}
use Rattle.fact_types.specs.FlatShapes.{joined, times, flat, flat_members, flat_any, upto}
use Rattle.fact_types.specs.Layout.{payloads, flags_size, flags_flat}
use Rattle.fact_types.specs.Shapes.{Kind, k_record, k_variant, k_list, k_tuple, k_map, k_flags, k_enum, k_option, k_result, k_fixed, k_future, k_stream, Shape, s_plain, s_node, Members, no_members, bare, typed, layouts_of}
use Rattle.fact_types.specs.Tables.{Tables, Node, node_of, no_tables, HasShape, HasMembers}
use Rattle.fact_types.specs.Valid.{nesting, deepest_nesting}
use Rattle.fact_types.proofs.JoinLaws.{joined_joins}
use Rattle.fact_builder.specs.declared.information.TypeInformation.{TypeInformation}
use Rattle.fact_types.specs.Handles.{has_handle, have_handle, has_borrow, have_borrow}
use Rattle.fact_types.specs.PointerPairs.{has_pointer_pair, have_pointer_pair}
use Rattle.fact_builder.specs.Information.{information_of, plain_information, nothing, followed, product_from, joined_information, sum_from, with_flat, as_pointer_pair, words, tagged, repeated, as_handle, made_of, deeper, information_by, known, known_members, AllKept}
use Rattle.fact_builder.proofs.FlatLaws.{after_is, joined_is, joined_nil, tagged_is, repeated_is, append_nil, append_joins}

-- what a type holds, and how deep it nests
record Holdings : Type 0 where
  handle : Bool
  borrow : Bool
  pointer_pair : Bool
  nesting : ℕ

abbrev holds_nothing : Holdings
holds_nothing = record { handle = false; borrow = false; pointer_pair = false; nesting = 0 }

abbrev held_by : Shape → Holdings
held_by s = record { handle = has_handle s; borrow = has_borrow s; pointer_pair = has_pointer_pair s; nesting = min (nesting s) 101 }

abbrev held_in : Members → Holdings
held_in ms = record { handle = have_handle ms; borrow = have_borrow ms; pointer_pair = have_pointer_pair ms; nesting = min (deepest_nesting ms) 101 }

abbrev both : Holdings → Holdings → Holdings
both a b = record { handle = a.handle || b.handle; borrow = a.borrow || b.borrow; pointer_pair = a.pointer_pair || b.pointer_pair; nesting = max a.nesting b.nesting }

or_false : (b : Bool) → (b || false) ≡ b
or_false true = refl
or_false false = refl

or_joins : (a b c : Bool) → ((a || b) || c) ≡ (a || (b || c))
or_joins true b c = refl
or_joins false b c = refl

max_zero : (n : ℕ) → max n 0 ≡ n
max_zero n = omega arith

zero_max : (n : ℕ) → max 0 n ≡ n
zero_max n = omega arith

max_joins : (m n k : ℕ) → max (max m n) k ≡ max m (max n k)
max_joins m n k = omega arith

max_min : (m n k : ℕ) → max (min m k) (min n k) ≡ min (max m n) k
max_min m n k = omega arith

both_nothing : (a : Holdings) → both a holds_nothing ≡ a
both_nothing a = λ i. record { handle = or_false a.handle i; borrow = or_false a.borrow i; pointer_pair = or_false a.pointer_pair i; nesting = max_zero a.nesting i }

both_joins : (a b c : Holdings) → both (both a b) c ≡ both a (both b c)
both_joins a b c = λ i. record {
  handle = or_joins a.handle b.handle c.handle i;
  borrow = or_joins a.borrow b.borrow c.borrow i;
  pointer_pair = or_joins a.pointer_pair b.pointer_pair c.pointer_pair i;
  nesting = max_joins a.nesting b.nesting c.nesting i;
}

nothing_both : (a : Holdings) → both holds_nothing a ≡ a
nothing_both a = λ i. record a { nesting = zero_max a.nesting i }

one_more_member : (n : List ℕ) (s : Shape) (ms : Members) → both (held_by s) (held_in ms) ≡ held_in (typed n s ms)
one_more_member n s ms = λ i. record (both (held_by s) (held_in ms)) { nesting = max_min (nesting s) (deepest_nesting ms) 101 i }

-- what is known of a type with these flat types, of which more than 16 are none
abbrev told : (MemoryWidth → List FlatType) → Holdings → TypeInformation
told f h = record {
  flat32 = upto 16 (f Memory32);
  flat64 = upto 16 (f Memory64);
  has_handle = h.handle;
  has_borrow = h.borrow;
  has_pointer_pair = h.pointer_pair;
  nesting = h.nesting;
}

told_same : (f g : MemoryWidth → List FlatType) (h k : Holdings) → ((w : MemoryWidth) → f w ≡ g w) → h ≡ k → told f h ≡ told g k
told_same f g h k e p = λ j. told (λ w. e w j) (p j)

followed_told : (f g : MemoryWidth → List FlatType) (h k : Holdings) → followed (told f h) (told g k) ≡ told (λ w. f w ++ g w) (both h k)
followed_told f g h k = λ j. record (told (λ w. f w ++ g w) (both h k)) { flat32 = after_is (f Memory32) (g Memory32) j; flat64 = after_is (f Memory64) (g Memory64) j }

joined_told : (f g : MemoryWidth → List FlatType) (h k : Holdings) → joined_information (told f h) (told g k) ≡ told (λ w. joined (f w) (g w)) (both h k)
joined_told f g h k = λ j. record (told (λ w. joined (f w) (g w)) (both h k)) { flat32 = joined_is (f Memory32) (g Memory32) j; flat64 = joined_is (f Memory64) (g Memory64) j }

-- what is known of members
abbrev pub informations_of : Members → List (Option TypeInformation)
informations_of no_members = []
informations_of (bare n ms) = None ∷ informations_of ms
informations_of (typed n s ms) = Some (information_of s) ∷ informations_of ms

pub as_many : (ms : Members) → length (informations_of ms) ≡ length (layouts_of ms)
as_many no_members = refl
as_many (bare n ms) = ap suc (as_many ms)
as_many (typed n s ms) = ap suc (as_many ms)

product_is : (ms : Members) (f : MemoryWidth → List FlatType) (h : Holdings) → product_from (told f h) (payloads (informations_of ms)) ≡ told (λ w. f w ++ flat_members w ms) (both h (held_in ms))
product_is no_members f h = told_same _ _ _ _ (λ w. sym (append_nil (f w))) (sym (both_nothing h))
product_is (bare n ms) f h = product_is ms f h
product_is (typed n s ms) f h =
    (λ i. product_from (followed_told f (λ w. flat w s) h (held_by s) i) (payloads (informations_of ms)))
    ∙ product_is ms (λ w. f w ++ flat w s) (both h (held_by s))
    ∙ told_same _ _ _ _ (λ w. append_joins (f w) (flat w s) (flat_members w ms)) (both_joins h (held_by s) (held_in ms) ∙ ap (both h) (one_more_member n s ms))

sum_is : (ms : Members) (f : MemoryWidth → List FlatType) (h : Holdings) → sum_from (told f h) (informations_of ms) ≡ told (λ w. joined (f w) (flat_any w ms)) (both h (held_in ms))
sum_is no_members f h = told_same _ _ _ _ (λ w. sym (joined_nil (f w))) (sym (both_nothing h))
sum_is (bare n ms) f h = sum_is ms f h
sum_is (typed n s ms) f h =
    (λ i. sum_from (joined_told f (λ w. flat w s) h (held_by s) i) (informations_of ms))
    ∙ sum_is ms (λ w. joined (f w) (flat w s)) (both h (held_by s))
    ∙ told_same _ _ _ _ (λ w. joined_joins (f w) (flat w s) (flat_any w ms)) (both_joins h (held_by s) (held_in ms) ∙ ap (both h) (one_more_member n s ms))

all_members : (ms : Members) → product_from nothing (payloads (informations_of ms)) ≡ told (λ w. flat_members w ms) (held_in ms)
all_members ms = product_is ms (λ w. []) holds_nothing ∙ ap (told (λ w. flat_members w ms)) (nothing_both (held_in ms))

any_member : (ms : Members) → sum_from nothing (informations_of ms) ≡ told (λ w. flat_any w ms) (held_in ms)
any_member ms = sum_is ms (λ w. []) holds_nothing ∙ ap (told (λ w. flat_any w ms)) (nothing_both (held_in ms))

tagged_told : (f : MemoryWidth → List FlatType) (h : Holdings) → tagged (told f h) ≡ told (λ w. I32 ∷ f w) h
tagged_told f h = λ j. record (told (λ w. I32 ∷ f w) h) { flat32 = tagged_is (f Memory32) j; flat64 = tagged_is (f Memory64) j }

repeated_told : (n : ℕ) (f : MemoryWidth → List FlatType) (h : Holdings) → repeated n (told f h) ≡ told (λ w. times n (f w)) h
repeated_told n f h = λ j. record (told (λ w. times n (f w)) h) { flat32 = repeated_is n (f Memory32) j; flat64 = repeated_is n (f Memory64) j }

cases_are : (ms : Members) → tagged (sum_from nothing (informations_of ms)) ≡ told (λ w. I32 ∷ flat_any w ms) (held_in ms)
cases_are ms = ap tagged (any_member ms) ∙ tagged_told (λ w. flat_any w ms) (held_in ms)

-- what a type is, beside that it nests deeper than its members
abbrev shallow : Kind → Members → TypeInformation
shallow k ms = record (information_of (s_node k ms)) { nesting = min (deepest_nesting ms) 101 }

-- a kind of type over its members
made_is : (k : Kind) (ms : Members) → made_of k (informations_of ms) ≡ shallow k ms
made_is k_record ms = all_members ms
made_is k_tuple ms = all_members ms
made_is k_variant ms = cases_are ms
made_is k_option ms = cases_are ms
made_is k_result ms = cases_are ms
made_is k_list ms = ap as_pointer_pair (any_member ms)
made_is k_map ms = ap as_pointer_pair (any_member ms)
made_is k_flags ms = λ i. with_flat (words (flags_flat (flags_size (as_many ms i)))) (any_member ms i)
made_is k_enum ms = ap (with_flat (words 1)) (any_member ms)
made_is (k_fixed n) ms = ap (repeated n) (all_members ms) ∙ repeated_told n (λ w. flat_members w ms) (held_in ms)
made_is (k_future table instance) ms = ap as_handle (any_member ms)
made_is (k_stream table instance) ms = ap as_handle (any_member ms)

one_deeper : (n : ℕ) → min (1 + min n 101) 101 ≡ min (1 + n) 101
one_deeper n = omega arith

pub node_is : (k : Kind) (ms : Members) → information_by k (informations_of ms) ≡ information_of (s_node k ms)
node_is k ms = ap deeper (made_is k ms) ∙ (λ i. record (information_of (s_node k ms)) { nesting = one_deeper (deepest_nesting ms) i })

-- ---- what is kept
module _ (t : Tables) (kept : InterfaceType → Option TypeInformation) (a : AllKept t kept) where
  node_known : (ty : InterfaceType) (n : Node) → node_of t ty ≡ Some n → known kept ty ≡ information_by n.kind (known_members kept n)
  node_known ty n h = ap (λ o. unwrap_or o (plain_information ty)) (a.entries ty n h)

  mutual
    pub known_is : (s : Shape) (ty : InterfaceType) → HasShape t ty s → known kept ty ≡ information_of s
    known_is (s_plain p) ty (e, h) = ap (known kept) e ∙ ap (λ o. unwrap_or o (plain_information p)) (a.others p h)
    known_is (s_node k ms) ty (n, h, e, hm) =
        node_known ty n h
        ∙ (λ i. information_by (e i) (members_known ms n.members hm i))
        ∙ node_is k ms

    members_known : (ms : Members) (xs : List (List ℕ × Option InterfaceType)) → HasMembers t xs ms → map (λ m. option_map (known kept) m.1) xs ≡ informations_of ms
    members_known no_members [] h = refl
    members_known no_members (x ∷ xs) h = absurd h
    members_known (bare n ms) [] h = absurd h
    members_known (bare n ms) (x ∷ xs) (p, q, h) = λ i. option_map (known kept) (q i) ∷ members_known ms xs h i
    members_known (typed n s ms) [] h = absurd h
    members_known (typed n s ms) (x ∷ xs) (p, (ty, q, g), h) = (λ i. option_map (known kept) (q i) ∷ members_known ms xs h i) ∙ (λ i. Some (known_is s ty g i) ∷ informations_of ms)

pub known_at : (t v : Tables) → t ≡ v → (kept : InterfaceType → Option TypeInformation) → AllKept t kept → (s : Shape) (ty : InterfaceType) → HasShape v ty s → known kept ty ≡ information_of s
known_at t v e kept a s ty h = known_is t kept a s ty (subst (λ u. HasShape u ty s) (sym e) h)

nothing_at : (ty : InterfaceType) → node_of no_tables ty ≡ None
nothing_at (t_record i) = refl
nothing_at ty = refl

pub none_kept : AllKept no_tables (λ ty. None)
none_kept = record { entries = λ ty n h. absurd (none_some n (sym (nothing_at ty) ∙ h)); others = λ ty h. refl }
  where
    none_some : (n : Node) → None ≡ Some n → ⊥
    none_some n h = cc
