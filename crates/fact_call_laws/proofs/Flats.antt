-- Every value of a type with one flat type at most is a core value that stands for it, or none.
use Rattle.std.proofs.Common.{◌≡◌, ℕ, suc, ◌+◌, ◌^◌, ◌≤◌, ◌<◌, Bool, true, false, List, [], ◌∷◌, ◌++◌, length, map, Option, Some, None, refl, sym, ap, ◌∙◌, subst, arith, lit<, length-append}
use Rattle.std.specs.Prelude.{◌==◌, nat_le, option_map, replicate, if◌then◌else◌}
use Rattle.std.specs.Int.{div_ceil}
use Rattle.std.specs.List.{AllByRecursion, AllZip}
use Rattle.std.specs.Str.{bytes_eq}
use Rattle.std.proofs.Math.Nat.{pow-le-pow_right}
use Rattle.std.proofs.lemmas.Bool.{eqb-true, leb-false}
use Rattle.std.proofs.lemmas.List.{nil_from_length}
use Rattle.std.proofs.lemmas.List.Elements.{All-cons, All-nil}
use Rattle.fact_machine.specs.declared.types.CoreValue.{CoreValue}
use Rattle.fact_machine.specs.Typed.{IsValue}
use Rattle.fact_types.specs.declared.flats.FlatType.{FlatType}
use Rattle.fact_types.specs.declared.flats.FlatType.TheVariants.{I32}
use Rattle.fact_types.specs.declared.interface.InterfaceType.{InterfaceType}
use Rattle.fact_types.specs.declared.interface.InterfaceType.TheVariants as ty
use Rattle.fact_types.specs.declared.sizes.FlagsSize.TheVariants.{Size0, Size1, Size2, Size4Plus}
use Rattle.fact_types.specs.declared.extents.MemoryWidth.{MemoryWidth}
use Rattle.fact_types.specs.Agrees.{chosen, names_of}
use Rattle.fact_types.specs.Flat.{value_type}
use Rattle.fact_types.specs.FlatShapes.{after_flat, flat, flat_any, flat_each, flat_members, flat_plain, flat_types, joined, times}
use Rattle.fact_types.specs.Layout.{flags_flat, flags_size}
use Rattle.fact_types.specs.Shapes.{Kind, k_record, k_variant, k_list, k_tuple, k_map, k_flags, k_enum, k_option, k_result, k_fixed, k_future, k_stream, Shape, s_plain, s_node, Members, no_members, bare, typed, plain_layout}
use Rattle.fact_types.specs.Tuples.{members_from}
use Rattle.fact_types.specs.Valid.{IsValid}
use Rattle.fact_types.proofs.JoinLaws.{joined_same}
use Rattle.fact_types.proofs.ShapeLaws.{none_some, same_some}
use Rattle.fact_values.specs.declared.side.SideAbi.{SideAbi}
use Rattle.fact_values.specs.declared.value.HandleKind.TheVariants.{Future, Stream}
use Rattle.fact_values.specs.declared.value.Value.{Value, out-Value, roll-Value, roll-out-Value}
use Rattle.fact_values.specs.declared.value.Value.TheOpen.{Value-F}
use Rattle.fact_values.specs.declared.value.Value.TheOpen as o
use Rattle.fact_values.specs.declared.value.Value.TheVariants as value
use Rattle.fact_values.specs.Formed.{AreBare}
use Rattle.fact_values.specs.IsA.{AreMembers, HasCase, IsA, IsCase, IsElement, IsFixedList, IsFlags, IsOnePayload, IsRecord, IsTuple}
use Rattle.fact_values.specs.Lift.{lift_leading}
use Rattle.fact_values.specs.Numbers.{flags_of_number, number_of_words, plain_of, text}
use Rattle.fact_values.specs.Places.{count_of_members, width_of}
use Rattle.fact_values.proofs.IsALaws.{bytes_are}
use Rattle.fact_action_laws.specs.MoveTerms.{AreWellFormed, IsWellFormed, IsWellFormedBy}
use Rattle.fact_action_laws.proofs.Theorem.{AreValid, members_valid}
use Rattle.fact_lowering.specs.Lowered.{ReadsAs, ReadsEachAs, ReadsMembersAs}
use Rattle.fact_lowering.specs.Lowerings.{AreFlagWords, ReadsCaseAs, core_of, cores_of}
use Rattle.fact_lowering.specs.TextForms.{AreByForm, IsByForm}
use Rattle.fact_lowering.specs.TupleSteps.{ReadsTuple}
use Rattle.fact_lowering.proofs.CoreMembers.{bare_members_read, elements_read, members_read, no_elements_read, no_members_read, nothing_behind}
use Rattle.fact_lowering.proofs.CoreNumbers.{AreBitsOf, IsBitsOf, core_typed, cores_typed}
use Rattle.fact_lowering.proofs.CoreReads.{case_reads, fixed_reads, flags_read, future_reads, number_flat, number_reads, record_reads, stream_reads, tuple_reads}
use Rattle.fact_lowering.proofs.CoreWrites.{as_many_cores, map_behind, zip_behind}
use Rattle.fact_lowering.proofs.OwnRooms.{IsCaseKind}
use Rattle.fact_lowering.proofs.StoreKinds.{fixed_of, record_of, tuple_of}
use Rattle.fact_lowering.proofs.StoreNodes.{case_of, flags_of, future_of, plain_is, stream_of}
use Rattle.fact_lowering.proofs.TupleLifts.{flats_are}
use Rattle.fact_lowering.proofs.TupleLowers.{tuple_read}
use Rattle.fact_call_laws.proofs.PlainNumbers.{HasNumber, flags_back, flags_number, flags_small, handle_number, plain_number}
use Rattle.fact_call_laws.proofs.Storing.{IsText, NoTexts, Texts, named, none_named, one_word, which_text}

-- ---- lists

-- lists that join to none are none
joined_none : (xs ys : List FlatType) → length (joined xs ys) ≤ 0 → (length xs ≤ 0) × (length ys ≤ 0)
joined_none [] ys h = (omega arith, h)
joined_none (x ∷ xs) [] h = absurd (omega (arith, h))
joined_none (x ∷ xs) (y ∷ ys) h = absurd (omega (arith, h))

-- no core value stands for no flat type
no_cores : (cs : List CoreValue) (fs : List FlatType) → length fs ≤ 0 → AllZip (λ c t. IsValue c t) cs (map value_type fs) → cs ≡ []
no_cores [] fs h t = refl
no_cores (c ∷ cs) [] h t = absurd t
no_cores (c ∷ cs) (f ∷ fs) h t = absurd (omega (arith, h))

both_typed : (fs gs : List FlatType) (cs ds : List CoreValue) → AllZip (λ c t. IsValue c t) cs (map value_type fs) → AllZip (λ c t. IsValue c t) ds (map value_type gs) → AllZip (λ c t. IsValue c t) (cs ++ ds) (map value_type (fs ++ gs))
both_typed fs gs cs ds h g = subst (λ ts. AllZip (λ c t. IsValue c t) (cs ++ ds) ts) (sym (map_behind value_type fs gs)) (zip_behind (λ c t. IsValue c t) cs ds (map value_type fs) (map value_type gs) h g)

-- ---- types

-- the number of a type without members, but texts, is one of its flat type
number_bits : (y : InterfaceType) (v : Value) → (plain_of y ≡ text → ⊥) → (n : HasNumber (plain_of y) (plain_layout y).size32 v) → IsBitsOf (number_flat y) n.number
number_bits ty.Bool v never n = let lt : n.number < 256 = n.small in omega (arith, lt)
number_bits ty.S8 v never n = let lt : n.number < 256 = n.small in omega (arith, lt)
number_bits ty.U8 v never n = let lt : n.number < 256 = n.small in omega (arith, lt)
number_bits ty.S16 v never n = let lt : n.number < 65536 = n.small in omega (arith, lt)
number_bits ty.U16 v never n = let lt : n.number < 65536 = n.small in omega (arith, lt)
number_bits ty.S32 v never n = n.small
number_bits ty.U32 v never n = n.small
number_bits ty.S64 v never n = n.small
number_bits ty.U64 v never n = n.small
number_bits ty.Float32 v never n = n.small
number_bits ty.Float64 v never n = n.small
number_bits ty.Char v never n = n.small
number_bits ty.String v never n = absurd (never refl)
number_bits (ty.Own i) v never n = n.small
number_bits (ty.Borrow i) v never n = n.small
number_bits (ty.ErrorContext i) v never n = n.small
number_bits _ v never n = n.small

flat_number : (w : MemoryWidth) (y : InterfaceType) → (plain_of y ≡ text → ⊥) → flat_plain w y ≡ number_flat y ∷ []
flat_number w ty.String never = absurd (never refl)
flat_number w ty.S64 never = refl
flat_number w ty.U64 never = refl
flat_number w ty.Float32 never = refl
flat_number w ty.Float64 never = refl
flat_number w _ never = refl

-- up to 32 flags are one flat type
one_flat : (n : ℕ) → 1 ≤ n → n ≤ 32 → flags_flat (flags_size n) ≡ 1
one_flat n some few = by_size (n == 0) (nat_le n 8) (nat_le n 16) refl refl refl
  where
    by_size : (a b c : Bool) → (n == 0) ≡ a → nat_le n 8 ≡ b → nat_le n 16 ≡ c → flags_flat (if a then Size0 else (if b then Size1 else (if c then Size2 else Size4Plus (div_ceil n 32)))) ≡ 1
    by_size true b c e f g = absurd (let z : n ≡ 0 = eqb-true n 0 e in omega (arith, z, some))
    by_size false true c e f g = refl
    by_size false false true e f g = refl
    by_size false false false e f g = one_word n (omega (arith, leb-false n 16 g)) few

-- names without types have no flat types
bare_any : (w : MemoryWidth) (ms : Members) → AreBare ms → flat_any w ms ≡ []
bare_any w no_members h = refl
bare_any w (bare n ms) h = bare_any w ms h
bare_any w (typed n s ms) h = absurd h

-- the flat types of two parts
record BothFlat (a b : Option (List FlatType)) (fs : List FlatType) : Type 0 where
  front : List FlatType
  back : List FlatType
  first : a ≡ Some front
  second : b ≡ Some back
  whole : front ++ back ≡ fs

both_flat : (a b : Option (List FlatType)) (fs : List FlatType) → after_flat a b ≡ Some fs → BothFlat a b fs
both_flat None b fs e = absurd (none_some None fs refl e)
both_flat (Some front) None fs e = absurd (none_some None fs refl e)
both_flat (Some front) (Some back) fs e = record { front = front; back = back; first = refl; second = refl; whole = same_some (Some (front ++ back)) (front ++ back) fs refl e }

module _ (side : SideAbi) where
  -- ---- what stands for a value

  -- Core values of the flat types of a type stand for a value, in any memory.
  pub record HasCores (s : Shape) (v : Value) : Type 0 where
    pub cores : List CoreValue
    pub typed : AllZip (λ c t. IsValue c t) cores (map value_type (flat (width_of side) s))
    pub reads : (b : List ℕ) → ReadsAs side s v cores b

  -- so the values of members, and values of one type
  pub record HasMemberCores (ms : Members) (vs : List Value) : Type 0 where
    pub cores : List CoreValue
    pub typed : AllZip (λ c t. IsValue c t) cores (map value_type (flat_members (width_of side) ms))
    pub reads : (b : List ℕ) → ReadsMembersAs side ms vs cores b

  record HasEachCores (s : Shape) (vs : List Value) : Type 0 where
    cores : List CoreValue
    typed : AllZip (λ c t. IsValue c t) cores (map value_type (times (length vs) (flat (width_of side) s)))
    reads : (b : List ℕ) → ReadsEachAs side s vs cores b

  -- the number of a case, whose payload no core value stands for
  pub record HasCaseNumber (ms : Members) (x : List ℕ) (vs : List Value) : Type 0 where
    pub number : ℕ
    pub small : number < count_of_members ms
    pub reads : (b : List ℕ) → ReadsCaseAs side ms number x vs [] b

  pub record Lowers (s : Shape) : Type 0 where
    pub by : length (flat (width_of side) s) ≤ 1 → (v : Value) → IsA s v → HasCores s v

  pub record LowersMembers (ms : Members) : Type 0 where
    pub by : length (flat_members (width_of side) ms) ≤ 1 → (vs : List Value) → AreMembers ms vs → HasMemberCores ms vs

  pub record LowersCases (ms : Members) : Type 0 where
    pub by : length (flat_any (width_of side) ms) ≤ 0 → (x : List ℕ) (vs : List Value) → HasCase ms x vs → HasCaseNumber ms x vs

  abbrev pub LowersFirst : Members → Type 0
  LowersFirst no_members = Unit {0}
  LowersFirst (bare n ms) = Unit {0}
  LowersFirst (typed n s ms) = Lowers s

  -- ---- types without members

  number_lowers : (y : InterfaceType) → (plain_of y ≡ text → ⊥) → Lowers (s_plain y)
  number_lowers y never = record {
    by = λ few v is.
        let n = plain_number y v never (plain_is y v is) in
        let bits : IsBitsOf (number_flat y) n.number = number_bits y v never n in
        let fs : List FlatType = flat_plain (width_of side) y in
        let wide : joined fs fs ≡ fs = joined_same fs in
        record {
          cores = cores_of fs (n.number ∷ []);
          typed = cores_typed fs fs (n.number ∷ []) (refl, wide) (subst (λ gs. AreBitsOf gs (n.number ∷ [])) (sym (flat_number (width_of side) y never)) (bits, tt));
          reads = λ b. number_reads side y v n.number fs b (omega arith, wide) bits n.stands;
        };
  }

  plain_lowers : (y : InterfaceType) → Lowers (s_plain y)
  plain_lowers y = by (which_text y)
    where
      texts : Lowers (s_plain ty.String)
      texts = record { by = λ few v is. absurd (omega (arith, few)) }

      by : IsText y → Lowers (s_plain y)
      by (Texts e) = subst (λ z. Lowers (s_plain z)) (sym e) texts
      by (NoTexts never) = number_lowers y never

  -- ---- records and tuples

  record_lowers : (ms : Members) → LowersMembers ms → Lowers (s_node k_record ms)
  record_lowers ms M = record { by = λ few v is. by few v (out-Value v) (sym (roll-out-Value v)) (record_of ms v is) }
    where
      by : length (flat_members (width_of side) ms) ≤ 1 → (v : Value) (w : Value-F Value) → v ≡ roll-Value w → IsRecord ms (λ vs. AreMembers ms vs) w → HasCores (s_node k_record ms) v
      by few v (o.Record fs) e is =
          let c : HasMemberCores ms (map (λ f. f.1) fs) = M.by few (map (λ f. f.1) fs) is.1 in
          let given : HasCores (s_node k_record ms) (value.Record fs) = record { cores = c.cores; typed = c.typed; reads = λ b. record_reads side ms b c.cores fs is.0 (c.reads b) } in
          subst (λ u. HasCores (s_node k_record ms) u) (sym (e ∙ value.rolls-Record fs)) given
      by few v w e is = absurd is

  tuple_lowers : (ms : Members) → LowersMembers ms → Lowers (s_node k_tuple ms)
  tuple_lowers ms M = record { by = λ few v is. by few v (out-Value v) (sym (roll-out-Value v)) (tuple_of ms v is) }
    where
      by : length (flat_members (width_of side) ms) ≤ 1 → (v : Value) (w : Value-F Value) → v ≡ roll-Value w → IsTuple (λ vs. AreMembers ms vs) w → HasCores (s_node k_tuple ms) v
      by few v (o.Tuple vs) e is =
          let c : HasMemberCores ms vs = M.by few vs is in
          let given : HasCores (s_node k_tuple ms) (value.Tuple vs) = record { cores = c.cores; typed = c.typed; reads = λ b. tuple_reads side ms b c.cores vs (c.reads b) } in
          subst (λ u. HasCores (s_node k_tuple ms) u) (sym (e ∙ value.rolls-Tuple vs)) given
      by few v w e is = absurd is

  -- ---- lists of a fixed length

  each_lowers : (s : Shape) → Lowers s → (vs : List Value) → AllByRecursion (λ v. IsA s v) vs → length (times (length vs) (flat (width_of side) s)) ≤ 1 → HasEachCores s vs
  each_lowers s S [] are few = record { cores = []; typed = tt; reads = λ b. no_elements_read side s b }
  each_lowers s S (v ∷ vs) are few =
      let fs : List FlatType = flat (width_of side) s in
      let rest : List FlatType = times (length vs) fs in
      let sum : length (fs ++ rest) ≡ length fs + length rest = length-append fs rest in
      let all : length (fs ++ rest) ≤ 1 = few in
      let c : HasCores s v = S.by (omega (arith, all, sum)) v are.0 in
      let d : HasEachCores s vs = each_lowers s S vs are.1 (omega (arith, all, sum)) in
      record {
        cores = c.cores ++ d.cores;
        typed = both_typed fs rest c.cores d.cores c.typed d.typed;
        reads = λ b. elements_read side s v vs c.cores d.cores b (as_many_cores c.cores fs c.typed) (c.reads b) (d.reads b);
      }

  one_lowers : (n : ℕ) (x : List ℕ) (s : Shape) → Lowers s → Lowers (s_node (k_fixed n) (typed x s no_members))
  unfolding IsA
  one_lowers n x s S = record { by = λ few v is. by few v (out-Value v) (sym (roll-out-Value v)) (fixed_of n (typed x s no_members) v is) }
    where
      by : length (times n (flat (width_of side) s ++ [])) ≤ 1 → (v : Value) (w : Value-F Value) → v ≡ roll-Value w → IsFixedList n (λ w. IsElement (typed x s no_members) w) w → HasCores (s_node (k_fixed n) (typed x s no_members)) v
      by few v (o.List vs) e is =
          let same : times n (flat (width_of side) s ++ []) ≡ times (length vs) (flat (width_of side) s) = ap (λ k. times k (flat (width_of side) s ++ [])) (sym is.0) ∙ ap (λ l. times (length vs) l) (nothing_behind (flat (width_of side) s)) in
          let c : HasEachCores s vs = each_lowers s S vs is.1 (subst (λ l. length l ≤ 1) same few) in
          let given : HasCores (s_node (k_fixed n) (typed x s no_members)) (value.List vs) = record {
            cores = c.cores;
            typed = subst (λ l. AllZip (λ c t. IsValue c t) c.cores (map value_type l)) (sym same) c.typed;
            reads = λ b. fixed_reads side x s b c.cores n vs is.0 (c.reads b);
          } in
          subst (λ u. HasCores (s_node (k_fixed n) (typed x s no_members)) u) (sym (e ∙ value.rolls-List vs)) given
      by few v w e is = absurd is

  fixed_lowers : (n : ℕ) (ms : Members) → IsWellFormedBy (k_fixed n) ms → LowersFirst ms → Lowers (s_node (k_fixed n) ms)
  fixed_lowers n no_members formed S = absurd (none_named [] refl formed.0)
  fixed_lowers n (bare x ms) formed S = absurd formed.1
  fixed_lowers n (typed x s no_members) formed S = one_lowers n x s S
  fixed_lowers n (typed x s (bare y ms)) formed S = absurd formed.1
  fixed_lowers n (typed x s (typed y u ms)) formed S = absurd (let z : suc (suc (length (names_of ms))) ≡ 1 = ap (λ (l : List (List ℕ)). length l) formed.0 in omega (arith, z))

  -- ---- lists and maps have two flat types

  list_lowers : (ms : Members) → Lowers (s_node k_list ms)
  list_lowers ms = record { by = λ few v is. absurd (omega (arith, few)) }

  map_lowers : (ms : Members) → Lowers (s_node k_map ms)
  map_lowers ms = record { by = λ few v is. absurd (omega (arith, few)) }

  -- ---- flags and handles

  flags_lowers : (ms : Members) → 1 ≤ count_of_members ms → count_of_members ms ≤ 32 → Lowers (s_node k_flags ms)
  flags_lowers ms some few = record { by = λ short v is. by v (out-Value v) (sym (roll-out-Value v)) (flags_of ms v is) }
    where
      slots : flat (width_of side) (s_node k_flags ms) ≡ I32 ∷ []
      slots = ap (λ n. replicate n I32) (one_flat (count_of_members ms) some few)

      by : (v : Value) (w : Value-F Value) → v ≡ roll-Value w → IsFlags ms w → HasCores (s_node k_flags ms) v
      by v (o.Flags fs) e is =
          let n : ℕ = flags_number fs in
          let count : length fs ≡ count_of_members ms = named fs ms is in
          let brief : length fs ≤ 32 = omega (arith, count, few) in
          let most : 2 ^ length fs ≤ 2 ^ 32 = pow-le-pow_right (lit< tt) brief in
          let small : n < 2 ^ 32 = omega (arith, flags_small fs, most) in
          let one : flags_flat (flags_size (length fs)) ≡ 1 = one_flat (length fs) (omega (arith, count, some)) brief in
          let whole : number_of_words (n ∷ []) ≡ n = omega arith in
          let words : AreFlagWords fs (n ∷ []) = (sym one, All-cons (λ w. w < 2 ^ 32) n [] small (All-nil (λ w. w < 2 ^ 32)), ap (flags_of_number (map (λ f. f.0) fs)) whole ∙ flags_back fs) in
          let gs : List FlatType = flat (width_of side) (s_node k_flags ms) in
          let wide : joined gs gs ≡ gs = joined_same gs in
          let given : HasCores (s_node k_flags ms) (value.Flags fs) = record {
            cores = cores_of gs (n ∷ []);
            typed = cores_typed gs gs (n ∷ []) (refl, wide) (subst (λ l. AreBitsOf l (n ∷ [])) (sym slots) (small, tt));
            reads = λ b. flags_read side ms fs (n ∷ []) gs b is words (omega arith, wide);
          } in
          subst (λ u. HasCores (s_node k_flags ms) u) (sym (e ∙ value.rolls-Flags fs)) given
      by v w e is = absurd is

  future_lowers : (table instance : ℕ) (ms : Members) → Lowers (s_node (k_future table instance) ms)
  future_lowers table instance ms = record {
    by = λ few v is.
        let x = handle_number Future table v (future_of table instance ms v is) in
        record {
          cores = core_of I32 x.number ∷ [];
          typed = (core_typed I32 x.number (omega (arith, x.small)), tt);
          reads = λ b. subst (λ u. ReadsAs side (s_node (k_future table instance) ms) u (core_of I32 x.number ∷ []) b) (sym x.is) (future_reads side ms table instance x.number (I32 ∷ []) b (omega arith, refl) x.small);
        };
  }

  stream_lowers : (table instance : ℕ) (ms : Members) → Lowers (s_node (k_stream table instance) ms)
  stream_lowers table instance ms = record {
    by = λ few v is.
        let x = handle_number Stream table v (stream_of table instance ms v is) in
        record {
          cores = core_of I32 x.number ∷ [];
          typed = (core_typed I32 x.number (omega (arith, x.small)), tt);
          reads = λ b. subst (λ u. ReadsAs side (s_node (k_stream table instance) ms) u (core_of I32 x.number ∷ []) b) (sym x.is) (stream_reads side ms table instance x.number (I32 ∷ []) b (omega arith, refl) x.small);
        };
  }

  -- ---- cases

  variant_lowers : (k : Kind) (ms : Members) → IsCaseKind k → flat (width_of side) (s_node k ms) ≡ I32 ∷ flat_any (width_of side) ms → count_of_members ms ≤ 268435456 → LowersCases ms → Lowers (s_node k ms)
  variant_lowers k ms kind flats few C = record {
    by = λ short v is.
        let all : length (I32 ∷ flat_any (width_of side) ms) ≤ 1 = subst (λ l. length l ≤ 1) flats short in
        by (omega (arith, all)) v (out-Value v) (sym (roll-out-Value v)) (case_of k ms v kind is);
  }
    where
      by : length (flat_any (width_of side) ms) ≤ 0 → (v : Value) (w : Value-F Value) → v ≡ roll-Value w → IsCase (λ x vs. HasCase ms x vs) w → HasCores (s_node k ms) v
      by none v (o.Case x vs) e is =
          let c : HasCaseNumber ms x vs = C.by none x vs is in
          let slots : flat (width_of side) (s_node k ms) ≡ I32 ∷ [] = flats ∙ ap (λ l. I32 ∷ l) (nil_from_length (flat_any (width_of side) ms) (omega (arith, none))) in
          let small : c.number < 2 ^ 32 = omega (arith, c.small, few) in
          let given : HasCores (s_node k ms) (value.Case x vs) = record {
            cores = core_of I32 c.number ∷ [];
            typed = subst (λ l. AllZip (λ c t. IsValue c t) (core_of I32 c.number ∷ []) (map value_type l)) (sym slots) (core_typed I32 c.number (omega (arith, small)), tt);
            reads = λ b. case_reads side k ms c.number x vs I32 [] b kind refl small (c.reads b);
          } in
          subst (λ u. HasCores (s_node k ms) u) (sym (e ∙ value.rolls-Case x vs)) given
      by none v w e is = absurd is

  no_case : LowersCases no_members
  unfolding IsA
  no_case = record { by = λ none x vs h. absurd h }

  bare_case : (n : List ℕ) (ms : Members) → LowersCases ms → LowersCases (bare n ms)
  unfolding IsA lift_leading IsByForm
  bare_case n ms C = record { by = λ none x vs h. by none x vs (bytes_eq n x) refl h }
    where
      by : length (flat_any (width_of side) ms) ≤ 0 → (x : List ℕ) (vs : List Value) (b : Bool) → bytes_eq n x ≡ b → chosen b (vs ≡ []) (HasCase ms x vs) → HasCaseNumber (bare n ms) x vs
      by none x vs true e h = record { number = 0; small = omega arith; reads = λ b more. (ap (λ z. Some (value.Case z [])) (bytes_are n x e) ∙ ap (λ us. Some (value.Case x us)) (sym h), tt) }
      by none x vs false e h =
          let c : HasCaseNumber ms x vs = C.by none x vs h in
          record { number = suc c.number; small = omega (arith, c.small); reads = λ b more. c.reads b more }

  typed_case : (n : List ℕ) (s : Shape) (ms : Members) → Lowers s → LowersCases ms → LowersCases (typed n s ms)
  unfolding IsA lift_leading IsByForm
  typed_case n s ms S C = record { by = λ none x vs h. by (joined_none (flat (width_of side) s) (flat_any (width_of side) ms) none) x vs (bytes_eq n x) refl h }
    where
      here : length (flat (width_of side) s) ≤ 0 → (x : List ℕ) (vs : List Value) → bytes_eq n x ≡ true → IsOnePayload (λ v. IsA s v) vs → HasCaseNumber (typed n s ms) x vs
      here none x [] e h = absurd h
      here none x (v ∷ []) e h =
          let c : HasCores s v = S.by (omega (arith, none)) v h in
          let empty : c.cores ≡ [] = no_cores c.cores (flat (width_of side) s) none c.typed in
          record {
            number = 0;
            small = omega arith;
            reads = λ b more.
                let r = subst (λ l. ReadsAs side s v l b) empty (c.reads b) more in
                (ap (option_map (λ w. value.Case n (w ∷ []))) r.0 ∙ ap (λ z. Some (value.Case z (v ∷ []))) (bytes_are n x e), r.1);
          }
      here none x (v ∷ (u ∷ vs)) e h = absurd h

      by : (length (flat (width_of side) s) ≤ 0) × (length (flat_any (width_of side) ms) ≤ 0) → (x : List ℕ) (vs : List Value) (b : Bool) → bytes_eq n x ≡ b → chosen b (IsOnePayload (λ v. IsA s v) vs) (HasCase ms x vs) → HasCaseNumber (typed n s ms) x vs
      by none x vs true e h = here none.0 x vs e h
      by none x vs false e h =
          let c : HasCaseNumber ms x vs = C.by none.1 x vs h in
          record { number = suc c.number; small = omega (arith, c.small); reads = λ b more. c.reads b more }

  -- ---- members

  no_member : LowersMembers no_members
  unfolding IsA
  no_member = record { by = λ few vs are. by vs are }
    where
      by : (vs : List Value) → AreMembers no_members vs → HasMemberCores no_members vs
      by [] are = record { cores = []; typed = tt; reads = λ b. no_members_read side b }
      by (v ∷ vs) are = absurd are

  bare_member : (n : List ℕ) (ms : Members) → LowersMembers ms → LowersMembers (bare n ms)
  unfolding IsA
  bare_member n ms M = record {
    by = λ few vs are.
        let c : HasMemberCores ms vs = M.by few vs are in
        record { cores = c.cores; typed = c.typed; reads = λ b. bare_members_read side n ms vs c.cores b (c.reads b) };
  }

  typed_member : (n : List ℕ) (s : Shape) (ms : Members) → Lowers s → LowersMembers ms → LowersMembers (typed n s ms)
  unfolding IsA
  typed_member n s ms S M = record { by = λ few vs are. by few vs are }
    where
      by : length (flat (width_of side) s ++ flat_members (width_of side) ms) ≤ 1 → (vs : List Value) → AreMembers (typed n s ms) vs → HasMemberCores (typed n s ms) vs
      by few [] are = absurd are
      by few (v ∷ vs) are =
          let fs : List FlatType = flat (width_of side) s in
          let rest : List FlatType = flat_members (width_of side) ms in
          let sum : length (fs ++ rest) ≡ length fs + length rest = length-append fs rest in
          let c : HasCores s v = S.by (omega (arith, few, sum)) v are.0 in
          let d : HasMemberCores ms vs = M.by (omega (arith, few, sum)) vs are.1 in
          record {
            cores = c.cores ++ d.cores;
            typed = both_typed fs rest c.cores d.cores c.typed d.typed;
            reads = λ b. members_read side n s ms v vs c.cores d.cores b (as_many_cores c.cores fs c.typed) (c.reads b) (d.reads b);
          }

  -- ---- any type

  node_lowers : (k : Kind) (ms : Members) → IsValid (s_node k ms) → IsWellFormedBy k ms → LowersMembers ms → LowersCases ms → LowersFirst ms → Lowers (s_node k ms)
  node_lowers k_record ms valid formed M C F = record_lowers ms M
  node_lowers k_tuple ms valid formed M C F = tuple_lowers ms M
  node_lowers k_variant ms valid formed M C F = variant_lowers k_variant ms tt refl valid.ruled.0.few C
  node_lowers k_option ms valid formed M C F = variant_lowers k_option ms tt refl valid.ruled.0.few C
  node_lowers k_result ms valid formed M C F = variant_lowers k_result ms tt refl valid.ruled.0.few C
  node_lowers k_enum ms valid formed M C F = variant_lowers k_enum ms tt (ap (λ l. I32 ∷ l) (sym (bare_any (width_of side) ms formed))) valid.ruled.0.few C
  node_lowers k_list ms valid formed M C F = list_lowers ms
  node_lowers k_map ms valid formed M C F = map_lowers ms
  node_lowers k_flags ms valid formed M C F = flags_lowers ms valid.ruled.0.enough.0 valid.ruled.0.enough.1
  node_lowers (k_fixed n) ms valid formed M C F = fixed_lowers n ms formed F
  node_lowers (k_future table instance) ms valid formed M C F = future_lowers table instance ms
  node_lowers (k_stream table instance) ms valid formed M C F = stream_lowers table instance ms

  mutual
    pub lowers : (s : Shape) → IsValid s → IsWellFormed s → Lowers s
    lowers (s_plain y) valid formed = plain_lowers y
    lowers (s_node k ms) valid formed =
        node_lowers k ms valid formed.0 (members_lower ms (members_valid k ms valid) formed.1) (cases_lower ms (members_valid k ms valid) formed.1) (first_lowers ms (members_valid k ms valid) formed.1)

    members_lower : (ms : Members) → AreValid ms → AreWellFormed ms → LowersMembers ms
    members_lower no_members valid formed = no_member
    members_lower (bare n ms) valid formed = bare_member n ms (members_lower ms valid formed)
    members_lower (typed n s ms) valid formed = typed_member n s ms (lowers s valid.0 formed.0) (members_lower ms valid.1 formed.1)

    cases_lower : (ms : Members) → AreValid ms → AreWellFormed ms → LowersCases ms
    cases_lower no_members valid formed = no_case
    cases_lower (bare n ms) valid formed = bare_case n ms (cases_lower ms valid formed)
    cases_lower (typed n s ms) valid formed = typed_case n s ms (lowers s valid.0 formed.0) (cases_lower ms valid.1 formed.1)

    first_lowers : (ms : Members) → AreValid ms → AreWellFormed ms → LowersFirst ms
    first_lowers no_members valid formed = tt
    first_lowers (bare n ms) valid formed = tt
    first_lowers (typed n s ms) valid formed = lowers s valid.0 formed.0

  -- ---- the values of a tuple

  -- Core values of these flat types stand for the values of types, in any memory.
  pub record HasTupleCores (n : ℕ) (ss : List Shape) (vs : List Value) (fs : List FlatType) : Type 0 where
    pub cores : List CoreValue
    pub typed : AllZip (λ c t. IsValue c t) cores (map value_type fs)
    pub reads : (b : List ℕ) → ReadsTuple side n ss vs cores b

  pub tuple_cores : (n : ℕ) (ss : List Shape) → AllByRecursion IsValid ss → AllByRecursion IsWellFormed ss → (fs : List FlatType) → flat_each (width_of side) ss ≡ Some fs → length fs ≤ 1 → (vs : List Value) → AreMembers (members_from n ss) vs → HasTupleCores n ss vs fs
  unfolding IsA AreByForm
  tuple_cores n [] valid formed fs each few [] are = record { cores = []; typed = subst (λ l. AllZip (λ c t. IsValue c t) [] (map value_type l)) (same_some (Some []) [] fs refl each) tt; reads = λ b. (refl, tt) }
  tuple_cores n [] valid formed fs each few (v ∷ vs) are = absurd are
  tuple_cores n (s ∷ ss) valid formed fs each few [] are = absurd are
  tuple_cores n (s ∷ ss) valid formed fs each few (v ∷ vs) are =
      let q : BothFlat (flat_types (width_of side) s) (flat_each (width_of side) ss) fs = both_flat (flat_types (width_of side) s) (flat_each (width_of side) ss) fs each in
      let own : List FlatType = flat (width_of side) s in
      let front : q.front ≡ own = flats_are 16 own q.front (sym q.first) in
      let flats : Some own ≡ flat_types (width_of side) s = ap Some (sym front) ∙ sym q.first in
      let whole : own ++ q.back ≡ fs = ap (λ l. l ++ q.back) (sym front) ∙ q.whole in
      let sum : length (own ++ q.back) ≡ length own + length q.back = length-append own q.back in
      let all : length (own ++ q.back) ≡ length fs = ap (λ (l : List FlatType). length l) whole in
      let l : Lowers s = lowers s valid.0 formed.0 in
      let c : HasCores s v = l.by (omega (arith, few, all, sum)) v are.0 in
      let d : HasTupleCores (suc n) ss vs q.back = tuple_cores (suc n) ss valid.1 formed.1 q.back q.second (omega (arith, few, all, sum)) vs are.1 in
      record {
        cores = c.cores ++ d.cores;
        typed = subst (λ l. AllZip (λ c t. IsValue c t) (c.cores ++ d.cores) (map value_type l)) whole (both_typed own q.back c.cores d.cores c.typed d.typed);
        reads = λ b. tuple_read side n s ss v vs c.cores d.cores b flats c.typed (c.reads b) (d.reads b);
      }
