-- A run begins with arguments that stand for values, and a return area behind them.
use Rattle.std.proofs.Common.{◌≡◌, ◌≢◌, ℕ, suc, ◌+◌, ◌-◌, ◌%◌, ◌^◌, ◌<◌, ◌≤◌, ◌⊎◌, inl, inr, Bool, true, false, List, [], ◌∷◌, ◌++◌, Option, Some, None, refl, sym, ap, ◌∙◌, subst, arith, length, map, take, drop, length-append}
use Rattle.std.specs.Prelude.{nat_le, cond}
use Rattle.std.specs.Cmp.{first_so}
use Rattle.std.specs.List.{AllZip}
use Rattle.std.proofs.Math.Nat.{mod-eq_of_lt}
use Rattle.std.proofs.lemmas.Bool.{leb-true}
use Rattle.std.proofs.lemmas.List.{take_all, take-append-le, drop-append-le, length-drop}
use Rattle.std.proofs.lemmas.Slice.Zip.{AllZip-long}
use Rattle.indexmap.proofs.SetLemmas.{AllZip-push}
use Rattle.fact_wasm.specs.declared.types.ValType.{ValType}
use Rattle.fact_types.specs.declared.flats.FlatType.{FlatType}
use Rattle.fact_types.specs.declared.extents.MemoryWidth.{MemoryWidth}
use Rattle.fact_types.specs.Flat.{value_type}
use Rattle.fact_types.specs.FlatShapes.{flat, flat_all, flat_each, flat_types, after_flat, upto, when_upto, pointer}
use Rattle.fact_types.specs.Shapes.{Shape}
use Rattle.fact_types.specs.Signatures.{address, flat_params, width}
use Rattle.fact_types.specs.Tables.{Tables}
use Rattle.fact_types.specs.Tuples.{members_from, tuple_members, tuple_of}
use Rattle.fact_machine.specs.declared.types.CoreValue.{CoreValue}
use Rattle.fact_machine.specs.declared.types.MachineState.{MachineState}
use Rattle.fact_machine.specs.Typed.{IsValue}
use Rattle.fact_values.specs.declared.side.SideAbi.{SideAbi}
use Rattle.fact_values.specs.declared.value.Value.{Value}
use Rattle.fact_values.specs.Lift.{bits_of}
use Rattle.fact_values.specs.Places.{extent_on, width_of}
use Rattle.fact_values.specs.Tuples.{flat_or_behind, lower_param_values}
use Rattle.fact_actions.specs.Adapters.{last_bits}
use Rattle.fact_lowering.specs.Lowered.{AreLowered, CanStore, IsAside, LacksRoom, tuple_room}
use Rattle.fact_lowering.specs.Lowerings.{core_of}
use Rattle.fact_lowering.specs.Room.{fits, room}
use Rattle.fact_lowering.specs.TextForms.{AreByForm, AreByFormAt, IsByForm, TupleIsByForm}
use Rattle.fact_lowering.specs.TupleSteps.{IsTupleLowerable}
use Rattle.fact_host.specs.declared.calling.HostCall.{HostCall}
use Rattle.fact_host.specs.Begun.{CanBegin, DiffersIn, HaveArea, HaveAreaBy, IsAreaKept, IsBegun}
use Rattle.fact_host.specs.Contract.{IsHostAreaSound, area_room}
use Rattle.fact_host.specs.Describes.{HasCallShapes}
use Rattle.fact_host.specs.Hosts.{left_state}
use Rattle.fact_host.specs.Rules.{AreWrittenBytes, CallShapes, bytes_of_memory, side_bytes}
use Rattle.fact_host.proofs.Resulting.{left_bytes}
use Rattle.fact_host.proofs.TupleRooms.{tuple_room_most, tuple_room_none}

-- ---- flat types

abbrev all_flat : MemoryWidth → List Shape → List FlatType
all_flat w [] = []
all_flat w (s ∷ ss) = flat w s ++ all_flat w ss

upto_is : (n : ℕ) (xs ys : List FlatType) → upto n xs ≡ Some ys → xs ≡ ys
upto_is n xs ys e = by (nat_le (length xs) n) e
  where
    by : (b : Bool) → cond b (Some xs) None ≡ Some ys → xs ≡ ys
    by true q = cc
    by false q = absurd cc

each_by : (w : MemoryWidth) (s : Shape) (ss : List Shape) (fs : List FlatType) → ((ys : List FlatType) → flat_each w ss ≡ Some ys → all_flat w ss ≡ ys)
    → (o p : Option (List FlatType)) → flat_types w s ≡ o → flat_each w ss ≡ p → after_flat o p ≡ Some fs → flat w s ++ all_flat w ss ≡ fs
each_by w s ss fs rest None p a b q = absurd cc
each_by w s ss fs rest (Some xs) None a b q = absurd cc
each_by w s ss fs rest (Some xs) (Some ys) a b q = let z : xs ++ ys ≡ fs = cc in ap (λ l. l ++ all_flat w ss) (upto_is 16 (flat w s) xs a) ∙ ap (λ l. xs ++ l) (rest ys b) ∙ z

each_is : (w : MemoryWidth) (ss : List Shape) (fs : List FlatType) → flat_each w ss ≡ Some fs → all_flat w ss ≡ fs
each_is w [] fs e = cc
each_is w (s ∷ ss) fs e = each_by w s ss fs (λ ys. each_is w ss ys) (flat_types w s) (flat_each w ss) refl refl e

all_is : (w : MemoryWidth) (limit : ℕ) (ss : List Shape) (fs : List FlatType) → flat_all w limit ss ≡ Some fs → all_flat w ss ≡ fs
all_is w limit ss fs e = by (flat_each w ss) refl e
  where
    by : (o : Option (List FlatType)) → flat_each w ss ≡ o → when_upto limit o ≡ Some fs → all_flat w ss ≡ fs
    by None a q = absurd cc
    by (Some xs) a q = each_is w ss xs a ∙ upto_is limit xs fs q

mapped : (fs : List FlatType) → length (map value_type fs) ≡ length fs
mapped [] = refl
mapped (f ∷ fs) = ap suc (mapped fs)

-- ---- more core values

more_members : (side : SideAbi) (bytes : List ℕ) (n : ℕ) (ss : List Shape) (cs more : List CoreValue) → length (all_flat (width_of side) ss) ≤ length cs → AreByForm side bytes (members_from n ss) cs → AreByForm side bytes (members_from n ss) (cs ++ more)
unfolding AreByForm
more_members side bytes n [] cs more le h = tt
more_members side bytes n (s ∷ ss) cs more le h =
    let k : ℕ = length (flat (width_of side) s) in
    let both : length (flat (width_of side) s ++ all_flat (width_of side) ss) ≡ k + length (all_flat (width_of side) ss) = length-append (flat (width_of side) s) (all_flat (width_of side) ss) in
    let here : k ≤ length cs = omega (arith, both, le) in
    let left : length (drop k cs) ≡ length cs - k = length-drop k cs in (
      subst (IsByForm side bytes s) (sym (take-append-le k cs more here)) h.0,
      subst (AreByForm side bytes (members_from (suc n) ss)) (sym (drop-append-le k cs more here)) (more_members side bytes (suc n) ss (drop k cs) more (omega (arith, both, le, left)) h.1),
    )

-- ---- pointers

pointer_bits : (b : Bool) (place : ℕ) → place < 2 ^ 32 → bits_of (core_of (pointer (width b)) place) ≡ place
pointer_bits false place h = mod-eq_of_lt h
pointer_bits true place h = refl

pointer_value : (b : Bool) (place : ℕ) → place < 2 ^ 32 → IsValue (core_of (pointer (width b)) place) (address b)
pointer_value false place h = (refl, omega arith)
pointer_value true place h = (refl, omega (arith, h))

last_of : (cs : List CoreValue) (v : CoreValue) → last_bits (cs ++ v ∷ []) ≡ bits_of v
last_of [] v = refl
last_of (c ∷ []) v = refl
last_of (c ∷ d ∷ cs) v = last_of (d ∷ cs) v

-- ---- return areas

-- results that are flat have none
pub area_flat : (side : SideAbi) (ss : List Shape) (o : Option (List FlatType)) (flats : List FlatType) (cores : List CoreValue) (low : ℕ) (bytes : List ℕ) → o ≡ Some flats → o ≡ flat_all (width_of side) 1 ss → HaveArea side ss cores cores low low bytes
area_flat side ss o flats cores low bytes is e = subst (λ z. HaveAreaBy side ss z cores cores low low bytes) (sym is ∙ e) (refl, refl)

-- others have one, and a pointer to it
pub area_behind : (side : SideAbi) (ss : List Shape) (o : Option (List FlatType)) (cores args : List CoreValue) (low high place : ℕ) (bytes : List ℕ) (f : FlatType) (v : CoreValue) → o ≡ None → o ≡ flat_all (width_of side) 1 ss
    → IsAside side ss place low high bytes → f ≡ pointer (width_of side) → v ≡ core_of f place → args ≡ cores ++ v ∷ [] → HaveArea side ss cores args low high bytes
area_behind side ss o cores args low high place bytes f v is e aside to_is v_is args_are =
    subst (λ z. HaveAreaBy side ss z cores args low high bytes) (sym is ∙ e) (place, aside, args_are ∙ ap (λ z. cores ++ z ∷ []) (v_is ∙ ap (λ z. core_of z place) to_is))

-- ---- arguments

few_room : (ts us : List Shape) (vs : List Value) → fits ts us vs ≡ true → room ts us vs ≤ 16384
few_room ts us vs h = leb-true (room ts us vs) 16384 (first_so _ _ h)

module _ (c : HostCall) (s : CallShapes) (values : List Value) (before : MachineState) (can : CanBegin c s values before) where
  few : room s.lower_params s.lift_params values ≤ 16384
  few = few_room s.lower_params s.lift_params values can.suited.1

  -- there is room for them
  pub never_lacks : (from_here : ℕ) (bytes : List ℕ) → from_here ≡ 0 → bytes ≡ side_bytes c.lower before → LacksRoom from_here (tuple_room c.lower.abi 16 s.lower_params values) bytes → ⊥
  never_lacks from_here bytes start of less = by c.lower.memory refl of
    where
      by : (o : Option ℕ) → c.lower.memory ≡ o → bytes ≡ bytes_of_memory o before → ⊥
      by None e at =
          let none = tuple_room_none c.lower.abi 16 s.lower_params values (λ p. can.needs.lower_params p e) (λ p. can.needs.lower_params_behind p e) in
          let long : length bytes ≡ 0 = ap length at in
          absurd (omega (arith, less, start, none, long))
      by (Some n) e at =
          let long = ap length at ∙ can.memory n e in
          let most = tuple_room_most c.lower.abi 16 s.lower_params s.lift_params values in
          absurd (omega (arith, less, start, most, few, long))

  differs_by : (o : Option ℕ) (bytes : List ℕ) → AreWrittenBytes bytes → DiffersIn o before (left_state o before bytes)
  differs_by None bytes are = refl
  differs_by (Some n) bytes are = (bytes, refl, are)

  abbrev Stored : List CoreValue → ℕ → List ℕ → Type 0
  Stored cores cursor bytes = AreLowered c.lower.abi 16 s.lower_params values cores 0 cursor (side_bytes c.lower before) bytes

  stands : (bytes : List ℕ) → length bytes ≡ length (side_bytes c.lower before) → side_bytes c.lower (left_state c.lower.memory before bytes) ≡ bytes
  stands bytes same = left_bytes c.lower.memory before bytes same

  as_many : (cores : List CoreValue) (cursor : ℕ) (bytes : List ℕ) → Stored cores cursor bytes → length (flat_params c.lower.abi.memory64 16 s.lower_params) ≡ length cores
  as_many cores cursor bytes l = AllZip-long (λ v ty. IsValue v ty) cores (flat_params c.lower.abi.memory64 16 s.lower_params) l.typed

  first_ones : (cores more : List CoreValue) (n : ℕ) → n ≡ length cores → take n (cores ++ more) ≡ cores
  first_ones cores more n e = take-append-le n cores more (omega (arith, e)) ∙ take_all n cores (omega (arith, e))

  stored_by : (cores more : List CoreValue) (cursor : ℕ) (bytes : List ℕ) → Stored cores cursor bytes → lower_param_values false c.lower.abi bytes s.lower_params (cores ++ more) ≡ Some values
  stored_by cores more cursor bytes l =
      ap (flat_or_behind c.lower.abi bytes 16 s.lower_params) (first_ones cores more (length (flat_params c.lower.abi.memory64 16 s.lower_params)) (as_many cores cursor bytes l)) ∙ l.stands

  -- texts keep their forms where one more core value follows
  abbrev Forms : List ℕ → Option (List FlatType) → List CoreValue → Type 0
  Forms bytes o cs = elim o [
    | Some flats ↦ AreByForm c.lower.abi bytes (tuple_members s.lower_params) cs
    | None ↦ elim cs [ [] ↦ Unit {0} | v ∷ vs ↦ AreByFormAt c.lower.abi bytes (tuple_members s.lower_params) (last_bits (v ∷ [])) 0 ]
  ]

  behind : (bytes : List ℕ) (cs more : List CoreValue) → length cs ≡ 1 → Forms bytes None cs → Forms bytes None (cs ++ more)
  behind bytes [] more one h = absurd (omega (arith, one))
  behind bytes (v ∷ vs) more one h = h

  count_flat : (fs : List FlatType) → flat_all (width_of c.lower.abi) 16 s.lower_params ≡ Some fs → length (flat_params c.lower.abi.memory64 16 s.lower_params) ≡ length fs
  count_flat fs e = rw e (mapped fs)

  count_behind : flat_all (width_of c.lower.abi) 16 s.lower_params ≡ None → length (flat_params c.lower.abi.memory64 16 s.lower_params) ≡ 1
  count_behind e = rw e refl

  forms_by : (cores more : List CoreValue) (cursor : ℕ) (bytes : List ℕ) → Stored cores cursor bytes → TupleIsByForm c.lower.abi bytes 16 s.lower_params (cores ++ more)
  forms_by cores more cursor bytes l = by (flat_all (width_of c.lower.abi) 16 s.lower_params) refl
    where
      by : (o : Option (List FlatType)) → flat_all (width_of c.lower.abi) 16 s.lower_params ≡ o → Forms bytes (flat_all (width_of c.lower.abi) 16 s.lower_params) (cores ++ more)
      by None e = subst (λ o. Forms bytes o (cores ++ more)) (sym e) (behind bytes cores more (sym (as_many cores cursor bytes l) ∙ count_behind e) (subst (λ o. Forms bytes o cores) e l.forms))
      by (Some fs) e =
          subst (λ o. Forms bytes o (cores ++ more)) (sym e)
          (more_members c.lower.abi bytes 0 s.lower_params cores more (omega (arith, as_many cores cursor bytes l, count_flat fs e, ap length (all_is (width_of c.lower.abi) 16 s.lower_params fs e))) (subst (λ o. Forms bytes o cores) e l.forms))

  -- No return area: results are flat.
  pub begun_flat : (cores : List CoreValue) (cursor : ℕ) (bytes : List ℕ) (fs : List FlatType) (state : MachineState) → flat_all (width_of c.lower.abi) 1 s.lower_results ≡ Some fs → AreWrittenBytes bytes → Stored cores cursor bytes
      → state ≡ left_state c.lower.memory before bytes → IsBegun c s values before state cores cursor
  begun_flat cores cursor bytes fs state e are l is = subst (λ st. IsBegun c s values before st cores cursor) (sym is) (record {
    differs = differs_by c.lower.memory bytes are;
    same_length = ap length at ∙ l.same_length;
    typed = rw e (subst (AllZip (λ v ty. IsValue v ty) cores) (sym (no_more (flat_params c.lower.abi.memory64 16 s.lower_params))) l.typed);
    stored = ap (λ z. lower_param_values false c.lower.abi z s.lower_params cores) at ∙ ap (lower_param_values false c.lower.abi bytes s.lower_params) (sym (none_more cores)) ∙ stored_by cores [] cursor bytes l;
    forms = subst (λ z. TupleIsByForm c.lower.abi z 16 s.lower_params cores) (sym at) l.forms;
    area = rw (e, IsHostAreaSound) tt;
    kept = rw (e, IsAreaKept) tt;
    few = (let up = l.rises.few in let most = tuple_room_most c.lower.abi 16 s.lower_params s.lift_params values in omega (arith, up, most));
    inside = (let in_bytes = l.rises.inside in omega (arith, in_bytes, ap length at));
  })
    where
      at : side_bytes c.lower (left_state c.lower.memory before bytes) ≡ bytes
      at = stands bytes l.same_length

      no_more : (ts : List ValType) → ts ++ [] ≡ ts
      no_more [] = refl
      no_more (t ∷ ts) = ap (λ l. t ∷ l) (no_more ts)

      none_more : (vs : List CoreValue) → vs ++ [] ≡ vs
      none_more [] = refl
      none_more (v ∷ vs) = ap (λ l. v ∷ l) (none_more vs)

  -- how long its memory is
  long_by : (o : Option ℕ) → c.lower.memory ≡ o → length (bytes_of_memory o before) ≤ 65536
  long_by None e = omega arith
  long_by (Some n) e = omega (arith, can.memory n e)

  named_long : c.lower.memory ≢ None → length (side_bytes c.lower before) ≡ 65536
  named_long there = by c.lower.memory refl
    where
      by : (o : Option ℕ) → c.lower.memory ≡ o → length (bytes_of_memory o before) ≡ 65536
      by None e = absurd (there e)
      by (Some n) e = can.memory n e

  abbrev size : ℕ
  size = (extent_on c.lower.abi (tuple_of s.lower_results)).size

  abbrev align : ℕ
  align = (extent_on c.lower.abi (tuple_of s.lower_results)).align

  abbrev pointer_to : ℕ → CoreValue
  pointer_to place = core_of (pointer (width_of c.lower.abi)) place

  -- A return area stands behind them, or behind the memory.
  pub begun_behind : (cores : List CoreValue) (low place cursor : ℕ) (bytes : List ℕ) (state : MachineState) → flat_all (width_of c.lower.abi) 1 s.lower_results ≡ None → AreWrittenBytes bytes → Stored cores low bytes → IsAside c.lower.abi s.lower_results place low cursor bytes
      → state ≡ left_state c.lower.memory before bytes → IsBegun c s values before state (cores ++ core_of (pointer (width_of c.lower.abi)) place ∷ []) cursor
  begun_behind cores low place cursor bytes state e are l aside is = subst (λ st. IsBegun c s values before st (cores ++ pointer_to place ∷ []) cursor) (sym is) (record {
    differs = differs_by c.lower.memory bytes are;
    same_length = ap length at ∙ l.same_length;
    typed = rw e (AllZip-push (λ v ty. IsValue v ty) cores (flat_params c.lower.abi.memory64 16 s.lower_params) (pointer_to place) (address c.lower.abi.memory64) l.typed (pointer_value c.lower.abi.memory64 place (omega (arith, small))));
    stored = ap (λ z. lower_param_values false c.lower.abi z s.lower_params (cores ++ pointer_to place ∷ [])) at ∙ stored_by cores (pointer_to place ∷ []) low bytes l;
    forms = subst (λ z. TupleIsByForm c.lower.abi z 16 s.lower_params (cores ++ pointer_to place ∷ [])) (sym at) (forms_by cores (pointer_to place ∷ []) low bytes l);
    area = rw (e, IsHostAreaSound) (λ few_bytes. area_by aside few_bytes);
    kept = rw (e, IsAreaKept) (kept_by aside);
    few = few_by aside;
    inside = inside_by aside;
  })
    where
      at : side_bytes c.lower (left_state c.lower.memory before bytes) ≡ bytes
      at = stands bytes l.same_length

      long : length bytes ≤ 65536
      long = let h = long_by c.lower.memory refl in let same = l.same_length in omega (arith, h, same)

      small_by : IsAside c.lower.abi s.lower_results place low cursor bytes → place ≤ 65536
      small_by (inl t) = let end = t.end in let in_bytes = t.rises.inside in omega (arith, end, in_bytes, long)
      small_by (inr t) = let here = t.1 in omega (arith, here, long)

      small : place ≤ 65536
      small = small_by aside

      last_is : last_bits (cores ++ core_of (pointer (width_of c.lower.abi)) place ∷ []) ≡ place
      last_is = last_of cores (core_of (pointer (width_of c.lower.abi)) place) ∙ pointer_bits c.lower.abi.memory64 place (omega (arith, small))

      most : low ≤ room s.lower_params s.lift_params values
      most = let up = l.rises.few in let all = tuple_room_most c.lower.abi 16 s.lower_params s.lift_params values in omega (arith, up, all)

      area_by : IsAside c.lower.abi s.lower_results place low cursor bytes → size ≤ 16384
          → (last_bits (cores ++ core_of (pointer (width_of c.lower.abi)) place ∷ []) % align ≡ 0) × (last_bits (cores ++ core_of (pointer (width_of c.lower.abi)) place ∷ []) + size ≤ length (side_bytes c.lower (left_state c.lower.memory before bytes)))
      area_by (inl t) little = (ap (λ n. n % align) last_is ∙ t.aligned, (let end = t.end in let in_bytes = t.rises.inside in omega (arith, end, in_bytes, last_is, ap length at)))
      area_by (inr t) little =
          let whole = named_long (can.needs.lower_results_behind e) in
          let same = l.same_length in
          let over = t.0 in
          absurd (omega (arith, over, little, most, few, whole, same))

      kept_by : IsAside c.lower.abi s.lower_results place low cursor bytes
          → (last_bits (cores ++ core_of (pointer (width_of c.lower.abi)) place ∷ []) + size ≤ cursor)
          ⊎ (length (side_bytes c.lower (left_state c.lower.memory before bytes)) ≤ last_bits (cores ++ core_of (pointer (width_of c.lower.abi)) place ∷ []))
      kept_by (inl t) = inl (let end = t.end in omega (arith, end, last_is))
      kept_by (inr t) = inr (let here = t.1 in omega (arith, here, last_is, ap length at))

      area_is : area_room c s ≡ 8 + size
      area_is = rw (e, area_room) refl

      few_by : IsAside c.lower.abi s.lower_results place low cursor bytes → cursor ≤ room s.lower_params s.lift_params values + area_room c s
      few_by (inl t) = let up = t.rises.few in omega (arith, up, most, area_is)
      few_by (inr t) = let same = t.2 in omega (arith, same, most)

      inside_by : IsAside c.lower.abi s.lower_results place low cursor bytes → cursor ≤ length (side_bytes c.lower (left_state c.lower.memory before bytes))
      inside_by (inl t) = let in_bytes = t.rises.inside in omega (arith, in_bytes, ap length at)
      inside_by (inr t) = let same = t.2 in let in_bytes = l.rises.inside in omega (arith, same, in_bytes, ap length at)

  -- With a return area, where there is to be one.
  pub begun : (cores args : List CoreValue) (first : List ℕ) (from_here low cursor : ℕ) (bytes : List ℕ) (state : MachineState) → from_here ≡ 0 → first ≡ side_bytes c.lower before
      → AreLowered c.lower.abi 16 s.lower_params values cores from_here low first bytes → AreWrittenBytes bytes → HaveArea c.lower.abi s.lower_results cores args low cursor bytes
      → state ≡ left_state c.lower.memory before bytes → IsBegun c s values before state args cursor
  begun cores args first from_here low cursor bytes state at of l are area is = by (flat_all (width_of c.lower.abi) 1 s.lower_results) refl area
    where
      own : Stored cores low bytes
      own = subst (λ z. AreLowered c.lower.abi 16 s.lower_params values cores z low (side_bytes c.lower before) bytes) at (subst (λ z. AreLowered c.lower.abi 16 s.lower_params values cores from_here low z bytes) of l)

      by : (o : Option (List FlatType)) → flat_all (width_of c.lower.abi) 1 s.lower_results ≡ o → HaveAreaBy c.lower.abi s.lower_results o cores args low cursor bytes → IsBegun c s values before state args cursor
      by (Some fs) e a = subst (λ z. IsBegun c s values before state z cursor) (sym a.0) (subst (λ z. IsBegun c s values before state cores z) (sym a.1) (begun_flat cores low bytes fs state e are own is))
      by None e a = subst (λ z. IsBegun c s values before state z cursor) (sym a.2) (begun_behind cores low a.0 cursor bytes state e are own a.1 is)

  -- They can be lowered.
  pub arguments_lowerable : (t : Tables) (from_here : ℕ) (first : List ℕ) → HasCallShapes t c s → from_here ≡ 0 → first ≡ side_bytes c.lower before → IsTupleLowerable t c.lower.abi c.lower.params values from_here first
  arguments_lowerable t from_here first shapes at of = record {
    shapes = s.lower_params;
    shaped = shapes.lower_params;
    are = can.suited.0;
    can = record {
      inside = omega (arith, at);
      short = (let long = long_by c.lower.memory refl in let same = ap length of in omega (arith, long, same));
    };
  }

  -- Behind them there can be a return area.
  pub area_storable : (cores : List CoreValue) (first bytes : List ℕ) (from_here low : ℕ) → first ≡ side_bytes c.lower before → AreLowered c.lower.abi 16 s.lower_params values cores from_here low first bytes → CanStore low bytes
  area_storable cores first bytes from_here low of l = record {
    inside = l.rises.inside;
    short = (let long = long_by c.lower.memory refl in let same = ap length of in let after = l.same_length in omega (arith, long, same, after));
  }
