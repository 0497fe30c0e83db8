-- What a callee answers can be stored, wherever there is room for it: as a core value, or behind a pointer.
use Rattle.std.proofs.Common.{◌≡◌, ℕ, suc, ◌+◌, ◌^◌, ◌≤◌, ◌<◌, Bool, true, false, List, [], ◌∷◌, length, Option, Some, None, refl, sym, ap, ◌∙◌, subst, arith}
use Rattle.std.specs.Prelude.{nat_le, if◌then◌else◌}
use Rattle.std.specs.List.{AllByRecursion}
use Rattle.std.proofs.lemmas.Bool.{leb-true}
use Rattle.std.proofs.lemmas.List.Elements.{All-nil}
use Rattle.fact_machine.specs.declared.types.CoreValue.{CoreValue}
use Rattle.fact_machine.specs.declared.types.MachineState.{MachineState}
use Rattle.fact_types.specs.declared.flats.FlatType.{FlatType}
use Rattle.fact_types.specs.FlatShapes.{flat_all, flat_each, pointer, when_upto}
use Rattle.fact_types.specs.Layout.{aligned}
use Rattle.fact_types.specs.Shapes.{Shape, ends_of}
use Rattle.fact_types.specs.Tuples.{members_from, tuple_members, tuple_of}
use Rattle.fact_types.specs.Valid.{IsValid}
use Rattle.fact_types.proofs.AlignLaws.{aligned_bounds}
use Rattle.fact_types.proofs.PlaceLaws.{align_pos}
use Rattle.fact_types.proofs.ShapeLaws.{none_some, same_some}
use Rattle.fact_values.specs.declared.side.SideAbi.{SideAbi}
use Rattle.fact_values.specs.declared.value.Value.{Value}
use Rattle.fact_values.specs.IsA.{AreMembers}
use Rattle.fact_values.specs.Places.{extent_on, width_of}
use Rattle.fact_values.specs.Tuples.{lift_result_values, where_flat}
use Rattle.fact_action_laws.specs.MoveTerms.{IsWellFormed}
use Rattle.fact_action_laws.specs.FaithfulLaws.{AreWellFormedTypes}
use Rattle.fact_action_laws.proofs.Membered.{members_formed}
use Rattle.fact_action_laws.proofs.Theorem.{AreValid}
use Rattle.fact_lowering.specs.Lowered.{AreLowered, IsLoweredTo, IsTakenFor, ReadsMembers, own_rooms, tuple_room}
use Rattle.fact_lowering.specs.Lowerings.{core_of}
use Rattle.fact_lowering.specs.Room.{room}
use Rattle.fact_lowering.specs.TupleSteps.{ReadsTuple, StandsBehind}
use Rattle.fact_lowering.proofs.CoreWrites.{lowered_within, pushed_lowered}
use Rattle.fact_lowering.proofs.SmallAlignments.{small}
use Rattle.fact_lowering.proofs.TupleBehind.{stands_behind, tuple_ends}
use Rattle.fact_lowering.proofs.TuplesDone.{behind_done, each_flat, flat_done, region_taken}
use Rattle.fact_host.specs.declared.known.Known.{Known}
use Rattle.fact_host.specs.Hosts.{cursor_in, left_known, left_state}
use Rattle.fact_host.specs.Lawful.{called_known}
use Rattle.fact_host.specs.Rules.{AreWrittenBytes, StoresAt, bytes_of_memory, cursor_of, memory_at, side_bytes}
use Rattle.fact_host.proofs.Resulting.{left_bytes}
use Rattle.fact_host.proofs.TupleRooms.{tuple_room_most}
use Rattle.fact_call_laws.proofs.Flats.{HasTupleCores, tuple_cores}
use Rattle.fact_call_laws.proofs.Onward.{AllStored, CanBeStored, bytes_in}
use Rattle.fact_call_laws.proofs.Puts.{HasBytes, Puts}
use Rattle.fact_call_laws.proofs.Setting.{Called, Setting, lift_results_are}
use Rattle.fact_call_laws.proofs.Storing.{StoresMembers, all_members, members_stores}

-- Values of these types were lowered behind a cursor, as results are.
record AreLeft (side : SideAbi) (ss : List Shape) (vs : List Value) (low : ℕ) (before : List ℕ) : Type 0 where
  cores : List CoreValue
  high : ℕ
  after : List ℕ
  are : AreWrittenBytes after
  lowered : AreLowered side 1 ss vs cores low high before after

all_valid : (n : ℕ) (ss : List Shape) → AllByRecursion IsValid ss → AreValid (members_from n ss)
all_valid n [] h = tt
all_valid n (s ∷ ss) h = (h.0, all_valid (suc n) ss h.1)

-- flat types that are within a limit
few_flats : (n : ℕ) (o : Option (List FlatType)) (fs : List FlatType) → when_upto n o ≡ Some fs → length fs ≤ n
few_flats n None fs e = absurd (none_some None fs refl e)
few_flats n (Some gs) fs e = by (nat_le (length gs) n) refl e
  where
    by : (b : Bool) → nat_le (length gs) n ≡ b → (if b then Some gs else None) ≡ Some fs → length fs ≤ n
    by true le e =
        let same : gs ≡ fs = same_some (Some gs) gs fs refl e in
        omega (arith, leb-true (length gs) n le, ap (λ (l : List FlatType). length l) same)
    by false le e = absurd (none_some None fs refl e)

module _ (side : SideAbi) (ss : List Shape) (vs : List Value) (valid : AllByRecursion IsValid ss) (formed : AllByRecursion IsWellFormed ss) (are : AreMembers (tuple_members ss) vs) where
  -- ---- as core values

  left_flat : (fs : List FlatType) (low : ℕ) (m : List ℕ) → flat_all (width_of side) 1 ss ≡ Some fs → low ≤ length m → AreWrittenBytes m → AreLeft side ss vs low m
  left_flat fs low m e inside bytes =
      let each : flat_each (width_of side) ss ≡ Some fs = each_flat (width_of side) 1 ss fs (sym e) in
      let c : HasTupleCores side 0 ss vs fs = tuple_cores side 0 ss valid formed fs each (few_flats 1 (flat_each (width_of side) ss) fs e) vs are in
      let none : IsLoweredTo (λ cs other. ReadsTuple side 0 ss vs cs other) fs low low 0 m m [] c.cores = pushed_lowered c.cores fs refl c.typed c.reads inside in
      let lowered : IsLoweredTo (λ cs other. ReadsTuple side 0 ss vs cs other) fs low low (own_rooms side (tuple_members ss) vs) m m [] c.cores = lowered_within (omega arith) none in
      record { cores = c.cores; high = low; after = m; are = bytes; lowered = flat_done side 1 ss vs fs c.cores low low m m (sym e) lowered }

  -- ---- behind a pointer

  abbrev size : ℕ
  size = (extent_on side (tuple_of ss)).size

  left_behind : (low : ℕ) (m : List ℕ) → flat_all (width_of side) 1 ss ≡ None → HasBytes low (8 + size + own_rooms side (tuple_members ss) vs) m → AreLeft side ss vs low m
  left_behind low m none h =
      let align : ℕ = (extent_on side (tuple_of ss)).align in
      let place : ℕ = aligned low align in
      let middle : ℕ = place + size in
      let bounds = aligned_bounds low align (align_pos (width_of side) (tuple_of ss)) in
      let near : align ≤ 8 = small (width_of side) (tuple_of ss) in
      let fits : middle + own_rooms side (tuple_members ss) vs ≤ length m = omega (arith, h.fits, bounds.1, near) in
      let brief : length m < 2 ^ 31 = h.short in
      let ends : ends_of (width_of side) (tuple_members ss) 0 ≤ size = tuple_ends side ss in
      let taken : IsTakenFor side ss place low middle m = region_taken side ss low m place middle refl refl (omega (arith, fits)) in
      let stores : StoresMembers side (tuple_members ss) = members_stores side (tuple_members ss) (all_valid 0 ss valid) (members_formed 0 ss formed) in
      let p : Puts (ReadsMembers side (tuple_members ss) vs place 0) place (ends_of (width_of side) (tuple_members ss) 0) middle (own_rooms side (tuple_members ss) vs) m =
      all_members side (tuple_members ss) stores vs are place middle (ends_of (width_of side) (tuple_members ss) 0) m (omega arith) (omega (arith, ends)) (record { fits = fits; short = h.short; are = h.are }) in
      let c : CoreValue = core_of (pointer (width_of side)) place in
      let stands : StandsBehind side ss vs (c ∷ []) low p.high m p.after = stands_behind side ss vs low m place middle p.high p.after (c ∷ []) c taken brief refl refl p.written in
      record { cores = c ∷ []; high = p.high; after = p.after; are = p.are; lowered = behind_done side 1 ss vs (c ∷ []) low p.high m p.after (sym none) stands }

-- ---- as results

stored_at : (k : Known) (before : MachineState) (side : SideAbi) (ss : List Shape) (vs : List Value) (o : Option ℕ) (cores : List CoreValue) (bytes : List ℕ) (cursor most : ℕ) → AreWrittenBytes bytes
    → AreLowered side 1 ss vs cores (cursor_in o k) cursor (bytes_of_memory o before) bytes → tuple_room side 1 ss vs ≤ most → StoresAt k (left_known o (called_known k) cursor) before (left_state o before bytes) most o
stored_at k before side ss vs None cores bytes cursor most are l le = (refl, refl)
stored_at k before side ss vs (Some n) cores bytes cursor most are l le =
    let up = l.rises.up in
    let few = l.rises.few in
    (bytes, cursor, refl, refl, are, l.same_length, l.kept, up, omega (arith, few, le), l.rises.inside)

module _ (x : Setting) (h : Called x) where
  abbrev abi : SideAbi
  abi = x.call.lift.abi

  abbrev results : List Shape
  results = x.shapes.lift_results

  types : AreWellFormedTypes results
  types = subst AreWellFormedTypes (lift_results_are x h) h.promised.checked.lift_results

  stored : CanBeStored x
  stored k before typed fit =
      let own : Option ℕ = x.call.lift.memory in
      let l : AreLeft abi results x.answered (cursor_in own k) (bytes_of_memory own before) = left own refl (flat_all (width_of abi) 1 results) refl in
      let after : MachineState = left_state own before l.after in
      let stands : side_bytes x.call.lift after ≡ l.after = left_bytes own before l.after l.lowered.same_length in
      record {
        results = l.cores;
        after = after;
        known = left_known own (called_known k) l.high;
        core = l.lowered.typed;
        stores = record {
          lifts = ap (λ z. lift_result_values false abi z results l.cores) stands ∙ l.lowered.stands;
          stored = stored_at k before abi results x.answered own l.cores l.after l.high (room results x.shapes.lower_results x.answered) l.are l.lowered most;
        };
      }
    where
      most : tuple_room abi 1 results x.answered ≤ room results x.shapes.lower_results x.answered
      most = tuple_room_most abi 1 results x.shapes.lower_results x.answered

      left : (o : Option ℕ) → x.call.lift.memory ≡ o → (fs : Option (List FlatType)) → flat_all (width_of abi) 1 results ≡ fs → AreLeft abi results x.answered (cursor_in o k) (bytes_of_memory o before)
      left None e None flat = absurd (h.callable.needs.lift_results_behind flat e)
      left None e (Some fs) flat = left_flat abi results x.answered types.valid types.formed h.answer_suited fs 0 [] flat (omega arith) (All-nil (λ b. b < 256))
      left (Some n) e (Some fs) flat =
          let f = fit n e in
          let inside : cursor_of k n ≤ length (memory_at before n) = omega (arith, f.0) in
          left_flat abi results x.answered types.valid types.formed h.answer_suited fs (cursor_of k n) (memory_at before n) flat inside (bytes_in x.code before typed n)
      left (Some n) e None flat =
          let f = fit n e in
          let own : ℕ = own_rooms abi (tuple_members results) x.answered in
          let size : ℕ = (extent_on abi (tuple_of results)).size in
          let whole : tuple_room abi 1 results x.answered ≡ 8 + size + own = ap (λ o. where_flat o own (8 + size + own)) flat in
          let fits : cursor_of k n + (8 + size + own) ≤ length (memory_at before n) = omega (arith, f.0, whole, most) in
          let brief : length (memory_at before n) < 2 ^ 31 = omega (arith, f.1) in
          left_behind abi results x.answered types.valid types.formed h.answer_suited (cursor_of k n) (memory_at before n) flat (record { fits = fits; short = brief; are = bytes_in x.code before typed n })

pub all_stored : AllStored
all_stored x h = stored x h
