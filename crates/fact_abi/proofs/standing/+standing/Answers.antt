use Rattle.std.proofs.Common.{◌≡◌, ◌∙◌, ◌+◌, ◌-◌, max, take, get_or, ap, sym, subst, refl, arith, length, drop, ◌∷◌, List, ℕ}
use Rattle.std.specs.Prelude.{slice_get, replicate, option_map}
use Rattle.fact_machine.specs.declared.types.CoreValue.TheVariants as core
use Rattle.fact_types.specs.FlatShapes.{flat, flat_any}
use Rattle.fact_types.specs.Layout.{flags_size, flags_flat}
use Rattle.fact_types.specs.declared.flats.FlatType.TheVariants.{I32}
use Rattle.fact_types.specs.Signatures.{width}
use Rattle.fact_abi.specs.declared.nodes.NodeKind.TheVariants as is
use Rattle.fact_values.specs.Formed.{IsFormed}
use Rattle.fact_abi.specs.Leading.{leading, Adding, IsWidening}
use Rattle.fact_abi.specs.Nodes.{IsNodeOf, AreOf, AreLower}
use Rattle.fact_values.proofs.FormedLaws.{formed}
use Rattle.fact_abi.proofs.KindLaws.{if_ok}
use Rattle.fact_abi.proofs.LeadingLaws.{at_some, from_place, split_first, still_within, adding_starts, adding_past, adding_on, not_added, all_added, widening_starts, widening_past, widening_on, not_widened, all_widened, counting_starts, counting_on, not_counted, all_counted, discriminant_leads, no_discriminant, plain_leads, enum_leads, flags_lead, fixed_list_leads}
use Rattle.fact_abi.proofs.LoadLaws.{by_kind, of_kind, member_within}
use Rattle.fact_abi.proofs.TextLaws.{is_nil}
use Rattle.fact_abi.proofs.standing.+standing.Goals as goal
use Rattle.fact_abi.proofs.standing.+standing.Goals.{leading_members-in-Some+in_ok-count+in-Some-2, leading_members-in_default, leading_payloads-in-Some+in_ok-count+in-Some-2, leading_payloads-in_default}

pub leading_values-returns-in-None-clause-value : goal.leading_values-returns-in-None-clause-value
leading_values-returns-in-None-clause-value t c =
    let none = subst (IsNodeOf c.args.types.now c.args.ty.now) c.in-None.is c.in_ok-node_of_type.ensures in
    λ s h. plain_leads (width c.args.side.now.memory64) c.args.values.now c.args.ty.now s c.leading_plain.result (none s h) c.leading_plain.ensures.value

pub leading_of_node-returns-in-Record-clause-value : goal.leading_of_node-returns-in-Record-clause-value
leading_of_node-returns-in-Record-clause-value t c =
    if_ok _ _ c.leading_members.result (λ o e. by_kind c.args.types.now c.args.ty.now c.args.node.now is.Record (λ s. o ≡ leading (flat (width c.args.side.now.memory64) s) c.args.values.now) c.requires.told c.in-Record.is (λ ms told. e ms (subst (λ xs. AreOf c.args.types.now xs ms) (sym c.as_slice-members.ensures) told.1))) c.leading_members.ensures.value

pub leading_of_node-returns-in-Tuple-clause-value : goal.leading_of_node-returns-in-Tuple-clause-value
leading_of_node-returns-in-Tuple-clause-value t c =
    if_ok _ _ c.leading_members-in-Tuple.result (λ o e. by_kind c.args.types.now c.args.ty.now c.args.node.now is.Tuple (λ s. o ≡ leading (flat (width c.args.side.now.memory64) s) c.args.values.now) c.requires.told c.in-Tuple.is (λ ms told. e ms (subst (λ xs. AreOf c.args.types.now xs ms) (sym c.as_slice-members.ensures) told))) c.leading_members-in-Tuple.ensures.value

pub leading_of_node-returns-in-Variant-clause-value : goal.leading_of_node-returns-in-Variant-clause-value
leading_of_node-returns-in-Variant-clause-value t c =
    if_ok _ _ c.leading_case.result (λ o e. by_kind c.args.types.now c.args.ty.now c.args.node.now is.Variant (λ s. o ≡ leading (flat (width c.args.side.now.memory64) s) c.args.values.now) c.requires.told c.in-Variant.is (λ ms told. e ms (subst (λ xs. AreOf c.args.types.now xs ms) (sym c.as_slice-members.ensures) told.1))) c.leading_case.ensures.value

pub leading_of_node-returns-in-Option-clause-value : goal.leading_of_node-returns-in-Option-clause-value
leading_of_node-returns-in-Option-clause-value t c =
    if_ok _ _ c.leading_case-in-Option.result (λ o e. by_kind c.args.types.now c.args.ty.now c.args.node.now is.Option (λ s. o ≡ leading (flat (width c.args.side.now.memory64) s) c.args.values.now) c.requires.told c.in-Option.is (λ ms told. e ms (subst (λ xs. AreOf c.args.types.now xs ms) (sym c.as_slice-members.ensures) told.1))) c.leading_case-in-Option.ensures.value

pub leading_of_node-returns-in-Result-clause-value : goal.leading_of_node-returns-in-Result-clause-value
leading_of_node-returns-in-Result-clause-value t c =
    if_ok _ _ c.leading_case-in-Result.result (λ o e. by_kind c.args.types.now c.args.ty.now c.args.node.now is.Result (λ s. o ≡ leading (flat (width c.args.side.now.memory64) s) c.args.values.now) c.requires.told c.in-Result.is (λ ms told. e ms (subst (λ xs. AreOf c.args.types.now xs ms) (sym c.as_slice-members.ensures) told.1))) c.leading_case-in-Result.ensures.value

pub leading_of_node-returns-in-Enum-clause-value : goal.leading_of_node-returns-in-Enum-clause-value
leading_of_node-returns-in-Enum-clause-value t c =
    if_ok _ _ c.leading_case-in-Enum.result (λ o e s h.
    let q = of_kind c.args.types.now c.args.ty.now c.args.node.now is.Enum s c.requires.told c.in-Enum.is h in
    let bare = (subst IsFormed q.is (formed c.args.types.now c.args.ty.now s h)).0 in
    enum_leads (width c.args.side.now.memory64) c.args.values.now q.members o bare (e q.members (subst (λ xs. AreOf c.args.types.now xs q.members) (sym c.as_slice-members.ensures) q.told.1)) ∙ ap (λ s. leading (flat (width c.args.side.now.memory64) s) c.args.values.now) (sym q.is)) c.leading_case-in-Enum.ensures.value

pub leading_of_node-returns-in-List-clause-value : goal.leading_of_node-returns-in-List-clause-value
leading_of_node-returns-in-List-clause-value t c =
    by_kind c.args.types.now c.args.ty.now c.args.node.now (is.List c.in-List.field-0) (λ s. c.leading_same.result ≡ leading (flat (width c.args.side.now.memory64) s) c.args.values.now) c.requires.told c.in-List.is (λ ms told. c.leading_same.ensures.value ∙ ap (λ f. leading (replicate 2 f) c.args.values.now) c.pointer_of.ensures)

pub leading_of_node-returns-in-Map-clause-value : goal.leading_of_node-returns-in-Map-clause-value
leading_of_node-returns-in-Map-clause-value t c =
    by_kind c.args.types.now c.args.ty.now c.args.node.now (is.Map c.in-Map.field-0 c.in-Map.field-1) (λ s. c.leading_same-in-Map.result ≡ leading (flat (width c.args.side.now.memory64) s) c.args.values.now) c.requires.told c.in-Map.is (λ ms told. c.leading_same-in-Map.ensures.value ∙ ap (λ f. leading (replicate 2 f) c.args.values.now) c.pointer_of-in-Map.ensures)

pub leading_of_node-returns-in-Flags-clause-value : goal.leading_of_node-returns-in-Flags-clause-value
leading_of_node-returns-in-Flags-clause-value t c =
    by_kind c.args.types.now c.args.ty.now c.args.node.now is.Flags (λ s. c.leading_same-in-Flags.result ≡ leading (flat (width c.args.side.now.memory64) s) c.args.values.now) c.requires.told c.in-Flags.is (λ ms told. flags_lead (width c.args.side.now.memory64) c.args.values.now ms c.args.node.now.names c.flags_words.result _ told (c.flags_words.ensures ∙ ap (λ (ns : List (List ℕ)). flags_flat (flags_size (length ns))) c.as_slice.ensures) c.leading_same-in-Flags.ensures.value)

pub leading_of_node-returns-in-Future-clause-value : goal.leading_of_node-returns-in-Future-clause-value
leading_of_node-returns-in-Future-clause-value t c =
    by_kind c.args.types.now c.args.ty.now c.args.node.now (is.Future c.in-Future.field-0 c.in-Future.field-1) (λ s. c.leading_same-in-Future.result ≡ leading (flat (width c.args.side.now.memory64) s) c.args.values.now) c.requires.told c.in-Future.is (λ ms told. c.leading_same-in-Future.ensures.value)

pub leading_of_node-returns-in-Stream-clause-value : goal.leading_of_node-returns-in-Stream-clause-value
leading_of_node-returns-in-Stream-clause-value t c =
    by_kind c.args.types.now c.args.ty.now c.args.node.now (is.Stream c.in-Stream.field-0 c.in-Stream.field-1) (λ s. c.leading_same-in-Stream.result ≡ leading (flat (width c.args.side.now.memory64) s) c.args.values.now) c.requires.told c.in-Stream.is (λ ms told. c.leading_same-in-Stream.ensures.value)

pub leading_of_node-returns-in-FixedList-clause-value : goal.leading_of_node-returns-in-FixedList-clause-value
leading_of_node-returns-in-FixedList-clause-value t c =
    if_ok _ _ c.leading_elements.result (λ o e. by_kind c.args.types.now c.args.ty.now c.args.node.now (is.FixedList c.in-FixedList.count c.in-FixedList.element) (λ s. o ≡ leading (flat (width c.args.side.now.memory64) s) c.args.values.now) c.requires.told c.in-FixedList.is (λ ms told. fixed_list_leads (width c.args.side.now.memory64) c.args.values.now c.args.types.now c.in-FixedList.element c.in-FixedList.count ms o (subst (λ xs. AreOf c.args.types.now xs ms) told.0 told.1) e)) c.leading_elements.ensures.value

pub leading_of_node-leading_members-requires : goal.leading_of_node-leading_members-requires
leading_of_node-leading_members-requires t c = (omega (arith, c.decreases), subst (λ xs. AreLower c.args.types.now c.args.ty.now xs) (sym c.as_slice-members.ensures) c.requires.told.within)

pub leading_of_node-leading_members-requires-in-Tuple : goal.leading_of_node-leading_members-requires-in-Tuple
leading_of_node-leading_members-requires-in-Tuple t c = (omega (arith, c.decreases), subst (λ xs. AreLower c.args.types.now c.args.ty.now xs) (sym c.as_slice-members.ensures) c.requires.told.within)

pub leading_of_node-leading_case-requires : goal.leading_of_node-leading_case-requires
leading_of_node-leading_case-requires t c = (omega (arith, c.decreases), subst (λ xs. AreLower c.args.types.now c.args.ty.now xs) (sym c.as_slice-members.ensures) c.requires.told.within)

pub leading_of_node-leading_case-requires-in-Enum : goal.leading_of_node-leading_case-requires-in-Enum
leading_of_node-leading_case-requires-in-Enum t c = (omega (arith, c.decreases), subst (λ xs. AreLower c.args.types.now c.args.ty.now xs) (sym c.as_slice-members.ensures) c.requires.told.within)

pub leading_of_node-leading_case-requires-in-Option : goal.leading_of_node-leading_case-requires-in-Option
leading_of_node-leading_case-requires-in-Option t c = (omega (arith, c.decreases), subst (λ xs. AreLower c.args.types.now c.args.ty.now xs) (sym c.as_slice-members.ensures) c.requires.told.within)

pub leading_of_node-leading_case-requires-in-Result : goal.leading_of_node-leading_case-requires-in-Result
leading_of_node-leading_case-requires-in-Result t c = (omega (arith, c.decreases), subst (λ xs. AreLower c.args.types.now c.args.ty.now xs) (sym c.as_slice-members.ensures) c.requires.told.within)

pub leading_of_node-leading_elements-requires : goal.leading_of_node-leading_elements-requires
leading_of_node-leading_elements-requires t c =
    let (s, h, d) = c.canonical_abi-whole.ensures.shaped in
    let q = of_kind c.args.types.now c.args.ty.now c.args.node.now (is.FixedList c.in-FixedList.count c.in-FixedList.element) s c.requires.told c.in-FixedList.is h in
    (omega (arith, c.decreases), c.requires.told.within.each 0 c.in-FixedList.element (ap (λ xs. slice_get xs 0) q.told.0))

pub leading_members-loop-member-init : goal.leading_members-loop-member-init
leading_members-loop-member-init t c = (omega arith, λ ms are. adding_starts c.args.types.now (width c.args.side.now.memory64) c.args.values.now ms c.args.members.now are)

pub leading_members-leading_values-requires : goal.leading_members-leading_values-requires
leading_members-leading_values-requires t c =
    let w = member_within c.args.types.now c.args.owner.now c.args.members.now _ c.in-Some.ty c.requires c.loop-member-test.true c.in-Some.is in
    (omega (arith, w.lower, c.decreases), w.live)

pub leading_members-returns-in_default-2-clause-value : goal.leading_members-returns-in_default-2-clause-value
leading_members-returns-in_default-2-clause-value t c =
    λ ms are. not_added c.args.types.now (width c.args.side.now.memory64) c.args.values.now ms c.args.members.now _ c.loop-member.total c.in-Some.ty c.loop-member-test.true c.in-Some.is (λ s h. sym c.in_default-2.is ∙ c.in_ok-count.ensures.value s h ∙ ap (leading (flat (width c.args.side.now.memory64) s)) (from_place c.loop-member.total c.args.values.now)) (c.loop-member.invariant.1 ms are)

pub leading_members-loop-member-preserved : goal.leading_members-loop-member-preserved
leading_members-loop-member-preserved t c =
    elim c.match-member.branch [
      | leading_members-in-Some+in_ok-count+in-Some-2 w ↦ (
        still_within c.args.values.now c.loop-member.total w.in-Some-2.count c.match-member.total w.in_ok-count.field-0 c.loop-member.invariant.0 w.in-Some-2.is w.in_ok-count.ensures.few w.total-is,
        λ ms are. adding_on c.args.types.now (width c.args.side.now.memory64) c.args.values.now ms c.args.members.now c.loop-member.member-index c.loop-member.total w.in-Some-2.count c.match-member.total w.in-Some.ty c.loop-member-test.true w.in-Some.is (λ s h. sym w.in-Some-2.is ∙ w.in_ok-count.ensures.value s h ∙ ap (leading (flat (width c.args.side.now.memory64) s)) (from_place c.loop-member.total c.args.values.now)) w.total-is (c.loop-member.invariant.1 ms are),
      )
      | leading_members-in_default w ↦ (
        omega (arith, w.total-is, c.loop-member.invariant.0),
        λ ms are. subst (λ n. Adding c.args.types.now (width c.args.side.now.memory64) c.args.values.now ms c.args.members.now (c.loop-member.member-index + 1) n) (sym w.total-is)
            (adding_past c.args.types.now (width c.args.side.now.memory64) c.args.values.now ms c.args.members.now c.loop-member.member-index c.loop-member.total c.loop-member-test.true w.in_default.is (c.loop-member.invariant.1 ms are)),
      )
    ]

pub leading_members-returns-clause-value : goal.leading_members-returns-clause-value
leading_members-returns-clause-value t c = λ ms are. all_added c.args.types.now (width c.args.side.now.memory64) c.args.values.now ms c.args.members.now _ c.loop-member.total (omega (arith, c.loop-member-test.false)) (c.loop-member.invariant.1 ms are)

pub leading_case-returns-in-None-clause-value : goal.leading_case-returns-in-None-clause-value
leading_case-returns-in-None-clause-value t c =
    λ ms are. ap (option_map (λ n. 1 + n)) (sym c.in-None.is) ∙ discriminant_leads (flat_any (width c.args.side.now.memory64) ms) (get_or c.args.values.now 0 (core.I32 0)) (take (length c.args.values.now - 1) (drop 1 c.args.values.now)) c.in_ok-most.field-0 (sym c.can_stand.ensures ∙ c.if-not-can_stand.false) (c.in_ok-most.ensures.value ms are) ∙ ap (leading (I32 ∷ flat_any (width c.args.side.now.memory64) ms)) (sym (split_first (core.I32 0) c.args.values.now c.in-len1-up.len_at_least))

pub leading_case-returns-in-Some-clause-value : goal.leading_case-returns-in-Some-clause-value
leading_case-returns-in-Some-clause-value t c =
    λ ms are. ap (option_map (λ n. 1 + n)) (sym c.in-Some.is) ∙ discriminant_leads (flat_any (width c.args.side.now.memory64) ms) (get_or c.args.values.now 0 (core.I32 0)) (take (length c.args.values.now - 1) (drop 1 c.args.values.now)) c.in_ok-most.field-0 (sym c.can_stand.ensures ∙ c.if-not-can_stand.false) (c.in_ok-most.ensures.value ms are) ∙ ap (leading (I32 ∷ flat_any (width c.args.side.now.memory64) ms)) (sym (split_first (core.I32 0) c.args.values.now c.in-len1-up.len_at_least))

pub leading_case-returns-in_default-clause-value : goal.leading_case-returns-in_default-clause-value
leading_case-returns-in_default-clause-value t c = λ ms are. ap (leading (I32 ∷ flat_any (width c.args.side.now.memory64) ms)) (sym (is_nil c.args.values.now c.in_default.len_below))

pub leading_case-returns-then-not-can_stand-clause-value : goal.leading_case-returns-then-not-can_stand-clause-value
leading_case-returns-then-not-can_stand-clause-value t c =
    λ ms are. no_discriminant (flat_any (width c.args.side.now.memory64) ms) (get_or c.args.values.now 0 (core.I32 0)) (take (length c.args.values.now - 1) (drop 1 c.args.values.now)) (sym c.can_stand.ensures ∙ c.if-not-can_stand.true) ∙ ap (leading (I32 ∷ flat_any (width c.args.side.now.memory64) ms)) (sym (split_first (core.I32 0) c.args.values.now c.in-len1-up.len_at_least))

pub leading_payloads-loop-case-init : goal.leading_payloads-loop-case-init
leading_payloads-loop-case-init t c = (omega arith, λ ms are. widening_starts c.args.types.now (width c.args.side.now.memory64) c.args.values.now ms c.args.cases.now are)

pub leading_payloads-leading_values-requires : goal.leading_payloads-leading_values-requires
leading_payloads-leading_values-requires t c =
    let w = member_within c.args.types.now c.args.owner.now c.args.cases.now _ c.in-Some.ty c.requires c.loop-case-test.true c.in-Some.is in
    (omega (arith, w.lower, c.decreases), w.live)

pub leading_payloads-returns-in_default-2-clause-value : goal.leading_payloads-returns-in_default-2-clause-value
leading_payloads-returns-in_default-2-clause-value t c =
    λ ms are. not_widened c.args.types.now (width c.args.side.now.memory64) c.args.values.now ms c.args.cases.now _ c.loop-case.most c.in-Some.ty c.loop-case-test.true c.in-Some.is (λ s h. sym c.in_default-2.is ∙ c.in_ok-count.ensures.value s h) (c.loop-case.invariant.1 ms are)

pub leading_payloads-loop-case-preserved : goal.leading_payloads-loop-case-preserved
leading_payloads-loop-case-preserved t c =
    elim c.match-case.branch [
      | leading_payloads-in-Some+in_ok-count+in-Some-2 w ↦
          (let few = at_some w.in_ok-count.field-0 w.in-Some-2.count (length c.args.values.now) w.in-Some-2.is w.in_ok-count.ensures.few in
          let most : c.match-case.most ≡ max w.in-Some-2.count c.loop-case.most = w.most-is ∙ w.max-most.ensures in (
            omega (arith, few, most, c.loop-case.invariant.0),
            λ ms are. widening_on c.args.types.now (width c.args.side.now.memory64) c.args.values.now ms c.args.cases.now c.loop-case.case-index c.loop-case.most w.in-Some-2.count c.match-case.most w.in-Some.ty c.loop-case-test.true w.in-Some.is (λ s h. sym w.in-Some-2.is ∙ w.in_ok-count.ensures.value s h) most (c.loop-case.invariant.1 ms are),
          ))
      | leading_payloads-in_default w ↦ (
        omega (arith, w.most-is, c.loop-case.invariant.0),
        λ ms are. subst (λ n. IsWidening c.args.types.now (width c.args.side.now.memory64) c.args.values.now ms c.args.cases.now (c.loop-case.case-index + 1) n) (sym w.most-is)
            (widening_past c.args.types.now (width c.args.side.now.memory64) c.args.values.now ms c.args.cases.now c.loop-case.case-index c.loop-case.most c.loop-case-test.true w.in_default.is (c.loop-case.invariant.1 ms are)),
      )
    ]

pub leading_payloads-returns-clause-value : goal.leading_payloads-returns-clause-value
leading_payloads-returns-clause-value t c = λ ms are. all_widened c.args.types.now (width c.args.side.now.memory64) c.args.values.now ms c.args.cases.now _ c.loop-case.most (omega (arith, c.loop-case-test.false)) (c.loop-case.invariant.1 ms are)

pub leading_elements-loop-init : goal.leading_elements-loop-init
leading_elements-loop-init t c = (omega arith, λ s h. counting_starts (flat (width c.args.side.now.memory64) s) c.args.count c.args.values.now)

pub leading_elements-leading_values-requires : goal.leading_elements-leading_values-requires
leading_elements-leading_values-requires t c = (omega (arith, c.requires.lower, c.decreases), c.requires.live)

pub leading_elements-returns-in_default-clause-value : goal.leading_elements-returns-in_default-clause-value
leading_elements-returns-in_default-clause-value t c =
    λ s h. not_counted (flat (width c.args.side.now.memory64) s) c.args.count c.args.values.now c.loop.counter c.loop.total c.loop-test.true (sym c.in_default.is ∙ c.in_ok-size.ensures.value s h ∙ ap (leading (flat (width c.args.side.now.memory64) s)) (from_place c.loop.total c.args.values.now)) (c.loop.invariant.1 s h)

pub leading_elements-loop-preserved : goal.leading_elements-loop-preserved
leading_elements-loop-preserved t c = (
  still_within c.args.values.now c.loop.total c.in-Some.size (c.loop.total + c.in-Some.size) c.in_ok-size.field-0 c.loop.invariant.0 c.in-Some.is c.in_ok-size.ensures.few refl,
  λ s h. counting_on (flat (width c.args.side.now.memory64) s) c.args.count c.args.values.now c.loop.counter c.loop.total c.in-Some.size (c.loop.total + c.in-Some.size) c.loop-test.true (sym c.in-Some.is ∙ c.in_ok-size.ensures.value s h ∙ ap (leading (flat (width c.args.side.now.memory64) s)) (from_place c.loop.total c.args.values.now)) refl (c.loop.invariant.1 s h),
)

pub leading_elements-returns-clause-value : goal.leading_elements-returns-clause-value
leading_elements-returns-clause-value t c = λ s h. all_counted (flat (width c.args.side.now.memory64) s) c.args.count c.args.values.now c.loop.counter c.loop.total (omega (arith, c.loop-test.false)) (c.loop.invariant.1 s h)
