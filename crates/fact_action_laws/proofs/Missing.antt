-- A record of which a field does not lift is never moved.
use Rattle.std.proofs.Common.{◌≡◌, ℕ, ◌+◌, ◌≤◌, inl, inr, Bool, true, false, List, [], ◌∷◌, ◌++◌, length, take, drop, Option, Some, None, refl, sym, ap, ◌∙◌, subst, arith, length-take, length-drop, length-append}
use Rattle.std.specs.Prelude.{option_map, if◌then◌else◌}
use Rattle.std.specs.List.{zip}
use Rattle.std.specs.Str.{bytes_eq}
use Rattle.std.proofs.lemmas.List.{drop-drop, take-append-drop}
use Rattle.fact_types.specs.declared.outside.StringEncoding.{StringEncoding}
use Rattle.fact_types.specs.declared.extents.MemoryWidth.{MemoryWidth}
use Rattle.fact_types.specs.declared.extents.MemoryWidth.TheVariants.{Memory32, Memory64}
use Rattle.fact_types.specs.Agrees.{names_of}
use Rattle.fact_types.specs.Fields.{Field, find, field_of}
use Rattle.fact_types.specs.FlatShapes.{flat, flat_members}
use Rattle.fact_types.specs.Shapes.{k_record, k_tuple, Shape, s_node, Members, no_members, bare, typed, next_of}
use Rattle.fact_types.specs.Signatures.{width}
use Rattle.fact_types.specs.Valid.{AreDistinct}
use Rattle.fact_types.proofs.ShapeLaws.{same_some, none_some}
use Rattle.fact_machine.specs.declared.types.CoreValue.{CoreValue}
use Rattle.fact_machine.specs.World.{World}
use Rattle.fact_actions.specs.Actions.{Action, Give, Visit, ◌>>=◌}
use Rattle.fact_actions.specs.Moves.{move, move_fields, with_field, part, spot, past}
use Rattle.fact_actions.specs.Sides.{Source, Values, AtAddress, Target, width_of_side}
use Rattle.fact_types.specs.Adapters.{is_wide}
use Rattle.fact_values.specs.declared.side.SideAbi.{SideAbi}
use Rattle.fact_values.specs.declared.value.Value.{Value}
use Rattle.fact_values.specs.declared.value.Value.TheVariants as value
use Rattle.fact_values.specs.Places.{typed_names}
use Rattle.fact_values.specs.Lift.{lift_leading, lift_members}
use Rattle.fact_values.specs.Load.{load, load_members}
use Rattle.fact_types.specs.Options.{◌>>=◌ as and_then}
use Rattle.fact_values.specs.Limits.{place_in}
use Rattle.fact_action_laws.specs.MoveTerms.{AreTyped, AreWellFormed}
use Rattle.fact_action_laws.specs.Places.{from_side, value_at_source, IsSource, HoldsMemories, IsGrounded}
use Rattle.fact_actions.specs.Regions.{Region}
use Rattle.fact_action_laws.specs.Regions.{TransferSetting, IsInHand, regions_after}
use Rattle.fact_action_laws.proofs.Distinct.{other_name, distinct_later, same_name}
use Rattle.fact_action_laws.proofs.Fields.{members_taken, here, later, in_width, place_in_width, next_in_width, part_source}
use Rattle.fact_action_laws.proofs.Flats.{flat_lengths, value_leads}
use Rattle.fact_action_laws.proofs.MoveLaws.{IsMembersTarget}
use Rattle.fact_action_laws.proofs.Never.{never_first, never_after}
use Rattle.fact_action_laws.proofs.Plain.{does_aligned}
use Rattle.fact_action_laws.proofs.Products.{product_target}
use Rattle.fact_action_laws.proofs.Records.{bare_target}
use Rattle.fact_action_laws.proofs.Refusals.{RefusesFields, never_visit}
use Rattle.fact_action_laws.proofs.Targets.{field_target, others_target}
use Rattle.fact_action_laws.proofs.Weights.{In, in_at}
use Rattle.fact_action_laws.specs.Judged.{GivesNothing}
use Rattle.fact_action_laws.specs.MoveLaws.{IsLawfulMove, Refuses}

-- ---- fields that lift

abbrev pub FieldLifts : TransferSetting → Source → Option Field → Type 0
FieldLifts c s None = ⊥
FieldLifts c s (Some f) = (v : Value) × (value_at_source c f.shape (part c.transfer.from f s) ≡ Some v)

abbrev pub AllLift : TransferSetting → Source → (ms ns : Members) → Type 0
AllLift c s ms no_members = Unit {0}
AllLift c s ms (bare x ns) = AllLift c s ms ns
AllLift c s ms (typed x u ns) = FieldLifts c s (field_of x ms) × AllLift c s ms ns

abbrev pub NotAll : TransferSetting → (ms ns : Members) → Source → Type 0
NotAll c ms ns s = AllLift c s ms ns → ⊥

lifts_named : (c : TransferSetting) (s : Source) (ms ns : Members) (x : List ℕ) → AreTyped ns → AllLift c s ms ns → In x (names_of ns) → FieldLifts c s (field_of x ms)
lifts_named c s ms no_members x t a h = absurd h
lifts_named c s ms (bare y ns) x t a h = absurd t
lifts_named c s ms (typed y u ns) x t a (inl h) = subst (λ z. FieldLifts c s (field_of z ms)) h a.0
lifts_named c s ms (typed y u ns) x t a (inr h) = lifts_named c s ms ns x t a.1 h

-- ---- where all lift, the record does

-- the rest of members, in which each name is found as in the whole
abbrev IsRest : Members → Members → (k p q : ℕ) → Type 0
IsRest ms rest k p q = (x : List ℕ) → In x (names_of rest) → find x ms 0 0 0 ≡ find x rest k p q

rest_later : (ms : Members) (n : List ℕ) (s : Shape) (rest : Members) (k p q : ℕ) → AreDistinct (n ∷ names_of rest) → IsRest ms (typed n s rest) k p q → IsRest ms rest (k + length (flat Memory32 s)) (next_of Memory32 s p) (next_of Memory64 s q)
rest_later ms n s rest k p q d h x i =
    let at = in_at x (names_of rest) i in
    h x (inr i) ∙ ap (λ b. if b then Some (here s k p q) else later x s rest k p q) (other_name n x (names_of rest) at.0 d at.1)

rest_here : (ms : Members) (n : List ℕ) (s : Shape) (rest : Members) (k p q : ℕ) → IsRest ms (typed n s rest) k p q → field_of n ms ≡ Some (here s k p q)
rest_here ms n s rest k p q h = h n (inl refl) ∙ ap (λ b. if b then Some (here s k p q) else later n s rest k p q) (same_name n)

loads_all : (b : Bool) (encoding : StringEncoding) (bytes : List ℕ) (ms rest : Members) (k p q a n : ℕ) → AreTyped rest → AreDistinct (names_of rest) → IsRest ms rest k p q → n ≡ in_width (width b) p q
    → ((x : List ℕ) (f : Field) → In x (names_of rest) → field_of x ms ≡ Some f → (v : Value) × (load (record { memory64 = b; encoding = encoding }) bytes f.shape (a + place_in (width b) f) ≡ Some v))
    → (vs : List Value) × (load_members (record { memory64 = b; encoding = encoding }) bytes rest a n ≡ Some vs)
unfolding load_members
loads_all b encoding bytes ms no_members k p q a n t d r e h = ([], refl)
loads_all b encoding bytes ms (bare x rest) k p q a n t d r e h = absurd t
loads_all b encoding bytes ms (typed x s rest) k p q a n t d r e h =
    let one = h x (here s k p q) (inl refl) (rest_here ms x s rest k p q r) in
    let more = loads_all b encoding bytes ms rest (k + length (flat Memory32 s)) (next_of Memory32 s p) (next_of Memory64 s q) a (next_of (width b) s n) t (distinct_later x (names_of rest) d) (rest_later ms x s rest k p q d r) (next_in_width b s n p q e) (λ y f i. h y f (inr i)) in (
      one.0 ∷ more.0,
      ap (λ o. and_then o (λ v. and_then (load_members (record { memory64 = b; encoding = encoding }) bytes rest a (next_of (width b) s n)) (λ vs. Some (v ∷ vs)))) (ap (λ i. load (record { memory64 = b; encoding = encoding }) bytes s (a + i)) (place_in_width b s n p q k e) ∙ one.1)
          ∙ ap (λ o. and_then o (λ vs. Some (one.0 ∷ vs))) more.1,
    )

lifts_all : (side : SideAbi) (bytes : List ℕ) (whole : List CoreValue) (ms rest : Members) (k p q : ℕ) → AreTyped rest → AreWellFormed rest → AreDistinct (names_of rest) → IsRest ms rest k p q → k + length (flat_members (width side.memory64) rest) ≤ length whole
    → ((x : List ℕ) (f : Field) → In x (names_of rest) → field_of x ms ≡ Some f → (v : Value) × (lift_leading side bytes f.shape (take (length (flat (width side.memory64) f.shape)) (drop f.flat_place whole)) ≡ Some v))
    → (vs : List Value) × (lift_members side bytes rest (drop k whole) ≡ Some vs)
unfolding lift_members
lifts_all side bytes whole ms no_members k p q t fm d r le h = ([], refl)
lifts_all side bytes whole ms (bare x rest) k p q t fm d r le h = absurd t
lifts_all side bytes whole ms (typed x s rest) k p q t fm d r le h =
    let w = width side.memory64 in
    let n = length (flat w s) in
    let long = length-append (flat w s) (flat_members w rest) in
    let wide = flat_lengths Memory32 w s in
    let one = h x (here s k p q) (inl refl) (rest_here ms x s rest k p q r) in
    let more = lifts_all side bytes whole ms rest (k + length (flat Memory32 s)) (next_of Memory32 s p) (next_of Memory64 s q) t fm.1 (distinct_later x (names_of rest) d) (rest_later ms x s rest k p q d r) (omega (arith, le, long, wide)) (λ y f i. h y f (inr i)) in
    let first : lift_leading side bytes s (drop k whole) ≡ Some one.0 =
    ap (λ cs. lift_leading side bytes s cs) (sym (take-append-drop n (drop k whole)))
    ∙ value_leads side bytes s fm.0 (take n (drop k whole)) (drop n (drop k whole)) (omega (arith, length-take n (drop k whole), length-drop k whole, le, long)) ∙ one.1 in (
      one.0 ∷ more.0,
      ap (λ o. and_then o (λ v. and_then (lift_members side bytes rest (drop n (drop k whole))) (λ vs. Some (v ∷ vs)))) first
          ∙ ap (λ cs. and_then (lift_members side bytes rest cs) (λ vs. Some (one.0 ∷ vs))) (drop-drop n k whole ∙ ap (λ j. drop (k + j) whole) (sym wide))
          ∙ ap (λ o. and_then o (λ vs. Some (one.0 ∷ vs))) more.1,
    )

-- what holds of a field that was found
lifts_found : (c : TransferSetting) (s : Source) (q : Option Field) (f : Field) → FieldLifts c s q → q ≡ Some f → (v : Value) × (value_at_source c f.shape (part c.transfer.from f s) ≡ Some v)
lifts_found c s q f h e = subst (FieldLifts c s) e h

pub all_taken : (c : TransferSetting) (s : Source) (ms ns : Members) → AreTyped ms → AreTyped ns → AreWellFormed ms → AreDistinct (names_of ms) → ((x : List ℕ) → In x (names_of ms) → In x (names_of ns)) → IsSource c (length (flat_members (width_of_side c.transfer.from) ms)) s → AllLift c s ms ns
    → (vs : List Value) × (members_taken c ms s ≡ Some vs)
all_taken c (AtAddress a) ms ns t u fm d names is h =
    loads_all (is_wide c.transfer.from.memory) c.transfer.from.encoding c.source ms ms 0 0 0 a 0 t d (λ x i. refl) (zero_place (is_wide c.transfer.from.memory))
    (λ x f i e. lifts_found c (AtAddress a) (field_of x ms) f (lifts_named c (AtAddress a) ms ns x u h (names x i)) e)
  where
    zero_place : (b : Bool) → 0 ≡ in_width (width b) 0 0
    zero_place true = refl
    zero_place false = refl
all_taken c (Values cs) ms ns t u fm d names is h =
    lifts_all (from_side c) c.source cs ms ms 0 0 0 t fm d (λ x i. refl) (omega (arith, is.0))
    (λ x f i e. lifts_found c (Values cs) (field_of x ms) f (lifts_named c (Values cs) ms ns x u h (names x i)) e)

-- ---- the place of a field, whether it lifts or not

within_step : (b : Bool) (s : Shape) (k p q : ℕ) (rest : Option Field) (f : Field) (P : Field → Type 0) → (if b then Some (here s k p q) else rest) ≡ Some f → P (here s k p q) → (rest ≡ Some f → P f) → P f
within_step true s k p q rest f P e h more = subst P (same_some (Some (here s k p q)) (here s k p q) f refl e) h
within_step false s k p q rest f P e h more = more e

pub found_within : (w : MemoryWidth) (x : List ℕ) (ms : Members) (k p q : ℕ) (f : Field) → find x ms k p q ≡ Some f → f.flat_place + length (flat w f.shape) ≤ k + length (flat_members w ms)
found_within w x no_members k p q f e = absurd (none_some None f refl e)
found_within w x (bare y ms) k p q f e = found_within w x ms k p q f e
found_within w x (typed y s ms) k p q f e =
    let long = length-append (flat w s) (flat_members w ms) in
    let wide = flat_lengths Memory32 w s in
    within_step (bytes_eq y x) s k p q (later x s ms k p q) f (λ f. f.flat_place + length (flat w f.shape) ≤ k + length (flat_members w (typed y s ms))) e (omega (arith, long))
    (λ e2. let r = found_within w x ms (k + length (flat Memory32 s)) (next_of Memory32 s p) (next_of Memory64 s q) f e2 in omega (arith, r, long, wide))

pub field_source : (c : TransferSetting) (x : List ℕ) (ms : Members) (f : Field) (s : Source) → field_of x ms ≡ Some f → IsSource c (length (flat_members (width_of_side c.transfer.from) ms)) s → IsSource c (length (flat (width_of_side c.transfer.from) f.shape)) (part c.transfer.from f s)
field_source c x ms f (AtAddress a) e is = is
field_source c x ms f (Values cs) e is =
    let r = found_within (width_of_side c.transfer.from) x ms 0 0 0 f e in
    part_source c (length (flat (width_of_side c.transfer.from) f.shape)) f.flat_place cs (omega (arith, r, is.0)) is.1

-- ---- refusals

pub no_fields_refuse : (c : TransferSetting) (ms : Members) (e : ℕ) → RefusesFields c ms no_members e (NotAll c ms no_members)
no_fields_refuse c ms e = record { by = λ s d gs w m is n ready target. absurd (n tt) }

pub bare_fields_refuse : (c : TransferSetting) (ms ns : Members) (x : List ℕ) (e : ℕ) → RefusesFields c ms ns e (NotAll c ms ns) → RefusesFields c ms (bare x ns) e (NotAll c ms (bare x ns))
unfolding move_fields
bare_fields_refuse c ms ns x e h = record { by = λ s d gs w m is n ready target. h.by s d gs w m is n ready (bare_target c ns x e (IsInHand c gs) m d target) }

pub typed_fields_refuse : (c : TransferSetting) (ms ns : Members) (x : List ℕ) (u : Shape) (e : ℕ) (f : Field) → field_of x ms ≡ Some f → IsLawfulMove c f.shape u → Refuses c f.shape u → RefusesFields c ms ns (next_of (width_of_side c.transfer.to) u e) (NotAll c ms ns)
    → RefusesFields c ms (typed x u ns) e (NotAll c ms (typed x u ns))
unfolding move_fields
typed_fields_refuse c ms ns x u e f is_field one never rest = record {
  by = λ s d gs w m is n ready target.
      let rest_of : List CoreValue → Action (List CoreValue) = λ us. move_fields c.transfer ms ns (next_of (width_of_side c.transfer.to) u e) s (past c.transfer.to u d) >>= (λ ws. Give (us ++ ws)) in
      subst (λ o. GivesNothing c gs (with_field o (λ g. move c.transfer g.shape u (part c.transfer.from g s) (spot c.transfer.to u e d) >>= rest_of)) w) (sym is_field)
      (go s d gs w m is n ready target (field_source c x ms f s is_field is) (value_at_source c f.shape (part c.transfer.from f s)) refl);
}
  where
    go : (s : Source) (d : Target) (gs : List Region) (w : World) (m : List ℕ) → IsSource c (length (flat_members (width_of_side c.transfer.from) ms)) s → NotAll c ms (typed x u ns) s → HoldsMemories c m w → IsMembersTarget c (typed x u ns) e (IsInHand c gs) m d
        → IsSource c (length (flat (width_of_side c.transfer.from) f.shape)) (part c.transfer.from f s) → (q : Option Value) → value_at_source c f.shape (part c.transfer.from f s) ≡ q
        → GivesNothing c gs (move c.transfer f.shape u (part c.transfer.from f s) (spot c.transfer.to u e d) >>= (λ us. move_fields c.transfer ms ns (next_of (width_of_side c.transfer.to) u e) s (past c.transfer.to u d) >>= (λ ws. Give (us ++ ws)))) w
    go s d gs w m is n ready target part_is None h =
        never_first (move c.transfer f.shape u (part c.transfer.from f s) (spot c.transfer.to u e d)) _ w (never.by (part c.transfer.from f s) (spot c.transfer.to u e d) gs w m part_is h ready (field_target c x u ns e (IsInHand c gs) m d target))
    go s d gs w m is n ready target part_is (Some v) h =
        never_after (move c.transfer f.shape u (part c.transfer.from f s) (spot c.transfer.to u e d)) (λ us. move_fields c.transfer ms ns (next_of (width_of_side c.transfer.to) u e) s (past c.transfer.to u d) >>= (λ ws. Give (us ++ ws))) w
        (one.by (part c.transfer.from f s) (spot c.transfer.to u e d) v gs w m part_is h ready (field_target c x u ns e (IsInHand c gs) m d target))
        (λ k cs us w' r. never_first (move_fields c.transfer ms ns (next_of (width_of_side c.transfer.to) u e) s (past c.transfer.to u d)) (λ ws. Give (us ++ ws)) w'
        (rest.by s (past c.transfer.to u d) (regions_after gs cs) w' r.leaves.now is (λ a. n (subst (FieldLifts c s) (sym is_field) (v, h), a)) r.leaves.ready
        (others_target c x u ns e (IsInHand c gs) m (IsInHand c (regions_after gs cs)) r.leaves.now d r.leaves.placed.room r.leaves.placed.grows target)))

-- a record that does not lift
none_taken : (q : Option Value) (f : List Value → Value) (p : Option (List Value)) → option_map f p ≡ q → q ≡ None → (vs : List Value) → p ≡ Some vs → ⊥
none_taken q f p e n vs h = none_some None (f vs) refl (sym n ∙ sym e ∙ ap (option_map f) h)

record_reads : (c : TransferSetting) (ms : Members) (s : Source) → option_map (λ vs. value.Record (zip (typed_names ms) vs)) (members_taken c ms s) ≡ value_at_source c (s_node k_record ms) s
unfolding load lift_leading
record_reads c ms (Values vs) = refl
record_reads c ms (AtAddress a) = refl

tuple_reads : (c : TransferSetting) (ms : Members) (s : Source) → option_map (λ vs. value.Tuple vs) (members_taken c ms s) ≡ value_at_source c (s_node k_tuple ms) s
unfolding load lift_leading
tuple_reads c ms (Values vs) = refl
tuple_reads c ms (AtAddress a) = refl

pub record_refuses : (c : TransferSetting) → IsGrounded c → (ms ns : Members) → AreTyped ms → AreTyped ns → AreWellFormed ms → AreDistinct (names_of ms) → ((x : List ℕ) → In x (names_of ms) → In x (names_of ns)) → RefusesFields c ms ns 0 (NotAll c ms ns) → Refuses c (s_node k_record ms) (s_node k_record ns)
unfolding move
record_refuses c g ms ns t u fm d names fields = record {
  by = λ s d2 gs w m is h ready target.
      does_aligned g (s_node k_record ms) (s_node k_record ns) s d2 (Visit 1 (move_fields c.transfer ms ns 0 s d2)) w
      (never_visit 1 (move_fields c.transfer ms ns 0 s d2) w
      (fields.by s d2 gs w m is (λ a. let r = all_taken c s ms ns t u fm d names is a in none_taken (value_at_source c (s_node k_record ms) s) _ (members_taken c ms s) (record_reads c ms s) h r.0 r.1) ready (product_target c ns (IsInHand c gs) m d2 target)));
}

pub tuple_refuses : (c : TransferSetting) → IsGrounded c → (ms ns : Members) → AreTyped ms → AreTyped ns → AreWellFormed ms → AreDistinct (names_of ms) → ((x : List ℕ) → In x (names_of ms) → In x (names_of ns)) → RefusesFields c ms ns 0 (NotAll c ms ns) → Refuses c (s_node k_tuple ms) (s_node k_tuple ns)
unfolding move
tuple_refuses c g ms ns t u fm d names fields = record {
  by = λ s d2 gs w m is h ready target.
      does_aligned g (s_node k_tuple ms) (s_node k_tuple ns) s d2 (Visit 1 (move_fields c.transfer ms ns 0 s d2)) w
      (never_visit 1 (move_fields c.transfer ms ns 0 s d2) w
      (fields.by s d2 gs w m is (λ a. let r = all_taken c s ms ns t u fm d names is a in none_taken (value_at_source c (s_node k_tuple ms) s) _ (members_taken c ms s) (tuple_reads c ms s) h r.0 r.1) ready (product_target c ns (IsInHand c gs) m d2 target)));
}
