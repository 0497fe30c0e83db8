-- How values are lifted from the core values that can stand for them, step by step.
use Rattle.std.proofs.Common.{◌≡◌, ℕ, zero, suc, ◌+◌, ◌-◌, ◌*◌, ◌^◌, ◌<◌, ◌≤◌, List, [], ◌∷◌, ◌++◌, length, length-append, drop, get_or, Option, Some, None, refl, sym, ap, ◌∙◌, subst, arith}
use Rattle.std.specs.Prelude.{Bool, true, false, ◌&&◌, nat_le, if◌then◌else◌, option_map, replicate, slice_get}
use Rattle.std.specs.List.{zip}
use Rattle.std.proofs.Math.Nat.{pow-suc}
use Rattle.std.proofs.lemmas.Bool.{true≢false, leb-true}
use Rattle.std.proofs.lemmas.List.{drop-drop, drop_all}
use Rattle.fact_machine.specs.World.{number_of}
use Rattle.fact_machine.specs.declared.types.CoreValue.{CoreValue}
use Rattle.fact_types.specs.declared.flats.FlatType.{FlatType}
use Rattle.fact_types.specs.declared.flats.FlatType.TheVariants.{I32}
use Rattle.fact_types.specs.declared.interface.InterfaceType.{InterfaceType}
use Rattle.fact_types.specs.Agrees.{names_of}
use Rattle.fact_types.specs.FlatShapes.{flat, flat_members, flat_any, flat_types, times}
use Rattle.fact_types.specs.Layout.{flags_size, flags_flat}
use Rattle.fact_types.specs.Shapes.{k_record, k_tuple, k_list, k_map, k_flags, k_fixed, k_future, k_stream, Shape, s_plain, s_node, Members, no_members, bare, typed}
use Rattle.fact_types.specs.Options.{◌>>=◌}
use Rattle.fact_types.specs.Tables.{Tables, HasShape}
use Rattle.fact_types.proofs.ShapeLaws.{same_some, none_some}
use Rattle.fact_abi.specs.declared.nodes.NodeKind.{NodeKind}
use Rattle.fact_abi.specs.declared.nodes.NodeKind.TheVariants as is
use Rattle.fact_values.specs.declared.side.SideAbi.{SideAbi}
use Rattle.fact_values.specs.declared.value.HandleKind.TheVariants.{Future, Stream}
use Rattle.fact_values.specs.declared.value.Value.{Value}
use Rattle.fact_values.specs.declared.value.Value.TheVariants as value
use Rattle.fact_abi.specs.Leading.{can_lead, leading, Lifted, LiftedEach, Wording}
use Rattle.fact_values.specs.Lift.{can_stand, can_stand_all, number_as, numbers_as, one_number, leading_pair, lift_plain, lift_variant, each_of, lift_leading, lift_members, lift_case, lift}
use Rattle.fact_values.specs.Load.{list_value, map_value, load_members, load_element}
use Rattle.fact_abi.specs.Nodes.{kind_of, IsVariantKind, AreOf}
use Rattle.fact_values.specs.Numbers.{plain_of, flags_of_number, number_of_words}
use Rattle.fact_values.specs.Places.{width_of, count_of_members, typed_names, Pair}
use Rattle.fact_abi.proofs.LeadingLaws.{both_lead, joined_lead, stand_all, as_many, drop_at, append_nil}
use Rattle.fact_values.proofs.MemberLaws.{both_true}
use Rattle.fact_abi.proofs.LoadLaws.{split_typed, split_bare, front}
use Rattle.fact_abi.proofs.TextLaws.{one_more, none_left, all_read, starts}

-- ---- core values that lead

pub leads : (fs : List FlatType) (cs : List CoreValue) (n : ℕ) → Some n ≡ leading fs cs → (can_lead fs cs ≡ true) × (n ≡ length fs)
leads fs cs n e = go (can_lead fs cs) refl e
  where
    go : (b : Bool) → can_lead fs cs ≡ b → Some n ≡ (if b then Some (length fs) else None) → (can_lead fs cs ≡ true) × (n ≡ length fs)
    go true p e = (p, same_some (Some n) n (length fs) refl e)
    go false p e = absurd (none_some None n refl (sym e))

pub must_lead : {X : Type 0} (fs : List FlatType) (cs : List CoreValue) → None ≡ leading fs cs → can_lead fs cs ≡ true → X
must_lead fs cs none e = absurd (none_some (leading fs cs) (length fs) (sym none) (ap (λ (b : Bool). if b then Some (length fs) else None) e))

-- ---- members

module _ (t : Tables) (side : SideAbi) (bytes : List ℕ) (cs : List CoreValue) (ms : Members) (types : List (Option InterfaceType)) where
  pub lifted_starts : AreOf t types ms → can_lead (flat_members (width_of side) ms) cs ≡ true → Lifted t side bytes cs ms types 0 0 []
  lifted_starts h stand = record { rest = ms; has = h; stand = stand; same = starts (lift_members side bytes ms cs) }

  pub lifted_past : (i at : ℕ) (values : List Value) → i < length types → get_or types i None ≡ None → Lifted t side bytes cs ms types i at values → Lifted t side bytes cs ms types (i + 1) at values
  unfolding lift_leading
  lifted_past i at values lt e g =
      let p = split_bare t (drop (i + 1) types) g.rest (subst (λ xs. AreOf t xs g.rest) (front types i None lt e) g.has) in
      record {
        rest = p.rest;
        has = p.has;
        stand = ap (λ r. can_lead (flat_members (width_of side) r) (drop at cs)) (sym p.is) ∙ g.stand;
        same = g.same ∙ ap (λ r. option_map (λ vs. values ++ vs) (lift_members side bytes r (drop at cs))) p.is;
      }

  -- the member of a place, and those behind it
  record Member (i at : ℕ) (values : List Value) (y : InterfaceType) : Type 0 where
    shape : Shape
    rest : Members
    shaped : HasShape t y shape
    has : AreOf t (drop (i + 1) types) rest
    stands : can_lead (flat (width_of side) shape) (drop at cs) ≡ true
    stand : can_lead (flat_members (width_of side) rest) (drop (length (flat (width_of side) shape)) (drop at cs)) ≡ true
    same : lift_members side bytes ms cs ≡ option_map (λ vs. values ++ vs) (lift_leading side bytes shape (drop at cs) >>= (λ v. lift_members side bytes rest (drop (length (flat (width_of side) shape)) (drop at cs)) >>= (λ vs. Some (v ∷ vs))))

  member : (i at : ℕ) (values : List Value) (y : InterfaceType) → i < length types → get_or types i None ≡ Some y → Lifted t side bytes cs ms types i at values → Member i at values y
  unfolding lift_leading
  member i at values y lt e g =
      let p = split_typed t y (drop (i + 1) types) g.rest (subst (λ xs. AreOf t xs g.rest) (front types i (Some y) lt e) g.has) in
      let both = both_true (can_lead (flat (width_of side) p.shape) (drop at cs)) (can_lead (flat_members (width_of side) p.rest) (drop (length (flat (width_of side) p.shape)) (drop at cs)))
      (sym (both_lead (flat (width_of side) p.shape) (flat_members (width_of side) p.rest) (drop at cs)) ∙ ap (λ r. can_lead (flat_members (width_of side) r) (drop at cs)) (sym p.is) ∙ g.stand) in
      record {
        shape = p.shape;
        rest = p.rest;
        shaped = p.shaped;
        has = p.has;
        stands = both.0;
        stand = both.1;
        same = g.same ∙ ap (λ r. option_map (λ vs. values ++ vs) (lift_members side bytes r (drop at cs))) p.is;
      }

  pub lifted_on : (i at count at' : ℕ) (values values' : List Value) (y : InterfaceType) (o : Option Value) (v : Value) → i < length types → get_or types i None ≡ Some y
      → ((s : Shape) → HasShape t y s → Some count ≡ leading (flat (width_of side) s) (drop at cs)) → ((s : Shape) → HasShape t y s → can_lead (flat (width_of side) s) (drop at cs) ≡ true → o ≡ lift_leading side bytes s (drop at cs))
      → o ≡ Some v → values' ≡ values ++ v ∷ [] → at' ≡ at + count → Lifted t side bytes cs ms types i at values → Lifted t side bytes cs ms types (i + 1) at' values'
  lifted_on i at count at' values values' y o v lt e led lifts there pushed moved g =
      let m = member i at values y lt e g in
      let n : length (flat (width_of side) m.shape) ≡ count = sym (leads (flat (width_of side) m.shape) (drop at cs) count (led m.shape m.shaped)).1 in
      let left : drop (length (flat (width_of side) m.shape)) (drop at cs) ≡ drop at' cs = ap (λ k. drop k (drop at cs)) n ∙ drop-drop count at cs ∙ ap (λ k. drop k cs) (sym moved) in
      record {
        rest = m.rest;
        has = m.has;
        stand = ap (can_lead (flat_members (width_of side) m.rest)) (sym left) ∙ m.stand;
        same = one_more _ _ (lift_members side bytes m.rest (drop at' cs)) values values' v m.same
            (ap (λ o. o >>= (λ v. lift_members side bytes m.rest (drop (length (flat (width_of side) m.shape)) (drop at cs)) >>= (λ vs. Some (v ∷ vs)))) (sym (lifts m.shape m.shaped m.stands) ∙ there)
            ∙ ap (λ ds. lift_members side bytes m.rest ds >>= (λ vs. Some (v ∷ vs))) left) pushed;
      }

  pub not_lifted : (i at : ℕ) (values : List Value) (y : InterfaceType) (o : Option Value) → i < length types → get_or types i None ≡ Some y
      → ((s : Shape) → HasShape t y s → can_lead (flat (width_of side) s) (drop at cs) ≡ true → o ≡ lift_leading side bytes s (drop at cs))
      → o ≡ None → Lifted t side bytes cs ms types i at values → None ≡ lift_members side bytes ms cs
  not_lifted i at values y o lt e lifts none g =
      let m = member i at values y lt e g in
      none_left _ _ values m.same (ap (λ o. o >>= (λ v. lift_members side bytes m.rest (drop (length (flat (width_of side) m.shape)) (drop at cs)) >>= (λ vs. Some (v ∷ vs)))) (sym (lifts m.shape m.shaped m.stands) ∙ none))

  pub member_leads : {X : Type 0} (i at : ℕ) (values : List Value) (y : InterfaceType) → i < length types → get_or types i None ≡ Some y → ((s : Shape) → HasShape t y s → None ≡ leading (flat (width_of side) s) (drop at cs)) → Lifted t side bytes cs ms types i at values → X
  member_leads i at values y lt e none g =
      let m = member i at values y lt e g in
      must_lead (flat (width_of side) m.shape) (drop at cs) (none m.shape m.shaped) m.stands

  pub all_lifted : (i at : ℕ) (values : List Value) → length types ≤ i → Lifted t side bytes cs ms types i at values → Some values ≡ lift_members side bytes ms cs
  unfolding lift_leading
  all_lifted i at values ge g = all_read _ _ values g.same (last g.rest (subst (λ xs. AreOf t xs g.rest) (drop_all i types ge) g.has))
    where
      last : (r : Members) → AreOf t [] r → lift_members side bytes r (drop at cs) ≡ Some []
      last no_members h = refl
      last (bare n r) h = absurd h
      last (typed n s r) h = absurd h

-- ---- elements

module _ (fs : List FlatType) (f : List CoreValue → Option Value) (count : ℕ) (cs : List CoreValue) where
  pub each_starts : can_lead (times count fs) cs ≡ true → LiftedEach fs f count 0 0 cs []
  each_starts stand =
      let e : count ≡ count - 0 = omega arith in
      record {
        stand = ap (λ k. can_lead (times k fs) cs) (sym e) ∙ stand;
        same = starts (each_of count (length fs) f cs) ∙ ap (λ k. option_map (λ vs. [] ++ vs) (each_of k (length fs) f cs)) e;
      }

  first_stands : (i at : ℕ) (values : List Value) → i < count → LiftedEach fs f count i at cs values → (can_lead fs (drop at cs) ≡ true) × (can_lead (times (count - (i + 1)) fs) (drop (length fs) (drop at cs)) ≡ true)
  first_stands i at values lt g =
      let e : count - i ≡ suc (count - (i + 1)) = omega (arith, lt) in
      both_true _ _ (sym (both_lead fs (times (count - (i + 1)) fs) (drop at cs)) ∙ ap (λ k. can_lead (times k fs) (drop at cs)) (sym e) ∙ g.stand)

  next_each : (i at : ℕ) → i < count → each_of (count - i) (length fs) f (drop at cs) ≡ f (drop at cs) >>= (λ v. each_of (count - (i + 1)) (length fs) f (drop (length fs) (drop at cs)) >>= (λ vs. Some (v ∷ vs)))
  next_each i at lt = let e : count - i ≡ suc (count - (i + 1)) = omega (arith, lt) in ap (λ k. each_of k (length fs) f (drop at cs)) e

  pub each_on : (i at size at' : ℕ) (values values' : List Value) (o : Option Value) (v : Value) → i < count → Some size ≡ leading fs (drop at cs) → (can_lead fs (drop at cs) ≡ true → o ≡ f (drop at cs)) → o ≡ Some v → values' ≡ values ++ v ∷ [] → at' ≡ at + size
      → LiftedEach fs f count i at cs values → LiftedEach fs f count (i + 1) at' cs values'
  each_on i at size at' values values' o v lt led lifts there pushed moved g =
      let both = first_stands i at values lt g in
      let left : drop (length fs) (drop at cs) ≡ drop at' cs = ap (λ k. drop k (drop at cs)) (sym (leads fs (drop at cs) size led).1) ∙ drop-drop size at cs ∙ ap (λ k. drop k cs) (sym moved) in
      record {
        stand = ap (can_lead (times (count - (i + 1)) fs)) (sym left) ∙ both.1;
        same = one_more _ _ (each_of (count - (i + 1)) (length fs) f (drop at' cs)) values values' v g.same
            (next_each i at lt ∙ ap (λ o. o >>= (λ v. each_of (count - (i + 1)) (length fs) f (drop (length fs) (drop at cs)) >>= (λ vs. Some (v ∷ vs)))) (sym (lifts both.0) ∙ there)
            ∙ ap (λ ds. each_of (count - (i + 1)) (length fs) f ds >>= (λ vs. Some (v ∷ vs))) left) pushed;
      }

  pub not_each : (i at : ℕ) (values : List Value) (o : Option Value) → i < count → (can_lead fs (drop at cs) ≡ true → o ≡ f (drop at cs)) → o ≡ None → LiftedEach fs f count i at cs values → None ≡ each_of count (length fs) f cs
  not_each i at values o lt lifts none g =
      let both = first_stands i at values lt g in
      none_left _ _ values g.same (next_each i at lt ∙ ap (λ o. o >>= (λ v. each_of (count - (i + 1)) (length fs) f (drop (length fs) (drop at cs)) >>= (λ vs. Some (v ∷ vs)))) (sym (lifts both.0) ∙ none))

  pub element_leads : {X : Type 0} (i at : ℕ) (values : List Value) → i < count → None ≡ leading fs (drop at cs) → LiftedEach fs f count i at cs values → X
  element_leads i at values lt none g = must_lead fs (drop at cs) none (first_stands i at values lt g).0

  pub all_each : (i at : ℕ) (values : List Value) → count ≤ i → LiftedEach fs f count i at cs values → Some values ≡ each_of count (length fs) f cs
  all_each i at values ge g = all_read _ _ values g.same (let e : count - i ≡ 0 = omega (arith, ge) in ap (λ k. each_of k (length fs) f (drop at cs)) e)

-- ---- whole types

-- a type without members
pub plain_lifts : (side : SideAbi) (bytes : List ℕ) (cs : List CoreValue) (y : InterfaceType) (s : Shape) (o : Option Value) → s ≡ s_plain y → o ≡ lift_plain side bytes y (plain_of y) cs → o ≡ lift_leading side bytes s cs
unfolding lift_leading
plain_lifts side bytes cs y s o is e = e ∙ ap (λ s. lift_leading side bytes s cs) (sym is)

module _ (side : SideAbi) (bytes : List ℕ) (cs : List CoreValue) (ms : Members) where
  pub record_lifts : (names : List (List ℕ)) (vs : List Value) (fields : List (List ℕ × Value)) → Some vs ≡ lift_members side bytes ms cs → names ≡ typed_names ms → fields ≡ zip names vs → Some (value.Record fields) ≡ lift_leading side bytes (s_node k_record ms) cs
  unfolding lift_leading
  record_lifts names vs fields e named zipped = ap (λ fs. Some (value.Record fs)) (zipped ∙ ap (λ ns. zip ns vs) named) ∙ ap (option_map (λ vs. value.Record (zip (typed_names ms) vs))) e

  pub no_record : (o : Option (List Value)) → o ≡ lift_members side bytes ms cs → o ≡ None → None ≡ lift_leading side bytes (s_node k_record ms) cs
  unfolding lift_leading
  no_record o e none = ap (option_map (λ vs. value.Record (zip (typed_names ms) vs))) (sym none ∙ e)

  pub tuple_lifts : (o : Option (List Value)) → o ≡ lift_members side bytes ms cs → option_map (λ vs. value.Tuple vs) o ≡ lift_leading side bytes (s_node k_tuple ms) cs
  unfolding lift_leading
  tuple_lifts o e = ap (option_map (λ vs. value.Tuple vs)) e

  pub variant_lifts : (k : NodeKind) (o : Option Value) → IsVariantKind k → o ≡ lift_variant (λ x us. lift_case side bytes ms x us) cs → o ≡ lift_leading side bytes (s_node (kind_of k) ms) cs
  unfolding lift_leading
  variant_lifts is.Variant o v e = e
  variant_lifts is.Enum o v e = e
  variant_lifts is.Option o v e = e
  variant_lifts is.Result o v e = e
  variant_lifts _ o v e = absurd v

  pub list_lifts : (p : Pair) (o : Option Value) → Some p ≡ leading_pair side cs → o ≡ list_value side bytes ms (λ b. load_element side bytes ms b) p → o ≡ lift_leading side bytes (s_node k_list ms) cs
  unfolding lift_leading
  list_lifts p o pair is = is ∙ ap (λ o. o >>= (λ q. list_value side bytes ms (λ b. load_element side bytes ms b) q)) pair

  pub no_list : None ≡ leading_pair side cs → None ≡ lift_leading side bytes (s_node k_list ms) cs
  unfolding lift_leading
  no_list none = ap (λ o. o >>= (λ q. list_value side bytes ms (λ b. load_element side bytes ms b) q)) none

  pub map_lifts : (p : Pair) (o : Option Value) → Some p ≡ leading_pair side cs → o ≡ map_value side bytes ms (λ b. load_members side bytes ms b 0) p → o ≡ lift_leading side bytes (s_node k_map ms) cs
  unfolding lift_leading
  map_lifts p o pair is = is ∙ ap (λ o. o >>= (λ q. map_value side bytes ms (λ b. load_members side bytes ms b 0) q)) pair

  pub no_map : None ≡ leading_pair side cs → None ≡ lift_leading side bytes (s_node k_map ms) cs
  unfolding lift_leading
  no_map none = ap (λ o. o >>= (λ q. map_value side bytes ms (λ b. load_members side bytes ms b 0) q)) none

  pub flags_lift : (names : List (List ℕ)) (o : Option Value) → names ≡ names_of ms → o ≡ option_map (λ ws. value.Flags (flags_of_number names (number_of_words ws))) (numbers_as (replicate (flags_flat (flags_size (length names))) I32) cs) → o ≡ lift_leading side bytes (s_node k_flags ms) cs
  unfolding lift_leading
  flags_lift names o is read = read ∙ ap (λ ns. option_map (λ ws. value.Flags (flags_of_number ns (number_of_words ws))) (numbers_as (replicate (flags_flat (flags_size (length ns))) I32) cs)) is
      ∙ ap (λ k. option_map (λ ws. value.Flags (flags_of_number (names_of ms) (number_of_words ws))) (numbers_as (replicate (flags_flat (flags_size k)) I32) cs)) (count_names ms)
    where
      count_names : (ms : Members) → length (names_of ms) ≡ count_of_members ms
      count_names no_members = refl
      count_names (bare n ms) = ap suc (count_names ms)
      count_names (typed n s ms) = ap suc (count_names ms)

  pub future_lifts : (table instance : ℕ) (o : Option Value) → o ≡ option_map (λ n. value.Handle Future table n) (one_number I32 cs) → o ≡ lift_leading side bytes (s_node (k_future table instance) ms) cs
  unfolding lift_leading
  future_lifts table instance o e = e

  pub stream_lifts : (table instance : ℕ) (o : Option Value) → o ≡ option_map (λ n. value.Handle Stream table n) (one_number I32 cs) → o ≡ lift_leading side bytes (s_node (k_stream table instance) ms) cs
  unfolding lift_leading
  stream_lifts table instance o e = e

-- a list of a fixed length, by its element
pub fixed_list_lifts : (t : Tables) (side : SideAbi) (bytes : List ℕ) (cs : List CoreValue) (e : InterfaceType) (count : ℕ) (ms : Members) (o : Option Value) → AreOf t (Some e ∷ []) ms
    → ((s : Shape) → HasShape t e s → can_lead (times count (flat (width_of side) s)) cs ≡ true → o ≡ option_map (λ vs. value.List vs) (each_of count (length (flat (width_of side) s)) (λ us. lift_leading side bytes s us) cs))
    → can_lead (times count (flat_members (width_of side) ms)) cs ≡ true → o ≡ lift_leading side bytes (s_node (k_fixed count) ms) cs
unfolding lift_leading
fixed_list_lifts t side bytes cs e count no_members o are lifts stand = absurd are
fixed_list_lifts t side bytes cs e count (bare n ms) o are lifts stand = absurd (none_some (Some e) e are.0 refl)
fixed_list_lifts t side bytes cs e count (typed n s (bare m ms)) o are lifts stand = absurd are.1
fixed_list_lifts t side bytes cs e count (typed n s (typed m z ms)) o are lifts stand = absurd are.1
fixed_list_lifts t side bytes cs e count (typed n s no_members) o are lifts stand =
    lifts s (subst (λ y. HasShape t y s) (sym (same_some (Some e) e are.0.0 refl are.0.1)) are.0.2) (ap (λ fs. can_lead (times count fs) cs) (sym (append_nil (flat (width_of side) s))) ∙ stand)

-- ---- cases

pub no_case : (t : Tables) (side : SideAbi) (bytes : List ℕ) (types : List (Option InterfaceType)) (ms : Members) (x : ℕ) (cs : List CoreValue) → AreOf t types ms → slice_get types x ≡ None → None ≡ lift_case side bytes ms x cs
unfolding lift_leading
no_case t side bytes [] no_members x cs h e = refl
no_case t side bytes (y ∷ ys) no_members x cs h e = absurd h
no_case t side bytes [] (bare n ms) x cs h e = absurd h
no_case t side bytes (y ∷ ys) (bare n ms) zero cs h e = absurd (none_some (Some y) y e refl)
no_case t side bytes (y ∷ ys) (bare n ms) (suc x) cs h e = no_case t side bytes ys ms x cs h.1 e
no_case t side bytes [] (typed n s ms) x cs h e = absurd h
no_case t side bytes (y ∷ ys) (typed n s ms) zero cs h e = absurd (none_some (Some y) y e refl)
no_case t side bytes (y ∷ ys) (typed n s ms) (suc x) cs h e = no_case t side bytes ys ms x cs h.1 e

pub no_case_name : (side : SideAbi) (bytes : List ℕ) (ms : Members) (x : ℕ) (cs : List CoreValue) → slice_get (names_of ms) x ≡ None → None ≡ lift_case side bytes ms x cs
unfolding lift_leading
no_case_name side bytes no_members x cs e = refl
no_case_name side bytes (bare n ms) zero cs e = absurd (none_some (Some n) n e refl)
no_case_name side bytes (bare n ms) (suc x) cs e = no_case_name side bytes ms x cs e
no_case_name side bytes (typed n s ms) zero cs e = absurd (none_some (Some n) n e refl)
no_case_name side bytes (typed n s ms) (suc x) cs e = no_case_name side bytes ms x cs e

pub bare_case_lifts : (t : Tables) (side : SideAbi) (bytes : List ℕ) (types : List (Option InterfaceType)) (ms : Members) (x : ℕ) (cs : List CoreValue) (n : List ℕ) → AreOf t types ms → slice_get types x ≡ Some None → slice_get (names_of ms) x ≡ Some n
    → lift_case side bytes ms x cs ≡ Some (value.Case n [])
unfolding lift_leading
bare_case_lifts t side bytes [] no_members x cs n h e m = absurd (none_some None n refl m)
bare_case_lifts t side bytes (y ∷ ys) no_members x cs n h e m = absurd h
bare_case_lifts t side bytes [] (bare k ms) x cs n h e m = absurd h
bare_case_lifts t side bytes (y ∷ ys) (bare k ms) zero cs n h e m = ap (λ n. Some (value.Case n [])) (same_some (Some k) k n refl m)
bare_case_lifts t side bytes (y ∷ ys) (bare k ms) (suc x) cs n h e m = bare_case_lifts t side bytes ys ms x cs n h.1 e m
bare_case_lifts t side bytes [] (typed k s ms) x cs n h e m = absurd h
bare_case_lifts t side bytes (y ∷ ys) (typed k s ms) zero cs n h e m = absurd (none_some y h.0.0 (same_some (Some y) y None refl e) h.0.1)
bare_case_lifts t side bytes (y ∷ ys) (typed k s ms) (suc x) cs n h e m = bare_case_lifts t side bytes ys ms x cs n h.1 e m

-- a payload can stand where the payloads of all cases can
pub record Payload (t : Tables) (side : SideAbi) (bytes : List ℕ) (ms : Members) (x : ℕ) (cs : List CoreValue) (n : List ℕ) (y : InterfaceType) : Type 0 where
  pub shape : Shape
  pub shaped : HasShape t y shape
  pub stands : can_lead (flat (width_of side) shape) cs ≡ true
  pub lifts : lift_case side bytes ms x cs ≡ option_map (λ w. value.Case n (w ∷ [])) (lift_leading side bytes shape cs)

pub typed_case_lifts : (t : Tables) (side : SideAbi) (bytes : List ℕ) (types : List (Option InterfaceType)) (ms : Members) (x : ℕ) (cs : List CoreValue) (n : List ℕ) (y : InterfaceType) → AreOf t types ms → can_lead (flat_any (width_of side) ms) cs ≡ true
    → slice_get types x ≡ Some (Some y) → slice_get (names_of ms) x ≡ Some n → Payload t side bytes ms x cs n y
unfolding lift_leading
typed_case_lifts t side bytes [] no_members x cs n y h k e m = absurd (none_some None n refl m)
typed_case_lifts t side bytes (z ∷ zs) no_members x cs n y h k e m = absurd h
typed_case_lifts t side bytes [] (bare q ms) x cs n y h k e m = absurd h
typed_case_lifts t side bytes (z ∷ zs) (bare q ms) zero cs n y h k e m = absurd (none_some z y h.0 (same_some (Some z) z (Some y) refl e))
typed_case_lifts t side bytes (z ∷ zs) (bare q ms) (suc x) cs n y h k e m = let p = typed_case_lifts t side bytes zs ms x cs n y h.1 k e m in record { shape = p.shape; shaped = p.shaped; stands = p.stands; lifts = p.lifts }
typed_case_lifts t side bytes [] (typed q s ms) x cs n y h k e m = absurd h
typed_case_lifts t side bytes (z ∷ zs) (typed q s ms) zero cs n y h k e m = record {
  shape = s;
  shaped = subst (λ y. HasShape t y s) (same_some z h.0.0 y h.0.1 (same_some (Some z) z (Some y) refl e)) h.0.2;
  stands = (both_true _ _ (sym (joined_lead (flat (width_of side) s) (flat_any (width_of side) ms) cs) ∙ k)).0;
  lifts = ap (λ n. option_map (λ w. value.Case n (w ∷ [])) (lift_leading side bytes s cs)) (same_some (Some q) q n refl m);
}
typed_case_lifts t side bytes (z ∷ zs) (typed q s ms) (suc x) cs n y h k e m =
    let p = typed_case_lifts t side bytes zs ms x cs n y h.1 (both_true _ _ (sym (joined_lead (flat (width_of side) s) (flat_any (width_of side) ms) cs) ∙ k)).1 e m in
    record { shape = p.shape; shaped = p.shaped; stands = p.stands; lifts = p.lifts }

-- behind a discriminant that can stand
pub payload_leads : (fs : List FlatType) (c : CoreValue) (cs : List CoreValue) → can_lead (I32 ∷ fs) (c ∷ cs) ≡ true → can_lead fs cs ≡ true
payload_leads fs c cs e = (both_true (can_stand I32 c) (can_lead fs cs) e).1

-- ---- all core values

module _ (side : SideAbi) (bytes : List ℕ) (s : Shape) (cs : List CoreValue) where
  -- as many as lead
  pub all_lift : (n : ℕ) (o : Option Value) → Some n ≡ leading (flat (width_of side) s) cs → n ≡ length cs → n ≤ 16 → (can_lead (flat (width_of side) s) cs ≡ true → o ≡ lift_leading side bytes s cs) → o ≡ lift side bytes s cs
  all_lift n o led all few lifts =
      let l = leads (flat (width_of side) s) cs n led in
      let flats : flat_types (width_of side) s ≡ Some (flat (width_of side) s) = upto_some (omega (arith, l.1, few)) in
      let stand : can_stand_all (flat (width_of side) s) cs ≡ true = stand_all (flat (width_of side) s) cs (sym led ∙ ap Some all) in
      lifts l.0 ∙ sym (ap (λ o. o >>= (λ fs. if can_stand_all fs cs then lift_leading side bytes s cs else None)) flats ∙ ap (λ (b : Bool). if b then lift_leading side bytes s cs else None) stand)
    where
      upto_some : length (flat (width_of side) s) ≤ 16 → flat_types (width_of side) s ≡ Some (flat (width_of side) s)
      upto_some le = ap (λ (b : Bool). if b then Some (flat (width_of side) s) else None) (let e : nat_le (length (flat (width_of side) s)) 16 ≡ true = grind (arith, le) in e)

  -- another number of them, or more than 16, or some that cannot stand
  pub none_lifts : ((n : ℕ) → leading (flat (width_of side) s) cs ≡ Some n → n ≡ length cs → n ≤ 16 → ⊥) → None ≡ lift side bytes s cs
  none_lifts not = go (nat_le (length (flat (width_of side) s)) 16) refl (can_stand_all (flat (width_of side) s) cs) refl
    where
      led : can_stand_all (flat (width_of side) s) cs ≡ true → length (flat (width_of side) s) ≡ length cs
      led e = sym (leads (flat (width_of side) s) cs (length cs) (sym (as_many (flat (width_of side) s) cs e))).1

      go : (a : Bool) → nat_le (length (flat (width_of side) s)) 16 ≡ a → (b : Bool) → can_stand_all (flat (width_of side) s) cs ≡ b
          → None ≡ (if a then Some (flat (width_of side) s) else None) >>= (λ fs. if can_stand_all fs cs then lift_leading side bytes s cs else None)
      go false p b q = refl
      go true p true q = absurd (not (length cs) (as_many (flat (width_of side) s) cs q) refl (omega (arith, led q, leb-true (length (flat (width_of side) s)) 16 p)))
      go true p false q = sym (ap (λ (b : Bool). if b then lift_leading side bytes s cs else None) q)

-- ---- bytes of words

pub number_append : (xs ys : List ℕ) → number_of (xs ++ ys) ≡ number_of xs + 256 ^ length xs * number_of ys
number_append [] ys = omega arith
number_append (x ∷ xs) ys =
    let wide : 256 ^ suc (length xs) ≡ 256 ^ length xs * 256 = pow-suc 256 (length xs) in
    let more : 256 ^ suc (length xs) * number_of ys ≡ 256 * (256 ^ length xs * number_of ys) = ap (λ p. p * number_of ys) wide ∙ omega arith in
    omega (arith, number_append xs ys, more)

pub wording_starts : (count : ℕ) (cs : List CoreValue) (bytes : List ℕ) → bytes ≡ [] → Wording count 0 cs bytes
wording_starts count cs bytes none = record {
  same = same (numbers_as (replicate count I32) cs) ∙ ap (λ k. option_map (λ ws. number_of [] + 256 ^ length {A = ℕ} [] * number_of_words ws) (numbers_as (replicate k I32) cs)) (let e : count ≡ count - 0 = omega arith in e)
      ∙ ap (λ bs. option_map (λ ws. number_of bs + 256 ^ length bs * number_of_words ws) (numbers_as (replicate (count - 0) I32) cs)) (sym none);
}
  where
    same : (o : Option (List ℕ)) → option_map number_of_words o ≡ option_map (λ ws. number_of [] + 256 ^ length {A = ℕ} [] * number_of_words ws) o
    same None = refl
    same (Some ws) = ap Some (omega arith)

numbers_here : (count i : ℕ) (cs : List CoreValue) (c : CoreValue) → i < count → i < length cs → c ≡ get_or cs i c → numbers_as (replicate (count - i) I32) (drop i cs) ≡ option_map (λ ns. number_as I32 c ∷ ns) (numbers_as (replicate (count - (i + 1)) I32) (drop (i + 1) cs))
numbers_here count i cs c lt less at =
    let e : count - i ≡ suc (count - (i + 1)) = omega (arith, lt) in
    ap (λ k. numbers_as (replicate k I32) (drop i cs)) e ∙ ap (numbers_as (I32 ∷ replicate (count - (i + 1)) I32)) (drop_at i cs c less at)

pub wording_on : (count i : ℕ) (cs : List CoreValue) (bytes bytes' word : List ℕ) (c : CoreValue) (n : ℕ) → i < count → i < length cs → c ≡ get_or cs i c → n ≡ number_as I32 c → number_of word ≡ n → length word ≡ 4 → bytes' ≡ bytes ++ word → Wording count i cs bytes → Wording count (i + 1) cs bytes'
wording_on count i cs bytes bytes' word c n lt less at is spelled four pushed g = record {
  same = g.same ∙ ap (option_map (λ ws. number_of bytes + 256 ^ length bytes * number_of_words ws)) (numbers_here count i cs c lt less at)
      ∙ more (numbers_as (replicate (count - (i + 1)) I32) (drop (i + 1) cs))
      ∙ ap (λ bs. option_map (λ ws. number_of bs + 256 ^ length bs * number_of_words ws) (numbers_as (replicate (count - (i + 1)) I32) (drop (i + 1) cs))) (sym pushed);
}
  where
    one : (w : ℕ) → number_of bytes + 256 ^ length bytes * (number_as I32 c + 2 ^ 32 * w) ≡ number_of (bytes ++ word) + 256 ^ length (bytes ++ word) * w
    one w =
        let long : length (bytes ++ word) ≡ suc (suc (suc (suc (length bytes)))) = omega (arith, length-append bytes word, four) in
        let wide : 256 ^ length (bytes ++ word) ≡ 256 ^ length bytes * 256 * 256 * 256 * 256 =
        ap (λ k. 256 ^ k) long ∙ pow-suc 256 (suc (suc (suc (length bytes)))) ∙ ap (λ p. p * 256) (pow-suc 256 (suc (suc (length bytes))) ∙ ap (λ p. p * 256) (pow-suc 256 (suc (length bytes)) ∙ ap (λ p. p * 256) (pow-suc 256 (length bytes)))) in
        let all : 256 ^ length (bytes ++ word) * w ≡ 256 ^ length bytes * (2 ^ 32 * w) = ap (λ p. p * w) wide ∙ omega arith in
        let front : 256 ^ length bytes * number_of word ≡ 256 ^ length bytes * number_as I32 c = ap (λ k. 256 ^ length bytes * k) (spelled ∙ is) in
        omega (arith, number_append bytes word, all, front)

    more : (o : Option (List ℕ)) → option_map (λ ws. number_of bytes + 256 ^ length bytes * number_of_words ws) (option_map (λ ns. number_as I32 c ∷ ns) o) ≡ option_map (λ ws. number_of (bytes ++ word) + 256 ^ length (bytes ++ word) * number_of_words ws) o
    more None = refl
    more (Some ws) = ap Some (one (number_of_words ws))

pub no_word : (count i : ℕ) (cs : List CoreValue) (bytes : List ℕ) → i < count → length cs ≤ i → Wording count i cs bytes → None ≡ option_map number_of_words (numbers_as (replicate count I32) cs)
no_word count i cs bytes lt ge g =
    let e : count - i ≡ suc (count - (i + 1)) = omega (arith, lt) in
    sym (g.same ∙ ap (option_map (λ ws. number_of bytes + 256 ^ length bytes * number_of_words ws)) (ap (λ k. numbers_as (replicate k I32) (drop i cs)) e ∙ ap (numbers_as (I32 ∷ replicate (count - (i + 1)) I32)) (drop_all i cs ge)))

pub all_words : (count i : ℕ) (cs : List CoreValue) (bytes : List ℕ) → count ≤ i → Wording count i cs bytes → Some (number_of bytes) ≡ option_map number_of_words (numbers_as (replicate count I32) cs)
all_words count i cs bytes ge g =
    let e : count - i ≡ 0 = omega (arith, ge) in
    sym (g.same ∙ ap (λ k. option_map (λ ws. number_of bytes + 256 ^ length bytes * number_of_words ws) (numbers_as (replicate k I32) (drop i cs))) e ∙ ap Some (omega arith))
