-- Values of valid types that agree can be moved.
use Rattle.std.proofs.Common.{◌≡◌, ℕ, suc, ◌≤◌, Bool, true, false, List, [], ◌∷◌, length, Option, Some, None, refl, sym, ap, ◌∙◌, subst, arith, inl, inr}
use Rattle.std.specs.List.{AllByRecursion}
use Rattle.std.specs.Str.{bytes_eq}
use Rattle.std.proofs.lemmas.Bool.{false≢true}
use Rattle.fact_entity.specs.declared.id.Id.{Id}
use Rattle.fact_entity.specs.declared.table.TypeComponentLocalErrorContextTables.{TypeComponentLocalErrorContextTables}
use Rattle.fact_entity.specs.declared.table.TypeResourceTables.{TypeResourceTables}
use Rattle.fact_types.specs.declared.interface.InterfaceType.{InterfaceType}
use Rattle.fact_types.specs.declared.interface.InterfaceType.TheVariants as ty
use Rattle.fact_types.specs.Agrees.{HaveSameNames, Agrees, AgreesPlain, AgreesBy, AgreesFields, AgreesCase, AgreesPlaces, BothThere, chosen, named, names_of}
use Rattle.fact_types.specs.Fields.{field_of}
use Rattle.fact_types.specs.FlatShapes.{AreCounted}
use Rattle.fact_types.specs.Shapes.{Kind, k_record, k_variant, k_list, k_tuple, k_map, k_flags, k_enum, k_option, k_result, k_fixed, k_future, k_stream, Shape, s_plain, s_node, Members, no_members, bare, typed, layouts_of}
use Rattle.fact_types.specs.Layout.{extent, payloads, record_layout}
use Rattle.fact_types.specs.Sound.{TakesBytes}
use Rattle.fact_types.specs.declared.extents.MemoryWidth.{MemoryWidth}
use Rattle.fact_types.specs.declared.extents.MemoryWidth.TheVariants.{Memory32, Memory64}
use Rattle.fact_types.specs.Tuples.{members_from, tuple_members}
use Rattle.fact_types.specs.Valid.{AreDistinct, FollowsRules, IsValid}
use Rattle.fact_types.proofs.PlaceLaws.{ends_within}
use Rattle.fact_types.proofs.ValidLaws.{valid_counted, valid_takes_bytes}
use Rattle.fact_values.specs.Canonical.{ThereIs}
use Rattle.fact_values.specs.Limits.{CaseType, case_type}
use Rattle.fact_values.specs.Numbers.{plain_of}
use Rattle.fact_values.specs.Places.{count_of_members}
use Rattle.fact_action_laws.specs.FaithfulLaws.{AreWellFormedTypes}
use Rattle.fact_action_laws.specs.MoveTerms.{AreTyped, HasValues, IsWellFormed, IsWellFormedBy, AreWellFormed}
use Rattle.fact_action_laws.proofs.Distinct.{each_agrees, places_agree}
use Rattle.fact_action_laws.proofs.Elements.{takes_some}
use Rattle.fact_action_laws.proofs.Fields.{found_named, formed_found}
use Rattle.fact_action_laws.proofs.Membered.{fields_agree, members_formed, members_valid as tuple_valid}
use Rattle.fact_action_laws.proofs.Theorem.{AreValid, case_valid, members_valid, places_names, valid_found}
use Rattle.fact_action_laws.proofs.Tuples.{places_fields}
use Rattle.fact_action_laws.proofs.Variants.{case_formed}
use Rattle.fact_emit.specs.Movable.{CanMove, CanMoveMember, CanMovePlain, CanMoveFields, CanMoveCase, CanMoveCases, CanMoveElements, CanMoveFlags, is_scalar}
use Rattle.fact_compound.specs.Described.{CanMoveTuple}
use Rattle.fact_assembly.proofs.NameCounts.{names_few}

-- ---- one type

-- a handle can be moved to one of its kind
own_moves : (j : Id TypeResourceTables) (s : Shape) → AgreesPlain (ty.Own j) s → CanMovePlain s (ty.Own j)
own_moves j (s_plain (ty.Own i)) a = inr (inr tt)
own_moves j (s_plain p) a = cc
own_moves j (s_node k ms) a = absurd a

borrow_moves : (j : Id TypeResourceTables) (s : Shape) → AgreesPlain (ty.Borrow j) s → CanMovePlain s (ty.Borrow j)
borrow_moves j (s_plain (ty.Borrow i)) a = inr (inr tt)
borrow_moves j (s_plain p) a = cc
borrow_moves j (s_node k ms) a = absurd a

error_moves : (j : Id TypeComponentLocalErrorContextTables) (s : Shape) → AgreesPlain (ty.ErrorContext j) s → CanMovePlain s (ty.ErrorContext j)
error_moves j (s_plain (ty.ErrorContext i)) a = inr (inr tt)
error_moves j (s_plain p) a = cc
error_moves j (s_node k ms) a = absurd a

scalar_moves : (q : InterfaceType) (s : Shape) → is_scalar q ≡ true → AgreesPlain q s → CanMovePlain s q
scalar_moves (ty.Own j) s h a = absurd (false≢true h)
scalar_moves (ty.Borrow j) s h a = absurd (false≢true h)
scalar_moves (ty.ErrorContext j) s h a = absurd (false≢true h)
scalar_moves q (s_plain p) h a = inl (a, ap is_scalar a ∙ h)
scalar_moves q (s_node k ms) h a = absurd a

string_moves : (s : Shape) → AgreesPlain ty.String s → CanMovePlain s ty.String
string_moves (s_plain p) a = inr (inl (a, refl))
string_moves (s_node k ms) a = absurd a

-- a plain type that has values is a scalar, a string or a handle
plain_moves : (q : InterfaceType) (s : Shape) → HasValues (plain_of q) → AgreesPlain q s → CanMovePlain s q
plain_moves ty.Bool s g a = scalar_moves ty.Bool s refl a
plain_moves ty.S8 s g a = scalar_moves ty.S8 s refl a
plain_moves ty.U8 s g a = scalar_moves ty.U8 s refl a
plain_moves ty.S16 s g a = scalar_moves ty.S16 s refl a
plain_moves ty.U16 s g a = scalar_moves ty.U16 s refl a
plain_moves ty.S32 s g a = scalar_moves ty.S32 s refl a
plain_moves ty.U32 s g a = scalar_moves ty.U32 s refl a
plain_moves ty.S64 s g a = scalar_moves ty.S64 s refl a
plain_moves ty.U64 s g a = scalar_moves ty.U64 s refl a
plain_moves ty.Float32 s g a = scalar_moves ty.Float32 s refl a
plain_moves ty.Float64 s g a = scalar_moves ty.Float64 s refl a
plain_moves ty.Char s g a = scalar_moves ty.Char s refl a
plain_moves ty.String s g a = string_moves s a
plain_moves (ty.Own j) s g a = own_moves j s a
plain_moves (ty.Borrow j) s g a = borrow_moves j s a
plain_moves (ty.ErrorContext j) s g a = error_moves j s a
plain_moves _ s g a = absurd g

-- the payload of a case, where it has one, is of a valid type
abbrev IsSoundPayload : CaseType → Type 0
IsSoundPayload c = (p : Shape) → c.payload ≡ Some p → IsValid p × IsWellFormed p

count_names : (ms : Members) → count_of_members ms ≡ length (names_of ms)
count_names no_members = refl
count_names (bare n ms) = ap suc (count_names ms)
count_names (typed n s ms) = ap suc (count_names ms)

flags_move : (ms ns : Members) → HaveSameNames ms ns → AreDistinct (names_of ms) → AreDistinct (names_of ns) → (1 ≤ count_of_members ms) × (count_of_members ms ≤ 32) → CanMoveFlags ms ns
flags_move ms ns a d e enough =
    let given = names_few (names_of ms) (names_of ns) d a.given in
    let asked = names_few (names_of ns) (names_of ms) e a.asked in
    record { same = omega (arith, count_names ms, count_names ns, given, asked); some = enough.0; few = enough.1; alone = d }

-- elements and entries of valid types take bytes
element_bytes : (x : List ℕ) (xs : List (List ℕ)) (ms : Members) → names_of ms ≡ x ∷ xs → AreTyped ms → AreValid ms → TakesBytes (record_layout (payloads (layouts_of ms)))
element_bytes x xs no_members e t v = cc
element_bytes x xs (bare y ms) e t v = absurd t
element_bytes x xs (typed y s ms) e t v =
    let least : (w : MemoryWidth) → 1 ≤ (extent w (record_layout (payloads (layouts_of (typed y s ms))))).size = λ w. omega (arith, takes_some w y s ms v.0, ends_within w (typed y s ms)) in
    record { memory32 = least Memory32; memory64 = least Memory64 }

elements_move : (x : List ℕ) (xs : List (List ℕ)) (ms ns : Members) → (names_of ms ≡ x ∷ xs) × AreTyped ms → (names_of ns ≡ x ∷ xs) × AreTyped ns → AreValid ms → AreValid ns → CanMoveFields ms ns → CanMoveElements ms ns (CanMoveFields ms ns)
elements_move x xs ms ns f g v w fields = record { fields = fields; from_bytes = element_bytes x xs ms f.0 f.1 v; to_bytes = element_bytes x xs ns g.0 g.1 w }

-- what each case of a source has, where the cases agree
module _ (ms ns : Members) (v : AreValid ms) (f : AreWellFormed ms) (go : (c : CaseType) → AgreesCase c.name c.payload ns → IsSoundPayload c → CanMoveCase c ns) where
  each_moves : ((n : ℕ) (c : CaseType) → case_type ms n ≡ Some c → AgreesCase c.name c.payload ns) → CanMoveCases ms ns
  each_moves agree = λ n c h. go c (agree n c h) (λ p e. (case_valid ms n c p v h e, case_formed ms n c p f h e))

  -- those of options and results pair up by place, and have the names of their kind
  paired_moves : AgreesPlaces ms ns → names_of ms ≡ names_of ns → AreDistinct (names_of ns) → CanMoveCases ms ns
  paired_moves a e d = each_moves (λ n c h. places_agree ms ns n c a e d h)

node_moves : (k : Kind) (t : Shape) (ns : Members) → AgreesBy k t ns (λ ms. AgreesFields ms ns) (λ x p. AgreesCase x p ns) (λ ms. AgreesPlaces ms ns)
    → FollowsRules k ns → IsValid t → AreValid ns → IsWellFormed t → IsWellFormedBy k ns
    → ((ms : Members) → AgreesFields ms ns → AreValid ms → AreWellFormed ms → CanMoveFields ms ns)
    → ((c : CaseType) → AgreesCase c.name c.payload ns → IsSoundPayload c → CanMoveCase c ns) → CanMove t (s_node k ns)
node_moves k_record (s_node k_record ms) ns a r v w f g go case = go ms a.fields (members_valid k_record ms v) f.1
node_moves k_tuple (s_node k_tuple ms) ns a r v w f g go case = go ms (places_fields ms ns a (places_names 0 ms ns a f.0.0 g.0) r.distinct f.0.1) (members_valid k_tuple ms v) f.1
node_moves k_list (s_node k_list ms) ns a r v w f g go case =
    elements_move [] [] ms ns f.0 g (members_valid k_list ms v) w (go ms (places_fields ms ns a (f.0.0 ∙ sym g.0) r.distinct f.0.1) (members_valid k_list ms v) f.1)
node_moves k_map (s_node k_map ms) ns a r v w f g go case =
    elements_move (0 ∷ []) ((1 ∷ []) ∷ []) ms ns f.0 g (members_valid k_map ms v) w (go ms (places_fields ms ns a (f.0.0 ∙ sym g.0) r.distinct f.0.1) (members_valid k_map ms v) f.1)
node_moves (k_fixed n) (s_node (k_fixed m) ms) ns a r v w f g go case =
    (a.0, elements_move [] [] ms ns f.0 g (members_valid (k_fixed m) ms v) w (go ms (places_fields ms ns a.1 (f.0.0 ∙ sym g.0) r.distinct f.0.1) (members_valid (k_fixed m) ms v) f.1))
node_moves k_flags (s_node k_flags ms) ns a r v w f g go case = flags_move ms ns a v.ruled.0.distinct r.distinct v.ruled.0.enough
node_moves k_variant (s_node k_variant ms) ns a r v w f g go case = each_moves ms ns (members_valid k_variant ms v) f.1 case (λ n c h. each_agrees ms ns n c a h)
node_moves k_enum (s_node k_enum ms) ns a r v w f g go case = count_names ns ∙ ap length (sym a) ∙ sym (count_names ms)
node_moves k_option (s_node k_option ms) ns a r v w f g go case = paired_moves ms ns (members_valid k_option ms v) f.1 case a (f.0 ∙ sym g) r.distinct
node_moves k_result (s_node k_result ms) ns a r v w f g go case = paired_moves ms ns (members_valid k_result ms v) f.1 case a (f.0 ∙ sym g) r.distinct
node_moves (k_future u i) (s_node (k_future t j) ms) ns a r v w f g go case = tt
node_moves (k_stream u i) (s_node (k_stream t j) ms) ns a r v w f g go case = tt
node_moves k t ns a r v w f g go case = absurd a

-- the source member that a destination member is moved from
field_there : (x : List ℕ) (ms : Members) (u : Shape) (q : Option Shape) → named x ms ≡ q → BothThere q (λ s. Agrees s u) → AreValid ms → AreWellFormed ms
    → ((s : Shape) → Agrees s u → IsValid s → IsWellFormed s → CanMoveMember s u) → ThereIs (field_of x ms) (λ f. CanMoveMember f.shape u)
field_there x ms u None e a v f go = absurd a
field_there x ms u (Some s) e a v f go =
    let found = found_named x ms 0 0 0 s e in
    subst (λ o. ThereIs o (λ f. CanMoveMember f.shape u)) (sym found.is)
    (go found.field.shape (subst (λ s. Agrees s u) (sym found.shape) a) (valid_found x ms 0 0 0 found.field v found.is) (formed_found x ms 0 0 0 found.field f found.is))

-- the payload of a source's case that one of a destination is moved from
payload_there : (o : Option Shape) (u : Shape) → BothThere o (λ s. Agrees s u) → ((p : Shape) → o ≡ Some p → IsValid p × IsWellFormed p) → ((s : Shape) → Agrees s u → IsValid s → IsWellFormed s → CanMoveMember s u) → ThereIs o (λ p. CanMoveMember p u)
payload_there None u a f go = absurd a
payload_there (Some p) u a f go = go p a (f p refl).0 (f p refl).1

-- valid types take bytes
member_moves : (t u : Shape) → IsValid t → IsValid u → CanMove t u → CanMoveMember t u
member_moves t u v w m = record { moves = m; from_bytes = valid_takes_bytes t v; to_bytes = valid_takes_bytes u w }

chosen_as : (b : Bool) (A B C D : Type 0) → (A → C) → (B → D) → chosen b A B → chosen b C D
chosen_as true A B C D f g x = f x
chosen_as false A B C D f g x = g x

mutual
  pub moves : (u t : Shape) → Agrees t u → IsValid t → IsValid u → IsWellFormed t → IsWellFormed u → CanMove t u
  moves (s_plain q) t a v w f g = plain_moves q t g a
  moves (s_node k ns) t a v w f g =
      let valid = members_valid k ns w in
      node_moves k t ns a w.ruled.0 v valid f g.0 (λ ms agree v formed. fields_move ns ms agree v valid formed g.1) (λ c agree sound. case_moves ns c agree sound valid g.1)

  fields_move : (ns ms : Members) → AgreesFields ms ns → AreValid ms → AreValid ns → AreWellFormed ms → AreWellFormed ns → CanMoveFields ms ns
  fields_move no_members ms a v w f g = tt
  fields_move (bare x ns) ms a v w f g = fields_move ns ms a v w f g
  fields_move (typed x u ns) ms a v w f g =
      (field_there x ms u (named x ms) refl a.0 v f (λ s agree valid formed. member_moves s u valid w.0 (moves u s agree valid w.0 formed g.0)), fields_move ns ms a.1 v w.1 f g.1)

  case_moves : (ns : Members) (c : CaseType) → AgreesCase c.name c.payload ns → IsSoundPayload c → AreValid ns → AreWellFormed ns → CanMoveCase c ns
  case_moves no_members c a f w g = absurd a
  case_moves (bare x ns) c a f w g = chosen_as (bytes_eq x c.name) (c.payload ≡ None) (AgreesCase c.name c.payload ns) (c.payload ≡ None) (CanMoveCase c ns) (λ e. e) (λ later. case_moves ns c later f w g) a
  case_moves (typed x u ns) c a f w g =
      chosen_as (bytes_eq x c.name) (BothThere c.payload (λ s. Agrees s u)) (AgreesCase c.name c.payload ns) (ThereIs c.payload (λ p. CanMoveMember p u)) (CanMoveCase c ns)
      (λ here. payload_there c.payload u here f (λ s agree valid formed. member_moves s u valid w.0 (moves u s agree valid w.0 formed g.0))) (λ later. case_moves ns c later f w.1 g.1) a

-- ---- tuples

pub counted_from : (n : ℕ) (ss : List Shape) → AllByRecursion IsValid ss → AreCounted (members_from n ss)
counted_from n [] h = tt
counted_from n (s ∷ ss) h = (valid_counted s h.0, counted_from (suc n) ss h.1)

pub tuple_moves : (ss ds : List Shape) → AgreesPlaces (tuple_members ss) (tuple_members ds) → AreWellFormedTypes ss → AreWellFormedTypes ds → CanMoveTuple ss ds
tuple_moves ss ds agree s d = record {
  from_counted = counted_from 0 ss s.valid;
  to_counted = counted_from 0 ds d.valid;
  members = fields_move (tuple_members ds) (tuple_members ss) (fields_agree ss ds agree) (tuple_valid 0 ss s.valid) (tuple_valid 0 ds d.valid) (members_formed 0 ss s.formed) (members_formed 0 ds d.formed);
}
