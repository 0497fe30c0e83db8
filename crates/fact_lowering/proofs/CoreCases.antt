-- Cases as core values: the discriminant, the payload at the first of the slots of all payloads joined, and zeros.
use Rattle.std.proofs.Common.{◌≡◌, ℕ, zero, suc, ◌+◌, ◌^◌, ◌<◌, ◌≤◌, List, [], ◌∷◌, ◌++◌, length, map, take, drop, Option, Some, None, refl, sym, ap, ◌∙◌, subst, arith, append_assoc}
use Rattle.std.specs.Prelude.{option_map, if◌then◌else◌, Bool}
use Rattle.std.specs.List.{AllZip}
use Rattle.fact_machine.specs.declared.types.CoreValue.{CoreValue}
use Rattle.fact_machine.specs.Typed.{IsValue}
use Rattle.fact_types.specs.declared.flats.FlatType.{FlatType}
use Rattle.fact_types.specs.declared.flats.FlatType.TheVariants.{I32}
use Rattle.fact_types.specs.declared.interface.InterfaceType.{InterfaceType}
use Rattle.fact_types.specs.Agrees.{chosen, names_of}
use Rattle.fact_types.specs.Flat.{join, value_type}
use Rattle.fact_types.specs.FlatShapes.{flat, flat_any}
use Rattle.fact_types.specs.Shapes.{Kind, Shape, s_node, Members, no_members, bare, typed}
use Rattle.fact_types.specs.Tables.{Tables, HasShape}
use Rattle.fact_types.proofs.ShapeLaws.{same_some, none_some}
use Rattle.fact_values.specs.declared.side.SideAbi.{SideAbi}
use Rattle.fact_values.specs.declared.value.Value.{Value}
use Rattle.fact_values.specs.declared.value.Value.TheVariants as value
use Rattle.fact_values.specs.Handles.{only}
use Rattle.fact_values.specs.IsA.{IsA, HasCase, IsOnePayload}
use Rattle.fact_values.specs.Lift.{lift_leading, lift_case}
use Rattle.fact_values.specs.Places.{width_of}
use Rattle.fact_values.proofs.IsALaws.{bytes_are}
use Rattle.fact_abi.specs.Finding.{IsFirstNamed, member_type_at}
use Rattle.fact_abi.specs.Nodes.{AreOf}
use Rattle.fact_lowering.specs.CoreSteps.{zeros_of}
use Rattle.fact_lowering.specs.Lowered.{BeginWideFor, ReadsAs, IsLowered, IsLoweredTo, own_measure, own_room}
use Rattle.fact_lowering.specs.Lowerings.{ReadsCaseAs, core_of, own_case}
use Rattle.fact_lowering.specs.Room.{measured, measured_payload, or_own, shape_named, where_there}
use Rattle.fact_lowering.specs.TextForms.{IsCaseByForm, IsByForm}
use Rattle.fact_lowering.proofs.CoreNumbers.{core_typed}
use Rattle.fact_lowering.proofs.CoreReads.{case_reads}
use Rattle.fact_lowering.proofs.CoreWrites.{both_lowered, pushed_lowered}
use Rattle.fact_lowering.proofs.OwnRooms.{IsCaseKind, own_any}
use Rattle.fact_lowering.proofs.WideLaws.{wide_one, wide_other}

-- ---- a case without a payload

pub record BareHere (side : SideAbi) (ms : Members) (i : ℕ) (x : List ℕ) (vs : List Value) : Type 0 where
  pub room : (p : Option Shape) → measured_payload (own_measure side) ms x vs p ≡ 0
  pub reads : (cs : List CoreValue) (bytes : List ℕ) → ReadsCaseAs side ms i x vs cs bytes

pub bare_here : (t : Tables) (side : SideAbi) (types : List (Option InterfaceType)) (ms : Members) (i : ℕ) (x : List ℕ) (vs : List Value) → AreOf t types ms → IsFirstNamed x (names_of ms) i → member_type_at types i ≡ None → HasCase ms x vs → BareHere side ms i x vs
unfolding IsA lift_case IsCaseByForm measured
bare_here t side types no_members i x vs h g e k = absurd g
bare_here t side [] (bare n ms) i x vs h g e k = absurd h
bare_here t side (z ∷ zs) (bare n ms) zero x vs h g e k =
    let none : vs ≡ [] = subst (λ b. chosen b (vs ≡ []) (HasCase ms x vs)) g k in
    record {
      room = λ p. ap (λ (b : Bool). if b then 0 else measured_payload (own_measure side) ms x vs p) g;
      reads = λ cs bytes more. ((λ j. Some (value.Case (bytes_are n x g j) (sym none j))), tt);
    }
bare_here t side (z ∷ zs) (bare n ms) (suc i) x vs h g e k =
    let p = bare_here t side zs ms i x vs h.1 g.1 e (subst (λ b. chosen b (vs ≡ []) (HasCase ms x vs)) g.0 k) in
    record { room = λ q. ap (λ (b : Bool). if b then 0 else measured_payload (own_measure side) ms x vs q) g.0 ∙ p.room q; reads = p.reads }
bare_here t side [] (typed n s ms) i x vs h g e k = absurd h
bare_here t side (z ∷ zs) (typed n s ms) zero x vs h g e k = absurd (none_some z h.0.0 e h.0.1)
bare_here t side (z ∷ zs) (typed n s ms) (suc i) x vs h g e k =
    let p = bare_here t side zs ms i x vs h.1 g.1 e (subst (λ b. chosen b (IsOnePayload (λ v. IsA s v) vs) (HasCase ms x vs)) g.0 k) in
    record { room = λ q. ap (λ (b : Bool). if b then where_there (only vs) (λ v. measured (own_measure side) s (or_own s q) v) else measured_payload (own_measure side) ms x vs q) g.0 ∙ p.room q; reads = p.reads }

-- ---- a case with a payload

one_of : (P : Value → Type 0) (vs : List Value) → IsOnePayload P vs → (v : Value) × (vs ≡ v ∷ []) × P v
one_of P [] h = absurd h
one_of P (v ∷ []) h = (v, refl, h)
one_of P (v ∷ u ∷ vs) h = absurd h

pub record PayloadHere (t : Tables) (side : SideAbi) (ms : Members) (i : ℕ) (x : List ℕ) (vs : List Value) (slots : List FlatType) (y : InterfaceType) : Type 0 where
  pub shape : Shape
  pub shaped : HasShape t y shape
  pub item : Value
  pub one : vs ≡ item ∷ []
  pub is : IsA shape item
  pub wide : BeginWideFor (flat (width_of side) shape) slots
  pub room : (p : Option Shape) → measured_payload (own_measure side) ms x vs p ≡ own_room side shape item
  pub reads : (cs zs : List CoreValue) (bytes : List ℕ) → ReadsAs side shape item cs bytes → ReadsCaseAs side ms i x vs (cs ++ zs) bytes

pub payload_here : (t : Tables) (side : SideAbi) (types : List (Option InterfaceType)) (ms : Members) (i : ℕ) (x : List ℕ) (vs : List Value) (slots : List FlatType) (y : InterfaceType) → AreOf t types ms → IsFirstNamed x (names_of ms) i → member_type_at types i ≡ Some y → HasCase ms x vs
    → BeginWideFor (flat_any (width_of side) ms) slots → PayloadHere t side ms i x vs slots y
unfolding IsA lift_case IsCaseByForm measured
payload_here t side types no_members i x vs slots y h g e k w = absurd g
payload_here t side [] (bare n ms) i x vs slots y h g e k w = absurd h
payload_here t side (z ∷ zs) (bare n ms) zero x vs slots y h g e k w = absurd (none_some z y h.0 e)
payload_here t side (z ∷ zs) (bare n ms) (suc i) x vs slots y h g e k w =
    let p = payload_here t side zs ms i x vs slots y h.1 g.1 e (subst (λ b. chosen b (vs ≡ []) (HasCase ms x vs)) g.0 k) w in
    record {
      shape = p.shape;
      shaped = p.shaped;
      item = p.item;
      one = p.one;
      is = p.is;
      wide = p.wide;
      room = λ q. ap (λ (b : Bool). if b then 0 else measured_payload (own_measure side) ms x vs q) g.0 ∙ p.room q;
      reads = p.reads;
    }
payload_here t side [] (typed n s ms) i x vs slots y h g e k w = absurd h
payload_here t side (z ∷ zs) (typed n s ms) zero x vs slots y h g e k w =
    let (v, one, is) = one_of (λ v. IsA s v) vs (subst (λ b. chosen b (IsOnePayload (λ v. IsA s v) vs) (HasCase ms x vs)) g k) in
    record {
      shape = s;
      shaped = subst (λ y. HasShape t y s) (same_some z h.0.0 y h.0.1 e) h.0.2;
      item = v;
      one = one;
      is = is;
      wide = wide_one (flat (width_of side) s) (flat_any (width_of side) ms) slots w;
      room = λ q. ap (λ (b : Bool). if b then where_there (only vs) (λ v. measured (own_measure side) s (or_own s q) v) else measured_payload (own_measure side) ms x vs q) g
          ∙ ap (λ us. where_there (only us) (λ v. measured (own_measure side) s (or_own s q) v)) one ∙ own_any side s (or_own s q) s v;
      reads = λ cs ts bytes f more. (
        ap (λ l. option_map (λ u. value.Case n (u ∷ [])) (lift_leading side bytes s l)) (append_assoc cs ts more) ∙ ap (option_map (λ u. value.Case n (u ∷ []))) (f (ts ++ more)).0 ∙ (λ j. Some (value.Case (bytes_are n x g j) (sym one j))),
        subst (IsByForm side bytes s) (sym (append_assoc cs ts more)) (f (ts ++ more)).1,
      );
    }
payload_here t side (z ∷ zs) (typed n s ms) (suc i) x vs slots y h g e k w =
    let p = payload_here t side zs ms i x vs slots y h.1 g.1 e (subst (λ b. chosen b (IsOnePayload (λ v. IsA s v) vs) (HasCase ms x vs)) g.0 k) (wide_other (flat (width_of side) s) (flat_any (width_of side) ms) slots w) in
    record {
      shape = p.shape;
      shaped = p.shaped;
      item = p.item;
      one = p.one;
      is = p.is;
      wide = p.wide;
      room = λ q. ap (λ (b : Bool). if b then where_there (only vs) (λ v. measured (own_measure side) s (or_own s q) v) else measured_payload (own_measure side) ms x vs q) g.0 ∙ p.room q;
      reads = p.reads;
    }

-- ---- the whole case

zeros_typed : (slots : List FlatType) → AllZip (λ c t. IsValue c t) (zeros_of slots) (map value_type slots)
zeros_typed [] = tt
zeros_typed (f ∷ fs) = (core_typed f 0 (omega arith), zeros_typed fs)

parted : (xs : List FlatType) (n : ℕ) → take n xs ++ drop n xs ≡ xs
parted [] zero = refl
parted [] (suc n) = refl
parted (x ∷ xs) zero = refl
parted (x ∷ xs) (suc n) = ap (λ l. x ∷ l) (parted xs n)

module _ (side : SideAbi) (k : Kind) (ms : Members) (i : ℕ) (x : List ℕ) (vs : List Value) (slot : FlatType) (rest : List FlatType) (low : ℕ) (before : List ℕ) (out out' : List CoreValue)
    (cases : IsCaseKind k) (wide : join I32 slot ≡ slot) (small : i < 2 ^ 32) (inside : low ≤ length before) (told : out' ≡ out ++ core_of slot i ∷ []) where
  discriminant : IsLoweredTo (λ cs other. cs ≡ core_of slot i ∷ []) (slot ∷ []) low low 0 before before out out'
  discriminant = pushed_lowered (core_of slot i ∷ []) (slot ∷ []) told (core_typed slot i (omega (arith, small)), tt) (λ other. refl) inside

  -- the discriminant before a payload
  behind : (R : List CoreValue → List ℕ → Type 0) (more : List FlatType) (high most : ℕ) (after : List ℕ) (end : List CoreValue) → ((cs : List CoreValue) (other : List ℕ) → R cs other → ReadsCaseAs side ms i x vs cs other)
      → IsLoweredTo R more low high most before after out' end → IsLoweredTo (ReadsAs side (s_node k ms) (value.Case x vs)) (slot ∷ more) low high most before after out end
  behind R more high most after end f l =
      let none : 0 + most ≡ most = omega arith in
      subst (λ n. IsLoweredTo (ReadsAs side (s_node k ms) (value.Case x vs)) (slot ∷ more) low high n before after out end) none
      (both_lowered (λ c d long other_long other e r. subst (λ l. ReadsAs side (s_node k ms) (value.Case x vs) (l ++ d) other) (sym e) (case_reads side k ms i x vs slot d other cases wide small (f d other r))) discriminant l)

  pub bare_lowered : (end : List CoreValue) → BareHere side ms i x vs → end ≡ out' ++ zeros_of rest → IsLoweredTo (ReadsAs side (s_node k ms) (value.Case x vs)) (slot ∷ rest) low low (own_case side ms x vs) before before out end
  bare_lowered end h zeros =
      subst (λ n. IsLoweredTo (ReadsAs side (s_node k ms) (value.Case x vs)) (slot ∷ rest) low low n before before out end) (sym (h.room (shape_named x ms)))
      (behind (λ cs other. cs ≡ zeros_of rest) rest low 0 before end (λ cs other e. h.reads cs other) (pushed_lowered (zeros_of rest) rest zeros (zeros_typed rest) (λ other. refl) inside))

  pub typed_lowered : (t : Tables) (y : InterfaceType) (h : PayloadHere t side ms i x vs rest y) (count high : ℕ) (after : List ℕ) (mid end : List CoreValue) → IsLowered side h.shape h.item (take count rest) low high before after out' mid → end ≡ mid ++ zeros_of (drop count rest)
      → IsLoweredTo (ReadsAs side (s_node k ms) (value.Case x vs)) (slot ∷ rest) low high (own_case side ms x vs) before after out end
  typed_lowered t y h count high after mid end l zeros =
      let all : own_room side h.shape h.item + 0 ≡ own_case side ms x vs = (let e : own_room side h.shape h.item + 0 ≡ own_room side h.shape h.item = omega arith in e) ∙ sym (h.room (shape_named x ms)) in
      let payload : IsLoweredTo (λ cs other. ReadsCaseAs side ms i x vs cs other) (take count rest ++ drop count rest) low high (own_room side h.shape h.item + 0) before after out' end =
      both_lowered (λ c d long other_long other r e. h.reads c d other r) l (pushed_lowered {R = λ cs other. cs ≡ zeros_of (drop count rest)} (zeros_of (drop count rest)) (drop count rest) zeros (zeros_typed (drop count rest)) (λ other. refl) l.written.rises.inside) in
      subst (λ n. IsLoweredTo (ReadsAs side (s_node k ms) (value.Case x vs)) (slot ∷ rest) low high n before after out end) all
      (behind (λ cs other. ReadsCaseAs side ms i x vs cs other) rest high (own_room side h.shape h.item + 0) after end (λ cs other r. r)
      (subst (λ fs. IsLoweredTo (λ cs other. ReadsCaseAs side ms i x vs cs other) fs low high (own_room side h.shape h.item + 0) before after out' end) (parted rest count) payload))
