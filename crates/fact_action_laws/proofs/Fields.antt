-- The fields of a record at a source.
use Rattle.std.proofs.Common.{◌≡◌, ℕ, zero, suc, ◌+◌, ◌≤◌, Bool, true, false, List, [], ◌∷◌, length, drop, take, Option, Some, None, refl, sym, ap, ◌∙◌, subst, arith, length-take, length-drop, length-append}
use Rattle.std.specs.Prelude.{if◌then◌else◌}
use Rattle.std.specs.List.{zip}
use Rattle.std.specs.Str.{bytes_eq}
use Rattle.std.proofs.lemmas.List.{drop-drop, take-append-drop}
use Rattle.fact_types.specs.declared.outside.StringEncoding.{StringEncoding}
use Rattle.fact_types.specs.declared.extents.MemoryWidth.TheVariants.{Memory32, Memory64}
use Rattle.fact_types.specs.Agrees.{named, first_of}
use Rattle.fact_types.specs.Fields.{Field, find, field_of}
use Rattle.fact_types.specs.FlatShapes.{flat, flat_members}
use Rattle.fact_types.specs.Shapes.{Shape, Members, no_members, bare, typed, place_of, next_of}
use Rattle.fact_types.specs.Signatures.{width}
use Rattle.fact_types.specs.Valid.{IsRuled, AreRuled}
use Rattle.fact_types.proofs.ShapeLaws.{same_some, none_some}
use Rattle.fact_machine.specs.declared.types.CoreValue.{CoreValue}
use Rattle.fact_actions.specs.Moves.{part}
use Rattle.fact_values.specs.Limits.{place_in}
use Rattle.fact_types.specs.declared.extents.MemoryWidth.{MemoryWidth}
use Rattle.fact_actions.specs.Sides.{Source, Values, AtAddress, width_of_side}
use Rattle.fact_types.specs.Adapters.{is_wide}
use Rattle.fact_values.specs.declared.side.SideAbi.{SideAbi}
use Rattle.fact_values.specs.declared.value.Value.{Value}
use Rattle.fact_values.specs.Handles.{value_named}
use Rattle.fact_values.specs.Lift.{lift_leading, lift_members}
use Rattle.fact_values.specs.Load.{load, load_members}
use Rattle.fact_values.specs.Places.{typed_names}
use Rattle.fact_action_laws.specs.MoveTerms.{IsWellFormed, AreWellFormed}
use Rattle.fact_action_laws.specs.Places.{from_side, value_at_source, AreInRange, IsSource}
use Rattle.fact_action_laws.specs.Regions.{TransferSetting}
use Rattle.fact_action_laws.proofs.Flats.{flat_lengths, value_leads}
use Rattle.fact_action_laws.proofs.Plain.{both}

-- the values of the fields of a record at a source
abbrev pub members_taken : TransferSetting → Members → Source → Option (List Value)
members_taken c ms (Values vs) = lift_members (from_side c) c.source ms vs
members_taken c ms (AtAddress a) = load_members (from_side c) c.source ms a 0

-- ---- the field of a name

-- the typed member that stands here
abbrev pub here : Shape → (k a b : ℕ) → Field
here s k a b = record { shape = s; flat_place = k; place32 = place_of Memory32 s a; place64 = place_of Memory64 s b }

abbrev pub later : List ℕ → Shape → Members → (k a b : ℕ) → Option Field
later x s ms k a b = find x ms (k + length (flat Memory32 s)) (next_of Memory32 s a) (next_of Memory64 s b)

-- the first typed member of a name is found
pub record HasField (q : Option Field) (s : Shape) : Type 0 where
  pub field : Field
  pub is : q ≡ Some field
  pub shape : field.shape ≡ s

found_here : (q : Bool) (t s : Shape) (k a b : ℕ) (rest : Option Field) (other : Option Shape) → first_of q (Some t) other ≡ Some s → (other ≡ Some s → HasField rest s) → HasField (if q then Some (here t k a b) else rest) s
found_here true t s k a b rest other h more = record { field = here t k a b; is = refl; shape = same_some (Some t) t s refl h }
found_here false t s k a b rest other h more = more h

pub found_named : (x : List ℕ) (ms : Members) (k a b : ℕ) (s : Shape) → named x ms ≡ Some s → HasField (find x ms k a b) s
found_named x no_members k a b s h = absurd (none_some None s refl h)
found_named x (bare n ms) k a b s h = found_named x ms k a b s h
found_named x (typed n t ms) k a b s h = found_here (bytes_eq n x) t s k a b (later x t ms k a b) (named x ms) h (λ e. found_named x ms (k + length (flat Memory32 t)) (next_of Memory32 t a) (next_of Memory64 t b) s e)

-- what holds of all typed members holds of the one found
module _ (Q : Shape → Type 0) where
  pub found_has : (q : Bool) (s : Shape) (k a b : ℕ) (rest : Option Field) (f : Field) → Q s → (if q then Some (here s k a b) else rest) ≡ Some f → (rest ≡ Some f → Q f.shape) → Q f.shape
  found_has true s k a b rest f h e more = subst (λ g. Q g.shape) (same_some (Some (here s k a b)) (here s k a b) f refl e) h
  found_has false s k a b rest f h e more = more e

pub formed_found : (x : List ℕ) (ms : Members) (k a b : ℕ) (f : Field) → AreWellFormed ms → find x ms k a b ≡ Some f → IsWellFormed f.shape
formed_found x no_members k a b f h e = absurd (none_some None f refl e)
formed_found x (bare n ms) k a b f h e = formed_found x ms k a b f h e
formed_found x (typed n s ms) k a b f h e = found_has IsWellFormed (bytes_eq n x) s k a b (later x s ms k a b) f h.0 e (λ e2. formed_found x ms (k + length (flat Memory32 s)) (next_of Memory32 s a) (next_of Memory64 s b) f h.1 e2)

pub ruled_found : (x : List ℕ) (ms : Members) (k a b : ℕ) (f : Field) → AreRuled ms → find x ms k a b ≡ Some f → IsRuled f.shape
ruled_found x no_members k a b f h e = absurd (none_some None f refl e)
ruled_found x (bare n ms) k a b f h e = ruled_found x ms k a b f h e
ruled_found x (typed n s ms) k a b f h e = found_has IsRuled (bytes_eq n x) s k a b (later x s ms k a b) f h.0 e (λ e2. ruled_found x ms (k + length (flat Memory32 s)) (next_of Memory32 s a) (next_of Memory64 s b) f h.1 e2)

-- ---- its value

-- the value of a field among the values of all, with what is known of its place
pub record HasValue (x : List ℕ) (ms : Members) (vs : List Value) (Is : Value → Type 0) : Type 0 where
  pub value : Value
  pub named : value_named x (zip (typed_names ms) vs) ≡ Some value
  pub at : Is value

value_here : (x n : List ℕ) (s : Shape) (ms : Members) (v : Value) (vs : List Value) (q : Bool) (k a b : ℕ) (rest : Option Field) (f : Field) (Is : Field → Value → Type 0)
    → bytes_eq n x ≡ q → (if q then Some (here s k a b) else rest) ≡ Some f → Is (here s k a b) v → (rest ≡ Some f → HasValue x ms vs (Is f)) → HasValue x (typed n s ms) (v ∷ vs) (Is f)
value_here x n s ms v vs true k a b rest f Is t e h more =
    record { value = v; named = ap (λ q. if q then Some v else value_named x (zip (typed_names ms) vs)) t; at = subst (λ g. Is g v) (same_some (Some (here s k a b)) (here s k a b) f refl e) h }
value_here x n s ms v vs false k a b rest f Is t e h more =
    let r = more e in record { value = r.value; named = ap (λ q. if q then Some v else value_named x (zip (typed_names ms) vs)) t ∙ r.named; at = r.at }

-- one of two numbers of bytes, which memories of either width have
abbrev pub in_width : MemoryWidth → (memory32 memory64 : ℕ) → ℕ
in_width Memory32 p q = p
in_width Memory64 p q = q

pub place_in_width : (b : Bool) (s : Shape) (n p q k : ℕ) → n ≡ in_width (width b) p q → place_of (width b) s n ≡ place_in (width b) (here s k p q)
place_in_width true s n p q k h = ap (place_of Memory64 s) h
place_in_width false s n p q k h = ap (place_of Memory32 s) h

pub next_in_width : (b : Bool) (s : Shape) (n p q : ℕ) → n ≡ in_width (width b) p q → next_of (width b) s n ≡ in_width (width b) (next_of Memory32 s p) (next_of Memory64 s q)
next_in_width true s n p q h = ap (next_of Memory64 s) h
next_in_width false s n p q h = ap (next_of Memory32 s) h

value_bare : (x m : List ℕ) {ms : Members} {vs : List Value} {Is : Value → Type 0} → HasValue x ms vs Is → HasValue x (bare m ms) vs Is
value_bare x m h = record { value = h.value; named = h.named; at = h.at }

module _ (b : Bool) (encoding : StringEncoding) (bytes : List ℕ) where
  -- in memory
  pub value_at : (x : List ℕ) (ms : Members) (k p q a n : ℕ) (f : Field) (vs : List Value) → n ≡ in_width (width b) p q → find x ms k p q ≡ Some f → load_members (record { memory64 = b; encoding = encoding }) bytes ms a n ≡ Some vs
      → HasValue x ms vs (λ v. load (record { memory64 = b; encoding = encoding }) bytes f.shape (a + place_in (width b) f) ≡ Some v)
  unfolding load_members
  value_at x no_members k p q a n f vs w h l = absurd (none_some None f refl h)
  value_at x (bare m ms) k p q a n f vs w h l = value_bare x m (value_at x ms k p q a n f vs w h l)
  value_at x (typed m s ms) k p q a n f vs w h l =
      let one = both (load (record { memory64 = b; encoding = encoding }) bytes s (a + place_of (width b) s n)) _ vs l in
      let rest = both (load_members (record { memory64 = b; encoding = encoding }) bytes ms a (next_of (width b) s n)) _ vs one.last in
      let is : one.mid ∷ rest.mid ≡ vs = same_some (Some (one.mid ∷ rest.mid)) (one.mid ∷ rest.mid) vs refl rest.last in
      subst (λ us. HasValue x (typed m s ms) us (λ v. load (record { memory64 = b; encoding = encoding }) bytes f.shape (a + place_in (width b) f) ≡ Some v)) is
      (value_here x m s ms one.mid rest.mid (bytes_eq m x) k p q (later x s ms k p q) f (λ g v. load (record { memory64 = b; encoding = encoding }) bytes g.shape (a + place_in (width b) g) ≡ Some v) refl h
      (subst (λ i. load (record { memory64 = b; encoding = encoding }) bytes s (a + i) ≡ Some one.mid) (place_in_width b s n p q k w) one.first)
      (λ e. value_at x ms (k + length (flat Memory32 s)) (next_of Memory32 s p) (next_of Memory64 s q) a (next_of (width b) s n) f rest.mid (next_in_width b s n p q w) e rest.first))

-- among core values
pub record IsFlatAt (side : SideAbi) (bytes : List ℕ) (whole : List CoreValue) (end : ℕ) (f : Field) (v : Value) : Type 0 where
  pub lifts : lift_leading side bytes f.shape (drop f.flat_place whole) ≡ Some v
  pub within : f.flat_place + length (flat (width side.memory64) f.shape) ≤ end

pub value_among : (side : SideAbi) (bytes : List ℕ) (whole : List CoreValue) (x : List ℕ) (ms : Members) (k p q end : ℕ) (f : Field) (vs : List Value)
    → k + length (flat_members (width side.memory64) ms) ≤ end → find x ms k p q ≡ Some f → lift_members side bytes ms (drop k whole) ≡ Some vs → HasValue x ms vs (IsFlatAt side bytes whole end f)
unfolding lift_members
value_among side bytes whole x no_members k p q end f vs le h l = absurd (none_some None f refl h)
value_among side bytes whole x (bare m ms) k p q end f vs le h l = value_bare x m (value_among side bytes whole x ms k p q end f vs le h l)
value_among side bytes whole x (typed m s ms) k p q end f vs le h l =
    let w = width side.memory64 in
    let one = both (lift_leading side bytes s (drop k whole)) _ vs l in
    let rest = both (lift_members side bytes ms (drop (length (flat w s)) (drop k whole))) _ vs one.last in
    let is : one.mid ∷ rest.mid ≡ vs = same_some (Some (one.mid ∷ rest.mid)) (one.mid ∷ rest.mid) vs refl rest.last in
    let long = length-append (flat w s) (flat_members w ms) in
    let wide = flat_lengths Memory32 w s in
    subst (λ us. HasValue x (typed m s ms) us (IsFlatAt side bytes whole end f)) is
    (value_here x m s ms one.mid rest.mid (bytes_eq m x) k p q (later x s ms k p q) f (λ g v. IsFlatAt side bytes whole end g v) refl h
    (record { lifts = one.first; within = omega (arith, le, long) })
    (λ e. value_among side bytes whole x ms (k + length (flat Memory32 s)) (next_of Memory32 s p) (next_of Memory64 s q) end f rest.mid (omega (arith, le, long, wide)) e
    (ap (λ cs. lift_members side bytes ms cs) (sym (drop-drop (length (flat w s)) k whole ∙ ap (λ j. drop (k + j) whole) (sym wide))) ∙ rest.first)))

-- ---- at a source

in_range_drop : (n : ℕ) (vs : List CoreValue) → AreInRange vs → AreInRange (drop n vs)
in_range_drop zero vs h = h
in_range_drop (suc n) [] h = tt
in_range_drop (suc n) (v ∷ vs) h = in_range_drop n vs h.1

in_range_take : (n : ℕ) (vs : List CoreValue) → AreInRange vs → AreInRange (take n vs)
in_range_take zero vs h = tt
in_range_take (suc n) [] h = tt
in_range_take (suc n) (v ∷ vs) h = (h.0, in_range_take n vs h.1)

-- a part of core values is a source
pub part_source : (c : TransferSetting) (n k : ℕ) (vs : List CoreValue) → k + n ≤ length vs → AreInRange vs → IsSource c n (Values (take n (drop k vs)))
part_source c n k vs le r = (omega (arith, length-take n (drop k vs), length-drop k vs, le), in_range_take n (drop k vs) (in_range_drop k vs r))

-- a value that leads core values is that of as many as it needs
pub part_lifts : (side : SideAbi) (bytes : List ℕ) (s : Shape) (n k : ℕ) (vs : List CoreValue) (v : Value) → IsWellFormed s → n ≡ length (flat (width side.memory64) s) → k + n ≤ length vs → lift_leading side bytes s (drop k vs) ≡ Some v → lift_leading side bytes s (take n (drop k vs)) ≡ Some v
part_lifts side bytes s n k vs v formed e le h =
    sym (value_leads side bytes s formed (take n (drop k vs)) (drop n (drop k vs)) (omega (arith, length-take n (drop k vs), length-drop k vs, le, e)))
    ∙ ap (λ cs. lift_leading side bytes s cs) (take-append-drop n (drop k vs)) ∙ h

-- a field of a record at a source
pub record IsFieldAt (c : TransferSetting) (f : Field) (s : Source) (v : Value) : Type 0 where
  pub taken : value_at_source c f.shape (part c.transfer.from f s) ≡ Some v
  pub source : IsSource c (length (flat (width_of_side c.transfer.from) f.shape)) (part c.transfer.from f s)

pub field_taken : (c : TransferSetting) (x : List ℕ) (ms : Members) (f : Field) (s : Source) (vs : List Value) → AreWellFormed ms → field_of x ms ≡ Some f → IsSource c (length (flat_members (width_of_side c.transfer.from) ms)) s → members_taken c ms s ≡ Some vs
    → HasValue x ms vs (IsFieldAt c f s)
field_taken c x ms f (AtAddress a) vs formed h is l =
    let r = value_at (is_wide c.transfer.from.memory) c.transfer.from.encoding c.source x ms 0 0 0 a 0 f vs (zero_place (is_wide c.transfer.from.memory)) h l in
    record { value = r.value; named = r.named; at = record { taken = r.at; source = is } }
  where
    zero_place : (b : Bool) → 0 ≡ in_width (width b) 0 0
    zero_place true = refl
    zero_place false = refl
field_taken c x ms f (Values cs) vs formed h is l =
    let n = length (flat (width_of_side c.transfer.from) f.shape) in
    let r = value_among (from_side c) c.source cs x ms 0 0 0 (length cs) f vs (omega (arith, is.0)) h l in
    record {
      value = r.value;
      named = r.named;
      at = record {
        taken = part_lifts (from_side c) c.source f.shape n f.flat_place cs r.value (formed_found x ms 0 0 0 f formed h) refl r.at.within r.at.lifts;
        source = part_source c n f.flat_place cs r.at.within is.1;
      };
    }
