-- Tables of futures and of streams. Tests of shapes tell equality, and types that stand for one shape are one. So a table that
-- the builder adds or finds has the number that the plan's own list of tables gives it.
use Rattle.std.proofs.Common.{◌≡◌, ◌<◌, ℕ, zero, suc, List, [], ◌∷◌, ◌++◌, length, Option, Some, None, Bool, true, false, cond, if◌then◌else◌, ◌&&◌, ◌||◌, ◌+◌, refl, sym, ◌∙◌, ap, subst, arith, All}
use Rattle.std.specs.Prelude.{nat_eq, not, slice_get}
use Rattle.std.specs.Cmp.{first_so, second_so}
use Rattle.std.specs.List.{AllZip, list_any, position_or_len}
use Rattle.std.specs.Str.{bytes_eq}
use Rattle.std.proofs.lemmas.Bool.{eqb-true, eq-eqb, true≢false}
use Rattle.std.proofs.lemmas.Slice.Eq.{bytes_eq-Decides}
use Rattle.indexmap.specs.IndexSet.{insert_key}
use Rattle.fact_entity.specs.Places.{IsInterned}
use Rattle.fact_types.specs.declared.interface.InterfaceType.{InterfaceType}
use Rattle.fact_types.specs.contracts.interface.InterfaceTypeEq.TheImpl.Laws.{laws-law as type_laws}
use Rattle.fact_types.specs.Exact.{exact_type}
use Rattle.fact_types.specs.Shapes.{Kind, k_record, k_variant, k_list, k_tuple, k_map, k_flags, k_enum, k_option, k_result, k_fixed, k_future, k_stream, Shape, s_plain, s_node, Members, no_members, bare, typed}
use Rattle.fact_types.specs.Tables.{Tables, HasShape, payload_in}
use Rattle.fact_types.proofs.ShapeLaws.{one_shape}
use Rattle.fact_plan_types.specs.PlanShapes.{HandleTable, same_kind, same_shape, same_members, same_payload, same_table}
use Rattle.fact_plan_types.specs.Standing.{PayloadStands, IsHandleTable}

-- ---- the tests of shapes tell equality
join : (a b : Bool) → a ≡ true → b ≡ true → a && b ≡ true
join true true p q = refl
join true false p q = q
join false b p q = p

same_kind-exact : (k l : Kind) → same_kind k l ≡ true → k ≡ l
same_kind-exact k_record k_record h = refl
same_kind-exact k_variant k_variant h = refl
same_kind-exact k_list k_list h = refl
same_kind-exact k_tuple k_tuple h = refl
same_kind-exact k_map k_map h = refl
same_kind-exact k_flags k_flags h = refl
same_kind-exact k_enum k_enum h = refl
same_kind-exact k_option k_option h = refl
same_kind-exact k_result k_result h = refl
same_kind-exact (k_fixed m) (k_fixed n) h = ap k_fixed (eqb-true m n h)
same_kind-exact (k_future t i) (k_future u j) h =
    let e = eqb-true t u (first_so _ _ h) in
    let f = eqb-true i j (second_so (nat_eq t u) _ h) in
    λ k. k_future (e k) (f k)
same_kind-exact (k_stream t i) (k_stream u j) h =
    let e = eqb-true t u (first_so _ _ h) in
    let f = eqb-true i j (second_so (nat_eq t u) _ h) in
    λ k. k_stream (e k) (f k)
same_kind-exact k l h = absurd (true≢false (sym h))

same_kind-refl : (k : Kind) → same_kind k k ≡ true
same_kind-refl (k_fixed m) = eq-eqb m m refl
same_kind-refl (k_future t i) = join _ _ (eq-eqb t t refl) (eq-eqb i i refl)
same_kind-refl (k_stream t i) = join _ _ (eq-eqb t t refl) (eq-eqb i i refl)
same_kind-refl k = refl

same_bytes : (x y : List ℕ) → bytes_eq x y ≡ true → x ≡ y
same_bytes x y h = (bytes_eq-Decides x y).0 h

mutual
  pub same_shape-exact : (s z : Shape) → same_shape s z ≡ true → s ≡ z
  same_shape-exact (s_plain p) (s_plain q) h = ap s_plain (exact_type p q h)
  same_shape-exact (s_node k ms) (s_node l ns) h =
      let e = same_kind-exact k l (first_so _ _ h) in
      let f = same_members-exact ms ns (second_so (same_kind k l) _ h) in
      λ i. s_node (e i) (f i)
  same_shape-exact s z h = absurd (true≢false (sym h))

  same_members-exact : (ms ns : Members) → same_members ms ns ≡ true → ms ≡ ns
  same_members-exact no_members no_members h = refl
  same_members-exact (bare x ms) (bare y ns) h =
      let e = same_bytes x y (first_so _ _ h) in
      let f = same_members-exact ms ns (second_so (bytes_eq x y) _ h) in
      λ i. bare (e i) (f i)
  same_members-exact (typed x s ms) (typed y z ns) h =
      let e = same_bytes x y (first_so _ _ h) in
      let r = second_so (bytes_eq x y) _ h in
      let f = same_shape-exact s z (first_so _ _ r) in
      let g = same_members-exact ms ns (second_so (same_shape s z) _ r) in
      λ i. typed (e i) (f i) (g i)
  same_members-exact ms ns h = absurd (true≢false (sym h))

mutual
  pub same_shape-refl : (s : Shape) → same_shape s s ≡ true
  same_shape-refl (s_plain p) = type_laws.refl p
  same_shape-refl (s_node k ms) = join _ _ (same_kind-refl k) (same_members-refl ms)

  same_members-refl : (ms : Members) → same_members ms ms ≡ true
  same_members-refl no_members = refl
  same_members-refl (bare x ms) = join _ _ ((bytes_eq-Decides x x).1 refl) (same_members-refl ms)
  same_members-refl (typed x s ms) = join _ _ ((bytes_eq-Decides x x).1 refl) (join _ _ (same_shape-refl s) (same_members-refl ms))

same_payload-exact : (x y : Option Shape) → same_payload x y ≡ true → x ≡ y
same_payload-exact None None h = refl
same_payload-exact (Some s) (Some z) h = ap Some (same_shape-exact s z h)
same_payload-exact x y h = absurd (true≢false (sym h))

same_payload-refl : (x y : Option Shape) → x ≡ y → same_payload x y ≡ true
same_payload-refl None None e = refl
same_payload-refl (Some s) (Some z) e = subst (λ w. same_payload (Some s) w ≡ true) e (same_shape-refl s)
same_payload-refl None (Some z) e = absurd (cc)
same_payload-refl (Some s) None e = absurd (cc)

pub same_table-exact : (a b : HandleTable) → same_table a b ≡ true → a ≡ b
same_table-exact a b h =
    let e = same_payload-exact a.payload b.payload (first_so _ _ h) in
    let f = eqb-true a.instance b.instance (second_so (same_payload a.payload b.payload) _ h) in
    λ i. record { payload = e i; instance = f i }

pub same_table-refl : (a : HandleTable) → same_table a a ≡ true
same_table-refl a = join _ _ (same_payload-refl a.payload a.payload refl) (eq-eqb a.instance a.instance refl)

-- ---- payloads
payload_shape : (t : Tables) (p : Option InterfaceType) (x y : Option Shape) → PayloadStands t p x → PayloadStands t p y → x ≡ y
payload_shape t None None None h k = refl
payload_shape t None None (Some z) h k = absurd k
payload_shape t None (Some s) y h k = absurd h
payload_shape t (Some ty) None y h k = absurd h
payload_shape t (Some ty) (Some s) None h k = absurd k
payload_shape t (Some ty) (Some s) (Some z) h k = ap Some (one_shape t s z ty h k)

payload_type : (t : Tables) → ((a b : InterfaceType) (s : Shape) → HasShape t a s → HasShape t b s → a ≡ b)
    → (p q : Option InterfaceType) (x : Option Shape) → PayloadStands t p x → PayloadStands t q x → p ≡ q
payload_type t one None None x h k = refl
payload_type t one None (Some b) None h k = absurd k
payload_type t one None (Some b) (Some s) h k = absurd h
payload_type t one (Some a) None None h k = absurd h
payload_type t one (Some a) None (Some s) h k = absurd k
payload_type t one (Some a) (Some b) None h k = absurd h
payload_type t one (Some a) (Some b) (Some s) h k = ap Some (one a b s h k)

pub payload_keeps : (t u : Tables) → ((ty : InterfaceType) (s : Shape) → HasShape t ty s → HasShape u ty s) → (p : Option InterfaceType) (x : Option Shape) → PayloadStands t p x → PayloadStands u p x
payload_keeps t u k None None h = h
payload_keeps t u k None (Some s) h = h
payload_keeps t u k (Some ty) None h = h
payload_keeps t u k (Some ty) (Some s) h = k ty s h

-- ---- lists that stand for one another, place by place
both : (a b : Bool) → (a ≡ true → b ≡ true) → (b ≡ true → a ≡ true) → a ≡ b
both true b f g = sym (f refl)
both false true f g = g refl
both false false f g = refl

pub there : {X : Type 0} (xs : List X) (i : ℕ) → i < length xs → (x : X) × (slice_get xs i ≡ Some x)
there [] i h = absurd (omega (arith, h))
there (x ∷ xs) zero h = (x, refl)
there (x ∷ xs) (suc i) h = there xs i (omega (arith, h))

pub zip_map : {A B : Type 0} (R S : A → B → Type 0) → ((a : A) (b : B) → R a b → S a b) → (xs : List A) (ys : List B) → AllZip R xs ys → AllZip S xs ys
zip_map R S f [] [] z = z
zip_map R S f [] (y ∷ ys) z = z
zip_map R S f (x ∷ xs) [] z = z
zip_map R S f (x ∷ xs) (y ∷ ys) z = (f x y z.0, zip_map R S f xs ys z.1)

zip_with : {A B : Type 0} (P : A → Type 0) (R : A → B → Type 0) (xs : List A) (ys : List B) → All P xs → AllZip R xs ys → AllZip (λ a b. P a × R a b) xs ys
zip_with P R [] [] a z = z
zip_with P R [] (y ∷ ys) a z = z
zip_with P R (x ∷ xs) [] a z = z
zip_with P R (x ∷ xs) (y ∷ ys) a z = ((a 0 x (omega arith), z.0), zip_with P R xs ys (λ i d l. a (suc i) d (omega (arith, l))) z.1)

pub zip_push : {A B : Type 0} (R : A → B → Type 0) (xs : List A) (ys : List B) (x : A) (y : B) → AllZip R xs ys → R x y → AllZip R (xs ++ x ∷ []) (ys ++ y ∷ [])
zip_push R [] [] x y z r = (r, tt)
zip_push R [] (b ∷ ys) x y z r = absurd z
zip_push R (a ∷ xs) [] x y z r = absurd z
zip_push R (a ∷ xs) (b ∷ ys) x y z r = (z.0, zip_push R xs ys x y z.1 r)

zip_position : {A B : Type 0} (p : A → Bool) (q : B → Bool) (xs : List A) (ys : List B) → AllZip (λ a b. p a ≡ q b) xs ys → position_or_len p xs ≡ position_or_len q ys
zip_position p q [] [] z = refl
zip_position p q [] (y ∷ ys) z = absurd z
zip_position p q (x ∷ xs) [] z = absurd z
zip_position p q (x ∷ xs) (y ∷ ys) z =
    let e = zip_position p q xs ys z.1 in
    λ i. cond (not (z.0 i)) (1 + e i) 0

zip_any : {A B : Type 0} (p : A → Bool) (q : B → Bool) (xs : List A) (ys : List B) → AllZip (λ a b. p a ≡ q b) xs ys → list_any p xs ≡ list_any q ys
zip_any p q [] [] z = refl
zip_any p q [] (y ∷ ys) z = absurd z
zip_any p q (x ∷ xs) [] z = absurd z
zip_any p q (x ∷ xs) (y ∷ ys) z =
    let e = zip_any p q xs ys z.1 in
    λ i. z.0 i || e i

zip_insert : {A B : Type 0} (R : A → B → Type 0) (b c : Bool) (xs : List A) (ys : List B) (x : A) (y : B) → b ≡ c → AllZip R xs ys → R x y → AllZip R (if b then xs else xs ++ x ∷ []) (if c then ys else ys ++ y ∷ [])
zip_insert R true true xs ys x y e z r = z
zip_insert R false false xs ys x y e z r = zip_push R xs ys x y z r
zip_insert R true false xs ys x y e z r = absurd (true≢false e)
zip_insert R false true xs ys x y e z r = absurd (true≢false (sym e))

-- ---- tables of futures or of streams, whose entries have the number of a type and that of an instance
module _ {E F : Type 0} (eq : E → E → Bool) (ty instance : E → ℕ) (payload : F → Option InterfaceType) where
  abbrev IsIn : Tables → List F → E → HandleTable → Type 0
  IsIn t fs e x = IsHandleTable ty instance payload t fs e x

  -- entries are equal where what they stand for is
  same_table-is : (tells : (a b : E) → eq a b ≡ (nat_eq (ty a) (ty b) && nat_eq (instance a) (instance b)))
      → (t : Tables) → ((a b : InterfaceType) (s : Shape) → HasShape t a s → HasShape t b s → a ≡ b)
      → (fs : List F) → ((i j : ℕ) (f g : F) → slice_get fs i ≡ Some f → slice_get fs j ≡ Some g → payload f ≡ payload g → i ≡ j)
      → (v e : E) (x y : HandleTable) → ty v < length fs → ty e < length fs → IsIn t fs v x → IsIn t fs e y → eq v e ≡ same_table x y
  same_table-is tells t one fs once v e x y lv le hv he =
      let from : nat_eq (ty v) (ty e) ≡ true → same_payload x.payload y.payload ≡ true =
      λ h. let k = subst (λ (n : ℕ). PayloadStands t (payload_in payload (slice_get fs n)) x.payload) (eqb-true _ _ h) hv.payload_stands in
      same_payload-refl _ _ (payload_shape t _ _ _ k he.payload_stands) in
      let to : same_payload x.payload y.payload ≡ true → nat_eq (ty v) (ty e) ≡ true =
      λ h. let k = subst (PayloadStands t (payload_in payload (slice_get fs (ty v)))) (same_payload-exact _ _ h) hv.payload_stands in
      let a = there fs (ty v) lv in
      let b = there fs (ty e) le in
      let p : payload_in payload (slice_get fs (ty v)) ≡ payload_in payload (slice_get fs (ty e)) = payload_type t one _ _ _ k he.payload_stands in
      let q = sym (ap (payload_in payload) a.1) ∙ p ∙ ap (payload_in payload) b.1 in
      eq-eqb _ _ (once _ _ a.0 b.0 a.1 b.1 q) in
      let types = both _ _ from to in
      tells v e ∙ (λ i. types i && nat_eq (hv.same_instance i) (he.same_instance i))

  kept : (t u : Tables) → ((a : InterfaceType) (s : Shape) → HasShape t a s → HasShape u a s)
      → (fs gs : List F) → ((j : ℕ) (f : F) → slice_get fs j ≡ Some f → slice_get gs j ≡ Some f)
      → (e : E) (y : HandleTable) → ty e < length fs → IsIn t fs e y → IsIn u gs e y
  kept t u k fs gs g e y l h =
      let a = there fs (ty e) l in
      let q : slice_get fs (ty e) ≡ slice_get gs (ty e) = a.1 ∙ sym (g (ty e) a.0 a.1) in
      record {
        payload_stands = subst (λ (o : Option F). PayloadStands u (payload_in payload o) y.payload) q (payload_keeps t u k _ _ h.payload_stands);
        same_instance = h.same_instance;
      }

  -- where types kept their places
  pub all_kept : (t u : Tables) → ((a : InterfaceType) (s : Shape) → HasShape t a s → HasShape u a s)
      → (fs gs : List F) → ((j : ℕ) (f : F) → slice_get fs j ≡ Some f → slice_get gs j ≡ Some f)
      → (es : List E) (ys : List HandleTable) → All (λ e. ty e < length fs) es → AllZip (IsIn t fs) es ys → AllZip (IsIn u gs) es ys
  all_kept t u k fs gs g es ys l z =
      zip_map (λ e y. (ty e < length fs) × IsIn t fs e y) (IsIn u gs) (λ e y h. kept t u k fs gs g e y h.0 h.1) es ys (zip_with (λ e. ty e < length fs) (IsIn t fs) es ys l z)

  -- a table that was added or found has the number that the plan gives it, and the tables are those of the plan
  pub added_table : (tells : (a b : E) → eq a b ≡ (nat_eq (ty a) (ty b) && nat_eq (instance a) (instance b)))
      → (t : Tables) → ((a b : InterfaceType) (s : Shape) → HasShape t a s → HasShape t b s → a ≡ b)
      → (fs : List F) → ((i j : ℕ) (f g : F) → slice_get fs i ≡ Some f → slice_get fs j ≡ Some g → payload f ≡ payload g → i ≡ j)
      → (es new : List E) (ys : List HandleTable) (v : E) (x : HandleTable) (i : ℕ)
      → All (λ e. ty e < length fs) es → AllZip (IsIn t fs) es ys → ty v < length fs → IsIn t fs v x → IsInterned eq es new v i
      → (i ≡ position_or_len (same_table x) ys) × AllZip (IsIn t fs) new (insert_key same_table ys x)
  added_table tells t one fs once es new ys v x i l z lv hv d =
      let same = zip_map (λ e y. (ty e < length fs) × IsIn t fs e y) (λ e y. eq v e ≡ same_table x y)
      (λ e y h. same_table-is tells t one fs once v e x y lv h.0 hv h.1) es ys (zip_with (λ e. ty e < length fs) (IsIn t fs) es ys l z) in (
        d.place ∙ zip_position (eq v) (same_table x) es ys same,
        subst (λ (us : List E). AllZip (IsIn t fs) us (insert_key same_table ys x)) (sym d.list)
            (zip_insert (IsIn t fs) _ _ es ys v x (zip_any (eq v) (same_table x) es ys same) z hv),
      )
