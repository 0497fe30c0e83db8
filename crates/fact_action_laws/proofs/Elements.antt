-- Elements of lists as tuples of one member, and entries of maps as tuples of two.
use Rattle.std.proofs.Common.{◌≡◌, ℕ, zero, suc, ◌+◌, ◌*◌, ◌/◌, ◌%◌, ◌≤◌, min, List, [], ◌∷◌, ◌++◌, length, map, Option, Some, refl, sym, ap, ◌∙◌, arith}
use Rattle.std.specs.Prelude.{sum_by}
use Rattle.std.specs.List.{flat_map}
use Rattle.std.proofs.Math.Nat.{div-add-mod}
use Rattle.std.proofs.lemmas.List.Sums.{sum_by-cons}
use Rattle.fact_types.specs.declared.extents.MemoryWidth.{MemoryWidth}
use Rattle.fact_types.specs.declared.extents.MemoryWidth.TheVariants.{Memory32, Memory64}
use Rattle.fact_types.specs.Agrees.{names_of}
use Rattle.fact_types.specs.Layout.{extent, aligned}
use Rattle.fact_types.specs.Shapes.{Shape, Members, no_members, bare, typed, layout_of, place_of, next_of, ends_of}
use Rattle.fact_types.specs.Valid.{IsValid}
use Rattle.fact_types.proofs.PlaceLaws.{ends_grow}
use Rattle.fact_types.proofs.ShapeLaws.{same_some}
use Rattle.fact_types.proofs.ValidLaws.{valid_takes_bytes}
use Rattle.fact_values.specs.Canonical.{EachAt}
use Rattle.fact_values.specs.Handles.{Step, each_step, then_step, done_step}
use Rattle.fact_types.specs.Options.{◌>>=◌}
use Rattle.fact_values.specs.Places.{each_at}
use Rattle.fact_action_laws.specs.MoveTerms.{AreTyped}
use Rattle.fact_action_laws.proofs.Plain.{both}

-- ---- what is done to each

pub each_at_map : {X Y : Type 0} (n stride : ℕ) (f : ℕ → Option X) (h : ℕ → Option Y) (r : X → Y) → ((a : ℕ) (x : X) → f a ≡ Some x → h a ≡ Some (r x)) → (a : ℕ) (xs : List X) → each_at n stride f a ≡ Some xs → each_at n stride h a ≡ Some (map r xs)
each_at_map zero stride f h r t a xs e = ap (λ l. Some (map r l)) (same_some (Some []) [] xs refl e)
each_at_map (suc n) stride f h r t a xs e =
    let one = both (f a) _ xs e in
    let rest = both (each_at n stride f (a + stride)) _ xs one.last in
    let is = same_some (Some (one.mid ∷ rest.mid)) (one.mid ∷ rest.mid) xs refl rest.last in
    ap (λ o. o >>= (λ v. (each_at n stride h (a + stride)) >>= (λ vs. Some (v ∷ vs)))) (t a one.mid one.first)
    ∙ ap (λ o. o >>= (λ vs. Some (r one.mid ∷ vs))) (each_at_map n stride f h r t (a + stride) rest.mid rest.first) ∙ ap (λ l. Some (map r l)) is

pub each_holds_map : (n stride : ℕ) (P Q : ℕ → Type 0) → ((a : ℕ) → P a → Q a) → (a : ℕ) → EachAt n stride P a → EachAt n stride Q a
each_holds_map zero stride P Q f a h = tt
each_holds_map (suc n) stride P Q f a h = (f a h.0, each_holds_map n stride P Q f (a + stride) h.1)

pub each_map : {S X Y Z W : Type 0} (F : Y → Step S Z) (G : X → Step S W) (row : X → Y) (un : Z → W) → ((x : X) (s s' : S) (z : Z) → F (row x) s ≡ Some (z, s') → G x s ≡ Some (un z, s'))
    → (xs : List X) (zs : List Z) (s s' : S) → each_step F (map row xs) s ≡ Some (zs, s') → each_step G xs s ≡ Some (map un zs, s')
each_map {S} {X} {Y} {Z} {W} F G row un t [] zs s s' e = ap (λ r. Some (map un r.0, r.1)) (same_some (Some ([], s)) ([], s) (zs, s') refl e)
each_map {S} {X} {Y} {Z} {W} F G row un t (x ∷ xs) zs s s' e =
    let one = both (F (row x) s) (λ r. then_step (each_step F (map row xs)) (λ bs. done_step (r.0 ∷ bs)) r.1) (zs, s') e in
    let rest = both (each_step F (map row xs) one.mid.1) (λ r. done_step (one.mid.0 ∷ r.0) r.1) (zs, s') one.last in
    let is = same_some (Some (one.mid.0 ∷ rest.mid.0, rest.mid.1)) (one.mid.0 ∷ rest.mid.0, rest.mid.1) (zs, s') refl rest.last in
    ap (λ o. o >>= (λ r. then_step (each_step G xs) (λ bs. done_step (r.0 ∷ bs)) r.1)) (t x s one.mid.1 one.mid.0 one.first)
    ∙ ap (λ o. o >>= (λ r. done_step (un one.mid.0 ∷ r.0) r.1)) (each_map F G row un t xs rest.mid.0 one.mid.1 rest.mid.1 rest.first)
    ∙ ap (λ r. Some (map un r.0, r.1)) is

pub flat_each : {X Y Z : Type 0} (f : Y → List Z) (g : X → List Z) (row : X → Y) → ((x : X) → f (row x) ≡ g x) → (xs : List X) → flat_map f (map row xs) ≡ flat_map g xs
flat_each f g row t [] = refl
flat_each f g row t (x ∷ xs) = ap (λ l. l ++ flat_map f (map row xs)) (t x) ∙ ap (λ l. g x ++ l) (flat_each f g row t xs)

pub sum_each : {X Y : Type 0} (f : Y → ℕ) (g : X → ℕ) (row : X → Y) → ((x : X) → f (row x) ≡ g x) → (xs : List X) → sum_by f (map row xs) ≡ sum_by g xs
sum_each f g row t [] = refl
sum_each f g row t (x ∷ xs) =
    sum_by-cons f (row x) (map row xs) ∙ ap (λ k. k + sum_by f (map row xs)) (t x) ∙ ap (λ k. g x + k) (sum_each f g row t xs) ∙ sym (sum_by-cons g x xs)

pub length_each : {X : Type 0} (n stride : ℕ) (f : ℕ → Option X) (a : ℕ) (xs : List X) → each_at n stride f a ≡ Some xs → length xs ≡ n
length_each zero stride f a xs e = ap length (sym (same_some (Some []) [] xs refl e))
length_each {X} (suc n) stride f a xs e =
    let one = both (f a) _ xs e in
    let rest = both (each_at n stride f (a + stride)) _ xs one.last in
    ap length (sym (same_some (Some (one.mid ∷ rest.mid)) (one.mid ∷ rest.mid) xs refl rest.last)) ∙ ap suc (length_each n stride f (a + stride) rest.mid rest.first)

-- ---- a tuple of one member is laid out as the member

pub aligned_already : (n a : ℕ) → n % a ≡ 0 → aligned n a ≡ n
unfolding aligned
aligned_already n a h = ap (λ r. (n / a + min 1 r) * a) h ∙ omega (arith, div-add-mod n a, h)

zero_aligned : (a : ℕ) → aligned 0 a ≡ 0
zero_aligned a = aligned_already 0 a (omega arith)

-- the first member stands at the begin
pub first_place : (w : MemoryWidth) (s : Shape) (a : ℕ) → a + place_of w s 0 ≡ a
first_place w s a = ap (λ k. a + k) (zero_aligned (extent w (layout_of s)).align) ∙ omega arith

-- a tuple with a member that takes bytes takes some
pub takes_some : (w : MemoryWidth) (x : List ℕ) (s : Shape) (ms : Members) → IsValid s → 1 ≤ ends_of w (typed x s ms) 0
takes_some w x s ms v = omega (arith, ends_grow w ms (next_of w s 0), size w)
  where
    size : (w : MemoryWidth) → 1 ≤ (extent w (layout_of s)).size
    size Memory32 = (valid_takes_bytes s v).memory32
    size Memory64 = (valid_takes_bytes s v).memory64

-- ---- the forms of members

pub record IsSingle (x : List ℕ) (ms : Members) : Type 0 where
  pub shape : Shape
  pub is : ms ≡ typed x shape no_members

pub single : (x : List ℕ) (ms : Members) → names_of ms ≡ x ∷ [] → AreTyped ms → IsSingle x ms
single x no_members e t = absurd (let z : 0 ≡ 1 = ap length e in omega (arith, z))
single x (bare y ms) e t = absurd t
single x (typed y s no_members) e t = record { shape = s; is = ap (λ z. typed z s no_members) (let h : y ≡ x = cc in h) }
single x (typed y s (bare z ms)) e t = absurd t
single x (typed y s (typed z u ms)) e t = absurd (let h : suc (suc (length (names_of ms))) ≡ 1 = ap length e in omega (arith, h))

pub record IsDouble (x y : List ℕ) (ms : Members) : Type 0 where
  pub key : Shape
  pub value : Shape
  pub is : ms ≡ typed x key (typed y value no_members)

pub double : (x y : List ℕ) (ms : Members) → names_of ms ≡ x ∷ y ∷ [] → AreTyped ms → IsDouble x y ms
double x y no_members e t = absurd (let z : 0 ≡ 2 = ap length e in omega (arith, z))
double x y (bare z ms) e t = absurd t
double x y (typed a s no_members) e t = absurd (let z : 1 ≡ 2 = ap length e in omega (arith, z))
double x y (typed a s (bare z ms)) e t = absurd t
double x y (typed a s (typed b u no_members)) e t =
    record { key = s; value = u; is = ap (λ z. typed z s (typed b u no_members)) (let h : a ≡ x = cc in h) ∙ ap (λ z. typed x s (typed z u no_members)) (let h : b ≡ y = cc in h) }
double x y (typed a s (typed b u (bare z ms))) e t = absurd t
double x y (typed a s (typed b u (typed z v ms))) e t = absurd (let h : suc (suc (suc (length (names_of ms)))) ≡ 2 = ap length e in omega (arith, h))
