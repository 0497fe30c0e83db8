-- Each function of the tables has parameters and results that stand for shapes; types with equal entries stand for one.
use Rattle.std.proofs.Common.{◌≡◌, ℕ, zero, suc, ◌<◌, List, [], ◌∷◌, length, Some, refl, sym, ap, ◌∙◌, subst, arith, All}
use Rattle.std.specs.Prelude.{slice_get}
use Rattle.std.proofs.lemmas.Option.{slice_get-get_or}
use Rattle.fact_entity.specs.declared.id.Id.{Id}
use Rattle.fact_entity.specs.declared.table.TypeFuncs.{TypeFuncs}
use Rattle.fact_entity.specs.declared.table.TypeTuples.{TypeTuples}
use Rattle.fact_types.specs.declared.interface.InterfaceType.{InterfaceType}
use Rattle.fact_types.specs.declared.kinds.TypeTuple.{TypeTuple}
use Rattle.fact_types.specs.Functions.{HaveShapes, HasSignature}
use Rattle.fact_types.specs.Shapes.{Shape, s_plain, s_node}
use Rattle.fact_types.specs.Tables.{Tables, Node, node_of, of_functions, IsLive, IsLiveFunc, HasShape, HasMembers, IsSound}
use Rattle.fact_types.proofs.HeightLaws.{tuple_within}
use Rattle.fact_types.proofs.ShapeLaws.{same_some, none_some, no_node, one_members}

there : {X : Type 0} (xs : List X) (i : ℕ) → i < length xs → (x : X) × (slice_get xs i ≡ Some x)
there [] i h = absurd (omega (arith, h))
there (x ∷ xs) zero h = (x, refl)
there (x ∷ xs) (suc i) h = there xs i (omega (arith, h))

held : {X : Type 0} (P : X → Type 0) (xs : List X) (i : ℕ) (x : X) → i < length xs → slice_get xs i ≡ Some x → All P xs → P x
held P xs i x h e a = subst P (same_some (slice_get xs i) _ x (slice_get-get_or xs i x h) e) (a i x h)

have_shapes : (t : Tables) → IsSound t → (xs : List InterfaceType) → All (IsLive t) xs → (ss : List Shape) × HaveShapes t xs ss
have_shapes t k [] a = ([], tt)
have_shapes t k (x ∷ xs) a =
    let (s, h, b) = k.shaped x (a 0 x (omega arith)) in
    let (ss, hs) = have_shapes t k xs (λ i d l. a (suc i) d (omega (arith, l))) in
    (s ∷ ss, (h, hs))

tuple_shapes : (t : Tables) → IsSound t → (i : Id TypeTuples) (e : TypeTuple) → slice_get t.tuples i.number ≡ Some e → (ss : List Shape) × HaveShapes t e.types ss
tuple_shapes t k i e h = have_shapes t k e.types (λ j d l. (tuple_within t k i e h j _ (slice_get-get_or e.types j d l)).live)

pub has_signature : (t : Tables) → IsSound t → (i : Id TypeFuncs) → i.number < length t.functions → (params results : List Shape) × HasSignature t i params results
has_signature t k i h =
    let (f, is) = there t.functions i.number h in
    let live = held (IsLiveFunc t) t.functions i.number f h is (k.held_live of_functions) in
    let (taken, taken_is) = there t.tuples f.params.number live.params in
    let (given, given_is) = there t.tuples f.results.number live.results in
    let (ps, takes) = tuple_shapes t k f.params taken taken_is in
    let (rs, gives) = tuple_shapes t k f.results given given_is in
    (ps, rs, record { func = f; func_there = is; taken = taken; taken_there = taken_is; takes = takes; given = given; given_there = given_is; gives = gives })

pub equal_entries : (t : Tables) (a b : InterfaceType) (n : Node) (s z : Shape) → node_of t a ≡ Some n → node_of t b ≡ Some n → HasShape t a s → HasShape t b z → s ≡ z
equal_entries t a b n (s_plain p) z e f h k = absurd (none_some (node_of t a) n (ap (node_of t) h.0 ∙ no_node t p h.1) e)
equal_entries t a b n (s_node c ms) (s_plain q) e f h k = absurd (none_some (node_of t b) n (ap (node_of t) k.0 ∙ no_node t q k.1) f)
equal_entries t a b n (s_node c ms) (s_node d ns) e f h k =
    let first : h.0 ≡ n = same_some (node_of t a) h.0 n h.1 e in
    let second : k.0 ≡ n = same_some (node_of t b) k.0 n k.1 f in
    let kinds : c ≡ d = sym h.2 ∙ ap (λ (n : Node). n.kind) (first ∙ sym second) ∙ k.2 in
    let members = one_members t ms ns n.members (subst (λ (n : Node). HasMembers t n.members ms) first h.3) (subst (λ (n : Node). HasMembers t n.members ns) second k.3) in
    λ i. s_node (kinds i) (members i)
