-- Lists of the same numbers, and the shapes of such types.
use Rattle.std.proofs.Common.{◌≡◌, ◌<◌, ◌≤◌, Bool, true, false, IsTrue, List, [], ◌∷◌, Some, refl, sym, ap, ◌∙◌, subst, arith, length, map, slice_get}
use Rattle.std.specs.Prelude.{◌↔◌}
use Rattle.std.specs.Bool.{Decides}
use Rattle.std.specs.Cmp.Lexicographic.{pointwise}
use Rattle.std.specs.List.{list_all}
use Rattle.std.proofs.lemmas.Bool.{false≢true}
use Rattle.std.proofs.lemmas.Slice.Eq.{slice_eq-Decides}
use Rattle.fact_entity.specs.declared.id.Id.{Id}
use Rattle.fact_entity.specs.declared.table.TypeFuncs.{TypeFuncs}
use Rattle.fact_types.specs.declared.interface.InterfaceType.{InterfaceType}
use Rattle.fact_types.specs.declared.interface.InterfaceType.TheVariants as ty
use Rattle.fact_types.specs.contracts.interface.InterfaceTypePartialEq.TheImpl as type_eq
use Rattle.fact_types.specs.contracts.interface.InterfaceTypeEq.TheImpl.Laws.{laws-law as type_laws}
use Rattle.fact_types.specs.Exact.{exact_type}
use Rattle.fact_types.specs.declared.kinds.TypeFunc.{TypeFunc}
use Rattle.fact_types.specs.declared.kinds.TypeTuple.{TypeTuple}
use Rattle.fact_types.specs.Functions.{HaveShapes, HasSignature}
use Rattle.fact_types.specs.Shapes.{Shape, s_plain, s_node}
use Rattle.fact_types.specs.Tables.{Tables, HasShape}
use Rattle.fact_machine.proofs.Tests.{first_of, second_of}
use Rattle.fact_steps.specs.PassedOn.{is_passed_on, ArePassedOn}

-- ---- lists

same_type : (a b : InterfaceType) → Decides (type_eq.ghosts.eq a b) (a ≡ b)
same_type a b = (exact_type a b, λ e. ap (type_eq.ghosts.eq a) (sym e) ∙ type_laws.refl a)

same_types : (xs ys : List InterfaceType) (b : Bool) → b ≡ pointwise type_eq.ghosts.eq xs ys → Decides b (xs ≡ ys)
same_types = slice_eq-Decides same_type

-- two tests: the first fails, or the second decides
pub other_types : (xs ys : List InterfaceType) (same : Bool) → same ≡ pointwise type_eq.ghosts.eq xs ys → same ≡ false → IsTrue same ↔ ((xs ≡ ys) × (list_all is_passed_on xs ≡ true))
other_types xs ys same is failed = (λ e. absurd (false≢true (sym failed ∙ e)), λ h. (same_types xs ys same is).1 h.0)

pub same_numbers : (xs ys : List InterfaceType) (same numbers : Bool) → same ≡ pointwise type_eq.ghosts.eq xs ys → same ≡ true → numbers ≡ list_all is_passed_on xs
    → IsTrue numbers ↔ ((xs ≡ ys) × (list_all is_passed_on xs ≡ true))
same_numbers xs ys same numbers is passed all = (λ e. ((same_types xs ys same is).0 passed, sym all ∙ e), λ h. all ∙ h.1)

-- ---- shapes

number_shape : (t : Tables) (x : InterfaceType) (s : Shape) → is_passed_on x ≡ true → HasShape t x s → s ≡ s_plain x
number_shape t x (s_plain y) p h = ap (λ z. s_plain z) (sym h.0)
number_shape t ty.S32 (s_node k ms) p h = let no = h.1 in absurd (cc)
number_shape t ty.U32 (s_node k ms) p h = let no = h.1 in absurd (cc)
number_shape t ty.S64 (s_node k ms) p h = let no = h.1 in absurd (cc)
number_shape t ty.U64 (s_node k ms) p h = let no = h.1 in absurd (cc)
number_shape t ty.Float32 (s_node k ms) p h = let no = h.1 in absurd (cc)
number_shape t ty.Float64 (s_node k ms) p h = let no = h.1 in absurd (cc)
number_shape t _ (s_node k ms) p h = cc

number_shapes : (t : Tables) (xs : List InterfaceType) (ss : List Shape) → list_all is_passed_on xs ≡ true → HaveShapes t xs ss → ss ≡ map (λ t. s_plain t) xs
number_shapes t [] [] p h = refl
number_shapes t [] (s ∷ ss) p h = absurd h
number_shapes t (x ∷ xs) [] p h = absurd h
number_shapes t (x ∷ xs) (s ∷ ss) p h = λ i. number_shape t x s (first_of (is_passed_on x) (list_all is_passed_on xs) p) h.0 i ∷ number_shapes t xs ss (second_of (is_passed_on x) (list_all is_passed_on xs) p) h.1 i

-- the parameters of a function whose entries these are
params_have : {t : Tables} {i : Id TypeFuncs} {f : TypeFunc} {e : TypeTuple} → slice_get t.functions i.number ≡ Some f → slice_get t.tuples f.params.number ≡ Some e → (ps rs : List Shape) → HasSignature t i ps rs → HaveShapes t e.types ps
params_have {t} {i} {f} {e} fun tup ps rs h =
    let same : h.func ≡ f = let both : Some h.func ≡ Some f = sym h.func_there ∙ fun in cc in
    let there : slice_get t.tuples h.func.params.number ≡ Some e = ap (λ (g : TypeFunc). slice_get t.tuples g.params.number) same ∙ tup in
    let taken : h.taken ≡ e = let both : Some h.taken ≡ Some e = sym h.taken_there ∙ there in cc in
    subst (λ (g : TypeTuple). HaveShapes t g.types ps) taken h.takes

-- plain shapes are those of these types alone
plain_types : (t : Tables) (xs ys : List InterfaceType) → HaveShapes t xs (map (λ y. s_plain y) ys) → xs ≡ ys
plain_types t [] [] h = refl
plain_types t [] (y ∷ ys) h = absurd h
plain_types t (x ∷ xs) [] h = absurd h
plain_types t (x ∷ xs) (y ∷ ys) h = λ i. h.0.0 i ∷ plain_types t xs ys h.1 i

pub are_passed : {t : Tables} {i j : Id TypeFuncs} {f g : TypeFunc} {d e : TypeTuple} → slice_get t.functions i.number ≡ Some f → slice_get t.tuples f.params.number ≡ Some d → slice_get t.functions j.number ≡ Some g → slice_get t.tuples g.params.number ≡ Some e
    → length d.types ≤ 16 → (found : Bool) → (IsTrue found ↔ ((d.types ≡ e.types) × (list_all is_passed_on d.types ≡ true))) → (ps rs qs ss : List Shape) → HasSignature t i ps rs → HasSignature t j qs ss → (IsTrue found ↔ ArePassedOn ps qs)
are_passed {t} {d = d} {e} fi di fj ej few found exact ps rs qs ss h k =
    let from = params_have fi di ps rs h in
    let to = params_have fj ej qs ss k in (
      λ is_so.
          let (same, all) = exact.0 is_so in
          record {
            types = d.types;
            all = all;
            few = few;
            from_are = number_shapes t d.types ps all from;
            to_are = number_shapes t e.types qs (ap (list_all is_passed_on) (sym same) ∙ all) to ∙ ap (map (λ t. s_plain t)) (sym same);
          },
      λ p.
          let d_are = plain_types t d.types p.types (subst (HaveShapes t d.types) p.from_are from) in
          let e_are = plain_types t e.types p.types (subst (HaveShapes t e.types) p.to_are to) in
          exact.1 (d_are ∙ sym e_are, ap (list_all is_passed_on) d_are ∙ p.all),
    )

-- more than 16 are handed on never
pub too_many : {t : Tables} {i j : Id TypeFuncs} {f : TypeFunc} {d : TypeTuple} → slice_get t.functions i.number ≡ Some f → slice_get t.tuples f.params.number ≡ Some d → 16 < length d.types
    → (ps rs qs ss : List Shape) → HasSignature t i ps rs → HasSignature t j qs ss → (IsTrue false ↔ ArePassedOn ps qs)
too_many {t} {d = d} fi di many ps rs qs ss h k = (
  λ e. absurd (false≢true e),
  λ p.
      let same = plain_types t d.types p.types (subst (HaveShapes t d.types) p.from_are (params_have fi di ps rs h)) in
      absurd (omega (arith, many, ap length same, p.few)),
)
