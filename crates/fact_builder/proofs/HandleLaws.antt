-- A function holds a handle where the tuple of its parameters or that of its results does.
use Rattle.std.proofs.Common.{◌≡◌, ℕ, zero, suc, List, [], ◌∷◌, Option, Some, refl, sym, ◌∙◌, ap, subst, arith}
use Rattle.std.specs.Prelude.{◌||◌, option_map, slice_get, All}
use Rattle.fact_entity.specs.declared.id.Id.{Id}
use Rattle.fact_entity.specs.declared.table.TypeFuncs.{TypeFuncs}
use Rattle.fact_entity.specs.declared.table.TypeTuples.{TypeTuples}
use Rattle.fact_types.specs.declared.interface.InterfaceType.{InterfaceType}
use Rattle.fact_types.specs.declared.interface.InterfaceType.TheVariants.{Tuple as t_tuple}
use Rattle.fact_types.specs.declared.kinds.TypeFunc.{TypeFunc}
use Rattle.fact_types.specs.declared.kinds.TypeTuple.{TypeTuple}
use Rattle.fact_types.specs.Functions.{HaveShapes, HasSignature}
use Rattle.fact_types.specs.Shapes.{Shape}
use Rattle.fact_types.specs.Tables.{Tables, tuple_node, placed, HasShape, HasMembers, IsLive, IsLiveMember, IsSound}
use Rattle.fact_types.specs.Handles.{has_handle, have_handle, any_handle}
use Rattle.fact_types.specs.Tuples.{members_from, tuple_of}

have_members : (t : Tables) (n : ℕ) (xs : List InterfaceType) (ss : List Shape) → HaveShapes t xs ss → HasMembers t (placed n xs) (members_from n ss)
have_members t n [] [] h = tt
have_members t n [] (s ∷ ss) h = absurd h
have_members t n (x ∷ xs) [] h = absurd h
have_members t n (x ∷ xs) (s ∷ ss) (h, hs) = (refl, (x, refl, h), have_members t (suc n) xs ss hs)

placed_handles : (n : ℕ) (ss : List Shape) → have_handle (members_from n ss) ≡ any_handle ss
placed_handles n [] = refl
placed_handles n (s ∷ ss) = ap (λ b. has_handle s || b) (placed_handles (suc n) ss)

-- a tuple stands for the shapes of its members
tuple_shape : (t : Tables) (i : Id TypeTuples) (e : TypeTuple) (ss : List Shape) → slice_get t.tuples i.number ≡ Some e → HaveShapes t e.types ss → HasShape t (t_tuple i) (tuple_of ss)
tuple_shape t i e ss there h = (tuple_node e, ap (option_map tuple_node) there, refl, have_members t 0 e.types ss h)

pub tuple_handle : (ss : List Shape) → has_handle (tuple_of ss) ≡ any_handle ss
tuple_handle ss = placed_handles 0 ss

same_some : {X : Type 0} (o : Option X) (x y : X) → o ≡ Some x → o ≡ Some y → x ≡ y
same_some o x y h k = inside (sym h ∙ k)
  where
    inside : Some x ≡ Some y → x ≡ y
    inside e = cc

module _ (t v : Tables) (e : t ≡ v) (i : Id TypeFuncs) (f : TypeFunc) (there : slice_get t.functions i.number ≡ Some f) (ps rs : List Shape) (h : HasSignature v i ps rs) where
  sig : HasSignature t i ps rs
  sig = subst (λ u. HasSignature u i ps rs) (sym e) h

  same_func : sig.func ≡ f
  same_func = same_some (slice_get t.functions i.number) sig.func f sig.func_there there

  pub params_shape : HasShape t (t_tuple f.params) (tuple_of ps)
  params_shape = subst (λ g. HasShape t (t_tuple g.params) (tuple_of ps)) same_func (tuple_shape t sig.func.params sig.taken ps sig.taken_there sig.takes)

  pub results_shape : HasShape t (t_tuple f.results) (tuple_of rs)
  results_shape = subst (λ g. HasShape t (t_tuple g.results) (tuple_of rs)) same_func (tuple_shape t sig.func.results sig.given rs sig.given_there sig.gives)

-- ---- the members of a live tuple are live
members_live : (t : Tables) (n : ℕ) (tys : List InterfaceType) → All (λ (m : List ℕ × Option InterfaceType). IsLiveMember t m.1) (placed n tys) → All (IsLive t) tys
members_live t n [] a i d l = absurd (omega (arith, l))
members_live t n (ty ∷ tys) a zero d l = a 0 (n ∷ [], Some ty) (omega arith)
members_live t n (ty ∷ tys) a (suc i) d l = members_live t (suc n) tys (λ k d m. a (suc k) d (omega (arith, m))) i d (omega (arith, l))

pub tuple_live : (t : Tables) → IsSound t → (i : Id TypeTuples) (e : TypeTuple) → slice_get t.tuples i.number ≡ Some e → All (IsLive t) e.types
tuple_live t k i e there = members_live t 0 e.types (k.stands (t_tuple i) (tuple_node e) (ap (option_map tuple_node) there)).live
