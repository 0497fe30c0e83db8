-- The tuples of a function's parameters and results have their shapes.
use Rattle.std.proofs.Common.{◌≡◌, ℕ, zero, suc, ◌<◌, Bool, true, List, [], ◌∷◌, Some, refl, sym, ◌∙◌, ap, subst, arith, length, slice_get}
use Rattle.std.specs.Prelude.{option_map, is_some, nat_eq}
use Rattle.std.proofs.lemmas.Bool.{ne_eqb}
use Rattle.fact_entity.specs.declared.id.Id.{Id}
use Rattle.fact_entity.specs.declared.table.TypeFuncs.{TypeFuncs}
use Rattle.fact_entity.specs.declared.table.TypeTuples.{TypeTuples}
use Rattle.fact_types.specs.declared.interface.InterfaceType.{InterfaceType}
use Rattle.fact_types.specs.declared.interface.InterfaceType.TheVariants.{Tuple as t_tuple}
use Rattle.fact_types.specs.declared.kinds.TypeFunc.{TypeFunc}
use Rattle.fact_types.specs.declared.kinds.TypeTuple.{TypeTuple}
use Rattle.fact_types.specs.Functions.{HaveShapes, HasSignature}
use Rattle.fact_types.specs.Shapes.{Shape}
use Rattle.fact_types.specs.Tables.{Tables, Node, tuple_node, placed, HasShape, HasMembers, IsLive}
use Rattle.fact_types.specs.Tuples.{members_from, tuple_of}
use Rattle.fact_actions.specs.Adapters.{lowered_flats}

have_members : (t : Tables) (n : ℕ) (xs : List InterfaceType) (ss : List Shape) → HaveShapes t xs ss → HasMembers t (placed n xs) (members_from n ss)
have_members t n [] [] h = tt
have_members t n [] (s ∷ ss) h = absurd h
have_members t n (x ∷ xs) [] h = absurd h
have_members t n (x ∷ xs) (s ∷ ss) h = (refl, (x, refl, h.0), have_members t (suc n) xs ss h.1)

tuple_shape : (t : Tables) (i : Id TypeTuples) (e : TypeTuple) (ss : List Shape) → slice_get t.tuples i.number ≡ Some e → HaveShapes t e.types ss → HasShape t (t_tuple i) (tuple_of ss)
tuple_shape t i e ss there h = (tuple_node e, ap (option_map tuple_node) there, refl, have_members t 0 e.types ss h)

get_below : {X : Type 0} (xs : List X) (i : ℕ) (x : X) → slice_get xs i ≡ Some x → i < length xs
get_below [] i x h = cc
get_below (y ∷ xs) zero x h = omega arith
get_below (y ∷ xs) (suc i) x h = omega (arith, get_below xs i x h)

module _ {t : Tables} {i : Id TypeFuncs} {f : TypeFunc} (there : slice_get t.functions i.number ≡ Some f) (ps rs : List Shape) (h : HasSignature t i ps rs) where
  same_func : h.func ≡ f
  same_func = let same : Some h.func ≡ Some f = sym h.func_there ∙ there in cc

  pub params_shape : HasShape t (t_tuple f.params) (tuple_of ps)
  params_shape = subst (λ (g : TypeFunc). HasShape t (t_tuple g.params) (tuple_of ps)) same_func (tuple_shape t h.func.params h.taken ps h.taken_there h.takes)

  pub results_shape : HasShape t (t_tuple f.results) (tuple_of rs)
  results_shape = subst (λ (g : TypeFunc). HasShape t (t_tuple g.results) (tuple_of rs)) same_func (tuple_shape t h.func.results h.given rs h.given_there h.gives)

  pub params_live : IsLive t (t_tuple f.params)
  params_live = subst (λ (g : TypeFunc). g.params.number < length t.tuples) same_func (get_below t.tuples h.func.params.number h.taken h.taken_there)

  pub results_live : IsLive t (t_tuple f.results)
  results_live = subst (λ (g : TypeFunc). g.results.number < length t.tuples) same_func (get_below t.tuples h.func.results.number h.given h.given_there)

-- a tuple without types is that of no shapes
pub none_lowered : (t : Tables) (i : Id TypeTuples) {e : TypeTuple} (m : Bool) (ss : List Shape) → slice_get t.tuples i.number ≡ Some e → HasShape t (t_tuple i) (tuple_of ss) → nat_eq (length e.types) 0 ≡ is_some (lowered_flats true m ss)
none_lowered t i {e} m ss there h = go e.types ss members
  where
    members : HasMembers t (placed 0 e.types) (members_from 0 ss)
    members = let is : h.0 ≡ tuple_node e = let same : Some h.0 ≡ Some (tuple_node e) = sym h.1 ∙ ap (option_map tuple_node) there in cc in subst (λ (n : Node). HasMembers t n.members (members_from 0 ss)) is h.3

    go : (xs : List InterfaceType) (ss : List Shape) → HasMembers t (placed 0 xs) (members_from 0 ss) → nat_eq (length xs) 0 ≡ is_some (lowered_flats true m ss)
    go [] [] h = refl
    go [] (s ∷ ss) h = absurd h
    go (x ∷ xs) [] h = absurd h
    go (x ∷ xs) (s ∷ ss) h = ne_eqb (length (x ∷ xs)) 0 (λ e. omega (arith, e))
