-- Types of core modules, components and instances are no types of values: where they alone change, all types of values stay.
use Rattle.std.proofs.Common.{◌≡◌, ◌∷◌, [], List, refl, sym, ◌∙◌, subst}
use Rattle.std.specs.Prelude.{Result, Ok, Err, OnOk, OnErr}
use Rattle.fact_types.specs.declared.interface.InterfaceType.{InterfaceType}
use Rattle.fact_types.specs.declared.interface.InterfaceType.TheVariants.{Record as t_record}
use Rattle.fact_types.specs.Externs.{ModuleType, ComponentType, InstanceType}
use Rattle.fact_types.specs.Functions.{HaveShapes}
use Rattle.fact_types.specs.Shapes.{Shape}
use Rattle.fact_types.specs.Tables.{Tables, node_of, IsLive}
use Rattle.fact_types.proofs.ShapeLaws.{Grows, keeps_shape}
use Rattle.fact_builder.specs.Keeps.{Keeps}
use Rattle.fact_builder.specs.Information.{AllKept}
use Rattle.fact_builder.proofs.KeptLaws.{Kept, same_entries}

abbrev pub with_items : Tables → List ModuleType → List ComponentType → List InstanceType → Tables
with_items t ms cs is = record t { modules = ms; components = cs; component_instances = is }

same_nodes : (t : Tables) (ms : List ModuleType) (cs : List ComponentType) (is : List InstanceType) (ty : InterfaceType) → node_of (with_items t ms cs is) ty ≡ node_of t ty
same_nodes t ms cs is (t_record i) = refl
same_nodes t ms cs is ty = refl

still_live : (t : Tables) (ms : List ModuleType) (cs : List ComponentType) (is : List InstanceType) (ty : InterfaceType) → IsLive t ty → IsLive (with_items t ms cs is) ty
still_live t ms cs is (t_record i) l = l
still_live t ms cs is ty l = l

grown : (t : Tables) (ms : List ModuleType) (cs : List ComponentType) (is : List InstanceType) → Grows t (with_items t ms cs is)
grown t ms cs is = record { nodes = λ ty n h. same_nodes t ms cs is ty ∙ h; live = still_live t ms cs is }

shapes_stay : (t u : Tables) → Grows t u → (tys : List InterfaceType) (ss : List Shape) → HaveShapes t tys ss → HaveShapes u tys ss
shapes_stay t u g [] [] h = tt
shapes_stay t u g [] (s ∷ ss) h = h
shapes_stay t u g (ty ∷ tys) [] h = h
shapes_stay t u g (ty ∷ tys) (s ∷ ss) (h, hs) = (keeps_shape t u g s ty h, shapes_stay t u g tys ss hs)

keeps : (t : Tables) (ms : List ModuleType) (cs : List ComponentType) (is : List InstanceType) → Keeps t (with_items t ms cs is)
keeps t ms cs is =
    let u = with_items t ms cs is in
    let g = grown t ms cs is in
    record {
      live = still_live t ms cs is;
      shapes = λ ty shape h. keeps_shape t u g shape ty h;
      signatures = λ i ps rs h. record {
        func = h.func;
        func_there = h.func_there;
        taken = h.taken;
        taken_there = h.taken_there;
        takes = shapes_stay t u g h.taken.types ps h.takes;
        given = h.given;
        given_there = h.given_there;
        gives = shapes_stay t u g h.given.types rs h.gives;
      };
    }

same_keeps : (t : Tables) → Keeps t t
same_keeps t = record { live = λ ty l. l; shapes = λ ty s h. h; signatures = λ i ps rs h. h }

-- what a call that appends such a type keeps
pub items_keep : {A E : Type 0} (t v last : Tables) → t ≡ v → (ms : List ModuleType) (cs : List ComponentType) (is : List InstanceType) (res : Result A E) → OnOk res (last ≡ with_items t ms cs is) → OnErr res (last ≡ t) → Keeps v last
items_keep t v last w ms cs is (Ok x) o e = subst (λ z. Keeps z last) w (subst (λ z. Keeps t z) (sym o) (keeps t ms cs is))
items_keep t v last w ms cs is (Err x) o e = subst (λ z. Keeps z last) w (subst (λ z. Keeps t z) (sym e) (same_keeps t))

-- what is kept of each type of values stays right
pub items_kept : {A E : Type 0} (t last : Tables) (kept : Kept) (ms : List ModuleType) (cs : List ComponentType) (is : List InstanceType) (res : Result A E) → AllKept t kept → OnOk res (last ≡ with_items t ms cs is) → OnErr res (last ≡ t) → AllKept last kept
items_kept t last kept ms cs is (Ok x) a o e = subst (λ z. AllKept z kept) (sym o) (same_entries t (with_items t ms cs is) kept (same_nodes t ms cs is) a)
items_kept t last kept ms cs is (Err x) a o e = subst (λ z. AllKept z kept) (sym e) a
