-- A type that stands for a shape is live, or is a handle, whose table a shape does not tell.
use Rattle.std.proofs.Common.{◌≡◌, ◌<◌, ◌↔◌, ℕ, Bool, IsTrue, List, length, Option, Some, None, false, true, refl, sym, subst, ap, ◌∙◌, option_map}
use Rattle.std.specs.Prelude.{slice_get}
use Rattle.std.proofs.lemmas.Bool.{true≢false}
use Rattle.std.proofs.lemmas.Option.{slice_get_within}
use Rattle.fact_types.specs.declared.interface.InterfaceType.{InterfaceType}
use Rattle.fact_types.specs.declared.interface.InterfaceType.TheVariants.{Record as t_record, Variant as t_variant, List as t_list, Tuple as t_tuple, Map as t_map, Flags as t_flags, Enum as t_enum, Option as t_option, Result as t_result, Own as t_own, Borrow as t_borrow, Future as t_future, Stream as t_stream, ErrorContext as t_error_context, FixedLengthList as t_fixed_length_list}
use Rattle.fact_types.specs.Layout.{scalar_layout}
use Rattle.fact_types.specs.Shapes.{Shape, s_plain, s_node, plain_layout, layout_of}
use Rattle.fact_types.specs.Tables.{Tables, Node, node_of, record_node, variant_node, tuple_node, flags_node, enum_node, option_node, result_node, list_node, map_node, fixed_length_list_node, future_node, stream_node, IsLive, is_plain, HasShape}
use Rattle.fact_types.proofs.ShapeLaws.{none_some}

-- the entry that is made of one of a list
made : {X Y : Type 0} (f : X → Y) (o : Option X) (y : Y) → option_map f o ≡ Some y → (x : X) × (o ≡ Some x)
made f None y h = absurd (none_some None y refl h)
made f (Some x) y h = (x, refl)

within : {X Y : Type 0} (f : X → Y) (xs : List X) (k : ℕ) (y : Y) → option_map f (slice_get xs k) ≡ Some y → k < length xs
within f xs k y h = let m = made f (slice_get xs k) y h in slice_get_within xs k m.0 m.1

-- a type that names an entry
live-node : (t : Tables) (ty : InterfaceType) (n : Node) → node_of t ty ≡ Some n → IsLive t ty
live-node t (t_record i) n h = within record_node t.records i.number n h
live-node t (t_variant i) n h = within variant_node t.variants i.number n h
live-node t (t_list i) n h = within list_node t.lists i.number n h
live-node t (t_tuple i) n h = within tuple_node t.tuples i.number n h
live-node t (t_map i) n h = within map_node t.maps i.number n h
live-node t (t_flags i) n h = within flags_node t.flags i.number n h
live-node t (t_enum i) n h = within enum_node t.enums i.number n h
live-node t (t_option i) n h = within option_node t.options i.number n h
live-node t (t_result i) n h = within result_node t.results i.number n h
live-node t (t_future i) n h = within (future_node t.futures i.number) t.future_tables i.number n h
live-node t (t_stream i) n h = within (stream_node t.streams i.number) t.stream_tables i.number n h
live-node t (t_fixed_length_list i) n h = within fixed_length_list_node t.fixed_length_lists i.number n h
live-node t ty n h = absurd (none_some None n refl h)

-- a plain one that is not live is a handle
dead-plain : (t : Tables) (ty : InterfaceType) → is_plain ty ≡ true → (IsLive t ty → ⊥) → scalar_layout 4 ≡ plain_layout ty
dead-plain t (t_record i) h n = absurd (true≢false (sym h))
dead-plain t (t_variant i) h n = absurd (true≢false (sym h))
dead-plain t (t_list i) h n = absurd (true≢false (sym h))
dead-plain t (t_tuple i) h n = absurd (true≢false (sym h))
dead-plain t (t_map i) h n = absurd (true≢false (sym h))
dead-plain t (t_flags i) h n = absurd (true≢false (sym h))
dead-plain t (t_enum i) h n = absurd (true≢false (sym h))
dead-plain t (t_option i) h n = absurd (true≢false (sym h))
dead-plain t (t_result i) h n = absurd (true≢false (sym h))
dead-plain t (t_future i) h n = absurd (true≢false (sym h))
dead-plain t (t_stream i) h n = absurd (true≢false (sym h))
dead-plain t (t_fixed_length_list i) h n = absurd (true≢false (sym h))
dead-plain t (t_own i) h n = refl
dead-plain t (t_borrow i) h n = refl
dead-plain t (t_error_context i) h n = refl
dead-plain t ty h n = absurd (n tt)

dead-shape : (t : Tables) (ty : InterfaceType) (s : Shape) → HasShape t ty s → (IsLive t ty → ⊥) → scalar_layout 4 ≡ layout_of s
dead-shape t ty (s_plain p) h n = dead-plain t ty (subst (λ (q : InterfaceType). is_plain q ≡ true) (sym h.0) h.1) n ∙ ap plain_layout h.0
dead-shape t ty (s_node k ms) h n = absurd (n (live-node t ty h.0 h.1))

-- a type that stands for a shape and is not live, as a test tells, is laid out as a handle
pub dead-layout : (t u : Tables) (ty : InterfaceType) (s : Shape) (b : Bool) → b ≡ false → u ≡ t → (IsTrue b ↔ IsLive u ty) → HasShape t ty s → scalar_layout 4 ≡ layout_of s
dead-layout t u ty s b e same iff h =
    let P : Tables → Type 0 = λ v. IsLive v ty in
    dead-shape t ty s h (λ live. true≢false (sym (subst IsTrue e (iff.1 (subst P (sym same) live)))))
