-- The return area of a call is sound at the start.
use Rattle.std.proofs.Common.{◌≡◌, ℕ, ◌+◌, ◌%◌, ◌≤◌, Bool, false, List, [], ◌∷◌, Option, Some, None, refl, sym, ap, subst, arith, length}
use Rattle.std.specs.List.{AllByRecursion}
use Rattle.fact_types.specs.declared.flats.FlatType.{FlatType}
use Rattle.fact_types.specs.Adapters.{is_wide}
use Rattle.fact_types.specs.FlatShapes.{flat_all}
use Rattle.fact_types.specs.declared.extents.Extent.{Extent}
use Rattle.fact_types.specs.Layout.{extent}
use Rattle.fact_types.specs.Shapes.{Shape, layout_of}
use Rattle.fact_types.specs.Signatures.{flat_values, width}
use Rattle.fact_types.specs.Tuples.{tuple_of}
use Rattle.fact_wasm.specs.declared.types.ValType.{ValType}
use Rattle.fact_values.specs.Places.{width_of}
use Rattle.fact_actions.specs.Adapters.{last_bits, lowered_flats}
use Rattle.fact_actions.specs.Calls.{side_memory}
use Rattle.fact_actions.specs.Regions.{IsAreaSound, IsSoundRegion, Region}
use Rattle.fact_actions.specs.Sides.{options_of}
use Rattle.fact_host.specs.Rules.{side_bytes}
use Rattle.fact_call_laws.proofs.Back.{answered_room, size_most}
use Rattle.fact_call_laws.proofs.Given.{side_is}
use Rattle.fact_call_laws.proofs.Setting.{Called, Setting, lower_results_are, places}

-- it is aligned and in bounds, where there is one
abbrev IsIn : (room at : ℕ) → Extent → Option (List FlatType) → Type 0
IsIn room at e (Some flats) = Unit {0}
IsIn room at e None = (at % e.align ≡ 0) × (at + e.size ≤ room)

abbrev area_of : (at : ℕ) → Extent → Option (List ValType) → List Region
area_of at e (Some flats) = []
area_of at e None = record { at = at; size = e.size; align = e.align } ∷ []

in_area : (w : Bool) (rs : List Shape) (room at : ℕ) (e : Extent) → IsIn room at e (flat_all (width w) 1 rs) → AllByRecursion (IsSoundRegion room) (area_of at e (flat_values w 1 rs))
in_area w rs room at e h = by (flat_all (width w) 1 rs) refl h
  where
    by : (o : Option (List FlatType)) → flat_all (width w) 1 rs ≡ o → IsIn room at e o → AllByRecursion (IsSoundRegion room) (area_of at e (flat_values w 1 rs))
    by (Some flats) is h = rw (is) tt
    by None is h = rw (is) (record { aligned = h.0; inside = h.1 }, tt)

abbrev Sound : (room at : ℕ) → (async_side wide : Bool) → List Shape → Type 0
Sound room at b w rs = AllByRecursion (IsSoundRegion room) (area_of at (extent (width w) (layout_of (tuple_of rs))) (lowered_flats b w rs))

module _ (x : Setting) (h : Called x) where
  abbrev area_extent : Extent
  area_extent = extent (width_of x.call.lower.abi) (layout_of (tuple_of x.shapes.lower_results))

  small : area_extent.size ≤ 16384
  small = omega (arith, answered_room x h, size_most (width_of x.call.lower.abi) (layout_of (tuple_of x.shapes.lift_results)) (layout_of (tuple_of x.shapes.lower_results)))

  is_in : IsIn (length (side_bytes x.call.lower h.outcome.first)) (last_bits h.outcome.args) area_extent (flat_all (width_of x.call.lower.abi) 1 x.shapes.lower_results)
  is_in = by (flat_all (width_of x.call.lower.abi) 1 x.shapes.lower_results) h.outcome.area
    where
      by : (o : Option (List FlatType))
          → (elim o as (λ (z : Option (List FlatType)). Type 0) [ Some flats ↦ Unit {0} | None ↦ area_extent.size ≤ 16384 → ((last_bits h.outcome.args % area_extent.align ≡ 0) × (last_bits h.outcome.args + area_extent.size ≤ length (side_bytes x.call.lower h.outcome.first))) ])
          → IsIn (length (side_bytes x.call.lower h.outcome.first)) (last_bits h.outcome.args) area_extent o
      by (Some flats) h = tt
      by None h = h small

  pub area_sound : IsAreaSound (places x) x.adapter h.outcome.args h.outcome.first
  area_sound =
      let room : length (side_memory (places x) (options_of x.adapter.lower) h.outcome.first) ≡ length (side_bytes x.call.lower h.outcome.first) = ap length (side_is x.types (places x) x.call.lower x.adapter.lower h.calls.lower h.outcome.first) in
      let base : Sound (length (side_bytes x.call.lower h.outcome.first)) (last_bits h.outcome.args) false x.call.lower.abi.memory64 x.shapes.lower_results =
      in_area x.call.lower.abi.memory64 x.shapes.lower_results (length (side_bytes x.call.lower h.outcome.first)) (last_bits h.outcome.args) area_extent is_in in
      let by_types : Sound (length (side_bytes x.call.lower h.outcome.first)) (last_bits h.outcome.args) false x.call.lower.abi.memory64 x.adapter.lower.results =
      subst (λ rs. Sound (length (side_bytes x.call.lower h.outcome.first)) (last_bits h.outcome.args) false x.call.lower.abi.memory64 rs) (sym (lower_results_are x h)) base in
      let by_width : Sound (length (side_bytes x.call.lower h.outcome.first)) (last_bits h.outcome.args) false (is_wide x.adapter.lower.memory) x.adapter.lower.results =
      subst (λ w. Sound (length (side_bytes x.call.lower h.outcome.first)) (last_bits h.outcome.args) false w x.adapter.lower.results) (sym h.calls.lower.memory64) by_types in
      let by_mark : Sound (length (side_bytes x.call.lower h.outcome.first)) (last_bits h.outcome.args) x.adapter.lower.async_side (is_wide x.adapter.lower.memory) x.adapter.lower.results =
      subst (λ b. Sound (length (side_bytes x.call.lower h.outcome.first)) (last_bits h.outcome.args) b (is_wide x.adapter.lower.memory) x.adapter.lower.results) (sym h.calls.lower.is_sync) by_width in
      subst (λ n. Sound n (last_bits h.outcome.args) x.adapter.lower.async_side (is_wide x.adapter.lower.memory) x.adapter.lower.results) (sym room) by_mark
