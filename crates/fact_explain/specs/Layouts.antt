-- The layout of a plan's types, as it is printed.
-- Component Model, canonical ABI, "Alignment" and "Element Size".
use Rattle.std.specs.Prelude.{ℕ, ◌+◌, Bool, List, [], ◌∷◌, ◌++◌, codes, length, map, Option, Some, None, option_map, slice_get, is_some, unwrap_or, if◌then◌else◌}
use Rattle.std.specs.List.{flat_map, list_any}
use Rattle.std.specs.Fmt.{decimal}
use Rattle.fact_types.specs.declared.abi.CanonicalAbiInfo.{CanonicalAbiInfo}
use Rattle.fact_types.specs.declared.interface.InterfaceType.TheVariants as type
use Rattle.fact_types.specs.declared.extents.MemoryWidth.{MemoryWidth}
use Rattle.fact_types.specs.Layout.{aligned, discriminant_bytes, discriminant_size, extent, extents, payload_offset, payloads}
use Rattle.fact_types.specs.Shapes.{Shape, s_plain, layout_of}
use Rattle.fact_types.specs.Signatures.{width}
use Rattle.fact_plan.specs.declared.plan.PlanRef.{PlanRef}
use Rattle.fact_plan.specs.declared.plan.PlanType.{PlanType}
use Rattle.fact_plan.specs.declared.plan.PlanType.TheVariants as entry
use Rattle.fact_plan_types.specs.PlanShapes.{shape_of}
use Rattle.fact_command.specs.ImportLines.{width_text}

-- ---- members

-- the members of an entry, each by its type where it has one
abbrev pub member_types : PlanType → List (Option PlanRef)
member_types (entry.Record fs) = map (λ f. Some f.1) fs
member_types (entry.Variant cs) = map (λ c. c.1) cs
member_types (entry.Tuple rs) = map (λ r. Some r) rs
member_types (entry.List r) = Some r ∷ []
member_types (entry.Option r) = None ∷ Some r ∷ []
member_types (entry.Map key value) = Some key ∷ Some value ∷ []
member_types (entry.Result ok err) = ok ∷ err ∷ []
member_types (entry.Flags ns) = map (λ n. None) ns
member_types (entry.Enum ns) = map (λ n. None) ns
member_types (entry.FixedList r n) = Some r ∷ []
member_types (entry.Own n) = []
member_types (entry.Borrow n) = []
member_types (entry.Future p i) = p ∷ []
member_types (entry.Stream p i) = p ∷ []
member_types (entry.ErrorContext i) = []

-- their layouts, over the shapes of a plan's types
abbrev pub member_layout : List Shape → Option PlanRef → Option CanonicalAbiInfo
member_layout ss t = option_map (λ r. layout_of (shape_of ss r)) t

abbrev pub member_layouts : List Shape → List (Option PlanRef) → List (Option CanonicalAbiInfo)
member_layouts ss ts = map (member_layout ss) ts

-- ---- places

-- where fields begin that stand one behind another from a place on
abbrev pub places_from : MemoryWidth → ℕ → List (Option CanonicalAbiInfo) → List ℕ
places_from w n [] = []
places_from w n (None ∷ ls) = places_from w n ls
places_from w n (Some c ∷ ls) = aligned n (extent w c).align ∷ places_from w (aligned n (extent w c).align + (extent w c).size) ls

-- the one place where the payloads of cases begin, where a case has one
abbrev pub payload_place : MemoryWidth → List (Option CanonicalAbiInfo) → List ℕ
payload_place w ls = if list_any is_some ls then payload_offset (discriminant_bytes (discriminant_size (length ls))) (extents w (payloads ls)) ∷ [] else []

-- Where the members of an entry begin, from its own begin: of records and tuples those of each, of variants, options and results the one place of all
-- payloads; of others nothing is told.
abbrev pub member_places : MemoryWidth → PlanType → List (Option CanonicalAbiInfo) → List ℕ
member_places w (entry.Record fs) ls = places_from w 0 ls
member_places w (entry.Tuple rs) ls = places_from w 0 ls
member_places w (entry.Variant cs) ls = payload_place w ls
member_places w (entry.Option r) ls = payload_place w ls
member_places w (entry.Result ok err) ls = payload_place w ls
member_places w _ ls = []

-- ---- lines

-- the shape of the entry at a place
abbrev pub shape_at : List Shape → ℕ → Shape
shape_at ss k = unwrap_or (slice_get ss k) (s_plain type.Bool)

-- how many bytes are taken, and of which number places are multiples
abbrev pub extent_text : (size align : ℕ) → List ℕ
extent_text size align = decimal size ++ (codes " bytes at multiples of " ++ decimal align)

abbrev pub layout_text : Bool → CanonicalAbiInfo → List ℕ
layout_text wide c = extent_text (extent (width wide) c).size (extent (width wide) c).align

abbrev pub places_text : List ℕ → List ℕ
places_text [] = []
places_text (n ∷ ns) = codes "; members at " ++ (decimal n ++ flat_map (λ m. 32 ∷ decimal m) ns)

-- the line of a layout and of places, in memories of one width
abbrev pub layout_line : Bool → CanonicalAbiInfo → List ℕ → List ℕ
layout_line wide c ns = codes "    with addresses of " ++ (width_text wide ++ (codes " bits: " ++ (layout_text wide c ++ (places_text ns ++ 10 ∷ []))))

-- the line of an entry, over the shapes of a plan's types
abbrev pub entry_line : Bool → List Shape → ℕ → PlanType → List ℕ
entry_line wide ss k e = layout_line wide (layout_of (shape_at ss k)) (member_places (width wide) e (member_layouts ss (member_types e)))
