-- The flat types of shapes: lists of any length, of which one above 16 counts as none at the end alone.
-- Component Model, canonical ABI, "Flattening".
use Rattle.std.specs.Prelude.{◌≡◌, ℕ, suc, zero, ◌≤◌, nat_le, List, [], ◌∷◌, ◌++◌, length, replicate, Option, Some, None, if◌then◌else◌}
use Rattle.fact_types.specs.declared.flats.FlatType.{FlatType}
use Rattle.fact_types.specs.declared.flats.FlatType.TheVariants.{I32, I64, F32, F64}
use Rattle.fact_types.specs.declared.interface.InterfaceType.{InterfaceType}
use Rattle.fact_types.specs.declared.interface.InterfaceType.TheVariants.{S64 as t_s64, U64 as t_u64, Float32 as t_float32, Float64 as t_float64, String as t_string}
use Rattle.fact_types.specs.declared.extents.MemoryWidth.{MemoryWidth}
use Rattle.fact_types.specs.declared.extents.MemoryWidth.TheVariants.{Memory32, Memory64}
use Rattle.fact_types.specs.Flat.{join}
use Rattle.fact_types.specs.Layout.{flags_size, flags_flat}
use Rattle.fact_types.specs.Shapes.{Kind, k_record, k_variant, k_list, k_tuple, k_map, k_flags, k_enum, k_option, k_result, k_fixed, k_future, k_stream, Shape, s_plain, s_node, Members, no_members, bare, typed, layouts_of}

-- The flat type of addresses.
abbrev pub pointer : MemoryWidth → FlatType
pointer Memory32 = I32
pointer Memory64 = I64

-- Two lists joined place by place; the rest of the longer one stays (`flatten_variant`).
abbrev pub joined : List FlatType → List FlatType → List FlatType
joined [] ys = ys
joined (x ∷ xs) [] = x ∷ xs
joined (x ∷ xs) (y ∷ ys) = join x y ∷ joined xs ys

-- A list so many times.
abbrev pub times : {X : Type 0} → ℕ → List X → List X
times zero xs = []
times (suc n) xs = xs ++ times n xs

abbrev pub flat_plain : MemoryWidth → InterfaceType → List FlatType
flat_plain w t_s64 = I64 ∷ []
flat_plain w t_u64 = I64 ∷ []
flat_plain w t_float32 = F32 ∷ []
flat_plain w t_float64 = F64 ∷ []
flat_plain w t_string = pointer w ∷ pointer w ∷ []
flat_plain w p = I32 ∷ []

-- A kind of type over its members: how many there are, their flat types one after another, and these joined.
abbrev pub flat_by : MemoryWidth → Kind → ℕ → List FlatType → List FlatType → List FlatType
flat_by w k_record n all any = all
flat_by w k_tuple n all any = all
flat_by w k_list n all any = pointer w ∷ pointer w ∷ []
flat_by w k_map n all any = pointer w ∷ pointer w ∷ []
flat_by w k_flags n all any = replicate (flags_flat (flags_size n)) I32
flat_by w (k_fixed count) n all any = times count all
flat_by w (k_future table instance) n all any = I32 ∷ []
flat_by w (k_stream table instance) n all any = I32 ∷ []
flat_by w k_variant n all any = I32 ∷ any
flat_by w k_enum n all any = I32 ∷ []
flat_by w k_option n all any = I32 ∷ any
flat_by w k_result n all any = I32 ∷ any

abbrev mutual
  pub flat : MemoryWidth → Shape → List FlatType
  flat w (s_plain p) = flat_plain w p
  flat w (s_node k ms) = flat_by w k (length (layouts_of ms)) (flat_members w ms) (flat_any w ms)

  -- the members one after another
  pub flat_members : MemoryWidth → Members → List FlatType
  flat_members w no_members = []
  flat_members w (bare n ms) = flat_members w ms
  flat_members w (typed n s ms) = flat w s ++ flat_members w ms

  -- the members joined
  pub flat_any : MemoryWidth → Members → List FlatType
  flat_any w no_members = []
  flat_any w (bare n ms) = flat_any w ms
  flat_any w (typed n s ms) = joined (flat w s) (flat_any w ms)

-- A list that is no longer than n, and none where it is longer.
abbrev pub upto : {X : Type 0} → ℕ → List X → Option (List X)
upto n xs = if nat_le (length xs) n then Some xs else None

-- The flat types of one type, none above 16.
abbrev pub flat_types : MemoryWidth → Shape → Option (List FlatType)
flat_types w s = upto 16 (flat w s)

abbrev pub after_flat : {X : Type 0} → Option (List X) → Option (List X) → Option (List X)
after_flat None ys = None
after_flat (Some xs) None = None
after_flat (Some xs) (Some ys) = Some (xs ++ ys)

-- The flat types of several types one after another, none where one of them is.
abbrev pub flat_each : MemoryWidth → List Shape → Option (List FlatType)
flat_each w [] = Some []
flat_each w (s ∷ ss) = after_flat (flat_types w s) (flat_each w ss)

abbrev pub when_upto : {X : Type 0} → ℕ → Option (List X) → Option (List X)
when_upto n None = None
when_upto n (Some xs) = upto n xs

-- The same, and none where there are more than a limit.
abbrev pub flat_all : MemoryWidth → ℕ → List Shape → Option (List FlatType)
flat_all w limit ss = when_upto limit (flat_each w ss)

-- Where the count of a layout is the length of the flat types: flags have no more than 16 words of names, and lists of
-- fixed length have elements, of one type.
abbrev pub IsCountedBy : Kind → ℕ → Type 0
IsCountedBy k_flags n = n ≤ 512
IsCountedBy (k_fixed count) n = (n ≡ 1) × (1 ≤ count)
IsCountedBy k n = Unit {0}

abbrev mutual
  pub IsCounted : Shape → Type 0
  IsCounted (s_plain p) = Unit {0}
  IsCounted (s_node k ms) = IsCountedBy k (length (layouts_of ms)) × AreCounted ms

  pub AreCounted : Members → Type 0
  AreCounted no_members = Unit {0}
  AreCounted (bare n ms) = AreCounted ms
  AreCounted (typed n s ms) = IsCounted s × AreCounted ms
