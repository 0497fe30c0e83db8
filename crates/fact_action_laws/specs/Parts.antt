-- What of the values at a source asks for regions at a destination, by what stands there: a list or a map by its length, and a text
-- by its pointer, and the form and the units that its length tells. In the order of the destination, the outer before the inner (canonical ABI,
-- "Storing").
use Rattle.std.specs.Prelude.{ℕ, zero, suc, ◌+◌, ◌*◌, List, [], ◌∷◌, ◌++◌, Option, Some, None, if◌then◌else◌}
use Rattle.std.specs.Str.{bytes_eq}
use Rattle.fact_types.specs.Adapters.{LinkedAdapter, is_wide}
use Rattle.fact_types.specs.Fields.{field_of}
use Rattle.fact_types.specs.Shapes.{Kind, k_record, k_variant, k_list, k_tuple, k_map, k_option, k_result, k_fixed, Shape, s_plain, s_node, Members, no_members, bare, typed}
use Rattle.fact_types.specs.Signatures.{flat_values, lower_limit, lift_results_limit}
use Rattle.fact_types.specs.Options.{◌>>=◌}
use Rattle.fact_types.specs.Tuples.{tuple_members}
use Rattle.fact_types.specs.declared.flats.FlatType.TheVariants.{I32}
use Rattle.fact_types.specs.declared.interface.InterfaceType.{InterfaceType}
use Rattle.fact_types.specs.declared.interface.InterfaceType.TheVariants as ty
use Rattle.fact_machine.specs.declared.types.CoreValue.{CoreValue}
use Rattle.fact_values.specs.Handles.{members_of}
use Rattle.fact_values.specs.Lift.{number_as, leading_pair}
use Rattle.fact_values.specs.Limits.{CaseType, case_type}
use Rattle.fact_values.specs.Numbers.{number_in}
use Rattle.fact_values.specs.Places.{Pair, pair_at, case_bytes, payload_place}
use Rattle.fact_values.specs.Texts.{form_of}
use Rattle.fact_actions.specs.Moves.{entry_extent, element_flats, part, payload_part}
use Rattle.fact_actions.specs.Requests.{RequestPart, TextPart, list_part, tuple_part}
use Rattle.fact_actions.specs.Sides.{LiftLowerOptions, Source, Values, AtAddress, first_bits, nth_part, side_abi, options_of}
use Rattle.fact_actions.specs.Strings.{form_in}
use Rattle.fact_action_laws.specs.Places.{from_side}
use Rattle.fact_action_laws.specs.Regions.{TransferSetting}

-- ---- what is read at a source

abbrev pub pair_of_source : TransferSetting → Source → Option Pair
pair_of_source c (Values vs) = leading_pair (from_side c) vs
pair_of_source c (AtAddress a) = pair_at (from_side c) c.source a

abbrev pub case_of_source : TransferSetting → Members → Source → Option CaseType
case_of_source c ms (Values []) = None
case_of_source c ms (Values (v ∷ vs)) = case_type ms (number_as I32 v)
case_of_source c ms (AtAddress a) = number_in c.source (case_bytes ms) a >>= (λ n. case_type ms n)

-- ---- the parts of a value

abbrev pub parts_of_some : {A : Type 0} → Option A → (A → List RequestPart) → List RequestPart
parts_of_some None f = []
parts_of_some (Some a) f = f a

-- those of each of so many, from one on
abbrev pub parts_of_each : (first count : ℕ) → (ℕ → List RequestPart) → List RequestPart
parts_of_each i zero f = []
parts_of_each i (suc n) f = f i ++ parts_of_each (suc i) n f

abbrev pub parts_of_plain : TransferSetting → InterfaceType → InterfaceType → Source → List RequestPart
parts_of_plain c ty.String ty.String s =
    parts_of_some (pair_of_source c s) (λ q. TextPart (form_in c.transfer.from.encoding q.count) q.pointer (form_of c.transfer.from.encoding q.count).units ∷ [])
parts_of_plain c t u s = []

-- lists and maps: the region first, and then the parts of each element or entry
abbrev pub parts_of_list : TransferSetting → (ms ns : Members) → (Source → List RequestPart) → Source → List RequestPart
parts_of_list c ms ns element s =
    parts_of_some (pair_of_source c s) (λ q.
    list_part c.transfer.to ns q.count ∷ parts_of_each 0 q.count (λ i. element (AtAddress (q.pointer + i * (entry_extent c.transfer.from ms).size))))

abbrev pub parts_of_fixed : TransferSetting → ℕ → (ms ns : Members) → (Source → List RequestPart) → Source → List RequestPart
parts_of_fixed c n ms ns element s = parts_of_each 0 n (λ i. element (nth_part (element_flats c.transfer.from ms) (entry_extent c.transfer.from ms).size i s))

-- A source with members ms, and a destination of a kind with members ns.
abbrev pub parts_of_node : TransferSetting → (ms : Members) → Kind → (ns : Members) → (fields : Source → List RequestPart) → (case : CaseType → Source → List RequestPart) → Source → List RequestPart
parts_of_node c ms k_record ns fields case s = fields s
parts_of_node c ms k_tuple ns fields case s = fields s
parts_of_node c ms k_list ns fields case s = parts_of_list c ms ns fields s
parts_of_node c ms k_map ns fields case s = parts_of_list c ms ns fields s
parts_of_node c ms (k_fixed n) ns fields case s = parts_of_fixed c n ms ns fields s
parts_of_node c ms k_variant ns fields case s = parts_of_some (case_of_source c ms s) (λ x. case x s)
parts_of_node c ms k_option ns fields case s = parts_of_some (case_of_source c ms s) (λ x. case x s)
parts_of_node c ms k_result ns fields case s = parts_of_some (case_of_source c ms s) (λ x. case x s)
parts_of_node c ms k ns fields case s = []

-- a value of a plain destination type
abbrev pub parts_to_plain : TransferSetting → Shape → InterfaceType → Source → List RequestPart
parts_to_plain c (s_plain t) u s = parts_of_plain c t u s
parts_to_plain c (s_node k ms) u s = []

unfoldable mutual
  -- of a value of a source type that stands at a source, where it goes to a destination type
  pub parts_of : TransferSetting → Shape → Shape → Source → List RequestPart
  parts_of c t (s_plain u) s = parts_to_plain c t u s
  parts_of c t (s_node l ns) s =
      parts_of_node c (members_of t) l ns (λ s'. parts_of_fields c (members_of t) ns s') (λ x s'. parts_of_case c (members_of t) x ns s') s

  -- of each field of the destination, by its name
  pub parts_of_fields : TransferSetting → Members → Members → Source → List RequestPart
  parts_of_fields c ms no_members s = []
  parts_of_fields c ms (bare x ns) s = parts_of_fields c ms ns s
  parts_of_fields c ms (typed x u ns) s = parts_of_some (field_of x ms) (λ f. parts_of c f.shape u (part c.transfer.from f s)) ++ parts_of_fields c ms ns s

  -- of the payload of a case, by the case of its name
  pub parts_of_case : TransferSetting → Members → CaseType → Members → Source → List RequestPart
  parts_of_case c ms k no_members s = []
  parts_of_case c ms k (bare x ns) s = if bytes_eq x k.name then [] else parts_of_case c ms k ns s
  parts_of_case c ms k (typed x u ns) s =
      if bytes_eq x k.name
      then parts_of_some k.payload (λ p. parts_of c p u (payload_part c.transfer.from p (payload_place (side_abi c.transfer.from) ms) s))
      else parts_of_case c ms k ns s

-- ---- the parts of parameters and results

-- types whose flat values are too many go through a pointer, which is the first of the core values
abbrev pub source_of_types : LiftLowerOptions → (limit : ℕ) → List Shape → List CoreValue → Source
source_of_types o limit ts vs = elim (flat_values (is_wide o.memory) limit ts) [ Some flats ↦ Values vs | None ↦ AtAddress (first_bits vs) ]

-- The parameters, of which a tuple that goes through a new pointer comes first.
abbrev pub parts_of_params : TransferSetting → LinkedAdapter → (args : List CoreValue) → List RequestPart
parts_of_params c a args =
    let inner = parts_of_fields c (tuple_members a.lower.params) (tuple_members a.lift.params) (source_of_types (options_of a.lower) (lower_limit a.lower.async_side) a.lower.params args) in
    elim (flat_values (is_wide a.lift.memory) 16 a.lift.params) [ Some flats ↦ inner | None ↦ tuple_part (options_of a.lift) a.lift.params ∷ inner ]

-- The results, which go to core values or to the return area.
abbrev pub parts_of_results : TransferSetting → LinkedAdapter → (given : List CoreValue) → List RequestPart
parts_of_results c a given =
    parts_of_fields c (tuple_members a.lift.results) (tuple_members a.lower.results) (source_of_types (options_of a.lift) (lift_results_limit a.lift.async_side) a.lift.results given)
