-- What parameters ask of realloc, by computation.
use Rattle.std.proofs.Common.{◌≡◌, ℕ, false, List, [], ◌∷◌, map, refl}
use Rattle.std.specs.Prelude.{◌-◌, Some, None, codes, replicate}
use Rattle.fact_entity.specs.declared.id.Id.{Id}
use Rattle.fact_entity.specs.declared.table.RuntimeInstances.{RuntimeInstances}
use Rattle.fact_wasm.specs.declared.types.ValType.TheVariants as val
use Rattle.fact_types.specs.declared.interface.InterfaceType.TheVariants as ty
use Rattle.fact_types.specs.declared.outside.CoreDef.{CoreDef}
use Rattle.fact_types.specs.declared.outside.CoreDef.TheVariants as def
use Rattle.fact_types.specs.declared.outside.StringEncoding.TheVariants as string
use Rattle.fact_types.specs.Adapters.{Side, LinkedAdapter}
use Rattle.fact_types.specs.Layout.{aligned}
use Rattle.fact_types.specs.Shapes.{Shape, s_plain, s_node, no_members, typed, k_list}
use Rattle.fact_machine.specs.declared.types.CoreValue.TheVariants.{I32}
use Rattle.fact_actions.specs.Adapters.{AdapterTunables, params_transfer}
use Rattle.fact_actions.specs.Paths.{AsUtf8}
use Rattle.fact_actions.specs.Running.{ImportPlaces}
use Rattle.fact_actions.specs.Requests.{Request, RequestPart, RegionPart, TextPart, new_region, parts_requests}
use Rattle.fact_action_laws.specs.Parts.{parts_of, parts_of_fields}
use Rattle.fact_action_laws.specs.Requested.{params_parts}

module _ (instances : Id RuntimeInstances) where
  -- between two instances with memories of 32 bits and texts in UTF-8
  abbrev exported : (instance : ℕ) → (name : List ℕ) → CoreDef
  exported n name = def.Export (record { number = n; table = instances.table }) name

  abbrev side : (instance : ℕ) → List Shape → Side
  side n ts = record { instance = n; params = ts; results = []; async_type = false; core_type = record { params = []; results = [] }; encoding = string.Utf8; async_side = false; memory = Some (record { def = exported n (codes "memory"); memory64 = false; shared = false; page_size_log2 = 0 }); realloc = Some (exported n (codes "realloc")); callback = None; post_return = None }

  abbrev passing : List Shape → LinkedAdapter
  passing ts = record { name = []; callee = exported 1 (codes "run"); transparent = false; lift = side 1 ts; lower = side 0 ts }

  -- the memory of the lift side comes first
  abbrev instance_of : CoreDef → ℕ
  instance_of (def.Export i name) = i.number
  instance_of _ = 0

  abbrev places : ImportPlaces
  places = record { memory = λ d. 1 - instance_of d; flags = λ n. 1 - n; function = λ f. 0; memory_types = (false, Some 0) ∷ (false, Some 0) ∷ []; global_types = val.I32 ∷ val.I32 ∷ [] }

  abbrev off : AdapterTunables
  off = record { concurrency = false; exceptions = false; debug = false }

  -- the parts of parameters of these types, where these bytes are the memory that they come from
  abbrev parts : List Shape → (args : List ℕ) → (bytes : List ℕ) → List RequestPart
  parts ts args bytes =
      params_parts places off (passing ts) (map (λ n. I32 n) args) (record { memories = [] ∷ bytes ∷ []; globals = I32 1 ∷ I32 1 ∷ [] })

  abbrev text : Shape
  text = s_plain ty.String

  abbrev list_of : Shape → Shape
  list_of t = s_node k_list (typed [] t no_members)

  one_text : parts (text ∷ []) (3 ∷ 5 ∷ []) [] ≡ TextPart AsUtf8 3 5 ∷ []
  unfolding parts_of parts_of_fields
  one_text = refl

  -- the region of the list comes first, and then its texts
  two_texts : parts (list_of text ∷ []) (0 ∷ 2 ∷ []) (16 ∷ 0 ∷ 0 ∷ 0 ∷ 1 ∷ 0 ∷ 0 ∷ 0 ∷ 17 ∷ 0 ∷ 0 ∷ 0 ∷ 2 ∷ 0 ∷ 0 ∷ 0 ∷ []) ≡ RegionPart 4 16 ∷ TextPart AsUtf8 16 1 ∷ TextPart AsUtf8 17 2 ∷ []
  unfolding parts_of parts_of_fields aligned
  two_texts = refl

  -- what follows a list comes behind all that is in it
  a_list_and_a_text : parts (list_of (list_of (s_plain ty.U16)) ∷ text ∷ []) (0 ∷ 1 ∷ 40 ∷ 7 ∷ []) (8 ∷ 0 ∷ 0 ∷ 0 ∷ 3 ∷ 0 ∷ 0 ∷ 0 ∷ []) ≡ RegionPart 4 8 ∷ RegionPart 2 6 ∷ TextPart AsUtf8 40 7 ∷ []
  unfolding parts_of parts_of_fields aligned
  a_list_and_a_text = refl

  -- seventeen numbers go through a new pointer
  a_tuple : parts (replicate 17 (s_plain ty.U32)) (0 ∷ []) (replicate 68 0) ≡ RegionPart 4 68 ∷ []
  unfolding parts_of parts_of_fields aligned
  a_tuple = refl

  -- the calls of realloc that they ask for, where this is answered
  abbrev asked : List Shape → (answers : List ℕ) → List RequestPart → List Request
  asked ts answers xs = parts_requests (params_transfer off (passing ts)) xs (map (λ n. I32 n ∷ []) answers)

  -- behind each the transcoder answers too
  texts_are_asked : asked (list_of text ∷ []) (100 ∷ 200 ∷ 1 ∷ 300 ∷ 2 ∷ []) (RegionPart 4 16 ∷ TextPart AsUtf8 16 1 ∷ TextPart AsUtf8 17 2 ∷ []) ≡ new_region 4 16 ∷ new_region 1 1 ∷ new_region 1 2 ∷ []
  texts_are_asked = refl

  -- so far
  one_is_asked : asked (list_of text ∷ []) [] (RegionPart 4 16 ∷ TextPart AsUtf8 16 1 ∷ []) ≡ new_region 4 16 ∷ []
  one_is_asked = refl
