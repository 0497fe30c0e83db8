-- Each helper of a module has one key, and each key is that of one helper: its types have the shapes of the key, and its options name, by their places among
-- the imports, what the ends of the key's route name.
use Rattle.std.proofs.Common.{◌≡◌, ℕ, Bool, false, List, Option, Some, None, refl, sym, ap, ◌∙◌, slice_get}
use Rattle.fact_wasm.specs.declared.types.FuncType.{FuncType}
use Rattle.fact_entity.specs.declared.id.Id.{Id}
use Rattle.fact_entity.specs.declared.table.Funcs.{Funcs}
use Rattle.fact_entity.specs.declared.table.Memories.{Memories}
use Rattle.fact_types.specs.FlatShapes.{IsCounted}
use Rattle.fact_types.specs.Tables.{Tables, HasShape}
use Rattle.fact_types.specs.declared.import.Import.{Import}
use Rattle.fact_types.specs.declared.import.Import.TheVariants as known
use Rattle.fact_types.specs.declared.outside.CoreDef.{CoreDef}
use Rattle.fact_types.specs.declared.outside.MemoryOption.{MemoryOption}
use Rattle.fact_types.proofs.ShapeLaws.{one_shape}
use Rattle.fact_actions.specs.Outlining.{HelperKey, RouteEnd, Stack, Memory}
use Rattle.fact_emit.specs.Imports.{AreOnce, StandOnce}
use Rattle.fact_emit.specs.Movable.{CanMove}
use Rattle.fact_emit.specs.States.{ModuleSoFar, functions_of, memories_of}
use Rattle.fact_emit.specs.TaskCalls.{IsFunctionThere}
use Rattle.fact_emit.specs.declared.helpers.Helper.{Helper}
use Rattle.fact_emit.specs.declared.helpers.HelperLocation.{HelperLocation}
use Rattle.fact_emit.specs.declared.helpers.HelperLocation.TheVariants as location
use Rattle.fact_emit.specs.declared.options.Options.{Options}
use Rattle.fact_kinds.specs.Translations.{place_of_location}
use Rattle.fact_assembly.specs.Holding.{HoldTypesOnce}

-- ---- what stands at places

-- A memory is there where there is a place, and it is imported there, with addresses and pages of these sizes. It is not shared.
abbrev pub IsMemoryAt : List Import → Option (Id Memories) → (memory64 : Bool) → (page_size_log2 : ℕ) → Option MemoryOption → Type 0
IsMemoryAt is None wide page None = (wide ≡ false) × (page ≡ 16)
IsMemoryAt is None wide page (Some m) = ⊥
IsMemoryAt is (Some i) wide page None = ⊥
IsMemoryAt is (Some i) wide page (Some m) = (slice_get is i.number ≡ Some (known.CoreDef m.def)) × (wide ≡ m.memory64) × (page ≡ m.page_size_log2) × (m.shared ≡ false)

-- ---- one of each

same-id : {T : Type 0} (i j : Id T) → i.number ≡ j.number → i ≡ j
same-id i j e = λ k. record { number = e k; table = _ }

one-definition : (is : List Import) (n : ℕ) (d e : CoreDef) → slice_get is n ≡ Some (known.CoreDef d) → slice_get is n ≡ Some (known.CoreDef e) → d ≡ e
one-definition is n d e g h =
    let same : Some (known.CoreDef d) ≡ Some (known.CoreDef e) = sym g ∙ h in
    cc

one-function : (s : ModuleSoFar) (o : Option (Id Funcs)) (c d : Option CoreDef) → IsFunctionThere s o c → IsFunctionThere s o d → c ≡ d
one-function s None None None g h = refl
one-function s None None (Some e) g h = absurd h
one-function s None (Some d) e g h = absurd g
one-function s (Some i) None e g h = absurd g
one-function s (Some i) (Some d) None g h = absurd h
one-function s (Some i) (Some d) (Some e) g h = ap Some (one-definition (functions_of s) i.number d e g h)

one-place : (s : ModuleSoFar) → StandOnce (functions_of s) → (o p : Option (Id Funcs)) (d : Option CoreDef) → IsFunctionThere s o d → IsFunctionThere s p d → o ≡ p
one-place s once None None d g h = refl
one-place s once None (Some j) None g h = absurd h
one-place s once None (Some j) (Some d) g h = absurd g
one-place s once (Some i) p None g h = absurd g
one-place s once (Some i) None (Some d) g h = absurd h
one-place s once (Some i) (Some j) (Some d) g h = ap Some (same-id i j (once.one i.number j.number (known.CoreDef d) refl g h))

one-memory : (is : List Import) (o : Option (Id Memories)) (wide : Bool) (page : ℕ) (c d : Option MemoryOption) → IsMemoryAt is o wide page c → IsMemoryAt is o wide page d → c ≡ d
one-memory is None wide page None None g h = refl
one-memory is None wide page None (Some n) g h = absurd h
one-memory is None wide page (Some m) d g h = absurd g
one-memory is (Some i) wide page None d g h = absurd g
one-memory is (Some i) wide page (Some m) None g h = absurd h
one-memory is (Some i) wide page (Some m) (Some n) g h =
    let def : m.def ≡ n.def = one-definition is i.number m.def n.def g.0 h.0 in
    let memory64 : m.memory64 ≡ n.memory64 = sym g.1 ∙ h.1 in
    let page_size : m.page_size_log2 ≡ n.page_size_log2 = sym g.2 ∙ h.2 in
    let shared : m.shared ≡ n.shared = g.3 ∙ sym h.3 in
    let same : m ≡ n = λ k. record { def = def k; memory64 = memory64 k; shared = shared k; page_size_log2 = page_size k } in
    ap Some same

record IsOneMemory (o p : Option (Id Memories)) (v w : Bool) (x y : ℕ) : Type 0 where
  place : o ≡ p
  memory64 : v ≡ w
  page_size : x ≡ y

one-linear : (is : List Import) → StandOnce is → (o p : Option (Id Memories)) (v w : Bool) (x y : ℕ) (m : Option MemoryOption) → IsMemoryAt is o v x m → IsMemoryAt is p w y m → IsOneMemory o p v w x y
one-linear is once None None v w x y None g h = record { place = refl; memory64 = g.0 ∙ sym h.0; page_size = g.1 ∙ sym h.1 }
one-linear is once None (Some j) v w x y None g h = absurd h
one-linear is once None p v w x y (Some m) g h = absurd g
one-linear is once (Some i) p v w x y None g h = absurd g
one-linear is once (Some i) None v w x y (Some m) g h = absurd h
one-linear is once (Some i) (Some j) v w x y (Some m) g h =
    record { place = ap Some (same-id i j (once.one i.number j.number (known.CoreDef m.def) refl g.0 h.0)); memory64 = g.1 ∙ sym h.1; page_size = g.2 ∙ sym h.2 }

one-location : (l m : HelperLocation) → place_of_location l ≡ place_of_location m → l ≡ m
one-location location.Stack location.Stack e = refl
one-location location.Memory location.Memory e = refl
one-location location.Stack location.Memory e = let no : Stack ≡ Memory = e in cc
one-location location.Memory location.Stack e = let no : Memory ≡ Stack = e in cc

-- ---- ends and keys

module _ (t : Tables) (cores : List FuncType) (s : ModuleSoFar) where
  -- Options and a location of a helper's side are those of an end of a route.
  pub record IsEndOf (o : Options) (l : HelperLocation) (e : RouteEnd) : Type 0 where
    pub encoding : o.string_encoding ≡ e.encoding
    pub memory : IsMemoryAt (memories_of s) o.linear.memory o.linear.memory64 o.linear.page_size_log2 e.memory
    pub realloc : IsFunctionThere s o.linear.realloc e.realloc
    pub callback : IsFunctionThere s o.callback e.callback
    pub async_side : o.async_ ≡ e.async_side
    pub core_type : slice_get cores o.core_type.number ≡ Some e.core_type
    pub place : place_of_location l ≡ e.place

  -- A key of a helper, which moves values of its shapes.
  pub record IsKey (h : Helper) (k : HelperKey) : Type 0 where
    pub source : HasShape t h.src.ty k.source
    pub destination : HasShape t h.dst.ty k.destination
    pub source_counted : IsCounted k.source
    pub destination_counted : IsCounted k.destination
    pub moves : CanMove k.source k.destination
    pub from : IsEndOf h.src.opts h.src.loc k.route.from
    pub to : IsEndOf h.dst.opts h.dst.loc k.route.to

  one-end : (o : Options) (l : HelperLocation) (e f : RouteEnd) → IsEndOf o l e → IsEndOf o l f → e ≡ f
  one-end o l e f g h =
      let encoding : e.encoding ≡ f.encoding = sym g.encoding ∙ h.encoding in
      let memory : e.memory ≡ f.memory = one-memory (memories_of s) o.linear.memory o.linear.memory64 o.linear.page_size_log2 e.memory f.memory g.memory h.memory in
      let realloc : e.realloc ≡ f.realloc = one-function s o.linear.realloc e.realloc f.realloc g.realloc h.realloc in
      let callback : e.callback ≡ f.callback = one-function s o.callback e.callback f.callback g.callback h.callback in
      let async_side : e.async_side ≡ f.async_side = sym g.async_side ∙ h.async_side in
      let types : Some e.core_type ≡ Some f.core_type = sym g.core_type ∙ h.core_type in
      let core_type : e.core_type ≡ f.core_type = cc in
      let place : e.place ≡ f.place = sym g.place ∙ h.place in
      λ k. record { encoding = encoding k; memory = memory k; realloc = realloc k; callback = callback k; async_side = async_side k; core_type = core_type k; place = place k }

  -- Each helper has one key.
  pub one-key : (h : Helper) (k l : HelperKey) → IsKey h k → IsKey h l → k ≡ l
  one-key h k l x y =
      let source : k.source ≡ l.source = one_shape t k.source l.source h.src.ty x.source y.source in
      let destination : k.destination ≡ l.destination = one_shape t k.destination l.destination h.dst.ty x.destination y.destination in
      let from : k.route.from ≡ l.route.from = one-end h.src.opts h.src.loc k.route.from l.route.from x.from y.from in
      let to : k.route.to ≡ l.route.to = one-end h.dst.opts h.dst.loc k.route.to l.route.to x.to y.to in
      λ i. record { source = source i; destination = destination i; route = record { from = from i; to = to i } }

  module _ (types : HoldTypesOnce t cores) (once : AreOnce s) where
    one-options : (o p : Options) (l m : HelperLocation) (e : RouteEnd) → IsEndOf o l e → IsEndOf p m e → o ≡ p
    one-options o p l m e g h =
        let encoding : o.string_encoding ≡ p.string_encoding = g.encoding ∙ sym h.encoding in
        let linear = one-linear (memories_of s) once.memories o.linear.memory p.linear.memory o.linear.memory64 p.linear.memory64 o.linear.page_size_log2 p.linear.page_size_log2 e.memory g.memory h.memory in
        let realloc : o.linear.realloc ≡ p.linear.realloc = one-place s once.functions o.linear.realloc p.linear.realloc e.realloc g.realloc h.realloc in
        let callback : o.callback ≡ p.callback = one-place s once.functions o.callback p.callback e.callback g.callback h.callback in
        let async_ : o.async_ ≡ p.async_ = g.async_side ∙ sym h.async_side in
        let core_type : o.core_type ≡ p.core_type = same-id o.core_type p.core_type (types.one_core o.core_type.number p.core_type.number e.core_type g.core_type h.core_type) in
        let memories : o.linear ≡ p.linear = λ k. record { memory = linear.place k; memory64 = linear.memory64 k; page_size_log2 = linear.page_size k; realloc = realloc k } in
        λ k. record { string_encoding = encoding k; linear = memories k; callback = callback k; async_ = async_ k; core_type = core_type k }

    -- Each key is that of one helper.
    pub one-helper : (h g : Helper) (k : HelperKey) → IsKey h k → IsKey g k → h ≡ g
    one-helper h g k x y =
        let src : h.src ≡ g.src =
        (let ty = types.one_type k.source h.src.ty g.src.ty x.source y.source in
        let opts = one-options h.src.opts g.src.opts h.src.loc g.src.loc k.route.from x.from y.from in
        let loc = one-location h.src.loc g.src.loc (x.from.place ∙ sym y.from.place) in
        λ i. record { ty = ty i; opts = opts i; loc = loc i }) in
        let dst : h.dst ≡ g.dst =
        (let ty = types.one_type k.destination h.dst.ty g.dst.ty x.destination y.destination in
        let opts = one-options h.dst.opts g.dst.opts h.dst.loc g.dst.loc k.route.to x.to y.to in
        let loc = one-location h.dst.loc g.dst.loc (x.to.place ∙ sym y.to.place) in
        λ i. record { ty = ty i; opts = opts i; loc = loc i }) in
        λ i. record { src = src i; dst = dst i }
