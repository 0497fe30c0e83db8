-- Sides of a call at the places where the module imports what the sides of an adapter name.
use Rattle.std.proofs.Common.{◌≡◌, ℕ, Bool, true, false, ◌||◌, List, refl, sym, ap, ◌∙◌}
use Rattle.std.specs.Prelude.{option_map}
use Rattle.std.proofs.lemmas.Bool.{true≢false}
use Rattle.fact_wasm.specs.declared.module.WasmModule.{WasmModule}
use Rattle.fact_entity.specs.declared.id.Id.{Id}
use Rattle.fact_entity.specs.declared.table.TypeFuncs.{TypeFuncs}
use Rattle.fact_types.specs.Adapters.{LinkedAdapter, Side, is_async, is_wide}
use Rattle.fact_types.specs.Functions.{HaveShapes}
use Rattle.fact_types.specs.declared.import.Import.{Import}
use Rattle.fact_types.specs.declared.import.Import.TheVariants as known
use Rattle.fact_types.specs.declared.outside.MemoryOption.{MemoryOption}
use Rattle.fact_builder.specs.Builder.{Builder}
use Rattle.fact_adapter_rules.specs.Linked.{HasSides, IsSideOf}
use Rattle.fact_adapter_rules.specs.declared.adapter.Adapter.{Adapter}
use Rattle.fact_adapter_rules.specs.declared.adapter.AdapterOptionsDfg.{AdapterOptionsDfg}
use Rattle.fact_actions.specs.Running.{ImportPlaces}
use Rattle.fact_function_laws.specs.Names.{places_in}
use Rattle.fact_host.specs.declared.calling.HostCall.{HostCall}
use Rattle.fact_host.specs.declared.calling.HostSide.{HostSide}
use Rattle.fact_host.specs.Describes.{DescribesHostSide}
use Rattle.fact_call_laws.specs.Carrying.{CallsAdapter}

-- A side of a call has the width and the encoding of options, and the places of what these name.
pub record IsSideAt (p : ImportPlaces) (o : AdapterOptionsDfg) (h : HostSide) : Type 0 where
  pub memory64 : h.abi.memory64 ≡ is_wide o.memory
  pub encoding : h.abi.encoding ≡ o.string_encoding
  pub memory : h.memory ≡ option_map (λ (m : MemoryOption). p.memory m.def) o.memory
  pub realloc : h.realloc ≡ option_map (λ d. p.function (known.CoreDef d)) o.realloc
  pub flags : h.flags ≡ p.flags o.instance.number

pub side_described : (b : Builder) (ty : Id TypeFuncs) (o : AdapterOptionsDfg) (s : Side) (p : ImportPlaces) (h : HostSide) → IsSideOf b ty o s → s.async_side ≡ false
    → HaveShapes b.tables h.params s.params → HaveShapes b.tables h.results s.results → IsSideAt p o h → DescribesHostSide b.tables h p s
side_described b ty o s p h side sync params results at = record {
  is_sync = sync;
  params = params;
  results = results;
  encoding = side.encoding ∙ sym at.encoding;
  memory64 = ap is_wide side.memory ∙ sym at.memory64;
  memory = ap (option_map (λ (m : MemoryOption). p.memory m.def)) side.memory ∙ sym at.memory;
  realloc = ap (option_map (λ d. p.function (known.CoreDef d))) side.realloc ∙ sym at.realloc;
  flags = ap p.flags side.instance ∙ sym at.flags;
}

-- neither side of a sync adapter is async
lower_mark : (ls ws lt wt : Bool) → ls || ws || lt || wt ≡ false → ws ≡ false
lower_mark true ws lt wt e = absurd (true≢false e)
lower_mark false true lt wt e = absurd (true≢false e)
lower_mark false false lt wt e = refl

lift_mark : (ls ws lt wt : Bool) → ls || ws || lt || wt ≡ false → ls ≡ false
lift_mark true ws lt wt e = absurd (true≢false e)
lift_mark false ws lt wt e = refl

pub lower_sync : (a : LinkedAdapter) → is_async a ≡ false → a.lower.async_side ≡ false
lower_sync a e = lower_mark a.lift.async_side a.lower.async_side a.lift.async_type a.lower.async_type e

pub lift_sync : (a : LinkedAdapter) → is_async a ≡ false → a.lift.async_side ≡ false
lift_sync a e = lift_mark a.lift.async_side a.lower.async_side a.lift.async_type a.lower.async_type e

-- the call of an adapter
pub adapter_called : (m : WasmModule) (is : List Import) (b : Builder) (x : Adapter) (a : LinkedAdapter) (c : HostCall) (f : ℕ) → HasSides b x a → c.func ≡ f
    → DescribesHostSide b.tables c.lower (places_in m is) a.lower → DescribesHostSide b.tables c.lift (places_in m is) a.lift
    → c.callee ≡ (places_in m is).function (known.CoreDef x.func) → c.post_return ≡ option_map (λ d. (places_in m is).function (known.CoreDef d)) x.lift_options.post_return
    → CallsAdapter m is b.tables c a f
adapter_called m is b x a c f sides func lower lift callee post_return = record {
  func = func;
  lower = lower;
  lift = lift;
  callee = ap (λ d. (places_in m is).function (known.CoreDef d)) sides.callee ∙ sym callee;
  post_return = ap (option_map (λ d. (places_in m is).function (known.CoreDef d))) sides.lift.post_return ∙ sym post_return;
}
