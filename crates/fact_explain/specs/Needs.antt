-- How a side of an adapter passes the values of its function, and what it needs for that, as they are printed.
-- Component Model, canonical ABI, "Flattening" (`flatten_functype`), "Canonical ABI options".
use Rattle.std.specs.Prelude.{ℕ, Bool, true, false, ◌||◌, List, [], ◌∷◌, ◌++◌, Option, None, Some, codes, is_none, is_some}
use Rattle.fact_types.specs.FlatShapes.{flat_all}
use Rattle.fact_types.specs.PointerPairs.{any_pointer_pair}
use Rattle.fact_types.specs.Shapes.{Shape, layout_of}
use Rattle.fact_types.specs.Signatures.{lift_results_limit, lower_limit, lowered_flat_types, width}
use Rattle.fact_types.specs.Tuples.{tuple_of}
use Rattle.fact_plan.specs.declared.plan.PlanMemory.{PlanMemory}
use Rattle.fact_plan.specs.declared.plan.PlanSide.{PlanSide}
use Rattle.fact_explain.specs.Layouts.{layout_text}

-- whether the addresses of a side's memory have 64 bits
abbrev pub is_wide_memory : Option PlanMemory → Bool
is_wide_memory None = false
is_wide_memory (Some m) = m.memory64

-- ---- which values go through a pointer

-- values of these types have more flat types than a limit
abbrev pub is_past : (wide : Bool) → (limit : ℕ) → List Shape → Bool
is_past wide limit ss = is_none (flat_all (width wide) limit ss)

abbrev pub lift_params_by_pointer : PlanSide → (params : List Shape) → Bool
lift_params_by_pointer s ps = is_past (is_wide_memory s.memory) 16 ps

abbrev pub lift_results_by_pointer : PlanSide → (results : List Shape) → Bool
lift_results_by_pointer s rs = is_past (is_wide_memory s.memory) (lift_results_limit s.async_) rs

abbrev pub lower_params_by_pointer : PlanSide → (params : List Shape) → Bool
lower_params_by_pointer s ps = is_past (is_wide_memory s.memory) (lower_limit s.async_) ps

abbrev pub lower_results_by_pointer : PlanSide → (results : List Shape) → Bool
lower_results_by_pointer s rs = is_none (lowered_flat_types s.async_ (width (is_wide_memory s.memory)) rs)

-- ---- lines

-- the line of the parameters, or of the results
abbrev pub passed_line : (what : List ℕ) → (wide by_pointer : Bool) → List Shape → List ℕ
passed_line what wide true ss = codes "    " ++ (what ++ (codes " through a pointer to " ++ (layout_text wide (layout_of (tuple_of ss)) ++ 10 ∷ [])))
passed_line what wide false [] = codes "    no " ++ (what ++ 10 ∷ [])
passed_line what wide false (s ∷ ss) = codes "    " ++ (what ++ codes " as core values\n")

-- what is told of an option, by whether it is needed and whether it is there
abbrev pub option_text : (needed there : Bool) → List ℕ
option_text true there = codes "needed"
option_text false true = codes "there, and not needed"
option_text false false = codes "not needed"

abbrev pub options_line : PlanSide → (memory realloc : Bool) → List ℕ
options_line s memory realloc = codes "    memory " ++ (option_text memory (is_some s.memory) ++ (codes "; realloc " ++ (option_text realloc (is_some s.realloc) ++ 10 ∷ [])))

-- The lines of a side, by whether its parameters and whether its results go through a pointer. Values that do, and strings, lists and maps, are in a memory.
abbrev pub needs_text : PlanSide → (params_by_pointer results_by_pointer realloc : Bool) → (params results : List Shape) → List ℕ
needs_text s params_by_pointer results_by_pointer realloc ps rs =
    passed_line (codes "parameters") (is_wide_memory s.memory) params_by_pointer ps
    ++ (passed_line (codes "results") (is_wide_memory s.memory) results_by_pointer rs
    ++ options_line s ((params_by_pointer || results_by_pointer) || (any_pointer_pair ps || any_pointer_pair rs)) realloc)

-- What a side needs for its memory and its realloc is what `check_plan` asks of it (`LiftNeedsMemory`, `LiftNeedsRealloc`, `LowerNeedsMemory` and
-- `LowerNeedsRealloc` of fact_adapter_rules). The destination of values calls realloc for what they hold, and for parameters behind a pointer: a side that lifts for parameters, one that lowers for
-- results, whose area the caller gives.
abbrev pub lift_needs : PlanSide → (params results : List Shape) → List ℕ
lift_needs s ps rs = needs_text s (lift_params_by_pointer s ps) (lift_results_by_pointer s rs) (lift_params_by_pointer s ps || any_pointer_pair ps) ps rs

abbrev pub lower_needs : PlanSide → (params results : List Shape) → List ℕ
lower_needs s ps rs = needs_text s (lower_params_by_pointer s ps) (lower_results_by_pointer s rs) (any_pointer_pair rs) ps rs
