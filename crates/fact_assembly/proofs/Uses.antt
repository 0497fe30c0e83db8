-- What the mentions of adapters use definitions as.
use Rattle.std.proofs.Common.{◌≡◌, ℕ, Bool, List, [], ◌∷◌, ◌++◌, Option, Some, None, refl, sym, ap, ◌∙◌, subst, map, inr}
use Rattle.std.specs.List.{flat_map}
use Rattle.std.proofs.lemmas.List.{map-append}
use Rattle.fact_wasm.specs.declared.types.FuncType.{FuncType}
use Rattle.fact_types.specs.declared.outside.CoreDef.{CoreDef}
use Rattle.fact_types.specs.declared.outside.CoreDef.TheVariants as def
use Rattle.fact_types.specs.declared.outside.MemoryOption.{MemoryOption}
use Rattle.fact_types.specs.Adapters.{LinkedAdapter, Side, is_wide}
use Rattle.fact_types.specs.ImportTypes.{callback_type, post_return_type, realloc_type}
use Rattle.fact_adapter_rules.specs.Bindings.{AreConsistent}
use Rattle.fact_adapter_rules.specs.declared.uses.Use.{Use}
use Rattle.fact_adapter_rules.specs.declared.uses.Use.TheVariants as used_as
use Rattle.fact_plan_types.specs.Faults.{import_conflict}
use Rattle.fact_adapter_rules.specs.AdapterRules.{bound, callee_uses, def_in, memory_use, side_uses, uses_of, with}
use Rattle.fact_emit.specs.ImportSection.{Callback, Callee, Flags, Mention, PostReturn, Realloc, Role, Storage, adapter_mentions, custom_page_size, memory_mention, mention, side_mentions}
use Rattle.fact_emit.specs.Known.{AreUsedAlike, IsUsedAlike, memory_of_role}
use Rattle.fact_emit.specs.DefImports.{type_of_role}
use Rattle.fact_assembly.specs.Importing.{PassedAreUsedAlike}
use Rattle.fact_assembly.proofs.Pairs.{contains_map, one_value, stable_consistent, stable_use}

-- ---- what roles are used as

abbrev pub use_of : Role → Use
use_of (Flags i) = used_as.FlagGlobal
use_of (Storage wide k) = used_as.Memory wide k
use_of (Realloc wide) = used_as.Function (realloc_type wide)
use_of Callback = used_as.Function callback_type
use_of (Callee adapter ty) = used_as.Function ty
use_of (PostReturn adapter results) = used_as.Function (post_return_type results)

-- the type of a function, and that of a memory
abbrev function_used : Use → Option FuncType
function_used (used_as.Function ty) = Some ty
function_used _ = None

abbrev memory_used : Use → Option (Bool × Option ℕ)
memory_used (used_as.Memory wide k) = Some (wide, custom_page_size k)
memory_used _ = None

function_role : (r : Role) → type_of_role r ≡ function_used (use_of r)
function_role (Flags i) = refl
function_role (Storage wide k) = refl
function_role (Realloc wide) = refl
function_role Callback = refl
function_role (Callee adapter ty) = refl
function_role (PostReturn adapter results) = refl

memory_role : (r : Role) → memory_of_role r ≡ memory_used (use_of r)
memory_role (Flags i) = refl
memory_role (Storage wide k) = refl
memory_role (Realloc wide) = refl
memory_role Callback = refl
memory_role (Callee adapter ty) = refl
memory_role (PostReturn adapter results) = refl

used_alike : (q r : Role) → use_of q ≡ use_of r → IsUsedAlike q r
used_alike q r e = record {
  function = function_role q ∙ ap function_used e ∙ sym (function_role r);
  memory = memory_role q ∙ ap memory_used e ∙ sym (memory_role r);
}

-- ---- what adapters mention is what they use

abbrev used : Mention → CoreDef × Use
used r = (r.def, use_of r.role)

one_used : (r : Role) (d : Option CoreDef) → bound d (use_of r) ≡ map used (mention r d)
one_used r None = refl
one_used r (Some d) = refl

memory_is_used : (m : Option MemoryOption) → bound (def_in m) (memory_use m) ≡ map used (memory_mention m)
memory_is_used None = refl
memory_is_used (Some m) = refl

side_used : (s : Side) → side_uses s ≡ map used (side_mentions s)
side_used s =
    let flags : CoreDef × Use = (def.InstanceFlags (record { table = _; number = s.instance }), used_as.FlagGlobal) in
    let both = map-append used (mention (Realloc (is_wide s.memory)) s.realloc) (mention Callback s.callback) in
    let all = map-append used (memory_mention s.memory) (mention (Realloc (is_wide s.memory)) s.realloc ++ mention Callback s.callback) in
    ap (λ l. flags ∷ l) ((λ k. memory_is_used s.memory k ++ (one_used (Realloc (is_wide s.memory)) s.realloc k ++ one_used Callback s.callback k)) ∙ ap (λ l. map used (memory_mention s.memory) ++ l) (sym both) ∙ sym all)

adapter_used : (a : LinkedAdapter) → uses_of a ≡ map used (adapter_mentions a)
adapter_used a =
    let callee = record { def = a.callee; role = Callee a.name a.lift.core_type } ∷ mention (PostReturn a.name a.lift.core_type.results) a.lift.post_return in
    let last : callee_uses a.callee a.lift.core_type a.lift.post_return ≡ map used callee = ap (λ l. (a.callee, used_as.Function a.lift.core_type) ∷ l) (one_used (PostReturn a.name a.lift.core_type.results) a.lift.post_return) in
    (λ k. side_used a.lift k ++ (side_used a.lower k ++ last k)) ∙ ap (λ l. map used (side_mentions a.lift) ++ l) (sym (map-append used (side_mentions a.lower) callee)) ∙ sym (map-append used (side_mentions a.lift) (side_mentions a.lower ++ callee))

all_used : (adapters : List LinkedAdapter) → flat_map uses_of adapters ≡ map used (flat_map adapter_mentions adapters)
all_used [] = refl
all_used (a ∷ adapters) = (λ k. adapter_used a k ++ all_used adapters k) ∙ sym (map-append used (adapter_mentions a) (flat_map adapter_mentions adapters))

-- mentions of one definition use it alike
pub mentions_alike : (adapters : List LinkedAdapter) → AreConsistent (flat_map uses_of adapters) → AreUsedAlike (flat_map adapter_mentions adapters)
mentions_alike adapters consistent = record {
  alike = λ q r q_in r_in e.
      let all = flat_map adapter_mentions adapters in
      used_alike q.role r.role (one_value (map used all) (used q) (used r) (subst AreConsistent (all_used adapters) consistent) (contains_map used all q q_in) (contains_map used all r r_in) e);
}

pub passed_are_used_alike : PassedAreUsedAlike
passed_are_used_alike b x concurrency before a h =
    mentions_alike (before ++ a ∷ []) (stable_consistent stable_use (flat_map uses_of (with before a)) (λ n. h.faultless import_conflict (inr n)))
