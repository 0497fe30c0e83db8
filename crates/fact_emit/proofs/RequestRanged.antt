-- The code of requests is in range, and names no function but realloc, which is imported.
use Rattle.std.proofs.Common.{◌≡◌, ℕ, ◌<◌, Bool, true, false, List, [], ◌∷◌, ◌++◌, length, Option, Some, None, refl, sym, subst, arith}
use Rattle.fact_wasm.specs.declared.instr.FuncName.TheVariants as func
use Rattle.fact_wasm.specs.declared.instr.Instr.{Instr, the_lemmas}
use Rattle.fact_wasm.specs.declared.instr.Instr.TheVariants as I
use Rattle.fact_wasm.specs.declared.types.ValType.TheVariants as val
use Rattle.fact_wasm.specs.Ranges.{AreRanged}
use Rattle.fact_code_laws.specs.Lists.{address_code, ask_code, const_code}
use Rattle.fact_code_laws.specs.Tests.{pointer_of_width}
use Rattle.fact_emit.specs.declared.places.LinearMemory.{LinearMemory}
use Rattle.fact_emit.specs.declared.writer.Writer.{Writer}
use Rattle.fact_emit.specs.Emits.{Grew}
use Rattle.fact_emit.specs.Requests.{IsReallocImported, ask_code_if}
use Rattle.fact_emit.specs.States.{ModuleSoFar, functions_of}
use Rattle.fact_emit.proofs.NamedLaws.{ranged_append, ranged_more, ranged_none}
use Rattle.fact_emit.proofs.RangedCode.{local_ranged, unreachable_ranged}
use Rattle.fact_emit.proofs.SidesImported.{realloc_later}

pub const_ranged : (memory64 : Bool) (n : ℕ) → AreRanged 0 0 (const_code memory64 n ∷ [])
const_ranged true n = ranged_none 0 0 (const_code true n ∷ []) (simp the_lemmas)
const_ranged false n = ranged_none 0 0 (const_code false n ∷ []) (simp the_lemmas)

pub address_ranged : (memory64 : Bool) (local : ℕ) → AreRanged 0 0 (address_code memory64 local)
address_ranged memory64 local = local_ranged local (pointer_of_width memory64) val.I64

-- realloc is called, which is imported
ask_ranged : (imports : ℕ) (memory64 : Bool) (align bytes place : ℕ) → place < imports → AreRanged imports 0 (ask_code memory64 align bytes place)
ask_ranged imports memory64 align bytes place lt =
    let none = λ (n : ℕ). ranged_more 0 imports (omega arith) (const_code memory64 n ∷ []) (const_ranged memory64 n) in
    let last : List Instr = address_code memory64 bytes ++ I.Call (func.Import place) ∷ [] in
    ranged_append imports 0 (const_code memory64 0 ∷ []) (const_code memory64 0 ∷ const_code memory64 align ∷ last) (none 0)
    (ranged_append imports 0 (const_code memory64 0 ∷ []) (const_code memory64 align ∷ last) (none 0)
    (ranged_append imports 0 (const_code memory64 align ∷ []) last (none align)
    (ranged_append imports 0 (address_code memory64 bytes) (I.Call (func.Import place) ∷ []) (ranged_more 0 imports (omega arith) (address_code memory64 bytes) (address_ranged memory64 bytes)) (simp the_lemmas (lt, tt), tt))))

pub asked_ranged : (m : LinearMemory) (s : ModuleSoFar) (align bytes : ℕ) → IsReallocImported m s → AreRanged (length (functions_of s)) 0 (ask_code_if m.realloc m.memory64 align bytes)
asked_ranged m s align bytes h = go m.realloc refl
  where
    go : (r : Option ℕ) → m.realloc ≡ r → AreRanged (length (functions_of s)) 0 (ask_code_if r m.memory64 align bytes)
    go None e = ranged_more 0 (length (functions_of s)) (omega arith) (I.Unreachable ∷ []) unreachable_ranged
    go (Some place) e = ask_ranged (length (functions_of s)) m.memory64 align bytes place (h.below place e)

-- it is imported still when more is
pub realloc_on : {m : LinearMemory} {a b : Writer} → IsReallocImported m a.sections → Grew a b → IsReallocImported m b.sections
realloc_on h x = realloc_later x.imports h

pub realloc_same : {m : LinearMemory} {s s' : ModuleSoFar} → s' ≡ s → IsReallocImported m s → IsReallocImported m s'
realloc_same {m} e h = subst (IsReallocImported m) (sym e) h
