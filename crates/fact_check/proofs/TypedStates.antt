-- Typed states, in which a memory or a global becomes another one.
use Rattle.std.proofs.Common.{◌≡◌, ℕ, zero, suc, ◌/◌, ◌%◌, ◌<◌, All, Bool, true, List, [], ◌∷◌, Option, Some, sym, ap, ◌∙◌, subst, length, slice_get}
use Rattle.std.specs.Prelude.{slice_set}
use Rattle.std.specs.List.{AllZip, filter_map}
use Rattle.fact_wasm.specs.declared.types.ValType.{ValType}
use Rattle.fact_wasm.specs.declared.module.WasmModule.{WasmModule}
use Rattle.fact_machine.specs.declared.types.CoreValue.{CoreValue}
use Rattle.fact_machine.specs.declared.types.MachineState.{MachineState}
use Rattle.fact_machine.specs.Machine.{has_type, type_of, page_bytes}
use Rattle.fact_machine.specs.Typed.{IsBits, IsValue, FitsWidth, IsMemory, type_of_memory, type_of_global, TypedState}
use Rattle.fact_check.proofs.States.{type_is}

abbrev IsMemoryOf : Bool × Option ℕ → List ℕ → Type 0
IsMemoryOf kind bytes = IsMemory kind.0 kind.1 bytes

abbrev IsGlobalOf : ValType → CoreValue → Type 0
IsGlobalOf t v = IsValue v t

memories_with : (kinds : List (Bool × Option ℕ)) (ms : List (List ℕ)) (i : ℕ) (old new : List ℕ) → AllZip IsMemoryOf kinds ms → slice_get ms i ≡ Some old → All (λ b. b < 256) new → length new ≡ length old → AllZip IsMemoryOf kinds (slice_set ms i new)
memories_with [] [] i old new h e b l = tt
memories_with [] (m ∷ ms) i old new h e b l = absurd h
memories_with (kind ∷ kinds) [] i old new h e b l = absurd h
memories_with (kind ∷ kinds) (m ∷ ms) zero old new h e b l =
    let same : m ≡ old = cc in
    let long : length new ≡ length m = l ∙ ap length (sym same) in
    (record { are_bytes = b; whole = ap (λ n. n % page_bytes kind.1) long ∙ h.0.whole; fits = subst (λ n. FitsWidth kind.0 n (n / page_bytes kind.1)) (sym long) h.0.fits }, h.1)
memories_with (kind ∷ kinds) (m ∷ ms) (suc i) old new h e b l = (h.0, memories_with kinds ms i old new h.1 e b l)

bytes_in : (kinds : List (Bool × Option ℕ)) (ms : List (List ℕ)) (i : ℕ) (bytes : List ℕ) → AllZip IsMemoryOf kinds ms → slice_get ms i ≡ Some bytes → All (λ b. b < 256) bytes
bytes_in [] [] i bytes h e = cc
bytes_in [] (m ∷ ms) i bytes h e = absurd h
bytes_in (kind ∷ kinds) [] i bytes h e = absurd h
bytes_in (kind ∷ kinds) (m ∷ ms) zero bytes h e = let same : m ≡ bytes = cc in subst (λ l. All (λ b. b < 256) l) same h.0.are_bytes
bytes_in (kind ∷ kinds) (m ∷ ms) (suc i) bytes h e = bytes_in kinds ms i bytes h.1 e

globals_with : (ts : List ValType) (gs : List CoreValue) (i : ℕ) (old v : CoreValue) → AllZip IsGlobalOf ts gs → slice_get gs i ≡ Some old → has_type v (type_of old) ≡ true → IsBits v → AllZip IsGlobalOf ts (slice_set gs i v)
globals_with [] [] i old v h e t b = tt
globals_with [] (g ∷ gs) i old v h e t b = absurd h
globals_with (u ∷ ts) [] i old v h e t b = absurd h
globals_with (u ∷ ts) (g ∷ gs) zero old v h e t b =
    let same : g ≡ old = cc in
    let is : type_of old ≡ u = ap type_of (sym same) ∙ type_is g u h.0.0 in
    ((subst (λ x. has_type v x ≡ true) is t, b), h.1)
globals_with (u ∷ ts) (g ∷ gs) (suc i) old v h e t b = (h.0, globals_with ts gs i old v h.1 e t b)

bits_in : (ts : List ValType) (gs : List CoreValue) (i : ℕ) (v : CoreValue) → AllZip IsGlobalOf ts gs → slice_get gs i ≡ Some v → IsBits v
bits_in [] [] i v h e = cc
bits_in [] (g ∷ gs) i v h e = absurd h
bits_in (u ∷ ts) [] i v h e = absurd h
bits_in (u ∷ ts) (g ∷ gs) zero v h e = let same : g ≡ v = cc in subst IsBits same h.0.1
bits_in (u ∷ ts) (g ∷ gs) (suc i) v h e = bits_in ts gs i v h.1 e

module _ (M : WasmModule) (s : MachineState) (typed : TypedState M s) where
  -- a memory in the place of another one of its length
  pub memory_with : (i : ℕ) (old new : List ℕ) → slice_get s.memories i ≡ Some old → All (λ b. b < 256) new → length new ≡ length old → TypedState M (record { memories = slice_set s.memories i new; globals = s.globals })
  memory_with i old new e b l = record { memories = memories_with (filter_map type_of_memory M.imports) s.memories i old new typed.memories e b l; globals = typed.globals }

  -- the bytes of a memory
  pub memory_bytes : (i : ℕ) (bytes : List ℕ) → slice_get s.memories i ≡ Some bytes → All (λ b. b < 256) bytes
  memory_bytes i bytes e = bytes_in (filter_map type_of_memory M.imports) s.memories i bytes typed.memories e

  -- a value in the place of another one of its type
  pub global_with : (i : ℕ) (old v : CoreValue) → slice_get s.globals i ≡ Some old → has_type v (type_of old) ≡ true → IsBits v → TypedState M (record { memories = s.memories; globals = slice_set s.globals i v })
  global_with i old v e t b = record { memories = typed.memories; globals = globals_with (filter_map type_of_global M.imports) s.globals i old v typed.globals e t b }

  pub global_bits : (i : ℕ) (v : CoreValue) → slice_get s.globals i ≡ Some v → IsBits v
  global_bits i v e = bits_in (filter_map type_of_global M.imports) s.globals i v typed.globals e
