-- Locals pushed one after another.
use Rattle.std.proofs.Common.{◌≡◌, ℕ, zero, suc, List, [], ◌∷◌, ◌++◌, Option, Some, refl, sym, ap, ◌∙◌, subst, arith, append_assoc, length, map, reverse, length-append, slice_get}
use Rattle.std.proofs.lemmas.List.{reverse-append}
use Rattle.fact_wasm.specs.declared.instr.Instr.{Instr}
use Rattle.fact_wasm.specs.declared.instr.Instr.TheVariants as I
use Rattle.fact_wasm.specs.declared.module.WasmModule.{WasmModule}
use Rattle.fact_machine.specs.declared.types.CoreValue.{CoreValue}
use Rattle.fact_machine.specs.World.{World}
use Rattle.fact_machine.specs.Machine.{some_of}
use Rattle.fact_machine.specs.Exits.{Falls, Leaves}
use Rattle.fact_machine.proofs.Laws.{leaves_none, leaves_next, leaves_as}
use Rattle.fact_machine.proofs.RowLaws.{leaves_local_get}

-- local.get of n locals from i on
abbrev pub gets : ℕ → ℕ → List Instr
gets i zero = []
gets i (suc n) = I.LocalGet i ∷ gets (suc i) n

-- the locals from i on hold the values
abbrev pub Hold : List (Option CoreValue) → ℕ → List CoreValue → Type 0
Hold ls i [] = Unit {0}
Hold ls i (v ∷ vs) = (slice_get ls i ≡ Some (Some v)) × Hold ls (suc i) vs

-- local.get of consecutive locals pushes what they hold, the last on top
pub leaves_gets : {M : WasmModule} {w : World} {ls : List (Option CoreValue)} (held : List CoreValue) (i : ℕ) (vs : List CoreValue)
    → Hold ls i held → Leaves M (length held) (gets i (length held)) w vs ls (Falls w (reverse held ++ vs) ls)
leaves_gets [] i vs h = leaves_none
leaves_gets {w = w} {ls} (v ∷ held) i vs h =
    let e : reverse held ++ (v ∷ vs) ≡ reverse (v ∷ held) ++ vs = sym (ap (λ l. l ++ vs) (reverse-append (v ∷ []) held) ∙ append_assoc (reverse held) (v ∷ []) vs) in
    leaves_as (ap (λ us. Falls w us ls) e) (leaves_next (leaves_local_get h.0) (leaves_gets held (suc i) (v ∷ vs) h.1))

slice_seam : {X : Type 0} → (a : List X) (x : X) (b : List X) → slice_get (a ++ x ∷ b) (length a) ≡ Some x
slice_seam [] x b = refl
slice_seam (y ∷ a) x b = slice_seam a x b

-- locals that stand behind others hold their values
pub hold_from : (before : List (Option CoreValue)) (held : List CoreValue) (more : List (Option CoreValue)) (i : ℕ) → length before ≡ i → Hold (before ++ (map some_of held ++ more)) i held
hold_from before [] more i l = tt
hold_from before (v ∷ held) more i l =
    let ls : List (Option CoreValue) = map some_of held ++ more in
    let l' : length (before ++ Some v ∷ []) ≡ suc i = rw length-append (omega arith) in
    (rw (← l) (slice_seam before (Some v) ls), subst (λ k. Hold k (suc i) held) (append_assoc before (Some v ∷ []) ls) (hold_from (before ++ Some v ∷ []) held more (suc i) l'))

-- a function's parameters hold its arguments
pub hold_params : (args : List CoreValue) (more : List (Option CoreValue)) → Hold (map some_of args ++ more) 0 args
hold_params args more = hold_from [] args more 0 refl
