-- The bits of what a machine holds are as many as the types have.
use Rattle.std.proofs.Common.{◌≡◌, ℕ, zero, suc, ◌+◌, ◌<◌, true, List, [], ◌∷◌, ◌++◌, Option, Some, None, sym, subst, lit<, map, reverse, slice_get}
use Rattle.std.specs.Prelude.{slice_set}
use Rattle.std.specs.List.{AllByRecursion, AllZip, flat_map}
use Rattle.std.proofs.lemmas.Grind.{reverse_onto}
use Rattle.fact_wasm.specs.declared.types.ValType.{ValType}
use Rattle.fact_wasm.specs.declared.types.ValType.TheVariants as val
use Rattle.fact_wasm.specs.declared.types.FuncType.{FuncType}
use Rattle.fact_wasm.specs.declared.instr.Instr.{Instr, out-Instr, fold_out-Instr, map-Instr}
use Rattle.fact_wasm.specs.declared.instr.Instr.TheOpen.{Instr-F}
use Rattle.fact_wasm.specs.declared.module.WasmFunc.{WasmFunc}
use Rattle.fact_wasm.specs.declared.module.WasmModule.{WasmModule}
use Rattle.fact_machine.specs.declared.types.CoreValue.{CoreValue}
use Rattle.fact_machine.specs.declared.types.MachineState.{MachineState}
use Rattle.fact_machine.specs.Machine.{Around, Bottom, Label, Frame, has_type, have_types, grab, onto, zero_of, some_of, several, locals_of}
use Rattle.fact_machine.specs.Typed.{IsBits, IsValue, AreResults, TypedState}
use Rattle.fact_machine.proofs.Tests.{first_of, second_of}
use Rattle.fact_check.specs.Constants.{AreBits, AreTypedConstants, HasTypedConstants, constants, constants_row}

-- ---- lists

module _ {A : Type 0} (P : A → Type 0) where
  pub joined : (xs ys : List A) → AllByRecursion P xs → AllByRecursion P ys → AllByRecursion P (xs ++ ys)
  joined [] ys h g = g
  joined (x ∷ xs) ys h g = (h.0, joined xs ys h.1 g)

  pub front : (xs ys : List A) → AllByRecursion P (xs ++ ys) → AllByRecursion P xs
  front [] ys h = tt
  front (x ∷ xs) ys h = (h.0, front xs ys h.1)

  pub behind : (xs ys : List A) → AllByRecursion P (xs ++ ys) → AllByRecursion P ys
  behind [] ys h = h
  behind (x ∷ xs) ys h = behind xs ys h.1

  pub reversed : (xs : List A) → AllByRecursion P xs → AllByRecursion P (reverse xs)
  reversed [] h = tt
  reversed (x ∷ xs) h = subst (AllByRecursion P) (sym (reverse_onto xs x [])) (joined (reverse xs) (x ∷ []) (reversed xs h.1) (h.0, tt))

  pub at_place : (xs : List A) (i : ℕ) (x : A) → AllByRecursion P xs → slice_get xs i ≡ Some x → P x
  at_place [] i x h e = cc
  at_place (y ∷ xs) zero x h e = let same : y ≡ x = cc in subst P same h.0
  at_place (y ∷ xs) (suc i) x h e = at_place xs i x h.1 e

  pub in_place : (xs : List A) (i : ℕ) (x : A) → AllByRecursion P xs → P x → AllByRecursion P (slice_set xs i x)
  in_place [] i x h p = tt
  in_place (y ∷ xs) zero x h p = (p, h.1)
  in_place (y ∷ xs) (suc i) x h p = (h.0, in_place xs i x h.1 p)

-- ---- locals

-- what a local holds
abbrev pub IsHeld : Option CoreValue → Type 0
IsHeld None = Unit {0}
IsHeld (Some v) = IsBits v

abbrev pub AreHeld : List (Option CoreValue) → Type 0
AreHeld ls = AllByRecursion IsHeld ls

pub arguments_held : (vs : List CoreValue) → AreBits vs → AreHeld (map some_of vs)
arguments_held [] h = tt
arguments_held (v ∷ vs) h = (h.0, arguments_held vs h.1)

zero_held : (t : ValType) → IsHeld (zero_of t)
zero_held val.I32 = lit< tt
zero_held val.I64 = lit< tt
zero_held val.F32 = lit< tt
zero_held val.F64 = lit< tt
zero_held val.FuncRef = tt

several_held : (n : ℕ) (o : Option CoreValue) → IsHeld o → AreHeld (several n o [])
several_held zero o h = tt
several_held (suc n) o h = (h, several_held n o h)

pub declared_held : (ps : List (ℕ × ValType)) → AreHeld (locals_of ps)
declared_held [] = tt
declared_held (p ∷ ps) = joined IsHeld (several p.0 (zero_of p.1) []) (locals_of ps) (several_held p.0 (zero_of p.1) (zero_held p.1)) (declared_held ps)

-- ---- operands

-- those that are taken off the others, and the others
abbrev pub AreCut : Option (List CoreValue × List CoreValue) → Type 0
AreCut None = Unit {0}
AreCut (Some p) = AreBits p.0 × AreBits p.1

onto_cut : (v : CoreValue) (o : Option (List CoreValue × List CoreValue)) → IsBits v → AreCut o → AreCut (onto v o)
onto_cut v None b h = tt
onto_cut v (Some p) b h = ((b, h.0), h.1)

grabbed : (n : ℕ) (vs : List CoreValue) → AreBits vs → AreCut (grab n vs)
grabbed zero vs h = (tt, h)
grabbed (suc n) [] h = tt
grabbed (suc n) (v ∷ vs) h = onto_cut v (grab n vs) h.0 (grabbed n vs h.1)

pub cut : (n : ℕ) (vs : List CoreValue) (p : List CoreValue × List CoreValue) → AreBits vs → grab n vs ≡ Some p → AreBits p.0 × AreBits p.1
cut n vs p h e = subst AreCut e (grabbed n vs h)

-- values of types
pub are_typed : (vs : List CoreValue) (ts : List ValType) → have_types vs ts ≡ true → AreBits vs → AllZip (λ v t. IsValue v t) vs ts
are_typed [] [] e h = tt
are_typed [] (t ∷ ts) e h = cc
are_typed (v ∷ vs) [] e h = cc
are_typed (v ∷ vs) (t ∷ ts) e h = ((first_of (has_type v t) (have_types vs ts) e, h.0), are_typed vs ts (second_of (has_type v t) (have_types vs ts) e) h.1)

pub typed_bits : (vs : List CoreValue) (ts : List ValType) → AllZip (λ v t. IsValue v t) vs ts → AreBits vs
typed_bits [] [] h = tt
typed_bits [] (t ∷ ts) h = absurd h
typed_bits (v ∷ vs) [] h = absurd h
typed_bits (v ∷ vs) (t ∷ ts) h = (h.0.1, typed_bits vs ts h.1)

pub results_bits : (o : Option FuncType) (vs : List CoreValue) → AreResults o vs → AreBits vs
results_bits None vs h = absurd h
results_bits (Some t) vs h = typed_bits vs t.results h

-- ---- code

abbrev pub row_constants : Instr-F Instr → List CoreValue
row_constants y = constants_row (map-Instr Instr (List CoreValue) constants y)

pub constants_are : (i : Instr) → constants i ≡ row_constants (out-Instr i)
constants_are i = fold_out-Instr (List CoreValue) constants_row i

-- the constants of code, one behind the other
abbrev pub body_constants : List Instr → List CoreValue
body_constants is = flat_map (λ values. values) (map constants is)

pub together : (is : List Instr) → AreTypedConstants is → AreBits (body_constants is)
together [] h = tt
together (i ∷ is) h = joined IsBits (constants i) (body_constants is) h.0 (together is h.1)

-- they are as wide as their types
abbrev pub IsCode : List Instr → Type 0
IsCode code = AreBits (body_constants code)

pub code_first : (i : Instr) (code : List Instr) → IsCode (i ∷ code) → AreBits (row_constants (out-Instr i))
code_first i code h = subst AreBits (constants_are i) (front IsBits (constants i) (body_constants code) h)

pub code_rest : (i : Instr) (code : List Instr) → IsCode (i ∷ code) → IsCode code
code_rest i code h = behind IsBits (constants i) (body_constants code) h

pub code_with : (i : Instr) (code : List Instr) → AreBits (row_constants (out-Instr i)) → IsCode code → IsCode (i ∷ code)
code_with i code h g = joined IsBits (constants i) (body_constants code) (subst AreBits (sym (constants_are i)) h) g

pub function_code : (M : WasmModule) (n : ℕ) (f : WasmFunc) → HasTypedConstants M → slice_get M.funcs n ≡ Some f → IsCode f.body
function_code M n f h e = together f.body (at_place (λ (g : WasmFunc). AreTypedConstants g.body) M.funcs n f h e)

-- ---- machines

-- what stands around code
abbrev pub AroundIs : Around → Type 0
AroundIs Bottom = Unit {0}
AroundIs (Label arity below to rest catches k) = AreBits below × IsCode to × IsCode rest × AroundIs k
AroundIs (Frame results locals below rest k) = AreHeld locals × AreBits below × IsCode rest × AroundIs k

-- A machine in a typed state, all of whose numbers are as wide as their types.
pub record IsSized (M : WasmModule) (s : MachineState) (vs : List CoreValue) (ls : List (Option CoreValue)) (code : List Instr) (k : Around) : Type 0 where
  pub state : TypedState M s
  pub values : AreBits vs
  pub locals : AreHeld ls
  pub code_is : IsCode code
  pub around : AroundIs k
