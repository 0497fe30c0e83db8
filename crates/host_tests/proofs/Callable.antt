-- Both functions of the module can be called.
use Rattle.std.proofs.Common.{◌≡◌, ℕ, zero, suc, ◌<◌, ◌≤◌, Bool, true, All, List, [], ◌∷◌, Option, Some, None, inl, inr, refl, ap, ◌∙◌, arith}
use Rattle.std.specs.Prelude.{◌&&◌, codes}
use Rattle.std.proofs.lemmas.Bool.{false≢true}
use Rattle.std.proofs.lemmas.List.Elements.{All-cons, All-nil}
use Rattle.fact_wasm.specs.declared.instr.FuncName.TheVariants.{Import}
use Rattle.fact_wasm.specs.declared.instr.Instr.{out-Instr}
use Rattle.fact_wasm.specs.declared.instr.Instr.TheOpen as o
use Rattle.fact_wasm.specs.declared.instr.Instr.TheVariants as I
use Rattle.fact_types.specs.Tables.{Tables, IsLive}
use Rattle.fact_machine.specs.Typing.{Known, Typing, chain, ends, function_context, typed_module}
use Rattle.fact_machine.proofs.TypingRows.{row_of, typing_is}
use Rattle.fact_check.specs.Accepted.{IsAdapterModule}
use Rattle.fact_check.specs.Imports.{IsAdapterImport, IsFunctionRow, fixed_signature, origin_of}
use Rattle.fact_host.specs.declared.calling.HostSide.{HostSide}
use Rattle.fact_host.specs.Contract.{AreTypesLive, HasSideMeans, HasSyncTypes, HaveNeeds, IsCallable, IsNameable, NamesEachOnce}
use Rattle.fact_chain.specs.Between.{CanBeRun}
use Rattle.host_tests.specs.Samples.{callee_import, calling_function, calling_module, no_numbers, no_shapes, plain_call, plain_side, returning_function}

-- ---- an adapter module

-- whether a function without parameters and results is well typed whose code does this to the operands
abbrev ends_so : Typing → Bool
ends_so typing = ends [] (chain (typing ∷ []) (function_context calling_module no_numbers calling_function) (Known [])) && true

outs : out-Instr (I.Call (Import 0)) ≡ o.Call (Import 0)
outs = simp I.outs-Call

is_typed : typed_module calling_module ≡ true
is_typed = ap ends_so (typing_is (I.Call (Import 0)) ∙ ap row_of outs)

callee_row : IsFunctionRow 0 [] (origin_of (codes "callee")) (codes "f") no_numbers
unfolding origin_of fixed_signature
callee_row = (refl, refl)

imports_there : (n : ℕ) → n < 1 → IsAdapterImport calling_module n
imports_there zero lt = record { import = callee_import; there = refl; is_row = (no_numbers, refl, callee_row) }
imports_there (suc n) lt = absurd (omega (arith, lt))

is_adapter : IsAdapterModule calling_module
is_adapter = record { imports = imports_there; typed = is_typed }

-- ---- its call

no_place : {P : Type 0} (n : ℕ) → ◌≡◌ {A = Option ℕ} None (Some n) → P
no_place n e = absurd cc

means : (flags : ℕ) → HasSideMeans calling_module (plain_side flags)
means flags = record { memory = λ n e. no_place n e; realloc = λ n e. no_place n e; with_memory = λ e. refl }

needs : (n : ℕ) → HaveNeeds (plain_call n) no_shapes
needs n = record {
  lower_params = λ p. absurd (false≢true p);
  lower_params_behind = λ p. absurd cc;
  lower_results = λ p. absurd (false≢true p);
  lower_results_behind = λ p. absurd cc;
  lift_params = λ p. absurd (false≢true p);
  lift_params_behind = λ p. absurd cc;
  lift_results = λ p. absurd (false≢true p);
  lift_results_behind = λ p. absurd cc;
}

once : (n : ℕ) → NamesEachOnce (plain_call n)
once n = record { functions = (refl, tt); memories = tt; flags = λ e. absurd (omega (arith, e)) }

callee_named : IsNameable calling_module 0
callee_named = record { import = callee_import; there = refl; origin = inr (inr (inl refl)) }

sync_types : (n : ℕ) → n ≤ 1 → HasSyncTypes calling_module (plain_call n) no_shapes
sync_types zero h = record { body = calling_function; defined = refl; func = refl; callee = refl; post_return = λ n e. no_place n e }
sync_types (suc zero) h = record { body = returning_function; defined = refl; func = refl; callee = refl; post_return = λ n e. no_place n e }
sync_types (suc (suc n)) h = absurd (omega (arith, h))

pub sample_callable : (t : Tables) (n : ℕ) → n ≤ 1 → IsCallable calling_module t (plain_call n) no_shapes
sample_callable t n h = record {
  adapter = is_adapter;
  named = All-cons (IsNameable calling_module) 0 [] callee_named (All-nil (IsNameable calling_module));
  shapes = record { lower_params = tt; lower_results = tt; lift_params = tt; lift_results = tt };
  lower_means = means 0;
  lift_means = means 1;
  needs = needs n;
  once = once n;
  types = sync_types n h;
  params_agree = tt;
  results_agree = tt;
}

pub sample_live : (t : Tables) (n : ℕ) → AreTypesLive t (plain_call n)
sample_live t n = record { lower_params = All-nil (IsLive t); lower_results = All-nil (IsLive t); lift_params = All-nil (IsLive t); lift_results = All-nil (IsLive t) }

-- so each can be one of a chain
pub can_be_called : (t : Tables) (n : ℕ) → n ≤ 1 → CanBeRun calling_module t (plain_call n)
can_be_called t n h = record { shapes = no_shapes; callable = sample_callable t n h; live = sample_live t n }
