use Rattle.std.proofs.Common.{◌≡◌, ◌-◌, ℕ, Bool, true, false, [], ◌∷◌, ap, ◌∙◌}
use Rattle.fact_wasm.specs.declared.instr.Instr.TheVariants as I
use Rattle.fact_code_laws.specs.Places.{place_test}
use Rattle.fact_emit.specs.Widths.{PointerCode, pointer_code}
use Rattle.fact_emit.proofs.checks.place_test_by.Goals as goal

-- the test by the instructions of a width
test_by : (memory64 : Bool) (code : PointerCode) (local offset align : ℕ) → code ≡ pointer_code memory64
    → I.LocalGet local ∷ code.uconst offset ∷ code.add ∷ code.uconst (align - 1) ∷ code.and ∷ code.eqz ∷ [] ≡ place_test memory64 local offset align
test_by true code local offset align is = ap (λ (k : PointerCode). I.LocalGet local ∷ k.uconst offset ∷ k.add ∷ k.uconst (align - 1) ∷ k.and ∷ k.eqz ∷ []) is
test_by false code local offset align is = ap (λ (k : PointerCode). I.LocalGet local ∷ k.uconst offset ∷ k.add ∷ k.uconst (align - 1) ∷ k.and ∷ k.eqz ∷ []) is

pub returns : goal.returns
returns g c =
    c.in_ok-test.ensures.items
    ∙ (λ i. I.LocalGet c.args.address.local ∷ c.ptr_uconst.ensures i ∷ c.ptr_add.ensures i ∷ c.ptr_uconst-2.ensures i ∷ c.ptr_and.ensures i ∷ c.ptr_eqz.ensures i ∷ [])
    ∙ test_by g.W.Width.memory64 g.W.Width.code c.args.address.local c.args.address.offset c.args.align g.met.W.Width.is_width
