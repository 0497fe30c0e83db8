use Rattle.std.proofs.Common.{◌↔◌, sym, subst, refl}
use Rattle.std.specs.Prelude.{IsTrue}
use Rattle.fact_values.specs.declared.value.Value.{out-Value}
use Rattle.fact_values.specs.IsA.{IsPlainValue}
use Rattle.fact_values.specs.Numbers.{plain_of}
use Rattle.fact_abi.proofs.belonging.is_plain_value.Goals as goal

pub returns-in-S8 : goal.returns-in-S8
returns-in-S8 c = subst (λ y. IsTrue c.is_signed.result ↔ IsPlainValue (plain_of y) (out-Value c.args.value.now)) (sym c.in-S8.is) (c.is_signed.ensures 8 refl)

pub returns-in-U8 : goal.returns-in-U8
returns-in-U8 c = subst (λ y. IsTrue c.is_unsigned.result ↔ IsPlainValue (plain_of y) (out-Value c.args.value.now)) (sym c.in-U8.is) (c.is_unsigned.ensures 8 refl)

pub returns-in-S16 : goal.returns-in-S16
returns-in-S16 c = subst (λ y. IsTrue c.is_signed-in-S16.result ↔ IsPlainValue (plain_of y) (out-Value c.args.value.now)) (sym c.in-S16.is) (c.is_signed-in-S16.ensures 16 refl)

pub returns-in-U16 : goal.returns-in-U16
returns-in-U16 c = subst (λ y. IsTrue c.is_unsigned-in-U16.result ↔ IsPlainValue (plain_of y) (out-Value c.args.value.now)) (sym c.in-U16.is) (c.is_unsigned-in-U16.ensures 16 refl)

pub returns-in-S32 : goal.returns-in-S32
returns-in-S32 c = subst (λ y. IsTrue c.is_signed-in-S32.result ↔ IsPlainValue (plain_of y) (out-Value c.args.value.now)) (sym c.in-S32.is) (c.is_signed-in-S32.ensures 32 refl)

pub returns-in-U32 : goal.returns-in-U32
returns-in-U32 c = subst (λ y. IsTrue c.is_unsigned-in-U32.result ↔ IsPlainValue (plain_of y) (out-Value c.args.value.now)) (sym c.in-U32.is) (c.is_unsigned-in-U32.ensures 32 refl)

pub returns-in-S64 : goal.returns-in-S64
returns-in-S64 c = subst (λ y. IsTrue c.is_signed-in-S64.result ↔ IsPlainValue (plain_of y) (out-Value c.args.value.now)) (sym c.in-S64.is) (c.is_signed-in-S64.ensures 64 refl)

pub returns-in-U64 : goal.returns-in-U64
returns-in-U64 c = subst (λ y. IsTrue c.is_unsigned-in-U64.result ↔ IsPlainValue (plain_of y) (out-Value c.args.value.now)) (sym c.in-U64.is) (c.is_unsigned-in-U64.ensures 64 refl)
