use Rattle.std.proofs.Common.{ℕ, Vec, Global, ◌∙◌, ◌++◌, ◌∷◌, [], None, ap, sym, subst, refl}
use Rattle.fact_lowering.specs.Lowerings.{core_of}
use Rattle.fact_lowering.specs.Storings.{AreStorable}
use Rattle.fact_lowering.proofs.TupleBehind.{behind_untaken, live_members, not_stored, tuple_storable, was_stored}
use Rattle.fact_lowering.proofs.tuples.lower_behind.Goals as goal

pub returns-in_default : goal.returns-in_default
returns-in_default c = λ ss h. behind_untaken c.args.to.now.side ss c.args.values.now c.args.store.now.cursor c.args.store.now.bytes.items None _ refl (c.in_default.ensures.taken ss h)

pub store_members-requires : goal.store_members-requires
store_members-requires c =
    let are = c.as_slice.ensures ∙ c.in_ok-members.ensures in
    let same = ap (λ (b : Vec ℕ Global). b.items) c.in-Some.ensures.bytes in
    record {
      live = live_members c.args.to.now.types.now c.args.tys.now c.as_slice.result.now are c.requires.live;
      storable = subst (λ b. AreStorable c.args.to.now.types.now c.args.to.now.side c.as_slice.result.now c.args.values.now c.in-Some.pointer c.take_tuple.new.store.cursor b) (sym same)
          (tuple_storable c.requires.lowerable (c.in-Some.ensures.taken c.requires.lowerable.shapes c.requires.lowerable.shaped) c.as_slice.result.now are);
    }

pub returns-then-not-branch : goal.returns-then-not-branch
returns-then-not-branch c = λ ss h.
    let same = ap (λ (b : Vec ℕ Global). b.items) c.in-Some.ensures.bytes in
    not_stored c.args.to.now.types.now c.args.to.now.side c.args.tys.now ss c.args.values.now c.args.store.now.cursor c.in-Some.pointer c.take_tuple.new.store.cursor c.store_members.new.store.cursor c.args.store.now.bytes.items c.take_tuple.new.store.bytes.items c.store_members.new.store.bytes.items c.as_slice.result.now c.in_ok-store_members.field-0
    c.requires.lowerable h (c.in-Some.ensures.taken ss h) same (c.as_slice.ensures ∙ c.in_ok-members.ensures) c.in_ok-store_members.ensures c.if-not-branch.true

pub returns : goal.returns
returns c = λ ss h.
    let same = ap (λ (b : Vec ℕ Global). b.items) c.in-Some.ensures.bytes in
    was_stored c.args.to.now.types.now c.args.to.now.side c.args.tys.now ss c.args.values.now c.args.store.now.cursor c.in-Some.pointer c.take_tuple.new.store.cursor c.store_members.new.store.cursor c.args.store.now.bytes.items c.take_tuple.new.store.bytes.items c.store_members.new.store.bytes.items c.as_slice.result.now c.in_ok-store_members.field-0
    c.requires.lowerable h (c.in-Some.ensures.taken ss h) same (c.as_slice.ensures ∙ c.in_ok-members.ensures) c.in_ok-store_members.ensures _ c.core_value.result c.if-not-branch.false
    (c.core_value.ensures.value ∙ ap (λ f. core_of f c.in-Some.pointer) c.pointer_of.ensures) (c.in_ok-push.ensures.ok ∙ ap (λ l. l ++ c.core_value.result ∷ []) c.new-out.ensures)
