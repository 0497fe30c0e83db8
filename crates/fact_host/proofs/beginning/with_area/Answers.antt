use Rattle.fact_host.proofs.Starting.{area_behind, area_flat}
use Rattle.fact_host.proofs.beginning.with_area.Goals as goal

pub returns-in-Some-clause-area : goal.returns-in-Some-clause-area
returns-in-Some-clause-area c = λ ss have.
    area_flat c.args.to.now.side ss c.in_ok-_flat.field-0 _ c.args.core c.args.store.now.cursor c.args.store.now.bytes.items c.in-Some.is (c.in_ok-_flat.ensures ss have)

pub returns-in_ok-push-in-None-clause-area : goal.returns-in_ok-push-in-None-clause-area
returns-in_ok-push-in-None-clause-area c = λ ss have.
    area_behind c.args.to.now.side ss c.in_ok-_flat.field-0 c.args.core c.push.new.self c.args.store.now.cursor c.set_aside-area.new.store.cursor c.set_aside-area.result c.args.store.now.bytes.items c.pointer_of.result c.core_value.result
    c.in-None.is (c.in_ok-_flat.ensures ss have) (c.set_aside-area.ensures.aside ss have) c.pointer_of.ensures c.core_value.ensures.value c.in_ok-push-in-None.ensures.ok
