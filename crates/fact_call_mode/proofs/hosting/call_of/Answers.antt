use Rattle.std.proofs.lemmas.Result.{IfOk-weaker}
use Rattle.fact_call_mode.proofs.NamedCalls.{called, even, exported_here, is_sync}
use Rattle.fact_call_mode.proofs.hosting.call_of.Goals as goal

pub func_named-func-requires : goal.func_named-func-requires
func_named-func-requires c = exported_here c.requires.named.0 c.requires.named.1 c.args.name.now c.args.types.now c.args.adapter.now c.args.fused.now c.requires.named.2

pub host_call-requires-clause-even : goal.host_call-requires-clause-even
host_call-requires-clause-even c = even c.requires.named.0 c.requires.named.1 c.args.name.now c.args.types.now c.args.adapter.now c.args.fused.now c.requires.named.2

pub returns-clause-calls : goal.returns-clause-calls
returns-clause-calls c = IfOk-weaker c.host_call.result _ _ (λ h calls fuel p named.
    let links = named.linked.links in
    let sync = is_sync fuel p c.args.name.now c.args.types.now c.args.adapter.now c.args.fused.now named in
    called fuel p c.args.name.now c.args.types.now c.args.adapter.now c.args.fused.now named c.func_named-func.result h c.requires.constants c.func_named-func.ensures (calls links.linked links.stands sync))
    c.host_call.ensures.calls
