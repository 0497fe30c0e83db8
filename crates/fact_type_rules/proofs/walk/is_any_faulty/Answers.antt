use Rattle.std.proofs.Common.{[], refl, subst}
use Rattle.std.proofs.lemmas.Bool.{false≢true}
use Rattle.std.proofs.lemmas.List.Elements.{All-nil}
use Rattle.fact_types.specs.Tables.{IsLive}
use Rattle.fact_type_rules.specs.Walk.{PutsBehind, EndsAt}
use Rattle.fact_type_rules.proofs.WalkLaws.{added-all, clean-listed, faulty-listed}
use Rattle.fact_type_rules.proofs.walk.is_any_faulty.Goals as goal

pub reaches_fault-requires-clause-live : goal.reaches_fault-requires-clause-live
reaches_fault-requires-clause-live c =
    let adds = subst (λ ks. PutsBehind c.args.clean.now.keys ks c.add_unknown.new.met.keys c.args.types.now) c.new-met.ensures.empty c.in_ok-add_unknown.ensures in
    added-all (IsLive c.args.builder.now.tables) c.args.clean.now.keys [] c.add_unknown.new.met.keys c.args.types.now adds (All-nil _) c.requires.live

pub returns-then-branch-clause-exact : goal.returns-then-branch-clause-exact
returns-then-branch-clause-exact c = λ ss hs.
    let t = c.args.builder.now.tables in
    let adds = subst (λ ks. PutsBehind c.args.clean.now.keys ks c.add_unknown.new.met.keys c.args.types.now) c.new-met.ensures.empty c.in_ok-add_unknown.ensures in
    let ends = subst (EndsAt t c.args.rules c.add_unknown.new.met.keys c.reaches_fault.new.met.keys) c.if-branch.true c.in_ok-reaches_fault.ensures in
    (λ b. faulty-listed t c.args.rules c.args.clean.now.keys c.add_unknown.new.met.keys c.args.types.now adds ends ss hs, λ a. refl)

pub returns-clause-exact : goal.returns-clause-exact
returns-clause-exact c = λ ss hs.
    let t = c.args.builder.now.tables in
    let adds = subst (λ ks. PutsBehind c.args.clean.now.keys ks c.add_unknown.new.met.keys c.args.types.now) c.new-met.ensures.empty c.in_ok-add_unknown.ensures in
    let ends = subst (EndsAt t c.args.rules c.add_unknown.new.met.keys c.reaches_fault.new.met.keys) c.if-branch.false c.in_ok-reaches_fault.ensures in
    (λ b. absurd (false≢true b), λ a. absurd (clean-listed t c.args.rules c.args.clean.now.keys c.add_unknown.new.met.keys c.reaches_fault.new.met.keys c.args.types.now adds c.requires.clean ends ss hs a))
