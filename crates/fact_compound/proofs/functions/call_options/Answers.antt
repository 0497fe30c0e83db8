use Rattle.std.proofs.Common.{refl, ap, ◌∙◌}
use Rattle.std.specs.Prelude.{◌||◌}
use Rattle.fact_types.specs.Tuples.{tuple_of}
use Rattle.fact_compound.proofs.CallOptions.{calls_asked}
use Rattle.fact_compound.proofs.functions.call_options.Goals as goal

pub ty_contains_borrow_resource-lends-requires : goal.ty_contains_borrow_resource-lends-requires
ty_contains_borrow_resource-lends-requires c = rw c.component_types-tables.ensures at c.tuples_of.ensures.params_live

pub returns : goal.returns
returns c =
    let shaped = rw c.component_types-tables.ensures at c.tuples_of.ensures.params in
    let told = c.either.ensures ∙ ap (λ b. b || c.ty_contains_borrow_resource-lends.result) c.both-entered.ensures in
    calls_asked (λ ps rs h. c.ty_contains_borrow_resource-lends.ensures (tuple_of ps) (shaped ps rs h)) refl told c.is_some-posts.ensures c.both.ensures refl
