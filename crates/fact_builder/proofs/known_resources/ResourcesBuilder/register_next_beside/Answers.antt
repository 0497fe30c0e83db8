use Rattle.std.proofs.Common.{refl, sym, ◌∙◌, ap, inr, arith}
use Rattle.std.specs.Prelude.{nat_eq}
use Rattle.indexmap.specs.IndexMap.{insert_entry}
use Rattle.fact_builder.proofs.RegisterLaws.{none_of, on_ok, put_registration}
use Rattle.fact_builder.proofs.known_resources.ResourcesBuilder.register_next_beside.Goals as goal

pub returns-clause-told : goal.returns-clause-told
returns-clause-told g c =
    let none = none_of _ (sym c.is_registered.ensures ∙ c.if-is_registered.false) in
    let put = on_ok _ c.insert.result (c.insert.ensures.succeeds (omega (arith, c.in_ok-reserve.ensures.ok))) c.insert.ensures.entries in
    inr (
      none,
      (
        c.registration.result,
        c.register-answer.new.self,
        (c.register-answer.result, record { first = c.as_slice.result; second = c.args.beside; shows = (c.as_slice.ensures, refl); called = c.register-answer.ensures }, c.registration.ensures),
        (refl, put_registration _ _ c.self.view_is _ c.args.id _ none (put ∙ ap (λ es. insert_entry (λ a b. nat_eq a.number b.number) es c.args.id c.registration.result) c.in_ok-reserve.ensures.entries)),
      ),
    )
