use Rattle.std.proofs.Common.{◌≡◌, ◌++◌, ◌∷◌, [], ap, ◌∙◌, subst, sym}
use Rattle.fact_wasm.specs.CoreTypes.{IsOnlyPlaceOfType, HasNoTwins}
use Rattle.fact_wasm.proofs.TypePlaces.{only_place, no_twins_pushed}
use Rattle.fact_wasm.proofs.core_types.push_type.Goals as goal

pub returns-clause-distinct : goal.returns-clause-distinct
returns-clause-distinct c =
    let added : c.add_new.new.self ≡ c.args.section.now ++ c.args.ty ∷ [] = c.in-Ok.ensures.list ∙ ap (λ ts. ts ++ c.args.ty ∷ []) c.requires.same in
    let pushed : c.push.new.self ≡ c.args.section.now ++ c.args.ty ∷ [] = c.in_default-push.ensures.ok ∙ ap (λ ty. c.args.section.now ++ ty ∷ []) c.in_ok-listed.ensures in
    let alone = only_place _ _ c.args.ty _ c.in-Ok.ensures.interned in
    subst HasNoTwins (sym pushed) (no_twins_pushed c.args.section.now c.args.ty _ c.requires.apart (subst (λ ts. IsOnlyPlaceOfType ts c.args.ty c.in-Ok.key.number) added alone))
