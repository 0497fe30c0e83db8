use Rattle.std.proofs.Common.{◌≡◌, ◌∙◌, sym, ap, map, take, ◌+◌, ◌++◌, List, [], ◌∷◌, Option}
use Rattle.std.proofs.lemmas.List.{map_push, take_all, take_more}
use Rattle.fact_types.specs.declared.fields.FieldPlace.{FieldPlace}
use Rattle.fact_types.specs.declared.kinds.RecordField.{RecordField}
use Rattle.fact_kinds.specs.declared.members.MemberPair.{MemberPair}
use Rattle.fact_kinds.specs.MemberPairs.{place_named, pair_named}
use Rattle.fact_kinds.proofs.members.pairs_by_name.Goals as goal

pub loop-field-preserved : goal.loop-field-preserved
loop-field-preserved c =
    let f = c.field-item.result in
    let i = c.loop-field.field-index in
    let fs = c.args.fields.now in
    let pair = pair_named (place_named c.args.places.now) in
    let found : c.copied-found.result ≡ place_named c.args.places.now f.name = c.copied-found.ensures ∙ c.get.ensures.value ∙ ap (place_named c.args.places.now) c.as_str.ensures in
    let so_far : map pair (take i fs ++ f ∷ []) ≡ map pair (take (i + 1) fs) = ap (map pair) (ap (λ (g : RecordField). take i fs ++ g ∷ []) c.field-item.is ∙ sym (take_more fs i f c.loop-field-test.true)) in
    c.in_ok-push.ensures.items ∙ ap (λ (ps : List MemberPair). ps ++ record { found = c.copied-found.result; ty = f.ty } ∷ []) c.loop-field.invariant
    ∙ ap (λ (o : Option FieldPlace). map pair (take i fs) ++ record { found = o; ty = f.ty } ∷ []) found ∙ sym (map_push pair (take i fs) f) ∙ so_far

pub returns : goal.returns
returns c = c.loop-field.invariant ∙ ap (map (pair_named (place_named c.args.places.now))) (take_all c.loop-field.field-index c.args.fields.now c.loop-field-test.false)
