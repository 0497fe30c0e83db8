use Rattle.std.proofs.Common.{◌∙◌, ap, sym, subst}
use Rattle.fact_types.specs.Sound.{IsSoundLayout, TakesBytes}
use Rattle.fact_types.specs.Tables.{IsSound}
use Rattle.fact_types.proofs.CountLaws.{count_is_length}
use Rattle.fact_types.proofs.ShapeLaws.{layout_is}
use Rattle.fact_types.proofs.ShapeSound.{layout_sound}
use Rattle.fact_types.proofs.ValidLaws.{valid_takes_bytes, valid_counted}
use Rattle.fact_types.proofs.tables.ComponentTypes.canonical_abi.Goals as goal

pub returns-clause-laid : goal.returns-clause-laid
returns-clause-laid c = λ s h. c.stored_abi-abi.ensures ∙ layout_is c.args.self.now (subst IsSound c.self.view_is c.self.invariant) s c.args.ty.now h

pub returns-clause-sound : goal.returns-clause-sound
returns-clause-sound c =
    let k = subst IsSound c.self.view_is c.self.invariant in
    let (s, h, b) = k.shaped c.args.ty.now c.requires in
    subst IsSoundLayout (sym (c.stored_abi-abi.ensures ∙ layout_is c.args.self.now k s c.args.ty.now h)) (layout_sound s)

pub returns-clause-takes_bytes : goal.returns-clause-takes_bytes
returns-clause-takes_bytes c = λ s h v.
    subst TakesBytes (sym (c.stored_abi-abi.ensures ∙ layout_is c.args.self.now (subst IsSound c.self.view_is c.self.invariant) s c.args.ty.now h)) (valid_takes_bytes s v)

pub returns-clause-counts : goal.returns-clause-counts
returns-clause-counts c = λ s w h v.
    ap (λ abi. abi.flat_count) (c.stored_abi-abi.ensures ∙ layout_is c.args.self.now (subst IsSound c.self.view_is c.self.invariant) s c.args.ty.now h) ∙ count_is_length w s (valid_counted s v)
