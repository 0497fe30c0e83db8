use Rattle.std.proofs.Common.{◌≡◌, ℕ, ◌∷◌, [], refl, ◌∙◌}
use Rattle.std.proofs.lemmas.Result.{err_from_is_err_and}
use Rattle.fact_types.specs.declared.abi.CanonicalAbiInfo.{CanonicalAbiInfo}
use Rattle.fact_types.specs.declared.interface.InterfaceType.{InterfaceType}
use Rattle.fact_types.specs.Layout.{aligned, record_layout}
use Rattle.fact_types.specs.Shapes.{k_map}
use Rattle.fact_types.specs.Tables.{Tables, map_node, IsLive, Stands, abi_at}
use Rattle.fact_types.proofs.StandLaws.{map_stands}
use Rattle.fact_builder.proofs.MadeLaws.{maps, maps_lie, does_not_fit, entered, turned_away}
use Rattle.fact_builder.proofs.MakingLaws.{failed, passed, second_fits}
use Rattle.fact_builder.proofs.lists.make_map.Goals as goal

entry_stands : (t : Tables) (k v : InterfaceType) (a b l : CanonicalAbiInfo) (m n : ℕ) → IsLive t k → IsLive t v → a ≡ abi_at t k → b ≡ abi_at t v → l ≡ record_layout (a ∷ b ∷ []) → m ≡ aligned a.size32 b.align32 → n ≡ aligned a.size64 b.align64
    → Stands t (map_node (record { key = k; value = v; entry_abi = l; value_offset32 = m; value_offset64 = n }))
entry_stands t k v a b l m n live_key live_value e f g p q =
    map_stands t (record { key = k; value = v; entry_abi = l; value_offset32 = m; value_offset64 = n }) live_key live_value (g ∙ (λ i. record_layout (e i ∷ f i ∷ []))) (p ∙ (λ i. aligned (e i).size32 (f i).align32)) (q ∙ (λ i. aligned (e i).size64 (f i).align64))

pub returns-then-not-record_fits : goal.returns-then-not-record_fits
returns-then-not-record_fits c =
    let e = rw (c.canonical_abi.ensures.stands, c.canonical_abi-2.ensures.stands) at c.if-not-record_fits.ensures in
    let r = does_not_fit c.args.builder.now k_map _ c.reveal.ensures.sound (λ p. failed e p) in
    record { makes = r.makes; too_large = r.exact }

pub next_field32-value_offset32-requires : goal.next_field32-value_offset32-requires
next_field32-value_offset32-requires c = (second_fits _ _ (passed c.if-not-record_fits.ensures)).0

pub next_field64-value_offset64-requires : goal.next_field64-value_offset64-requires
next_field64-value_offset64-requires c = (second_fits _ _ (passed c.if-not-record_fits.ensures)).1

pub returns-in_err-index : goal.returns-in_err-index
returns-in_err-index c =
    let old = c.args.builder.now in
    let e = rw (c.canonical_abi.ensures.stands, c.canonical_abi-2.ensures.stands) at c.if-not-record_fits.ensures in
    let stands = entry_stands old.tables c.args.key c.args.value _ _ _ _ _ c.requires.key c.requires.value c.canonical_abi.ensures.stands c.canonical_abi-2.ensures.stands c.record-entry_abi.ensures c.next_field32-value_offset32.ensures.place c.next_field64-value_offset64.ensures.place in
    let p = passed e in
    let q = err_from_is_err_and c.from_residual.result c.from_residual.ensures.1 in
    let a = c.add_map_type.ensures in
    let r = turned_away maps old old _ _ _ (maps_lie old old refl) c.reveal.ensures.sound stands p _ _ _ _ _ c.in_err-index.was q.1 q.2 a.refused a.found a.too_large in
    record { makes = r.makes; too_large = r.exact }

pub returns : goal.returns
returns c =
    let old = c.args.builder.now in
    let new = c.add_map_type.new.self in
    let e = rw (c.canonical_abi.ensures.stands, c.canonical_abi-2.ensures.stands) at c.if-not-record_fits.ensures in
    let stands = entry_stands old.tables c.args.key c.args.value _ _ _ _ _ c.requires.key c.requires.value c.canonical_abi.ensures.stands c.canonical_abi-2.ensures.stands c.record-entry_abi.ensures c.next_field32-value_offset32.ensures.place c.next_field64-value_offset64.ensures.place in
    let p = passed e in
    let a = c.in_ok-index.ensures in
    let r = entered maps old new _ _ _ (maps_lie old new a.rest) c.reveal.ensures.sound stands p _ c.in_ok-index.index a.keeps a.interned a.entry a.too_large in
    record { makes = r.makes; too_large = r.exact }
