use Rattle.std.proofs.Common.{rules, ◌≡◌, ◌-◌, ◌∙◌, leb, length, refl, sym, subst, ℕ}
use Rattle.std.specs.List.Sorted.{IsNonDecreasingBy}
use Rattle.std.proofs.lemmas.List.Sorted.{IsPartitionPoint-from_clause, IsPartitionedBy-leb}
use Rattle.std.proofs.lemmas.Option.{slice_get_read, slice_get_past}
use Rattle.fact_check.specs.Sections.{ends_from}
use Rattle.fact_check.proofs.LocalRuns.{rising, local_is}
use Rattle.fact_check.proofs.locals.local_type.Goals as goal

pub returns-in-Some : goal.returns-in-Some
returns-in-Some c =
    let place : ℕ = c.args.n - length c.args.params.now in
    let ends = c.as_slice.result.now in
    let told : ends ≡ ends_from 0 c.args.locals.now = c.as_slice.ensures ∙ c.requires in
    let parted = IsPartitionedBy-leb (λ e. e) ends place (subst (IsNonDecreasingBy (λ e. e)) (sym told) (rising 0 c.args.locals.now (search rules))) in
    let point = IsPartitionPoint-from_clause (λ e. leb e place) ends c.partition_point-run.result c.partition_point-run.ensures.partitioned parted (λ a r q k. search rules) in
    local_is c.args.params.now c.args.locals.now ends c.args.n c.partition_point-run.result _ told c.if-place-params.false c.ranges.n.fits c.partition_point-run.ensures.bound point
    (sym (slice_get_read c.args.locals.now (length c.args.locals.now) c.partition_point-run.result c.in-Some.field-0.now refl c.in-Some.ensures.lookup.3.0 c.in-Some.ensures.lookup.1))

pub returns-in-None : goal.returns-in-None
returns-in-None c =
    let place : ℕ = c.args.n - length c.args.params.now in
    let ends = c.as_slice.result.now in
    let told : ends ≡ ends_from 0 c.args.locals.now = c.as_slice.ensures ∙ c.requires in
    let parted = IsPartitionedBy-leb (λ e. e) ends place (subst (IsNonDecreasingBy (λ e. e)) (sym told) (rising 0 c.args.locals.now (search rules))) in
    let point = IsPartitionPoint-from_clause (λ e. leb e place) ends c.partition_point-run.result c.partition_point-run.ensures.partitioned parted (λ a r q k. search rules) in
    local_is c.args.params.now c.args.locals.now ends c.args.n c.partition_point-run.result _ told c.if-place-params.false c.ranges.n.fits c.partition_point-run.ensures.bound point
    (sym (slice_get_past c.args.locals.now c.partition_point-run.result c.in-None.ensures.lookup.3))
