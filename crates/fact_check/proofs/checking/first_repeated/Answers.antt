use Rattle.std.proofs.Common.{◌≡◌, ◌+◌, true, false, Some, refl, sym, ap, ◌∙◌, subst, length, take, slice_get, arith}
use Rattle.std.specs.Prelude.{cond}
use Rattle.std.specs.List.{list_any}
use Rattle.std.specs.Str.{bytes_eq}
use Rattle.std.specs.Ordering.{is_eq, nat_cmp}
use Rattle.std.specs.Cmp.Lexicographic.{slice_cmp}
use Rattle.std.specs.BTreeMap.{is_at}
use Rattle.std.specs.BTreeSet.{contains_by}
use Rattle.std.proofs.lemmas.Bool.{not-false, not-true}
use Rattle.std.proofs.lemmas.Option.{slice_get_read, slice_get_within}
use Rattle.fact_check.specs.Accepted.{IsFirstRepeated, IsRepeatedExport}
use Rattle.fact_check.proofs.Loops.{below_more, repeated, not_repeated, names_more}
use Rattle.fact_check.proofs.checking.first_repeated.Goals as goal

pub loop-export-init : goal.loop-export-init
loop-export-init c = record {
  place = refl;
  names = λ q. ap (list_any (is_at (λ k. slice_cmp nat_cmp q k.now))) c.new-names.ensures.empty;
  before = λ k lt. absurd (omega (arith, lt));
}

pub returns-then-not-is_new : goal.returns-then-not-is_new
returns-then-not-is_new c =
    let es = c.args.exports.now in
    let n = c.loop-export.export-index in
    let e = c.export-item.result in
    let there : slice_get es n ≡ Some e = slice_get_read es (length es) n e refl c.loop-export-test.true c.export-item.is in
    let same : n ≡ c.loop-export.place = sym c.loop-export.invariant.place in
    let held = not-false _ (sym c.in_ok-is_new.ensures.added ∙ c.if-not-is_new.true) in
    let found : list_any (λ d. bytes_eq e.name d.name) (take n es) ≡ true = sym (c.loop-export.invariant.names e.name) ∙ ap (λ t. contains_by (λ k. slice_cmp nat_cmp t k.now) c.loop-export.names) (sym c.as_str.ensures) ∙ held in
    subst (λ k. IsFirstRepeated es k) same (record { is_repeated = repeated es n e there found; before = c.loop-export.invariant.before })

pub loop-export-preserved : goal.loop-export-preserved
loop-export-preserved c =
    let es = c.args.exports.now in
    let n = c.loop-export.export-index in
    let e = c.export-item.result in
    let there : slice_get es n ≡ Some e = slice_get_read es (length es) n e refl c.loop-export-test.true c.export-item.is in
    let held = not-true _ (sym c.in_ok-is_new.ensures.added ∙ c.if-not-is_new.false) in
    let none : list_any (λ d. bytes_eq e.name d.name) (take n es) ≡ false = sym (c.loop-export.invariant.names e.name) ∙ ap (λ t. contains_by (λ k. slice_cmp nat_cmp t k.now) c.loop-export.names) (sym c.as_str.ensures) ∙ held in
    record {
      place = ap (λ k. k + 1) c.loop-export.invariant.place;
      names = names_more es n e (λ q. contains_by (λ k. slice_cmp nat_cmp q k.now) c.loop-export.names) (λ q. contains_by (λ k. slice_cmp nat_cmp q k.now) c.insert.new.self) there
          (λ q. subst (λ t. contains_by (λ k. slice_cmp nat_cmp q k.now) c.insert.new.self ≡ cond (is_eq (slice_cmp nat_cmp t q)) true (contains_by (λ k. slice_cmp nat_cmp q k.now) c.loop-export.names)) c.as_str.ensures (c.in_ok-is_new.ensures.updates.0 (record { ref_ptr = (0, 0); now = q })))
          c.loop-export.invariant.names;
      before = below_more (λ k. IsRepeatedExport es k → ⊥) n (n + 1) refl c.loop-export.invariant.before (not_repeated es n e there none);
    }

pub returns : goal.returns
returns c n r = c.loop-export.invariant.before n (omega (arith, c.loop-export-test.false, slice_get_within c.args.exports.now n r.export r.there)) r
