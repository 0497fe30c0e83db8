-- Resource tables that are pushed one by one are the first ones of the plan.
use Rattle.std.proofs.Common.{◌≡◌, ◌<◌, ◌+◌, ℕ, List, [], ◌∷◌, ◌++◌, length, map, take, get_or, refl, sym, ◌∙◌, ap, subst, arith, length-append}
use Rattle.std.proofs.lemmas.List.{map-append, take_more}
use Rattle.fact_types.specs.declared.kinds.TypeResourceTable.{TypeResourceTable}
use Rattle.fact_builder.specs.Builder.{Builder}
use Rattle.fact_builder.specs.Keeps.{Keeps}
use Rattle.fact_plan.specs.declared.plan.FusePlan.{FusePlan}
use Rattle.fact_plan_types.specs.Adding.{AreFirst, Pushes}
use Rattle.fact_plan_types.specs.PlanTypes.{resource_table}
use Rattle.fact_plan_types.proofs.TableLaws.{both_keep}

pub pushes_none : (p : FusePlan) (b : Builder) → AreFirst p b.tables → Pushes p b b
pushes_none p b f = record { others = refl; keeps = record { live = λ ty l. l; shapes = λ ty s h. h; signatures = λ i params results h. h }; first = f }

pub pushes_then : (p : FusePlan) (a b c : Builder) → Pushes p a b → Pushes p b c → Pushes p a c
pushes_then p a b c f g = record {
  others = subst (λ (x : Builder). c ≡ record x { tables = record x.tables { resource_tables = c.tables.resource_tables } }) f.others g.others;
  keeps = both_keep a.tables b.tables c.tables f.keeps g.keeps;
  first = g.first;
}

pub pushes_next : (p : FusePlan) (old new : Builder) (d : ℕ × ℕ) (table : TypeResourceTable) → AreFirst p old.tables → length old.tables.resource_tables < length p.tables
    → table ≡ resource_table (get_or p.tables (length old.tables.resource_tables) d) → new ≡ record old { tables = record old.tables { resource_tables = old.tables.resource_tables ++ table ∷ [] } } → Keeps old.tables new.tables
    → Pushes p old new × (length new.tables.resource_tables ≡ length old.tables.resource_tables + 1)
pushes_next p old new d table f within same e k =
    let rs = old.tables.resource_tables in
    let x = get_or p.tables (length rs) d in
    let more : new.tables.resource_tables ≡ rs ++ table ∷ [] = ap (λ (b : Builder). b.tables.resource_tables) e in
    let longer : length new.tables.resource_tables ≡ length rs + 1 = omega (arith, ap length more, length-append rs (table ∷ [])) in
    let taken : map resource_table (take (length rs + 1) p.tables) ≡ map resource_table (take (length rs) p.tables) ++ resource_table x ∷ [] =
    ap (map resource_table) (take_more p.tables (length rs) d within) ∙ map-append resource_table (take (length rs) p.tables) (x ∷ []) in (
      record {
        others = e ∙ ap (λ (us : List TypeResourceTable). record old { tables = record old.tables { resource_tables = us } }) (sym more);
        keeps = k;
        first = more ∙ (λ i. f i ++ same i ∷ []) ∙ sym taken ∙ ap (λ (n : ℕ). map resource_table (take n p.tables)) (sym longer);
      },
      longer,
    )
