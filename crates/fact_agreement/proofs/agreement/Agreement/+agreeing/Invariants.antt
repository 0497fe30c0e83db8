use Rattle.std.proofs.Common.{◌≡◌, ◌≤◌, ◌+◌, ◌*◌, List, drop}
use Rattle.fact_types.specs.Functions.{HaveShapes}
use Rattle.fact_types.specs.Heights.{height}
use Rattle.fact_types.specs.Shapes.{Shape, Members}
use Rattle.fact_types.specs.Tables.{placed, HasMembers}
use Rattle.fact_agreement.specs.Left.{over, above}
use Rattle.fact_agreement.specs.Told.{AreLive, of_fields}
use Rattle.fact_agreement.proofs.CaseLaws.{LeftCases}
use Rattle.fact_agreement.proofs.FieldLaws.{LeftFields, LeftAll}
use Rattle.fact_agreement.proofs.agreement.Agreement.+agreeing.Given as goal

abbrev pub decreases-agrees : goal.decreases-agrees
decreases-agrees l = 5 * height l.self.now l.from.now + 4

abbrev pub decreases-compare : goal.decreases-compare
decreases-compare l = 5 * height l.self.now l.from.now + 3

abbrev pub decreases-agree_all : goal.decreases-agree_all
decreases-agree_all l = 5 * above l.self.now (placed 0 l.from.now) + 1

abbrev pub decreases-agree_cases : goal.decreases-agree_cases
decreases-agree_cases l = 5 * above l.self.now l.from.now.entries + 1

abbrev pub decreases-agree_records : goal.decreases-agree_records
decreases-agree_records l = 5 * above l.self.now (of_fields l.from.now) + 2

abbrev pub decreases-agree_fields : goal.decreases-agree_fields
decreases-agree_fields l = 5 * above l.self.now (of_fields l.from.now) + 1

abbrev pub decreases-agree_payload : goal.decreases-agree_payload
decreases-agree_payload l = 5 * over l.self.now l.from

abbrev pub invariant-agree_all-loop-i : goal.invariant-agree_all-loop-i
invariant-agree_all-loop-i l = record {
  same : l.self ≡ l.fn.self;
  left : (ss ds : List Shape) → HaveShapes l.fn.self l.from ss → HaveShapes l.fn.self l.to ds → LeftAll l.fn.self (drop l.i l.from) (drop l.i l.to) ss ds;
}

abbrev pub invariant-agree_cases-loop-name : goal.invariant-agree_cases-loop-name
invariant-agree_cases-loop-name l = record {
  can_next : (goal.iterator-agree_cases-loop-name).can_next l.name-iterator;
  is_finite : (goal.iterator-agree_cases-loop-name).is_finite l.name-iterator;
  same : l.self ≡ l.fn.self;
  live : AreLive l.fn.self l.name-iterator;
  lower : above l.fn.self l.name-iterator ≤ above l.fn.self l.from.entries;
  left : (ms ns : Members) → HasMembers l.fn.self l.from.entries ms → HasMembers l.fn.self l.to.entries ns → LeftCases l.fn.self l.name-iterator ms ns;
}

abbrev pub invariant-agree_fields-loop-field : goal.invariant-agree_fields-loop-field
invariant-agree_fields-loop-field l = record {
  same : l.self ≡ l.fn.self;
  left : (ms ns : Members) → HasMembers l.fn.self (of_fields l.from) ms → HasMembers l.fn.self (of_fields l.to) ns → LeftFields l.fn.self (drop l.field-index l.to) ms ns;
}
