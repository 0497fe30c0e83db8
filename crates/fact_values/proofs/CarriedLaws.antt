-- What a value is carried to, and the handles that cross with it.
use Rattle.std.proofs.Common.{◌≡◌, ℕ, ◌<◌, ◌≤◌, List, [], length, take, drop, Some, None, sym, ap, ◌∙◌, arith}
use Rattle.std.specs.Prelude.{option_map}
use Rattle.fact_types.specs.Agrees.{Agrees}
use Rattle.fact_types.specs.Shapes.{Shape}
use Rattle.fact_types.specs.Options.{◌>>=◌}
use Rattle.fact_types.proofs.ShapeLaws.{same_some}
use Rattle.fact_values.specs.Carry.{take_number, crossed, Carries, note, noted, handles}
use Rattle.fact_values.specs.declared.value.Value.{Value}
use Rattle.fact_values.specs.Formed.{IsFormed}
use Rattle.fact_values.specs.Handles.{Crossing, done_step}
use Rattle.fact_values.specs.IsA.{IsA}
use Rattle.fact_values.specs.ValueLaws.{CarriedBy}
use Rattle.fact_values.proofs.CrossLaws.{crosses}
use Rattle.fact_values.proofs.StepLaws.{AreNumbers, numbers_taken, numbers_missing, handles_noted, numbers_take, length_taken}

-- the handles that cross are those that a crossing asks for
pub handles_asked : (s d : Shape) (v : Value) (fs : IsFormed s) (fd : IsFormed d) (h : IsA s v) (a : Agrees s d) → handles s d v ≡ (crosses d s v fs fd h a).asks
handles_asked s d v fs fd h a =
    let c = crosses d s v fs fd h a in
    let (ns, e) = handles_noted c.asks [] in
    ap noted (c.is (List Crossing) note [] ∙ ap (λ o. o >>= (λ r. done_step (c.made r.0) r.1)) e)

-- with enough numbers there is one value, of the destination type, and the other numbers are left
pub carried : (s d : Shape) (v : Value) (ns : List ℕ) → IsFormed s → IsFormed d → IsA s v → Agrees s d → length (handles s d v) ≤ length ns → AreNumbers ns → CarriedBy s d v ns
carried s d v ns fs fd h a enough small =
    let c = crosses d s v fs fd h a in
    let count : length (handles s d v) ≡ length c.asks = ap length (handles_asked s d v fs fd h a) in
    let le : length c.asks ≤ length ns = omega (arith, enough, count) in
    record {
      value = c.made (take (length c.asks) ns);
      crossed = c.is (List ℕ) take_number ns ∙ ap (λ o. o >>= (λ r. done_step (c.made r.0) r.1)) (numbers_taken c.asks ns le) ∙ ap (λ n. Some (c.made (take (length c.asks) ns), drop n ns)) (sym count);
      is_a = c.good (take (length c.asks) ns) (length_taken (length c.asks) ns le) (numbers_take (length c.asks) ns small);
    }

-- without enough numbers there is none
pub not_carried : (s d : Shape) (v : Value) (ns : List ℕ) → IsFormed s → IsFormed d → IsA s v → Agrees s d → length ns < length (handles s d v) → crossed s d v ns ≡ None
not_carried s d v ns fs fd h a few =
    let c = crosses d s v fs fd h a in
    let lt : length ns < length c.asks = omega (arith, few, ap length (handles_asked s d v fs fd h a)) in
    c.is (List ℕ) take_number ns ∙ ap (λ o. o >>= (λ r. done_step (c.made r.0) r.1)) (numbers_missing c.asks ns lt)

-- a value is carried to one value
pub one_carried : (s d : Shape) (v u w : Value) (ns : List ℕ) → Carries s d v ns u → Carries s d v ns w → u ≡ w
one_carried s d v u w ns x y = same_some (option_map (λ r. r.0) (crossed s d v ns)) u w x.is y.is
