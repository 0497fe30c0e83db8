-- Moves of all types stay in ranges.
use Rattle.std.proofs.Common.{ℕ}
use Rattle.fact_types.specs.Shapes.{Members}
use Rattle.fact_actions.specs.Moves.{move_fields}
use Rattle.fact_actions.specs.Regions.{Position}
use Rattle.fact_actions.specs.Running.{Call}
use Rattle.fact_actions.specs.Sides.{Source, Target}
use Rattle.fact_action_laws.specs.Regions.{TransferSetting}
use Rattle.fact_action_laws.proofs.AllRuled.{AreRules, fields_ruled}
use Rattle.fact_action_laws.proofs.Answered.{MovesAlong}
use Rattle.fact_action_laws.proofs.Fine.{HasKnownSides, Fine, fine_give, fine_stop, fine_visit, fine_unless, fine_ask, fine_read, fine_pair, fine_check, fine_reallocate, fine_either, fine_bind, fine_write, fine_write_pair, fine_each_from}
use Rattle.fact_action_laws.proofs.RangeLaw.{string_fine}

module _ (c : TransferSetting) (next : Call → Position → Position) (steps : MovesAlong c next) (known : HasKnownSides c) where
  fine_rules : AreRules c (λ A q. Fine c next steps known q)
  fine_rules = record {
    gives = λ A a. fine_give c next steps known a;
    stops = λ A. fine_stop c next steps known;
    visits = λ A n q h. fine_visit c next steps known n q h;
    tests = λ A t b q h. fine_unless c next steps known t b q h;
    values = λ A i args ts k plain h. fine_ask c next steps known i args ts k (λ x a. plain.ranged c.places x a) plain.apart h;
    reads = λ A size s k h. fine_read c next steps known size s k h;
    pairs = λ A s k h. fine_pair c next steps known s k h;
    checks = λ A o t p n align q h. fine_check c next steps known o t p n align q (λ m is. h);
    requests = λ A t align size k h. fine_reallocate c next steps known t 0 0 align size k (λ f is_f m is_m q. h q);
    eithers = λ A b q r h k. fine_either c next steps known b q r h k;
    binds = λ A B q f h g. fine_bind c next steps known q f h g;
    writes = λ size d n. fine_write c next steps known size d n;
    write_pairs = λ d p n. fine_write_pair c next steps known d p n;
    eachs = λ A i n f h. fine_each_from c next steps known i n f h;
    strings = λ s d. string_fine c next steps known s d;
  }

  pub fields_fine : (ns ms : Members) (end : ℕ) (s : Source) (d : Target) → Fine c next steps known (move_fields c.transfer ms ns end s d)
  fields_fine ns ms end s d = fields_ruled c (λ A q. Fine c next steps known q) fine_rules ns ms end s d
