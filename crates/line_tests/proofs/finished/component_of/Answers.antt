use Rattle.line_tests.proofs.Linking.{one_linked}
use Rattle.line_tests.proofs.finished.component_of.Goals as goal

pub returns : goal.returns
returns c = λ t. one_linked t _ _ _ _ _ (c.in_ok-import_types.ensures t) c.in_ok-push.ensures.ok c.new-exports.ensures c.in_ok-item.ensures.list c.new-export_items.ensures c.in_ok-item.ensures.named (tt {0})
