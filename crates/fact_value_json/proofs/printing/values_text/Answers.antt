use Rattle.serde_json.specs.View.{view}
use Rattle.serde_json.specs.declared.value.Value.{Array}
use Rattle.serde_json.proofs.Views.{view-Array}
use Rattle.fact_abi.proofs.KindLaws.{if_ok}
use Rattle.fact_value_json.proofs.FloatLaws.{text_printed, text_reads_back}
use Rattle.fact_value_json.proofs.printing.values_text.Goals as goal

pub returns-clause-text : goal.returns-clause-text
returns-clause-text c = if_ok _ _ c.to_string-text.result (λ s e ss h are. text_printed ss c.args.values.now c.in_ok-values_list.field-0.items (view (Array c.in_ok-values_list.field-0)) _ (view-Array c.in_ok-values_list.field-0) (c.in_ok-values_list.ensures ss h are) e) c.to_string-text.ensures.text

pub returns-clause-reads_back : goal.returns-clause-reads_back
returns-clause-reads_back c = if_ok _ _ c.to_string-text.result (λ s e ss h are. text_reads_back ss c.args.values.now c.in_ok-values_list.field-0.items (view (Array c.in_ok-values_list.field-0)) _ (view-Array c.in_ok-values_list.field-0) (c.in_ok-values_list.ensures ss h are) e) c.to_string-text.ensures.reads_back
