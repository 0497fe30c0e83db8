use Rattle.fact_command.specs.declared.status.Status.TheVariants as status
use Rattle.fact_run.proofs.CallEnds.{call-asked, complete-call, exactly-called, told-bad-value}
use Rattle.fact_run.proofs.ChainEnds.{chain-asked, complete-chain, exactly-chained}
use Rattle.fact_run.proofs.CheckEnds.{accepted-end, bytes-checked, check-long-end, exactly-checked, hex-end, rejected-end, told-rejection}
use Rattle.fact_run.proofs.Ends.{exactly, faultless-end, json-read, no-write-fault, printed, printed-front, usage-end, fault-end, json-end, long-end, refused-end, unread-done, plain-line, told, told-fault, told-refusal, is-end}
use Rattle.fact_run.proofs.top.run.Goals as goal

pub returns-clause-exactly_too_long : goal.returns-clause-exactly_too_long
returns-clause-exactly_too_long g c = exactly _ _ _ _ _ _ _ _ _ _ _ _ (long-end _) c.ending_of-ending.ensures.end

pub returns-clause-exactly_not_json : goal.returns-clause-exactly_not_json
returns-clause-exactly_not_json g c = exactly _ _ _ _ _ _ _ _ _ _ _ _ (json-end _) c.ending_of-ending.ensures.end

pub returns-clause-exactly_bad_plan : goal.returns-clause-exactly_bad_plan
returns-clause-exactly_bad_plan g c = exactly _ _ _ _ _ _ _ _ _ _ _ _ (fault-end _) c.ending_of-ending.ensures.end

pub returns-clause-exactly_refused : goal.returns-clause-exactly_refused
returns-clause-exactly_refused g c = exactly _ _ _ _ _ _ _ _ _ _ _ _ (refused-end _) c.ending_of-ending.ensures.end

pub returns-clause-complete : goal.returns-clause-complete
returns-clause-complete g c = λ calm unfaulted.
    exactly _ _ _ _ _ _ _ _ _ _ _ _ (λ bytes. faultless-end _ bytes (no-write-fault _ _ _ _ _ _ _ _ _ c.ending_of-ending.ensures.end unfaulted)) c.ending_of-ending.ensures.end calm

pub returns-clause-complete_generated : goal.returns-clause-complete_generated
returns-clause-complete_generated g c =
    λ generates unfaulted. unread-done _ (c.ending_of-ending.ensures.unread generates).1 (no-write-fault _ _ _ _ _ _ _ _ _ c.ending_of-ending.ensures.end unfaulted)

pub returns-clause-exactly_long_check : goal.returns-clause-exactly_long_check
returns-clause-exactly_long_check g c = exactly-checked _ _ _ _ _ _ _ _ _ _ _ _ (check-long-end _) c.ending_of-ending.ensures.end

pub returns-clause-exactly_not_hex : goal.returns-clause-exactly_not_hex
returns-clause-exactly_not_hex g c = exactly-checked _ _ _ _ _ _ _ _ _ _ _ _ (hex-end _) c.ending_of-ending.ensures.end

pub returns-clause-exactly_rejected : goal.returns-clause-exactly_rejected
returns-clause-exactly_rejected g c = exactly-checked _ _ _ _ _ _ _ _ _ _ _ _ (rejected-end c.accepted_bytes_have_no_cause.ensures _) c.ending_of-ending.ensures.end

pub returns-clause-complete_check : goal.returns-clause-complete_check
returns-clause-complete_check g c = λ calm unfaulted.
    exactly-checked _ _ _ _ _ _ _ _ _ _ _ _ (λ input. accepted-end c.accepted_bytes_have_no_cause.ensures _ input (no-write-fault _ _ _ _ _ _ _ _ _ c.ending_of-ending.ensures.end unfaulted)) c.ending_of-ending.ensures.end calm

pub returns-clause-not_json : goal.returns-clause-not_json
returns-clause-not_json g c = λ e. let k = is-end _ _ _ _ _ _ _ _ status.NotJson _ c.ending_of-ending.ensures.end e in (json-read _ _ k.1 k.2.0, k.2.1)

pub returns-clause-not_hex : goal.returns-clause-not_hex
returns-clause-not_hex g c = λ e. let k = is-end _ _ _ _ _ _ _ _ status.NotHex _ c.ending_of-ending.ensures.end e in (bytes-checked _ _ k.1 k.2.0, k.2.1)

pub returns-clause-bad_plan : goal.returns-clause-bad_plan
returns-clause-bad_plan g c =
    λ e. let line = told c.write_text.result _ _ _ _ _ (rw (c.as_bytes.ensures.value, c.line.ensures) at c.write_text.ensures.whole)
    (rw (c.as_bytes.ensures.value, c.line.ensures) at c.write_text.ensures.part) c.write_text.ensures.rose in
    let k = is-end _ _ _ _ _ _ _ _ status.BadPlan _ c.ending_of-ending.ensures.end e in
    (k.0, k.1, k.2.0, told-fault _ _ _ _ _ _ _ _ _ k.2.1 line)

pub returns-clause-refused : goal.returns-clause-refused
returns-clause-refused g c =
    λ e. let line = told c.write_text.result _ _ _ _ _ (rw (c.as_bytes.ensures.value, c.line.ensures) at c.write_text.ensures.whole)
    (rw (c.as_bytes.ensures.value, c.line.ensures) at c.write_text.ensures.part) c.write_text.ensures.rose in
    let k = is-end _ _ _ _ _ _ _ _ status.Refused _ c.ending_of-ending.ensures.end e in
    (k.0, k.1, k.2.0, told-refusal _ _ _ _ _ _ _ _ _ k.2.1 line)

pub returns-clause-rejected : goal.returns-clause-rejected
returns-clause-rejected g c =
    λ e. let line = told c.write_text.result _ _ _ _ _ (rw (c.as_bytes.ensures.value, c.line.ensures) at c.write_text.ensures.whole)
    (rw (c.as_bytes.ensures.value, c.line.ensures) at c.write_text.ensures.part) c.write_text.ensures.rose in
    let k = is-end _ _ _ _ _ _ _ _ status.Rejected _ c.ending_of-ending.ensures.end e in
    (bytes-checked _ _ k.1 k.2.0, told-rejection _ _ _ _ _ _ _ k.2.1 line)

pub returns-clause-not_callable : goal.returns-clause-not_callable
returns-clause-not_callable g c = λ e. let k = is-end _ _ _ _ _ _ _ _ status.NotCallable _ c.ending_of-ending.ensures.end e in (k.2.0, call-asked _ k.0 k.2.0 k.1 k.2.1, k.2.2)

pub returns-clause-bad_value : goal.returns-clause-bad_value
returns-clause-bad_value g c =
    λ e. let line = told c.write_text.result _ _ _ _ _ (rw (c.as_bytes.ensures.value, c.line.ensures) at c.write_text.ensures.whole)
    (rw (c.as_bytes.ensures.value, c.line.ensures) at c.write_text.ensures.part) c.write_text.ensures.rose in
    let k = is-end _ _ _ _ _ _ _ _ status.BadValue _ c.ending_of-ending.ensures.end e in
    (k.0, k.1, k.2.0, told-bad-value _ _ _ _ _ _ _ _ _ k.2.1 line)

pub returns-clause-over_limit : goal.returns-clause-over_limit
returns-clause-over_limit g c = λ e. let k = is-end _ _ _ _ _ _ _ _ status.OverLimit _ c.ending_of-ending.ensures.end e in (k.0, k.1, k.2.0, k.2.1)

pub returns-clause-not_chained : goal.returns-clause-not_chained
returns-clause-not_chained g c = λ e. let k = is-end _ _ _ _ _ _ _ _ status.NotChained _ c.ending_of-ending.ensures.end e in (chain-asked _ k.0 k.1 k.2.0, k.2.1)

pub returns-clause-exactly_chain : goal.returns-clause-exactly_chain
returns-clause-exactly_chain g c = exactly-chained _ _ _ _ _ _ _ _ _ _ c.ending_of-ending.ensures.end

pub returns-clause-complete_chain : goal.returns-clause-complete_chain
returns-clause-complete_chain g c = λ calm unfaulted.
    complete-chain _ _ _ _ _ _ _ _ _ _ (no-write-fault _ _ _ _ _ _ _ _ _ c.ending_of-ending.ensures.end unfaulted) c.ending_of-ending.ensures.end calm

pub returns-clause-exactly_call : goal.returns-clause-exactly_call
returns-clause-exactly_call g c = λ name. exactly-called _ name _ _ _ _ _ _ _ _ _ c.ending_of-ending.ensures.end

pub returns-clause-complete_call : goal.returns-clause-complete_call
returns-clause-complete_call g c = λ name calm unfaulted.
    complete-call _ name _ _ _ _ _ _ _ _ _ (no-write-fault _ _ _ _ _ _ _ _ _ c.ending_of-ending.ensures.end unfaulted) c.ending_of-ending.ensures.end calm

pub returns-clause-told : goal.returns-clause-told
returns-clause-told g c =
    λ bad refused rejected value. rw (← plain-line _ _ _ _ _ _ _ _ _ c.ending_of-ending.ensures.end bad refused rejected value)
    (told c.write_text.result _ _ _ _ _ (rw (c.as_bytes.ensures.value, c.line.ensures) at c.write_text.ensures.whole)
    (rw (c.as_bytes.ensures.value, c.line.ensures) at c.write_text.ensures.part) c.write_text.ensures.rose)

pub returns-clause-exactly_usage : goal.returns-clause-exactly_usage
returns-clause-exactly_usage g c = usage-end _ _ _ _ _ _ _ _ _ c.ending_of-ending.ensures.end

pub returns-clause-done : goal.returns-clause-done
returns-clause-done g c = printed _ _ _ _ _ _ _ _ _ c.ending_of-ending.ensures.end

pub returns-clause-part : goal.returns-clause-part
returns-clause-part g c = printed-front _ _ _ _ _ _ _ _ _ c.ending_of-ending.ensures.end
