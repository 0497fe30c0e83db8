use Rattle.std.proofs.Common.{Some, ◌∙◌, arith, sym}
use Rattle.std.specs.Prelude.{codes}
use Rattle.std.proofs.lemmas.Bool.{not-false}
use Rattle.std.proofs.lemmas.Slice.Eq.{bytes_eq-Decides}
use Rattle.std.proofs.lemmas.Str.Pattern.{split_parts}
use Rattle.fact_host.proofs.RoleNames.{from_absent, to_absent, whole_name}
use Rattle.fact_host.proofs.roles.transcoder_of.Goals as goal

pub returns-in_default-is_wide : goal.returns-in_default-is_wide
returns-in_default-is_wide c =
    let x = c.in-Some in
    let m = c.in-Some-memories_of in
    let s = split_parts 32 c.as_str-2.result.now (Some (x.description, x.rest)) x.ensures.cases (omega arith) in
    from_absent c.args.«module».now c.args.import.now x.description.now x.rest.now m.from m.to (sym c.as_str-2.ensures ∙ s.0) s.1 m.ensures.2 m.ensures.0 m.ensures.1 c.in_default-is_wide.ensures

pub returns-in_default-is_wide-2 : goal.returns-in_default-is_wide-2
returns-in_default-is_wide-2 c =
    let x = c.in-Some in
    let m = c.in-Some-memories_of in
    let s = split_parts 32 c.as_str-2.result.now (Some (x.description, x.rest)) x.ensures.cases (omega arith) in
    to_absent c.args.«module».now c.args.import.now x.description.now x.rest.now m.from m.to (sym c.as_str-2.ensures ∙ s.0) s.1 m.ensures.2 m.ensures.0 m.ensures.1 c.in_default-is_wide-2.ensures

pub returns : goal.returns
returns c =
    let x = c.in-Some in
    let m = c.in-Some-memories_of in
    let s = split_parts 32 c.as_str-2.result.now (Some (x.description, x.rest)) x.ensures.cases (omega arith) in
    record {
      origin = sym c.as_str.ensures ∙ (bytes_eq-Decides c.as_str.result.now (codes "transcode")).0 (not-false _ (sym c.if-ne.ensures));
      name = whole_name c.args.import.now.name x.description.now x.rest.now c.in-Some-operation_of.op m.from m.to (sym c.as_str-2.ensures ∙ s.0) c.in-Some-operation_of.ensures m.ensures.2;
      from_small = m.ensures.0;
      to_small = m.ensures.1;
      from_pages = c.in-Some-is_wide.ensures.0;
      from_there = c.in-Some-is_wide.ensures.1;
      to_pages = c.in-Some-is_wide-2.ensures.0;
      to_there = c.in-Some-is_wide-2.ensures.1;
    }
