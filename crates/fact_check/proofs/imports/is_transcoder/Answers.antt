use Rattle.std.proofs.Common.{Some, None, sym, ◌∙◌, arith}
use Rattle.std.proofs.lemmas.Bool.{false≢true}
use Rattle.std.proofs.lemmas.Str.Pattern.{split_parts}
use Rattle.fact_check.specs.NameNumbers.{memories_text}
use Rattle.fact_check.proofs.ImportRows.{transcoder_parts, transcoder_decided, no_operation, no_memory}
use Rattle.fact_check.proofs.Transcoders.{unsplit}
use Rattle.fact_check.proofs.imports.is_transcoder.Goals as goal

pub returns-in_default : goal.returns-in_default
returns-in_default c = (
  λ h. absurd (false≢true h),
  λ t. absurd (unsplit c.args.name.now t.description (memories_text t.from t.to) (split_parts 32 c.args.name.now None c.in_default.ensures.cases (omega arith)) t.named),
)

pub returns-in_default-operation_of : goal.returns-in_default-operation_of
returns-in_default-operation_of c =
    let x = c.in-Some in
    let s = split_parts 32 c.args.name.now (Some (x.description, x.rest)) x.ensures.cases (omega arith) in (
      λ h. absurd (false≢true h),
      λ t. absurd (no_operation x.description.now t.description t.operation c.in_default-operation_of.ensures (transcoder_parts c.args.memories.now c.args.name.now x.description.now x.rest.now c.args.ty.now s.0 s.1 t).0 t.described),
    )

pub returns-in_default-memories_of : goal.returns-in_default-memories_of
returns-in_default-memories_of c =
    let x = c.in-Some in
    let s = split_parts 32 c.args.name.now (Some (x.description, x.rest)) x.ensures.cases (omega arith) in (
      λ h. absurd (false≢true h),
      λ t. absurd (c.in_default-memories_of.ensures t.from t.to t.from_small t.to_small (transcoder_parts c.args.memories.now c.args.name.now x.description.now x.rest.now c.args.ty.now s.0 s.1 t).1),
    )

pub returns-in_default-get : goal.returns-in_default-get
returns-in_default-get c =
    let x = c.in-Some in
    let m = c.in-Some-memories_of in
    let s = split_parts 32 c.args.name.now (Some (x.description, x.rest)) x.ensures.cases (omega arith) in (
      λ h. absurd (false≢true h),
      λ t. absurd ((no_memory c.args.memories.now m.from m.to m.ensures.0 m.ensures.1 c.args.name.now c.args.ty.now t (sym m.ensures.2 ∙ (transcoder_parts c.args.memories.now c.args.name.now x.description.now x.rest.now c.args.ty.now s.0 s.1 t).1)).0 c.in_default-get.ensures.value),
    )

pub returns-in_default-get-2 : goal.returns-in_default-get-2
returns-in_default-get-2 c =
    let x = c.in-Some in
    let m = c.in-Some-memories_of in
    let s = split_parts 32 c.args.name.now (Some (x.description, x.rest)) x.ensures.cases (omega arith) in (
      λ h. absurd (false≢true h),
      λ t. absurd ((no_memory c.args.memories.now m.from m.to m.ensures.0 m.ensures.1 c.args.name.now c.args.ty.now t (sym m.ensures.2 ∙ (transcoder_parts c.args.memories.now c.args.name.now x.description.now x.rest.now c.args.ty.now s.0 s.1 t).1)).1 c.in_default-get-2.ensures.value),
    )

pub returns : goal.returns
returns c =
    let x = c.in-Some in
    let m = c.in-Some-memories_of in
    let s = split_parts 32 c.args.name.now (Some (x.description, x.rest)) x.ensures.cases (omega arith) in
    transcoder_decided c.args.memories.now c.args.name.now x.description.now x.rest.now c.args.ty.now c.in-Some-operation_of.operation m.from m.to c.in-Some-get.from64.now c.in-Some-get-2.to64.now c.transcodes.result
    s.0 s.1 (sym c.in-Some-operation_of.ensures) m.ensures.2 m.ensures.0 m.ensures.1 (sym c.in-Some-get.ensures.value) (sym c.in-Some-get-2.ensures.value) c.transcodes.ensures
