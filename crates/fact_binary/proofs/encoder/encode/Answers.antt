use Rattle.fact_binary.proofs.Sections.{assembled}
use Rattle.fact_binary.proofs.encoder.encode.Goals as goal

pub returns : goal.returns
returns c =
    let types = rw c.as_slice-2.ensures at c.in_ok-push_section.ensures in
    let imports = rw c.as_slice-3.ensures at c.in_ok-push_section-2.ensures in
    let functions = rw c.as_slice-4.ensures at c.in_ok-push_section-3.ensures in
    let exports = rw c.as_slice-5.ensures at c.in_ok-push_section-4.ensures in
    let bodies = rw c.as_slice-6.ensures at c.in_ok-push_section-5.ensures in
    assembled c.args.module.now c.count_functions-imports.result c.in_ok-out.out.items _ _ _ _ _
    (rw c.as_slice.ensures at c.count_functions-imports.ensures)
    c.in_ok-out.ensures.items
    (record { size = types.size; items = types.items; bytes = types.bytes })
    (record { size = imports.size; items = imports.items; bytes = imports.bytes })
    (record { size = functions.size; items = functions.items; bytes = functions.bytes })
    (record { size = exports.size; items = exports.items; bytes = exports.bytes })
    (record { size = bodies.size; items = bodies.items; bytes = bodies.bytes })
    c.requires.bodies
