-- Functions that write the code of lists around their elements.
use Rattle.std.proofs.Common.{◌≡◌, ℕ, Bool, true, false, List, [], ◌∷◌, ◌++◌, refl, sym, ap, ◌∙◌, append_assoc}
use Rattle.std.specs.Prelude.{not}
use Rattle.fact_wasm.specs.declared.instr.Instr.{Instr}
use Rattle.fact_wasm.specs.declared.instr.Instr.TheVariants as I
use Rattle.fact_types.specs.declared.import.Import.TheVariants as import
use Rattle.fact_types.specs.declared.outside.Trap.TheVariants.{UnalignedPointer, ListOutOfBounds}
use Rattle.fact_code_laws.specs.Code.{counted_code}
use Rattle.fact_code_laws.specs.Lists.{is_few, few_guard, few_code, bytes_code, left_code}
use Rattle.fact_code_laws.specs.Places.{From, To}
use Rattle.fact_code_laws.specs.Tests.{read_into, region_code}
use Rattle.fact_emit.specs.declared.places.LinearMemory.{LinearMemory}
use Rattle.fact_emit.specs.declared.places.Sides.{Sides}
use Rattle.fact_emit.specs.declared.writer.Writer.{Writer}
use Rattle.fact_emit.specs.Checks.{Guarded, ChecksRegion}
use Rattle.fact_emit.specs.Emits.{Emits}
use Rattle.fact_emit.specs.Pairs.{ReadsPair, length_from, put_pair_code}
use Rattle.fact_emit.specs.Pieces.{Is}
use Rattle.fact_emit.specs.Places.{checks_at}
use Rattle.fact_emit.specs.Requests.{AsksRegion}
use Rattle.fact_emit.specs.Writers.{Wrote, EndedBody}
use Rattle.fact_emit.proofs.CheckMoves.{guard_is, guarded_as}
use Rattle.fact_emit.proofs.Emitting.{emits_then, emits_as, emits_wrote, emits_nothing, emits_both}
use Rattle.fact_emit.proofs.RequestMoves.{region_at}
use Rattle.fact_kinds.specs.declared.lists.Elements.{Elements}
use Rattle.fact_kinds.specs.declared.lists.ListLocals.{ListLocals}
use Rattle.fact_kinds.specs.Lists.{ChecksFew, ChecksBytes, AsksList, OpensList, list_context, ClosesList, asks_code, begin_code, turn_end_code}
use Rattle.fact_kinds.proofs.ListRanged.{begin_ranged, bytes_ranged}

-- ---- lengths

not_few : (q tested : Bool) → tested ≡ not q → tested ≡ true → q ≡ false
not_few true tested e h = absurd (let no : false ≡ true = sym e ∙ h in cc)
not_few false tested e h = refl

is_few_so : (q tested : Bool) → tested ≡ not q → tested ≡ false → q ≡ true
is_few_so true tested e h = refl
is_few_so false tested e h = absurd (let no : true ≡ false = sym e ∙ h in cc)

pub few_emits : {a b : Writer} (memory64 : Bool) (size number : ℕ) {tested : Bool} {test : List Instr} → tested ≡ not (is_few memory64 size) → tested ≡ true → test ≡ few_code number size → Emits a b (Guarded test ListOutOfBounds []) → Emits a b (ChecksFew memory64 size number)
few_emits memory64 size number {tested} is many e x =
    emits_as (λ M p locals code g. record { is = guard_is g ∙ ap (λ q. few_guard q number size (p.function (import.Trap ListOutOfBounds))) (sym (not_few (is_few memory64 size) tested is many)) }) (guarded_as e x)

pub no_few_emits : (a : Writer) (memory64 : Bool) (size number : ℕ) {tested : Bool} → tested ≡ not (is_few memory64 size) → tested ≡ false → Emits a a (ChecksFew memory64 size number)
no_few_emits a memory64 size number {tested} is few =
    emits_nothing (λ M p locals. record { is = ap (λ q. few_guard q number size (p.function (import.Trap ListOutOfBounds))) (sym (is_few_so (is_few memory64 size) tested is few)) })

-- ---- its regions

pub bytes_checked : {a b c : Writer} {m : LinearMemory} {size align : ℕ} (l : ListLocals) → Wrote a b (bytes_code l.number size ++ I.LocalSet l.bytes ∷ []) → Emits b c (ChecksRegion m align l.pointer l.bytes l.length ListOutOfBounds) → Emits a c (ChecksBytes m size align l)
bytes_checked {size = size} l x y =
    emits_then {P = Is (bytes_code l.number size ++ I.LocalSet l.bytes ∷ [])} (λ M p locals c k is r. record {
      unaligned = r.unaligned;
      outside = r.outside;
      is = ap (λ c. c ++ k) is ∙ append_assoc (bytes_code l.number size) (I.LocalSet l.bytes ∷ []) k ∙ ap (λ k. bytes_code l.number size ++ (I.LocalSet l.bytes ∷ k)) r.is;
    }) (emits_wrote (bytes_ranged l.number size l.bytes) x) (emits_as region_at y)

pub list_asked : {a b c : Writer} {concurrency : Bool} {m : LinearMemory} {size align : ℕ} (l : ListLocals) → Wrote a b (bytes_code l.number size ++ I.LocalSet l.bytes ∷ [])
    → Emits b c (AsksRegion concurrency m (record { align = align; bytes = l.bytes; address = l.address; length = l.length; context = list_context l }) ListOutOfBounds) → Emits a c (AsksList concurrency m size align l)
list_asked {size = size} l x y =
    emits_then {P = Is (bytes_code l.number size ++ I.LocalSet l.bytes ∷ [])} (λ M p locals c k is r. record {
      slots = r.slots;
      unaligned = r.unaligned;
      is = ap (λ c. c ++ k) is ∙ append_assoc (bytes_code l.number size) (I.LocalSet l.bytes ∷ []) k ∙ ap (λ k. bytes_code l.number size ++ (I.LocalSet l.bytes ∷ k)) r.is;
    }) (emits_wrote (bytes_ranged l.number size l.bytes) x) y

-- all that stands in front of the elements
pub list_opened : {a b c d e f g : Writer} {sides : Sides} {x : Elements} {l : ListLocals} {src : From}
    → Emits a b (ReadsPair sides.debug sides.from.memory64 l.pointer l.number src) → Emits b c (ChecksFew sides.from.memory64 x.from_size l.number) → Emits c d (ChecksFew sides.to.memory64 x.to_size l.number)
    → Emits d e (ChecksBytes sides.from x.from_size x.from_align l) → Emits e f (AsksList sides.concurrency sides.to x.to_size x.to_align l) → Wrote f g (begin_code sides.from.memory64 sides.to.memory64 l)
    → Emits a g (OpensList sides x l src)
list_opened {sides = sides} {x} {l} {src} u v w y z o =
    emits_as (λ M p locals code k.
    let read = k.first_holds in
    let k2 = k.second_holds in
    let k3 = k2.second_holds in
    let k4 = k3.second_holds in
    let k5 = k4.second_holds in
    let r1 : List Instr = read_into (checks_at sides.debug p) sides.from.memory64 src l.pointer in
    let r2 : List Instr = read_into (checks_at sides.debug p) sides.from.memory64 (length_from sides.from.memory64 src) l.number in
    let outside : ℕ = p.function (import.Trap ListOutOfBounds) in
    let f1 : List Instr = few_guard (is_few sides.from.memory64 x.from_size) l.number x.from_size outside in
    let f2 : List Instr = few_guard (is_few sides.to.memory64 x.to_size) l.number x.to_size outside in
    let region : List Instr = region_code sides.from.memory sides.from.memory64 sides.from.page_size_log2 x.from_align l.pointer l.bytes l.length (p.function (import.Trap UnalignedPointer)) outside in
    let asks : List Instr = asks_code sides.concurrency p sides.to x.to_size x.to_align l in
    let begin : List Instr = begin_code sides.from.memory64 sides.to.memory64 l in
    record {
      has_pointer = read.has_pointer;
      has_number = read.has_length;
      from_unaligned = k4.first_holds.unaligned;
      to_unaligned = k5.first_holds.unaligned;
      outside = k4.first_holds.outside;
      slots = k5.first_holds.slots;
      is = k.is ∙ ap (λ c. c ++ k.second) read.is ∙ append_assoc r1 r2 k.second
          ∙ ap (λ k. r1 ++ (r2 ++ k)) (k2.is ∙ ap (λ c. c ++ k2.second) k2.first_holds.is
          ∙ ap (λ k. f1 ++ k) (k3.is ∙ ap (λ c. c ++ k3.second) k3.first_holds.is
          ∙ ap (λ k. f2 ++ k) (k4.is ∙ ap (λ c. c ++ k4.second) k4.first_holds.is ∙ append_assoc (bytes_code l.number x.from_size) (I.LocalSet l.bytes ∷ region) k4.second
          ∙ ap (λ k. bytes_code l.number x.from_size ++ (I.LocalSet l.bytes ∷ (region ++ k))) (k5.is ∙ (λ i. k5.first_holds.is i ++ k5.second_holds i)))));
    }) (emits_both u (emits_both v (emits_both w (emits_both y (emits_both z (emits_wrote (begin_ranged sides.from.memory64 sides.to.memory64 l) o))))))

-- ---- the loop, and the new list

pub list_closed : {a b c d e : Writer} {sides : Sides} {x : Elements} {l : ListLocals} {dst : To} {outer body test : List Instr} → test ≡ left_code l.left
    → Wrote a b (turn_end_code sides.from.memory64 sides.to.memory64 x l) → EndedBody b c outer body → Wrote c d (counted_code test body)
    → Wrote d e (put_pair_code sides.to.memory64 l.address l.number dst)
    → ClosesList sides x l outer dst a e
list_closed {a} {sides = sides} {x} {l} {dst} {outer} {body} {test} e t ended counted pair =
    let ends : List Instr = turn_end_code sides.from.memory64 sides.to.memory64 x l in
    let put : List Instr = put_pair_code sides.to.memory64 l.address l.number dst in
    record {
      code = pair.code ∙ ap (λ c. c ++ put) (counted.code ∙ ap (λ c. c ++ counted_code test body) ended.code) ∙ append_assoc outer (counted_code test body) put
          ∙ ap (λ c. outer ++ (c ++ put)) (ap (λ test. counted_code test body) e ∙ ap (counted_code (left_code l.left)) (ended.body ∙ t.code));
      locals = pair.locals ∙ counted.locals ∙ ended.locals ∙ t.locals;
      imports = pair.imports ∙ counted.imports ∙ ended.imports ∙ t.imports;
    }
