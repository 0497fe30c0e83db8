-- The code of paths and of whole texts, as it was written.
use Rattle.std.proofs.Common.{◌≡◌, ℕ, Bool, List, [], ◌∷◌, ◌++◌, refl, sym, ap, ◌∙◌, subst, append_assoc, append-nil}
use Rattle.std.specs.List.{filter_map}
use Rattle.fact_wasm.specs.declared.instr.Instr.{Instr}
use Rattle.fact_wasm.specs.declared.instr.Instr.TheVariants as I
use Rattle.fact_wasm.specs.Ranges.{AreRanged}
use Rattle.fact_types.specs.declared.outside.StringEncoding.{StringEncoding}
use Rattle.fact_types.specs.declared.outside.StringEncoding.TheVariants as string
use Rattle.fact_types.specs.declared.outside.Transcode.{Transcode}
use Rattle.fact_types.specs.declared.outside.Trap.{Trap}
use Rattle.fact_types.specs.declared.outside.Trap.TheVariants.{StringOutOfBounds}
use Rattle.fact_values.specs.Texts.{utf16_tag}
use Rattle.fact_actions.specs.Paths.{Amount, Path, End, Limit, Resize, Pass, If, Tag, Assert, Test, TextForm, AsUtf8, AsUtf16, AsCompactLatin1, AsCompactUtf16, align_of, path}
use Rattle.fact_code_laws.specs.Code.{guard_code}
use Rattle.fact_code_laws.specs.Places.{From, To}
use Rattle.fact_code_laws.specs.StringCode.{align_of_form, assert_code, bytes_of_form, check_text_code, either_code, encoded_code, limit_code, pass_code, path_code, resize_code, test_code, text_code, times_code, untag_code}
use Rattle.fact_code_laws.specs.StringNeeds.{Needs, NeedsEncoded, NeedsPath, NeedsRegion, NeedsRequest, NeedsText, NeedsTranscoder, NeedsTrap}
use Rattle.fact_code_laws.specs.Tests.{read_into}
use Rattle.fact_emit.specs.declared.places.Sides.{Sides}
use Rattle.fact_emit.specs.declared.string_locals.StringLocals.{StringLocals}
use Rattle.fact_emit.specs.declared.writer.Writer.{Writer}
use Rattle.fact_emit.specs.Choices.{code_of_bodies}
use Rattle.fact_emit.specs.Checks.{ChecksRegion}
use Rattle.fact_emit.specs.Emits.{Emits, Grew, GrewAside, Later}
use Rattle.fact_emit.specs.Imports.{AreOnce}
use Rattle.fact_emit.specs.NamedFunctions.{defined_place, functions_named}
use Rattle.fact_emit.specs.Pairs.{ReadsPair, length_from, put_pair_code}
use Rattle.fact_emit.specs.Places.{checks_at}
use Rattle.fact_emit.specs.StringPieces.{IsPart, NeedsBoth, NeedsTrapIf, StringPiece, WroteString}
use Rattle.fact_emit.specs.Writers.{Began, EndedBody, Wrote}
use Rattle.fact_emit.proofs.BroughtLaws.{brought_as, brought_between}
use Rattle.fact_emit.proofs.ChosenBodies.{aside_does, aside_grew, aside_on, table_named, table_ranged}
use Rattle.fact_emit.proofs.Emitting.{emits_nothing, emits_then, same_locals, same_still, same_types, sooner, still_numbers}
use Rattle.fact_emit.proofs.ImportLaws.{extended_none, extended_on, grows_on}
use Rattle.fact_emit.proofs.StringParts.{Part, from_region, piece_as, piece_behind, piece_code, piece_front, piece_needs, piece_then}
use Rattle.fact_emit.proofs.StringRanged.{put_pair_ranged, tag_ranged, times_ranged, untag_ranged, zero_ranged}
use Rattle.fact_emit.proofs.RangedCode.{set_ranged}

-- ---- a test that was written aside

-- the code is what it was
pub wrote_aside : {a b c d : Writer} {outer body xs : List Instr} → Began a b outer → Wrote b c xs → EndedBody c d outer body → Wrote a d []
wrote_aside {a} began w ended = record { code = ended.code ∙ began.outer ∙ sym (append-nil a.code.items); locals = ended.locals ∙ w.locals ∙ began.locals; imports = ended.imports ∙ w.imports ∙ began.imports }

-- and the body is what was written
pub body_wrote : {a b c d : Writer} {outer body xs : List Instr} → Began a b outer → Wrote b c xs → EndedBody c d outer body → body ≡ xs
body_wrote {xs = xs} began w ended = ended.body ∙ w.code ∙ ap (λ c. c ++ xs) began.code

-- ---- one of two bodies

two_bodies : (other one : List Instr) → code_of_bodies (other ∷ one ∷ []) ≡ other ++ one
two_bodies other one = ap (λ c. other ++ c) (append-nil one)

-- `one` is run where the test gives no 0, and else `other`.
module _ (test one other : List Instr) (ranged : AreRanged 0 0 test) where
  either_named : functions_named (either_code test one other) ≡ functions_named (other ++ one)
  either_named = table_named test ranged 1 (other ∷ one ∷ []) ∙ ap functions_named (two_bodies other one)

  either_ranged : (n k : ℕ) → AreRanged n k (other ++ one) → AreRanged n k (either_code test one other)
  either_ranged n k h = table_ranged test ranged n k 1 (other ∷ one ∷ []) (subst (AreRanged n k) (sym (two_bodies other one)) h)

  -- Two bodies were written aside, first the one that is run where the test gives 0, and then the choice.
  pub either_grew : {a b c d : Writer} → Wrote a b [] → GrewAside b c (other ++ one) → Wrote c d (either_code test one other) → Grew a d
  either_grew {a} {b} {c} {d} tested aside chosen = record {
    added = either_code test one other;
    code = chosen.code ∙ ap (λ code. code ++ either_code test one other) (aside.code ∙ tested.code ∙ append-nil a.code.items);
    calls = ap (filter_map defined_place) either_named ∙ aside.calls;
    brought = brought_as either_named either_ranged (brought_between tested.imports (sym chosen.imports) aside.brought);
    imports = extended_on (extended_none tested.imports) (extended_on aside.imports (extended_none chosen.imports));
    once = λ o. subst AreOnce (sym chosen.imports) (aside.once (subst AreOnce (sym tested.imports) o));
    locals = grows_on (same_locals a b tested.locals) (grows_on aside.locals (same_locals c d chosen.locals));
    numbers = λ n. still_numbers c d (same_types c d chosen.locals) (aside.numbers (still_numbers a b (same_types a b tested.locals) n));
    still = λ j. same_still c d chosen.locals j ∙ aside.still j ∙ same_still a b tested.locals j;
  }

module _ {sides : Sides} {l : StringLocals} where
  -- the same of parts
  pub either_put : {a b c d e f g h i : Writer} {test one other outer outer' : List Instr} {T Y Z : Part} {N O : Needs} → AreRanged 0 0 test → IsPart sides l T test → Wrote a b []
      → Began b c outer → Emits c d (StringPiece sides l Z O) → EndedBody d e outer other → Began e f outer' → Emits f g (StringPiece sides l Y N) → EndedBody g h outer' one
      → Wrote h i (either_code test one other) → Emits a i (StringPiece sides l (λ m. either_code (T m) (Y m) (Z m)) (NeedsBoth N O))
  unfolding either_grew
  either_put {e = e} {h = h} {i} {test} {one} {other} ranged is tested began other_put ended began' one_put ended' chosen =
      let second = aside_grew began' ended' one_put.grew in
      record {
        grew = either_grew test one other ranged tested (aside_on (aside_grew began ended other_put.grew) second) chosen;
        does = λ M p locals later none.
            let last : Later h M p locals = sooner {a = h} (extended_none chosen.imports) (same_locals h i chosen.locals) later in
            let before : Later e M p locals = sooner {a = e} second.imports second.locals last in
            let y = aside_does began' ended' one_put M p locals last none in
            let z = aside_does began ended other_put M p locals before none in
            record {
              is = λ d e h. (λ j. either_code (is.is p d e j) (y.is d e h j) (z.is d e h j));
              has = λ d e h. (y.has d e h, z.has d e h);
            };
      }

  -- ---- paths

  pub path_put : {a c : Writer} (align : ℕ) {q q' : Path} → q ≡ q' → Emits a c (StringPiece sides l (λ m. path_code m align q') (NeedsPath align q')) → Emits a c (StringPiece sides l (λ m. path_code m align q) (NeedsPath align q))
  path_put {a} {c} align is x = subst (λ q. Emits a c (StringPiece sides l (λ m. path_code m align q) (NeedsPath align q))) (sym is) x

  pub end_put : (a : Writer) (align : ℕ) {q : Path} → q ≡ End → Emits a a (StringPiece sides l (λ m. path_code m align q) (NeedsPath align q))
  end_put a align is = path_put align {q' = End} is (emits_nothing (λ M p locals. record { is = λ d e h. refl; has = λ d e h. tt }))

  -- one step, and those behind it
  module _ {a b c : Writer} (align : ℕ) {q next : Path} where
    pub limit_put : {factor : ℕ} → q ≡ Limit factor next → Emits a b (StringPiece sides l (λ m. guard_code (limit_code m.temporaries.units factor) (m.trap StringOutOfBounds)) (NeedsTrap StringOutOfBounds))
        → Emits b c (StringPiece sides l (λ m. path_code m align next) (NeedsPath align next)) → Emits a c (StringPiece sides l (λ m. path_code m align q) (NeedsPath align q))
    limit_put {factor} is x y = path_put align {q' = Limit factor next} is (piece_then x y)

    pub resize_put : {from to : Amount} → q ≡ Resize from to next → Emits a b (StringPiece sides l (λ m. resize_code m align from to) (NeedsRequest align))
        → Emits b c (StringPiece sides l (λ m. path_code m align next) (NeedsPath align next)) → Emits a c (StringPiece sides l (λ m. path_code m align q) (NeedsPath align q))
    resize_put {from} {to} is x y = path_put align {q' = Resize from to next} is (piece_then x y)

    pub pass_put : {o : Transcode} {rest : Bool} {room : ℕ} → q ≡ Pass o rest room next → Emits a b (StringPiece sides l (λ m. pass_code m o rest room) (NeedsTranscoder o))
        → Emits b c (StringPiece sides l (λ m. path_code m align next) (NeedsPath align next)) → Emits a c (StringPiece sides l (λ m. path_code m align q) (NeedsPath align q))
    pass_put {o} {rest} {room} is x y = path_put align {q' = Pass o rest room next} is (piece_then x y)

    pub choice_put : {t : Test} {if_true if_false : Path} → q ≡ If t if_true if_false next
        → Emits a b (StringPiece sides l (λ m. either_code (test_code m t) (path_code m align if_true) (path_code m align if_false)) (NeedsBoth (NeedsPath align if_true) (NeedsPath align if_false)))
        → Emits b c (StringPiece sides l (λ m. path_code m align next) (NeedsPath align next)) → Emits a c (StringPiece sides l (λ m. path_code m align q) (NeedsPath align q))
    choice_put {t} {if_true} {if_false} is x y = path_put align {q' = If t if_true if_false next} is (piece_needs (λ m M p d e h. (h.0.0, h.0.1, h.1)) (piece_then x y))

    pub assert_put : {t : Trap} {test : Test} → q ≡ Assert t test next → Emits a b (StringPiece sides l (λ m. assert_code m t test) (NeedsTrapIf t))
        → Emits b c (StringPiece sides l (λ m. path_code m align next) (NeedsPath align next)) → Emits a c (StringPiece sides l (λ m. path_code m align q) (NeedsPath align q))
    assert_put {t} {test} is x y = path_put align {q' = Assert t test next} is (piece_then x y)

    pub tag_put : q ≡ Tag next → Wrote a b (I.LocalGet l.written ∷ I.I64Const utf16_tag ∷ I.I64Or ∷ I.LocalSet l.written ∷ [])
        → Emits b c (StringPiece sides l (λ m. path_code m align next) (NeedsPath align next)) → Emits a c (StringPiece sides l (λ m. path_code m align q) (NeedsPath align q))
    tag_put is w y = path_put align {q' = Tag next} is (piece_as (λ p d e. refl) (piece_behind (piece_code (tag_ranged l.written) w) y))

  -- ---- whole texts

  pub text_checked : {a b c d : Writer} {bytes align : ℕ} (f : TextForm) → bytes ≡ bytes_of_form f → align ≡ align_of_form f → Wrote a b (times_code sides.from.memory64 bytes l.units) → Wrote b c (I.LocalSet l.bytes ∷ [])
      → Emits c d (ChecksRegion sides.from align l.source l.bytes l.length StringOutOfBounds) → Emits a d (StringPiece sides l (λ m. check_text_code m f) (NeedsRegion (align_of_form f)))
  text_checked {a} {b} {c} {d} f bytes_are align_is times set checks =
      piece_as (λ p d e. refl) (piece_behind (piece_code (times_ranged sides.from.memory64 (bytes_of_form f) l.units) (subst (λ n. Wrote a b (times_code sides.from.memory64 n l.units)) bytes_are times))
      (piece_behind (piece_code (set_ranged l.bytes) set) (from_region (subst (λ n. Emits c d (ChecksRegion sides.from n l.source l.bytes l.length StringOutOfBounds)) align_is checks))))

  pub text_put : {a b c d e f : Writer} (form : TextForm) {q : Path} → q ≡ path form sides.to.encoding → Emits a b (StringPiece sides l (λ m. check_text_code m form) (NeedsRegion (align_of_form form)))
      → Wrote b c (I.I64Const 0 ∷ I.LocalSet l.read ∷ []) → Wrote c d (I.I64Const 0 ∷ I.LocalSet l.region ∷ []) → Wrote d e (I.I64Const 0 ∷ I.LocalSet l.written ∷ [])
      → Emits e f (StringPiece sides l (λ m. path_code m (align_of sides.to.encoding) q) (NeedsPath (align_of sides.to.encoding) q))
      → Emits a f (StringPiece sides l (λ m. text_code m form sides.to.encoding) (NeedsText form sides.to.encoding))
  text_put {e = e} {f} form {q} is checked read region written steps =
      let align : ℕ = align_of sides.to.encoding in
      let same = subst (λ q. Emits e f (StringPiece sides l (λ m. path_code m align q) (NeedsPath align q))) is steps in
      piece_needs (λ m M p d e h. record { source = h.0; path = h.1 }) (piece_as (λ p d e. refl) (piece_then checked
      (piece_behind (piece_code (zero_ranged l.read) read) (piece_behind (piece_code (zero_ranged l.region) region) (piece_behind (piece_code (zero_ranged l.written) written) same)))))

  pub untagged_put : {a b c : Writer} {P : Part} {N : Needs} → Wrote a b (untag_code l.units) → Emits b c (StringPiece sides l P N) → Emits a c (StringPiece sides l (λ m. untag_code m.temporaries.units ++ P m) N)
  untagged_put w x = piece_as (λ p d e. refl) (piece_behind (piece_code (untag_ranged l.units) w) x)

  -- a text by the encoding of its source
  pub encoded_as : {a b : Writer} {from : StringEncoding} → sides.from.encoding ≡ from → Emits a b (StringPiece sides l (λ m. encoded_code m from sides.to.encoding) (NeedsEncoded from sides.to.encoding))
      → Emits a b (StringPiece sides l (λ m. encoded_code m sides.from.encoding sides.to.encoding) (NeedsEncoded sides.from.encoding sides.to.encoding))
  encoded_as {a} {b} is x = subst (λ from. Emits a b (StringPiece sides l (λ m. encoded_code m from sides.to.encoding) (NeedsEncoded from sides.to.encoding))) (sym is) x

  module _ {a b : Writer} where
    pub utf8_put : sides.from.encoding ≡ string.Utf8 → Emits a b (StringPiece sides l (λ m. text_code m AsUtf8 sides.to.encoding) (NeedsText AsUtf8 sides.to.encoding))
        → Emits a b (StringPiece sides l (λ m. encoded_code m sides.from.encoding sides.to.encoding) (NeedsEncoded sides.from.encoding sides.to.encoding))
    utf8_put is x = encoded_as {from = string.Utf8} is (piece_needs (λ m M p d e h. (h, tt)) x)

    pub utf16_put : sides.from.encoding ≡ string.Utf16 → Emits a b (StringPiece sides l (λ m. text_code m AsUtf16 sides.to.encoding) (NeedsText AsUtf16 sides.to.encoding))
        → Emits a b (StringPiece sides l (λ m. encoded_code m sides.from.encoding sides.to.encoding) (NeedsEncoded sides.from.encoding sides.to.encoding))
    utf16_put is x = encoded_as {from = string.Utf16} is (piece_needs (λ m M p d e h. (h, tt)) x)

    pub compact_put : sides.from.encoding ≡ string.CompactUtf16 → Emits a b (StringPiece sides l (λ m. encoded_code m string.CompactUtf16 sides.to.encoding) (NeedsBoth (NeedsText AsCompactLatin1 sides.to.encoding) (NeedsText AsCompactUtf16 sides.to.encoding)))
        → Emits a b (StringPiece sides l (λ m. encoded_code m sides.from.encoding sides.to.encoding) (NeedsEncoded sides.from.encoding sides.to.encoding))
    compact_put is x = encoded_as {from = string.CompactUtf16} is (piece_needs (λ m M p d e h. (h.0, (h.1, tt))) x)

-- ---- the whole move

pub wrote_string : {a b c d : Writer} {sides : Sides} {l : StringLocals} {src : From} {dst : To} → Emits a b (ReadsPair sides.debug sides.from.memory64 l.source l.units src)
    → Emits b c (StringPiece sides l (λ m. encoded_code m sides.from.encoding sides.to.encoding) (NeedsEncoded sides.from.encoding sides.to.encoding)) → Wrote c d (put_pair_code sides.to.memory64 l.region l.written dst)
    → Emits a d (WroteString sides l src dst)
wrote_string {sides = sides} {l} {src} {dst} read put pair =
    let puts : List Instr = put_pair_code sides.to.memory64 l.region l.written dst in
    emits_then {Q = λ M p locals k. StringPiece sides l (λ m. encoded_code m sides.from.encoding sides.to.encoding ++ puts) (NeedsEncoded sides.from.encoding sides.to.encoding) M p locals k} (λ M p locals c k r s. record {
      has_pointer = r.has_pointer;
      has_length = r.has_length;
      is = λ d e h. (λ i. r.is i ++ s.is d e h i) ∙ append_assoc (read_into (checks_at sides.debug p) sides.from.memory64 src l.source) (read_into (checks_at sides.debug p) sides.from.memory64 (length_from sides.from.memory64 src) l.units) _;
      has = s.has;
    }) read (piece_front put (piece_code (put_pair_ranged sides.to.memory64 l.region l.written dst) pair))
