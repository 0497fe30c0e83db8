-- Moves of strings, from any encoding to any.
use Rattle.std.proofs.Common.{◌≡◌, ℕ, zero, suc, ◌+◌, ◌-◌, ◌*◌, ◌%◌, ◌^◌, ◌<◌, Bool, true, false, List, [], ◌∷◌, ◌++◌, length, Option, Some, None, refl, sym, ap, ◌∙◌, subst, arith, append_assoc, slice_get}
use Rattle.std.specs.Prelude.{nat_eq, nat_le, not, bit_and, if◌then◌else◌}
use Rattle.fact_wasm.specs.declared.types.ValType.TheVariants as val
use Rattle.fact_wasm.specs.declared.instr.Instr.{Instr}
use Rattle.fact_wasm.specs.declared.instr.Instr.TheVariants as I
use Rattle.fact_types.specs.declared.outside.CoreDef.{CoreDef}
use Rattle.fact_types.specs.declared.outside.FixedEncoding.TheVariants.{Utf16, Latin1}
use Rattle.fact_types.specs.declared.outside.MemoryOption.{MemoryOption}
use Rattle.fact_types.specs.declared.outside.StringEncoding.{StringEncoding}
use Rattle.fact_types.specs.declared.outside.StringEncoding.TheVariants as string
use Rattle.fact_types.specs.declared.outside.Transcode.{Transcode}
use Rattle.fact_types.specs.declared.outside.Trap.{Trap}
use Rattle.fact_types.specs.declared.outside.Trap.TheVariants.{StringOutOfBounds, UnalignedPointer}
use Rattle.fact_types.specs.declared.import.Import.TheVariants as import
use Rattle.fact_types.specs.Adapters.{is_wide}
use Rattle.fact_types.specs.Signatures.{pointer_bytes, width}
use Rattle.fact_machine.specs.declared.types.CoreValue.{CoreValue}
use Rattle.fact_machine.specs.declared.types.CoreValue.TheVariants.{I32, I64}
use Rattle.fact_machine.specs.Numerics.{truth}
use Rattle.fact_machine.specs.Typing.{address_bits, address_type}
use Rattle.fact_machine.specs.World.{World}
use Rattle.fact_values.specs.Texts.{Form, form_of, byte_length, has_tag, utf16_tag}
use Rattle.fact_actions.specs.Actions as action
use Rattle.fact_actions.specs.Actions.{Action, Give, Visit, MemoryLength, ◌>>=◌, unless}
use Rattle.fact_actions.specs.Paths.{TextForm, AsUtf8, AsUtf16, AsCompactLatin1, AsCompactUtf16, align_of, path}
use Rattle.fact_actions.specs.Running.{ImportPlaces, or_strayed, run}
use Rattle.fact_actions.specs.Sides.{LiftLowerOptions, Transfer, Source, Target, wrap, read_number, write_number, nth_part, nth_spot, check_region, bytes_of_addresses}
use Rattle.fact_actions.specs.Strings.{PathPoint, path_start, walk, form_in, check_text, move_string}
use Rattle.fact_code_laws.specs.Does.{Locals, Onward, held_types, Does, PushesValue}
use Rattle.fact_code_laws.specs.Knows.{KnowsFunction}
use Rattle.fact_code_laws.specs.Lists.{put_code}
use Rattle.fact_code_laws.specs.Places.{Setting, transfer, Readable, Writable, FromUsed, ToUsed, FromTyped, ToTyped, SideMemory, StandsAt, MayGo, Stood, KeepsLocals, Moves, size_of, limit_of}
use Rattle.fact_code_laws.specs.StringCode.{StringMove, times_code, no_tag_code, untag_code, align_of_form, bytes_of_form, begin_path_code, path_code, text_code, encoded_code, string_code}
use Rattle.fact_code_laws.specs.StringNeeds.{NeedsText, NeedsEncoded}
use Rattle.fact_code_laws.specs.Tests.{pointer_of_width, region_code}
use Rattle.fact_code_laws.specs.Typed.{OnStack, IsTyped}
use Rattle.fact_code_laws.proofs.Rules.{within, visit, in_turn, pushing}
use Rattle.fact_code_laws.proofs.Blocks.{mapped, same_run, cases}
use Rattle.fact_code_laws.proofs.Aligned.{aligns_one, aligns_two}
use Rattle.fact_code_laws.proofs.Keeping.{keeps_all, keeps_then}
use Rattle.fact_code_laws.proofs.Temporaries.{Temporaries, standing, Standing, set_temp}
use Rattle.fact_code_laws.proofs.TypingLaws.{typed_then}
use Rattle.fact_code_laws.proofs.Pointers.{limit_wide, reads_into, region}
use Rattle.fact_code_laws.proofs.Pairs.{PairFrom, PairTo, all_from, first_from, second_from, all_to, first_to, second_to, stands_first, stands_second, behind_first, IsApart, goes_first, goes_second, first_stays, both_stand}
use Rattle.fact_code_laws.proofs.UsedLocals.{with_local, local_here, local_more}
use Rattle.fact_code_laws.proofs.ListCode.{puts}
use Rattle.fact_code_laws.proofs.ListMoves.{less_used}
use Rattle.fact_code_laws.proofs.ListNodes.{wide_is, used_more, used_behind, behind_more}
use Rattle.fact_code_laws.proofs.ListTyped.{typed_read_into, typed_put}
use Rattle.fact_code_laws.proofs.StringAmounts.{below_width, gets_times}
use Rattle.fact_code_laws.proofs.StringPoints.{string_temp, string_type, IsStringMove, KnowsRealloc, AtPoint}
use Rattle.fact_code_laws.proofs.StringNumbers.{pushes_no_tag, pushes_untagged}
use Rattle.fact_code_laws.proofs.StringPaths.{texts_walk}
use Rattle.fact_code_laws.proofs.StringPasses.{passes}
use Rattle.fact_code_laws.proofs.StringRegions.{resizes}
use Rattle.fact_code_laws.proofs.StringTyped.{typed_encoded}

-- ---- places

-- Where a string's pointer and length stand and go, its temporaries, and the places of what its code calls. The temporaries are, by their
-- numbers: the pointer and the units of the source, how many units are read, the region, what is written, the bytes of the region and of
-- the one before it, the length of a memory, and what the two slots of the context held.
pub record StringPlaces : Type 0 where
  pub from : PairFrom
  pub to : PairTo
  pub memory1 : ℕ
  pub memory2 : ℕ
  pub temp : ℕ → ℕ
  pub realloc : CoreDef
  pub realloc_at : ℕ
  pub get0 : ℕ
  pub get1 : ℕ
  pub set0 : ℕ
  pub set1 : ℕ
  pub trap : Trap → ℕ
  pub transcoder : Transcode → ℕ

-- a string's move between memories with these page sizes
abbrev pub string_at : Setting → StringPlaces → (from_log2 to_log2 : Option ℕ) → StringMove
string_at S b from_log2 to_log2 = record {
  from64 = S.from64;
  from_memory = b.memory1;
  from_log2 = from_log2;
  to64 = S.to64;
  to_memory = b.memory2;
  to_log2 = to_log2;
  realloc = Some b.realloc_at;
  concurrency = S.concurrency;
  slots = record { get0 = b.get0; get1 = b.get1; set0 = b.set0; set1 = b.set1; saved0 = b.temp 8; saved1 = b.temp 9 };
  checks = S.checks;
  trap = b.trap;
  transcoder = b.transcoder;
  temporaries = record { source = b.temp 0; units = b.temp 1; read = b.temp 2; region = b.temp 3; written = b.temp 4; bytes = b.temp 5; before = b.temp 6; length = b.temp 7 };
}

-- what its code needs of its setting
pub record IsString (S : Setting) (used : ℕ → Bool) (b : StringPlaces) : Type 0 where
  pub temps : Temporaries S.locals used 10 b.temp string_type
  pub side1 : SideMemory S.whole S.places S.from S.from64 b.memory1
  pub side2 : SideMemory S.whole S.places S.to S.to64 b.memory2
  pub realloc_is : S.to.realloc ≡ Some b.realloc
  pub reallocs : KnowsFunction S.whole S.places (import.CoreDef b.realloc) b.realloc_at (address_type S.to64 ∷ address_type S.to64 ∷ address_type S.to64 ∷ address_type S.to64 ∷ []) (address_type S.to64 ∷ [])
  pub needs : NeedsEncoded S.from.encoding S.to.encoding (string_at S b side1.log2 side2.log2) S.whole S.places side1.option.def side2.option.def
  pub readable1 : Readable S.whole S.places S.checks S.from S.from64 (pointer_of_width S.from64) (first_from b.from)
  pub readable2 : Readable S.whole S.places S.checks S.from S.from64 (pointer_of_width S.from64) (second_from (size_of (pointer_of_width S.from64)) b.from)
  pub from_used1 : FromUsed used (first_from b.from)
  pub from_used2 : FromUsed used (second_from (size_of (pointer_of_width S.from64)) b.from)
  pub from_typed1 : FromTyped S.locals S.from64 (first_from b.from)
  pub from_typed2 : FromTyped S.locals S.from64 (second_from (size_of (pointer_of_width S.from64)) b.from)
  pub writable1 : Writable S.whole S.places S.to S.to64 (pointer_of_width S.to64) (first_to b.to)
  pub writable2 : Writable S.whole S.places S.to S.to64 (pointer_of_width S.to64) (second_to (size_of (pointer_of_width S.to64)) b.to)
  pub to_used : ToUsed used (all_to b.to)
  pub to_typed1 : ToTyped S.locals S.to64 (first_to b.to)
  pub to_typed2 : ToTyped S.locals S.to64 (second_to (size_of (pointer_of_width S.to64)) b.to)
  -- what is written outlives the writing of the pointer
  pub apart : IsApart (b.temp 4) b.to

-- ---- the action

-- a string's move, over the bytes of the addresses of its sides
abbrev string_with : Transfer → (n1 n2 : ℕ) → Source → Target → Action (List CoreValue)
string_with tr n1 n2 s d =
    read_number tr.debug tr.from n1 (nth_part 1 n1 0 s) (λ p.
    read_number tr.debug tr.from n1 (nth_part 1 n1 1 s) (λ n.
    check_text tr.from (form_of tr.from.encoding n) p (
    walk tr (path (form_in tr.from.encoding n) tr.to.encoding) (path_start p (form_of tr.from.encoding n).units) >>= (λ v.
    write_number tr.to n2 (nth_spot 1 n2 0 d) v.region >>= (λ a. write_number tr.to n2 (nth_spot 1 n2 1 d) v.written >>= (λ b. Give (a ++ b)))))))

pointer_bytes_is : (memory64 : Bool) → pointer_bytes (width memory64) ≡ size_of (pointer_of_width memory64)
pointer_bytes_is true = refl
pointer_bytes_is false = refl

string_is : (tr : Transfer) (w1 w2 : Bool) (s : Source) (d : Target) → is_wide tr.from.memory ≡ w1 → is_wide tr.to.memory ≡ w2 → move_string tr s d ≡ string_with tr (size_of (pointer_of_width w1)) (size_of (pointer_of_width w2)) s d
string_is tr w1 w2 s d h1 h2 =
    ap (λ n. string_with tr n (bytes_of_addresses tr.to) s d) (ap (λ w. pointer_bytes (width w)) h1 ∙ pointer_bytes_is w1)
    ∙ ap (λ n. string_with tr (size_of (pointer_of_width w1)) n s d) (ap (λ w. pointer_bytes (width w)) h2 ∙ pointer_bytes_is w2)

-- A check of a region, and then what is behind it: what is done with what that gives may be done behind the check.
module _ {A B : Type 0} (p : ImportPlaces) (t : Trap) (at bytes : ℕ) (q : Action A) (g : A → Action B) where
  unless_then : (u : Trap) (b : Bool) → (unless u b q >>= g) ≡ unless u b (q >>= g)
  unless_then u true = refl
  unless_then u false = refl

  within_then : (w : World) (o : Option MemoryOption)
      → run p (elim o as (λ (o : Option MemoryOption). Action A) [ None ↦ action.Unreachable | Some m ↦ MemoryLength m.def (λ length. unless t (nat_le (at + bytes) length) q) ] >>= g) w
      ≡ run p (elim o as (λ (o : Option MemoryOption). Action B) [ None ↦ action.Unreachable | Some m ↦ MemoryLength m.def (λ length. unless t (nat_le (at + bytes) length) (q >>= g)) ]) w
  within_then w None = refl
  within_then w (Some m) = by_bytes (slice_get w.state.memories (p.memory m.def))
    where
      by_bytes : (x : Option (List ℕ)) → or_strayed w x (λ bs. run p (unless t (nat_le (at + bytes) (length bs)) q >>= g) w) ≡ or_strayed w x (λ bs. run p (unless t (nat_le (at + bytes) (length bs)) (q >>= g)) w)
      by_bytes None = refl
      by_bytes (Some bs) = ap (λ r. run p r w) (unless_then t (nat_le (at + bytes) (length bs)))

  checked_then : (o : LiftLowerOptions) (align : ℕ) (w : World) → run p (check_region o t at bytes align q >>= g) w ≡ run p (check_region o t at bytes align (q >>= g)) w
  checked_then o align w = by_flag (nat_eq (at % align) 0)
    where
      inner : Action A
      inner = elim o.memory as (λ (o : Option MemoryOption). Action A) [ None ↦ action.Unreachable | Some m ↦ MemoryLength m.def (λ length. unless t (nat_le (at + bytes) length) q) ]

      outer : Action B
      outer = elim o.memory as (λ (o : Option MemoryOption). Action B) [ None ↦ action.Unreachable | Some m ↦ MemoryLength m.def (λ length. unless t (nat_le (at + bytes) length) (q >>= g)) ]

      by_flag : (b : Bool) → run p (unless UnalignedPointer b inner >>= g) w ≡ run p (unless UnalignedPointer b outer) w
      by_flag true = within_then w o.memory
      by_flag false = refl

-- the form of a text in the compact form
abbrev form_by : ℕ → Bool → Form
form_by n t = if t then record { encoding = Utf16; align = 2; units = n - utf16_tag } else record { encoding = Latin1; align = 2; units = n }

-- ---- what the code does

masks_of_form : (f : TextForm) (n : ℕ) → bit_and n (align_of_form f - 1) ≡ n % align_of_form f
masks_of_form AsUtf8 = aligns_one.masks
masks_of_form AsUtf16 = aligns_two.masks
masks_of_form AsCompactLatin1 = aligns_two.masks
masks_of_form AsCompactUtf16 = aligns_two.masks

masks_of_encoding : (to : StringEncoding) (n : ℕ) → bit_and n (align_of to - 1) ≡ n % align_of to
masks_of_encoding string.Utf8 = aligns_one.masks
masks_of_encoding string.Utf16 = aligns_two.masks
masks_of_encoding string.CompactUtf16 = aligns_two.masks

-- the temporaries by their numbers
temps_same : (S : Setting) (b : StringPlaces) (x y : Option ℕ) (j : ℕ) → j < 10 → string_temp (string_at S b x y) j ≡ b.temp j
temps_same S b x y zero lt = refl
temps_same S b x y (suc zero) lt = refl
temps_same S b x y (suc (suc zero)) lt = refl
temps_same S b x y (suc (suc (suc zero))) lt = refl
temps_same S b x y (suc (suc (suc (suc zero)))) lt = refl
temps_same S b x y (suc (suc (suc (suc (suc zero))))) lt = refl
temps_same S b x y (suc (suc (suc (suc (suc (suc zero)))))) lt = refl
temps_same S b x y (suc (suc (suc (suc (suc (suc (suc zero))))))) lt = refl
temps_same S b x y (suc (suc (suc (suc (suc (suc (suc (suc zero)))))))) lt = refl
temps_same S b x y (suc (suc (suc (suc (suc (suc (suc (suc (suc zero))))))))) lt = refl
temps_same S b x y (suc (suc (suc (suc (suc (suc (suc (suc (suc (suc j)))))))))) lt = absurd (omega (arith, lt))

module _ (S : Setting) (used : ℕ → Bool) (b : StringPlaces) (h : IsString S used b) where
  abbrev pub moved_string : StringMove
  moved_string = string_at S b h.side1.log2 h.side2.log2

  is_string_move : IsStringMove S used moved_string h.side1.option h.side2.option
  is_string_move = record {
    temps = record {
      distinct = λ i j li lj same. h.temps.distinct i j li lj (sym (temps_same S b h.side1.log2 h.side2.log2 i li) ∙ same ∙ temps_same S b h.side1.log2 h.side2.log2 j lj);
      typed = λ j lt. ap (λ i. slice_get S.locals i) (temps_same S b h.side1.log2 h.side2.log2 j lt) ∙ h.temps.typed j lt;
      free = λ j lt. ap used (temps_same S b h.side1.log2 h.side2.log2 j lt) ∙ h.temps.free j lt;
    };
    side1 = record { is = h.side1.is; wide = h.side1.wide; has = h.side1.has };
    side2 = record { is = h.side2.is; wide = h.side2.wide; has = h.side2.has };
    realloc = subst (λ r. KnowsRealloc S.whole S.places S.to64 r (Some b.realloc_at)) (sym h.realloc_is) h.reallocs;
  }

  module _ (first : Locals) (e : held_types first ≡ S.locals) where
    -- a text of a form, whose pointer and units stand in their temporaries
    text_does : (f : TextForm) (p n : ℕ) {ls : Locals} → Standing used 10 (string_temp moved_string) first ls ((1, I64 n) ∷ (0, I64 p) ∷ []) → p < limit_of (pointer_of_width S.from64) → n < 2 ^ 64 → NeedsText f S.to.encoding moved_string S.whole S.places h.side1.option.def h.side2.option.def
        → Does S.whole S.places Onward 293 0 [] ls (text_code moved_string f S.to.encoding)
        (check_region S.from StringOutOfBounds p (wrap S.from (n * bytes_of_form f)) (align_of_form f) (walk (transfer S) (path f S.to.encoding) (path_start p n))) (λ u. []) (λ u ls'. AtPoint used moved_string first u ls')
    text_does f p n {ls} s lp ln needs =
        let bytes : ℕ = (bytes_of_form f * n) % 2 ^ address_bits S.from64 in
        let go : Action PathPoint = walk (transfer S) (path f S.to.encoding) (path_start p n) in
        let rest = begin_path_code moved_string ++ path_code moved_string (align_of S.to.encoding) (path f S.to.encoding) in
        let check = region_code b.memory1 S.from64 h.side1.log2 (align_of_form f) (b.temp 0) (b.temp 5) (b.temp 7) (b.trap UnalignedPointer) (b.trap StringOutOfBounds) in
        let times = times_code S.from64 (bytes_of_form f) (b.temp 1) in
        let is : bytes ≡ wrap S.from (n * bytes_of_form f) = ap (λ w. (bytes_of_form f * n) % 2 ^ address_bits w) (sym (wide_is h.side1)) ∙ ap (λ k. wrap S.from k) (omega arith) in
        subst (λ c. Does S.whole S.places Onward 293 0 [] ls c (check_region S.from StringOutOfBounds p (wrap S.from (n * bytes_of_form f)) (align_of_form f) go) (λ u. []) (λ u ls'. AtPoint used moved_string first u ls')) (sym (append_assoc times (I.LocalSet (b.temp 5) ∷ check) rest))
        (subst (λ k. Does S.whole S.places Onward 293 0 [] ls (times ++ (I.LocalSet (b.temp 5) ∷ (check ++ rest))) (check_region S.from StringOutOfBounds p k (align_of_form f) go) (λ u. []) (λ u ls'. AtPoint used moved_string first u ls')) is
        (within (omega arith) (gets_times S.from64 (bytes_of_form f) (b.temp 1) n s.holds.0 ln (set_temp is_string_move.temps e 5 (omega arith) refl s (λ ls1 s1.
        region is_string_move.temps e s1 S.from S.from64 b.memory1 (align_of_form f) h.side1 StringOutOfBounds 0 5 7 (b.trap UnalignedPointer) (b.trap StringOutOfBounds) p bytes (omega arith) (omega arith) (omega arith) (λ z. absurd (omega arith)) (λ z. absurd (omega arith)) refl (masks_of_form f)
        (omega (arith, lp, limit_wide S.from64)) (omega (arith, below_width S.from64 (bytes_of_form f * n), limit_wide S.from64)) s1.holds.1.1.0 s1.holds.0 needs.source.unaligned needs.source.outside (λ length fits inside ls2 s2.
        texts_walk is_string_move e (passes S used moved_string h.side1.option h.side2.option is_string_move first e) (resizes S used moved_string h.side1.option h.side2.option is_string_move first e (align_of S.to.encoding) (masks_of_encoding S.to.encoding)) f p n ls2 s2.keeps s2.holds.1.1.1.0 s2.holds.1.1.0 lp needs.path))))))

    -- what a text of an encoding does, once its pointer and its length are read
    abbrev TextDoes : (from : StringEncoding) (p n : ℕ) → Locals → Type 0
    TextDoes from p n ls =
        Does S.whole S.places Onward 308 0 [] ls (encoded_code moved_string from S.to.encoding)
        (check_text S.from (form_of from n) p (walk (transfer S) (path (form_in from n) S.to.encoding) (path_start p (form_of from n).units))) (λ u. []) (λ u ls'. AtPoint used moved_string first u ls')

    -- the same of the compact form, where the length has the tag or not
    abbrev Decided : (p n : ℕ) → Locals → Bool → Type 0
    Decided p n ls t =
        Does S.whole S.places Onward 308 0 [] ls (encoded_code moved_string string.CompactUtf16 S.to.encoding)
        (check_text S.from (form_by n t) p (walk (transfer S) (path (if t then AsCompactUtf16 else AsCompactLatin1) S.to.encoding) (path_start p (form_by n t).units)))
        (λ u. []) (λ u ls'. AtPoint used moved_string first u ls')

    abbrev compact_codes : List (List Instr)
    compact_codes = (untag_code (b.temp 1) ++ text_code moved_string AsCompactUtf16 S.to.encoding) ∷ text_code moved_string AsCompactLatin1 S.to.encoding ∷ []

    text_encoded : (from : StringEncoding) (p n : ℕ) {ls : Locals} → Standing used 10 (string_temp moved_string) first ls ((1, I64 n) ∷ (0, I64 p) ∷ []) → p < limit_of (pointer_of_width S.from64) → n < 2 ^ 64
        → NeedsEncoded from S.to.encoding moved_string S.whole S.places h.side1.option.def h.side2.option.def → TextDoes from p n ls
    text_encoded string.Utf8 p n s lp ln needs = within (omega arith) (text_does AsUtf8 p n s lp ln needs.0)
    text_encoded string.Utf16 p n s lp ln needs = within (omega arith) (text_does AsUtf16 p n s lp ln needs.0)
    text_encoded string.CompactUtf16 p n {ls} s lp ln needs = by_tag (has_tag n) refl
      where
        by_tag : (t : Bool) → has_tag n ≡ t → Decided p n ls t
        by_tag true is =
            let test = subst (λ t. PushesValue S.whole 6 ls (no_tag_code (b.temp 1)) (I32 (truth (not t)))) is (pushes_no_tag (b.temp 1) n s.holds.0) in
            within (omega arith) (cases (0 ∷ []) 1 0 compact_codes test refl
            (pushing (pushes_untagged (b.temp 1) n ln is s.holds.0) (set_temp is_string_move.temps e 1 (omega arith) refl s (λ ls1 s1. text_does AsCompactUtf16 p (n - utf16_tag) s1 lp (omega (arith, ln)) needs.1.0))))
        by_tag false is =
            let test = subst (λ t. PushesValue S.whole 6 ls (no_tag_code (b.temp 1)) (I32 (truth (not t)))) is (pushes_no_tag (b.temp 1) n s.holds.0) in
            within (omega arith) (cases (0 ∷ []) 1 1 compact_codes test refl (text_does AsCompactLatin1 p n s lp ln needs.0))

    -- the region and what is written go to their places
    pair_goes : (d : Target) → MayGo used first S.to64 (all_to b.to) d → {q n : ℕ} {ls : Locals} → KeepsLocals used first ls → q < limit_of (pointer_of_width S.to64) → n < limit_of (pointer_of_width S.to64)
        → slice_get ls (b.temp 3) ≡ Some (Some (I64 q)) → slice_get ls (b.temp 4) ≡ Some (Some (I64 n))
        → Does S.whole S.places Onward 10 0 [] ls (put_code S.to64 (b.temp 3) (first_to b.to) ++ put_code S.to64 (b.temp 4) (second_to (size_of (pointer_of_width S.to64)) b.to))
        (write_number S.to (size_of (pointer_of_width S.to64)) (nth_spot 1 (size_of (pointer_of_width S.to64)) 0 d) q >>= (λ x. write_number S.to (size_of (pointer_of_width S.to64)) (nth_spot 1 (size_of (pointer_of_width S.to64)) 1 d) n >>= (λ y. Give (x ++ y)))) (λ vs. []) (λ vs ls'. Stood ls' (all_to b.to) vs × KeepsLocals used first ls')
    pair_goes d g {q} {n} {ls} k lq ln hq hn =
        let bytes : ℕ = size_of (pointer_of_width S.to64) in
        let used1 : ℕ → Bool = with_local used (b.temp 4) in
        let used2 : ℕ → Bool = behind_first used b.to in
        in_turn (puts used1 S.to S.to64 (first_to b.to) (nth_spot 1 bytes 0 d) (b.temp 3) q h.writable1 (used_more used (b.temp 4) b.to h.to_used) (goes_first used S.to64 bytes (b.temp 4) k b.to d h.apart h.to_used g) keeps_all lq hq) (λ x ls1 r.
        let k1 : KeepsLocals used first ls1 = keeps_then k (less_used (λ i u. local_more used (b.temp 4) i u) r.1) in
        mapped (λ y. x ++ y) (λ y. refl) (λ y ls2 r2.
        (both_stand used bytes b.to ls2 x y (first_stays used bytes b.to ls1 ls2 x r2.1 r.0) r2.0, keeps_then k1 (less_used (behind_more used b.to) r2.1)))
        (puts used2 S.to S.to64 (second_to bytes b.to) (nth_spot 1 bytes 1 d) (b.temp 4) n h.writable2 (used_behind used bytes b.to h.to_used) (goes_second used S.to64 bytes (b.temp 4) k1 b.to d h.apart h.to_used g) keeps_all ln (r.1.same (b.temp 4) (local_here used (b.temp 4)) ∙ hn)))

    abbrev string_code_of : List Instr
    string_code_of = string_code moved_string S.from.encoding S.to.encoding (first_from b.from) (second_from (size_of (pointer_of_width S.from64)) b.from) (first_to b.to) (second_to (size_of (pointer_of_width S.to64)) b.to)

    -- a string's move
    string_does : (s : Source) (d : Target) → StandsAt first S.from64 (all_from b.from) s → MayGo used first S.to64 (all_to b.to) d
        → Does S.whole S.places Onward 338 0 [] first string_code_of (string_with (transfer S) (size_of (pointer_of_width S.from64)) (size_of (pointer_of_width S.to64)) s d) (λ vs. []) (λ vs ls'. Stood ls' (all_to b.to) vs × KeepsLocals used first ls')
    string_does s d st g =
        let n1 : ℕ = size_of (pointer_of_width S.from64) in
        let n2 : ℕ = size_of (pointer_of_width S.to64) in
        let temps = is_string_move.temps in
        within (omega arith) (reads_into temps e standing S.checks S.from S.from64 (first_from b.from) (nth_part 1 n1 0 s) 0 (omega arith) refl h.readable1 h.from_used1 (stands_first first S.from64 n1 b.from s st) (λ p lp ls0 s0.
        reads_into temps e s0 S.checks S.from S.from64 (second_from n1 b.from) (nth_part 1 n1 1 s) 1 (omega arith) refl h.readable2 h.from_used2 (stands_second first S.from64 n1 b.from s st) (λ n ln ls1 s1.
        let form : Form = form_of S.from.encoding n in
        let walked : Action PathPoint = walk (transfer S) (path (form_in S.from.encoding n) S.to.encoding) (path_start p form.units) in
        let puts_it : PathPoint → Action (List CoreValue) = λ v. write_number S.to n2 (nth_spot 1 n2 0 d) v.region >>= (λ x. write_number S.to n2 (nth_spot 1 n2 1 d) v.written >>= (λ y. Give (x ++ y))) in
        same_run (checked_then S.places StringOutOfBounds p (wrap S.from (byte_length form)) walked puts_it S.from form.align)
        (in_turn (text_encoded S.from.encoding p n s1 lp (omega (arith, ln, limit_wide S.from64)) h.needs) (λ v ls2 x. pair_goes d g x.keeps x.region_below x.written_below x.region x.written)))))

  -- The code is typed.
  typed_string : IsTyped S.whole S.locals [] (string_code moved_string S.from.encoding S.to.encoding (first_from b.from) (second_from (size_of (pointer_of_width S.from64)) b.from) (first_to b.to) (second_to (size_of (pointer_of_width S.to64)) b.to)) [] (OnStack [])
  typed_string =
      let wide : (j : ℕ) → j < 10 → string_type j ≡ val.I64 → slice_get S.locals (b.temp j) ≡ Some val.I64 = λ j lt i. h.temps.typed j lt ∙ ap (λ t. Some t) i in
      typed_then (typed_read_into S S.places S.from S.from64 (first_from b.from) (b.temp 0) h.readable1 h.from_typed1 (wide 0 (omega arith) refl))
      (typed_then (typed_read_into S S.places S.from S.from64 (second_from (size_of (pointer_of_width S.from64)) b.from) (b.temp 1) h.readable2 h.from_typed2 (wide 1 (omega arith) refl))
      (typed_then (typed_encoded is_string_move S.from.encoding S.to.encoding h.needs)
      (typed_then (typed_put S S.places S.to S.to64 (b.temp 3) (first_to b.to) h.writable1 h.to_typed1 (wide 3 (omega arith) refl))
      (typed_put S S.places S.to S.to64 (b.temp 4) (second_to (size_of (pointer_of_width S.to64)) b.to) h.writable2 h.to_typed2 (wide 4 (omega arith) refl)))))

  -- Code that moves a string, within the steps that one node has beside its checks.
  pub moves_string : Moves S used 0 516 (all_from b.from) (all_to b.to) (λ s d. Visit 1 (move_string (transfer S) s d))
      (string_code moved_string S.from.encoding S.to.encoding (first_from b.from) (second_from (size_of (pointer_of_width S.from64)) b.from) (first_to b.to) (second_to (size_of (pointer_of_width S.to64)) b.to))
  moves_string = record {
    effect = λ ls s d e st g rooms.
        subst (λ q. Does S.whole S.places Onward 0 516 [] ls (string_code_of ls e) (Visit 1 q) (λ vs. []) (λ vs ls'. Stood ls' (all_to b.to) vs × KeepsLocals used ls ls')) (sym (string_is (transfer S) S.from64 S.to64 s d (wide_is h.side1) (wide_is h.side2)))
        (visit (omega arith) (string_does ls e s d st g));
    typed = typed_string;
  }
