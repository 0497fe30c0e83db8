-- Texts past the limits of their forms: the table of limits, and how runs end that move such texts.
use Rattle.std.proofs.Common.{◌≡◌, ℕ, zero, suc, ◌*◌, ◌-◌, ◌/◌, ◌%◌, ◌^◌, ◌≤◌, ◌<◌, Bool, true, false, List, [], ◌∷◌, ◌++◌, length, take, drop, Some, None, refl, sym, ap, ◌∙◌, subst, arith, length-take, length-drop}
use Rattle.std.specs.Prelude.{map, nat_eq, nat_le, if◌then◌else◌}
use Rattle.std.proofs.lemmas.Bool.{eqb-true, leb-true, lt-leb}
use Rattle.std.proofs.Math.Nat.{div-le_self, mod-le, mul-le-mul}
use Rattle.fact_types.proofs.ShapeLaws.{same_some, none_some}
use Rattle.fact_types.specs.Adapters.{is_wide}
use Rattle.fact_types.specs.declared.import.Import.TheVariants as import
use Rattle.fact_types.specs.declared.outside.FixedEncoding.{FixedEncoding}
use Rattle.fact_types.specs.declared.outside.FixedEncoding.TheVariants.{Utf8, Utf16, Latin1}
use Rattle.fact_types.specs.declared.outside.MemoryOption.{MemoryOption}
use Rattle.fact_types.specs.declared.outside.StringEncoding.{StringEncoding}
use Rattle.fact_types.specs.declared.outside.StringEncoding.TheVariants as string
use Rattle.fact_types.specs.declared.outside.Transcode.{Transcode}
use Rattle.fact_types.specs.declared.outside.Transcode.TheVariants as op
use Rattle.fact_types.specs.declared.outside.Trap.TheVariants.{StringOutOfBounds, DebugAssertStringEncodingFinished}
use Rattle.fact_machine.specs.declared.types.Answer.TheVariants.{Returns}
use Rattle.fact_machine.specs.declared.types.CoreValue.{CoreValue}
use Rattle.fact_machine.specs.Typing.{address_bits}
use Rattle.fact_machine.specs.World.{World}
use Rattle.fact_values.specs.Lift.{bits_of}
use Rattle.fact_values.specs.Limits.{most_units}
use Rattle.fact_values.specs.Places.{Pair}
use Rattle.fact_values.specs.Numbers.{number_in}
use Rattle.fact_values.specs.Texts.{unit_bytes, AreSpelled, IsSpelled, byte_length, decoded, Form, form_of, spelled_text, text_of_form, units, units_of_text}
use Rattle.fact_actions.specs.Actions as action
use Rattle.fact_actions.specs.Actions.{Action, Give, Read, Ask, ◌>>=◌}
use Rattle.fact_actions.specs.Calls.{nth_number}
use Rattle.fact_actions.specs.Honest.{room_of}
use Rattle.fact_actions.specs.Paths.{Path, End, Limit, Resize, Pass, If, Assert, Amount, SourceUnits, WrittenUnits, AllRead, WrittenIs, cut, to_wide, TextForm, AsUtf8, AsUtf16, AsCompactLatin1, AsCompactUtf16, path}
use Rattle.fact_actions.specs.Regions.{Region}
use Rattle.fact_actions.specs.Running.{Call}
use Rattle.fact_actions.specs.Sides.{LiftLowerOptions, Transfer, Source, Values, AtAddress, first_bits, read_number, read_pair, nth_part, bytes_of_addresses, with_memory, wrap, write_pair}
use Rattle.fact_actions.specs.Strings.{PathPoint, path_start, check_text, choose_action, form_in, most_string_bytes, passed, source_args, target_args, walk}
use Rattle.fact_actions.specs.Transcoders.{TranscodeKind, AllUnits, Counted, Fitting, Narrow, Tagged, Widening, Room, IsHonestPass, StopsBy, from_encoding, numbers_answered, to_encoding, transcode_kind, transcode_types}
use Rattle.fact_actions.proofs.OwnParts.{bits_address}
use Rattle.fact_action_laws.specs.HonestMoves.{IsTranscoded}
use Rattle.fact_action_laws.specs.Places.{IsSource}
use Rattle.fact_action_laws.specs.Regions.{TransferSetting}
use Rattle.fact_action_laws.proofs.Numbers.{number_at_source}
use Rattle.fact_action_laws.proofs.Pairs.{pair_read, pair_taken}
use Rattle.fact_action_laws.specs.AdapterValueLaws.{LimitsAreThoseOfPaths, LongWalksTrap, TextsPastLimitsTrap, SomeTextsOutgrow}
use Rattle.fact_action_laws.specs.PastLimits.{first_factor, greatest_factor, OutgrowsFirst}
use Rattle.fact_action_laws.proofs.AllPaths.{limited}
use Rattle.fact_action_laws.proofs.Bounds.{length_text}
use Rattle.fact_action_laws.proofs.Decoded.{decodes}
use Rattle.fact_action_laws.proofs.Equipped.{IsEquipped}
use Rattle.fact_action_laws.proofs.ForTypes.{equipped}
use Rattle.fact_action_laws.proofs.Invariant.{wrap_small}
use Rattle.fact_action_laws.proofs.Reading.{TextRead, form_is, text_read}
use Rattle.fact_action_laws.proofs.Spelled.{form_align, form_encoding, in_form}
use Rattle.fact_action_laws.proofs.States.{from_bytes}
use Rattle.fact_action_laws.proofs.TextLaw.{both_there, source_bytes, turned_bytes}
use Rattle.fact_action_laws.proofs.TextTransfers.{none_left, some_left, whole}
use Rattle.fact_action_laws.proofs.Trapping.{Trapping, Ready, traps_ask, traps_check, traps_first, traps_read, traps_reallocate, traps_so, traps_unless, traps_with}

-- ---- the table

of_form : (form : TextForm) (to : StringEncoding) → most_units (form_encoding form) to ≡ most_string_bytes / greatest_factor (path form to)
of_form AsUtf8 string.Utf8 = refl
of_form AsUtf8 string.Utf16 = refl
of_form AsUtf8 string.CompactUtf16 = refl
of_form AsUtf16 string.Utf8 = refl
of_form AsUtf16 string.Utf16 = refl
of_form AsUtf16 string.CompactUtf16 = refl
of_form AsCompactLatin1 string.Utf8 = refl
of_form AsCompactLatin1 string.Utf16 = refl
of_form AsCompactLatin1 string.CompactUtf16 = refl
of_form AsCompactUtf16 string.Utf8 = refl
of_form AsCompactUtf16 string.Utf16 = refl
of_form AsCompactUtf16 string.CompactUtf16 = refl

pub limits_are_those_of_paths : LimitsAreThoseOfPaths
limits_are_those_of_paths from to count = ap (λ f. most_units f.encoding to) (form_is from count) ∙ of_form (form_in from count) to

-- ---- the first limit

stops_at : (tr : Transfer) (factor : ℕ) (p : Path) (v : PathPoint) → most_string_bytes / factor < v.length → walk tr (Limit factor p) v ≡ action.trap StringOutOfBounds
stops_at tr factor p v h = ap (λ b. action.unless StringOutOfBounds b (walk tr p v)) (lt-leb v.length (most_string_bytes / factor) h)

pub long_walks_trap : LongWalksTrap
long_walks_trap tr form to v h =
    let l = limited form to in
    subst (λ q. most_string_bytes / first_factor q < v.length → walk tr q v ≡ action.trap StringOutOfBounds) (sym l.is) (stops_at tr l.most l.rest v) h

-- ---- the first pass

-- A text that a pass of this kind does not read to its end: there is no room for all of it, or not all of it is Latin-1.
abbrev IsTooMuch : TranscodeKind → (to : FixedEncoding) → Room → List ℕ → Type 0
IsTooMuch Fitting to g text = g.room < length (spelled_text to text)
IsTooMuch Narrow to g text = AreSpelled to text → ⊥
IsTooMuch _ to g text = ⊥

-- all of the source is that text, so an honest pass that reads all units wrote it
not_all : (k : TranscodeKind) (f to : FixedEncoding) (g : Room) (us wrote numbers text : List ℕ) (n : ℕ) (h : IsHonestPass k f to g us wrote numbers) → length us ≡ unit_bytes f * n → decoded f us ≡ Some text → IsTooMuch k to g text
    → units_of_text f h.text ≡ n → ⊥
not_all k f to g us wrote numbers text n h long is much all =
    let rest : h.rest ≡ [] = none_left f (units_of_text f h.text) n h.rest (some_left f us h.text h.rest n long h.reads) all in
    let same : h.text ≡ text = some_is (sym (decodes f h.text h.can_read) ∙ ap (decoded f) (sym (whole f us h.text h.rest h.reads rest)) ∙ is) in
    go k same h.can_write h.stops much
  where
    some_is : Some h.text ≡ Some text → h.text ≡ text
    some_is e = cc

    go : (k : TranscodeKind) → h.text ≡ text → AreSpelled to h.text → StopsBy k f to g h.text h.rest → IsTooMuch k to g text → ⊥
    go Fitting e can stops much = let le = stops.0 in let l = ap (λ t. length (spelled_text to t)) e in omega (arith, le, l, much)
    go Narrow e can stops much = much (subst (AreSpelled to) e can)
    go AllUnits e can stops much = absurd much
    go Counted e can stops much = absurd much
    go Tagged e can stops much = absurd much
    go Widening e can stops much = absurd much

-- kinds that answer how many units they read
record IsReading (k : TranscodeKind) : Type 0 where
  read : (tr : Transfer) (rs : List CoreValue) (v : PathPoint) → (passed tr k false rs v).read ≡ first_bits rs
  length : (tr : Transfer) (rs : List CoreValue) (v : PathPoint) → (passed tr k false rs v).length ≡ v.length
  answers : (f to : FixedEncoding) (g : Room) (text : List ℕ) (rs : List CoreValue) → map bits_of rs ≡ numbers_answered k f to g text → first_bits rs ≡ units_of_text f text

first_of : (rs : List CoreValue) (n : ℕ) (more : List ℕ) → map bits_of rs ≡ n ∷ more → first_bits rs ≡ n
first_of [] n more e = absurd cc
first_of (v ∷ rs) n more e = cc

fitting_reads : IsReading Fitting
fitting_reads = record { read = λ tr rs v. refl; length = λ tr rs v. refl; answers = λ f to g text rs e. first_of rs _ _ e }

narrow_reads : IsReading Narrow
narrow_reads = record { read = λ tr rs v. refl; length = λ tr rs v. refl; answers = λ f to g text rs e. first_of rs _ _ e }

-- ---- walks

not_equal : (a b : ℕ) → (a ≡ b → ⊥) → nat_eq a b ≡ false
not_equal a b h = go (nat_eq a b) refl
  where
    go : (t : Bool) → nat_eq a b ≡ t → t ≡ false
    go true e = absurd (h (eqb-true a b e))
    go false e = refl

module _ {c : TransferSetting} (e : IsEquipped c) (o : Transcode) (align p n : ℕ) (text : List ℕ) (source : TextRead c.source p (from_encoding o) align n text) (reads : IsReading (transcode_kind o)) where
  abbrev first_args : (room : ℕ) → PathPoint → List CoreValue
  first_args room v = source_args c.transfer o false v ++ target_args c.transfer (transcode_kind o) false room v

  bound_with : {A B : Type 0} {gs : List Region} (side : LiftLowerOptions) (m : MemoryOption) (k : MemoryOption → Action A) (f : A → Action B) (w : World) → side.memory ≡ Some m → Trapping c StringOutOfBounds gs (k m >>= f) w → Trapping c StringOutOfBounds gs (with_memory side k >>= f) w
  bound_with {gs = gs} side m k f w is h = subst (λ x. Trapping c StringOutOfBounds gs (elim x [ None ↦ action.Unreachable | Some m ↦ k m ] >>= f) w) (sym is) h

  -- where something is left, the next limit is one that the source does not keep
  module _ (unit room most : ℕ) (long : most_string_bytes / most < n) (much : n ≤ most_string_bytes / unit → (q : ℕ) (x : Call) (there : List ℕ) → x.args ≡ first_args room (record { source = p; length = n; read = 0; region = q; written = 0 }) → IsTooMuch (transcode_kind o) (to_encoding o) (room_of (transcode_kind o) x there) text)
      (all more next : Path) where
    abbrev point : ℕ → PathPoint
    point q = record { source = p; length = n; read = 0; region = q; written = 0 }

    abbrev branching : Path
    branching = If AllRead all (Limit most more) next

    traps_branch : {gs : List Region} (v : PathPoint) (w : World) → v.length ≡ n → (v.read ≡ n → ⊥) → Trapping c StringOutOfBounds gs (walk c.transfer branching v) w
    traps_branch {gs} v w is left =
        subst (λ b. Trapping c StringOutOfBounds gs (choose_action b (walk c.transfer all v) (walk c.transfer (Limit most more) v) >>= (λ u. walk c.transfer next u)) w) (sym (not_equal v.read v.length (λ same. left (same ∙ is))))
        (traps_first (walk c.transfer (Limit most more) v) (λ u. walk c.transfer next u) w (traps_unless (nat_le v.length (most_string_bytes / most)) (walk c.transfer more v) (lt-leb v.length (most_string_bytes / most) (omega (arith, long, is)))))

    traps_pass : {gs : List Region} (q : ℕ) (w : World) → n ≤ most_string_bytes / unit → Ready e w → Trapping c StringOutOfBounds gs (walk c.transfer (Pass o false room branching) (point q)) w
    traps_pass {gs} q w few r =
        bound_with c.transfer.from e.from (λ m. with_memory c.transfer.to (λ k. called m k)) (λ u. walk c.transfer branching u) w e.from_is
        (bound_with c.transfer.to e.to (λ k. called e.from k) (λ u. walk c.transfer branching u) w e.to_is
        (traps_ask (λ h. h) (λ h. h) (λ rs w1 typed honest. traps_branch (passed c.transfer (transcode_kind o) false rs (point q)) w1 (reads.length c.transfer rs (point q)) (λ all. left rs w1 honest (sym (reads.read c.transfer rs (point q)) ∙ all)))))
      where
        called : MemoryOption → MemoryOption → Action PathPoint
        called m k = Ask (import.Transcode o m.def m.memory64 k.def k.memory64) (first_args room (point q)) (transcode_types (transcode_kind o) m.memory64 k.memory64) (λ rs. Give (passed c.transfer (transcode_kind o) false rs (point q)))

        left : (rs : List CoreValue) (w1 : World) → IsTranscoded c o (record { what = import.Transcode o e.from.def e.from.memory64 e.to.def e.to.memory64; args = first_args room (point q); before = w.state; answer = Returns rs w1.state }) → first_bits rs ≡ n → ⊥
        left rs w1 honest all =
            let says = honest.says in
            let at : nth_number (first_args room (point q)) 0 ≡ p = bits_address c.transfer.from p in
            let many : nth_number (first_args room (point q)) 1 ≡ n = bits_address c.transfer.from n in
            let us = take (unit_bytes (from_encoding o) * n) (drop p c.source) in
            let is : take (unit_bytes (from_encoding o) * nth_number (first_args room (point q)) 1) (drop (nth_number (first_args room (point q)) 0) (from_bytes e w.state)) ≡ us =
            ap (λ k. take (unit_bytes (from_encoding o) * k) (drop (nth_number (first_args room (point q)) 0) (from_bytes e w.state))) many
            ∙ ap (λ k. take (unit_bytes (from_encoding o) * n) (drop k (from_bytes e w.state))) at ∙ ap (λ l. take (unit_bytes (from_encoding o) * n) (drop p l)) r.same in
            let size : length us ≡ unit_bytes (from_encoding o) * n = length-take (unit_bytes (from_encoding o) * n) (drop p c.source) ∙ (let d = length-drop p c.source in let le = source.inside in omega (arith, d, le)) in
            not_all (transcode_kind o) (from_encoding o) (to_encoding o) _ _ honest.wrote (map bits_of rs) text n says (ap length is ∙ size) (ap (decoded (from_encoding o)) is ∙ source.is) (much few q _ _ refl)
            (sym (reads.answers (from_encoding o) (to_encoding o) _ says.text rs says.answers) ∙ all)

    -- from the first limit on
    traps_later : {gs : List Region} (size : Amount) (w : World) → Ready e w → Trapping c StringOutOfBounds gs (walk c.transfer (Limit unit (Resize (SourceUnits 0) size (Pass o false room branching))) (path_start p n)) w
    traps_later {gs} size w r = go (nat_le n (most_string_bytes / unit)) refl
      where
        resized : Action PathPoint
        resized = walk c.transfer (Resize (SourceUnits 0) size (Pass o false room branching)) (path_start p n)

        go : (b : Bool) → nat_le n (most_string_bytes / unit) ≡ b → Trapping c StringOutOfBounds gs (action.unless StringOutOfBounds b resized) w
        go true few = traps_reallocate e StringOutOfBounds 0 _ _ _ (λ q. walk c.transfer (Pass o false room branching) (point q)) w r (λ gs1 q w1 r1. traps_pass q w1 (leb-true n (most_string_bytes / unit) few) r1)
        go false few = traps_so

-- ---- each path

-- the room of a first pass into UTF-8
no_room : (c : TransferSetting) (o : Transcode) (p n unit : ℕ) (text : List ℕ) → n < units_of_text Utf8 text → n ≤ most_string_bytes / unit → (q : ℕ) (x : Call) (there : List ℕ)
    → x.args ≡ source_args c.transfer o false (record { source = p; length = n; read = 0; region = q; written = 0 }) ++ target_args c.transfer Fitting false 1 (record { source = p; length = n; read = 0; region = q; written = 0 })
    → IsTooMuch Fitting Utf8 (room_of Fitting x there) text
no_room c o p n unit text more few q x there is =
    let le : n < 2 ^ 32 = omega (arith, few, div-le_self most_string_bytes unit) in
    let room : nth_number x.args 3 ≡ n = ap (λ l. nth_number l 3) is ∙ bits_address c.transfer.to _ ∙ wrap_small c.transfer.to (1 * n) (omega (arith, le)) ∙ omega arith in
    omega (arith, room, more, length_text Utf8 text)

-- what stands behind a first pass into UTF-8: of all of the source, and of a part of it
abbrev whole_read : Path
whole_read = Assert DebugAssertStringEncodingFinished (WrittenIs 1) End

abbrev part_read : (most : ℕ) → Transcode → Path
part_read most o =
    Resize (SourceUnits 1) (SourceUnits most) (Pass o true most (Assert DebugAssertStringEncodingFinished AllRead (If (WrittenIs most) End (Resize (SourceUnits most) (WrittenUnits 1) End) End)))

module _ {c : TransferSetting} (e : IsEquipped c) (p n : ℕ) (text : List ℕ) {gs : List Region} (w : World) (r : Ready e w) where
  -- of one limit
  at_first : (q : Path) (most : ℕ) (rest : Path) → q ≡ Limit most rest → most_string_bytes / most < n → Trapping c StringOutOfBounds gs (walk c.transfer q (path_start p n)) w
  at_first q most rest is long =
      subst (λ q. Trapping c StringOutOfBounds gs (walk c.transfer q (path_start p n)) w) (sym is) (traps_unless (nat_le n (most_string_bytes / most)) (walk c.transfer rest (path_start p n)) (lt-leb n (most_string_bytes / most) long))

  past : (form : TextForm) (to : StringEncoding) → TextRead c.source p (form_encoding form) (form_align form) n text → most_units (form_encoding form) to < n → OutgrowsFirst form to text n
      → Trapping c StringOutOfBounds gs (walk c.transfer (path form to) (path_start p n)) w
  past AsUtf8 string.Utf8 read long more = at_first (path AsUtf8 string.Utf8) 1 _ refl long
  past AsUtf8 string.Utf16 read long more = at_first (path AsUtf8 string.Utf16) 2 _ refl long
  past AsUtf8 string.CompactUtf16 read long more =
      traps_later e op.Utf8ToLatin1 1 p n text read narrow_reads 1 0 2 long (λ few q x there is. more) (cut 1 End) (to_wide op.Utf8ToCompactUtf16 End) End (SourceUnits 1) w r
  past AsUtf16 string.Utf8 read long more =
      traps_later e op.Utf16ToUtf8 2 p n text read fitting_reads 2 1 3 long (no_room c op.Utf16ToUtf8 p n 2 text more) whole_read (part_read 3 op.Utf16ToUtf8) End (SourceUnits 1) w r
  past AsUtf16 string.Utf16 read long more = at_first (path AsUtf16 string.Utf16) 2 _ refl long
  past AsUtf16 string.CompactUtf16 read long more = at_first (path AsUtf16 string.CompactUtf16) 2 _ refl long
  past AsCompactLatin1 string.Utf8 read long more =
      traps_later e op.Latin1ToUtf8 2 p n text read fitting_reads 1 1 2 long (no_room c op.Latin1ToUtf8 p n 1 text more) whole_read (part_read 2 op.Latin1ToUtf8) End (SourceUnits 1) w r
  past AsCompactLatin1 string.Utf16 read long more = at_first (path AsCompactLatin1 string.Utf16) 2 _ refl long
  past AsCompactLatin1 string.CompactUtf16 read long more = at_first (path AsCompactLatin1 string.CompactUtf16) 1 _ refl long
  past AsCompactUtf16 string.Utf8 read long more =
      traps_later e op.Utf16ToUtf8 2 p n text read fitting_reads 2 1 3 long (no_room c op.Utf16ToUtf8 p n 2 text more) whole_read (part_read 3 op.Utf16ToUtf8) End (SourceUnits 1) w r
  past AsCompactUtf16 string.Utf16 read long more = at_first (path AsCompactUtf16 string.Utf16) 2 _ refl long
  past AsCompactUtf16 string.CompactUtf16 read long more = at_first (path AsCompactUtf16 string.CompactUtf16) 2 _ refl long

-- ---- sources

module _ {c : TransferSetting} (e : IsEquipped c) where
  abbrev b : ℕ
  b = bytes_of_addresses c.transfer.from

  traps_number : {A : Type 0} {gs : List Region} (size x k : ℕ) (s : Source) (f : ℕ → Action A) (w : World) → Ready e w → number_at_source c size s ≡ Some x → Trapping c StringOutOfBounds gs (f x) w → Trapping c StringOutOfBounds gs (read_number false c.transfer.from size s f) w
  traps_number size x k (Values []) f w r i h = absurd (none_some None x refl i)
  traps_number {gs = gs} size x k (Values (v ∷ vs)) f w r i h = go (nat_eq size 8) i
    where
      go : (b : Bool) → Some (if b then bits_of v else bits_of v % 2 ^ 32) ≡ Some x → Trapping c StringOutOfBounds gs (if b then f (bits_of v) else f (bits_of v % 2 ^ 32)) w
      go true e = subst (λ y. Trapping c StringOutOfBounds gs (f y) w) (same_some (Some x) x (bits_of v) refl (sym e)) h
      go false e = subst (λ y. Trapping c StringOutOfBounds gs (f y) w) (same_some (Some x) x (bits_of v % 2 ^ 32) refl (sym e)) h
  traps_number {gs = gs} size x k (AtAddress a) f w r i h =
      traps_with c.transfer.from e.from (λ m. Read size m.def a f) e.from_is (traps_read r.there.from (ap (λ l. number_in l size a) r.same ∙ i) h)

  traps_pair : {A : Type 0} {gs : List Region} (s : Source) (q : Pair) (k : ℕ → ℕ → Action A) (w : World) → Ready e w → IsSource c 2 s → pair_taken c s ≡ Some q → Trapping c StringOutOfBounds gs (k q.pointer q.count) w
      → Trapping c StringOutOfBounds gs (read_pair false c.transfer.from s k) w
  traps_pair s q k w r is at h =
      let there = pair_read c s q 2 is at in
      traps_number b q.pointer 1 (nth_part 1 b 0 s) (λ p. read_number false c.transfer.from b (nth_part 1 b 1 s) (λ n. k p n)) w r there.pointer
      (traps_number b q.count 1 (nth_part 1 b 1 s) (λ n. k q.pointer n) w r there.count h)

  -- the source check holds of a text that is there
  traps_text : {A : Type 0} {gs : List Region} (form : TextForm) (p n : ℕ) (text : List ℕ) (q : Action A) (w : World) → Ready e w → TextRead c.source p (form_encoding form) (form_align form) n text → Trapping c StringOutOfBounds gs q w
      → Trapping c StringOutOfBounds gs (check_text c.transfer.from (in_form form n) p q) w
  traps_text form p n text q w r read h =
      let bytes = wrap c.transfer.from (byte_length (in_form form n)) in
      let small = mod-le (byte_length (in_form form n)) (2 ^ address_bits (is_wide c.transfer.from.memory)) in
      traps_check c.transfer.from e.from StringOutOfBounds p bytes (form_align form) q w c.source e.from_is (r.there.from ∙ ap (λ l. Some l) r.same) read.aligned
      (let inside = read.inside in let turned = turned_bytes (form_encoding form) n in omega (arith, small, inside, turned)) h

pub texts_past_limits_trap : TextsPastLimitsTrap
texts_past_limits_trap c s d q gs w m g has from_known to_known is ready at h = (subst (λ b. Trapping c StringOutOfBounds gs (read_pair b c.transfer.from s moved) w) (sym g.quiet) (traps_pair e s q moved w now is at whole_text)).by
  where
    e : IsEquipped c
    e = equipped c has from_known to_known

    form : TextForm
    form = form_in c.transfer.from.encoding q.count

    n : ℕ
    n = (form_of c.transfer.from.encoding q.count).units

    checked : TextForm → Form → ℕ → Action (List CoreValue)
    checked form f p = check_text c.transfer.from f p (walk c.transfer (path form c.transfer.to.encoding) (path_start p f.units) >>= (λ v. write_pair c.transfer.to d v.region v.written))

    moved : ℕ → ℕ → Action (List CoreValue)
    moved p k = checked (form_in c.transfer.from.encoding k) (form_of c.transfer.from.encoding k) p

    same : form_of c.transfer.from.encoding q.count ≡ in_form form n
    same = form_is c.transfer.from.encoding q.count

    now : Ready e w
    now = record { there = both_there e m w ready; same = source_bytes e m w ready }

    read : TextRead c.source q.pointer (form_encoding form) (form_align form) n h.text
    read = text_read c.source q.pointer (form_encoding form) (form_align form) n h.text (sym (ap (text_of_form c.source q.pointer) same) ∙ h.stands)

    whole_text : Trapping c StringOutOfBounds gs (moved q.pointer q.count) w
    whole_text =
        subst (λ f. Trapping c StringOutOfBounds gs (checked form f q.pointer) w) (sym same)
        (traps_text e form q.pointer n h.text _ w now read
        (traps_first (walk c.transfer (path form c.transfer.to.encoding) (path_start q.pointer n)) (λ v. write_pair c.transfer.to d v.region v.written) w
        (past e q.pointer n h.text w now form c.transfer.to.encoding read (subst (λ f. most_units f.encoding c.transfer.to.encoding < n) same h.long) h.outgrows)))

-- ---- texts of each length

-- a scalar value, so many times
abbrev repeated : ℕ → ℕ → List ℕ
repeated zero x = []
repeated (suc n) x = x ∷ repeated n x

repeated_spelled : (f : FixedEncoding) (n x : ℕ) → IsSpelled f x → AreSpelled f (repeated n x)
repeated_spelled f zero x h = tt
repeated_spelled f (suc n) x h = (h, repeated_spelled f n x h)

repeated_units : (f : FixedEncoding) (n x k : ℕ) → units f x ≡ k → units_of_text f (repeated n x) ≡ k * n
repeated_units f zero x k h = omega arith
repeated_units f (suc n) x k h = let r = repeated_units f n x k h in omega (arith, h, r)

record Text (f : FixedEncoding) (n : ℕ) (P : List ℕ → Type 0) : Type 0 where
  text : List ℕ
  can : AreSpelled f text
  many : units_of_text f text ≡ n
  is : P text

-- any text of so many letters
letters : (f : FixedEncoding) (n : ℕ) → IsSpelled f 97 → units f 97 ≡ 1 → Text f n (λ t. Unit {0})
letters f n can one = record { text = repeated n 97; can = repeated_spelled f n 97 can; many = repeated_units f n 97 1 one ∙ omega arith; is = tt }

-- letters that take more in UTF-8
wide_letters : (f : FixedEncoding) (x k n : ℕ) → IsSpelled f x → units f x ≡ 1 → units Utf8 x ≡ k → 2 ≤ k → 1 ≤ n → Text f n (λ t. n < units_of_text Utf8 t)
wide_letters f x k n can one more two some =
    record { text = repeated n x; can = repeated_spelled f n x can; many = repeated_units f n x 1 one ∙ omega arith; is = (let r = repeated_units Utf8 n x k more in let twice : 2 * n ≤ k * n = mul-le-mul two (let same : n ≤ n = omega arith in same) in omega (arith, r, twice, some)) }

outgrown : (form : TextForm) (to : StringEncoding) (n : ℕ) → most_units (form_encoding form) to < n → Text (form_encoding form) n (λ t. OutgrowsFirst form to t n)
outgrown AsUtf8 string.Utf8 n h = letters Utf8 n refl refl
outgrown AsUtf8 string.Utf16 n h = letters Utf8 n refl refl
outgrown AsUtf8 string.CompactUtf16 n h =
    let l = letters Utf8 (n - 2) refl refl in
    record { text = 322 ∷ l.text; can = (refl, l.can); many = (let m = l.many in omega (arith, m, h)); is = λ latin. absurd (let low = latin.0 in omega (arith, low)) }
outgrown AsUtf16 string.Utf8 n h = wide_letters Utf16 2048 3 n refl refl refl (omega arith) (omega (arith, h))
outgrown AsUtf16 string.Utf16 n h = letters Utf16 n refl refl
outgrown AsUtf16 string.CompactUtf16 n h = letters Utf16 n refl refl
outgrown AsCompactLatin1 string.Utf8 n h = wide_letters Latin1 233 2 n (omega arith) refl refl (omega arith) (omega (arith, h))
outgrown AsCompactLatin1 string.Utf16 n h = letters Latin1 n (omega arith) refl
outgrown AsCompactLatin1 string.CompactUtf16 n h = letters Latin1 n (omega arith) refl
outgrown AsCompactUtf16 string.Utf8 n h = wide_letters Utf16 2048 3 n refl refl refl (omega arith) (omega (arith, h))
outgrown AsCompactUtf16 string.Utf16 n h = letters Utf16 n refl refl
outgrown AsCompactUtf16 string.CompactUtf16 n h = letters Utf16 n refl refl

pub some_texts_outgrow : SomeTextsOutgrow
some_texts_outgrow from to count long =
    let same = form_is from count in
    let t = outgrown (form_in from count) to (form_of from count).units (subst (λ f. most_units f.encoding to < (form_of from count).units) same long) in (
      t.text,
      subst (λ f. AreSpelled f.encoding t.text) (sym same) t.can,
      subst (λ f. units_of_text f.encoding t.text ≡ (form_of from count).units) (sym same) t.many,
      t.is,
    )
