-- What a transcoder is told on the way of a path, and what its honest answer does.
use Rattle.std.proofs.Common.{◌≡◌, ℕ, ◌+◌, ◌*◌, ◌-◌, ◌%◌, ◌^◌, ◌≤◌, ◌<◌, inl, Bool, true, false, List, [], ◌∷◌, ◌++◌, length, take, drop, get_or, refl, sym, ap, ◌∙◌, subst, arith, length-append, length-drop}
use Rattle.std.specs.Prelude.{map}
use Rattle.std.proofs.lemmas.List.{drop-drop, get_or-drop, length-take-le}
use Rattle.std.proofs.Math.Nat.{mul-le-mul}
use Rattle.fact_types.specs.declared.outside.FixedEncoding.{FixedEncoding}
use Rattle.fact_types.specs.declared.outside.FixedEncoding.TheVariants.{Utf8, Utf16, Latin1}
use Rattle.fact_types.specs.declared.outside.Transcode.{Transcode}
use Rattle.fact_machine.specs.declared.types.CoreValue.{CoreValue}
use Rattle.fact_machine.specs.declared.types.CoreValue.TheVariants.{I32}
use Rattle.fact_machine.specs.declared.types.MachineState.{MachineState}
use Rattle.fact_actions.specs.Paths.{SourceUnits}
use Rattle.fact_actions.specs.Sides.{Transfer, address_value, wrap, first_bits}
use Rattle.fact_machine.specs.Typing.{address_bits}
use Rattle.fact_values.specs.Lift.{bits_of}
use Rattle.fact_actions.specs.Strings.{PathPoint, minus, amount, passed, source_args, target_args}
use Rattle.fact_values.specs.Texts.{AreSpelled, unit_bytes, spelled_text, units_of_text}
use Rattle.fact_actions.specs.Transcoders.{TranscodeKind, AllUnits, Counted, Fitting, Narrow, Tagged, Widening, transcode_kind, from_encoding, to_encoding, Room, IsHonestPass}
use Rattle.fact_action_laws.specs.HonestMoves.{IsTranscoded}
use Rattle.fact_actions.specs.Regions.{Region, IsIn}
use Rattle.fact_action_laws.specs.Regions.{TransferSetting}
use Rattle.fact_actions.specs.Calls.{nth_number}
use Rattle.fact_action_laws.proofs.Equipped.{IsEquipped}
use Rattle.fact_machine.specs.declared.types.Answer.{Answer}
use Rattle.fact_machine.specs.declared.types.Answer.TheVariants.{Returns}
use Rattle.fact_types.specs.declared.import.Import.{Import}
use Rattle.fact_types.specs.declared.outside.Transcode.TheVariants as op
use Rattle.fact_actions.specs.Confined.{room_bytes, LiesInSound}
use Rattle.fact_actions.specs.Running.{Call}
use Rattle.fact_action_laws.proofs.Answered.{position}
use Rattle.fact_action_laws.proofs.Bounds.{length_text}
use Rattle.fact_action_laws.specs.ReadTexts.{ReadsText}
use Rattle.fact_action_laws.proofs.ReadCalls.{SpellsSome, fewer16, left_spelled}
use Rattle.fact_action_laws.proofs.Served.{Fits, IsServed}
use Rattle.fact_action_laws.proofs.Stages.{Stage, offset, room_at, skipped, after_pass, SomeLeft, IsReadyFor, HasSpace}
use Rattle.fact_actions.proofs.OwnParts.{bits_address}
use Rattle.fact_action_laws.proofs.States.{from_bytes, to_bytes, Later, from_are}
use Rattle.fact_action_laws.proofs.TextTransfers.{counts, first as from_first}
use Rattle.fact_action_laws.proofs.Invariant.{wrap_small, wrap_fits, minus_is, StandAt, take_same, mul_split, stand_over, SameRoom, first_is, rest_of, second_is, SourceSpells, Inv, whole_source}
use Rattle.fact_types.specs.Adapters.{is_wide}

-- ---- arguments

abbrev pub source_pointer : Transfer → FixedEncoding → (rest : Bool) → PathPoint → ℕ
source_pointer tr f true v = wrap tr.from (v.source + unit_bytes f * v.read)
source_pointer tr f false v = v.source

abbrev pub source_count : Transfer → (rest : Bool) → PathPoint → ℕ
source_count tr true v = minus tr.from v.length v.read
source_count tr false v = v.length

abbrev pub target_pointer : Transfer → TranscodeKind → (rest : Bool) → PathPoint → ℕ
target_pointer tr Fitting true v = wrap tr.to (v.region + v.written)
target_pointer tr _ _ v = v.region

abbrev pub more_args : Transfer → TranscodeKind → (rest : Bool) → (room : ℕ) → PathPoint → List CoreValue
more_args tr Fitting false room v = address_value tr.to (amount tr (SourceUnits room) v) ∷ I32 1 ∷ []
more_args tr Fitting true room v = address_value tr.to (minus tr.to (amount tr (SourceUnits room) v) v.written) ∷ I32 0 ∷ []
more_args tr Widening rest room v = address_value tr.to (amount tr (SourceUnits room) v) ∷ address_value tr.to v.written ∷ []
more_args tr _ rest room v = []

source_args_are : (tr : Transfer) (o : Transcode) (b : Bool) (v : PathPoint) → source_args tr o b v ≡ address_value tr.from (source_pointer tr (from_encoding o) b v) ∷ address_value tr.from (source_count tr b v) ∷ []
source_args_are tr o true v = refl
source_args_are tr o false v = refl

target_args_are : (tr : Transfer) (k : TranscodeKind) (b : Bool) (room : ℕ) (v : PathPoint) → target_args tr k b room v ≡ address_value tr.to (target_pointer tr k b v) ∷ more_args tr k b room v
target_args_are tr AllUnits b room v = refl
target_args_are tr Counted b room v = refl
target_args_are tr Narrow b room v = refl
target_args_are tr Tagged b room v = refl
target_args_are tr Widening b room v = refl
target_args_are tr Fitting true room v = refl
target_args_are tr Fitting false room v = refl

abbrev pub pass_args : Transfer → Transcode → (rest : Bool) → (room : ℕ) → PathPoint → List CoreValue
pass_args tr o b room v = address_value tr.from (source_pointer tr (from_encoding o) b v) ∷ address_value tr.from (source_count tr b v) ∷ address_value tr.to (target_pointer tr (transcode_kind o) b v) ∷ more_args tr (transcode_kind o) b room v

pub args_are : (tr : Transfer) (o : Transcode) (b : Bool) (room : ℕ) (v : PathPoint) → source_args tr o b v ++ target_args tr (transcode_kind o) b room v ≡ pass_args tr o b room v
args_are tr o b room v = ap (λ l. l ++ target_args tr (transcode_kind o) b room v) (source_args_are tr o b v) ∙ ap (λ l. address_value tr.from (source_pointer tr (from_encoding o) b v) ∷ address_value tr.from (source_count tr b v) ∷ l) (target_args_are tr (transcode_kind o) b room v)

-- the bytes that a transcoder of a kind may write, by what it is told
abbrev kind_bytes : TranscodeKind → (to : FixedEncoding) → List CoreValue → ℕ
kind_bytes AllUnits to args = unit_bytes to * nth_number args 1
kind_bytes Counted to args = unit_bytes to * nth_number args 1
kind_bytes Tagged to args = unit_bytes to * nth_number args 1
kind_bytes Narrow to args = unit_bytes to * nth_number args 1
kind_bytes Fitting to args = nth_number args 3
kind_bytes Widening to args = unit_bytes to * nth_number args 3

room_same : (o : Transcode) (k : Call) → room_bytes o k ≡ kind_bytes (transcode_kind o) (to_encoding o) k.args
room_same (op.Copy e) k = refl
room_same op.Latin1ToUtf16 k = refl
room_same op.Latin1ToUtf8 k = refl
room_same op.Utf16ToCompactProbablyUtf16 k = refl
room_same op.Utf16ToCompactUtf16 k = refl
room_same op.Utf16ToLatin1 k = omega arith
room_same op.Utf16ToUtf8 k = refl
room_same op.Utf8ToCompactUtf16 k = refl
room_same op.Utf8ToLatin1 k = omega arith
room_same op.Utf8ToUtf16 k = refl

fewer : (f : FixedEncoding) (r n : ℕ) → r < n → unit_bytes f * r < unit_bytes f * n
fewer Utf8 r n h = omega (arith, h)
fewer Utf16 r n h = omega (arith, h)
fewer Latin1 r n h = omega (arith, h)

none_of : (f : FixedEncoding) (p : ℕ) → p ≡ p + unit_bytes f * 0
none_of Utf8 p = omega arith
none_of Utf16 p = omega arith
none_of Latin1 p = omega arith

step_aligned : (f : FixedEncoding) (p r : ℕ) → p % unit_bytes f ≡ 0 → (p + unit_bytes f * r) % unit_bytes f ≡ 0
step_aligned Utf8 p r h = omega (arith, h)
step_aligned Utf16 p r h = omega (arith, h)
step_aligned Latin1 p r h = omega (arith, h)

spread : (u a b : ℕ) → u * a + u * b ≡ u * (a + b)
spread u a b = omega arith

module _ {c : TransferSetting} (e : IsEquipped c) (Kept Good : Type 0) (kept : Good → Kept) (f : FixedEncoding) (n p0 size0 : ℕ) (gs : List Region) (base first : List ℕ) where
  abbrev Known : List Region → List ℕ → Stage → PathPoint → MachineState → Type 0
  Known live us st v s = Inv e Kept Good kept f n p0 size0 gs base first live us st v s

  pub skips : (b : Bool) (st : Stage) → SomeLeft n b st → skipped n b st ≤ n
  skips true st h = let lt = h.0 in omega (arith, lt)
  skips false st h = omega arith

  pub source_is : (live : List Region) (us : List ℕ) (b : Bool) (st : Stage) (v : PathPoint) (s : MachineState) → Known live us st v s → st.given ≡ true → SomeLeft n b st → length us ≡ unit_bytes f * n
      → (source_pointer c.transfer f b v ≡ v.source + unit_bytes f * skipped n b st) × (source_count c.transfer b v ≡ n - skipped n b st)
  source_is live us false st v s inv given h long = (none_of f v.source, omega (arith, inv.length_is))
  source_is live us true st v s inv given h long =
      let less = fewer f st.read n h.0 in
      let cap = (inv.given given).from_cap in
      let top : v.source + unit_bytes f * st.read < 2 ^ address_bits (is_wide c.transfer.from.memory) = omega (arith, less, long, inv.source_in, cap) in (
        ap (λ r. wrap c.transfer.from (v.source + unit_bytes f * r)) inv.read_is ∙ wrap_fits c.transfer.from (v.source + unit_bytes f * st.read) top,
        ap (λ r. minus c.transfer.from v.length r) inv.read_is ∙ ap (λ m. minus c.transfer.from m st.read) inv.length_is ∙ minus_is c.transfer.from n st.read (let lt = h.0 in omega (arith, lt)) h.1,
      )

  pub target_is : (live : List Region) (us : List ℕ) (k : TranscodeKind) (b : Bool) (room : ℕ) (st : Stage) (v : PathPoint) (s : MachineState) → Known live us st v s → st.given ≡ true → IsReadyFor n k b room st
      → (target_pointer c.transfer k b v ≡ v.region + offset n k b st) × (offset n k b st ≤ length st.have)
  target_is live us AllUnits b room st v s inv given h = (omega arith, omega arith)
  target_is live us Counted b room st v s inv given h = (omega arith, omega arith)
  target_is live us Narrow b room st v s inv given h = (omega arith, omega arith)
  target_is live us Tagged b room st v s inv given h = (omega arith, omega arith)
  target_is live us Widening b room st v s inv given h = (omega arith, omega arith)
  target_is live us Fitting false room st v s inv given h = (omega arith, omega arith)
  target_is live us Fitting true room st v s inv given h =
      let cap = (inv.given given).to_cap in
      (ap (λ x. wrap c.transfer.to (v.region + x)) inv.written_is ∙ wrap_fits c.transfer.to (v.region + st.written) (omega (arith, h.1, h.2, inv.inside, cap)), h.0)

  all_of : (room : ℕ) (v : PathPoint) → v.length ≡ n → room * n < 2 ^ 32 → amount c.transfer (SourceUnits room) v ≡ room * n
  all_of room v e h = ap (λ k. wrap c.transfer.to (room * k)) e ∙ wrap_small c.transfer.to (room * n) h

  pub room_is : (live : List Region) (us : List ℕ) (k : TranscodeKind) (b : Bool) (room : ℕ) (st : Stage) (v : PathPoint) (s : MachineState) → Known live us st v s → IsReadyFor n k b room st
      → SameRoom k (record { room = nth_number (more_args c.transfer k b room v) 0; latin1_bytes = take (nth_number (more_args c.transfer k b room v) 1) (drop (target_pointer c.transfer k b v) (to_bytes e s)) }) (room_at n k b room st)
  room_is live us AllUnits b room st v s inv h = tt
  room_is live us Counted b room st v s inv h = tt
  room_is live us Narrow b room st v s inv h = tt
  room_is live us Tagged b room st v s inv h = tt
  room_is live us Fitting true room st v s inv h =
      bits_address c.transfer.to _ ∙ ap (λ x. minus c.transfer.to x v.written) (all_of room v inv.length_is (omega (arith, h.2, inv.small))) ∙ ap (λ x. minus c.transfer.to (room * n) x) inv.written_is
      ∙ minus_is c.transfer.to (room * n) st.written (omega (arith, h.1)) (omega (arith, h.2, inv.small))
  room_is live us Fitting false room st v s inv h = bits_address c.transfer.to _ ∙ all_of room v inv.length_is (omega (arith, h, inv.small)) ∙ omega arith
  room_is live us Widening b room st v s inv h =
      let w : bits_of (address_value c.transfer.to v.written) ≡ st.written = bits_address c.transfer.to v.written ∙ inv.written_is in (
        bits_address c.transfer.to _ ∙ all_of room v inv.length_is (omega (arith, h.1, inv.small)) ∙ omega arith,
        ap (λ x. take x (drop v.region (to_bytes e s))) w ∙ take_same st.written (drop v.region (to_bytes e s)) st.have (omega (arith, h.0, inv.inside, inv.long, length-drop v.region (to_bytes e s))) h.0
            (λ i lt. get_or-drop v.region (to_bytes e s) i 0 ∙ inv.stand i (omega (arith, lt, h.0))),
      )

  -- ---- an answer

  -- no more is read than there is
  within : (us : List ℕ) (f1 : FixedEncoding) (read more : ℕ) (text rest : List ℕ) → length us ≡ unit_bytes f1 * n → read ≤ n → drop (unit_bytes f1 * read) us ≡ spelled_text f1 text ++ rest → more ≡ units_of_text f1 text → read + more ≤ n
  within us f1 read more text rest long le is count =
      go f1 (sym (length-drop (unit_bytes f1 * read) us) ∙ ap length is ∙ length-append (spelled_text f1 text) rest ∙ ap (λ k. k + length rest) (length_text f1 text ∙ ap (λ k. unit_bytes f1 * k) (sym count))) long
    where
      go : (f1 : FixedEncoding) → length us - unit_bytes f1 * read ≡ unit_bytes f1 * more + length rest → length us ≡ unit_bytes f1 * n → read + more ≤ n
      go Utf8 a b = omega (arith, a, b, le)
      go Utf16 a b = omega (arith, a, b, le)
      go Latin1 a b = omega (arith, a, b, le)

  -- what is left behind a text that was read from some units on
  left_after : (us : List ℕ) (f1 : FixedEncoding) (skip more total : ℕ) (source text rest : List ℕ) → total ≡ skip + more → f1 ≡ f → SpellsSome f (drop (unit_bytes f * skip) us) → source ≡ drop (unit_bytes f1 * skip) us → source ≡ spelled_text f1 text ++ rest → AreSpelled f1 text → more ≡ units_of_text f1 text
      → SpellsSome f (drop (unit_bytes f * total) us)
  left_after us f1 skip more total source text rest sum same spelled is reads can count =
      let begins : drop (unit_bytes f * skip) us ≡ spelled_text f text ++ rest = subst (λ e. drop (unit_bytes e * skip) us ≡ spelled_text e text ++ rest) same (sym is ∙ reads) in
      let behind = left_spelled f (drop (unit_bytes f * skip) us) text rest more spelled (subst (λ e. AreSpelled e text) same can) begins (subst (λ e. more ≡ units_of_text e text) same count) in
      subst (SpellsSome f) (drop-drop (unit_bytes f * more) (unit_bytes f * skip) us ∙ ap (λ k. drop k us) (spread (unit_bytes f) skip more ∙ ap (λ k. unit_bytes f * k) (sym sum))) behind

  -- the whole source, where nothing is skipped
  whole_first : (us : List ℕ) → SpellsSome f us → SpellsSome f (drop (unit_bytes f * 0) us)
  whole_first us whole = subst (SpellsSome f) (sym (from_first f us)) whole

  -- behind a pass that wrote at an offset
  moved : (live : List Region) (us : List ℕ) (st : Stage) (v : PathPoint) (s s1 : MachineState) (i : Import) (o : Transcode) (args rs : List CoreValue) (off : ℕ) (wrote have2 : List ℕ) (r2 w2 vr vw : ℕ) → vr ≡ r2 → vw ≡ w2
      → have2 ≡ take off st.have ++ wrote → nth_number args 2 ≡ v.region + off → off ≤ length st.have → off + length wrote ≤ st.size
      → (h : IsTranscoded c o (record { what = i; args = args; before = s; answer = Returns rs s1 })) → h.wrote ≡ wrote → Later e s s1 → Known live us st v s → (Kept → SourceSpells f p0 size0 first → SpellsSome f (drop (unit_bytes f * r2) us))
      → Known live us (record { read = r2; written = w2; size = st.size; given = st.given; have = have2 }) (record { source = v.source; length = v.length; read = vr; region = v.region; written = vw }) s1
  moved live us st v s s1 i o args rs off wrote have2 r2 w2 vr vw er ew eh ed le fits h hw l inv spelled =
      let out : (j : ℕ) → (IsIn (record { at = v.region + off; size = length wrote; align = 1 }) j → ⊥) → get_or (to_bytes e s1) j 0 ≡ get_or (to_bytes e s) j 0 =
      λ j no1. h.others j (λ x. no1 (subst (λ a. IsIn (record { at = a; size = length wrote; align = 1 }) j) ed (subst (λ w. IsIn (record { at = nth_number args 2; size = length w; align = 1 }) j) hw x))) in
      let size2 : length (take off st.have ++ wrote) ≡ off + length wrote = omega (arith, length-append (take off st.have) wrote, length-take-le off st.have le) in
      let new : StandAt (to_bytes e s1) (v.region + off) wrote = λ i lt. ap (λ a. get_or (to_bytes e s1) (a + i) 0) (sym ed) ∙ h.stands i (subst (λ w. i < length w) (sym hw) lt) ∙ ap (λ w. get_or w i 0) hw in
      record {
        there = l.there;
        length_is = inv.length_is;
        source_is = inv.source_is;
        size_is = inv.size_is;
        read_is = er;
        written_is = ew;
        source_aligned = inv.source_aligned;
        source = ap (λ m. take (length us) (drop v.source m)) h.source ∙ inv.source;
        source_in = subst (λ m. v.source + length us ≤ length m) (sym h.source) inv.source_in;
        others = inv.others;
        given = λ yes. record { live_is = (inv.given yes).live_is; from_cap = l.from_cap; to_cap = l.to_cap };
        aligned = inv.aligned;
        below = inv.below;
        inside = omega (arith, inv.inside, l.to_longer);
        apart = inv.apart;
        stand = subst (λ x. StandAt (to_bytes e s1) v.region x) (sym eh) (stand_over (to_bytes e s) (to_bytes e s1) v.region off st.have wrote le inv.stand new out);
        long = omega (arith, ap length eh, size2, fits);
        small = inv.small;
        frame = λ z j live. out j (λ x. inv.apart z j (omega (arith, x.0), omega (arith, x.1, fits)) live) ∙ inv.frame z j live;
        grown = omega (arith, inv.grown, l.to_longer);
        same = λ z. h.source ∙ inv.same z;
        left = spelled;
      }

  pub behind_pass : (live : List Region) (us : List ℕ) (k : TranscodeKind) (f1 t : FixedEncoding) (b : Bool) (room : ℕ) (st : Stage) (v : PathPoint) (s s1 : MachineState) (i : Import) (o : Transcode) (args rs : List CoreValue) (g : Room) (source wrote : List ℕ)
      → IsHonestPass k f1 t g source wrote (map (λ v. bits_of v) rs) → st.given ≡ true → IsReadyFor n k b room st → nth_number args 2 ≡ target_pointer c.transfer k b v → offset n k b st + length wrote ≤ st.size → source ≡ drop (unit_bytes f1 * skipped n b st) us → length us ≡ unit_bytes f1 * n → SomeLeft n b st
      → (h : IsTranscoded c o (record { what = i; args = args; before = s; answer = Returns rs s1 })) → h.wrote ≡ wrote → Later e s s1 → f1 ≡ f → Known live us st v s → Known live us (after_pass n k b st wrote (map (λ v. bits_of v) rs)) (passed c.transfer k b rs v) s1
  behind_pass live us AllUnits f1 t b room st v s s1 i o args rs g source wrote says given ready ed fits is_source long some h hw l reads inv =
      moved live us st v s s1 i o args rs 0 wrote wrote st.read n v.read v.length inv.read_is inv.length_is refl (ed ∙ (target_is live us AllUnits b room st v s inv given ready).0) (omega arith) fits h hw l inv inv.left
  behind_pass live us Counted f1 t b room st v s s1 i o args rs g source wrote says given ready ed fits is_source long some h hw l reads inv =
      moved live us st v s s1 i o args rs 0 wrote wrote st.read _ v.read _ inv.read_is (first_is rs) refl (ed ∙ (target_is live us Counted b room st v s inv given ready).0) (omega arith) fits h hw l inv inv.left
  behind_pass live us Tagged f1 t b room st v s s1 i o args rs g source wrote says given ready ed fits is_source long some h hw l reads inv =
      moved live us st v s s1 i o args rs 0 wrote wrote st.read _ v.read _ inv.read_is (first_is rs) refl (ed ∙ (target_is live us Tagged b room st v s inv given ready).0) (omega arith) fits h hw l inv inv.left
  behind_pass live us Widening f1 t b room st v s s1 i o args rs g source wrote says given ready ed fits is_source long some h hw l reads inv =
      moved live us st v s s1 i o args rs 0 wrote wrote st.read _ v.read _ inv.read_is (first_is rs) refl (ed ∙ (target_is live us Widening b room st v s inv given ready).0) (omega arith) fits h hw l inv inv.left
  behind_pass live us Narrow f1 t b room st v s s1 i o args rs g source wrote says given ready ed fits is_source long some h hw l reads inv =
      moved live us st v s s1 i o args rs 0 wrote wrote _ _ _ _ (first_is rs) (second_is rs) refl (ed ∙ (target_is live us Narrow b room st v s inv given ready).0) (omega arith) fits h hw l inv
      (λ z t. left_after us f1 0 (get_or (map (λ v. bits_of v) rs) 0 0) (get_or (map (λ v. bits_of v) rs) 0 0) source says.text says.rest (omega arith) reads (whole_first us (whole_source e Kept Good kept f n p0 size0 gs base first live us st v s inv z t)) (is_source ∙ ap (λ k. drop (unit_bytes f1 * k) us) (ap (λ b. skipped n b st) ready)) says.reads says.can_read (ap (λ l. get_or l 0 0) says.answers))
  behind_pass live us Fitting f1 t false room st v s s1 i o args rs g source wrote says given ready ed fits is_source long some h hw l reads inv =
      moved live us st v s s1 i o args rs 0 wrote wrote _ _ _ _ (first_is rs) (second_is rs) refl (ed ∙ (target_is live us Fitting false room st v s inv given ready).0) (omega arith) fits h hw l inv
      (λ z t. left_after us f1 0 (get_or (map (λ v. bits_of v) rs) 0 0) (get_or (map (λ v. bits_of v) rs) 0 0) source says.text says.rest (omega arith) reads (whole_first us (whole_source e Kept Good kept f n p0 size0 gs base first live us st v s inv z t)) is_source says.reads says.can_read (ap (λ l. get_or l 0 0) says.answers))
  behind_pass live us Fitting f1 t true room st v s s1 i o args rs g source wrote says given ready ed fits is_source long some h hw l reads inv =
      let ns = map (λ v. bits_of v) rs in
      let read_in : st.read + get_or ns 0 0 ≤ n = within us f1 st.read (get_or ns 0 0) says.text says.rest long (let lt = some.0 in omega (arith, lt)) (sym is_source ∙ says.reads) (ap (λ l. get_or l 0 0) says.answers) in
      let count : get_or ns 1 0 ≡ length wrote = ap (λ l. get_or l 1 0) says.answers ∙ sym (ap length says.writes) in
      let read : wrap c.transfer.from (v.read + first_bits rs) ≡ st.read + get_or ns 0 0 = ap (λ y. wrap c.transfer.from (y + first_bits rs)) inv.read_is ∙ ap (λ y. wrap c.transfer.from (st.read + y)) (first_is rs) ∙ wrap_small c.transfer.from (st.read + get_or ns 0 0) (let lt = some.1 in omega (arith, read_in, lt)) in
      let sum : wrap c.transfer.to (v.written + first_bits (drop 1 rs)) ≡ st.written + get_or ns 1 0 =
      ap (λ y. wrap c.transfer.to (y + first_bits (drop 1 rs))) inv.written_is ∙ ap (λ y. wrap c.transfer.to (st.written + y)) (second_is rs) ∙ wrap_small c.transfer.to (st.written + get_or ns 1 0) (omega (arith, count, fits, inv.small)) in
      moved live us st v s s1 i o args rs st.written wrote (take st.written st.have ++ wrote) _ _ _ _ read sum refl (ed ∙ (target_is live us Fitting true room st v s inv given ready).0) ready.0 fits h hw l inv
      (λ z t. left_after us f1 st.read (get_or ns 0 0) (st.read + get_or ns 0 0) source says.text says.rest refl reads (inv.left z t) is_source says.reads says.can_read (ap (λ l. get_or l 0 0) says.answers))

  -- ---- ranges

  -- what a transcoder is called with
  abbrev pub pass_call : Import → Transcode → (rest : Bool) → (room : ℕ) → PathPoint → MachineState → Answer → Call
  pass_call i o b room v s a = record { what = i; args = pass_args c.transfer o b room v; before = s; answer = a }

  pub served : (i : Import) (a : Answer) (live : List Region) (us : List ℕ) (o : Transcode) (b : Bool) (room : ℕ) (st : Stage) (v : PathPoint) (s : MachineState)
      → Known live us st v s → unit_bytes (from_encoding o) ≡ unit_bytes f → length us ≡ unit_bytes f * n → st.given ≡ true → SomeLeft n b st
      → IsReadyFor n (transcode_kind o) b room st → HasSpace n (transcode_kind o) (to_encoding o) room st → IsServed c.places (position c live) o (pass_call i o b room v s a)
  served i a live us o b room st v s inv unit long given some ready space =
      let args = pass_args c.transfer o b room v in
      let src = source_is live us b st v s inv given some long in
      let same : source_pointer c.transfer (from_encoding o) b v ≡ source_pointer c.transfer f b v = same_pointer b in
      let at : nth_number args 0 ≡ v.source + unit_bytes f * skipped n b st = bits_address c.transfer.from _ ∙ same ∙ src.0 in
      let many : nth_number args 1 ≡ n - skipped n b st = bits_address c.transfer.from _ ∙ src.1 in
      let to : nth_number args 2 ≡ v.region + offset n (transcode_kind o) b st = bits_address c.transfer.to _ ∙ (target_is live us (transcode_kind o) b room st v s inv given ready).0 in
      let split = mul_split (unit_bytes f) n (skipped n b st) (skips b st some) in
      let high = bounded (transcode_kind o) (to_encoding o) b (address_value c.transfer.from (source_pointer c.transfer (from_encoding o) b v)) (address_value c.transfer.from (source_count c.transfer b v)) (address_value c.transfer.to (target_pointer c.transfer (transcode_kind o) b v)) to many ready space in
      let call = pass_call i o b room v s a in
      record {
        ranged = record {
          aligned = ap (λ u. nth_number args 0 % u) unit ∙ ap (λ a. a % unit_bytes f) at ∙ step_aligned f v.source (skipped n b st) inv.source_aligned;
          inside = (let q : unit_bytes (from_encoding o) * nth_number args 1 ≡ unit_bytes f * (n - skipped n b st) = ap (λ u. u * nth_number args 1) unit ∙ ap (λ k. unit_bytes f * k) many in omega (arith, at, q, split, inv.source_in, long));
          own = subst (λ l. LiesInSound (length (to_bytes e s)) l (nth_number args 2) (room_bytes o call)) (sym (inv.given given).live_is)
              (inl (record { aligned = inv.aligned; inside = inv.inside }, (omega (arith, to), subst (λ k. nth_number args 2 + k ≤ v.region + st.size) (sym (room_same o call)) high)));
        };
        small = subst (λ k. k < 2 ^ 32) (sym (room_same o call)) (omega (arith, to, high, inv.small));
        fits = fitting (transcode_kind o) (address_value c.transfer.from (source_pointer c.transfer (from_encoding o) b v)) (address_value c.transfer.from (source_count c.transfer b v)) (address_value c.transfer.to (target_pointer c.transfer (transcode_kind o) b v)) many ready;
      }
    where
      same_pointer : (b : Bool) → source_pointer c.transfer (from_encoding o) b v ≡ source_pointer c.transfer f b v
      same_pointer true = ap (λ u. wrap c.transfer.from (v.source + u * v.read)) unit
      same_pointer false = refl

      plain : (t : FixedEncoding) (d y : ℕ) → d ≡ v.region + 0 → y ≡ n - skipped n b st → unit_bytes t * n ≤ st.size → d + unit_bytes t * y ≤ v.region + st.size
      plain t d y ed ey h =
          let small : y ≤ n = omega (arith, ey) in
          let more : unit_bytes t * y ≤ unit_bytes t * n = mul-le-mul (let same : unit_bytes t ≤ unit_bytes t = omega arith in same) small in omega (arith, ed, more, h)

      bounded : (k : TranscodeKind) (t : FixedEncoding) (b1 : Bool) (a0 a1 a2 : CoreValue) → bits_of a2 ≡ v.region + offset n k b1 st → bits_of a1 ≡ n - skipped n b st → IsReadyFor n k b1 room st → HasSpace n k t room st
          → bits_of a2 + kind_bytes k t (a0 ∷ a1 ∷ a2 ∷ more_args c.transfer k b1 room v) ≤ v.region + st.size
      bounded AllUnits t b1 a0 a1 a2 ed ey ready space = plain t (bits_of a2) (bits_of a1) ed ey space
      bounded Counted t b1 a0 a1 a2 ed ey ready space = plain t (bits_of a2) (bits_of a1) ed ey space
      bounded Narrow t b1 a0 a1 a2 ed ey ready space = plain t (bits_of a2) (bits_of a1) ed ey space
      bounded Tagged t b1 a0 a1 a2 ed ey ready space = plain t (bits_of a2) (bits_of a1) ed ey space
      bounded Widening t b1 a0 a1 a2 ed ey ready space =
          let m = (room_is live us Widening b1 room st v s inv ready).0 in
          let all : unit_bytes t * nth_number (more_args c.transfer Widening b1 room v) 0 ≡ unit_bytes t * (room * n - 0) = ap (λ k. unit_bytes t * k) m in
          let none : unit_bytes t * (room * n - 0) ≡ unit_bytes t * (room * n) = (let z : room * n - 0 ≡ room * n = omega arith in ap (λ k. unit_bytes t * k) z) in omega (arith, ed, all, none, space)
      bounded Fitting t true a0 a1 a2 ed ey ready space = let m = room_is live us Fitting true room st v s inv ready in omega (arith, ed, m, ready.1, ready.2)
      bounded Fitting t false a0 a1 a2 ed ey ready space = let m = room_is live us Fitting false room st v s inv ready in omega (arith, ed, m, ready)

      fitting : (k : TranscodeKind) (a0 a1 a2 : CoreValue) → bits_of a1 ≡ n - skipped n b st → IsReadyFor n k b room st → Fits k (a0 ∷ a1 ∷ a2 ∷ more_args c.transfer k b room v)
      fitting AllUnits a0 a1 a2 ey ready = tt
      fitting Counted a0 a1 a2 ey ready = tt
      fitting Narrow a0 a1 a2 ey ready = tt
      fitting Tagged a0 a1 a2 ey ready = tt
      fitting Fitting a0 a1 a2 ey ready = tt
      fitting Widening a0 a1 a2 ey ready =
          let there : bits_of (address_value c.transfer.to v.written) ≡ st.written = bits_address c.transfer.to v.written ∙ inv.written_is in
          let all = (room_is live us Widening b room st v s inv ready).0 in
          omega (arith, ey, there, all, ready.2)

  -- ---- what is read

  -- what a pass reads spells a text, where the source does
  units_spelled : (b : Bool) (live : List Region) (us : List ℕ) (st : Stage) (v : PathPoint) (s : MachineState) → Known live us st v s → Kept → SourceSpells f p0 size0 first → SpellsSome f (drop (unit_bytes f * skipped n b st) us)
  units_spelled true live us st v s inv z t = inv.left z t
  units_spelled false live us st v s inv z t = whole_first us (whole_source e Kept Good kept f n p0 size0 gs base first live us st v s inv z t)

  -- with room for it, where a pass widens what is there
  room_for : (k : TranscodeKind) (args : List CoreValue) (units : ℕ) → Fits k args → units ≤ nth_number args 1 → k ≡ Widening → nth_number args 4 + units ≤ nth_number args 3
  room_for AllUnits args units h le is = absurd cc
  room_for Counted args units h le is = absurd cc
  room_for Fitting args units h le is = absurd cc
  room_for Narrow args units h le is = absurd cc
  room_for Tagged args units h le is = absurd cc
  room_for Widening args units h le is = omega (arith, h, le)

  pub whole_read : (i : Import) (a : Answer) (live : List Region) (us : List ℕ) (o : Transcode) (b : Bool) (room : ℕ) (st : Stage) (v : PathPoint) (s : MachineState)
      → Known live us st v s → from_encoding o ≡ f → length us ≡ unit_bytes f * n → st.given ≡ true → SomeLeft n b st
      → IsReadyFor n (transcode_kind o) b room st → HasSpace n (transcode_kind o) (to_encoding o) room st → Kept → SourceSpells f p0 size0 first → ReadsText c.places o e.from.def (pass_call i o b room v s a)
  whole_read i a live us o b room st v s inv reads long given some ready space z t =
      let args = pass_args c.transfer o b room v in
      let skip = skipped n b st in
      let src = source_is live us b st v s inv given some long in
      let at : nth_number args 0 ≡ v.source + unit_bytes f * skip = bits_address c.transfer.from _ ∙ same_pointer b ∙ src.0 in
      let many : nth_number args 1 ≡ n - skip = bits_address c.transfer.from _ ∙ src.1 in
      let unit : unit_bytes (from_encoding o) ≡ unit_bytes f = ap unit_bytes reads in
      let le = skips b st some in
      let from : take (unit_bytes (from_encoding o) * nth_number args 1) (drop (nth_number args 0) (get_or s.memories (c.places.memory e.from.def) [])) ≡ drop (unit_bytes f * skip) us =
      ap (λ m. take (unit_bytes (from_encoding o) * nth_number args 1) (drop (nth_number args 0) m)) (sym (from_are e s))
      ∙ ap (λ u. take (u * nth_number args 1) (drop (nth_number args 0) (from_bytes e s))) unit
      ∙ ap (λ k. take (unit_bytes f * k) (drop (nth_number args 0) (from_bytes e s))) many
      ∙ ap (λ q. take (unit_bytes f * (n - skip)) (drop q (from_bytes e s))) at
      ∙ rest_of (from_bytes e s) us v.source (unit_bytes f) n skip long inv.source le in
      let spelled = units_spelled b live us st v s inv z t in
      let text = spelled.0 in
      let split = mul_split (unit_bytes f) n skip le in
      let left_long : length (drop (unit_bytes f * skip) us) ≡ unit_bytes f * nth_number args 1 = omega (arith, length-drop (unit_bytes f * skip) us, long, split, ap (λ k. unit_bytes f * k) many) in
      let count : nth_number args 1 ≡ units_of_text f text = counts f (drop (unit_bytes f * skip) us) text (nth_number args 1) left_long spelled.1.is in
      let served_so = served i a live us o b room st v s inv unit long given some ready space in
      record {
        text = text;
        can = subst (λ e1. AreSpelled e1 text) (sym reads) spelled.1.can;
        is = from ∙ spelled.1.is ∙ ap (λ e1. spelled_text e1 text) (sym reads);
        fits = room_for (transcode_kind o) args (units_of_text Utf16 text) served_so.fits (omega (arith, count, fewer16 f text spelled.1.can));
      }
    where
      same_pointer : (b : Bool) → source_pointer c.transfer (from_encoding o) b v ≡ source_pointer c.transfer f b v
      same_pointer true = ap (λ e1. wrap c.transfer.from (v.source + unit_bytes e1 * v.read)) reads
      same_pointer false = refl
