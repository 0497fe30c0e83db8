-- A path that leads from one stage to others does so in memory, by few calls that stay in their ranges, and stops at nothing
-- good.
use Rattle.std.proofs.Common.{◌≡◌, ℕ, ◌+◌, ◌*◌, ◌-◌, ◌/◌, ◌%◌, ◌^◌, ◌≤◌, ◌<◌, ⊎_elim, Bool, true, false, List, ◌∷◌, ◌++◌, length, take, drop, refl, sym, ap, ◌∙◌, subst, arith}
use Rattle.std.specs.Prelude.{max, nat_eq, nat_le, bit_or, map, not}
use Rattle.std.proofs.lemmas.Bool.{false≢true, eqb-true, eq-eqb, leb-true, le-leb, cases_lt}
use Rattle.std.proofs.lemmas.Nat.{or_shifted, or_comm}
use Rattle.fact_types.specs.declared.outside.FixedEncoding.{FixedEncoding}
use Rattle.fact_types.specs.declared.outside.StringEncoding.{StringEncoding}
use Rattle.fact_types.specs.declared.outside.StringEncoding.TheVariants as string
use Rattle.fact_types.specs.declared.outside.Transcode.{Transcode}
use Rattle.fact_types.specs.declared.outside.Trap.{Trap as TrapCode}
use Rattle.fact_types.specs.declared.outside.Trap.TheVariants.{StringOutOfBounds}
use Rattle.fact_machine.specs.declared.types.CoreValue.{CoreValue}
use Rattle.fact_machine.specs.declared.types.MachineState.{MachineState}
use Rattle.fact_machine.specs.World.{World}
use Rattle.fact_types.specs.declared.import.Import.TheVariants as import
use Rattle.fact_actions.specs.Actions.{Action, Give, Ask}
use Rattle.fact_actions.specs.Paths.{Test, AllRead, WrittenIs, HasNoTag, KeepsUnits, Path, End, Limit, Resize, Pass, If, Tag, Assert, TextForm, AsUtf8, AsUtf16, AsCompactLatin1, AsCompactUtf16, align_of, path}
use Rattle.fact_types.specs.declared.outside.MemoryOption.{MemoryOption}
use Rattle.fact_actions.specs.Sides.{with_memory, wrap, reallocate}
use Rattle.fact_values.specs.Lift.{bits_of}
use Rattle.fact_actions.specs.Strings.{PathPoint, holds, amount, passed, source_args, target_args, transcode, most_string_bytes, asserted, choose_action, walk}
use Rattle.fact_values.specs.Texts.{unit_bytes, utf16_tag, has_tag}
use Rattle.fact_actions.specs.Running.{Call, is_answer}
use Rattle.fact_actions.specs.Transcoders.{TranscodeKind, AllUnits, Counted, Fitting, Narrow, Tagged, Widening, transcode_kind, from_encoding, to_encoding, Room, IsHonestTranscoding, transcode_types}
use Rattle.fact_action_laws.specs.HonestMoves.{IsTranscoded}
use Rattle.fact_actions.specs.Regions.{Region, Position}
use Rattle.fact_action_laws.specs.Regions.{TransferSetting}
use Rattle.fact_actions.specs.Calls.{nth_number}
use Rattle.fact_actions.specs.Honest.{room_of}
use Rattle.fact_actions.specs.Order.{IsMemoryOf}
use Rattle.fact_types.specs.declared.import.Import.{Import}
use Rattle.fact_machine.specs.declared.types.Answer.TheVariants.{Returns}
use Rattle.fact_action_laws.proofs.Equipped.{IsEquipped}
use Rattle.fact_action_laws.proofs.Stages.{Stage, Leads, TestHolds, Testable, amount_at, skipped, room_at, after_pass}
use Rattle.fact_actions.proofs.OwnParts.{bits_address}
use Rattle.fact_action_laws.proofs.Answered.{position, MovesAlong, other_stays}
use Rattle.fact_action_laws.proofs.States.{from_bytes, to_bytes, typed_later}
use Rattle.fact_action_laws.proofs.Trails.{Walks, walks_give, walks_more, walks_ask, walks_unless, walks_bind}
use Rattle.fact_action_laws.proofs.WalkReallocs.{walks_with, walks_reallocate}
use Rattle.fact_action_laws.proofs.Invariant.{wrap_small, amount_is, SameRoom, rest_of, of_operation, SourceSpells, Inv, resize}
use Rattle.fact_action_laws.proofs.Passes.{source_pointer, target_pointer, pass_args, args_are, skips, source_is, room_is, behind_pass, served, whole_read}
use Rattle.fact_action_laws.proofs.Spelled.{form_encoding}

-- how many calls a path makes at most, a trap's own call aside
abbrev pub calls : Path → ℕ
calls End = 0
calls (Limit f p) = calls p
calls (Resize x y p) = 7 + calls p
calls (Pass o b room p) = 1 + calls p
calls (If t q r p) = max (calls q) (calls r) + calls p
calls (Tag p) = calls p
calls (Assert t test p) = calls p

-- all transcoders of a path read one encoding
abbrev pub ReadsIn : FixedEncoding → Path → Type 0
ReadsIn f End = Unit {0}
ReadsIn f (Limit most p) = ReadsIn f p
ReadsIn f (Resize x y p) = ReadsIn f p
ReadsIn f (Pass o b room p) = (from_encoding o ≡ f) × ReadsIn f p
ReadsIn f (If t q r p) = ReadsIn f q × ReadsIn f r × ReadsIn f p
ReadsIn f (Tag p) = ReadsIn f p
ReadsIn f (Assert t test p) = ReadsIn f p

pub reads_in : (form : TextForm) (to : StringEncoding) → ReadsIn (form_encoding form) (path form to)
reads_in AsUtf8 string.Utf8 = (refl, tt)
reads_in AsUtf8 string.Utf16 = (refl, (tt, tt, tt))
reads_in AsUtf8 string.CompactUtf16 = (refl, ((tt, tt, tt), (refl, (tt, tt, tt)), tt))
reads_in AsUtf16 string.Utf8 = (refl, (tt, (refl, (tt, tt, tt)), tt))
reads_in AsUtf16 string.Utf16 = (refl, tt)
reads_in AsUtf16 string.CompactUtf16 = (refl, ((tt, tt, tt), (refl, (tt, tt, tt)), tt))
reads_in AsCompactLatin1 string.Utf8 = (refl, (tt, (refl, (tt, tt, tt)), tt))
reads_in AsCompactLatin1 string.Utf16 = (refl, tt)
reads_in AsCompactLatin1 string.CompactUtf16 = (refl, tt)
reads_in AsCompactUtf16 string.Utf8 = (refl, (tt, (refl, (tt, tt, tt)), tt))
reads_in AsCompactUtf16 string.Utf16 = (refl, tt)
reads_in AsCompactUtf16 string.CompactUtf16 = (refl, (tt, tt, tt))

pub few_calls : (form : TextForm) (to : StringEncoding) → calls (path form to) ≤ 29
few_calls AsUtf8 string.Utf8 = omega arith
few_calls AsUtf8 string.Utf16 = omega arith
few_calls AsUtf8 string.CompactUtf16 = omega arith
few_calls AsUtf16 string.Utf8 = omega arith
few_calls AsUtf16 string.Utf16 = omega arith
few_calls AsUtf16 string.CompactUtf16 = omega arith
few_calls AsCompactLatin1 string.Utf8 = omega arith
few_calls AsCompactLatin1 string.Utf16 = omega arith
few_calls AsCompactLatin1 string.CompactUtf16 = omega arith
few_calls AsCompactUtf16 string.Utf8 = omega arith
few_calls AsCompactUtf16 string.Utf16 = omega arith
few_calls AsCompactUtf16 string.CompactUtf16 = omega arith

tag_is : (w : ℕ) → w < 2 ^ 31 → bit_or w (2 ^ 31) ≡ w + 2 ^ 31
tag_is w h = or_comm w (2 ^ 31) ∙ or_shifted 1 31 w h ∙ omega arith

-- the room that a transcoder is told, by its arguments
room_told : (k : TranscodeKind) (x : Call) (there : List ℕ) (g : Room) → SameRoom k (record { room = nth_number x.args 3; latin1_bytes = take (nth_number x.args 4) there }) g → SameRoom k (room_of k x there) g
room_told AllUnits x there g h = tt
room_told Counted x there g h = tt
room_told Narrow x there g h = tt
room_told Tagged x there g h = tt
room_told Fitting x there g h = h
room_told Widening x there g h = h

-- a test, and what holds by it
pub record TestTells (b : Bool) (P : Type 0) : Type 0 where
  pub yes : b ≡ true → P
  pub no : b ≡ false → P → ⊥

equal_tells : (x y : ℕ) → TestTells (nat_eq x y) (x ≡ y)
equal_tells x y = record { yes = eqb-true x y; no = λ h e. false≢true (sym h ∙ eq-eqb x y e) }

tells_so : (b : Bool) (P Q : Type 0) → (P → Q) → (Q → P) → TestTells b P → TestTells b Q
tells_so b P Q f g t = record { yes = λ h. f (t.yes h); no = λ h q. t.no h (g q) }

-- its opposite
not_tells : (b : Bool) (P : Type 0) → TestTells b P → TestTells (not b) (P → ⊥)
not_tells true P t = record { yes = λ h. absurd (false≢true h); no = λ h f. f (t.yes refl) }
not_tells false P t = record { yes = λ h. t.no refl; no = λ h f. false≢true (sym h) }

module _ {c : TransferSetting} (e : IsEquipped c) (Kept Good : Type 0) (kept : Good → Kept) (f : FixedEncoding) (n p0 size0 : ℕ) (gs : List Region) (base first : List ℕ) where
  -- the source spells a text
  abbrev Text : Type 0
  Text = SourceSpells f p0 size0 first

  abbrev Known : List Region → List ℕ → Stage → PathPoint → MachineState → Type 0
  Known live us st v s = Inv e Kept Good kept f n p0 size0 gs base first live us st v s

  tested : (live : List Region) (us : List ℕ) (t : Test) (st : Stage) (v : PathPoint) (s : MachineState) → Known live us st v s → Testable n t st → TestTells (holds c.transfer t v) (TestHolds n t st)
  tested live us AllRead st v s inv k = tells_so _ _ _ (λ h. sym inv.read_is ∙ h ∙ inv.length_is) (λ h. inv.read_is ∙ h ∙ sym inv.length_is) (equal_tells v.read v.length)
  tested live us (WrittenIs x) st v s inv k =
      let all : wrap c.transfer.to (x * v.length) ≡ x * n = ap (λ k. wrap c.transfer.to (x * k)) inv.length_is ∙ wrap_small c.transfer.to (x * n) k in
      tells_so _ _ _ (λ h. sym inv.written_is ∙ h ∙ all) (λ h. inv.written_is ∙ h ∙ sym all) (equal_tells v.written (wrap c.transfer.to (x * v.length)))
  tested live us HasNoTag st v s inv k =
      tells_so _ _ _ (λ h. ⊎_elim (λ low. low) (λ high. absurd (h (omega (arith, high, inv.written_is, k)))) (cases_lt st.written (2 ^ 31))) (λ h tag. omega (arith, h, inv.written_is, tag))
      (not_tells (has_tag v.written) (v.written / utf16_tag % 2 ≡ 1) (equal_tells (v.written / utf16_tag % 2) 1))
  tested live us KeepsUnits st v s inv k = tells_so _ _ _ (λ h. ap (λ w. w % 2 ^ 31) (sym inv.written_is) ∙ h ∙ inv.length_is) (λ h. ap (λ w. w % 2 ^ 31) inv.written_is ∙ h ∙ sym inv.length_is) (equal_tells (v.written % 2 ^ 31) v.length)

  reset : (live : List Region) (us : List ℕ) (st : Stage) (v : PathPoint) (s : MachineState) (x y : ℕ) → x ≡ y → Known live us st v s → Known live us (record st { written = y }) (record v { written = x }) s
  reset live us st v s x y is inv = record {
    there = inv.there;
    length_is = inv.length_is;
    source_is = inv.source_is;
    size_is = inv.size_is;
    read_is = inv.read_is;
    written_is = is;
    source_aligned = inv.source_aligned;
    source = inv.source;
    source_in = inv.source_in;
    others = inv.others;
    given = λ yes. let g = inv.given yes in record { live_is = g.live_is; from_cap = g.from_cap; to_cap = g.to_cap };
    aligned = inv.aligned;
    below = inv.below;
    inside = inv.inside;
    apart = inv.apart;
    stand = inv.stand;
    long = inv.long;
    small = inv.small;
    frame = inv.frame;
    grown = inv.grown;
    same = inv.same;
    left = inv.left;
  }

  -- where a walk ends: at a stage of which P holds
  pub record WalkReached (P : List ℕ → Stage → Type 0) (live : List Region) (v : PathPoint) (w : World) : Type 0 where
    pub us : List ℕ
    pub stage : Stage
    pub holds : P us stage
    pub inv : Known live us stage v w.state

  module _ {next : Call → Position → Position} {live : List Region} {Q : List Region → PathPoint → World → Type 0} {most : ℕ} where
    walks_branch : (b : Bool) (q r : Action PathPoint) (w : World) → (b ≡ true → Walks c next Kept Good Text most live Q q w) → (b ≡ false → Walks c next Kept Good Text most live Q r w) → Walks c next Kept Good Text most live Q (choose_action b q r) w
    walks_branch true q r w h k = h refl
    walks_branch false q r w h k = k refl

    walks_asserted : (debug : Bool) (t : TrapCode) (b : Bool) (q : Action PathPoint) (w : World) → (b ≡ false → Good → ⊥) → Walks c next Kept Good Text most live Q q w → Walks c next Kept Good Text most live Q (asserted debug t b q) w
    walks_asserted true t b q w never h = walks_unless t b never (λ yes. h)
    walks_asserted false t b q w never h = h

  module _ {next : Call → Position → Position} (steps : MovesAlong c next) where
    -- a pass, and what its answer leads to
    walks_pass : (o : Transcode) (b : Bool) (room : ℕ) (p : Path) (live : List Region) (us : List ℕ) (st : Stage) (v : PathPoint) (w : World) (P : List ℕ → Stage → Type 0) → from_encoding o ≡ f → Leads n Kept Good (Pass o b room p) us st P → Known live us st v w.state
        → Walks c next Kept Good Text 1 live (WalkReached (λ us1 st1. Leads n Kept Good p us1 st1 P)) (transcode c.transfer o b room v) w
    walks_pass o b room p live us st v w P reads l inv =
        walks_with c.transfer.from e.from (λ m. with_memory c.transfer.to (λ k. called m k)) w e.from_is
        (walks_with c.transfer.to e.to (λ k. called e.from k) w e.to_is
        (subst (λ args. Walks c next Kept Good Text 1 live (WalkReached (λ us1 st1. Leads n Kept Good p us1 st1 P)) (Ask (import.Transcode o e.from.def e.from.memory64 e.to.def e.to.memory64) args (transcode_types (transcode_kind o) e.from.memory64 e.to.memory64) (λ rs. Give (passed c.transfer (transcode_kind o) b rs v))) w) (sym (args_are c.transfer o b room v))
        (walks_ask {b = 0} (omega arith) refl
        (λ a. (of_from, of_to, served e Kept Good kept f n p0 size0 gs base first (import.Transcode o e.from.def e.from.memory64 e.to.def e.to.memory64) a live us o b room st v w.state inv unit long l.1 l.2 l.3 l.4))
        (λ a z t. whole_read e Kept Good kept f n p0 size0 gs base first (import.Transcode o e.from.def e.from.memory64 e.to.def e.to.memory64) a live us o b room st v w.state inv reads long l.1 l.2 l.3 l.4 z t)
        (λ rs after. other_stays steps _ (position c live) (λ d. refl)) (λ rs w1 typed hp. walks_give (reached rs w1 typed (hp of_from of_to))))))
      where
        called : MemoryOption → MemoryOption → Action PathPoint
        called m k = Ask (import.Transcode o m.def m.memory64 k.def k.memory64) (source_args c.transfer o b v ++ target_args c.transfer (transcode_kind o) b room v) (transcode_types (transcode_kind o) m.memory64 k.memory64) (λ rs. Give (passed c.transfer (transcode_kind o) b rs v))

        between : Import
        between = import.Transcode o e.from.def e.from.memory64 e.to.def e.to.memory64

        of_from : IsMemoryOf c.transfer.from e.from.def e.from.memory64
        of_from = record { memory = e.from; memory_is = e.from_is; def_is = refl; width_is = refl }

        of_to : IsMemoryOf c.transfer.to e.to.def e.to.memory64
        of_to = record { memory = e.to; memory_is = e.to_is; def_is = refl; width_is = refl }

        unit : unit_bytes (from_encoding o) ≡ unit_bytes f
        unit = ap unit_bytes reads

        long : length us ≡ unit_bytes f * n
        long = l.0 ∙ ap (λ u. u * n) unit

        same_pointer : (b : Bool) → source_pointer c.transfer (from_encoding o) b v ≡ source_pointer c.transfer f b v
        same_pointer true = ap (λ u. wrap c.transfer.from (v.source + u * v.read)) unit
        same_pointer false = refl

        args : List CoreValue
        args = pass_args c.transfer o b room v

        reached : (rs : List CoreValue) (w1 : World) → is_answer c.places (transcode_types (transcode_kind o) e.from.memory64 e.to.memory64) w.state rs w1.state ≡ true → IsTranscoded c o (record { what = between; args = args; before = w.state; answer = Returns rs w1.state }) → WalkReached (λ us1 st1. Leads n Kept Good p us1 st1 P) live (passed c.transfer (transcode_kind o) b rs v) w1
        reached rs w1 typed hp =
            let later = typed_later e (transcode_types (transcode_kind o) e.from.memory64 e.to.memory64) rs w.state w1.state inv.there typed in
            let numbers = map (λ v. bits_of v) rs in
            let src = source_is e Kept Good kept f n p0 size0 gs base first live us b st v w.state inv l.1 l.2 long in
            let at : nth_number args 0 ≡ v.source + unit_bytes (from_encoding o) * skipped n b st = bits_address c.transfer.from _ ∙ same_pointer b ∙ src.0 ∙ ap (λ u. v.source + u * skipped n b st) (sym unit) in
            let many : nth_number args 1 ≡ n - skipped n b st = bits_address c.transfer.from _ ∙ src.1 in
            let to : nth_number args 2 ≡ target_pointer c.transfer (transcode_kind o) b v = bits_address c.transfer.to _ in
            let from : take (unit_bytes (from_encoding o) * nth_number args 1) (drop (nth_number args 0) (from_bytes e w.state)) ≡ drop (unit_bytes (from_encoding o) * skipped n b st) us =
            ap (λ k. take (unit_bytes (from_encoding o) * k) (drop (nth_number args 0) (from_bytes e w.state))) many ∙ ap (λ a. take (unit_bytes (from_encoding o) * (n - skipped n b st)) (drop a (from_bytes e w.state))) at
            ∙ rest_of (from_bytes e w.state) us v.source (unit_bytes (from_encoding o)) n (skipped n b st) l.0 inv.source (skips e Kept Good kept f n p0 size0 gs base first b st l.2) in
            let there = drop (nth_number args 2) (to_bytes e w.state) in
            let told = room_of (transcode_kind o) (record { what = between; args = args; before = w.state; answer = Returns rs w1.state }) there in
            let same : SameRoom (transcode_kind o) told (room_at n (transcode_kind o) b room st) =
            room_told (transcode_kind o) (record { what = between; args = args; before = w.state; answer = Returns rs w1.state }) there (room_at n (transcode_kind o) b room st)
            (subst (λ a. SameRoom (transcode_kind o) (record { room = nth_number args 3; latin1_bytes = take (nth_number args 4) (drop a (to_bytes e w.state)) }) (room_at n (transcode_kind o) b room st)) (sym to)
            (room_is e Kept Good kept f n p0 size0 gs base first live us (transcode_kind o) b room st v w.state inv l.3)) in
            let says = of_operation o told (room_at n (transcode_kind o) b room st) (drop (unit_bytes (from_encoding o) * skipped n b st) us) hp.wrote numbers same (subst (λ x. IsHonestTranscoding o told x hp.wrote numbers) from hp.says) in
            let on = l.5 hp.wrote numbers says in
            record {
              us = us;
              stage = after_pass n (transcode_kind o) b st hp.wrote numbers;
              holds = on.1;
              inv = behind_pass e Kept Good kept f n p0 size0 gs base first live us (transcode_kind o) (from_encoding o) (to_encoding o) b room st v w.state w1.state between o args rs (room_at n (transcode_kind o) b room st) _ hp.wrote says l.1 l.3 to on.0 refl l.0 l.2 hp refl later reads inv;
            }

    pub walks_path : (p : Path) (live : List Region) (us : List ℕ) (st : Stage) (v : PathPoint) (w : World) (P : List ℕ → Stage → Type 0) → ReadsIn f p → Leads n Kept Good p us st P → Known live us st v w.state
        → Walks c next Kept Good Text (calls p) live (WalkReached P) (walk c.transfer p v) w
    walks_path End live us st v w P reads l inv = walks_give (record { us = us; stage = st; holds = l; inv = inv })
    walks_path (Limit most p) live us st v w P reads l inv =
        walks_unless StringOutOfBounds (nat_le v.length (most_string_bytes / most)) (λ no g. false≢true (sym no ∙ le-leb v.length (most_string_bytes / most) (let le = l.0 g in omega (arith, le, inv.length_is))))
        (λ yes. walks_path p live us st v w P reads (l.1 (let le = leb-true v.length (most_string_bytes / most) yes in omega (arith, le, inv.length_is))) inv)
    walks_path (Resize x y p) live us st v w P reads l inv =
        let ex : amount c.transfer x v ≡ st.size = amount_is c.transfer x v n st inv.length_is inv.written_is (omega (arith, l.0, inv.small)) ∙ l.0 in
        let ey : amount c.transfer y v ≡ amount_at n y st = amount_is c.transfer y v n st inv.length_is inv.written_is l.1 in
        subst (λ a. Walks c next Kept Good Text (7 + calls p) live (WalkReached P) (reallocate c.transfer.concurrency c.transfer.to StringOutOfBounds v.region a (align_of c.transfer.to.encoding) (amount c.transfer y v) (λ q. walk c.transfer p (record v { region = q }))) w) (sym ex)
        (subst (λ b. Walks c next Kept Good Text (7 + calls p) live (WalkReached P) (reallocate c.transfer.concurrency c.transfer.to StringOutOfBounds v.region st.size (align_of c.transfer.to.encoding) b (λ q. walk c.transfer p (record v { region = q }))) w) (sym ey)
        (walks_reallocate e Kept Good kept steps StringOutOfBounds v.region st.size (amount_at n y st) (λ q. walk c.transfer p (record v { region = q })) w inv.there (λ q w1 got.
        let z = resize e Kept Good kept f n p0 size0 gs base first live us st v w.state w1.state q (amount_at n y st) l.1 inv got in
        subst (λ gs1. Walks c next Kept Good Text (calls p) (record { at = q; size = amount_at n y st; align = align_of c.transfer.to.encoding } ∷ gs1) (WalkReached P) (walk c.transfer p (record v { region = q })) w1) (sym inv.others)
        (walks_path p (record { at = q; size = amount_at n y st; align = align_of c.transfer.to.encoding } ∷ gs) z.us2 _ (record v { region = q }) w1 P reads (l.2 z.us2 z.have z.l1 z.l2 z.same z.keeps) z.inv))))
    walks_path (Pass o b room p) live us st v w P reads l inv =
        walks_bind (transcode c.transfer o b room v) (λ u. walk c.transfer p u) w (omega arith) (walks_pass o b room p live us st v w P reads.0 l inv)
        (λ live1 v1 w1 h. walks_path p live1 h.us h.stage v1 w1 P reads.1 h.holds h.inv)
    walks_path (If t q r p) live us st v w P reads l inv =
        let tells = tested live us t st v w.state inv l.0 in
        walks_bind (choose_action (holds c.transfer t v) (walk c.transfer q v) (walk c.transfer r v)) (λ u. walk c.transfer p u) w (omega arith)
        (walks_branch (holds c.transfer t v) (walk c.transfer q v) (walk c.transfer r v) w
        (λ yes. walks_more {a = calls q} {b = max (calls q) (calls r)} (omega arith) (λ rs x w' h. h) (walks_path q live us st v w (λ us1 st1. Leads n Kept Good p us1 st1 P) reads.0 (l.1 (tells.yes yes)) inv))
        (λ no. walks_more {a = calls r} {b = max (calls q) (calls r)} (omega arith) (λ rs x w' h. h) (walks_path r live us st v w (λ us1 st1. Leads n Kept Good p us1 st1 P) reads.1 (l.2 (tells.no no)) inv)))
        (λ live1 v1 w1 h. walks_path p live1 h.us h.stage v1 w1 P reads.2 h.holds h.inv)
    walks_path (Tag p) live us st v w P reads l inv =
        walks_path p live us _ _ w P reads l.1 (reset live us st v w.state (bit_or v.written (2 ^ 31)) (st.written + 2 ^ 31) (ap (λ x. bit_or x (2 ^ 31)) inv.written_is ∙ tag_is st.written l.0) inv)
    walks_path (Assert t test p) live us st v w P reads l inv =
        walks_asserted c.transfer.debug t (holds c.transfer test v) (walk c.transfer p v) w (λ no g. (tested live us test st v w.state inv l.0).no no (l.1 (kept g))) (walks_path p live us st v w P reads l.2 inv)
