-- Parts of moves ask of realloc what the parts of their values do.
use Rattle.std.proofs.Common.{◌≡◌, ℕ, zero, suc, ◌+◌, ◌*◌, ◌%◌, ◌^◌, Bool, true, false, List, [], ◌∷◌, ◌++◌, length, Option, Some, None, refl, sym, ap, ◌∙◌, subst, arith, append_assoc}
use Rattle.std.specs.Prelude.{slice_get, slice_set, nat_eq, nat_le, nat_lt, if◌then◌else◌}
use Rattle.std.proofs.lemmas.Bool.{false≢true}
use Rattle.std.proofs.lemmas.List.{append-nil}
use Rattle.fact_wasm.specs.declared.types.ValType.{ValType}
use Rattle.fact_types.proofs.ShapeLaws.{none_some, same_some}
use Rattle.fact_types.specs.Adapters.{is_wide}
use Rattle.fact_types.specs.Signatures.{pointer_bytes, width}
use Rattle.fact_types.specs.FlatShapes.{pointer}
use Rattle.fact_types.specs.Options.{◌>>=◌ as and_then}
use Rattle.fact_types.specs.declared.import.Import.{Import}
use Rattle.fact_types.specs.declared.import.Import.TheVariants as import
use Rattle.fact_types.specs.declared.outside.CoreDef.{CoreDef}
use Rattle.fact_types.specs.declared.outside.MemoryOption.{MemoryOption}
use Rattle.fact_types.specs.declared.outside.StringEncoding.{StringEncoding}
use Rattle.fact_types.specs.declared.outside.StringEncoding.TheVariants as string
use Rattle.fact_types.specs.declared.outside.Trap.{Trap as TrapCode}
use Rattle.fact_types.specs.declared.outside.Trap.TheVariants.{StringOutOfBounds}
use Rattle.fact_machine.specs.World.{World, Done, Halt, Trap, read, write, written, with_number, number_at}
use Rattle.fact_machine.specs.declared.types.CoreValue.{CoreValue}
use Rattle.fact_machine.specs.declared.types.CoreValue.TheVariants.{I32, I64, F32, F64, Func}
use Rattle.fact_values.specs.Lift.{bits_of, number_as}
use Rattle.fact_values.specs.Numbers.{number_in}
use Rattle.fact_values.specs.Places.{Pair}
use Rattle.fact_values.specs.Texts.{form_of}
use Rattle.fact_actions.specs.Actions.{Action, Give, Visit, Read, Ask, Unreachable, ◌>>=◌, unless, each_from}
use Rattle.fact_actions.specs.Calls.{is_import_of}
use Rattle.fact_actions.specs.Paths.{TextForm, AsUtf8, AsUtf16, AsCompactLatin1, AsCompactUtf16, path}
use Rattle.fact_actions.specs.Regions.{Region}
use Rattle.fact_actions.specs.Requests.{Request, RequestPart, RegionPart, TextPart, new_region, next_answer, path_requests, parts_requests, is_transcode}
use Rattle.fact_actions.specs.Running.{ImportPlaces, Call, Ended, Gave, Halted, Strayed, or_strayed, ended, run}
use Rattle.fact_actions.specs.Adapters.{none}
use Rattle.fact_actions.specs.Sides.{LiftLowerOptions, Transfer, Source, Values, AtAddress, Target, Slots, Into, with_memory, low_half, bytes_of_addresses, first_bits, nth_part, nth_spot, read_number, write_number, read_pair, write_pair, check_region, reallocate}
use Rattle.fact_actions.specs.Strings.{PathPoint, path_start, walk, form_in, move_string}
use Rattle.fact_action_laws.proofs.Bytes.{get_set_other}
use Rattle.fact_action_laws.specs.Regions.{TransferSetting, AreBytesOf}
use Rattle.fact_action_laws.specs.Parts.{pair_of_source, parts_of_some, parts_of_each}
use Rattle.fact_action_laws.specs.ReadTexts.{ReadsTextBy}
use Rattle.fact_action_laws.specs.Rooms.{CutsShrink, AllCutsShrink}
use Rattle.fact_action_laws.proofs.Asking.{Answers, Asks, AsksEnd, HasBytesOf, asks_give, asks_stop, asks_visit, asks_like, asks_other, asks_unless, asks_with, asks_bind}
use Rattle.fact_action_laws.proofs.Cutting.{Tells, TellsEnd, tells_give, tells_stop, tells_visit, tells_like, tells_other, tells_unless, tells_with, tells_check, tells_reallocate, tells_bind}
use Rattle.fact_action_laws.proofs.Fine.{HasKnownSides}
use Rattle.fact_action_laws.proofs.PartTexts.{AreTextsThere, there_parts}
use Rattle.fact_action_laws.proofs.ReadRuns.{Reads, reads_give, reads_stop, reads_visit, reads_call, reads_unless, reads_with, reads_check, reads_reallocate, reads_read, reads_bind, reads_write}
use Rattle.fact_action_laws.proofs.ReadWalks.{walk_reads}
use Rattle.fact_action_laws.proofs.TextCuts.{walk_tells, path_shrinks, cuts_apart}
use Rattle.fact_action_laws.proofs.WalkAsks.{at_point, asks_check, asks_reallocate, walk_asks, source_apart, next_same}

-- ---- parts, and what is asked for behind them

abbrev pub parts_then : Transfer → List RequestPart → Answers → (Answers → List Request) → List Request
parts_then tr [] l k = k l
parts_then tr (RegionPart align size ∷ xs) l k = new_region align size ∷ next_answer l (λ rs more. parts_then tr xs more k)
parts_then tr (TextPart f p n ∷ xs) l k = path_requests tr (path f tr.to.encoding) (path_start 0 n) l (λ v more. parts_then tr xs more k)

parts_append : (tr : Transfer) (xs ys : List RequestPart) (l : Answers) (k : Answers → List Request) → parts_then tr (xs ++ ys) l k ≡ parts_then tr xs l (λ more. parts_then tr ys more k)
parts_append tr [] ys l k = refl
parts_append tr (RegionPart align size ∷ xs) ys l k = ap (λ r. new_region align size ∷ r) (next_same tr 0 l _ _ (λ rs more. parts_append tr xs ys more k))
parts_append tr (TextPart f p n ∷ xs) ys l k = source_apart tr 0 (path f tr.to.encoding) (path_start 0 n) l _ _ (λ v more. parts_append tr xs ys more k)

pub parts_alone : (tr : Transfer) (xs : List RequestPart) (l : Answers) → parts_then tr xs l (λ more. []) ≡ parts_requests tr xs l
parts_alone tr [] l = refl
parts_alone tr (RegionPart align size ∷ xs) l = ap (λ r. new_region align size ∷ r) (next_same tr 0 l _ _ (λ rs more. parts_alone tr xs more))
parts_alone tr (TextPart f p n ∷ xs) l = source_apart tr 0 (path f tr.to.encoding) (path_start 0 n) l _ _ (λ v more. parts_alone tr xs more)

-- what is asked for behind does not hang on what is given
abbrev pub handed : {A : Type 0} → (Answers → List Request) → A → Answers → List Request
handed k a more = k more

-- a pair of numbers
abbrev some_pair : ℕ → ℕ → Option Pair
some_pair p n = Some (record { pointer = p; count = n })

pair_same : {p n x y : ℕ} → Some x ≡ Some p → Some y ≡ Some n → some_pair x y ≡ some_pair p n
pair_same {p} {n} {x} {y} e f = ap (λ z. some_pair z y) (same_some (Some x) x p refl e) ∙ ap (λ z. some_pair p z) (same_some (Some y) y n refl f)

-- a call of no transcoder reads no text
reads_other : (i : Import) (p : ImportPlaces) (x : Call) → is_transcode i ≡ false → ReadsTextBy i p x
reads_other (import.Transcode o from from64 to to64) p x h = absurd (false≢true (sym h))
reads_other (import.CoreDef d) p x h = tt
reads_other (import.PrepareCall memory) p x h = tt
reads_other (import.StartCall callback post_return) p x h = tt
reads_other import.ResourceTransferOwn p x h = tt
reads_other import.ResourceTransferBorrow p x h = tt
reads_other import.FutureTransfer p x h = tt
reads_other import.StreamTransfer p x h = tt
reads_other import.ErrorContextTransfer p x h = tt
reads_other (import.Trap t) p x h = tt
reads_other import.EnterSyncCall p x h = tt
reads_other import.ExitSyncCall p x h = tt
reads_other (import.UnsafeIntrinsic s) p x h = tt

-- where nothing is answered yet
pub unanswered : (tr : Transfer) (xs : List RequestPart) → AllCutsShrink tr xs []
unanswered tr [] = tt
unanswered tr (RegionPart align size ∷ xs) = tt
unanswered tr (TextPart f p n ∷ xs) = by_path f tr.to.encoding
  where
    by_path : (f : TextForm) (e : StringEncoding) → CutsShrink tr (path f e) (path_start 0 n) [] (λ v more. AllCutsShrink tr xs more)
    by_path AsUtf8 string.Utf8 = (tt, tt)
    by_path AsUtf8 string.Utf16 = (tt, tt)
    by_path AsUtf8 string.CompactUtf16 = (tt, tt)
    by_path AsUtf16 string.Utf8 = (tt, tt)
    by_path AsUtf16 string.Utf16 = (tt, tt)
    by_path AsUtf16 string.CompactUtf16 = (tt, tt)
    by_path AsCompactLatin1 string.Utf8 = (tt, tt)
    by_path AsCompactLatin1 string.Utf16 = (tt, tt)
    by_path AsCompactLatin1 string.CompactUtf16 = (tt, tt)
    by_path AsCompactUtf16 string.Utf8 = (tt, tt)
    by_path AsCompactUtf16 string.Utf16 = (tt, tt)
    by_path AsCompactUtf16 string.CompactUtf16 = (tt, tt)

-- nothing is known of what is given
abbrev pub anything : {A : Type 0} → A → Type 0
anything a = Unit {0}

module _ (c : TransferSetting) (known : HasKnownSides c) where
  -- No region is cut by answers so that it grows, where none is behind what is given.
  abbrev cuts_of : List RequestPart → Answers → Type 0
  cuts_of xs l = AllCutsShrink c.transfer xs l

  abbrev pub CutsBehind : {A : Type 0} → (xs behind : List RequestPart) → Action A → Type 0
  CutsBehind xs ys q = Tells c known anything (λ a. cuts_of ys) (cuts_of (xs ++ ys)) q

  -- An action by honest calls asks for what these parts ask for, no region that it cuts grows, and where their texts are there transcoders read
  -- whole ones.
  pub record AsksParts {A : Type 0} (xs : List RequestPart) (q : Action A) : Type 0 where
    pub asks : Asks c known handed (λ l k. parts_then c.transfer xs l k) q
    pub cuts : (behind : List RequestPart) → CutsBehind xs behind q
    pub reads : AreTextsThere c xs → Reads c known q

  module _ {A : Type 0} where
    pub parts_give : (a : A) → AsksParts [] (Give a)
    parts_give a = record { asks = asks_give c known a; cuts = λ ys. tells_give c known a tt (unanswered c.transfer ys) (λ more x. x); reads = λ t. reads_give c known a }

    pub parts_stop : (xs : List RequestPart) → AsksParts {A = A} xs Unreachable
    parts_stop xs = record { asks = asks_stop c known _; cuts = λ ys. tells_stop c known (unanswered c.transfer (xs ++ ys)); reads = λ t. reads_stop c known }

    pub parts_visit : (n : ℕ) {xs : List RequestPart} {q : Action A} → AsksParts xs q → AsksParts xs (Visit n q)
    parts_visit n {xs} {q} h = record { asks = asks_visit c known n _ q h.asks; cuts = λ ys. tells_visit c known n (h.cuts ys); reads = λ t. reads_visit c known n (h.reads t) }

    pub parts_unless : (t : TrapCode) (b : Bool) {xs : List RequestPart} {q : Action A} → (b ≡ true → AsksParts xs q) → AsksParts xs (unless t b q)
    parts_unless t b {xs} {q} h = record { asks = asks_unless c known _ t b q (λ e. (h e).asks); cuts = λ ys. tells_unless c known t b (unanswered c.transfer (xs ++ ys)) (λ e. (h e).cuts ys); reads = λ z. reads_unless c known t b (λ e. (h e).reads z) }

    pub parts_with : (o : LiftLowerOptions) {xs : List RequestPart} {k : MemoryOption → Action A} → ((m : MemoryOption) → o.memory ≡ Some m → AsksParts xs (k m)) → AsksParts xs (with_memory o k)
    parts_with o {xs} {k} h = record { asks = asks_with c known _ o k (λ m is. (h m is).asks); cuts = λ ys. tells_with c known o (unanswered c.transfer (xs ++ ys)) (λ m is. (h m is).cuts ys); reads = λ t. reads_with c known o (λ m is. (h m is).reads t) }

    pub parts_check : (o : LiftLowerOptions) (t : TrapCode) (p n align : ℕ) {xs : List RequestPart} {q : Action A} → AsksParts xs q → AsksParts xs (check_region o t p n align q)
    parts_check o t p n align {xs} {q} h = record { asks = asks_check c known _ o t p n align q h.asks; cuts = λ ys. tells_check c known o t p n align (h.cuts ys); reads = λ z. reads_check c known o t p n align (h.reads z) }

    pub parts_other : (i : Import) (args : List CoreValue) (ts : List ValType) {xs : List RequestPart} {k : List CoreValue → Action A} → ((d : CoreDef) → is_import_of d i ≡ false) → is_transcode i ≡ false → ((rs : List CoreValue) → AsksParts xs (k rs)) → AsksParts xs (Ask i args ts k)
    parts_other i args ts {xs} {k} apart other h = record {
      asks = asks_other c known _ i args ts k apart other (λ rs. (h rs).asks);
      cuts = λ ys. tells_other c known i args ts apart other (unanswered c.transfer (xs ++ ys)) (λ rs. (h rs).cuts ys);
      reads = λ t. reads_call c known i args ts (λ before answer. reads_other i c.places (record { what = i; args = args; before = before; answer = answer }) other) (λ rs. (h rs).reads t);
    }

    pub parts_reallocate : (t : TrapCode) (align size : ℕ) {xs : List RequestPart} {k : ℕ → Action A} → ((q : ℕ) → AsksParts xs (k q)) → AsksParts (RegionPart align size ∷ xs) (reallocate c.transfer.concurrency c.transfer.to t 0 0 align size k)
    parts_reallocate t align size {xs} {k} h = record {
      asks = asks_reallocate c known _ (λ q l z. parts_then c.transfer xs l z) t 0 0 align size k (λ l z. refl) (λ q. (h q).asks);
      cuts = λ ys. tells_reallocate c known t 0 0 align size k (unanswered c.transfer (RegionPart align size ∷ (xs ++ ys))) (λ rs. (h (first_bits rs)).cuts ys);
      reads = λ z. reads_reallocate c known t 0 0 align size k (λ q. (h q).reads z);
    }

    pub parts_either : (b : Bool) {xs ys : List RequestPart} {q r : Action A} → AsksParts xs q → AsksParts ys r → AsksParts (if b then xs else ys) (if b then q else r)
    parts_either true h k = h
    parts_either false h k = k

    -- ---- numbers

    low_parts : (debug : Bool) (v : CoreValue) {xs : List RequestPart} (k : ℕ → Action A) → AsksParts xs (k (bits_of v % 2 ^ 32)) → AsksParts xs (low_half debug v k)
    low_parts true (I64 n) k h = parts_unless _ (nat_lt n (2 ^ 32)) (λ yes. h)
    low_parts true (I32 n) k h = h
    low_parts true (F32 n) k h = h
    low_parts true (F64 n) k h = parts_unless _ (nat_lt n (2 ^ 32)) (λ yes. h)
    low_parts true (Func f) k h = h
    low_parts false v k h = h

  -- the number of so many bytes at a source
  abbrev pub number_of_source : ℕ → Source → Option ℕ
  number_of_source size (Values []) = None
  number_of_source size (Values (v ∷ vs)) = Some (if nat_eq size 8 then bits_of v else bits_of v % 2 ^ 32)
  number_of_source size (AtAddress a) = number_in c.source size a

  -- a pointer and a length
  pair_numbers : (s : Source) (p n : ℕ) → number_of_source (bytes_of_addresses c.transfer.from) (nth_part 1 (bytes_of_addresses c.transfer.from) 0 s) ≡ Some p
      → number_of_source (bytes_of_addresses c.transfer.from) (nth_part 1 (bytes_of_addresses c.transfer.from) 1 s) ≡ Some n → pair_of_source c s ≡ some_pair p n
  pair_numbers (Values []) p n e f = absurd (none_some None p refl e)
  pair_numbers (Values (v ∷ [])) p n e f = absurd (none_some None n refl f)
  pair_numbers (Values (v ∷ (u ∷ vs))) p n e f = by_width (is_wide c.transfer.from.memory) e f
    where
      by_width : (b : Bool) → Some (if nat_eq (pointer_bytes (width b)) 8 then bits_of v else bits_of v % 2 ^ 32) ≡ Some p → Some (if nat_eq (pointer_bytes (width b)) 8 then bits_of u else bits_of u % 2 ^ 32) ≡ Some n
          → some_pair (number_as (pointer (width b)) v) (number_as (pointer (width b)) u) ≡ some_pair p n
      by_width true e f = pair_same e f
      by_width false e f = pair_same e f
  pair_numbers (AtAddress a) p n e f =
      let b = bytes_of_addresses c.transfer.from in
      let z : a ≡ a + 0 * b = omega arith in
      let o : a + b ≡ a + 1 * b = omega arith in
      ap (λ q. and_then q (λ p. and_then (number_in c.source b (a + b)) (λ n. some_pair p n))) (ap (number_in c.source b) z ∙ e)
      ∙ ap (λ q. and_then q (λ n. some_pair p n)) (ap (number_in c.source b) o ∙ f)

  module _ {A : Type 0} where
    read_parts : (size : ℕ) (m : CoreDef) (a : ℕ) {xs : List RequestPart} (k : ℕ → Action A) (gs : List Region) (w : World) → slice_get w.state.memories (c.places.memory m) ≡ Some c.source → AreBytesOf c.places c.transfer.from w.state c.source
        → ((x : ℕ) → number_in c.source size a ≡ Some x → AsksParts xs (k x)) → AsksEnd c known handed gs (λ l z. parts_then c.transfer xs l z) (run c.places (Read size m a k) w)
    read_parts size m a {xs} k gs w there bytes h =
        subst (λ o. AsksEnd c known handed gs (λ l z. parts_then c.transfer xs l z) (or_strayed w o (λ b. ended (read size b a w) (λ x w'. run c.places (k x) w')))) (sym there) (within (nat_le (a + size) (length c.source)) refl)
      where
        within : (b : Bool) → nat_le (a + size) (length c.source) ≡ b → AsksEnd c known handed gs (λ l z. parts_then c.transfer xs l z) (ended (if b then Done (number_at size c.source a) w else Halt Trap w) (λ x w'. run c.places (k x) w'))
        within true e = (h (number_at size c.source a) (ap (λ b. if b then Some (number_at size c.source a) else None) e)).asks.by gs w bytes
        within false e = λ o more z. record { more = parts_then c.transfer xs more z; is = refl }

    read_cuts : (size : ℕ) (m : CoreDef) (a : ℕ) {xs : List RequestPart} (ys : List RequestPart) (k : ℕ → Action A) (gs : List Region) (w : World) → slice_get w.state.memories (c.places.memory m) ≡ Some c.source → AreBytesOf c.places c.transfer.from w.state c.source
        → ((x : ℕ) → number_in c.source size a ≡ Some x → AsksParts xs (k x)) → TellsEnd c known anything (λ u. cuts_of ys) gs (cuts_of (xs ++ ys)) (run c.places (Read size m a k) w)
    read_cuts size m a {xs} ys k gs w there bytes h =
        subst (λ o. TellsEnd c known anything (λ u. cuts_of ys) gs (cuts_of (xs ++ ys)) (or_strayed w o (λ b. ended (read size b a w) (λ x w'. run c.places (k x) w')))) (sym there) (within (nat_le (a + size) (length c.source)) refl)
      where
        within : (b : Bool) → nat_le (a + size) (length c.source) ≡ b → TellsEnd c known anything (λ u. cuts_of ys) gs (cuts_of (xs ++ ys)) (ended (if b then Done (number_at size c.source a) w else Halt Trap w) (λ x w'. run c.places (k x) w'))
        within true e = ((h (number_at size c.source a) (ap (λ b. if b then Some (number_at size c.source a) else None) e)).cuts ys).by gs w bytes
        within false e = λ o. unanswered c.transfer (xs ++ ys)

    pub parts_number : (size : ℕ) (s : Source) {xs : List RequestPart} {k : ℕ → Action A} → ((x : ℕ) → number_of_source size s ≡ Some x → AsksParts xs (k x)) → AsksParts xs (read_number c.transfer.debug c.transfer.from size s k)
    parts_number size (Values []) {xs} h = parts_stop xs
    parts_number size (Values (v ∷ vs)) {xs} {k} h = by_size (nat_eq size 8) (λ x e. h x e)
      where
        by_size : (b : Bool) → ((x : ℕ) → Some (if b then bits_of v else bits_of v % 2 ^ 32) ≡ Some x → AsksParts xs (k x)) → AsksParts xs (if b then k (bits_of v) else low_half c.transfer.debug v k)
        by_size true g = g _ refl
        by_size false g = low_parts c.transfer.debug v k (g _ refl)
    parts_number size (AtAddress a) {xs} {k} h = parts_with c.transfer.from (λ m is. record {
      asks = record {
        by = λ gs w bytes.
            read_parts size m.def a k gs w (subst (HasBytesOf c.places w.state c.source) is bytes) bytes h;
      };
      cuts = λ ys. record {
        starts = unanswered c.transfer (xs ++ ys);
        by = λ gs w bytes. read_cuts size m.def a ys k gs w (subst (HasBytesOf c.places w.state c.source) is bytes) bytes h;
      };
      reads = λ t. reads_read c known size m a k is (λ x e. (h x e).reads t);
    })

    pub parts_pair : (s : Source) (f : Pair → List RequestPart) (k : ℕ → ℕ → Action A) → ((q : Pair) → AsksParts (f q) (k q.pointer q.count)) → AsksParts (parts_of_some (pair_of_source c s) f) (read_pair c.transfer.debug c.transfer.from s k)
    parts_pair s f k h =
        let b = bytes_of_addresses c.transfer.from in
        parts_number b (nth_part 1 b 0 s) (λ p e. parts_number b (nth_part 1 b 1 s) (λ n e2.
        subst (λ o. AsksParts (parts_of_some o f) (k p n)) (sym (pair_numbers s p n e e2)) (h (record { pointer = p; count = n }))))

  -- ---- one action after another

  pub parts_bind : {A B : Type 0} {xs ys : List RequestPart} (q : Action A) (f : A → Action B) → AsksParts xs q → ((a : A) → AsksParts ys (f a)) → AsksParts (xs ++ ys) (q >>= f)
  parts_bind {xs = xs} {ys} q f h g = record {
    asks =
        asks_like c known _ (λ l k. parts_then c.transfer xs l (λ more. parts_then c.transfer ys more k)) _ (λ l k. parts_append c.transfer xs ys l k)
        (asks_bind c known (λ l k. parts_then c.transfer xs l k) (λ a l k. parts_then c.transfer ys l k) (λ k more. parts_then c.transfer ys more k) (λ k a more. refl) q f h.asks (λ a. (g a).asks));
    cuts = λ zs. subst (λ all. Tells c known anything (λ b. cuts_of zs) (cuts_of all) (q >>= f)) (sym (append_assoc xs ys zs)) (tells_bind c known (h.cuts (ys ++ zs)) (λ a known_of. (g a).cuts zs));
    reads = λ all. let t = there_parts c xs ys all in reads_bind c known (h.reads t.0) (λ a. (g a).reads t.1);
  }

  pub parts_first : {A B : Type 0} {xs : List RequestPart} (q : Action A) (f : A → Action B) → AsksParts xs q → ((a : A) → AsksParts [] (f a)) → AsksParts xs (q >>= f)
  parts_first {xs = xs} q f h g = subst (λ ys. AsksParts ys (q >>= f)) (append-nil xs) (parts_bind q f h g)

  pub parts_each : {A : Type 0} (i n : ℕ) (f : ℕ → Action (List A)) (xs : ℕ → List RequestPart) → ((j : ℕ) → AsksParts (xs j) (f j)) → AsksParts (parts_of_each i n xs) (each_from i n f)
  parts_each i zero f xs h = parts_give []
  parts_each i (suc n) f xs h = parts_bind (f i) _ (h i) (λ us. parts_first (each_from (suc i) n f) _ (parts_each (suc i) n f xs h) (λ vs. parts_give (us ++ vs)))

  -- ---- writes, which leave the source

  pub parts_write : (size : ℕ) (d : Target) (n : ℕ) → AsksParts [] (write_number c.transfer.to size d n)
  parts_write size (Slots []) n = parts_give []
  parts_write size (Slots (t ∷ ts)) n = parts_give _
  parts_write size (Into a) n = parts_with c.transfer.to (λ m is. record {
    asks = record { by = λ gs w bytes. by_memory m is gs w bytes (slice_get w.state.memories (c.places.memory m.def)) };
    cuts = λ ys. record { starts = unanswered c.transfer ys; by = λ gs w bytes. cuts_by m is ys gs w bytes (slice_get w.state.memories (c.places.memory m.def)) };
    reads = λ t. reads_write c known size m a n is;
  })
    where
      kept : (m : MemoryOption) → c.transfer.to.memory ≡ Some m → (w : World) (y : List ℕ) (x : Option MemoryOption) → ((k : MemoryOption) → x ≡ Some k → c.transfer.from.memory ≡ Some k)
          → HasBytesOf c.places w.state c.source x → HasBytesOf c.places (record { memories = slice_set w.state.memories (c.places.memory m.def) y; globals = w.state.globals }) c.source x
      kept m is w y None from h = h
      kept m is w y (Some k) from h = get_set_other w.state.memories (c.places.memory m.def) (c.places.memory k.def) y (λ e. known.two k m (from k refl) is e) ∙ h

      by_memory : (m : MemoryOption) → c.transfer.to.memory ≡ Some m → (gs : List Region) (w : World) → AreBytesOf c.places c.transfer.from w.state c.source → (o : Option (List ℕ))
          → AsksEnd c known handed gs (λ l z. parts_then c.transfer [] l z) (or_strayed w o (λ b. ended (write size (c.places.memory m.def) b a n w) (λ u w'. run c.places (none) w')))
      by_memory m is gs w bytes None = tt
      by_memory m is gs w bytes (Some b) = within (nat_le (a + size) (length b))
        where
          within : (t : Bool) → AsksEnd c known handed gs (λ l z. parts_then c.transfer [] l z) (ended (if t then Done (tt {0}) (written size (c.places.memory m.def) b a n w) else Halt Trap w) (λ u w'. run c.places (none) w'))
          within true = λ o. (λ more z. refl, kept m is w (with_number size b a n) c.transfer.from.memory (λ k e. e) bytes)
          within false = λ o more z. record { more = z more; is = refl }

      cuts_by : (m : MemoryOption) → c.transfer.to.memory ≡ Some m → (ys : List RequestPart) (gs : List Region) (w : World) → AreBytesOf c.places c.transfer.from w.state c.source → (o : Option (List ℕ))
          → TellsEnd c known anything (λ u. cuts_of ys) gs (cuts_of ys) (or_strayed w o (λ b. ended (write size (c.places.memory m.def) b a n w) (λ u w'. run c.places (none) w')))
      cuts_by m is ys gs w bytes None = tt
      cuts_by m is ys gs w bytes (Some b) = within (nat_le (a + size) (length b))
        where
          within : (t : Bool) → TellsEnd c known anything (λ u. cuts_of ys) gs (cuts_of ys) (ended (if t then Done (tt {0}) (written size (c.places.memory m.def) b a n w) else Halt Trap w) (λ u w'. run c.places (none) w'))
          within true = λ o. (tt, λ more x. x, kept m is w (with_number size b a n) c.transfer.from.memory (λ k e. e) bytes)
          within false = λ o. unanswered c.transfer ys

  pub parts_write_pair : (d : Target) (p n : ℕ) → AsksParts [] (write_pair c.transfer.to d p n)
  parts_write_pair d p n =
      parts_bind _ _ (parts_write (bytes_of_addresses c.transfer.to) (nth_spot 1 (bytes_of_addresses c.transfer.to) 0 d) p) (λ us.
      parts_bind _ _ (parts_write (bytes_of_addresses c.transfer.to) (nth_spot 1 (bytes_of_addresses c.transfer.to) 1 d) n) (λ vs. parts_give (us ++ vs)))

  -- ---- texts

  -- what a walk asks for, from wherever the source lies
  walk_parts : (f : TextForm) (p n : ℕ) → AsksParts (TextPart f p n ∷ []) (walk c.transfer (path f c.transfer.to.encoding) (path_start p n))
  walk_parts f p n = record {
    asks = asks_like c known _ _ _ (λ l k. sym (source_apart c.transfer p (path f c.transfer.to.encoding) (path_start 0 n) l (λ v more. k more) (λ v more. k more) (λ v more. refl)))
        (erased (walk_asks c known (path f c.transfer.to.encoding) (path_start p n)));
    cuts = λ ys.
        tells_like c known (λ l h. cuts_apart c.transfer p (path f c.transfer.to.encoding) (path_start 0 n) l (λ v more. cuts_of ys more) (λ v more. cuts_of ys more) (λ v more x. x) h)
        (walk_tells c known (path f c.transfer.to.encoding) (path_start p n) anything (λ v more. cuts_of ys more) (λ v x. unanswered c.transfer ys) (path_shrinks c.transfer f c.transfer.to.encoding (path_start p n)));
    reads = λ t. walk_reads c known f p n t.0;
  }
    where
      S : Answers → (PathPoint → Answers → List Request) → List Request
      S l k = path_requests c.transfer (path f c.transfer.to.encoding) (path_start p n) l k

      by_end : (gs : List Region) (e : Ended PathPoint) → AsksEnd c known (at_point c known) gs S e → AsksEnd c known handed gs (λ l k. S l (λ v more. k more)) e
      by_end gs (Gave m cs v w) j = λ o. let h = j o in (λ more k. h.0 more (λ v more. k more), h.1)
      by_end gs (Halted m cs s w) j = λ o more k. j o more (λ v more. k more)
      by_end gs (Strayed m cs w) j = tt

      erased : Asks c known (at_point c known) S (walk c.transfer (path f c.transfer.to.encoding) (path_start p n)) → Asks c known handed (λ l k. S l (λ v more. k more)) (walk c.transfer (path f c.transfer.to.encoding) (path_start p n))
      erased h = record { by = λ gs w bytes. by_end gs (run c.places (walk c.transfer (path f c.transfer.to.encoding) (path_start p n)) w) (h.by gs w bytes) }

  pub parts_string : (s : Source) (d : Target) → AsksParts (parts_of_some (pair_of_source c s) (λ q. TextPart (form_in c.transfer.from.encoding q.count) q.pointer (form_of c.transfer.from.encoding q.count).units ∷ [])) (move_string c.transfer s d)
  parts_string s d = parts_pair s _ _ (λ q.
      parts_check c.transfer.from StringOutOfBounds q.pointer _ _ (parts_first _ _ (walk_parts (form_in c.transfer.from.encoding q.count) q.pointer (form_of c.transfer.from.encoding q.count).units) (λ v. parts_write_pair d v.region v.written)))
