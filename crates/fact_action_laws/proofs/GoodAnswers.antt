-- Honest transcoders answer numbers by which the checks of texts pass.
use Rattle.std.proofs.Common.{◌≡◌, ◌⊎◌, inl, inr, ⊎_elim, Some, None, ℕ, ◌+◌, ◌*◌, ◌%◌, ◌^◌, ◌≤◌, ◌<◌, Bool, true, false, List, [], ◌∷◌, ◌++◌, length, length-append, take, drop, get_or, map, refl, sym, ap, ◌∙◌, subst, arith, append_assoc, length-take, length-drop}
use Rattle.std.specs.Prelude.{bit_or, if◌then◌else◌}
use Rattle.std.proofs.lemmas.Nat.{or_shifted, or_comm}
use Rattle.std.proofs.Math.Nat.{mod-eq_of_lt}
use Rattle.std.proofs.Math.Utf8.{low_scalar}
use Rattle.fact_types.specs.declared.import.Import.{Import}
use Rattle.fact_types.specs.declared.import.Import.TheVariants as import
use Rattle.fact_types.specs.declared.outside.CoreDef.{CoreDef}
use Rattle.fact_types.specs.declared.outside.FixedEncoding.{FixedEncoding}
use Rattle.fact_types.specs.declared.outside.FixedEncoding.TheVariants.{Utf8, Utf16, Latin1}
use Rattle.fact_types.specs.declared.outside.Transcode.{Transcode}
use Rattle.fact_types.specs.declared.outside.Transcode.TheVariants as op
use Rattle.fact_machine.specs.declared.types.Answer.{Answer}
use Rattle.fact_machine.specs.declared.types.Answer.TheVariants.{Returns, Traps, Throws}
use Rattle.fact_machine.specs.declared.types.CoreValue.{CoreValue}
use Rattle.fact_machine.specs.declared.types.MachineState.{MachineState}
use Rattle.fact_values.specs.Lift.{bits_of}
use Rattle.fact_values.specs.Texts.{unit_bytes, IsSpelled, char_spelling, units, spelled_text, units_of_text}
use Rattle.fact_actions.specs.Calls.{nth_number, results, side_memory}
use Rattle.fact_actions.specs.Confined.{IsRangedBy, AreRangedCalls, IsHonestTranscoder, HaveHonestTranscoders}
use Rattle.fact_actions.specs.Honest.{IsHonestTranscode}
use Rattle.fact_actions.specs.Order.{IsMemoryOf}
use Rattle.fact_actions.specs.Regions.{Position}
use Rattle.fact_actions.specs.Running.{ImportPlaces, Call}
use Rattle.fact_actions.specs.Sides.{LiftLowerOptions, first_bits}
use Rattle.fact_actions.specs.Transcoders.{Fitting, Tagged, transcode_kind, from_encoding, Room, all_latin1, IsHonestPass}
use Rattle.fact_action_laws.proofs.Bounds.{growth, length_spelling, length_text, all_bound}
use Rattle.fact_action_laws.proofs.Invariant.{first_is, second_is}
use Rattle.fact_action_laws.proofs.Spares.{IsGoodAnswer, AreGood}
use Rattle.fact_action_laws.proofs.SparedMoves.{IsGoodBy}
use Rattle.fact_action_laws.proofs.SparedTexts.{IsGoodFit, IsGoodPass}
use Rattle.fact_action_laws.proofs.TextTransfers.{whole, counts, some_left}

spelled8 : (f : FixedEncoding) (c : ℕ) → IsSpelled f c → IsSpelled Utf8 c
spelled8 Utf8 c h = h
spelled8 Utf16 c h = h
spelled8 Latin1 c h = low_scalar c (omega (arith, h))

-- ---- one pass

-- a pass stops before a scalar value for which there is no room
record IsStopped (e : FixedEncoding) (left written room : ℕ) : Type 0 where
  size : ℕ
  size8 : ℕ
  len8 : ℕ
  more : ℕ
  rest_is : left ≡ unit_bytes e * size + more
  bound : 1 * (size8 + 0) ≤ growth e Utf8 * (size + 0)
  full : room < written + len8
  len_is : len8 ≡ 1 * size8

module _ (f : FixedEncoding) (g : Room) (source bytes numbers : List ℕ) (n : ℕ) (long : length source ≡ unit_bytes f * n) where
  -- into UTF-8
  good_fit : IsHonestPass Fitting f Utf8 g source bytes numbers → IsGoodFit (growth f Utf8) n g.room (get_or numbers 0 0) (get_or numbers 1 0)
  good_fit h = go f long (some_left f source h.text h.rest n long h.reads) (all_bound f Utf8 h.text h.can_read h.can_write) (all_bound Utf8 f h.text h.can_write h.can_read)
      (⊎_elim (λ e. inl (ap length e)) (λ x. inr (record {
        size = units f x.next;
        size8 = units Utf8 x.next;
        len8 = length (char_spelling Utf8 x.next);
        more = length x.more;
        rest_is = ap length x.begins ∙ length-append (char_spelling f x.next) x.more ∙ ap (λ k. k + length x.more) (length_spelling f x.next);
        bound = all_bound f Utf8 (x.next ∷ []) (x.can, tt) (spelled8 f x.next x.can, tt);
        full = x.full;
        len_is = length_spelling Utf8 x.next;
      })) h.stops.1)
    where
      r : ℕ
      r = get_or numbers 0 0

      w : ℕ
      w = get_or numbers 1 0

      read_is : r ≡ units_of_text f h.text
      read_is = ap (λ l. get_or l 0 0) h.answers

      written_is : w ≡ length (spelled_text Utf8 h.text)
      written_is = ap (λ l. get_or l 1 0) h.answers

      bytes_are : length (spelled_text Utf8 h.text) ≡ 1 * units_of_text Utf8 h.text
      bytes_are = length_text Utf8 h.text

      top : length (spelled_text Utf8 h.text) ≤ g.room
      top = h.stops.0

      go : (e : FixedEncoding) → length source ≡ unit_bytes e * n → unit_bytes e * units_of_text f h.text + length h.rest ≡ unit_bytes e * n
          → 1 * units_of_text Utf8 h.text ≤ growth e Utf8 * units_of_text f h.text → unit_bytes e * units_of_text f h.text ≤ growth Utf8 e * units_of_text Utf8 h.text
          → (length h.rest ≡ 0) ⊎ IsStopped e (length h.rest) (length (spelled_text Utf8 h.text)) g.room → IsGoodFit (growth e Utf8) n g.room r w
      go Utf8 l s a b (inl e) = record { read = omega (arith, s, read_is); least = omega (arith, b, read_is, written_is, bytes_are); most = omega (arith, a, read_is, written_is, bytes_are); room = omega (arith, top, written_is); all = inl (omega (arith, s, e, read_is)) }
      go Utf16 l s a b (inl e) = record { read = omega (arith, s, read_is); least = omega (arith, b, read_is, written_is, bytes_are); most = omega (arith, a, read_is, written_is, bytes_are); room = omega (arith, top, written_is); all = inl (omega (arith, s, e, read_is)) }
      go Latin1 l s a b (inl e) = record { read = omega (arith, s, read_is); least = omega (arith, b, read_is, written_is, bytes_are); most = omega (arith, a, read_is, written_is, bytes_are); room = omega (arith, top, written_is); all = inl (omega (arith, s, e, read_is)) }
      go Utf8 l s a b (inr x) = record { read = omega (arith, s, read_is); least = omega (arith, b, read_is, written_is, bytes_are); most = omega (arith, a, read_is, written_is, bytes_are); room = omega (arith, top, written_is); all = inr (let p = x.rest_is in let q = x.bound in let u = x.full in let v = x.len_is in omega (arith, s, p, q, u, v, read_is, written_is)) }
      go Utf16 l s a b (inr x) = record { read = omega (arith, s, read_is); least = omega (arith, b, read_is, written_is, bytes_are); most = omega (arith, a, read_is, written_is, bytes_are); room = omega (arith, top, written_is); all = inr (let p = x.rest_is in let q = x.bound in let u = x.full in let v = x.len_is in omega (arith, s, p, q, u, v, read_is, written_is)) }
      go Latin1 l s a b (inr x) = record { read = omega (arith, s, read_is); least = omega (arith, b, read_is, written_is, bytes_are); most = omega (arith, a, read_is, written_is, bytes_are); room = omega (arith, top, written_is); all = inr (let p = x.rest_is in let q = x.bound in let u = x.full in let v = x.len_is in omega (arith, s, p, q, u, v, read_is, written_is)) }

-- the tag aside, what is answered is the number of units
tag_aside : (b : Bool) (u n : ℕ) → n ≡ u → n < 2 ^ 31 → (if b then u else bit_or u (2 ^ 31)) % 2 ^ 31 ≡ n
tag_aside true u n e h = let l : u < 2 ^ 31 = omega (arith, e, h) in mod-eq_of_lt l ∙ sym e
tag_aside false u n e h = let s : bit_or u (2 ^ 31) ≡ 2 ^ 31 + u = or_comm u (2 ^ 31) ∙ or_shifted 1 31 u (omega (arith, e, h)) ∙ omega arith in ap (λ x. x % 2 ^ 31) s ∙ omega (arith, e, h)

good_tag : (t : FixedEncoding) (g : Room) (source bytes numbers : List ℕ) (n : ℕ) → length source ≡ 2 * n → IsHonestPass Tagged Utf16 t g source bytes numbers → n < 2 ^ 31 → get_or numbers 0 0 % 2 ^ 31 ≡ n
good_tag t g source bytes numbers n long h small =
    ap (λ l. get_or l 0 0 % 2 ^ 31) h.answers ∙ tag_aside (all_latin1 h.text) (units_of_text Utf16 h.text) n (counts Utf16 source h.text n long (whole Utf16 source h.text h.rest h.reads h.stops)) small

-- ---- calls

-- the units that a transcoder is told are all there
units_there : (p : ImportPlaces) (o : LiftLowerOptions) (from : CoreDef) (from64 : Bool) (state : MachineState) (at bytes : ℕ) → IsMemoryOf o from from64 → at + bytes ≤ length (side_memory p o state) → length (take bytes (drop at (get_or state.memories (p.memory from) []))) ≡ bytes
units_there p o from from64 state at bytes is inside =
    let same : side_memory p o state ≡ get_or state.memories (p.memory from) [] = ap (λ m. elim m [ None ↦ [] | Some k ↦ get_or state.memories (p.memory k.def) [] ]) is.memory_is ∙ ap (λ d. get_or state.memories (p.memory d) []) is.def_is in
    let l = ap length same in
    omega (arith, length-take bytes (drop at (get_or state.memories (p.memory from) [])), length-drop at (get_or state.memories (p.memory from) []), l, inside)

module _ (p : ImportPlaces) (x : Position) (from to : CoreDef) (from64 to64 : Bool) (args rs : List CoreValue) (before after : MachineState) where
  abbrev call_of : Transcode → Call
  call_of o = record { what = import.Transcode o from from64 to to64; args = args; before = before; answer = Returns rs after }

  numbers_are : (F n m : ℕ) → IsGoodFit F n m (get_or (map (λ v. bits_of v) rs) 0 0) (get_or (map (λ v. bits_of v) rs) 1 0) → IsGoodFit F n m (first_bits rs) (first_bits (drop 1 rs))
  numbers_are F n m h = subst (λ r. IsGoodFit F n m r (first_bits (drop 1 rs))) (sym (first_is rs)) (subst (λ w. IsGoodFit F n m (get_or (map (λ v. bits_of v) rs) 0 0) w) (sym (second_is rs)) h)

  good_transcode : (o : Transcode) → IsHonestTranscode p o from to (call_of o) → IsRangedBy (import.Transcode o from from64 to to64) p x (call_of o) → IsGoodPass (transcode_kind o) (from_encoding o) args rs
  good_transcode (op.Copy e) h r = tt
  good_transcode op.Latin1ToUtf16 h r = tt
  good_transcode op.Utf8ToUtf16 h r = tt
  good_transcode op.Utf8ToLatin1 h r = tt
  good_transcode op.Utf16ToLatin1 h r = tt
  good_transcode op.Utf8ToCompactUtf16 h r = tt
  good_transcode op.Utf16ToCompactUtf16 h r = tt
  good_transcode op.Utf16ToUtf8 h r =
      numbers_are 3 (nth_number args 1) (nth_number args 3) (good_fit Utf16 _ _ _ _ (nth_number args 1) (units_there p x.landing.from from from64 before (nth_number args 0) (2 * nth_number args 1) r.0 r.2.inside) h.transcoding)
  good_transcode op.Latin1ToUtf8 h r =
      numbers_are 2 (nth_number args 1) (nth_number args 3) (good_fit Latin1 _ _ _ _ (nth_number args 1) (units_there p x.landing.from from from64 before (nth_number args 0) (1 * nth_number args 1) r.0 r.2.inside) h.transcoding)
  good_transcode op.Utf16ToCompactProbablyUtf16 h r =
      λ small. ap (λ k. k % 2 ^ 31) (first_is rs) ∙ good_tag Utf16 _ _ _ _ (nth_number args 1) (units_there p x.landing.from from from64 before (nth_number args 0) (2 * nth_number args 1) r.0 r.2.inside) h.transcoding small

-- ---- each call's answer is good, where this holds of what core functions answer

module _ (Core : CoreDef → (results : List CoreValue) → Type 0) (p : ImportPlaces) where
  good_answer : (x : Position) (i : Import) (args : List CoreValue) (before : MachineState) (answer : Answer)
      → IsHonestTranscoder i p (record { what = i; args = args; before = before; answer = answer }) → IsRangedBy i p x (record { what = i; args = args; before = before; answer = answer })
      → ((d : CoreDef) → i ≡ import.CoreDef d → Core d (results (record { what = i; args = args; before = before; answer = answer }))) → IsGoodAnswer (IsGoodBy Core) i args answer
  good_answer x i args before Traps h r k = tt
  good_answer x i args before Throws h r k = tt
  good_answer x (import.Transcode o from from64 to to64) args before (Returns rs after) h r k = good_transcode p x from to from64 to64 args rs before after o (h tt) r
  good_answer x (import.CoreDef d) args before (Returns rs after) h r k = k d refl
  good_answer x import.ResourceTransferOwn args before (Returns rs after) h r k = tt
  good_answer x import.ResourceTransferBorrow args before (Returns rs after) h r k = tt
  good_answer x (import.PrepareCall m) args before (Returns rs after) h r k = tt
  good_answer x (import.StartCall callback post_return) args before (Returns rs after) h r k = tt
  good_answer x import.FutureTransfer args before (Returns rs after) h r k = tt
  good_answer x import.StreamTransfer args before (Returns rs after) h r k = tt
  good_answer x import.ErrorContextTransfer args before (Returns rs after) h r k = tt
  good_answer x (import.Trap t) args before (Returns rs after) h r k = tt
  good_answer x import.EnterSyncCall args before (Returns rs after) h r k = tt
  good_answer x import.ExitSyncCall args before (Returns rs after) h r k = tt
  good_answer x (import.UnsafeIntrinsic s) args before (Returns rs after) h r k = tt

  pub good_answers : (next : Call → Position → Position) (x : Position) (all before cs : List Call) → all ≡ before ++ cs → HaveHonestTranscoders p cs → AreRangedCalls p next x cs
      → ((before : List Call) (c : Call) (behind : List Call) (d : CoreDef) → all ≡ before ++ (c ∷ behind) → c.what ≡ import.CoreDef d → Core d (results c)) → AreGood (IsGoodBy Core) cs
  good_answers next x all before [] e h r k = tt
  good_answers next x all before (c ∷ cs) e h r k =
      (good_answer x c.what c.args c.before c.answer h.0 r.0 (λ d is. k before c cs d e is), good_answers next (next c x) all (before ++ c ∷ []) cs (e ∙ sym (append_assoc before (c ∷ []) cs)) h.1 r.1 k)
