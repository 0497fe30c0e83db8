-- Moving a value writes into its place, or into regions that were given for it.
use Rattle.std.proofs.Common.{◌≡◌, ◌≢◌, ℕ, zero, ◌+◌, ◌*◌, ◌<◌, ◌≤◌, ◌%◌, ◌/◌, ◌^◌, Bool, true, false, List, [], ◌∷◌, ◌++◌, Some, refl, sym, ap, ◌∙◌, subst, inl, inr, arith}
use Rattle.std.proofs.lemmas.Bool.{eq-eqb}
use Rattle.std.proofs.Math.Nat.{zero-mod}
use Rattle.std.specs.Prelude.{nat_le, if◌then◌else◌}
use Rattle.fact_types.specs.declared.outside.CoreDef.{CoreDef}
use Rattle.fact_types.specs.declared.outside.StringEncoding.{StringEncoding}
use Rattle.fact_types.specs.declared.outside.StringEncoding.TheVariants as string
use Rattle.fact_types.specs.declared.outside.Transcode.{Transcode}
use Rattle.fact_types.specs.declared.outside.Trap.{Trap as Reason}
use Rattle.fact_types.specs.declared.outside.Trap.TheVariants.{StringOutOfBounds}
use Rattle.fact_machine.specs.declared.types.CoreValue.{CoreValue}
use Rattle.fact_types.specs.declared.extents.MemoryWidth.{MemoryWidth}
use Rattle.fact_types.specs.declared.extents.MemoryWidth.TheVariants.{Memory32, Memory64}
use Rattle.fact_machine.specs.Typing.{address_bits}
use Rattle.fact_machine.specs.World.{World}
use Rattle.fact_types.specs.declared.import.Import.TheVariants as import
use Rattle.fact_types.specs.Adapters.{is_wide, same_def}
use Rattle.fact_types.specs.Signatures.{pointer_bytes}
use Rattle.fact_values.specs.Texts.{form_of}
use Rattle.fact_actions.specs.Actions.{Action, Give}
use Rattle.fact_actions.specs.Running.{ImportPlaces, Call}
use Rattle.fact_actions.specs.Sides.{LiftLowerOptions, Transfer, Source, Target, Slots, Into, wrap, width_of_side, bytes_of_addresses, nth_spot, write_number, write_pair}
use Rattle.fact_actions.specs.Transcoders.{TranscodeKind, AllUnits, Counted, Fitting, Narrow, Tagged, Widening, transcode_kind}
use Rattle.fact_actions.specs.Paths.{Amount, SourceUnits, WrittenUnits, Path, End, Limit, Resize, Pass, If, Tag, Assert, TextForm, AsUtf8, AsUtf16, AsCompactLatin1, AsCompactUtf16, align_of, path}
use Rattle.fact_actions.specs.Strings.{PathPoint, path_start, most_string_bytes, amount, holds, asserted, choose_action, with_tag, passed, transcode, walk, form_in, move_string}
use Rattle.fact_actions.specs.Calls.{is_call_of}
use Rattle.fact_actions.specs.Regions.{Region, Landing, Position, without, moved_on}
use Rattle.fact_actions.specs.Confined.{LiesInSound}
use Rattle.fact_actions.proofs.Owned.{Writes, writes_so, writes_bind, writes_give, writes_write, own_part}
use Rattle.fact_actions.proofs.OwnParts as parts
use Rattle.fact_actions.proofs.OwnParts.{Kept, kept_more, kept_on, kept_given}
use Rattle.fact_actions.proofs.States.{both}

-- ---- paths

abbrev IsLength : Amount → Type 0
IsLength (SourceUnits c) = Unit {0}
IsLength (WrittenUnits c) = ⊥

-- a path without calls of realloc
abbrev Still : Path → Type 0
Still End = Unit {0}
Still (Limit factor p) = Still p
Still (Resize x y p) = ⊥
Still (Pass o rest room p) = Still p
Still (If t q r p) = Still q × Still r × Still p
Still (Tag p) = Still p
Still (Assert t test p) = Still p

-- a path whose calls of realloc give up what the one before gave
abbrev Chained : Amount → Path → Type 0
Chained now End = Unit {0}
Chained now (Limit factor p) = Chained now p
Chained now (Resize x y p) = (x ≡ now) × Chained y p
Chained now (Pass o rest room p) = IsLength now × Chained now p
Chained now (If t q r p) = Chained now q × Chained now r × Still p
Chained now (Tag p) = IsLength now × Chained now p
Chained now (Assert t test p) = Chained now p

-- each path begins with a limit and a region from nothing
abbrev Begins : Path → Type 0
Begins (Limit factor (Resize (SourceUnits zero) y p)) = Chained y p
Begins p = ⊥

begins : (f : TextForm) (e : StringEncoding) → Begins (path f e)
begins AsUtf8 string.Utf8 = (tt, tt)
begins AsUtf8 string.Utf16 = (tt, (tt, (refl, tt), tt))
begins AsUtf8 string.CompactUtf16 = (tt, ((tt, (refl, tt), tt), (refl, (tt, (tt, (refl, tt), tt))), tt))
begins AsUtf16 string.Utf8 = (tt, (tt, (refl, (tt, (tt, (refl, tt), tt))), tt))
begins AsUtf16 string.Utf16 = (tt, tt)
begins AsUtf16 string.CompactUtf16 = (tt, ((tt, (refl, tt), tt), (refl, (tt, (tt, (refl, tt), tt))), tt))
begins AsCompactLatin1 string.Utf8 = (tt, (tt, (refl, (tt, (tt, (refl, tt), tt))), tt))
begins AsCompactLatin1 string.Utf16 = (tt, tt)
begins AsCompactLatin1 string.CompactUtf16 = (tt, tt)
begins AsCompactUtf16 string.Utf8 = (tt, (tt, (refl, (tt, (tt, (refl, tt), tt))), tt))
begins AsCompactUtf16 string.Utf16 = (tt, tt)
begins AsCompactUtf16 string.CompactUtf16 = (tt, ((refl, tt), tt, tt))

module _ (p : ImportPlaces) (next : Call → Position → Position) (tr : Transfer) (area : List Region) (callee : CoreDef)
    (plain_next : (c : Call) (x : Position) → is_call_of callee c ≡ false → next c x ≡ moved_on c x)
    (apart : (f : CoreDef) → tr.to.realloc ≡ Some f → same_def callee f ≡ false) where
  abbrev pub l : Landing
  l = record { from = tr.from; to = tr.to; area = area }

  abbrev pub W : {A : Type 0} → List Region → World → Action A → (A → List Region → World → Type 0) → Type 0
  W live w q Q = Writes p next l live w q Q

  abbrev pub rm : World → ℕ
  rm w = parts.rm p next l callee plain_next w

  -- a place that is written lies in own regions
  abbrev pub Owned : List Region → World → Target → ℕ → Type 0
  Owned live w (Slots ts) n = Unit {0}
  Owned live w (Into a) n = LiesInSound (rm w) (live ++ area) a n

  abbrev pub Fine : {A : Type 0} → List Region → World → A → List Region → World → Type 0
  Fine live w a live' w' = Kept p next l callee plain_next (rm w) live (rm w') live'

  kept : (live : List Region) (w u : World) → rm w ≤ rm u → Kept p next l callee plain_next (rm w) live (rm u) live
  kept live w u g = kept_more p next l callee plain_next (rm w) (rm u) live g

  -- ---- numbers

  pub number_w : (live : List Region) (w : World) (size : ℕ) (d : Target) (n : ℕ) → Owned live w d size → W live w (write_number tr.to size d n) (Fine live w)
  number_w live w size (Slots []) n own = writes_give p next l live w [] _ (kept live w w (omega arith))
  number_w live w size (Slots (t ∷ ts)) n own = writes_give p next l live w _ _ (kept live w w (omega arith))
  number_w live w size (Into a) n own =
      parts.memory_w p next l callee plain_next live w tr.to _ _ (λ m is_to.
      writes_write p next l live w size m a n (Give []) _ is_to own (λ u same. writes_give p next l live u [] _ (kept live w u (let e : rm u ≡ rm w = same in omega arith))))

  -- ---- texts

  transcode_w : (live : List Region) (w : World) (o : Transcode) (rest : Bool) (room : ℕ) (v : PathPoint) (Q : PathPoint → List Region → World → Type 0)
      → ((rs : List CoreValue) (u : World) → rm w ≤ rm u → Q (passed tr (transcode_kind o) rest rs v) live u) → W live w (transcode tr o rest room v) Q
  transcode_w live w o rest room v Q h =
      parts.memory_w p next l callee plain_next live w tr.from _ Q (λ m e. parts.memory_w p next l callee plain_next live w tr.to _ Q (λ n f.
      parts.other p next l callee plain_next live w (import.Transcode o m.def m.memory64 n.def n.memory64) _ _ _ Q (λ d. refl) (λ rs u g.
      writes_give p next l live u _ Q (h rs u g))))

  passed_region : (k : TranscodeKind) (rest : Bool) (rs : List CoreValue) (v : PathPoint) → ((passed tr k rest rs v).region ≡ v.region) × ((passed tr k rest rs v).length ≡ v.length)
  passed_region AllUnits rest rs v = (refl, refl)
  passed_region Counted rest rs v = (refl, refl)
  passed_region Fitting true rs v = (refl, refl)
  passed_region Fitting false rs v = (refl, refl)
  passed_region Narrow rest rs v = (refl, refl)
  passed_region Tagged rest rs v = (refl, refl)
  passed_region Widening rest rs v = (refl, refl)

  branch_w : {A : Type 0} (live : List Region) (w : World) (b : Bool) (q r : Action A) (Q : A → List Region → World → Type 0) → W live w q Q → W live w r Q → W live w (choose_action b q r) Q
  branch_w live w true q r Q h g = h
  branch_w live w false q r Q h g = g

  asserted_w : {A : Type 0} (live : List Region) (w : World) (debug : Bool) (t : Reason) (b : Bool) (q : Action A) (Q : A → List Region → World → Type 0) → W live w q Q → W live w (asserted debug t b q) Q
  asserted_w live w false t b q Q h = h
  asserted_w live w true t b q Q h = parts.unless_w p next l callee plain_next live w t b q Q (λ e. h)

  -- paths without realloc leave the regions
  still_w : (q : Path) (live : List Region) (w : World) (v : PathPoint) → Still q → W live w (walk tr q v) (λ u live' w'. (live' ≡ live) × (rm w ≤ rm w'))
  still_w End live w v s = writes_give p next l live w v _ (refl, omega arith)
  still_w (Limit factor q) live w v s = parts.unless_w p next l callee plain_next live w StringOutOfBounds (nat_le v.length (most_string_bytes / factor)) _ _ (λ e. still_w q live w v s)
  still_w (Resize x y q) live w v s = absurd s
  still_w (Pass o rest room q) live w v s =
      writes_bind p next l (transcode tr o rest room v) _ (λ u live' w'. (live' ≡ live) × (rm w ≤ rm w')) _ (transcode_w live w o rest room v _ (λ rs u g. (refl, g))) (λ u live' w' h.
      writes_so p next l (still_w q live' w' u s) (λ u' live'' w'' k. (k.0 ∙ h.0, let x = h.1 in let y = k.1 in omega arith)))
  still_w (If t q r q') live w v s =
      writes_bind p next l (choose_action (holds tr t v) (walk tr q v) (walk tr r v)) _ (λ u live' w'. (live' ≡ live) × (rm w ≤ rm w')) _ (branch_w live w (holds tr t v) _ _ _ (still_w q live w v s.0) (still_w r live w v s.1)) (λ u live' w' h.
      writes_so p next l (still_w q' live' w' u s.2) (λ u' live'' w'' k. (k.0 ∙ h.0, let x = h.1 in let y = k.1 in omega arith)))
  still_w (Tag q) live w v s = still_w q live w (with_tag v) s
  still_w (Assert t test q) live w v s = asserted_w live w tr.debug t (holds tr test v) _ _ (still_w q live w v s)

  abbrev region : (at size align : ℕ) → Region
  region a n align = record { at = a; size = n; align = align }

  -- a region stands at the head, where a path is and as long as it holds
  record Heads (rest : List Region) (live : List Region) : Type 0 where
    head : Region
    is : live ≡ head ∷ rest

  without_head : (g : Region) (a n align : ℕ) (rest : List Region) → g.at ≡ a → g.size ≡ n → without (region a n align) (g ∷ rest) ≡ rest
  without_head g a n align rest e f = ap (λ b. if b then rest else g ∷ without (region a n align) rest) (both (eq-eqb g.at a e) (eq-eqb g.size n f))

  amount_same : (x : Amount) (v u : PathPoint) → IsLength x → u.length ≡ v.length → amount tr x v ≡ amount tr x u
  amount_same (SourceUnits c) v u i e = ap (λ n. wrap tr.to (c * n)) (sym e)
  amount_same (WrittenUnits c) v u i e = absurd i

  resized : (x : Amount) (v : PathPoint) (a : ℕ) → amount tr x v ≡ amount tr x (record v { region = a })
  resized (SourceUnits c) v a = refl
  resized (WrittenUnits c) v a = refl

  align_some : (e : StringEncoding) → align_of e ≢ 0
  align_some string.Utf8 h = omega (arith, h)
  align_some string.Utf16 h = omega (arith, h)
  align_some string.CompactUtf16 h = omega (arith, h)

  -- paths leave all regions but the one at the head
  chained_w : (q : Path) (now : Amount) (g : Region) (rest : List Region) (w : World) (v : PathPoint) → Chained now q → g.at ≡ v.region → g.size ≡ amount tr now v → g.align ≡ align_of tr.to.encoding
      → W (g ∷ rest) w (walk tr q v) (λ u live' w'. Heads rest live' × (rm w ≤ rm w'))
  chained_w End now g rest w v c e f al = writes_give p next l (g ∷ rest) w v _ (record { head = g; is = refl }, omega arith)
  chained_w (Limit factor q) now g rest w v c e f al = parts.unless_w p next l callee plain_next (g ∷ rest) w StringOutOfBounds (nat_le v.length (most_string_bytes / factor)) _ _ (λ t. chained_w q now g rest w v c e f al)
  chained_w (Resize x y q) now g rest w v c e f al =
      parts.reallocate_w p next l callee plain_next (g ∷ rest) w tr.concurrency StringOutOfBounds v.region (amount tr x v) (align_of tr.to.encoding) (amount tr y v) _ _ apart (align_some tr.to.encoding, inr (inl (e, f ∙ ap (λ z. amount tr z v) (sym c.0), al))) (λ a u more sound.
      subst (λ live. W (region a (amount tr y v) (align_of tr.to.encoding) ∷ live) u (walk tr q (record v { region = a })) (λ u' live' w'. Heads rest live' × (rm w ≤ rm w')))
      (sym (without_head g v.region (amount tr x v) (align_of tr.to.encoding) rest e (f ∙ ap (λ z. amount tr z v) (sym c.0))))
      (writes_so p next l (chained_w q y (region a (amount tr y v) (align_of tr.to.encoding)) rest u (record v { region = a }) c.1 refl (resized y v a) refl) (λ u' live' w' h. (h.0, let k = h.1 in omega arith))))
  chained_w (Pass o more room q) now g rest w v c e f al =
      writes_bind p next l (transcode tr o more room v) _ (λ u live' w'. (live' ≡ g ∷ rest) × (rm w ≤ rm w') × (g.at ≡ u.region) × (g.size ≡ amount tr now u)) _
      (transcode_w (g ∷ rest) w o more room v _ (λ rs u k. let s = passed_region (transcode_kind o) more rs v in (refl, k, e ∙ sym s.0, f ∙ amount_same now v (passed tr (transcode_kind o) more rs v) c.0 s.1))) (λ u live' w' h.
      subst (λ live. W live w' (walk tr q u) (λ u' live'' w''. Heads rest live'' × (rm w ≤ rm w''))) (sym h.0)
      (writes_so p next l (chained_w q now g rest w' u c.1 h.2 h.3 al) (λ u' live'' w'' k. (k.0, let x = h.1 in let y = k.1 in omega arith))))
  chained_w (If t q r q') now g rest w v c e f al =
      writes_bind p next l (choose_action (holds tr t v) (walk tr q v) (walk tr r v)) _ (λ u live' w'. Heads rest live' × (rm w ≤ rm w')) _
      (branch_w (g ∷ rest) w (holds tr t v) _ _ _ (chained_w q now g rest w v c.0 e f al) (chained_w r now g rest w v c.1 e f al)) (λ u live' w' h.
      writes_so p next l (still_w q' live' w' u c.2) (λ u' live'' w'' k. (record { head = h.0.head; is = k.0 ∙ h.0.is }, let x = h.1 in let y = k.1 in omega arith)))
  chained_w (Tag q) now g rest w v c e f al = chained_w q now g rest w (with_tag v) c.1 e (f ∙ amount_same now v (with_tag v) c.0 refl) al
  chained_w (Assert t test q) now g rest w v c e f al = asserted_w (g ∷ rest) w tr.debug t (holds tr test v) _ _ (chained_w q now g rest w v c e f al)

  path_w : (q : Path) (live : List Region) (w : World) (a n : ℕ) → Begins q → W live w (walk tr q (path_start a n)) (Fine live w)
  path_w (Limit factor (Resize (SourceUnits zero) y q)) live w a n c =
      parts.unless_w p next l callee plain_next live w StringOutOfBounds (nat_le n (most_string_bytes / factor)) _ _ (λ t.
      parts.reallocate_w p next l callee plain_next live w tr.concurrency StringOutOfBounds 0 (amount tr (SourceUnits zero) (path_start a n)) (align_of tr.to.encoding) (amount tr y (path_start a n)) _ _ apart (align_some tr.to.encoding, inl (refl, nothing)) (λ b u more sound.
      writes_so p next l
      (chained_w q y (region b (amount tr y (path_start a n)) (align_of tr.to.encoding)) (without (region 0 (amount tr (SourceUnits zero) (path_start a n)) (align_of tr.to.encoding)) live) u (record (path_start a n) { region = b }) c refl (resized y (path_start a n) b) refl)
      (λ v live' w' h. behind (region 0 (amount tr (SourceUnits zero) (path_start a n)) (align_of tr.to.encoding)) live w live' w' h.0 nothing (let k = h.1 in omega arith))))
    where
      nothing : amount tr (SourceUnits zero) (path_start a n) ≡ 0
      nothing = let z : zero * n ≡ 0 = omega arith in ap (λ x. x % 2 ^ address_bits (is_wide tr.to.memory)) z ∙ zero-mod (2 ^ address_bits (is_wide tr.to.memory))

      behind : (g : Region) (live : List Region) (w : World) (live' : List Region) (w' : World) → Heads (without g live) live' → g.size ≡ 0 → rm w ≤ rm w' → Kept p next l callee plain_next (rm w) live (rm w') live'
      behind g live w live' w' h e more =
          subst (λ x. Kept p next l callee plain_next (rm w) live (rm w') x) (sym h.is)
          (kept_on p next l callee plain_next (kept_more p next l callee plain_next (rm w) (rm w') live more) (kept_given p next l callee plain_next (rm w') live g h.head e))
  path_w q live w a n c = elim c [ ]

  on : {r r' r'' : ℕ} {live live' live'' : List Region} → Kept p next l callee plain_next r live r' live' → Kept p next l callee plain_next r' live' r'' live'' → Kept p next l callee plain_next r live r'' live''
  on h g = kept_on p next l callee plain_next h g

  -- a place that holds bytes is own still
  owned_kept : (live : List Region) (w : World) (live' : List Region) (w' : World) (d : Target) (n : ℕ) → 0 < n → Kept p next l callee plain_next (rm w) live (rm w') live' → Owned live w d n → Owned live' w' d n
  owned_kept live w live' w' (Slots ts) n z k own = own
  owned_kept live w live' w' (Into a) n z k own = k.keeps a n z own

  -- a pointer and a length
  pub some_bytes : (o : LiftLowerOptions) → 4 ≤ bytes_of_addresses o
  some_bytes o = by_width (width_of_side o)
    where
      by_width : (w : MemoryWidth) → 4 ≤ pointer_bytes w
      by_width Memory32 = omega arith
      by_width Memory64 = omega arith

  pub write_pair_w : (live : List Region) (w : World) (d : Target) (a n : ℕ) → Owned live w d (2 * bytes_of_addresses tr.to) → W live w (write_pair tr.to d a n) (Fine live w)
  write_pair_w live w d a n own =
      writes_bind p next l (write_number tr.to (bytes_of_addresses tr.to) (nth_spot 1 (bytes_of_addresses tr.to) 0 d) a) _ (λ vs live' w'. Fine live w vs live' w') _ (number_w live w (bytes_of_addresses tr.to) (nth_spot 1 (bytes_of_addresses tr.to) 0 d) a (first live w d own)) (λ vs live' w' k.
      writes_bind p next l (write_number tr.to (bytes_of_addresses tr.to) (nth_spot 1 (bytes_of_addresses tr.to) 1 d) n) _ (λ us live'' w''. Fine live' w' us live'' w'') _ (number_w live' w' (bytes_of_addresses tr.to) (nth_spot 1 (bytes_of_addresses tr.to) 1 d) n (second live' w' d (owned_kept live w live' w' d (2 * bytes_of_addresses tr.to) (let b = some_bytes tr.to in omega arith) k own))) (λ us live'' w'' k'.
      writes_give p next l live'' w'' _ _ (on k k')))
    where
      first : (live : List Region) (w : World) (d : Target) → Owned live w d (2 * bytes_of_addresses tr.to) → Owned live w (nth_spot 1 (bytes_of_addresses tr.to) 0 d) (bytes_of_addresses tr.to)
      first live w (Slots ts) o = tt
      first live w (Into b) o = own_part (rm w) (live ++ area) b (2 * bytes_of_addresses tr.to) (b + 0 * bytes_of_addresses tr.to) (bytes_of_addresses tr.to) (omega arith) (omega arith) o

      second : (live : List Region) (w : World) (d : Target) → Owned live w d (2 * bytes_of_addresses tr.to) → Owned live w (nth_spot 1 (bytes_of_addresses tr.to) 1 d) (bytes_of_addresses tr.to)
      second live w (Slots ts) o = tt
      second live w (Into b) o = own_part (rm w) (live ++ area) b (2 * bytes_of_addresses tr.to) (b + 1 * bytes_of_addresses tr.to) (bytes_of_addresses tr.to) (omega arith) (omega arith) o

  pub string_w : (live : List Region) (w : World) (s : Source) (d : Target) → Owned live w d (2 * bytes_of_addresses tr.to) → W live w (move_string tr s d) (Fine live w)
  string_w live w s d own =
      parts.pair_w p next l callee plain_next live w tr.debug tr.from s _ _ (λ a n.
      let f = form_in tr.from.encoding n in
      parts.region_w p next l callee plain_next live w tr.from StringOutOfBounds a _ _ _ _ (
      writes_bind p next l (walk tr (path f tr.to.encoding) (path_start a (form_of tr.from.encoding n).units)) _ (λ v live' w'. Fine live w v live' w') _ (path_w (path f tr.to.encoding) live w a (form_of tr.from.encoding n).units (begins f tr.to.encoding)) (λ v live' w' k.
      writes_so p next l (write_pair_w live' w' d v.region v.written (owned_kept live w live' w' d (2 * bytes_of_addresses tr.to) (let b = some_bytes tr.to in omega arith) k own)) (λ vs live'' w'' k'. on k k'))))
