-- The code of a case: the number of the case at its destination, its payload, and zeros in the slots that are left over.
use Rattle.std.proofs.Common.{◌≡◌, ℕ, zero, suc, ◌+◌, ◌^◌, ◌<◌, ◌≤◌, Bool, true, List, [], ◌∷◌, ◌++◌, length, take, drop, refl, sym, ap, ◌∙◌, subst, arith, append_assoc, append-nil}
use Rattle.fact_wasm.specs.declared.types.ValType.{ValType}
use Rattle.fact_wasm.specs.declared.instr.Instr.{Instr}
use Rattle.fact_wasm.specs.declared.instr.Instr.TheVariants as I
use Rattle.fact_wasm.specs.declared.instr.Instr.TheOpen as o
use Rattle.fact_machine.specs.declared.types.CoreValue.{CoreValue}
use Rattle.fact_machine.proofs.RowLaws.{leaves_i32_const}
use Rattle.fact_actions.specs.Actions.{Action, Give, ◌>>=◌}
use Rattle.fact_actions.specs.Moves.{padded}
use Rattle.fact_actions.specs.Sides.{LiftLowerOptions, Source, Target, Slots, Into, zeros, write_number}
use Rattle.fact_code_laws.specs.Cases.{discriminant_code, zero_code}
use Rattle.fact_code_laws.specs.Does.{Locals, Onward, held_types, Does}
use Rattle.fact_code_laws.specs.Places.{Setting, Slot, From, To, ToLocals, ToMemory, AreHeld, StandsAt, AreFree, MayGo, Stood, KeepsLocals, InRooms, AreDistinctSlots, Moves, Number, size_of, limit_of, Writable, ToTyped, FromUsed, ToUsed, to_past, code_behind}
use Rattle.fact_code_laws.specs.Typed.{OnStack, IsTyped}
use Rattle.fact_code_laws.proofs.Blocks.{mapped}
use Rattle.fact_code_laws.proofs.FieldMoves.{from_part, source_part, to_spot, target_spot, target_past, with_to, IsApartAt, stands_part, goes_spot, goes_past, rooms_part, rooms_spot, rooms_past, to_more, stood_stays, stood_both}
use Rattle.fact_code_laws.proofs.Keeping.{keeps_all, keeps_then, stands_kept, goes_kept, rooms_kept}
use Rattle.fact_code_laws.proofs.Numbers.{begins, writes, below_number}
use Rattle.fact_code_laws.proofs.Rules.{within, in_turn, pushing, done}
use Rattle.fact_code_laws.proofs.Scalars.{IsNarrow}
use Rattle.fact_code_laws.proofs.TypedPlaces.{typed_before, typed_behind, below_type}
use Rattle.fact_code_laws.proofs.TypedRows.{takes_plain}
use Rattle.fact_code_laws.proofs.TypingLaws.{typed_done, typed_then, typed_next}
use Rattle.fact_code_laws.proofs.Zeros.{AreNumbers, zeros_put, typed_zeros}

-- ---- what is given

abbrev zeros_at : Target → List CoreValue
zeros_at (Slots ts) = zeros ts
zeros_at (Into a) = []

tag_written : (o : LiftLowerOptions) (size k : ℕ) (d : Target) → write_number o size (target_spot 1 0 d) k ≡ write_number o size d k
tag_written o size k (Slots []) = refl
tag_written o size k (Slots (t ∷ ts)) = refl
tag_written o size k (Into a) = let same : a + 0 ≡ a = omega arith in ap (λ b. write_number o size (Into b) k) same

tag_spot : (n : Number) (k : ℕ) (to : To) → discriminant_code n k (to_spot 1 0 to) ≡ discriminant_code n k to
tag_spot n k (ToLocals []) = refl
tag_spot n k (ToLocals (s ∷ ss)) = refl
tag_spot n k (ToMemory memory base offset) = let same : offset + 0 ≡ offset = omega arith in ap (λ b. discriminant_code n k (ToMemory memory base b)) same

-- as many slots are left over as values are
left_over : (used : ℕ → Bool) (ls ls' : Locals) (n : ℕ) (ss : List Slot) (ts : List ValType) (vs : List CoreValue) → AreFree used ls ss ts → AreHeld ls' (take n ss) vs → drop (length vs) ts ≡ drop n ts
left_over used ls ls' zero ss ts [] f h = refl
left_over used ls ls' zero ss ts (v ∷ vs) f h = absurd h
left_over used ls ls' (suc n) [] [] [] f h = refl
left_over used ls ls' (suc n) [] [] (v ∷ vs) f h = absurd h
left_over used ls ls' (suc n) [] (t ∷ ts) vs f h = absurd f
left_over used ls ls' (suc n) (s ∷ ss) [] vs f h = absurd f
left_over used ls ls' (suc n) (s ∷ ss) (t ∷ ts) [] f h = absurd h
left_over used ls ls' (suc n) (s ∷ ss) (t ∷ ts) (v ∷ vs) f h = left_over used ls ls' n ss ts vs f.3 h.1

-- ---- the number of the case

module _ (S : Setting) (used : ℕ → Bool) (to : To) (n : Number) (k : ℕ) where
  -- what the number of a case needs of its place, where it is the first of the slots
  pub record IsTag : Type 0 where
    pub narrow : IsNarrow n
    pub number : k < 2 ^ 32
    pub writable : Writable S.whole S.places S.to S.to64 n (to_spot 1 0 to)
    pub typed : ToTyped S.locals S.to64 (to_spot 1 0 to)

  module _ (h : IsTag) where
    moves_tag : (from : From) → Moves S used 4 0 from (to_spot 1 0 to) (λ s d. write_number S.to (size_of n) d k) (discriminant_code n k to)
    moves_tag from = subst (λ c. Moves S used 4 0 from (to_spot 1 0 to) (λ s d. write_number S.to (size_of n) d k) c) (tag_spot n k to) (record {
      effect = λ ls s d e st g rooms.
          let lt : k < limit_of n = subst (λ m. k < m) (sym h.narrow.below) h.number in
          within (omega arith) (begins S.to64 used (to_spot 1 0 to) d g (pushing (record { by = λ w vs. leaves_i32_const })
          (subst (λ v. Does S.whole S.places Onward 2 0 (v ∷ below_number S.to64 used ls (to_spot 1 0 to) d g) ls (code_behind n (to_spot 1 0 to)) (write_number S.to (size_of n) d k) (λ vs. []) (λ vs ls'. Stood ls' (to_spot 1 0 to) vs × KeepsLocals used ls ls')) (h.narrow.value k)
          (writes used n S.to S.to64 (to_spot 1 0 to) d h.writable g lt))));
      typed =
          typed_then (typed_before S.to64 (to_spot 1 0 to) h.typed) (typed_next (takes_plain (o.I32Const k) (I.outs-I32Const k) refl)
          (subst (λ v. IsTyped S.whole S.locals [] (code_behind n (to_spot 1 0 to)) (v ∷ (below_type S.to64 (to_spot 1 0 to) ++ [])) (OnStack [])) h.narrow.type (typed_behind S.places S.to S.to64 n (to_spot 1 0 to) h.writable h.typed)));
    })

-- ---- zeros

-- slots that zeros may be put into
abbrev pub MayZero : List ValType → To → Type 0
MayZero locals (ToLocals slots) = AreNumbers slots × AreDistinctSlots slots × (length slots ≤ 16) × ToTyped locals true (ToLocals slots)
MayZero locals (ToMemory memory base offset) = Unit {0}

module _ (S : Setting) (used : ℕ → Bool) where
  abbrev Zeroed : Locals → To → Target → Type 0
  Zeroed ls to d = Does S.whole S.places Onward 32 0 [] ls (zero_code to) (Give (zeros_at d)) (λ vs. []) (λ vs ls'. Stood ls' to vs × KeepsLocals used ls ls')

  zeros_do : (to : To) → MayZero S.locals to → (ls : Locals) (d : Target) → MayGo used ls S.to64 to d → Zeroed ls to d
  zeros_do (ToLocals slots) h ls (Slots ts) g = within (omega (arith, h.2)) (zeros_put used ls slots ts h.0 h.1 g)
  zeros_do (ToLocals slots) h ls (Into a) g = absurd g
  zeros_do (ToMemory memory base offset) h ls (Slots ts) g = absurd g
  zeros_do (ToMemory memory base offset) h ls (Into a) g = within (omega arith) (done refl (refl, keeps_all))

typed_rest : (S : Setting) (to : To) → MayZero S.locals to → IsTyped S.whole S.locals [] (zero_code to) [] (OnStack [])
typed_rest S (ToLocals slots) h = typed_zeros slots h.0 h.3
typed_rest S (ToMemory memory base offset) h = typed_done

less_kept : {used : ℕ → Bool} {ls ls' : Locals} (to : To) → KeepsLocals (with_to used to) ls ls' → KeepsLocals used ls ls'
less_kept {used} to k = record { same = λ i u. k.same i (to_more used to i u); types = k.types }

spot_used : (used more : ℕ → Bool) (n : ℕ) (to : To) → ((i : ℕ) → used i ≡ true → more i ≡ true) → ToUsed used to → ToUsed more (to_past n to)
spot_used used more n (ToLocals slots) m u = tt
spot_used used more n (ToMemory memory base offset) m u = m base u

-- ---- cases

module _ (S : Setting) (used : ℕ → Bool) (from : From) (to : To) (n : Number) (k : ℕ) (h : IsTag S used to n k) (tu : ToUsed used to) (apart : IsApartAt 1 to) where
  abbrev tagged : ℕ → Bool
  tagged = with_to used (to_spot 1 0 to)

  -- what a case gives that carries nothing
  bare_given : (ls ls1 : Locals) (to : To) (d : Target) (tag : List CoreValue) → Writable S.whole S.places S.to S.to64 n (to_spot 1 0 to) → MayGo used ls S.to64 to d → Stood ls1 (to_spot 1 0 to) tag
      → tag ++ zeros_at (target_past 1 d) ≡ padded d tag
  bare_given ls ls1 (ToLocals []) d tag w g st = absurd w
  bare_given ls ls1 (ToLocals (s ∷ ss)) (Slots []) tag w g st = absurd g
  bare_given ls ls1 (ToLocals (s ∷ ss)) (Into a) tag w g st = absurd g
  bare_given ls ls1 (ToLocals (s ∷ ss)) (Slots (t ∷ ts)) [] w g st = absurd st
  bare_given ls ls1 (ToLocals (s ∷ ss)) (Slots (t ∷ ts)) (v ∷ []) w g st = refl
  bare_given ls ls1 (ToLocals (s ∷ ss)) (Slots (t ∷ ts)) (v ∷ v' ∷ vs) w g st = absurd st.1
  bare_given ls ls1 (ToMemory memory base offset) (Slots ts) tag w g st = absurd g
  bare_given ls ls1 (ToMemory memory base offset) (Into a) tag w g st = append-nil tag

  -- the number of the case is written, in front of code that goes on
  tag_then : {code : List Instr} {spare : ℕ} {f : List CoreValue → Action (List CoreValue)} (ls : Locals) (s : Source) (d : Target) → held_types ls ≡ S.locals → StandsAt ls S.from64 from s → MayGo used ls S.to64 to d → InRooms S ls from to
      → ((tag : List CoreValue) (ls1 : Locals) → KeepsLocals used ls ls1 → Stood ls1 (to_spot 1 0 to) tag → MayGo tagged ls1 S.to64 (to_past 1 to) (target_past 1 d)
      → Does S.whole S.places Onward 32 spare [] ls1 code (f tag) (λ vs. []) (λ vs ls'. Stood ls' to vs × KeepsLocals used ls ls'))
      → Does S.whole S.places Onward 36 spare [] ls (discriminant_code n k to ++ code) (write_number S.to (size_of n) d k >>= f) (λ vs. []) (λ vs ls'. Stood ls' to vs × KeepsLocals used ls ls')
  tag_then ls s d e st g rooms go =
      within (omega arith) (in_turn
      (subst (λ q. Does S.whole S.places Onward 4 0 [] ls (discriminant_code n k to) q (λ vs. []) (λ vs ls'. Stood ls' (to_spot 1 0 to) vs × KeepsLocals used ls ls')) (tag_written S.to (size_of n) k d)
      ((moves_tag S used to n k h from).effect ls s (target_spot 1 0 d) e st (goes_spot S.to64 used ls 1 0 to d g) (rooms_spot 1 0 from to rooms)))
      (λ tag ls1 r. go tag ls1 r.1 r.0 (goes_past S.to64 used ls1 1 0 to d apart (goes_kept r.1 S.to64 to d tu g))))

  -- A case that carries nothing: its number, and zeros.
  pub moves_bare_case : MayZero S.locals (to_past 1 to) → Moves S used 300 0 from to (λ s d. write_number S.to (size_of n) d k >>= (λ tag. Give (padded d tag))) (discriminant_code n k to ++ zero_code (to_past 1 to))
  moves_bare_case z = record {
    effect = λ ls s d e st g rooms.
        within (omega arith) (tag_then ls s d e st g rooms (λ tag ls1 keeps stood g1.
        subst (λ us. Does S.whole S.places Onward 32 0 [] ls1 (zero_code (to_past 1 to)) (Give us) (λ vs. []) (λ vs ls'. Stood ls' to vs × KeepsLocals used ls ls')) (bare_given ls ls1 to d tag h.writable g stood)
        (mapped (λ zs. tag ++ zs) (λ zs. refl)
        (λ zs ls2 q. (stood_both ls2 1 0 to tag zs (stood_stays used (to_spot 1 0 to) tag q.1 stood) q.0, keeps_then keeps (less_kept (to_spot 1 0 to) q.1)))
        (zeros_do S tagged (to_past 1 to) z ls1 (target_past 1 d) g1))));
    typed = typed_then (moves_tag S used to n k h from).typed (typed_rest S (to_past 1 to) z);
  }

  module _ (count bytes room_count room : ℕ) where
    abbrev payload_to : To
    payload_to = to_spot room_count room (to_past 1 to)

    abbrev rest_to : To
    rest_to = to_past room_count (to_past 1 to)

    -- what a case gives that carries a payload
    some_given : (ls ls1 ls2 : Locals) (to : To) (d : Target) (tag vs : List CoreValue) → Writable S.whole S.places S.to S.to64 n (to_spot 1 0 to) → MayGo used ls S.to64 to d → Stood ls1 (to_spot 1 0 to) tag → Stood ls2 (to_spot room_count room (to_past 1 to)) vs
        → (tag ++ vs) ++ zeros_at (target_past room_count (target_past 1 d)) ≡ padded d (tag ++ vs)
    some_given ls ls1 ls2 (ToLocals []) d tag vs w g st st2 = absurd w
    some_given ls ls1 ls2 (ToLocals (s ∷ ss)) (Slots []) tag vs w g st st2 = absurd g
    some_given ls ls1 ls2 (ToLocals (s ∷ ss)) (Into a) tag vs w g st st2 = absurd g
    some_given ls ls1 ls2 (ToLocals (s ∷ ss)) (Slots (t ∷ ts)) [] vs w g st st2 = absurd st
    some_given ls ls1 ls2 (ToLocals (s ∷ ss)) (Slots (t ∷ ts)) (v ∷ []) vs w g st st2 = ap (λ us. (v ∷ vs) ++ zeros us) (sym (left_over used ls ls2 room_count ss ts vs g.3 st2))
    some_given ls ls1 ls2 (ToLocals (s ∷ ss)) (Slots (t ∷ ts)) (v ∷ v' ∷ us) vs w g st st2 = absurd st.1
    some_given ls ls1 ls2 (ToMemory memory base offset) (Slots ts) tag vs w g st st2 = absurd g
    some_given ls ls1 ls2 (ToMemory memory base offset) (Into a) tag vs w g st st2 = append-nil (tag ++ vs)

    -- A case with a payload: its number, the payload, and zeros.
    pub moves_some_case : {act : Source → Target → Action (List CoreValue)} {payload : List Instr} → FromUsed used from → IsApartAt room_count (to_past 1 to) → MayZero S.locals rest_to
        → Moves S tagged 0 100 (from_part count 1 bytes from) payload_to act payload
        → Moves S used 300 0 from to (λ s d. write_number S.to (size_of n) d k >>= (λ tag. act (source_part count 1 bytes s) (target_spot room_count room (target_past 1 d)) >>= (λ vs. Give (padded d (tag ++ vs))))) (discriminant_code n k to ++ (payload ++ zero_code rest_to))
    moves_some_case {act} {payload} fu apart' z m = record {
      effect = λ ls s d e st g rooms.
          within {spare = 0} (omega arith) (tag_then {spare = 0} ls s d e st g rooms (λ tag ls1 keeps stood g1.
          let tu1 : ToUsed tagged (to_past 1 to) = spot_used used tagged 1 to (to_more used (to_spot 1 0 to)) tu in
          let rooms1 = rooms_spot room_count room (from_part count 1 bytes from) (to_past 1 to) (rooms_part count 1 bytes from (to_past 1 to) (rooms_past 1 from to (rooms_kept keeps from to fu tu rooms))) in
          within {spare = 100} (omega arith) (in_turn {spare = 100} {spare' = 0}
          (m.effect ls1 (source_part count 1 bytes s) (target_spot room_count room (target_past 1 d)) (keeps.types ∙ e) (stands_part S.from64 ls1 count 1 bytes from s (stands_kept keeps S.from64 from s fu st)) (goes_spot S.to64 tagged ls1 room_count room (to_past 1 to) (target_past 1 d) g1) rooms1)
          (λ vs ls2 r.
          let g2 = goes_past S.to64 tagged ls2 room_count room (to_past 1 to) (target_past 1 d) apart' (goes_kept r.1 S.to64 (to_past 1 to) (target_past 1 d) tu1 g1) in
          subst (λ us. Does S.whole S.places Onward 32 0 [] ls2 (zero_code rest_to) (Give us) (λ vs. []) (λ vs ls'. Stood ls' to vs × KeepsLocals used ls ls')) (some_given ls ls1 ls2 to d tag vs h.writable g stood r.0)
          (mapped (λ zs. (tag ++ vs) ++ zs) (λ zs. refl)
          (λ zs ls3 q.
          let k13 : KeepsLocals tagged ls1 ls3 = keeps_then r.1 (less_kept payload_to q.1) in
          let behind = stood_both ls3 room_count room (to_past 1 to) vs zs (stood_stays tagged payload_to vs q.1 r.0) q.0 in
          let all = stood_both ls3 1 0 to tag (vs ++ zs) (stood_stays used (to_spot 1 0 to) tag k13 stood) behind in
          (subst (Stood ls3 to) (sym (append_assoc tag vs zs)) all, keeps_then keeps (less_kept (to_spot 1 0 to) k13)))
          (zeros_do S (with_to tagged payload_to) rest_to z ls2 (target_past room_count (target_past 1 d)) g2))))));
      typed = typed_then (moves_tag S used to n k h from).typed (typed_then m.typed (typed_rest S rest_to z));
    }
