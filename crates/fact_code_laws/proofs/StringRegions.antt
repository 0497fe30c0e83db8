-- Requests of memory for a string: realloc of its region, and the check of what it answers.
use Rattle.std.proofs.Common.{◌≡◌, ℕ, ◌+◌, ◌-◌, ◌*◌, ◌%◌, ◌^◌, ◌<◌, ◌≤◌, Bool, true, false, List, [], ◌∷◌, ◌++◌, Option, Some, None, refl, sym, ap, ◌∙◌, subst, arith, append_assoc, reverse, slice_get}
use Rattle.std.specs.Prelude.{bit_and, nat_lt}
use Rattle.fact_wasm.specs.declared.instr.Instr.{Instr}
use Rattle.fact_wasm.specs.declared.instr.Instr.TheVariants as I
use Rattle.fact_wasm.specs.declared.module.WasmModule.{WasmModule}
use Rattle.fact_types.specs.declared.outside.CoreDef.{CoreDef}
use Rattle.fact_types.specs.declared.outside.MemoryOption.{MemoryOption}
use Rattle.fact_types.specs.declared.outside.Trap.{Trap}
use Rattle.fact_types.specs.declared.outside.Trap.TheVariants.{StringOutOfBounds, UnalignedPointer}
use Rattle.fact_types.specs.declared.import.Import.TheVariants as import
use Rattle.fact_machine.specs.declared.types.CoreValue.{CoreValue}
use Rattle.fact_machine.specs.declared.types.CoreValue.TheVariants.{I64}
use Rattle.fact_machine.specs.Typed.{are_values}
use Rattle.fact_machine.specs.Typing.{address_type, address_operand}
use Rattle.fact_actions.specs.Actions as action
use Rattle.fact_actions.specs.Actions.{Action}
use Rattle.fact_actions.specs.Paths.{Amount, SourceUnits, WrittenUnits}
use Rattle.fact_actions.specs.Sides.{LiftLowerOptions, Transfer, first_bits, check_region, reallocate}
use Rattle.fact_actions.specs.Strings.{PathPoint, amount}
use Rattle.fact_code_laws.specs.Context.{save_code, restore_code}
use Rattle.fact_code_laws.specs.Does.{Locals, Onward, held_types, Does, PushesValue}
use Rattle.fact_code_laws.specs.Knows.{KnowsFunction}
use Rattle.fact_code_laws.specs.Lists.{address_code}
use Rattle.fact_code_laws.specs.Places.{Setting, SideMemory, is_on, limit_of}
use Rattle.fact_code_laws.specs.StringCode.{StringMove, from_address, amount_code, regrow_code, resize_code}
use Rattle.fact_code_laws.specs.StringNeeds.{NeedsRequest}
use Rattle.fact_code_laws.specs.Tests.{pointer_of_width, region_code}
use Rattle.fact_code_laws.proofs.Rules.{within}
use Rattle.fact_code_laws.proofs.Pointers.{address_is, limit_wide, pushes_address, region}
use Rattle.fact_code_laws.proofs.ListCode.{realloc_args, realloc_action, asks_realloc, calls_realloc}
use Rattle.fact_code_laws.proofs.Slots.{others}
use Rattle.fact_code_laws.proofs.ListMoves.{apart, slots_apart, slots_unused}
use Rattle.fact_code_laws.proofs.Temporaries.{set_temp}
use Rattle.fact_code_laws.proofs.StringAmounts.{below_width, gets_times}
use Rattle.fact_code_laws.proofs.StringPoints.{KnowsRealloc, string_temp, IsStringMove, AtPoint, point_stands, resize_steps, DoesResize}

-- ---- realloc of a side

-- a side's realloc, and its place
pub record StringRealloc (S : Setting) (m : StringMove) : Type 0 where
  pub def : CoreDef
  pub place : ℕ
  pub given : S.to.realloc ≡ Some def
  pub placed : m.realloc ≡ Some place
  pub knows : KnowsFunction S.whole S.places (import.CoreDef def) place (address_type m.to64 ∷ address_type m.to64 ∷ address_type m.to64 ∷ address_type m.to64 ∷ []) (address_type m.to64 ∷ [])

pub string_realloc : {S : Setting} {used : ℕ → Bool} {m : StringMove} {a b : MemoryOption} → IsStringMove S used m a b → StringRealloc S m
string_realloc {S} {m = m} h = by_both S.to.realloc m.realloc refl refl h.realloc
  where
    by_both : (r : Option CoreDef) (n : Option ℕ) → S.to.realloc ≡ r → m.realloc ≡ n → KnowsRealloc S.whole S.places m.to64 r n → StringRealloc S m
    by_both (Some f) (Some place) is at k = record { def = f; place = place; given = is; placed = at; knows = k }
    by_both (Some f) None is at k = absurd k
    by_both None (Some place) is at k = absurd k
    by_both None None is at k = absurd k

-- the options of a side, with a memory and realloc put in place
abbrev pub with_realloc : LiftLowerOptions → Bool → MemoryOption → (realloc : CoreDef) → LiftLowerOptions
with_realloc o memory64 m f = record o { memory = Some (record m { memory64 = memory64 }); realloc = Some f }

pub with_realloc_is : (o : LiftLowerOptions) (memory64 : Bool) (m : MemoryOption) (f : CoreDef) → o.memory ≡ Some m → m.memory64 ≡ memory64 → o.realloc ≡ Some f → with_realloc o memory64 m f ≡ o
with_realloc_is o memory64 m f is wide given =
    ap (λ w. with_realloc o w m f) (sym wide)
    ∙ ap (λ (x : Option MemoryOption). record o { memory = x; realloc = Some f }) (sym is)
    ∙ ap (λ (x : Option CoreDef). record o { realloc = x }) (sym given)

reallocate_is : {A : Type 0} (concurrency memory64 : Bool) (o : LiftLowerOptions) (m : MemoryOption) (f : CoreDef) (t : Trap) (old size align bytes : ℕ) (k : ℕ → Action A)
    → realloc_action concurrency memory64 f (realloc_args memory64 old size align bytes) (λ rs. check_region (with_realloc o memory64 m f) t (first_bits rs) bytes align (k (first_bits rs)))
    ≡ reallocate concurrency (with_realloc o memory64 m f) t old size align bytes k
reallocate_is concurrency true o m f t old size align bytes k = refl
reallocate_is concurrency false o m f t old size align bytes k = refl

-- the code of a request, with realloc at this place
abbrev pub resize_code_by : Option ℕ → StringMove → (align : ℕ) → (from to : Amount) → List Instr
resize_code_by realloc m align x y =
    amount_code m x ++ (I.LocalSet m.temporaries.before ∷ (amount_code m y ++ (I.LocalSet m.temporaries.bytes
    ∷ (save_code m.concurrency m.slots ++ (regrow_code realloc m.to64 m.temporaries.region m.temporaries.before align m.temporaries.bytes ++ (restore_code m.concurrency m.slots
    ++ (from_address m.to64 ++ (I.LocalSet m.temporaries.region
    ∷ region_code m.to_memory m.to64 m.to_log2 align m.temporaries.region m.temporaries.bytes m.temporaries.length (m.trap UnalignedPointer) (m.trap StringOutOfBounds)))))))))

-- a number out of a local as an address
pushes_operand : {M : WasmModule} {ls : Locals} (memory64 : Bool) (i x : ℕ) → x < limit_of (pointer_of_width memory64) → slice_get ls i ≡ Some (Some (I64 x)) → (n : ℕ) × (n ≤ 2) × PushesValue M n ls (address_code memory64 i) (address_operand memory64 x)
pushes_operand {M} {ls} memory64 i x lt h =
    let got = pushes_address {M = M} {ls = ls} memory64 i x lt h in
    (got.steps, got.few, subst (PushesValue M got.steps ls (address_code memory64 i)) (address_is memory64 x) got.pushes)

-- ---- a request

module _ (S : Setting) (used : ℕ → Bool) (m : StringMove) (a b : MemoryOption) (h : IsStringMove S used m a b) (first : Locals) (e : held_types first ≡ S.locals) where
  -- the transfer to a side whose options are these
  abbrev tr : LiftLowerOptions → Transfer
  tr o = record { from = S.from; to = o; concurrency = m.concurrency; debug = is_on m.checks }

  module _ (f : CoreDef) (place : ℕ) (knows : KnowsFunction S.whole S.places (import.CoreDef f) place (address_type m.to64 ∷ address_type m.to64 ∷ address_type m.to64 ∷ address_type m.to64 ∷ []) (address_type m.to64 ∷ [])) where
    abbrev target_side : LiftLowerOptions
    target_side = with_realloc S.to m.to64 b f

    side : SideMemory S.whole S.places target_side m.to64 m.to_memory
    side = record { option = record b { memory64 = m.to64 }; is = refl; wide = refl; log2 = m.to_log2; has = h.side2.has }

    -- so many times what a temporary holds, in front of other code
    gets_amount : {A : Type 0} {extra : ℕ} {ins : List CoreValue} {ls : Locals} {c : List Instr} {q : Action A} {out : A → List CoreValue} {Holds : A → Locals → Type 0} (x : Amount) (v : PathPoint)
        → slice_get ls m.temporaries.units ≡ Some (Some (I64 v.length)) → slice_get ls m.temporaries.written ≡ Some (Some (I64 v.written)) → v.length < 2 ^ 64 → v.written < 2 ^ 64 → Does S.whole S.places Onward extra 0 (I64 (amount (tr target_side) x v) ∷ ins) ls c q out Holds
        → Does S.whole S.places Onward (5 + extra) 0 ins ls (amount_code m x ++ c) q out Holds
    gets_amount (SourceUnits factor) v hu hw lu lw d = gets_times m.to64 factor m.temporaries.units v.length hu lu d
    gets_amount (WrittenUnits factor) v hu hw lu lw d = gets_times m.to64 factor m.temporaries.written v.written hw lw d

    amount_below : (x : Amount) (v : PathPoint) → amount (tr target_side) x v < limit_of (pointer_of_width m.to64)
    amount_below (SourceUnits factor) v = below_width m.to64 (factor * v.length)
    amount_below (WrittenUnits factor) v = below_width m.to64 (factor * v.written)

    asks : {ls : Locals} (align old size bytes : ℕ) → old < limit_of (pointer_of_width m.to64) → size < limit_of (pointer_of_width m.to64) → bytes < limit_of (pointer_of_width m.to64)
        → slice_get ls m.temporaries.region ≡ Some (Some (I64 old)) → slice_get ls m.temporaries.before ≡ Some (Some (I64 size)) → slice_get ls m.temporaries.bytes ≡ Some (Some (I64 bytes))
        → Does S.whole S.places Onward 8 0 [] ls (regrow_code (Some place) m.to64 m.temporaries.region m.temporaries.before align m.temporaries.bytes)
        (action.Ask (import.CoreDef f) (realloc_args m.to64 old size align bytes) (address_type m.to64 ∷ []) (λ rs. action.Give rs)) reverse (λ rs l. (are_values rs (address_type m.to64 ∷ []) ≡ true) × (l ≡ ls))
    asks align old size bytes lo ls lb ho hs hb =
        let o = pushes_operand m.to64 m.temporaries.region old lo ho in
        let s = pushes_operand m.to64 m.temporaries.before size ls hs in
        within (omega (arith, o.1, s.1)) (asks_realloc m.to64 f place old size align m.temporaries.bytes bytes lb hb o.2 s.2 knows)

    module _ (align : ℕ) (masks : (n : ℕ) → bit_and n (align - 1) ≡ n % align) (needs : NeedsRequest align m S.whole S.places a.def b.def) (x y : Amount) where
      asked_code : (save ask restore from check c : List Instr) → ((save ++ (ask ++ restore)) ++ (from ++ I.LocalSet m.temporaries.region ∷ [])) ++ (check ++ c) ≡ (save ++ (ask ++ (restore ++ (from ++ (I.LocalSet m.temporaries.region ∷ check))))) ++ c
      asked_code save ask restore from check c =
          let kept : List Instr = from ++ I.LocalSet m.temporaries.region ∷ [] in
          let all : List Instr = from ++ (I.LocalSet m.temporaries.region ∷ check) in
          append_assoc (save ++ (ask ++ restore)) kept (check ++ c) ∙ append_assoc save (ask ++ restore) (kept ++ (check ++ c))
          ∙ ap (λ l. save ++ l) (append_assoc ask restore (kept ++ (check ++ c)) ∙ ap (λ l. ask ++ (restore ++ l)) (append_assoc from (I.LocalSet m.temporaries.region ∷ []) (check ++ c) ∙ sym (append_assoc from (I.LocalSet m.temporaries.region ∷ check) c))
          ∙ ap (λ l. ask ++ l) (sym (append_assoc restore all c)) ∙ sym (append_assoc ask (restore ++ all) c))
          ∙ sym (append_assoc save (ask ++ (restore ++ all)) c)

      same_code : (f1 f2 asked c : List Instr) → f1 ++ (I.LocalSet m.temporaries.before ∷ (f2 ++ (I.LocalSet m.temporaries.bytes ∷ (asked ++ c)))) ≡ (f1 ++ (I.LocalSet m.temporaries.before ∷ (f2 ++ (I.LocalSet m.temporaries.bytes ∷ asked)))) ++ c
      same_code f1 f2 asked c =
          ap (λ l. f1 ++ (I.LocalSet m.temporaries.before ∷ l)) (sym (append_assoc f2 (I.LocalSet m.temporaries.bytes ∷ asked) c))
          ∙ sym (append_assoc f1 (I.LocalSet m.temporaries.before ∷ (f2 ++ (I.LocalSet m.temporaries.bytes ∷ asked))) c)

      resizes_with : {B : Type 0} {out : B → List CoreValue} {Holds : B → Locals → Type 0} (v : PathPoint) (ls : Locals) (extra : ℕ) (c : List Instr) (k : ℕ → Action B) → AtPoint used m first v ls
          → ((q : ℕ) (ls' : Locals) → AtPoint used m first (record v { region = q }) ls' → Does S.whole S.places Onward extra 0 [] ls' c (k q) out Holds)
          → Does S.whole S.places Onward (resize_steps + extra) 0 [] ls (resize_code_by (Some place) m align x y ++ c) (reallocate m.concurrency target_side StringOutOfBounds v.region (amount (tr target_side) x v) align (amount (tr target_side) y v) k) out Holds
      unfolding side
      resizes_with {B} {out} {Holds} v ls extra c k p go =
          let before : ℕ = amount (tr target_side) x v in
          let bytes : ℕ = amount (tr target_side) y v in
          let check = region_code m.to_memory m.to64 m.to_log2 align m.temporaries.region m.temporaries.bytes m.temporaries.length (m.trap UnalignedPointer) (m.trap StringOutOfBounds) in
          let asked = regrow_code (Some place) m.to64 m.temporaries.region m.temporaries.before align m.temporaries.bytes in
          let action = reallocate m.concurrency target_side StringOutOfBounds v.region before align bytes k in
          let few : v.length < 2 ^ 64 = omega (arith, p.few) in
          let below : v.written < 2 ^ 64 = omega (arith, p.written_below, limit_wide m.to64) in
          let inner = save_code m.concurrency m.slots ++ (asked ++ (restore_code m.concurrency m.slots ++ (from_address m.to64 ++ (I.LocalSet m.temporaries.region ∷ check)))) in
          subst (λ l. Does S.whole S.places Onward (resize_steps + extra) 0 [] ls l action out Holds) (same_code (amount_code m x) (amount_code m y) inner c)
          (within (omega arith) (gets_amount x v p.units p.written few below (set_temp h.temps e 6 (omega arith) refl (point_stands p) (λ ls1 s1.
          gets_amount y v s1.holds.1.1.1.1.0 s1.holds.1.0 few below (set_temp h.temps e 5 (omega arith) refl s1 (λ ls2 s2.
          subst (λ l. Does S.whole S.places Onward (22 + (22 + extra)) 0 [] ls2 l action out Holds) (asked_code (save_code m.concurrency m.slots) asked (restore_code m.concurrency m.slots) (from_address m.to64) check c)
          (subst (λ r. Does S.whole S.places Onward (22 + (22 + extra)) 0 [] ls2 (((save_code m.concurrency m.slots ++ (asked ++ restore_code m.concurrency m.slots)) ++ (from_address m.to64 ++ I.LocalSet m.temporaries.region ∷ [])) ++ (check ++ c)) r out Holds)
          (reallocate_is m.concurrency m.to64 S.to b f StringOutOfBounds v.region before align bytes k)
          (calls_realloc h.temps e s2 m.concurrency m.slots needs.slots (apart h.temps 8 9 refl refl) (h.temps.typed 8 (omega arith)) (h.temps.typed 9 (omega arith)) (slots_unused h.temps m.slots refl refl)
          (free 5 refl, (free 6 refl, (free 4 refl, (free 3 refl, (free 2 refl, (free 1 refl, (free 0 refl, tt)))))))
          m.to64 f (realloc_args m.to64 v.region before align bytes) 3 (omega arith) refl
          (λ ls' k'. asks align v.region before bytes p.region_below (amount_below x v) (amount_below y v) (k'.same m.temporaries.region (free 3 refl) ∙ s2.holds.1.1.1.0) (k'.same m.temporaries.before (free 6 refl) ∙ s2.holds.1.0) (k'.same m.temporaries.bytes (free 5 refl) ∙ s2.holds.0))
          (λ rs lq ls3 s3.
          region h.temps e s3 target_side m.to64 m.to_memory align side StringOutOfBounds 3 5 7 (m.trap UnalignedPointer) (m.trap StringOutOfBounds) (first_bits rs) bytes (omega arith) (omega arith) (omega arith) (λ z. absurd (omega arith)) (λ z. absurd (omega arith)) refl masks
          (omega (arith, lq, limit_wide m.to64)) (omega (arith, amount_below y v, limit_wide m.to64)) s3.holds.0 s3.holds.1.0 needs.region.unaligned needs.region.outside (λ length is fits ls4 s4.
          go (first_bits rs) ls4 (record {
            keeps = s4.keeps;
            source = s4.holds.1.1.1.1.1.1.1.0;
            units = s4.holds.1.1.1.1.1.1.0;
            read = s4.holds.1.1.1.1.1.0;
            region = s4.holds.1.0;
            written = s4.holds.1.1.1.1.0;
            few = p.few;
            source_below = p.source_below;
            read_below = p.read_below;
            region_below = lq;
            written_below = p.written_below;
          })))))))))))
        where
          free : (j : ℕ) → nat_lt j 8 ≡ true → others m.slots (string_temp m j) ≡ true
          free j lt = slots_apart h.temps m.slots refl refl j lt

  -- The code of a request of memory does its action.
  pub resizes : (align : ℕ) → ((n : ℕ) → bit_and n (align - 1) ≡ n % align) → NeedsRequest align m S.whole S.places a.def b.def → (x y : Amount) → DoesResize S used m first align x y
  resizes align masks needs x y v ls extra c k p go =
      let r = string_realloc h in
      let is = with_realloc_is S.to m.to64 b r.def h.side2.is h.side2.wide r.given in
      subst (λ o. Does S.whole S.places Onward (resize_steps + extra) 0 [] ls (resize_code m align x y ++ c) (reallocate m.concurrency o StringOutOfBounds v.region (amount (tr o) x v) align (amount (tr o) y v) k) (λ u. []) (λ u ls''. AtPoint used m first u ls'')) is
      (subst (λ n. Does S.whole S.places Onward (resize_steps + extra) 0 [] ls (resize_code_by n m align x y ++ c)
      (reallocate m.concurrency (with_realloc S.to m.to64 b r.def) StringOutOfBounds v.region (amount (tr (with_realloc S.to m.to64 b r.def)) x v) align (amount (tr (with_realloc S.to m.to64 b r.def)) y v) k) (λ u. []) (λ u ls''. AtPoint used m first u ls''))
      (sym r.placed) (resizes_with r.def r.place r.knows align masks needs x y v ls extra c k p go))
