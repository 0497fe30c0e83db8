-- Calls of transcoders: what they are told, what they answer, and where the path stands behind them.
use Rattle.std.proofs.Common.{◌≡◌, ℕ, ◌+◌, ◌-◌, ◌*◌, ◌%◌, ◌^◌, ◌<◌, Bool, true, false, List, [], ◌∷◌, ◌++◌, Option, Some, refl, sym, ap, ◌∙◌, subst, arith, append_assoc, append-nil, reverse, slice_get}
use Rattle.std.specs.Prelude.{drop}
use Rattle.std.proofs.lemmas.Nat.{mod_below}
use Rattle.std.proofs.lemmas.List.{reverse-append}
use Rattle.std.proofs.Common.{lit<}
use Rattle.fact_wasm.specs.declared.types.ValType.{ValType}
use Rattle.fact_wasm.specs.declared.types.ValType.TheVariants as val
use Rattle.fact_wasm.specs.declared.instr.FuncName.TheVariants as func
use Rattle.fact_wasm.specs.declared.instr.Instr.{Instr}
use Rattle.fact_wasm.specs.declared.instr.Instr.TheVariants as I
use Rattle.fact_types.specs.declared.outside.MemoryOption.{MemoryOption}
use Rattle.fact_types.specs.declared.outside.Transcode.{Transcode}
use Rattle.fact_types.specs.Signatures.{address}
use Rattle.fact_machine.specs.declared.types.CoreValue.{CoreValue}
use Rattle.fact_machine.specs.declared.types.CoreValue.TheVariants.{I32, I64}
use Rattle.fact_machine.specs.Machine.{has_type, have_types}
use Rattle.fact_machine.specs.Numerics.{iadd, isub}
use Rattle.fact_machine.specs.Typed.{is_value, are_values}
use Rattle.fact_machine.specs.Typing.{address_bits, address_type, address_operand}
use Rattle.fact_machine.proofs.Tests.{first_of, second_of, both}
use Rattle.fact_machine.proofs.RowLaws.{leaves_i32_const}
use Rattle.fact_values.specs.Texts.{unit_bytes}
use Rattle.fact_actions.specs.Actions.{Action, Give}
use Rattle.fact_actions.specs.Sides.{LiftLowerOptions, Transfer, first_bits}
use Rattle.fact_actions.specs.Strings.{PathPoint, source_args, target_args, passed, transcode}
use Rattle.fact_actions.specs.Transcoders.{TranscodeKind, AllUnits, Counted, Fitting, Narrow, Tagged, Widening, transcode_kind, from_encoding, transcode_types}
use Rattle.fact_code_laws.specs.Does.{Locals, Onward, held_types, Does}
use Rattle.fact_code_laws.specs.Lists.{address_code}
use Rattle.fact_code_laws.specs.Places.{Setting, KeepsLocals, is_on, stacked, limit_of, widen}
use Rattle.fact_code_laws.specs.StringCode.{StringMove, times_code, to_address, source_code, target_code, target_types, keep_code, add_to_code, wrap_code, answer_code, pass_code}
use Rattle.fact_code_laws.specs.StringNeeds.{NeedsTranscoder}
use Rattle.fact_code_laws.specs.Tests.{pointer_of_width}
use Rattle.fact_code_laws.proofs.Rules.{within, stretch, step, local_get, done}
use Rattle.fact_code_laws.proofs.Primitives.{ask}
use Rattle.fact_code_laws.proofs.Numbers.{out_of_stack, value_type}
use Rattle.fact_code_laws.proofs.Pointers.{address_is, limit_wide, gets_address, may_hold, keep_number}
use Rattle.fact_code_laws.proofs.Slots.{no_values}
use Rattle.fact_code_laws.proofs.ListCode.{one_value}
use Rattle.fact_code_laws.proofs.Temporaries.{Facts, without, Standing, set_temp}
use Rattle.fact_code_laws.proofs.StringAmounts.{below_width, wide_first, width_same, sum_width, difference_width, gets_times, wraps, to_addresses, adds, subtracts}
use Rattle.fact_code_laws.proofs.StringPoints.{string_temp, string_type, string_transfer, IsStringMove, AtPoint, point_stands, source_steps, target_steps, answer_steps, pass_steps, DoesPass}

-- ---- the options of sides that have memories

-- the options of a side, with a memory put in place
abbrev pub with_option : LiftLowerOptions → Bool → MemoryOption → LiftLowerOptions
with_option o memory64 m = record o { memory = Some (record m { memory64 = memory64 }) }

pub with_option_is : (o : LiftLowerOptions) (memory64 : Bool) (m : MemoryOption) → o.memory ≡ Some m → m.memory64 ≡ memory64 → with_option o memory64 m ≡ o
with_option_is o memory64 m is wide = ap (λ w. with_option o w m) (sym wide) ∙ ap (λ (x : Option MemoryOption). record o { memory = x }) (sym is)

-- ---- types of addresses

pub address_same : (memory64 : Bool) → address_type memory64 ≡ address memory64
address_same true = refl
address_same false = refl

operand_typed : (memory64 : Bool) (x : ℕ) → has_type (address_operand memory64 x) (address memory64) ≡ true
operand_typed true x = refl
operand_typed false x = refl

-- an answer that is an address
one_address : (memory64 : Bool) (v : CoreValue) → is_value v (address memory64) ≡ true → (v ≡ address_operand memory64 (first_bits (v ∷ []))) × (first_bits (v ∷ []) < limit_of (pointer_of_width memory64))
one_address memory64 v h =
    let value : is_value v (address_type memory64) ≡ true = subst (λ t. is_value v t ≡ true) (sym (address_same memory64)) h in
    one_value memory64 v value (value_type v (address_type memory64) value)

-- one answer, and two
one_answer : (memory64 : Bool) (rs : List CoreValue) → are_values rs (address memory64 ∷ []) ≡ true → (rs ≡ address_operand memory64 (first_bits rs) ∷ []) × (first_bits rs < limit_of (pointer_of_width memory64))
one_answer memory64 [] h = cc
one_answer memory64 (v ∷ []) h = let a = one_address memory64 v (first_of (is_value v (address memory64)) true h) in (ap (λ u. u ∷ []) a.0, a.1)
one_answer memory64 (v ∷ u ∷ rs) h = let no : false ≡ true = second_of (is_value v (address memory64)) false h in cc

pub record TwoAnswers (w1 w2 : Bool) (rs : List CoreValue) : Type 0 where
  pub are : rs ≡ address_operand w1 (first_bits rs) ∷ address_operand w2 (first_bits (drop 1 rs)) ∷ []
  pub first : first_bits rs < limit_of (pointer_of_width w1)
  pub second : first_bits (drop 1 rs) < limit_of (pointer_of_width w2)

two_answers : (w1 w2 : Bool) (rs : List CoreValue) → are_values rs (address w1 ∷ address w2 ∷ []) ≡ true → TwoAnswers w1 w2 rs
two_answers w1 w2 [] h = cc
two_answers w1 w2 (v ∷ rs) h =
    let a = one_address w1 v (first_of (is_value v (address w1)) (are_values rs (address w2 ∷ [])) h) in
    let b = one_answer w2 rs (second_of (is_value v (address w1)) (are_values rs (address w2 ∷ [])) h) in
    record { are = ap (λ u. u ∷ rs) a.0 ∙ ap (λ us. address_operand w1 (first_bits (v ∷ [])) ∷ us) b.0; first = a.1; second = b.1 }

-- ---- points that are changed

-- a path stands where the temporaries say
point_from : {used : ℕ → Bool} {m : StringMove} {first ls : Locals} {v u : PathPoint} → AtPoint used m first v ls → {ls' : Locals} → KeepsLocals used first ls'
    → slice_get ls' m.temporaries.source ≡ Some (Some (I64 v.source)) → slice_get ls' m.temporaries.units ≡ Some (Some (I64 v.length))
    → {x y : ℕ} → slice_get ls' m.temporaries.read ≡ Some (Some (I64 x)) → slice_get ls' m.temporaries.region ≡ Some (Some (I64 v.region)) → slice_get ls' m.temporaries.written ≡ Some (Some (I64 y))
    → x < limit_of (pointer_of_width m.from64) → y < limit_of (pointer_of_width m.to64) → u ≡ record v { read = x; written = y } → AtPoint used m first u ls'
point_from {used} {m} {first} {v = v} h {ls'} k a b {x} {y} c d e lx ly is =
    let point : AtPoint used m first (record v { read = x; written = y }) ls' = record {
      keeps = k;
      source = a;
      units = b;
      read = c;
      region = d;
      written = e;
      few = h.few;
      source_below = h.source_below;
      read_below = lx;
      region_below = h.region_below;
      written_below = ly;
    } in
    subst (λ (w : PathPoint). AtPoint used m first w ls') (sym is) point

module _ (S : Setting) (used : ℕ → Bool) (m : StringMove) (a b : MemoryOption) (h : IsStringMove S used m a b) (first : Locals) (e : held_types first ≡ S.locals) where
  -- the transfer, with both memories in place
  abbrev tr : Transfer
  tr = record { from = with_option S.from m.from64 a; to = with_option S.to m.to64 b; concurrency = m.concurrency; debug = is_on m.checks }

  tr_is : tr ≡ string_transfer S m
  tr_is =
      ap (λ (o : LiftLowerOptions). record (string_transfer S m) { from = o; to = with_option S.to m.to64 b }) (with_option_is S.from m.from64 a h.side1.is h.side1.wide)
      ∙ ap (λ (o : LiftLowerOptions). record (string_transfer S m) { to = o }) (with_option_is S.to m.to64 b h.side2.is h.side2.wide)

  -- ---- what a transcoder is told, in front of other code

  -- the room at the destination, where there is so much for each unit of the source
  abbrev told_room : PathPoint → ℕ → ℕ
  told_room v room = (room * v.length) % 2 ^ address_bits m.to64

  module _ {A : Type 0} {extra : ℕ} {ins : List CoreValue} {ls : Locals} {c : List Instr} {q : Action A} {out : A → List CoreValue} {Holds : A → Locals → Type 0} where
    -- the region
    tells_region : {v : PathPoint} → AtPoint used m first v ls → Does S.whole S.places Onward extra 0 (address_operand m.to64 v.region ∷ ins) ls c q out Holds → Does S.whole S.places Onward (2 + extra) 0 ins ls (address_code m.to64 m.temporaries.region ++ c) q out Holds
    tells_region {v} x d = gets_address m.to64 m.temporaries.region v.region x.region_below x.region d

    -- a number below the width, as an address
    tells_number : (y : ℕ) → y < limit_of (pointer_of_width m.to64) → Does S.whole S.places Onward extra 0 (address_operand m.to64 y ∷ ins) ls c q out Holds → Does S.whole S.places Onward (1 + extra) 0 (I64 y ∷ ins) ls (to_address m.to64 ++ c) q out Holds
    tells_number y lt d =
        let wide : y < 2 ^ 64 = omega (arith, lt, limit_wide m.to64) in
        to_addresses m.to64 y wide (subst (λ z. Does S.whole S.places Onward extra 0 (address_operand m.to64 z ∷ ins) ls c q out Holds) (sym (width_same m.to64 y lt)) d)

    -- whether this is the first pass
    tells_first : (x : ℕ) → Does S.whole S.places Onward extra 0 (I32 x ∷ ins) ls c q out Holds → Does S.whole S.places Onward (1 + extra) 0 ins ls (I.I32Const x ∷ c) q out Holds
    tells_first x d = within (omega arith) (step (λ w below. leaves_i32_const) d)

  module _ {A : Type 0} {extra : ℕ} {ins : List CoreValue} {ls : Locals} {c : List Instr} {q : Action A} {out : A → List CoreValue} {Holds : A → Locals → Type 0} {v : PathPoint} (x : AtPoint used m first v ls) where
    -- the source of all, and its length
    tells_all : Does S.whole S.places Onward extra 0 (address_operand m.from64 v.length ∷ address_operand m.from64 v.source ∷ ins) ls c q out Holds
        → Does S.whole S.places Onward (4 + extra) 0 ins ls ((address_code m.from64 m.temporaries.source ++ address_code m.from64 m.temporaries.units) ++ c) q out Holds
    tells_all d =
        subst (λ k. Does S.whole S.places Onward (4 + extra) 0 ins ls k q out Holds) (sym (append_assoc (address_code m.from64 m.temporaries.source) (address_code m.from64 m.temporaries.units) c))
        (within (omega arith) (gets_address m.from64 m.temporaries.source v.source x.source_below x.source (gets_address m.from64 m.temporaries.units v.length (few_below m.from64) x.units d)))
      where
        few_below : (memory64 : Bool) → v.length < limit_of (pointer_of_width memory64)
        few_below true = omega (arith, x.few)
        few_below false = omega (arith, x.few)

    -- the source of the rest, and its length
    tells_rest : (unit : ℕ) → Does S.whole S.places Onward extra 0 (address_operand m.from64 ((v.length + (2 ^ address_bits m.from64 - v.read)) % 2 ^ address_bits m.from64) ∷ address_operand m.from64 ((v.source + unit * v.read) % 2 ^ address_bits m.from64) ∷ ins) ls c q out Holds
        → Does S.whole S.places Onward (12 + extra) 0 ins ls
        ((I.LocalGet m.temporaries.source ∷ (times_code m.from64 unit m.temporaries.read ++ (I.I64Add ∷ (to_address m.from64 ++ (I.LocalGet m.temporaries.units ∷ I.LocalGet m.temporaries.read ∷ I.I64Sub ∷ to_address m.from64))))) ++ c) q out Holds
    tells_rest unit d =
        let sum : ℕ = iadd 64 v.source ((unit * v.read) % 2 ^ address_bits m.from64) in
        let left : ℕ = isub 64 v.length v.read in
        let at : sum % 2 ^ address_bits m.from64 ≡ (v.source + unit * v.read) % 2 ^ address_bits m.from64 = sum_width m.from64 v.source (unit * v.read) in
        let is : left % 2 ^ address_bits m.from64 ≡ (v.length + (2 ^ address_bits m.from64 - v.read)) % 2 ^ address_bits m.from64 = difference_width m.from64 v.length v.read x.read_below in
        let told : Does S.whole S.places Onward extra 0 (address_operand m.from64 (left % 2 ^ address_bits m.from64) ∷ address_operand m.from64 (sum % 2 ^ address_bits m.from64) ∷ ins) ls c q out Holds =
        subst (λ n. Does S.whole S.places Onward extra 0 (address_operand m.from64 n ∷ address_operand m.from64 (sum % 2 ^ address_bits m.from64) ∷ ins) ls c q out Holds) (sym is)
        (subst (λ n. Does S.whole S.places Onward extra 0 (address_operand m.from64 ((v.length + (2 ^ address_bits m.from64 - v.read)) % 2 ^ address_bits m.from64) ∷ address_operand m.from64 n ∷ ins) ls c q out Holds) (sym at) d) in
        subst (λ k. Does S.whole S.places Onward (12 + extra) 0 ins ls (I.LocalGet m.temporaries.source ∷ k) q out Holds) (same_code (times_code m.from64 unit m.temporaries.read) (to_address m.from64))
        (within (omega arith) (local_get x.source (gets_times m.from64 unit m.temporaries.read v.read x.read (omega (arith, x.read_below, limit_wide m.from64)) (adds (to_addresses m.from64 sum (mod_below (v.source + (unit * v.read) % 2 ^ address_bits m.from64) (2 ^ 64) (lit< tt))
        (local_get x.units (local_get x.read (subtracts (to_addresses m.from64 left (mod_below (v.length + (2 ^ 64 - v.read)) (2 ^ 64) (lit< tt)) told)))))))))
      where
        same_code : (f g : List Instr) → f ++ (I.I64Add ∷ (g ++ (I.LocalGet m.temporaries.units ∷ I.LocalGet m.temporaries.read ∷ I.I64Sub ∷ (g ++ c)))) ≡ (f ++ (I.I64Add ∷ (g ++ (I.LocalGet m.temporaries.units ∷ I.LocalGet m.temporaries.read ∷ I.I64Sub ∷ g)))) ++ c
        same_code f g =
            ap (λ l. f ++ (I.I64Add ∷ l)) (sym (append_assoc g (I.LocalGet m.temporaries.units ∷ I.LocalGet m.temporaries.read ∷ I.I64Sub ∷ g) c))
            ∙ sym (append_assoc f (I.I64Add ∷ (g ++ (I.LocalGet m.temporaries.units ∷ I.LocalGet m.temporaries.read ∷ I.I64Sub ∷ g))) c)

    tells_source : (o : Transcode) (rest : Bool) → Does S.whole S.places Onward extra 0 (reverse (source_args tr o rest v) ++ ins) ls c q out Holds → Does S.whole S.places Onward (source_steps rest + extra) 0 ins ls (source_code m o rest ++ c) q out Holds
    tells_source o false d = tells_all d
    tells_source o true d = tells_rest (unit_bytes (from_encoding o)) d

    -- the region and the room of a first pass
    tells_first_room : (room : ℕ) → Does S.whole S.places Onward extra 0 (I32 1 ∷ address_operand m.to64 (told_room v room) ∷ address_operand m.to64 v.region ∷ ins) ls c q out Holds
        → Does S.whole S.places Onward (9 + extra) 0 ins ls (target_code m Fitting false room ++ c) q out Holds
    tells_first_room room d =
        subst (λ k. Does S.whole S.places Onward (9 + extra) 0 ins ls k q out Holds) (same_code (address_code m.to64 m.temporaries.region) (times_code m.to64 room m.temporaries.units) (to_address m.to64))
        (within (omega arith) (tells_region x (gets_times m.to64 room m.temporaries.units v.length x.units (omega (arith, x.few)) (tells_number (told_room v room) (below_width m.to64 (room * v.length)) (tells_first 1 d)))))
      where
        same_code : (f g k : List Instr) → f ++ (g ++ (k ++ I.I32Const 1 ∷ c)) ≡ (f ++ (g ++ (k ++ I.I32Const 1 ∷ []))) ++ c
        same_code f g k = ap (λ l. f ++ l) (ap (λ l. g ++ l) (sym (append_assoc k (I.I32Const 1 ∷ []) c)) ∙ sym (append_assoc g (k ++ I.I32Const 1 ∷ []) c)) ∙ sym (append_assoc f (g ++ (k ++ I.I32Const 1 ∷ [])) c)

    -- of a next pass, behind what is written
    tells_next_room : (room : ℕ) → Does S.whole S.places Onward extra 0 (I32 0 ∷ address_operand m.to64 ((told_room v room + (2 ^ address_bits m.to64 - v.written)) % 2 ^ address_bits m.to64) ∷ address_operand m.to64 ((v.region + v.written) % 2 ^ address_bits m.to64) ∷ ins) ls c q out Holds
        → Does S.whole S.places Onward (13 + extra) 0 ins ls (target_code m Fitting true room ++ c) q out Holds
    tells_next_room room d =
        let sum : ℕ = iadd 64 v.region v.written in
        let left : ℕ = isub 64 (told_room v room) v.written in
        let at : sum % 2 ^ address_bits m.to64 ≡ (v.region + v.written) % 2 ^ address_bits m.to64 = wide_first m.to64 (v.region + v.written) in
        let is : left % 2 ^ address_bits m.to64 ≡ (told_room v room + (2 ^ address_bits m.to64 - v.written)) % 2 ^ address_bits m.to64 = difference_width m.to64 (told_room v room) v.written x.written_below in
        let told : Does S.whole S.places Onward extra 0 (I32 0 ∷ address_operand m.to64 (left % 2 ^ address_bits m.to64) ∷ address_operand m.to64 (sum % 2 ^ address_bits m.to64) ∷ ins) ls c q out Holds =
        subst (λ n. Does S.whole S.places Onward extra 0 (I32 0 ∷ address_operand m.to64 n ∷ address_operand m.to64 (sum % 2 ^ address_bits m.to64) ∷ ins) ls c q out Holds) (sym is)
        (subst (λ n. Does S.whole S.places Onward extra 0 (I32 0 ∷ address_operand m.to64 ((told_room v room + (2 ^ address_bits m.to64 - v.written)) % 2 ^ address_bits m.to64) ∷ address_operand m.to64 n ∷ ins) ls c q out Holds) (sym at) d) in
        subst (λ k. Does S.whole S.places Onward (13 + extra) 0 ins ls (I.LocalGet m.temporaries.region ∷ I.LocalGet m.temporaries.written ∷ I.I64Add ∷ k) q out Holds) (same_code (to_address m.to64) (times_code m.to64 room m.temporaries.units))
        (within (omega arith) (local_get x.region (local_get x.written (adds (to_addresses m.to64 sum (mod_below (v.region + v.written) (2 ^ 64) (lit< tt)) (gets_times m.to64 room m.temporaries.units v.length x.units (omega (arith, x.few))
        (local_get x.written (subtracts (to_addresses m.to64 left (mod_below (told_room v room + (2 ^ 64 - v.written)) (2 ^ 64) (lit< tt)) (tells_first 0 told))))))))))
      where
        same_code : (f g : List Instr) → f ++ (g ++ (I.LocalGet m.temporaries.written ∷ I.I64Sub ∷ (f ++ I.I32Const 0 ∷ c))) ≡ (f ++ (g ++ (I.LocalGet m.temporaries.written ∷ I.I64Sub ∷ (f ++ I.I32Const 0 ∷ [])))) ++ c
        same_code f g =
            ap (λ l. f ++ l) (ap (λ l. g ++ (I.LocalGet m.temporaries.written ∷ I.I64Sub ∷ l)) (sym (append_assoc f (I.I32Const 0 ∷ []) c)) ∙ sym (append_assoc g (I.LocalGet m.temporaries.written ∷ I.I64Sub ∷ (f ++ I.I32Const 0 ∷ [])) c))
            ∙ sym (append_assoc f (g ++ (I.LocalGet m.temporaries.written ∷ I.I64Sub ∷ (f ++ I.I32Const 0 ∷ []))) c)

    -- the region, the room, and what is written
    tells_wide_room : (room : ℕ) → Does S.whole S.places Onward extra 0 (address_operand m.to64 v.written ∷ address_operand m.to64 (told_room v room) ∷ address_operand m.to64 v.region ∷ ins) ls c q out Holds
        → Does S.whole S.places Onward (10 + extra) 0 ins ls (target_code m Widening false room ++ c) q out Holds
    tells_wide_room room d =
        subst (λ k. Does S.whole S.places Onward (10 + extra) 0 ins ls k q out Holds) (same_code (address_code m.to64 m.temporaries.region) (times_code m.to64 room m.temporaries.units) (to_address m.to64) (address_code m.to64 m.temporaries.written))
        (within (omega arith) (tells_region x (gets_times m.to64 room m.temporaries.units v.length x.units (omega (arith, x.few)) (tells_number (told_room v room) (below_width m.to64 (room * v.length))
        (gets_address m.to64 m.temporaries.written v.written x.written_below x.written d)))))
      where
        same_code : (f g k l : List Instr) → f ++ (g ++ (k ++ (l ++ c))) ≡ (f ++ (g ++ (k ++ l))) ++ c
        same_code f g k l = ap (λ j. f ++ j) (ap (λ j. g ++ j) (sym (append_assoc k l c)) ∙ sym (append_assoc g (k ++ l) c)) ∙ sym (append_assoc f (g ++ (k ++ l)) c)

    tells_target : (k : TranscodeKind) (rest : Bool) (room : ℕ) → Does S.whole S.places Onward extra 0 (reverse (target_args tr k rest room v) ++ ins) ls c q out Holds → Does S.whole S.places Onward (target_steps k rest + extra) 0 ins ls (target_code m k rest room ++ c) q out Holds
    tells_target Fitting false room d = tells_first_room room d
    tells_target Fitting true room d = tells_next_room room d
    tells_target Widening rest room d = tells_wide_room room d
    tells_target AllUnits rest room d = tells_region x d
    tells_target Counted rest room d = tells_region x d
    tells_target Narrow rest room d = tells_region x d
    tells_target Tagged rest room d = tells_region x d

  -- all of it has the types of the transcoder's parameters
  told_types : (k : TranscodeKind) (o : Transcode) (rest : Bool) (room : ℕ) (v : PathPoint) → have_types (source_args tr o rest v ++ target_args tr k rest room v) (address m.from64 ∷ address m.from64 ∷ target_types k m.to64) ≡ true
  told_types k o rest room v = sources (target_args tr k rest room v) (target_types k m.to64) rest (targets k rest)
    where
      sources : (ts : List CoreValue) (us : List ValType) (rest : Bool) → have_types ts us ≡ true → have_types (source_args tr o rest v ++ ts) (address m.from64 ∷ address m.from64 ∷ us) ≡ true
      sources ts us false h = both (operand_typed m.from64 _) (both (operand_typed m.from64 _) h)
      sources ts us true h = both (operand_typed m.from64 _) (both (operand_typed m.from64 _) h)

      targets : (k : TranscodeKind) (rest : Bool) → have_types (target_args tr k rest room v) (target_types k m.to64) ≡ true
      targets Fitting false = both (operand_typed m.to64 _) (both (operand_typed m.to64 _) refl)
      targets Fitting true = both (operand_typed m.to64 _) (both (operand_typed m.to64 _) refl)
      targets Widening rest = both (operand_typed m.to64 _) (both (operand_typed m.to64 _) (both (operand_typed m.to64 _) refl))
      targets AllUnits rest = both (operand_typed m.to64 _) refl
      targets Counted rest = both (operand_typed m.to64 _) refl
      targets Narrow rest = both (operand_typed m.to64 _) refl
      targets Tagged rest = both (operand_typed m.to64 _) refl

  -- ---- what it answers

  module _ {ls : Locals} {v : PathPoint} (x : AtPoint used m first v ls) where
    abbrev BehindAnswer : PathPoint → Locals → Type 0
    BehindAnswer u ls' = AtPoint used m first u ls'

    -- the units of the source are what is written
    takes_none : Does S.whole S.places Onward 2 0 [] ls (I.LocalGet m.temporaries.units ∷ I.LocalSet m.temporaries.written ∷ []) (Give (record v { written = v.length })) (λ u. []) BehindAnswer
    takes_none =
        within (omega arith) (local_get x.units (set_temp h.temps e 4 (omega arith) refl (point_stands x) (λ ls' s.
        done refl (point_from x s.keeps s.holds.1.1.1.1.0 s.holds.1.1.1.0 s.holds.1.1.0 s.holds.1.0 s.holds.0 x.read_below (few_below m.to64) refl))))
      where
        few_below : (memory64 : Bool) → v.length < limit_of (pointer_of_width memory64)
        few_below true = omega (arith, x.few)
        few_below false = omega (arith, x.few)

    -- the answer is what is written
    takes_one : (rs : List CoreValue) → are_values rs (address m.to64 ∷ []) ≡ true
        → Does S.whole S.places Onward 2 0 (reverse rs ++ []) ls (keep_code m.to64 m.temporaries.written) (Give (record v { written = first_bits rs })) (λ u. []) BehindAnswer
    takes_one rs t =
        let a = one_answer m.to64 rs t in
        let stack : stacked (pointer_of_width m.to64) (first_bits rs) ∷ [] ≡ reverse rs ++ [] = ap (λ u. u ∷ []) (address_is m.to64 (first_bits rs)) ∙ ap (λ us. reverse us ++ []) (sym a.0) in
        subst (λ k. Does S.whole S.places Onward 2 0 (reverse rs ++ []) ls k (Give (record v { written = first_bits rs })) (λ u. []) BehindAnswer) (append-nil (keep_code m.to64 m.temporaries.written))
        (subst (λ us. Does S.whole S.places Onward 2 0 us ls (keep_code m.to64 m.temporaries.written ++ []) (Give (record v { written = first_bits rs })) (λ u. []) BehindAnswer) stack
        (within (omega arith) (keep_number h.temps e (point_stands x) m.to64 4 (first_bits rs) (omega arith) refl (λ ls' s.
        done refl (point_from x s.keeps s.holds.1.1.1.1.0 s.holds.1.1.1.0 s.holds.1.1.0 s.holds.1.0 s.holds.0 x.read_below a.1 refl)))))

    -- two answers are what is read and what is written
    takes_two : (rs : List CoreValue) → are_values rs (address m.from64 ∷ address m.to64 ∷ []) ≡ true
        → Does S.whole S.places Onward 4 0 (reverse rs ++ []) ls (keep_code m.to64 m.temporaries.written ++ keep_code m.from64 m.temporaries.read) (Give (record v { read = first_bits rs; written = first_bits (drop 1 rs) })) (λ u. []) BehindAnswer
    takes_two rs t =
        let a = two_answers m.from64 m.to64 rs t in
        let n : ℕ = first_bits rs in
        let k : ℕ = first_bits (drop 1 rs) in
        let stack : stacked (pointer_of_width m.to64) k ∷ stacked (pointer_of_width m.from64) n ∷ [] ≡ reverse rs ++ [] =
        ap (λ u. u ∷ stacked (pointer_of_width m.from64) n ∷ []) (address_is m.to64 k) ∙ ap (λ u. address_operand m.to64 k ∷ u ∷ []) (address_is m.from64 n) ∙ ap (λ us. reverse us ++ []) (sym a.are) in
        let written = keep_code m.to64 m.temporaries.written in
        subst (λ c. Does S.whole S.places Onward 4 0 (reverse rs ++ []) ls (written ++ c) (Give (record v { read = n; written = k })) (λ u. []) BehindAnswer) (append-nil (keep_code m.from64 m.temporaries.read))
        (subst (λ us. Does S.whole S.places Onward 4 0 us ls (written ++ (keep_code m.from64 m.temporaries.read ++ [])) (Give (record v { read = n; written = k })) (λ u. []) BehindAnswer) stack
        (within (omega arith) (keep_number h.temps e (point_stands x) m.to64 4 k (omega arith) refl (λ ls1 s1.
        keep_number h.temps e s1 m.from64 2 n (omega arith) refl (λ ls2 s2.
        done refl (point_from x s2.keeps s2.holds.1.1.1.1.0 s2.holds.1.1.1.0 s2.holds.0 s2.holds.1.1.0 s2.holds.1.0 a.first a.second refl))))))

  -- an answer is added to what a temporary holds
  adds_to : {A : Type 0} {extra : ℕ} {ins : List CoreValue} {ls : Locals} {c : List Instr} {q : Action A} {out : A → List CoreValue} {Holds : A → Locals → Type 0} {fs : Facts} → Standing used 10 (string_temp m) first ls fs
      → (memory64 : Bool) (j old x : ℕ) → j < 10 → string_type j ≡ val.I64 → slice_get ls (string_temp m j) ≡ Some (Some (I64 old))
      → ((ls' : Locals) → Standing used 10 (string_temp m) first ls' ((j, I64 ((old + x) % 2 ^ address_bits memory64)) ∷ without j fs) → Does S.whole S.places Onward extra 0 ins ls' c q out Holds)
      → Does S.whole S.places Onward (6 + extra) 0 (stacked (pointer_of_width memory64) x ∷ ins) ls (add_to_code memory64 (string_temp m j) ++ c) q out Holds
  adds_to {extra = extra} {ins} {ls} {c} {q} {out} {Holds} {fs} s memory64 j old x lt wide there go =
      let made = out_of_stack {M = S.whole} {ls = ls} x (pointer_of_width memory64) val.I64 (may_hold memory64) in
      let sum : ℕ = iadd 64 x old in
      let is : sum % 2 ^ address_bits memory64 ≡ (old + x) % 2 ^ address_bits memory64 = wide_first memory64 (x + old) ∙ ap (λ n. n % 2 ^ address_bits memory64) (omega arith) in
      let set = set_temp h.temps e {M = S.whole} {p = S.places} {way = Onward} {extra = extra} {spare = 0} {ins = ins} {c = c} {q = q} {out = out} {Holds = Holds} {v = I64 ((old + x) % 2 ^ address_bits memory64)} j lt (ap (has_type (I64 ((old + x) % 2 ^ address_bits memory64))) wide) s go in
      subst (λ k. Does S.whole S.places Onward (6 + extra) 0 (stacked (pointer_of_width memory64) x ∷ ins) ls k q out Holds) (same_code (widen (pointer_of_width memory64) val.I64) (wrap_code memory64))
      (within (omega (arith, made.few)) (stretch (λ w below. made.leaves w (ins ++ below)) (local_get there (adds (wraps memory64 sum (mod_below (x + old) (2 ^ 64) (lit< tt))
      (subst (λ n. Does S.whole S.places Onward (1 + extra) 0 (I64 n ∷ ins) ls (I.LocalSet (string_temp m j) ∷ c) q out Holds) (sym is) (within (omega arith) set)))))))
    where
      same_code : (f g : List Instr) → f ++ (I.LocalGet (string_temp m j) ∷ I.I64Add ∷ (g ++ (I.LocalSet (string_temp m j) ∷ c))) ≡ (f ++ (I.LocalGet (string_temp m j) ∷ I.I64Add ∷ (g ++ I.LocalSet (string_temp m j) ∷ []))) ++ c
      same_code f g = ap (λ l. f ++ (I.LocalGet (string_temp m j) ∷ I.I64Add ∷ l)) (sym (append_assoc g (I.LocalSet (string_temp m j) ∷ []) c)) ∙ sym (append_assoc f (I.LocalGet (string_temp m j) ∷ I.I64Add ∷ (g ++ I.LocalSet (string_temp m j) ∷ [])) c)

  module _ {ls : Locals} {v : PathPoint} (x : AtPoint used m first v ls) where
    -- two answers are more that is read and written
    takes_more : (rs : List CoreValue) → are_values rs (address m.from64 ∷ address m.to64 ∷ []) ≡ true
        → Does S.whole S.places Onward 12 0 (reverse rs ++ []) ls (add_to_code m.to64 m.temporaries.written ++ add_to_code m.from64 m.temporaries.read) (Give (passed tr Fitting true rs v)) (λ u. []) (λ u ls'. AtPoint used m first u ls')
    takes_more rs t =
        let a = two_answers m.from64 m.to64 rs t in
        let n : ℕ = first_bits rs in
        let k : ℕ = first_bits (drop 1 rs) in
        let stack : stacked (pointer_of_width m.to64) k ∷ stacked (pointer_of_width m.from64) n ∷ [] ≡ reverse rs ++ [] =
        ap (λ u. u ∷ stacked (pointer_of_width m.from64) n ∷ []) (address_is m.to64 k) ∙ ap (λ u. address_operand m.to64 k ∷ u ∷ []) (address_is m.from64 n) ∙ ap (λ us. reverse us ++ []) (sym a.are) in
        let written = add_to_code m.to64 m.temporaries.written in
        subst (λ c. Does S.whole S.places Onward 12 0 (reverse rs ++ []) ls (written ++ c) (Give (passed tr Fitting true rs v)) (λ u. []) (λ u ls'. AtPoint used m first u ls')) (append-nil (add_to_code m.from64 m.temporaries.read))
        (subst (λ us. Does S.whole S.places Onward 12 0 us ls (written ++ (add_to_code m.from64 m.temporaries.read ++ [])) (Give (passed tr Fitting true rs v)) (λ u. []) (λ u ls'. AtPoint used m first u ls')) stack
        (within (omega arith) (adds_to (point_stands x) m.to64 4 v.written k (omega arith) refl x.written (λ ls1 s1.
        adds_to s1 m.from64 2 v.read n (omega arith) refl s1.holds.1.1.0 (λ ls2 s2.
        done refl (point_from x s2.keeps s2.holds.1.1.1.1.0 s2.holds.1.1.1.0 s2.holds.0 s2.holds.1.1.0 s2.holds.1.0 (below_width m.from64 (v.read + n)) (below_width m.to64 (v.written + k)) refl))))))

    takes_answer : (k : TranscodeKind) (rest : Bool) (rs : List CoreValue) → are_values rs (transcode_types k m.from64 m.to64) ≡ true
        → Does S.whole S.places Onward (answer_steps k rest) 0 (reverse rs ++ []) ls (answer_code m k rest) (Give (passed tr k rest rs v)) (λ u. []) (λ u ls'. AtPoint used m first u ls')
    takes_answer AllUnits rest rs t = subst (λ us. Does S.whole S.places Onward 2 0 (reverse us ++ []) ls (answer_code m AllUnits rest) (Give (passed tr AllUnits rest us v)) (λ u. []) (λ u ls'. AtPoint used m first u ls')) (sym (no_values rs t)) (takes_none x)
    takes_answer Fitting true rs t = takes_more rs t
    takes_answer Fitting false rs t = takes_two x rs t
    takes_answer Narrow rest rs t = takes_two x rs t
    takes_answer Counted rest rs t = takes_one x rs t
    takes_answer Tagged rest rs t = takes_one x rs t
    takes_answer Widening rest rs t = takes_one x rs t

  -- ---- a pass

  passes_with : (o : Transcode) (rest : Bool) (room : ℕ) → NeedsTranscoder o m S.whole S.places a.def b.def → (v : PathPoint) (ls : Locals) → AtPoint used m first v ls
      → Does S.whole S.places Onward (pass_steps o rest) 0 [] ls (pass_code m o rest room) (transcode tr o rest room v) (λ u. []) (λ u ls'. AtPoint used m first u ls')
  passes_with o rest room knows v ls x =
      let args : List CoreValue = source_args tr o rest v ++ target_args tr (transcode_kind o) rest room v in
      let called = ask {ins = []} args {k = λ rs. Give (passed tr (transcode_kind o) rest rs v)} knows (told_types (transcode_kind o) o rest room v) (λ rs t. takes_answer x (transcode_kind o) rest rs t) in
      let told = subst (λ us. Does S.whole S.places Onward (1 + answer_steps (transcode_kind o) rest) 0 us ls (I.Call (func.Import (m.transcoder o)) ∷ answer_code m (transcode_kind o) rest) (transcode tr o rest room v) (λ u. []) (λ u ls'. AtPoint used m first u ls'))
      (ap (λ us. us ++ []) (reverse-append (source_args tr o rest v) (target_args tr (transcode_kind o) rest room v)) ∙ append_assoc (reverse (target_args tr (transcode_kind o) rest room v)) (reverse (source_args tr o rest v)) []) (within (omega arith) called) in
      tells_source x o rest (tells_target x (transcode_kind o) rest room told)

  -- The code of a transcoder does its action.
  pub passes : (o : Transcode) (rest : Bool) (room : ℕ) → NeedsTranscoder o m S.whole S.places a.def b.def → DoesPass S used m first o rest room
  passes o rest room knows v ls x =
      subst (λ t. Does S.whole S.places Onward (pass_steps o rest) 0 [] ls (pass_code m o rest room) (transcode t o rest room v) (λ u. []) (λ u ls'. AtPoint used m first u ls')) tr_is (passes_with o rest room knows v ls x)
