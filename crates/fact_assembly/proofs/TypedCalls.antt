-- Typed code calls all functions of the module that it names, where none of these is exported: it hands on references to exported functions alone.
use Rattle.std.proofs.Common.{◌≡◌, ℕ, Bool, true, false, ◌&&◌, List, [], ◌∷◌, ◌++◌, Option, Some, None, refl, sym, ap, ◌∙◌, subst, map, reverse, slice_get}
use Rattle.std.specs.Prelude.{option_and_then}
use Rattle.std.specs.List.{AllByRecursion, filter_map, flat_map, list_all}
use Rattle.std.proofs.lemmas.List.Elements.{filter_map-append}
use Rattle.fact_wasm.specs.declared.types.FuncType.{FuncType}
use Rattle.fact_wasm.specs.declared.types.ValType.{ValType}
use Rattle.fact_wasm.specs.declared.types.ValType.TheVariants.{I32, FuncRef}
use Rattle.fact_wasm.specs.declared.instr.BlockType.{BlockType}
use Rattle.fact_wasm.specs.declared.instr.FuncName.TheVariants as func
use Rattle.fact_wasm.specs.declared.instr.Instr.{Instr, roll-Instr, fold-roll-Instr, ind-Instr, map-Instr}
use Rattle.fact_wasm.specs.declared.instr.Instr.TheOpen as o
use Rattle.fact_wasm.specs.declared.instr.Instr.TheOpen.{Instr-F}
use Rattle.fact_wasm.specs.declared.module.WasmFunc.{WasmFunc}
use Rattle.fact_wasm.specs.declared.module.WasmModule.{WasmModule}
use Rattle.fact_wasm.specs.Ranges.{Point, body_points, points, points_row}
use Rattle.fact_machine.specs.Typing.{Context, Known, Operands, Typing, chain, change, code_typing, declares_numbers, ends, function_context, function_type, in_block, inside, is_body, is_catch, is_exported, is_typed_body, is_typed_function, only_if, pop, types_of_block, typing, typing_row}
use Rattle.fact_machine.proofs.Tests.{first_of, second_of}
use Rattle.fact_emit.specs.NamedFunctions.{defined_named, defined_place, name_at}
use Rattle.fact_assembly.specs.Outlines.{defined_calls, defined_calls_of, defined_calls_row}

-- ---- options

some-of : {A B : Type 0} (x : Option A) (f : A → Option B) (b : B) → option_and_then f x ≡ Some b → (a : A) × (x ≡ Some a) × (f a ≡ Some b)
some-of None f b h = cc
some-of (Some a) f b h = (a, refl, h)

some-if : {A : Type 0} (b : Bool) (x : Option A) (a : A) → only_if b x ≡ Some a → (b ≡ true) × (x ≡ Some a)
some-if true x a h = (refl, h)
some-if false x a h = cc

-- ---- what code names

abbrev named : List Point → List ℕ
named ps = filter_map defined_place (filter_map name_at ps)

named-append : (ps qs : List Point) → named (ps ++ qs) ≡ named ps ++ named qs
named-append ps qs = ap (filter_map defined_place) (filter_map-append name_at ps qs) ∙ filter_map-append defined_place (filter_map name_at ps) (filter_map name_at qs)

-- none of these functions is exported
abbrev pub AreHidden : WasmModule → List ℕ → Type 0
AreHidden M ks = AllByRecursion (λ k. is_exported (func.Defined k) M.exports ≡ false) ks

hidden-both : (M : WasmModule) (ks ls : List ℕ) → AreHidden M (ks ++ ls) → AreHidden M ks × AreHidden M ls
hidden-both M [] ls h = (tt, h)
hidden-both M (k ∷ ks) ls h = let rest = hidden-both M ks ls h.1 in ((h.0, rest.0), rest.1)

record CallsNamed (i : Instr) : Type 0 where
  by : (G : Context) (s s' : Operands) → typing i G s ≡ Some s' → AreHidden G.whole (named (points i)) → defined_calls_of i ≡ named (points i)

-- ---- rows

abbrev all-calls : List (List ℕ) → List ℕ
all-calls = flat_map (λ ks. ks)

abbrev all-points : List (List Point) → List Point
all-points = flat_map (λ ps. ps)

module _ {Z : Type 0} (f : Z → Instr) (each : (z : Z) → CallsNamed (f z)) where
  abbrev calls-in : List Z → List ℕ
  calls-in zs = all-calls (map defined_calls_of (map f zs))

  abbrev points-in : List Z → List Point
  points-in zs = all-points (map points (map f zs))

  bodies : (zs : List Z) (G : Context) (s s' : Operands) → chain (map typing (map f zs)) G s ≡ Some s' → AreHidden G.whole (named (points-in zs)) → calls-in zs ≡ named (points-in zs)
  bodies [] G s s' h hidden = refl
  bodies (z ∷ zs) G s s' h hidden =
      let x = some-of (typing (f z) G s) (λ s1. chain (map typing (map f zs)) G s1) s' h in
      let split = named-append (points (f z)) (points-in zs) in
      let parts = hidden-both G.whole (named (points (f z))) (named (points-in zs)) (subst (AreHidden G.whole) split hidden) in
      (λ k. (each z).by G s x.0 x.1 parts.0 k ++ bodies zs G x.0 s' x.2 parts.1 k) ∙ sym split

  by-body : (zs : List Z) (G : Context) (label ps rs : List ValType) → is_body G label ps rs (map typing (map f zs)) ≡ true → AreHidden G.whole (named (points-in zs)) → calls-in zs ≡ named (points-in zs)
  by-body zs G label ps rs h hidden = by-end (chain (map typing (map f zs)) (inside label G) (Known (reverse ps))) refl h
    where
      by-end : (o : Option Operands) → chain (map typing (map f zs)) (inside label G) (Known (reverse ps)) ≡ o → ends rs o ≡ true → calls-in zs ≡ named (points-in zs)
      by-end None e h = cc
      by-end (Some s') e h = bodies zs (inside label G) (Known (reverse ps)) s' e hidden

  -- what holds where a block's bodies are typed holds where the block is
  by-block : (G : Context) (bt : BlockType) (s s' : Operands) (k : List ValType → List ValType → Bool) (P : Type 0) → ((ps rs : List ValType) → k ps rs ≡ true → P) → in_block G bt k s ≡ Some s' → P
  by-block G bt s s' k P e h =
      let x = some-of (types_of_block G.whole.types bt) (λ t. only_if (k t.0 t.1) (change (reverse t.0) (reverse t.1) s)) s' h in
      let y = some-if (k x.0.0 x.0.1) (change (reverse x.0.0) (reverse x.0.1) s) s' x.2 in
      e x.0.0 x.0.1 y.0

  by-both : (bt : BlockType) (body other : List Z) (G : Context) (s s' : Operands)
      → option_and_then (λ z. in_block G bt (λ ps rs. is_body G rs ps rs (map typing (map f body)) && is_body G rs ps rs (map typing (map f other))) z) (pop I32 s) ≡ Some s'
      → AreHidden G.whole (named (points-in body ++ points-in other)) → calls-in body ++ calls-in other ≡ named (points-in body ++ points-in other)
  by-both bt body other G s s' h hidden =
      let k : List ValType → List ValType → Bool = λ ps rs. is_body G rs ps rs (map typing (map f body)) && is_body G rs ps rs (map typing (map f other)) in
      let x = some-of (pop I32 s) (λ z. in_block G bt k z) s' h in
      let split = named-append (points-in body) (points-in other) in
      let parts = hidden-both G.whole (named (points-in body)) (named (points-in other)) (subst (AreHidden G.whole) split hidden) in
      by-block G bt x.0 s' k (calls-in body ++ calls-in other ≡ named (points-in body ++ points-in other)) (λ ps rs e.
      (λ i. by-body body G rs ps rs (first_of (is_body G rs ps rs (map typing (map f body))) (is_body G rs ps rs (map typing (map f other))) e) parts.0 i
      ++ by-body other G rs ps rs (second_of (is_body G rs ps rs (map typing (map f body))) (is_body G rs ps rs (map typing (map f other))) e) parts.1 i) ∙ sym split) x.2

  by-one : (bt : BlockType) (body : List Z) (G : Context) (s s' : Operands)
      → option_and_then (λ z. in_block G bt (λ ps rs. is_body G rs ps rs (map typing (map f body)) && is_body G rs ps rs []) z) (pop I32 s) ≡ Some s'
      → AreHidden G.whole (named (points-in body)) → calls-in body ≡ named (points-in body)
  by-one bt body G s s' h hidden =
      let k : List ValType → List ValType → Bool = λ ps rs. is_body G rs ps rs (map typing (map f body)) && is_body G rs ps rs [] in
      let x = some-of (pop I32 s) (λ z. in_block G bt k z) s' h in
      by-block G bt x.0 s' k (calls-in body ≡ named (points-in body)) (λ ps rs e. by-body body G rs ps rs (first_of (is_body G rs ps rs (map typing (map f body))) (is_body G rs ps rs []) e) hidden) x.2

  abbrev typed-row : Instr-F Z → Typing
  typed-row y = typing_row (map-Instr Instr Typing typing (map-Instr Z Instr f y))

  abbrev points-row : Instr-F Z → List Point
  points-row y = points_row (map-Instr Instr (List Point) points (map-Instr Z Instr f y))

  abbrev calls-row : Instr-F Z → List ℕ
  calls-row y = defined_calls_row (map-Instr Instr (List ℕ) defined_calls_of (map-Instr Z Instr f y))

  rows : (y : Instr-F Z) (G : Context) (s s' : Operands) → typed-row y G s ≡ Some s' → AreHidden G.whole (named (points-row y)) → calls-row y ≡ named (points-row y)
  rows (o.Block bt body) G s s' h hidden = by-block G bt s s' _ (calls-in body ≡ named (points-in body)) (λ ps rs e. by-body body G rs ps rs e hidden) h
  rows (o.Loop bt body) G s s' h hidden = by-block G bt s s' _ (calls-in body ≡ named (points-in body)) (λ ps rs e. by-body body G ps ps rs e hidden) h
  rows (o.If bt body None) G s s' h hidden = by-one bt body G s s' h hidden
  rows (o.If bt body (Some other)) G s s' h hidden = by-both bt body other G s s' h hidden
  rows (o.TryTable bt catches body) G s s' h hidden = by-block G bt s s' _ (calls-in body ≡ named (points-in body)) (λ ps rs e. by-body body G rs ps rs (second_of (list_all (is_catch G) catches) _ e) hidden) h
  rows (o.Call (func.Import k)) G s s' h hidden = refl
  rows (o.Call (func.Defined k)) G s s' h hidden = refl
  rows (o.RefFunc (func.Import k)) G s s' h hidden = refl
  rows (o.RefFunc (func.Defined k)) G s s' h hidden =
      let t = some-of (function_type G.whole (func.Defined k)) (λ (ty : FuncType). only_if (is_exported (func.Defined k) G.whole.exports) (change [] (FuncRef ∷ []) s)) s' h in
      let there = some-if (is_exported (func.Defined k) G.whole.exports) (change [] (FuncRef ∷ []) s) s' t.2 in
      absurd (let no : true ≡ false = sym there.0 ∙ hidden.0 in cc)
  rows _ G s s' h hidden = refl

-- ---- every instruction, and code

instr-calls : (i : Instr) → CallsNamed i
instr-calls = ind-Instr CallsNamed (λ x y is. subst (λ (z : Instr-F Instr). CallsNamed (roll-Instr z)) is (record {
  by = λ G s s' h hidden.
      let z = map-Instr _ Instr (λ e. e.0) y in
      let as-points : points (roll-Instr z) ≡ points_row (map-Instr Instr (List Point) points z) = fold-roll-Instr (List Point) points_row z in
      let as-calls : defined_calls_of (roll-Instr z) ≡ defined_calls_row (map-Instr Instr (List ℕ) defined_calls_of z) = fold-roll-Instr (List ℕ) defined_calls_row z in
      let as-typed : typing (roll-Instr z) ≡ typing_row (map-Instr Instr Typing typing z) = fold-roll-Instr Typing typing_row z in
      as-calls ∙ rows (λ e. e.0) (λ e. e.1) y G s s' (subst (λ (r : Typing). r G s ≡ Some s') as-typed h) (subst (λ ps. AreHidden G.whole (named ps)) as-points hidden) ∙ ap named (sym as-points);
}))

pub code-calls : (code : List Instr) (G : Context) (s s' : Operands) → code_typing G code s ≡ Some s' → AreHidden G.whole (defined_named code) → defined_calls code ≡ defined_named code
code-calls [] G s s' h hidden = refl
code-calls (i ∷ code) G s s' h hidden =
    let x = some-of (typing i G s) (λ s1. code_typing G code s1) s' h in
    let split = named-append (points i) (body_points code) in
    let parts = hidden-both G.whole (named (points i)) (named (body_points code)) (subst (AreHidden G.whole) split hidden) in
    (λ k. (instr-calls i).by G s x.0 x.1 parts.0 k ++ code-calls code G x.0 s' x.2 parts.1 k) ∙ sym split

-- A typed function calls all that its body names.
pub typed-calls : (M : WasmModule) (f : WasmFunc) → is_typed_function M f ≡ true → AreHidden M (defined_named f.body) → defined_calls f.body ≡ defined_named f.body
typed-calls M f typed hidden = by-type (slice_get M.types f.ty) (second_of (list_all declares_numbers f.locals) (elim (slice_get M.types f.ty) [ None ↦ false | Some t ↦ is_typed_body M f t ]) typed)
  where
    by-end : (t : FuncType) (e : Option Operands) → code_typing (function_context M t f) f.body (Known []) ≡ e → ends t.results e ≡ true → defined_calls f.body ≡ defined_named f.body
    by-end t None is h = cc
    by-end t (Some s') is h = code-calls f.body (function_context M t f) (Known []) s' is hidden

    by-type : (e : Option FuncType) → elim e [ None ↦ false | Some t ↦ is_typed_body M f t ] ≡ true → defined_calls f.body ≡ defined_named f.body
    by-type None h = absurd (let no : false ≡ true = h in cc)
    by-type (Some t) h = by-end t (code_typing (function_context M t f) f.body (Known [])) refl h
