-- Imports against their rows.
use Rattle.std.proofs.Common.{◌≡◌, ◌<◌, ◌≤◌, ◌^◌, ℕ, Bool, List, [], ◌∷◌, ◌++◌, Some, None, sym, ap, ◌∙◌, subst, length, take, drop, slice_get, arith}
use Rattle.std.specs.Prelude.{nat_le, codes}
use Rattle.std.specs.Bool.{Decides}
use Rattle.std.specs.Fmt.{decimal}
use Rattle.std.proofs.lemmas.Bool.{leb-true, le-leb}
use Rattle.std.proofs.lemmas.Fmt.{decimal_injective}
use Rattle.std.proofs.lemmas.List.{append_cancel_left, append_cancel_right, length-append, take-append-drop}
use Rattle.fact_wasm.specs.declared.types.ValType.{ValType}
use Rattle.fact_wasm.specs.declared.types.FuncType.{FuncType}
use Rattle.fact_wasm.specs.declared.module.ImportType.TheVariants as import
use Rattle.fact_wasm.specs.declared.module.WasmImport.{WasmImport}
use Rattle.fact_check.specs.Imports.{AreNumbers, IsFunctionRow, IsNumbered, IsRow, IsTranscoderRow, function, functions_in, memories_in, operation_of, origin_of, prepare_types, transcoder_type}
use Rattle.fact_check.specs.NameNumbers.{memories_text}
use Rattle.fact_check.specs.Sections.{IsSectionOf}
use Rattle.fact_check.specs.declared.imports.Operation.{Operation}
use Rattle.fact_check.specs.declared.section.Section.{Section}
use Rattle.fact_check.proofs.Transcoders.{HasNoSpace, description_apart, number_apart, same_parts}

some_same : {A : Type 0} {x y : A} → Some x ≡ Some y → x ≡ y
some_same h = cc

-- ---- traps

abbrev IsTrapTo : ℕ → List ℕ → List ℕ → Type 0
IsTrapTo last prefix name = (trap : ℕ) × (trap ≤ last) × IsNumbered prefix trap name

pub trap_decided : (last : ℕ) (prefix name : List ℕ) (m : ℕ) → IsNumbered prefix m name → Decides (nat_le m last) (IsTrapTo last prefix name)
trap_decided last prefix name m i = (
  λ t. (m, leb-true m last t, i),
  λ j.
      let same : j.0 ≡ m = decimal_injective j.0 m (omega (arith, j.2.0)) (omega (arith, i.0)) (append_cancel_left prefix (decimal j.0) (decimal m) (sym j.2.1 ∙ i.1)) in
      le-leb m last (subst (λ k. k ≤ last) same j.1),
)

-- ---- what a prepare-call takes

abbrev Prepares : FuncType → Type 0
Prepares ty = (params : List ValType) × AreNumbers params × (ty ≡ function (prepare_types ++ params) [])

pub prepared : (ty : FuncType) → take 8 ty.params ≡ prepare_types → ty.results ≡ [] → AreNumbers (drop 8 ty.params) → Prepares ty
prepared ty front none rest =
    let whole : ty.params ≡ prepare_types ++ drop 8 ty.params = sym (take-append-drop 8 ty.params) ∙ ap (λ l. l ++ drop 8 ty.params) front in
    (drop 8 ty.params, rest, λ i. record { params = whole i; results = none i })

pub prepares_front : (ty : FuncType) → Prepares ty → take 8 ty.params ≡ prepare_types
prepares_front ty p = ap (λ (t : FuncType). take 8 t.params) p.2

pub prepares_rest : (ty : FuncType) → Prepares ty → AreNumbers (drop 8 ty.params)
prepares_rest ty p = subst (λ (t : FuncType). AreNumbers (drop 8 t.params)) (sym p.2) p.1

pub prepares_many : (ty : FuncType) → Prepares ty → 8 ≤ length ty.params
prepares_many ty p = omega (arith, ap (λ (t : FuncType). length t.params) p.2, length-append prepare_types p.0)

pub prepares_nothing : (ty : FuncType) → Prepares ty → length ty.results ≡ 0
prepares_nothing ty p = ap (λ (t : FuncType). length t.results) p.2

-- ---- transcoders

-- the parts of a name are those that a transcoder's name has
pub transcoder_parts : (memories : List Bool) (name description rest : List ℕ) (ty : FuncType) → name ≡ description ++ 32 ∷ rest → HasNoSpace description → (t : IsTranscoderRow memories name ty) → (description ≡ t.description) × (rest ≡ memories_text t.from t.to)
transcoder_parts memories name description rest ty e apart t = same_parts description t.description rest (memories_text t.from t.to) apart (description_apart t.description t.operation t.described) (sym e ∙ t.named)

pub memories_same : (f t f' t' : ℕ) → f < 2 ^ 32 → t < 2 ^ 32 → f' < 2 ^ 32 → t' < 2 ^ 32 → memories_text f t ≡ memories_text f' t' → (f ≡ f') × (t ≡ t')
memories_same f t f' t' a b c d e =
    let inner = append_cancel_left (codes "(mem") (decimal f ++ 32 ∷ (codes "=> mem" ++ (decimal t ++ 41 ∷ []))) (decimal f' ++ 32 ∷ (codes "=> mem" ++ (decimal t' ++ 41 ∷ []))) e in
    let parts = same_parts (decimal f) (decimal f') (codes "=> mem" ++ (decimal t ++ 41 ∷ [])) (codes "=> mem" ++ (decimal t' ++ 41 ∷ [])) (number_apart f a) (number_apart f' c) inner in
    let last = append_cancel_right (decimal t) (decimal t') (41 ∷ []) (append_cancel_left (codes "=> mem") (decimal t ++ 41 ∷ []) (decimal t' ++ 41 ∷ []) parts.1) in
    (decimal_injective f f' (omega arith) (omega arith) parts.0, decimal_injective t t' (omega arith) (omega arith) last)

-- the one transcoder that a name may be
pub transcoder_decided : (memories : List Bool) (name description rest : List ℕ) (ty : FuncType) (o : Operation) (from to : ℕ) (from64 to64 b : Bool)
    → name ≡ description ++ 32 ∷ rest → HasNoSpace description → operation_of description ≡ Some o → rest ≡ memories_text from to → from < 2 ^ 32 → to < 2 ^ 32 → slice_get memories from ≡ Some from64 → slice_get memories to ≡ Some to64
    → Decides b (ty ≡ transcoder_type o from64 to64) → Decides b (IsTranscoderRow memories name ty)
transcoder_decided memories name description rest ty o from to from64 to64 b e apart described is small small' there there' d = (
  λ t. record {
    description = description;
    operation = o;
    from = from;
    to = to;
    from64 = from64;
    to64 = to64;
    described = described;
    from_small = small;
    to_small = small';
    from_there = there;
    to_there = there';
    named = e ∙ ap (λ l. description ++ 32 ∷ l) is;
    typed = d.0 t;
  },
  λ t.
      let p = transcoder_parts memories name description rest ty e apart t in
      let m = memories_same from to t.from t.to small small' t.from_small t.to_small (sym is ∙ p.1) in
      let o' : o ≡ t.operation = some_same (sym described ∙ ap operation_of p.0 ∙ t.described) in
      let f' : from64 ≡ t.from64 = some_same (sym there ∙ ap (slice_get memories) m.0 ∙ t.from_there) in
      let t' : to64 ≡ t.to64 = some_same (sym there' ∙ ap (slice_get memories) m.1 ∙ t.to_there) in
      d.1 (t.typed ∙ (λ i. transcoder_type (sym o' i) (sym f' i) (sym t' i))),
)

-- ---- functions

pub function_decided : (types : List FuncType) (before : List WasmImport) (origin name : List ℕ) (t : ℕ) (ty : FuncType) (s : Section) (b : Bool) → IsSectionOf s before → slice_get types t ≡ Some ty → Decides b (IsFunctionRow (length s.functions) s.memories (origin_of origin) name ty)
    → Decides b (IsRow types before origin name (import.Func t))
function_decided types before origin name t ty s b i there d =
    let same : (n : ℕ) → n ≡ length s.functions → (ms : List Bool) → ms ≡ s.memories → (u : FuncType) → IsFunctionRow n ms (origin_of origin) name u → IsFunctionRow (length s.functions) s.memories (origin_of origin) name u =
    λ n e ms q u h. subst (λ k. IsFunctionRow k s.memories (origin_of origin) name u) e (subst (λ l. IsFunctionRow n l (origin_of origin) name u) q h)
    in (
      λ h. (ty, there, subst (λ k. IsFunctionRow k (memories_in before) (origin_of origin) name ty) (ap length i.functions) (subst (λ l. IsFunctionRow (length s.functions) l (origin_of origin) name ty) i.memories (d.0 h))),
      λ r.
          let u : r.0 ≡ ty = some_same (sym r.1 ∙ there) in
          d.1 (subst (λ x. IsFunctionRow (length s.functions) s.memories (origin_of origin) name x) u (same (functions_in before) (ap length (sym i.functions)) (memories_in before) (sym i.memories) r.0 r.2)),
    )

pub no_type : (types : List FuncType) (before : List WasmImport) (origin name : List ℕ) (t : ℕ) → slice_get types t ≡ None → IsRow types before origin name (import.Func t) → ⊥
no_type types before origin name t none r = absurd (nothing (sym none ∙ r.1))
  where
    nothing : None ≡ Some r.0 → ⊥
    nothing h = absurd cc

-- a description that is none
pub no_operation : (d d' : List ℕ) (o : Operation) → None ≡ operation_of d → d ≡ d' → operation_of d' ≡ Some o → ⊥
no_operation d d' o none same h = nothing (none ∙ ap operation_of same ∙ h)
  where
    nothing : None ≡ Some o → ⊥
    nothing e = absurd cc

-- memories that are not there
pub no_memory : (memories : List Bool) (from to : ℕ) → from < 2 ^ 32 → to < 2 ^ 32 → (name : List ℕ) (ty : FuncType) (t : IsTranscoderRow memories name ty) → memories_text from to ≡ memories_text t.from t.to
    → (None ≡ slice_get memories from → ⊥) × (None ≡ slice_get memories to → ⊥)
no_memory memories from to small small' name ty t e =
    let m = memories_same from to t.from t.to small small' t.from_small t.to_small e in
    (λ n. nothing t.from64 (n ∙ ap (slice_get memories) m.0 ∙ t.from_there), λ n. nothing t.to64 (n ∙ ap (slice_get memories) m.1 ∙ t.to_there))
  where
    nothing : (b : Bool) → None ≡ Some b → ⊥
    nothing b e = absurd cc
