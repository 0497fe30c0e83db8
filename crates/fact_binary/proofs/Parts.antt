-- No spelling of a part of a module begins another, and so a module in range has a spelling of its own.
use Rattle.std.proofs.Common.{◌≡◌, ℕ, ◌^◌, ◌<◌, Bool, true, false, List, [], ◌∷◌, ◌++◌, length, Option, Some, None, refl, sym, ap, ◌∙◌, append_assoc, append-nil, arith, inr}
use Rattle.fact_wasm.specs.declared.types.ValType.{ValType}
use Rattle.fact_wasm.specs.declared.module.ImportType.TheVariants as import
use Rattle.fact_binary.specs.Numbers.{unsigned}
use Rattle.fact_binary.specs.Grammar.{list, IsList, IsIndex, val_type, function_index, body_nodes, codes}
use Rattle.fact_binary.specs.Spelling.{value_types, IsValueType, func_type, IsFuncType, sized, name, IsName, memory_type, IsMemoryType, mutability, import_type, IsImportType, import_item, IsImport, locals_run, IsRun, export_item, func_body, section}
use Rattle.fact_binary.specs.Rebuild.{name_of, instrs_of}
use Rattle.fact_binary.specs.Owned.{IsOwnExport, IsOwnCode, code_of}
use Rattle.fact_binary.proofs.Groups.{unsigned-unique}
use Rattle.fact_binary.proofs.Unique.{IsPrefixFree, lists-unique, index_unique, val_type-unique, codes-unique}

pub heads : (a b : ℕ) (x y : List ℕ) → a ∷ x ≡ b ∷ y → (a ≡ b) × (x ≡ y)
heads a b x y e = (cc, cc)

pub split : (x y r s : List ℕ) → length x ≡ length y → x ++ r ≡ y ++ s → (x ≡ y) × (r ≡ s)
split [] [] r s n e = (refl, e)
split [] (b ∷ y) r s n e = absurd (omega arith)
split (a ∷ x) [] r s n e = absurd (omega arith)
split (a ∷ x) (b ∷ y) r s n e =
    let h = heads a b (x ++ r) (y ++ s) e in
    let rest = split x y r s (omega arith) h.1 in
    (cc, rest.1)

-- one part behind another
pub both : {A B : Type 0} → (f : A → List ℕ) (g : B → List ℕ) (P : A → Type 0) (Q : B → Type 0) → IsPrefixFree f P → IsPrefixFree g Q
    → (a c : A) (b d : B) (r s : List ℕ) → P a → P c → Q b → Q d → (f a ++ g b) ++ r ≡ (f c ++ g d) ++ s → (a ≡ c) × (b ≡ d) × (r ≡ s)
both f g P Q one two a c b d r s p q p2 q2 e =
    let u = one a c (g b ++ r) (g d ++ s) p q (sym (append_assoc (f a) (g b) r) ∙ e ∙ append_assoc (f c) (g d) s) in
    let v = two b d r s p2 q2 u.1 in
    (u.0, v.0, v.1)

pub sized_unique : IsPrefixFree sized (λ x. length x < 2 ^ 32)
sized_unique x y r s p q e =
    let u = unsigned-unique (length x) (length y) (x ++ r) (y ++ s) (omega arith) (omega arith) (sym (append_assoc (unsigned (length x)) x r) ∙ e ∙ append_assoc (unsigned (length y)) y s) in
    split x y r s u.0 u.1

pub name_unique : IsPrefixFree name IsName
name_unique x y r s p q e = sized_unique x y r s p.0 q.0 e

value_type_unique : IsPrefixFree (λ t. val_type t ∷ []) IsValueType
value_type_unique x y r s p q e = let h = heads (val_type x) (val_type y) r s e in (val_type-unique x y h.0, h.1)

pub value_types_unique : IsPrefixFree value_types (IsList IsValueType)
value_types_unique x y r s p q e = lists-unique (λ t. val_type t ∷ []) IsValueType value_type_unique x y r s p.0 q.0 p.1 q.1 e

pub func_type_unique : IsPrefixFree func_type IsFuncType
func_type_unique x y r s p q e =
    let h = heads 0x60 0x60 ((value_types x.params ++ value_types x.results) ++ r) ((value_types y.params ++ value_types y.results) ++ s) e in
    let u = both value_types value_types (IsList IsValueType) (IsList IsValueType) value_types_unique value_types_unique x.params y.params x.results y.results r s p.0 q.0 p.1 q.1 h.1 in
    (λ i. record { params = u.0 i; results = u.1 i }, u.2)

unsigned_unique : IsPrefixFree unsigned (λ n. n < 2 ^ 64)
unsigned_unique x y r s p q e = unsigned-unique x y r s (omega arith) (omega arith) e

pub memory_unique : (l l2 : ℕ) (w w2 : Bool) (p p2 : Option ℕ) (r s : List ℕ) → IsMemoryType l p → IsMemoryType l2 p2 → memory_type l w p ++ r ≡ memory_type l2 w2 p2 ++ s → (l ≡ l2) × (w ≡ w2) × (p ≡ p2) × (r ≡ s)
memory_unique l l2 true true None None r s h k e = let u = unsigned_unique l l2 r s h k (sym (ap (λ (t : List ℕ). t ++ r) (append-nil (unsigned l))) ∙ (heads _ _ _ _ e).1 ∙ ap (λ (t : List ℕ). t ++ s) (append-nil (unsigned l2))) in (u.0, refl, refl, u.1)
memory_unique l l2 false false None None r s h k e = let u = unsigned_unique l l2 r s h k (sym (ap (λ (t : List ℕ). t ++ r) (append-nil (unsigned l))) ∙ (heads _ _ _ _ e).1 ∙ ap (λ (t : List ℕ). t ++ s) (append-nil (unsigned l2))) in (u.0, refl, refl, u.1)
memory_unique l l2 true true (Some a) (Some b) r s h k e =
    let u = both unsigned unsigned (λ n. n < 2 ^ 64) IsIndex unsigned_unique index_unique l l2 a b r s h.0 k.0 h.1 k.1 (heads _ _ _ _ e).1 in (u.0, refl, ap Some u.1, u.2)
memory_unique l l2 false false (Some a) (Some b) r s h k e =
    let u = both unsigned unsigned (λ n. n < 2 ^ 64) IsIndex unsigned_unique index_unique l l2 a b r s h.0 k.0 h.1 k.1 (heads _ _ _ _ e).1 in (u.0, refl, ap Some u.1, u.2)
memory_unique l l2 true true None (Some b) r s _ _ e = absurd cc
memory_unique l l2 true true (Some a) None r s _ _ e = absurd cc
memory_unique l l2 false false None (Some b) r s _ _ e = absurd cc
memory_unique l l2 false false (Some a) None r s _ _ e = absurd cc
memory_unique l l2 true false None None r s _ _ e = absurd cc
memory_unique l l2 true false None (Some b) r s _ _ e = absurd cc
memory_unique l l2 true false (Some a) None r s _ _ e = absurd cc
memory_unique l l2 true false (Some a) (Some b) r s _ _ e = absurd cc
memory_unique l l2 false true None None r s _ _ e = absurd cc
memory_unique l l2 false true None (Some b) r s _ _ e = absurd cc
memory_unique l l2 false true (Some a) None r s _ _ e = absurd cc
memory_unique l l2 false true (Some a) (Some b) r s _ _ e = absurd cc

mutability_unique : (a b : Bool) → mutability a ≡ mutability b → a ≡ b
mutability_unique true true e = refl
mutability_unique false false e = refl
mutability_unique true false e = absurd cc
mutability_unique false true e = absurd cc

pub import_type_unique : IsPrefixFree import_type IsImportType
import_type_unique (import.Func a) (import.Func b) r s p q e = let u = index_unique a b r s p q (heads _ _ _ _ e).1 in (ap import.Func u.0, u.1)
import_type_unique (import.Memory l w p) (import.Memory l2 w2 p2) r s h k e =
    let u = memory_unique l l2 w w2 p p2 r s h k (heads _ _ _ _ e).1 in
    (ap (λ (n : ℕ). import.Memory n w p) u.0 ∙ ap (λ (b : Bool). import.Memory l2 b p) u.1 ∙ ap (λ (o : Option ℕ). import.Memory l2 w2 o) u.2, u.3)
import_type_unique (import.Global t a) (import.Global u b) r s p q e =
    let h = heads (val_type t) (val_type u) (mutability a ∷ r) (mutability b ∷ s) (heads _ _ _ _ e).1 in
    let k = heads (mutability a) (mutability b) r s h.1 in
    (ap (λ (x : ValType). import.Global x a) (val_type-unique t u h.0) ∙ ap (λ (x : Bool). import.Global u x) (mutability_unique a b k.0), k.1)
import_type_unique _ _ r s _ _ e = absurd cc

pub import_unique : IsPrefixFree import_item IsImport
import_unique x y r s p q e =
    let u = name_unique x.module y.module ((name x.name ++ import_type x.ty) ++ r) ((name y.name ++ import_type y.ty) ++ s) p.0 q.0
    (sym (append_assoc (name x.module) (name x.name ++ import_type x.ty) r) ∙ e ∙ append_assoc (name y.module) (name y.name ++ import_type y.ty) s) in
    let v = both name import_type IsName IsImportType name_unique import_type_unique x.name y.name x.ty y.ty r s p.1 q.1 p.2 q.2 u.1 in
    (λ i. record { «module» = u.0 i; name = v.0 i; ty = v.1 i }, v.2)

pub export_unique : (n : ℕ) → IsPrefixFree (export_item n) (IsOwnExport n)
export_unique n x y r s p q e =
    let u = name_unique x.name y.name ((0x00 ∷ unsigned (function_index n x.func)) ++ r) ((0x00 ∷ unsigned (function_index n y.func)) ++ s) p.0.0 q.0.0
    (sym (append_assoc (name x.name) (0x00 ∷ unsigned (function_index n x.func)) r) ∙ e ∙ append_assoc (name y.name) (0x00 ∷ unsigned (function_index n y.func)) s) in
    let v = index_unique (function_index n x.func) (function_index n y.func) r s p.0.1 q.0.1 (heads _ _ _ _ u.1).1 in
    let same = sym p.1 ∙ ap (name_of n) v.0 ∙ q.1 in
    (λ i. record { name = u.0 i; func = same i }, v.1)

pub run_unique : IsPrefixFree locals_run IsRun
run_unique x y r s p q e =
    let u = index_unique x.0 y.0 (val_type x.1 ∷ r) (val_type y.1 ∷ s) p q (sym (append_assoc (unsigned x.0) (val_type x.1 ∷ []) r) ∙ e ∙ append_assoc (unsigned y.0) (val_type y.1 ∷ []) s) in
    let h = heads (val_type x.1) (val_type y.1) r s u.1 in
    let same = val_type-unique x.1 y.1 h.0 in
    (λ i. (u.0 i, same i), h.1)

pub code_unique : (n : ℕ) → IsPrefixFree (code_of n) (IsOwnCode n)
code_unique n x y r s p q e =
    let a = codes (body_nodes n x.body) in
    let b = codes (body_nodes n y.body) in
    let u = sized_unique (func_body n x.locals x.body) (func_body n y.locals y.body) r s p.0.0 q.0.0 e in
    let v = lists-unique locals_run IsRun run_unique x.locals y.locals (a ++ 0x0B ∷ []) (b ++ 0x0B ∷ []) p.0.1.0 q.0.1.0 p.0.1.1 q.0.1.1 u.0 in
    let w = codes-unique (body_nodes n x.body) (body_nodes n y.body) 0x0B 0x0B [] [] (inr refl) (inr refl) p.0.2 q.0.2 v.1 in
    let same = sym p.1 ∙ ap (instrs_of n) w.0 ∙ q.1 in
    (λ i. record { locals = v.0 i; body = same i }, u.1)

-- sections of such items
pub section_unique : {A : Type 0} → (f : A → List ℕ) (P : A → Type 0) → IsPrefixFree f P → (id : ℕ) (xs ys : List A) (r s : List ℕ) → length (list f xs) < 2 ^ 32 → length (list f ys) < 2 ^ 32
    → IsList P xs → IsList P ys → section id (list f xs) ++ r ≡ section id (list f ys) ++ s → (xs ≡ ys) × (r ≡ s)
section_unique f P one id xs ys r s a b p q e =
    let u = sized_unique (list f xs) (list f ys) r s a b (heads id id _ _ e).1 in
    let v = lists-unique f P one xs ys [] [] p.0 q.0 p.1 q.1 (ap (λ (t : List ℕ). t ++ []) u.0) in
    (v.0, u.1)
