-- What is known of an entry that breaks no rule for what it says itself.
use Rattle.std.proofs.Common.{◌≡◌, ◌<◌, ◌≤◌, ℕ, zero, suc, List, [], ◌∷◌, ◌++◌, length, map, Option, Some, None, Result, Err, refl, sym, arith, All, subst}
use Rattle.std.specs.Prelude.{Any, IfSome}
use Rattle.std.specs.List.{flat_map}
use Rattle.fact_entity.specs.declared.error.PushError.{PushError}
use Rattle.fact_entity.specs.declared.error.PushError.TheVariants.{OutOfMemory}
use Rattle.fact_types.specs.declared.interface.InterfaceType.{InterfaceType}
use Rattle.fact_types.specs.Shapes.{Shape, layouts_of}
use Rattle.fact_builder.specs.Builder.{Builder}
use Rattle.fact_plan.specs.declared.plan.PlanRef.{PlanRef}
use Rattle.fact_plan.specs.declared.plan.PlanType.{PlanType}
use Rattle.fact_plan_types.specs.Adding.{AddsEntry}
use Rattle.fact_plan_types.specs.PlanShapes.{cases_of, names_alone}
use Rattle.fact_plan_types.specs.TypeRules.{most_entries, optional}
use Rattle.fact_plan_types.proofs.MemberLaws.{cases_count, names_count}
use Rattle.fact_plan_types.proofs.TableLaws.{refused_adds}

any_behind : {X : Type 0} (P : X → Type 0) (x : X) (xs : List X) → Any P xs → Any P (x ∷ xs)
any_behind P x xs (k, y, l, e, p) = (suc k, y, omega (arith, l), e, p)

-- where none has it, each has it not
pub none_among : {X Y : Type 0} (P : Y → Type 0) (f : X → Y) (xs : List X) → (Any P (map f xs) → ⊥) → All (λ x. P (f x) → ⊥) xs
none_among P f [] n k d l = absurd (omega (arith, l))
none_among P f (x ∷ xs) n zero d l = λ p. n (0, f x, omega arith, refl, p)
none_among P f (x ∷ xs) n (suc k) d l = none_among P f xs (λ a. n (any_behind P (f x) (map f xs) a)) k d (omega (arith, l))

pub none_of : {X : Type 0} (P : X → Type 0) (xs : List X) → (Any P xs → ⊥) → All (λ x. P x → ⊥) xs
none_of P [] n k d l = absurd (omega (arith, l))
none_of P (x ∷ xs) n zero d l = λ p. n (0, x, omega arith, refl, p)
none_of P (x ∷ xs) n (suc k) d l = none_of P xs (λ a. n (any_behind P x xs a)) k d (omega (arith, l))

pub not_first : {X : Type 0} (P : X → Type 0) (x : X) (xs : List X) → (Any P (x ∷ xs) → ⊥) → P x → ⊥
not_first P x xs n p = n (0, x, omega arith, refl, p)

pub not_second : {X : Type 0} (P : X → Type 0) (x y : X) (xs : List X) → (Any P (x ∷ y ∷ xs) → ⊥) → P y → ⊥
not_second P x y xs n p = not_first P y xs (λ a. n (any_behind P x (y ∷ xs) a)) p

-- the same of payloads that may be there
pub not_payload : {X : Type 0} (P : X → Type 0) (o : Option X) → (Any P (optional o) → ⊥) → IfSome o (λ r. P r → ⊥)
not_payload P None n = tt
not_payload P (Some x) n = not_first P x [] n

pub not_ok : {X : Type 0} (P : X → Type 0) (a b : Option X) → (Any P (optional a ++ optional b) → ⊥) → IfSome a (λ r. P r → ⊥)
not_ok P None b n = tt
not_ok P (Some x) b n = not_first P x (optional b) n

pub not_err : {X : Type 0} (P : X → Type 0) (a b : Option X) → (Any P (optional a ++ optional b) → ⊥) → IfSome b (λ r. P r → ⊥)
not_err P None b n = not_payload P b n
not_err P (Some x) b n = not_payload P b (λ a. n (any_behind P x (optional b) a))

pub none_in_cases : {N X : Type 0} (P : X → Type 0) (cs : List (N × Option X)) → (Any P (flat_map (λ c. optional c.1) cs) → ⊥) → All (λ (c : N × Option X). IfSome c.1 (λ r. P r → ⊥)) cs
none_in_cases P [] n k d l = absurd (omega (arith, l))
none_in_cases P ((m, None) ∷ cs) n zero d l = tt
none_in_cases P ((m, Some x) ∷ cs) n zero d l = not_first P x _ n
none_in_cases P ((m, None) ∷ cs) n (suc k) d l = none_in_cases P cs n k d (omega (arith, l))
none_in_cases P ((m, Some x) ∷ cs) n (suc k) d l = none_in_cases P cs (λ a. n (any_behind P x _ a)) k d (omega (arith, l))

-- there are few members
pub few_cases : (cs : List (List ℕ × Option PlanRef)) → (most_entries < length cs → ⊥) → (shapes : List Shape) → length (layouts_of (cases_of shapes cs)) ≤ 4294967295
few_cases cs n shapes = omega (arith, cases_count shapes cs, n)

pub few_names : (ns : List (List ℕ)) → (most_entries < length ns → ⊥) → length (layouts_of (names_alone ns)) ≤ 4294967295
few_names ns n = omega (arith, names_count ns, n)

pub few_flags : (ns : List (List ℕ)) → (32 < length ns → ⊥) → length (layouts_of (names_alone ns)) ≤ 8160
few_flags ns n = omega (arith, names_count ns, n)

-- a want of memory
pub no_memory_adds : (old new : Builder) (types : List InterfaceType) (e : PlanType) (result : Result InterfaceType PushError) → result ≡ Err OutOfMemory → AddsEntry old new types e result
no_memory_adds old new types e result p = subst (AddsEntry old new types e) (sym p) (refused_adds old new types e OutOfMemory (λ q. absurd (cc)))
