-- What the adapters of a generated plan use and export: no definition is used as two things, no name stands twice.
use Rattle.std.proofs.Common.{◌≡◌, ◌≢◌, ℕ, zero, suc, ◌+◌, ◌<◌, ◌≤◌, ◌^◌, Bool, true, false, List, [], ◌∷◌, ◌++◌, map, All, AllPairs, refl, sym, ap, ◌∙◌, subst, arith, length, get_or, drop}
use Rattle.std.specs.Prelude.{codes}
use Rattle.std.specs.Fmt.{decimal}
use Rattle.std.specs.List.{flat_map, range_with_len}
use Rattle.std.proofs.lemmas.Fmt.{decimal_injective}
use Rattle.std.proofs.lemmas.List.Elements.{All-append, All-from_recursion, All-nil}
use Rattle.std.proofs.lemmas.List.FromFn.{get_or-map-range_with_len, length-map-range_with_len}
use Rattle.fact_types.specs.declared.outside.CoreDef.{CoreDef}
use Rattle.fact_types.specs.declared.outside.CoreDef.TheVariants as def
use Rattle.fact_types.specs.Adapters.{LinkedAdapter}
use Rattle.fact_types.specs.ImportTypes.{realloc_type}
use Rattle.fact_adapter_rules.specs.Bindings.{AreConsistent}
use Rattle.fact_adapter_rules.specs.declared.uses.Use.{Use}
use Rattle.fact_adapter_rules.specs.declared.uses.Use.TheVariants as used_as
use Rattle.fact_adapter_rules.specs.AdapterRules.{adapter_memories, bound, def_in, export_names, reallocs_of, side_uses, uses_of}
use Rattle.fact_generate.specs.declared.form.AdapterForm.{AdapterForm}
use Rattle.fact_generate.specs.declared.form.AdapterForm.TheVariants as form
use Rattle.fact_generate.specs.Forms.{adapter_form}
use Rattle.fact_generate.specs.Generated.{export_of, instance_of, adapter_name}
use Rattle.fact_generate.specs.Linked.{linked, linked_memory, linked_realloc, linked_side}

-- the first adapters, so many
abbrev pub first_linked : ℕ → List LinkedAdapter
first_linked n = map linked (range_with_len 0 n)

-- ---- pairs that a relation tells are consistent where it gives an item one value

consistent_by : {D V : Type 0} (R : D → V → Type 0) → ((d : D) (v w : V) → R d v → R d w → v ≡ w) → (xs : List (D × V)) → All (λ p. R p.0 p.1) xs → AreConsistent xs
consistent_by R one xs all i j d below within e =
    let here : i < length xs = omega arith in
    one (get_or xs j d).0 (get_or xs i d).1 (get_or xs j d).1 (subst (λ k. R k (get_or xs i d).1) e (all i d here)) (all j d within)

-- what is so of what each of the first adapters has is so of what they have
every : {X : Type 0} (P : X → Type 0) (f : LinkedAdapter → List X) (n : ℕ) → ((k : ℕ) → k < n → All P (f (linked k))) → All P (flat_map f (first_linked n))
every {X} P f n h = from 0 n (λ k least below. h k (omega arith))
  where
    from : (a n : ℕ) → ((k : ℕ) → a ≤ k → k < a + n → All P (f (linked k))) → All P (flat_map f (map linked (range_with_len a n)))
    from a zero h = All-nil P
    from a (suc n) h = All-append P _ _ (h a (omega arith) (omega arith)) (from (a + 1) n (λ k least below. h k (omega arith) (omega arith)))

-- ---- memories and reallocs are named under their own instances

instance_of_def : CoreDef → ℕ
instance_of_def (def.Export i name) = i.number
instance_of_def (def.InstanceFlags i) = i.number
instance_of_def (def.Trampoline i) = i.number

abbrev IsOfOwnInstance : CoreDef × ℕ → Type 0
IsOfOwnInstance p = p.1 ≡ instance_of_def p.0

own_memory : (lifts : Bool) (f : AdapterForm) → All IsOfOwnInstance (bound (def_in (linked_memory lifts f)) (instance_of lifts))
unfolding instance_of_def
own_memory lifts form.Number = All-nil IsOfOwnInstance
own_memory lifts _ = All-from_recursion IsOfOwnInstance ((export_of (instance_of lifts) (codes "memory"), instance_of lifts) ∷ []) (refl, tt)

own_realloc : (lifts : Bool) (f : AdapterForm) → All IsOfOwnInstance (bound (linked_realloc lifts f) (instance_of lifts))
unfolding instance_of_def
own_realloc lifts form.Number = All-nil IsOfOwnInstance
own_realloc lifts _ = All-from_recursion IsOfOwnInstance ((export_of (instance_of lifts) (codes "realloc"), instance_of lifts) ∷ []) (refl, tt)

consistent_own : (xs : List (CoreDef × ℕ)) → All IsOfOwnInstance xs → AreConsistent xs
consistent_own xs all = consistent_by (λ d i. i ≡ instance_of_def d) (λ d i j is_i is_j. is_i ∙ sym is_j) xs all

pub memories_consistent : (n : ℕ) → AreConsistent (flat_map adapter_memories (first_linked n))
memories_consistent n = consistent_own _ (every IsOfOwnInstance adapter_memories n (λ k below. All-append IsOfOwnInstance _ _ (own_memory true (adapter_form k)) (own_memory false (adapter_form k))))

pub reallocs_consistent : (n : ℕ) → AreConsistent (flat_map reallocs_of (first_linked n))
reallocs_consistent n = consistent_own _ (every IsOfOwnInstance reallocs_of n (λ k below. All-append IsOfOwnInstance _ _ (own_realloc true (adapter_form k)) (own_realloc false (adapter_form k))))

-- ---- what a definition is used as: the flags of an instance, the memory and the realloc of a side, the callee of an adapter

data UsedPart : Type 0 where
  flags : ℕ → UsedPart
  memory : (lifts : Bool) → UsedPart
  realloc : (lifts : Bool) → UsedPart
  callee : (adapter : ℕ) → UsedPart

part_def : UsedPart → CoreDef
part_def (flags i) = def.InstanceFlags (record { table = _; number = i })
part_def (memory lifts) = export_of (instance_of lifts) (codes "memory")
part_def (realloc lifts) = export_of (instance_of lifts) (codes "realloc")
part_def (callee k) = export_of 1 (adapter_name k)

part_use : UsedPart → Use
part_use (flags i) = used_as.FlagGlobal
part_use (memory lifts) = used_as.Memory lifts 16
part_use (realloc lifts) = used_as.Function (realloc_type lifts)
part_use (callee k) = used_as.Function (linked_side true (adapter_form k)).core_type

-- numbers of which no two are written alike
HasSmallNumber : UsedPart → Type 0
HasSmallNumber (callee k) = k < 2 ^ 64
HasSmallNumber _ = Unit {0}

same_side : (l m : Bool) → instance_of l ≡ instance_of m → l ≡ m
same_side false false e = refl
same_side false true e = absurd (omega arith)
same_side true false e = absurd (omega arith)
same_side true true e = refl

-- the name of an export
name_of_def : CoreDef → List ℕ
name_of_def (def.Export i name) = name
name_of_def _ = []

-- the letter that the name of a definition begins with
letter_of : UsedPart → ℕ
letter_of (flags i) = 0
letter_of (memory lifts) = 109
letter_of (realloc lifts) = 114
letter_of (callee k) = 102

lettered : (p : UsedPart) → get_or (name_of_def (part_def p)) 0 0 ≡ letter_of p
unfolding name_of_def part_def letter_of
lettered (flags i) = refl
lettered (memory lifts) = refl
lettered (realloc lifts) = refl
lettered (callee k) = refl

one_letter : (p q : UsedPart) → part_def p ≡ part_def q → letter_of p ≡ letter_of q
one_letter p q e = sym (lettered p) ∙ ap (λ d. get_or (name_of_def d) 0 0) e ∙ lettered q

-- Parts of one definition are used alike: their names begin with different letters, and those of callees end with numbers.
used_alike : (p q : UsedPart) → HasSmallNumber p → HasSmallNumber q → part_def p ≡ part_def q → part_use p ≡ part_use q
unfolding part_def part_use HasSmallNumber instance_of_def name_of_def letter_of
used_alike (flags i) (flags j) p_small q_small e = refl
used_alike (memory l) (memory m) p_small q_small e = let sides : instance_of l ≡ instance_of m = ap instance_of_def e in ap (λ m. used_as.Memory m 16) (same_side l m sides)
used_alike (realloc l) (realloc m) p_small q_small e = let sides : instance_of l ≡ instance_of m = ap instance_of_def e in ap (λ m. used_as.Function (realloc_type m)) (same_side l m sides)
used_alike (callee j) (callee k) p_small q_small e =
    let numbers : decimal j ≡ decimal k = ap (λ d. drop 1 (name_of_def d)) e in
    ap (λ k. used_as.Function (linked_side true (adapter_form k)).core_type) (decimal_injective j k p_small q_small numbers)
used_alike p q p_small q_small e = absurd (omega (arith, one_letter p q e))

-- a callee is no realloc
pub callee_apart : (k : ℕ) (lifts : Bool) → export_of 1 (adapter_name k) ≡ export_of (instance_of lifts) (codes "realloc") → ⊥
unfolding part_def letter_of
callee_apart k lifts e = absurd (omega (arith, one_letter (callee k) (realloc lifts) e))

record IsUsedAs (d : CoreDef) (u : Use) : Type 0 where
  part : UsedPart
  small : HasSmallNumber part
  is_def : d ≡ part_def part
  is_use : u ≡ part_use part

used_once : (d : CoreDef) (u v : Use) → IsUsedAs d u → IsUsedAs d v → u ≡ v
used_once d u v p q = p.is_use ∙ used_alike p.part q.part p.small q.small (sym p.is_def ∙ q.is_def) ∙ sym q.is_use

abbrev IsUsed : CoreDef × Use → Type 0
IsUsed p = IsUsedAs p.0 p.1

used_flags : (i : ℕ) → IsUsedAs (def.InstanceFlags (record { table = _; number = i })) used_as.FlagGlobal
unfolding part_def part_use HasSmallNumber
used_flags i = record { part = flags i; small = tt; is_def = refl; is_use = refl }

used_memory : (lifts : Bool) → IsUsedAs (export_of (instance_of lifts) (codes "memory")) (used_as.Memory lifts 16)
unfolding part_def part_use HasSmallNumber
used_memory lifts = record { part = memory lifts; small = tt; is_def = refl; is_use = refl }

used_realloc : (lifts : Bool) → IsUsedAs (export_of (instance_of lifts) (codes "realloc")) (used_as.Function (realloc_type lifts))
unfolding part_def part_use HasSmallNumber
used_realloc lifts = record { part = realloc lifts; small = tt; is_def = refl; is_use = refl }

used_callee : (k : ℕ) → k < 2 ^ 64 → IsUsedAs (export_of 1 (adapter_name k)) (used_as.Function (linked_side true (adapter_form k)).core_type)
unfolding part_def part_use HasSmallNumber
used_callee k small = record { part = callee k; small = small; is_def = refl; is_use = refl }

used_side : (lifts : Bool) (f : AdapterForm) → All IsUsed (side_uses (linked_side lifts f))
used_side lifts form.Number = All-from_recursion IsUsed (side_uses (linked_side lifts form.Number)) (used_flags (instance_of lifts), tt)
used_side lifts f = All-from_recursion IsUsed (side_uses (linked_side lifts f)) (used_flags (instance_of lifts), (used_memory lifts, (used_realloc lifts, tt)))

used_adapter : (k : ℕ) → k < 2 ^ 64 → All IsUsed (uses_of (linked k))
used_adapter k small =
    let lift = side_uses (linked_side true (adapter_form k)) in
    let lower = side_uses (linked_side false (adapter_form k)) in
    let last : List (CoreDef × Use) = (export_of 1 (adapter_name k), used_as.Function (linked_side true (adapter_form k)).core_type) ∷ [] in
    let behind = All-append IsUsed lower last (used_side false (adapter_form k)) (All-from_recursion IsUsed last (used_callee k small, tt)) in
    All-append IsUsed lift (lower ++ last) (used_side true (adapter_form k)) behind

pub uses_consistent : (n : ℕ) → n ≤ 2 ^ 64 → AreConsistent (flat_map uses_of (first_linked n))
uses_consistent n few = consistent_by IsUsedAs used_once _ (every IsUsed uses_of n (λ k below. used_adapter k (omega arith)))

-- ---- names

exported : (ns : List ℕ) → flat_map export_names (map linked ns) ≡ map adapter_name ns
exported [] = refl
exported (k ∷ ns) = ap (λ names. adapter_name k ∷ names) (exported ns)

pub names_distinct : (n : ℕ) → n ≤ 2 ^ 64 → AllPairs (λ x y. x ≢ y) (flat_map export_names (first_linked n))
names_distinct n few = subst (AllPairs (λ x y. x ≢ y)) (sym (exported (range_with_len 0 n))) apart
  where
    apart : AllPairs (λ x y. x ≢ y) (map adapter_name (range_with_len 0 n))
    apart i j d below within e =
        let long = length-map-range_with_len adapter_name 0 n in
        let within_n : j < n = omega arith in
        let same : adapter_name i ≡ adapter_name j = sym (get_or-map-range_with_len adapter_name 0 n i i d (omega arith) (omega arith)) ∙ e ∙ get_or-map-range_with_len adapter_name 0 n j j d within_n (omega arith) in
        let numbers : decimal i ≡ decimal j = ap (drop 1) same in
        let one = decimal_injective i j (omega arith) (omega arith) numbers in
        absurd (omega arith)
