-- Small adapters, which the checks of plans let pass: what the laws ask of an adapter holds of them.
use Rattle.std.proofs.Common.{◌≡◌, ℕ, zero, suc, ◌-◌, Bool, true, false, List, [], ◌∷◌, length, map, Some, None, refl, sym, ap, ◌∙◌, arith}
use Rattle.std.specs.Prelude.{codes, not, ◌&&◌, nat_le, slice_get}
use Rattle.std.specs.Str.{bytes_eq}
use Rattle.std.proofs.lemmas.Bool.{false≢true, leb-true}
use Rattle.std.proofs.lemmas.Slice.Eq.{bytes_eq-Decides}
use Rattle.fact_entity.specs.declared.id.Id.{Id}
use Rattle.fact_entity.specs.declared.table.RuntimeInstances.{RuntimeInstances}
use Rattle.fact_wasm.specs.declared.types.ValType.TheVariants as val
use Rattle.fact_types.specs.declared.interface.InterfaceType.{InterfaceType}
use Rattle.fact_types.specs.declared.interface.InterfaceType.TheVariants as ty
use Rattle.fact_types.specs.declared.outside.CoreDef.{CoreDef}
use Rattle.fact_types.specs.declared.outside.CoreDef.TheVariants as def
use Rattle.fact_types.specs.declared.outside.StringEncoding.{StringEncoding}
use Rattle.fact_types.specs.Adapters.{Side, LinkedAdapter, same_def}
use Rattle.fact_types.specs.Agrees.{names_of, AgreesPlaces}
use Rattle.fact_types.specs.Layout.{aligned, payloads}
use Rattle.fact_types.specs.Shapes.{Kind, k_record, k_variant, k_list, k_flags, Shape, s_plain, s_node, Members, no_members, bare, typed, layout_of, layouts_of}
use Rattle.fact_types.specs.Tuples.{tuple_members}
use Rattle.fact_types.specs.Valid.{AreDistinct, AreEnough, IsEntryWithin, FollowsRules}
use Rattle.fact_types.proofs.ShapeLaws.{same_some, none_some}
use Rattle.fact_machine.specs.declared.types.CoreValue.{CoreValue}
use Rattle.fact_machine.specs.declared.types.CoreValue.TheVariants.{I32}
use Rattle.fact_machine.specs.declared.types.MachineState.{MachineState}
use Rattle.fact_actions.specs.Adapters.{AdapterTunables}
use Rattle.fact_actions.specs.Running.{ImportPlaces}
use Rattle.fact_action_laws.specs.FaithfulLaws.{AreWellFormedTypes, IsCheckedAdapter}
use Rattle.fact_action_laws.proofs.Targets.{left_true, right_true}

-- ---- names that differ, by computation

abbrev all_new : List ℕ → List (List ℕ) → Bool
all_new x [] = true
all_new x (y ∷ ys) = not (bytes_eq x y) && all_new x ys

abbrev are_apart : List (List ℕ) → Bool
are_apart [] = true
are_apart (x ∷ xs) = all_new x xs && are_apart xs

new_at : (x : List ℕ) (xs : List (List ℕ)) (j : ℕ) → all_new x xs ≡ true → slice_get xs j ≡ Some x → ⊥
new_at x [] j t e = none_some None x refl e
new_at x (y ∷ ys) zero t e = false≢true (sym (ap not ((bytes_eq-Decides x y).1 (sym (same_some (Some y) y x refl e)))) ∙ left_true (not (bytes_eq x y)) _ t)
new_at x (y ∷ ys) (suc j) t e = new_at x ys j (right_true (not (bytes_eq x y)) _ t) e

apart_distinct : (xs : List (List ℕ)) → are_apart xs ≡ true → AreDistinct xs
apart_distinct [] t i j y e f = absurd (none_some None y refl e)
apart_distinct (x ∷ xs) t zero zero y e f = refl
apart_distinct (x ∷ xs) t zero (suc j) y e f = absurd (new_at x xs j (left_true (all_new x xs) _ t) (f ∙ sym e))
apart_distinct (x ∷ xs) t (suc i) zero y e f = absurd (new_at x xs i (left_true (all_new x xs) _ t) (e ∙ sym f))
apart_distinct (x ∷ xs) t (suc i) (suc j) y e f = ap suc (apart_distinct xs (right_true (all_new x xs) _ t) i j y e f)

-- ---- types

-- a type with members keeps the rules
follows : (k : Kind) (ms : Members) → AreEnough k (length (layouts_of ms)) (length (payloads (layouts_of ms))) → are_apart (names_of ms) ≡ true → nat_le (length (layouts_of ms)) 268435456 ≡ true
    → nat_le (layout_of (s_node k ms)).size32 4294967295 ≡ true → nat_le (layout_of (s_node k ms)).size64 4294967295 ≡ true → IsEntryWithin k (payloads (layouts_of ms)) → FollowsRules k ms
follows k ms enough apart few small wide entry = record {
  enough = enough;
  distinct = apart_distinct (names_of ms) apart;
  few = leb-true (length (layouts_of ms)) 268435456 few;
  within = record { memory32 = leb-true (layout_of (s_node k ms)).size32 4294967295 small; memory64 = leb-true (layout_of (s_node k ms)).size64 4294967295 wide };
  entry_within = entry;
}

abbrev pub fields : (x : List ℕ) → InterfaceType → (y : List ℕ) → InterfaceType → Shape
fields x t y u = s_node k_record (typed x (s_plain t) (typed y (s_plain u) no_members))

abbrev pub list : InterfaceType → Shape
list t = s_node k_list (typed [] (s_plain t) no_members)

abbrev pub x_y : Shape
x_y = s_node k_variant (typed (codes "x") (s_plain ty.U32) (bare (codes "y") no_members))

abbrev pub z_y_x : Shape
z_y_x = s_node k_variant (bare (codes "z") (bare (codes "y") (typed (codes "x") (s_plain ty.U32) no_members)))

abbrev pub three_flags : Shape
three_flags = s_node k_flags (bare (codes "a") (bare (codes "b") (bare (codes "c") no_members)))

abbrev pub turned_flags : Shape
turned_flags = s_node k_flags (bare (codes "c") (bare (codes "b") (bare (codes "a") no_members)))

abbrev pub AreFine : Shape → Type 0
AreFine t = AreWellFormedTypes (t ∷ [])

pub char_fine : AreFine (s_plain ty.Char)
char_fine = record { valid = (record { ruled = tt; nested = leb-true _ 100 refl }, tt); formed = (tt, tt) }

pub string_fine : AreFine (s_plain ty.String)
string_fine = record { valid = (record { ruled = tt; nested = leb-true _ 100 refl }, tt); formed = (tt, tt) }

pub bytes_fine : AreFine (list ty.U8)
unfolding aligned
bytes_fine = record { valid = (record { ruled = (follows k_list _ tt refl refl refl refl tt, (tt, tt)); nested = leb-true _ 100 refl }, tt); formed = (((refl, tt), (tt, tt)), tt) }

pub shorts_fine : AreFine (list ty.U16)
unfolding aligned
shorts_fine = record { valid = (record { ruled = (follows k_list _ tt refl refl refl refl tt, (tt, tt)); nested = leb-true _ 100 refl }, tt); formed = (((refl, tt), (tt, tt)), tt) }

pub longs_fine : AreFine (list ty.U64)
unfolding aligned
longs_fine = record { valid = (record { ruled = (follows k_list _ tt refl refl refl refl tt, (tt, tt)); nested = leb-true _ 100 refl }, tt); formed = (((refl, tt), (tt, tt)), tt) }

pub a_b_fine : AreFine (fields (codes "a") ty.U8 (codes "b") ty.U32)
unfolding aligned
a_b_fine = record { valid = (record { ruled = (follows k_record _ (leb-true 1 2 refl) refl refl refl refl tt, (tt, (tt, tt))); nested = leb-true _ 100 refl }, tt); formed = ((tt, (tt, (tt, tt))), tt) }

pub b_a_fine : AreFine (fields (codes "b") ty.U32 (codes "a") ty.U8)
unfolding aligned
b_a_fine = record { valid = (record { ruled = (follows k_record _ (leb-true 1 2 refl) refl refl refl refl tt, (tt, (tt, tt))); nested = leb-true _ 100 refl }, tt); formed = ((tt, (tt, (tt, tt))), tt) }

pub x_y_fine : AreFine x_y
unfolding aligned
x_y_fine = record { valid = (record { ruled = (follows k_variant _ (leb-true 1 2 refl, leb-true 2 4096 refl) refl refl refl refl tt, (tt, tt)); nested = leb-true _ 100 refl }, tt); formed = ((tt, (tt, tt)), tt) }

pub z_y_x_fine : AreFine z_y_x
unfolding aligned
z_y_x_fine = record { valid = (record { ruled = (follows k_variant _ (leb-true 1 3 refl, leb-true 3 4096 refl) refl refl refl refl tt, (tt, tt)); nested = leb-true _ 100 refl }, tt); formed = ((tt, (tt, tt)), tt) }

abbrev pub x_alone : Shape
x_alone = s_node k_variant (typed (codes "x") (s_plain ty.U32) no_members)

abbrev pub x_or_text : Shape
x_or_text = s_node k_variant (typed (codes "x") (s_plain ty.U32) (typed (codes "t") (s_plain ty.String) no_members))

pub x_alone_fine : AreFine x_alone
unfolding aligned
x_alone_fine = record { valid = (record { ruled = (follows k_variant _ (leb-true 1 1 refl, leb-true 1 4096 refl) refl refl refl refl tt, (tt, tt)); nested = leb-true _ 100 refl }, tt); formed = ((tt, (tt, tt)), tt) }

pub x_or_text_fine : AreFine x_or_text
unfolding aligned
x_or_text_fine = record { valid = (record { ruled = (follows k_variant _ (leb-true 1 2 refl, leb-true 2 4096 refl) refl refl refl refl tt, (tt, (tt, tt))); nested = leb-true _ 100 refl }, tt); formed = ((tt, (tt, (tt, tt))), tt) }

pub flags_fine : AreFine three_flags
unfolding aligned
flags_fine = record { valid = (record { ruled = (follows k_flags _ (leb-true 1 3 refl, leb-true 3 32 refl) refl refl refl refl tt, tt); nested = leb-true _ 100 refl }, tt); formed = ((tt, tt), tt) }

pub turned_fine : AreFine turned_flags
unfolding aligned
turned_fine = record { valid = (record { ruled = (follows k_flags _ (leb-true 1 3 refl, leb-true 3 32 refl) refl refl refl refl tt, tt); nested = leb-true _ 100 refl }, tt); formed = ((tt, tt), tt) }

abbrev pub pair : List Shape
pair = s_plain ty.U8 ∷ s_plain ty.U32 ∷ []

pub pair_fine : AreWellFormedTypes pair
pair_fine = record { valid = (record { ruled = tt; nested = leb-true 1 100 refl }, (record { ruled = tt; nested = leb-true 1 100 refl }, tt)); formed = (tt, (tt, tt)) }

pub none_fine : AreWellFormedTypes []
none_fine = record { valid = tt; formed = tt }

-- ---- states, and adapters from instance 0 to instance 1

-- what the lift side has comes before what the lower side has
abbrev pub state : (lift_flags lower_flags : ℕ) → (lift lower : List ℕ) → MachineState
state m n bytes others = record { memories = bytes ∷ others ∷ []; globals = I32 m ∷ I32 n ∷ [] }

abbrev pub words : List ℕ → List CoreValue
words ns = map (λ n. I32 n) ns

abbrev pub off : AdapterTunables
off = record { concurrency = false; exceptions = false; debug = false }

module _ (instances : Id RuntimeInstances) where
  abbrev pub exported : (instance : ℕ) → (name : List ℕ) → CoreDef
  exported n name = def.Export (record { number = n; table = instances.table }) name

  abbrev pub side : (instance : ℕ) → StringEncoding → (params : List Shape) → Side
  side n e ts = record {
    instance = n;
    params = ts;
    results = [];
    async_type = false;
    core_type = record { params = []; results = [] };
    encoding = e;
    async_side = false;
    memory = Some (record { def = exported n (codes "memory"); memory64 = false; shared = false; page_size_log2 = 0 });
    realloc = Some (exported n (codes "realloc"));
    callback = None;
    post_return = None;
  }

  -- with parameters alone
  abbrev pub taking : (from to : StringEncoding) → (lower lift : List Shape) → LinkedAdapter
  taking from to ts us = record { name = []; callee = exported 1 (codes "run"); transparent = false; lift = side 1 to us; lower = side 0 from ts }

  -- pages have one byte
  abbrev instance_of : CoreDef → ℕ
  instance_of (def.Export i name) = i.number
  instance_of _ = 0

  abbrev pub places : ImportPlaces
  places = record { memory = λ d. 1 - instance_of d; flags = λ n. 1 - n; function = λ f. 0; memory_types = (false, Some 0) ∷ (false, Some 0) ∷ []; global_types = val.I32 ∷ val.I32 ∷ [] }

  -- what is not one of two functions by name
  other_def : (d e f : CoreDef) → same_def d e ≡ false → Some e ≡ Some f → same_def d f ≡ false
  other_def d e f t h = ap (λ o. elim o [ None ↦ false | Some g ↦ same_def d g ]) (sym h) ∙ t

  -- The checks of plans let such an adapter pass, where its types are fine and agree.
  pub taking_checked : (from to : StringEncoding) (ts us : List Shape) → AreWellFormedTypes ts → AreWellFormedTypes us → AgreesPlaces (tuple_members ts) (tuple_members us) → IsCheckedAdapter places (taking from to ts us)
  taking_checked from to ts us good fine agree = record {
    lower_params = good;
    lower_results = none_fine;
    lift_params = fine;
    lift_results = none_fine;
    params_agree = agree;
    results_agree = tt;
    params_supplied = λ e. record { from = tt; to = tt; realloc = tt };
    results_supplied = λ e. record { from = tt; to = tt; realloc = tt };
    params_behind = λ e. tt;
    params_into = λ e. record { memory = tt; realloc = tt };
    results_behind = λ e. tt;
    results_into = λ e. tt;
    memories = λ m n e f k.
        let one : 1 ≡ places.memory m.def = ap (λ o. elim o [ None ↦ 1 | Some x ↦ places.memory x.def ]) e in
        let two : 0 ≡ places.memory n.def = ap (λ o. elim o [ None ↦ 0 | Some x ↦ places.memory x.def ]) f in
        let bad : 1 ≡ 0 = one ∙ k ∙ sym two in
        omega (arith, bad);
    lower_memory = record { page = Some 0; is = refl };
    lift_memory = record { page = Some 0; is = refl };
    own_callee = record {
      lift_realloc = λ f e. other_def (exported 1 (codes "run")) (exported 1 (codes "realloc")) f refl e;
      lower_realloc = λ f e. other_def (exported 1 (codes "run")) (exported 0 (codes "realloc")) f refl e;
      post_return = λ f e. absurd (none_some None f refl e);
    };
  }
