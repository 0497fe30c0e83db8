-- Rows of what functions leave to helpers, and of the functions that a module then has, worked out by hand.
use Rattle.std.specs.Prelude.{◌≡◌, ℕ, Bool, true, false, List, [], ◌∷◌, Some, None}
use Rattle.fact_wasm.specs.declared.types.ValType.{ValType}
use Rattle.fact_wasm.specs.declared.types.ValType.TheVariants as val
use Rattle.fact_types.specs.declared.interface.InterfaceType.TheVariants as ty
use Rattle.fact_types.specs.declared.outside.CoreDef.{CoreDef}
use Rattle.fact_types.specs.declared.outside.StringEncoding.TheVariants.{Utf8}
use Rattle.fact_types.specs.Adapters.{Side, LinkedAdapter}
use Rattle.fact_types.specs.Shapes.{Kind, Shape, s_plain, s_node, k_record, k_variant, k_list, k_fixed, no_members, typed}
use Rattle.fact_types.specs.Tuples.{tuple_of}
use Rattle.fact_actions.specs.Outlining.{HelperKey, Route, OutlinedFunction, AreFunctions, own_asks, own_function, params_route, results_route, in_memories}

-- ---- adapters from instance 0 to instance 1

-- a callee, and a memory and a realloc of each instance
pub record Items : Type 0 where
  pub callee : CoreDef
  pub memory : (instance : ℕ) → CoreDef
  pub realloc : (instance : ℕ) → CoreDef

-- types of parameters and results, and the core type that they have
pub record Signed : Type 0 where
  pub params : List Shape
  pub results : List Shape
  pub core_params : List ValType
  pub core_results : List ValType

abbrev pub side_of : Items → (instance : ℕ) → (async_type : Bool) → Signed → Side
side_of o n async_type t = record {
  instance = n;
  params = t.params;
  results = t.results;
  async_type = async_type;
  core_type = record { params = t.core_params; results = t.core_results };
  encoding = Utf8;
  async_side = false;
  memory = Some (record { def = o.memory n; memory64 = false; shared = false; page_size_log2 = 16 });
  realloc = Some (o.realloc n);
  callback = None;
  post_return = None;
}

abbrev pub between : Items → (async_type : Bool) → (lower lift : Signed) → LinkedAdapter
between o async_type lower lift = record { name = []; callee = o.callee; transparent = false; lift = side_of o 1 async_type lift; lower = side_of o 0 async_type lower }

-- a sync adapter of these parameters and no results
abbrev pub taking : Items → List Shape → List ValType → LinkedAdapter
taking o ts core = let t : Signed = record { params = ts; results = []; core_params = core; core_results = [] } in between o false t t

-- values of one type on a route, and on those of parameters and results
abbrev pub key_on : Route → Shape → HelperKey
key_on r t = record { source = t; destination = t; route = r }

abbrev pub param_key : LinkedAdapter → Shape → HelperKey
param_key a t = key_on (params_route a) t

abbrev pub result_key : LinkedAdapter → Shape → HelperKey
result_key a t = key_on (results_route a) t

abbrev pub helper : HelperKey → (asks : List HelperKey) → OutlinedFunction
helper k asks = record { made_for = Some k; asks = asks }

-- ---- types

abbrev pub a_char : Shape
a_char = s_plain ty.Char

abbrev pub a_number : Shape
a_number = s_plain ty.U32

abbrev pub a_text : Shape
a_text = s_plain ty.String

abbrev pub list_of : Shape → Shape
list_of t = s_node k_list (typed [] t no_members)

abbrev pub fixed_list_of : ℕ → Shape → Shape
fixed_list_of n t = s_node (k_fixed n) (typed [] t no_members)

-- ---- three chars

abbrev pub three_chars : Items → LinkedAdapter
three_chars o = taking o (a_char ∷ a_char ∷ a_char ∷ []) (val.I32 ∷ val.I32 ∷ val.I32 ∷ [])

abbrev pub char_key : Items → HelperKey
char_key o = param_key (three_chars o) a_char

-- Each char costs 1. What the fuel does not cover is left to one helper, twice with fuel 1 and once with fuel 2.
abbrev pub ThreeChars : Type 0
ThreeChars =
    (o : Items)
    → AreFunctions 1 [] (three_chars o ∷ []) (own_function (char_key o ∷ char_key o ∷ []) ∷ helper (char_key o) [] ∷ [])
    × AreFunctions 2 [] (three_chars o ∷ []) (own_function (char_key o ∷ []) ∷ helper (char_key o) [] ∷ [])
    × AreFunctions 3 [] (three_chars o ∷ []) (own_function [] ∷ [])

-- Two adapters that ask for the same share a helper.
abbrev pub HelpersAreShared : Type 0
HelpersAreShared =
    (o : Items)
    → AreFunctions 1 [] (three_chars o ∷ three_chars o ∷ [])
    (own_function (char_key o ∷ char_key o ∷ []) ∷ helper (char_key o) [] ∷ own_function (char_key o ∷ char_key o ∷ []) ∷ [])

-- ---- a nest of tuples and lists

-- a value and a list of such
abbrev pub with_list : Shape → Shape
with_list t = tuple_of (t ∷ list_of t ∷ [])

abbrev pub inner : Shape
inner = with_list a_number

abbrev pub nested : Items → LinkedAdapter
nested o = taking o (with_list inner ∷ []) (val.I32 ∷ val.I32 ∷ val.I32 ∷ val.I32 ∷ val.I32 ∷ [])

abbrev pub on_stack : Items → Shape → HelperKey
on_stack o t = param_key (nested o) t

abbrev pub in_memory : Items → Shape → HelperKey
in_memory o t = key_on (in_memories (params_route (nested o))) t

-- With fuel 3 the outer tuple takes 2, and its members are left to helpers. The helper of the list is compiled first: its element is the same
-- tuple in memory, and so another helper, whose list again is one. So is the list of the tuple on the stack, which is compiled last.
abbrev pub NestOfLists : Type 0
NestOfLists =
    (o : Items)
    → AreFunctions 3 [] (nested o ∷ [])
    (own_function (on_stack o inner ∷ on_stack o (list_of inner) ∷ [])
    ∷ helper (on_stack o inner) (on_stack o (list_of a_number) ∷ [])
    ∷ helper (on_stack o (list_of inner)) (in_memory o inner ∷ [])
    ∷ helper (in_memory o inner) (in_memory o (list_of a_number) ∷ [])
    ∷ helper (in_memory o (list_of a_number)) []
    ∷ helper (on_stack o (list_of a_number)) []
    ∷ [])

-- ---- what is asked for

abbrev pub three_fixed : Items → LinkedAdapter
three_fixed o = taking o (fixed_list_of 3 a_char ∷ []) (val.I32 ∷ val.I32 ∷ val.I32 ∷ [])

abbrev pub many_fixed : Items → LinkedAdapter
many_fixed o = taking o (fixed_list_of 17 a_char ∷ []) (val.I32 ∷ [])

-- An element of a list of fixed length is asked for once each on the stack, and once for all in memory.
abbrev pub FixedLists : Type 0
FixedLists =
    (o : Items)
    → (own_asks 4 (three_fixed o) ≡ (param_key (three_fixed o) a_char ∷ param_key (three_fixed o) a_char ∷ []) ∷ [])
    × (own_asks 17 (many_fixed o) ≡ (param_key (many_fixed o) a_char ∷ []) ∷ [])

abbrev pub char_to_char : Signed
char_to_char = record { params = a_char ∷ []; results = a_char ∷ []; core_params = val.I32 ∷ []; core_results = val.I32 ∷ [] }

abbrev pub chars_both_ways : Items → (async_type : Bool) → LinkedAdapter
chars_both_ways o async_type = between o async_type char_to_char char_to_char

-- The function of a sync adapter has one fuel for parameters and results, those of an async one each have their own.
abbrev pub FuelOfFunctions : Type 0
FuelOfFunctions =
    (o : Items)
    → (own_asks 1 (chars_both_ways o false) ≡ (result_key (chars_both_ways o false) a_char ∷ []) ∷ [])
    × (own_asks 1 (chars_both_ways o true) ≡ [] ∷ [] ∷ [] ∷ [])

-- A type that costs nothing leaves the fuel as it was, so that one that costs more than it is still translated in place.
abbrev pub free_then_dear : Items → LinkedAdapter
free_then_dear o = taking o (a_number ∷ a_text ∷ a_char ∷ []) (val.I32 ∷ val.I32 ∷ val.I32 ∷ val.I32 ∷ [])

abbrev pub FreeTypes : Type 0
FreeTypes = (o : Items) → own_asks 1 (free_then_dear o) ≡ (param_key (free_then_dear o) a_char ∷ []) ∷ []

-- a record and a variant of two names, in either order
abbrev pub char_and_text : Kind → Shape
char_and_text k = s_node k (typed (0 ∷ []) a_char (typed (1 ∷ []) a_text no_members))

abbrev pub text_and_char : Kind → Shape
text_and_char k = s_node k (typed (1 ∷ []) a_text (typed (0 ∷ []) a_char no_members))

abbrev pub reordered : Items → Kind → LinkedAdapter
reordered o k =
    let core = val.I32 ∷ val.I32 ∷ val.I32 ∷ [] in
    between o false
    (record { params = char_and_text k ∷ []; results = []; core_params = core; core_results = [] })
    (record { params = text_and_char k ∷ []; results = []; core_params = core; core_results = [] })

-- Fields are asked for in the order of the destination, and payloads in that of the source.
abbrev pub OrdersOfMembers : Type 0
OrdersOfMembers =
    (o : Items)
    → (own_asks 2 (reordered o k_record) ≡ (param_key (reordered o k_record) a_text ∷ param_key (reordered o k_record) a_char ∷ []) ∷ [])
    × (own_asks 2 (reordered o k_variant) ≡ (param_key (reordered o k_variant) a_char ∷ param_key (reordered o k_variant) a_text ∷ []) ∷ [])
