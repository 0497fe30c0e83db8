-- What a value calls for on its way: the handles that cross, the regions of its lists and maps, and its texts, in the order of
-- the destination and the outer before the inner; and which calls tell just that.
use Rattle.std.specs.Prelude.{◌≡◌, ℕ, ◌*◌, ◌≤◌, ◌⊎◌, List, [], ◌∷◌, ◌++◌, length, Option, Some, None, if◌then◌else◌}
use Rattle.std.specs.List.{flat_map}
use Rattle.std.specs.Str.{bytes_eq}
use Rattle.fact_types.specs.Agrees.{named}
use Rattle.fact_types.specs.Shapes.{Kind, k_record, k_variant, k_list, k_tuple, k_map, k_flags, k_enum, k_option, k_result, k_fixed, k_future, k_stream, Shape, s_plain, s_node, Members, no_members, bare, typed}
use Rattle.fact_machine.specs.declared.types.CoreValue.{CoreValue}
use Rattle.fact_machine.specs.declared.types.Answer.{Answer}
use Rattle.fact_machine.specs.declared.types.Answer.TheVariants.{Returns, Traps, Throws}
use Rattle.fact_types.specs.declared.import.Import.{Import}
use Rattle.fact_types.specs.declared.import.Import.TheVariants as import
use Rattle.fact_actions.specs.Running.{Call}
use Rattle.fact_actions.specs.Sides.{first_bits}
use Rattle.fact_values.specs.declared.side.SideAbi.{SideAbi}
use Rattle.fact_values.specs.declared.value.HandleKind.{HandleKind}
use Rattle.fact_values.specs.declared.value.HandleKind.TheVariants.{Own, Borrow, Future, Stream, ErrorContext}
use Rattle.fact_values.specs.declared.value.Value.{Value, out-Value}
use Rattle.fact_values.specs.declared.value.Value.TheOpen.{Value-F}
use Rattle.fact_values.specs.declared.value.Value.TheOpen as o
use Rattle.fact_values.specs.Handles.{Crossing, members_of, table_number_of, value_named, only}
use Rattle.fact_values.specs.Numbers.{Plain, handle, text, plain_of}
use Rattle.fact_values.specs.Opened.{fields_in, members_in, elements_in, map_entries_in, case_in, number_of_handle}
use Rattle.fact_values.specs.Places.{element_extent}
use Rattle.fact_actions.specs.Requests.{Request, new_region}
use Rattle.fact_action_laws.specs.Regions.{request_by}
use Rattle.fact_actions.specs.Calls.{nth_number}

pub data ValueItem : Type 0 where
  -- a handle crosses
  HandleItem : Crossing → ValueItem
  -- the elements of a list or a map get a region
  RegionItem : (align size : ℕ) → ValueItem
  -- a text is written
  TextItem : (chars : List ℕ) → ValueItem

-- ---- what values call for

-- what comes of something that is there
abbrev pub of_some : {A B : Type 0} → Option A → (A → List B) → List B
of_some None f = []
of_some (Some a) f = f a

abbrev pub chars_in : Value-F Value → Option (List ℕ)
chars_in (o.Str cs) = Some cs
chars_in _ = None

abbrev pub handle_item : HandleKind → (from to : ℕ) → Value → List ValueItem
handle_item kind from to v = of_some (number_of_handle (out-Value v)) (λ n. HandleItem (record { kind = kind; number = n; from = from; to = to }) ∷ [])

abbrev pub items_plain : (from : ℕ) → Plain → Value → List ValueItem
items_plain from (handle kind table) v = handle_item kind from table v
items_plain from text v = of_some (chars_in (out-Value v)) (λ cs. TextItem cs ∷ [])
items_plain from _ v = []

-- What the members of a destination call for.
pub record Inner : Type 0 where
  pub fields : List (List ℕ × Value) → List ValueItem
  pub case : List ℕ → List Value → List ValueItem
  pub places : List Value → List ValueItem
  pub element : Value → List ValueItem

abbrev pub region_item : SideAbi → Kind → Members → ℕ → ValueItem
region_item side k ns n = RegionItem (element_extent side k ns).align (n * (element_extent side k ns).size)

abbrev pub case_items : Inner → Value → List ValueItem
case_items x v = of_some (case_in (out-Value v)) (λ c. x.case c.name c.payload)

-- A value goes to a side as a kind of type with members ns; a handle comes from a table.
abbrev pub items_node : SideAbi → (from : ℕ) → Kind → Members → Inner → Value → List ValueItem
items_node side from k_record ns x v = of_some (fields_in (out-Value v)) x.fields
items_node side from k_tuple ns x v = of_some (members_in (out-Value v)) x.places
items_node side from k_list ns x v = of_some (elements_in (out-Value v)) (λ vs. region_item side k_list ns (length vs) ∷ flat_map x.element vs)
items_node side from k_map ns x v = of_some (map_entries_in (out-Value v)) (λ es. region_item side k_map ns (length es) ∷ flat_map (λ e. x.places (e.0 ∷ e.1 ∷ [])) es)
items_node side from (k_fixed n) ns x v = of_some (elements_in (out-Value v)) (flat_map x.element)
items_node side from k_flags ns x v = []
items_node side from k_variant ns x v = case_items x v
items_node side from k_enum ns x v = case_items x v
items_node side from k_option ns x v = case_items x v
items_node side from k_result ns x v = case_items x v
items_node side from (k_future table instance) ns x v = handle_item Future from table v
items_node side from (k_stream table instance) ns x v = handle_item Stream from table v

unfoldable mutual
  pub items : SideAbi → Shape → Shape → Value → List ValueItem
  items side s (s_plain q) v = items_plain (table_number_of s) (plain_of q) v
  items side s (s_node k ns) v = items_node side (table_number_of s) k ns (record {
    fields = λ fs. items_fields side (members_of s) fs ns;
    case = λ x vs. items_case side (named x (members_of s)) x vs ns;
    places = λ vs. items_places side (members_of s) vs ns;
    element = λ w. items_element side (members_of s) w ns;
  }) v

  -- each field of the destination is the one of its name
  pub items_fields : SideAbi → Members → List (List ℕ × Value) → Members → List ValueItem
  items_fields side ms fs no_members = []
  items_fields side ms fs (bare x ns) = items_fields side ms fs ns
  items_fields side ms fs (typed x d ns) = of_some (named x ms) (λ s. of_some (value_named x fs) (λ v. items side s d v)) ++ items_fields side ms fs ns

  -- the case of a name, with its payload, whose type in the source may be given
  pub items_case : SideAbi → Option Shape → List ℕ → List Value → Members → List ValueItem
  items_case side p x vs no_members = []
  items_case side p x vs (bare n ns) = if bytes_eq n x then [] else items_case side p x vs ns
  items_case side p x vs (typed n d ns) =
      if bytes_eq n x then of_some p (λ s. of_some (only vs) (λ v. items side s d v)) else items_case side p x vs ns

  -- members one by one
  pub items_places : SideAbi → Members → List Value → Members → List ValueItem
  items_places side (bare m ms) vs (bare n ns) = items_places side ms vs ns
  items_places side (typed m s ms) (v ∷ vs) (typed n d ns) = items side s d v ++ items_places side ms vs ns
  items_places side ms vs ns = []

  -- a value of the first member
  pub items_element : SideAbi → Members → Value → Members → List ValueItem
  items_element side (typed m s ms) v (typed n d ns) = items side s d v
  items_element side ms v ns = []

-- ---- what calls tell

-- a handle that a call moves to another table
abbrev pub crossing : Import → List CoreValue → List Crossing
crossing import.ResourceTransferOwn args = record { kind = Own; number = nth_number args 0; from = nth_number args 1; to = nth_number args 2 } ∷ []
crossing import.ResourceTransferBorrow args = record { kind = Borrow; number = nth_number args 0; from = nth_number args 1; to = nth_number args 2 } ∷ []
crossing import.FutureTransfer args = record { kind = Future; number = nth_number args 0; from = nth_number args 1; to = nth_number args 2 } ∷ []
crossing import.StreamTransfer args = record { kind = Stream; number = nth_number args 0; from = nth_number args 1; to = nth_number args 2 } ∷ []
crossing import.ErrorContextTransfer args = record { kind = ErrorContext; number = nth_number args 0; from = nth_number args 1; to = nth_number args 2 } ∷ []
crossing _ args = []

abbrev pub crossings : List Call → List Crossing
crossings [] = []
crossings (x ∷ cs) = crossing x.what x.args ++ crossings cs

-- the number that such a call answers
abbrev pub answered_number : Answer → List ℕ
answered_number (Returns rs after) = first_bits rs ∷ []
answered_number Traps = []
answered_number Throws = []

abbrev pub number_if : List Crossing → Answer → List ℕ
number_if [] a = []
number_if (x ∷ xs) a = answered_number a

abbrev pub numbers : List Call → List ℕ
numbers [] = []
numbers (x ∷ cs) = number_if (crossing x.what x.args) x.answer ++ numbers cs

-- what realloc is asked for
abbrev pub asked_by : Import → List CoreValue → List Request
asked_by (import.CoreDef f) args = request_by args ∷ []
asked_by _ args = []

abbrev pub requests : List Call → List Request
requests [] = []
requests (x ∷ cs) = asked_by x.what x.args ++ requests cs

-- The calls that one item makes: a handle one; a region one of realloc with at most six others around it.
pub record IsHandleTold (x : Crossing) (cs : List Call) : Type 0 where
  pub crosses : crossings cs ≡ x ∷ []
  pub asks : requests cs ≡ []
  pub few : length cs ≡ 1

pub record IsRegionTold (a n : ℕ) (cs : List Call) : Type 0 where
  pub crosses : crossings cs ≡ []
  pub asks : requests cs ≡ new_region a n ∷ []
  pub few : length cs ≤ 7

pub record IsRegionBegun (a n : ℕ) (cs : List Call) : Type 0 where
  pub crosses : crossings cs ≡ []
  pub asks : (requests cs ≡ []) ⊎ (requests cs ≡ new_region a n ∷ [])
  pub few : length cs ≤ 7

pub record IsTextTold (chars : List ℕ) (cs : List Call) : Type 0 where
  pub crosses : crossings cs ≡ []
  pub few : length cs ≤ 29

abbrev pub IsItemCalls : ValueItem → List Call → Type 0
IsItemCalls (HandleItem x) cs = IsHandleTold x cs
IsItemCalls (RegionItem a n) cs = IsRegionTold a n cs
IsItemCalls (TextItem t) cs = IsTextTold t cs

-- the first of the calls that an item makes, so far
abbrev pub BeginsItem : ValueItem → List Call → Type 0
BeginsItem (HandleItem x) cs = cs ≡ []
BeginsItem (RegionItem a n) cs = IsRegionBegun a n cs
BeginsItem (TextItem t) cs = IsTextTold t cs

-- calls of which the first ones have a property, and the others another
pub record Split (P Q : List Call → Type 0) (cs : List Call) : Type 0 where
  pub first : List Call
  pub others : List Call
  pub is : cs ≡ first ++ others
  pub left : P first
  pub right : Q others

-- the calls of items, in their order
abbrev pub AreItemCalls : List ValueItem → List Call → Type 0
AreItemCalls [] cs = cs ≡ []
AreItemCalls (i ∷ is) cs = Split (IsItemCalls i) (AreItemCalls is) cs

-- those made so far
abbrev pub BeginItemCalls : List ValueItem → List Call → Type 0
BeginItemCalls [] cs = cs ≡ []
BeginItemCalls (i ∷ is) cs = BeginsItem i cs ⊎ Split (IsItemCalls i) (BeginItemCalls is) cs
