-- What the imported functions of an adapter module are to a host: by the places that a call names, and by their names.
use Rattle.std.specs.Prelude.{◌≡◌, ℕ, suc, ◌<◌, ◌^◌, ◌&&◌, ◌||◌, nat_eq, Bool, true, false, List, [], ◌∷◌, Option, Some, None, codes, filter, if◌then◌else◌}
use Rattle.std.specs.Str.{bytes_eq}
use Rattle.fact_wasm.specs.declared.module.ImportType.TheVariants as import
use Rattle.fact_wasm.specs.declared.module.WasmImport.{WasmImport}
use Rattle.fact_wasm.specs.declared.module.WasmModule.{WasmModule}
use Rattle.fact_types.specs.declared.outside.Transcode.{Transcode}
use Rattle.fact_types.specs.TranscoderNames.{transcoder_name}
use Rattle.fact_host.specs.declared.calling.HostCall.{HostCall}
use Rattle.fact_host.specs.declared.roles.Role.{Role}
use Rattle.fact_host.specs.declared.roles.Role.TheVariants as role
use Rattle.fact_machine.specs.Machine.{memory_import}

-- An imported function is a transcoder of an operation between two memories that are imported, of these widths; their numbers have 32 bits.
pub record IsTranscoder (m : WasmModule) (w : WasmImport) (o : Transcode) (from : ℕ) (from64 : Bool) (to : ℕ) (to64 : Bool) : Type 0 where
  pub origin : w.module ≡ codes "transcode"
  pub name : w.name ≡ transcoder_name o from to
  pub from_small : from < 2 ^ 32
  pub to_small : to < 2 ^ 32
  pub from_pages : Option ℕ
  pub from_there : memory_import m.imports from ≡ Some (from64, from_pages)
  pub to_pages : Option ℕ
  pub to_there : memory_import m.imports to ≡ Some (to64, to_pages)

abbrev pub has_names : List ℕ → List ℕ → WasmImport → Bool
has_names origin name w = bytes_eq w.module origin && bytes_eq w.name name

-- it moves a handle
abbrev pub is_transfer : WasmImport → Bool
is_transfer w =
    has_names (codes "resource") (codes "transfer-own") w || has_names (codes "resource") (codes "transfer-borrow") w
    || has_names (codes "future") (codes "transfer") w || has_names (codes "stream") (codes "transfer") w || has_names (codes "error-context") (codes "transfer") w

-- it reads a slot of the context
abbrev pub is_slot : WasmImport → Bool
is_slot w = has_names (codes "context") (codes "get0") w || has_names (codes "context") (codes "get1") w

-- it writes a slot of the context, or tells the runtime of a call
abbrev pub is_told : WasmImport → Bool
is_told w =
    has_names (codes "context") (codes "set0") w || has_names (codes "context") (codes "set1") w
    || has_names (codes "async") (codes "enter-sync-call") w || has_names (codes "async") (codes "exit-sync-call") w

-- what it is by its names
abbrev pub IsNamedRole : WasmModule → WasmImport → Role → Type 0
IsNamedRole m w role.Transfer = is_transfer w ≡ true
IsNamedRole m w role.Slot = is_slot w ≡ true
IsNamedRole m w role.Told = is_told w ≡ true
IsNamedRole m w (role.Transcoder o from from64 to to64) = IsTranscoder m w o from from64 to to64
IsNamedRole m w role.Refused =
    (is_transfer w ≡ false) × (is_slot w ≡ false) × (is_told w ≡ false)
    × ((o : Transcode) (from : ℕ) (from64 : Bool) (to : ℕ) (to64 : Bool) → IsTranscoder m w o from from64 to to64 → ⊥)
IsNamedRole m w role.Callee = ⊥
IsNamedRole m w role.LiftRealloc = ⊥
IsNamedRole m w role.LowerRealloc = ⊥
IsNamedRole m w role.PostReturn = ⊥

abbrev pub is_place : Option ℕ → ℕ → Bool
is_place None n = false
is_place (Some k) n = nat_eq k n

-- what the nth imported function is by the places that a call names
abbrev pub role_by_place : HostCall → ℕ → Option Role
role_by_place c n =
    if nat_eq c.callee n then Some role.Callee
    else (if is_place c.lift.realloc n then Some role.LiftRealloc
    else (if is_place c.lower.realloc n then Some role.LowerRealloc
    else (if is_place c.post_return n then Some role.PostReturn else None)))

-- the role is the one of its place, and else one of its name
abbrev pub IsRoleBy : WasmModule → WasmImport → Role → Option Role → Type 0
IsRoleBy m w r (Some s) = r ≡ s
IsRoleBy m w r None = IsNamedRole m w r

-- What the nth imported function is.
abbrev pub IsRole : WasmModule → HostCall → ℕ → WasmImport → Role → Type 0
IsRole m c n w r = IsRoleBy m w r (role_by_place c n)

-- the imported functions, in order
abbrev pub is_function : WasmImport → Bool
is_function w = elim w.ty [ import.Func t ↦ true | import.Memory least wide page ↦ false | import.Global t mutable ↦ false ]

abbrev pub function_imports : WasmModule → List WasmImport
function_imports m = filter is_function m.imports

-- Imported functions, of which the first is the nth, have these roles, one by one.
abbrev pub HaveRoles : WasmModule → HostCall → ℕ → List WasmImport → List Role → Type 0
HaveRoles m c n [] [] = Unit {0}
HaveRoles m c n (w ∷ ws) (r ∷ rs) = IsRole m c n w r × HaveRoles m c (suc n) ws rs
HaveRoles m c n [] (r ∷ rs) = ⊥
HaveRoles m c n (w ∷ ws) [] = ⊥
