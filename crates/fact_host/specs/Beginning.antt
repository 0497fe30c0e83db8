-- What a host knows as a run begins, in the terms of adapters.
use Rattle.std.specs.Prelude.{◌≡◌, ◌⊎◌, ℕ, ◌+◌, ◌<◌, ◌≤◌, false, List, [], length, get_or, Some}
use Rattle.std.specs.List.{AllByRecursion}
use Rattle.fact_types.specs.Adapters.{LinkedAdapter}
use Rattle.fact_machine.specs.declared.types.CoreValue.{CoreValue}
use Rattle.fact_actions.specs.Regions.{return_area}
use Rattle.fact_host.specs.declared.calling.HostCall.{HostCall}
use Rattle.fact_host.specs.declared.known.Known.{Known}
use Rattle.fact_host.specs.Rules.{cursor_of}

-- a memory that a side names
abbrev pub IsNamedMemory : HostCall → ℕ → Type 0
IsNamedMemory c n = (c.lift.memory ≡ Some n) ⊎ (c.lower.memory ≡ Some n)

-- What a host knows as a run begins: no region is live, and cursors lie in their memories, that of the lower side behind the return area, where
-- this does not lie behind the memory.
pub record BeginsHosting (c : HostCall) (a : LinkedAdapter) (args : List CoreValue) (lengths : List ℕ) (k : Known) : Type 0 where
  pub live : k.live ≡ []
  pub returned : k.returned ≡ false
  pub area : (n : ℕ) → c.lower.memory ≡ Some n → AllByRecursion (λ r. (r.at + r.size ≤ cursor_of k n) ⊎ (get_or lengths n 0 ≤ r.at)) (return_area a args)
  pub inside : (n : ℕ) → cursor_of k n ≤ get_or lengths n 0
  pub cursors : (n : ℕ) → IsNamedMemory c n → n < length k.cursors
  pub memories : (n : ℕ) → IsNamedMemory c n → n < length lengths
