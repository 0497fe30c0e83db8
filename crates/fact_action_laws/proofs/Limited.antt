-- A walk behind the first limit of its path, where nothing is said of the source.
use Rattle.std.proofs.Common.{◌≡◌, ℕ, ◌+◌, ◌*◌, ◌/◌, ◌%◌, ◌≤◌, List, subst, length}
use Rattle.fact_machine.specs.World.{World}
use Rattle.fact_actions.specs.Paths.{Path, Limit, TextForm}
use Rattle.fact_actions.specs.Strings.{PathPoint, path_start, most_string_bytes, walk}
use Rattle.fact_values.specs.Texts.{unit_bytes}
use Rattle.fact_actions.specs.Regions.{Region, without, Position}
use Rattle.fact_action_laws.specs.Regions.{TransferSetting}
use Rattle.fact_action_laws.proofs.Equipped.{IsEquipped}
use Rattle.fact_action_laws.proofs.AllPaths.{path_leads, limited}
use Rattle.fact_action_laws.proofs.Stages.{Stage, beginning, Leads, Moved}
use Rattle.fact_action_laws.proofs.States.{from_bytes, to_bytes, There}
use Rattle.fact_action_laws.proofs.Trails.{Walks, walks_more}
use Rattle.fact_action_laws.proofs.Beginning.{no_region, units_at, length_units, known_first}
use Rattle.fact_actions.specs.Running.{Call}
use Rattle.fact_action_laws.proofs.Answered.{MovesAlong}
use Rattle.fact_action_laws.proofs.Walking.{calls, ReadsIn, reads_in, few_calls, WalkReached, walks_path}
use Rattle.fact_action_laws.proofs.Invariant.{SourceSpells}
use Rattle.fact_action_laws.proofs.Spelled.{form_encoding}

module _ {c : TransferSetting} (e : IsEquipped c) (Kept Good : Type 0) (kept : Good → Kept) (never : Good → ⊥) (form : TextForm) (units p : ℕ) (gs : List Region) (w : World) where
  abbrev pub WalkEnded : List Region → PathPoint → World → Type 0
  WalkEnded live v w1 = WalkReached e Kept Good kept (form_encoding form) units p (unit_bytes (form_encoding form) * units) (without (no_region c.transfer.to.encoding) gs) (to_bytes e w.state) (from_bytes e w.state) (λ us st. Kept → Moved (form_encoding form) c.transfer.to.encoding us st) live v w1

  abbrev pub behind_limit : Path
  behind_limit = (limited form c.transfer.to.encoding).rest

  pub walks_limited : {next : Call → Position → Position} → MovesAlong c next → There e w.state → p % unit_bytes (form_encoding form) ≡ 0 → p + unit_bytes (form_encoding form) * units ≤ length (from_bytes e w.state) → units ≤ most_string_bytes / (limited form c.transfer.to.encoding).most
      → Walks c next Kept Good (SourceSpells (form_encoding form) p (unit_bytes (form_encoding form) * units) (from_bytes e w.state)) 29 gs WalkEnded (walk c.transfer behind_limit (path_start p units)) w
  walks_limited {next} steps there aligned inside le =
      let l = limited form c.transfer.to.encoding in
      let us = units_at e Kept Good kept (form_encoding form) units p gs w.state in
      let P : List _ → Stage → Type 0 = λ us st. Kept → Moved (form_encoding form) c.transfer.to.encoding us st in
      let leads : Leads units Kept Good (Limit l.most l.rest) us beginning P =
      subst (λ q. Leads units Kept Good q us beginning P) l.is (path_leads Kept Good units us form c.transfer.to.encoding (λ g. absurd (never g)) (length_units e Kept Good kept (form_encoding form) units p gs w.state inside)) in
      walks_more (subst (λ q. calls q ≤ 29) l.is (few_calls form c.transfer.to.encoding)) (λ rs v w1 h. h)
      (walks_path e Kept Good kept (form_encoding form) units p (unit_bytes (form_encoding form) * units) (without (no_region c.transfer.to.encoding) gs) (to_bytes e w.state) (from_bytes e w.state) steps l.rest gs us beginning (path_start p units) w P
      (subst (ReadsIn (form_encoding form)) l.is (reads_in form c.transfer.to.encoding)) (leads.1 le)
      (known_first e Kept Good kept (form_encoding form) units p gs w.state there aligned inside))
