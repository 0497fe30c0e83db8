-- What code asks for: it is asked for later too, by code around it, and by code behind it.
use Rattle.std.proofs.Common.{ℕ, ◌≤◌, List, [], ◌∷◌, ◌++◌, refl, sym, subst, arith, append-nil}
use Rattle.std.specs.Prelude.{Contains}
use Rattle.std.specs.List.{AllByRecursion}
use Rattle.std.proofs.lemmas.List.Elements.{Contains-append_left}
use Rattle.fact_wasm.proofs.Ranged.{all-append}
use Rattle.fact_wasm.specs.declared.types.ValType.{ValType}
use Rattle.fact_wasm.specs.declared.instr.Instr.{Instr}
use Rattle.fact_wasm.specs.declared.module.WasmModule.{WasmModule}
use Rattle.fact_types.specs.Tables.{Tables}
use Rattle.fact_actions.specs.Running.{ImportPlaces}
use Rattle.fact_emit.specs.declared.places.Sides.{Sides}
use Rattle.fact_emit.specs.declared.writer.Writer.{Writer}
use Rattle.fact_emit.specs.Asked.{AskedHelper}
use Rattle.fact_emit.specs.Emits.{Grew, GrewAsking, Emits, EmitsAsking}
use Rattle.fact_emit.specs.Imports.{Extended}
use Rattle.fact_emit.specs.Pieces.{Piece}
use Rattle.fact_emit.specs.States.{ModuleSoFar}
use Rattle.fact_emit.proofs.Emitting.{emits_then, grew_on}
use Rattle.fact_emit.proofs.ImportLaws.{extended_none}
use Rattle.fact_emit.proofs.SidesImported.{sides_later}
use Rattle.fact_kinds.specs.Asks.{AreAsked, IsAsked}

-- in a module that goes on, and below a greater height
each_on : (t : Tables) (sides : Sides) (low high : ℕ) {a b : ModuleSoFar} → Extended a b → low ≤ high → (asks : List AskedHelper) → AllByRecursion (IsAsked t sides low a) asks → AllByRecursion (IsAsked t sides high b) asks
each_on t sides low high more le [] h = tt
each_on t sides low high {a} more le (x ∷ xs) h = (
  record {
    tables = h.0.tables;
    debug = h.0.debug;
    concurrency = h.0.concurrency;
    from_live = h.0.from_live;
    to_live = h.0.to_live;
    low = omega (arith, le, h.0.low);
    imported = sides_later more h.0.imported;
    there = subst (λ es. Contains es (x.key, x.number)) (sym more.helpers.is) (Contains-append_left a.helpers more.helpers.more (x.key, x.number) h.0.there);
  },
  each_on t sides low high more le xs h.1,
)

pub asked_on : {t : Tables} {sides : Sides} {a b : ModuleSoFar} {low high : ℕ} → Extended a b → low ≤ high → (asks : List AskedHelper) → AreAsked t sides low a asks → AreAsked t sides high b asks
asked_on {t} {sides} {low = low} {high} more le asks h = record { each = each_on t sides low high more le asks h.each }

pub asked_later : {t : Tables} {sides : Sides} {a b : ModuleSoFar} {below : ℕ} → Extended a b → (asks : List AskedHelper) → AreAsked t sides below a asks → AreAsked t sides below b asks
asked_later more asks h = asked_on more (omega arith) asks h

-- below a greater height
pub asked_below : {t : Tables} {sides : Sides} {s : ModuleSoFar} {low high : ℕ} → low ≤ high → (asks : List AskedHelper) → AreAsked t sides low s asks → AreAsked t sides high s asks
asked_below le asks h = asked_on (extended_none refl) le asks h

-- what code asked for, and what code behind it asked for
pub asked_both : {t : Tables} {sides : Sides} {a b : ModuleSoFar} {below : ℕ} → Extended a b → (first second : List AskedHelper) → AreAsked t sides below a first → AreAsked t sides below b second → AreAsked t sides below b (first ++ second)
asked_both {t} {sides} {b = b} {below} more first second h k = record { each = all-append (IsAsked t sides below b) first second (asked_later more first h).each k.each }

-- code behind which nothing is asked for
pub grew_ended : {asks : List AskedHelper} {a b c : Writer} → GrewAsking asks a b → Grew b c → GrewAsking asks a c
grew_ended {asks} {a} {c = c} x y = subst (λ l. GrewAsking l a c) (append-nil asks) (grew_on x y)

pub emits_ended : {asks : List AskedHelper} {P Q R : Piece} {a b c : Writer} → ((M : WasmModule) (p : ImportPlaces) (locals : List ValType) (x y : List Instr) → P M p locals x → Q M p locals y → R M p locals (x ++ y))
    → EmitsAsking asks a b P → Emits b c Q → EmitsAsking asks a c R
emits_ended {asks} {R = R} {a} {c = c} join x y = subst (λ l. EmitsAsking l a c R) (append-nil asks) (emits_then join x y)
