-- What an adapter's code asks of the runtime, by its data.
use Rattle.std.proofs.Common.{◌≡◌, ℕ, suc, Bool, List, [], ◌∷◌, refl, sym, ap, ◌∙◌}
use Rattle.std.specs.Prelude.{not, ◌&&◌, ◌||◌, is_some}
use Rattle.std.specs.List.{list_any}
use Rattle.fact_types.specs.Adapters.{LinkedAdapter}
use Rattle.fact_types.specs.Functions.{HasSignature}
use Rattle.fact_types.specs.Handles.{has_borrow, have_borrow}
use Rattle.fact_types.specs.Shapes.{Shape}
use Rattle.fact_types.specs.Tables.{Tables}
use Rattle.fact_types.specs.Tuples.{members_from, tuple_of}
use Rattle.fact_actions.specs.Adapters.{AdapterTunables}
use Rattle.fact_compound.specs.Described.{DescribesAdapter}
use Rattle.fact_compound.specs.Events.{AreCallOptions, AreSetTo, AsksCalls}
use Rattle.fact_compound.specs.declared.adapters.AdapterData.{AdapterData}
use Rattle.fact_compound.specs.declared.syncs.CallOptions.{CallOptions}

-- a tuple lends where one of its members does
lends_placed : (n : ℕ) (ss : List Shape) → have_borrow (members_from n ss) ≡ list_any has_borrow ss
lends_placed n [] = refl
lends_placed n (s ∷ ss) = ap (λ b. has_borrow s || b) (lends_placed (suc n) ss)

pub lends_tuple : (ss : List Shape) → has_borrow (tuple_of ss) ≡ list_any has_borrow ss
lends_tuple ss = lends_placed 0 ss

-- what the data ask for is what the adapter asks for, where the tunables are so
pub asks_calls : {t : Tables} {d : AdapterData} {debug concurrency exceptions : Bool} {o : CallOptions} {u : AdapterTunables} {a : LinkedAdapter} → AsksCalls t d concurrency exceptions o → DescribesAdapter t d debug u a → AreSetTo concurrency exceptions u → AreCallOptions o u a
asks_calls {o = o} {u} {a} asks h set = record {
  concurrency = asks.same_concurrency ∙ sym set.concurrency_is;
  told = asks.told a.lower.params a.lower.results h.transfers.lower.signature ∙ (λ i. (sym set.concurrency_is i && not (h.transparent i)) || list_any has_borrow a.lower.params);
  context = asks.context ∙ (λ i. sym set.concurrency_is i && h.post_return i);
  barrier = asks.barrier ∙ sym set.exceptions_are;
}

-- the calls that are asked for
pub calls_asked : {t : Tables} {d : AdapterData} {concurrency exceptions lends some : Bool} {o : CallOptions} → ((ps rs : List Shape) → HasSignature t d.lower.ty ps rs → lends ≡ has_borrow (tuple_of ps)) → o.concurrency ≡ concurrency → o.told ≡ ((concurrency && not d.transparent) || lends) → some ≡ is_some d.lift.post_return → o.context ≡ (concurrency && some) → o.barrier ≡ exceptions
    → AsksCalls t d concurrency exceptions o
calls_asked {d = d} {concurrency} lends same told some context barrier = record {
  same_concurrency = same;
  told = λ ps rs h. told ∙ ap (λ b. (concurrency && not d.transparent) || b) (lends ps rs h ∙ lends_tuple ps);
  context = context ∙ ap (λ b. concurrency && b) some;
  barrier = barrier;
}
