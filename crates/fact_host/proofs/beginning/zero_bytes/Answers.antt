use Rattle.std.proofs.Common.{◌≡◌, ◌∙◌, refl}
use Rattle.std.proofs.Math.ListN.{replicate}
use Rattle.std.proofs.lemmas.List.Elements.{All-replicate, All-same}
use Rattle.fact_host.proofs.beginning.zero_bytes.Goals as goal

pub returns-clause-zeros : goal.returns-clause-zeros
returns-clause-zeros c = All-same (λ b. b ≡ 0) c.from_vec.result (replicate c.args.count 0) (c.from_vec.ensures ∙ c.in_ok-bytes.ensures.items_if_clones_equal (λ y h. h)) (All-replicate (λ b. b ≡ 0) c.args.count 0 refl)
