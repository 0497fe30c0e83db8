use Rattle.fact_host.proofs.ItemRooms.{items_fit}
use Rattle.fact_host.proofs.RequestsFit.{param_requests_fit, result_requests_fit}
use Rattle.fact_host.proofs.fitting.laws_of_room.Goals as goal

pub returns : goal.returns
returns c = record { items_fit = items_fit; param_requests_fit = param_requests_fit; result_requests_fit = result_requests_fit }
