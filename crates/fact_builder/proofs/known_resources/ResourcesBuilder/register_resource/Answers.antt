use Rattle.fact_builder.proofs.RegisterLaws.{put_registration}
use Rattle.fact_builder.proofs.known_resources.ResourcesBuilder.register_resource.Goals as goal

pub returns-clause-registered : goal.returns-clause-registered
returns-clause-registered c = put_registration _ _ c.self.view_is _ c.args.id _ c.requires c.in_ok-insert.ensures.entries
