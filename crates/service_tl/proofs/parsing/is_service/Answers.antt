use Rattle.service_tl.specs.Schema.{schema, service_numbers}
use Rattle.service_tl.proofs.Membership.{contains_number}
use Rattle.service_tl.proofs.parsing.is_service.Goals as goal

pub returns : goal.returns
unfolding schema service_numbers
returns c = contains_number service_numbers c.args.tag c.contains.result c.contains.ensures.value
