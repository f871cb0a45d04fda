use Rattle.client_core.proofs.TestLemmas.{refused_is}
use Rattle.client_core.proofs.core_client.is_refused.Goals as goal

pub returns : goal.returns
returns c = refused_is c.args.tag c.is_service.result c.if-tag-eq-GZIP_PACKED.false c.is_service.ensures
