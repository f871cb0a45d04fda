use Rattle.containers.proofs.Items.{inner}
use Rattle.containers.proofs.laws.inner_messages.Goals as goal

pub returns : goal.returns
returns c = λ number messages sized ranges rules. inner number messages sized.short ranges rules
