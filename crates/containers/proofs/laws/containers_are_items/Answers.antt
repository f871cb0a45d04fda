use Rattle.std.proofs.Common.{ap, ◌∙◌}
use Rattle.service_tl.specs.declared.item.Item.TheVariants.{MsgContainer}
use Rattle.service_tl.specs.ItemOf.{item_of}
use Rattle.containers.proofs.Items.{container_of-spelling_of}
use Rattle.containers.proofs.laws.containers_are_items.Goals as goal

pub returns-clause-spelt : goal.returns-clause-spelt
returns-clause-spelt c = container_of-spelling_of

pub returns-clause-parsed : goal.returns-clause-parsed
returns-clause-parsed c = λ messages fits. ap item_of (container_of-spelling_of messages) ∙ c.items_again.ensures (MsgContainer messages) fits
