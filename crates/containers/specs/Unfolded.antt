-- What is answered of a container.
use Rattle.std.specs.Prelude.{◌≡◌, IsOk, List, Result, Ok, Err}
use Rattle.service_tl.specs.declared.lists.Message.{Message}
use Rattle.containers.specs.declared.fault.ContainerFault.{ContainerFault}
use Rattle.containers.specs.declared.unfolding.Unfolded.{Unfolded}
use Rattle.containers.specs.declared.unfolding.Unfolded.TheVariants.{Messages, Invalid, Memory}

-- the answer tells the parts; memory can run out only where the container is lawful
abbrev pub Tells : Result (List Message) ContainerFault → Unfolded → Type 0
Tells parts (Messages messages) = parts ≡ Ok messages
Tells parts (Invalid place why) = parts ≡ Err (record { place = place; why = why })
Tells parts Memory = IsOk parts
