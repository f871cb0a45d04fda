-- A container's bytes as the schema of service items spells them, and its messages as a list of items keeps them.
use Rattle.std.proofs.Common.{◌≡◌, ℕ, List, [], ◌∷◌, refl}
use Rattle.std.proofs.lemmas.List.{append-nil}
use Rattle.std.specs.List.{flat_map, AllByRecursion}
use Rattle.tl_codec.specs.Spelling.{spelling}
use Rattle.service_tl.specs.declared.item.Item.TheVariants.{MsgContainer}
use Rattle.service_tl.specs.declared.lists.Message.{Message}
use Rattle.service_tl.specs.Fields.{message_row}
use Rattle.service_tl.specs.Items.{spelling_of}
use Rattle.service_tl.specs.Sizes.{IsSized, IsInRange}
use Rattle.containers.specs.Container.{row, head_of, container_of, IsInner, KeepsRules}

row-message_row : (message : Message) → row message ≡ message_row message
unfolding row spelling
row-message_row message = refl

rows-message_rows : (messages : List Message) → flat_map row messages ≡ flat_map message_row messages
rows-message_rows [] = refl
rows-message_rows (message ∷ messages) = rw (row-message_row message, rows-message_rows messages) refl

pub container_of-spelling_of : (messages : List Message) → container_of messages ≡ spelling_of (MsgContainer messages)
unfolding container_of head_of spelling
container_of-spelling_of messages = rw (rows-message_rows messages, append-nil (flat_map message_row messages)) refl

pub inner : (number : ℕ) (messages : List Message) → AllByRecursion IsSized messages → AllByRecursion IsInRange messages
    → AllByRecursion (KeepsRules number) messages → AllByRecursion (IsInner number) messages
inner number [] sized ranges rules = tt
inner number (message ∷ messages) sized ranges rules =
    (record { fits = (ranges.0.number, ranges.0.seq, sized.0); rules = rules.0 }, inner number messages sized.1 ranges.1 rules.1)
