-- A packet has at most 1,021 messages that are judged.
use Rattle.std.proofs.Common.{◌≡◌, ℕ, ◌≤◌, true, Option, Some, None, Result, Ok, Err, List, [], ◌∷◌, length, refl, arith}
use Rattle.std.specs.Prelude.{map}
use Rattle.std.specs.List.{zip}
use Rattle.std.proofs.lemmas.Bool.{cond_both}
use Rattle.std.proofs.lemmas.List.{length-map}
use Rattle.octets.specs.Bytes.{IsBytes}
use Rattle.service_tl.specs.declared.lists.Message.{Message}
use Rattle.containers.specs.declared.fault.ContainerFault.{ContainerFault}
use Rattle.containers.specs.Container.{IsContainer, begins_container}
use Rattle.containers.specs.Parts.{parts_of}
use Rattle.inbox.specs.Verdicts.{Verdict, Accepted, Again, Noticed}
use Rattle.inbox.specs.Kinds.{inner_messages, parts_among}
use Rattle.inbox.specs.Refusals.{Way}
use Rattle.inbox.specs.Judging.{judge, judgements, unfolded}
use Rattle.server_rules.specs.Server.{Session, remembered}
use Rattle.server_rules.specs.Answer.{messages_judged}

-- the law on the parts of a container
abbrev pub AreLawful : Type 0
AreLawful = (number : ℕ) (messages : List Message) (body : List ℕ) → IsBytes body → begins_container body ≡ true → parts_of number body ≡ Ok messages → IsContainer number messages body

parts-few : (number : ℕ) (body : List ℕ) (parts : Result (List Message) ContainerFault) → ((messages : List Message) → parts ≡ Ok messages → IsContainer number messages body)
    → length (parts_among (Some parts)) ≤ 1020
parts-few number body (Ok messages) lawful = let few = (lawful messages refl).few in few
parts-few number body (Err fault) lawful = omega arith

zip-shorter : {X Y : Type 0} (xs : List X) (ys : List Y) → length (zip xs ys) ≤ length ys
zip-shorter [] ys = omega arith
zip-shorter (x ∷ xs) [] = omega arith
zip-shorter (x ∷ xs) (y ∷ ys) = let rest = zip-shorter xs ys in omega (arith, rest)

module _ (lawful : AreLawful) where
  inner-few : (message : Message) → IsBytes message.body → length (inner_messages message) ≤ 1020
  inner-few message bytes =
      cond_both (begins_container message.body) (Some (parts_of message.number message.body)) None
      (λ (parts : Option (Result (List Message) ContainerFault)). length (parts_among parts) ≤ 1020)
      (λ begins. parts-few message.number message.body (parts_of message.number message.body) (λ messages is. lawful message.number messages message.body bytes begins is))
      (λ other. omega arith)

  unfolded-few : (verdict : Verdict) (message : Message) → IsBytes message.body → length (unfolded verdict message) ≤ 1020
  unfolded-few (Accepted item) message bytes = inner-few message bytes
  unfolded-few (Again mark) message bytes = omega arith
  unfolded-few (Noticed code) message bytes = omega arith

  pub judged-few : (way : Way) (session : Session) (message : Message) → IsBytes message.body
      → length (zip (judgements way (remembered session) message) (map (λ one. one.body) (messages_judged way session message))) ≤ 1021
  judged-few way session message bytes =
      let messages = messages_judged way session message in
      let zipped = zip-shorter (judgements way (remembered session) message) (map (λ one. one.body) messages) in
      let same = length-map messages (λ one. one.body) in
      let inner = unfolded-few (judge way (remembered session) message) message bytes in
      omega (arith, zipped, same, inner)
