-- What a session sends, where it owes something and where it owes nothing.
use Rattle.std.proofs.Common.{◌≡◌, ◌<◌, ◌≤◌, List, [], ◌∷◌, length, ap, sym, subst, refl, arith}
use Rattle.service_tl.specs.declared.lists.Message.{Message}
use Rattle.auth_keys.specs.declared.ring.RingKey.{RingKey}
use Rattle.envelope.specs.Packet.{Lock}
use Rattle.server_output.specs.declared.outs.Out.{Out}
use Rattle.server_output.specs.Outs.{AreSent}
use Rattle.server_rules.specs.Server.{name_of}
use Rattle.server_rules.specs.Event.{Sent, Setting, Speaker}
use Rattle.server_rules.specs.Sending.{messages_by, sends}
use Rattle.server_core.specs.One.{says_its_own, sends_all}

pub its-own : {S : Type 0} (setting : Setting S) (speaker : Speaker S) (messages : List Message) → messages ≡ messages_by (name_of speaker.session) speaker.owed
    → says_its_own setting speaker ≡ sends_all setting messages speaker
its-own setting speaker messages owed = ap (λ (messages : List Message). sends_all setting messages speaker) (sym owed)

pub some-sent : {S : Type 0} (setting : Setting S) (messages : List Message) (speaker : Speaker S) → 0 < length messages
    → sends_all setting messages speaker ≡ sends setting messages speaker
some-sent setting [] speaker some = absurd (omega arith)
some-sent setting (message ∷ messages) speaker some = refl

pub none-sent : {S : Type 0} (setting : Setting S) (messages : List Message) (speaker : Speaker S) → length messages ≤ 0
    → sends_all setting messages speaker ≡ speaker
none-sent setting [] speaker none = refl
none-sent setting (message ∷ messages) speaker none = absurd (omega arith)

pub nothing-sent : (lock : Lock) (keys : List RingKey) (sent : List Sent) (outs : List Out) → sent ≡ [] → outs ≡ [] → AreSent lock keys sent outs
nothing-sent lock keys sent outs no_sent no_out =
    let P : List Out → Type 0 = λ outs. AreSent lock keys sent outs in
    let Q : List Sent → Type 0 = λ sent. AreSent lock keys sent [] in
    subst P (sym no_out) (subst Q (sym no_sent) tt)
