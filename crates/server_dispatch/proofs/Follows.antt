-- What a session owes for a judgement, by what the judged message needs.
use Rattle.std.proofs.Common.{◌≡◌, ℕ, Bool, true, List, [], ◌∷◌, refl}
use Rattle.service_tl.specs.declared.item.Item.{Item}
use Rattle.service_tl.specs.declared.item.Item.TheVariants as item
use Rattle.inbox.specs.Verdicts.{Verdict}
use Rattle.inbox.specs.Verdicts as verdict
use Rattle.inbox.specs.Judging.{is_accepted}
use Rattle.server_rules.specs.Event.{Setting, Speaker}
use Rattle.server_rules.specs.Rows.{accepts, came_again, notices, owes}
use Rattle.server_rules.specs.Server.{mark_in}
use Rattle.server_dispatch.specs.declared.action.Action.{Action}
use Rattle.server_dispatch.specs.declared.action.Action.TheVariants.{Notice, CameAgain, Tells, Answers, Destroys, Nothing}
use Rattle.server_dispatch.specs.Action.{accepted_needed, due_of}
use Rattle.server_dispatch.specs.Owed.{IsCallOf, answers_so, tells_so}

-- where this is needed and the message was accepted or not, the speaker is that one next
abbrev pub Follows : {S : Type 0} → Setting S → ℕ → Bool → Speaker S → Speaker S → Action → Type 0
Follows setting number taken speaker next (Notice seq code) = next ≡ notices setting number seq code speaker
Follows setting number taken speaker next (CameAgain seq) = next ≡ came_again setting number seq (mark_in speaker.session number) speaker
Follows setting number taken speaker next (Tells telling) = (taken ≡ true) × (next ≡ tells_so setting number telling speaker)
Follows setting number taken speaker next (Answers answering) =
    (taken ≡ true) × (numbers : List ℕ) × IsCallOf number numbers answering × (next ≡ answers_so setting number numbers answering speaker)
Follows setting number taken speaker next (Destroys session) = next ≡ speaker
Follows setting number taken speaker next Nothing = next ≡ speaker

accepted-follows : {S : Type 0} (setting : Setting S) (number : ℕ) (one : Item) (body : List ℕ) (speaker : Speaker S)
    → Follows setting number true speaker (accepts setting number one body speaker) (accepted_needed number one body)
accepted-follows setting number (item.RpcResult a b) body speaker = refl
accepted-follows setting number (item.RpcError a b) body speaker = refl
accepted-follows setting number (item.RpcDropAnswer a) body speaker = (refl, [], tt, refl)
accepted-follows setting number item.RpcAnswerUnknown body speaker = refl
accepted-follows setting number item.RpcAnswerDroppedRunning body speaker = refl
accepted-follows setting number (item.RpcAnswerDropped a b c) body speaker = refl
accepted-follows setting number (item.GetFutureSalts a) body speaker = (refl, refl)
accepted-follows setting number (item.FutureSalts a b c) body speaker = refl
accepted-follows setting number (item.Ping a) body speaker = (refl, refl)
accepted-follows setting number (item.PingDelayDisconnect a b) body speaker = (refl, refl)
accepted-follows setting number (item.Pong a b) body speaker = refl
accepted-follows setting number (item.DestroySession a) body speaker = refl
accepted-follows setting number (item.DestroySessionOk a) body speaker = refl
accepted-follows setting number (item.DestroySessionNone a) body speaker = refl
accepted-follows setting number (item.NewSessionCreated a b c) body speaker = refl
accepted-follows setting number (item.MsgContainer a) body speaker = refl
accepted-follows setting number (item.MsgsAck a) body speaker = (refl, refl)
accepted-follows setting number (item.MsgsStateReq a) body speaker = (refl, refl)
accepted-follows setting number (item.MsgsStateInfo a b) body speaker = refl
accepted-follows setting number (item.MsgsAllInfo a b) body speaker = refl
accepted-follows setting number (item.MsgResendReq a) body speaker = (refl, refl)
accepted-follows setting number (item.MsgDetailedInfo a b c d) body speaker = refl
accepted-follows setting number (item.MsgNewDetailedInfo a b c) body speaker = refl
accepted-follows setting number (item.BadMsgNotification a b c) body speaker = refl
accepted-follows setting number (item.BadServerSalt a b c d) body speaker = refl
accepted-follows setting number (item.InvokeAfterMsg a b) body speaker = (refl, a ∷ [], (refl, refl), refl)
accepted-follows setting number (item.InvokeAfterMsgs a b) body speaker = (refl, a, (refl, refl), refl)
accepted-follows setting number (item.AuthBindTempAuthKey a b c d) body speaker = (refl, [], tt, refl)
accepted-follows setting number item.Packed body speaker = (refl, [], tt, refl)
accepted-follows setting number item.Call body speaker = (refl, [], (refl, refl), refl)
accepted-follows setting number (item.Broken a) body speaker = (refl, [], tt, refl)

pub follows : {S : Type 0} (setting : Setting S) (number seq : ℕ) (judged : Verdict) (body : List ℕ) (speaker : Speaker S)
    → Follows setting number (is_accepted judged) speaker (owes setting number seq judged body speaker) (due_of number seq judged body)
follows setting number seq (verdict.Noticed code) body speaker = refl
follows setting number seq (verdict.Again mark) body speaker = refl
follows setting number seq (verdict.Accepted one) body speaker = accepted-follows setting number one body speaker
