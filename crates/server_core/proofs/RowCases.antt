-- The row of a judgement, by what the judged message needs.
use Rattle.std.proofs.Common.{◌≡◌, ℕ, List, refl, subst, sym}
use Rattle.service_tl.specs.declared.item.Item.{Item}
use Rattle.service_tl.specs.declared.item.Item.TheVariants as item
use Rattle.inbox.specs.Verdicts.{Verdict}
use Rattle.inbox.specs.Verdicts as verdict
use Rattle.server_rules.specs.Event.{Setting}
use Rattle.server_rules.specs.Rows.{owes}
use Rattle.server_dispatch.specs.declared.action.Action.{Action}
use Rattle.server_dispatch.specs.declared.action.Action.TheVariants.{Notice, CameAgain, Tells, Answers, Destroys, Nothing}
use Rattle.server_dispatch.specs.Action.{accepted_needed, due_of}
use Rattle.server_core.specs.Among.{Among, destroys_another, row_among, speaks_among}

-- where this is needed, the row is this: another session is destroyed, or the session alone speaks
abbrev pub RowIs : {S : Type 0} → Setting S → ℕ → ℕ → Verdict → List ℕ → Among S → Action → Type 0
RowIs setting number seq judged body among (Destroys session) = row_among setting number seq judged body among ≡ destroys_another setting session among
RowIs setting number seq judged body among _ = row_among setting number seq judged body among ≡ speaks_among (owes setting number seq judged body) among

accepted-is : {S : Type 0} (setting : Setting S) (number seq : ℕ) (one : Item) (body : List ℕ) (among : Among S)
    → RowIs setting number seq (verdict.Accepted one) body among (accepted_needed number one body)
accepted-is setting number seq (item.RpcResult a b) body among = refl
accepted-is setting number seq (item.RpcError a b) body among = refl
accepted-is setting number seq (item.RpcDropAnswer a) body among = refl
accepted-is setting number seq item.RpcAnswerUnknown body among = refl
accepted-is setting number seq item.RpcAnswerDroppedRunning body among = refl
accepted-is setting number seq (item.RpcAnswerDropped a b c) body among = refl
accepted-is setting number seq (item.GetFutureSalts a) body among = refl
accepted-is setting number seq (item.FutureSalts a b c) body among = refl
accepted-is setting number seq (item.Ping a) body among = refl
accepted-is setting number seq (item.PingDelayDisconnect a b) body among = refl
accepted-is setting number seq (item.Pong a b) body among = refl
accepted-is setting number seq (item.DestroySession a) body among = refl
accepted-is setting number seq (item.DestroySessionOk a) body among = refl
accepted-is setting number seq (item.DestroySessionNone a) body among = refl
accepted-is setting number seq (item.NewSessionCreated a b c) body among = refl
accepted-is setting number seq (item.MsgContainer a) body among = refl
accepted-is setting number seq (item.MsgsAck a) body among = refl
accepted-is setting number seq (item.MsgsStateReq a) body among = refl
accepted-is setting number seq (item.MsgsStateInfo a b) body among = refl
accepted-is setting number seq (item.MsgsAllInfo a b) body among = refl
accepted-is setting number seq (item.MsgResendReq a) body among = refl
accepted-is setting number seq (item.MsgDetailedInfo a b c d) body among = refl
accepted-is setting number seq (item.MsgNewDetailedInfo a b c) body among = refl
accepted-is setting number seq (item.BadMsgNotification a b c) body among = refl
accepted-is setting number seq (item.BadServerSalt a b c d) body among = refl
accepted-is setting number seq (item.InvokeAfterMsg a b) body among = refl
accepted-is setting number seq (item.InvokeAfterMsgs a b) body among = refl
accepted-is setting number seq (item.AuthBindTempAuthKey a b c d) body among = refl
accepted-is setting number seq item.Packed body among = refl
accepted-is setting number seq item.Call body among = refl
accepted-is setting number seq (item.Broken a) body among = refl

row-is : {S : Type 0} (setting : Setting S) (number seq : ℕ) (judged : Verdict) (body : List ℕ) (among : Among S)
    → RowIs setting number seq judged body among (due_of number seq judged body)
row-is setting number seq (verdict.Noticed code) body among = refl
row-is setting number seq (verdict.Again mark) body among = refl
row-is setting number seq (verdict.Accepted one) body among = accepted-is setting number seq one body among

pub row-destroys : {S : Type 0} (setting : Setting S) (number seq : ℕ) (judged : Verdict) (body : List ℕ) (among : Among S) (session : ℕ)
    → Destroys session ≡ due_of number seq judged body → destroys_another setting session among ≡ row_among setting number seq judged body among
row-destroys {S} setting number seq judged body among session is =
    let P : Action → Type 0 = λ due. RowIs setting number seq judged body among due in
    sym (subst P (sym is) (row-is setting number seq judged body among))

others-own : {S : Type 0} (setting : Setting S) (number seq : ℕ) (judged : Verdict) (body : List ℕ) (among : Among S) (due : Action)
    → ((session : ℕ) → due ≡ Destroys session → ⊥) → RowIs setting number seq judged body among due
    → speaks_among (owes setting number seq judged body) among ≡ row_among setting number seq judged body among
others-own setting number seq judged body among (Destroys session) other is = absurd (other session refl)
others-own setting number seq judged body among (Notice a b) other is = sym is
others-own setting number seq judged body among (CameAgain a) other is = sym is
others-own setting number seq judged body among (Tells a) other is = sym is
others-own setting number seq judged body among (Answers a) other is = sym is
others-own setting number seq judged body among Nothing other is = sym is

pub row-speaks : {S : Type 0} (setting : Setting S) (number seq : ℕ) (judged : Verdict) (body : List ℕ) (among : Among S) (due : Action)
    → ((session : ℕ) → due ≡ Destroys session → ⊥) → due ≡ due_of number seq judged body
    → speaks_among (owes setting number seq judged body) among ≡ row_among setting number seq judged body among
row-speaks {S} setting number seq judged body among due other is =
    let P : Action → Type 0 = λ due. RowIs setting number seq judged body among due in
    others-own setting number seq judged body among due other (subst P (sym is) (row-is setting number seq judged body among))
