-- What stays when server sessions only grow: salts, outcomes and forgotten numbers are added, and a session number is set once.
use Rattle.std.proofs.Common.{◌≡◌, ◌≢◌, ℕ, suc, ◌<◌, List, [], ◌∷◌, inl, inr, sym, refl, ◌∙◌, subst, arith}
use Rattle.std.specs.List.{Contains}
use Rattle.law_moves.specs.Table.{CallId, Cause, State, Name, Client, Message, Item, Judged, ServerSession, Packet, Entry, Outcome}
use Rattle.law_moves.specs.Table.Cause.{ServerSessionLost, Renewed, Ended, Forgotten}
use Rattle.law_moves.specs.Table.State.{Queued, Sent, Held, Done, Refused, Unknown}
use Rattle.law_moves.specs.Table.Status.{Unmade, Standing, Lost}
use Rattle.law_moves.specs.Table.Outcome.{AcceptedCall, AcceptedOther, Noticed}
use Rattle.law_moves.specs.Table.Item.{NewSession, Result, Notice, WrongSalt}
use Rattle.law_moves.specs.World.{World, WasGiven, IsName}
use Rattle.law_moves.specs.Lawful.{MaySay, IsUncalled}
use Rattle.law_moves.specs.Once.{OnLast, HadTwo, WasForgotten}
use Rattle.law_moves.specs.Extends.{Grows}
use Rattle.law_moves.proofs.Kept.{Kept, SaltAmong, Backs, IsBacked, Dead, Fits, HasCause, Messages, Names, Clients, Calls, Packets}
use Rattle.law_moves.proofs.Basics.{empty}

-- nothing changed
pub unchanged : (servers : ℕ → ServerSession) → Grows servers servers
unchanged servers =
    record {
      session = λ unique made. refl;
      made = λ unique made. made;
      since = λ unique made. refl;
      lost = λ unique at lost. lost;
      salts = λ unique salt h. h;
      judged = λ unique judged h. h;
      forgotten = λ unique number h. h;
    }

-- a server session with an outcome, a forgotten number or a loss was made
pub made_if_judged : {now : ℕ} {w : World} (k : Kept now w) (unique : ℕ) (judged : Judged)
    → Contains (w.servers unique).judged judged → (w.servers unique).status ≢ Unmade
made_if_judged {w = w} k unique judged h none = empty judged (w.servers unique).judged (k.servers.unmade unique none).1 h

pub made_if_forgotten : {now : ℕ} {w : World} (k : Kept now w) (unique number : ℕ)
    → Contains (w.servers unique).forgotten number → (w.servers unique).status ≢ Unmade
made_if_forgotten {w = w} k unique number h none = empty number (w.servers unique).forgotten (k.servers.unmade unique none).2 h

pub made_if_salted : {now : ℕ} {w : World} (k : Kept now w) (unique salt : ℕ)
    → Contains (w.servers unique).salts salt → (w.servers unique).status ≢ Unmade
made_if_salted {w = w} k unique salt h none = empty salt (w.servers unique).salts (k.servers.unmade unique none).0 h

pub made_if_lost : (server : ServerSession) (at : ℕ) → server.status ≡ Lost at → server.status ≢ Unmade
made_if_lost server at lost unmade = cc

pub lost_at : (one other : ℕ) → Lost one ≡ Lost other → one ≡ other
lost_at one other h = cc

pub made_if_standing : (server : ServerSession) → server.status ≡ Standing → server.status ≢ Unmade
made_if_standing server standing unmade = cc

pub salted_grows : {old new : ℕ → ServerSession} (g : Grows old new) (known : List ℕ) (salt : ℕ)
    → SaltAmong old known salt → SaltAmong new known salt
salted_grows g known salt h = (h.0, g.salts h.0 salt h.1, h.2)

pub backs_grows : {old new : ℕ → ServerSession} (g : Grows old new) (message : Message) (unique : ℕ) (outcome : Outcome)
    → Backs message unique (old unique) outcome → Backs message unique (new unique) outcome
backs_grows g message unique (AcceptedCall body) h = (h.0, g.salts unique message.salt h.1, h.2)
backs_grows g message unique AcceptedOther h = (g.salts unique message.salt h.0, h.1)
backs_grows g message unique (Noticed code) h = h

pub backed_grows : {old new : ℕ → ServerSession} (g : Grows old new) (ups : List Message) (unique : ℕ) (judged : Judged)
    → (old unique).status ≢ Unmade
    → IsBacked ups unique (old unique) judged
    → IsBacked ups unique (new unique) judged
backed_grows g ups unique judged made h =
    (h.0, h.1, h.2 ∙ sym (g.session unique made), h.3, backs_grows g h.0 unique judged.outcome h.4)

pub had_two_grows : {old new : ℕ → ServerSession} (g : Grows old new) (name : Name) → HadTwo old name → HadTwo new name
had_two_grows {old = old} g name h = (
  h.0,
  h.1,
  g.session h.0 (made_if_lost (old h.0) h.5.0 h.5.1) ∙ h.2,
  g.session h.1 h.4 ∙ h.3,
  g.made h.1 h.4,
  (h.5.0, g.lost h.0 h.5.0 h.5.1, subst (λ time. h.5.0 < time) (sym (g.since h.1 h.4)) h.5.2),
)

pub on_last : {Has HasToo : Name → Type 0} (names : List Name)
    → ((name : Name) → Has name → HasToo name) → OnLast Has names → OnLast HasToo names
on_last [] goes h = h
on_last (name ∷ older) goes h = goes name h

pub forgotten_grows : {now : ℕ} {w : World} {new : ℕ → ServerSession} (k : Kept now w) (g : Grows w.servers new) (name : Name)
    → WasForgotten w.servers name → WasForgotten new name
forgotten_grows k g name h =
    (h.0, g.session h.0 (made_if_forgotten k h.0 name.number h.2) ∙ h.1, g.forgotten h.0 name.number h.2)

pub cause_grows : {now : ℕ} {w : World} {new : ℕ → ServerSession} (k : Kept now w) (g : Grows w.servers new) (client : Client) (names : List Name) (cause : Cause)
    → HasCause client w.servers names cause → HasCause client new names cause
cause_grows k g client names ServerSessionLost h = on_last names (had_two_grows g) h
cause_grows k g client names Renewed h = h
cause_grows k g client names Ended h = h
cause_grows k g client names Forgotten h = on_last names (forgotten_grows k g) h

-- a call fits its state after server sessions grew and entries were added, where its dead names stay dead
pub fits_grows : {now : ℕ} {w : World} {new : ℕ → ServerSession} (k : Kept now w) (g : Grows w.servers new) (ups : List Message) (entries : List Entry)
    → ((entry : Entry) → Contains w.entries entry → Contains entries entry)
    → (client : Client) (names : List Name) (state : State)
    → ((name : Name) → Contains names name → Dead w.servers w.ups name → Dead new ups name)
    → Fits client w.servers w.ups w.entries names state
    → Fits client new ups entries names state
fits_grows k g ups entries more client names Queued dead h = λ name among. dead name among (h name among)
fits_grows k g ups entries more client names Sent dead h = h
fits_grows k g ups entries more client names Held dead h = λ name among. dead name among (h name among)
fits_grows {w = w} k g ups entries more client names (Done reply) dead h =
    let judged = k.outcomes.entry_judged h.0 h.1 in
    let made = made_if_judged k h.0.server _ judged in
    (h.0, more h.0 h.1, (h.2.0, h.2.1, (g.session h.0.server made ∙ h.2.2.0, h.2.2.1)), h.3)
fits_grows k g ups entries more client names (Refused code) dead h = λ name among. dead name among (h name among)
fits_grows k g ups entries more client names (Unknown cause) dead h = cause_grows k g client names cause h

-- a number that was given to no call is given to none later
uncalled_grows : (w later : World) (unique : ℕ)
    → Grows w.servers later.servers
    → (w.servers unique).status ≢ Unmade
    → ((session number : ℕ) → WasGiven w.ups session number → WasGiven later.ups session number)
    → ((session number : ℕ) → WasGiven w.ups session number → IsName later.calls session number → IsName w.calls session number)
    → (number : ℕ)
    → IsUncalled w (w.servers unique).session number
    → IsUncalled later (later.servers unique).session number
uncalled_grows w later unique g made given named number h =
    let same : (later.servers unique).session ≡ (w.servers unique).session = g.session unique made in (
      subst (λ session. WasGiven later.ups session number) (sym same) (given (w.servers unique).session number h.0),
      λ name. h.1 (named (w.servers unique).session number h.0 (subst (λ session. IsName later.calls session number) same name)),
    )

-- what a server session may say it may say later
pub says_grows : (w later : World) (unique : ℕ)
    → Grows w.servers later.servers
    → (w.servers unique).status ≢ Unmade
    → ((entry : Entry) → Contains w.entries entry → Contains later.entries entry)
    → ((session number : ℕ) → WasGiven w.ups session number → WasGiven later.ups session number)
    → ((session number : ℕ) → WasGiven w.ups session number → IsName later.calls session number → IsName w.calls session number)
    → (item : Item)
    → MaySay w unique item
    → MaySay later unique item
says_grows w later unique g made more given named (NewSession other salt) h = (h.0, g.salts unique salt h.1)
says_grows w later unique g made more given named (Result number reply) (inl h) =
    inl (h.0, more h.0 h.1, h.2, h.3, h.4)
says_grows w later unique g made more given named (Result number reply) (inr h) = inr (uncalled_grows w later unique g made given named number h)
says_grows w later unique g made more given named (Notice number code) (inl h) =
    inl (g.judged unique (record { number = number; outcome = Noticed code }) h)
says_grows w later unique g made more given named (Notice number code) (inr (inl h)) = inr (inl (h.0, g.forgotten unique number h.1))
says_grows w later unique g made more given named (Notice number code) (inr (inr h)) =
    inr (inr (uncalled_grows w later unique g made given named number h))
says_grows w later unique g made more given named (WrongSalt number salt) h =
    (g.judged unique (record { number = number; outcome = Noticed 48 }) h.0, g.salts unique salt h.1)

-- Whole groups

-- what was before a time was before a later one
pub names_later : (now : ℕ) (ups : List Message) (names : CallId → List Name) → Names now ups names → Names (suc now) ups names
names_later now ups names k =
    record {
      sent = k.sent;
      first = λ call name among. let before : name.first < now = k.first call name among in omega arith;
      known = k.known;
      of_one = k.of_one;
      apart = k.apart;
    }

pub messages_grow : {now : ℕ} {w : World} {new : ℕ → ServerSession} (k : Kept now w) (g : Grows w.servers new) → Messages new w.ups
messages_grow k g message among =
    elim (k.messages message among) [
      | inl zero_salt ↦ inl zero_salt
      | inr of ↦ inr (salted_grows g message.known message.salt of)
    ]

pub clients_grow : {now : ℕ} {w : World} {new : ℕ → ServerSession} (k : Kept now w) (g : Grows w.servers new)
    → Clients w.clients new w.ups
clients_grow {w = w} k g =
    record {
      salted = λ client.
          elim (k.clients.salted client) [
            | inl none ↦ inl none
            | inr of ↦ inr (salted_grows g (w.clients client).learnt (w.clients client).salt of)
          ];
      learnt = λ client unique among.
          let old = k.clients.learnt client unique among in
          (g.session unique old.1 ∙ old.0, g.made unique old.1);
      bounded = k.clients.bounded;
      knows = k.clients.knows;
      unmade = k.clients.unmade;
    }

-- what was backed is backed still
pub backed_still : {now : ℕ} {w : World} {new : ℕ → ServerSession} (k : Kept now w) (g : Grows w.servers new) (unique : ℕ) (judged : Judged)
    → Contains (w.servers unique).judged judged → IsBacked w.ups unique (new unique) judged
backed_still {w = w} k g unique judged h =
    backed_grows g w.ups unique judged (made_if_judged k unique judged h) (k.outcomes.backed unique judged h)

pub calls_grow : {now : ℕ} {w : World} {new : ℕ → ServerSession} (k : Kept now w) (g : Grows w.servers new) (entries : List Entry)
    → ((entry : Entry) → Contains w.entries entry → Contains entries entry)
    → ((name : Name) → Dead w.servers w.ups name → Dead new w.ups name)
    → Calls w.clients new w.ups entries w.submitted w.calls
calls_grow {w = w} k g entries more dead =
    record {
      unsubmitted = k.calls.unsubmitted;
      fits = λ call.
          fits_grows k g w.ups entries more (w.clients call.client) (w.calls call).names (w.calls call).state (λ name among. dead name) (k.calls.fits call);
    }

-- packets down that were made before
pub packets_stay : {now : ℕ} {w : World} (k : Kept now w) (later : World)
    → Grows w.servers later.servers
    → later.downs ≡ w.downs
    → ((entry : Entry) → Contains w.entries entry → Contains later.entries entry)
    → ((session number : ℕ) → WasGiven w.ups session number → WasGiven later.ups session number)
    → ((session number : ℕ) → WasGiven w.ups session number → IsName later.calls session number → IsName w.calls session number)
    → Packets later
packets_stay {w = w} k later g downs more given named =
    let was : (packet : Packet) → Contains later.downs packet → Contains w.downs packet =
    λ packet among. subst (λ list. Contains list packet) downs among in
    record {
      says = λ packet item among within.
          let old = was packet among in
          says_grows w later packet.server g (k.packets.made packet old) more given named item (k.packets.says packet item old within);
      made = λ packet among. g.made packet.server (k.packets.made packet (was packet among));
      begins = λ packet among.
          elim (k.packets.begins packet (was packet among)) [
            | inl has ↦ inl (has.0, g.judged packet.server has.0 has.1, has.2)
            | inr begins ↦ inr begins
          ];
    }

-- the same where no message, name, entry or packet is new
pub packets_same : {now : ℕ} {w : World} (k : Kept now w) (new : ℕ → ServerSession)
    → Grows w.servers new → Packets (record w { servers = new })
packets_same {w = w} k new g =
    packets_stay k (record w { servers = new }) g refl (λ entry h. h) (λ session number h. h) (λ session number given h. h)
