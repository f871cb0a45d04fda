-- What a session says and answers within an event.
use Rattle.std.proofs.Common.{◌≡◌, ℕ, Bool, None, Some, List, [], ◌∷◌, ◌++◌, inl, inr, refl, subst, ◌∙◌}
use Rattle.std.specs.List.{AllByRecursion, Contains}
use Rattle.std.proofs.lemmas.List.Elements.{Contains-append_left}
use Rattle.msg_ids.specs.Counters.{Counters}
use Rattle.service_tl.specs.declared.item.Item.TheVariants.{RpcResult}
use Rattle.service_tl.specs.declared.lists.Message.{Message}
use Rattle.service_tl.specs.Items.{spelling_of}
use Rattle.waits.specs.Jobs.{Queue}
use Rattle.server_rules.specs.Server.{IsKept, Reply, Session, with_session}
use Rattle.server_rules.specs.Event.{Owed}
use Rattle.law_moves.specs.Table as moves
use Rattle.law_moves.specs.Table.Item.{NewSession, Result, Notice, WrongSalt}
use Rattle.law_moves.specs.World.{World}
use Rattle.law_moves.specs.Move.{Move}
use Rattle.law_moves.specs.Extends.{Extends}
use Rattle.law_moves.specs.Reached.{AreLawful, after_all}
use Rattle.law_client.specs.Packets.{item_there}
use Rattle.law_server_moves.specs.Leading.{Leads}
use Rattle.law_server_moves.specs.Servers.{AsksThere, CanSay, GoOn, HasSame, IsJobOf, IsStanding, IsJobThere, Past, ServerStands, with_entries, with_replies}
use Rattle.law_server_moves.specs.Speaking.{IsOpen, IsOwedThere, IsSaid, StandsSpeaking}
use Rattle.law_server_moves.proofs.Lists.{all_append, each_of, here, later as one_later, map_all}
use Rattle.law_server_moves.proofs.Answering.{answers, fated, jobs_go_on, tells}
use Rattle.law_server_moves.proofs.One.{changes, none_grow}
use Rattle.law_server_moves.proofs.Packets.{with_among, with_twice}

-- ---- counters

recounted : (w : World) (x : Session) (counters : Counters) → IsStanding w x → IsStanding w (record x { counters = counters })
recounted w x counters h = record {
  made = record { number = h.made.number; salts = h.made.salts; forgotten = h.made.forgotten };
  stands = h.stands;
  judged = h.judged;
  known = h.known;
  replies = h.replies;
  entries = h.entries;
}

counted : (w : World) (past : Past) (sessions : List Session) (jobs : Queue) (x : Session) (counters : Counters) → ServerStands w past sessions jobs → Contains sessions x
    → ServerStands w past (with_session (record x { counters = counters }) sessions) jobs
counted w past sessions jobs x counters s among =
    changes w past sessions jobs jobs s x (record x { counters = counters }) among refl refl refl w (λ other differs. refl) (none_grow x.unique w.entries) past refl (λ lives on h. h) (λ m is. is)
    (λ reply o differs r. r) (recounted w x counters (each_of (IsStanding w) sessions s.standing x among))
    (each_of (λ (o : Session). AllByRecursion (IsJobThere w o) jobs) sessions s.working x among) (λ o differs h. h)

-- ---- replies that stay

pub same_reply : (replies : List Reply) (reply : Reply) → Contains replies reply → HasSame replies reply
same_reply replies reply is = (reply, is, refl, refl)

all_same : (replies list : List Reply) → ((reply : Reply) → Contains list reply → Contains replies reply) → AllByRecursion (HasSame replies) list
all_same replies [] among = tt
all_same replies (reply ∷ list) among =
    (same_reply replies reply (among reply (here reply list)), all_same replies list (λ r is. among r (one_later r reply list is)))

pub go_same : (replies : List Reply) → GoOn replies replies
go_same replies = record { from = all_same replies replies (λ r is. is); all = all_same replies replies (λ r is. is); dropped = λ number is. is }

pub each_same : (old new : List Reply) → GoOn old new → (reply : Reply) → HasSame old reply → HasSame new reply
each_same old new on reply is =
    let other = each_of (HasSame new) old on.all is.0 is.1 in
    (other.0, other.1, other.2 ∙ is.2, other.3 ∙ is.3)

-- what was said can still be said
module _ (w v : World) (y : Session) (counters : Counters) (replies : List Reply) (same : (reply : Reply) → HasSame y.replies reply → HasSame replies reply)
    (forgotten : (number : ℕ) → Contains (w.servers y.unique).forgotten number → Contains (v.servers y.unique).forgotten number)
    (ups : (message : moves.Message) → Contains w.ups message → Contains v.ups message) where
  abbrev z : Session
  z = record y { replies = replies; counters = counters }

  can_still : (item : moves.Item) → CanSay w y item → CanSay v z item
  can_still (NewSession unique salt) h = h
  can_still (Result call content) h = same (record { call = call; number = 0; seq = 0; content = content; fate = IsKept }) h
  can_still (Notice number code) (inl h) = inl h
  can_still (Notice number code) (inr (inl h)) = inr (inl (h.0, forgotten number h.1))
  can_still (Notice number code) (inr (inr h)) = inr (inr (h.0, record { fits = h.1.fits; given = (h.1.given.0, ups h.1.given.0 h.1.given.1, h.1.given.2, h.1.given.3, h.1.given.4) }))
  can_still (WrongSalt number salt) h = h

  pub said_still : (message : Message) → IsSaid w y message → IsSaid v z message
  said_still message h = record {
    item = h.item;
    body = h.body;
    plain = h.plain;
    can = map_all (CanSay w y) (CanSay v z) (item_there h.item) (λ item is c. can_still item c) h.can;
  }

  pub owed_still : (owed : List Owed) → AllByRecursion (IsOwedThere w y) owed → AllByRecursion (IsOwedThere v z) owed
  owed_still owed h = map_all (IsOwedThere w y) (IsOwedThere v z) owed (λ one is o named. said_still one.message (o named)) h

-- ---- what is no move

module _ (w : World) (past : Past) (sessions : List Session) (y : Session) (jobs : Queue) (owed : List Owed) (h : StandsSpeaking w past sessions y jobs owed) where
  -- one more message is owed
  pub owes_one : (one : Owed) → IsOwedThere w y one → StandsSpeaking w past sessions y jobs (owed ++ one ∷ [])
  owes_one one is = record { stands = h.stands; among = h.among; owed = all_append (IsOwedThere w y) owed (one ∷ []) h.owed (is, tt) }

  -- counters, what becomes of replies, and of jobs
  pub quietly : (counters : Counters) (replies : List Reply) (later : Queue) → GoOn y.replies replies → AllByRecursion (IsJobOf jobs) later
      → StandsSpeaking w past sessions (record y { replies = replies; counters = counters }) later owed
  quietly counters replies later on from =
      let one : Session = record y { counters = counters } in
      let two : Session = with_replies replies one in
      let first : List Session = with_session y sessions in
      let a : ServerStands w past (with_session one first) jobs = counted w past first jobs y counters h.stands h.among in
      let among : Contains (with_session one first) one = with_among first y one refl refl h.among in
      let b : ServerStands w past (with_session two (with_session one first)) jobs = fated w past (with_session one first) jobs a one among replies on in
      let c : ServerStands w past (with_session two first) jobs = subst (λ (l : List Session). ServerStands w past l jobs) (with_twice first one two refl refl) b in
      let d : ServerStands w past (with_session two sessions) jobs = subst (λ (l : List Session). ServerStands w past l jobs) (with_twice sessions y two refl refl) c in
      record {
        stands = jobs_go_on w past (with_session two sessions) jobs later d from;
        among = subst (λ (l : List Session). Contains l two) (with_twice sessions y two refl refl) (with_among first y two refl refl h.among);
        owed = owed_still w w y counters replies (λ reply is. each_same y.replies replies on reply is) (λ number is. is) (λ m is. is) owed h.owed;
      }

-- ---- an answer

-- what the law on moves promises of a list of moves: nothing is taken away
pub record Adds : Type 0 where
  pub messages : (w : World) (list : List Move) → AreLawful w list → (message : moves.Message) → Contains w.ups message → Contains (after_all w list).ups message
  pub judged : (w : World) (list : List Move) → AreLawful w list → (unique : ℕ) (judged : moves.Judged) → Contains (w.servers unique).judged judged
      → Contains ((after_all w list).servers unique).judged judged
  pub forgotten : (w : World) (list : List Move) → AreLawful w list → (unique number : ℕ) → Contains (w.servers unique).forgotten number
      → Contains ((after_all w list).servers unique).forgotten number
  pub packets : (w : World) (list : List Move) → AreLawful w list → (packet : moves.Packet) → Contains w.downs packet → Contains (after_all w list).downs packet

pub adds_of : ((w : World) (list : List Move) → AreLawful w list → Extends w (after_all w list)) → Adds
adds_of adds = record {
  messages = λ w list lawful. (adds w list lawful).messages;
  judged = λ w list lawful. (adds w list lawful).servers.judged;
  forgotten = λ w list lawful. (adds w list lawful).servers.forgotten;
  packets = λ w list lawful. (adds w list lawful).packets;
}

same_more : (replies : List Reply) (reply other : Reply) → HasSame replies other → HasSame (replies ++ reply ∷ []) other
same_more replies reply other h = (h.0, Contains-append_left replies (reply ∷ []) h.0 h.1, h.2, h.3)

-- its reply is one that it can say
pub reply_said : (w : World) (y : Session) (reply : Reply) → HasSame y.replies reply → (message : Message) → message.body ≡ spelling_of (RpcResult reply.call reply.content) → IsSaid w y message
reply_said w y reply h message is = record { item = RpcResult reply.call reply.content; body = is; plain = tt; can = ((h.0, h.1, h.2, h.3), tt) }

module _ (adds : Adds) (w : World) (past : Past) (sessions : List Session) (y : Session) (jobs : Queue) (owed : List Owed) (h : StandsSpeaking w past sessions y jobs owed) (reply : Reply) where
  abbrev more : Session
  more = with_replies (y.replies ++ reply ∷ []) y

  with_more : (v : World) (after : Past) → ServerStands v after (with_session more (with_session y sessions)) jobs
      → ((number : ℕ) → Contains (w.servers y.unique).forgotten number → Contains (v.servers y.unique).forgotten number)
      → ((message : moves.Message) → Contains w.ups message → Contains v.ups message) → StandsSpeaking v after sessions more jobs owed
  with_more v after s forgotten ups = record {
    stands = subst (λ (l : List Session). ServerStands v after l jobs) (with_twice sessions y more refl refl) s;
    among = subst (λ (l : List Session). Contains l more) (with_twice sessions y more refl refl) (with_among (with_session y sessions) y more refl refl h.among);
    owed = owed_still w v y y.counters more.replies (λ other is. same_more y.replies reply other is) forgotten ups owed h.owed;
  }

  -- a message that is no call is replied to by no move
  pub replies_aside : AsksThere w y reply.call None → StandsSpeaking w past sessions more jobs owed
  replies_aside was = with_more w past (tells w past (with_session y sessions) jobs h.stands y h.among reply was) (λ number is. is) (λ m is. is)

  -- a call is, and that is entered
  pub replies_to : (ran : Bool) (request : List ℕ) → AsksThere w y reply.call (Some request) → IsOpen reply.call y.replies
      → Leads w (λ later. StandsSpeaking later
      (with_entries (record { key = y.key; session = y.number; number = reply.call; request = request; reply = reply.content; ran = ran } ∷ []) past) sessions more jobs owed)
  replies_to ran request accepted_so is_open =
      let l = answers w past (with_session y sessions) jobs h.stands y h.among reply request accepted_so is_open ran in
      record {
        moves = l.moves;
        lawful = l.lawful;
        own = l.own;
        gives = with_more (after_all w l.moves) _ l.gives (λ number is. adds.forgotten w l.moves l.lawful y.unique number is) (λ m is. adds.messages w l.moves l.lawful m is);
      }
