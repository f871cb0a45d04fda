-- What each thing that a session says leaves as it has to be.
use Rattle.std.proofs.Common.{◌≡◌, ◌∙◌, ℕ, zero, suc, ◌+◌, ◌*◌, ◌^◌, ◌<◌, ◌≤◌, Bool, true, false, List, [], ◌∷◌, ◌++◌, length, sym, refl, arith}
use Rattle.std.specs.Prelude.{map, ◌&&◌, ◌==◌}
use Rattle.std.specs.List.{AllByRecursion, list_any}
use Rattle.std.proofs.lemmas.Bool.{cond_both}
use Rattle.msg_ids.specs.Counters.{Counters, one_if_content}
use Rattle.salt_line.specs.Rows.{Row, period_at}
use Rattle.salt_line.specs.Needed.{has_row, word_in, needed, needed_from}
use Rattle.salt_line.specs.Line.{Line, current_salt}
use Rattle.service_tl.specs.declared.item.Item.{Item}
use Rattle.service_tl.specs.declared.item.Item.TheVariants.{RpcResult}
use Rattle.service_tl.specs.declared.lists.Message.{Message}
use Rattle.id_window.specs.History.{History}
use Rattle.outbox.specs.Replies.{fits}
use Rattle.packing.specs.Numbering.{numbered, after_item, is_content_related}
use Rattle.waits.specs.Jobs.{Queue}
use Rattle.server_rules.specs.Server.{Name, Reply, Session, is_kept, kept_replies, name_of}
use Rattle.server_rules.specs.Event.{Owed, Sent, Setting, Speaker}
use Rattle.server_rules.specs.Speaking.{answers, dropped, has_said, made_room, message_of, needs_salts, owes_message, says, says_again, with_reply}
use Rattle.server_rules.specs.Rows.{acked_by}
use Rattle.law_server_bounds.specs.Small.{IsContent, DrawsWords, IsGivenBy, IsGivenTo, IsSmallItem, IsSmallJob, IsSmallJudgement, IsSmallMessage, IsSmallOwed, IsSmallReply, IsSmallRow, IsSmallSession, IsWholeSent}
use Rattle.law_server_bounds.proofs.Items.{addition-low}
use Rattle.law_server_bounds.proofs.SizeLists.{all-map, all-push, weaker}
use Rattle.law_server_bounds.proofs.Packets.{GoesOn, given-later, next-goes}

-- ---- one that speaks

-- By its parts: it has this name, and what others owed is as it was at first.
pub record Speaks (own : Name) (past : List Owed) (session : Session) (queue : Queue) (all : List Owed) (packets : List Sent) : Type 0 where
  pub named : name_of session ≡ own
  pub small : IsSmallSession session
  pub jobs : AllByRecursion IsSmallJob queue
  pub owed : AllByRecursion IsSmallOwed all
  pub given : AllByRecursion (IsGivenTo own session.counters) all
  pub others : (name : Name) (counters : Counters) → (own ≡ name → ⊥) → AllByRecursion (IsGivenTo name counters) past → AllByRecursion (IsGivenTo name counters) all
  pub sent : AllByRecursion IsWholeSent packets

abbrev pub Says : {S : Type 0} → Name → List Owed → Speaker S → Type 0
Says own past x = Speaks own past x.session x.jobs x.owed x.sent

-- ---- counters

pub given-all : (name : Name) (before after : Counters) (all : List Owed) → GoesOn before after → AllByRecursion (IsGivenTo name before) all → AllByRecursion (IsGivenTo name after) all
given-all name before after all goes given =
    weaker (IsGivenTo name before) (IsGivenTo name after) all (λ one g is. given-later before after one.message.number one.message.seq goes (g is)) given

pub replies-later : (before after : Counters) (replies : List Reply) → GoesOn before after → AllByRecursion (IsSmallReply before) replies → AllByRecursion (IsSmallReply after) replies
replies-later before after replies goes small =
    weaker (IsSmallReply before) (IsSmallReply after) replies
    (λ reply one. record { call = one.call; content = one.content; given = given-later before after reply.number reply.seq goes one.given }) small

pub counted : (after : Counters) (session : Session) → GoesOn session.counters after → IsSmallSession session → IsSmallSession (record session { counters = after })
counted after session goes small =
    record { key = small.key; number = small.number; unique = small.unique; salts = small.salts; history = small.history; replies = replies-later session.counters after session.replies goes small.replies }

-- an item's message has its number before the next one
item-given : (now : ℕ) (item : Item) (counters : Counters) → IsGivenBy (after_item now counters item) (numbered now counters item).number (numbered now counters item).seq
item-given now item counters =
    let low = addition-low item in
    (omega (arith, low), by (is_content_related item))
  where
    by : (content : Bool) → 2 * counters.content_messages + one_if_content content ≤ 2 * (counters.content_messages + one_if_content content)
    by true = omega arith
    by false = omega arith

-- a reply that is dropped is such
pub drop-small : (counters : Counters) (reply : Reply) → IsSmallReply counters reply → IsSmallReply counters (dropped reply)
drop-small counters reply one =
    cond_both (is_kept reply) _ reply (IsSmallReply counters) (λ is. record { call = one.call; content = one.content; given = one.given }) (λ is. one)

-- ---- steps

module _ {S : Type 0} (setting : Setting S) (own : Name) (past : List Owed) where
  abbrev P : Speaker S → Type 0
  P x = Says own past x

  -- a message of its own is owed, which it has given its number
  owed-more : (message : Message) (session : Session) (queue : Queue) (all : List Owed) (packets : List Sent) → IsSmallMessage message → IsGivenBy session.counters message.number message.seq
      → Speaks own past session queue all packets → Speaks own past session queue (all ++ record { name = name_of session; message = message } ∷ []) packets
  owed-more message session queue all packets small given p =
      let one : Owed = record { name = name_of session; message = message } in
      record {
        named = p.named;
        small = p.small;
        jobs = p.jobs;
        owed = all-push IsSmallOwed all one p.owed small;
        given = all-push (IsGivenTo own session.counters) all one p.given (λ is. given);
        others = λ name counters apart before.
            all-push (IsGivenTo name counters) all one (p.others name counters apart before) (λ is. absurd (apart (sym p.named ∙ is)));
        sent = p.sent;
      }

  pub counters-on : (after : Counters) (session : Session) (queue : Queue) (all : List Owed) (packets : List Sent) → GoesOn session.counters after
      → Speaks own past session queue all packets → Speaks own past (record session { counters = after }) queue all packets
  counters-on after session queue all packets goes p =
      record {
        named = p.named;
        small = counted after session goes p.small;
        jobs = p.jobs;
        owed = p.owed;
        given = given-all own session.counters after all goes p.given;
        others = p.others;
        sent = p.sent;
      }

  pub said : (item : Item) (x : Speaker S) → IsSmallItem item → Says own past x → Says own past (says setting item x)
  said item x small p =
      let after = after_item setting.now x.session.counters item in
      let goes = next-goes setting.now (is_content_related item) x.session.counters in
      owed-more (numbered setting.now x.session.counters item) (record x.session { counters = after }) x.jobs x.owed x.sent (record { item = item; body = refl; small = small })
      (item-given setting.now item x.session.counters) (counters-on after x.session x.jobs x.owed x.sent goes p)

  -- ---- salts

  row-needed : DrawsWords setting → (period : ℕ) (both : List Row × S) → AllByRecursion IsSmallRow both.0 → AllByRecursion IsSmallRow (needed setting.step period both).0
  row-needed draws period both small =
      cond_both (has_row period both.0) both (both.0 ++ record { period = period; word = (setting.step both.1).0 } ∷ [], (setting.step both.1).1)
      (λ (now : List Row × S). AllByRecursion IsSmallRow now.0) (λ is. small)
      (λ is. all-push IsSmallRow both.0 (record { period = period; word = (setting.step both.1).0 }) small (draws both.1))

  rows-needed : DrawsWords setting → (n period : ℕ) (both : List Row × S) → AllByRecursion IsSmallRow both.0 → AllByRecursion IsSmallRow (needed_from setting.step period n both).0
  rows-needed draws zero period both small = small
  rows-needed draws (suc n) period both small = rows-needed draws n (suc period) (needed setting.step period both) (row-needed draws period both small)

  pub salted : DrawsWords setting → (count : ℕ) (x : Speaker S) → Says own past x → Says own past (needs_salts setting count x)
  salted draws count x p =
      let small = p.small in
      record {
        named = p.named;
        small = record {
          key = small.key;
          number = small.number;
          unique = small.unique;
          salts = rows-needed draws count (period_at x.session.salts.start setting.now) (x.session.salts.rows, x.draw) small.salts;
          history = small.history;
          replies = small.replies;
        };
        jobs = p.jobs;
        owed = p.owed;
        given = p.given;
        others = p.others;
        sent = p.sent;
      }

  -- ---- replies

  pub replied : (replies : List Reply) (session : Session) (queue : Queue) (all : List Owed) (packets : List Sent) → AllByRecursion (IsSmallReply session.counters) replies
      → Speaks own past session queue all packets → Speaks own past (record session { replies = replies }) queue all packets
  replied replies session queue all packets so p =
      let small = p.small in
      record {
        named = p.named;
        small = record { key = small.key; number = small.number; unique = small.unique; salts = small.salts; history = small.history; replies = so };
        jobs = p.jobs;
        owed = p.owed;
        given = p.given;
        others = p.others;
        sent = p.sent;
      }

  pub answered : (call : ℕ) (content : List ℕ) (x : Speaker S) → call < 2 ^ 64 → IsContent content → Says own past x → Says own past (answers setting call content x)
  answered call content x fits_place words p =
      let item = RpcResult call content in
      let done = says setting item x in
      let message = numbered setting.now x.session.counters item in
      let is_done = said item x (fits_place, words) p in
      replied (with_reply call content message done.session.replies) done.session done.jobs done.owed done.sent
      (all-push (IsSmallReply done.session.counters) (made_room (length message.body) done.session.replies) _
      (roomy (length message.body) done.session.counters done.session.replies is_done.small.replies)
      (record { call = fits_place; content = words; given = item-given setting.now item x.session.counters }))
      is_done
    where
      roomy : (bytes : ℕ) (counters : Counters) (replies : List Reply) → AllByRecursion (IsSmallReply counters) replies → AllByRecursion (IsSmallReply counters) (made_room bytes replies)
      roomy bytes counters [] so = tt
      roomy bytes counters (reply ∷ replies) so = (
        cond_both (fits bytes (kept_replies (reply ∷ replies))) reply (dropped reply) (IsSmallReply counters) (λ is. so.0) (λ is. drop-small counters reply so.0),
        roomy bytes counters replies so.1,
      )

  -- a reply of its own is said again
  pub repeated : (reply : Reply) (x : Speaker S) → IsSmallReply x.session.counters reply → Says own past x → Says own past (says_again reply x)
  repeated reply x one p =
      cond_both (has_said reply.number x) x (owes_message (message_of reply) x) P (λ is. p)
      (λ is. owed-more (message_of reply) x.session x.jobs x.owed x.sent (record { item = RpcResult reply.call reply.content; body = refl; small = (one.call, one.content) }) one.given p)

  -- what becomes of replies leaves them as they are
  pub fated : (change : Reply → Reply) (x : Speaker S) → ((counters : Counters) (reply : Reply) → IsSmallReply counters reply → IsSmallReply counters (change reply))
      → Says own past x → Says own past (record x { session = record x.session { replies = map change x.session.replies } })
  fated change x so p =
      replied (map change x.session.replies) x.session x.jobs x.owed x.sent
      (all-map (IsSmallReply x.session.counters) (IsSmallReply x.session.counters) change x.session.replies (so x.session.counters) p.small.replies) p

  -- ---- jobs and history

  pub with_jobs : (queue : Queue) (x : Speaker S) → AllByRecursion IsSmallJob queue → Says own past x → Says own past (record x { jobs = queue })
  with_jobs queue x so p =
      record { named = p.named; small = p.small; jobs = so; owed = p.owed; given = p.given; others = p.others; sent = p.sent }

  pub judged : (history : History) (x : Speaker S) → AllByRecursion IsSmallJudgement history → Says own past x → Says own past (record x { session = record x.session { history = history } })
  judged history x so p =
      let small = p.small in
      record {
        named = p.named;
        small = record { key = small.key; number = small.number; unique = small.unique; salts = small.salts; history = so; replies = small.replies };
        jobs = p.jobs;
        owed = p.owed;
        given = p.given;
        others = p.others;
        sent = p.sent;
      }

pub ack-small : (numbers : List ℕ) (counters : Counters) (reply : Reply) → IsSmallReply counters reply → IsSmallReply counters (acked_by numbers reply)
ack-small numbers counters reply one =
    cond_both (is_kept reply && list_any (λ number. number == reply.number) numbers) _ reply (IsSmallReply counters)
    (λ is. record { call = one.call; content = one.content; given = one.given }) (λ is. one)

-- ---- the current salt

word-small : (period : ℕ) (rows : List Row) → AllByRecursion IsSmallRow rows → word_in period rows < 2 ^ 64
word-small period [] small = omega arith
word-small period (row ∷ rows) small =
    cond_both (row.period == period) row.word (word_in period rows) (λ (word : ℕ). word < 2 ^ 64) (λ is. small.0) (λ is. word-small period rows small.1)

pub salt-small : (now : ℕ) (line : Line) → AllByRecursion IsSmallRow line.rows → current_salt line now < 2 ^ 64
salt-small now line small = word-small (period_at line.start now) line.rows small
