-- A packet is taken by the session that heard it.
use Rattle.std.proofs.Common.{◌≡◌, ℕ, zero, suc, ◌≤◌, ◌<◌, ◌^◌, true, false, Option, None, Some, List, [], ◌∷◌, ◌++◌, map, inl, inr, refl, sym, ap, subst, ◌∙◌, arith, append_assoc}
use Rattle.std.specs.Prelude.{⊤}
use Rattle.std.specs.List.{All, AllByRecursion, Contains, cons_option, filter_map, zip}
use Rattle.std.proofs.lemmas.Bool.{cases_Bool, cond_both}
use Rattle.std.proofs.lemmas.List.Elements.{All-contains}
use Rattle.salt_line.specs.Line.{Line, current_salt}
use Rattle.salt_line.specs.Rows.{Row}
use Rattle.service_tl.specs.declared.lists.Message.{Message}
use Rattle.id_window.specs.Marks.{mark_of}
use Rattle.id_window.specs.History.{EachOnce, FirstJudgement, History, floor, is_kept}
use Rattle.inbox.specs.Verdicts.{Judgement, Verdict, Accepted, Again, Noticed}
use Rattle.containers.specs.Container.{begins_container}
use Rattle.inbox.specs.Kinds.{item_told}
use Rattle.inbox.specs.Refusals.{Way, InEnvelope}
use Rattle.inbox.specs.Judging.{judgements, session_after}
use Rattle.server_rules.specs.Server.{Name, Reply, Session, has_accepted, is_named, mark_after, marks_of, name_of, remembered, session_named, with_session}
use Rattle.server_rules.specs.Event.{Entry, Envelope, Owed, Setting, Speaker, State, speaker_in, speaks, spoken, spoken_by}
use Rattle.server_rules.specs.Speaking.{needs_salts, says_it_is_new}
use Rattle.server_rules.specs.Sending.{messages_by}
use Rattle.service_tl.specs.declared.item.Item.TheVariants.{NewSessionCreated}
use Rattle.service_tl.specs.Items.{spelling_of}
use Rattle.inbox.specs.Inbox.{was_heard}
use Rattle.packing.specs.Packing.{groups}
use Rattle.law_server.specs.Start.{new_owed}
use Rattle.law_server_moves.specs.Sending.{IsFirstNew, MayAllGo, MayGo}
use Rattle.server_rules.specs.Rows.{acknowledges, acks_of}
use Rattle.server_rules.specs.Answer.{message_in, messages_judged, opens, takes_by}
use Rattle.waits.specs.declared.job.Unfinished.{Unfinished}
use Rattle.waits.specs.Jobs.{Queue}
use Rattle.law_moves.specs.Lawful.{WasNoCall}
use Rattle.law_moves.specs.Table.Outcome.{AcceptedCall}
use Rattle.law_server.specs.Order.{IsGoingOn, IsMidwayAt, IsOrderly, IsTold, jobs_of, opens_of}
use Rattle.law_server.specs.Going.{none_open, open_only, past_in, past_with}
use Rattle.law_server.specs.Speech.{SaidFor}
use Rattle.law_server.specs.Lives.{acceptance_by, acceptance_of, history_by, request_of}
use Rattle.law_moves.specs.World.{World, WasGiven}
use Rattle.law_moves.specs.Reached.{Reached, after_all}
use Rattle.law_server_moves.specs.Leading.{Leads}
use Rattle.law_server_moves.specs.Servers.{AsksThere, HasSalt, IsAcceptedThere, IsNoCall, IsUp, Past, ServerStands, with_entries, with_history}
use Rattle.law_server_moves.specs.Speaking.{IsOwedThere, IsWithin, SpeaksThere, with_line}
use Rattle.law_server_moves.specs.Events.{EventStands, lined, with_lines}
use Rattle.law_server_moves.proofs.Lists.{all_of, each_of, map_all}
use Rattle.law_server_moves.proofs.Leading.{GoOn as MovesGoOn, goes_on, leads_so, stays}
use Rattle.law_server_moves.proofs.Losing.{append_nothing, named_itself}
use Rattle.law_server_moves.proofs.One.{put}
use Rattle.law_server_moves.proofs.Packets.{Lasts, judged_packet, marked, with_twice}
use Rattle.law_server_moves.proofs.Speech.{Adds}
use Rattle.law_server_moves.proofs.Words.{current, opens_it}
use Rattle.law_server_moves.proofs.Found.{found_in, some_same}
use Rattle.law_server_moves.proofs.Events.{IsItsOwn, all_mapped, lines_put, mapped_in, name_is, own_of, speaks_with}
use Rattle.law_server_moves.proofs.Gone.{AreNamedApart, has_spoken, lost_alike, none_are_lost, none_lost}
use Rattle.law_server_moves.proofs.Quiet.{FailedOwn, IsOther, none_failed, own_speaks}
use Rattle.law_server_moves.proofs.Jobs.{GivesUpAlone}
use Rattle.law_server_moves.proofs.Named.{IsThere, Speaks, Within, none_all, one_all}
use Rattle.law_server_moves.proofs.Noticing.{AreNoticed, NoticedIn, packet_noticed}
use Rattle.law_server_moves.proofs.PacketEnd.{Begins, ByName, OthersHeard, OwesSo, begins_fold, found_itself, others_fold}
use Rattle.law_server_moves.proofs.HeardOwe.{OwesHeard, heard_may_go}
use Rattle.law_server_moves.proofs.WorksEnd.{same_itself}
use Rattle.law_server_moves.proofs.Settling.{AreJudged, Asks, Going, IsJudged, Orders, OwesAlone, all_settle, all_still, all_within, order_fold, there_fold}

-- ---- what a packet opens with

said_new : {S : Type 0} (setting : Setting S) (speaker : Speaker S) → SaidFor S speaker (says_it_is_new setting speaker)
said_new setting speaker = record {
  key = refl;
  number = refl;
  first = refl;
  unique = refl;
  history = refl;
  owed = (_, refl, one_all (λ (one : Owed). one.name ≡ name_of speaker.session) _ refl);
  entries = ([], sym (append_nothing speaker.entries), none_all (λ (one : Entry). (one.key ≡ speaker.session.key) × (one.session ≡ speaker.session.number)));
  sent = refl;
}

both_all : {X : Type 0} (P : X → Type 0) (x y : X) → P x → P y → All P (x ∷ y ∷ [])
both_all P x y one other zero d below = one
both_all P x y one other (suc zero) d below = other
both_all P x y one other (suc (suc k)) d below = absurd (omega arith)

-- what matters of it here
pub record OpensSo (S : Type 0) (before after : Speaker S) : Type 0 where
  pub own : IsItsOwn S before after
  pub unique : after.session.unique ≡ before.session.unique
  pub sent : after.sent ≡ before.sent
  pub jobs : after.jobs ≡ before.jobs

nothing_said : {S : Type 0} (speaker : Speaker S) → OpensSo S speaker speaker
nothing_said speaker = record {
  own = record { key = refl; number = refl; owed = ([], sym (append_nothing speaker.owed), none_all (λ (one : Owed). one.name ≡ name_of speaker.session)) };
  unique = refl;
  sent = refl;
  jobs = refl;
}

acks_said : {S : Type 0} (setting : Setting S) (numbers : List ℕ) (speaker : Speaker S) → OpensSo S speaker (acknowledges setting numbers speaker)
acks_said setting [] speaker = nothing_said speaker
acks_said setting (number ∷ numbers) speaker = record {
  own = record { key = refl; number = refl; owed = (_, refl, one_all (λ (one : Owed). one.name ≡ name_of speaker.session) _ refl) };
  unique = refl;
  sent = refl;
  jobs = refl;
}

two_said : {S : Type 0} (setting : Setting S) (numbers : List ℕ) (speaker : Speaker S) → OpensSo S speaker (acknowledges setting numbers (says_it_is_new setting speaker))
two_said setting [] speaker = record { own = own_of speaker (says_it_is_new setting speaker) (said_new setting speaker); unique = refl; sent = refl; jobs = refl }
two_said {S} setting (number ∷ numbers) speaker =
    let one = says_it_is_new setting speaker in
    record {
      own = record { key = refl; number = refl; owed = (_, append_assoc speaker.owed _ _, both_all (λ (one : Owed). one.name ≡ name_of speaker.session) _ _ refl refl) };
      unique = refl;
      sent = refl;
      jobs = refl;
    }

-- a session that was told of its history
pub opens_said : {S : Type 0} (setting : Setting S) (judged : List Judgement) (speaker : Speaker S) → OpensSo S speaker (opens setting speaker.session.history judged speaker)
opens_said {S} setting judged speaker =
    cond_both (has_accepted speaker.session) speaker (says_it_is_new setting speaker) (λ (first : Speaker S). OpensSo S speaker (acknowledges setting (acks_of judged) first))
    (λ is. acks_said setting (acks_of judged) speaker) (λ is. two_said setting (acks_of judged) speaker)

-- ---- the judgements stand by what was sent

module _ {S : Type 0} (adds : Adds) (on : MovesGoOn) (alone : GivesUpAlone S) (owing : OwesAlone S) (said : Speaks S) (orders : Orders S) (setting : Setting S) (lines : Name → Line)
    (x : Session) (past : Name → History) (salt : ℕ) (its : Session) (same_unique : its.unique ≡ x.unique) (same_number : its.number ≡ x.number) where
  abbrev Judged : World → ℕ → Verdict → List ℕ → Type 0
  Judged w number verdict body = IsJudged adds on alone owing said orders setting lines (name_of x) x.unique past w number verdict body

  given_of : (w : World) (number : ℕ) (message : Message) → number ≡ message.number → IsUp w.ups x.number salt message → WasGiven w.ups x.number number
  given_of w number message same up = (up.1.up, up.1.there, up.1.under, let is = up.1.numbered in omega (arith, same, is))

  -- a container is no call
  no_call_of : (w : World) (number : ℕ) (message : Message) → number ≡ message.number → begins_container message.body ≡ true → IsUp w.ups x.number salt message → IsNoCall w.ups x.number number
  no_call_of w number message same begins up =
      let told : request_of (item_told message.body) message.body ≡ None = rw begins refl in
      record { fits = subst (λ (n : ℕ). n < 2 ^ 64) (sym same) up.0; given = (up.1.up, up.1.there, up.1.under, up.1.numbered ∙ sym same, up.1.is ∙ told) }

  its_asks : (w : World) (number : ℕ) (request : Option (List ℕ)) → AsksThere w its number request → AsksThere w x number request
  its_asks w number (Some query) asks = subst (λ (u : ℕ). Contains (w.servers u).judged (record { number = number; outcome = AcceptedCall query })) same_unique asks
  its_asks w number None asks = subst (λ (n : ℕ). WasNoCall w.ups n number) same_number asks

  asks_so : (w : World) (number : ℕ) (request : Option (List ℕ)) → AsksThere w x number request → Asks adds on alone owing said orders setting lines (name_of x) x.unique past w number request
  asks_so w number (Some request) h = h
  asks_so w number None h = h

  judged_so : (w : World) (number : ℕ) (verdict : Verdict) (message : Message) → number ≡ message.number → NoticedIn (past (name_of x)) number verdict message.body
      → IsUp w.ups x.number salt message → AllByRecursion (IsAcceptedThere w its) (cons_option (acceptance_by number verdict message.body) []) → Judged w number verdict message.body
  judged_so w number (Noticed code) message same (inl recorded) up accepted = inl recorded
  judged_so w number (Noticed code) message same (inr (inl low)) up accepted = inr (inl (low.0, given_of w number message same up, low.1))
  judged_so w number (Noticed code) message same (inr (inr held)) up accepted = inr (inr (held.0, no_call_of w number message same held.1 up))
  judged_so w number (Again mark) message same noticed up accepted = given_of w number message same up
  judged_so w number (Accepted item) message same noticed up accepted =
      asks_so w number (request_of item message.body) (its_asks w number (request_of item message.body) accepted.0)

  first_part : {X : Type 0} (P : X → Type 0) (one : Option X) (rest : List X) → AllByRecursion P (cons_option one rest) → AllByRecursion P (cons_option one []) × AllByRecursion P rest
  first_part P None rest h = (tt, h)
  first_part P (Some one) rest h = ((h.0, tt), h.1)

  all_judged : (w : World) (judged : List Judgement) (messages : List Message) → AreNoticed (past (name_of x)) judged messages
      → AllByRecursion (IsUp w.ups x.number salt) messages → AllByRecursion (IsAcceptedThere w its) (filter_map acceptance_of (zip judged (map (λ (one : Message). one.body) messages)))
      → AreJudged adds on alone owing said orders setting lines (name_of x) x.unique past w judged (map (λ (one : Message). one.body) messages)
  all_judged w [] messages noticed ups accepted = tt
  all_judged w (judgement ∷ judged) [] noticed ups accepted = tt
  all_judged w (judgement ∷ judged) (message ∷ messages) noticed ups accepted =
      let parts = first_part (IsAcceptedThere w its) (acceptance_by judgement.number judgement.verdict message.body) (filter_map acceptance_of (zip judged (map (λ (one : Message). one.body) messages))) accepted in (
        judged_so w judgement.number judgement.verdict message noticed.0 noticed.1 ups.0 parts.0,
        all_judged w judged messages noticed.2 ups.1 parts.1,
      )

-- ---- the whole

abbrev named : ℕ → ℕ → Name
named key session = record { key = key; session = session }

pub record Judges : Type 0 where
  pub low : (history : History) → All (λ (j : FirstJudgement). is_kept j.number history ≡ false → j.number ≤ floor history) history
  pub rises : (history later : History) → floor history ≤ floor (history ++ later)
  pub lasts : Lasts
  pub marks : (history : History) (replies : List Reply) (judgement : FirstJudgement) → EachOnce history → Contains history judgement
      → mark_of judgement.number (marks_of history replies) ≡ Some (mark_after replies judgement.number judgement.outcome)

pub record Opens (S : Type 0) : Type 0 where
  pub opens : (setting : Setting S) (way : Way) (message : Message) (state : State S) (session : Session)
      → session_named (name_of session) state.sessions ≡ Some session → IsGoingOn (past_in state.sessions) none_open state.sessions state.jobs
      → IsGoingOn (past_with (name_of session) (session_after way (remembered session) message).history (past_in state.sessions))
      (open_only (name_of session) (opens_of (judgements way (remembered session) message)))
      (speaks (name_of session) (opens setting (session_after way (remembered session) message).history (judgements way (remembered session) message)) state).sessions
      (speaks (name_of session) (opens setting (session_after way (remembered session) message).history (judgements way (remembered session) message)) state).jobs
  pub own_past : (name : Name) (history : History) (past : Name → History) → past_with name history past name ≡ history
  pub told : (way : Way) (session : Session) (message : Message) (jobs : Queue) → IsOrderly session.history session.replies session.counters.last jobs
      → All (λ judgement. IsTold judgement.number judgement.verdict (session_after way (remembered session) message).history) (judgements way (remembered session) message)

module _ {S : Type 0} (adds : Adds) (on : MovesGoOn) (alone : GivesUpAlone S) (owing : OwesAlone S) (said : Speaks S) (orders : Orders S) (judges : Judges) (opening : Opens S) (by_names : ByName S)
    (setting : Setting S) (envelope : Envelope) (heard : State S) (gone : Past) (lines : Name → Line) (x : Session) (found : session_named (name_of x) heard.sessions ≡ Some x)
    (unfailed : AllByRecursion (λ (one : Unfinished). one.failed ≡ false) heard.jobs) (none_owed : heard.owed ≡ []) (none_sent : heard.sent ≡ []) (order : IsGoingOn (past_in heard.sessions) none_open heard.sessions heard.jobs) where
  abbrev name : Name
  name = name_of x

  abbrev message : Message
  message = message_in envelope

  abbrev way : Way
  way = InEnvelope setting.now x.salts envelope.salt

  abbrev later_history : History
  later_history = (session_after way (remembered x) message).history

  abbrev judged : List Judgement
  judged = judgements way (remembered x) message

  abbrev messages : List Message
  messages = messages_judged way x message

  abbrev bodies : List (List ℕ)
  bodies = map (λ (one : Message). one.body) messages

  abbrev past : Name → History
  past = past_with name later_history (past_in heard.sessions)

  abbrev its : Session
  its = with_line (lines name) x

  abbrev xs : List Session
  xs = with_lines lines heard.sessions

  -- the session that was told of its history
  abbrev told_x : Session
  told_x = record x { history = later_history }

  abbrev state_told : State S
  state_told = record heard { sessions = with_session told_x heard.sessions }

  abbrev speak : Speaker S → Speaker S
  speak = opens setting later_history judged

  abbrev opened : State S
  opened = speaks name speak heard

  abbrev pub done : State S
  done = takes_by setting envelope (Some x) heard

  -- two that have one name are one
  pub heard_apart : AreNamedApart heard.sessions
  heard_apart one other a b same =
      some_same one other
      (sym (found_itself heard.sessions order.names one a) ∙ ap (λ (n : Name). session_named n heard.sessions) same ∙ found_itself heard.sessions order.names other b)

  abbrev GoesOn : World → List ℕ → State S → Type 0
  GoesOn w numbers state = Going adds on alone owing said orders setting lines name x.unique past gone heard.sessions heard_apart w numbers state

  midway : IsMidwayAt (past_in heard.sessions name) [] (Some x) (jobs_of name heard.jobs)
  midway = subst (λ (f : Option Session). IsMidwayAt (past_in heard.sessions name) [] f (jobs_of name heard.jobs)) found (order.each name)

  orderly : IsOrderly x.history x.replies x.counters.last (jobs_of name heard.jobs)
  orderly = midway.1.order

  its_there : Contains xs its
  its_there = mapped_in (λ session. with_line (lines (name_of session)) session) heard.sessions x (found_in (is_named name) heard.sessions x found).0

  -- told of what was judged
  told_stands : (w : World) → ServerStands w (with_entries heard.entries gone) (with_session (with_history later_history its) xs) heard.jobs → EventStands w gone lines state_told
  told_stands w s = record {
    stands = subst (λ (l : List Session). ServerStands w (with_entries heard.entries gone) l heard.jobs) (sym (lines_put lines name told_x heard.sessions refl)) s;
    owed = subst (λ (owed : List Owed). AllByRecursion (λ (o : Session). AllByRecursion (IsOwedThere w o) owed) (with_lines lines state_told.sessions)) (sym none_owed)
        (all_of (λ (o : Session). AllByRecursion (IsOwedThere w o) []) (with_lines lines state_told.sessions) (λ o there. tt));
  }

  told_found : session_named name state_told.sessions ≡ Some told_x
  told_found =
      let tells : Speaker S → Speaker S = λ speaker. record speaker { session = told_x } in
      ap (λ (l : List Session). session_named name l) (sym (ap (λ (f : Option Session). (spoken_by f tells heard).sessions) found)) ∙ said.own name tells heard x found refl

  abbrev b : Speaker S
  b = speak (speaker_in state_told told_x)

  b_said : OpensSo S (speaker_in state_told told_x) b
  b_said = opens_said setting judged (speaker_in state_told told_x)

  name_b : name_of b.session ≡ name
  name_b = ap (λ (k : ℕ). named k b.session.number) b_said.own.key ∙ ap (λ (n : ℕ). named x.key n) b_said.own.number

  opened_is : opened ≡ spoken heard (speak (speaker_in heard x))
  opened_is = ap (λ (f : Option Session). spoken_by f speak heard) found

  same_opened : spoken state_told b ≡ opened
  same_opened =
      ap (λ (l : List Session). record (spoken heard b) { sessions = l }) (with_twice heard.sessions told_x b.session b_said.own.key b_said.own.number)
      ∙ sym opened_is

  b_found : session_named name opened.sessions ≡ Some b.session
  b_found = said.own name speak heard x found name_b

  opens_stands : (w : World) → EventStands w gone lines state_told → Within said name x.unique (lines name) opened → Leads w (λ later. EventStands later gone lines opened)
  opens_stands w h within =
      leads_so w (λ later. EventStands later gone lines (spoken state_told b) × ⊤) (λ later. EventStands later gone lines opened)
      (λ later k. subst (λ (s : State S). EventStands later gone lines s) same_opened k.0)
      (speaks_with adds w gone lines state_told h name told_x told_found speak (λ later. ⊤) b_said.own
      (λ k. stays w (λ later. SpeaksThere later gone (with_lines lines state_told.sessions) (lines name) b × ⊤)
      (opens_it adds setting gone (with_lines lines state_told.sessions) (lines name) w later_history judged (speaker_in state_told told_x) k (within b.session b_found), tt)))

  abbrev AreJudgedAt : World → Type 0
  AreJudgedAt w = AreJudged adds on alone owing said orders setting lines name x.unique past w judged bodies

  abbrev pub Ends : World → Type 0
  Ends later = (numbers : List ℕ) × GoesOn later numbers done

  told_all : All (λ (judgement : Judgement). IsTold judgement.number judgement.verdict (past name)) judged
  told_all =
      subst (λ (history : History). All (λ (judgement : Judgement). IsTold judgement.number judgement.verdict history) judged) (sym (opening.own_past name later_history (past_in heard.sessions)))
      (opening.told way x message (jobs_of name heard.jobs) orderly)

  -- whatever stands there, the event keeps the order, and the session is there in the end
  done_order : (numbers : List ℕ) × IsGoingOn past (open_only name numbers) done.sessions done.jobs
  done_order =
      order_fold adds on alone owing said orders setting lines name x.unique past gone heard.sessions heard_apart judged bodies opened (opening.opens setting way message heard x found order) told_all

  pub done_apart : AreNamedApart done.sessions
  done_apart one other a b same =
      let names = done_order.1.names in
      some_same one other
      (sym (found_itself done.sessions names one a) ∙ ap (λ (n : Name). session_named n done.sessions) same ∙ found_itself done.sessions names other b)

  pub done_there : IsThere said name x.unique done
  done_there =
      there_fold adds on alone owing said orders setting lines name x.unique past gone heard.sessions heard_apart judged bodies opened
      (record { x = b.session; found = b_found; same = b_said.unique; sent = ap (λ (f : Option Session). (spoken_by f speak heard).sent) found ∙ b_said.sent ∙ none_sent })

  -- what it says of one that has its name
  named_opened : (y : Session) → session_named name heard.sessions ≡ Some y → name_of (speak (speaker_in heard y)).session ≡ name_of y
  named_opened y is =
      let one : y ≡ x = some_same y x (sym is ∙ found) in
      subst (λ (z : Session). name_of (speak (speaker_in heard z)).session ≡ name_of z) (sym one) name_b

  opened_jobs : (y : Session) → session_named name heard.sessions ≡ Some y → (speak (speaker_in heard y)).jobs ≡ heard.jobs
  opened_jobs y is =
      let one : y ≡ x = some_same y x (sym is ∙ found) in
      subst (λ (z : Session). (speak (speaker_in heard z)).jobs ≡ heard.jobs) (sym one) b_said.jobs

  going : (w : World) → EventStands w gone lines opened → GoesOn w (opens_of judged) opened
  going w h = record {
    more = [];
    stands = none_lost w gone lines opened h;
    lost = lost_alike (lined lines) heard.sessions heard.sessions opened.sessions [] (λ n. has_spoken n name speak heard) (none_are_lost (lined lines) heard.sessions);
    quiet = own_speaks setting name heard.sessions speak heard (λ y is. (named_opened y is, λ own. subst (λ (jobs : Queue). FailedOwn (name_of y) jobs) (sym (opened_jobs y is)) own))
        (record { others = all_of (IsOther setting name heard.sessions) heard.sessions (λ o there. inr there); failed = none_failed name heard.jobs unfailed });
    order = opening.opens setting way message heard x found order;
    there = record { x = b.session; found = b_found; same = b_said.unique; sent = ap (λ (f : Option Session). (spoken_by f speak heard).sent) found ∙ b_said.sent ∙ none_sent };
  }

  pub takes_on : (w : World) → Reached w → EventStands w gone lines heard → IsWithin (lines name) x → AllByRecursion (IsUp w.ups x.number envelope.salt) messages
      → Within said name x.unique (lines name) done
      → Leads w Ends
  takes_on w reached h line_within ups within =
      let within_opened = all_within adds on alone owing said orders setting lines name x.unique past gone heard.sessions heard_apart judged bodies opened within in
      let l = judged_packet judges.low judges.rises on judges.lasts (with_entries heard.entries gone) xs heard.jobs its its_there envelope.salt setting.now x.salts line_within message (marked judges.marks its orderly.judged) w reached h.stands ups in
      let v : World = after_all w l.moves in
      let ups_still = map_all (IsUp w.ups x.number envelope.salt) (IsUp v.ups x.number envelope.salt) messages
      (λ m there up. (up.0, record { up = up.1.up; there = adds.messages w l.moves l.lawful up.1.up up.1.there; under = up.1.under; salted = up.1.salted; numbered = up.1.numbered; is = up.1.is })) ups in
      let noticed = subst (λ (history : History). AreNoticed history judged messages) (sym (opening.own_past name later_history (past_in heard.sessions))) (packet_noticed judges.rises way (remembered x) message) in
      let are = all_judged adds on alone owing said orders setting lines x past envelope.salt its refl refl v judged messages noticed ups_still l.gives.1 in
      let told = subst (λ (history : History). All (λ (judgement : Judgement). IsTold judgement.number judgement.verdict history) judged) (sym (opening.own_past name later_history (past_in heard.sessions)))
      (opening.told way x message (jobs_of name heard.jobs) orderly) in
      goes_on on w (λ later. EventStands later gone lines state_told × AreJudgedAt later) Ends reached
      (record { moves = l.moves; lawful = l.lawful; own = l.own; gives = (told_stands v l.gives.0, are) })
      (λ later reached k.
      let m = opens_stands later k.0 within_opened in
      goes_on on later (λ last. EventStands last gone lines opened × AreJudgedAt last) Ends reached
      (record {
        moves = m.moves;
        lawful = m.lawful;
        own = m.own;
        gives = (m.gives, all_still adds on alone owing said orders setting lines name x.unique past later m.moves m.lawful judged bodies k.1);
      })
      (λ last reached n. all_settle adds on alone owing said orders setting lines name x.unique past gone heard.sessions heard_apart judged bodies last opened reached (going last n.0) told n.1 within))

  -- ---- what may go then

  abbrev told_speaker : Speaker S
  told_speaker = speaker_in state_told told_x

  acks_salts : (numbers : List ℕ) → (acknowledges setting numbers (says_it_is_new setting told_speaker)).session.salts ≡ (needs_salts setting 1 (speaker_in heard x)).session.salts
  acks_salts [] = refl
  acks_salts (number ∷ numbers) = refl

  opens_salts : has_accepted told_x ≡ false → b.session.salts ≡ (needs_salts setting 1 (speaker_in heard x)).session.salts
  opens_salts not_so = rw not_so (acks_salts (acks_of judged))

  abbrev now_salt : ℕ
  now_salt = current_salt (needs_salts setting 1 (speaker_in heard x)).session.salts setting.now

  abbrev first_message : Message
  first_message = (new_owed setting (speaker_in heard x)).message

  -- the others owe nothing yet
  opened_others : OthersHeard by_names alone owing setting name opened
  opened_others =
      subst (λ (s : State S). OthersHeard by_names alone owing setting name s) (sym opened_is)
      (all_mapped (OwesSo by_names alone owing setting name b.owed) (put b.session) heard.sessions
      (λ o there.
      elim (cases_Bool (is_named (name_of b.session) o)) [
        | inl holds ↦ rw holds (inl (subst (λ (n : Name). is_named n b.session ≡ true) name_b (named_itself b.session)))
        | inr not_so ↦
            rw not_so
            (inr (subst (λ (l : List Owed). OwesHeard l o) (sym (b_said.own.owed.1 ∙ ap (λ (l : List Owed). l ++ b_said.own.owed.0) none_owed))
            (all_of (λ (one : Owed). one.name ≡ name_of o → has_accepted o ≡ true) b_said.own.owed.0
            (λ one among of.
            let same : name_of b.session ≡ name_of o = name_b ∙ sym (All-contains (λ (one : Owed). one.name ≡ name_of x) b_said.own.owed.0 one b_said.own.owed.2 among) ∙ of in
            let e : false ≡ true = sym not_so ∙ subst (λ (n : Name). is_named n o ≡ true) (sym same) (named_itself o) in absurd (cc)))))
      ]))

  module _ (says_new : (setting : Setting S) (history : History) (judged : List Judgement) (speaker : Speaker S) → was_heard history ≡ false
      → (later : List Owed) × ((opens setting history judged speaker).owed ≡ speaker.owed ++ new_owed setting speaker ∷ later))
      (owes_little : (setting : Setting S) (envelope : Envelope) (state : State S) (session : Session) → state.sent ≡ [] → state.owed ≡ []
      → IsOrderly session.history session.replies session.counters.last (jobs_of (name_of session) state.jobs)
      → session_named (name_of session) state.sessions ≡ Some session → was_heard (history_by setting envelope session) ≡ false
      → groups (messages_by (name_of session) (takes_by setting envelope (Some session) state).owed) ≡ messages_by (name_of session) (takes_by setting envelope (Some session) state).owed ∷ []) where
    -- one that has accepted nothing
    opened_begins : was_heard later_history ≡ false → Begins by_names alone owing setting name first_message opened
    opened_begins unheard =
        let new = says_new setting later_history judged (speaker_in heard x) unheard in
        let owed : opened.owed ≡ new_owed setting (speaker_in heard x) ∷ new.0 =
        ap (λ (s : State S). s.owed) opened_is ∙ new.1 ∙ ap (λ (l : List Owed). l ++ new_owed setting (speaker_in heard x) ∷ new.0) none_owed in
        (messages_by name new.0, ap (messages_by name) owed ∙ rw (same_itself name) refl)

    module _ (w : World) (numbers : List ℕ) (h : GoesOn w numbers done) (within : Within said name x.unique (lines name) done) where
      within_opened : Within said name x.unique (lines name) opened
      within_opened = all_within adds on alone owing said orders setting lines name x.unique past gone heard.sessions heard_apart judged bodies opened within

      history_so : h.there.x.history ≡ later_history
      history_so =
          (subst (λ (f : Option Session). IsMidwayAt (past name) (open_only name numbers name) f (jobs_of name done.jobs)) h.there.found (h.order.each name)).0
          ∙ opening.own_past name later_history (past_in heard.sessions)

      others_so : OthersHeard by_names alone owing setting name done
      others_so =
          others_fold by_names alone owing setting name orders past judged bodies opened (opening.opens setting way message heard x found order)
          (subst (λ (history : History). All (λ (judgement : Judgement). IsTold judgement.number judgement.verdict history) judged) (sym (opening.own_past name later_history (past_in heard.sessions)))
          (opening.told way x message (jobs_of name heard.jobs) orderly)) opened_others

      abbrev Goes : Session → Type 0
      Goes o = MayAllGo done.owed (with_line (lines (name_of o)) o)

      heard_goes : (o : Session) → has_accepted o ≡ true → Goes o
      heard_goes o is = heard_may_go done.owed (with_line (lines (name_of o)) o) (all_of (λ (one : Owed). one.name ≡ name_of o → has_accepted o ≡ true) done.owed (λ one there own. is))

      new_goes : was_heard later_history ≡ false → Goes h.there.x
      new_goes unheard =
          let o : Session = h.there.x in
          let o_there : Session = with_line (lines (name_of o)) o in
          let o_name : name ≡ name_of o = name_is name o (found_in (is_named name) done.sessions o h.there.found).1 in
          let not_accepted : has_accepted told_x ≡ false = unheard in
          let in_line : IsWithin (lines name) (needs_salts setting 1 (speaker_in heard x)).session =
          subst (λ (line : Line). AllByRecursion (λ (row : Row). Contains (lines name).rows row) line.rows) (opens_salts not_accepted) (within_opened b.session b_found) in
          let has : HasSalt (with_line (lines name) x) now_salt = current adds setting gone xs (lines name) (speaker_in heard x) in_line in
          let has_there : HasSalt o_there now_salt = subst (λ (n : Name). HasSalt (with_line (lines n) o) now_salt) o_name has in
          let begins = begins_fold by_names alone owing setting name first_message judged bodies opened (opened_begins unheard) in
          let together = owes_little setting envelope heard x none_sent none_owed orderly found unheard in
          let is_new : IsFirstNew o_there (first_message ∷ begins.0) =
          (x.first, now_salt, subst (λ (u : ℕ). first_message.body ≡ spelling_of (NewSessionCreated x.first u now_salt)) (sym h.there.same) refl, has_there) in
          let go : MayGo o_there (messages_by name done.owed) = subst (λ (l : List Message). MayGo o_there l) (sym begins.1) (inr is_new) in
          subst (λ (n : Name). AllByRecursion (MayGo o_there) (groups (messages_by n done.owed))) o_name
          (subst (λ (l : List (List Message)). AllByRecursion (MayGo o_there) l) (sym together) (go, tt))

      own_goes : Goes h.there.x
      own_goes =
          elim (cases_Bool (was_heard later_history)) [
            | inl is ↦ heard_goes h.there.x (ap was_heard history_so ∙ is)
            | inr not_so ↦ new_goes not_so
          ]

      each_goes : (o : Session) → Contains done.sessions o → Goes o
      each_goes o there =
          elim (cases_Bool (is_named name o)) [
            | inl is ↦
                let same : name ≡ name_of o = name_is name o is in
                let itself = found_itself done.sessions h.order.names o there in
                let one : h.there.x ≡ o = some_same h.there.x o (sym h.there.found ∙ ap (λ (n : Name). session_named n done.sessions) same ∙ itself) in
                subst Goes one own_goes
            | inr not_so ↦
                elim (each_of (OwesSo by_names alone owing setting name done.owed) done.sessions others_so o there) [
                  | inl is ↦ let e : false ≡ true = sym not_so ∙ is in absurd (cc)
                  | inr heard ↦ heard_may_go done.owed (with_line (lines (name_of o)) o) heard
                ]
          ]

      pub packet_goes : AllByRecursion (MayAllGo done.owed) (with_lines lines done.sessions)
      packet_goes = all_mapped (MayAllGo done.owed) (λ session. with_line (lines (name_of session)) session) done.sessions each_goes
