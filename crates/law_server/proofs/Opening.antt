-- A packet of a session that has accepted nothing after it.
use Rattle.std.proofs.Common.{◌≡◌, ◌∙◌, ℕ, ◌+◌, ◌≤◌, eqb, Bool, false, Option, Some, None, List, [], ◌∷◌, ◌++◌, length, ap, sym, subst, refl, arith, inl, inr}
use Rattle.std.specs.Prelude.{fold, map, filter_map, ◌&&◌, ◌||◌}
use Rattle.std.specs.List.{filter, zip, list_any}
use Rattle.std.proofs.lemmas.Bool.{cases_Bool, cond_both, cond-true, cond-false, false≢true}
use Rattle.std.proofs.lemmas.List.{length-append}
use Rattle.std.proofs.lemmas.List.Elements.{All-nil, All-push}
use Rattle.service_tl.specs.declared.item.Item.TheVariants.{NewSessionCreated, MsgsAck, BadServerSalt, BadMsgNotification}
use Rattle.service_tl.specs.declared.lists.Message.{Message}
use Rattle.service_tl.specs.Items.{spelling_of}
use Rattle.packing.specs.Numbering.{numbered}
use Rattle.salt_line.specs.Line.{current_salt}
use Rattle.id_window.specs.declared.mark.Mark.{Mark}
use Rattle.id_window.specs.declared.mark.Mark.TheVariants.{Noticed as MarkNoticed, Service, Container, Waiting, Replied, Acked, Dropped}
use Rattle.msg_ids.specs.Counters.{is_odd}
use Rattle.id_window.specs.History.{History, FirstJudgement, was_accepted}
use Rattle.inbox.specs.Inbox.{was_heard}
use Rattle.inbox.specs.Verdicts.{Verdict, Accepted, Again, Noticed, Judgement}
use Rattle.inbox.specs.Judging.{Session as Remembered, judge, inner_judgements, judged_session, unfolded}
use Rattle.server_rules.specs.Server.{Name, Session, Reply, name_of, is_same, session_named, has_accepted, mark_in, reply_to, remembered}
use Rattle.server_rules.specs.Event.{Setting, State, Speaker, Envelope, Owed, speaker_in, spoken_by, speaks}
use Rattle.server_rules.specs.Speaking.{says_it_is_new, needs_salts}
use Rattle.server_rules.specs.Waiting.{tells_of, outlook, after_failures}
use Rattle.server_rules.specs.Rows.{notices, came_again, says_reply, owes, settles, acknowledges, acks_of, is_verdict_acked}
use Rattle.server_rules.specs.Calls.{each_once}
use Rattle.server_rules.specs.Sending.{messages_by}
use Rattle.server_rules.specs.Answer.{message_in, opens, takes_by}
use Rattle.law_server.specs.Lives.{Acceptance, acceptance_of, acceptance_by, judged_by, history_by, way_of}
use Rattle.law_server.specs.Finality.{accepted_numbers}
use Rattle.law_server.proofs.LivedNames.{names-same, found-named, none-some}
use Rattle.law_server.proofs.Counting.{any, jobs_at, told-at}
use Rattle.law_server.proofs.LivedJudged.{all-numbers}
use Rattle.law_server.proofs.Going.{Known}
use Rattle.law_server.proofs.Small.{IsShort, salt-length, notice-length, ack-length}
use Rattle.law_server.proofs.Mute.{Mute, IsMute, IsUnheard, Opening, mute-weaker, messages-append, failures-mute}

-- ---- nothing accepted

pub unheard-numbers : (history : History) → was_heard history ≡ false → accepted_numbers history ≡ []
unheard-numbers [] is = refl
unheard-numbers (first ∷ history) is =
    let test : FirstJudgement → Bool = λ judgement. was_accepted judgement.outcome in
    elim (cases_Bool (test first)) [
      | inl holds ↦ absurd (false≢true (sym is ∙ ap (λ (b : Bool). b || list_any test history) holds))
      | inr fails ↦
          let rest : was_heard history ≡ false = sym (ap (λ (b : Bool). b || list_any test history) fails) ∙ is in
          ap (map (λ (judgement : FirstJudgement). judgement.number)) (cond-false (test first) (first ∷ filter test history) (filter test history) fails)
          ∙ unheard-numbers history rest
    ]

pub unheard-before : (history more : History) → was_heard (history ++ more) ≡ false → was_heard history ≡ false
unheard-before [] more is = refl
unheard-before (first ∷ history) more is =
    let test : FirstJudgement → Bool = λ judgement. was_accepted judgement.outcome in
    elim (cases_Bool (test first)) [
      | inl holds ↦ absurd (false≢true (sym is ∙ ap (λ (b : Bool). b || list_any test (history ++ more)) holds))
      | inr fails ↦
          let rest : was_heard (history ++ more) ≡ false = sym (ap (λ (b : Bool). b || list_any test (history ++ more)) fails) ∙ is in
          ap (λ (b : Bool). b || list_any test history) fails ∙ unheard-before history more rest
    ]

map-none : (numbers : List ℕ) (accepted : List Acceptance) → numbers ++ map (λ one. one.number) accepted ≡ [] → accepted ≡ []
map-none [] [] is = refl
map-none [] (one ∷ accepted) is =
    let P : List ℕ → Type 0 = λ list. elim list [ [] ↦ ⊥ | n ∷ rest ↦ Unit {0} ] in absurd (subst P is tt)
map-none (number ∷ numbers) accepted is =
    let P : List ℕ → Type 0 = λ list. elim list [ [] ↦ ⊥ | n ∷ rest ↦ Unit {0} ] in absurd (subst P is tt)

none-accepted : {S : Type 0} (setting : Setting S) (envelope : Envelope) (session : Session) → was_heard (history_by setting envelope session) ≡ false
    → filter_map acceptance_of (judged_by setting envelope session) ≡ []
none-accepted setting envelope session unheard =
    map-none (accepted_numbers session.history) (filter_map acceptance_of (judged_by setting envelope session))
    (sym (all-numbers (way_of setting envelope session) (remembered session) (message_in envelope)) ∙ unheard-numbers (history_by setting envelope session) unheard)

-- ---- what the session itself says

own-message : (name : Name) (owed : List Owed) (one : Owed) → one.name ≡ name → messages_by name (owed ++ one ∷ []) ≡ messages_by name owed ++ one.message ∷ []
own-message name owed one is =
    messages-append name owed (one ∷ [])
    ∙ ap (λ (l : List Owed). messages_by name owed ++ map (λ (one : Owed). one.message) l)
    (cond-true (is_same name one.name) (one ∷ []) [] (names-same name one.name (sym is)))

-- what is kept when the session speaks
pub record Kept (S : Type 0) (mute : Mute) (Owes : List Message → Type 0) (session : Session) (after : Speaker S) : Type 0 where
  pub name : name_of after.session ≡ name_of session
  pub unheard : IsUnheard mute (Some after.session)
  pub jobs : jobs_at mute.name any after.jobs ≡ 0
  pub owed : Owes (messages_by mute.name after.owed)
  pub sent : after.sent ≡ []

-- a speaker that is the session of this name, with such messages
pub record Stood (S : Type 0) (mute : Mute) (Owes : List Message → Type 0) (speaker : Speaker S) : Type 0 where
  pub name : name_of speaker.session ≡ mute.name
  pub unheard : IsUnheard mute (Some speaker.session)
  pub jobs : jobs_at mute.name any speaker.jobs ≡ 0
  pub owed : Owes (messages_by mute.name speaker.owed)
  pub sent : speaker.sent ≡ []

module _ {S : Type 0} (known : Known S) (mute : Mute) where
  own-by : (P Q : List Message → Type 0) (speak : Speaker S → Speaker S) (state : State S) (found : Option Session) → session_named mute.name state.sessions ≡ found
      → (found ≡ None → (said : List Message) → P said → Q said)
      → ((speaker : Speaker S) → Stood S mute P speaker → Kept S mute Q speaker.session (speak speaker))
      → IsMute S mute P state → IsMute S mute Q (spoken_by found speak state)
  own-by P Q speak state None is weaker speech m = mute-weaker mute P Q state (weaker refl) m
  own-by P Q speak state (Some session) is weaker speech m =
      let before = speaker_in state session in
      let after = speak before in
      let its_name : name_of session ≡ mute.name = found-named mute.name state.sessions session is in
      let U : Option Session → Type 0 = IsUnheard mute in
      let kept = speech before (record { name = its_name; unheard = subst U is m.unheard; jobs = m.jobs; owed = m.owed; sent = m.sent }) in
      let found : session_named mute.name (spoken_by (Some session) speak state).sessions ≡ Some after.session =
      ap (λ (found : Option Session). session_named mute.name (spoken_by found speak state).sessions) (sym is)
      ∙ known.own mute.name speak state session is (kept.name ∙ its_name) in
      record { unheard = subst U (sym found) kept.unheard; jobs = kept.jobs; owed = kept.owed; sent = kept.sent }

  pub own-mute : (P Q : List Message → Type 0) (speak : Speaker S → Speaker S) (state : State S)
      → (session_named mute.name state.sessions ≡ None → (said : List Message) → P said → Q said)
      → ((speaker : Speaker S) → Stood S mute P speaker → Kept S mute Q speaker.session (speak speaker))
      → IsMute S mute P state → IsMute S mute Q (speaks mute.name speak state)
  own-mute P Q speak state weaker speech m = own-by P Q speak state (session_named mute.name state.sessions) refl weaker speech m

-- ---- it says that it is new

-- it says so, and no more
abbrev pub Nothing : List Message → Type 0
Nothing said = said ≡ []

module _ {S : Type 0} (setting : Setting S) (mute : Mute) where
  abbrev pub New : ℕ → List Message → Type 0
  New most said = Opening most mute.first mute.unique said

  pub says-new : (speaker : Speaker S) → name_of speaker.session ≡ mute.name → speaker.session.first ≡ mute.first → speaker.session.unique ≡ mute.unique
      → messages_by mute.name speaker.owed ≡ [] → New 0 (messages_by mute.name (says_it_is_new setting speaker).owed)
  says-new speaker name first unique none =
      let ready = needs_salts setting 1 speaker in
      let salt = current_salt ready.session.salts setting.now in
      let item = NewSessionCreated speaker.session.first speaker.session.unique salt in
      let one : Owed = record { name = name_of speaker.session; message = numbered setting.now speaker.session.counters item } in
      let all : messages_by mute.name (speaker.owed ++ one ∷ []) ≡ one.message ∷ [] =
      own-message mute.name speaker.owed one name ∙ ap (λ (said : List Message). said ++ one.message ∷ []) none in
      let named_so : one.message.body ≡ spelling_of (NewSessionCreated mute.first mute.unique salt) =
      ap (λ (n : ℕ). spelling_of (NewSessionCreated n speaker.session.unique salt)) first
      ∙ ap (λ (n : ℕ). spelling_of (NewSessionCreated mute.first n salt)) unique in
      (one.message, [], all, (salt, named_so), omega arith, All-nil IsShort)

  -- one short message more
  more-said : (most : ℕ) (said : List Message) (message : Message) → IsShort message → New most said → New (most + 1) (said ++ message ∷ [])
  more-said most said message short opening =
      let few = opening.4 in (
        opening.0,
        opening.1 ++ message ∷ [],
        ap (λ (list : List Message). list ++ message ∷ []) opening.2,
        opening.3,
        (let more = length-append opening.1 (message ∷ []) in omega arith),
        All-push IsShort opening.1 message opening.5 short,
      )

  -- its acknowledgement of one number at most
  acks-said : (numbers : List ℕ) (speaker : Speaker S) → length numbers ≤ 1 → name_of speaker.session ≡ mute.name → New 0 (messages_by mute.name speaker.owed)
      → New 1 (messages_by mute.name (acknowledges setting numbers speaker).owed)
  acks-said [] speaker few name said =
      (said.0, said.1, said.2, said.3, (let none = said.4 in omega arith), said.5)
  acks-said (number ∷ []) speaker few name said =
      let one : Owed = record { name = name_of speaker.session; message = numbered setting.now speaker.session.counters (MsgsAck (number ∷ [])) } in
      let P : List Message → Type 0 = New 1 in
      let short : IsShort one.message = let is = ack-length number in omega arith in
      subst P (sym (own-message mute.name speaker.owed one name)) (more-said 0 (messages_by mute.name speaker.owed) one.message short said)
  acks-said (number ∷ (other ∷ numbers)) speaker few name said = absurd (omega arith)

  acks-kept : (numbers : List ℕ) (session : Session) (speaker : Speaker S) → length numbers ≤ 1 → name_of session ≡ mute.name → Kept S mute (New 0) session speaker
      → Kept S mute (New 1) session (acknowledges setting numbers speaker)
  acks-kept [] session speaker few name kept =
      record { name = kept.name; unheard = kept.unheard; jobs = kept.jobs; owed = acks-said [] speaker few (kept.name ∙ name) kept.owed; sent = kept.sent }
  acks-kept (number ∷ numbers) session speaker few name kept = record {
    name = kept.name;
    unheard = kept.unheard;
    jobs = kept.jobs;
    owed = acks-said (number ∷ numbers) speaker few (kept.name ∙ name) kept.owed;
    sent = kept.sent;
  }

  pub opens-kept : (later : History) (judged : List Judgement) → was_heard later ≡ false → length (acks_of judged) ≤ 1 → (speaker : Speaker S) → Stood S mute Nothing speaker
      → Kept S mute (New 1) speaker.session (opens setting later judged speaker)
  opens-kept later judged unheard few speaker stood =
      let ready : Speaker S = record speaker { session = record speaker.session { history = later } } in
      let said = says_it_is_new setting ready in
      let P : Speaker S → Type 0 = λ first. Kept S mute (New 1) speaker.session (acknowledges setting (acks_of judged) first) in
      subst P (sym (cond-false (has_accepted ready.session) ready said unheard))
      (acks-kept (acks_of judged) speaker.session said few stood.name (record {
        name = refl;
        unheard = (stood.unheard.0, stood.unheard.1, stood.unheard.2, unheard);
        jobs = stood.jobs;
        owed = says-new ready stood.name stood.unheard.0 stood.unheard.1 stood.owed;
        sent = stood.sent;
      }))

  -- ---- it answers a message that it doesn't accept

  notices-kept : (number seq code : ℕ) (speaker : Speaker S) → Stood S mute (New 1) speaker → Kept S mute (New 2) speaker.session (notices setting number seq code speaker)
  notices-kept number seq code speaker stood =
      let ready = needs_salts setting 1 speaker in
      let salt = current_salt ready.session.salts setting.now in
      let N : List Message → Type 0 = New 2 in
      cond_both (eqb code 48) _ _ (Kept S mute (New 2) speaker.session)
      (λ is.
      let one : Owed = record { name = name_of speaker.session; message = numbered setting.now speaker.session.counters (BadServerSalt number seq 48 salt) } in
      let short : IsShort one.message = let is = salt-length number seq salt in omega arith in
      record {
        name = refl;
        unheard = stood.unheard;
        jobs = stood.jobs;
        owed = subst N (sym (own-message mute.name speaker.owed one stood.name)) (more-said 1 (messages_by mute.name speaker.owed) one.message short stood.owed);
        sent = stood.sent;
      })
      (λ is.
      let one : Owed = record { name = name_of speaker.session; message = numbered setting.now speaker.session.counters (BadMsgNotification number seq code) } in
      let short : IsShort one.message = let is = notice-length number seq code in omega arith in
      record {
        name = refl;
        unheard = stood.unheard;
        jobs = stood.jobs;
        owed = subst N (sym (own-message mute.name speaker.owed one stood.name)) (more-said 1 (messages_by mute.name speaker.owed) one.message short stood.owed);
        sent = stood.sent;
      })

  new-more : (said : List Message) → New 1 said → New 2 said
  new-more said opening = (opening.0, opening.1, opening.2, opening.3, (let few = opening.4 in omega arith), opening.5)

  silent-kept : (speaker : Speaker S) → Stood S mute (New 1) speaker → Kept S mute (New 2) speaker.session speaker
  silent-kept speaker stood =
      record { name = refl; unheard = stood.unheard; jobs = stood.jobs; owed = new-more (messages_by mute.name speaker.owed) stood.owed; sent = stood.sent }

  again-kept : (number seq : ℕ) (mark : Option Mark) (speaker : Speaker S) → Stood S mute (New 1) speaker
      → Kept S mute (New 2) speaker.session (came_again setting number seq mark speaker)
  again-kept number seq (Some (MarkNoticed code)) speaker stood = notices-kept number seq code speaker stood
  again-kept number seq (Some (Replied good)) speaker stood =
      let P : List Reply → Type 0 = λ replies. Kept S mute (New 2) speaker.session (says_reply (reply_to number replies) speaker) in
      subst P (sym stood.unheard.2) (silent-kept speaker stood)
  again-kept number seq (Some (Dropped good)) speaker stood = notices-kept number seq 20 speaker stood
  again-kept number seq (Some Service) speaker stood = silent-kept speaker stood
  again-kept number seq (Some Container) speaker stood = silent-kept speaker stood
  again-kept number seq (Some Waiting) speaker stood = silent-kept speaker stood
  again-kept number seq (Some (Acked good)) speaker stood = silent-kept speaker stood
  again-kept number seq None speaker stood = silent-kept speaker stood

  tells-kept : (number : ℕ) (speaker : Speaker S) → Stood S mute (New 2) speaker → Kept S mute (New 2) speaker.session (tells_of number speaker)
  tells-kept number speaker stood = record {
    name = refl;
    unheard = stood.unheard;
    jobs = told-at mute.name any (outlook speaker.session speaker.jobs number) speaker.session number speaker.jobs ∙ stood.jobs;
    owed = stood.owed;
    sent = stood.sent;
  }

module _ {S : Type 0} (known : Known S) (setting : Setting S) (mute : Mute) where
  -- ---- its one judgement is settled

  settled-by : (number seq : ℕ) (verdict : Verdict) (body : List ℕ) (state : State S) → IsMute S mute (New setting mute 2) (speaks mute.name (owes setting number seq verdict body) state)
      → IsMute S mute (New setting mute 2) (after_failures setting (speaks mute.name (tells_of number) (speaks mute.name (owes setting number seq verdict body) state)))
  settled-by number seq verdict body state m =
      let done = speaks mute.name (owes setting number seq verdict body) state in
      failures-mute known mute (New setting mute 2) setting (speaks mute.name (tells_of number) done)
      (own-mute known mute (New setting mute 2) (New setting mute 2) (tells_of number) done (λ none said is. is) (tells-kept setting mute number) m)

  pub settles-own : (message : Message) (verdict : Verdict) (state : State S) → acceptance_by message.number verdict message.body ≡ None
      → IsMute S mute (New setting mute 1) state
      → IsMute S mute (New setting mute 2) (settles setting mute.name state (record { number = message.number; seq = message.seq; verdict = verdict }, message.body))
  settles-own message (Accepted item) state none m =
      absurd (none-some (record { number = message.number; item = item; body = message.body }) (sym none))
  settles-own message (Again mark) state none m =
      settled-by message.number message.seq (Again mark) message.body state
      (own-mute known mute (New setting mute 1) (New setting mute 2) (owes setting message.number message.seq (Again mark) message.body) state (λ none said is. new-more setting mute said is)
      (λ speaker stood. again-kept setting mute message.number message.seq (mark_in speaker.session message.number) speaker stood) m)
  settles-own message (Noticed code) state none m =
      settled-by message.number message.seq (Noticed code) message.body state
      (own-mute known mute (New setting mute 1) (New setting mute 2) (owes setting message.number message.seq (Noticed code) message.body) state (λ none said is. new-more setting mute said is)
      (λ speaker stood. notices-kept setting mute message.number message.seq code speaker stood) m)

  -- ---- it takes the packet

  -- what is judged where the first verdict is this one
  abbrev listed : Message → Remembered → Verdict → List Judgement
  listed message next verdict =
      record { number = message.number; seq = message.seq; verdict = verdict } ∷ inner_judgements next (unfolded verdict message)

  abbrev paired : Message → Remembered → Verdict → List (Judgement × List ℕ)
  paired message next verdict = zip (listed message next verdict) (map (λ one. one.body) (message ∷ unfolded verdict message))

  one-ack : (judgement : Judgement) → length (acks_of (judgement ∷ [])) ≤ 1
  one-ack judgement =
      cond_both (is_odd judgement.seq && is_verdict_acked judgement.verdict) (judgement ∷ []) []
      (λ (l : List Judgement). length (each_once (map (λ judgement. judgement.number) l)) ≤ 1) (λ is. omega arith) (λ is. omega arith)

  one-taken : (message : Message) (verdict : Verdict) (later : History) (state : State S) (session : Session) → session_named mute.name state.sessions ≡ Some session
      → was_heard later ≡ false → acceptance_by message.number verdict message.body ≡ None → IsMute S mute Nothing state
      → IsMute S mute (New setting mute 2)
      (settles setting mute.name (speaks mute.name (opens setting later (record { number = message.number; seq = message.seq; verdict = verdict } ∷ [])) state)
      (record { number = message.number; seq = message.seq; verdict = verdict }, message.body))
  one-taken message verdict later state session found unheard none m =
      let judgement : Judgement = record { number = message.number; seq = message.seq; verdict = verdict } in
      let judged = judgement ∷ [] in
      settles-own message verdict (speaks mute.name (opens setting later judged) state) none
      (own-mute known mute Nothing (New setting mute 1) (opens setting later judged) state (λ gone said is. absurd (none-some session (sym gone ∙ found)))
      (opens-kept setting mute later judged unheard (one-ack judgement)) m)

  by-verdict : (message : Message) (next : Remembered) (verdict : Verdict) (later : History) (state : State S) (session : Session) → session_named mute.name state.sessions ≡ Some session
      → was_heard later ≡ false → filter_map acceptance_of (paired message next verdict) ≡ [] → IsMute S mute Nothing state
      → IsMute S mute (New setting mute 2)
      (fold (settles setting mute.name) (speaks mute.name (opens setting later (listed message next verdict)) state) (paired message next verdict))
  by-verdict message next (Accepted item) later state session found unheard none m =
      let P : List Acceptance → Type 0 = λ list. elim list [ [] ↦ ⊥ | one ∷ rest ↦ Unit {0} ] in absurd (subst P none tt)
  by-verdict message next (Again mark) later state session found unheard none m = one-taken message (Again mark) later state session found unheard refl m
  by-verdict message next (Noticed code) later state session found unheard none m = one-taken message (Noticed code) later state session found unheard refl m

  pub takes-mute : (envelope : Envelope) (session : Session) (state : State S) → session_named mute.name state.sessions ≡ Some session
      → was_heard (history_by setting envelope session) ≡ false → IsMute S mute Nothing state
      → IsMute S mute (New setting mute 2) (takes_by setting envelope (Some session) state)
  takes-mute envelope session state found unheard m =
      let way = way_of setting envelope session in
      let message = message_in envelope in
      let verdict = judge way (remembered session) message in
      let next = judged_session way (remembered session) message in
      let later = history_by setting envelope session in
      let P : Name → Type 0 = λ name.
      IsMute S mute (New setting mute 2) (fold (settles setting name) (speaks name (opens setting later (listed message next verdict)) state) (paired message next verdict)) in
      subst P (sym (found-named mute.name state.sessions session found))
      (by-verdict message next verdict later state session found unheard (none-accepted setting envelope session unheard) m)
