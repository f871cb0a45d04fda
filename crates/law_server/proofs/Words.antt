-- What each word of a session keeps, each row keeps.
use Rattle.std.proofs.Common.{◌≡◌, ◌∙◌, ℕ, eqb, Bool, false, true, cond, Option, Some, None, List, [], ◌∷◌, ◌++◌, length, ap, sym, refl, append_assoc}
use Rattle.std.specs.Prelude.{map, fold, min, is_some, ◌&&◌, ◌==◌}
use Rattle.std.specs.List.{find, list_all, filter, All}
use Rattle.std.proofs.lemmas.Bool.{cond_both}
use Rattle.std.proofs.lemmas.List.{append-nil}
use Rattle.std.proofs.lemmas.List.Elements.{All-nil, All-push}
use Rattle.service_tl.specs.declared.item.Item.{Item}
use Rattle.service_tl.specs.declared.item.Item.TheVariants.{NewSessionCreated, RpcDropAnswer, RpcAnswerUnknown, RpcAnswerDropped, RpcResult, GetFutureSalts, FutureSalts, Ping, PingDelayDisconnect, Pong, MsgsAck, MsgsStateReq, MsgsStateInfo, MsgResendReq, BadMsgNotification, BadServerSalt, InvokeAfterMsg, InvokeAfterMsgs, AuthBindTempAuthKey, Packed, Call, Broken}
use Rattle.service_tl.specs.declared.lists.Message.{Message}
use Rattle.service_tl.specs.Items.{spelling_of}
use Rattle.service_tl.specs.Schema.{rpc_drop_answer}
use Rattle.salt_line.specs.Rows.{future_rows_max}
use Rattle.salt_line.specs.Line.{current_salt}
use Rattle.salt_line.specs.Future.{salt_rows}
use Rattle.id_window.specs.declared.mark.Mark.{Mark}
use Rattle.id_window.specs.declared.mark.Mark.TheVariants.{Noticed as MarkNoticed, Service, Container, Waiting, Replied, Acked, Dropped}
use Rattle.inbox.specs.States.{state_byte}
use Rattle.inbox.specs.Verdicts.{Verdict, Accepted, Again, Noticed}
use Rattle.packing.specs.Numbering.{numbered}
use Rattle.waits.specs.declared.job.Job.{Job}
use Rattle.waits.specs.Jobs.{Queue, accepted, is_call, first_job, without_first}
use Rattle.server_rules.specs.Server.{Reply, Binding, is_kept, kept_of, marks_of, mark_in, reply_to, name_of, has_accepted}
use Rattle.server_rules.specs.Event.{Setting, Speaker, BindingCall, Owed, Entry}
use Rattle.server_rules.specs.Speaking.{owes_message, says, says_again, says_with_salt, says_it_is_new, needs_salts, dropped, with_reply, answers, answers_in_place, records, message_of, has_said, packed_body_refused, bad_body, encrypted_message_invalid}
use Rattle.server_rules.specs.Waiting.{gives_up, tells_of, told, outlook}
use Rattle.server_rules.specs.Calls.{accepts_call, becomes_job, refusal, job_of, drops_by, drops_answer, dropped_running, binds, binds_by, with_binding, bool_true_content}
use Rattle.server_rules.specs.Rows.{notices, came_again, says_reply, tells_salts, takes_acks, acked_by, tells_states, sends_again, kept_numbered, answers_broken, accepts, future_salt_of, owes}
use Rattle.server_rules.specs.Answer.{attaches, finishes}
use Rattle.law_server.specs.Speech.{SaidFor}
use Rattle.law_server.proofs.Names.{named}

-- what holds of a speaker and is kept by each word
pub record IsKeptByWords (S : Type 0) (setting : Setting S) (P : Speaker S → Type 0) : Type 0 where
  pub says : (item : Item) (speaker : Speaker S) → P speaker → P (says setting item speaker)
  pub again : (reply : Reply) (speaker : Speaker S) → P speaker → P (says_again reply speaker)
  pub salts : (count : ℕ) (speaker : Speaker S) → P speaker → P (needs_salts setting count speaker)
  pub jobs : (jobs : Queue) (speaker : Speaker S) → P speaker → P (record speaker { jobs = jobs })
  pub bindings : (bindings : List Binding) (speaker : Speaker S) → P speaker → P (record speaker { bindings = bindings })
  pub replies : (replies : List Reply) (speaker : Speaker S) → P speaker → P (record speaker { session = record speaker.session { replies = replies } })
  pub entries : (ran : Bool) (call : ℕ) (request content : List ℕ) (speaker : Speaker S) → P speaker → P (records ran call request content speaker)

module _ {S : Type 0} (setting : Setting S) (P : Speaker S → Type 0) (words : IsKeptByWords S setting P) where
  answers-kept : (call : ℕ) (content : List ℕ) (speaker : Speaker S) → P speaker → P (answers setting call content speaker)
  answers-kept call content speaker p =
      let done = says setting (RpcResult call content) speaker in
      let message = numbered setting.now speaker.session.counters (RpcResult call content) in
      words.replies (with_reply call content message done.session.replies) done (words.says (RpcResult call content) speaker p)

  in_place-kept : (call : ℕ) (request content : List ℕ) (speaker : Speaker S) → P speaker → P (answers_in_place setting call request content speaker)
  in_place-kept call request content speaker p =
      words.entries false call request content (answers setting call content speaker) (answers-kept call content speaker p)

  tells-kept : (number : ℕ) (speaker : Speaker S) → P speaker → P (tells_of number speaker)
  tells-kept number speaker p = words.jobs (told (outlook speaker.session speaker.jobs number) speaker.session number speaker.jobs) speaker p

  with_salt-kept : (item : ℕ → Item) (speaker : Speaker S) → P speaker → P (says_with_salt setting item speaker)
  with_salt-kept item speaker p =
      let ready = needs_salts setting 1 speaker in
      words.says (item (current_salt ready.session.salts setting.now)) ready (words.salts 1 speaker p)

  new-kept : (speaker : Speaker S) → P speaker → P (says_it_is_new setting speaker)
  new-kept speaker p = with_salt-kept (λ salt. NewSessionCreated speaker.session.first speaker.session.unique salt) speaker p

  notices-kept : (number seq code : ℕ) (speaker : Speaker S) → P speaker → P (notices setting number seq code speaker)
  notices-kept number seq code speaker p =
      cond_both (eqb code 48) _ _ P
      (λ is. with_salt-kept (λ salt. BadServerSalt number seq 48 salt) speaker p)
      (λ is. words.says (BadMsgNotification number seq code) speaker p)

  reply-kept : (reply : Option Reply) (speaker : Speaker S) → P speaker → P (says_reply reply speaker)
  reply-kept None speaker p = p
  reply-kept (Some reply) speaker p = words.again reply speaker p

  again-kept : (number seq : ℕ) (mark : Option Mark) (speaker : Speaker S) → P speaker → P (came_again setting number seq mark speaker)
  again-kept number seq (Some (MarkNoticed code)) speaker p = notices-kept number seq code speaker p
  again-kept number seq (Some (Replied good)) speaker p = reply-kept (reply_to number speaker.session.replies) speaker p
  again-kept number seq (Some (Dropped good)) speaker p = notices-kept number seq 20 speaker p
  again-kept number seq (Some Service) speaker p = p
  again-kept number seq (Some Container) speaker p = p
  again-kept number seq (Some Waiting) speaker p = p
  again-kept number seq (Some (Acked good)) speaker p = p
  again-kept number seq None speaker p = p

  salts-kept : (number count : ℕ) (speaker : Speaker S) → P speaker → P (tells_salts setting number count speaker)
  salts-kept number count speaker p =
      let ready = needs_salts setting count speaker in
      words.says (FutureSalts number setting.now (map future_salt_of (salt_rows ready.session.salts setting.now count))) ready (words.salts count speaker p)

  states-kept : (number : ℕ) (numbers : List ℕ) (speaker : Speaker S) → P speaker → P (tells_states setting number numbers speaker)
  states-kept number numbers speaker p =
      let session = speaker.session in
      words.says (MsgsStateInfo number (map (state_byte session.history (marks_of session.history session.replies)) numbers)) speaker p

  replies-kept : (numbers : List ℕ) (speaker : Speaker S) → P speaker
      → P (fold (λ speaker other. says_reply (kept_numbered speaker.session.replies other) speaker) speaker numbers)
  replies-kept [] speaker p = p
  replies-kept (number ∷ numbers) speaker p =
      let reply = kept_numbered speaker.session.replies number in
      replies-kept numbers (says_reply reply speaker) (reply-kept reply speaker p)

  sends_again-kept : (number : ℕ) (numbers : List ℕ) (speaker : Speaker S) → P speaker → P (sends_again setting number numbers speaker)
  sends_again-kept number numbers speaker p =
      cond_both (list_all (λ other. is_some (kept_numbered speaker.session.replies other)) numbers) _ _ P
      (λ is. replies-kept numbers speaker p) (λ is. states-kept number numbers speaker p)

  acks-kept : (numbers : List ℕ) (speaker : Speaker S) → P speaker → P (takes_acks numbers speaker)
  acks-kept numbers speaker p = words.replies (map (acked_by numbers) speaker.session.replies) speaker p

  broken-kept : (number constructor : ℕ) (body : List ℕ) (speaker : Speaker S) → P speaker → P (answers_broken setting number constructor body speaker)
  broken-kept number constructor body speaker p =
      cond_both (eqb constructor rpc_drop_answer.number) _ _ P
      (λ is. answers-kept number bad_body speaker p) (λ is. in_place-kept number body bad_body speaker p)

  becomes-kept : (job : Job) (content : Option (List ℕ)) (speaker : Speaker S) → P speaker → P (becomes_job setting job content speaker)
  becomes-kept job (Some content) speaker p = in_place-kept job.number job.request content speaker p
  becomes-kept job None speaker p = words.jobs (accepted job speaker.jobs) speaker p

  call-kept : (number : ℕ) (numbers request : List ℕ) (speaker : Speaker S) → P speaker → P (accepts_call setting number numbers request speaker)
  call-kept number numbers request speaker p =
      let job = job_of setting number numbers request speaker in
      becomes-kept job (refusal setting job speaker) speaker p

  pub gives_up-kept : (content : List ℕ) (job : Job) (speaker : Speaker S) → P speaker → P (gives_up setting content job speaker)
  gives_up-kept content job speaker p =
      tells-kept job.number (answers_in_place setting job.number job.request content speaker) (in_place-kept job.number job.request content speaker p)

  drops_by-kept : (number : ℕ) (job : Option Job) (reply : Option Reply) (speaker : Speaker S) → P speaker → P (drops_by setting number job reply speaker)
  drops_by-kept number (Some job) reply speaker p =
      let own = answers setting number dropped_running speaker in
      let others = without_first (is_call job.key job.session job.number) own.jobs in
      let rest : Speaker S = record own { jobs = others } in
      tells-kept job.number (answers_in_place setting job.number job.request dropped_running rest)
      (in_place-kept job.number job.request dropped_running rest (words.jobs others own (answers-kept number dropped_running speaker p)))
  drops_by-kept number None (Some reply) speaker p =
      let replies = map (λ other. cond (eqb other.number reply.number) (dropped other) other) speaker.session.replies in
      let rest : Speaker S = record speaker { session = record speaker.session { replies = replies } } in
      answers-kept number (spelling_of (RpcAnswerDropped reply.number reply.seq (length (kept_of reply).body))) rest (words.replies replies speaker p)
  drops_by-kept number None None speaker p = answers-kept number (spelling_of RpcAnswerUnknown) speaker p

  drops-kept : (number call : ℕ) (speaker : Speaker S) → P speaker → P (drops_answer setting number call speaker)
  drops-kept number call speaker p =
      drops_by-kept number (first_job (is_call speaker.session.key speaker.session.number call) speaker.jobs)
      (find (λ reply. is_kept reply && (reply.call == call)) speaker.session.replies) speaker p

  binds_by-kept : (number : ℕ) (binding : Option Binding) (speaker : Speaker S) → P speaker → P (binds_by setting number binding speaker)
  binds_by-kept number None speaker p = answers-kept number encrypted_message_invalid speaker p
  binds_by-kept number (Some binding) speaker p =
      let bindings = with_binding binding speaker.bindings in
      answers-kept number bool_true_content (record speaker { bindings = bindings }) (words.bindings bindings speaker p)

  binds-kept : (call : BindingCall) (speaker : Speaker S) → P speaker → P (binds setting call speaker)
  binds-kept call speaker p = binds_by-kept call.number (setting.bound_by setting.now (name_of speaker.session) call) speaker p

  accepts-kept : (number : ℕ) (item : Item) (body : List ℕ) (speaker : Speaker S) → P speaker → P (accepts setting number item body speaker)
  accepts-kept number Packed body speaker p = in_place-kept number body packed_body_refused speaker p
  accepts-kept number (Broken constructor) body speaker p = broken-kept number constructor body speaker p
  accepts-kept number (AuthBindTempAuthKey perm nonce expires message) body speaker p =
      binds-kept (record { number = number; perm = perm; nonce = nonce; expires = expires; message = message }) speaker p
  accepts-kept number Call body speaker p = call-kept number [] body speaker p
  accepts-kept number (InvokeAfterMsg other query) body speaker p = call-kept number (other ∷ []) query speaker p
  accepts-kept number (InvokeAfterMsgs numbers query) body speaker p = call-kept number numbers query speaker p
  accepts-kept number (RpcDropAnswer call) body speaker p = drops-kept number call speaker p
  accepts-kept number (Ping ping) body speaker p = words.says (Pong number ping) speaker p
  accepts-kept number (PingDelayDisconnect ping delay) body speaker p = words.says (Pong number ping) speaker p
  accepts-kept number (GetFutureSalts count) body speaker p = salts-kept number (min count future_rows_max) speaker p
  accepts-kept number (MsgsAck numbers) body speaker p = acks-kept numbers speaker p
  accepts-kept number (MsgsStateReq numbers) body speaker p = states-kept number numbers speaker p
  accepts-kept number (MsgResendReq numbers) body speaker p = sends_again-kept number numbers speaker p
  accepts-kept number _ body speaker p = p

  pub owes-kept : (number seq : ℕ) (verdict : Verdict) (body : List ℕ) (speaker : Speaker S) → P speaker → P (owes setting number seq verdict body speaker)
  owes-kept number seq (Noticed code) body speaker p = notices-kept number seq code speaker p
  owes-kept number seq (Again mark) body speaker p = again-kept number seq (mark_in speaker.session number) speaker p
  owes-kept number seq (Accepted item) body speaker p = accepts-kept number item body speaker p

  pub finishes-kept : (job : Job) (reply : List ℕ) (speaker : Speaker S) → P speaker → P (finishes setting job reply speaker)
  finishes-kept job reply speaker p =
      let own = answers setting job.number reply speaker in
      tells-kept job.number (records true job.number job.request reply own) (words.entries true job.number job.request reply own (answers-kept job.number reply speaker p))

  attached-kept : (replies : List Reply) (speaker : Speaker S) → P speaker → P (fold (λ speaker reply. says_again reply speaker) speaker replies)
  attached-kept [] speaker p = p
  attached-kept (reply ∷ replies) speaker p = attached-kept replies (says_again reply speaker) (words.again reply speaker p)

  pub attaches-kept : (speaker : Speaker S) → P speaker → P (attaches setting speaker)
  attaches-kept speaker p =
      attached-kept (filter is_kept speaker.session.replies) (cond (has_accepted speaker.session) speaker (says_it_is_new setting speaker))
      (cond_both (has_accepted speaker.session) speaker (says_it_is_new setting speaker) P (λ is. p) (λ is. new-kept speaker p))

-- ---- a session speaks for itself

abbrev pub own_entry : ℕ → ℕ → Entry → Type 0
own_entry key number one = (one.key ≡ key) × (one.session ≡ number)

nothing-said : {S : Type 0} (speaker : Speaker S) → SaidFor S speaker speaker
nothing-said speaker = record {
  key = refl;
  number = refl;
  first = refl;
  unique = refl;
  history = refl;
  owed = ([], sym (append-nil speaker.owed), All-nil (λ (one : Owed). one.name ≡ name_of speaker.session));
  entries = ([], sym (append-nil speaker.entries), All-nil (own_entry speaker.session.key speaker.session.number));
  sent = refl;
}

module _ {S : Type 0} (setting : Setting S) (before : Speaker S) where
  abbrev Said : Speaker S → Type 0
  Said after = SaidFor S before after

  -- its name is that of before
  said-name : (speaker : Speaker S) → Said speaker → name_of speaker.session ≡ name_of before.session
  said-name speaker s =
      ap (λ (key : ℕ). named key speaker.session.number) s.key ∙ ap (λ (number : ℕ). named before.session.key number) s.number

  one-more : (message : Message) (speaker : Speaker S) → Said speaker
      → (later : List Owed) × (speaker.owed ++ record { name = name_of speaker.session; message = message } ∷ [] ≡ before.owed ++ later)
      × All (λ one. one.name ≡ name_of before.session) later
  one-more message speaker s =
      let one : Owed = record { name = name_of speaker.session; message = message } in
      let owed = s.owed in (
        owed.0 ++ one ∷ [],
        ap (λ (all : List Owed). all ++ one ∷ []) owed.1 ∙ append_assoc before.owed owed.0 (one ∷ []),
        All-push (λ (one : Owed). one.name ≡ name_of before.session) owed.0 one owed.2 (said-name speaker s),
      )

  owes-said : (message : Message) (speaker : Speaker S) → Said speaker → Said (owes_message message speaker)
  owes-said message speaker s = record {
    key = s.key;
    number = s.number;
    first = s.first;
    unique = s.unique;
    history = s.history;
    owed = one-more message speaker s;
    entries = s.entries;
    sent = s.sent;
  }

  says-said : (item : Item) (speaker : Speaker S) → Said speaker → Said (says setting item speaker)
  says-said item speaker s = record {
    key = s.key;
    number = s.number;
    first = s.first;
    unique = s.unique;
    history = s.history;
    owed = one-more (numbered setting.now speaker.session.counters item) speaker s;
    entries = s.entries;
    sent = s.sent;
  }

  enters-said : (ran : Bool) (call : ℕ) (request content : List ℕ) (speaker : Speaker S) → Said speaker → Said (records ran call request content speaker)
  enters-said ran call request content speaker s =
      let one : Entry = record {
        key = speaker.session.key;
        session = speaker.session.number;
        number = call;
        request = request;
        reply = content;
        ran = ran;
      } in
      let entries = s.entries in
      record {
        key = s.key;
        number = s.number;
        first = s.first;
        unique = s.unique;
        history = s.history;
        owed = s.owed;
        entries = (
          entries.0 ++ one ∷ [],
          ap (λ (all : List Entry). all ++ one ∷ []) entries.1 ∙ append_assoc before.entries entries.0 (one ∷ []),
          All-push (own_entry before.session.key before.session.number) entries.0 one entries.2 (s.key, s.number),
        );
        sent = s.sent;
      }

  words-said : IsKeptByWords S setting Said
  words-said = record {
    says = says-said;
    again = λ reply speaker s.
        cond_both (has_said reply.number speaker) speaker (owes_message (message_of reply) speaker) Said (λ is. s) (λ is. owes-said (message_of reply) speaker s);
    salts = λ count speaker s. record { key = s.key; number = s.number; first = s.first; unique = s.unique; history = s.history; owed = s.owed; entries = s.entries; sent = s.sent };
    jobs = λ jobs speaker s. record { key = s.key; number = s.number; first = s.first; unique = s.unique; history = s.history; owed = s.owed; entries = s.entries; sent = s.sent };
    bindings = λ bindings speaker s. record { key = s.key; number = s.number; first = s.first; unique = s.unique; history = s.history; owed = s.owed; entries = s.entries; sent = s.sent };
    replies = λ replies speaker s. record { key = s.key; number = s.number; first = s.first; unique = s.unique; history = s.history; owed = s.owed; entries = s.entries; sent = s.sent };
    entries = enters-said;
  }

  pub owes-own : (number seq : ℕ) (verdict : Verdict) (body : List ℕ) → SaidFor S before (owes setting number seq verdict body before)
  owes-own number seq verdict body = owes-kept setting Said words-said number seq verdict body before (nothing-said before)

  pub gives_up-own : (content : List ℕ) (job : Job) → SaidFor S before (gives_up setting content job before)
  gives_up-own content job = gives_up-kept setting Said words-said content job before (nothing-said before)

  pub finishes-own : (job : Job) (reply : List ℕ) → SaidFor S before (finishes setting job reply before)
  finishes-own job reply = finishes-kept setting Said words-said job reply before (nothing-said before)

  pub attaches-own : SaidFor S before (attaches setting before)
  attaches-own = attaches-kept setting Said words-said before (nothing-said before)
