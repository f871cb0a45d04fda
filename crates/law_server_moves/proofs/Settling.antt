-- The judgements of a packet are settled.
use Rattle.std.proofs.Common.{◌≡◌, ◌≢◌, ℕ, ◌≤◌, ◌==◌, ◌&&◌, not, Bool, true, false, Option, None, Some, List, [], ◌∷◌, ◌++◌, filter, fold, inl, inr, refl, sym, ap, subst, ◌∙◌, eq-eqb, append_assoc}
use Rattle.std.specs.Prelude.{⊤, ◌⊎◌, is_some}
use Rattle.std.specs.List.{All, AllByRecursion, Contains, zip}
use Rattle.std.proofs.lemmas.Bool.{cond_both}
use Rattle.std.proofs.lemmas.List.Elements.{All-contains, All-head, All-tail}
use Rattle.salt_line.specs.Line.{Line}
use Rattle.service_tl.specs.declared.item.Item.{Item}
use Rattle.service_tl.specs.declared.item.Item.TheVariants.{DestroySession, DestroySessionOk, DestroySessionNone}
use Rattle.id_window.specs.History.{FirstJudgement, History, Refused, floor}
use Rattle.inbox.specs.Verdicts.{Judgement, Verdict, Accepted, Again, Noticed}
use Rattle.waits.specs.declared.job.Unfinished.{Unfinished}
use Rattle.waits.specs.Jobs.{Queue, is_of}
use Rattle.server_rules.specs.Server.{Name, Reply, Session, is_named, name_of, session_named}
use Rattle.server_rules.specs.Event.{Setting, Speaker, State, lost, speaker_in, speaks}
use Rattle.server_rules.specs.Speaking.{says}
use Rattle.server_rules.specs.Waiting.{after_failures, tells_of}
use Rattle.server_rules.specs.Rows.{destroys, owes, row, settles}
use Rattle.law_server.specs.Order.{HasNoJob, IsGoingOn, IsMidway, IsMidwayAt, IsOrderlyAt, IsTold, IsUnanswered, jobs_of, opens_of}
use Rattle.law_server.specs.Going.{open_by, open_only}
use Rattle.law_server.specs.Speech.{SaidFor}
use Rattle.law_server.specs.Lives.{request_of}
use Rattle.law_moves.specs.Table as moves
use Rattle.law_moves.specs.Table.Outcome.{AcceptedCall}
use Rattle.law_moves.specs.World.{World, WasGiven}
use Rattle.law_moves.specs.Lawful.{WasNoCall}
use Rattle.law_moves.specs.Move.{Move}
use Rattle.law_moves.specs.Reached.{AreLawful, Reached, after_all}
use Rattle.law_server_moves.specs.Leading.{Leads}
use Rattle.law_client.specs.Packets.{item_there}
use Rattle.packing.specs.Numbering.{after_item}
use Rattle.law_server_moves.specs.Servers.{AsksThere, CanSay, IsNoCall, Past, with_lost}
use Rattle.law_server_moves.specs.Speaking.{IsPlain, IsDue, IsOpen, IsWithin, SpeaksThere, with_line}
use Rattle.law_server_moves.specs.Events.{AreLost, AreOpenJobs, EventStands, lined, with_lines}
use Rattle.law_server_moves.proofs.Lists.{all_of, each_of, kept_in}
use Rattle.law_server_moves.proofs.Leading.{GoOn as MovesGoOn, goes_on, leads_so, stays}
use Rattle.law_server_moves.proofs.Speech.{Adds}
use Rattle.law_server_moves.proofs.Words.{owes_row, says_it, tells_it}
use Rattle.law_server_moves.proofs.Events.{lost_on, name_is, speaks_on}
use Rattle.law_server_moves.proofs.Gone.{AreNamedApart, apart_lines, has_failures, has_spoken, lost_alike, lost_named}
use Rattle.law_server_moves.proofs.Quiet.{IsOther, IsQuiet, quiet_failures, quiet_row, quiet_tells}
use Rattle.law_server_moves.proofs.Found.{found_in, some_same}
use Rattle.law_server_moves.proofs.Ordered.{ordered_open}
use Rattle.law_server_moves.proofs.Jobs.{GivesUpAlone, IsGoing, failures_on}
use Rattle.law_server_moves.proofs.Growing.{Grown, grown_itself, owes_grown}
use Rattle.law_server_moves.proofs.Named.{IsThere, Said, Speaks, Within, before_lost, before_speaks, failures_before, failures_there, name_said, said_item, said_told, there_lost, there_speaks}

abbrev named : ℕ → ℕ → Name
named key session = record { key = key; session = session }

-- ---- in order

pub ended_at : (past : History) (opened : List ℕ) (found : Option Session) (jobs : Queue) → IsMidwayAt past opened found jobs → IsOrderlyAt found jobs
ended_at past opened None jobs h = h
ended_at past opened (Some x) jobs h = h.1.order

-- ---- what laws say

abbrev pub OwesAlone : Type 0 → Type 0
OwesAlone S = (setting : Setting S) (speaker : Speaker S) (number seq : ℕ) (verdict : Verdict) (body : List ℕ) → SaidFor S speaker (owes setting number seq verdict body speaker)

pub record Orders (S : Type 0) : Type 0 where
  pub row : (setting : Setting S) (name : Name) (number seq : ℕ) (verdict : Verdict) (body : List ℕ) (past : Name → History) (numbers : List ℕ) (state : State S)
      → IsTold number verdict (past name) → IsGoingOn past (open_only name (open_by verdict number numbers)) state.sessions state.jobs
      → IsGoingOn past (open_only name numbers) (row setting name number seq verdict body state).sessions (row setting name number seq verdict body state).jobs
  pub tells : (name : Name) (number : ℕ) (past : Name → History) (numbers : List ℕ) (state : State S) → IsGoingOn past (open_only name numbers) state.sessions state.jobs
      → IsGoingOn past (open_only name numbers) (speaks name (tells_of number) state).sessions (speaks name (tells_of number) state).jobs
  pub failures : (setting : Setting S) (past : Name → History) (opened : Name → List ℕ) (state : State S) → IsGoingOn past opened state.sessions state.jobs
      → IsGoingOn past opened (after_failures setting state).sessions (after_failures setting state).jobs
  pub own : (name : Name) (numbers : List ℕ) → open_only name numbers name ≡ numbers

pub named_alike : {S : Type 0} {before after : Speaker S} → SaidFor S before after → name_of after.session ≡ name_of before.session
named_alike {before = before} {after = after} said =
    ap (λ (k : ℕ). named k after.session.number) said.key ∙ ap (λ (n : ℕ). named before.session.key n) said.number

module _ {S : Type 0} (adds : Adds) (on : MovesGoOn) (alone : GivesUpAlone S) (owing : OwesAlone S) (said : Speaks S) (orders : Orders S)
    (setting : Setting S) (lines : Name → Line) (name : Name) (unique : ℕ) (past : Name → History) where
  abbrev There : State S → Type 0
  There state = IsThere said name unique state

  abbrev WithinIt : State S → Type 0
  WithinIt state = Within said name unique (lines name) state

  -- ---- what a judgement stands on, which lasts

  abbrev pub Asks : World → ℕ → Option (List ℕ) → Type 0
  Asks w number (Some request) = Contains (w.servers unique).judged (record { number = number; outcome = AcceptedCall request })
  Asks w number None = WasNoCall w.ups name.session number

  abbrev pub IsJudged : World → ℕ → Verdict → List ℕ → Type 0
  IsJudged w number (Noticed code) body =
      ((judgement : FirstJudgement) × Contains (past name) judgement × (judgement.number ≡ number) × (judgement.outcome ≡ Refused code))
      ⊎ ((code ≡ 20) × WasGiven w.ups name.session number × (number ≤ floor (past name)))
      ⊎ ((code ≡ 19) × IsNoCall w.ups name.session number)
  IsJudged w number (Again mark) body = WasGiven w.ups name.session number
  IsJudged w number (Accepted item) body = Asks w number (request_of item body)

  abbrev pub AreJudged : World → List Judgement → List (List ℕ) → Type 0
  AreJudged w [] bodies = ⊤
  AreJudged w (judgement ∷ judged) [] = ⊤
  AreJudged w (judgement ∷ judged) (body ∷ bodies) = IsJudged w judgement.number judgement.verdict body × AreJudged w judged bodies

  module _ (w : World) (list : List Move) (lawful : AreLawful w list) where
    abbrev later : World
    later = after_all w list

    given_still : (number : ℕ) → WasGiven w.ups name.session number → WasGiven later.ups name.session number
    given_still number h = (h.0, adds.messages w list lawful h.0 h.1, h.2, h.3)

    asks_still : (number : ℕ) (request : Option (List ℕ)) → Asks w number request → Asks later number request
    asks_still number (Some request) h = adds.judged w list lawful unique _ h
    asks_still number None h = (h.0, adds.messages w list lawful h.0 h.1, h.2, h.3, h.4)

    judged_still : (number : ℕ) (verdict : Verdict) (body : List ℕ) → IsJudged w number verdict body → IsJudged later number verdict body
    judged_still number (Noticed code) body (inl h) = inl h
    judged_still number (Noticed code) body (inr (inl h)) = inr (inl (h.0, given_still number h.1, h.2))
    judged_still number (Noticed code) body (inr (inr h)) = inr (inr (h.0, record { fits = h.1.fits; given = asks_still number None h.1.given }))
    judged_still number (Again mark) body h = given_still number h
    judged_still number (Accepted item) body h = asks_still number (request_of item body) h

    pub all_still : (judged : List Judgement) (bodies : List (List ℕ)) → AreJudged w judged bodies → AreJudged later judged bodies
    all_still [] bodies h = tt
    all_still (judgement ∷ judged) [] h = tt
    all_still (judgement ∷ judged) (body ∷ bodies) h = (judged_still judgement.number judgement.verdict body h.0, all_still judged bodies h.1)

  -- what is behind the event, and the sessions with which it began
  module _ (base : Past) (from : List Session) (from_apart : AreNamedApart from) where
    -- The event so far, with these numbers of the session open: which sessions it has lost, as they were when it began.
    pub record Going (w : World) (opened : List ℕ) (state : State S) : Type 0 where
      pub more : List Session
      pub stands : EventStands w (with_lost more base) lines state
      pub lost : AreLost (lined lines) from state.sessions more
      pub quiet : IsQuiet setting name from state
      pub order : IsGoingOn past (open_only name opened) state.sessions state.jobs
      pub there : There state

    -- ---- what is due

    module _ (w : World) (opened : List ℕ) (state : State S) (h : Going w opened state) where
      abbrev x : Session
      x = h.there.x

      its_name : name ≡ name_of x
      its_name = name_is name x (found_in (is_named name) state.sessions x h.there.found).1

      midway : (x.history ≡ past name) × IsMidway opened x.history x.replies x.counters.last (jobs_of name state.jobs)
      midway =
          subst (λ (found : Option Session). IsMidwayAt (past name) opened found (jobs_of name state.jobs)) h.there.found
          (subst (λ (numbers : List ℕ). IsMidwayAt (past name) numbers (session_named name state.sessions) (jobs_of name state.jobs)) (orders.own name opened) (h.order.each name))

      its : IsMidway opened x.history x.replies x.counters.last (jobs_of (name_of x) state.jobs)
      its = subst (λ (n : Name). IsMidway opened x.history x.replies x.counters.last (jobs_of n state.jobs)) its_name midway.1

      number_so : name.session ≡ x.number
      number_so = ap (λ (n : Name). n.session) its_name

      given_there : (number : ℕ) → WasGiven w.ups name.session number → WasGiven w.ups x.number number
      given_there number given = subst (λ (n : ℕ). WasGiven w.ups n number) number_so given

      asks_there : (number : ℕ) (request : Option (List ℕ)) → Asks w number request → AsksThere w x number request
      asks_there number (Some request) asks = subst (λ (u : ℕ). Contains (w.servers u).judged (record { number = number; outcome = AcceptedCall request })) (sym h.there.same) asks
      asks_there number None asks = subst (λ (n : ℕ). WasNoCall w.ups n number) number_so asks

      open_of : (number : ℕ) → IsUnanswered x.replies number → IsOpen number x.replies
      open_of number none was = All-contains (λ (reply : Reply). reply.call ≢ number) x.replies was.0 none was.1 was.2

      pub open_jobs : AreOpenJobs state.sessions state.jobs
      open_jobs =
          ordered_open state.sessions state.jobs (apart_lines lines state.sessions h.stands.stands.apart)
          (λ other. ended_at (past other) (open_only name opened other) (session_named other state.sessions) (jobs_of other state.jobs) (h.order.each other))

    due_of : (w : World) (opened : List ℕ) (number : ℕ) (verdict : Verdict) (body : List ℕ) (state : State S) (h : Going w (open_by verdict number opened) state) → IsJudged w number verdict body
        → IsDue w h.there.x state.jobs number verdict body
    due_of w opened number (Noticed code) body state h (inl j) =
        inl (j.0, subst (λ (history : History). Contains history j.0) (sym (midway w opened state h).0) j.1, j.2, j.3)
    due_of w opened number (Noticed code) body state h (inr (inl j)) =
        inr (inl (j.0, given_there w opened state h number j.1, inl (subst (λ (history : History). number ≤ floor history) (sym (midway w opened state h).0) j.2)))
    due_of w opened number (Noticed code) body state h (inr (inr j)) = inr (inr (j.0, record { fits = j.1.fits; given = asks_there w opened state h number None j.1.given }))
    due_of w opened number (Again mark) body state h j = given_there w opened state h number j
    due_of w opened number (Accepted item) body state h j =
        let all : List ℕ = number ∷ opened in
        let mid = its w all state h in
        let z : Session = h.there.x in
        let jobs : Queue = jobs_of (name_of z) state.jobs in (
          asks_there w all state h number (request_of item body) j,
          open_of w all state h number (All-head (IsUnanswered z.replies) number opened mid.opened.unanswered),
          all_of (λ (one : Unfinished). is_of z.key z.number one ≡ true → IsOpen one.job.number z.replies × (one.job.number ≡ number → ⊥)) state.jobs
              (λ one there of.
              let among = kept_in (is_of z.key z.number) state.jobs one there of in (
                open_of w all state h one.job.number (All-contains (λ (one : Unfinished). IsUnanswered z.replies one.job.number) jobs one mid.order.unfinished.unanswered among),
                All-contains (λ (one : Unfinished). one.job.number ≢ number) jobs one (All-head (HasNoJob jobs) number opened mid.opened.unfinished) among,
              )),
        )

    -- ---- a row

    owes_said : (number seq : ℕ) (verdict : Verdict) (body : List ℕ) (state : State S) → Said state name (owes setting number seq verdict body)
    owes_said number seq verdict body state = λ y is. owing setting (speaker_in state y) number seq verdict body

    abbrev StandsSo : State S → World → Type 0
    StandsSo state later = (more : List Session) × EventStands later (with_lost more base) lines state × AreLost (lined lines) from state.sessions more

    owes_stands : (w : World) (opened : List ℕ) (number seq : ℕ) (verdict : Verdict) (body : List ℕ) (state : State S) → Going w (open_by verdict number opened) state → IsJudged w number verdict body
        → WithinIt (speaks name (owes setting number seq verdict body) state) → Leads w (StandsSo (speaks name (owes setting number seq verdict body) state))
    owes_stands w opened number seq verdict body state h judged within =
        let speak : Speaker S → Speaker S = owes setting number seq verdict body in
        leads_so w (λ later. EventStands later (with_lost h.more base) lines (speaks name speak state)) (StandsSo (speaks name speak state))
        (λ later k. (h.more, k, lost_alike (lined lines) from state.sessions (speaks name speak state).sessions h.more (λ n. has_spoken n name speak state) h.lost))
        (speaks_on adds w (with_lost h.more base) lines state h.stands name speak
        (λ y is.
        let one : h.there.x ≡ y = some_same h.there.x y (sym h.there.found ∙ is) in
        let its_within : IsWithin (lines name) (speak (speaker_in state y)).session =
        within (speak (speaker_in state y)).session (said.own name speak state y is (name_said name state y (speak (speaker_in state y)) is (owes_said number seq verdict body state y is))) in (
          owes_said number seq verdict body state y is,
          λ k. owes_row adds setting (with_lost h.more base) (with_lines lines state.sessions) (lines name) w number seq verdict body (speaker_in state y) k
              (subst (λ (z : Session). IsDue w z state.jobs number verdict body) one (due_of w opened number verdict body state h judged)) its_within,
        )))

    -- an item that is no news to the law
    quiet_stands : (w : World) (item : Item) (state : State S) (gone : Past) → item_there item ≡ [] → IsPlain item → EventStands w gone lines state → Leads w (λ later. EventStands later gone lines (speaks name (says setting item) state))
    quiet_stands w item state gone none plain h =
        speaks_on adds w gone lines state h name (says setting item)
        (λ y is. (
          said_item setting item (speaker_in state y),
          λ k. stays w (λ later. SpeaksThere later gone (with_lines lines state.sessions) (lines name) (says setting item (speaker_in state y)))
              (says_it adds setting gone (with_lines lines state.sessions) (lines name) w (speaker_in state y) item k
              (subst (λ (l : List moves.Item). AllByRecursion (CanSay w (with_line (lines name) (record y { counters = after_item setting.now y.counters item }))) l) (sym none) tt) plain),
        ))

    other_of : (destroyed : ℕ) (b : Bool) → (not (destroyed == name.session) && b) ≡ true → name ≢ record name { session = destroyed }
    other_of destroyed b is same =
        let eq : (destroyed == name.session) ≡ true = eq-eqb destroyed name.session (sym (ap (λ (n : Name). n.session) same)) in
        let e : false ≡ true = subst (λ (c : Bool). (not c && b) ≡ true) eq is in absurd (cc)

    destroys_stands : (w : World) (opened : List ℕ) (number destroyed : ℕ) (state : State S) → Reached w → Going w opened state → Leads w (StandsSo (destroys setting number destroyed name state))
    destroys_stands w opened number destroyed state reached h =
        let other : Name = record name { session = destroyed } in
        let test : Bool = not (destroyed == name.session) && is_some (session_named other state.sessions) in
        let yes_so : State S = speaks name (says setting (DestroySessionOk destroyed)) (lost other state) in
        let no_so : State S = speaks name (says setting (DestroySessionNone destroyed)) state in
        cond_both test yes_so no_so (λ (s : State S). Leads w (StandsSo s))
        (λ is.
        let extra : List Session = filter (is_named other) (with_lines lines state.sessions) in
        let gone : Past = with_lost (h.more ++ extra) base in
        let differs : name ≢ other = other_of destroyed (is_some (session_named other state.sessions)) is in
        let are_lost : AreLost (lined lines) from (lost other state).sessions (h.more ++ extra) =
        lost_named lines from state.sessions h.more other from_apart
        (λ o there named.
        elim (each_of (IsOther setting name from) state.sessions h.quiet.others o there) [
          | inl own ↦ absurd (differs (name_is name o own ∙ sym (name_is other o named)))
          | inr old ↦ old
        ]) h.lost in
        goes_on on w (λ later. EventStands later gone lines (lost other state)) (StandsSo yes_so) reached
        (leads_so w (λ later. EventStands later (with_lost extra (with_lost h.more base)) lines (lost other state)) (λ later. EventStands later gone lines (lost other state))
        (λ later k. subst (λ (all : List Session). EventStands later (record base { lost = all }) lines (lost other state)) (append_assoc base.lost h.more extra) k)
        (lost_on adds w (with_lost h.more base) lines state h.stands other))
        (λ later reached k. leads_so later (λ last. EventStands last gone lines yes_so) (StandsSo yes_so)
        (λ last m. (h.more ++ extra, m, lost_alike (lined lines) from (lost other state).sessions yes_so.sessions (h.more ++ extra) (λ n. has_spoken n name (says setting (DestroySessionOk destroyed)) (lost other state)) are_lost))
        (quiet_stands later (DestroySessionOk destroyed) (lost other state) gone refl tt k)))
        (λ is. leads_so w (λ last. EventStands last (with_lost h.more base) lines no_so) (StandsSo no_so)
        (λ last m. (h.more, m, lost_alike (lined lines) from state.sessions no_so.sessions h.more (λ n. has_spoken n name (says setting (DestroySessionNone destroyed)) state) h.lost))
        (quiet_stands w (DestroySessionNone destroyed) state (with_lost h.more base) refl tt h.stands))

    row_stands : (w : World) (opened : List ℕ) (number seq : ℕ) (verdict : Verdict) (body : List ℕ) (state : State S) → Reached w → Going w (open_by verdict number opened) state
        → IsJudged w number verdict body → WithinIt (row setting name number seq verdict body state) → Leads w (StandsSo (row setting name number seq verdict body state))
    row_stands w opened number seq (Accepted (DestroySession destroyed)) body state reached h judged within = destroys_stands w (number ∷ opened) number destroyed state reached h
    row_stands w opened number seq (Accepted item) body state reached h judged within = owes_stands w opened number seq (Accepted item) body state h judged within
    row_stands w opened number seq (Again mark) body state reached h judged within = owes_stands w opened number seq (Again mark) body state h judged within
    row_stands w opened number seq (Noticed code) body state reached h judged within = owes_stands w opened number seq (Noticed code) body state h judged within

    -- ---- the session stays there

    destroys_there : (number destroyed : ℕ) (state : State S) → There state → There (destroys setting number destroyed name state)
    destroys_there number destroyed state h =
        let other : Name = record name { session = destroyed } in
        cond_both (not (destroyed == name.session) && is_some (session_named other state.sessions)) (speaks name (says setting (DestroySessionOk destroyed)) (lost other state))
        (speaks name (says setting (DestroySessionNone destroyed)) state) There
        (λ is. there_speaks said name unique name (says setting (DestroySessionOk destroyed)) (lost other state) (λ y found. said_item setting (DestroySessionOk destroyed) (speaker_in (lost other state) y))
        (there_lost said name unique other state (other_of destroyed (is_some (session_named other state.sessions)) is) h))
        (λ is. there_speaks said name unique name (says setting (DestroySessionNone destroyed)) state (λ y found. said_item setting (DestroySessionNone destroyed) (speaker_in state y)) h)

    row_there : (number seq : ℕ) (verdict : Verdict) (body : List ℕ) (state : State S) → There state → There (row setting name number seq verdict body state)
    row_there number seq (Accepted (DestroySession destroyed)) body state h = destroys_there number destroyed state h
    row_there number seq (Accepted item) body state h = there_speaks said name unique name (owes setting number seq (Accepted item) body) state (owes_said number seq (Accepted item) body state) h
    row_there number seq (Again mark) body state h = there_speaks said name unique name (owes setting number seq (Again mark) body) state (owes_said number seq (Again mark) body state) h
    row_there number seq (Noticed code) body state h = there_speaks said name unique name (owes setting number seq (Noticed code) body) state (owes_said number seq (Noticed code) body state) h

    tells_there : (number : ℕ) (state : State S) → There state → There (speaks name (tells_of number) state)
    tells_there number state h = there_speaks said name unique name (tells_of number) state (λ y found. said_told number (speaker_in state y)) h

    -- ---- salts before

    abbrev before : (speak : Speaker S → Speaker S) (state : State S) → Said state name speak → ((y : Session) → session_named name state.sessions ≡ Some y → Grown y (speak (speaker_in state y)).session)
        → WithinIt (speaks name speak state) → WithinIt state
    before speak state its grows h = before_speaks said name unique (lines name) name speak state its grows h

    destroys_before : (number destroyed : ℕ) (state : State S) → WithinIt (destroys setting number destroyed name state) → WithinIt state
    destroys_before number destroyed state =
        let other : Name = record name { session = destroyed } in
        cond_both (not (destroyed == name.session) && is_some (session_named other state.sessions)) (speaks name (says setting (DestroySessionOk destroyed)) (lost other state))
        (speaks name (says setting (DestroySessionNone destroyed)) state) (λ (s : State S). WithinIt s → WithinIt state)
        (λ is h. before_lost said name unique (lines name) other state (other_of destroyed (is_some (session_named other state.sessions)) is)
        (before (says setting (DestroySessionOk destroyed)) (lost other state) (λ y found. said_item setting (DestroySessionOk destroyed) (speaker_in (lost other state) y)) (λ y found. grown_itself y) h))
        (λ is h. before (says setting (DestroySessionNone destroyed)) state (λ y found. said_item setting (DestroySessionNone destroyed) (speaker_in state y)) (λ y found. grown_itself y) h)

    owes_before : (number seq : ℕ) (verdict : Verdict) (body : List ℕ) (state : State S) → WithinIt (speaks name (owes setting number seq verdict body) state) → WithinIt state
    owes_before number seq verdict body state h =
        before (owes setting number seq verdict body) state (owes_said number seq verdict body state) (λ y found. owes_grown setting number seq verdict body (speaker_in state y)) h

    row_before : (number seq : ℕ) (verdict : Verdict) (body : List ℕ) (state : State S) → WithinIt (row setting name number seq verdict body state) → WithinIt state
    row_before number seq (Accepted (DestroySession destroyed)) body state h = destroys_before number destroyed state h
    row_before number seq (Accepted item) body state h = owes_before number seq (Accepted item) body state h
    row_before number seq (Again mark) body state h = owes_before number seq (Again mark) body state h
    row_before number seq (Noticed code) body state h = owes_before number seq (Noticed code) body state h

    abbrev rowed : Judgement → List ℕ → State S → State S
    rowed judgement body state = row setting name judgement.number judgement.seq judgement.verdict body state

    row_within : (judgement : Judgement) (body : List ℕ) (state : State S) → WithinIt (settles setting name state (judgement, body)) → WithinIt (rowed judgement body state)
    row_within judgement body state h =
        let done : State S = rowed judgement body state in
        before (tells_of judgement.number) done (λ y found. said_told judgement.number (speaker_in done y)) (λ y found. grown_itself y)
        (failures_before said name unique (lines name) alone setting (speaks name (tells_of judgement.number) done) h)

    pub all_within : (judged : List Judgement) (bodies : List (List ℕ)) (state : State S) → WithinIt (fold (settles setting name) state (zip judged bodies)) → WithinIt state
    all_within [] bodies state h = h
    all_within (judgement ∷ judged) [] state h = h
    all_within (judgement ∷ judged) (body ∷ bodies) state h =
        row_before judgement.number judgement.seq judgement.verdict body state
        (row_within judgement body state (all_within judged bodies (settles setting name state (judgement, body)) h))

    -- ---- a judgement is settled

    tells_stands : (w : World) (number : ℕ) (state : State S) (gone : Past) → EventStands w gone lines state → Leads w (λ later. EventStands later gone lines (speaks name (tells_of number) state))
    tells_stands w number state gone h =
        speaks_on adds w gone lines state h name (tells_of number)
        (λ y is. (
          said_told number (speaker_in state y),
          λ k. stays w (λ later. SpeaksThere later gone (with_lines lines state.sessions) (lines name) (tells_of number (speaker_in state y)))
              (tells_it adds setting gone (with_lines lines state.sessions) (lines name) w number (speaker_in state y) k),
        ))

    settles_on : (w : World) (judgement : Judgement) (body : List ℕ) (opened : List ℕ) (state : State S) → Reached w → Going w (open_by judgement.verdict judgement.number opened) state
        → IsTold judgement.number judgement.verdict (past name) → IsJudged w judgement.number judgement.verdict body → WithinIt (settles setting name state (judgement, body))
        → Leads w (λ later. Going later opened (settles setting name state (judgement, body)))
    settles_on w judgement body opened state reached h told judged within =
        let number : ℕ = judgement.number in
        let done : State S = rowed judgement body state in
        let heard : State S = speaks name (tells_of number) done in
        let done_order = orders.row setting name number judgement.seq judgement.verdict body past opened state told h.order in
        let heard_order = orders.tells name number past opened done done_order in
        let heard_there : There heard = tells_there number done (row_there number judgement.seq judgement.verdict body state h.there) in
        let heard_quiet : IsQuiet setting name from heard = quiet_tells setting name from number done
        (quiet_row setting name from (λ number seq verdict body speaker. named_alike (owing setting speaker number seq verdict body)) number judgement.seq judgement.verdict body state h.quiet) in
        goes_on on w (StandsSo done) (λ later. Going later opened (after_failures setting heard)) reached
        (row_stands w opened number judgement.seq judgement.verdict body state reached h judged (row_within judgement body state within))
        (λ later reached k.
        let gone : Past = with_lost k.0 base in
        let heard_lost : AreLost (lined lines) from heard.sessions k.0 = lost_alike (lined lines) from done.sessions heard.sessions k.0 (λ n. has_spoken n name (tells_of number) done) k.2 in
        goes_on on later (λ last. EventStands last gone lines heard) (λ last. Going last opened (after_failures setting heard)) reached
        (tells_stands later number done gone k.1)
        (λ last reached m.
        let going : Going last opened heard = record { more = k.0; stands = m; lost = heard_lost; quiet = heard_quiet; order = heard_order; there = heard_there } in
        leads_so last (λ end. IsGoing end gone lines (after_failures setting heard)) (λ end. Going end opened (after_failures setting heard))
        (λ end so. record {
          more = k.0;
          stands = so.0;
          lost = lost_alike (lined lines) from heard.sessions (after_failures setting heard).sessions k.0 (λ n. has_failures setting n heard) heard_lost;
          quiet = quiet_failures setting name from heard heard_quiet;
          order = orders.failures setting past (open_only name opened) heard heard_order;
          there = failures_there said name unique alone setting heard heard_there;
        })
        (failures_on adds setting gone lines alone on last heard reached (m, open_jobs last opened heard going))))

    -- all of them

    pub all_settle : (judged : List Judgement) (bodies : List (List ℕ)) (w : World) (state : State S) → Reached w → Going w (opens_of judged) state
        → All (λ judgement. IsTold judgement.number judgement.verdict (past name)) judged → AreJudged w judged bodies → WithinIt (fold (settles setting name) state (zip judged bodies))
        → Leads w (λ later. (opened : List ℕ) × Going later opened (fold (settles setting name) state (zip judged bodies)))
    all_settle [] bodies w state reached h told are within = stays w (λ later. (opened : List ℕ) × Going later opened state) ([], h)
    all_settle (judgement ∷ judged) [] w state reached h told are within = stays w (λ later. (opened : List ℕ) × Going later opened state) (opens_of (judgement ∷ judged), h)
    all_settle (judgement ∷ judged) (body ∷ bodies) w state reached h told are within =
        let next : State S = settles setting name state (judgement, body) in
        let P : Judgement → Type 0 = λ judgement. IsTold judgement.number judgement.verdict (past name) in
        let l = settles_on w judgement body (opens_of judged) state reached h (All-head P judgement judged told) are.0 (all_within judged bodies next within) in
        goes_on on w (λ later. Going later (opens_of judged) next × AreJudged later judged bodies) (λ later. (opened : List ℕ) × Going later opened (fold (settles setting name) next (zip judged bodies))) reached
        (record { moves = l.moves; lawful = l.lawful; own = l.own; gives = (l.gives, all_still w l.moves l.lawful judged bodies are.1) })
        (λ later reached k. all_settle judged bodies later next reached k.0 (All-tail P judgement judged told) k.1 within)

    -- the order and the session itself, whatever stands there

    pub order_fold : (judged : List Judgement) (bodies : List (List ℕ)) (state : State S) → IsGoingOn past (open_only name (opens_of judged)) state.sessions state.jobs
        → All (λ judgement. IsTold judgement.number judgement.verdict (past name)) judged
        → (opened : List ℕ) × IsGoingOn past (open_only name opened) (fold (settles setting name) state (zip judged bodies)).sessions (fold (settles setting name) state (zip judged bodies)).jobs
    order_fold [] bodies state h told = ([], h)
    order_fold (judgement ∷ judged) [] state h told = (opens_of (judgement ∷ judged), h)
    order_fold (judgement ∷ judged) (body ∷ bodies) state h told =
        let P : Judgement → Type 0 = λ judgement. IsTold judgement.number judgement.verdict (past name) in
        let done : State S = rowed judgement body state in
        let heard : State S = speaks name (tells_of judgement.number) done in
        order_fold judged bodies (after_failures setting heard)
        (orders.failures setting past (open_only name (opens_of judged)) heard
        (orders.tells name judgement.number past (opens_of judged) done
        (orders.row setting name judgement.number judgement.seq judgement.verdict body past (opens_of judged) state (All-head P judgement judged told) h)))
        (All-tail P judgement judged told)

    pub there_fold : (judged : List Judgement) (bodies : List (List ℕ)) (state : State S) → There state → There (fold (settles setting name) state (zip judged bodies))
    there_fold [] bodies state h = h
    there_fold (judgement ∷ judged) [] state h = h
    there_fold (judgement ∷ judged) (body ∷ bodies) state h =
        let done : State S = rowed judgement body state in
        let heard : State S = speaks name (tells_of judgement.number) done in
        there_fold judged bodies (after_failures setting heard)
        (failures_there said name unique alone setting heard (tells_there judgement.number done (row_there judgement.number judgement.seq judgement.verdict body state h)))
