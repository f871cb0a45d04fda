-- A session speaks.
use Rattle.std.proofs.Common.{◌≡◌, ℕ, ◌<◌, ◌||◌, arith, None, Bool, true, List, [], ◌∷◌, map, reverse, inl, inr, refl, sym, subst, ◌∙◌}
use Rattle.std.specs.Prelude.{◌⊎◌}
use Rattle.std.specs.List.{AllByRecursion, Contains}
use Rattle.std.proofs.lemmas.Bool.{cases_Bool}
use Rattle.std.proofs.lemmas.List.{reverse-append}
use Rattle.std.proofs.lemmas.List.Elements.{Contains-append_left, Contains-append_right}
use Rattle.salt_line.specs.Rows.{Row}
use Rattle.id_window.specs.History.{FirstJudgement, History, Outcome, Refused, AcceptedContainer, AcceptedCall, AcceptedOther, was_accepted}
use Rattle.inbox.specs.Inbox.{was_heard}
use Rattle.waits.specs.Jobs.{Queue}
use Rattle.server_rules.specs.Server.{Reply, Session, has_accepted}
use Rattle.law_moves.specs.Table as moves
use Rattle.law_moves.specs.Table.Item.{NewSession, Result, Notice, WrongSalt}
use Rattle.law_moves.specs.Table.Outcome.{Noticed}
use Rattle.law_moves.specs.World.{World, HasAccepted}
use Rattle.law_moves.specs.Move.Move.{Speak}
use Rattle.law_moves.specs.After.{after}
use Rattle.law_moves.specs.Lawful.{BeginsNew, MaySay}
use Rattle.law_moves.specs.Reached.{Reached}
use Rattle.law_server_moves.specs.Leading.{Leads}
use Rattle.law_server_moves.specs.Servers.{CanSay, HasNoticed, HasSalt, IsOutcomeThere, IsReplyThere, IsStanding, Past, ServerStands}
use Rattle.law_server_moves.proofs.Lists.{each_of, first_or, here, later, map_all}
use Rattle.law_server_moves.proofs.Leading.{moves_once}
use Rattle.law_server_moves.proofs.Judging.{at_all}
use Rattle.law_server_moves.proofs.Still.{left_alone}

-- ---- words of rows

none_in : {X : Type 0} {x : X} → Contains [] x → ⊥
none_in h = let below : h.0 < 0 = h.1 in omega (arith, below)

mapped : (rows : List Row) (row : Row) → Contains rows row → Contains (map (λ (r : Row). r.word) rows) row.word
mapped [] row h = absurd (none_in h)
mapped (first ∷ rows) row h =
    elim (first_or row first rows h) [
      | inl same ↦ subst (λ (r : Row). Contains (r.word ∷ map (λ (r : Row). r.word) rows) row.word) (sym same) (here row.word (map (λ (r : Row). r.word) rows))
      | inr other ↦ later row.word first.word (map (λ (r : Row). r.word) rows) (mapped rows row other)
    ]

reversed : (words : List ℕ) (word : ℕ) → Contains words word → Contains (reverse words) word
reversed [] word h = absurd (none_in h)
reversed (first ∷ words) word h =
    subst (λ (l : List ℕ). Contains l word) (sym (reverse-append (first ∷ []) words))
    (elim (first_or word first words h) [
      | inl same ↦ Contains-append_right (reverse words) (first ∷ []) word (subst (λ (n : ℕ). Contains (n ∷ []) word) (sym same) (here word []))
      | inr other ↦ Contains-append_left (reverse words) (first ∷ []) word (reversed words word other)
    ])

pub salt_of : (w : World) (x : Session) → IsStanding w x → (salt : ℕ) → HasSalt x salt → Contains (w.servers x.unique).salts salt
salt_of w x its salt h =
    subst (λ (l : List ℕ). Contains l salt) (sym its.made.salts)
    (reversed (map (λ (r : Row). r.word) x.salts.rows) salt (subst (λ (n : ℕ). Contains (map (λ (r : Row). r.word) x.salts.rows) n) h.2 (mapped x.salts.rows h.0 h.1)))

-- ---- what was accepted

accepted_there : (there : moves.ServerSession) (number : ℕ) (outcome : Outcome) → was_accepted outcome ≡ true → IsOutcomeThere there number outcome → HasAccepted there
accepted_there there number (Refused code) is h = absurd (cc)
accepted_there there number AcceptedContainer is h = (record { number = number; outcome = h.0 }, h.1, h.2)
accepted_there there number AcceptedCall is h = (record { number = number; outcome = h.0 }, h.1, h.2)
accepted_there there number AcceptedOther is h = (record { number = number; outcome = h.0 }, h.1, h.2)

heard_there : (there : moves.ServerSession) (history : History) → was_heard history ≡ true
    → AllByRecursion (λ (j : FirstJudgement). IsOutcomeThere there j.number j.outcome) history → HasAccepted there
heard_there there [] is h = absurd (cc)
heard_there there (first ∷ history) is h =
    elim (cases_Bool (was_accepted first.outcome)) [
      | inl holds ↦ accepted_there there first.number first.outcome holds h.0
      | inr fails ↦ heard_there there history (subst (λ (b : Bool). (b || was_heard history) ≡ true) fails is) h.1
    ]

noticed_there : (there : moves.ServerSession) (number code : ℕ) (outcome : Outcome) → outcome ≡ Refused code → IsOutcomeThere there number outcome
    → Contains there.judged (record { number = number; outcome = Noticed code })
noticed_there there number code outcome is h = subst (λ (o : Outcome). IsOutcomeThere there number o) is h

-- what the law on moves promises of results and notices of messages that are no calls
pub record AnySaid : Type 0 where
  pub result : (w : World) (unique : ℕ) (message : moves.Message) (reply : moves.Text) → Reached w → Contains w.ups message
      → message.session ≡ (w.servers unique).session → message.call ≡ None → MaySay w unique (Result message.number reply)
  pub notice : (w : World) (unique : ℕ) (message : moves.Message) (code : ℕ) → Reached w → Contains w.ups message
      → message.session ≡ (w.servers unique).session → message.call ≡ None → MaySay w unique (Notice message.number code)

module _ (any : AnySaid) (w : World) (past : Past) (sessions : List Session) (jobs : Queue) (reached : Reached w) (s : ServerStands w past sessions jobs) (x : Session) (among : Contains sessions x) where
  its : IsStanding w x
  its = each_of (IsStanding w) sessions s.standing x among

  salt_there : (salt : ℕ) → HasSalt x salt → Contains (w.servers x.unique).salts salt
  salt_there salt h = salt_of w x its salt h

  notice_there : (number code : ℕ) → HasNoticed x number code → Contains (w.servers x.unique).judged (record { number = number; outcome = Noticed code })
  notice_there number code h =
      subst (λ (n : ℕ). Contains (w.servers x.unique).judged (record { number = n; outcome = Noticed code })) h.2
      (noticed_there (w.servers x.unique) h.0.number code h.0.outcome h.3
      (each_of (λ (j : FirstJudgement). IsOutcomeThere (w.servers x.unique) j.number j.outcome) x.history its.judged h.0 h.1))

  result_by : (call : ℕ) (content : List ℕ) (reply : Reply) → reply.call ≡ call → reply.content ≡ content → IsReplyThere w x reply → MaySay w x.unique (Result call content)
  result_by call content reply same also (inl h) = inl (h.0, h.1, h.2, h.3 ∙ same, h.4 ∙ also)
  result_by call content reply same also (inr h) =
      subst (λ (n : ℕ). MaySay w x.unique (Result n content)) (h.3 ∙ same) (any.result w x.unique h.0 content reached h.1 (h.2 ∙ sym its.made.number) h.4)

  may_say : (item : moves.Item) → CanSay w x item → MaySay w x.unique item
  may_say (NewSession unique salt) h = (h.0, salt_there salt h.1)
  may_say (Result call content) h = result_by call content h.0 h.2 h.3 (each_of (IsReplyThere w x) x.replies its.replies h.0 h.1)
  may_say (Notice number code) (inl h) = inl (notice_there number code h)
  may_say (Notice number code) (inr (inl h)) = inr (inl h)
  may_say (Notice number code) (inr (inr h)) =
      let given = h.1.given in
      subst (λ (n : ℕ). MaySay w x.unique (Notice n code)) given.3 (any.notice w x.unique given.0 code reached given.1 (given.2 ∙ sym its.made.number) given.4)
  may_say (WrongSalt number salt) h = (notice_there number 48 h.0, salt_there salt h.1)

  begins : (items : List moves.Item) → (has_accepted x ≡ true) ⊎ BeginsNew items → HasAccepted (w.servers x.unique) ⊎ BeginsNew items
  begins items (inl heard) = inl (heard_there (w.servers x.unique) x.history heard its.judged)
  begins items (inr new) = inr new

  pub speaks : (items : List moves.Item) → AllByRecursion (CanSay w x) items → (has_accepted x ≡ true) ⊎ BeginsNew items
      → Leads w (λ later. ServerStands later past sessions jobs × Contains later.downs (record { server = x.unique; items = items }))
  speaks items can new =
      moves_once w (λ later. ServerStands later past sessions jobs × Contains later.downs (record { server = x.unique; items = items })) x.unique (Speak x.unique items)
      (its.stands, at_all (MaySay w x.unique) items (map_all (CanSay w x) (MaySay w x.unique) items (λ item is h. may_say item h) can), begins items new) refl (
        left_alone w (after w (Speak x.unique items)) past sessions jobs refl refl (λ m is. is) s,
        here (record { server = x.unique; items = items }) w.downs,
      )
