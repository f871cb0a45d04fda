-- A server stands still while clients move.
use Rattle.std.proofs.Common.{◌≡◌, ℕ, List, ◌++◌, reverse, inl, inr, sym, ap, subst, ◌∙◌}
use Rattle.std.specs.List.{All, AllByRecursion, Contains}
use Rattle.waits.specs.Jobs.{Queue}
use Rattle.server_rules.specs.Server.{Session, Reply}
use Rattle.law_moves.specs.Table as moves
use Rattle.law_moves.specs.World.{World}
use Rattle.law_moves.specs.Move.{Move}
use Rattle.law_moves.specs.Move.Move.{Own, Send, Make, Draw, Judge, Forget, Answer, Speak, Hear, Lose}
use Rattle.law_moves.specs.Extends.{IsOfClient, LeavesEntries, LeavesServers}
use Rattle.law_moves.specs.Reached.{AreLawful, after_all}
use Rattle.law_server_moves.specs.Servers.{AreEntered, IsJobThere, IsLost, IsReplyThere, IsStanding, Past, ServerStands, WasAnswered}
use Rattle.law_server_moves.proofs.Lists.{map_all}
use Rattle.law_server_moves.proofs.Others.{job_left, lost_left, standing_left}

-- messages are only added
pub reply_more : (w v : World) (session : Session) (reply : Reply) → v.entries ≡ w.entries → ((message : moves.Message) → Contains w.ups message → Contains v.ups message)
    → IsReplyThere w session reply → IsReplyThere v session reply
reply_more w v session reply entries grows (inl h) = inl (h.0, subst (λ (l : List moves.Entry). Contains l h.0) (sym entries) h.1, h.2, h.3, h.4)
reply_more w v session reply entries grows (inr h) = inr (h.0, grows h.0 h.1, h.2, h.3, h.4)

pub left_alone : (w v : World) (past : Past) (sessions : List Session) (jobs : Queue) → v.servers ≡ w.servers → v.entries ≡ w.entries
    → ((message : moves.Message) → Contains w.ups message → Contains v.ups message) → ServerStands w past sessions jobs → ServerStands v past sessions jobs
left_alone w v past sessions jobs servers entries grows s =
    let same : (x : Session) → v.servers x.unique ≡ w.servers x.unique = λ x. ap (λ (f : ℕ → moves.ServerSession). f x.unique) servers in
    record {
      standing = map_all (IsStanding w) (IsStanding v) sessions
          (λ x among h. standing_left w v x (same x)
          (map_all (IsReplyThere w x) (IsReplyThere v x) x.replies (λ reply is r. reply_more w v x reply entries grows r) h.replies)
          (subst (λ (l : List moves.Entry). AllByRecursion (λ (entry : moves.Entry). entry.server ≡ x.unique → WasAnswered entry.number x.replies) l) (sym entries) h.entries) h) s.standing;
      working = map_all (λ (x : Session). AllByRecursion (IsJobThere w x) jobs) (λ (x : Session). AllByRecursion (IsJobThere v x) jobs) sessions
          (λ x among h. map_all (IsJobThere w x) (IsJobThere v x) jobs (λ one is j. job_left w v x (same x) one j) h) s.working;
      gone = map_all (IsLost w) (IsLost v) past.lost (λ x among h. lost_left w v x (same x) h) s.gone;
      apart = s.apart;
      entered = subst (λ (l : List moves.Entry). AreEntered (past.lost ++ sessions) (reverse past.entries) l) (sym entries) s.entered;
      only = λ unique is. s.only unique (λ none. is (ap (λ (f : ℕ → moves.ServerSession). (f unique).status) servers ∙ none));
    }

all_so : (P : Move → Type 0) (Q : Move → Type 0) → ((move : Move) → P move → Q move) → (list : List Move) → All P list → All Q list
all_so P Q so list h k d below = so _ (h k d below)

leaves_servers : (client : ℕ) (move : Move) → IsOfClient client move → LeavesServers move
leaves_servers client (Own act) h = tt
leaves_servers client (Send other parts) h = tt
leaves_servers client (Make unique session) h = absurd h
leaves_servers client (Draw unique salt) h = absurd h
leaves_servers client (Judge unique message outcome) h = absurd h
leaves_servers client (Forget unique number) h = absurd h
leaves_servers client (Answer unique number body reply) h = absurd h
leaves_servers client (Speak unique items) h = absurd h
leaves_servers client (Hear other packet takes) h = tt
leaves_servers client (Lose unique) h = absurd h

leaves_entries : (client : ℕ) (move : Move) → IsOfClient client move → LeavesEntries move
leaves_entries client (Own act) h = tt
leaves_entries client (Send other parts) h = tt
leaves_entries client (Make unique session) h = absurd h
leaves_entries client (Draw unique salt) h = absurd h
leaves_entries client (Judge unique message outcome) h = absurd h
leaves_entries client (Forget unique number) h = absurd h
leaves_entries client (Answer unique number body reply) h = absurd h
leaves_entries client (Speak unique items) h = absurd h
leaves_entries client (Hear other packet takes) h = tt
leaves_entries client (Lose unique) h = absurd h

-- what the law on moves promises of what is left, and of messages
pub record Leaves : Type 0 where
  pub servers : (w : World) (list : List Move) → All LeavesServers list → (after_all w list).servers ≡ w.servers
  pub entries : (w : World) (list : List Move) → All LeavesEntries list → (after_all w list).entries ≡ w.entries
  pub messages : (w : World) (list : List Move) → AreLawful w list → (message : moves.Message) → Contains w.ups message → Contains (after_all w list).ups message

pub stands_still : Leaves → (w : World) (client : ℕ) (list : List Move) (past : Past) (sessions : List Session) (jobs : Queue) → AreLawful w list
    → All (IsOfClient client) list → ServerStands w past sessions jobs → ServerStands (after_all w list) past sessions jobs
stands_still leaves w client list past sessions jobs lawful its s =
    left_alone w (after_all w list) past sessions jobs
    (leaves.servers w list (all_so (IsOfClient client) LeavesServers (leaves_servers client) list its))
    (leaves.entries w list (all_so (IsOfClient client) LeavesEntries (leaves_entries client) list its))
    (leaves.messages w list lawful) s
