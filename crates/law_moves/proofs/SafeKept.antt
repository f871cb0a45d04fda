-- What is kept says what salts, numbers and server sessions have to do with one another.
use Rattle.std.proofs.Common.{◌≡◌, ℕ, false, List, [], ◌∷◌, ◌⊎◌, inl, inr, sym, refl, ap, ◌∙◌, subst}
use Rattle.std.proofs.lemmas.Bool.{both_ways}
use Rattle.std.specs.List.{Contains}
use Rattle.law_moves.specs.Table.{CallId, Name, Item, ServerSession, Packet}
use Rattle.law_moves.specs.Table.State.{Sent}
use Rattle.law_moves.specs.Table.Outcome.{Noticed}
use Rattle.law_moves.specs.Table.Item.{NewSession, Result, Notice, WrongSalt}
use Rattle.law_moves.specs.World.{World, StandsAfter}
use Rattle.law_moves.specs.After.{after_items}
use Rattle.law_moves.specs.Lawful.{BeginsNew, MaySay}
use Rattle.law_moves.proofs.Kept.{Kept}
use Rattle.law_moves.proofs.Basics.{contains_first, empty}
use Rattle.std.proofs.lemmas.List.Elements.{Contains-append_left, Contains-append_right}
use Rattle.std.specs.Prelude.{◌++◌}
use Rattle.law_moves.specs.World.{StoodAt}
use Rattle.law_moves.specs.Safe.{Salts, Numbers, OneTaker, IsNoticeOn}
use Rattle.law_moves.proofs.Taker.{one_taker, accepted_stood, accepted_knows, salt_made_before}
use Rattle.law_moves.proofs.Heard.{made_before_living, lives}
use Rattle.law_moves.proofs.Learnt.{unsalted_if_none}
use Rattle.law_moves.proofs.HearKept.{Hears, front_heard}

pub salts_if_kept : (now : ℕ) (w : World) → Kept now w → Salts w
salts_if_kept now w k =
    record {
      nothing_learnt = λ client none.
          elim (k.clients.salted client) [
            | inl is ↦ is.1
            | inr of ↦ absurd (empty of.0 (w.clients client).learnt none of.2)
          ];
      learnt = λ client some.
          elim (k.clients.salted client) [
            | inl is ↦ absurd (some is.0)
            | inr of ↦ (of.0, of.1, of.2, (k.clients.learnt client of.0 of.2).0)
          ];
      bounded = k.clients.bounded;
      accepted = λ unique judged among accepted. accepted_knows now w unique judged k among accepted;
    }

nil_or_some : (list : List ℕ) → (list ≡ []) ⊎ ((n : ℕ) × Contains list n)
nil_or_some [] = inl refl
nil_or_some (n ∷ list) = inr (n, contains_first n list)

pub numbers_if_kept : (now : ℕ) (w : World) → Kept now w → Numbers w
numbers_if_kept now w k =
    record {
      present = λ call name older sent is. (lives now w call.client call k refl sent name older is).0;
      living = λ call name older sent is.
          let client = call.client in
          let live = lives now w client call k refl sent name older is in
          let here : Contains (w.calls call).names name = subst (λ list. Contains list name) (sym is) (contains_first name older) in
          elim (nil_or_some (w.clients client).learnt) [
            | inl none ↦ inl (none, unsalted_if_none now w call name k here (live.1 ∙ none))
            | inr some ↦
                inr (
                  sym live.1,
                  λ message among under.
                      elim (k.messages message among) [
                        | inl bare ↦
                            absurd (
                            empty some.0 message.known bare.0 (
                            subst (λ list. Contains list some.0) (sym (k.names.known call name message here among under ∙ live.1)) some.1
                            )
                            )
                        | inr of ↦ (of.0, of.1, salt_made_before now w call name of.0 message k here among under of.1)
                      ],
                )
          ];
    }

-- a notice is no `new_session_created`
notice_begins : (before rest : List Item) (item : Item) (number : ℕ)
    → IsNoticeOn number item → BeginsNew (before ++ item ∷ rest) → BeginsNew before
notice_begins [] rest (NewSession named salt) number is begins = is
notice_begins [] rest (Result other reply) number is begins = begins
notice_begins [] rest (Notice other code) number is begins = begins
notice_begins [] rest (WrongSalt other salt) number is begins = begins
notice_begins (NewSession named salt ∷ before) rest item number is begins = begins
notice_begins (Result other reply ∷ before) rest item number is begins = begins
notice_begins (Notice other code ∷ before) rest item number is begins = begins
notice_begins (WrongSalt other salt ∷ before) rest item number is begins = begins

-- a server session that says a notice has judged or forgotten the number, after the name was first sent
stands_if_noticed : (now : ℕ) (w : World) (call : CallId) (unique : ℕ) (name : Name) (item : Item)
    → Kept now w
    → Contains (w.calls call).names name
    → (w.servers unique).session ≡ name.session
    → MaySay w unique item
    → IsNoticeOn name.number item
    → StandsAfter (w.servers unique) name.first
stands_if_noticed now w call unique name (NewSession named salt) k among session says is = absurd is
stands_if_noticed now w call unique name (Result number reply) k among session says is = absurd is
stands_if_noticed now w call unique name (Notice number code) k among session (inl judged) is =
    k.takers.judged call name unique (record { number = number; outcome = Noticed code }) among session judged is
stands_if_noticed now w call unique name (Notice number code) k among session (inr (inl forgotten)) is =
    k.takers.forgotten call name unique among session (subst (λ n. Contains (w.servers unique).forgotten n) is forgotten.1)
stands_if_noticed now w call unique name (Notice number code) k among session (inr (inr none)) is =
    absurd (none.1 (call, name, among, sym session, sym is))
stands_if_noticed now w call unique name (WrongSalt number salt) k among session says is =
    k.takers.judged call name unique (record { number = number; outcome = Noticed 48 }) among session says.0 is

-- the front of the packet that was heard before the notice, and the living name that the notice reaches
noticed_by_taker : (now : ℕ) (w mid : World) (client : ℕ) (call : CallId) (packet : Packet) (item : Item) (name : Name) (older : List Name)
    → Contains w.downs packet
    → (w.servers packet.server).session ≡ (w.clients client).present
    → Contains packet.items item
    → Hears now w mid client packet.server
    → IsNoticeOn name.number item
    → (mid.clients client).ended ≡ false
    → call.client ≡ client
    → (mid.calls call).state ≡ Sent
    → (mid.calls call).names ≡ name ∷ older
    → StoodAt (w.servers packet.server) name.first
noticed_by_taker now w mid client call packet item name older made session among h is open_still mine sent names =
    let k = h.kept in
    let unique = packet.server in
    let here : Contains (mid.calls call).names name = subst (λ list. Contains list name) (sym names) (contains_first name older) in
    let live = lives now mid client call k mine sent name older names in
    let of : (mid.servers unique).session ≡ name.session =
    ap (λ (s : ℕ → ServerSession). (s unique).session) h.servers ∙ session ∙ sym h.present ∙ sym live.0 in
    let learnt : Contains (mid.clients client).learnt unique =
    elim h.known [ inl is ↦ is | inr ended ↦ absurd (both_ways (mid.clients client).ended open_still ended) ] in
    let stood : StoodAt (mid.servers unique) name.first = (
      made_before_living now mid client call unique k mine sent name older names learnt,
      stands_if_noticed now mid call unique name item k here of (k.packets.says packet item (subst (λ list. Contains list packet) (sym h.downs) made) among) is,
    ) in
    subst (λ (s : ℕ → ServerSession). StoodAt (s unique) name.first) h.servers stood

pub one_taker_if_kept : (now : ℕ) (w : World) → Kept now w → OneTaker w
one_taker_if_kept now w k =
    record {
      one = λ time unique other session at_one at_other. one_taker now w time unique other k session at_one at_other;
      accepted = λ call name unique judged among session h number accepted.
          accepted_stood now w call name unique judged k among session h number accepted;
      can_accept = λ call name unique message among sent under session standing salt.
          (salt_made_before now w call name unique message k among sent under salt, inl standing);
      noticed = λ client call name older packet before rest item takes made session items is open_still mine sent names.
          noticed_by_taker now w (after_items w client before takes) client call packet item name older made session
          (subst (λ list. Contains list item) (sym items) (Contains-append_right before (item ∷ rest) item (contains_first item rest)))
          (
          front_heard now w client packet before takes
          (
          record {
            kept = k;
            made = made;
            session = session;
            within = λ some among. subst (λ list. Contains list some) (sym items) (Contains-append_left before (item ∷ rest) some among);
          }
          )
          (
          elim (k.packets.begins packet made) [
            | inl has ↦ inl has
            | inr begins ↦ inr (notice_begins before rest item name.number is (subst BeginsNew items begins))
          ]
          )
          )
          is open_still mine sent names;
    }
