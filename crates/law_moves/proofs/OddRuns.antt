-- Each odd run is lawful but for its one move, and breaks the law.
use Rattle.std.proofs.Common.{◌≡◌, ℕ, ◌<◌, List, [], ◌∷◌, None, inl, inr, refl, sym, ap, ◌∙◌, subst, arith}
use Rattle.std.specs.List.{Contains}
use Rattle.law_moves.specs.Table.{CallId, Text, Name, Message, Status, Packet, Entry, call_at}
use Rattle.law_moves.specs.Table.Item.{NewSession, Notice, WrongSalt}
use Rattle.law_moves.specs.Table.State.{Queued, Done, Refused}
use Rattle.law_moves.specs.Table.Status.{Unmade, Standing, Lost}
use Rattle.law_moves.specs.World.{World, Owns, start}
use Rattle.law_moves.specs.Reached.{Reached}
use Rattle.law_moves.specs.Once.{AtMostOne, Once, IsOfName, IsOfCall, older_names}
use Rattle.law_moves.specs.Safe.{OneTaker}
use Rattle.law_moves.specs.Witness.{question, reply, entry_of, lost}
use Rattle.law_moves.specs.Needed.{Breaks, BreaksOneTaker, world_before, world_after, RunsTwice, requeued, rerun, taken_session, taken_by_renewal, made_again, given_up_sent, given_again, not_queued, again_unsent, other_number, old_number, number_of_a_call, two_at_once, salt_of_zero, drawn_again, invented_message, judged_elsewhere, judged_again, other_body, foreign_salt, outcome_of_twenty, early_forget, other_request, answered_again, names_another, foreign_first_salt, invented_result, early_result, invented_notice, invented_wrong_salt, foreign_new_salt, silent, invented_packet, foreign_packet}
use Rattle.law_moves.proofs.Basics.{contains_first, contains_rest, contains_none, contains_cases, choice_of, call_added_cases}
use Rattle.law_moves.proofs.AfterAll.{kept_if_reached}
use Rattle.law_moves.proofs.OnceKept.{once_if_kept}
use Rattle.law_moves.proofs.SafeKept.{one_taker_if_kept}
use Rattle.law_moves.proofs.Runs.{breaks, all_clients, all_servers, bounded_start, bounded_after_all, lawful_if_tested}

once_holds : (w : World) → Reached w → Once w
once_holds w reached = once_if_kept w.time w (kept_if_reached w reached)

-- Ways to break the law

listed : {A : Type 0} (xs : List A) (x : A) (more : List A) → xs ≡ x ∷ more → Contains xs x
listed xs x more is = subst (λ list. Contains list x) (sym is) (contains_first x more)

ran_twice : (w : World) (call : CallId) (name : Name) (older : List Name) (one other : Entry) (more : List Entry)
    → (w.calls call).names ≡ name ∷ older
    → w.entries ≡ one ∷ other ∷ more
    → IsOfName w name one
    → IsOfName w name other
    → Once w
    → ⊥
ran_twice w call name older one other more names entries of_one of_other once =
    let at = listed (w.calls call).names name older names in
    let most = subst (AtMostOne (IsOfCall w call)) entries (once.once call) in
    most.0 (name, at, of_one) other (contains_first other more) (name, at, of_other)

queued_ran : (w : World) (call : CallId) (name : Name) (older : List Name) (entry : Entry) (more : List Entry)
    → (w.calls call).state ≡ Queued
    → (w.calls call).names ≡ name ∷ older
    → w.entries ≡ entry ∷ more
    → IsOfName w name entry
    → Once w
    → ⊥
queued_ran w call name older entry more queued names entries of once =
    once.queued call queued entry (listed w.entries entry more entries) (name, listed (w.calls call).names name older names, of)

refused_ran : (w : World) (call : CallId) (code : ℕ) (name : Name) (older : List Name) (entry : Entry) (more : List Entry)
    → (w.calls call).state ≡ Refused code
    → (w.calls call).names ≡ name ∷ older
    → w.entries ≡ entry ∷ more
    → IsOfName w name entry
    → Once w
    → ⊥
refused_ran w call code name older entry more refused names entries of once =
    once.refused call code refused entry (listed w.entries entry more entries) (name, listed (w.calls call).names name older names, of)

old_ran : (w : World) (call : CallId) (newest name : Name) (older : List Name) (entry : Entry) (more : List Entry)
    → (w.calls call).names ≡ newest ∷ name ∷ older
    → w.entries ≡ entry ∷ more
    → IsOfName w name entry
    → Once w
    → ⊥
old_ran w call newest name older entry more names entries of once =
    once.replaced call name entry
    (listed (older_names (w.calls call).names) name older (ap older_names names))
    (listed w.entries entry more entries) of

-- what a list of one thing holds is that thing
only : {A : Type 0} (x y : A) → Contains (x ∷ []) y → y ≡ x
only x y h = elim (contains_cases y x [] h) [ inl is ↦ is | inr none ↦ absurd (contains_none y none) ]

done_unrun : (w : World) (call : CallId) (answer : Text) → (w.calls call).state ≡ Done answer → w.entries ≡ [] → Once w → ⊥
done_unrun w call answer done entries once =
    let entry = once.done call answer done in contains_none entry.0 (subst (λ list. Contains list entry.0) entries entry.1)

wrong_request : (w : World) (call : CallId) (name : Name) (older : List Name) (entry : Entry) (more : List Entry)
    → (w.calls call).names ≡ name ∷ older
    → w.entries ≡ entry ∷ more
    → IsOfName w name entry
    → (entry.request ≡ (w.calls call).body → ⊥)
    → Once w
    → ⊥
wrong_request w call name older entry more names entries of differs once =
    let sent = once.as_sent entry (listed w.entries entry more entries) in
    let is : call ≡ sent.0 = sent.4 call (name, listed (w.calls call).names name older names, of) in
    differs (sent.2 ∙ ap (λ c. (w.calls c).body) (sym is))

of_two : (w : World) (one other : CallId) (name same : Name) (older elder : List Name) (entry : Entry) (more : List Entry)
    → (w.calls one).names ≡ name ∷ older
    → (w.calls other).names ≡ same ∷ elder
    → w.entries ≡ entry ∷ more
    → IsOfName w name entry
    → IsOfName w same entry
    → (one ≡ other → ⊥)
    → Once w
    → ⊥
of_two w one other name same older elder entry more names too entries of of_too differ once =
    let sent = once.as_sent entry (listed w.entries entry more entries) in
    let is : one ≡ sent.0 = sent.4 one (name, listed (w.calls one).names name older names, of) in
    let also : other ≡ sent.0 = sent.4 other (same, listed (w.calls other).names same elder too, of_too) in
    differ (is ∙ sym also)

-- the call, and its name in most runs: first sent at the time of the seventh move
abbrev call : CallId
call = call_at 0 0

abbrev name_at : ℕ → ℕ → List ℕ → Name
name_at number time known = record { session = 1; number = number; first = time; known = known }

abbrev name : Name
name = name_at 4 6 (11 ∷ [])

-- The runs

pub taken_session_breaks : Breaks taken_session
taken_session_breaks =
    breaks Once taken_session once_holds refl refl refl (
    queued_ran (world_after taken_session) (call_at 1 0) (name_at 4 9 (11 ∷ [])) [] (entry_of 11 4) [] refl refl refl (refl, refl)
    )

pub taken_by_renewal_breaks : Breaks taken_by_renewal
taken_by_renewal_breaks =
    breaks Once taken_by_renewal once_holds refl refl refl (
    queued_ran (world_after taken_by_renewal) (call_at 1 0) (name_at 4 10 (11 ∷ [])) [] (entry_of 11 4) [] refl refl refl (refl, refl)
    )

pub made_again_breaks : Breaks made_again
made_again_breaks =
    breaks Once made_again once_holds refl refl refl (
    λ once.
    let w : World = world_after made_again in
    let sent = once.as_sent (entry_of 11 4) (contains_first (entry_of 11 4) []) in
    let is : call ≡ sent.0 = sent.4 call (name, contains_first name [], (refl, refl)) in
    let owns : Owns (w.clients 0) 1 = subst (λ (c : CallId). Owns (w.clients c.client) 1) (sym is) sent.3 in
    elim owns.1 [ inl present ↦ let never : 1 ≡ 2 = present in omega arith | inr former ↦ contains_none 1 former ]
    )

pub given_up_sent_breaks : Breaks given_up_sent
given_up_sent_breaks =
    breaks Once given_up_sent once_holds refl refl refl (
    refused_ran (world_after given_up_sent) call 0 name [] (entry_of 11 4) [] refl refl refl (refl, refl)
    )

pub given_again_breaks : Breaks given_again
given_again_breaks =
    breaks Once given_again once_holds refl refl refl (
    of_two (world_after given_again) call (call_at 0 1) name (name_at 4 8 (11 ∷ [])) [] [] (entry_of 11 4) [] refl refl refl (refl, refl) (refl, refl) (
    λ same. let never : 0 ≡ 1 = ap (λ (c : CallId). c.place) same in omega arith
    )
    )

pub not_queued_breaks : Breaks not_queued
not_queued_breaks =
    breaks Once not_queued once_holds refl refl refl (
    old_ran (world_after not_queued) call (name_at 8 9 (11 ∷ [])) name [] (entry_of 11 4) [] refl refl (refl, refl)
    )

pub again_unsent_breaks : Breaks again_unsent
again_unsent_breaks =
    breaks Once again_unsent once_holds refl refl refl (
    queued_ran (world_after again_unsent) call name [] (entry_of 12 4) [] refl refl refl (refl, refl)
    )

pub other_number_breaks : Breaks other_number
other_number_breaks =
    breaks Once other_number once_holds refl refl refl (
    λ once.
    let sent = once.as_sent (entry_of 11 8) (contains_first (entry_of 11 8) []) in
    let of_call : IsOfCall (world_after other_number) sent.0 (entry_of 11 8) = sent.1 in
    elim (call_added_cases of_call.0 name [] sent.0 call of_call.1) [
      | inl its ↦
          let number : 8 ≡ of_call.0.number = of_call.2.1 in
          let never : 8 ≡ 4 = number ∙ ap (λ (n : Name). n.number) its.1 in
          omega arith
      | inr none ↦ contains_none of_call.0 none
    ]
    )

-- the message of the next two runs, which server session 12 can accept
abbrev under_both : Message
under_both = record { session = 1; salt = 22; number = 4; call = None; known = 12 ∷ 11 ∷ [] }

pub old_number_breaks : BreaksOneTaker old_number
old_number_breaks =
    breaks OneTaker old_number (λ w reached. one_taker_if_kept w.time w (kept_if_reached w reached)) refl refl refl (
    λ taker.
    let before : List Message = (world_before old_number).ups in
    let stood = taker.can_accept call name 12 under_both (contains_first name []) (contains_first under_both before) (refl, refl) refl refl (contains_first 22 []) in
    let made : 10 < 6 = stood.0 in
    omega arith
    )

pub number_of_a_call_breaks : BreaksOneTaker number_of_a_call
number_of_a_call_breaks =
    breaks OneTaker number_of_a_call (λ w reached. one_taker_if_kept w.time w (kept_if_reached w reached)) refl refl refl (
    λ taker.
    let before : List Message = (world_before number_of_a_call).ups in
    let stood = taker.can_accept call name 12 under_both (contains_first name []) (contains_first under_both before) (refl, refl) refl refl (contains_first 22 []) in
    let made : 10 < 6 = stood.0 in
    omega arith
    )

pub two_at_once_breaks : Breaks two_at_once
two_at_once_breaks =
    breaks Once two_at_once once_holds refl refl refl (
    ran_twice (world_after two_at_once) call (name_at 4 10 (12 ∷ 11 ∷ [])) [] (entry_of 11 4) (entry_of 12 4) [] refl refl (refl, refl) (refl, refl)
    )

pub salt_of_zero_breaks : Breaks salt_of_zero
salt_of_zero_breaks =
    breaks Once salt_of_zero once_holds refl refl refl (
    queued_ran (world_after salt_of_zero) call (name_at 4 4 []) [] (entry_of 11 4) [] refl refl refl (refl, refl)
    )

pub drawn_again_breaks : Breaks drawn_again
drawn_again_breaks =
    breaks Once drawn_again once_holds refl refl refl (
    ran_twice (world_after drawn_again) call name [] (entry_of 12 4) (entry_of 11 4) [] refl refl (refl, refl) (refl, refl)
    )

pub invented_message_breaks : Breaks invented_message
invented_message_breaks =
    breaks Once invented_message once_holds refl refl refl (
    λ once. let sent = once.as_sent (entry_of 11 4) (contains_first (entry_of 11 4) []) in contains_none sent.1.0 sent.1.1
    )

pub judged_elsewhere_breaks : BreaksOneTaker judged_elsewhere
judged_elsewhere_breaks =
    breaks OneTaker judged_elsewhere (λ w reached. one_taker_if_kept w.time w (kept_if_reached w reached)) refl refl refl (
    λ taker.
    let packet : Packet = record { server = 12; items = NewSession 12 22 ∷ WrongSalt 4 22 ∷ [] } in
    let its_name : Name = record { session = 2; number = 4; first = 16; known = 12 ∷ [] } in
    let stood = taker.noticed 1 (call_at 1 0) its_name [] packet (NewSession 12 22 ∷ []) [] (WrongSalt 4 22) [] (contains_first packet (world_before judged_elsewhere).downs) refl refl refl refl refl refl refl in
    elim stood.1 [
      | inl standing ↦ let never : Lost 15 ≡ Standing = standing in cc
      | inr lost_at ↦
          let is : Lost 15 ≡ Lost lost_at.0 = lost_at.1 in
          let at : 15 ≡ lost_at.0 = cc in
          let after : 16 < lost_at.0 = lost_at.2 in
          omega arith
    ]
    )

pub judged_again_breaks : Breaks judged_again
judged_again_breaks =
    breaks Once judged_again once_holds refl refl refl (
    queued_ran (world_after judged_again) call name [] (entry_of 11 4) [] refl refl refl (refl, refl)
    )

-- an execution of nothing
abbrev empty_entry : Entry
empty_entry = record { server = 11; number = 4; request = []; reply = reply }

pub other_body_breaks : Breaks other_body
other_body_breaks =
    breaks Once other_body once_holds refl refl refl (
    wrong_request (world_after other_body) call name [] empty_entry [] refl refl (refl, refl) (λ same. let never : [] ≡ question = same in cc)
    )

pub foreign_salt_breaks : Breaks foreign_salt
foreign_salt_breaks =
    breaks Once foreign_salt once_holds refl refl refl (
    ran_twice (world_after foreign_salt) call name [] (entry_of 12 4) (entry_of 11 4) [] refl refl (refl, refl) (refl, refl)
    )

pub outcome_of_twenty_breaks : Breaks outcome_of_twenty
outcome_of_twenty_breaks =
    breaks Once outcome_of_twenty once_holds refl refl refl (λ once. contains_none 4 (once.forgotten call refl).2)

pub early_forget_breaks : BreaksOneTaker early_forget
early_forget_breaks =
    breaks OneTaker early_forget (λ w reached. one_taker_if_kept w.time w (kept_if_reached w reached)) refl refl refl (
    λ taker.
    let packet : Packet = record { server = 11; items = NewSession 11 21 ∷ Notice 4 20 ∷ [] } in
    let stood = taker.noticed 0 call (name_at 4 9 (11 ∷ [])) [] packet (NewSession 11 21 ∷ []) [] (Notice 4 20) [] (contains_first packet (world_before early_forget).downs) refl refl refl refl refl refl refl in
    elim stood.1 [
      | inl standing ↦ let never : Lost 8 ≡ Standing = standing in cc
      | inr lost_at ↦
          let is : Lost 8 ≡ Lost lost_at.0 = lost_at.1 in
          let at : 8 ≡ lost_at.0 = cc in
          let after : 9 < lost_at.0 = lost_at.2 in
          omega arith
    ]
    )

pub other_request_breaks : Breaks other_request
other_request_breaks =
    breaks Once other_request once_holds refl refl refl (
    wrong_request (world_after other_request) call name [] empty_entry [] refl refl (refl, refl) (λ same. let never : [] ≡ question = same in cc)
    )

pub answered_again_breaks : Breaks answered_again
answered_again_breaks =
    breaks Once answered_again once_holds refl refl refl (
    ran_twice (world_after answered_again) call name [] (entry_of 11 4) (entry_of 11 4) [] refl refl (refl, refl) (refl, refl)
    )

pub names_another_breaks : Breaks names_another
names_another_breaks =
    breaks Once names_another once_holds refl refl refl (
    λ once.
    let two = once.session_lost call refl in
    elim (choice_of (λ (s : Status). s ≡ Lost two.5.0) two.0 11 Standing Unmade two.5.1) [
      | inl here ↦ let never : Standing ≡ Lost two.5.0 = here.1 in cc
      | inr there ↦ let never : Unmade ≡ Lost two.5.0 = there.1 in cc
    ]
    )

pub foreign_first_salt_breaks : Breaks foreign_first_salt
foreign_first_salt_breaks =
    breaks Once foreign_first_salt once_holds refl refl refl (
    queued_ran (world_after foreign_first_salt) call name [] (entry_of 12 4) [] refl refl refl (refl, refl)
    )

pub invented_result_breaks : Breaks invented_result
invented_result_breaks =
    breaks Once invented_result once_holds refl refl refl (done_unrun (world_after invented_result) call reply refl refl)

pub early_result_breaks : Breaks early_result
early_result_breaks =
    breaks Once early_result once_holds refl refl refl (done_unrun (world_after early_result) call reply refl refl)

pub invented_notice_breaks : Breaks invented_notice
invented_notice_breaks =
    breaks Once invented_notice once_holds refl refl refl (
    queued_ran (world_after invented_notice) call name [] (entry_of 11 4) [] refl refl refl (refl, refl)
    )

pub invented_wrong_salt_breaks : Breaks invented_wrong_salt
invented_wrong_salt_breaks =
    breaks Once invented_wrong_salt once_holds refl refl refl (
    queued_ran (world_after invented_wrong_salt) call name [] (entry_of 11 4) [] refl refl refl (refl, refl)
    )

pub foreign_new_salt_breaks : Breaks foreign_new_salt
foreign_new_salt_breaks =
    breaks Once foreign_new_salt once_holds refl refl refl (
    ran_twice (world_after foreign_new_salt) call name [] (entry_of 12 4) (entry_of 11 4) [] refl refl (refl, refl) (refl, refl)
    )

pub silent_breaks : Breaks silent
silent_breaks =
    breaks Once silent once_holds refl refl refl (
    queued_ran (world_after silent) call name [] (entry_of 11 4) [] refl refl refl (refl, refl)
    )

pub invented_packet_breaks : Breaks invented_packet
invented_packet_breaks =
    breaks Once invented_packet once_holds refl refl refl (done_unrun (world_after invented_packet) call reply refl refl)

pub foreign_packet_breaks : Breaks foreign_packet
foreign_packet_breaks =
    breaks Once foreign_packet once_holds refl refl refl (
    λ once.
    let w : World = world_after foreign_packet in
    let other : Name = record { session = 2; number = 4; first = 11; known = [] } in
    let entry = once.done (call_at 1 0) reply refl in
    let its_entry : IsOfCall w (call_at 1 0) entry.0 = entry.2 in
    let its_name : its_entry.0 ≡ other = only other its_entry.0 its_entry.1 in
    let is : entry.0 ≡ entry_of 11 4 = only (entry_of 11 4) entry.0 entry.1 in
    let session : (w.servers 11).session ≡ 2 =
    sym (ap (λ (e : Entry). (w.servers e.server).session) is) ∙ its_entry.2.0 ∙ ap (λ (n : Name). n.session) its_name in
    let never : 1 ≡ 2 = session in
    omega arith
    )

pub runs_twice : RunsTwice
runs_twice = (
  let bounded = bounded_after_all [] [] start lost bounded_start in
      lawful_if_tested (all_clients lost []) (all_servers lost []) requeued rerun
      (record { blank_clients = bounded.blank_clients; blank_servers = bounded.blank_servers }) refl,
  λ most.
      let newer : Name = name_at 8 14 (12 ∷ 11 ∷ []) in
      most.0 (newer, contains_first newer (name ∷ []), (refl, refl)) (entry_of 11 4) (contains_first (entry_of 11 4) []) (
        name,
        contains_rest name newer (name ∷ []) (contains_first name []),
        (refl, refl),
      ),
)
