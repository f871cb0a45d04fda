use Rattle.std.proofs.Common.{◌∙◌, ◌-◌, ap, refl, sym, arith}
use Rattle.call_table.specs.declared.call.Living.{Living}
use Rattle.call_table.specs.Kept.{Contents as Calls, sent_row}
use Rattle.std.specs.Prelude.{option_map}
use Rattle.msg_ids.specs.Counters.{Counters}
use Rattle.call_table.specs.Table.{at, changed}
use Rattle.client_rules.specs.Client.{calls_of}
use Rattle.client_rules.specs.Filling.{Goes as Going, takes_turn}
use Rattle.client_core.specs.Draft.{LeavesQueue}
use Rattle.client_core.specs.Kept.{Contents}
use Rattle.client_core.specs.Owed.{holds_back}
use Rattle.client_core.proofs.FrontLemmas.{room_goes}
use Rattle.client_core.proofs.OwedLemmas.{goes_within}
use Rattle.client_core.proofs.RoomLemmas.{room_less, takes_more}
use Rattle.client_core.proofs.GoesLemmas.{if_body, kept_calls, sent_leaves}
use Rattle.client_core.proofs.NumberLemmas.{next_behind}
use Rattle.client_core.proofs.core_client.Core.sends_call.Goals as goal

pub invariant_of-self-in-Some : goal.invariant_of-self-in-Some
invariant_of-self-in-Some g c =
    let last = ap (λ (own : Counters). own.last) c.in-Some.ensures.counted in
    let number = ap (λ given. given.0) c.in-Some.ensures.given in
    let later = next_behind c.self.inside.numbers.last c.time-at.result in (
      rw (c.send-in-Some.ensures.kept) (c.calls_stay_sound.ensures.sent _ c.args.call _ _ _ (omega (arith, last, number)) (c.calls_stay_sound.ensures.later c.self.inside.numbers.last _ _ (omega (arith, last, later)) c.self.invariant.0)),
      c.self.invariant.1,
      c.self.invariant.2,
    )

pub returns-in-Some-clause-left : goal.returns-in-Some-clause-left
returns-in-Some-clause-left g c went filling is =
    if_body (at c.args.call (calls_of filling.client)) c.body.result.now (λ body. LeavesQueue c.args.call filling (takes_turn c.args.call body (Going c.args.wrap) filling))
    (c.body.ensures.body filling.client.table (kept_calls _ _ _ filling c.self.view_is is))
    (sent_leaves c.args.self.now c.args.draft.now filling c.args.call c.args.wrap c.body.result.now _ is c.in-Some.ensures.size (sym c.in-Some.ensures.told))

pub send-requires-clause-room : goal.send-requires-clause-room
send-requires-clause-room g c less =
    let same = ap (λ (core : Contents). at c.args.call core.calls.rows) c.self.view_is in
    let within = goes_within (at c.args.call c.args.self.now.calls.rows) c.args.wrap c.body.result.now (sym (ap (option_map (λ row. row.body)) same) ∙ c.body.ensures.kept) c.requires.wrap in
    room_less _ _ _ within (c.requires.bytes.bytes less)

pub returns-in-Some-clause-bytes_left : goal.returns-in-Some-clause-bytes_left
returns-in-Some-clause-bytes_left g c went place told has =
    let living : Living = record { number = c.in-Some.number; seq = c.in-Some.seq; wrap = c.args.wrap } in
    let same = ap (λ (core : Contents). at c.args.call core.calls.rows) c.self.view_is in
    let within = goes_within (at c.args.call c.args.self.now.calls.rows) c.args.wrap c.body.result.now (sym (ap (option_map (λ row. row.body)) same) ∙ c.body.ensures.kept) c.requires.wrap in
    let kept = ap (λ (calls : Calls). calls.rows) c.send-in-Some.ensures.kept ∙ ap (λ (core : Contents). changed c.args.call (sent_row living c.self.inside.salt) core.calls.rows) c.self.view_is in
    let held = ap (λ (core : Contents). holds_back core.rest) c.self.view_is in
    let reserved = ap (λ (calls : Calls). calls.room) c.send-in-Some.ensures.kept ∙ ap (λ (core : Contents). core.calls.room - 1) c.self.view_is in
    room_goes c.args.self.now _ place c.args.call (sent_row living c.self.inside.salt) _ _ (λ row. refl) (held, kept) (omega (arith, reserved)) c.in-Some.ensures.count c.in-Some.ensures.kept
    (takes_more _ _ _ _ within c.send.ensures.takes) told has
