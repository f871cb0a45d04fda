use Rattle.std.proofs.Common.{◌∙◌, ◌+◌, length, ap, arith}
use Rattle.call_table.specs.Kept.{Contents as Calls}
use Rattle.client_rules.specs.Client.{Client, Waiting}
use Rattle.client_core.specs.Owed.{asked_count, list_bytes, one_bytes, salts_bytes, small_bytes, told_bytes, waiting_bytes}
use Rattle.client_core.proofs.OwedLemmas.{resent_room, small_room, states_room, told_room}
use Rattle.client_core.proofs.RoomLemmas.{room_left, room_less, takes_both}
use Rattle.client_core.proofs.core_client.Core.says_waiting.Goals as goal

pub returns-clause-goes : goal.returns-clause-goes
returns-clause-goes g c filling is =
    c.says_destroyed.ensures.goes _ (c.says_salts.ensures.goes _ (c.says_ping.ensures.goes _ (c.says_states.ensures.goes _
    (c.says_resent.ensures.goes _ (c.says_told.ensures.goes _ (c.says_acks.ensures.goes filling is))))))

pub returns-clause-temporary : goal.returns-clause-temporary
returns-clause-temporary g c =
    let tells = λ (rest : Client). rest.temporary in
    ap tells c.says_destroyed.ensures.rest ∙ (ap tells c.says_salts.ensures.rest ∙ (ap tells c.says_ping.ensures.rest ∙ (ap tells c.says_states.ensures.rest
    ∙ (ap tells c.says_resent.ensures.rest ∙ (ap tells c.says_told.ensures.rest ∙ ap tells c.says_acks.ensures.rest)))))

pub returns-clause-key : goal.returns-clause-key
returns-clause-key g c =
    let tells = λ (rest : Client). rest.key in
    ap tells c.says_destroyed.ensures.rest ∙ (ap tells c.says_salts.ensures.rest ∙ (ap tells c.says_ping.ensures.rest ∙ (ap tells c.says_states.ensures.rest
    ∙ (ap tells c.says_resent.ensures.rest ∙ (ap tells c.says_told.ensures.rest ∙ ap tells c.says_acks.ensures.rest)))))

pub returns-clause-learnt : goal.returns-clause-learnt
returns-clause-learnt g c =
    let tells = λ (rest : Client). rest.learnt in
    ap tells c.says_destroyed.ensures.rest ∙ (ap tells c.says_salts.ensures.rest ∙ (ap tells c.says_ping.ensures.rest ∙ (ap tells c.says_states.ensures.rest
    ∙ (ap tells c.says_resent.ensures.rest ∙ (ap tells c.says_told.ensures.rest ∙ ap tells c.says_acks.ensures.rest)))))

pub returns-clause-room : goal.returns-clause-room
returns-clause-room g c =
    let tells = λ (calls : Calls). calls.room in
    ap tells c.says_destroyed.ensures.calls ∙ (ap tells c.says_salts.ensures.calls ∙ (ap tells c.says_ping.ensures.calls ∙ (ap tells c.says_states.ensures.calls
    ∙ (ap tells c.says_resent.ensures.calls ∙ (ap tells c.says_told.ensures.calls ∙ c.says_acks.ensures.room)))))

pub says_acks-requires-clause-bytes : goal.says_acks-requires-clause-bytes
says_acks-requires-clause-bytes g c = room_less _ _ _ (omega arith) c.requires.bytes

pub says_told-requires-clause-bytes : goal.says_told-requires-clause-bytes
says_told-requires-clause-bytes g c =
    let waits = λ (rest : Client). rest.waiting in
    let rows = λ (calls : Calls). calls.rows in
    let one = told_room c.args.self.now.rest.waiting c.says_acks.new.self.rest.waiting c.args.self.now.calls.rows c.says_acks.new.self.calls.rows (length c.args.self.now.calls.acks) c.args.draft.now c.says_acks.new.draft (ap waits c.says_acks.ensures.rest) c.says_acks.ensures.rows c.requires.bytes c.says_acks.ensures.takes in
    room_less _ _ _ (omega arith) one

pub says_resent-requires-clause-bytes : goal.says_resent-requires-clause-bytes
says_resent-requires-clause-bytes g c =
    let waits = λ (rest : Client). rest.waiting in
    let rows = λ (calls : Calls). calls.rows in
    let one = told_room c.args.self.now.rest.waiting c.says_acks.new.self.rest.waiting c.args.self.now.calls.rows c.says_acks.new.self.calls.rows (length c.args.self.now.calls.acks) c.args.draft.now c.says_acks.new.draft (ap waits c.says_acks.ensures.rest) c.says_acks.ensures.rows c.requires.bytes c.says_acks.ensures.takes in
    let two = resent_room c.says_acks.new.self.rest.waiting c.says_told.new.self.rest.waiting c.says_acks.new.self.calls.rows c.says_told.new.self.calls.rows c.says_acks.new.draft c.says_told.new.draft c.says_told.ensures.waiting (ap rows c.says_told.ensures.calls) one c.says_told.ensures.takes in
    room_less _ _ _ (omega arith) two

pub says_states-requires-clause-room : goal.says_states-requires-clause-room
says_states-requires-clause-room g c =
    let wishes = λ (waiting : Waiting). waiting.states in
    let rows = λ (calls : Calls). calls.rows in
    let wish = ap wishes c.says_resent.ensures.waiting ∙ (ap wishes c.says_told.ensures.waiting ∙ ap (λ (rest : Client). rest.waiting.states) c.says_acks.ensures.rest) in
    let kept = ap rows c.says_resent.ensures.calls ∙ (ap rows c.says_told.ensures.calls ∙ c.says_acks.ensures.rows) in
    omega (arith, c.requires.states, ap (λ own. asked_count own c.says_resent.new.self.calls.rows) wish, ap (asked_count c.args.self.now.rest.waiting.states) kept)

pub says_states-requires-clause-bytes : goal.says_states-requires-clause-bytes
says_states-requires-clause-bytes g c =
    let waits = λ (rest : Client). rest.waiting in
    let rows = λ (calls : Calls). calls.rows in
    let one = told_room c.args.self.now.rest.waiting c.says_acks.new.self.rest.waiting c.args.self.now.calls.rows c.says_acks.new.self.calls.rows (length c.args.self.now.calls.acks) c.args.draft.now c.says_acks.new.draft (ap waits c.says_acks.ensures.rest) c.says_acks.ensures.rows c.requires.bytes c.says_acks.ensures.takes in
    let two = resent_room c.says_acks.new.self.rest.waiting c.says_told.new.self.rest.waiting c.says_acks.new.self.calls.rows c.says_told.new.self.calls.rows c.says_acks.new.draft c.says_told.new.draft c.says_told.ensures.waiting (ap rows c.says_told.ensures.calls) one c.says_told.ensures.takes in
    let three = states_room c.says_told.new.self.rest.waiting c.says_resent.new.self.rest.waiting c.says_told.new.self.calls.rows c.says_resent.new.self.calls.rows c.says_told.new.draft c.says_resent.new.draft c.says_resent.ensures.waiting (ap rows c.says_resent.ensures.calls) two c.says_resent.ensures.takes in
    room_less _ _ _ (omega arith) three

pub says_ping-requires-clause-bytes : goal.says_ping-requires-clause-bytes
says_ping-requires-clause-bytes g c =
    let waits = λ (rest : Client). rest.waiting in
    let rows = λ (calls : Calls). calls.rows in
    let one = told_room c.args.self.now.rest.waiting c.says_acks.new.self.rest.waiting c.args.self.now.calls.rows c.says_acks.new.self.calls.rows (length c.args.self.now.calls.acks) c.args.draft.now c.says_acks.new.draft (ap waits c.says_acks.ensures.rest) c.says_acks.ensures.rows c.requires.bytes c.says_acks.ensures.takes in
    let two = resent_room c.says_acks.new.self.rest.waiting c.says_told.new.self.rest.waiting c.says_acks.new.self.calls.rows c.says_told.new.self.calls.rows c.says_acks.new.draft c.says_told.new.draft c.says_told.ensures.waiting (ap rows c.says_told.ensures.calls) one c.says_told.ensures.takes in
    let three = states_room c.says_told.new.self.rest.waiting c.says_resent.new.self.rest.waiting c.says_told.new.self.calls.rows c.says_resent.new.self.calls.rows c.says_told.new.draft c.says_resent.new.draft c.says_resent.ensures.waiting (ap rows c.says_resent.ensures.calls) two c.says_resent.ensures.takes in
    let four = small_room c.says_resent.new.self.rest.waiting c.says_resent.new.self.calls.rows c.says_resent.new.draft c.says_states.new.draft three c.says_states.ensures.takes in
    room_less _ _ _ (omega arith) four

pub says_salts-requires-clause-bytes : goal.says_salts-requires-clause-bytes
says_salts-requires-clause-bytes g c =
    let waits = λ (rest : Client). rest.waiting in
    let rows = λ (calls : Calls). calls.rows in
    let one = told_room c.args.self.now.rest.waiting c.says_acks.new.self.rest.waiting c.args.self.now.calls.rows c.says_acks.new.self.calls.rows (length c.args.self.now.calls.acks) c.args.draft.now c.says_acks.new.draft (ap waits c.says_acks.ensures.rest) c.says_acks.ensures.rows c.requires.bytes c.says_acks.ensures.takes in
    let two = resent_room c.says_acks.new.self.rest.waiting c.says_told.new.self.rest.waiting c.says_acks.new.self.calls.rows c.says_told.new.self.calls.rows c.says_acks.new.draft c.says_told.new.draft c.says_told.ensures.waiting (ap rows c.says_told.ensures.calls) one c.says_told.ensures.takes in
    let three = states_room c.says_told.new.self.rest.waiting c.says_resent.new.self.rest.waiting c.says_told.new.self.calls.rows c.says_resent.new.self.calls.rows c.says_told.new.draft c.says_resent.new.draft c.says_resent.ensures.waiting (ap rows c.says_resent.ensures.calls) two c.says_resent.ensures.takes in
    let four = small_room c.says_resent.new.self.rest.waiting c.says_resent.new.self.calls.rows c.says_resent.new.draft c.says_states.new.draft three c.says_states.ensures.takes in
    let five = room_left one_bytes (salts_bytes + one_bytes) small_bytes c.says_states.new.draft c.says_ping.new.draft (omega arith) four c.says_ping.ensures.takes in
    room_less _ _ _ (omega arith) five

pub says_destroyed-requires-clause-bytes : goal.says_destroyed-requires-clause-bytes
says_destroyed-requires-clause-bytes g c =
    let waits = λ (rest : Client). rest.waiting in
    let rows = λ (calls : Calls). calls.rows in
    let one = told_room c.args.self.now.rest.waiting c.says_acks.new.self.rest.waiting c.args.self.now.calls.rows c.says_acks.new.self.calls.rows (length c.args.self.now.calls.acks) c.args.draft.now c.says_acks.new.draft (ap waits c.says_acks.ensures.rest) c.says_acks.ensures.rows c.requires.bytes c.says_acks.ensures.takes in
    let two = resent_room c.says_acks.new.self.rest.waiting c.says_told.new.self.rest.waiting c.says_acks.new.self.calls.rows c.says_told.new.self.calls.rows c.says_acks.new.draft c.says_told.new.draft c.says_told.ensures.waiting (ap rows c.says_told.ensures.calls) one c.says_told.ensures.takes in
    let three = states_room c.says_told.new.self.rest.waiting c.says_resent.new.self.rest.waiting c.says_told.new.self.calls.rows c.says_resent.new.self.calls.rows c.says_told.new.draft c.says_resent.new.draft c.says_resent.ensures.waiting (ap rows c.says_resent.ensures.calls) two c.says_resent.ensures.takes in
    let four = small_room c.says_resent.new.self.rest.waiting c.says_resent.new.self.calls.rows c.says_resent.new.draft c.says_states.new.draft three c.says_states.ensures.takes in
    let five = room_left one_bytes (salts_bytes + one_bytes) small_bytes c.says_states.new.draft c.says_ping.new.draft (omega arith) four c.says_ping.ensures.takes in
    let six = room_left salts_bytes one_bytes (salts_bytes + one_bytes) c.says_ping.new.draft c.says_salts.new.draft (omega arith) five c.says_salts.ensures.takes in
    six

pub returns-clause-rows : goal.returns-clause-rows
returns-clause-rows g c =
    let tells = λ (calls : Calls). calls.rows in
    ap tells c.says_destroyed.ensures.calls ∙ (ap tells c.says_salts.ensures.calls ∙ (ap tells c.says_ping.ensures.calls ∙ (ap tells c.says_states.ensures.calls
    ∙ (ap tells c.says_resent.ensures.calls ∙ (ap tells c.says_told.ensures.calls ∙ c.says_acks.ensures.rows)))))

pub returns-clause-takes : goal.returns-clause-takes
returns-clause-takes g c =
    let acks = list_bytes (length c.args.self.now.calls.acks) in
    let told = told_bytes c.says_acks.new.self.rest.waiting.told in
    let resent = list_bytes (length c.says_told.new.self.rest.waiting.resent) in
    let states = list_bytes (asked_count c.says_resent.new.self.rest.waiting.states c.says_resent.new.self.calls.rows) in
    let before = λ (rest : Client). rest.waiting in
    let rows = λ (calls : Calls). calls.rows in
    let same_told = ap (λ (rest : Client). told_bytes rest.waiting.told) c.says_acks.ensures.rest in
    let same_resent = ap (λ (own : Waiting). length own.resent) c.says_told.ensures.waiting ∙ ap (λ (rest : Client). length rest.waiting.resent) c.says_acks.ensures.rest in
    let wishes = λ (waiting : Waiting). waiting.states in
    let wish = ap wishes c.says_resent.ensures.waiting ∙ (ap wishes c.says_told.ensures.waiting ∙ ap (λ (rest : Client). rest.waiting.states) c.says_acks.ensures.rest) in
    let kept = ap rows c.says_resent.ensures.calls ∙ (ap rows c.says_told.ensures.calls ∙ c.says_acks.ensures.rows) in
    let same_states = ap (λ own. asked_count own c.says_resent.new.self.calls.rows) wish ∙ ap (asked_count c.args.self.now.rest.waiting.states) kept in
    let one = takes_both acks told (acks + told) _ _ _ (omega arith) c.says_acks.ensures.takes c.says_told.ensures.takes in
    let two = takes_both (acks + told) resent (acks + told + resent) _ _ _ (omega arith) one c.says_resent.ensures.takes in
    let three = takes_both (acks + told + resent) states (acks + told + resent + states) _ _ _ (omega arith) two c.says_states.ensures.takes in
    let four = takes_both (acks + told + resent + states) one_bytes (acks + told + resent + states + 28) _ _ _ (omega arith) three c.says_ping.ensures.takes in
    let five = takes_both (acks + told + resent + states + 28) salts_bytes (acks + told + resent + states + 52) _ _ _ (omega arith) four c.says_salts.ensures.takes in
    takes_both (acks + told + resent + states + 52) one_bytes (waiting_bytes c.args.self.now) _ _ _ (omega (arith, same_told, same_resent, same_states)) five c.says_destroyed.ensures.takes
