use Rattle.std.proofs.Common.{map, arith, lit<}
use Rattle.std.proofs.lemmas.List.{length-map}
use Rattle.service_tl.specs.Schema.{rpc_result, future_salts, pong, destroy_session_ok, destroy_session_none, new_session_created, msgs_ack, msgs_state_info, bad_msg_notification, bad_server_salt}
use Rattle.server_rules.specs.Rows.{future_salt_of}
use Rattle.server_output.proofs.Sizes.{boxed-size}
use Rattle.server_output.proofs.laws.sizes_of_items.Goals as goal

pub returns-clause-new_session : goal.returns-clause-new_session
returns-clause-new_session c first unique salt fits = boxed-size c.sizes_of_spellings.ensures new_session_created.number new_session_created.fields (first, (unique, (salt, tt))) (lit< tt) fits

pub returns-clause-acks : goal.returns-clause-acks
returns-clause-acks c ids fits = omega (arith, boxed-size c.sizes_of_spellings.ensures msgs_ack.number msgs_ack.fields (ids, tt) (lit< tt) fits)

pub returns-clause-notice : goal.returns-clause-notice
returns-clause-notice c number seq code fits = boxed-size c.sizes_of_spellings.ensures bad_msg_notification.number bad_msg_notification.fields (number, (seq, (code, tt))) (lit< tt) fits

pub returns-clause-bad_salt : goal.returns-clause-bad_salt
returns-clause-bad_salt c number seq code salt fits = boxed-size c.sizes_of_spellings.ensures bad_server_salt.number bad_server_salt.fields (number, (seq, (code, (salt, tt)))) (lit< tt) fits

pub returns-clause-pong : goal.returns-clause-pong
returns-clause-pong c message ping fits = boxed-size c.sizes_of_spellings.ensures pong.number pong.fields (message, (ping, tt)) (lit< tt) fits

pub returns-clause-salts : goal.returns-clause-salts
returns-clause-salts c request now rows fits =
    omega (arith, boxed-size c.sizes_of_spellings.ensures future_salts.number future_salts.fields (request, (now, (map future_salt_of rows, tt))) (lit< tt) fits, length-map rows future_salt_of)

pub returns-clause-states : goal.returns-clause-states
returns-clause-states c request info fits = omega (arith, boxed-size c.sizes_of_spellings.ensures msgs_state_info.number msgs_state_info.fields (request, (info, tt)) (lit< tt) fits)

pub returns-clause-ended : goal.returns-clause-ended
returns-clause-ended c session fits = boxed-size c.sizes_of_spellings.ensures destroy_session_ok.number destroy_session_ok.fields (session, tt) (lit< tt) fits

pub returns-clause-no_session : goal.returns-clause-no_session
returns-clause-no_session c session fits = boxed-size c.sizes_of_spellings.ensures destroy_session_none.number destroy_session_none.fields (session, tt) (lit< tt) fits

pub returns-clause-result : goal.returns-clause-result
returns-clause-result c call content fits = omega (arith, boxed-size c.sizes_of_spellings.ensures rpc_result.number rpc_result.fields (call, (content, tt)) (lit< tt) fits)
