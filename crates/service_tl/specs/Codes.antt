-- The codes of the notices on messages that were refused: core.telegram.org/mtproto/service_messages_about_messages,
-- "Notice of Ignored Error Message". The numbers are the standard's.
use Rattle.std.specs.Prelude.{ℕ, List, [], ◌∷◌}

-- "16: msg_id too low", "17: msg_id too high", "18: incorrect two lower order msg_id bits", "19: container msg_id is the
-- same as msg_id of a previously received message", "20: message too old, and it cannot be verified whether the server
-- has received a message with this msg_id or not"
abbrev pub number_codes : List ℕ
number_codes = 16 ∷ 17 ∷ 18 ∷ 19 ∷ 20 ∷ []

-- "32: msg_seqno too low", "33: msg_seqno too high", "34: an even msg_seqno expected", "35: odd msg_seqno expected"
abbrev pub seq_codes : List ℕ
seq_codes = 32 ∷ 33 ∷ 34 ∷ 35 ∷ []

-- "48: incorrect server salt"
abbrev pub salt_code : ℕ
salt_code = 48

-- "64: invalid container"
abbrev pub container_code : ℕ
container_code = 64
