-- What a session owes for what a judged message needs: each case is a row of the table.
use Rattle.std.specs.Prelude.{◌≡◌, ℕ, ◌∷◌, List, min, if◌then◌else◌, ⊤}
use Rattle.salt_line.specs.Rows.{future_rows_max}
use Rattle.service_tl.specs.declared.item.Item.TheVariants.{Pong}
use Rattle.inbox.specs.Verdicts.{Verdict}
use Rattle.inbox.specs.Judging.{is_accepted}
use Rattle.server_rules.specs.Calls.{accepts_call, binds, drops_answer, each_once}
use Rattle.server_rules.specs.Event.{Setting, Speaker}
use Rattle.server_rules.specs.Rows.{answers_broken, sends_again, takes_acks, tells_salts, tells_states}
use Rattle.server_rules.specs.Speaking.{answers_in_place, packed_body_refused, says}
use Rattle.server_dispatch.specs.declared.action.Telling.{Telling}
use Rattle.server_dispatch.specs.declared.action.Telling.TheVariants.{Pongs, Salts, Acks, States, Resends}
use Rattle.server_dispatch.specs.declared.action.Answering.{Answering}
use Rattle.server_dispatch.specs.declared.action.Answering.TheVariants.{PackedBody, BrokenBody, Binds, Drops, ForService}

-- the numbers that are open in a session: this one too, where its message was accepted and isn't settled yet
abbrev pub open_with : ℕ → Verdict → List ℕ → List ℕ
open_with number verdict opened = if is_accepted verdict then number ∷ opened else opened

-- Scaffolding, and no promise: what proofs and the contracts of private functions cite.

abbrev pub tells_so : {S : Type 0} → Setting S → ℕ → Telling → Speaker S → Speaker S
tells_so setting number (Pongs ping) speaker = says setting (Pong number ping) speaker
tells_so setting number (Salts count) speaker = tells_salts setting number (min count future_rows_max) speaker
tells_so setting number (Acks numbers) speaker = takes_acks numbers speaker
tells_so setting number (States numbers) speaker = tells_states setting number numbers speaker
tells_so setting number (Resends numbers) speaker = sends_again setting number numbers speaker

-- a call names these numbers to wait for, once or more often
abbrev pub IsCallOf : ℕ → List ℕ → Answering → Type 0
IsCallOf number numbers (ForService due) = (due.number ≡ number) × (due.wait ≡ each_once numbers)
IsCallOf number numbers _ = ⊤

abbrev pub answers_so : {S : Type 0} → Setting S → ℕ → List ℕ → Answering → Speaker S → Speaker S
answers_so setting number numbers (PackedBody body) speaker = answers_in_place setting number body packed_body_refused speaker
answers_so setting number numbers (BrokenBody constructor body) speaker = answers_broken setting number constructor body speaker
answers_so setting number numbers (Binds binding) speaker =
    binds setting (record { number = number; perm = binding.perm; nonce = binding.nonce; expires = binding.expires; message = binding.message }) speaker
answers_so setting number numbers (Drops call) speaker = drops_answer setting number call speaker
answers_so setting number numbers (ForService due) speaker = accepts_call setting number numbers due.query speaker
