-- What a flush is told as, where no packet waits.
use Rattle.std.proofs.Common.{◌≡◌, ℕ, Bool, true, false, if◌then◌else◌, Option, Some, None, List, refl, sym, ap, subst}
use Rattle.std.specs.Prelude.{Result, Ok, Err}
use Rattle.auth_keys.specs.declared.ring.RingKey.{RingKey}
use Rattle.client_core.specs.Flushed.{Flushes, Leaves, TellsFlush, setting_of}
use Rattle.client_core.specs.Holding.{kept_of}
use Rattle.client_core.specs.Kept.{Contents, Stands}
use Rattle.client_core.specs.declared.flush.Flush.{Flush}
use Rattle.client_core.specs.declared.flush.Flush.TheVariants as flushed
use Rattle.client_rules.specs.Client.{Client}
use Rattle.client_rules.specs.Flush.{Answer, Flushed, Nothing, Spent, Sends, flush}
use Rattle.client_rules.specs.Sending.{Setting}
use Rattle.envelope.specs.Lock.{mt_lock}
use Rattle.envelope.specs.Packet.{Lock}
use Rattle.kifzaro.specs.Clients.{Is, Kept, LeavesPoll, Polls, TellsPoll}
use Rattle.kifzaro.specs.Drawing.{drawing}
use Rattle.kifzaro.specs.declared.error.Error.{Error}
use Rattle.kifzaro.specs.declared.error.Error.TheVariants as errors

-- how it is told
abbrev pub polled : Flush → Result (Option (List ℕ)) Error
polled flushed.Nothing = Ok None
polled flushed.Spent = Err errors.Spent
polled (flushed.Packet bytes) = Ok (Some bytes)
polled flushed.Memory = Err errors.Memory

tells : (lock : Lock) (ring : List RingKey) (answer : Answer) (flush : Flush) → TellsFlush lock ring answer flush → TellsPoll lock ring answer (polled flush)
tells lock ring Nothing flushed.Nothing is = refl
tells lock ring Nothing flushed.Spent is = absurd is
tells lock ring Nothing (flushed.Packet bytes) is = is
tells lock ring Nothing flushed.Memory is = tt
tells lock ring Spent flushed.Nothing is = absurd is
tells lock ring Spent flushed.Spent is = refl
tells lock ring Spent (flushed.Packet bytes) is = is
tells lock ring Spent flushed.Memory is = tt
tells lock ring (Sends packet) flushed.Nothing is = absurd is
tells lock ring (Sends packet) flushed.Spent is = absurd is
tells lock ring (Sends packet) (flushed.Packet bytes) is = is
tells lock ring (Sends packet) flushed.Memory is = tt

leaves : {S : Type 0} (flush : Flush) (kept : Contents) (draw : S) (client : Client) (before : S) (due : Flushed S)
    → Leaves flush kept draw client before due → LeavesPoll (polled flush) kept draw client before due
leaves flushed.Nothing kept draw client before due is = is
leaves flushed.Spent kept draw client before due is = is
leaves (flushed.Packet bytes) kept draw client before due is = is
leaves flushed.Memory kept draw client before due is = is

-- of a client that has ended or not
abbrev Due : {S : Type 0} → Bool → Setting S → ℕ → Client → S → Flushed S
Due ended setting now client draw = if ended then record { answer = Nothing; client = client; draw = draw } else flush setting now client draw

by_ended : {S : Type 0} (ended : Bool) (setting : Setting S) (lock : Lock) (ring : List RingKey) (now : ℕ) (client : Client) (before : S) (told : Flush) (kept : Contents) (draw : S)
    → (ended ≡ false → Flushes setting lock ring now client before told kept draw)
    → (ended ≡ true → (told ≡ flushed.Nothing) × Stands kept client × (draw ≡ before))
    → TellsPoll lock ring (Due ended setting now client before).answer (polled told) × LeavesPoll (polled told) kept draw client before (Due ended setting now client before)
by_ended true setting lock ring now client before told kept draw living dead =
    let is = dead refl in
    subst (λ (one : Flush). TellsPoll lock ring Nothing (polled one) × LeavesPoll (polled one) kept draw client before (record { answer = Nothing; client = client; draw = before }))
    (sym is.0) (refl, (is.1, is.2))
by_ended false setting lock ring now client before told kept draw living dead =
    let is = living refl in
    (tells lock ring (flush setting now client before).answer told is.told, leaves told kept draw client before (flush setting now client before) is.leaves)

pub polls : {S : Type 0} (setting : Setting S) (lock : Lock) (ring : List RingKey) (now : ℕ) (client : Client) (before : S) (told : Flush) (kept : Contents) (draw : S)
    → (client.has_ended ≡ false → Flushes setting lock ring now client before told kept draw)
    → (client.has_ended ≡ true → (told ≡ flushed.Nothing) × Stands kept client × (draw ≡ before))
    → Polls setting lock ring now client before (polled told) kept draw
polls setting lock ring now client before told kept draw living dead =
    let is = by_ended client.has_ended setting lock ring now client before told kept draw living dead in
    record { told = is.0; leaves = is.1 }

-- ---- of a client with its draw

pub polled_so : (old new : Kept) (now : ℕ) (client : Client) (told : Flush) → Is old client
    → (client.has_ended ≡ false → Flushes (setting_of drawing old.ring) mt_lock old.ring now client old.draw told (kept_of new.holder) new.draw)
    → (client.has_ended ≡ true → (told ≡ flushed.Nothing) × (new ≡ old))
    → Polls (setting_of drawing old.ring) mt_lock old.ring now client old.draw (polled told) (kept_of new.holder) new.draw
polled_so old new now client told is living dead =
    polls (setting_of drawing old.ring) mt_lock old.ring now client old.draw told (kept_of new.holder) new.draw living
    (λ ended. ((dead ended).0, subst (λ (one : Kept). Stands (kept_of one.holder) client) (sym (dead ended).1) is, ap (λ (one : Kept). one.draw) (dead ended).1))
