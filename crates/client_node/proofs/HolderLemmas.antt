-- What the calls of a client in one state make of its course.
use Rattle.std.proofs.Common.{◌≡◌, ℕ, max, Bool, true, false, Option, Some, None, List, Result, Ok, Err, refl, ap, sym, subst, ◌∙◌}
use Rattle.std.specs.Prelude.{◌&&◌, not}
use Rattle.std.proofs.lemmas.Bool.{true≢false}
use Rattle.auth_keys.specs.declared.ring.RingKey.{RingKey}
use Rattle.draws.specs.Draws.{draw_after, word_after}
use Rattle.envelope.specs.declared.parts.Envelope.{Envelope}
use Rattle.envelope.specs.declared.parts.Dir.TheVariants.{Down}
use Rattle.envelope.specs.Opening.{Opens}
use Rattle.envelope.specs.Packet.{Lock}
use Rattle.octets.specs.declared.memory.Memory.{Memory}
use Rattle.client_rules.specs.Client.{Client, at_moment, is_open}
use Rattle.client_rules.specs.Flush.{flush}
use Rattle.client_rules.specs.Events.{renewed, takes}
use Rattle.client_rules.specs.Taking.{take}
use Rattle.client_rules.specs.Sending.{Setting}
use Rattle.client_core.specs.Flushed.{Flushes}
use Rattle.client_core.specs.Holding.{Became, IsInState, Opening, Open, Ended, is_open_now, kept_of, phase_of}
use Rattle.client_core.specs.Keys.{HasKeys as HasKeysOf, Keys, keys_in}
use Rattle.client_core.specs.Kept.{Contents, Stands}
use Rattle.client_core.specs.declared.flush.Flush.{Flush}
use Rattle.client_core.specs.declared.flush.Flush.TheVariants as told
use Rattle.client_core.specs.declared.holder.Holder.{Holder}
use Rattle.client_core.specs.declared.holder.Holder.TheVariants as holder
use Rattle.client_node.specs.Course.{Course, flushed_in, heard_in, is_stuck, must_renew, renews}
use Rattle.client_node.specs.Standing.{FlushedAs, HasKeys, HeardAs, IsOpened, KeepsKeys, StandsAs, StandsFor}

-- ---- a flush

-- the definition's flush of a client that hasn't ended
pub living_flushed : {S : Type 0} (setting : Setting S) (lock : Lock) (keys : List RingKey) (now : ℕ) (course : Course S)
    (held left : Holder) (draw drawn : S) (answer : Flush)
    → StandsAs held draw course → phase_of left ≡ phase_of held
    → flushed_in course.phase setting now course.client course.draw ≡ flush setting now course.client course.draw
    → ((client : Client) → StandsFor held client → Flushes setting lock keys now client draw answer (kept_of left) drawn)
    → FlushedAs setting lock keys now course answer left drawn
living_flushed setting lock keys now course held left draw drawn answer stands phase same flushes =
    let done = subst (λ before. Flushes setting lock keys now course.client before answer (kept_of left) drawn) stands.draw (flushes course.client stands.client) in
    record {
      phase = phase ∙ stands.phase;
      told = rw same done.told;
      leaves = rw same done.leaves;
    }

pub flushed_so : {S : Type 0} (setting : Setting S) (lock : Lock) (keys : List RingKey) (now : ℕ) (course : Course S)
    (held left : Holder) (draw drawn : S) (answer : Flush)
    → IsInState held → StandsAs held draw course → phase_of left ≡ phase_of held
    → ((client : Client) → StandsFor held client → (kept_of held).rest.has_ended ≡ false → Flushes setting lock keys now client draw answer (kept_of left) drawn)
    → ((kept_of held).rest.has_ended ≡ true → (answer ≡ told.Nothing) × (left ≡ held) × (drawn ≡ draw))
    → FlushedAs setting lock keys now course answer left drawn
flushed_so setting lock keys now course (holder.Opening kept) left draw drawn answer state stands phase flushes ended =
    living_flushed setting lock keys now course (holder.Opening kept) left draw drawn answer stands phase
    (ap (λ one. flushed_in one setting now course.client course.draw) (sym stands.phase)) (λ client stands. flushes client stands state.1)
flushed_so setting lock keys now course (holder.Open kept) left draw drawn answer state stands phase flushes ended =
    living_flushed setting lock keys now course (holder.Open kept) left draw drawn answer stands phase
    (ap (λ one. flushed_in one setting now course.client course.draw) (sym stands.phase)) (λ client stands. flushes client stands state.1)
flushed_so setting lock keys now course (holder.Ended kept) left draw drawn answer state stands phase flushes ended =
    let (none, same, undrawn) = ended state in
    let idle = ap (λ one. flushed_in one setting now course.client course.draw) (sym stands.phase) in
    let client : StandsFor left course.client = subst (λ (one : Holder). StandsFor one course.client) (sym same) stands.client in
    record {
      phase = phase ∙ stands.phase;
      told = rw none (rw idle tt);
      leaves = rw none (rw idle (client, undrawn ∙ stands.draw));
    }

-- ---- a renewal

pub stays : {S : Type 0} (step : S → ℕ × S) (kept : Holder) (draw : S) (course : Course S)
    → StandsAs kept draw course → must_renew (phase_of kept) course.client ≡ false → StandsAs kept draw (renews step course)
stays step kept draw course stands none =
    let same : must_renew course.phase course.client ≡ false = subst (λ phase. must_renew phase course.client ≡ false) stands.phase none in
    rw same stands

pub goes_on : {S : Type 0} (step : S → ℕ × S) (kept left : Holder) (draw drawn : S) (course : Course S)
    → StandsAs kept draw course → must_renew (phase_of kept) course.client ≡ true
    → ((client : Client) → StandsFor kept client → StandsFor left (renewed (word_after step 0 draw) client))
    → drawn ≡ draw_after step 1 draw → phase_of left ≡ Opening
    → StandsAs left drawn (renews step course)
goes_on step kept left draw drawn course stands must renewal after opening =
    let same : must_renew course.phase course.client ≡ true = subst (λ phase. must_renew phase course.client ≡ true) stands.phase must in
    let client : StandsFor left (renewed (word_after step 0 course.draw) course.client) =
    subst (λ before. StandsFor left (renewed (word_after step 0 before) course.client)) stands.draw (renewal course.client stands.client) in
    rw same (record { phase = opening; client = client; draw = after ∙ ap (λ before. draw_after step 1 before) stands.draw })

open_both : (one two : Bool) → one ≡ true → two ≡ false → (one && not two) ≡ true
open_both true false is living = refl
open_both true true is living = absurd (true≢false living)
open_both false two is living = absurd (true≢false (sym is))

open_parts : (one two : Bool) → (one && not two) ≡ true → (one ≡ true) × (two ≡ false)
open_parts true false is = (refl, refl)
open_parts true true is = absurd (true≢false (sym is))
open_parts false two is = absurd (true≢false (sym is))

-- one that isn't open goes on in no other session
pub renews_not : (held : Holder) (whole : Client) → IsInState held → is_open_now (kept_of held).rest ≡ false → false ≡ must_renew (phase_of held) whole
renews_not (holder.Opening kept) whole state closed = refl
renews_not (holder.Open kept) whole state closed = absurd (true≢false (sym (open_both (is_open kept.rest) kept.rest.has_ended state.0 state.1) ∙ closed))
renews_not (holder.Ended kept) whole state closed = refl

-- an open one does where it is stuck
pub renews_stuck : (held : Holder) (whole : Client) → IsInState held → is_open_now (kept_of held).rest ≡ true → is_stuck whole ≡ must_renew (phase_of held) whole
renews_stuck (holder.Opening kept) whole state opened = absurd (true≢false (sym (open_parts (is_open kept.rest) kept.rest.has_ended opened).0 ∙ state.0))
renews_stuck (holder.Open kept) whole state opened = refl
renews_stuck (holder.Ended kept) whole state opened = absurd (true≢false (sym state ∙ (open_parts (is_open kept.rest) kept.rest.has_ended opened).1))

pub open_living : (client : Client) → is_open_now client ≡ true → client.has_ended ≡ false
open_living client opened = (open_parts (is_open client) client.has_ended opened).1

-- ---- keys

pub keys_kept : (ring : List RingKey) (before after : Keys) → HasKeysOf ring before → after ≡ before → HasKeysOf ring after
keys_kept ring before after has same = subst (λ (keys : Keys). HasKeysOf ring keys) (sym same) has

pub kept_in : (before after : Contents) → keys_in after ≡ keys_in before → (ring : List RingKey) → HasKeysOf ring (keys_in before) → HasKeysOf ring (keys_in after)
kept_in before after same ring has = keys_kept ring (keys_in before) (keys_in after) has same

-- by what a packet opens to
pub by_opened : (P : Client → Type 0) (lock : Lock) (keys : List RingKey) (at now : ℕ) (packet : List ℕ) (whole : Client) (opened : Option Envelope)
    → ((envelope : Envelope) → Opens lock keys at Down packet envelope → P (take now envelope whole))
    → (((envelope : Envelope) → Opens lock keys at Down packet envelope → ⊥) → P (at_moment now whole))
    → IsOpened lock keys at packet opened → P (takes now opened whole)
by_opened P lock keys at now packet whole (Some envelope) some none opens = some envelope opens
by_opened P lock keys at now packet whole None some none opens = none opens

-- ---- a packet, in each state

-- what is heard, whatever is told of it
abbrev pub told_of : {X : Type 0} → Result X Memory → Result Unit Memory
told_of (Ok told) = Ok tt
told_of (Err memory) = Err memory

pub heard_as : {X : Type 0} (held : Holder) (before after : Client) (left : Holder) (taken : Result X Memory)
    → Became held before after left taken → HeardAs (phase_of held) before after left (told_of taken)
heard_as held before after left (Ok told) became = became
heard_as held before after left (Err memory) became = became

pub heard_by : {X : Type 0} (lock : Lock) (keys : List RingKey) (now : ℕ) (packet : List ℕ) (held left : Holder) (taken : Result X Memory) (nothing : X) (whole : Client) (opened : Option Envelope)
    → IsInState held → StandsFor held whole
    → ((client : Client) (envelope : Envelope) → StandsFor held client → (kept_of held).rest.has_ended ≡ false
    → Opens lock keys (max client.now now) Down packet envelope → Became held client (take now envelope client) left taken)
    → ((client : Client) → StandsFor held client → (kept_of held).rest.has_ended ≡ false
    → ((envelope : Envelope) → Opens lock keys (max client.now now) Down packet envelope → ⊥) → Became held client (at_moment now client) left taken)
    → ((kept_of held).rest.has_ended ≡ true → (left ≡ held) × (taken ≡ Ok nothing))
    → IsOpened lock keys (max whole.now now) packet opened → HeardAs (phase_of held) whole (heard_in (phase_of held) now opened whole) left (told_of taken)
heard_by lock keys now packet (holder.Opening kept) left taken nothing whole opened state stands some none ended opens =
    by_opened (λ (after : Client). HeardAs Opening whole after left (told_of taken)) lock keys (max whole.now now) now packet whole opened
    (λ envelope one. heard_as (holder.Opening kept) whole (take now envelope whole) left taken (some whole envelope stands state.1 one))
    (λ unopened. heard_as (holder.Opening kept) whole (at_moment now whole) left taken (none whole stands state.1 unopened)) opens
heard_by lock keys now packet (holder.Open kept) left taken nothing whole opened state stands some none ended opens =
    by_opened (λ (after : Client). HeardAs Open whole after left (told_of taken)) lock keys (max whole.now now) now packet whole opened
    (λ envelope one. heard_as (holder.Open kept) whole (take now envelope whole) left taken (some whole envelope stands state.1 one))
    (λ unopened. heard_as (holder.Open kept) whole (at_moment now whole) left taken (none whole stands state.1 unopened)) opens
heard_by lock keys now packet (holder.Ended kept) left taken nothing whole opened state stands some none ended opens =
    let (same, done) = ended state in
    rw done (subst (λ (one : Holder). HeardAs Ended whole whole one (Ok tt)) (sym same) (refl, stands))

-- ---- keys, in each state

pub holders_keep : (before after : Holder) → IsInState before → keys_in (kept_of after) ≡ keys_in (kept_of before)
    → ((kept_of before).rest.has_ended ≡ true → after ≡ before) → KeepsKeys before after
holders_keep (holder.Opening kept) (holder.Opening left) state same ended ring has = keys_kept ring (keys_in kept) (keys_in left) has same
holders_keep (holder.Opening kept) (holder.Open left) state same ended ring has = keys_kept ring (keys_in kept) (keys_in left) has same
holders_keep (holder.Opening kept) (holder.Ended left) state same ended ring has = tt
holders_keep (holder.Open kept) (holder.Opening left) state same ended ring has = keys_kept ring (keys_in kept) (keys_in left) has same
holders_keep (holder.Open kept) (holder.Open left) state same ended ring has = keys_kept ring (keys_in kept) (keys_in left) has same
holders_keep (holder.Open kept) (holder.Ended left) state same ended ring has = tt
holders_keep (holder.Ended kept) after state same ended ring has = subst (λ (one : Holder). HasKeys ring one) (sym (ended state)) tt

pub living_has : (ring : List RingKey) (held : Holder) → IsInState held → HasKeys ring held
    → (kept_of held).rest.has_ended ≡ false → HasKeysOf ring (keys_in (kept_of held))
living_has ring (holder.Opening kept) state has living = has
living_has ring (holder.Open kept) state has living = has
living_has ring (holder.Ended kept) state has living = absurd (true≢false (sym state ∙ living))
