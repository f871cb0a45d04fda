-- The room of a packet that is filled.
use Rattle.std.proofs.Common.{◌≡◌, ◌∙◌, ℕ, ◌+◌, ◌≤◌, ◌<◌, Bool, true, false, length, refl, sym, subst, arith}
use Rattle.std.specs.Prelude.{not, nat_le}
use Rattle.std.proofs.lemmas.Bool.{and_parts, leb-true, leb-false}
use Rattle.containers.specs.Container.{bytes_max, container_head, message_head, messages_max}
use Rattle.client_core.specs.Draft.{Draft, HasRoomFor, TakesUp, enters, filled_up}

-- ---- what comes into it

pub takes_none : (bytes numbers : ℕ) (draft : Draft) → TakesUp bytes numbers draft draft
takes_none bytes numbers draft = record { same = refl; most = omega arith; left = omega arith }

pub takes_full : {numbers : ℕ} (bytes : ℕ) (old new : Draft) → new ≡ filled_up old → TakesUp bytes numbers old new
takes_full {numbers} bytes old new is = subst (λ (draft : Draft). TakesUp bytes numbers old draft) (sym is) (record { same = refl; most = omega arith; left = omega arith })

pub takes_more : {numbers : ℕ} (few bytes : ℕ) (old new : Draft) → few ≤ bytes → TakesUp few numbers old new → TakesUp bytes numbers old new
takes_more few bytes old new less takes = record { same = takes.same; most = omega (arith, takes.most); left = takes.left }

pub takes_both : (one two bytes : ℕ) (x y z : Draft) → one + two ≤ bytes → TakesUp one 0 x y → TakesUp two 0 y z → TakesUp bytes 0 x z
takes_both one two bytes x y z less first last = record {
  same = last.same ∙ first.same;
  most = omega (arith, first.most, last.most);
  left = omega (arith, first.left, last.left);
}

-- ---- what is left

pub room_less : (few bytes : ℕ) (draft : Draft) → few ≤ bytes → HasRoomFor bytes draft → HasRoomFor few draft
room_less few bytes draft less has = record { enough = λ small. (let enough = has.enough small in omega arith) }

pub room_left : {numbers : ℕ} (one two bytes : ℕ) (old new : Draft) → one + two ≤ bytes → HasRoomFor bytes old → TakesUp one numbers old new → HasRoomFor two new
room_left one two bytes old new less has takes = record {
  enough = λ small. (let enough = has.enough (omega (arith, takes.same)) in omega (arith, takes.same, takes.most));
}

-- where a message fits there is room for it
room_by : (size : ℕ) (draft : Draft) → HasRoomFor (message_head + size) draft → container_head + length draft.rows + message_head + size ≤ bytes_max
    → (small : Bool) → nat_le (container_head + length draft.rows + draft.room + 1) bytes_max ≡ small → message_head + size ≤ draft.room
room_by size draft has within true small = let less = leb-true (container_head + length draft.rows + draft.room + 1) bytes_max small in has.enough (omega arith)
room_by size draft has within false small = let more = leb-false (container_head + length draft.rows + draft.room + 1) bytes_max small in omega arith

pub room_there : (size : ℕ) (draft : Draft) → HasRoomFor (message_head + size) draft → enters size draft ≡ true → message_head + size ≤ draft.room
room_there size draft has fits =
    let parts = and_parts (not draft.is_full) _ fits in
    let both = and_parts (nat_le (draft.count + 1) messages_max) _ parts.1 in
    room_by size draft has (leb-true (container_head + length draft.rows + message_head + size) bytes_max both.1) (nat_le (container_head + length draft.rows + draft.room + 1) bytes_max) refl

pub count_there : (size : ℕ) (draft : Draft) → enters size draft ≡ true → draft.count < messages_max
count_there size draft fits =
    let parts = and_parts (not draft.is_full) _ fits in
    let both = and_parts (nat_le (draft.count + 1) messages_max) _ parts.1 in
    let less = leb-true (draft.count + 1) messages_max both.0 in
    omega (arith, less)

pub room_full : (bytes : ℕ) (old new : Draft) → new ≡ filled_up old → HasRoomFor bytes old → HasRoomFor bytes new
room_full bytes old new is has = subst (λ (draft : Draft). HasRoomFor bytes draft) (sym is) (record { enough = has.enough })
