-- One packet more that a client heard.
use Rattle.std.proofs.Common.{◌≡◌, ◌+◌, ℕ, zero, suc, inl, inr, arith, append-nil, length-append, false, List, [], ◌∷◌, ◌++◌, length, All, Option, Ok, Err, refl, sym, ap, subst, ◌∙◌, append_assoc}
use Rattle.std.proofs.lemmas.List.Elements.{All-append}
use Rattle.auth_keys.specs.declared.ring.RingKey.{RingKey}
use Rattle.cipher_modes.specs.CounterMode.{CtrState}
use Rattle.envelope.specs.Packet.{Lock}
use Rattle.transport.specs.Wires.{Hears, Line}
use Rattle.client_core.specs.declared.holder.Holder.{Holder}
use Rattle.client_node.specs.Course.{Course, Reading, takes_packet}
use Rattle.client_node.specs.Standing.{IsReading, StandsAs}
use Rattle.client_node.specs.Took.{CameNext, HeardPacket, IsHeardEnd, IsIdle, IsLost, IsNextEnd, IsNoError, IsSame, NoneDecides, TookAll, TookPiece, decides, takes_all}
use Rattle.framing.specs.Streams.{Begins, Faulty, Stream}
use Rattle.transport.specs.Directions.{through}
use Rattle.transport.specs.Forms.{framing_of}
use Rattle.client_node.specs.declared.end.End.{End}
use Rattle.client_node.proofs.Passing.{begins_by}
use Rattle.client_node.specs.declared.end.End.TheVariants as ends

pub takes_append : {S : Type 0} (step : S → ℕ × S) (reading : Reading) (now : ℕ) (course : Course S) (front : List (List ℕ)) (packet : List ℕ)
    → takes_packet step reading now (takes_all step reading now course front) packet ≡ takes_all step reading now course (front ++ packet ∷ [])
takes_append step reading now course [] packet = refl
takes_append step reading now course (first ∷ others) packet = takes_append step reading now (takes_packet step reading now course first) others packet

pub none_append : {S : Type 0} (step : S → ℕ × S) (reading : Reading) (now : ℕ) (course : Course S) (front : List (List ℕ)) (packet : List ℕ)
    → NoneDecides step reading now course front → decides reading now (takes_all step reading now course front) packet ≡ false
    → NoneDecides step reading now course (front ++ packet ∷ [])
none_append step reading now course [] packet none last = (last, tt)
none_append step reading now course (first ∷ others) packet none last =
    (none.0, none_append step reading now (takes_packet step reading now course first) others packet none.1 last)

-- the client goes on
pub took_more : {S : Type 0} (step : S → ℕ × S) (lock : Lock) (keys : List RingKey) (now : ℕ) (kept : Holder) (draw : S) (heard : List (List ℕ))
    (middle : Holder) (between : S) (line line_then : Line) (packet : List ℕ) (left : Holder) (drawn : S)
    → ((reading : Reading) (course : Course S) → IsReading lock keys reading → StandsAs kept draw course
    → NoneDecides step reading now course heard × StandsAs middle between (takes_all step reading now course heard))
    → HeardPacket step lock keys now middle between line packet (Ok tt) left drawn line_then
    → (reading : Reading) (course : Course S) → IsReading lock keys reading → StandsAs kept draw course
    → NoneDecides step reading now course (heard ++ packet ∷ []) × StandsAs left drawn (takes_all step reading now course (heard ++ packet ∷ []))
took_more step lock keys now kept draw heard middle between line line_then packet left drawn before next reading course reads stands =
    let so_far = before reading course reads stands in
    let took = next.took reading (takes_all step reading now course heard) reads so_far.1 in (
      none_append step reading now course heard packet so_far.0 took.0,
      subst (λ after. StandsAs left drawn after) (takes_append step reading now course heard packet) took.1,
    )

-- each call is decided by the packet
pub took_last : {S : Type 0} (step : S → ℕ × S) (lock : Lock) (keys : List RingKey) (now : ℕ) (kept : Holder) (draw : S) (heard : List (List ℕ))
    (middle : Holder) (between : S) (line line_then : Line) (packet : List ℕ) (left : Holder) (drawn : S)
    → ((reading : Reading) (course : Course S) → IsReading lock keys reading → StandsAs kept draw course
    → NoneDecides step reading now course heard × StandsAs middle between (takes_all step reading now course heard))
    → HeardPacket step lock keys now middle between line packet (Err ends.Decided) left drawn line_then
    → (reading : Reading) (course : Course S) → IsReading lock keys reading → StandsAs kept draw course
    → TookAll step reading now course (heard ++ packet ∷ []) (Err ends.Decided) left drawn
took_last step lock keys now kept draw heard middle between line line_then packet left drawn before next reading course reads stands =
    let so_far = before reading course reads stands in
    let took = next.took reading (takes_all step reading now course heard) reads so_far.1 in
    (heard, packet, refl, so_far.0, took.0, subst (λ after. StandsAs left drawn after) (takes_append step reading now course heard packet) took.1)

-- what the wire heard
pub hears_more : (first middle last : Line) (heard : List (List ℕ)) (packet : List ℕ)
    → ((from : Option CtrState) (packets : List (List ℕ)) (bytes : List ℕ) → Hears first from packets bytes → Hears middle from (packets ++ heard) bytes)
    → ((from : Option CtrState) (packets : List (List ℕ)) (bytes : List ℕ) → Hears middle from packets bytes → Hears last from (packets ++ packet ∷ []) bytes)
    → (from : Option CtrState) (packets : List (List ℕ)) (bytes : List ℕ) → Hears first from packets bytes → Hears last from (packets ++ (heard ++ packet ∷ [])) bytes
hears_more first middle last heard packet before next from packets bytes hears =
    subst (λ (all : List (List ℕ)). Hears last from all bytes) (append_assoc packets heard (packet ∷ [])) (next from (packets ++ heard) bytes (before from packets bytes hears))

pub none_wrong : All IsNoError []
none_wrong k d less same = omega (arith, less)

one_right : (packet : List ℕ) → IsNoError packet → All IsNoError (packet ∷ [])
one_right packet one zero d less same = one same
one_right packet one (suc k) d less same = omega (arith, less)

pub sizes_more : (heard : List (List ℕ)) (packet : List ℕ) → All IsNoError heard → IsNoError packet → All IsNoError (heard ++ packet ∷ [])
sizes_more heard packet all one = All-append IsNoError heard (packet ∷ []) all (one_right packet one)

pub count_more : (heard : List (List ℕ)) (packet : List ℕ) (count : ℕ) → length heard ≡ count → length (heard ++ packet ∷ []) ≡ count + 1
count_more heard packet count same = length-append heard (packet ∷ []) ∙ ap (λ (n : ℕ). n + 1) same

pub none_heard : (line : Line) (from : Option CtrState) (packets : List (List ℕ)) (bytes : List ℕ) → Hears line from packets bytes → Hears line from (packets ++ []) bytes
none_heard line from packets bytes hears = subst (λ (all : List (List ℕ)). Hears line from all bytes) (sym (append-nil packets)) hears

-- by the form alone
pub idle_as : (line other : Line) (from : Option CtrState) (packets : List (List ℕ)) (bytes : List ℕ) (line_then : Line)
    → line.form ≡ other.form → IsIdle line from packets bytes line_then → IsIdle other from packets bytes line_then
idle_as line other from packets bytes line_then same idle =
    record { rest = idle.rest; stream = subst (λ form. Stream (framing_of form) packets idle.rest (through from bytes)) same idle.stream; hears = idle.hears }

pub lost_as : (line other : Line) (from : Option CtrState) (packets : List (List ℕ)) (bytes : List ℕ)
    → line.form ≡ other.form → IsLost line from packets bytes → IsLost other from packets bytes
lost_as line other from packets bytes same (inl lost) =
    inl (record { error = lost.error; size = lost.size; next = subst (λ form. Begins (framing_of form) (packets ++ lost.error ∷ []) (through from bytes)) same lost.next })
lost_as line other from packets bytes same (inr lost) =
    inr (record { fault = lost.fault; shown = subst (λ form. Faulty (framing_of form) packets lost.fault (through from bytes)) same lost.shown })

stands_same : {S : Type 0} (step : S → ℕ × S) (reading : Reading) (now : ℕ) (course : Course S) (heard : List (List ℕ)) (middle : Holder) (between : S) (left : Holder) (drawn : S)
    → IsSame middle between left drawn → StandsAs middle between (takes_all step reading now course heard) → StandsAs left drawn (takes_all step reading now course heard)
stands_same step reading now course heard middle between left drawn same stands =
    subst (λ (one : Holder). StandsAs one drawn (takes_all step reading now course heard)) (sym same.0)
    (subst (λ one. StandsAs middle one (takes_all step reading now course heard)) (sym same.1) stands)

-- the packets so far are those of what came
heard_begins : (line other : Line) (from : Option CtrState) (packets : List (List ℕ)) (bytes : List ℕ) → line.form ≡ other.form → Hears line from packets bytes
    → Begins (framing_of other.form) packets (through from bytes)
heard_begins line other from packets bytes same hears =
    subst (λ form. Begins (framing_of form) packets (through from bytes)) same
    (begins_by (framing_of line.form) line.held.fault packets line.held.left (through from bytes) hears.stands.text)

-- ---- a packet ends the connection

pub came_failed : {S : Type 0} (step : S → ℕ × S) (lock : Lock) (keys : List RingKey) (now : ℕ) (kept : Holder) (draw : S) (line : Line) (packet : List ℕ) (end : End)
    (left : Holder) (drawn : S) (line_then : Line)
    → IsHeardEnd end → HeardPacket step lock keys now kept draw line packet (Err end) left drawn line_then
    → CameNext step lock keys now kept draw line (Err end) left drawn line_then
came_failed step lock keys now kept draw line packet ends.Decided left drawn line_then can heard = (packet, heard)
came_failed step lock keys now kept draw line packet ends.Memory left drawn line_then can heard = (packet, heard)
came_failed step lock keys now kept draw line packet ends.Lost left drawn line_then can heard = absurd can
came_failed step lock keys now kept draw line packet ends.TurnsSpent left drawn line_then can heard = absurd can
came_failed step lock keys now kept draw line packet ends.Spent left drawn line_then can heard = absurd can

-- what was heard of a piece when the connection ended
pub piece_failed : {S : Type 0} (step : S → ℕ × S) (lock : Lock) (keys : List RingKey) (now : ℕ) (kept : Holder) (draw : S) (line fed : Line) (piece : List ℕ)
    (heard : List (List ℕ)) (middle : Holder) (between : S) (line_between : Line) (end : End) (left : Holder) (drawn : S) (line_then : Line)
    → ((from : Option CtrState) (packets : List (List ℕ)) (bytes : List ℕ) → Hears line from packets bytes → Hears fed from packets (bytes ++ piece))
    → All IsNoError heard
    → ((reading : Reading) (course : Course S) → IsReading lock keys reading → StandsAs kept draw course
    → NoneDecides step reading now course heard × StandsAs middle between (takes_all step reading now course heard))
    → ((from : Option CtrState) (packets : List (List ℕ)) (bytes : List ℕ) → Hears fed from packets bytes → Hears line_between from (packets ++ heard) bytes)
    → line_between.form ≡ line.form
    → IsNextEnd end → CameNext step lock keys now middle between line_between (Err end) left drawn line_then
    → TookPiece step lock keys now kept draw line piece (Err end) left drawn line_then
piece_failed step lock keys now kept draw line fed piece heard middle between line_between ends.TurnsSpent left drawn line_then feeds sizes took hears form can next = absurd can
piece_failed step lock keys now kept draw line fed piece heard middle between line_between ends.Spent left drawn line_then feeds sizes took hears form can next = absurd can
piece_failed step lock keys now kept draw line fed piece heard middle between line_between ends.Decided left drawn line_then feeds sizes took hears form can (packet, next) =
    record {
      heard = heard ++ packet ∷ [];
      sizes = sizes_more heard packet sizes next.size;
      took = took_last step lock keys now kept draw heard middle between line_between line_then packet left drawn took next;
      came = λ from packets bytes hearing.
          hears_more fed line_between line_then heard packet hears (λ one others text known. (next.came one others text known).hears) from packets (bytes ++ piece) (feeds from packets bytes hearing);
    }
piece_failed step lock keys now kept draw line fed piece heard middle between line_between ends.Memory left drawn line_then feeds sizes took hears form can (packet, next) =
    record {
      heard = heard;
      sizes = sizes;
      took = λ reading course reads stands. ((took reading course reads stands).0, next.took reading (takes_all step reading now course heard) reads (took reading course reads stands).1);
      came = λ from packets bytes hearing.
          inr (heard_begins line_between line from (packets ++ heard) (bytes ++ piece) form (hears from packets (bytes ++ piece) (feeds from packets bytes hearing)));
    }
piece_failed step lock keys now kept draw line fed piece heard middle between line_between ends.Lost left drawn line_then feeds sizes took hears form can (same, next) =
    record {
      heard = heard;
      sizes = sizes;
      took = λ reading course reads stands. ((took reading course reads stands).0, stands_same step reading now course heard middle between left drawn same (took reading course reads stands).1);
      came = λ from packets bytes hearing.
          lost_as line_between line from (packets ++ heard) (bytes ++ piece) form (next from (packets ++ heard) (bytes ++ piece) (hears from packets (bytes ++ piece) (feeds from packets bytes hearing)));
    }

-- no further packet is whole
pub piece_done : {S : Type 0} (step : S → ℕ × S) (lock : Lock) (keys : List RingKey) (now : ℕ) (kept : Holder) (draw : S) (line fed : Line) (piece : List ℕ)
    (heard : List (List ℕ)) (middle : Holder) (between : S) (line_between : Line) (left : Holder) (drawn : S) (line_then : Line)
    → ((from : Option CtrState) (packets : List (List ℕ)) (bytes : List ℕ) → Hears line from packets bytes → Hears fed from packets (bytes ++ piece))
    → All IsNoError heard
    → ((reading : Reading) (course : Course S) → IsReading lock keys reading → StandsAs kept draw course
    → NoneDecides step reading now course heard × StandsAs middle between (takes_all step reading now course heard))
    → ((from : Option CtrState) (packets : List (List ℕ)) (bytes : List ℕ) → Hears fed from packets bytes → Hears line_between from (packets ++ heard) bytes)
    → line_between.form ≡ line.form
    → CameNext step lock keys now middle between line_between (Ok false) left drawn line_then
    → TookPiece step lock keys now kept draw line piece (Ok tt) left drawn line_then
piece_done step lock keys now kept draw line fed piece heard middle between line_between left drawn line_then feeds sizes took hears form (same, next) =
    record {
      heard = heard;
      sizes = sizes;
      took = λ reading course reads stands. ((took reading course reads stands).0, stands_same step reading now course heard middle between left drawn same (took reading course reads stands).1);
      came = λ from packets bytes hearing.
          inl (idle_as line_between line from (packets ++ heard) (bytes ++ piece) line_then form (next from (packets ++ heard) (bytes ++ piece) (hears from packets (bytes ++ piece) (feeds from packets bytes hearing))));
    }
