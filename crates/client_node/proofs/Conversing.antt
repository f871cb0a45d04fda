-- All of a connection, and all attempts of a batch.
use Rattle.std.proofs.Common.{◌≡◌, ◌≤◌, ◌+◌, ℕ, true, false, List, [], ◌∷◌, ◌++◌, length, Option, Some, None, IfSome, IsSome, IsSomeAnd, ◌⊎◌, inl, inr, refl, sym, ap, subst, ◌∙◌, append_assoc, append-nil, arith}
use Rattle.auth_keys.specs.declared.ring.RingKey.{RingKey}
use Rattle.draws.specs.Draws.{draw_after, next_bytes}
use Rattle.envelope.specs.Packet.{Lock}
use Rattle.transport.specs.Starts.{IsSentStart, Opening, words_drawn}
use Rattle.transport.specs.Wires.{HasBegun, Line}
use Rattle.mt_edge.specs.Clocks.{Gave}
use Rattle.mt_edge.specs.Faults.{one_more}
use Rattle.mt_edge.specs.Links.{IsFresh, Told}
use Rattle.mt_edge.specs.Nets.{closed_at}
use Rattle.mt_edge.specs.declared.net_call.NetCall.{NetCall}
use Rattle.mt_edge.specs.declared.net_call.NetCall.TheVariants.{Connect}
use Rattle.mt_edge.specs.declared.net_call.Outcome.TheVariants.{Failed, Open, Done}
use Rattle.mt_edge.specs.declared.source.Got.TheVariants as got
use Rattle.client_rules.specs.Client.{Client}
use Rattle.client_core.specs.declared.holder.Holder.{Holder}
use Rattle.client_node.specs.Course.{Course, Phase, Reading, attached_in, attaches, is_decided}
use Rattle.client_node.specs.Ends.{batch_by}
use Rattle.client_node.specs.Runs.{Conversed, HasOpened, LostSoFar, Talked, Tried}
use Rattle.client_node.specs.Standing.{StandsAs, StandsFor, phase_of}
use Rattle.client_node.specs.Talks.{Began, Close, Connection, FailsLast, Heard, PassedFront, Place, Refused, Rules, Said, Shows, ShowsClose, Stopped, TurnsDone, Unread, Unstarted, begun, drawn, rules_of}
use Rattle.client_node.specs.Trace.{AreNoted, Attempt, ClientTrace, IsNoted, Made, UndecidedIn, after_all, all_moments}
use Rattle.client_node.specs.Writes.{Seen, Writes, WroteFront, seen}
use Rattle.client_node.specs.declared.end.End.{End}
use Rattle.client_node.specs.declared.end.End.TheVariants as ends
use Rattle.client_node.specs.declared.plan.Batch.{Batch}
use Rattle.client_node.specs.declared.plan.Batch.TheVariants as batch
use Rattle.client_node.specs.declared.plan.Plan.{Plan}
use Rattle.client_node.proofs.Connecting.{closes_last}
use Rattle.client_node.proofs.Flowing.{map_told}
use Rattle.client_node.proofs.Spelling.{none_spelt}
use Rattle.client_node.proofs.Passing.{gave_more, gave_none, passes_behind, passes_none, reading_behind, writing_behind}
use Rattle.client_node.proofs.Undecided.{last_undecided}

-- ---- a connection without a talk

pub refused : {S : Type 0} (rules : Rules S) (plan : Plan) (course : Course S) (link : Seen) (given given_then : Option (List ℕ)) (first : ℕ) (kept : Holder) (draw : S)
    → StandsAs kept draw course → Gave (first ∷ []) given given_then
    → Conversed rules plan course link given ends.Memory kept draw link given_then
refused rules plan course link given given_then first kept draw stands gave =
    record {
      connection = Refused first;
      is = tt;
      ends_so = refl;
      stands = stands;
      shows = passes_none (begun rules plan course first) refl refl link;
      gave = gave;
    }

-- the words of the start are drawn
pub stands_drawn : {S : Type 0} (step : S → ℕ × S) (lock : Lock) (keys : List RingKey) (reading : Reading) (plan : Plan) (course : Course S) (kept : Holder) (draw after : S)
    → StandsAs kept draw course → after ≡ draw_after step (words_drawn plan.obfuscate) draw → StandsAs kept after (drawn (rules_of step lock keys reading) plan course)
stands_drawn step lock keys reading plan course kept draw after stands same =
    record { phase = stands.phase; client = stands.client; draw = same ∙ ap (λ one. draw_after step (words_drawn plan.obfuscate) one) stands.draw }

front_alone : {S : Type 0} (place : Place S) (start : List ℕ) → place.came ≡ [] → place.reads ≡ [] → (before after : Told) → WroteFront [] start before after → PassedFront [] start place before after
front_alone place start came reads before after wrote =
    record {
      front = wrote.front;
      rest = wrote.rest;
      cut = wrote.cut;
      some = wrote.some;
      passed = record {
        written = wrote.wrote.written;
        came = wrote.wrote.came ∙ sym (append-nil before.came) ∙ ap (λ (bytes : List ℕ). before.came ++ bytes) (sym came);
        reads = wrote.wrote.reads ∙ sym (append-nil before.reads) ∙ ap (λ all. before.reads ++ all) (sym reads);
      };
    }

pub unstarted : {S : Type 0} (step : S → ℕ × S) (lock : Lock) (keys : List RingKey) (reading : Reading) (plan : Plan) (course : Course S) (link link_then : Seen) (given given_then : Option (List ℕ)) (first : ℕ) (start : List ℕ)
    (end : End) (kept : Holder) (draw after : S)
    → StandsAs kept draw course → after ≡ draw_after step (words_drawn plan.obfuscate) draw
    → IsSentStart plan.obfuscate plan.form (next_bytes step 64 draw) start
    → end ≡ ends.Lost
    → IfSome link_then.told (λ last. IsSomeAnd link.told (λ first. WroteFront [] start first last))
    → link_then.faults ≡ one_more link.faults
    → Gave (first ∷ []) given given_then
    → Conversed (rules_of step lock keys reading) plan course link given end kept after link_then given_then
unstarted step lock keys reading plan course link link_then given given_then first start end kept draw after stands same sent lost told faults gave =
    record {
      connection = Unstarted first start;
      is = subst (λ one. IsSentStart plan.obfuscate plan.form (next_bytes step 64 one) start) stands.draw sent;
      ends_so = sym lost;
      stands = stands_drawn step lock keys reading plan course kept draw after stands same;
      shows = record {
        told = map_told (WroteFront [] start) (PassedFront [] start (begun (rules_of step lock keys reading) plan course first))
            (front_alone (begun (rules_of step lock keys reading) plan course first) start refl refl) link.told link_then.told told;
        faults = faults;
      };
      gave = gave;
    }

-- ---- a connection with a talk

pub opened : (line : Line) (form : _) (start : List ℕ) → (its : HasBegun line form start) → HasOpened line its.opening
opened line form start its = record { form = its.form ∙ sym its.opens; hears = its.hears; tells = none_spelt line its.opening.up its.tells }

fails_behind : {S : Type 0} (opening : Opening) (start : List ℕ) (sent : List (List ℕ)) (said : Said) (bytes : List ℕ) (place : Place S) (first middle last : Seen)
    → Writes start first middle → FailsLast opening [] sent said bytes place middle last → FailsLast opening start sent said bytes place first last
fails_behind opening start sent said bytes place first middle last before after =
    record {
      earlier = after.earlier;
      packet = after.packet;
      whole = after.whole;
      last = after.last;
      each = after.each;
      no_more = after.no_more;
      all = after.all;
      text = after.text;
      fails = writing_behind start after.whole after.last place first middle last before after.fails;
    }

shows_behind : {S : Type 0} (close : Close) (opening : Opening) (start : List ℕ) (sent : List (List ℕ)) (said : Said) (bytes : List ℕ) (place : Place S) (first middle last : Seen)
    → Writes start first middle → ShowsClose close opening [] sent said bytes place middle last → ShowsClose close opening start sent said bytes place first last
shows_behind (Stopped ends.Lost) opening start sent said bytes place first middle last before after = fails_behind opening start sent said bytes place first middle last before after
shows_behind (Stopped ends.Decided) opening start sent said bytes place first middle last before (inl after) = inl (passes_behind start bytes place first middle last before after)
shows_behind (Stopped ends.Decided) opening start sent said bytes place first middle last before (inr after) = inr (fails_behind opening start sent said bytes place first middle last before after)
shows_behind (Stopped ends.Spent) opening start sent said bytes place first middle last before after = passes_behind start bytes place first middle last before after
shows_behind (Stopped ends.Memory) opening start sent said bytes place first middle last before after = passes_behind start bytes place first middle last before after
shows_behind (Stopped ends.TurnsSpent) opening start sent said bytes place first middle last before after = absurd after
shows_behind (Unread (got.Bytes count)) opening start sent said bytes place first middle last before after = absurd after
shows_behind (Unread got.End) opening start sent said bytes place first middle last before after = passes_behind start bytes place first middle last before after
shows_behind (Unread got.Failed) opening start sent said bytes place first middle last before after = reading_behind start bytes place first middle last before after
shows_behind (Heard piece moment heard end) opening start sent said bytes place first middle last before after = passes_behind start bytes place first middle last before after
shows_behind TurnsDone opening start sent said bytes place first middle last before after = passes_behind start bytes place first middle last before after

pub stands_attached : {S : Type 0} (kept left : Holder) (draw : S) (course : Course S)
    → StandsAs kept draw course
    → ((whole : Client) → StandsFor kept whole → StandsFor left (attached_in (phase_of kept) whole))
    → phase_of left ≡ phase_of kept
    → StandsAs left draw (attaches course)
stands_attached kept left draw course stands attach same =
    record {
      phase = same ∙ stands.phase;
      client = subst (λ (phase : Phase). StandsFor left (attached_in phase course.client)) stands.phase (attach course.client stands.client);
      draw = stands.draw;
    }

pub talked_through : {S : Type 0} (step : S → ℕ × S) (lock : Lock) (keys : List RingKey) (reading : Reading) (plan : Plan) (course : Course S) (link link_between link_then : Seen) (given given_between given_then : Option (List ℕ)) (first : ℕ) (start : List ℕ) (line : Line)
    (end : End) (drew : S) (kept : Holder) (draw : S)
    → drew ≡ course.draw
    → (its : HasBegun line plan.form start)
    → IsSentStart plan.obfuscate plan.form (next_bytes step 64 drew) start
    → Writes start link link_between
    → Gave (first ∷ []) given given_between
    → Talked (rules_of step lock keys reading) its.opening (begun (rules_of step lock keys reading) plan course first) link_between given_between end kept draw link_then given_then
    → Conversed (rules_of step lock keys reading) plan course link given end kept draw link_then given_then
talked_through step lock keys reading plan course link link_between link_then given given_between given_then first start line end drew kept draw same its sent wrote gave talked =
    record {
      connection = Began first start its.opening talked.talk;
      is = (
        record {
          sent = subst (λ one. IsSentStart plan.obfuscate plan.form (next_bytes step 64 one) start) same sent;
          form = its.opens;
          starts = its.starts;
        },
        talked.is,
      );
      ends_so = talked.ends_so;
      stands = talked.stands;
      shows = shows_behind talked.talk.close its.opening start _ talked.talk.said talked.talk.bytes _ link link_between link_then wrote talked.shows;
      gave = gave_more (first ∷ []) _ given given_between given_then gave talked.gave;
    }

-- ---- what a net notes of it

noted_at : {S : Type 0} (rules : Rules S) (plan : Plan) (course : Course S) (connection : Connection) (first between last : List NetCall) (place : ℕ) (fresh told : Told) (few faults : ℕ)
    → between ≡ first ++ Connect plan.port Open ∷ [] → place ≡ length first → IsFresh fresh → few ≡ 0
    → Shows rules plan course connection (seen (Some fresh) few) (seen (Some told) faults)
    → last ≡ closed_at place told faults between
    → (call : NetCall) × (last ≡ first ++ call ∷ []) × IsNoted rules plan course (Made connection) call
noted_at rules plan course connection first between last place fresh told few faults opened at is none shows closed = (
  Connect plan.port (Done told faults),
  closed ∙ ap (λ (n : ℕ). closed_at n told faults between) at ∙ ap (λ (calls : List NetCall). closed_at (length first) told faults calls) opened ∙ closes_last first plan.port told faults,
  (told, faults, fresh, refl, is, subst (λ (n : ℕ). Shows rules plan course connection (seen (Some fresh) n) (seen (Some told) faults)) none shows),
)

pub noted : {S : Type 0} (rules : Rules S) (plan : Plan) (course : Course S) (connection : Connection) (first between last : Option (List NetCall)) (place : ℕ) (fresh told : Option Told) (few faults : ℕ)
    → IfSome between (λ after. IsSomeAnd first (λ before. after ≡ before ++ Connect plan.port Open ∷ []))
    → IfSome first (λ before. place ≡ length before)
    → (IsSome between → IsSomeAnd fresh IsFresh)
    → few ≡ 0
    → Shows rules plan course connection (seen fresh few) (seen told faults)
    → IfSome last (λ after. IsSomeAnd between (λ before. IsSomeAnd told (λ said. after ≡ closed_at place said faults before)))
    → IfSome last (λ after. IsSomeAnd first (λ before. (call : NetCall) × (after ≡ before ++ call ∷ []) × IsNoted rules plan course (Made connection) call))
noted rules plan course connection first between None place fresh told few faults opened at is none shows closed = tt
noted rules plan course connection first None (Some last) place fresh told few faults opened at is none shows closed = absurd closed
noted rules plan course connection first (Some between) (Some last) place fresh None few faults opened at is none shows closed = absurd closed
noted rules plan course connection None (Some between) (Some last) place fresh (Some told) few faults opened at is none shows closed = absurd opened
noted rules plan course connection (Some first) (Some between) (Some last) place None (Some told) few faults opened at is none shows closed = absurd (is refl)
noted rules plan course connection (Some first) (Some between) (Some last) place (Some fresh) (Some told) few faults opened at is none shows closed =
    noted_at rules plan course connection first between last place fresh told few faults opened at (is refl) none shows closed

-- a connection that was made and given back
pub tried : {S : Type 0} (rules : Rules S) (plan : Plan) (course : Course S) (first between last : Option (List NetCall)) (place : ℕ) (fresh told : Option Told) (few faults : ℕ) (given given_then : Option (List ℕ)) (end : End) (kept : Holder) (draw : S)
    → IfSome between (λ after. IsSomeAnd first (λ before. after ≡ before ++ Connect plan.port Open ∷ []))
    → IfSome first (λ before. place ≡ length before)
    → (IsSome between → IsSomeAnd fresh IsFresh)
    → few ≡ 0
    → Conversed rules plan course (seen fresh few) given end kept draw (seen told faults) given_then
    → IfSome last (λ after. IsSomeAnd between (λ before. IsSomeAnd told (λ said. after ≡ closed_at place said faults before)))
    → Tried rules plan course first given end kept draw last given_then
tried rules plan course first between last place fresh told few faults given given_then end kept draw opened at is none conversed closed =
    record {
      attempt = Made conversed.connection;
      is = conversed.is;
      ends_so = conversed.ends_so;
      stands = conversed.stands;
      noted = noted rules plan course conversed.connection first between last place fresh told few faults opened at is none conversed.shows closed;
      gave = conversed.gave;
    }

-- ---- all attempts

made_none : {S : Type 0} (rules : Rules S) (plan : Plan) (course : Course S) (calls : Option (List NetCall))
    → IfSome calls (λ after. IsSomeAnd calls (λ before. (made : List NetCall) × (after ≡ before ++ made) × AreNoted rules plan course [] made))
made_none rules plan course None = tt
made_none rules plan course (Some calls) = ([], sym (append-nil calls), refl)

pub none_so_far : {S : Type 0} (rules : Rules S) (plan : Plan) (course : Course S) (calls : Option (List NetCall)) (given : Option (List ℕ)) (kept : Holder) (draw : S)
    → StandsAs kept draw course → LostSoFar rules plan course 0 calls given kept draw calls given
none_so_far rules plan course calls given kept draw stands =
    record { attempts = []; lost = tt; count = refl; stands = stands; noted = made_none rules plan course calls; gave = gave_none given }

made_more : {S : Type 0} (rules : Rules S) (plan : Plan) (course : Course S) (earlier : List Attempt) (attempt : Attempt) (first middle last : Option (List NetCall))
    → IfSome middle (λ after. IsSomeAnd first (λ before. (made : List NetCall) × (after ≡ before ++ made) × AreNoted rules plan course earlier made))
    → IfSome last (λ after. IsSomeAnd middle (λ before. (call : NetCall) × (after ≡ before ++ call ∷ []) × IsNoted rules plan (after_all rules plan course earlier) attempt call))
    → IfSome last (λ after. IsSomeAnd first (λ before. (made : List NetCall) × (after ≡ before ++ made) × AreNoted rules plan course (attempt ∷ earlier) made))
made_more rules plan course earlier attempt first middle None before after = tt
made_more rules plan course earlier attempt first None (Some last) before after = absurd after
made_more rules plan course earlier attempt None (Some middle) (Some last) before after = absurd before
made_more rules plan course earlier attempt (Some first) (Some middle) (Some last) (made, whole, noted_so) (call, next, noted_it) = (
  made ++ call ∷ [],
  next ∙ ap (λ (calls : List NetCall). calls ++ call ∷ []) whole ∙ append_assoc first made (call ∷ []),
  (made, call, refl, noted_so, noted_it),
)

pub lost_more : {S : Type 0} (rules : Rules S) (plan : Plan) (course : Course S) (times : ℕ) (first middle last : Option (List NetCall)) (given given_between given_then : Option (List ℕ)) (kept left : Holder) (draw drew : S) (end : End)
    → end ≡ ends.Lost
    → (before : LostSoFar rules plan course times first given kept draw middle given_between)
    → Tried rules plan (after_all rules plan course before.attempts) middle given_between end left drew last given_then
    → LostSoFar rules plan course (times + 1) first given left drew last given_then
lost_more rules plan course times first middle last given given_between given_then kept left draw drew end lost before one =
    record {
      attempts = one.attempt ∷ before.attempts;
      lost = (before.lost, one.is, one.ends_so ∙ lost);
      count = omega (arith, before.count);
      stands = one.stands;
      noted = made_more rules plan course before.attempts one.attempt first middle last before.noted one.noted;
      gave = gave_more (all_moments rules plan course before.attempts) _ given given_between given_then before.gave one.gave;
    }

pub traced : {S : Type 0} (rules : Rules S) (plan : Plan) (course : Course S) (times : ℕ) (first middle last : Option (List NetCall)) (given given_between given_then : Option (List ℕ)) (kept left : Holder) (draw drew : S) (end : End)
    → is_decided course.client ≡ false → times ≤ plan.retries → (batch_by end ≡ batch.LinkLost → times ≡ plan.retries)
    → (before : LostSoFar rules plan course times first given kept draw middle given_between)
    → Tried rules plan (after_all rules plan course before.attempts) middle given_between end left drew last given_then
    → ClientTrace rules plan course (batch_by end) first last given given_then left drew
traced rules plan course times first middle last given given_between given_then kept left draw drew end some most many before one =
    record {
      attempts = one.attempt ∷ before.attempts;
      ended = (
        some,
        before.lost,
        one.is,
        ap (λ (how : End). batch_by how) one.ends_so,
        subst (λ (count : ℕ). count ≤ plan.retries) (sym before.count) most,
        λ lost. before.count ∙ many lost,
      );
      undecided = last_undecided rules plan course before.attempts one.attempt end some before.lost one.is one.ends_so;
      stands = one.stands;
      noted = made_more rules plan course before.attempts one.attempt first middle last before.noted one.noted;
      moments = gave_more (all_moments rules plan course before.attempts) _ given given_between given_then before.gave one.gave;
    }

-- nothing was connected to
pub untraced : {S : Type 0} (rules : Rules S) (plan : Plan) (course : Course S) (calls : Option (List NetCall)) (given : Option (List ℕ)) (kept : Holder) (draw : S) (end : Batch)
    → StandsAs kept draw course → UndecidedIn end course.client → ((end ≡ batch.Decided) × (is_decided course.client ≡ true)) ⊎ (end ≡ batch.Memory)
    → ClientTrace rules plan course end calls calls given given kept draw
untraced rules plan course calls given kept draw end stands none why =
    record { attempts = []; ended = why; undecided = none; stands = stands; noted = made_none rules plan course calls; moments = gave_none given }
