-- Scaffolding, and no promise: what words say, as functions that the contracts of private functions cite.
use Rattle.std.specs.Prelude.{ℕ, Bool, true, false, List, [], ◌∷◌, map, codes, Option, Some, None, unwrap_or}
use Rattle.std.specs.Option.{option_map}
use Rattle.sched_text.specs.Lines.{Line, words_of}
use Rattle.sched_text.specs.Reading.{bytes_from, find, number_from, ◌>>=◌}
use Rattle.trace_check.specs.declared.numbered.Numbered.{Numbered}
use Rattle.trace_check.specs.declared.fact.Cause.{Cause}
use Rattle.trace_check.specs.declared.fact.Cause.TheVariants as cause
use Rattle.trace_check.specs.declared.fact.Told.{Told}
use Rattle.trace_check.specs.declared.fact.Told.TheVariants as told
use Rattle.trace_check.specs.declared.fact.Fact.{Fact}
use Rattle.trace_check.specs.declared.fact.Fact.TheVariants as fact
use Rattle.trace_check.specs.declared.fact.Kind.{Kind}
use Rattle.trace_check.specs.declared.fact.Kind.TheVariants as kind
use Rattle.trace_check.specs.declared.fact.Standing.{Standing}
use Rattle.trace_check.specs.declared.fact.Standing.TheVariants as standing

-- ---- what the first of the words says, and the words behind it

abbrev pub numbered_from : List (List ℕ) → Option (Numbered × List (List ℕ))
numbered_from words =
    number_from words >>= λ owner. number_from owner.1 >>= λ number. Some (record { owner = owner.0; number = number.0 }, number.1)

-- the value, where no word is left
abbrev pub at_end : {T : Type 0} → T → List (List ℕ) → Option T
at_end value [] = Some value
at_end value (word ∷ words) = None

-- what the only word stands for
abbrev pub only : {T : Type 0} → List (List ℕ × T) → List (List ℕ) → Option T
only rows (word ∷ []) = find word rows
only rows _ = None

-- ---- states

abbrev pub causes : List (List ℕ × Cause)
causes = (codes "session", cause.Session) ∷ (codes "renewed", cause.Renewed) ∷ (codes "ended", cause.Ended) ∷ (codes "forgotten", cause.Forgotten) ∷ []

abbrev pub standings : List (List ℕ × Standing)
standings =
    (codes "queued", standing.Queued) ∷ (codes "sent", standing.Sent) ∷ (codes "held", standing.Held)
    ∷ (codes "done", standing.Done) ∷ (codes "refused", standing.Refused) ∷ (codes "unknown", standing.Unknown) ∷ []

abbrev pub told_with : Standing → List (List ℕ) → Option Told
told_with standing.Queued words = at_end told.Queued words
told_with standing.Sent words = at_end told.Sent words
told_with standing.Held words = at_end told.Held words
told_with standing.Done words = bytes_from words >>= λ reply. at_end (told.Done reply.0) reply.1
told_with standing.Refused words = number_from words >>= λ code. at_end (told.Refused code.0) code.1
told_with standing.Unknown words = option_map told.Unknown (only causes words)

abbrev pub told_at : List (List ℕ) → Option Told
told_at [] = None
told_at (word ∷ words) = find word standings >>= λ standing. told_with standing words

-- ---- facts

abbrev pub ways : List (List ℕ × Bool)
ways = (codes "ran", true) ∷ (codes "answer", false) ∷ []

abbrev pub body_at : List (List ℕ) → Option Fact
body_at words = numbered_from words >>= λ call. bytes_from call.1 >>= λ body. at_end (fact.Body call.0 body.0) body.1

abbrev pub name_at : List (List ℕ) → Option Fact
name_at words = numbered_from words >>= λ call. numbered_from call.1 >>= λ name. at_end (fact.Name call.0 name.0) name.1

abbrev pub state_at : List (List ℕ) → Option Fact
state_at words = numbered_from words >>= λ call. told_at call.1 >>= λ state. Some (fact.State call.0 state)

abbrev pub entry_at : List (List ℕ) → Option Fact
entry_at words =
    number_from words >>= λ start. numbered_from start.1 >>= λ name. bytes_from name.1 >>= λ request. bytes_from request.1
    >>= λ reply. only ways reply.1
    >>= λ ran. Some (fact.Entry (record { start = start.0; name = name.0; request = request.0; reply = reply.0; ran = ran }))

abbrev pub session_at : List (List ℕ) → Option ℕ
session_at words = number_from words >>= λ session. at_end session.0 session.1

abbrev pub gone_at : List (List ℕ) → Option Fact
gone_at words = numbered_from words >>= λ name. at_end (fact.Gone name.0) name.1

abbrev pub kinds : List (List ℕ × Kind)
kinds =
    (codes "body", kind.Body) ∷ (codes "name", kind.Name) ∷ (codes "state", kind.State) ∷ (codes "entry", kind.Entry)
    ∷ (codes "made", kind.Made) ∷ (codes "left", kind.Left) ∷ (codes "closed", kind.Closed) ∷ (codes "gone", kind.Gone) ∷ []

-- what is said behind a first word
abbrev pub fact_with : Kind → List (List ℕ) → Option Fact
fact_with kind.Body words = body_at words
fact_with kind.Name words = name_at words
fact_with kind.State words = state_at words
fact_with kind.Entry words = entry_at words
fact_with kind.Made words = option_map fact.Made (session_at words)
fact_with kind.Left words = option_map fact.Left (session_at words)
fact_with kind.Closed words = option_map fact.Closed (session_at words)
fact_with kind.Gone words = gone_at words

abbrev pub fact_at : List (List ℕ) → Option Fact
fact_at [] = None
fact_at (word ∷ words) = find word kinds >>= λ kind. fact_with kind words

-- what a line says, or that it says nothing
abbrev pub said_by : List (List ℕ) → Fact
said_by words = unwrap_or (fact_at words) fact.Outside

-- what the lines say, in order
abbrev pub facts_of : List Line → List Fact
facts_of lines = map (λ line. said_by (words_of line.text)) lines
