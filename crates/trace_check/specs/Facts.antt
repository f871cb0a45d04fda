-- What a text says: a fact a line.
use Rattle.std.specs.Prelude.{◌≡◌, ◌<◌, ◌⊎◌, ℕ, Bool, true, false, List, [], ◌∷◌, map, codes, decimal, Some, slice_get}
use Rattle.sched_text.specs.Lines.{Line, Say, lines_in, words_of}
use Rattle.sched_text.specs.Words.{IsHex, IsNumber}
use Rattle.trace_check.specs.declared.numbered.Numbered.{Numbered}
use Rattle.trace_check.specs.declared.fact.Fact.{Fact}
use Rattle.trace_check.specs.declared.fact.Fact.TheVariants.{Body, Name, State, Entry, Made, Left, Closed, Gone, Outside}
use Rattle.trace_check.specs.declared.fact.Told.{Told}
use Rattle.trace_check.specs.declared.fact.Told.TheVariants.{Queued, Sent, Held, Done, Refused, Unknown}
use Rattle.trace_check.specs.declared.fact.Cause.{Cause}
use Rattle.trace_check.specs.declared.fact.Cause.TheVariants as cause

-- ---- the words of a line

-- A call is a client and its number there, a name a session and a number. The words are these two numbers.
abbrev pub AreNumbers : Numbered → Type 0
AreNumbers pair = IsNumber pair.owner × IsNumber pair.number

abbrev pub cause_word : Cause → List ℕ
cause_word cause.Session = codes "session"
cause_word cause.Renewed = codes "renewed"
cause_word cause.Ended = codes "ended"
cause_word cause.Forgotten = codes "forgotten"

-- STATE: the words tell this of a call
abbrev pub IsTold : Told → List (List ℕ) → Type 0
IsTold Queued words = words ≡ codes "queued" ∷ []
IsTold Sent words = words ≡ codes "sent" ∷ []
IsTold Held words = words ≡ codes "held" ∷ []
IsTold (Done reply) words = (word : List ℕ) × IsHex reply word × (words ≡ codes "done" ∷ word ∷ [])
IsTold (Refused code) words = IsNumber code × (words ≡ codes "refused" ∷ decimal code ∷ [])
IsTold (Unknown why) words = words ≡ codes "unknown" ∷ cause_word why ∷ []

-- whether the service ran
abbrev pub ran_word : Bool → List ℕ
ran_word true = codes "ran"
ran_word false = codes "answer"

-- the words stand for this fact
abbrev pub IsFact : Fact → List (List ℕ) → Type 0
-- body C N HEX
IsFact (Body call body) words =
    AreNumbers call × ((word : List ℕ) × IsHex body word × (words ≡ codes "body" ∷ decimal call.owner ∷ decimal call.number ∷ word ∷ []))
-- name C N S M
IsFact (Name call name) words =
    AreNumbers call × AreNumbers name
    × (words ≡ codes "name" ∷ decimal call.owner ∷ decimal call.number ∷ decimal name.owner ∷ decimal name.number ∷ [])
-- state C N STATE
IsFact (State call told) words =
    AreNumbers call × ((rest : List (List ℕ)) × IsTold told rest × (words ≡ codes "state" ∷ decimal call.owner ∷ decimal call.number ∷ rest))
-- entry START S M HEX HEX ran, or `answer` at the end
IsFact (Entry entry) words =
    IsNumber entry.start × AreNumbers entry.name
    × ((request reply : List ℕ) × IsHex entry.request request × IsHex entry.reply reply
    × (words ≡ codes "entry" ∷ decimal entry.start ∷ decimal entry.name.owner ∷ decimal entry.name.number ∷ request ∷ reply ∷ ran_word entry.ran ∷ []))
-- made S
IsFact (Made session) words = IsNumber session × (words ≡ codes "made" ∷ decimal session ∷ [])
-- left S
IsFact (Left session) words = IsNumber session × (words ≡ codes "left" ∷ decimal session ∷ [])
-- closed S
IsFact (Closed session) words = IsNumber session × (words ≡ codes "closed" ∷ decimal session ∷ [])
-- gone S M
IsFact (Gone name) words = AreNumbers name × (words ≡ codes "gone" ∷ decimal name.owner ∷ decimal name.number ∷ [])
IsFact Outside words = ⊥

-- ---- the lines of a text

-- the line says this fact; one that says none is told as `Outside`
abbrev pub SaysFact : Line → Fact → Type 0
SaysFact line fact = IsFact fact (words_of line.text) ⊎ ((fact ≡ Outside) × ((other : Fact) → IsFact other (words_of line.text) → ⊥))

-- the lines of the text say these facts, one each and in order
abbrev pub Spells : List ℕ → List Fact → Type 0
Spells text facts = Say SaysFact (lines_in text) facts

-- the numbers of these lines; the first line of a text is 1, and empty lines and those that begin with `#` are counted
abbrev pub numbers_of : List Line → List ℕ
numbers_of lines = map (λ line. line.number) lines

abbrev pub line_numbers : List ℕ → List ℕ
line_numbers text = numbers_of (lines_in text)

-- ---- facts and their places

-- the fact at this place, from 0, is this one
abbrev pub At : List Fact → ℕ → Fact → Type 0
At facts place fact = slice_get facts place ≡ Some fact

-- it stands at some place, or at two
abbrev pub IsSaid : List Fact → Fact → Type 0
IsSaid facts fact = (place : ℕ) × At facts place fact

abbrev pub IsSaidTwice : List Fact → Fact → Type 0
IsSaidTwice facts fact = (first second : ℕ) × (first < second) × At facts first fact × At facts second fact
