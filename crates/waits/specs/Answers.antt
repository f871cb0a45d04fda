-- Jobs after several answers, one after the other: words of the laws.
use Rattle.std.specs.Prelude.{ℕ, Bool, ◌==◌, ◌&&◌, List, [], ◌∷◌}
use Rattle.std.specs.List.{list_any}
use Rattle.waits.specs.declared.job.Unfinished.{Unfinished}
use Rattle.waits.specs.Jobs.{Queue, after_answer, settled}

-- the call of this number in this session of this key was answered, well or not
pub record Answer : Type 0 where
  pub key : ℕ
  pub session : ℕ
  pub number : ℕ
  pub ok : Bool

-- a job after these answers
abbrev pub after_answers : List Answer → Unfinished → Unfinished
after_answers [] one = one
after_answers (answer ∷ answers) one = after_answers answers (after_answer answer.key answer.session answer.number answer.ok one)

-- all jobs after them
abbrev pub all_settled : List Answer → Queue → Queue
all_settled [] queue = queue
all_settled (answer ∷ answers) queue = all_settled answers (settled answer.key answer.session answer.number answer.ok queue)

-- a job waits for this number
abbrev pub awaits : ℕ → Unfinished → Bool
awaits number one = list_any (λ awaited. awaited == number) one.job.after

-- it is a good answer to the call of this number in this session
abbrev pub is_well : ℕ → ℕ → ℕ → Answer → Bool
is_well key session number answer = answer.ok && (((key == answer.key) && (session == answer.session)) && (answer.number == number))
