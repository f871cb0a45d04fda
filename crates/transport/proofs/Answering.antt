-- A server's end answers nothing else, since the first bytes tell one thing.
use Rattle.std.proofs.Common.{◌≡◌, ℕ, List, ◌++◌, take, drop, append_assoc, sym, ap, subst, ◌∙◌}
use Rattle.std.proofs.lemmas.List.{take-append-drop}
use Rattle.transport.specs.Starts.{Opening, Starts, IsAwaited, IsOpened, IsRefused}
use Rattle.transport.specs.Steps.{IfRaw, IfFramed, IfStart, IfMemory, IsRaw, IsFramedOrMemory, IsStart}
use Rattle.transport.specs.Wires.{HasStarted}
use Rattle.transport.proofs.Starting.{starts_on}
use Rattle.transport.specs.declared.wire.RawStep.{RawStep}
use Rattle.transport.specs.declared.wire.RawStep.TheVariants.{Raw, Framed, Start, Memory}

-- what of a piece isn't among the first bytes stands behind them
pub joined : (before piece first : List ℕ) (count : ℕ) → first ≡ before ++ take count piece → before ++ piece ≡ first ++ drop count piece
joined before piece first count is =
    ap (λ (l : List ℕ). before ++ l) (sym (take-append-drop count piece))
    ∙ sym (append_assoc before (take count piece) (drop count piece))
    ∙ ap (λ (l : List ℕ). l ++ drop count piece) (sym is)

-- what the first bytes open, all open
pub opened_on : (bytes slice first more : List ℕ) (start : ℕ) (opening : Opening) → bytes ≡ first ++ more → slice ≡ first
    → Starts slice opening (drop start slice) → IsOpened bytes
opened_on bytes slice first more start opening whole same starts =
    subst IsOpened (sym whole) (record {
      opening = opening;
      rest = drop start first ++ more;
      starts = starts_on first opening (drop start first) more (subst (λ (l : List ℕ). Starts l opening (drop start l)) same starts);
    })

pub only_awaits : (bytes : List ℕ) (step : RawStep)
    → ((rest : List ℕ) (opening : Opening) → Starts bytes opening rest → IsAwaited bytes → ⊥)
    → ((wire : List ℕ) → IsAwaited bytes → IsRefused bytes wire → ⊥)
    → IfFramed step (λ wire. HasStarted wire bytes) → IfStart step (λ wire. IsRefused bytes wire) → IfMemory step (λ wire. IsOpened bytes)
    → IsAwaited bytes → IsRaw step
only_awaits bytes (Raw wire) opened refused f s m a = tt
only_awaits bytes (Framed wire) opened refused f s m a = opened f.rest f.opening f.starts a
only_awaits bytes (Start first) opened refused f s m a = refused first a s
only_awaits bytes (Memory wire) opened refused f s m a = opened m.rest m.opening m.starts a

pub only_opens : (bytes : List ℕ) (step : RawStep) (opening : Opening) (rest : List ℕ)
    → (Starts bytes opening rest → IsAwaited bytes → ⊥)
    → ((wire : List ℕ) → Starts bytes opening rest → IsRefused bytes wire → ⊥)
    → IfRaw step (λ wire. (wire ≡ bytes) × IsAwaited bytes) → IfStart step (λ wire. IsRefused bytes wire)
    → Starts bytes opening rest → IsFramedOrMemory step
only_opens bytes (Raw wire) opening rest awaited refused r s starts = awaited starts r.1
only_opens bytes (Framed wire) opening rest awaited refused r s starts = tt
only_opens bytes (Start first) opening rest awaited refused r s starts = refused first starts s
only_opens bytes (Memory wire) opening rest awaited refused r s starts = tt

pub only_refuses : (bytes wire : List ℕ) (step : RawStep)
    → ((rest : List ℕ) (opening : Opening) → Starts bytes opening rest → IsRefused bytes wire → ⊥)
    → (IsAwaited bytes → IsRefused bytes wire → ⊥)
    → IfRaw step (λ raw. (raw ≡ bytes) × IsAwaited bytes) → IfFramed step (λ line. HasStarted line bytes)
    → IfStart step (λ first. IsRefused bytes first) → IfMemory step (λ raw. IsOpened bytes)
    → IsRefused bytes wire → IsStart wire step
only_refuses bytes wire (Raw raw) opened awaited r f s m refused = awaited r.1 refused
only_refuses bytes wire (Framed line) opened awaited r f s m refused = opened f.rest f.opening f.starts refused
only_refuses bytes wire (Start first) opened awaited r f s m refused = s.first ∙ sym refused.first
only_refuses bytes wire (Memory raw) opened awaited r f s m refused = opened m.rest m.opening m.starts refused
