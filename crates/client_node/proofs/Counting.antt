-- The faults that a net counts over a batch's connections.
use Rattle.std.proofs.Common.{◌≡◌, ℕ, List, [], ◌∷◌, ◌++◌, length, Option, Some, None, IfSome, IsSomeAnd, refl, sym, ap, ◌∙◌, append_assoc, append-nil}
use Rattle.mt_edge.specs.Faults.{one_more}
use Rattle.mt_edge.specs.Links.{Told}
use Rattle.mt_edge.specs.Nets.{closed_at}
use Rattle.mt_edge.specs.declared.net_call.NetCall.{NetCall}
use Rattle.mt_edge.specs.declared.net_call.NetCall.TheVariants.{Connect}
use Rattle.mt_edge.specs.declared.net_call.Outcome.TheVariants.{Failed, Open, Done}
use Rattle.client_node.specs.Counts.{Counted, count_call, count_calls}
use Rattle.client_node.proofs.Connecting.{closes_last}

-- where the net tells before and after
abbrev pub SomeCounted : Option (List NetCall) → Option (List NetCall) → ℕ → ℕ → Type 0
SomeCounted first last faults faults_then = IfSome last (λ after. IsSomeAnd first (λ before. Counted before after faults faults_then))

-- the counts of calls and then of others
count_both : (made more : List NetCall) (faults : ℕ) → count_calls (made ++ more) faults ≡ count_calls more (count_calls made faults)
count_both [] more faults = refl
count_both (call ∷ made) more faults = count_both made more (count_call call faults)

counted_at : (first between last : List NetCall) (port place : ℕ) (told : Told) (of_link faults faults_then : ℕ)
    → between ≡ first ++ Connect port Open ∷ [] → place ≡ length first → faults_then ≡ faults
    → last ≡ closed_at place told of_link between
    → Counted first last faults faults_then
counted_at first between last port place told of_link faults faults_then opened at same closed =
    record {
      made = Connect port (Done told of_link) ∷ [];
      whole = closed ∙ ap (λ (n : ℕ). closed_at n told of_link between) at ∙ ap (λ (calls : List NetCall). closed_at (length first) told of_link calls) opened ∙ closes_last first port told of_link;
      count = same;
    }

-- a connection that is given back
pub gave_counted : (first between last : Option (List NetCall)) (port place : ℕ) (told : Option Told) (of_link faults faults_then : ℕ)
    → IfSome between (λ after. IsSomeAnd first (λ before. after ≡ before ++ Connect port Open ∷ []))
    → IfSome first (λ before. place ≡ length before)
    → faults_then ≡ faults
    → IfSome last (λ after. IsSomeAnd between (λ before. IsSomeAnd told (λ said. after ≡ closed_at place said of_link before)))
    → SomeCounted first last faults faults_then
gave_counted first between None port place told of_link faults faults_then opened at same closed = tt
gave_counted first None (Some last) port place told of_link faults faults_then opened at same closed = absurd closed
gave_counted first (Some between) (Some last) port place None of_link faults faults_then opened at same closed = absurd closed
gave_counted None (Some between) (Some last) port place (Some told) of_link faults faults_then opened at same closed = absurd opened
gave_counted (Some first) (Some between) (Some last) port place (Some told) of_link faults faults_then opened at same closed =
    counted_at first between last port place told of_link faults faults_then opened at same closed

-- an attempt that failed
pub failed_counted : (first last : Option (List NetCall)) (port faults faults_then : ℕ)
    → IfSome last (λ after. IsSomeAnd first (λ before. after ≡ before ++ Connect port Failed ∷ []))
    → faults_then ≡ one_more faults
    → SomeCounted first last faults faults_then
failed_counted first None port faults faults_then told more = tt
failed_counted None (Some last) port faults faults_then told more = absurd told
failed_counted (Some first) (Some last) port faults faults_then told more = record { made = Connect port Failed ∷ []; whole = told; count = more }

-- no call
pub none_counted : (calls : Option (List NetCall)) (faults : ℕ) → SomeCounted calls calls faults faults
none_counted None faults = tt
none_counted (Some calls) faults = record { made = []; whole = sym (append-nil calls); count = refl }

counted_both : (first between last : List NetCall) (began before after : ℕ) → Counted first between began before → Counted between last before after → Counted first last began after
counted_both first between last began before after front back =
    record {
      made = front.made ++ back.made;
      whole = back.whole ∙ ap (λ (calls : List NetCall). calls ++ back.made) front.whole ∙ append_assoc first front.made back.made;
      count = back.count ∙ ap (λ (n : ℕ). count_calls back.made n) front.count ∙ sym (count_both front.made back.made began);
    }

-- some calls, and then others
pub more_counted : (first between last : Option (List NetCall)) (began before after : ℕ)
    → SomeCounted first between began before → SomeCounted between last before after → SomeCounted first last began after
more_counted first between None began before after front back = tt
more_counted first None (Some last) began before after front back = absurd back
more_counted None (Some between) (Some last) began before after front back = absurd front
more_counted (Some first) (Some between) (Some last) began before after front back = counted_both first between last began before after front back
