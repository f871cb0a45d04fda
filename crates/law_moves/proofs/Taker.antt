-- One taker: which server session may have accepted a name, and why a notice from it shuts the name.
use Rattle.std.proofs.Common.{◌≡◌, ◌≢◌, ℕ, ◌<◌, inl, inr, sym, ◌∙◌, subst, subst₂, arith}
use Rattle.std.proofs.lemmas.Bool.{cases_eq}
use Rattle.std.specs.List.{Contains}
use Rattle.law_moves.specs.Table.{CallId, Name, Message, Judged, ServerSession, Outcome}
use Rattle.law_moves.specs.Table.Status.{Unmade, Standing, Lost}
use Rattle.law_moves.specs.Table.Outcome.{AcceptedCall, AcceptedOther, Noticed}
use Rattle.law_moves.specs.World.{World, LostBefore, IsUnder, StandsAfter, IsAccepted}
use Rattle.law_moves.proofs.Kept.{Kept, Backs, Dead}
use Rattle.law_moves.proofs.Grows.{made_if_standing, made_if_lost, lost_at}
use Rattle.law_moves.specs.World.{StoodAt}

made_if_stands : (server : ServerSession) (time : ℕ) → StandsAfter server time → server.status ≢ Unmade
made_if_stands server time (inl standing) = made_if_standing server standing
made_if_stands server time (inr lost) = made_if_lost server lost.0 lost.1

-- one that was lost before the other was made didn't stand when the other did
not_both : (one other : ServerSession) (time : ℕ) → LostBefore one other.made → StandsAfter one time → other.made < time → ⊥
not_both one other time lost (inl standing) before =
    let never : Standing ≡ Lost lost.0 = sym standing ∙ lost.1 in absurd cc
not_both one other time lost (inr stands) before =
    let same : lost.0 ≡ stands.0 = lost_at lost.0 stands.0 (sym lost.1 ∙ stands.1) in
    let early : lost.0 < other.made = lost.2 in
    let late : time < stands.0 = stands.2 in
    absurd (omega arith)

pub one_taker : (now : ℕ) (w : World) (time one other : ℕ)
    → Kept now w
    → (w.servers one).session ≡ (w.servers other).session
    → StoodAt (w.servers one) time
    → StoodAt (w.servers other) time
    → one ≡ other
one_taker now w time one other k session at_one at_other =
    elim (cases_eq one other) [
      | inl same ↦ same
      | inr differ ↦
          elim (
          k.servers.following one other differ (made_if_stands (w.servers one) time at_one.1) (made_if_stands (w.servers other) time at_other.1) session
          ) [
            | inl lost ↦ absurd (not_both (w.servers one) (w.servers other) time lost at_one.1 at_other.0)
            | inr lost ↦ absurd (not_both (w.servers other) (w.servers one) time lost at_other.1 at_one.0)
          ]
    ]

-- what stands behind an outcome that accepts
accepted_back : (message : Message) (unique : ℕ) (server : ServerSession) (outcome : Outcome)
    → Backs message unique server outcome → IsAccepted outcome → Contains server.salts message.salt × Contains message.known unique
accepted_back message unique server (AcceptedCall body) back accepted = (back.1, back.2)
accepted_back message unique server AcceptedOther back accepted = back
accepted_back message unique server (Noticed code) back accepted = absurd accepted

pub accepted_knows : (now : ℕ) (w : World) (unique : ℕ) (judged : Judged)
    → Kept now w
    → Contains (w.servers unique).judged judged
    → IsAccepted judged.outcome
    → (message : Message)
    × Contains w.ups message
    × (message.session ≡ (w.servers unique).session)
    × (message.number ≡ judged.number)
    × Contains (w.servers unique).salts message.salt
    × Contains message.known unique
accepted_knows now w unique judged k among accepted =
    let back = k.outcomes.backed unique judged among in
    let more = accepted_back back.0 unique (w.servers unique) judged.outcome back.4 accepted in
    (back.0, back.1, back.2, back.3, more.0, more.1)

-- a server session whose salt a name was sent under was learnt and made before the name's first sending
pub salt_made_before : (now : ℕ) (w : World) (call : CallId) (name : Name) (unique : ℕ) (message : Message)
    → Kept now w
    → Contains (w.calls call).names name
    → Contains w.ups message
    → IsUnder name message
    → Contains (w.servers unique).salts message.salt
    → (w.servers unique).made < name.first
salt_made_before now w call name unique message k among sent under salt =
    elim (k.messages message sent) [
      | inl none ↦ absurd (k.servers.salts_nonzero unique (subst (λ s. Contains (w.servers unique).salts s) none.1 salt))
      | inr of ↦
          let same : of.0 ≡ unique = k.servers.salts_apart of.0 unique message.salt of.1 salt in
          let known : Contains name.known unique =
          subst₂ (λ u list. Contains list u) same (k.names.known call name message among sent under) of.2 in
          (k.takers.known call name unique among known).0
    ]

pub accepted_stood : (now : ℕ) (w : World) (call : CallId) (name : Name) (unique : ℕ) (judged : Judged)
    → Kept now w
    → Contains (w.calls call).names name
    → (w.servers unique).session ≡ name.session
    → Contains (w.servers unique).judged judged
    → judged.number ≡ name.number
    → IsAccepted judged.outcome
    → StoodAt (w.servers unique) name.first
accepted_stood now w call name unique judged k among session h number accepted =
    let back = accepted_knows now w unique judged k h accepted in (
      salt_made_before now w call name unique back.0 k among back.1 (back.2 ∙ session, back.3 ∙ number) back.4,
      k.takers.judged call name unique judged among session h number,
    )

-- a name that the one that may take it has refused is dead
pub dead_if_refused : (now : ℕ) (w : World) (call : CallId) (name : Name) (unique : ℕ) (judged : Judged)
    → Kept now w
    → Contains (w.calls call).names name
    → (w.servers unique).session ≡ name.session
    → StoodAt (w.servers unique) name.first
    → Contains (w.servers unique).judged judged
    → judged.number ≡ name.number
    → (IsAccepted judged.outcome → ⊥)
    → Dead w.servers w.ups name
dead_if_refused now w call name unique judged k among session stood h number refused other of =
    let same_if_stood : StoodAt (w.servers other) name.first → other ≡ unique =
    λ too. one_taker now w name.first other unique k (of ∙ sym session) too stood in (
      λ some has is accepted.
          let same : other ≡ unique = same_if_stood (accepted_stood now w call name other some k among of has is accepted) in
          let one : some ≡ judged = k.outcomes.judged_once unique some judged (subst (λ u. Contains (w.servers u).judged some) same has) h (is ∙ sym number) in
          refused (subst (λ (j : Judged). IsAccepted j.outcome) one accepted),
      λ standing.
          elim (cases_eq other unique) [
            | inl same ↦ inl (judged, subst (λ u. Contains (w.servers u).judged judged) (sym same) h, number)
            | inr differs ↦
                inr (
                λ message sent under salt.
                differs (same_if_stood (salt_made_before now w call name other message k among sent under salt, inl standing))
                )
          ],
    )
