-- What a session owes further changes nothing that others owe.
use Rattle.std.proofs.Common.{◌≡◌, ◌≢◌, ◌∙◌, List, [], ◌∷◌, ◌++◌, ap, refl, inl, inr, false}
use Rattle.std.specs.List.{All}
use Rattle.std.proofs.lemmas.Bool.{cases_Bool}
use Rattle.std.proofs.lemmas.List.{append-nil}
use Rattle.std.proofs.lemmas.List.Elements.{All-head, All-tail}
use Rattle.service_tl.specs.declared.lists.Message.{Message}
use Rattle.server_rules.specs.Server.{Name, name_of, is_same}
use Rattle.server_rules.specs.Event.{Speaker, Owed}
use Rattle.server_rules.specs.Sending.{messages_by}
use Rattle.law_server.specs.Speech.{SaidFor}
use Rattle.law_server.proofs.Names.{apart-names}

messages-append : (name : Name) (owed later : List Owed) → messages_by name (owed ++ later) ≡ messages_by name owed ++ messages_by name later
messages-append name [] later = refl
messages-append name (one ∷ owed) later =
    elim (cases_Bool (is_same name one.name)) [
      | inl holds ↦ rw holds (ap (λ (messages : List Message). one.message ∷ messages) (messages-append name owed later))
      | inr fails ↦ rw fails (messages-append name owed later)
    ]

none-others : (own other : Name) (later : List Owed) → other ≢ own → All (λ one. one.name ≡ own) later → messages_by other later ≡ []
none-others own other [] apart all = refl
none-others own other (one ∷ later) apart all =
    let P : Owed → Type 0 = λ one. one.name ≡ own in
    let off : is_same other one.name ≡ false = apart-names other one.name (λ is. apart (is ∙ All-head P one later all)) in
    rw off (none-others own other later apart (All-tail P one later all))

pub said-own : {S : Type 0} (before after : Speaker S) → SaidFor S before after
    → (more : List Message) × (messages_by (name_of before.session) after.owed ≡ messages_by (name_of before.session) before.owed ++ more)
said-own before after s =
    let owed = s.owed in
    let name = name_of before.session in
    (messages_by name owed.0, ap (messages_by name) owed.1 ∙ messages-append name before.owed owed.0)

pub said-others : {S : Type 0} (before after : Speaker S) (other : Name) → SaidFor S before after → other ≢ name_of before.session
    → messages_by other after.owed ≡ messages_by other before.owed
said-others before after other s apart =
    let owed = s.owed in
    ap (messages_by other) owed.1
    ∙ (messages-append other before.owed owed.0
    ∙ (ap (λ (more : List Message). messages_by other before.owed ++ more) (none-others (name_of before.session) other owed.0 apart owed.2)
    ∙ append-nil (messages_by other before.owed)))
