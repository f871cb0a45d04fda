-- Sessions of which one comes last and is the only one of its name.
use Rattle.std.proofs.Common.{◌≡◌, ◌≢◌, ◌∙◌, false, cond, Some, None, List, [], ◌∷◌, ◌++◌, ap, sym, refl, inl, inr}
use Rattle.std.specs.List.{All, filter}
use Rattle.std.proofs.lemmas.Bool.{cases_Bool, cond-true, cond-false, false≢true}
use Rattle.std.proofs.lemmas.List.Elements.{All-nil, All-cons, All-head, All-tail}
use Rattle.server_rules.specs.Server.{Name, Session, is_named, name_of, session_named, with_session, without_session}
use Rattle.server_rules.specs.Answer.{is_spent}
use Rattle.server_core.proofs.Names.{apart-names, find-first, find-other, names-same, none-some}
use Rattle.server_core.proofs.Spent.{HasRoom}

-- none of them has this name
abbrev pub AreApart : Name → List Session → Type 0
AreApart name sessions = All (λ (other : Session). name ≢ name_of other) sessions

abbrev pub other_name : Name → Session → Type 0
other_name name other = name ≢ name_of other

-- ---- which are of another name

pub none-apart : (name : Name) (sessions : List Session) → session_named name sessions ≡ None → AreApart name sessions
none-apart name [] none = All-nil (other_name name)
none-apart name (session ∷ sessions) none =
    elim (cases_Bool (is_named name session)) [
      | inl is ↦ absurd (none-some session (sym (sym (find-first (is_named name) session sessions is) ∙ none)))
      | inr not_so ↦
          All-cons (other_name name) session sessions
          (λ same. false≢true (sym not_so ∙ names-same name (name_of session) same))
          (none-apart name sessions (sym (find-other (is_named name) session sessions not_so) ∙ none))
    ]

pub without-apart : (name : Name) (sessions : List Session) → AreApart name (without_session name sessions)
without-apart name [] = All-nil (other_name name)
without-apart name (session ∷ sessions) =
    elim (cases_Bool (is_named name session)) [
      | inl is ↦ rw is (without-apart name sessions)
      | inr not_so ↦
          rw not_so (All-cons (other_name name) session (without_session name sessions)
          (λ same. false≢true (sym not_so ∙ names-same name (name_of session) same))
          (without-apart name sessions))
    ]

off : (name : Name) (other : Session) (others : List Session) → AreApart name (other ∷ others) → is_named name other ≡ false
off name other others apart = apart-names name (name_of other) (All-head (other_name name) other others apart)

pub apart-none : (name : Name) (sessions : List Session) → AreApart name sessions → session_named name sessions ≡ None
apart-none name [] apart = refl
apart-none name (session ∷ sessions) apart =
    find-other (is_named name) session sessions (off name session sessions apart)
    ∙ apart-none name sessions (All-tail (other_name name) session sessions apart)

-- ---- the last one

pub last-found : (name : Name) (others : List Session) (session : Session) → AreApart name others → name_of session ≡ name
    → session_named name (others ++ session ∷ []) ≡ Some session
last-found name [] session apart is = find-first (is_named name) session [] (names-same name (name_of session) (sym is))
last-found name (other ∷ others) session apart is =
    find-other (is_named name) other (others ++ session ∷ []) (off name other others apart)
    ∙ last-found name others session (All-tail (other_name name) other others apart) is

pub last-set : (session before : Session) (others : List Session) → AreApart (name_of session) others → name_of before ≡ name_of session
    → with_session session (others ++ before ∷ []) ≡ others ++ session ∷ []
last-set session before [] apart is =
    ap (λ (now : Session). now ∷ [])
    (cond-true (is_named (name_of session) before) session before (names-same (name_of session) (name_of before) (sym is)))
last-set session before (other ∷ others) apart is =
    let name = name_of session in
    ap (λ (now : Session). now ∷ with_session session (others ++ before ∷ []))
    (cond-false (is_named name other) session other (off name other others apart))
    ∙ ap (λ (rest : List Session). other ∷ rest) (last-set session before others (All-tail (other_name name) other others apart) is)

pub last-lost : (name : Name) (others : List Session) (session : Session) → AreApart name others → name_of session ≡ name
    → without_session name (others ++ session ∷ []) ≡ others
last-lost name [] session apart is =
    let same = names-same name (name_of session) (sym is) in
    rw same refl
last-lost name (other ∷ others) session apart is =
    let other_one = off name other others apart in
    rw other_one (ap (λ (rest : List Session). other ∷ rest) (last-lost name others session (All-tail (other_name name) other others apart) is))

-- ---- another one

pub another-found : (name : Name) (others : List Session) (session : Session) → name ≢ name_of session
    → session_named name (others ++ session ∷ []) ≡ session_named name others
another-found name [] session apart = find-other (is_named name) session [] (apart-names name (name_of session) apart)
another-found name (other ∷ others) session apart =
    elim (cases_Bool (is_named name other)) [
      | inl is ↦ find-first (is_named name) other (others ++ session ∷ []) is ∙ sym (find-first (is_named name) other others is)
      | inr not_so ↦
          find-other (is_named name) other (others ++ session ∷ []) not_so
          ∙ (another-found name others session apart ∙ sym (find-other (is_named name) other others not_so))
    ]

pub another-lost : (name : Name) (others : List Session) (session : Session) → name ≢ name_of session
    → without_session name (others ++ session ∷ []) ≡ without_session name others ++ session ∷ []
another-lost name [] session apart =
    let not_so = apart-names name (name_of session) apart in
    rw not_so refl
another-lost name (other ∷ others) session apart =
    let rest = another-lost name others session apart in
    elim (cases_Bool (is_named name other)) [
      | inl is ↦ rw is rest
      | inr not_so ↦ rw not_so (ap (λ (rest : List Session). other ∷ rest) rest)
    ]

-- ---- which have no room

pub last-spent : (others : List Session) (session : Session) → All HasRoom others
    → filter is_spent (others ++ session ∷ []) ≡ cond (is_spent session) (session ∷ []) []
last-spent [] session all = refl
last-spent (other ∷ others) session all =
    cond-false (is_spent other) (other ∷ filter is_spent (others ++ session ∷ [])) (filter is_spent (others ++ session ∷ [])) (All-head HasRoom other others all)
    ∙ last-spent others session (All-tail HasRoom other others all)
