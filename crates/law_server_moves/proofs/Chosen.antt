-- The lines of an event are chosen from its end.
use Rattle.std.proofs.Common.{◌≡◌, Bool, true, ◌||◌, Option, None, Some, List, [], ◌∷◌, ◌++◌, drop, length, if◌then◌else◌, inl, inr, refl, sym, ap, subst, ◌∙◌}
use Rattle.std.specs.List.{Contains}
use Rattle.std.proofs.lemmas.Bool.{cases_Bool}
use Rattle.std.proofs.Math.Seq.{drop-append_seam}
use Rattle.salt_line.specs.Rows.{Row}
use Rattle.salt_line.specs.Line.{Line}
use Rattle.server_rules.specs.Server.{Name, Session, is_named, name_of, session_named}
use Rattle.world_rules.specs.World.{has_named}
use Rattle.law_server_moves.specs.Speaking.{IsWithin}
use Rattle.law_server_moves.proofs.Lists.{each_of, here, later}
use Rattle.law_server_moves.proofs.Losing.{append_nothing}
use Rattle.law_server_moves.proofs.Found.{found_in}
use Rattle.law_server_moves.proofs.Events.{name_is}
use Rattle.law_server_moves.proofs.Gone.{AreNamedApart, named_among}
use Rattle.law_server_moves.proofs.Growing.{Grown, grown_within, with_line_rows}
use Rattle.law_server_moves.proofs.Growth.{AllFrom, ComesFrom}

-- ---- the session of a name

pub record IsFound (name : Name) (sessions : List Session) : Type 0 where
  pub session : Session
  pub there : Contains sessions session
  pub named : name ≡ name_of session
  pub found : session_named name sessions ≡ Some session

pub some_found : (name : Name) (sessions : List Session) → has_named name sessions ≡ true → IsFound name sessions
some_found name [] is = absurd (cc)
some_found name (first ∷ sessions) is =
    elim (cases_Bool (is_named name first)) [
      | inl holds ↦ record { session = first; there = here first sessions; named = name_is name first holds; found = rw holds refl }
      | inr fails ↦
          let rest = some_found name sessions (subst (λ (b : Bool). (b || has_named name sessions) ≡ true) fails is) in
          record { session = rest.session; there = later rest.session first sessions rest.there; named = rest.named; found = subst (λ (b : Bool). (if b then Some first else session_named name sessions) ≡ Some rest.session) (sym fails) rest.found }
    ]

pub itself_found : (sessions : List Session) → AreNamedApart sessions → (x : Session) → Contains sessions x → session_named (name_of x) sessions ≡ Some x
itself_found sessions apart x there =
    let f = some_found (name_of x) sessions (named_among sessions x there) in
    f.found ∙ ap (λ (s : Session). Some s) (apart f.session x f.there there (sym f.named))

-- ---- lines

abbrev pub last_by : Option Session → Session → Session
last_by (Some y) x = y
last_by None x = x

abbrev pub line_by : Option Session → Option Session → Line
line_by (Some y) before = y.salts
line_by None (Some x) = x.salts
line_by None None = record { start = 0; rows = [] }

abbrev pub more_by : Option Session → Line → List Row
more_by (Some x) line = drop (length x.salts.rows) line.rows
more_by None line = []

drop_all : (rows : List Row) → drop (length rows) rows ≡ []
drop_all rows = ap (λ (l : List Row). drop (length rows) l) (sym (append_nothing rows)) ∙ drop-append_seam rows []

-- the line of a session in the end has its rows and these
ahead_by : (x : Session) (found : Option Session) → ((y : Session) → found ≡ Some y → Grown x y)
    → line_by found (Some x) ≡ record x.salts { rows = x.salts.rows ++ more_by (Some x) (line_by found (Some x)) }
ahead_by x None grown =
    ap (λ (rows : List Row). with_line_rows x.salts rows)
    (sym (ap (λ (l : List Row). x.salts.rows ++ l) (drop_all x.salts.rows) ∙ append_nothing x.salts.rows))
ahead_by x (Some y) grown =
    let g = grown y refl in
    let rest : drop (length x.salts.rows) y.salts.rows ≡ g.0 =
    ap (λ (line : Line). drop (length x.salts.rows) line.rows) g.1 ∙ drop-append_seam x.salts.rows g.0 in
    g.1 ∙ ap (λ (l : List Row). with_line_rows x.salts (x.salts.rows ++ l)) (sym rest)

module _ (from said : List Session) (apart : AreNamedApart from) (comes : AllFrom from said) where
  -- how a session is last: as it was once all was said, or as it was before where it was lost by then
  abbrev pub last_of : Session → Session
  last_of x = last_by (session_named (name_of x) said) x

  abbrev pub line_at : Name → Line
  line_at name = line_by (session_named name said) (session_named name from)

  abbrev pub more_at : Name → List Row
  more_at name = more_by (session_named name from) (line_at name)

  pub said_grown : (x : Session) → Contains from x → (y : Session) → session_named (name_of x) said ≡ Some y → Grown x y × (x.unique ≡ y.unique) × (name_of x ≡ name_of y) × Contains said y
  said_grown x there y is =
      let f = found_in (is_named (name_of x)) said y is in
      let its : name_of x ≡ name_of y = name_is (name_of x) y f.1 in
      let old = each_of (ComesFrom from) said comes y f.0 in
      let one : old.x ≡ x = apart old.x x old.there there (old.name ∙ sym its) in
      (subst (λ (s : Session). Grown s y) one old.grown, ap (λ (s : Session). s.unique) (sym one) ∙ old.unique, its, f.0)

  module _ (x : Session) (there : Contains from x) where
    found_x : session_named (name_of x) from ≡ Some x
    found_x = itself_found from apart x there

    pub ahead : line_at (name_of x) ≡ record x.salts { rows = x.salts.rows ++ more_at (name_of x) }
    ahead =
        subst (λ (found : Option Session). line_by (session_named (name_of x) said) found ≡ record x.salts { rows = x.salts.rows ++ more_by found (line_by (session_named (name_of x) said) found) })
        (sym found_x) (ahead_by x (session_named (name_of x) said) (λ y is. (said_grown x there y is).0))

    last_line_by : (found : Option Session) → session_named (name_of x) said ≡ found → line_by found (Some x) ≡ (last_by found x).salts
    last_line_by None is = refl
    last_line_by (Some y) is = refl

    -- its last line is that line
    pub last_line : line_at (name_of x) ≡ (last_of x).salts
    last_line =
        ap (λ (found : Option Session). line_by (session_named (name_of x) said) found) found_x ∙ last_line_by (session_named (name_of x) said) refl

    last_unique_by : (found : Option Session) → session_named (name_of x) said ≡ found → (last_by found x).unique ≡ x.unique
    last_unique_by None is = refl
    last_unique_by (Some y) is = sym (said_grown x there y is).1

    pub last_unique : (last_of x).unique ≡ x.unique
    last_unique = last_unique_by (session_named (name_of x) said) refl

    last_name_by : (found : Option Session) → session_named (name_of x) said ≡ found → name_of (last_by found x) ≡ name_of x
    last_name_by None is = refl
    last_name_by (Some y) is = sym (said_grown x there y is).2

    pub last_name : name_of (last_of x) ≡ name_of x
    last_name = last_name_by (session_named (name_of x) said) refl

    pub last_rows : (last_of x).salts.rows ≡ x.salts.rows ++ more_at (name_of x)
    last_rows = ap (λ (line : Line). line.rows) (sym last_line ∙ ahead)

    -- its rows are within the line
    pub within : IsWithin (line_at (name_of x)) x
    within = subst (λ (line : Line). IsWithin line x) (sym ahead) (grown_within x (record x { salts = record x.salts { rows = x.salts.rows ++ more_at (name_of x) } }) (more_at (name_of x), refl))

  -- one that has spoken has that line
  pub said_line : AreNamedApart said → (y : Session) → Contains said y → line_at (name_of y) ≡ y.salts
  said_line said_apart y there = ap (λ (found : Option Session). line_by found (session_named (name_of y) from)) (itself_found said said_apart y there)

  -- one that came before it is within the line
  pub within_between : (middle : List Session) → AllFrom middle said → (o : Session) → ((z : Session) → Contains middle z → name_of z ≡ name_of o → z ≡ o) → has_named (name_of o) said ≡ true
      → IsWithin (line_at (name_of o)) o
  within_between middle comes_later o one_of named =
      let f = some_found (name_of o) said named in
      let old = each_of (ComesFrom middle) said comes_later f.session f.there in
      let one : old.x ≡ o = one_of old.x old.there (old.name ∙ sym f.named) in
      subst (λ (found : Option Session). IsWithin (line_by found (session_named (name_of o) from)) o) (sym f.found)
      (grown_within o f.session (subst (λ (s : Session). Grown s f.session) one old.grown))
