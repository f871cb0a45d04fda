-- Calls that change, one by one, and stay in turn.
use Rattle.std.proofs.Common.{◌≡◌, ◌∙◌, ℕ, zero, suc, ◌+◌, ◌-◌, ◌<◌, ◌≤◌, true, Option, Some, None, List, [], ◌∷◌, ◌++◌, map, ap, sym, subst, refl, arith, inl, inr}
use Rattle.std.specs.Prelude.{⊤, option_map, slice_get}
use Rattle.std.specs.List.{AllByRecursion, Contains}
use Rattle.call_table.specs.declared.call.CallNo.{CallNo}
use Rattle.call_table.specs.declared.call.Flags.{Flags}
use Rattle.call_table.specs.declared.call.Fate.{Fate}
use Rattle.call_table.specs.declared.call.Fate.TheVariants as fate
use Rattle.call_table.specs.declared.call.Living.{Living}
use Rattle.call_table.specs.Table.{Call, Name, State, at, call_no, changed_at, first_from, flagged, is_number_of, living_name, living_name_in, new_call, no_flags, owner, sent, sent_again, settled, state_after, with_salt}
use Rattle.call_table.specs.Table as table
use Rattle.law_order.specs.Behind.{AreInTurn, HasMessage, IsBehind, IsInTurn, IsStill, Last, LivesIn, WentBehind}
use Rattle.law_order.proofs.Lists.{all-append, all-weaker, first_or, here, later, none-some, some-same, true-false}
use Rattle.law_order.proofs.Places.{first-from, get-append}

abbrev pub NotDone : Call → Type 0
NotDone call = (result : List ℕ) → call.state ≡ table.Done result → ⊥

-- a call that was that one still, and its own names stay behind the earlier call among all calls
pub record Follows (calls : List Call) (session last : ℕ) (old new : Call) : Type 0 where
  pub still : IsStill old new
  pub names : (number : CallNo) → old.after ≡ Some number → (earlier : Call) → at number calls ≡ Some earlier
      → AllByRecursion (IsBehind earlier) old.names → AllByRecursion (IsBehind earlier) new.names
  pub living : LivesIn session last new

-- one by one
abbrev pub AreFollowed : List Call → ℕ → ℕ → List Call → List Call → Type 0
AreFollowed calls session last [] [] = ⊤
AreFollowed calls session last [] (new ∷ news) = ⊥
AreFollowed calls session last (old ∷ olds) [] = ⊥
AreFollowed calls session last (old ∷ olds) (new ∷ news) = Follows calls session last old new × AreFollowed calls session last olds news

-- what went behind a call did so still
covered : (old new : Call) → IsStill old new → (session own : ℕ) (wrap : Option ℕ) → WentBehind old session own wrap → WentBehind new session own wrap
covered old new still session own (Some number) went =
    let has = still.names went.name went.among in
    record {
      name = has.name;
      among = has.among;
      of_session = has.of_session ∙ went.of_session;
      of_number = ap (λ (message : Living). message.number) has.same ∙ went.of_number;
      below = went.below;
    }
covered old new still session own None went = record { result = went.result; done = still.done went.result went.done; good = went.good }

itself : (call : Call) → IsStill call call
itself call = record {
  body = refl;
  after = refl;
  names = λ name among. record { name = name; among = among; of_session = refl; same = refl };
  done = λ result done. done;
}

then-still : (one two three : Call) → IsStill one two → IsStill two three → IsStill one three
then-still one two three first second = record {
  body = second.body ∙ first.body;
  after = second.after ∙ first.after;
  names = λ name among.
      let has = first.names name among in
      let later = second.names has.name has.among in
      record { name = later.name; among = later.among; of_session = later.of_session ∙ has.of_session; same = later.same ∙ has.same };
  done = λ result done. second.done result (first.done result done);
}

pub nothing-last : (calls : List Call) → Last calls calls
nothing-last calls = λ place call is. (call, is, itself call)

-- what a client had at the beginning
pub record Base : Type 0 where
  pub calls : List Call
  pub key : ℕ

-- its calls then last, its key is the same, and these are in turn
pub record AreKept (base : Base) (key session last : ℕ) (calls : List Call) : Type 0 where
  pub turn : AreInTurn session last calls
  pub lasting : Last base.calls calls
  pub same : key ≡ base.key

module _ (calls : List Call) (session last : ℕ) where
  followed-at : (olds news : List Call) → AreFollowed calls session last olds news → (place : ℕ) (old : Call) → slice_get olds place ≡ Some old
      → (new : Call) × (slice_get news place ≡ Some new) × Follows calls session last old new
  followed-at [] news are place old is = absurd (none-some old is)
  followed-at (one ∷ olds) [] are place old is = absurd are
  followed-at (one ∷ olds) (new ∷ news) are zero old is = (new, refl, subst (λ (old : Call). Follows calls session last old new) (some-same one old is) are.0)
  followed-at (one ∷ olds) (new ∷ news) are (suc place) old is = followed-at olds news are.1 place old is

  all-living : (olds news : List Call) → AreFollowed calls session last olds news → AllByRecursion (LivesIn session last) news
  all-living [] [] are = tt
  all-living [] (new ∷ news) are = absurd are
  all-living (old ∷ olds) [] are = absurd are
  all-living (old ∷ olds) (new ∷ news) are = (are.0.living, all-living olds news are.1)

  one-behind : (news : List Call) → AreFollowed calls session last calls news → (old new : Call) → Follows calls session last old new → IsInTurn calls old → IsInTurn news new
  one-behind news are old new follows turn number is =
      let own : old.after ≡ Some number = sym follows.still.after ∙ is in
      let was = turn number own in
      let now = followed-at calls news are (number.n - 1) was.earlier was.there in
      record {
        earlier = now.0;
        there = now.1;
        names =
            all-weaker (IsBehind was.earlier) (IsBehind now.0) new.names (λ name behind. covered was.earlier now.0 now.2.still name.session name.message.number name.message.wrap behind)
            (follows.names number own was.earlier was.there was.names);
      }

  all-behind : (news : List Call) → AreFollowed calls session last calls news → (olds left : List Call) → AreFollowed calls session last olds left
      → AllByRecursion (IsInTurn calls) olds → AllByRecursion (IsInTurn news) left
  all-behind news are [] [] all turns = tt
  all-behind news are [] (new ∷ left) all turns = absurd all
  all-behind news are (old ∷ olds) [] all turns = absurd all
  all-behind news are (old ∷ olds) (new ∷ left) all turns = (one-behind news are old new all.0 turns.0, all-behind news are olds left all.1 turns.1)

then-last : (base calls news : List Call) (session last : ℕ) → AreFollowed calls session last calls news → Last base calls → Last base news
then-last base calls news session last are lasting = λ place call is.
    let was = lasting place call is in
    let now = followed-at calls session last calls news are place was.0 was.1 in
    (now.0, now.1, then-still call was.0 now.0 was.2 now.2.still)

-- the calls are in turn still
pub followed : (base : Base) (key before past session last : ℕ) (calls news : List Call) → AreFollowed calls session last calls news → AreKept base key before past calls → AreKept base key session last news
followed base key before past session last calls news are kept =
    record {
      turn = record { behind = all-behind calls session last news are calls news are kept.turn.behind; living = all-living calls session last calls news are };
      lasting = then-last base.calls calls news session last are kept.lasting;
      same = kept.same;
    }

-- ---- one is changed, or all are

follows-itself : (calls : List Call) (session last : ℕ) (call : Call) → LivesIn session last call → Follows calls session last call call
follows-itself calls session last call lives = record { still = itself call; names = λ number is earlier there names. names; living = lives }

pub changed-among : (calls : List Call) (session last place : ℕ) (change : Call → Call) (olds : List Call)
    → ((call : Call) → slice_get olds place ≡ Some call → LivesIn session last call → Follows calls session last call (change call))
    → AllByRecursion (LivesIn session last) olds → AreFollowed calls session last olds (changed_at place change olds)
changed-among calls session last place change [] so lives = tt
changed-among calls session last zero change (old ∷ olds) so lives = (so old refl lives.0, same olds lives.1) where
  same : (olds : List Call) → AllByRecursion (LivesIn session last) olds → AreFollowed calls session last olds olds
  same [] lives = tt
  same (old ∷ olds) lives = (follows-itself calls session last old lives.0, same olds lives.1)
changed-among calls session last (suc place) change (old ∷ olds) so lives =
    (follows-itself calls session last old lives.0, changed-among calls session last place change olds so lives.1)

pub changed-turn : (base : Base) (key session last place : ℕ) (change : Call → Call) (calls : List Call)
    → ((call : Call) → slice_get calls place ≡ Some call → LivesIn session last call → Follows calls session last call (change call))
    → AreKept base key session last calls → AreKept base key session last (changed_at place change calls)
changed-turn base key session last place change calls so kept =
    followed base key session last session last calls (changed_at place change calls) (changed-among calls session last place change calls so kept.turn.living) kept

mapped-among : (calls : List Call) (before past session last : ℕ) (change : Call → Call) (olds : List Call)
    → ((call : Call) → LivesIn before past call → Follows calls session last call (change call)) → AllByRecursion (LivesIn before past) olds
    → AreFollowed calls session last olds (map change olds)
mapped-among calls before past session last change [] so lives = tt
mapped-among calls before past session last change (old ∷ olds) so lives = (so old lives.0, mapped-among calls before past session last change olds so lives.1)

pub mapped-turn : (base : Base) (key before past session last : ℕ) (change : Call → Call) (calls : List Call)
    → ((call : Call) → LivesIn before past call → Follows calls session last call (change call)) → AreKept base key before past calls → AreKept base key session last (map change calls)
mapped-turn base key before past session last change calls so kept =
    followed base key before past session last calls (map change calls) (mapped-among calls before past session last change calls so kept.turn.living) kept

-- ---- changes

-- flags alone
pub flagged-follows : (calls : List Call) (session last : ℕ) (flags : Flags) (call : Call) → LivesIn session last call → Follows calls session last call (flagged flags call)
flagged-follows calls session last flags call lives =
    record {
      still = record {
        body = refl;
        after = refl;
        names = λ name among. record { name = name; among = among; of_session = refl; same = refl };
        done = λ result done. done;
      };
      names = λ number is earlier there names. names;
      living = lives;
    }

never-sent : (fate : Fate) → state_after fate ≡ table.Sent → ⊥
never-sent fate.Queue is = cc
never-sent fate.Hold is = cc
never-sent (fate.Done bytes) is = cc
never-sent (fate.Refused code) is = cc
never-sent (fate.Unknown cause) is = cc

-- something becomes of a call that isn't done
pub settled-follows : (calls : List Call) (session last : ℕ) (fate : Fate) (call : Call) → NotDone call → Follows calls session last call (settled fate call)
settled-follows calls session last fate call undone =
    record {
      still = record {
        body = refl;
        after = refl;
        names = λ name among. record { name = name; among = among; of_session = refl; same = refl };
        done = λ result done. absurd (undone result done);
      };
      names = λ number is earlier there names. names;
      living = λ sent. absurd (never-sent fate sent);
    }

-- the message goes again
salted-names : (call : Call) (salt : ℕ) (names : List Name) → call.names ≡ with_salt salt names → (name : Name) → Contains names name
    → HasMessage call name.session name.message
salted-names call salt [] its name among = let below : among.0 < 0 = among.1 in absurd (omega (arith, below))
salted-names call salt (first ∷ names) its name among =
    let again : Name = record first { salts = salt ∷ first.salts } in
    let all : List Name = again ∷ names in
    elim (first_or name first names among) [
      | inl is ↦ record {
        name = again;
        among = subst (λ (names : List Name). Contains names again) (sym its) (here again names);
        of_session = ap (λ (name : Name). name.session) is;
        same = ap (λ (name : Name). name.message) is;
      }
      | inr other ↦ record {
        name = name;
        among = subst (λ (names : List Name). Contains names name) (sym its) (later name again names other);
        of_session = refl;
        same = refl;
      }
    ]

salted-behind : (earlier : Call) (salt : ℕ) (names : List Name) → AllByRecursion (IsBehind earlier) names → AllByRecursion (IsBehind earlier) (with_salt salt names)
salted-behind earlier salt [] all = tt
salted-behind earlier salt (first ∷ names) all = (all.0, all.1)

salted-living : (session last salt : ℕ) (state : State) (names : List Name) (name : Name) → living_name_in state names ≡ Some name → name.session ≡ session → name.message.number ≤ last
    → (one : Name) × (living_name_in state (with_salt salt names) ≡ Some one) × (one.session ≡ session) × (one.message.number ≤ last)
salted-living session last salt table.Sent [] name is of_session within = absurd (none-some name is)
salted-living session last salt table.Sent (first ∷ names) name is of_session within =
    let number = ap (λ (name : Name). name.message.number) (some-same first name is) in
    (record first { salts = salt ∷ first.salts }, refl, ap (λ (name : Name). name.session) (some-same first name is) ∙ of_session, omega (arith, number, within))
salted-living session last salt table.Queued names name is of_session within = absurd (none-some name is)
salted-living session last salt table.Held names name is of_session within = absurd (none-some name is)
salted-living session last salt (table.Done reply) names name is of_session within = absurd (none-some name is)
salted-living session last salt (table.Refused code) names name is of_session within = absurd (none-some name is)
salted-living session last salt (table.Unknown cause) names name is of_session within = absurd (none-some name is)

pub again-follows : (calls : List Call) (session last salt : ℕ) (flags : Flags) (call : Call) → LivesIn session last call
    → Follows calls session last call (sent_again salt (flagged flags call))
again-follows calls session last salt flags call lives =
    record {
      still = record {
        body = refl;
        after = refl;
        names = salted-names (sent_again salt (flagged flags call)) salt call.names refl;
        done = λ result done. done;
      };
      names = λ number is earlier there names. salted-behind earlier salt call.names names;
      living = λ sent. let was = lives sent in salted-living session last salt call.state call.names was.0 was.1 was.2 was.3;
    }

-- it goes for the first time in a session
pub sent-follows : (calls : List Call) (session last : ℕ) (message : Living) (salt : ℕ) (call : Call) → NotDone call
    → ((number : CallNo) → call.after ≡ Some number → (earlier : Call) → at number calls ≡ Some earlier → WentBehind earlier session message.number message.wrap) → message.number ≤ last
    → Follows calls session last call (sent session message salt call)
sent-follows calls session last message salt call undone behind within =
    let first : Name = record { session = session; message = message; salts = salt ∷ [] } in
    record {
      still = record {
        body = refl;
        after = refl;
        names = λ name among. record { name = name; among = later name first call.names among; of_session = refl; same = refl };
        done = λ result done. absurd (undone result done);
      };
      names = λ number is earlier there names. (behind number is earlier there, names);
      living = λ is. (first, refl, refl, within);
    }

-- a call more
pub added-turn : (base : Base) (key session last : ℕ) (calls : List Call) (body : List ℕ) (after : Option CallNo)
    → ((number : CallNo) → after ≡ Some number → (earlier : Call) × (at number calls ≡ Some earlier))
    → AreKept base key session last calls → AreKept base key session last (calls ++ new_call body after ∷ [])
added-turn base key session last calls body after there kept =
    let more = calls ++ new_call body after ∷ [] in
    record {
      turn = record {
        behind =
            all-append (IsInTurn more) calls (new_call body after ∷ [])
            (all-weaker (IsInTurn calls) (IsInTurn more) calls
            (λ call turn number is.
            let was = turn number is in
            record { earlier = was.earlier; there = get-append calls (new_call body after ∷ []) (number.n - 1) was.earlier was.there; names = was.names })
            kept.turn.behind) (
              λ number is.
                  let was = there number is in
                  record { earlier = was.0; there = get-append calls (new_call body after ∷ []) (number.n - 1) was.0 was.1; names = tt },
              tt,
            );
        living =
            all-append (LivesIn session last) calls (new_call body after ∷ []) kept.turn.living (λ sent. absurd (let no : table.Queued ≡ table.Sent = sent in cc), tt);
      };
      lasting = λ place call is.
          let was = kept.lasting place call is in
          (was.0, get-append calls (new_call body after ∷ []) place was.0 was.1, was.2);
      same = kept.same;
    }

-- ---- the call that has a number

living-sent : (number : ℕ) (state : State) (names : List Name) → is_number_of number (living_name_in state names) ≡ true → state ≡ table.Sent
living-sent number table.Sent names is = refl
living-sent number table.Queued names is = absurd (true-false (sym is))
living-sent number table.Held names is = absurd (true-false (sym is))
living-sent number (table.Done reply) names is = absurd (true-false (sym is))
living-sent number (table.Refused code) names is = absurd (true-false (sym is))
living-sent number (table.Unknown cause) names is = absurd (true-false (sym is))

pub owner-sent : (number : ℕ) (calls : List Call) (call : CallNo) → owner number calls ≡ Some call → (one : Call) → at call calls ≡ Some one → one.state ≡ table.Sent
owner-sent number calls call is one there = go (first_from (λ call. is_number_of number (living_name call)) 0 calls) refl is where
  go : (found : Option ℕ) → first_from (λ call. is_number_of number (living_name call)) 0 calls ≡ found → option_map call_no found ≡ Some call → one.state ≡ table.Sent
  go None found is = absurd (none-some call is)
  go (Some place) found is =
      let same : call_no place ≡ call = some-same (call_no place) call is in
      let first = first-from (λ (call : Call). is_number_of number (living_name call)) 0 calls place found in
      let at_place = first.1 in
      let counted : call.n ≡ place + 1 = ap (λ (call : CallNo). call.n) (sym same) in
      let where_ : call.n - 1 ≡ first.0 = omega arith in
      let its : first.2.0 ≡ one = some-same first.2.0 one (sym first.2.1 ∙ (ap (slice_get calls) (sym where_) ∙ there)) in
      living-sent number one.state one.names (ap (λ (call : Call). is_number_of number (living_name call)) (sym its) ∙ first.2.2)

pub sent-open : (call : Call) → call.state ≡ table.Sent → NotDone call
sent-open call is = λ result done. let no : table.Sent ≡ table.Done result = sym is ∙ done in cc

pub queued-open : (call : Call) → call.state ≡ table.Queued → NotDone call
queued-open call is = λ result done. let no : table.Queued ≡ table.Done result = sym is ∙ done in cc

-- numbers were given since
pub raised-lives : (session last more : ℕ) → last ≤ more → (call : Call) → LivesIn session last call → LivesIn session more call
raised-lives session last more less call lives = λ sent. let was = lives sent in (was.0, was.1, was.2, let within = was.3 in omega (arith, less, within))

pub raised : (base : Base) (key session last more : ℕ) (calls : List Call) → last ≤ more → AreKept base key session last calls → AreKept base key session more calls
raised base key session last more calls less kept =
    record {
      turn = record {
        behind = kept.turn.behind;
        living = all-weaker (LivesIn session last) (LivesIn session more) calls (raised-lives session last more less) kept.turn.living;
      };
      lasting = kept.lasting;
      same = kept.same;
    }

-- one is changed: all last
pub changed-last : (session last place : ℕ) (change : Call → Call) (calls : List Call)
    → ((call : Call) → slice_get calls place ≡ Some call → LivesIn session last call → Follows calls session last call (change call))
    → AllByRecursion (LivesIn session last) calls → Last calls (changed_at place change calls)
changed-last session last place change calls so lives =
    then-last calls calls (changed_at place change calls) session last (changed-among calls session last place change calls so lives) (nothing-last calls)
