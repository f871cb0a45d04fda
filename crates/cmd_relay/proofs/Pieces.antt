-- From what a relay answers to what it makes of pieces.
use Rattle.std.proofs.Common.{◌≡◌, ◌≢◌, ◌∙◌, ℕ, ◌+◌, ◌<◌, List, [], ◌∷◌, ◌++◌, length, take, drop, get_or, inl, inr, refl, sym, ap, subst, add-one, drop-cons, suc}
use Rattle.std.proofs.lemmas.List.{take-append-drop, take_more}
use Rattle.std.specs.Prelude.{◌↔◌, Ok, Err, IfErr, OnOk}
use Rattle.std.specs.declared.result.Result.{Result}
use Rattle.statuses.specs.Lines.{refusal_line}
use Rattle.statuses.specs.declared.status.Status.{Status}
use Rattle.statuses.specs.declared.status.Status.TheVariants as status
use Rattle.transport.specs.declared.form.Form.{Form}
use Rattle.secret_relay.specs.Kept.{Kept}
use Rattle.secret_relay.specs.Standing.{Adds, OnEnd, Stands}
use Rattle.secret_relay.specs.Stories.{Story, Relayed, DownEnds, nothing, with_up, with_down}
use Rattle.secret_relay.specs.declared.fault.RelayFault.{RelayFault}
use Rattle.secret_relay.specs.declared.fault.RelayFault.TheVariants as faults
use Rattle.cmd_relay.specs.Captures.{line_of}
use Rattle.cmd_relay.specs.Inner.{Passes, TakesOne}
use Rattle.cmd_relay.specs.Relays.{AreTaken, IsTaken, IsRefusedFor, after, cause_of, text_of}
use Rattle.cmd_relay.specs.declared.capture.Piece.{Piece}
use Rattle.cmd_relay.specs.declared.capture.Way.TheVariants.{Up, Down}
use Rattle.cmd_relay.proofs.Taking.{taken-snoc, after-snoc, text-snoc}

abbrev pub Written : Type 0
Written = (relay : Kept) (story : Story) → Stands relay story → Relayed relay.form relay.secret story

sides : (old new : Kept) (story : Story) → new.form ≡ old.form → new.secret ≡ old.secret → Relayed new.form new.secret story → Relayed old.form old.secret story
sides old new story form secret goes =
    subst (λ (f : Form). Relayed f old.secret story) form (subst (λ (s : List ℕ). Relayed new.form s story) secret goes)

-- ---- up

module _ (written : Written) (old new : Kept) (same : (new.form ≡ old.form) × (new.secret ≡ old.secret)) (bytes before after_it : List ℕ) where
  pub up_taken : (result : Result (Unit {0}) RelayFault)
      → OnOk result ((story : Story) → Stands old story → Adds before after_it (λ more. Stands new (with_up bytes more story)))
      → OnOk result ((story : Story) → Stands old story → Adds before after_it (λ more. TakesOne old new Up bytes more story))
  up_taken (Ok x) goes = λ story stands.
      let adds = goes story stands in
      record {
        more = adds.more;
        appended = adds.appended;
        holds = record {
          taken = sides old new (with_up bytes adds.more story) same.0 same.1 (written new (with_up bytes adds.more story) adds.holds);
          stands = adds.holds;
        };
      }
  up_taken (Err fault) goes = tt

  -- ---- down

  pub down_refused : (result : Result (Unit {0}) RelayFault)
      → ((story : Story) → Stands old story → (result ≡ Err faults.Early ↔ length story.client < 64))
      → IfErr result (λ fault. OnEnd fault ((story : Story) → Stands old story → Adds before after_it (λ more. DownEnds old.form old.secret fault (with_down bytes more story))))
      → IfErr result (λ fault. fault ≢ faults.Memory → (story : Story) → Stands old story → IsRefusedFor old.form old.secret Down bytes fault story)
  down_refused (Ok x) early ends = tt
  down_refused (Err faults.Early) early ends = λ known story stands. inl (refl, (early story stands).0 refl)
  down_refused (Err (faults.Start found)) early ends = λ known story stands. let adds = ends story stands in inr (adds.more, adds.holds)
  down_refused (Err (faults.Frame fault)) early ends = λ known story stands. let adds = ends story stands in inr (adds.more, adds.holds)
  down_refused (Err (faults.Length len)) early ends = λ known story stands. let adds = ends story stands in inr (adds.more, adds.holds)
  down_refused (Err faults.Memory) early ends = λ known story stands. absurd (known refl)

-- ---- piece by piece

-- the relay stands for the pieces so far, and this is their text
pub record SoFar (form : Form) (secret : List ℕ) (pieces : List Piece) (relay : Kept) (text : List ℕ) : Type 0 where
  pub outs : List (List ℕ)
  pub taken : AreTaken form secret pieces outs nothing
  pub stands : Stands relay (after pieces outs nothing)
  pub its_form : relay.form ≡ form
  pub its_secret : relay.secret ≡ secret
  pub told : text ≡ text_of pieces outs

pub none_yet : (form : Form) (secret : List ℕ) (relay : Kept) → Stands relay nothing → relay.form ≡ form → relay.secret ≡ secret → SoFar form secret [] relay []
none_yet form secret relay stands its_form its_secret = record {
  outs = [];
  taken = tt;
  stands = stands;
  its_form = its_form;
  its_secret = its_secret;
  told = refl;
}

pub one_more : (form : Form) (secret : List ℕ) (pieces : List Piece) (piece : Piece) (old new : Kept) (text more before out : List ℕ) → before ≡ []
    → SoFar form secret pieces old text → new.form ≡ old.form → new.secret ≡ old.secret
    → ((story : Story) → Stands old story → Adds before out (λ more. TakesOne old new piece.way piece.bytes more story))
    → more ≡ text ++ line_of piece.way out
    → SoFar form secret (pieces ++ piece ∷ []) new more
one_more form secret pieces piece old new text more before out none so_far same_form same_secret takes line =
    let story : Story = after pieces so_far.outs nothing in
    let adds = takes story so_far.stands in
    let whole : out ≡ adds.more = adds.appended ∙ ap (λ (l : List ℕ). l ++ adds.more) none in
    let one : TakesOne old new piece.way piece.bytes out story = subst (λ (l : List ℕ). TakesOne old new piece.way piece.bytes l story) (sym whole) adds.holds in
    let taken : IsTaken form secret piece.way piece.bytes out story =
    subst (λ (f : Form). IsTaken f secret piece.way piece.bytes out story) so_far.its_form
    (subst (λ (s : List ℕ). IsTaken old.form s piece.way piece.bytes out story) so_far.its_secret one.taken) in
    record {
      outs = so_far.outs ++ out ∷ [];
      taken = taken-snoc form secret pieces so_far.outs piece out nothing so_far.taken taken;
      stands = subst (Stands new) (sym (after-snoc form secret pieces so_far.outs piece out nothing so_far.taken)) one.stands;
      its_form = same_form ∙ so_far.its_form;
      its_secret = same_secret ∙ so_far.its_secret;
      told = line ∙ ap (λ (l : List ℕ). l ++ line_of piece.way out) so_far.told
          ∙ sym (text-snoc form secret pieces so_far.outs piece out nothing so_far.taken);
    }

pub one_refused : (form : Form) (secret : List ℕ) (pieces front back : List Piece) (piece : Piece) (relay : Kept) (text : List ℕ) (fault : RelayFault)
    (one : Status) (due : List ℕ)
    → pieces ≡ front ++ piece ∷ back → SoFar form secret front relay text
    → ((story : Story) → Stands relay story → IsRefusedFor relay.form relay.secret piece.way piece.bytes fault story)
    → one ≡ status.InputRefused → due ≡ refusal_line piece.line (cause_of fault) → Passes form secret pieces one due
one_refused form secret pieces front back piece relay text fault one due parts so_far refused is told =
    let story : Story = after front so_far.outs nothing in
    inr (record {
      refusal = is;
      line = piece.line;
      fault = fault;
      refused = record {
        front = front;
        piece = piece;
        back = back;
        outs = so_far.outs;
        parts = parts;
        taken = so_far.taken;
        refused = subst (λ (f : Form). IsRefusedFor f secret piece.way piece.bytes fault story) so_far.its_form
            (subst (λ (s : List ℕ). IsRefusedFor relay.form s piece.way piece.bytes fault story) so_far.its_secret (refused story so_far.stands));
        number = refl;
      };
      told = told;
    })

pub all_passed : (form : Form) (secret : List ℕ) (pieces : List Piece) (relay : Kept) (text : List ℕ) → SoFar form secret pieces relay text
    → Passes form secret pieces status.Done text
all_passed form secret pieces relay text so_far = inl (record { done = refl; outs = so_far.outs; taken = so_far.taken; told = so_far.told })

-- the piece at a place, with those before it and those behind it
pub pieces_at : (pieces : List Piece) (i : ℕ) (piece : Piece) → i < length pieces → piece ≡ get_or pieces i piece
    → pieces ≡ take i pieces ++ piece ∷ drop (i + 1) pieces
pieces_at pieces i piece within is =
    sym (take-append-drop i pieces)
    ∙ ap (λ (l : List Piece). take i pieces ++ l)
    (drop-cons pieces i piece within ∙ ap (λ (p : Piece). p ∷ drop (suc i) pieces) (sym is) ∙ ap (λ (n : ℕ). piece ∷ drop n pieces) (sym (add-one i)))

pub take_one : (pieces : List Piece) (i : ℕ) (piece : Piece) → i < length pieces → piece ≡ get_or pieces i piece
    → take (i + 1) pieces ≡ take i pieces ++ piece ∷ []
take_one pieces i piece within is = take_more pieces i piece within ∙ ap (λ (p : Piece). take i pieces ++ p ∷ []) (sym is)
