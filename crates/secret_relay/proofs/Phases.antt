-- From what a link does to what a phase and a relay do.
use Rattle.std.proofs.Common.{◌≡◌, ◌≢◌, ℕ, ◌-◌, ◌<◌, List, [], ◌++◌, length, take, drop, refl, sym, ap, ap₂, subst, ◌∙◌, inl, inr, append_assoc, Option, None, Some}
use Rattle.std.specs.Prelude.{◌⊎◌, ◌↔◌, IfErr, OnOk, Ok, Err}
use Rattle.std.specs.declared.result.Result.{Result}
use Rattle.std.proofs.lemmas.List.{take-append-drop, take_rest}
use Rattle.obfus.specs.Reads.{Reads}
use Rattle.obfus.specs.declared.init.Pair.{Pair}
use Rattle.transport.specs.Starts.{start_of}
use Rattle.transport.specs.declared.form.Form.{Form}
use Rattle.transport.specs.declared.form.Form.TheVariants.{Full}
use Rattle.secret_relay.specs.declared.fault.RelayFault.{RelayFault}
use Rattle.secret_relay.specs.declared.fault.RelayFault.TheVariants as faults
use Rattle.secret_relay.specs.declared.link.Link.{Link}
use Rattle.secret_relay.specs.declared.phase.Phase.{Phase}
use Rattle.secret_relay.specs.declared.phase.Phase.TheVariants.{Awaits, Links, Ended}
use Rattle.secret_relay.specs.Kept.{Kept, IsSound}
use Rattle.secret_relay.specs.Links.{PassesUp, PassesDown}
use Rattle.secret_relay.specs.Stories.{Story, IsEarly, GoesOn, Relayed, UpEnds, DownEnds, form_in, begun_with, other_text, with_up, with_down}
use Rattle.secret_relay.specs.Standing.{Adds, KeepsLink, OnEnd, Stands, StandsIn}
use Rattle.secret_relay.proofs.Outcomes.{enough}
use Rattle.secret_relay.proofs.Goes.{Pieces, starts, up_goes, up_ends, down_goes, down_ends}

pub on_end : (fault : RelayFault) (P : Type 0) → P → OnEnd fault P
on_end faults.Early P p = tt
on_end (faults.Start found) P p = p
on_end (faults.Frame fault) P p = p
on_end (faults.Length len) P p = p
on_end faults.Memory P p = tt

pub sound_plain : (form : Form) (phase : Phase) → IsSound form phase → form ≢ Full
sound_plain form (Awaits first) sound = sound
sound_plain form (Links link) sound = sound.0
sound_plain form (Ended fault) sound = sound.0

pub relayed : (form : Form) (secret : List ℕ) (phase : Phase) (story : Story) → StandsIn form secret phase story → Relayed form secret story
relayed form secret (Awaits first) story stands = inl stands.early
relayed form secret (Links link) story stands = inr stands.so_far
relayed form secret (Ended fault) story stands = absurd stands

-- ---- a link

module _ (pieces : Pieces) (form : Form) (phase : Phase) (link new : Link) (sound : IsSound form phase) (is : phase ≡ Links link)
    (piece before after : List ℕ) (fault : Option RelayFault) where
  pub link_up_goes : fault ≡ None → PassesUp form link new piece before after fault
      → (secret : List ℕ) (story : Story) → StandsIn form secret phase story → Adds before after (λ (more : List ℕ). KeepsLink form secret new (with_up piece more story))
  link_up_goes none passed secret story stands =
      up_goes pieces form secret link new story piece before after (subst (λ (p : Phase). StandsIn form secret p story) is stands)
      (subst (λ (f : Option RelayFault). PassesUp form link new piece before after f) none passed)

  pub link_up_ends : (end : RelayFault) → fault ≡ Some end → PassesUp form link new piece before after fault
      → (secret : List ℕ) (story : Story) → StandsIn form secret phase story → Adds before after (λ (more : List ℕ). UpEnds form secret end (with_up piece more story))
  link_up_ends end some passed secret story stands =
      up_ends pieces form secret link new story piece before after end (subst (λ (p : Phase). StandsIn form secret p story) is stands)
      (subst (λ (f : Option RelayFault). PassesUp form link new piece before after f) some passed)

  pub link_down_goes : fault ≡ None → PassesDown form link new piece before after fault
      → (secret : List ℕ) (story : Story) → StandsIn form secret phase story → Adds before after (λ (more : List ℕ). KeepsLink form secret new (with_down piece more story))
  link_down_goes none passed secret story stands =
      down_goes pieces form (sound_plain form phase sound) secret link new story piece before after
      (subst (λ (p : Phase). StandsIn form secret p story) is stands)
      (subst (λ (f : Option RelayFault). PassesDown form link new piece before after f) none passed)

  pub link_down_ends : (end : RelayFault) → fault ≡ Some end → PassesDown form link new piece before after fault
      → (secret : List ℕ) (story : Story) → StandsIn form secret phase story → Adds before after (λ (more : List ℕ). DownEnds form secret end (with_down piece more story))
  link_down_ends end some passed secret story stands =
      down_ends pieces form (sound_plain form phase sound) secret link new story piece before after end
      (subst (λ (p : Phase). StandsIn form secret p story) is stands)
      (subst (λ (f : Option RelayFault). PassesDown form link new piece before after f) some passed)

-- ---- the start

-- what is behind the start of the form, with that start
behind_start : (P : List ℕ → Type 0) (start old mid after bytes : List ℕ) → bytes ≡ start → mid ≡ old ++ bytes
    → Adds mid after (λ (more : List ℕ). P (start ++ more)) → Adds old after P
behind_start P start old mid after bytes is put adds = record {
  more = start ++ adds.more;
  appended = adds.appended ∙ ap (λ (l : List ℕ). l ++ adds.more) (put ∙ ap (λ (l : List ℕ). old ++ l) is) ∙ append_assoc old start adds.more;
  holds = adds.holds;
}

module _ (pieces : Pieces) (form : Form) (secret wire : List ℕ) (pair : Pair) (link new : Link) (rest old mid after bytes : List ℕ)
    (size : length wire ≡ 64) (reads : Reads (Some secret) wire pair)
    (named : link.form ≡ form_in pair) (up : link.up ≡ pair.up) (down : link.down ≡ pair.down) (client : link.client ≡ []) (server : link.server ≡ [])
    (is : bytes ≡ start_of form) (put : mid ≡ old ++ bytes) (fault : Option RelayFault) (passed : PassesUp form link new rest mid after fault) where
  pub begin_goes : fault ≡ None → Adds old after (λ (more : List ℕ). KeepsLink form secret new (begun_with (wire ++ rest) more))
  begin_goes none =
      behind_start (λ (more : List ℕ). KeepsLink form secret new (begun_with (wire ++ rest) more)) (start_of form) old mid after bytes is put
      (up_goes pieces form secret link new (record { client = wire; server = []; upwards = start_of form; downwards = [] }) rest mid after
      (starts form secret wire pair link size reads named up down client server)
      (subst (λ (f : Option RelayFault). PassesUp form link new rest mid after f) none passed))

  pub begin_ends : (end : RelayFault) → fault ≡ Some end
      → OnEnd end (Adds old after (λ (more : List ℕ). UpEnds form secret end (begun_with (wire ++ rest) more)))
  begin_ends end some =
      on_end end (Adds old after (λ (more : List ℕ). UpEnds form secret end (begun_with (wire ++ rest) more)))
      (behind_start (λ (more : List ℕ). UpEnds form secret end (begun_with (wire ++ rest) more)) (start_of form) old mid after bytes is put
      (up_ends pieces form secret link new (record { client = wire; server = []; upwards = start_of form; downwards = [] }) rest mid after end
      (starts form secret wire pair link size reads named up down client server)
      (subst (λ (f : Option RelayFault). PassesUp form link new rest mid after f) some passed)))

early_story : (story : Story) (piece more : List ℕ) → IsEarly story → begun_with (story.client ++ piece) more ≡ with_up piece more story
early_story story piece more early i = record {
  client = story.client ++ piece;
  server = sym early.server i;
  upwards = ap (λ (l : List ℕ). l ++ more) (sym early.upwards) i;
  downwards = sym early.downwards i;
}

pub opened : (P : Story → Type 0) (form : Form) (secret first : List ℕ) (phase : Phase) (story : Story) (client piece old after : List ℕ)
    → phase ≡ Awaits first → client ≡ first ++ piece → StandsIn form secret phase story
    → Adds old after (λ (more : List ℕ). P (begun_with client more)) → Adds old after (λ (more : List ℕ). P (with_up piece more story))
opened P form secret first phase story client piece old after is whole stands adds =
    let awaits = subst (λ (p : Phase). StandsIn form secret p story) is stands in
    let same : client ≡ story.client ++ piece = whole ∙ ap (λ (l : List ℕ). l ++ piece) awaits.first in
    record {
      more = adds.more;
      appended = adds.appended;
      holds = subst P (ap (λ (l : List ℕ). begun_with l adds.more) same ∙ early_story story piece adds.more awaits.early) adds.holds;
    }

-- ---- what a call answers alone

abbrev err_of : RelayFault → Result (Unit {0}) RelayFault
err_of fault = Err fault

module _ (form : Form) (secret : List ℕ) (story : Story) (piece more old after : List ℕ)
    (apart : (upwards downwards : List ℕ) (one : Story) (fault : RelayFault) → Relayed form secret one → UpEnds form secret fault (other_text upwards downwards one) → ⊥) where
  abbrev UpAdds : RelayFault → Type 0
  UpAdds fault = Adds old after (λ (other : List ℕ). UpEnds form secret fault (with_up piece other story))

  goes_not_ends : (fault : RelayFault) → Relayed form secret (with_up piece more story) → UpAdds fault → ⊥
  goes_not_ends fault goes adds =
      apart (story.upwards ++ adds.more) story.downwards (with_up piece more story) fault goes adds.holds

  pub only_up_goes : (result : Result (Unit {0}) RelayFault) → IfErr result (λ (fault : RelayFault). fault ≢ faults.Early)
      → IfErr result (λ (fault : RelayFault). OnEnd fault (UpAdds fault)) → Relayed form secret (with_up piece more story)
      → (result ≡ Ok tt) ⊎ (result ≡ Err faults.Memory)
  only_up_goes (Ok x) never ends goes = inl refl
  only_up_goes (Err faults.Early) never ends goes = absurd (never refl)
  only_up_goes (Err (faults.Start found)) never ends goes = absurd (goes_not_ends (faults.Start found) goes ends)
  only_up_goes (Err (faults.Frame fault)) never ends goes = absurd (goes_not_ends (faults.Frame fault) goes ends)
  only_up_goes (Err (faults.Length len)) never ends goes = absurd (goes_not_ends (faults.Length len) goes ends)
  only_up_goes (Err faults.Memory) never ends goes = inr refl

  module _ (one : (upwards downwards : List ℕ) (one : Story) (fault other : RelayFault) → UpEnds form secret fault one
      → UpEnds form secret other (other_text upwards downwards one) → fault ≡ other) (fault : RelayFault)
      (ends_so : UpEnds form secret fault (with_up piece more story)) where
    same_end : (other : RelayFault) → UpAdds other → (err_of other ≡ err_of fault) ⊎ (err_of other ≡ err_of faults.Memory)
    same_end other adds =
        inl (ap err_of (sym (one (story.upwards ++ adds.more) story.downwards (with_up piece more story) fault other ends_so adds.holds)))

    pub only_up_ends : (result : Result (Unit {0}) RelayFault) → IfErr result (λ (other : RelayFault). other ≢ faults.Early)
        → IfErr result (λ (other : RelayFault). OnEnd other (UpAdds other))
        → OnOk result (Adds old after (λ (other : List ℕ). Relayed form secret (with_up piece other story)))
        → (result ≡ Err fault) ⊎ (result ≡ Err faults.Memory)
    only_up_ends (Ok x) never ends goes =
        absurd (apart (story.upwards ++ more) story.downwards (with_up piece goes.more story) fault goes.holds ends_so)
    only_up_ends (Err faults.Early) never ends goes = absurd (never refl)
    only_up_ends (Err (faults.Start found)) never ends goes = same_end (faults.Start found) ends
    only_up_ends (Err (faults.Frame other)) never ends goes = same_end (faults.Frame other) ends
    only_up_ends (Err (faults.Length len)) never ends goes = same_end (faults.Length len) ends
    only_up_ends (Err faults.Memory) never ends goes = inr refl

module _ (form : Form) (secret : List ℕ) (story : Story) (piece more old after : List ℕ)
    (apart : (upwards downwards : List ℕ) (one : Story) (fault : RelayFault) → GoesOn form secret one → DownEnds form secret fault (other_text upwards downwards one) → ⊥) where
  abbrev DownAdds : RelayFault → Type 0
  DownAdds fault = Adds old after (λ (other : List ℕ). DownEnds form secret fault (with_down piece other story))

  goes_not_halts : (fault : RelayFault) → GoesOn form secret (with_down piece more story) → DownAdds fault → ⊥
  goes_not_halts fault goes adds =
      apart story.upwards (story.downwards ++ adds.more) (with_down piece more story) fault goes adds.holds

  pub only_down_goes : (result : Result (Unit {0}) RelayFault) → (result ≡ Err faults.Early → length story.client < 64)
      → IfErr result (λ (fault : RelayFault). OnEnd fault (DownAdds fault)) → (length story.client < 64 → ⊥) → GoesOn form secret (with_down piece more story)
      → (result ≡ Ok tt) ⊎ (result ≡ Err faults.Memory)
  only_down_goes (Ok x) early ends late goes = inl refl
  only_down_goes (Err faults.Early) early ends late goes = absurd (late (early refl))
  only_down_goes (Err (faults.Start found)) early ends late goes = absurd (goes_not_halts (faults.Start found) goes ends)
  only_down_goes (Err (faults.Frame fault)) early ends late goes = absurd (goes_not_halts (faults.Frame fault) goes ends)
  only_down_goes (Err (faults.Length len)) early ends late goes = absurd (goes_not_halts (faults.Length len) goes ends)
  only_down_goes (Err faults.Memory) early ends late goes = inr refl

  module _ (one : (upwards downwards : List ℕ) (one : Story) (fault other : RelayFault) → DownEnds form secret fault one
      → DownEnds form secret other (other_text upwards downwards one) → fault ≡ other) (fault : RelayFault)
      (ends_so : DownEnds form secret fault (with_down piece more story)) where
    same_halt : (other : RelayFault) → DownAdds other → (err_of other ≡ err_of fault) ⊎ (err_of other ≡ err_of faults.Memory)
    same_halt other adds =
        inl (ap err_of (sym (one story.upwards (story.downwards ++ adds.more) (with_down piece more story) fault other ends_so adds.holds)))

    pub only_down_ends : (result : Result (Unit {0}) RelayFault) → (result ≡ Err faults.Early → length story.client < 64)
        → IfErr result (λ (other : RelayFault). OnEnd other (DownAdds other)) → (length story.client < 64 → ⊥)
        → OnOk result (Adds old after (λ (other : List ℕ). Relayed form secret (with_down piece other story)))
        → (result ≡ Err fault) ⊎ (result ≡ Err faults.Memory)
    only_down_ends (Ok x) early ends late goes =
        elim goes.holds [
          | inl few ↦ absurd (late few.few)
          | inr on ↦ absurd (apart story.upwards (story.downwards ++ more) (with_down piece goes.more story) fault on ends_so)
        ]
    only_down_ends (Err faults.Early) early ends late goes = absurd (late (early refl))
    only_down_ends (Err (faults.Start found)) early ends late goes = same_halt (faults.Start found) ends
    only_down_ends (Err (faults.Frame other)) early ends late goes = same_halt (faults.Frame other) ends
    only_down_ends (Err (faults.Length len)) early ends late goes = same_halt (faults.Length len) ends
    only_down_ends (Err faults.Memory) early ends late goes = inr refl

-- the first bytes with a front of a piece, and the rest of it
pub whole_is : (first piece more whole : List ℕ) (count : ℕ) → more ≡ first ++ take count piece → whole ≡ more
    → whole ++ take (length piece - count) (drop count piece) ≡ first ++ piece
whole_is first piece more whole count put is =
    ap₂ (λ (l k : List ℕ). l ++ k) (is ∙ put) (take_rest piece count)
    ∙ append_assoc first (take count piece) (drop count piece)
    ∙ ap (λ (l : List ℕ). first ++ l) (take-append-drop count piece)

-- ---- a relay

abbrev pub Apart : (Form → List ℕ → RelayFault → Story → Type 0) → (Form → List ℕ → Story → Type 0) → Type 0
Apart Ends Goes = (form : Form) (secret upwards downwards : List ℕ) (story : Story) (fault : RelayFault) → form ≢ Full
    → Goes form secret story → Ends form secret fault (other_text upwards downwards story) → ⊥

abbrev pub OneEnd : (Form → List ℕ → RelayFault → Story → Type 0) → Type 0
OneEnd Ends = (form : Form) (secret upwards downwards : List ℕ) (story : Story) (fault other : RelayFault) → form ≢ Full
    → Ends form secret fault story → Ends form secret other (other_text upwards downwards story) → fault ≡ other

at_story : (S : Story → Type 0) (P : RelayFault → Story → Type 0) (story : Story) → S story → (r : Result (Unit {0}) RelayFault)
    → IfErr r (λ (fault : RelayFault). OnEnd fault ((one : Story) → S one → P fault one)) → IfErr r (λ (fault : RelayFault). OnEnd fault (P fault story))
at_story S P story stands (Ok x) e = tt
at_story S P story stands (Err faults.Early) e = tt
at_story S P story stands (Err (faults.Start found)) e = e story stands
at_story S P story stands (Err (faults.Frame fault)) e = e story stands
at_story S P story stands (Err (faults.Length len)) e = e story stands
at_story S P story stands (Err faults.Memory) e = tt

at_ok : (S Q T : Story → Type 0) (story : Story) → S story → (Q story → T story) → (r : Result (Unit {0}) RelayFault)
    → OnOk r ((one : Story) → S one → Q one) → OnOk r (T story)
at_ok S Q T story stands map (Ok x) e = map (e story stands)
at_ok S Q T story stands map (Err fault) e = tt

adds_as : (old after : List ℕ) (P Q : List ℕ → Type 0) → ((more : List ℕ) → P more → Q more) → Adds old after P → Adds old after Q
adds_as old after P Q map adds = record { more = adds.more; appended = adds.appended; holds = map adds.more adds.holds }

abbrev pub EverySecret : Form → Phase → List ℕ → List ℕ → List ℕ → RelayFault → Type 0
EverySecret form phase piece old after fault =
    (s : List ℕ) (one : Story) → StandsIn form s phase one → Adds old after (λ (more : List ℕ). DownEnds form s fault (with_down piece more one))

at_secret : (form : Form) (secret : List ℕ) (phase : Phase) (piece old after : List ℕ) (r : Result (Unit {0}) RelayFault)
    → IfErr r (λ (fault : RelayFault). OnEnd fault (EverySecret form phase piece old after fault))
    → IfErr r (λ (fault : RelayFault). OnEnd fault ((one : Story) → StandsIn form secret phase one
    → Adds old after (λ (more : List ℕ). DownEnds form secret fault (with_down piece more one))))
at_secret form secret phase piece old after (Ok x) e = tt
at_secret form secret phase piece old after (Err faults.Early) e = tt
at_secret form secret phase piece old after (Err (faults.Start found)) e = e secret
at_secret form secret phase piece old after (Err (faults.Frame fault)) e = e secret
at_secret form secret phase piece old after (Err (faults.Length len)) e = e secret
at_secret form secret phase piece old after (Err faults.Memory) e = tt

at_secret_ok : (form : Form) (secret : List ℕ) (phase new : Phase) (piece old after : List ℕ) (r : Result (Unit {0}) RelayFault)
    → OnOk r ((s : List ℕ) (one : Story) → StandsIn form s phase one → Adds old after (λ (more : List ℕ). StandsIn form s new (with_down piece more one)))
    → OnOk r ((one : Story) → StandsIn form secret phase one → Adds old after (λ (more : List ℕ). StandsIn form secret new (with_down piece more one)))
at_secret_ok form secret phase new piece old after (Ok x) e = e secret
at_secret_ok form secret phase new piece old after (Err fault) e = tt

module _ (form : Form) (secret : List ℕ) (phase new : Phase) (sound : IsSound form phase) (piece old after : List ℕ)
    (result : Result (Unit {0}) RelayFault) where
  abbrev UpStory : RelayFault → Story → Type 0
  UpStory fault story = Adds old after (λ (more : List ℕ). UpEnds form secret fault (with_up piece more story))

  abbrev DownStory : RelayFault → Story → Type 0
  DownStory fault story = Adds old after (λ (more : List ℕ). DownEnds form secret fault (with_down piece more story))

  pub up_goes_alone : Apart UpEnds Relayed → IfErr result (λ (fault : RelayFault). fault ≢ faults.Early)
      → IfErr result (λ (fault : RelayFault). OnEnd fault ((one : Story) → StandsIn form secret phase one → UpStory fault one))
      → (story : Story) (more : List ℕ) → StandsIn form secret phase story → Relayed form secret (with_up piece more story)
      → (result ≡ Ok tt) ⊎ (result ≡ Err faults.Memory)
  up_goes_alone apart never ends story more stands goes =
      only_up_goes form secret story piece more old after
      (λ upwards downwards one fault. apart form secret upwards downwards one fault (sound_plain form phase sound)) result never
      (at_story (StandsIn form secret phase) UpStory story stands result ends) goes

  pub up_ends_alone : Apart UpEnds Relayed → OneEnd UpEnds → IfErr result (λ (fault : RelayFault). fault ≢ faults.Early)
      → IfErr result (λ (fault : RelayFault). OnEnd fault ((one : Story) → StandsIn form secret phase one → UpStory fault one))
      → OnOk result ((one : Story) → StandsIn form secret phase one → Adds old after (λ (more : List ℕ). StandsIn form secret new (with_up piece more one)))
      → (story : Story) (more : List ℕ) (fault : RelayFault) → StandsIn form secret phase story → UpEnds form secret fault (with_up piece more story)
      → (result ≡ Err fault) ⊎ (result ≡ Err faults.Memory)
  up_ends_alone apart one_end never ends goes story more fault stands ends_so =
      only_up_ends form secret story piece more old after
      (λ upwards downwards one fault. apart form secret upwards downwards one fault (sound_plain form phase sound))
      (λ upwards downwards one fault other. one_end form secret upwards downwards one fault other (sound_plain form phase sound))
      fault ends_so result never (at_story (StandsIn form secret phase) UpStory story stands result ends)
      (at_ok (StandsIn form secret phase) (λ (one : Story). Adds old after (λ (more : List ℕ). StandsIn form secret new (with_up piece more one)))
      (λ (one : Story). Adds old after (λ (more : List ℕ). Relayed form secret (with_up piece more one))) story stands
      (adds_as old after (λ (more : List ℕ). StandsIn form secret new (with_up piece more story)) (λ (more : List ℕ). Relayed form secret (with_up piece more story))
      (λ more. relayed form secret new (with_up piece more story))) result goes)

  pub down_goes_alone : Apart DownEnds GoesOn
      → ((s : List ℕ) (one : Story) → StandsIn form s phase one → (result ≡ Err faults.Early ↔ length one.client < 64))
      → IfErr result (λ (fault : RelayFault). OnEnd fault (EverySecret form phase piece old after fault))
      → (story : Story) (more : List ℕ) → StandsIn form secret phase story → GoesOn form secret (with_down piece more story)
      → (result ≡ Ok tt) ⊎ (result ≡ Err faults.Memory)
  down_goes_alone apart early ends story more stands goes =
      only_down_goes form secret story piece more old after
      (λ upwards downwards one fault. apart form secret upwards downwards one fault (sound_plain form phase sound)) result
      (early secret story stands).0 (at_story (StandsIn form secret phase) DownStory story stands result (at_secret form secret phase piece old after result ends))
      (enough goes.opens.wire goes.opens.rest story.client goes.opens.size goes.opens.whole) goes

  late : (fault : RelayFault) (story : Story) (more : List ℕ) → DownEnds form secret fault (with_down piece more story) → length story.client < 64 → ⊥
  late faults.Early story more e few = e
  late (faults.Start found) story more e few = e
  late (faults.Frame fault) story more e few = enough e.opens.wire e.opens.rest story.client e.opens.size e.opens.whole few
  late (faults.Length len) story more e few = enough e.opens.wire e.opens.rest story.client e.opens.size e.opens.whole few
  late faults.Memory story more e few = e

  pub down_ends_alone : Apart DownEnds GoesOn → OneEnd DownEnds
      → ((s : List ℕ) (one : Story) → StandsIn form s phase one → (result ≡ Err faults.Early ↔ length one.client < 64))
      → IfErr result (λ (fault : RelayFault). OnEnd fault (EverySecret form phase piece old after fault))
      → OnOk result ((s : List ℕ) (one : Story) → StandsIn form s phase one → Adds old after (λ (more : List ℕ). StandsIn form s new (with_down piece more one)))
      → (story : Story) (more : List ℕ) (fault : RelayFault) → StandsIn form secret phase story → DownEnds form secret fault (with_down piece more story)
      → (result ≡ Err fault) ⊎ (result ≡ Err faults.Memory)
  down_ends_alone apart one_end early ends goes story more fault stands ends_so =
      only_down_ends form secret story piece more old after
      (λ upwards downwards one fault. apart form secret upwards downwards one fault (sound_plain form phase sound))
      (λ upwards downwards one fault other. one_end form secret upwards downwards one fault other (sound_plain form phase sound))
      fault ends_so result (early secret story stands).0
      (at_story (StandsIn form secret phase) DownStory story stands result (at_secret form secret phase piece old after result ends))
      (late fault story more ends_so)
      (at_ok (StandsIn form secret phase) (λ (one : Story). Adds old after (λ (more : List ℕ). StandsIn form secret new (with_down piece more one)))
      (λ (one : Story). Adds old after (λ (more : List ℕ). Relayed form secret (with_down piece more one))) story stands
      (adds_as old after (λ (more : List ℕ). StandsIn form secret new (with_down piece more story)) (λ (more : List ℕ). Relayed form secret (with_down piece more story))
      (λ more. relayed form secret new (with_down piece more story))) result (at_secret_ok form secret phase new piece old after result goes))

-- ---- where the phase was taken out of the relay

abbrev pub kept_of : Form → List ℕ → Phase → Kept
kept_of form secret phase = record { form = form; secret = secret; phase = phase }

pub kept_is : (form : Form) (secret : List ℕ) (phase inside : Phase) (old : Kept) → phase ≡ inside → kept_of form secret inside ≡ old
    → kept_of form secret phase ≡ old
kept_is form secret phase inside old same is = ap (kept_of form secret) same ∙ is

pub sound_is : (form : Form) (phase inside : Phase) → phase ≡ inside → IsSound form inside → IsSound form phase
sound_is form phase inside same sound = subst (IsSound form) (sym same) sound

module _ (form : Form) (secret : List ℕ) (phase new : Phase) (piece before after : List ℕ) (result : Result (Unit {0}) RelayFault) (old : Kept)
    (is : kept_of form secret phase ≡ old) where
  pub up_goes_at : OnOk result ((story : Story) → StandsIn form secret phase story → Adds before after (λ (more : List ℕ). StandsIn form secret new (with_up piece more story)))
      → OnOk result ((story : Story) → Stands old story → Adds before after (λ (more : List ℕ). StandsIn form secret new (with_up piece more story)))
  up_goes_at goes =
      subst (λ (k : Kept). OnOk result ((story : Story) → Stands k story → Adds before after (λ (more : List ℕ). StandsIn form secret new (with_up piece more story)))) is goes

  pub up_ends_at : IfErr result (λ (fault : RelayFault). OnEnd fault ((story : Story) → StandsIn form secret phase story
      → Adds before after (λ (more : List ℕ). UpEnds form secret fault (with_up piece more story))))
      → IfErr result (λ (fault : RelayFault). OnEnd fault ((story : Story) → Stands old story
      → Adds before after (λ (more : List ℕ). UpEnds old.form old.secret fault (with_up piece more story))))
  up_ends_at ends =
      subst (λ (k : Kept). IfErr result (λ (fault : RelayFault). OnEnd fault ((story : Story) → Stands k story
      → Adds before after (λ (more : List ℕ). UpEnds k.form k.secret fault (with_up piece more story))))) is ends

  pub down_goes_at : OnOk result ((s : List ℕ) (one : Story) → StandsIn form s phase one → Adds before after (λ (more : List ℕ). StandsIn form s new (with_down piece more one)))
      → OnOk result ((story : Story) → Stands old story → Adds before after (λ (more : List ℕ). StandsIn form secret new (with_down piece more story)))
  down_goes_at goes =
      subst (λ (k : Kept). OnOk result ((story : Story) → Stands k story → Adds before after (λ (more : List ℕ). StandsIn form secret new (with_down piece more story)))) is
      (at_secret_ok form secret phase new piece before after result goes)

  pub down_ends_at : IfErr result (λ (fault : RelayFault). OnEnd fault ((s : List ℕ) (one : Story) → StandsIn form s phase one
      → Adds before after (λ (more : List ℕ). DownEnds form s fault (with_down piece more one))))
      → IfErr result (λ (fault : RelayFault). OnEnd fault ((story : Story) → Stands old story
      → Adds before after (λ (more : List ℕ). DownEnds old.form old.secret fault (with_down piece more story))))
  down_ends_at ends =
      subst (λ (k : Kept). IfErr result (λ (fault : RelayFault). OnEnd fault ((story : Story) → Stands k story
      → Adds before after (λ (more : List ℕ). DownEnds k.form k.secret fault (with_down piece more story))))) is
      (at_secret form secret phase piece before after result ends)

  pub down_early_at : ((s : List ℕ) (one : Story) → StandsIn form s phase one → (result ≡ Err faults.Early ↔ length one.client < 64))
      → (story : Story) → Stands old story → (result ≡ Err faults.Early ↔ length story.client < 64)
  down_early_at early =
      subst (λ (k : Kept). (story : Story) → Stands k story → (result ≡ Err faults.Early ↔ length story.client < 64)) is (early secret)
