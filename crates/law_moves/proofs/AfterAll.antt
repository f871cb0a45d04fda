-- Every lawful move keeps all, and so does every list of them.
use Rattle.std.proofs.Common.{ℕ, suc, ◌<◌, List, [], ◌∷◌, inl, inr, refl, subst, arith, zero-le}
use Rattle.law_moves.specs.World.{World}
use Rattle.law_moves.specs.Move.{Move}
use Rattle.law_moves.proofs.Kept.{Kept}
use Rattle.law_moves.proofs.Basics.{contains_none}
use Rattle.law_moves.proofs.Grows.{unchanged, names_later, packets_stay}
use Rattle.law_moves.specs.World.{start}
use Rattle.law_moves.specs.Move.Move.{Own, Send, Make, Draw, Judge, Forget, Answer, Speak, Hear, Lose}
use Rattle.law_moves.specs.After.{effect, after}
use Rattle.law_moves.specs.Lawful.{IsLawful}
use Rattle.law_moves.specs.Reached.{after_all, AreLawful, Reached}
use Rattle.law_moves.proofs.OwnKept.{kept_after_own}
use Rattle.law_moves.proofs.SendKept.{kept_after_parts}
use Rattle.law_moves.proofs.MakeKept.{kept_after_make}
use Rattle.law_moves.proofs.DrawKept.{kept_after_draw}
use Rattle.law_moves.proofs.JudgeKept.{kept_after_judge}
use Rattle.law_moves.proofs.ForgetKept.{kept_after_forget}
use Rattle.law_moves.proofs.AnswerKept.{kept_after_answer}
use Rattle.law_moves.proofs.SpeakKept.{kept_after_speak}
use Rattle.law_moves.proofs.HearKept.{kept_after_hear}
use Rattle.law_moves.proofs.LoseKept.{kept_after_lose}

-- what was before a time was before a later one
later : (now : ℕ) (w : World) → Kept now w → Kept (suc now) w
later now w k =
    record {
      servers =
          record {
            made_before = λ unique made. let before : (w.servers unique).made < now = k.servers.made_before unique made in omega arith;
            session_nonzero = k.servers.session_nonzero;
            lost_before = λ unique at lost. let before : ((w.servers unique).made < at) × (at < now) = k.servers.lost_before unique at lost in (before.0, omega arith);
            following = k.servers.following;
            unmade = k.servers.unmade;
            salts_nonzero = k.servers.salts_nonzero;
            salts_apart = k.servers.salts_apart;
          };
      outcomes = k.outcomes;
      messages = k.messages;
      owners = k.owners;
      clients = k.clients;
      names = names_later now w.ups (λ call. (w.calls call).names) k.names;
      bodies = k.bodies;
      takers = k.takers;
      calls = k.calls;
      packets = k.packets;
    }

-- the time that a world tells is in no other part of it
ticked : (now time : ℕ) (w : World) → Kept now w → Kept now (record w { time = time })
ticked now time w k =
    record {
      servers = k.servers;
      outcomes = k.outcomes;
      messages = k.messages;
      owners = k.owners;
      clients = k.clients;
      names = k.names;
      bodies = k.bodies;
      takers = k.takers;
      calls = k.calls;
      packets =
          packets_stay k (record w { time = time }) (unchanged w.servers) refl (λ entry h. h) (λ session number h. h) (λ session number given h. h);
    }

kept_effect : (w : World) (move : Move) → Kept w.time w → IsLawful w move → Kept (suc w.time) (effect w move)
kept_effect w (Own act) k lawful = kept_after_own (suc w.time) w act (later w.time w k) lawful
kept_effect w (Send client parts) k lawful =
    kept_after_parts (suc w.time) w client parts (later w.time w k) (omega arith) k.servers.made_before lawful.0 lawful.1
kept_effect w (Make unique session) k lawful = kept_after_make w unique session k lawful
kept_effect w (Draw unique salt) k lawful = kept_after_draw (suc w.time) w unique salt (later w.time w k) lawful
kept_effect w (Judge unique message outcome) k lawful =
    kept_after_judge (suc w.time) w unique message outcome (later w.time w k) lawful
kept_effect w (Forget unique number) k lawful = kept_after_forget (suc w.time) w unique number (later w.time w k) lawful
kept_effect w (Answer unique number body reply) k lawful =
    kept_after_answer (suc w.time) w unique number body reply (later w.time w k) lawful
kept_effect w (Speak unique items) k lawful = kept_after_speak (suc w.time) w unique items (later w.time w k) lawful
kept_effect w (Hear client packet takes) k lawful =
    kept_after_hear (suc w.time) w client packet takes (later w.time w k) lawful.0 lawful.1
kept_effect w (Lose unique) k lawful = kept_after_lose w unique k lawful

pub kept_after : (w : World) (move : Move) → Kept w.time w → IsLawful w move → Kept (after w move).time (after w move)
kept_after w move k lawful = ticked (suc w.time) (suc w.time) (effect w move) (kept_effect w move k lawful)

-- the empty world
pub kept_start : Kept 0 start
kept_start =
    record {
      servers =
          record {
            made_before = λ unique made. absurd (made refl);
            session_nonzero = λ unique made. absurd (made refl);
            lost_before = λ unique at lost. absurd cc;
            following = λ one other differ made. absurd (made refl);
            unmade = λ unique none. (refl, refl, refl);
            salts_nonzero = λ unique. contains_none 0;
            salts_apart = λ one other salt none. absurd (contains_none salt none);
          };
      outcomes =
          record {
            backed = λ unique judged none. absurd (contains_none judged none);
            judged_once = λ unique one other none. absurd (contains_none one none);
            forgotten_given = λ unique number none. absurd (contains_none number none);
            entry_judged = λ entry none. absurd (contains_none entry none);
            entry_once = λ unique number. tt;
          };
      messages = λ message none. absurd (contains_none message none);
      owners =
          record {
            once = λ one other session owns.
                absurd (elim owns.1 [ inl none ↦ owns.0 none | inr never ↦ contains_none session never ]);
            of_message = λ message none. absurd (contains_none message none);
            of_name = λ call name none. absurd (contains_none name none);
          };
      clients =
          record {
            salted = λ client. inl (refl, refl);
            learnt = λ client unique none. absurd (contains_none unique none);
            bounded = λ client. zero-le;
            knows = λ message client unique none. absurd (contains_none message none);
            unmade = λ client none. (refl, refl);
          };
      names =
          record {
            sent = λ call name none. absurd (contains_none name none);
            first = λ call name none. absurd (contains_none name none);
            known = λ call name message none. absurd (contains_none name none);
            of_one = λ one other name same none. absurd (contains_none name none);
            apart = λ call. tt;
          };
      bodies =
          record {
            of_name = λ call name message none. absurd (contains_none name none);
            of_message = λ message body none. absurd (contains_none message none);
          };
      takers =
          record {
            known = λ call name unique none. absurd (contains_none name none);
            judged = λ call name unique judged none. absurd (contains_none name none);
            forgotten = λ call name unique none. absurd (contains_none name none);
            replaced = λ call name none. absurd (contains_none name none);
          };
      calls = record { unsubmitted = λ call not_yet. (refl, refl); fits = λ call name none. absurd (contains_none name none) };
      packets =
          record {
            says = λ packet item none. absurd (contains_none packet none);
            made = λ packet none. absurd (contains_none packet none);
            begins = λ packet none. absurd (contains_none packet none);
          };
    }

kept_after_all : (w : World) (moves : List Move)
    → Kept w.time w → AreLawful w moves → Kept (after_all w moves).time (after_all w moves)
kept_after_all w [] k lawful = k
kept_after_all w (move ∷ moves) k lawful = kept_after_all (after w move) moves (kept_after w move k lawful.0) lawful.1

pub kept_if_reached : (w : World) → Reached w → Kept w.time w
kept_if_reached w reached = subst (λ (v : World). Kept v.time v) reached.2 (kept_after_all start reached.0 kept_start reached.1)
