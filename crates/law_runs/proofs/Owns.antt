-- What a client's deeds make of it and of what it draws its words from.
use Rattle.std.proofs.Common.{if◌then◌else◌, List, fold}
use Rattle.std.specs.Prelude.{max, option_map}
use Rattle.draws.specs.Draws.{draw_after}
use Rattle.msg_ids.specs.Moments.{moment_of}
use Rattle.envelope.specs.declared.parts.Dir.TheVariants.{Down}
use Rattle.client_rules.specs.Asking.{attached}
use Rattle.client_rules.specs.Events.{Run, flushed, renews, takes, unless_fault}
use Rattle.client_rules.specs.Flush.{flush}
use Rattle.world_rules.specs.Refusals.{call_numbered}
use Rattle.world_rules.specs.Setting.{Setting, at_client}
use Rattle.law_connections.specs.Joint.{Deed, Attaches, Draws, Flushes, Hears, Renews, Submits}

abbrev pub done : {S V : Type 0} → Setting S V → Run S → Deed → Run S
done setting run (Submits body earlier) = record run { client = unless_fault body (option_map call_numbered earlier) run.client }
done setting run (Draws words) = record run { draw = draw_after setting.step words run.draw }
done setting run Attaches = record run { client = attached run.client }
done setting run Renews = renews (at_client setting) run
done setting run (Flushes now) = flushed (flush (at_client setting) (moment_of now) run.client run.draw)
done setting run (Hears now packet) =
    record run {
      client = if run.client.has_ended then run.client
          else takes (moment_of now) (setting.opens (max run.client.now (moment_of now)) Down packet) run.client;
    }

abbrev pub done_all : {S V : Type 0} → Setting S V → Run S → List Deed → Run S
done_all setting run deeds = fold (done setting) run deeds
