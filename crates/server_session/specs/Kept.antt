-- The replies that a session keeps.
use Rattle.std.specs.Prelude.{◌≡◌, drop}
use Rattle.service_tl.specs.declared.item.Item.TheVariants.{RpcResult}
use Rattle.service_tl.specs.Items.{spelling_of}
use Rattle.outbox.specs.declared.kept.Kept.{Kept}
use Rattle.outbox.specs.Bodies.{head_bytes}
use Rattle.server_output.specs.Items.{IsContent}

-- the body of a kept reply is the `rpc_result` of its call with a content that can go in a packet
pub record IsResult (kept : Kept) : Type 0 where
  pub spelt : kept.body ≡ spelling_of (RpcResult kept.call (drop head_bytes kept.body))
  pub content : IsContent (drop head_bytes kept.body)
