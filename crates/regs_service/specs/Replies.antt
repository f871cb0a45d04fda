-- The replies of the registers.
use Rattle.std.specs.Prelude.{ℕ, List, ◌++◌, codes}
use Rattle.tl_codec.specs.Spelling.{Tag, Long, spelling}
use Rattle.service_tl.specs.declared.item.Item.TheVariants.{RpcError}
use Rattle.service_tl.specs.Items.{spelling_of}
use Rattle.regs_service.specs.declared.reply.Refusal.{Refusal}
use Rattle.regs_service.specs.declared.reply.Refusal.TheVariants.{BadRequest, TooLarge, TooMany}

-- 0a1b2c03 value:long
abbrev pub value_number : ℕ
value_number = 0x0a1b2c03

abbrev pub value_reply : ℕ → List ℕ
value_reply value = spelling (Tag value_number) tt ++ spelling Long value

-- rpc_error 400 with a text (core.telegram.org/mtproto/service_messages, "RPC Error")
abbrev pub error_reply : List ℕ → List ℕ
error_reply text = spelling_of (RpcError 400 text)

abbrev pub refused : Refusal → List ℕ
refused BadRequest = error_reply (codes "BAD_REQUEST")
refused TooLarge = error_reply (codes "TOO_LARGE")
refused TooMany = error_reply (codes "TOO_MANY")
