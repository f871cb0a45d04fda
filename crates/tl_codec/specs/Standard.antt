-- The numbers that the public schema gives TL values, and their limits.
use Rattle.std.specs.Prelude.{ℕ}

-- vector#1cb5c415 {t:Type} # [ t ] = Vector t (core.telegram.org/mtproto/serialize)
abbrev pub vector : ℕ
vector = 0x1cb5c415

-- boolTrue#997275b5 = Bool (core.telegram.org/type/Bool)
abbrev pub bool_true : ℕ
bool_true = 0x997275b5

-- boolFalse#bc799737 = Bool (the same page)
abbrev pub bool_false : ℕ
bool_false = 0xbc799737

-- the longest string, in bytes: its length has three of them (core.telegram.org/mtproto/serialize)
abbrev pub bytes_max : ℕ
bytes_max = 16777215

-- the most numbers in a list: that many identifiers may stand in one
-- (core.telegram.org/mtproto/service_messages_about_messages)
abbrev pub longs_max : ℕ
longs_max = 8192
