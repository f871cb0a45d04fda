-- What packets from a server open to under a ring.
use Rattle.std.specs.Prelude.{List}
use Rattle.auth_keys.specs.declared.ring.RingKey.{RingKey}
use Rattle.client_node.specs.Course.{Reading}
use Rattle.envelope.specs.declared.parts.Dir.TheVariants.{Down}
use Rattle.envelope.specs.Lock.{mt_lock}
use Rattle.ring_rules.specs.Opening.{opened}

-- under the protocol's lock, at each moment
abbrev pub reading_under : List RingKey → Reading
reading_under ring now packet = opened mt_lock ring now Down packet
