use Rattle.temp_keys.proofs.TextLemmas.{inner-written}
use Rattle.temp_keys.proofs.plain.fill_inner.Goals as goal

pub returns-clause-written : goal.returns-clause-written
returns-clause-written c =
    inner-written c.args.plain.now.bytes c.push_all.new.self.bytes c.push_all-2.new.self.bytes c.push_all-3.new.self.bytes c.push_all-4.new.self.bytes c.push_all-5.new.self.bytes c.push_all-6.new.self.bytes
    c.to_le_bytes.result c.to_le_bytes-2.result c.to_le_bytes-3.result c.to_le_bytes-4.result c.to_le_bytes-5.result c.to_le_bytes-6.result c.args.inner.now
    c.push_all.ensures.written c.push_all-2.ensures.written c.push_all-3.ensures.written c.push_all-4.ensures.written c.push_all-5.ensures.written c.push_all-6.ensures.written
    c.to_le_bytes.ensures c.to_le_bytes-2.ensures c.to_le_bytes-3.ensures c.to_le_bytes-4.ensures c.to_le_bytes-5.ensures c.to_le_bytes-6.ensures
