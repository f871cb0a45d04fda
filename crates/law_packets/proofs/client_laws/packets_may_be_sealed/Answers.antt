use Rattle.law_packets.proofs.ClientEvents.{made-steady, step-steady}
use Rattle.law_packets.proofs.Flushed.{flush-good}
use Rattle.law_packets.proofs.client_laws.packets_may_be_sealed.Goals as goal

pub returns-clause-made : goal.returns-clause-made
returns-clause-made g c = λ known setting key temporary draw fit is fits may.
    made-steady known
    (record {
      room = record { has = c.room_lasts.ensures.has_next; falls = c.room_lasts.ensures.falls_by_one };
      grows = c.container_sizes.ensures.grown;
    })
    c.container_sizes.ensures.whole
    c.items_fit.ensures.fits (record { parts = c.parts_are_exact.ensures.only_lawful; inner = c.inner_bodies_are_bytes.ensures })
    setting fit (c.drawn_padding_is_lawful.ensures setting.step) key temporary draw is fits may

pub returns-clause-event : goal.returns-clause-event
returns-clause-event g c = λ known setting run event fit fair steady.
    step-steady known
    (record {
      room = record { has = c.room_lasts.ensures.has_next; falls = c.room_lasts.ensures.falls_by_one };
      grows = c.container_sizes.ensures.grown;
    })
    c.container_sizes.ensures.whole
    c.items_fit.ensures.fits (record { parts = c.parts_are_exact.ensures.only_lawful; inner = c.inner_bodies_are_bytes.ensures })
    setting fit (c.drawn_padding_is_lawful.ensures setting.step) run event fair steady

pub returns-clause-flush : goal.returns-clause-flush
returns-clause-flush g c = λ known setting now client draw fit steady.
    (flush-good
    (record {
      room = record { has = c.room_lasts.ensures.has_next; falls = c.room_lasts.ensures.falls_by_one };
      grows = c.container_sizes.ensures.grown;
    })
    c.container_sizes.ensures.whole
    known setting fit (c.drawn_padding_is_lawful.ensures setting.step) now client draw steady).steady

pub returns-clause-packet : goal.returns-clause-packet
returns-clause-packet g c = λ known setting now client draw fit steady.
    (flush-good
    (record {
      room = record { has = c.room_lasts.ensures.has_next; falls = c.room_lasts.ensures.falls_by_one };
      grows = c.container_sizes.ensures.grown;
    })
    c.container_sizes.ensures.whole
    known setting fit (c.drawn_padding_is_lawful.ensures setting.step) now client draw steady).answer
