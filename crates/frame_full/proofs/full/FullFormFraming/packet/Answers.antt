use Rattle.std.proofs.Common.{◌≡◌, ◌<◌, ◌-◌, ◌^◌, length, refl, sym, ◌∙◌, arith}
use Rattle.frame_full.specs.Full.{sum_in, sum_due, number_in}
use Rattle.frame_full.proofs.Parts.{full_frame, to_the_end}
use Rattle.frame_full.proofs.full.FullFormFraming.packet.Goals as goal

pub returns-then-said-number : goal.returns-then-said-number
returns-then-said-number c =
    let bytes = c.args.frame.now in
    let carried : c.read_u32-said.result ≡ sum_in bytes = c.read_u32-said.ensures ∙ to_the_end bytes (length bytes - 4) in
    let found : c.crc32-found.result ≡ sum_due bytes = c.crc32-found.ensures in
    let number : c.read_u32-said-2.result ≡ number_in bytes = c.read_u32-said-2.ensures ∙ to_the_end bytes 4 in
    let right : c.read_u32-said.result ≡ c.crc32-found.result = c.if-said-found.false in
    record {
      checked = sym carried ∙ right ∙ found;
      carries = number;
      next = refl;
      apart = c.if-said-number.true;
    }

pub returns : goal.returns
returns c =
    let bytes = c.args.frame.now in
    let carried : c.read_u32-said.result ≡ sum_in bytes = c.read_u32-said.ensures ∙ to_the_end bytes (length bytes - 4) in
    let found : c.crc32-found.result ≡ sum_due bytes = c.crc32-found.ensures in
    let number : c.read_u32-said-2.result ≡ number_in bytes = c.read_u32-said-2.ensures ∙ to_the_end bytes 4 in
    let right : c.read_u32-said.result ≡ c.crc32-found.result = c.if-said-found.false in
    let due : c.read_u32-said-2.result ≡ c.args.number = c.if-said-number.false in
    let small : c.args.number < 2 ^ 32 = omega (arith, c.ranges.number.fits) in
    full_frame c.args.number bytes (λ i. omega (arith, c.type_inv.frame i)) small c.requires (sym carried ∙ right ∙ found) (sym number ∙ due)
