use Rattle.std.proofs.Common.{[], ◌++◌, refl, inl}
use Rattle.framing.proofs.Readings.{fault_lasts, first_frames-snoc}
use Rattle.framing.proofs.laws.streams_go_on.Goals as goal

pub returns-clause-begins : goal.returns-clause-begins
returns-clause-begins g c = λ form. record { frames = []; each = refl; begun = inl (g.met.F.Framing.lawful form).empty; whole = refl }

pub returns-clause-frame : goal.returns-clause-frame
returns-clause-frame g c = λ form. first_frames-snoc (g.F.Framing.form form)

pub returns-clause-read_again : goal.returns-clause-read_again
returns-clause-read_again g c = λ form packets packet frames front rest each frame.
    record { frames = frames ++ front; rest = rest; each = first_frames-snoc (g.F.Framing.form form) packets packet frames front each frame; whole = refl }

pub returns-clause-lasts : goal.returns-clause-lasts
returns-clause-lasts g c = λ form. fault_lasts (g.F.Framing.form form) (g.met.F.Framing.lawful form)
