use Rattle.std.proofs.Common.{take}
use Rattle.std.specs.Fmt.{HasWritten, IsPlainFormatter}
use Rattle.listing.specs.Lines.{runs_text}
use Rattle.listing.proofs.lines.PointLinesDisplay.fmt.Given as goal

-- the lines of the runs so far have been written
abbrev pub invariant-loop-i : goal.invariant-loop-i
invariant-loop-i g l =
    IsPlainFormatter l.initial.f → HasWritten g.W.Write.write_str_gives l.initial.f (runs_text g.K.Kind.numbers l.self.first (take l.i l.run-items)) l.f
