use Rattle.std.specs.Fmt.{HasWritten, IsPlainFormatter}
use Rattle.listing.specs.Lines.{points_text}
use Rattle.listing.proofs.lines.ListingDisplay.fmt.Given as goal

-- the lines of the points so far have been written
abbrev pub invariant-loop-point : goal.invariant-loop-point
invariant-loop-point g l =
    IsPlainFormatter l.initial.f → HasWritten g.W.Write.write_str_gives l.initial.f (points_text g.K.Kind.numbers l.self.plan.now.runs.now l.point 0) l.f
