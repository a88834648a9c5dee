-- What the method is asked: a plan, a source, and a gauge at its limits.
use Rattle.std.specs.Prelude.{ℕ, Bool, List, Option}
use Rattle.gauge.specs.declared.Gauge.{Ghosts}
use Rattle.gauge.specs.Laws.{Carries, Compares}
use Rattle.plan.specs.declared.plans.Plan.{Plan}
use Rattle.plan.specs.declared.runs.Run.{Run}

-- the four functions of a gauge at its limits: the start cost; the cost after a run, or none if a limit would be passed;
-- whether one cost is no worse than another; whether one comes before another in listing order
pub record Rules (C W : Type 0) : Type 0 where
  pub start : C
  pub along : C → W → Option C
  pub no_worse : C → C → Bool
  pub before : C → C → Bool

-- those of a gauge g, by what its trait says that it means
abbrev pub rules : {G C W : Type 0} → Ghosts G C W → G → Rules C W
rules meaning g = record { start = meaning.origin; along = meaning.reach g; no_worse = meaning.no_worse; before = meaning.earlier }

-- they keep the five laws
pub record Lawful {C W : Type 0} (ρ : Rules C W) : Type 0 where
  pub compares : Compares C ρ.no_worse ρ.before
  pub carries : Carries C W ρ.no_worse ρ.along

-- the number of points, the run table, the source and the gauge
pub record Task (C W : Type 0) : Type 0 where
  pub points : ℕ
  pub runs : List (Run W)
  pub source : ℕ
  pub rules : Rules C W

abbrev pub task : {C W : Type 0} → Plan W → ℕ → Rules C W → Task C W
task plan source ρ = record { points = plan.points; runs = plan.runs.now; source = source; rules = ρ }
