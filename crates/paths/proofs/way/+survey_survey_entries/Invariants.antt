-- The cycle `paths::way::survey`, `survey_entries` meets its contracts; the measure is twice the level that is left, one more for `survey`.
use Prim.Native.Nat.{◌+◌, ◌*◌}
use Rattle.form.proofs.Runs.{behind}
use Rattle.paths.proofs.Along.{Along}
use Rattle.paths.proofs.way.+survey_survey_entries.Given as goal

abbrev pub decreases-survey : goal.decreases-survey
decreases-survey l = 2 * l.left + 1

abbrev pub decreases-survey_entries : goal.decreases-survey_entries
decreases-survey_entries l = 2 * l.left

abbrev pub invariant-survey_entries-loop-i : goal.invariant-survey_entries-loop-i
invariant-survey_entries-loop-i l = Along l.left l.s l.n l.name (behind 1 l.path) l.at l.deep l.rest l.least l.i l.cut
