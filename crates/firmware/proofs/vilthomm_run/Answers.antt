-- `vilthomm_run` meets its contract: the search that is left and the run's answer, its ending as a number. Assumes nothing.
use mathlib.Core.Path.{ap}
use Rattle.search.specs.EntryPoints.{run_means}
use Rattle.firmware.specs.Answers.{run_answer}
use Rattle.firmware.proofs.vilthomm_run.Goals as goal

pub returns : goal.returns
unfolding run_answer run_means
returns c =
    let ended = c.ending_number.ensures in
    let steps = c.from.ensures in
    let ran = ap run_answer c.run-ran.ensures in
    cc
