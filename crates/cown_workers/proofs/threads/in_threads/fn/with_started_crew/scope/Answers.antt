-- The closure was called once, on the crew that was started.
use Rattle.std.proofs.Common.{refl}
use Rattle.cown_workers.proofs.threads.in_threads.fn.with_started_crew.scope.Goals as goal

pub returns : goal.returns
returns g c = record {
  answer = (_, record { shown = _; shows = c.in_ok-crew.ensures.crew; left = _; met = c.f-answer.ensures; leaves = refl }, c.shut_down.ensures);
  fault = tt;
}
