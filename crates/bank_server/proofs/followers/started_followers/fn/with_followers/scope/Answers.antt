-- The closure was called once, on the followers that were started, each of which listens.
use Rattle.std.proofs.Common.{ℕ, refl, ap}
use Rattle.bank_server.specs.Followers.{FollowersOf}
use Rattle.bank_server.proofs.followers.started_followers.fn.with_followers.scope.Goals as goal

-- followers, with this many that listen
abbrev listening : ℕ → ℕ → FollowersOf
listening nodes n = record { nodes = nodes; listening = n; sent = 0; compared = 0 }

pub returns : goal.returns
returns g c = record {
  answer = (_, record { shown = _; shows = ap (listening c.captures.nodes) c.requires.links; left = _; met = c.f.ensures; leaves = refl });
  fault = tt;
}
