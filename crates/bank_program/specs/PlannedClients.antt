-- The clients that a plan has served.
use Rattle.std.specs.Prelude.{ℕ, ◌-◌, ◌^◌, Option, Some, None, List, replicate}
use Rattle.bank_server.specs.Clients.{ClientOf, fresh_client}

-- clients before their first byte: as many as are to be served at once, each within the limits of one beside others;
-- or, one after another, one alone
abbrev pub planned_clients : Option ℕ → List ClientOf
planned_clients (Some at_once) = replicate at_once (fresh_client (record { asks = 65536; unread = 4194304 }))
planned_clients None = replicate 1 (fresh_client (record { asks = 2000000; unread = 2 ^ 64 - 1 }))
