-- What a served bank prints.
use Rattle.std.specs.Prelude.{ℕ, ◌+◌, Option, Some, None, Ok, Err, List, [], ◌∷◌, ◌++◌, length, decimal, codes}
use Rattle.std.specs.Io.KnownBytes.{Appends}
use Rattle.std.specs.Net.Addr.{ipv4_octets, ipv6_segments}
use Rattle.std.specs.Net.Text.{ipv4_text, ipv6_text}
use Rattle.std.specs.declared.net.ip_addr.IpAddr.{IpAddr}
use Rattle.std.specs.declared.net.ip_addr.IpAddr.TheVariants.{V4, V6}
use Rattle.sb_rows.specs.Balances.{Balances}
use Rattle.sb_rows.specs.Rows.{rows_of}
use Rattle.sb_rows.specs.Text.{unlines}
use Rattle.sb_calls.specs.Log.{rows_after}
use Rattle.sb_calls.specs.declared.ask.Key.{Key}
use Rattle.sb_calls.specs.declared.call.Call.{Call}
use Rattle.sb_text.specs.Listing.{row_lines}
use Rattle.hex.specs.Hex.{encode_lower}
use Rattle.sb_ask_log.specs.LogFile.{log_digest}
use Rattle.sb_sequencer.specs.Numbering.{calls_of}
use Rattle.bank_server.specs.SessionFaults.{session_fault_number}
use Rattle.bank_server.specs.declared.session.session_fault.SessionFault.TheVariants.{Frame, Unexpected, CrewGone, Device, OutOfMemory, Log, TooMany}
use Rattle.bank_server.specs.Clients.{End}

-- a session that ended so lets the server go on
abbrev pub ServerContinues : End → Type 0
ServerContinues (Ok done) = Unit {0}
ServerContinues (Err (Frame fault)) = Unit {0}
ServerContinues (Err Unexpected) = Unit {0}
ServerContinues (Err CrewGone) = ⊥
ServerContinues (Err Device) = Unit {0}
ServerContinues (Err OutOfMemory) = ⊥
ServerContinues (Err (Log fault)) = ⊥
ServerContinues (Err TooMany) = Unit {0}

-- `ok`, or `fault` and its number
abbrev pub end_text : End → List ℕ
end_text (Ok done) = codes " ok"
end_text (Err fault) = codes " fault " ++ decimal (session_fault_number fault)

-- `session`, its number, and how it ended
abbrev pub session_line : ℕ → End → List ℕ
session_line number end = codes "session " ++ decimal number ++ end_text end

-- one line for each session; the first has this number
unfoldable pub session_lines : ℕ → List End → List (List ℕ)
session_lines first [] = []
session_lines first (end ∷ ends) = session_line first end ∷ session_lines (first + 1) ends

-- an address as it stands before a port
abbrev pub host_text : IpAddr → List ℕ
host_text (V4 address) = ipv4_text (ipv4_octets address)
host_text (V6 address) = codes "[" ++ ipv6_text (ipv6_segments address) ++ codes "]"

-- `listening HOST:PORT`
abbrev pub port_line : IpAddr → ℕ → List ℕ
port_line host port = codes "listening " ++ host_text host ++ (58 ∷ decimal port)

-- `log`, the number of its calls, and its digest in 64 digits; a bank without a log in a file has no such
-- line
abbrev pub log_lines : Option (List ℕ) → List (Key × Call) → List (List ℕ)
log_lines None log = []
log_lines (Some opening) log =
    (codes "log " ++ decimal (length log) ++ (32 ∷ encode_lower (log_digest opening log))) ∷ []

-- these lines are printed
abbrev pub PrintsLines : List (List ℕ) → Option (List ℕ) → Option (List ℕ) → Type 0
PrintsLines lines old new = Appends old new (unlines lines)

-- the rows after a log that is executed one by one, and their total
abbrev pub end_lines : List (List ℕ) → Balances → List (Key × Call) → List (List ℕ)
end_lines names opening log = row_lines names (rows_after (calls_of log) (rows_of names opening))
