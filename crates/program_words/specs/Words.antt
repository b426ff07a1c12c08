-- The program's words; the first is its name.
use Rattle.std.specs.Prelude.{◌≡◌, ◌≤◌, ◌⊎◌, ◌-◌, ◌^◌, ◌||◌, if◌then◌else◌, Bool, true, false, ℕ, Option, Some, None, List, [], ◌∷◌, ◌++◌, String, codes, map, string_bytes, is_some, IfSome}
use Rattle.std.specs.Borrow.{Bor}
use Rattle.std.specs.Net.Addr.{ipv4_octets}
use Rattle.std.specs.Net.Grammar.{IsSocketText}
use Rattle.std.specs.Net.Socket.{socket_ip, socket_port, socket_scope_id}
use Rattle.std.specs.declared.net.ip_addr.IpAddr.{IpAddr}
use Rattle.std.specs.declared.net.ip_addr.IpAddr.TheVariants.{V4, V6}
use Rattle.std.specs.declared.net.socket_addr.SocketAddr.{SocketAddr}
use Rattle.std.specs.Str.{bytes_eq}
use Rattle.std.specs.Str.Parse.{IsNumeral, digits_value, without_leading_plus}
use Rattle.clap.specs.declared.error.kind.ErrorKind.{ErrorKind}
use Rattle.clap.specs.declared.error.kind.ErrorKind.TheVariants.{ValueValidation, OutOfMemory}
use Rattle.sb_calls.specs.declared.nodes.TheConstants.{REPLICAS, WORKERS}
use Rattle.program_words.specs.declared.plan.Plan.{Plan}
use Rattle.program_words.specs.declared.listing.Listing.TheVariants.{Asks, Rows, Check}
use Rattle.program_words.specs.declared.words.Words.{Words}
use Rattle.program_words.specs.declared.words.Words.TheVariants.{Run, Play, Serve, Log, Ask, Checkpoint}
use Rattle.program_words.specs.declared.words.ask.AskWords.{AskWords}
use Rattle.program_words.specs.declared.words.checkpoint.CheckpointView.{CheckpointView}
use Rattle.program_words.specs.declared.words.checkpoint.CheckpointView.TheVariants as view
use Rattle.program_words.specs.declared.words.checkpoint.CheckpointView.TheVariants.{Balances, Opening}
use Rattle.program_words.specs.declared.words.checkpoint.CheckpointWords.{CheckpointWords}
use Rattle.program_words.specs.declared.words.log.LogAction.{LogAction}
use Rattle.program_words.specs.declared.words.log.LogAction.TheVariants as action
use Rattle.program_words.specs.declared.words.log.LogWords.{LogWords}
use Rattle.program_words.specs.declared.words.run.RunWords.{RunWords}
use Rattle.program_words.specs.declared.words.serve.ServeWords.{ServeWords}

module _ {A : Type 0} where
  -- the second word is this one
  abbrev pub IsSecond : List ℕ → List (String A) → Type 0
  IsSecond word [] = ⊥
  IsSecond word (name ∷ []) = ⊥
  IsSecond word (name ∷ second ∷ options) = string_bytes second ≡ word

  -- the word after the name says which program, and without one it is `run`
  abbrev pub NamesProgram : Words → List (String A) → Type 0
  NamesProgram (Run run) [] = Unit {0}
  NamesProgram (Run run) (name ∷ []) = Unit {0}
  NamesProgram (Run run) (name ∷ second ∷ options) = string_bytes second ≡ codes "run"
  NamesProgram Play words = IsSecond (codes "play") words
  NamesProgram (Serve serve) words = IsSecond (codes "serve") words
  NamesProgram (Log log) words = IsSecond (codes "log") words
  NamesProgram (Ask ask) words = IsSecond (codes "ask") words
  NamesProgram (Checkpoint checkpoint) words = IsSecond (codes "checkpoint") words

-- a bank with a log, or with many clients at once, may be served without end
abbrev pub may_be_endless : Bool → Option ℕ → Bool
may_be_endless logs clients = logs || is_some clients

-- a number of a bank that isn't told it: this one if it keeps a log, else none
abbrev pub usual_with_log : Bool → ℕ → Option ℕ
usual_with_log logs number = if logs then Some number else None

-- the sessions of a bank that isn't told their number: one, or as many as a machine counts if it may be
-- served without end
abbrev pub usual_sessions : Bool → ℕ
usual_sessions endless = if endless then 2 ^ 64 - 1 else 1

-- a plan has at least one session, and at most 1,000 if it can't be without end; it has 1 to 1,000
-- clients at once, if it says how many; it has 1 to REPLICAS nodes, 0 to WORKERS workers, and its
-- patience, if it has one, is 1 second to a day
abbrev pub IsPlanInRange : Bool → Plan → Type 0
IsPlanInRange logs plan = (1 ≤ plan.sessions)
    × (may_be_endless logs plan.clients ≡ false → plan.sessions ≤ 1000)
    × IfSome plan.clients (λ count. (1 ≤ count) × (count ≤ 1000)) × (1 ≤ plan.nodes)
    × (plan.nodes ≤ REPLICAS)
    × (plan.workers ≤ WORKERS) × IfSome plan.patience (λ seconds. (1 ≤ seconds) × (seconds ≤ 86400))

-- a run has 1 to REPLICAS nodes and 0 to WORKERS workers
abbrev pub IsRunInRange : RunWords → Type 0
IsRunInRange run = (1 ≤ run.nodes) × (run.nodes ≤ REPLICAS) × (run.workers ≤ WORKERS)

-- a port is below 2^16, and a served bank has a plan in range
abbrev pub IsServeInRange : ServeWords → Type 0
IsServeInRange serve = (serve.port ≤ 65535) × IsPlanInRange (is_some serve.log) serve.plan

-- a client asks at a port from 1 on, has a number from 1 on, if it has one, and sends 1 to 10,000 requests
-- at a time; these numbers of clients and requests are below 2^32
abbrev pub IsAskInRange : AskWords → Type 0
IsAskInRange ask = (1 ≤ ask.port) × (ask.port ≤ 65535)
    × IfSome ask.client (λ client. (1 ≤ client) × (client ≤ 4294967295)) × (ask.from ≤ 4294967295)
    × (1 ≤ ask.flush) × (ask.flush ≤ 10000)

-- a run, a served bank and a client are in range
abbrev pub InRange : Words → Type 0
InRange (Run run) = IsRunInRange run
InRange Play = Unit {0}
InRange (Serve serve) = IsServeInRange serve
InRange (Log log) = Unit {0}
InRange (Ask ask) = IsAskInRange ask
InRange (Checkpoint checkpoint) = Unit {0}

-- the words are wrong, or memory was refused
abbrev pub IsRefusal : ErrorKind → Type 0
IsRefusal ValueValidation = Unit {0}
IsRefusal OutOfMemory = Unit {0}
IsRefusal other = ⊥

-- an option has this value: it is the next word, or it follows `=` in the same word
abbrev pub HasValue : List ℕ → List ℕ → List (List ℕ) → Type 0
HasValue option value words = (before : List (List ℕ)) × (after : List (List ℕ))
    × ((words ≡ before ++ (option ∷ value ∷ after)) ⊎ (words ≡ before ++ ((option ++ (61 ∷ value)) ∷ after)))

-- the text is the number's digits, after an optional `+`
abbrev pub IsIntegerText : List ℕ → ℕ → Type 0
IsIntegerText text number = IsNumeral 10 (without_leading_plus text)
    × (number ≡ digits_value 10 (without_leading_plus text))

-- an option has this number
abbrev pub HasInteger : List ℕ → ℕ → List (List ℕ) → Type 0
HasInteger option number words = (text : List ℕ) × HasValue option text words × IsIntegerText text number

-- an option has this number, or none if it has no value
abbrev pub MayHaveInteger : List ℕ → Option ℕ → List (List ℕ) → Type 0
MayHaveInteger option None words = (text : List ℕ) → ¬ (HasValue option text words)
MayHaveInteger option (Some number) words = HasInteger option number words

-- an option has this number, or this is the usual one, if there is one, and the option has no value
abbrev pub HasIntegerOrUsual : List ℕ → Option ℕ → Option ℕ → List (List ℕ) → Type 0
HasIntegerOrUsual option usual number words =
    ((given : ℕ) × (number ≡ Some given) × HasInteger option given words)
    ⊎ ((number ≡ usual) × ((text : List ℕ) → ¬ (HasValue option text words)))

-- an option has this text, or none if it has no value
abbrev pub MayHaveText : List ℕ → Option (Bor (List ℕ)) → List (List ℕ) → Type 0
MayHaveText option None words = (text : List ℕ) → ¬ (HasValue option text words)
MayHaveText option (Some text) words = HasValue option text.now words

-- no other machine reaches this address
abbrev pub IsThisMachine : IpAddr → Type 0
IsThisMachine (V4 address) = ipv4_octets address ≡ 127 ∷ 0 ∷ 0 ∷ 1 ∷ []
IsThisMachine (V6 address) = ⊥

-- this text writes this address and this port, and no scope
abbrev pub WritesAddress : List ℕ → IpAddr → ℕ → Type 0
WritesAddress text host port = (address : SocketAddr) × IsSocketText text address
    × (socket_ip address ≡ host) × (socket_port address ≡ port) × (socket_scope_id address ≡ 0)

-- a bank listens at the address that `--listen` has, or without it at a port of this machine alone
abbrev pub GivesAddress : IpAddr → ℕ → List (List ℕ) → Type 0
GivesAddress host port words =
    ((text : List ℕ) × HasValue (codes "--listen") text words × WritesAddress text host port
    × ((other : List ℕ) → ¬ (HasValue (codes "--port") other words)))
    ⊎ (HasInteger (codes "--port") port words × IsThisMachine host
    × ((text : List ℕ) → ¬ (HasValue (codes "--listen") text words)))

-- the word is among these
unfoldable pub has_word : List ℕ → List (List ℕ) → Bool
has_word word [] = false
has_word word (first ∷ words) = bytes_eq first word || has_word word words

-- a bank that saves keeps its checkpoint in the store's folder, and one that doesn't is given none
abbrev pub GivesStore : Bool → List ℕ → List (List ℕ) → Type 0
GivesStore true folder words = HasValue (codes "--store") folder words
GivesStore false folder words = (text : List ℕ) → ¬ (HasValue (codes "--store") text words)

-- an option has this number, or this is the default and the option has no value
abbrev pub HasIntegerOrDefault : List ℕ → ℕ → ℕ → List (List ℕ) → Type 0
HasIntegerOrDefault option standard number words = HasInteger option number words
    ⊎ ((number ≡ standard) × ((text : List ℕ) → ¬ (HasValue option text words)))

-- these words and the options of a thing, before or behind it
abbrev pub IsBeside : List ℕ → List (List ℕ) → List (List ℕ) → Type 0
IsBeside thing options words = (words ≡ thing ∷ options) ⊎ (words ≡ options ++ thing ∷ [])

-- the flag that has this done with a log, or none if its asks are listed
abbrev pub flags_of : LogAction → List (List ℕ)
flags_of (action.List Asks) = []
flags_of (action.List Rows) = codes "--rows" ∷ []
flags_of (action.List Check) = codes "--check" ∷ []
flags_of action.Cut = codes "--cut" ∷ []

-- a log's folder, with a flag before or behind it, or none
abbrev pub GivesLog : LogWords → List (List ℕ) → Type 0
GivesLog log words = IsBeside log.folder.now (flags_of log.action) words

-- the option that has this printed of a checkpoint, or none if its balances are printed by their places
abbrev pub AreOptionsOf : CheckpointView → List (List ℕ) → Type 0
AreOptionsOf Balances options = options ≡ []
AreOptionsOf (Opening opening) options = (options ≡ codes "--opening" ∷ opening.now ∷ [])
    ⊎ (options ≡ (codes "--opening" ++ (61 ∷ opening.now)) ∷ [])
AreOptionsOf view.Check options = options ≡ codes "--check" ∷ []

-- a checkpoint's file, with an option before or behind it, or none
abbrev pub GivesCheckpoint : CheckpointWords → List (List ℕ) → Type 0
GivesCheckpoint checkpoint words = (options : List (List ℕ)) × AreOptionsOf checkpoint.view options
    × IsBeside checkpoint.file.now options words

module _ {A : Type 0} where
  -- the numbers of nodes and workers that these words give, or the defaults 1 and 0
  abbrev pub GivesCounts : ℕ → ℕ → List (String A) → Type 0
  GivesCounts nodes workers words = HasIntegerOrDefault (codes "--nodes") 1 nodes (map string_bytes words)
      × HasIntegerOrDefault (codes "--workers") 0 workers (map string_bytes words)

  -- the numbers of nodes and workers that these words give, or the defaults, and whether each line has to end
  -- with a line feed
  abbrev pub GivesRun : RunWords → List (String A) → Type 0
  GivesRun run words = GivesCounts run.nodes run.workers words
      × (run.strict ≡ has_word (codes "--strict") (map string_bytes words))

  -- the numbers of sessions, nodes and workers that these words give, or the defaults; the number of clients
  -- at once and the seconds of patience, if they give any, or 100 and 60 with a log; and whether it is quiet
  abbrev pub GivesPlan : Bool → Plan → List (String A) → Type 0
  GivesPlan logs plan words =
      HasIntegerOrDefault (codes "--sessions") (usual_sessions (may_be_endless logs plan.clients)) plan.sessions
      (map string_bytes words)
      × HasIntegerOrUsual (codes "--clients") (usual_with_log logs 100) plan.clients (map string_bytes words)
      × GivesCounts plan.nodes plan.workers words
      × HasIntegerOrUsual (codes "--patience") (usual_with_log logs 60) plan.patience (map string_bytes words)
      × (plan.is_quiet ≡ has_word (codes "--quiet") (map string_bytes words))

  -- the words give this address, this plan with its store's folder, and this log's folder, if any
  abbrev pub GivesServe : ServeWords → List (String A) → Type 0
  GivesServe serve words = GivesAddress serve.plan.host serve.port (map string_bytes words)
      × GivesPlan (is_some serve.log) serve.plan words
      × GivesStore serve.plan.saves serve.store.now (map string_bytes words)
      × MayHaveText (codes "--log") serve.log (map string_bytes words)

  -- the words give this port, and the numbers of the client, if any, of the first request and of those
  -- that are sent at a time, or the defaults
  abbrev pub GivesAsk : AskWords → List (String A) → Type 0
  GivesAsk ask words = HasInteger (codes "--port") ask.port (map string_bytes words)
      × MayHaveInteger (codes "--client") ask.client (map string_bytes words)
      × HasIntegerOrDefault (codes "--from") 1 ask.from (map string_bytes words)
      × HasIntegerOrDefault (codes "--flush") 1000 ask.flush (map string_bytes words)

  -- this is so of the words behind the second one
  abbrev pub IsOfOptions : (List (String A) → Type 0) → List (String A) → Type 0
  IsOfOptions So [] = ⊥
  IsOfOptions So (name ∷ []) = ⊥
  IsOfOptions So (name ∷ second ∷ options) = So options

  -- the words behind the second one give these values
  abbrev pub GivesValues : Words → List (String A) → Type 0
  GivesValues (Run run) [] = (run.nodes ≡ 1) × (run.workers ≡ 0) × (run.strict ≡ false)
  GivesValues (Run run) (name ∷ []) = (run.nodes ≡ 1) × (run.workers ≡ 0) × (run.strict ≡ false)
  GivesValues (Run run) (name ∷ second ∷ options) = GivesRun run options
  GivesValues Play words = Unit {0}
  GivesValues (Serve serve) words = IsOfOptions (GivesServe serve) words
  GivesValues (Log log) words = IsOfOptions (λ options. GivesLog log (map string_bytes options)) words
  GivesValues (Ask ask) words = IsOfOptions (GivesAsk ask) words
  GivesValues (Checkpoint checkpoint) words =
      IsOfOptions (λ options. GivesCheckpoint checkpoint (map string_bytes options)) words
