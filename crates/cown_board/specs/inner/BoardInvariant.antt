-- The invariant of a board, whatever is submitted, taken and finished.
use Rattle.std.specs.Prelude.{◌≡◌, ℕ, ◌<◌, ◌≤◌, ◌+◌, ◌-◌, ℤ, pos, Bool, true, false, ◌&&◌, Option, Some, IfSome, List, length, get_or, take, slice_get, option_map, count_by}
use Rattle.std.specs.VecDeque.{deque_capacity}
use Rattle.sb_rows.specs.Balances.{Balances}
use Rattle.sb_calls.specs.Cowns.{IsContents, contents_of}
use Rattle.sb_calls.specs.SerialRun.{is_among, contents_after_first, reply_of}
use Rattle.sb_calls.specs.declared.reply.Reply.{Reply}
use Rattle.sb_calls.specs.declared.call.TheConstants.{LOG_CALLS}
use Rattle.cown_queue.specs.Queues.{list_of}
use Rattle.cown_board.specs.inner.DuePositions.{AreDue}
use Rattle.cown_board.specs.inner.Fronts.{behind_of}
use Rattle.cown_board.specs.inner.Links.{IsUnlinked}
use Rattle.cown_board.specs.Positions.{positions}
use Rattle.cown_board.specs.Readiness.{touched_by, conflict_at}
use Rattle.cown_board.specs.State.{is_unfinished, unfinished_at}
use Rattle.cown_board.specs.inner.StateTests.{waiting_at}
use Rattle.cown_board.specs.declared.board.TheConstants.{OPEN_BEHAVIOURS}
use Rattle.cown_board.specs.declared.cut.Cut.{Cut}
use Rattle.cown_board.specs.declared.links.Links.{Links}
use Rattle.cown_board.specs.declared.state.State.{State}
use Rattle.cown_board.specs.declared.state.State.TheVariants.{Finished}

-- the inside of a board: what its callers see, the columns as they are now, the count of
-- numbers before it, the links between behaviours, the number of unfinished ones, and the cut
pub record BoardInside (B : Type 0) : Type 0 where
  pub opening : Balances
  pub now : Balances
  pub base : ℕ
  pub base_replies : List Reply
  pub log : List B
  pub states : List State
  pub links : Links
  pub unfinished : ℕ
  pub cut : Option Cut

module _ {B : Type 0} (touches : B → List ℕ) (effect : B → List ℤ → Reply × List ℤ) where
  -- the behaviour at a position declares a cown
  abbrev pub touches_at : List B → ℕ → ℕ → Bool
  touches_at log cown k = is_among cown (touched_by touches (slice_get log k))

  -- a cown is finished up to k: of the behaviours that declare it, exactly those before k are
  -- finished
  pub record IsFinishedUpTo (log : List B) (states : List State) (cown k : ℕ) : Type 0 where
    pub before : (j : ℕ) → j < k → touches_at log cown j ≡ true → unfinished_at states j ≡ false
    pub after : (j : ℕ) → k ≤ j → touches_at log cown j ≡ true → unfinished_at states j ≡ true

  -- what the cowns contain agrees with the log run one by one
  pub record AgreesWithLog (opening : List ℤ) (log : List B) (states : List State) (held : List ℤ) : Type 0 where
    pub same_length : length log ≡ length states
    pub cown_count : length held ≡ length opening
    pub opened : IsContents opening
    pub in_range : (k cown : ℕ) → touches_at log cown k ≡ true → cown < length opening
    -- if two behaviours share a cown, the later one waits until the first one is finished
    pub ordered : (j k : ℕ) → j < k → k < length log → unfinished_at states j ≡ true
        → conflict_at touches log j k ≡ true → waiting_at states k ≡ true
    -- a cown that is finished up to k contains what the first k behaviours leave
    pub finished_up_to : (cown k : ℕ) → k ≤ length log → IsFinishedUpTo log states cown k
        → get_or held cown (pos 0) ≡ get_or (contents_after_first touches effect opening log k) cown (pos 0)
    pub replies : (k : ℕ) (reply : Reply) → slice_get states k ≡ Some (Finished reply)
        → option_map (reply_of touches effect (contents_after_first touches effect opening log k)) (slice_get log k)
        ≡ Some reply

  -- the behaviour at a position is unfinished and declares a cown
  abbrev pub is_queued : List B → List State → ℕ → ℕ → Bool
  is_queued log states cown k = unfinished_at states k && touches_at log cown k

  -- each cown's queue has the positions of the unfinished behaviours that declare it, in order
  pub record AreQueues (log : List B) (states : List State) (lists : List (List ℕ)) (cowns : ℕ) : Type 0 where
    pub one_each : length lists ≡ cowns
    pub each : (cown : ℕ) → cown < cowns → list_of lists cown ≡ positions (is_queued log states cown) (length log)

  -- each waiting behaviour has its count of cowns at which it isn't in front, and those in front at
  -- all their cowns are listed
  pub record AreCounts (log : List B) (states : List State) (lists : List (List ℕ))
      (behind ready : List ℕ) : Type 0 where
    pub same_length : length behind ≡ length log
    pub counted : (k : ℕ) → waiting_at states k ≡ true → get_or behind k 0 ≡ behind_of touches log lists k
    pub listed : AreDue (waiting_at states) behind (length log) ready

  -- the behaviours of a log declare only cowns that exist
  abbrev pub AreCowns : ℕ → List B → Type 0
  AreCowns cowns log = (k cown : ℕ) → touches_at log cown k ≡ true → cown < cowns

  -- all unfinished behaviours are linked
  pub record IsLinked (log : List B) (states : List State) (cowns : ℕ) (links : Links) : Type 0 where
    pub queues : AreQueues log states links.queues.lists cowns
    pub counts : AreCounts log states links.queues.lists links.ready.behind.items links.ready.ready.items

  -- this many behaviours are unfinished; if nothing is linked, they are the last ones of the log
  pub record AreLinks (log : List B) (states : List State) (unfinished cowns : ℕ) (links : Links) : Type 0 where
    pub linked : links.linked ≡ true → IsLinked log states cowns links
    pub unlinked : links.linked ≡ false
        → (unfinished ≤ length log) × IsUnlinked (length log) states (length log - unfinished) cowns links
    -- a finish may make up to three more behaviours ready
    pub room : 0 < unfinished → unfinished + 3 ≤ deque_capacity links.ready.ready

  -- a cut has what the board would contain if it had taken only the numbers up to the cut
  pub record IsCut (opening : List ℤ) (base : ℕ) (log : List B) (states : List State) (cut : Cut) : Type 0 where
    pub after : base ≤ cut.number
    pub within : cut.number ≤ base + length log
    pub keeps : AgreesWithLog opening (take (cut.number - base) log)
        (take (cut.number - base) states) (contents_of cut.columns)
    pub unfinished : cut.unfinished ≡ count_by is_unfinished (take (cut.number - base) states)

  -- everything that a board keeps
  pub record IsBoard (inside : BoardInside B) : Type 0 where
    pub base_length : length inside.base_replies ≡ inside.base
    pub keeps : AgreesWithLog (contents_of inside.opening) inside.log inside.states (contents_of inside.now)
    pub links : AreLinks inside.log inside.states inside.unfinished (length (contents_of inside.opening)) inside.links
    pub unfinished : inside.unfinished ≡ count_by is_unfinished inside.states
    pub unfinished_limit : inside.unfinished ≤ OPEN_BEHAVIOURS
    pub length_limit : length inside.base_replies + length inside.log ≤ LOG_CALLS
    pub cut : IfSome inside.cut (IsCut (contents_of inside.opening) inside.base inside.log inside.states)
