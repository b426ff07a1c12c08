-- Runs, and those that refuse an input whose last line doesn't end with a line feed.
use Rattle.std.specs.Prelude.{◌≡◌, ℕ, Option, Bool, true, ◌||◌, ◌==◌, List, [], ◌∷◌, length, nat_eq}
use Rattle.std.specs.List.{ends_with}
use Rattle.std.specs.Io.KnownBytes.{Keeps}
use Rattle.bank_server.specs.Faults.{LeavesOutput, LosesWorkers, StraysAmong}
use Rattle.bank_server.specs.declared.fault.RunFault.{RunFault}
use Rattle.bank_program.specs.declared.fault.ProgramFault.{ProgramFault}
use Rattle.bank_program.specs.declared.fault.ProgramFault.TheVariants.{Run, UnendedLine}
use Rattle.program_words.specs.declared.words.run.RunWords.{RunWords}

-- each line of the text ends with a line feed
abbrev pub is_whole : List ℕ → Bool
is_whole text = length text == 0 || ends_with nat_eq text (10 ∷ [])

-- a fault of a run is such a one; or a line doesn't end, and that is no fault of a run
abbrev pub IsStrictFault : (RunFault → Type 0) → ProgramFault → Type 0
IsStrictFault IsSuch (Run fault) = IsSuch fault
IsStrictFault IsSuch UnendedLine = Unit {0}
IsStrictFault IsSuch other = ⊥

-- a run by these words may end so: only a follower strays, and the crew is gone only if there are workers
abbrev pub MayEndRun : RunWords → RunFault → Type 0
MayEndRun words fault = StraysAmong words.nodes fault × LosesWorkers words.workers fault

-- the same for the program that runs: only a strict run minds how the last line ends
abbrev pub IsRunProgramFault : RunWords → ProgramFault → Type 0
IsRunProgramFault words UnendedLine = words.strict ≡ true
IsRunProgramFault words fault = IsStrictFault (MayEndRun words) fault

-- unless a device failed, nothing was written
abbrev pub LeavesStrictOutput : ProgramFault → Option (List ℕ) → Option (List ℕ) → Type 0
LeavesStrictOutput (Run fault) old new = LeavesOutput fault old new
LeavesStrictOutput other old new = Keeps old new
